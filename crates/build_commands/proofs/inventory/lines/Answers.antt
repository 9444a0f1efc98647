use Rattle.std.proofs.Common.{ℕ, Option, take, sym, ap, ◌∙◌}
use Rattle.build_commands.specs.Inventory.{name_line}
use Rattle.build_commands.specs.Noted.{noted_with}
use Rattle.build_commands.specs.declared.inventory.NamedFile.{NamedFile}
use Rattle.build_commands.proofs.Firsts.{next_line, next_first, noted_is, pushed_line}
use Rattle.build_commands.proofs.inventory.lines.Goals as goal

pub loop-file-preserved : goal.loop-file-preserved
loop-file-preserved c =
    let f : NamedFile = c.file-item.result in
    let h = c.loop-file-test.true in
    let i : ℕ = c.loop-file.file-index in
    let first = c.first_noted-first.ensures
    ∙ noted_is c.loop-file.firsts (take i c.args.found.now) c.loop-file.invariant.1 f in
    let line = c.name_line.ensures ∙ ap (λ (o : Option NamedFile). name_line c.args.format o f) first in (
      rw (next_line c.args.format c.args.found.now i f h, sym c.file-item.is)
          (pushed_line _ _ _ c.in_ok-push.ensures.items _ c.loop-file.invariant.0 _ line),
      λ device number. rw (next_first c.args.found.now i f h device number, sym c.file-item.is)
          (c.in_ok-note_first.ensures device number
          ∙ ap (λ (o : Option NamedFile). noted_with f o device number) (c.loop-file.invariant.1 device number)),
    )

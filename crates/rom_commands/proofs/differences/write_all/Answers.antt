use Rattle.std.proofs.Common.{◌≡◌, [], ap, inl, inr, refl, sym, subst, ◌∙◌, List, ℕ}
use Rattle.std.specs.Prelude.{◌⊎◌}
use Rattle.rom_tree.specs.Image.{Image}
use Rattle.image_check.specs.Any.{any_view}
use Rattle.image_compare.specs.Diff.{is_printed, names_lines}
use Rattle.rom_commands.specs.declared.ending.Ending.{Ending}
use Rattle.rom_commands.specs.declared.ending.Ending.TheVariants.{Done, Warned}
use Rattle.rom_commands.specs.Texts.{IsDiff, StopsDiff, printed_ending}
use Rattle.rom_commands.proofs.Closed.{by_printed, nothing, whole_written}
use Rattle.rom_commands.proofs.differences.write_all.Goals as goal

pub returns-in-Ok : goal.returns-in-Ok
returns-in-Ok g c =
    let a : Image = any_view c.args.old.now in
    let b : Image = any_view c.args.new.now in
    let d = c.in-Ok.ensures in
    let P : Ending → Type 0 = λ o. (o ≡ Done) ⊎ (o ≡ Warned) in
    whole_written (IsDiff c.args.places a b) (StopsDiff a b) (g.W.ByteWrite.output c.args.w.now)
    (g.W.ByteWrite.output c.write_diff.new.w) c.printed_ending.result
    (subst P (sym c.printed_ending.ensures) (by_printed c.in-Ok.printed)) (
      names_lines c.args.places a.bytes b.bytes d.old_names d.new_names,
      record {
        old_names = d.old_names;
        new_names = d.new_names;
        old_sorted = d.old_sorted;
        new_sorted = d.new_sorted;
        same = refl;
        ends = c.printed_ending.ensures ∙ ap printed_ending d.lines.2;
      },
      d.lines.0,
      d.lines.1,
    )

pub returns-in-Err-OutOfMemory : goal.returns-in-Err-OutOfMemory
returns-in-Err-OutOfMemory g c =
    let n = nothing (g.W.ByteWrite.output c.args.w.now) (g.W.ByteWrite.output c.write_diff.new.w)
    (rw c.in-Err-OutOfMemory.field-0-is at c.in-Err-OutOfMemory.ensures) in
    ([], (refl, inl refl), n.0, n.1)

pub returns-in-Err-LongPath : goal.returns-in-Err-LongPath
returns-in-Err-LongPath g c =
    let h = rw c.in-Err-LongPath.field-0-is at c.in-Err-LongPath.ensures in
    let n = nothing (g.W.ByteWrite.output c.args.w.now) (g.W.ByteWrite.output c.write_diff.new.w) h.0 in
    ([], (refl, inr (refl, h.1)), n.0, n.1)

pub returns-in-Err-WriteFault : goal.returns-in-Err-WriteFault
returns-in-Err-WriteFault g c =
    let a : Image = any_view c.args.old.now in
    let b : Image = any_view c.args.new.now in
    let d = rw c.in-Err-WriteFault.field-0-is at c.in-Err-WriteFault.ensures in
    let text : List ℕ = names_lines c.args.places a.bytes b.bytes d.old_names d.new_names in (
      text,
      (
        printed_ending (is_printed text),
        record {
          old_names = d.old_names;
          new_names = d.new_names;
          old_sorted = d.old_sorted;
          new_sorted = d.new_sorted;
          same = refl;
          ends = refl;
        },
      ),
      d.lines.0,
      d.lines.1,
    )

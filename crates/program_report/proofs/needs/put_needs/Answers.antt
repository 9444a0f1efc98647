use Rattle.std.proofs.Common.{◌∙◌, ap, subst, arith, List, Option, ℕ, not}
use Rattle.std.proofs.lemmas.List.{take_all}
use Rattle.rom_fields.specs.Texts.{escaped}
use Rattle.rom_fields.specs.Written.{Puts, sink}
use Rattle.rom_tree.specs.Image.{Image}
use Rattle.rom_tree.specs.Walks.{given_path}
use Rattle.path_walk.specs.Components.{is_empty}
use Rattle.program_report.specs.Needs.{missing, need_lines}
use Rattle.program_report.proofs.NeedLines.{many_missing}
use Rattle.program_report.proofs.needs.put_needs.Goals as goal

pub returns-clause-text : goal.returns-clause-text
returns-clause-text g c =
    let m : Image = g.T.Viewed.image c.args.image.now in
    let ns = missing m c.args.needs.now in
    let f = c.loop-index-test.false in
    let P : List (Option (List ℕ)) → Type 0 = λ v. Puts (sink (g.W.ByteWrite.output c.args.w.now) c.args.failed.now)
    (sink (g.W.ByteWrite.output c.loop-index.w) c.loop-index.failed)
    (need_lines (escaped (given_path c.args.walk.now)) v) in
    subst P (take_all c.loop-index.index ns (omega (arith, many_missing m c.args.needs.now, c.count-index-end.ensures)))
    c.loop-index.invariant.puts

pub returns-clause-some : goal.returns-clause-some
returns-clause-some g c =
    let m : Image = g.T.Viewed.image c.args.image.now in
    let ns = missing m c.args.needs.now in
    let f = c.loop-index-test.false in
    c.loop-index.invariant.some
    ∙ ap (λ (v : List (Option (List ℕ))). not (is_empty (need_lines (escaped (given_path c.args.walk.now)) v)))
    (take_all c.loop-index.index ns (omega (arith, many_missing m c.args.needs.now, c.count-index-end.ensures)))

use Rattle.std.proofs.lemmas.Grind.{common_steps}
use Rattle.std.proofs.Common.{◌∙◌, sym, arith}
use Rattle.rom_tree.specs.Image.{Image}
use Rattle.rom_tree.specs.declared.types.Entry.{Entry}
use Rattle.lookups.proofs.Lists.{is_next, is_last}
use Rattle.lookups.proofs.Passed.{passed_more, passed_found, passed_all}
use Rattle.lookups.proofs.front.front_of.Goals as goal

pub returns-in_default : goal.returns-in_default
returns-in_default g c =
    let m : Image = g.T.Viewed.image c.args.image.now in
    passed_all m c.args.d.0 c.entries.cursor.0 c.args.name.now c.entries.i c.entries.invariant
    (is_last m c.args.d.0 c.entries.cursor.0 c.requires c.entries.invariant.cursor c.in_default.ensures)

pub returns-then-is_same : goal.returns-then-is_same
returns-then-is_same g c =
    let m : Image = g.T.Viewed.image c.args.image.now in
    let e : Entry = c.in-Some.entry in
    passed_found m c.args.d.0 c.entries.cursor.0 c.args.name.now c.entries.i e c.entries.invariant
    (is_next m c.args.d.0 c.entries.cursor.0 e c.requires c.entries.invariant.cursor c.in-Some.ensures)
    (sym c.is_same.ensures ∙ c.if-is_same.true)

pub entries-preserved : goal.entries-preserved
entries-preserved g c =
    let m : Image = g.T.Viewed.image c.args.image.now in
    let e : Entry = c.in-Some.entry in
    passed_more m c.args.d.0 c.entries.cursor.0 c.args.name.now c.entries.i e c.entries.invariant
    (is_next m c.args.d.0 c.entries.cursor.0 e c.requires c.entries.invariant.cursor c.in-Some.ensures)
    (sym c.is_same.ensures ∙ c.if-is_same.false)

pub returns : goal.returns
returns c = grind (arith, common_steps)

use Rattle.std.proofs.Common.{◌≡◌, ◌+◌, refl, ap, arith}
use Rattle.rom_tree.specs.Tree.{Node, entries_of}
use Rattle.rom_tree.specs.Image.{Image, IsEntry}
use Rattle.rom_tree.proofs.Named.{directory_by, same_node, some_is}
use Rattle.path_walk.specs.Compared.{entries_until}
use Rattle.path_walk.proofs.Counted.{until_some, until_here, until_next, until_end}
use Rattle.path_walk.proofs.budget.take_entries.Goals as goal

pub loop-entry-init : goal.loop-entry-init
loop-entry-init g c =
    let m : Image = g.T.Viewed.image c.args.image.now in
    let d = directory_by m c.args.directory.0 c.requires in
    record { listed = d.0; node = d.1; index = 0; cursor = m.starts c.args.directory.0; left = refl }

pub entry-requires : goal.entry-requires
entry-requires g c κs =
    let m : Image = g.T.Viewed.image c.args.image.now in
    let i = c.loop-entry.invariant in (
      (refl, tt),
      (c.requires, some_is (m.cursor_index c.args.directory.0 c.loop-entry.cursor.0) i.index i.cursor),
    )

pub returns-then-budget-eq0-clause-too_many : goal.returns-then-budget-eq0-clause-too_many
returns-then-budget-eq0-clause-too_many g c = λ x e.
    let m : Image = g.T.Viewed.image c.args.image.now in
    let name = c.args.name.now in
    let i = c.loop-entry.invariant in
    let k : IsEntry m c.args.directory.0 (entries_of i.listed) i.index c.in-Some.entry.name.now c.in-Some.entry.node.0
    c.in-Some.entry.cursor.0 = c.in-Some.ensures i.listed i.index i.node i.cursor in
    let s = until_some (entries_of i.listed) i.index c.in-Some.entry.name.now name k.target k.at in
    let w : entries_until (entries_of x) name ≡ entries_until (entries_of i.listed) name =
    ap (λ (v : Node). entries_until (entries_of v) name) (same_node m c.args.directory.0 x i.listed e i.node) in
    (c.if-budget-eq0.true, omega (arith, i.left, s, w, c.if-budget-eq0.true))

pub returns-then-eq-clause-taken : goal.returns-then-eq-clause-taken
returns-then-eq-clause-taken g c = λ x e.
    let m : Image = g.T.Viewed.image c.args.image.now in
    let name = c.args.name.now in
    let i = c.loop-entry.invariant in
    let k : IsEntry m c.args.directory.0 (entries_of i.listed) i.index c.in-Some.entry.name.now c.in-Some.entry.node.0
    c.in-Some.entry.cursor.0 = c.in-Some.ensures i.listed i.index i.node i.cursor in
    let s = until_here (entries_of i.listed) i.index c.in-Some.entry.name.now name k.target k.at c.if-eq.ensures in
    let w : entries_until (entries_of x) name ≡ entries_until (entries_of i.listed) name =
    ap (λ (v : Node). entries_until (entries_of v) name) (same_node m c.args.directory.0 x i.listed e i.node) in
    omega (arith, i.left, s, w, c.if-budget-eq0.false)

pub loop-entry-smaller : goal.loop-entry-smaller
loop-entry-smaller g c = omega (arith, c.if-budget-eq0.false)

pub loop-entry-preserved : goal.loop-entry-preserved
loop-entry-preserved g c =
    let m : Image = g.T.Viewed.image c.args.image.now in
    let name = c.args.name.now in
    let i = c.loop-entry.invariant in
    let k : IsEntry m c.args.directory.0 (entries_of i.listed) i.index c.in-Some.entry.name.now c.in-Some.entry.node.0
    c.in-Some.entry.cursor.0 = c.in-Some.ensures i.listed i.index i.node i.cursor in
    let s = until_next (entries_of i.listed) i.index c.in-Some.entry.name.now name k.target k.at c.if-eq.ensures in
    record {
      listed = i.listed;
      node = i.node;
      index = i.index + 1;
      cursor = k.next;
      left = omega (arith, i.left, s, c.if-budget-eq0.false);
    }

pub returns-clause-taken : goal.returns-clause-taken
returns-clause-taken g c = λ x e.
    let m : Image = g.T.Viewed.image c.args.image.now in
    let name = c.args.name.now in
    let i = c.loop-entry.invariant in
    let s = until_end (entries_of i.listed) i.index name (c.in_default.ensures i.listed i.index i.node i.cursor) in
    let w : entries_until (entries_of x) name ≡ entries_until (entries_of i.listed) name =
    ap (λ (v : Node). entries_until (entries_of v) name) (same_node m c.args.directory.0 x i.listed e i.node) in
    omega (arith, i.left, s, w)

use Rattle.std.proofs.Common.{◌≡◌, ◌<◌, ◌+◌, ◌-◌, ℕ, suc, Some, refl, sym, ap, ◌∙◌, arith}
use Rattle.rom_tree.specs.Tree.{Node, entries_of, drop_entries}
use Rattle.rom_tree.specs.Image.{find_entry, IsEntry}
use Rattle.rom_tree.proofs.Nodes.{entry_at-below, find_entry-here, find_entry-next, find_entry-end}
use Rattle.rom_tree.proofs.Named.{directory_by, same_node}
use Rattle.library_tests.specs.SampleLaws.{sample}
use Rattle.library_tests.proofs.Answering.{few}
use Rattle.library_tests.proofs.sample_image.SampleTreeImage.lookup.Goals as goal

pub loop-entry-init : goal.loop-entry-init
loop-entry-init c =
    let d = directory_by sample c.args.d.0 c.requires in record { directory = d.0; node = d.1; rest = refl }

pub returns-then-eq-clause-found : goal.returns-then-eq-clause-found
returns-then-eq-clause-found c = λ x e.
    let i = c.loop-entry.invariant in
    let k : IsEntry sample c.args.d.0 (entries_of i.directory) c.loop-entry.c.0 c.in-Some.entry.name.now
    c.in-Some.entry.node.0 c.in-Some.entry.cursor.0 =
    c.in-Some.ensures i.directory c.loop-entry.c.0 i.node refl in (
      k.target,
      ap (λ (v : Node). find_entry (entries_of v) c.args.name.now) (same_node sample c.args.d.0 x i.directory e i.node)
          ∙ (i.rest ∙ find_entry-here (entries_of i.directory) c.loop-entry.c.0 c.in-Some.entry.name.now c.args.name.now
          k.target k.at c.if-eq.ensures),
      k.number,
    )

after : (c' c : ℕ) → Some c' ≡ Some (c + 1) → c' ≡ suc c
after c' c h = let p : c' ≡ c + 1 = cc in omega (arith, p)

pub loop-entry-smaller : goal.loop-entry-smaller
loop-entry-smaller c =
    let i = c.loop-entry.invariant in
    let k : IsEntry sample c.args.d.0 (entries_of i.directory) c.loop-entry.c.0 c.in-Some.entry.name.now
    c.in-Some.entry.node.0 c.in-Some.entry.cursor.0 = c.in-Some.ensures i.directory c.loop-entry.c.0 i.node refl in
    let b = entry_at-below (entries_of i.directory) c.loop-entry.c.0 c.in-Some.entry.name.now k.target k.at in
    let f = few c.args.d.0 i.directory i.node in
    let n = after c.in-Some.entry.cursor.0 c.loop-entry.c.0 k.next in
    let less : 7 - c.in-Some.entry.cursor.0 < 7 - c.loop-entry.c.0 = omega (arith, b, f, n) in
    less

pub loop-entry-preserved : goal.loop-entry-preserved
loop-entry-preserved c =
    let i = c.loop-entry.invariant in
    let k : IsEntry sample c.args.d.0 (entries_of i.directory) c.loop-entry.c.0 c.in-Some.entry.name.now
    c.in-Some.entry.node.0 c.in-Some.entry.cursor.0 = c.in-Some.ensures i.directory c.loop-entry.c.0 i.node refl in
    record {
      directory = i.directory;
      node = i.node;
      rest = i.rest
          ∙ (find_entry-next (entries_of i.directory) c.loop-entry.c.0 c.in-Some.entry.name.now c.args.name.now k.target
          k.at c.if-eq.ensures
          ∙ ap (λ (v : ℕ). find_entry (drop_entries v (entries_of i.directory)) c.args.name.now)
          (sym (after c.in-Some.entry.cursor.0 c.loop-entry.c.0 k.next)));
    }

pub returns-clause-found : goal.returns-clause-found
returns-clause-found c = λ x e.
    let i = c.loop-entry.invariant in
    ap (λ (v : Node). find_entry (entries_of v) c.args.name.now) (same_node sample c.args.d.0 x i.directory e i.node)
    ∙ (i.rest ∙ find_entry-end (entries_of i.directory) c.loop-entry.c.0 c.args.name.now
    (c.in_default.ensures i.directory c.loop-entry.c.0 i.node refl))

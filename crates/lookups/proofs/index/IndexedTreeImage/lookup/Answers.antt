use Rattle.std.proofs.Common.{◌≡◌, ◌∙◌, List, Option, Some, None, refl, sym, subst}
use Rattle.std.specs.Prelude.{MatchOption}
use Rattle.rom_tree.specs.Tree.{Node, entries_of, ino_of}
use Rattle.rom_tree.specs.declared.types.NodeId.{NodeId}
use Rattle.rom_tree.specs.Image.{Image, find_entry}
use Rattle.lookups.specs.declared.rows.NamedNode.{NamedNode}
use Rattle.lookups.specs.Indices.{IsIndexOf, entries_in, number_of}
use Rattle.lookups.proofs.Kept.{not_err, kept_more}
use Rattle.lookups.proofs.index.IndexedTreeImage.lookup.Goals as goal

found_by : (o : Option Node) (r : Option NodeId) → r ≡ number_of o
    → MatchOption r (o ≡ None) (λ n. (y : Node) × (o ≡ Some y) × (ino_of y ≡ n.0))
found_by None r e = rw e refl
found_by (Some y) r e = rw e (y, refl, refl)

pub invariant_of-self-else-is_err : goal.invariant_of-self-else-is_err
invariant_of-self-else-is_err g c =
    let m : Image = g.T.Viewed.image c.args.self.now.image in
    record {
      right = kept_more (entries_in m) c.args.self.now.indices c.insert.new.self c.args.d.0 c.in-Ok.rows
          c.args.self.now.right c.in-Ok.ensures
          (not_err c.insert.result _ c.insert.ensures.updates c.if-is_err.ensures.value);
    }

pub rows_of-requires : goal.rows_of-requires
rows_of-requires g c κs = ((refl, tt), c.requires)

pub returns-then-is_err-clause-found : goal.returns-then-is_err-clause-found
returns-then-is_err-clause-found g c = λ x h.
    let m : Image = g.T.Viewed.image c.args.self.now.image in
    let P : List NamedNode → Type 0 = IsIndexOf (entries_in m c.args.d.0) in
    let i = subst P (sym c.deref-2.ensures.value) c.in-Ok.ensures in
    let e = c.find-found.ensures i.0 ∙ i.1 c.args.name.now in
    found_by (find_entry (entries_of x) c.args.name.now) c.find-found.result (rw h at e)

pub returns-else-is_err-clause-found : goal.returns-else-is_err-clause-found
returns-else-is_err-clause-found g c = λ x h.
    let m : Image = g.T.Viewed.image c.args.self.now.image in
    let P : List NamedNode → Type 0 = IsIndexOf (entries_in m c.args.d.0) in
    let i = subst P (sym c.deref-2.ensures.value) c.in-Ok.ensures in
    let e = c.find-found.ensures i.0 ∙ i.1 c.args.name.now in
    found_by (find_entry (entries_of x) c.args.name.now) c.find-found.result (rw h at e)

pub returns-in-Some-clause-found : goal.returns-in-Some-clause-found
returns-in-Some-clause-found g c = λ x h.
    let m : Image = g.T.Viewed.image c.args.self.now.image in
    let P : List NamedNode → Type 0 = IsIndexOf (entries_in m c.args.d.0) in
    let kept = c.args.self.now.right c.args.d.0 c.in-Some.rows.now (sym c.in-Some.ensures.value) in
    let i = subst P (sym c.deref.ensures.value) kept in
    let e = c.find.ensures i.0 ∙ i.1 c.args.name.now in
    found_by (find_entry (entries_of x) c.args.name.now) c.find.result (rw h at e)

pub returns-in-Leads-clause-found : goal.returns-in-Leads-clause-found
returns-in-Leads-clause-found g c = λ x h.
    let e = sym c.in-Leads.ensures in
    found_by (find_entry (entries_of x) c.args.name.now) (Some c.in-Leads.node) (rw h at e)

pub returns-in-Absent-clause-found : goal.returns-in-Absent-clause-found
returns-in-Absent-clause-found g c = λ x h.
    let e = sym c.in-Absent.ensures in
    found_by (find_entry (entries_of x) c.args.name.now) None (rw h at e)

pub returns-then-self-clause-found : goal.returns-then-self-clause-found
returns-then-self-clause-found g c = c.lookup.ensures.found

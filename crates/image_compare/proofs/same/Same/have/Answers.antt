use Rattle.std.proofs.Common.{◌≡◌, ◌∙◌, ℕ, List, Bool, Option, IfSome, ap, sym, subst, map}
use Rattle.std.proofs.lemmas.Map.Lookups.{CmpEqualImpliesEq, exact_pairs}
use Rattle.std.specs.Prelude.{slice_index}
use Rattle.std.specs.Str.{bytes_eq}
use Rattle.rom_tree.specs.Tree.{Node, places_of}
use Rattle.rom_tree.specs.Image.{Image, contents_of}
use Rattle.rom_tree.proofs.Named.{node_by}
use Rattle.image_check.specs.Any.{any_view}
use Rattle.image_check.specs.declared.any.Parts.{Parts}
use Rattle.image_info.specs.declared.data.Data.{Data}
use Rattle.image_info.specs.Data.{data_bytes, data_cmp, data_places}
use Rattle.image_info.proofs.Noted.{exact_data, still_right}
use Rattle.image_compare.specs.Same.{both_cmp}
use Rattle.image_compare.proofs.same.Same.have.Goals as goal

exact_both : CmpEqualImpliesEq both_cmp
exact_both a b e = exact_pairs data_cmp data_cmp exact_data exact_data a b e

-- the bytes where they are, those of the nodes
located : (m n : Image) (a b : Parts) (d e : Data) (p q : Node) → places_of p ≡ data_places m.bytes a d
    → places_of q ≡ data_places n.bytes b e
    → bytes_eq (data_bytes m.bytes a d) (data_bytes n.bytes b e)
    ≡ bytes_eq (contents_of m.bytes p) (contents_of n.bytes q)
located m n a b d e p q s t =
    ap (λ (v : List ℕ). bytes_eq (map (λ k. slice_index m.bytes k) v) (data_bytes n.bytes b e)) (sym s)
    ∙ ap (λ (v : List ℕ). bytes_eq (contents_of m.bytes p) (map (λ k. slice_index n.bytes k) v)) (sym t)

pub returns-in-Some-clause-is : goal.returns-in-Some-clause-is
returns-in-Some-clause-is c = λ p q i j.
    let m : Image = any_view c.args.old.now in
    let n : Image = any_view c.args.new.now in
    let a : Parts = c.args.self.now.old_parts in
    let b : Parts = c.args.self.now.new_parts in
    let d : Data = c.data_of.result in
    let e : Data = c.data_of-2.result in
    let P : Option Bool → Type 0 =
    λ v. IfSome v (λ h. h ≡ bytes_eq (data_bytes m.bytes a d) (data_bytes n.bytes b e)) in
    subst P (sym c.in-Some.ensures.value) (c.requires.same.known (d, e))
    ∙ located m n a b d e p q (c.data_of.ensures p i) (c.data_of-2.ensures q j)

pub returns-in-Ok-clause-same : goal.returns-in-Ok-clause-same
returns-in-Ok-clause-same c =
    let m : Image = any_view c.args.old.now in
    let n : Image = any_view c.args.new.now in
    let a : Parts = c.args.self.now.old_parts in
    let b : Parts = c.args.self.now.new_parts in
    let d : Data = c.data_of.result in
    let e : Data = c.data_of-2.result in
    let s = c.requires.same in
    let p = node_by m c.args.x.0 c.requires.old in
    let q = node_by n c.args.y.0 c.requires.new in
    record {
      old = s.old;
      old_tree = s.old_tree;
      new = s.new;
      new_tree = s.new_tree;
      known = still_right both_cmp exact_both
          (λ k h. h ≡ bytes_eq (data_bytes m.bytes a k.0) (data_bytes n.bytes b k.1)) c.args.self.now.known
          c.insert.new.self (d, e) c.have_same_bytes-is_same.result s.known c.in-Ok.ensures.updates
          (c.have_same_bytes-is_same.ensures p.0 q.0 p.1 q.1
          ∙ sym (located m n a b d e p.0 q.0 (c.data_of.ensures p.0 p.1) (c.data_of-2.ensures q.0 q.1)));
    }

-- What a call on an open file, or by a path, gave.
use Rattle.std.proofs.Common.{◌≡◌, ◌≤◌, ℕ, Bool, true, false, List, length, Option, Some, None, Result, Ok, Err, refl}
use Rattle.std.proofs.Common.{sym, ap, subst, ◌∙◌, arith}
use Rattle.std.specs.Prelude.{slice_index}
use Rattle.std.proofs.lemmas.List.{length-map, take_all}
use Rattle.rom_tree.specs.Image.{Image}
use Rattle.rom_tree.specs.Tree.{Node, places_of, is_link}
use Rattle.rom_tree.specs.declared.types.Limits.{Limits}
use Rattle.image_check.specs.Checked.{HasTree}
use Rattle.path_walk.specs.declared.error.WalkError.{WalkError}
use Rattle.path_walk.specs.Resolution.{tree_namespace, resolution}
use Rattle.open_files.specs.Calls.{Answer, Of, Lent}
use Rattle.open_files.specs.Lending.{lent, bytes_of}
use Rattle.open_files.specs.Machine.{Open, Table, Outcome, open_at, after, opened, walked, read_link, lend_on, map_on}
use Rattle.open_files.specs.Machine.{image_calls}
use Rattle.headline.specs.Lent.{IsPieceOf}
use Rattle.headline.proofs.Pieces.{piece, lends, maps}
use Rattle.headline.proofs.Opened.{AreOf, at_of, leads_inside}
use Rattle.headline.proofs.Links.{links}

module _ {R : Type 0} (t : Table Node) where
  after_gives : (fd : ℕ) (x : Node) (o : Outcome R) (r : R) → (after t fd x o).reply ≡ Ok r → (q : ℕ) × (o ≡ Ok (r, q))
  after_gives fd x (Err e) r h = absurd (cc)
  after_gives fd x (Ok a) r h = let same : a.0 ≡ r = cc in (a.1, ap (λ (v : R). Ok (v, a.1)) same)

  opened_gives : (fd : ℕ) (f : Node → ℕ → Outcome R) (o : Option (Open Node)) (r : R) → (opened t fd f o).reply ≡ Ok r
      → (v : Open Node) × (o ≡ Some v) × (q : ℕ) × (f v.place v.position ≡ Ok (r, q))
  opened_gives fd f None r h = absurd (cc)
  opened_gives fd f (Some v) r h = let z = after_gives fd v.place (f v.place v.position) r h in (v, refl, z.0, z.1)

  walked_gives : (f : Node → Answer (Table Node) R) (w : Result Node WalkError) (r : R) → (walked t f w).reply ≡ Ok r
      → (x : Node) × (w ≡ Ok x) × ((f x).reply ≡ Ok r)
  walked_gives f (Err e) r h = absurd (cc)
  walked_gives f (Ok x) r h = (x, refl, h)

link_gives : (b : List ℕ) (t : Table Node) (x : Node) (v : Bool) (r : Of Lent) → (read_link None b t x v).reply ≡ Ok r
    → (v ≡ true) × (lent b (places_of x) ≡ r.1)
link_gives b t x true r h = (refl, let z : (None, lent b (places_of x)) ≡ r = cc in ap (λ (y : Of Lent). y.1) z)
link_gives b t x false r h = absurd (cc)

module _ (m : Image) (t : Table Node) where
  -- from tables whose open places are of the tree
  pub lend_gives : AreOf m t → (fd most : ℕ) (l : Of Lent) → ((image_calls 64 m).lend_piece t fd most).reply ≡ Ok l
      → (o : Open Node) × (open_at t fd ≡ Some o) × IsPieceOf m o.place o.position l.1 × (length l.1.bytes ≤ most)
  lend_gives are fd most l h =
      let g = opened_gives t fd (λ x p. lend_on None m.bytes most x p) (open_at t fd) l h in
      let o = g.0 in
      let z = lends m o.place None l.0 most o.position g.2 l.1 (at_of m t fd o are g.1) g.3 in
      (o, g.1, z.0, z.1)

  pub map_gives : AreOf m t → (fd off len : ℕ) (l : Of Lent) → ((image_calls 64 m).map_piece t fd off len).reply ≡ Ok l
      → (o : Open Node) × (open_at t fd ≡ Some o) × IsPieceOf m o.place off l.1 × (length l.1.bytes ≡ len)
  map_gives are fd off len l h =
      let g = opened_gives t fd (λ x p. map_on None m.bytes off len x p) (open_at t fd) l h in
      let o = g.0 in
      let z = maps m o.place None l.0 off len o.position g.2 l.1 (at_of m t fd o are g.1) g.3 in
      (o, g.1, z.0, z.1)

  -- of any table
  pub readlink_gives : (all : List ℕ) (limits : Limits) → HasTree all limits m.tree → (path : List ℕ) (l : Of Lent)
      → ((image_calls 64 m).readlink t path).reply ≡ Ok l
      → (x : Node) × (resolution (tree_namespace m.bytes m.tree) path false ≡ Ok x)
      × IsPieceOf m x 0 l.1 × (length l.1.bytes ≡ length (places_of x))
  readlink_gives all limits has path l h =
      let r = resolution (tree_namespace m.bytes m.tree) path false in
      let g = walked_gives t (λ x. read_link None m.bytes t x (is_link x)) r l h in
      let x = g.0 in
      let i = leads_inside m path false x g.1 in
      let z = link_gives m.bytes t x (is_link x) l g.2 in
      let ps = places_of x in
      let row = links all limits m x has i z.0 in
      let one = piece m x 0 row.0 ps i (sym (take_all (length ps) ps (omega arith))) row.1 in
      let long : length (bytes_of m.bytes ps) ≡ length ps = length-map ps (λ p. slice_index m.bytes p) in
      (x, g.1, subst (λ (v : Lent). IsPieceOf m x 0 v) z.1 one, ap (λ (v : Lent). length v.bytes) (sym z.1) ∙ long)

-- The walk of is_node: one step over the lists that it has still to read.
use Rattle.std.proofs.Common.{◌≡◌, ◌≢◌, ℕ, suc, ◌+◌, ◌*◌, ◌<◌, ◌≤◌, Bool, true, false, eqb, List, [], ◌∷◌, ◌++◌, length}
use Rattle.std.proofs.Common.{length-append, refl, sym, ap, subst, ◌∙◌, arith, if◌then◌else◌}
use Rattle.std.proofs.lemmas.Bool.{ne_eqb, eq-eqb, false≢true}
use Rattle.std.specs.Prelude.{max}
use Rattle.rom_tree.specs.Tree.{Node, nodes, body_nodes, body_depth, entries_depth, entries_nodes, directory, regular}
use Rattle.rom_tree.specs.Tree.{symlink, block, character, socket, fifo}
use Rattle.romfs_format.specs.Record.{first_of, next_of, name_of, type_of}
use Rattle.romfs_format.specs.Made.{grow, list_at, made, IsRomfs, begins}
use Rattle.record_forest.specs.Forest.{count}
use Rattle.romfs_format.specs.Tree.{kind_numbers, led, node_of, attributes_at, places_at, entries_at, body_named}
use Rattle.rom_tree.specs.Dots.{is_dots}
use Rattle.rom_tree.proofs.ByKind.{by_kind_map, by_kind_directory}
use Rattle.romfs_format.proofs.Trees.{IsList, begins_other, begins_root, root_list}
use Rattle.romfs_format.proofs.Chain.{IsStep, step_of}
use Rattle.romfs_format.proofs.Stack.{below, waits, waits_push, depth_at, below_dot, below_entry, below_end, depth_dot}
use Rattle.romfs_format.proofs.Stack.{depth_entry, AreDeep, deep_push, deep_front, deep_last, weight, weight_push}
use Rattle.rom_tree.proofs.Numbers.{among}

abbrev either : Bool → Bool → Bool
either x y = if x then true else y

either_false : (x : Bool) → either x false ≡ x
either_false true = refl
either_false false = refl

either_true : (x : Bool) → either x true ≡ true
either_true true = refl
either_true false = refl

turn : (x y z : Bool) → either (either x y) z ≡ either x (either z y)
turn true y z = refl
turn false true true = refl
turn false true false = refl
turn false false true = refl
turn false false false = refl

le_max : (x y m : ℕ) → max (suc x) y ≤ m → (suc x ≤ m) × (y ≤ m)
le_max x y m h = (grind (arith), grind (arith))

-- the lists still to be read, v being whether they have what is looked for
pub record Walks (b : List ℕ) (r k n : ℕ) (v : Bool) (qs : List ℕ) : Type 0 where
  pub deep : AreDeep b r k 0 qs
  pub same : waits b k n qs ≡ v

module _ {b : List ℕ} {r k n : ℕ} {v : Bool} {items : List ℕ} (qs : List ℕ) (q : ℕ) (w : Walks b r k n v items)
    (split : items ≡ qs ++ q ∷ []) where
  deep_at : AreDeep b r k 0 (qs ++ q ∷ [])
  deep_at = subst (AreDeep b r k 0) split w.deep

  pub last : IsList b r k q × (depth_at b k q + (0 + length qs) ≤ 64)
  last = deep_last b r k 0 q qs deep_at

  pub step_at : q ≢ 0 → IsStep b r k q
  step_at h = step_of b r k q last.0 h

  front : AreDeep b r k 0 qs
  front = deep_front b r k 0 q qs deep_at

  same_at : either (waits b k n qs) (below b k n q) ≡ v
  same_at = sym (waits_push b k n q qs) ∙ ap (waits b k n) (sym split) ∙ w.same

  weight_is : weight k b items ≡ suc (2 * count (grow k b q)) + weight k b qs
  weight_is = ap (weight k b) split ∙ weight_push k b q qs

  pub walk_zero : q ≡ 0 → Walks b r k n v qs × (weight k b qs < weight k b items)
  walk_zero z =
      let none : below b k n q ≡ false = ap (below b k n) z ∙ below_end b r k n (subst (IsList b r k) z last.0) in
      let u = weight_is in (
        record {
          deep = front;
          same = sym (either_false (waits b k n qs)) ∙ ap (either (waits b k n qs)) (sym none)
              ∙ same_at;
        },
        omega arith,
      )

  pub room : length qs < 65
  room = let l = last.1 in omega arith

  pub room_more : (m : ℕ) (more : List ℕ) → q ≢ 0 → is_dots (name_of b q) ≡ false → more ≡ qs ++ m ∷ []
      → length more < 65
  room_more m more h d e =
      let x = depth_entry b r k q (step_at h) d in
      let l = last.1 in
      let y = le_max (depth_at b k (first_of b q)) (depth_at b k (next_of b q)) (depth_at b k q)
      (rw (← x) (omega arith)) in
      let z : 1 ≤ depth_at b k q = omega (arith, y.0) in
      let a = length-append qs (m ∷ []) in
      rw e (omega arith)

  pub walk_dot : (m : ℕ) (more : List ℕ) → q ≢ 0 → is_dots (name_of b q) ≡ true → m ≡ next_of b q → more ≡ qs ++ m ∷ []
      → Walks b r k n v more × (weight k b more < weight k b items)
  walk_dot m more h d e f =
      let st = step_at h in
      let l = last.1 in
      let x = depth_dot b r k q st d in
      let u = weight_is in
      let z = st.size in
      let c : weight k b more ≡ suc (2 * count (grow k b (next_of b q))) + weight k b qs =
      ap (weight k b) f ∙ weight_push k b m qs ∙ ap (λ (y : ℕ). suc (2 * count (grow k b y)) + weight k b qs) e in (
        record {
          deep = rw f (deep_push b r k 0 m qs front (subst (IsList b r k) (sym e) st.next) (rw e (omega arith)));
          same = ap (waits b k n) f ∙ waits_push b k n m qs ∙ ap (λ (y : ℕ). either (waits b k n qs) (below b k n y)) e
              ∙ ap (either (waits b k n qs)) (sym (below_dot b r k n q st d)) ∙ same_at;
        },
        omega arith,
      )

  pub walk_found : q ≢ 0 → is_dots (name_of b q) ≡ false → led 8 b q ≡ n → v ≡ true
  walk_found h d e =
      let x = below_entry b r k n q (step_at h) d in
      let y : below b k n q ≡ true = x ∙ (rw (eq-eqb (led 8 b q) n e) refl) in
      sym same_at ∙ ap (either (waits b k n qs)) y ∙ either_true (waits b k n qs)

  pub walk_entry : (m f : ℕ) (more all : List ℕ) → q ≢ 0 → is_dots (name_of b q) ≡ false → (led 8 b q ≡ n → ⊥)
      → m ≡ next_of b q → more ≡ qs ++ m ∷ [] → f ≡ begins b r q → all ≡ more ++ f ∷ []
      → Walks b r k n v all × (weight k b all < weight k b items)
  walk_entry m f more all h d o em e ef g =
      let st = step_at h in
      let first : f ≡ first_of b q = ef ∙ begins_other b r q st.good.other in
      let l = last.1 in
      let x = depth_entry b r k q st d in
      let y = le_max (depth_at b k (first_of b q)) (depth_at b k (next_of b q)) (depth_at b k q)
      (rw (← x) (omega arith)) in
      let u = weight_is in
      let z = st.size in
      let len : length more ≡ length qs + 1 = ap length e ∙ length-append qs (m ∷ []) in
      let deep1 : AreDeep b r k 0 more =
      rw e (deep_push b r k 0 m qs front (subst (IsList b r k) (sym em) st.next) (rw em (omega (arith, y.1)))) in
      let c1 : weight k b more ≡ suc (2 * count (grow k b (next_of b q))) + weight k b qs =
      ap (weight k b) e ∙ weight_push k b m qs ∙ ap (λ (y : ℕ). suc (2 * count (grow k b y)) + weight k b qs) em in
      let c2 : weight k b all ≡ suc (2 * count (grow k b (first_of b q))) + weight k b more =
      ap (weight k b) g ∙ weight_push k b f more
      ∙ ap (λ (y : ℕ). suc (2 * count (grow k b y)) + weight k b more) first in
      let s1 : waits b k n more ≡ either (waits b k n qs) (below b k n (next_of b q)) =
      ap (waits b k n) e ∙ waits_push b k n m qs ∙ ap (λ (y : ℕ). either (waits b k n qs) (below b k n y)) em in
      let s2 : waits b k n all ≡ either (waits b k n more) (below b k n (first_of b q)) =
      ap (waits b k n) g ∙ waits_push b k n f more
      ∙ ap (λ (y : ℕ). either (waits b k n more) (below b k n y)) first in
      let t : below b k n q ≡ either (below b k n (first_of b q)) (below b k n (next_of b q)) =
      below_entry b r k n q st d ∙ (rw (ne_eqb (led 8 b q) n o) refl) in (
        record {
          deep = rw g (deep_push b r k 0 f more deep1 (subst (IsList b r k) (sym first) st.first)
              (rw (first, len) (omega (arith, y.0))));
          same = s2 ∙ ap (λ (y : Bool). either y (below b k n (first_of b q))) s1
              ∙ turn (waits b k n qs) (below b k n (next_of b q)) (below b k n (first_of b q))
              ∙ ap (either (waits b k n qs)) (sym t) ∙ same_at;
        },
        omega arith,
      )

-- all nodes are the root and those below it
root_among : (b : List ℕ) (r k n : ℕ) → IsRomfs b r k
    → among n (nodes (made b r k r)) ≡ (if eqb r n then true else below b k n (begins b r r))
unfolding made node_of attributes_at below list_at
root_among b r k n s =
    let es = entries_at b (grow k b (begins b r r)) in
    let m = by_kind_map body_nodes kind_numbers (type_of b r) (directory es) (regular (places_at b r))
    (symlink (places_at b r)) block character socket fifo in
    let e : body_nodes (body_named (type_of b r) (places_at b r) es) ≡ entries_nodes es =
    m ∙ by_kind_directory kind_numbers (type_of b r) (entries_nodes es) [] [] [] [] [] [] s.directory in
    ap (λ (xs : List Node). if eqb r n then true else among n xs) e

root_depth : (b : List ℕ) (r k : ℕ) → IsRomfs b r k → depth_at b k (begins b r r) ≤ 64
unfolding made node_of depth_at list_at
root_depth b r k s =
    let es = entries_at b (grow k b (begins b r r)) in
    let m = by_kind_map body_depth kind_numbers (type_of b r) (directory es) (regular (places_at b r))
    (symlink (places_at b r)) block character socket fifo in
    let e : body_depth (body_named (type_of b r) (places_at b r) es) ≡ entries_depth es =
    m ∙ by_kind_directory kind_numbers (type_of b r) (entries_depth es) 0 0 0 0 0 0 s.directory in
    let l : body_depth (body_named (type_of b r) (places_at b r) es) ≤ 64 = s.shallow in
    subst (λ (x : ℕ). x ≤ 64) e l

pub is_root : (b : List ℕ) (r k n : ℕ) → IsRomfs b r k → n ≡ r → true ≡ among n (nodes (made b r k r))
is_root b r k n s e = sym (root_among b r k n s ∙ (rw (eq-eqb r n (sym e)) refl))

pub walk_start : (b : List ℕ) (r k n q : ℕ) (none items : List ℕ) → IsRomfs b r k → (n ≡ r → ⊥) → none ≡ []
    → q ≡ begins b r r → items ≡ none ++ q ∷ [] → Walks b r k n (among n (nodes (made b r k r))) items
walk_start b r k n q none items s o z e f =
    let l : IsList b r k q = subst (IsList b r k) (sym (e ∙ begins_root b r)) (root_list s) in
    let d : depth_at b k q ≤ 64 = rw e (root_depth b r k s) in
    let g : items ≡ q ∷ [] = f ∙ ap (λ (x : List ℕ). x ++ q ∷ []) z in
    let t : among n (nodes (made b r k r)) ≡ below b k n q =
    root_among b r k n s ∙ (rw (ne_eqb r n (λ m. o (sym m))) (ap (below b k n) (sym e))) in
    rw g (record { deep = (l, omega arith, tt); same = waits_push b k n q [] ∙ sym t })

pub none_left : (b : List ℕ) (k n : ℕ) (items : List ℕ) → (0 < length items → false ≡ true) → false ≡ waits b k n items
none_left b k n [] h = refl
none_left b k n (x ∷ xs) h = absurd (false≢true (h (omega arith)))

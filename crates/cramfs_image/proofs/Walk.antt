-- The walk of is_node: one step over the lists that it has still to read.
use Rattle.std.proofs.Common.{◌≡◌, ℕ, suc, ◌+◌, ◌*◌, ◌<◌, ◌≤◌, Bool, true, false, eqb, List, [], ◌∷◌, ◌++◌, length}
use Rattle.std.proofs.Common.{length-append, refl, sym, ap, subst, ◌∙◌, arith, if◌then◌else◌}
use Rattle.std.proofs.lemmas.Bool.{ne_eqb, eq-eqb, false≢true}
use Rattle.std.specs.Prelude.{max}
use Rattle.rom_tree.specs.Tree.{Node, nodes, body_nodes, body_depth, entries_depth, entries_nodes, directory, regular}
use Rattle.rom_tree.specs.Tree.{symlink, block, character, socket, fifo}
use Rattle.cramfs_format.specs.declared.order.Order.{Order}
use Rattle.cramfs_format.specs.Inode.{type_of, end_of, list_start, list_end}
use Rattle.cramfs_format.specs.Refers.{root_place}
use Rattle.cramfs_format.specs.Made.{grow, list_at, made, IsCramfs}
use Rattle.record_forest.specs.Forest.{count}
use Rattle.cramfs_format.specs.Tree.{kind_numbers, node_of, attributes_at, places_at, entries_at, body_named}
use Rattle.rom_tree.proofs.ByKind.{by_kind_map, by_kind_directory}
use Rattle.cramfs_format.proofs.Trees.{IsList, root_list}
use Rattle.cramfs_format.proofs.Chain.{IsStep, step_of}
use Rattle.cramfs_format.proofs.Stack.{below, waits, waits_push, depth_at, below_entry, below_end, depth_entry, AreDeep}
use Rattle.cramfs_format.proofs.Stack.{deep_push, deep_front, deep_last, weight, weight_push}
use Rattle.rom_tree.proofs.Numbers.{among}

abbrev either : Bool → Bool → Bool
either x y = if x then true else y

either_false : (x : Bool) → either x false ≡ x
either_false true = refl
either_false false = refl

either_true : (x : Bool) → either x true ≡ true
either_true true = refl
either_true false = refl

turn : (x y z : Bool) → either (either x y) z ≡ either x (either z y)
turn true y z = refl
turn false true true = refl
turn false true false = refl
turn false false true = refl
turn false false false = refl

le_max : (x y m : ℕ) → max (suc x) y ≤ m → (suc x ≤ m) × (y ≤ m)
le_max x y m h = (grind (arith), grind (arith))

-- the lists still to be read, v being whether they have what is looked for
pub record Walks (o : Order) (b : List ℕ) (k n : ℕ) (v : Bool) (xs : List (ℕ × ℕ)) : Type 0 where
  pub deep : AreDeep o b k 0 xs
  pub same : waits o b k n xs ≡ v

module _ {o : Order} {b : List ℕ} {k n : ℕ} {v : Bool} {items : List (ℕ × ℕ)} (xs : List (ℕ × ℕ)) (x : ℕ × ℕ)
    (w : Walks o b k n v items) (split : items ≡ xs ++ x ∷ []) where
  deep_at : AreDeep o b k 0 (xs ++ x ∷ [])
  deep_at = subst (AreDeep o b k 0) split w.deep

  pub last : IsList o b k x.1 x.0 × (depth_at o b k x.1 x.0 + (0 + length xs) ≤ 64)
  last = deep_last o b k 0 x xs deep_at

  pub step_at : x.0 < x.1 → IsStep o b k x.1 x.0
  step_at h = step_of o b k x.1 x.0 last.0 h

  front : AreDeep o b k 0 xs
  front = deep_front o b k 0 x xs deep_at

  same_at : either (waits o b k n xs) (below o b k n x.1 x.0) ≡ v
  same_at = sym (waits_push o b k n x xs) ∙ ap (waits o b k n) (sym split) ∙ w.same

  weight_is : weight k o b items ≡ suc (2 * count (grow k o b x.1 x.0)) + weight k o b xs
  weight_is = ap (weight k o b) split ∙ weight_push k o b x xs

  pub walk_end : x.1 ≤ x.0 → Walks o b k n v xs × (weight k o b xs < weight k o b items)
  walk_end z =
      let u = weight_is in (
        record {
          deep = front;
          same = sym (either_false (waits o b k n xs))
              ∙ ap (either (waits o b k n xs)) (sym (below_end o b k n x.1 x.0 z)) ∙ same_at;
        },
        omega arith,
      )

  pub room : length xs < 65
  room = let l = last.1 in omega arith

  pub room_more : (y : ℕ × ℕ) (more : List (ℕ × ℕ)) → x.0 < x.1 → more ≡ xs ++ y ∷ [] → length more < 65
  room_more y more h e =
      let d = depth_entry o b k x.1 x.0 (step_at h) in
      let l = last.1 in
      let m = le_max (depth_at o b k (list_end o b x.0) (list_start o b x.0)) (depth_at o b k x.1 (end_of o b x.0))
      (depth_at o b k x.1 x.0) (rw (← d) (omega arith)) in
      let z : 1 ≤ depth_at o b k x.1 x.0 = omega (arith, m.0) in
      let a = length-append xs (y ∷ []) in
      rw e (omega arith)

  pub walk_found : x.0 < x.1 → x.0 ≡ n → v ≡ true
  walk_found h e =
      let y : below o b k n x.1 x.0 ≡ true = below_entry o b k n x.1 x.0 (step_at h) ∙ (rw (eq-eqb x.0 n e) refl) in
      sym same_at ∙ ap (either (waits o b k n xs)) y ∙ either_true (waits o b k n xs)

  pub walk_entry : (y f : ℕ × ℕ) (more all : List (ℕ × ℕ)) → x.0 < x.1 → (x.0 ≡ n → ⊥) → y ≡ (end_of o b x.0, x.1)
      → more ≡ xs ++ y ∷ [] → f ≡ (list_start o b x.0, list_end o b x.0) → all ≡ more ++ f ∷ []
      → Walks o b k n v all × (weight k o b all < weight k o b items)
  walk_entry y f more all h other ey e ef g =
      let st = step_at h in
      let l = last.1 in
      let d = depth_entry o b k x.1 x.0 st in
      let m = le_max (depth_at o b k (list_end o b x.0) (list_start o b x.0)) (depth_at o b k x.1 (end_of o b x.0))
      (depth_at o b k x.1 x.0) (rw (← d) (omega arith)) in
      let u = weight_is in
      let z = st.size in
      let P : ℕ × ℕ = (end_of o b x.0, x.1) in
      let F : ℕ × ℕ = (list_start o b x.0, list_end o b x.0) in
      let e' : more ≡ xs ++ P ∷ [] = e ∙ ap (λ (p : ℕ × ℕ). xs ++ p ∷ []) ey in
      let g' : all ≡ more ++ F ∷ [] = g ∙ ap (λ (p : ℕ × ℕ). more ++ p ∷ []) ef in
      let len : length more ≡ length xs + 1 = ap length e' ∙ length-append xs (P ∷ []) in
      let deep1 : AreDeep o b k 0 more =
      subst (AreDeep o b k 0) (sym e') (deep_push o b k 0 P xs front st.next (omega (arith, m.1))) in
      let c1 : weight k o b more ≡ suc (2 * count (grow k o b x.1 (end_of o b x.0))) + weight k o b xs =
      ap (weight k o b) e' ∙ weight_push k o b P xs in
      let c2 : weight k o b all ≡ suc (2 * count (grow k o b (list_end o b x.0) (list_start o b x.0)))
      + weight k o b more = ap (weight k o b) g' ∙ weight_push k o b F more in
      let s1 : waits o b k n more ≡ either (waits o b k n xs) (below o b k n x.1 (end_of o b x.0)) =
      ap (waits o b k n) e' ∙ waits_push o b k n P xs in
      let s2 : waits o b k n all ≡ either (waits o b k n more) (below o b k n (list_end o b x.0) (list_start o b x.0)) =
      ap (waits o b k n) g' ∙ waits_push o b k n F more in
      let t : below o b k n x.1 x.0 ≡ either (below o b k n (list_end o b x.0) (list_start o b x.0))
      (below o b k n x.1 (end_of o b x.0)) =
      below_entry o b k n x.1 x.0 st ∙ (rw (ne_eqb x.0 n other) refl) in (
        record {
          deep = subst (AreDeep o b k 0) (sym g') (deep_push o b k 0 F more deep1 st.own (rw len (omega (arith, m.0))));
          same = s2 ∙ ap (λ (p : Bool). either p (below o b k n (list_end o b x.0) (list_start o b x.0))) s1
              ∙ turn (waits o b k n xs) (below o b k n x.1 (end_of o b x.0))
              (below o b k n (list_end o b x.0) (list_start o b x.0)) ∙ ap (either (waits o b k n xs)) (sym t)
              ∙ same_at;
        },
        omega arith,
      )

-- all nodes are the root and those below it
root_among : (o : Order) (b : List ℕ) (k n : ℕ) → IsCramfs o b k
    → among n (nodes (made o b k root_place))
    ≡ (if eqb root_place n then true else below o b k n (list_end o b root_place) (list_start o b root_place))
unfolding made node_of attributes_at below list_at
root_among o b k n s =
    let es = entries_at o b (grow k o b (list_end o b root_place) (list_start o b root_place)) in
    let t = type_of o b root_place in
    let ps = places_at o b root_place in
    let m = by_kind_map body_nodes kind_numbers t (directory es) (regular ps)
    (symlink ps) block character socket fifo in
    let e : body_nodes (body_named t ps es) ≡ entries_nodes es =
    m ∙ by_kind_directory kind_numbers t (entries_nodes es) [] [] [] [] [] [] s.directory in
    ap (λ (xs : List Node). if eqb root_place n then true else among n xs) e

root_depth : (o : Order) (b : List ℕ) (k : ℕ) → IsCramfs o b k
    → depth_at o b k (list_end o b root_place) (list_start o b root_place) ≤ 64
unfolding made node_of depth_at list_at
root_depth o b k s =
    let es = entries_at o b (grow k o b (list_end o b root_place) (list_start o b root_place)) in
    let t = type_of o b root_place in
    let ps = places_at o b root_place in
    let m = by_kind_map body_depth kind_numbers t (directory es) (regular ps)
    (symlink ps) block character socket fifo in
    let e : body_depth (body_named t ps es) ≡ entries_depth es =
    m ∙ by_kind_directory kind_numbers t (entries_depth es) 0 0 0 0 0 0 s.directory in
    let l : body_depth (body_named t ps es) ≤ 64 = s.shallow in
    subst (λ (x : ℕ). x ≤ 64) e l

pub is_root : (o : Order) (b : List ℕ) (k n : ℕ) → IsCramfs o b k → n ≡ root_place
    → true ≡ among n (nodes (made o b k root_place))
is_root o b k n s e = sym (root_among o b k n s ∙ (rw (eq-eqb root_place n (sym e)) refl))

pub walk_start : (o : Order) (b : List ℕ) (k n : ℕ) (x : ℕ × ℕ) (none items : List (ℕ × ℕ)) → IsCramfs o b k
    → (n ≡ root_place → ⊥) → none ≡ [] → x ≡ (list_start o b root_place, list_end o b root_place)
    → items ≡ none ++ x ∷ []
    → Walks o b k n (among n (nodes (made o b k root_place))) items
walk_start o b k n x none items s other z e f =
    let F : ℕ × ℕ = (list_start o b root_place, list_end o b root_place) in
    let d = root_depth o b k s in
    let g : items ≡ F ∷ [] = f ∙ ap (λ (xs : List (ℕ × ℕ)). xs ++ x ∷ []) z ∙ ap (λ (p : ℕ × ℕ). p ∷ []) e in
    let t : among n (nodes (made o b k root_place))
    ≡ below o b k n (list_end o b root_place) (list_start o b root_place) =
    root_among o b k n s ∙ (rw (ne_eqb root_place n (λ m. other (sym m))) refl) in
    subst (Walks o b k n (among n (nodes (made o b k root_place)))) (sym g)
    (record { deep = (root_list s, omega arith, tt); same = waits_push o b k n F [] ∙ sym t })

pub none_left : (o : Order) (b : List ℕ) (k n : ℕ) (items : List (ℕ × ℕ)) → (0 < length items → false ≡ true)
    → false ≡ waits o b k n items
none_left o b k n [] h = refl
none_left o b k n (x ∷ xs) h = absurd (false≢true (h (omega arith)))

-- The lists that a walk through a tree has still to read: each is the offset of its next record, and its end.
use Rattle.std.proofs.Common.{◌≡◌, ℕ, suc, ◌+◌, ◌*◌, ◌≤◌, Bool, true, false, eqb, List, [], ◌∷◌, ◌++◌, length, inl, inr}
use Rattle.std.proofs.Common.{refl, sym, ap, ◌∙◌, arith, if◌then◌else◌}
use Rattle.std.proofs.lemmas.Bool.Decides.{eqb_tells}
use Rattle.std.specs.Prelude.{max}
use Rattle.rom_tree.specs.Tree.{Body, directory, regular, symlink, block, character, socket, fifo, Entries, no_entries}
use Rattle.rom_tree.specs.Tree.{nodes, body_nodes, entries_nodes, entries_depth, body_depth}
use Rattle.record_forest.specs.Forest.{none, count}
use Rattle.cramfs_format.specs.declared.order.Order.{Order}
use Rattle.cramfs_format.specs.Inode.{type_of, end_of, list_start, list_end}
use Rattle.cramfs_format.specs.Tree.{kind_numbers, node_of, entries_at, body_named, places_at, attributes_at}
use Rattle.cramfs_format.specs.Made.{grow}
use Rattle.cramfs_format.proofs.Lists.{other_list}
use Rattle.rom_tree.proofs.Numbers.{among, among_append}
use Rattle.rom_tree.proofs.ByKind.{by_kind_map, by_kind_directory, by_kind_rest}
use Rattle.cramfs_format.proofs.Trees.{IsList}
use Rattle.cramfs_format.proofs.Chain.{IsStep, list_done}

-- whether a node of the list from q to e has the number
unfoldable pub below : Order → List ℕ → ℕ → ℕ → ℕ → ℕ → Bool
below o b k n e q = among n (entries_nodes (entries_at o b (grow k o b e q)))

-- whether one of the lists has such a node
abbrev pub waits : Order → List ℕ → ℕ → ℕ → List (ℕ × ℕ) → Bool
waits o b k n [] = false
waits o b k n (x ∷ xs) = if below o b k n x.1 x.0 then true else waits o b k n xs

abbrev either : Bool → Bool → Bool
either x y = if x then true else y

pub waits_push : (o : Order) (b : List ℕ) (k n : ℕ) (y : ℕ × ℕ) (xs : List (ℕ × ℕ))
    → waits o b k n (xs ++ y ∷ []) ≡ either (waits o b k n xs) (below o b k n y.1 y.0)
waits_push o b k n y [] =
    elim (below o b k n y.1 y.0) as (λ v. (if v then true else false) ≡ v) [ true ↦ refl | false ↦ refl ]
waits_push o b k n y (x ∷ xs) = elim (below o b k n x.1 x.0) as
    (λ v. (if v then true else waits o b k n (xs ++ y ∷ []))
    ≡ either (if v then true else waits o b k n xs) (below o b k n y.1 y.0)) [
      | true ↦ refl
      | false ↦ waits_push o b k n y xs
    ]

-- how many names lead down from the list
unfoldable pub depth_at : Order → List ℕ → ℕ → ℕ → ℕ → ℕ
depth_at o b k e q = entries_depth (entries_at o b (grow k o b e q))

-- what goes by the entries of a node goes by the list of its record
by_list : {A : Type 0} (f : Body → A) (g : Entries → A) (o : Order) (b : List ℕ) (k q : ℕ) (ps : List ℕ)
    → ((es : Entries) → f (directory es) ≡ g es)
    → f (regular ps) ≡ g no_entries → f (symlink ps) ≡ g no_entries → f block ≡ g no_entries
    → f character ≡ g no_entries → f socket ≡ g no_entries → f fifo ≡ g no_entries
    → f (body_named (type_of o b q) ps (entries_at o b (grow k o b (list_end o b q) (list_start o b q))))
    ≡ g (entries_at o b (grow k o b (list_end o b q) (list_start o b q)))
by_list f g o b k q ps h h2 h3 h4 h5 h6 h7 =
    let t = type_of o b q in
    let es = entries_at o b (grow k o b (list_end o b q) (list_start o b q)) in
    let m = by_kind_map f kind_numbers t (directory es) (regular ps) (symlink ps) block character socket fifo in
    elim (eqb_tells t 4) [
      | inl i ↦ m ∙ by_kind_directory kind_numbers t (f (directory es)) (f (regular ps)) (f (symlink ps)) (f block)
          (f character) (f socket) (f fifo) i.1 ∙ h es
      | inr i ↦
          let z = other_list o b q i.1 in
          let end : grow k o b (list_end o b q) (list_start o b q) ≡ none =
          list_done k o b (list_end o b q) (list_start o b q) (omega arith) in
          let e : es ≡ no_entries = ap (entries_at o b) end in
          m ∙ (rw (h2, h3, h4, h5, h6, h7) (by_kind_rest kind_numbers t (f (directory es)) (g no_entries) i.1))
          ∙ ap g (sym e)
    ]

-- one record further
pub below_entry : (o : Order) (b : List ℕ) (k n e q : ℕ) → IsStep o b k e q
    → below o b k n e q ≡ either (if eqb q n then true else below o b k n (list_end o b q) (list_start o b q))
    (below o b k n e (end_of o b q))
unfolding below node_of attributes_at
below_entry o b k n e q st =
    let es = entries_at o b (grow k o b (list_end o b q) (list_start o b q)) in
    let own : among n (body_nodes (body_named (type_of o b q) (places_at o b q) es)) ≡ among n (entries_nodes es) =
    by_list (λ c. among n (body_nodes c)) (λ x. among n (entries_nodes x)) o b k q (places_at o b q)
    (λ x. refl) refl refl refl refl refl refl in
    rw (st.is) (among_append n (nodes (node_of o b q es)) (entries_nodes (entries_at o b (grow k o b e (end_of o b q))))
    ∙ ap (λ (v : Bool). either (if eqb q n then true else v)
    (among n (entries_nodes (entries_at o b (grow k o b e (end_of o b q)))))) own)

pub depth_entry : (o : Order) (b : List ℕ) (k e q : ℕ) → IsStep o b k e q
    → depth_at o b k e q ≡ max (suc (depth_at o b k (list_end o b q) (list_start o b q)))
    (depth_at o b k e (end_of o b q))
unfolding depth_at node_of
depth_entry o b k e q st =
    let es = entries_at o b (grow k o b (list_end o b q) (list_start o b q)) in
    let own : body_depth (body_named (type_of o b q) (places_at o b q) es) ≡ entries_depth es =
    by_list body_depth entries_depth o b k q (places_at o b q) (λ x. refl) refl refl refl refl refl refl in
    rw (st.is) (ap (λ (v : ℕ). max (suc v) (entries_depth (entries_at o b (grow k o b e (end_of o b q))))) own)

pub below_end : (o : Order) (b : List ℕ) (k n e q : ℕ) → e ≤ q → below o b k n e q ≡ false
unfolding below
below_end o b k n e q l = rw (list_done k o b e q l) refl

-- the lists are in the bytes, the i-th of them not too deep
abbrev pub AreDeep : Order → List ℕ → ℕ → ℕ → List (ℕ × ℕ) → Type 0
AreDeep o b k i [] = Unit {0}
AreDeep o b k i (x ∷ xs) = IsList o b k x.1 x.0 × (depth_at o b k x.1 x.0 + i ≤ 64) × AreDeep o b k (suc i) xs

pub deep_push : (o : Order) (b : List ℕ) (k i : ℕ) (y : ℕ × ℕ) (xs : List (ℕ × ℕ)) → AreDeep o b k i xs
    → IsList o b k y.1 y.0 → depth_at o b k y.1 y.0 + (i + length xs) ≤ 64 → AreDeep o b k i (xs ++ y ∷ [])
deep_push o b k i y [] h l d = (l, omega arith, tt)
deep_push o b k i y (x ∷ xs) h l d = (h.0, h.1, deep_push o b k (suc i) y xs h.2 l (omega arith))

pub deep_front : (o : Order) (b : List ℕ) (k i : ℕ) (y : ℕ × ℕ) (xs : List (ℕ × ℕ)) → AreDeep o b k i (xs ++ y ∷ [])
    → AreDeep o b k i xs
deep_front o b k i y [] h = tt
deep_front o b k i y (x ∷ xs) h = (h.0, h.1, deep_front o b k (suc i) y xs h.2)

pub deep_last : (o : Order) (b : List ℕ) (k i : ℕ) (y : ℕ × ℕ) (xs : List (ℕ × ℕ)) → AreDeep o b k i (xs ++ y ∷ [])
    → IsList o b k y.1 y.0 × (depth_at o b k y.1 y.0 + (i + length xs) ≤ 64)
deep_last o b k i y [] h = (h.0, omega arith)
deep_last o b k i y (x ∷ xs) h = let t = deep_last o b k (suc i) y xs h.2 in let u = t.1 in (t.0, omega arith)

abbrev pub weight : ℕ → Order → List ℕ → List (ℕ × ℕ) → ℕ
weight k o b [] = 0
weight k o b (x ∷ xs) = suc (2 * count (grow k o b x.1 x.0)) + weight k o b xs

pub weight_push : (k : ℕ) (o : Order) (b : List ℕ) (y : ℕ × ℕ) (xs : List (ℕ × ℕ))
    → weight k o b (xs ++ y ∷ []) ≡ suc (2 * count (grow k o b y.1 y.0)) + weight k o b xs
weight_push k o b y [] = refl
weight_push k o b y (x ∷ xs) = let h = weight_push k o b y xs in omega arith

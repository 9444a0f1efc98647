-- The lists that a walk through a tree has still to read.
use Rattle.std.proofs.Common.{◌≡◌, ℕ, suc, ◌+◌, ◌*◌, ◌≤◌, Bool, true, false, eqb, List, [], ◌∷◌, ◌++◌, length, inl, inr}
use Rattle.std.proofs.Common.{refl, sym, ap, subst, ◌∙◌, arith, if◌then◌else◌}
use Rattle.std.proofs.lemmas.Bool.Decides.{eqb_tells}
use Rattle.std.specs.Prelude.{max}
use Rattle.rom_tree.specs.Tree.{Body, directory, regular, symlink, block, character, socket, fifo, Entries, no_entries}
use Rattle.rom_tree.specs.Tree.{nodes, body_nodes, entries_nodes, entries_depth, body_depth}
use Rattle.romfs_format.specs.Record.{first_of, next_of, name_of, type_of}
use Rattle.record_forest.specs.Forest.{none, count}
use Rattle.romfs_format.specs.Tree.{kind_numbers, node_of, entries_at, led, body_named, places_at, attributes_at}
use Rattle.rom_tree.specs.Dots.{is_dots}
use Rattle.romfs_format.specs.Made.{grow}
use Rattle.rom_tree.proofs.Numbers.{among, among_append}
use Rattle.rom_tree.proofs.ByKind.{by_kind_map, by_kind_directory, by_kind_rest}
use Rattle.romfs_format.proofs.Trees.{IsList, led_self}
use Rattle.romfs_format.proofs.Chain.{IsStep, list_end}

-- whether a node of the list at q has the number
unfoldable pub below : List ℕ → ℕ → ℕ → ℕ → Bool
below b k n q = among n (entries_nodes (entries_at b (grow k b q)))

-- whether one of the lists has such a node
abbrev pub waits : List ℕ → ℕ → ℕ → List ℕ → Bool
waits b k n [] = false
waits b k n (q ∷ qs) = if below b k n q then true else waits b k n qs

abbrev either : Bool → Bool → Bool
either x y = if x then true else y

pub waits_push : (b : List ℕ) (k n q : ℕ) (qs : List ℕ)
    → waits b k n (qs ++ q ∷ []) ≡ either (waits b k n qs) (below b k n q)
waits_push b k n q [] = elim (below b k n q) as (λ v. (if v then true else false) ≡ v) [ true ↦ refl | false ↦ refl ]
waits_push b k n q (x ∷ xs) = elim (below b k n x) as
    (λ v. (if v then true else waits b k n (xs ++ q ∷ []))
    ≡ either (if v then true else waits b k n xs) (below b k n q)) [
      | true ↦ refl
      | false ↦ waits_push b k n q xs
    ]

-- how many names lead down from the list at q
unfoldable pub depth_at : List ℕ → ℕ → ℕ → ℕ
depth_at b k q = entries_depth (entries_at b (grow k b q))

no_list : (b : List ℕ) (q : ℕ) → (type_of b (led 8 b q) ≡ 1 → ⊥) → first_of b q ≡ 0
unfolding first_of
no_list b q h = elim (eqb_tells (type_of b q) 1) [
  | inl i ↦ absurd (h (ap (type_of b) (led_self 8 b q (λ z. absurd (let y = i.1 in omega arith))) ∙ i.1))
  | inr i ↦ rw i.0 refl
]

-- what goes by the entries of a node goes by the list of its record
by_list : {A : Type 0} (f : Body → A) (g : Entries → A) (b : List ℕ) (r k q : ℕ) (ps : List ℕ) → IsStep b r k q
    → ((es : Entries) → f (directory es) ≡ g es)
    → f (regular ps) ≡ g no_entries → f (symlink ps) ≡ g no_entries → f block ≡ g no_entries
    → f character ≡ g no_entries → f socket ≡ g no_entries → f fifo ≡ g no_entries
    → f (body_named (type_of b (led 8 b q)) ps (entries_at b (grow k b (first_of b q))))
    ≡ g (entries_at b (grow k b (first_of b q)))
by_list f g b r k q ps st h h2 h3 h4 h5 h6 h7 =
    let t = type_of b (led 8 b q) in
    let es = entries_at b (grow k b (first_of b q)) in
    let m = by_kind_map f kind_numbers t (directory es) (regular ps) (symlink ps) block character socket fifo in
    elim (eqb_tells t 1) [
      | inl i ↦ m ∙ by_kind_directory kind_numbers t (f (directory es)) (f (regular ps)) (f (symlink ps)) (f block)
          (f character) (f socket) (f fifo) i.1 ∙ h es
      | inr i ↦
          let z : first_of b q ≡ 0 = no_list b q i.1 in
          let end : grow k b (first_of b q) ≡ none =
          subst (λ (v : ℕ). IsList b r k v → grow k b v ≡ none) (sym z) (list_end b r k) st.first in
          let e : es ≡ no_entries = ap (entries_at b) end in
          m ∙ (rw (h2, h3, h4, h5, h6, h7) (by_kind_rest kind_numbers t (f (directory es)) (g no_entries) i.1))
          ∙ ap g (sym e)
    ]

-- one record further: a record that is no entry
pub below_dot : (b : List ℕ) (r k n q : ℕ) → IsStep b r k q → is_dots (name_of b q) ≡ true
    → below b k n q ≡ below b k n (next_of b q)
unfolding below
below_dot b r k n q st d = rw (st.is, d) refl

pub depth_dot : (b : List ℕ) (r k q : ℕ) → IsStep b r k q → is_dots (name_of b q) ≡ true
    → depth_at b k q ≡ depth_at b k (next_of b q)
unfolding depth_at
depth_dot b r k q st d = rw (st.is, d) refl

-- an entry
pub below_entry : (b : List ℕ) (r k n q : ℕ) → IsStep b r k q → is_dots (name_of b q) ≡ false
    → below b k n q ≡ either (if eqb (led 8 b q) n then true else below b k n (first_of b q))
    (below b k n (next_of b q))
unfolding below node_of attributes_at
below_entry b r k n q st d =
    let p = led 8 b q in
    let es = entries_at b (grow k b (first_of b q)) in
    let own : among n (body_nodes (body_named (type_of b p) (places_at b p) es)) ≡ among n (entries_nodes es) =
    by_list (λ c. among n (body_nodes c)) (λ x. among n (entries_nodes x)) b r k q (places_at b p) st
    (λ x. refl) refl refl refl refl refl refl in
    rw (st.is, d) (among_append n (nodes (node_of b p es)) (entries_nodes (entries_at b (grow k b (next_of b q))))
    ∙ ap (λ (v : Bool). either (if eqb p n then true else v)
    (among n (entries_nodes (entries_at b (grow k b (next_of b q)))))) own)

pub depth_entry : (b : List ℕ) (r k q : ℕ) → IsStep b r k q → is_dots (name_of b q) ≡ false
    → depth_at b k q ≡ max (suc (depth_at b k (first_of b q))) (depth_at b k (next_of b q))
unfolding depth_at node_of
depth_entry b r k q st d =
    let p = led 8 b q in
    let es = entries_at b (grow k b (first_of b q)) in
    let own : body_depth (body_named (type_of b p) (places_at b p) es) ≡ entries_depth es =
    by_list body_depth entries_depth b r k q (places_at b p) st (λ x. refl) refl refl refl refl refl refl in
    rw (st.is, d) (ap (λ (v : ℕ). max (suc v) (entries_depth (entries_at b (grow k b (next_of b q))))) own)

pub below_end : (b : List ℕ) (r k n : ℕ) → IsList b r k 0 → below b k n 0 ≡ false
unfolding below
below_end b r k n l = rw (list_end b r k l) refl

-- the lists are in the bytes, the i-th of them not too deep
abbrev pub AreDeep : List ℕ → ℕ → ℕ → ℕ → List ℕ → Type 0
AreDeep b r k i [] = Unit {0}
AreDeep b r k i (q ∷ qs) = IsList b r k q × (depth_at b k q + i ≤ 64) × AreDeep b r k (suc i) qs

pub deep_push : (b : List ℕ) (r k i q : ℕ) (qs : List ℕ) → AreDeep b r k i qs → IsList b r k q
    → depth_at b k q + (i + length qs) ≤ 64 → AreDeep b r k i (qs ++ q ∷ [])
deep_push b r k i q [] h l d = (l, omega arith, tt)
deep_push b r k i q (x ∷ xs) h l d = (h.0, h.1, deep_push b r k (suc i) q xs h.2 l (omega arith))

pub deep_front : (b : List ℕ) (r k i q : ℕ) (qs : List ℕ) → AreDeep b r k i (qs ++ q ∷ []) → AreDeep b r k i qs
deep_front b r k i q [] h = tt
deep_front b r k i q (x ∷ xs) h = (h.0, h.1, deep_front b r k (suc i) q xs h.2)

pub deep_last : (b : List ℕ) (r k i q : ℕ) (qs : List ℕ) → AreDeep b r k i (qs ++ q ∷ [])
    → IsList b r k q × (depth_at b k q + (i + length qs) ≤ 64)
deep_last b r k i q [] h = (h.0, omega arith)
deep_last b r k i q (x ∷ xs) h = let t = deep_last b r k (suc i) q xs h.2 in let u = t.1 in (t.0, omega arith)

abbrev pub weight : ℕ → List ℕ → List ℕ → ℕ
weight k b [] = 0
weight k b (q ∷ qs) = suc (2 * count (grow k b q)) + weight k b qs

pub weight_push : (k : ℕ) (b : List ℕ) (q : ℕ) (qs : List ℕ)
    → weight k b (qs ++ q ∷ []) ≡ suc (2 * count (grow k b q)) + weight k b qs
weight_push k b q [] = refl
weight_push k b q (x ∷ xs) = let h = weight_push k b q xs in omega arith

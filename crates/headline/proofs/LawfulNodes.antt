-- Nodes whose body goes by the number of their kind, and names of bytes.
use Rattle.std.proofs.Common.{◌≡◌, ℕ, zero, suc, ◌<◌, Bool, true, false, ◌||◌, nat_lt, cond, List, [], ◌∷◌, length, ◌⊎◌}
use Rattle.std.proofs.Common.{inl, inr, refl, sym, ap, subst, ◌∙◌, arith}
use Rattle.std.specs.Prelude.{◌==◌}
use Rattle.std.proofs.lemmas.Bool.{eqb-true, le-ltb}
use Rattle.std.proofs.lemmas.Bool.Decides.{eqb_tells}
use Rattle.std.specs.Cmp.Lexicographic.{bytes_decides}
use Rattle.std.specs.List.{Contains, list_any}
use Rattle.std.specs.Str.{bytes_eq}
use Rattle.manifest.specs.Paths.{is_bad_name}
use Rattle.rom_tree.specs.Dots.{dot, dot_dot}
use Rattle.rom_tree.specs.Kinds.{KindNumbers, by_kind, body_by}
use Rattle.rom_tree.specs.Tree.{Node, node, Body, Attributes, directory, regular, symlink, block, character, socket}
use Rattle.rom_tree.specs.Tree.{fifo, Entries, no_entries, IsIn, here, there, attributes_of, body_entries, body_nodes}
use Rattle.rom_tree.specs.Tree.{entries_nodes, entries_of, nodes}
use Rattle.rom_tree.proofs.ByKind.{below_body, by_kind_directory, by_kind_map, by_kind_rest}
use Rattle.image_manifest.specs.ByPaths.{has_slash}
use Rattle.image_manifest.specs.Describable.{HasSmallNumbers, IsLawfulList}
use Rattle.image_manifest.proofs.Ways.{neither}
use Rattle.headline.proofs.Singles.{NoneTwice, body_numbers, entries_numbers, has_number}

-- what holds of each of seven things holds of the one that goes by the kind
pub by_kind_all : {A : Type 0} (P : A → Type 0) (k : KindNumbers) (t : ℕ) (a1 a2 a3 a4 a5 a6 a7 : A) → P a1 → P a2
    → P a3 → P a4 → P a5 → P a6 → P a7 → P (by_kind k t a1 a2 a3 a4 a5 a6 a7)
by_kind_all {A} P k t a1 a2 a3 a4 a5 a6 a7 h1 h2 h3 h4 h5 h6 h7 =
    pick (t == k.of_directory) a1 _ h1
    (pick (t == k.of_regular) a2 _ h2
    (pick (t == k.of_symlink) a3 _ h3
    (pick (t == k.of_block) a4 _ h4 (pick (t == k.of_character) a5 _ h5 (pick (t == k.of_socket) a6 a7 h6 h7)))))
  where
    pick : (b : Bool) (x y : A) → P x → P y → P (cond b x y)
    pick true x y h g = h
    pick false x y h g = g

-- What a directory's list has.

pub record IsLawfulNode (x : Node) : Type 0 where
  pub list : IsLawfulList (entries_of x)
  pub numbers : HasSmallNumbers (attributes_of x)

abbrev pub AreLawfulNodes : List Node → Type 0
AreLawfulNodes xs = (x : Node) → IsIn x xs → IsLawfulNode x

kind_list : (k : KindNumbers) (t : ℕ) (ps : List ℕ) (es : Entries) → IsLawfulList es
    → IsLawfulList (body_entries (body_by k t ps es))
kind_list k t ps es h =
    subst IsLawfulList (sym (by_kind_map body_entries k t (directory es) (regular ps)
    (symlink ps) block character socket fifo))
    (by_kind_all IsLawfulList k t es no_entries no_entries no_entries no_entries no_entries no_entries h tt tt tt tt tt
    tt)

in_node : (a : Attributes) (c : Body) (x : Node) → IsIn x (nodes (node a c)) → (x ≡ node a c) ⊎ IsIn x (body_nodes c)
in_node a c x here = inl refl
in_node a c x (there h) = inr h

pub kind_nodes : (a : Attributes) (k : KindNumbers) (t : ℕ) (ps : List ℕ) (es : Entries) → HasSmallNumbers a
    → IsLawfulList es → AreLawfulNodes (entries_nodes es) → AreLawfulNodes (nodes (node a (body_by k t ps es)))
kind_nodes a k t ps es s l h x i = elim (in_node a (body_by k t ps es) x i) [
  | inl e ↦ subst IsLawfulNode (sym e) (record { list = kind_list k t ps es l; numbers = s })
  | inr j ↦ h x (below_body k t ps es x j).1
]

-- What its numbers are.

kind_numbers : (n : ℕ) (k : KindNumbers) (t : ℕ) (ps : List ℕ) (es : Entries)
    → body_numbers n (body_by k t ps es) ≡ by_kind k t (n ∷ entries_numbers es) [] [] [] [] [] []
kind_numbers n k t ps es =
    by_kind_map (body_numbers n) k t (directory es) (regular ps) (symlink ps) block character socket fifo

pub kind_twice : (n : ℕ) (k : KindNumbers) (t : ℕ) (ps : List ℕ) (es : Entries)
    → (t ≡ k.of_directory → has_number n (entries_numbers es) ≡ false) → NoneTwice (entries_numbers es)
    → NoneTwice (body_numbers n (body_by k t ps es))
kind_twice n k t ps es f h =
    subst NoneTwice (sym (kind_numbers n k t ps es))
    (elim (eqb_tells t k.of_directory) [
      | inl e ↦ subst NoneTwice (sym (by_kind_directory k t (n ∷ entries_numbers es) [] [] [] [] [] [] e.1)) (f e.1, h)
      | inr e ↦ subst NoneTwice (sym (by_kind_rest k t (n ∷ entries_numbers es) [] e.1)) tt
    ])

pub kind_has : (i n : ℕ) (k : KindNumbers) (t : ℕ) (ps : List ℕ) (es : Entries)
    → has_number i (body_numbers n (body_by k t ps es)) ≡ true
    → (t ≡ k.of_directory) × (has_number i (n ∷ entries_numbers es) ≡ true)
kind_has i n k t ps es h =
    let g : has_number i (by_kind k t (n ∷ entries_numbers es) [] [] [] [] [] []) ≡ true =
    ap (has_number i) (sym (kind_numbers n k t ps es)) ∙ h in
    elim (eqb_tells t k.of_directory) [
      | inl e ↦ (
        e.1,
        ap (has_number i) (sym (by_kind_directory k t (n ∷ entries_numbers es) [] [] [] [] [] [] e.1))
            ∙ g,
      )
      | inr e ↦ let z : false ≡ true =
          ap (has_number i) (sym (by_kind_rest k t (n ∷ entries_numbers es) [] e.1)) ∙ g in absurd (cc)
    ]

-- A valid name.

pub no_slash : (n : List ℕ) → (Contains n 47 → ⊥) → has_slash n ≡ false
no_slash n h = by (has_slash n) refl
  where
    stands : (n : List ℕ) → has_slash n ≡ true → Contains n 47
    stands [] e = absurd (cc)
    stands (b ∷ bs) e = elim (b == 47) as (λ t. (b == 47) ≡ t → (t || has_slash bs) ≡ true → Contains (b ∷ bs) 47) [
      | true ↦ λ f g. (zero, omega arith, eqb-true b 47 f)
      | false ↦ λ f g. let r = stands bs g in (suc r.0, omega (arith, r.1), r.2)
    ] refl e

    by : (t : Bool) → has_slash n ≡ t → t ≡ false
    by true e = absurd (h (stands n e))
    by false e = refl

pub no_zero : (n : List ℕ) → (Contains n 0 → ⊥) → list_any (λ b. b == 0) n ≡ false
no_zero n h = by (list_any (λ b. b == 0) n) refl
  where
    stands : (n : List ℕ) → list_any (λ b. b == 0) n ≡ true → Contains n 0
    stands [] e = absurd (cc)
    stands (b ∷ bs) e =
        elim (b == 0) as (λ t. (b == 0) ≡ t → (t || list_any (λ c. c == 0) bs) ≡ true → Contains (b ∷ bs) 0) [
          | true ↦ λ f g. (zero, omega arith, eqb-true b 0 f)
          | false ↦ λ f g. let r = stands bs g in (suc r.0, omega (arith, r.1), r.2)
        ] refl e

    by : (t : Bool) → list_any (λ b. b == 0) n ≡ t → t ≡ false
    by true e = absurd (h (stands n e))
    by false e = refl

pub good_name : (n : List ℕ) → 0 < length n → (n ≡ dot → ⊥) → (n ≡ dot_dot → ⊥) → length n < 256 → is_bad_name n ≡ false
unfolding is_bad_name
good_name n some one two short =
    neither (bytes_eq n []) _ (other [] (λ e. let l : length n ≡ 0 = ap length e in omega (arith, l, some)))
    (neither (bytes_eq n dot) _ (other dot one)
    (neither (bytes_eq n dot_dot) (nat_lt 255 (length n)) (other dot_dot two)
    (le-ltb 255 (length n) (omega (arith, short)))))
  where
    other : (m : List ℕ) → (n ≡ m → ⊥) → bytes_eq n m ≡ false
    other m h = by (bytes_eq n m) refl
      where
        by : (t : Bool) → bytes_eq n m ≡ t → t ≡ false
        by true e = absurd (h ((bytes_decides n m).0 e))
        by false e = refl

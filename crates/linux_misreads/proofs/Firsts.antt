-- What a map has of the first file of each table, while names are gone over.
use Rattle.std.proofs.Common.{◌≡◌, ◌≢◌, ◌==◌, ◌&&◌, cond, ℕ, true, false, Bool, Option, Some, None, inl, inr, refl}
use Rattle.std.proofs.Common.{sym, ap, ◌∙◌, arith, List, [], ◌∷◌}
use Rattle.std.proofs.lemmas.Bool.{cases_lt, lt-ltb, le-ltb, true≢false, ne_eqb}
use Rattle.std.proofs.lemmas.Bool.Decides.{eqb_tells}
use Rattle.std.specs.BTreeMap.{BTreeMap, get, Updates, is_at}
use Rattle.std.specs.Ordering.{nat_cmp}
use Rattle.std.specs.Option.{is_some}
use Rattle.rom_tree.specs.Tree.{Node, ino_of}
use Rattle.rom_tree.specs.Names.{Name}
use Rattle.cramfs_image.specs.declared.image.Cramfs.{Cramfs}
use Rattle.linux_misreads.specs.declared.seen.Known.{Known}
use Rattle.linux_misreads.specs.Tables.{has_table, number_in, known_of, either, one_known, first_known}
use Rattle.linux_misreads.specs.Tables.{kept_in, AreFirst}

at_is : (p q : ℕ) → is_at (nat_cmp p) q ≡ (p == q)
at_is p q =
    elim (eqb_tells p q) [
      | inl e ↦ rw (le-ltb p q (omega arith), e.0) refl
      | inr n ↦ elim (cases_lt p q) [ inl l ↦ rw (lt-ltb p q l, n.0) refl | inr l ↦ rw (le-ltb p q l, n.0) refl ]
    ]

-- nothing is noted of a node without a table
pub nothing_noted : (s : Cramfs) (x : Node) (t : ℕ) (g : Option Known) → has_table x ≡ false
    → g ≡ either g (one_known s t x)
nothing_noted s x t None h = rw h refl
nothing_noted s x t (Some k) h = refl

-- nor of one whose table is noted
pub noted_before : (s : Cramfs) (x : Node) (m : BTreeMap ℕ Known) (p : ℕ) → p ≡ number_in s (ino_of x)
    → true ≡ is_some (get nat_cmp m p) → (t : ℕ)
    → get nat_cmp m t ≡ either (get nat_cmp m t) (one_known s t x)
noted_before s x m p e h t = there (get nat_cmp m t) refl
  where
    none_is : (g : Option Known) → true ≡ is_some g → g ≡ None → one_known s t x ≡ None
    none_is None i f = absurd (true≢false i)
    none_is (Some k) i f = absurd (true≢false (ap is_some f))

    elsewhere : p ≢ t → one_known s t x ≡ None
    elsewhere n = rw (sym e, ne_eqb p t n) (last (has_table x))
      where
        last : (b : Bool) → cond (b && false) (Some (known_of x)) None ≡ None
        last true = refl
        last false = refl

    there : (g : Option Known) → get nat_cmp m t ≡ g → g ≡ either g (one_known s t x)
    there (Some k) f = refl
    there None f =
        elim (eqb_tells p t) [
          | inl i ↦ sym (none_is (get nat_cmp m p) h (ap (get nat_cmp m) i.1 ∙ f))
          | inr n ↦ sym (elsewhere n.1)
        ]

-- the first of a table is noted
pub noted_now : (s : Cramfs) (x : Node) (old new : BTreeMap ℕ Known) (p : ℕ) (k : Known) → has_table x ≡ true
    → p ≡ number_in s (ino_of x) → k ≡ known_of x
    → false ≡ is_some (get nat_cmp old p) → Updates nat_cmp old new p (Some k) → (t : ℕ)
    → get nat_cmp new t ≡ either (get nat_cmp old t) (one_known s t x)
noted_now s x old new p k h e i f u t =
    u.0 t ∙ (ap (λ (b : Bool). cond b (Some k) (get nat_cmp old t)) (at_is p t) ∙ by_place)
  where
    absent : (g : Option Known) → false ≡ is_some g → g ≡ None
    absent None j = refl
    absent (Some v) j = absurd (true≢false (sym j))

    not_there : (g : Option Known) → g ≡ either g None
    not_there None = refl
    not_there (Some v) = refl

    by_place : cond (p == t) (Some k) (get nat_cmp old t) ≡ either (get nat_cmp old t) (one_known s t x)
    by_place =
        elim (eqb_tells p t) [
          | inl j ↦
              let gone : get nat_cmp old t ≡ None = ap (get nat_cmp old) (sym j.1) ∙ absent (get nat_cmp old p) f in
              let one : one_known s t x ≡ Some k = rw (h, sym e, j.0) (ap Some (sym i)) in
              rw (j.0, gone) (sym one)
          | inr n ↦
              let one : one_known s t x ≡ None = rw (h, sym e, n.0) refl in
              rw (n.0, one) (not_there (get nat_cmp old t))
        ]

-- one name more
pub more_firsts : (s : Cramfs) (old new : BTreeMap ℕ Known) (all : List Name) (n : Name) (before after : List Name)
    → before ≡ n ∷ after
    → ((t : ℕ) → get nat_cmp new t ≡ either (get nat_cmp old t) (one_known s t n.node))
    → ((t : ℕ) → either (get nat_cmp old t) (first_known s t before) ≡ first_known s t all)
    → (t : ℕ) → either (get nat_cmp new t) (first_known s t after) ≡ first_known s t all
more_firsts s old new all n before after e u h t =
    ap (λ (g : Option Known). either g (first_known s t after)) (u t)
    ∙ (joined (get nat_cmp old t) ∙ (ap (λ (ns : List Name). either (get nat_cmp old t) (first_known s t ns)) (sym e)
    ∙ h t))
  where
    joined : (g : Option Known) → either (either g (one_known s t n.node)) (first_known s t after)
        ≡ either g (either (one_known s t n.node) (first_known s t after))
    joined None = refl
    joined (Some k) = refl

-- before the first name
pub no_firsts : (s : Cramfs) (m : BTreeMap ℕ Known) (all ns : List Name) → m.entries ≡ [] → ns ≡ all → (t : ℕ)
    → either (get nat_cmp m t) (first_known s t ns) ≡ first_known s t all
no_firsts s m all ns e i t = rw (e, i) refl

-- behind the last
pub all_firsts : (s : Cramfs) (m : BTreeMap ℕ Known) (all ns : List Name) → ns ≡ []
    → ((t : ℕ) → either (get nat_cmp m t) (first_known s t ns) ≡ first_known s t all) → AreFirst s all m
all_firsts s m all ns e h t =
    whole (get nat_cmp m t) ∙ (ap (λ (v : List Name). either (get nat_cmp m t) (first_known s t v)) (sym e) ∙ h t)
  where
    whole : (g : Option Known) → g ≡ either g None
    whole None = refl
    whole (Some k) = refl

-- nothing is kept of a node without a table
pub none_kept : (s : Cramfs) (ns : List Name) (x : Node) → has_table x ≡ false → None ≡ kept_in s ns x
none_kept s ns x h = rw h refl

-- what the map has under the number of a node with a table
pub kept_is : (s : Cramfs) (ns : List Name) (m : BTreeMap ℕ Known) (x : Node) (p : ℕ) {v : Option Known}
    → AreFirst s ns m → has_table x ≡ true
    → p ≡ number_in s (ino_of x) → get nat_cmp m p ≡ v → v ≡ kept_in s ns x
kept_is s ns m x p {v} a h e g =
    let f : v ≡ first_known s (number_in s (ino_of x)) ns =
    sym g ∙ (ap (get nat_cmp m) e ∙ a (number_in s (ino_of x))) in
    rw h f

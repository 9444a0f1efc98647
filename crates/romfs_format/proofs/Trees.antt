-- Each node of the tree is made of the record that its number names.
use Rattle.std.proofs.Common.{◌≡◌, ◌≢◌, ℕ, zero, suc, ◌≤◌, Bool, true, false, eqb, List, Option, None, Some, IsSome}
use Rattle.std.proofs.Common.{◌⊎◌, inl, inr, refl, sym, ap, subst, ◌∙◌, arith, rules, if◌then◌else◌}
use Rattle.std.proofs.lemmas.Bool.{ne_eqb, eq-eqb, false≢true}
use Rattle.std.proofs.lemmas.Bool.Decides.{eqb_tells}
use Rattle.std.specs.Prelude.{IsSomeAnd}
use Rattle.rom_tree.specs.Tree.{Node, node, Body, Attributes, directory, Entries, entry, IsIn, here, there, nodes}
use Rattle.rom_tree.specs.Tree.{body_nodes, entries_nodes, ino_of, entries_of, is_directory, node_at, IsCoherent}
use Rattle.rom_tree.proofs.Nodes.{in-split, node_at-some}
use Rattle.romfs_format.specs.Record.{IsSound, first_of, next_of, type_of, name_of}
use Rattle.record_forest.specs.Forest.{Forest, none, at, Everywhere, count, stands_in}
use Rattle.romfs_format.specs.Tree.{kind_numbers, node_of, entries_at, led, attributes_at, body_named, places_at}
use Rattle.rom_tree.specs.Dots.{is_dots}
use Rattle.romfs_format.specs.Made.{grow, StandsAt, start_of, begins, list_at, made, ends_within, IsGood, IsRomfs}
use Rattle.romfs_format.proofs.Same.{grown}
use Rattle.rom_tree.proofs.ByKind.{by_kind_other, below_body, only_directory, body_directory_is}

-- a list within k records is in the bytes
pub stands_within : (k : ℕ) (b : List ℕ) (q : ℕ) → ends_within k b q ≡ true → StandsAt b q (grow k b q)
stands_within zero b q e = elim (eqb_tells q 0) [ inl h ↦ h.1 | inr h ↦ absurd (false≢true (sym h.0 ∙ e)) ]
stands_within (suc k) b q e =
    elim (eqb_tells q 0) [
      | inl h ↦ rw h.0 h.1
      | inr h ↦
          let e' : (if ends_within k b (first_of b q) then ends_within k b (next_of b q) else false) ≡ true =
          (rw h.0 at e) in
          let both = both_true (ends_within k b (first_of b q)) (ends_within k b (next_of b q)) e' in
          rw h.0 (h.1, refl, stands_within k b (first_of b q) both.0, stands_within k b (next_of b q) both.1)
    ]
  where
    both_true : (x y : Bool) → (if x then y else false) ≡ true → (x ≡ true) × (y ≡ true)
    both_true true y e = (refl, e)
    both_true false y e = absurd (false≢true e)

-- what holds of each offset in it
pub everywhere : (P : ℕ → Type 0) (f : Forest) → ((p : ℕ) → stands_in f p ≡ true → P p) → Everywhere P f
everywhere P none h = tt
everywhere P (at p own after) h = (
  h p (rw (eq-eqb p p refl) refl),
  everywhere P own (λ q e. h q (elim (eqb p q) as
      (λ v. (if v then true else (if stands_in own q then true else stands_in after q)) ≡ true)
      [ true ↦ refl | false ↦ rw e refl ])),
  everywhere P after (λ q e. h q (elim (eqb p q) as
      (λ v. (if v then true else (if stands_in own q then true else stands_in after q)) ≡ true) [
        | true ↦ refl
        | false ↦
            elim (stands_in own q) as (λ v. (if v then true else stands_in after q) ≡ true) [ true ↦ refl | false ↦ e ]
      ])),
)

pub begins_root : (b : List ℕ) (r : ℕ) → begins b r r ≡ start_of b r
unfolding begins
begins_root b r = rw (eq-eqb r r refl) refl

pub begins_other : (b : List ℕ) (r p : ℕ) → p ≢ r → begins b r p ≡ first_of b p
unfolding begins
begins_other b r p h = rw (ne_eqb p r h) refl

-- a record that is no link leads to itself
pub led_self : (n : ℕ) (b : List ℕ) (p : ℕ) → type_of b p ≢ 0 → led n b p ≡ p
unfolding led
led_self zero b p h = refl
led_self (suc n) b p h = rw (led_self n b p h, ne_eqb (type_of b p) 0 h) refl

-- a list in the bytes, of good records
pub record IsList (b : List ℕ) (r k q : ℕ) : Type 0 where
  pub stands : StandsAt b q (grow k b q)
  pub good : Everywhere (IsGood b r) (grow k b q)
  pub few : count (grow k b q) ≤ k

pub record IsKnown (b : List ℕ) (r k p : ℕ) : Type 0 where
  pub sound : IsSound b r p
  pub live : type_of b p ≢ 0
  pub list : type_of b p ≡ 1 → IsList b r k (begins b r p)

pub record IsMade (b : List ℕ) (r k : ℕ) (x : Node) : Type 0 where
  pub is : x ≡ made b r k (ino_of x)
  pub known : IsKnown b r k (ino_of x)

pub list_is : (b : List ℕ) (r k q : ℕ) (f : Forest) → StandsAt b q f → Everywhere (IsGood b r) f → count f ≤ k
    → IsList b r k q
list_is b r k q f s g c =
    let e = sym (grown k b q f s c) in
    record {
      stands = subst (StandsAt b q) e s;
      good = subst (Everywhere (IsGood b r)) e g;
      few = subst (λ (x : Forest). count x ≤ k) e c;
    }

pub ino_is : (b : List ℕ) (p : ℕ) (es : Entries) → ino_of (node_of b p es) ≡ p
unfolding node_of attributes_at
ino_is b p es = refl

same_node : (b : List ℕ) (q : ℕ) (es fs : Entries) → type_of b q ≢ 1 → node_of b q es ≡ node_of b q fs
unfolding node_of
same_node b q es fs h =
    ap (node (attributes_at b q)) (by_kind_other kind_numbers (type_of b q) (directory es) (directory fs) _ _ _ _ _ _ h)

in_node : (a : Attributes) (c : Body) (x : Node) → IsIn x (nodes (node a c)) → (x ≡ node a c) ⊎ IsIn x (body_nodes c)
in_node a c x here = inl refl
in_node a c x (there h) = inr h

module _ {b : List ℕ} {r k : ℕ} where
  -- the node of a record that is no link
  plain : (p : ℕ) (own : Forest) → IsGood b r p → type_of b p ≢ 0 → StandsAt b (first_of b p) own
      → Everywhere (IsGood b r) own → count own ≤ k → IsMade b r k (node_of b p (entries_at b own))
  unfolding made list_at node_of attributes_at
  plain p own g n s e c =
      let begin = sym (begins_other b r p g.other) in
      let l = list_is b r k (first_of b p) own s e c in
      let same : own ≡ grow k b (begins b r p) = sym (grown k b (first_of b p) own s c) ∙ ap (grow k b) begin in
      rw (ino_is b p (entries_at b own)) (record {
        is = ap (λ (x : Forest). node_of b p (entries_at b x)) same;
        known = record { sound = g.sound; live = n; list = λ t. subst (IsList b r k) begin l };
      })

  -- the node that an entry leads to
  entry_made : (p : ℕ) (own : Forest) → IsGood b r p → is_dots (name_of b p) ≡ false → StandsAt b (first_of b p) own
      → Everywhere (IsGood b r) own → count own ≤ k
      → IsMade b r k (node_of b (led 8 b p) (entries_at b own))
  unfolding made node_of attributes_at
  entry_made p own g d s e c = elim (eqb_tells (type_of b p) 0) [
    | inl h ↦ let leaf = g.leaf d h.1 in rw (ino_is b (led 8 b p) (entries_at b own)) (record {
      is = same_node b (led 8 b p) (entries_at b own) (entries_at b (list_at b r k (led 8 b p))) leaf;
      known = record { sound = g.linked d 8 (omega arith); live = g.ends d; list = λ t. absurd (leaf t) };
    })
    | inr h ↦ rw (led_self 8 b p h.1) (plain p own g h.1 s e c)
  ]

  made_node : (p : ℕ) (own : Forest) → IsGood b r p → is_dots (name_of b p) ≡ false → StandsAt b (first_of b p) own
      → Everywhere (IsGood b r) own → count own ≤ k
      → ((y : Node) → IsIn y (entries_nodes (entries_at b own)) → IsMade b r k y) → (x : Node)
      → IsIn x (nodes (node_of b (led 8 b p) (entries_at b own))) → IsMade b r k x
  unfolding node_of
  made_node p own g d s e c ih x h =
      elim (in_node (attributes_at b (led 8 b p))
      (body_named (type_of b (led 8 b p)) (places_at b (led 8 b p)) (entries_at b own)) x h) [
        | inl i ↦ subst (IsMade b r k) (sym i) (entry_made p own g d s e c)
        | inr i ↦ ih x (below_body kind_numbers (type_of b (led 8 b p)) (places_at b (led 8 b p))
            (entries_at b own) x i).1
      ]

  pub made_in : (q : ℕ) (f : Forest) → StandsAt b q f → Everywhere (IsGood b r) f → count f ≤ k → (x : Node)
      → IsIn x (entries_nodes (entries_at b f)) → IsMade b r k x
  made_in q none s g c x h = elim h [ ]
  made_in q (at p own after) s g c x h =
      elim (is_dots (name_of b p)) as (λ v. is_dots (name_of b p) ≡ v
      → IsIn x (entries_nodes (if v then entries_at b after
      else entry (name_of b p) (node_of b (led 8 b p) (entries_at b own)) (entries_at b after))) → IsMade b r k x) [
        | true ↦ λ d i. made_in (next_of b p) after s.3 g.2 (omega arith) x i
        | false ↦ λ d i. in-split x (nodes (node_of b (led 8 b p) (entries_at b own)))
            (entries_nodes (entries_at b after)) i
            (λ j. made_node p own g.0 d s.2 g.1 (omega arith)
            (λ y m. made_in (first_of b p) own s.2 g.1 (omega arith) y m) x j)
            (λ j. made_in (next_of b p) after s.3 g.2 (omega arith) x j)
      ] refl h

  module _ (rom : IsRomfs b r k) where
    pub root_list : IsList b r k (start_of b r)
    root_list = record {
      stands = stands_within k b (start_of b r) rom.within;
      good = everywhere (IsGood b r) (grow k b (start_of b r)) rom.good;
      few = rom.few;
    }

    root_known : IsKnown b r k r
    root_known = record {
      sound = rom.root;
      live = (let d = rom.directory in λ h. absurd (omega arith));
      list = λ t. subst (IsList b r k) (sym (begins_root b r)) root_list;
    }

    root_made : IsMade b r k (made b r k r)
    unfolding made node_of attributes_at
    root_made = record { is = refl; known = root_known }

    pub all_made : (x : Node) → IsIn x (nodes (made b r k r)) → IsMade b r k x
    unfolding made node_of list_at
    all_made x h =
        elim (in_node (attributes_at b r)
        (body_named (type_of b r) (places_at b r) (entries_at b (list_at b r k r))) x h) [
          | inl i ↦ subst (IsMade b r k) (sym i) (root_made)
          | inr i ↦ made_in (start_of b r) (grow k b (start_of b r)) root_list.stands root_list.good root_list.few x
              (subst (λ (q : ℕ). IsIn x (entries_nodes (entries_at b (grow k b q)))) (begins_root b r)
              (below_body kind_numbers (type_of b r) (places_at b r) (entries_at b (list_at b r k r)) x i).1)
        ]

    pub coherent : IsCoherent (made b r k r)
    coherent x y h j e = (all_made x h).is ∙ ap (made b r k) e ∙ sym (all_made y j).is

    -- what a number of the tree names
    pub named : (n : ℕ) (x : Node) → node_at (made b r k r) n ≡ Some x → (x ≡ made b r k n) × IsKnown b r k n
    named n x h =
        let f = node_at-some (made b r k r) n x h in
        let m = all_made x f.within in
        (m.is ∙ ap (made b r k) f.number, subst (IsKnown b r k) f.number m.known)

    known_by : (n : ℕ) (o : Option Node) → node_at (made b r k r) n ≡ o → IsSome o → IsKnown b r k n
    known_by n None e h = absurd (search rules)
    known_by n (Some x) e h = (named n x e).1

    pub known : (n : ℕ) → IsSome (node_at (made b r k r) n) → IsKnown b r k n
    known n h = known_by n (node_at (made b r k r) n) refl h

    directory_by : (n : ℕ) (o : Option Node) → node_at (made b r k r) n ≡ o → IsSomeAnd o (λ x. is_directory x ≡ true)
        → IsKnown b r k n × (type_of b n ≡ 1)
    unfolding made node_of
    directory_by n None e h = absurd h
    directory_by n (Some x) e h =
        let m = named n x e in
        let d : is_directory (made b r k n) ≡ true = subst (λ (y : Node). is_directory y ≡ true) m.0 h in (
          m.1,
          only_directory kind_numbers (type_of b n)
              (sym (body_directory_is kind_numbers (type_of b n) (places_at b n) (entries_at b (list_at b r k n))) ∙ d),
        )

    -- a directory of the tree
    pub directory_known : (n : ℕ) → IsSomeAnd (node_at (made b r k r) n) (λ x. is_directory x ≡ true)
        → IsKnown b r k n × (type_of b n ≡ 1)
    directory_known n h = directory_by n (node_at (made b r k r) n) refl h

pub made_entries : (b : List ℕ) (r k p : ℕ) → type_of b p ≡ 1
    → entries_of (made b r k p) ≡ entries_at b (list_at b r k p)
unfolding made node_of
made_entries b r k p t = rw (eq-eqb (type_of b p) 1 t) refl

pub made_ino : (b : List ℕ) (r k p : ℕ) → ino_of (made b r k p) ≡ p
unfolding made
made_ino b r k p = ino_is b p (entries_at b (list_at b r k p))

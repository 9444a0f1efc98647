-- Each node of the tree is made of the record that its number names.
use Rattle.std.proofs.Common.{◌≡◌, ℕ, zero, suc, ◌+◌, ◌≤◌, Bool, true, false, eqb, List, length, Option, None, Some}
use Rattle.std.proofs.Common.{IsSome, ◌⊎◌, inl, inr, refl, sym, ap, subst, ◌∙◌, arith, rules, if◌then◌else◌}
use Rattle.std.proofs.lemmas.Bool.{eq-eqb, false≢true}
use Rattle.std.specs.Prelude.{IsSomeAnd}
use Rattle.rom_tree.specs.Tree.{Node, node, Body, Attributes, Entries, IsIn, here, there, nodes, body_nodes}
use Rattle.rom_tree.specs.Tree.{entries_nodes, ino_of, entries_of, is_directory, node_at, IsCoherent}
use Rattle.rom_tree.proofs.Nodes.{in-split, node_at-some}
use Rattle.record_forest.specs.Forest.{Forest, none, at, Everywhere, count, stands_in}
use Rattle.cramfs_format.specs.declared.order.Order.{Order}
use Rattle.cramfs_format.specs.Inode.{type_of, end_of, list_start, list_end, HasBody}
use Rattle.cramfs_format.specs.Refers.{root_place}
use Rattle.cramfs_format.specs.Tree.{kind_numbers, node_of, entries_at, attributes_at, body_named, places_at}
use Rattle.cramfs_format.specs.Made.{grow, StandsAt, list_at, made, ends_within, IsGood, IsCramfs}
use Rattle.cramfs_format.proofs.Same.{grown}
use Rattle.rom_tree.proofs.ByKind.{below_body, only_directory, body_directory_is}
use Rattle.cramfs_format.proofs.Lists.{lt_decides}

both_true : (x y : Bool) → (if x then y else false) ≡ true → (x ≡ true) × (y ≡ true)
both_true true y e = (refl, e)
both_true false y e = absurd (false≢true e)

-- a list within k records is in the bytes
pub stands_within : (k : ℕ) (o : Order) (b : List ℕ) (e q : ℕ) → ends_within k o b e q ≡ true
    → StandsAt o b e q (grow k o b e q)
stands_within zero o b e q i =
    elim (lt_decides q e) [ inl h ↦ let z : false ≡ true = (rw h.0 at i) in absurd (false≢true z) | inr h ↦ h.1 ]
stands_within (suc k) o b e q i =
    elim (lt_decides q e) [
      | inl h ↦
          let i' : (if ends_within k o b (list_end o b q) (list_start o b q) then ends_within k o b e (end_of o b q)
          else false) ≡ true = (rw h.0 at i) in
          let both = both_true (ends_within k o b (list_end o b q) (list_start o b q))
          (ends_within k o b e (end_of o b q)) i' in
          rw h.0 (
            h.1,
            refl,
            stands_within k o b (list_end o b q) (list_start o b q) both.0,
            stands_within k o b e (end_of o b q) both.1,
          )
      | inr h ↦ rw h.0 h.1
    ]

-- what holds of each offset in it
pub everywhere : (P : ℕ → Type 0) (f : Forest) → ((p : ℕ) → stands_in f p ≡ true → P p) → Everywhere P f
everywhere P none h = tt
everywhere P (at p own after) h = (
  h p (rw (eq-eqb p p refl) refl),
  everywhere P own (λ q e. h q (elim (eqb p q) as
      (λ v. (if v then true else (if stands_in own q then true else stands_in after q)) ≡ true)
      [ true ↦ refl | false ↦ rw e refl ])),
  everywhere P after (λ q e. h q (elim (eqb p q) as
      (λ v. (if v then true else (if stands_in own q then true else stands_in after q)) ≡ true) [
        | true ↦ refl
        | false ↦
            elim (stands_in own q) as (λ v. (if v then true else stands_in after q) ≡ true) [ true ↦ refl | false ↦ e ]
      ])),
)

-- a list that stands, of good records
pub record IsList (o : Order) (b : List ℕ) (k e q : ℕ) : Type 0 where
  pub stands : StandsAt o b e q (grow k o b e q)
  pub good : Everywhere (IsGood o b) (grow k o b e q)
  pub few : count (grow k o b e q) ≤ k

-- what is known of a record whose node the tree has
pub record IsKnown (o : Order) (b : List ℕ) (k p : ℕ) : Type 0 where
  pub header : p + 12 ≤ length b
  pub body : HasBody o b p
  pub list : IsList o b k (list_end o b p) (list_start o b p)

pub record IsMade (o : Order) (b : List ℕ) (k : ℕ) (x : Node) : Type 0 where
  pub is : x ≡ made o b k (ino_of x)
  pub known : IsKnown o b k (ino_of x)

pub list_is : (o : Order) (b : List ℕ) (k e q : ℕ) (f : Forest) → StandsAt o b e q f → Everywhere (IsGood o b) f
    → count f ≤ k → IsList o b k e q
list_is o b k e q f s g c =
    let i = sym (grown k o b e q f s c) in
    record {
      stands = subst (StandsAt o b e q) i s;
      good = subst (Everywhere (IsGood o b)) i g;
      few = subst (λ (x : Forest). count x ≤ k) i c;
    }

pub ino_is : (o : Order) (b : List ℕ) (p : ℕ) (es : Entries) → ino_of (node_of o b p es) ≡ p
unfolding node_of attributes_at
ino_is o b p es = refl

in_node : (a : Attributes) (c : Body) (x : Node) → IsIn x (nodes (node a c)) → (x ≡ node a c) ⊎ IsIn x (body_nodes c)
in_node a c x here = inl refl
in_node a c x (there h) = inr h

module _ {o : Order} {b : List ℕ} {k : ℕ} where
  -- the node of an entry
  entry_made : (p : ℕ) (own : Forest) → IsGood o b p → StandsAt o b (list_end o b p) (list_start o b p) own
      → Everywhere (IsGood o b) own → count own ≤ k → IsMade o b k (node_of o b p (entries_at o b own))
  unfolding made list_at node_of attributes_at
  entry_made p own g s e c =
      let same : own ≡ grow k o b (list_end o b p) (list_start o b p) =
      sym (grown k o b (list_end o b p) (list_start o b p) own s c) in
      rw (ino_is o b p (entries_at o b own)) (record {
        is = ap (λ (x : Forest). node_of o b p (entries_at o b x)) same;
        known = record {
          header = g.header;
          body = g.body;
          list = list_is o b k (list_end o b p) (list_start o b p) own s e c;
        };
      })

  made_node : (p : ℕ) (own : Forest) → IsGood o b p → StandsAt o b (list_end o b p) (list_start o b p) own
      → Everywhere (IsGood o b) own → count own ≤ k
      → ((y : Node) → IsIn y (entries_nodes (entries_at o b own)) → IsMade o b k y) → (x : Node)
      → IsIn x (nodes (node_of o b p (entries_at o b own))) → IsMade o b k x
  unfolding node_of
  made_node p own g s e c ih x h =
      elim (in_node (attributes_at o b p) (body_named (type_of o b p) (places_at o b p) (entries_at o b own)) x h) [
        | inl i ↦ subst (IsMade o b k) (sym i) (entry_made p own g s e c)
        | inr i ↦ ih x (below_body kind_numbers (type_of o b p) (places_at o b p) (entries_at o b own) x i).1
      ]

  pub made_in : (e q : ℕ) (f : Forest) → StandsAt o b e q f → Everywhere (IsGood o b) f → count f ≤ k → (x : Node)
      → IsIn x (entries_nodes (entries_at o b f)) → IsMade o b k x
  made_in e q none s g c x h = elim h [ ]
  made_in e q (at p own after) s g c x h =
      in-split x (nodes (node_of o b p (entries_at o b own))) (entries_nodes (entries_at o b after)) h
      (λ j. made_node p own g.0 s.2 g.1 (omega arith)
      (λ y m. made_in (list_end o b p) (list_start o b p) own s.2 g.1 (omega arith) y m) x j)
      (λ j. made_in e (end_of o b p) after s.3 g.2 (omega arith) x j)

  module _ (image : IsCramfs o b k) where
    pub root_list : IsList o b k (list_end o b root_place) (list_start o b root_place)
    root_list = record {
      stands = stands_within k o b (list_end o b root_place) (list_start o b root_place) image.within;
      good = everywhere (IsGood o b) (grow k o b (list_end o b root_place) (list_start o b root_place)) image.good;
      few = image.few;
    }

    pub root_known : IsKnown o b k root_place
    root_known = record { header = (let l = image.long in omega arith); body = image.root; list = root_list }

    root_made : IsMade o b k (made o b k root_place)
    unfolding made node_of attributes_at
    root_made = record { is = refl; known = root_known }

    pub all_made : (x : Node) → IsIn x (nodes (made o b k root_place)) → IsMade o b k x
    unfolding made node_of list_at
    all_made x h =
        elim (in_node (attributes_at o b root_place)
        (body_named (type_of o b root_place) (places_at o b root_place)
        (entries_at o b (list_at o b k root_place))) x h) [
          | inl i ↦ subst (IsMade o b k) (sym i) (root_made)
          | inr i ↦ made_in (list_end o b root_place) (list_start o b root_place)
              (grow k o b (list_end o b root_place)
              (list_start o b root_place)) root_list.stands root_list.good root_list.few x
              (below_body kind_numbers (type_of o b root_place) (places_at o b root_place)
              (entries_at o b (list_at o b k root_place)) x i).1
        ]

    pub coherent : IsCoherent (made o b k root_place)
    coherent x y h j e = (all_made x h).is ∙ ap (made o b k) e ∙ sym (all_made y j).is

    -- what a number of the tree names
    pub named : (n : ℕ) (x : Node) → node_at (made o b k root_place) n ≡ Some x → (x ≡ made o b k n) × IsKnown o b k n
    named n x h =
        let f = node_at-some (made o b k root_place) n x h in
        let m = all_made x f.within in
        (m.is ∙ ap (made o b k) f.number, subst (IsKnown o b k) f.number m.known)

    known_by : (n : ℕ) (v : Option Node) → node_at (made o b k root_place) n ≡ v → IsSome v → IsKnown o b k n
    known_by n None e h = absurd (search rules)
    known_by n (Some x) e h = (named n x e).1

    pub known : (n : ℕ) → IsSome (node_at (made o b k root_place) n) → IsKnown o b k n
    known n h = known_by n (node_at (made o b k root_place) n) refl h

    directory_by : (n : ℕ) (v : Option Node) → node_at (made o b k root_place) n ≡ v
        → IsSomeAnd v (λ x. is_directory x ≡ true) → IsKnown o b k n × (type_of o b n ≡ 4)
    unfolding made node_of
    directory_by n None e h = absurd h
    directory_by n (Some x) e h =
        let m = named n x e in
        let d : is_directory (made o b k n) ≡ true = subst (λ (y : Node). is_directory y ≡ true) m.0 h in (
          m.1,
          only_directory kind_numbers (type_of o b n)
              (sym (body_directory_is kind_numbers (type_of o b n) (places_at o b n) (entries_at o b (list_at o b k n)))
              ∙ d),
        )

    -- a directory of the tree
    pub directory_known : (n : ℕ) → IsSomeAnd (node_at (made o b k root_place) n) (λ x. is_directory x ≡ true)
        → IsKnown o b k n × (type_of o b n ≡ 4)
    directory_known n h = directory_by n (node_at (made o b k root_place) n) refl h

pub made_entries : (o : Order) (b : List ℕ) (k p : ℕ) → type_of o b p ≡ 4
    → entries_of (made o b k p) ≡ entries_at o b (list_at o b k p)
unfolding made node_of
made_entries o b k p t = rw (eq-eqb (type_of o b p) 4 t) refl

pub made_ino : (o : Order) (b : List ℕ) (k p : ℕ) → ino_of (made o b k p) ≡ p
unfolding made
made_ino o b k p = ino_is o b p (entries_at o b (list_at o b k p))

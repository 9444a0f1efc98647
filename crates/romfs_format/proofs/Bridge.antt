-- A forest of the relation is the one in the bytes, and its tree is made of them.
use Rattle.std.proofs.Common.{◌≡◌, ◌≢◌, ℕ, zero, suc, ◌+◌, ◌^◌, ◌<◌, ◌≤◌, min, Bool, true, false, eqb, List, [], ◌∷◌}
use Rattle.std.proofs.Common.{◌++◌, length, length-append, None, Some, inl, inr, refl, sym, ap, subst, ◌∙◌, arith}
use Rattle.std.proofs.Common.{if◌then◌else◌}
use Rattle.std.proofs.lemmas.Bool.{ne_eqb, eq-eqb, false≢true}
use Rattle.std.proofs.lemmas.Bool.Decides.{eqb_tells}
use Rattle.std.proofs.lemmas.List.Elements.{recursion_from_All}
use Rattle.std.specs.List.{AllByRecursion as Every, list_any}
use Rattle.rom_tree.specs.Tree.{Node, depth}
use Rattle.record_forest.specs.declared.reference.Reference.{Reference}
use Rattle.record_forest.specs.declared.reference.Row.{Row}
use Rattle.record_forest.specs.Forest.{Forest, none, at, Stands, rows, all_rows, IsForest, count, stands_in}
use Rattle.record_forest.proofs.Lists.{every_join, every_left, every_right, every_weaker, every_both}
use Rattle.record_forest.proofs.Same.{same_forest as same_standing}
use Rattle.romfs_format.specs.Record.{first_of, next_of, type_of, spec_offset_of, IsSound}
use Rattle.romfs_format.specs.Refers.{references, reference_offset, list_of, following, some_offset, heads_itself}
use Rattle.romfs_format.specs.Refers.{LeadsToSound}
use Rattle.romfs_format.specs.Tree.{node_of, tree_of, entries_at, led, follow, below_root, LeadsWell, IsTree, RomfsTree}
use Rattle.romfs_format.specs.Tree.{root_of}
use Rattle.romfs_format.specs.Made.{StandsAt, start_of, grow, list_at, made, ends_within, IsGood, IsRomfs}
use Rattle.romfs_format.proofs.Same.{grown}
use Rattle.romfs_format.proofs.Trees.{begins_root, led_self}

-- the offset that is none, and one that is some
pub offset_none : (q : ℕ) → some_offset q ≡ None → q ≡ 0
offset_none q e = elim (eqb_tells q 0) [ inl h ↦ h.1 | inr h ↦ let z = (rw h.0 at e) in absurd (cc) ]

pub offset_some : (q p : ℕ) → some_offset q ≡ Some p → (q ≢ 0) × (p ≡ q)
offset_some q p e = elim (eqb_tells q 0) [
  | inl h ↦ let z = (rw h.0 at e) in absurd (cc)
  | inr h ↦ let z : Some q
      ≡ Some p = (rw h.0 at e) in (h.1, let y : p ≡ q = cc in y)
]

-- the two references of a record other than the root
pub own_offset : (b : List ℕ) (r p : ℕ) → p ≢ 0 → p ≢ r
    → reference_offset b r (record { source = p; which = 0 }) ≡ first_of b p
unfolding reference_offset list_of
own_offset b r p live other = rw (ne_eqb p 0 live, ne_eqb p r other) refl

pub after_offset : (b : List ℕ) (r p : ℕ) → p ≢ 0 → p ≢ r
    → reference_offset b r (record { source = p; which = 1 }) ≡ next_of b p
unfolding reference_offset following
after_offset b r p live other = rw (ne_eqb p 0 live, ne_eqb p r other) refl

-- those of the root
pub root_own : (b : List ℕ) (r : ℕ) (v : Bool) → heads_itself b r ≡ v → r ≢ 0
    → reference_offset b r (record { source = r; which = 0 }) ≡ (if v then 0 else first_of b r)
unfolding reference_offset list_of
root_own b r v e live = rw (ne_eqb r 0 live, eq-eqb r r refl, e) refl

pub root_after : (b : List ℕ) (r : ℕ) (v : Bool) → heads_itself b r ≡ v → r ≢ 0
    → reference_offset b r (record { source = r; which = 1 }) ≡ (if v then next_of b r else 0)
unfolding reference_offset following
root_after b r v e live = rw (ne_eqb r 0 live, eq-eqb r r refl, e) refl

pub top_offset : (b : List ℕ) (r : ℕ) → reference_offset b r (references b r).top ≡ r
unfolding reference_offset
top_offset b r = refl

-- away from the root, the forest of the references is that of their offsets
pub standing : (b : List ℕ) (r : ℕ) (x : Reference) (directory parent deep : ℕ) (f : Forest)
    → Stands (references b r) x f → Every (λ (y : Row). r ≢ y.offset) (rows (references b r) x directory parent deep f)
    → StandsAt b (reference_offset b r x) f
standing b r x directory parent deep none s h = offset_none (reference_offset b r x) s
standing b r x directory parent deep (at p own after) s h =
    let g = references b r in
    let q : ℕ = reference_offset b r x in
    let e = offset_some q p s.0 in
    let live : p ≢ 0 = λ z. e.0 (sym e.1 ∙ z) in
    let other : p ≢ r = λ z. h.0 (sym z) in
    let own_rows = rows g (g.own x) p directory (deep + 1) own in
    let after_rows = rows g (g.after x) directory parent deep after in
    let left = every_left (λ (y : Row). r ≢ y.offset) own_rows after_rows h.1 in
    let right = every_right (λ (y : Row). r ≢ y.offset) own_rows after_rows h.1 in
    let own_at = standing b r (g.own x) p directory (deep + 1) own s.1 left in
    let after_at = standing b r (g.after x) directory parent deep after s.2 right in
    let own_is : reference_offset b r (record { source = q; which = 0 }) ≡ first_of b p =
    ap (λ (o : ℕ). reference_offset b r (record { source = o; which = 0 })) (sym e.1)
    ∙ own_offset b r p live other in
    let after_is : reference_offset b r (record { source = q; which = 1 }) ≡ next_of b p =
    ap (λ (o : ℕ). reference_offset b r (record { source = o; which = 1 })) (sym e.1)
    ∙ after_offset b r p live other in (
      e.0,
      e.1,
      subst (λ (o : ℕ). StandsAt b o own) own_is own_at,
      subst (λ (o : ℕ). StandsAt b o after) after_is after_at,
    )

-- how many records a forest has
pub count_rows : (b : List ℕ) (r : ℕ) (x : Reference) (directory parent deep : ℕ) (f : Forest)
    → length (rows (references b r) x directory parent deep f) ≡ count f
count_rows b r x directory parent deep none = refl
count_rows b r x directory parent deep (at p own after) =
    let g = references b r in
    let left = count_rows b r (g.own x) p directory (deep + 1) own in
    let right = count_rows b r (g.after x) directory parent deep after in
    let both =
    length-append (rows g (g.own x) p directory (deep + 1) own) (rows g (g.after x) directory parent deep after) in
    omega arith

-- a row's reference leads to its offset
pub row_targets : (b : List ℕ) (r : ℕ) (x : Reference) (directory parent deep : ℕ) (f : Forest)
    → Stands (references b r) x f → Every (λ (y : Row). reference_offset b r y.reference ≡ y.offset)
    (rows (references b r) x directory parent deep f)
row_targets b r x directory parent deep none s = tt
row_targets b r x directory parent deep (at p own after) s =
    let g = references b r in (
      sym (offset_some (reference_offset b r x) p s.0).1,
      every_join (λ (y : Row). reference_offset b r y.reference ≡ y.offset)
          (rows g (g.own x) p directory (deep + 1) own) (rows g (g.after x) directory parent deep after)
          (row_targets b r (g.own x) p directory (deep + 1) own s.1)
          (row_targets b r (g.after x) directory parent deep after s.2),
    )

pub all_targets : (b : List ℕ) (r : ℕ) (f : Forest) → Stands (references b r) (references b r).top f
    → Every (λ (y : Row). reference_offset b r y.reference ≡ y.offset) (all_rows (references b r) f)
all_targets b r none s = tt
all_targets b r (at p own after) s =
    let g = references b r in (
      sym (offset_some (reference_offset b r g.top) p s.0).1,
      every_join (λ (y : Row). reference_offset b r y.reference ≡ y.offset) (rows g (g.own g.top) p p 1 own)
          (rows g (g.after g.top) p p 1 after)
          (row_targets b r (g.own g.top) p p 1 own s.1) (row_targets b r (g.after g.top) p p 1 after s.2),
    )

pub ends_by : (k : ℕ) (b : List ℕ) (q : ℕ) (f : Forest) → StandsAt b q f → count f ≤ k → ends_within k b q ≡ true
ends_by zero b q none s c = eq-eqb q 0 s
ends_by zero b q (at p own after) s c = absurd (omega arith)
ends_by (suc k) b q none s c = rw (eq-eqb q 0 s) refl
ends_by (suc k) b q (at p own after) s c =
    let x = ends_by k b (first_of b p) own s.2 (omega arith) in
    let y = ends_by k b (next_of b p) after s.3 (omega arith) in
    rw (ne_eqb q 0 s.0, ← s.1, x, y) refl

-- what holds of the offset of each row holds of each offset in the forest
from_rows : (P : ℕ → Type 0) (b : List ℕ) (r : ℕ) (x : Reference) (directory parent deep : ℕ) (f : Forest) (q : ℕ)
    → Every (λ (y : Row). P y.offset) (rows (references b r) x directory parent deep f) → stands_in f q ≡ true → P q
from_rows P b r x directory parent deep none q h e = absurd (false≢true e)
from_rows P b r x directory parent deep (at p own after) q h e =
    let g = references b r in
    let own_rows = rows g (g.own x) p directory (deep + 1) own in
    let after_rows = rows g (g.after x) directory parent deep after in
    let left = every_left (λ (y : Row). P y.offset) own_rows after_rows h.1 in
    let right = every_right (λ (y : Row). P y.offset) own_rows after_rows h.1 in
    elim (eqb_tells p q) [
      | inl i ↦ subst P i.1 h.0
      | inr i ↦
          let e' : (if stands_in own q then true else stands_in after q) ≡ true = (rw i.0 at e) in
          elim (stands_in own q) as (λ v. stands_in own q ≡ v → (if v then true else stands_in after q) ≡ true → P q) [
            | true ↦ λ t z. from_rows P b r (g.own x) p directory (deep + 1) own q left t
            | false ↦ λ t z. from_rows P b r (g.after x) directory parent deep after q right z
          ] refl e'
    ]

row_sound : (b : List ℕ) (r t : ℕ) (all : List Row) → Every (λ (x : Row). IsSound b r x.offset) all
    → list_any (λ (x : Row). eqb x.offset t) all ≡ true → IsSound b r t
row_sound b r t [] h e = absurd (false≢true e)
row_sound b r t (x ∷ xs) h e = elim (eqb_tells x.offset t) [
  | inl k ↦ subst (IsSound b r) k.1 h.0
  | inr k ↦ row_sound b r t xs h.1 (rw k.0 at e)
]

-- the first link first
led_inner : (n : ℕ) (b : List ℕ) (p : ℕ) → type_of b p ≡ 0 → led (suc n) b p ≡ led n b (spec_offset_of b p)
unfolding led
led_inner zero b p h = rw (eq-eqb (type_of b p) 0 h) refl
led_inner (suc n) b p h = ap (λ (q : ℕ). if eqb (type_of b q) 0 then spec_offset_of b q else q) (led_inner n b p h)

-- where following leads
record IsLed (b : List ℕ) (r m p q : ℕ) : Type 0 where
  leads : led m b p ≡ q
  live : type_of b q ≢ 0
  linked : (n : ℕ) → n ≤ m → IsSound b r (led n b p)

stays : (b : List ℕ) (r m p : ℕ) → IsSound b r p → type_of b p ≢ 0 → IsLed b r m p p
stays b r m p s h =
    record { leads = led_self m b p h; live = h; linked = λ n l. subst (IsSound b r) (sym (led_self n b p h)) s }

onward : (b : List ℕ) (r m p q : ℕ) → IsSound b r p → type_of b p ≡ 0 → IsLed b r m (spec_offset_of b p) q
    → IsLed b r (suc m) p q
unfolding led
onward b r m p q s h x = record { leads = led_inner m b p h ∙ x.leads; live = x.live; linked = step } where
  step : (n : ℕ) → n ≤ suc m → IsSound b r (led n b p)
  step zero l = s
  step (suc n) l = subst (IsSound b r) (sym (led_inner n b p h)) (x.linked n (omega arith))

follow_led : (b : List ℕ) (r m p q : ℕ) (all : List Row) → Every (λ (x : Row). IsSound b r x.offset) all → IsSound b r p
    → follow b all m p ≡ Some q → IsLed b r m p q
unfolding follow
follow_led b r zero p q all a s e = elim (eqb_tells (type_of b p) 0) [
  | inl h ↦ let z = (rw h.0 at e) in absurd (cc)
  | inr h ↦ let z : Some p ≡ Some q =
      (rw h.0 at e) in let y : p ≡ q = cc in subst (IsLed b r 0 p) y (stays b r 0 p s h.1)
]
follow_led b r (suc m) p q all a s e = elim (eqb_tells (type_of b p) 0) [
  | inl h ↦
      let e' : (if list_any (λ (x : Row). eqb x.offset (spec_offset_of b p)) all
      then follow b all m (spec_offset_of b p) else None) ≡ Some q = (rw h.0 at e) in
      elim (list_any (λ (x : Row). eqb x.offset (spec_offset_of b p)) all) as
      (λ v. list_any (λ (x : Row). eqb x.offset (spec_offset_of b p)) all ≡ v
      → (if v then follow b all m (spec_offset_of b p) else None) ≡ Some q → IsLed b r (suc m) p q) [
        | true ↦ λ t z. onward b r m p q s h.1
            (follow_led b r m (spec_offset_of b p) q all a (row_sound b r (spec_offset_of b p) all a t) z)
        | false ↦ λ t z. absurd (cc)
      ] refl e'
  | inr h ↦ let z : Some p ≡ Some q =
      (rw h.0 at e) in let y : p ≡ q = cc in subst (IsLed b r (suc m) p) y (stays b r (suc m) p s h.1)
]

good_of : (b : List ℕ) (r : ℕ) (all : List Row) → Every (λ (x : Row). IsSound b r x.offset) all → (x : Row)
    → IsSound b r x.offset → r ≢ x.offset → LeadsWell b all x → IsGood b r x.offset
good_of b r all a x s o l = elim (eqb_tells (type_of b x.offset) 0) [
  | inl h ↦ record {
    sound = s;
    other = λ e. o (sym e);
    linked = λ d. let k = l.link d h.1 in (follow_led b r 8 x.offset k.0 all a s k.1).linked;
    ends = λ d. let k = l.link d h.1 in let m =
        follow_led b r 8 x.offset k.0 all a s k.1 in λ z. m.live (ap (type_of b) (sym m.leads) ∙ z);
    leaf = λ d t. let k = l.link d h.1 in let m =
        follow_led b r 8 x.offset k.0 all a s k.1 in λ z. k.2 (ap (type_of b) (sym m.leads) ∙ z);
  }
  | inr h ↦ let m = stays b r 8 x.offset s h.1 in record {
    sound = s;
    other = λ e. o (sym e);
    linked = λ d. m.linked;
    ends = λ d z. h.1 (ap (type_of b) (sym m.leads) ∙ z);
    leaf = λ d t. absurd (h.1 t);
  }
]

-- the facts that a whole forest has of the records below its root
pub record IsBelow (b : List ℕ) (r k : ℕ) (f : Forest) : Type 0 where
  pub stands : StandsAt b (start_of b r) (below_root b r f)
  pub few : count (below_root b r f) ≤ k
  pub good : (p : ℕ) → stands_in (below_root b r f) p ≡ true → IsGood b r p
  pub root : IsSound b r r

-- the forest that begins with the root
below_at : (b : List ℕ) (r p k : ℕ) (own after : Forest) (v : Bool) → heads_itself b r ≡ v → r ≢ 0 → p ≡ r
    → IsSound b r r
    → Stands (references b r) ((references b r).own (references b r).top) own
    → Stands (references b r) ((references b r).after (references b r).top) after
    → Every (λ (y : Row). IsGood b r y.offset)
    (rows (references b r) ((references b r).own (references b r).top) p p 1 own)
    → Every (λ (y : Row). IsGood b r y.offset)
    (rows (references b r) ((references b r).after (references b r).top) p p 1 after)
    → count own + count after ≤ k → IsBelow b r k (at p own after)
unfolding start_of
below_at b r p k own after true e live same sound so sa go ga few =
    let g = references b r in
    let apart = every_weaker (λ (y : Row). IsGood b r y.offset) (λ (y : Row). r ≢ y.offset) (λ y h z. h.other (sym z))
    (rows g (g.after g.top) p p 1 after) ga in
    let here = standing b r (g.after g.top) p p 1 after sa apart in
    let is : reference_offset b r (g.after g.top) ≡ next_of b r =
    ap (λ (o : ℕ). reference_offset b r (record { source = o; which = 1 })) (top_offset b r)
    ∙ root_after b r true e live in
    record {
      stands = rw (e) (subst (λ (o : ℕ). StandsAt b o after) is here);
      few = rw (e) (omega arith);
      good = λ q t. from_rows (IsGood b r) b r (g.after g.top) p p 1 after q ga (rw (e) at t);
      root = sound;
    }
below_at b r p k own after false e live same sound so sa go ga few =
    let g = references b r in
    let apart = every_weaker (λ (y : Row). IsGood b r y.offset) (λ (y : Row). r ≢ y.offset) (λ y h z. h.other (sym z))
    (rows g (g.own g.top) p p 1 own) go in
    let here = standing b r (g.own g.top) p p 1 own so apart in
    let is : reference_offset b r (g.own g.top) ≡ first_of b r =
    ap (λ (o : ℕ). reference_offset b r (record { source = o; which = 0 })) (top_offset b r)
    ∙ root_own b r false e live in
    record {
      stands = rw (e) (subst (λ (o : ℕ). StandsAt b o own) is here);
      few = rw (e) (omega arith);
      good = λ q t. from_rows (IsGood b r) b r (g.own g.top) p p 1 own q go (rw (e) at t);
      root = sound;
    }

-- each row except the root's is good
good_rows : (b : List ℕ) (r : ℕ) (all xs : List Row) → Every (λ (y : Row). IsSound b r y.offset) all
    → Every (λ (y : Row). IsSound b r y.offset) xs → Every (λ (y : Row). r ≢ y.offset) xs → Every (LeadsWell b all) xs
    → Every (λ (y : Row). IsGood b r y.offset) xs
good_rows b r all xs sound s apart leads =
    every_weaker (λ (y : Row). IsSound b r y.offset × ((r ≢ y.offset) × LeadsWell b all y))
    (λ (y : Row). IsGood b r y.offset)
    (λ y h. good_of b r all sound y h.0 h.1.0 h.1.1) xs
    (every_both (λ (y : Row). IsSound b r y.offset) (λ (y : Row). (r ≢ y.offset) × LeadsWell b all y) xs s
    (every_both (λ (y : Row). r ≢ y.offset) (LeadsWell b all) xs apart leads))

pub sound_rows : (b : List ℕ) (r most : ℕ) (f : Forest) → IsForest (references b r) (LeadsToSound b r) most f
    → Every (λ (y : Row). IsSound b r y.offset) (all_rows (references b r) f)
sound_rows b r most f t =
    every_weaker (λ (y : Row). LeadsToSound b r y.reference × (reference_offset b r y.reference ≡ y.offset))
    (λ (y : Row). IsSound b r y.offset) (λ y h. subst (IsSound b r) h.1 h.0) (all_rows (references b r) f)
    (every_both (λ (y : Row). LeadsToSound b r y.reference) (λ (y : Row). reference_offset b r y.reference ≡ y.offset)
    (all_rows (references b r) f)
    (recursion_from_All (λ (y : Row). LeadsToSound b r y.reference) (all_rows (references b r) f) t.sound)
    (all_targets b r f t.stands))

below_of : (b : List ℕ) (r most deepest : ℕ) (f : Forest) → r ≢ 0 → IsTree b r most deepest f
    → IsBelow b r (length (all_rows (references b r) f)) f
below_of b r most deepest none live t =
    absurd (live (sym (top_offset b r) ∙ offset_none (reference_offset b r (references b r).top) t.forest.stands))
below_of b r most deepest (at p own after) live t =
    let g = references b r in
    let all = all_rows g (at p own after) in
    let own_rows = rows g (g.own g.top) p p 1 own in
    let after_rows = rows g (g.after g.top) p p 1 after in
    let same : p ≡ r = (offset_some (reference_offset b r g.top) p t.forest.stands.0).1 ∙ top_offset b r in
    let sound = sound_rows b r most (at p own after) t.forest in
    let apart : Every (λ (y : Row). r ≢ y.offset) (own_rows ++ after_rows) =
    recursion_from_All (λ (y : Row). r ≢ y.offset) (own_rows ++ after_rows)
    (λ i d l z. t.forest.single 0 (suc i) d (omega arith) (omega arith) (same ∙ z)) in
    let leads : Every (LeadsWell b all) (own_rows ++ after_rows) =
    recursion_from_All (LeadsWell b all) (own_rows ++ after_rows) t.leads in
    let good = good_rows b r all (own_rows ++ after_rows) sound sound.1 apart leads in
    let n = count_rows b r (g.own g.top) p p 1 own in
    let m = count_rows b r (g.after g.top) p p 1 after in
    let both = length-append own_rows after_rows in
    below_at b r p (length all) own after (heads_itself b r) refl live same
    (subst (IsSound b r) same sound.0) t.forest.stands.1 t.forest.stands.2
    (every_left (λ (y : Row). IsGood b r y.offset) own_rows after_rows good)
    (every_right (λ (y : Row). IsGood b r y.offset) own_rows after_rows good) (omega arith)

module _ (b : List ℕ) (r k : ℕ) (f : Forest) (w : IsBelow b r k f) where
  growth : grow k b (start_of b r) ≡ below_root b r f
  growth = grown k b (start_of b r) (below_root b r f) w.stands w.few

  pub same_image : tree_of b r f ≡ made b r k r
  unfolding tree_of made list_at
  same_image = ap (λ (g : Forest). node_of b r (entries_at b g)) (sym growth ∙ ap (grow k b) (sym (begins_root b r)))

  pub is_romfs : (deepest : ℕ) → depth (tree_of b r f) ≤ min deepest 64 → length b < 2 ^ 32 → type_of b r ≡ 1
      → IsRomfs b r k
  is_romfs deepest shallow small kind = record {
    small = small;
    directory = kind;
    root = w.root;
    within = ends_by k b (start_of b r) (below_root b r f) w.stands w.few;
    few = subst (λ (g : Forest). count g ≤ k) (sym growth) w.few;
    good = λ p e. w.good p (subst (λ (g : Forest). stands_in g p ≡ true) growth e);
    shallow = (let e : depth (tree_of b r f) ≤ 64 = omega arith in subst (λ (x : Node). depth x ≤ 64) same_image e);
  }

-- what a check has to show, from the relation, with the number of records as the count
pub accepted : (b : List ℕ) (r most deepest : ℕ) (f : Forest) → r ≢ 0 → IsTree b r most deepest f → length b < 2 ^ 32
    → type_of b r ≡ 1
    → IsRomfs b r (length (all_rows (references b r) f))
    × (tree_of b r f ≡ made b r (length (all_rows (references b r) f)) r)
accepted b r most deepest f live t small kind =
    let w = below_of b r most deepest f live t in
    let k : ℕ = length (all_rows (references b r) f) in
    (is_romfs b r k f w deepest t.shallow small kind, same_image b r k f w)

ap₃ : {A B C D : Type 0} (f : A → B → C → D) {a a' : A} {b b' : B} {c c' : C} → a ≡ a' → b ≡ b' → c ≡ c'
    → f a b c ≡ f a' b' c'
ap₃ f p q r = cc

pub same_tree : (bytes : List ℕ) (m n d e : ℕ) (t u : Node) → RomfsTree bytes m d t → RomfsTree bytes n e u → t ≡ u
same_tree bytes m n d e t u x y =
    let eb : x.b ≡ y.b = x.super.cut ∙ sym y.super.cut in
    let er : x.r ≡ y.r = x.super.root ∙ ap root_of eb ∙ sym y.super.root in
    let P : List ℕ → ℕ → Type 0 = λ b r. Stands (references b r) (references b r).top y.forest in
    let again : P x.b x.r = rw (eb, er) y.whole.forest.stands in
    let ef =
    same_standing (references x.b x.r) (references x.b x.r).top x.forest y.forest x.whole.forest.stands again in
    x.same ∙ ap₃ tree_of eb er ef ∙ sym y.same

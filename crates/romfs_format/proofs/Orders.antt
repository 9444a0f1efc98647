-- The order of the records of one list, and of the rows of a forest.
use Rattle.std.proofs.Common.{◌≡◌, ◌≢◌, ℕ, ◌+◌, ◌<◌, List, [], ◌∷◌, ◌++◌, Some, inl, inr, refl, sym, ap, subst, ◌∙◌}
use Rattle.std.proofs.Common.{arith}
use Rattle.record_forest.specs.declared.reference.Reference.{Reference}
use Rattle.record_forest.specs.declared.reference.Row.{Row}
use Rattle.record_forest.specs.Members.{Has}
use Rattle.record_forest.specs.References.{IsLive}
use Rattle.record_forest.specs.Forest.{Forest, none, at, Stands, rows}
use Rattle.record_forest.proofs.Lists.{has_left, has_right}
use Rattle.record_forest.proofs.Run.{live_some}
use Rattle.record_forest.proofs.Exact.{split_at}
use Rattle.record_forest.proofs.Orders.{Follows, next as next_after, further as further_after}
use Rattle.romfs_format.specs.Refers.{references, reference_offset, following, LeadsToSound}
use Rattle.romfs_format.specs.Faults.{IsListed, ComesAfter, next, further}
use Rattle.romfs_format.proofs.Bridge.{offset_some, offset_none}
use Rattle.romfs_format.proofs.Lawful.{after_following}

-- the reference to the record after that at p holds its offset
after_at : (b : List ℕ) (r : ℕ) (x : Reference) (p : ℕ) → (references b r).target x ≡ Some p
    → reference_offset b r ((references b r).after x) ≡ following b r p
after_at b r x p e = let q = offset_some (reference_offset b r x) p e in after_following b r
    (reference_offset b r x) q.0 ∙ ap (following b r) (sym q.1)

pub live_offset : (b : List ℕ) (r : ℕ) (x : Reference) → IsLive (references b r) x → reference_offset b r x ≢ 0
live_offset b r x l =
    let q = live_some ((references b r).target x) l in (offset_some (reference_offset b r x) q.0 q.1).0

-- if one reference follows another in a list, its record comes after the other's
pub follows_comes : (b : List ℕ) (r d : ℕ) (x y : Reference) → 0 < r → IsListed b r d (reference_offset b r x)
    → Follows (references b r) (LeadsToSound b r) x y
    → ComesAfter b r d (reference_offset b r x) (reference_offset b r y)
follows_comes b r d x y above listed (next_after sound e live) =
    let from = sound.from_root in
    next listed sound (sym (after_following b r (reference_offset b r x) (λ z. absurd (omega arith)))
    ∙ ap (reference_offset b r) e) (live_offset b r y live)
follows_comes b r d x y above listed (further_after {y = z} c sound e live) =
    let from = sound.from_root in
    further (follows_comes b r d x z above listed c) sound
    (sym (after_following b r (reference_offset b r z) (λ k. absurd (omega arith))) ∙ ap (reference_offset b r) e)
    (live_offset b r y live)

-- of two rows of one list, the later one's record comes after the other's
abbrev pub Comes : (b : List ℕ) (r : ℕ) → Row → Row → Type 0
Comes b r y z = y.directory ≡ z.directory → ComesAfter b r y.directory y.offset z.offset

-- each member with those after it
abbrev pub Tailed : (Row → List Row → Type 0) → List Row → Type 0
Tailed P [] = Unit {0}
Tailed P (x ∷ xs) = P x xs × Tailed P xs

-- if a record follows, its row is later, in the same list
abbrev pub Followed : List ℕ → ℕ → Row → List Row → Type 0
Followed b r y tail =
    (q : ℕ) → following b r y.offset ≡ q → q ≢ 0 → Has (λ (z : Row). (z.offset ≡ q) × (z.directory ≡ y.directory)) tail

pub tailed_join : (b : List ℕ) (r : ℕ) (xs ys : List Row) → Tailed (Followed b r) xs → Tailed (Followed b r) ys
    → Tailed (Followed b r) (xs ++ ys)
tailed_join b r [] ys h k = k
tailed_join b r (x ∷ xs) ys h k = (
  (λ q e l. has_left (λ (z : Row). (z.offset ≡ q) × (z.directory ≡ x.directory)) xs ys
      (h.0 q e l)),
  tailed_join b r xs ys h.1 k,
)

-- the record that follows that of a reference
pub follows : (b : List ℕ) (r : ℕ) (x : Reference) (p directory parent depth : ℕ) (after : Forest)
    → (references b r).target x ≡ Some p → Stands (references b r) ((references b r).after x) after
    → (q : ℕ) → following b r p ≡ q → q ≢ 0
    → Has (λ (z : Row). (z.offset ≡ q) × (z.directory ≡ directory))
    (rows (references b r) ((references b r).after x) directory parent depth after)
follows b r x p directory parent depth none e s q i l =
    absurd (l (sym i ∙ sym (after_at b r x p e) ∙ offset_none (reference_offset b r ((references b r).after x)) s))
follows b r x p directory parent depth (at o own after) e s q i l =
    inl ((offset_some (reference_offset b r ((references b r).after x)) o s.0).1 ∙ after_at b r x p e ∙ i, refl)

pub followed : (b : List ℕ) (r : ℕ) (x : Reference) (directory parent depth : ℕ) (f : Forest)
    → Stands (references b r) x f → Tailed (Followed b r) (rows (references b r) x directory parent depth f)
followed b r x directory parent depth none s = tt
followed b r x directory parent depth (at p own after) s =
    let g = references b r in
    let own_rows = rows g (g.own x) p directory (depth + 1) own in
    let after_rows = rows g (g.after x) directory parent depth after in (
      (λ q e l. has_right (λ (z : Row). (z.offset ≡ q) × (z.directory ≡ directory)) own_rows after_rows
          (follows b r x p directory parent depth after s.0 s.2 q e l)),
      tailed_join b r own_rows after_rows (followed b r (g.own x) p directory (depth + 1) own s.1)
          (followed b r (g.after x) directory parent depth after s.2),
    )

-- the record that follows one of the rows has a row among them
pub follows_in : (b : List ℕ) (r d p q : ℕ) (xs : List Row) → Tailed (Followed b r) xs
    → Has (λ (z : Row). (z.offset ≡ p) × (z.directory ≡ d)) xs → following b r p ≡ q → q ≢ 0
    → Has (λ (z : Row). (z.offset ≡ q) × (z.directory ≡ d)) xs
follows_in b r d p q [] t h e l = absurd h
follows_in b r d p q (x ∷ xs) t (inl h) e l =
    inr (has_weaker' (t.0 q (ap (following b r) h.0 ∙ e) l))
  where
    has_weaker' : Has (λ (z : Row). (z.offset ≡ q) × (z.directory ≡ x.directory)) xs
        → Has (λ (z : Row). (z.offset ≡ q) × (z.directory ≡ d)) xs
    has_weaker' k = subst (λ (u : ℕ). Has (λ (z : Row). (z.offset ≡ q) × (z.directory ≡ u)) xs) h.1 k
follows_in b r d p q (x ∷ xs) t (inr h) e l = inr (follows_in b r d p q xs t.1 h e l)

-- in the rows one of this directory is at p, and one at q later
pub record Precedes (d p q : ℕ) (xs : List Row) : Type 0 where
  pub before : List Row
  pub row : Row
  pub after : List Row
  pub among : xs ≡ before ++ row ∷ after
  pub offset : row.offset ≡ p
  pub directory : row.directory ≡ d
  pub later : Has (λ (z : Row). (z.offset ≡ q) × (z.directory ≡ d)) after

tailed_right : (b : List ℕ) (r : ℕ) (xs ys : List Row) → Tailed (Followed b r) (xs ++ ys) → Tailed (Followed b r) ys
tailed_right b r [] ys h = h
tailed_right b r (x ∷ xs) ys h = tailed_right b r xs ys h.1

-- If the record at q comes after that at p, so do the rows.
pub comes_precedes : (b : List ℕ) (r d p q : ℕ) (xs : List Row) → Tailed (Followed b r) xs
    → ((u : ℕ) → IsListed b r d u → Has (λ (z : Row). (z.offset ≡ u) × (z.directory ≡ d)) xs) → ComesAfter b r d p q
    → Precedes d p q xs
comes_precedes b r d p q xs t rows (next listed sound e live) =
    let s = split_at (λ (z : Row). (z.offset ≡ p) × (z.directory ≡ d)) xs (rows p listed) in
    let k = tailed_right b r s.0 (s.1 ∷ s.2) (subst (Tailed (Followed b r)) s.3 t) in
    let h = k.0 q (ap (following b r) s.4.0 ∙ e) live in
    record {
      before = s.0;
      row = s.1;
      after = s.2;
      among = s.3;
      offset = s.4.0;
      directory = s.4.1;
      later = subst (λ (u : ℕ). Has (λ (z : Row). (z.offset ≡ q) × (z.directory ≡ u)) s.2) s.4.1 h;
    }
comes_precedes b r d p s xs t rows (further {q = q} c sound e live) =
    let i = comes_precedes b r d p q xs t rows c in
    let k = tailed_right b r i.before (i.row ∷ i.after) (subst (Tailed (Followed b r)) i.among t) in
    record {
      before = i.before;
      row = i.row;
      after = i.after;
      among = i.among;
      offset = i.offset;
      directory = i.directory;
      later = follows_in b r d q s i.after k.1 i.later e live;
    }

-- Extents that are left out of a list because they are in it already.
use Rattle.std.proofs.Common.{◌≡◌, ℕ, max, true, Option, None, Some, List, [], ◌∷◌, ◌++◌, ◌⊎◌, inl, inr, refl, sym, ap}
use Rattle.std.proofs.Common.{subst, ◌∙◌, append_assoc, append-nil}
use Rattle.std.proofs.Math.Nat.{max_comm}
use Rattle.std.specs.Prelude.{IfSome}
use Rattle.std.specs.List.{AllByRecursion as Every}
use Rattle.rom_fields.specs.declared.span.Span.{Span}
use Rattle.rom_fields.specs.Extents.{is_shareable, Overlap, MeetsAt, OverlapsAt, IsLeastOf}
use Rattle.record_forest.specs.Members.{Has}
use Rattle.record_forest.proofs.Lists.{has_left, has_right, has_cases, has_weaker}

-- y is in the list
abbrev pub Member : Span → List Span → Type 0
Member z xs = Has (λ (y : Span). y ≡ z) xs

-- x and y overlap at p
abbrev Hit : ℕ → Span → Span → Type 0
Hit p x y = Overlap x y × (p ≡ max x.start y.start)

meets_has : (x : Span) (ys : List Span) (p : ℕ) → MeetsAt x ys p → Has (Hit p x) ys
meets_has x [] p h = h
meets_has x (y ∷ ys) p (inl h) = inl h
meets_has x (y ∷ ys) p (inr h) = inr (meets_has x ys p h)

has_meets : (x : Span) (ys : List Span) (p : ℕ) → Has (Hit p x) ys → MeetsAt x ys p
has_meets x [] p h = h
has_meets x (y ∷ ys) p (inl h) = inl h
has_meets x (y ∷ ys) p (inr h) = inr (has_meets x ys p h)

turned : (p : ℕ) (x y : Span) → Hit p x y → Hit p y x
turned p x y h = (
  (
    (h.0.0.0, h.0.0.2, h.0.0.1),
    λ s. h.0.1
        (record {
          kind = sym s.kind;
          shareable = ap is_shareable (sym s.kind) ∙ s.shareable;
          start = sym s.start;
          len = sym s.len;
        }),
  ),
  h.1 ∙ max_comm x.start y.start,
)

push_cases : (xs : List Span) (x : Span) (p : ℕ) → OverlapsAt (xs ++ x ∷ []) p
    → OverlapsAt xs p ⊎ Has (λ y. Hit p y x) xs
push_cases [] x p (inl h) = absurd h
push_cases [] x p (inr h) = absurd h
push_cases (z ∷ zs) x p (inl m) = elim (has_cases (Hit p z) zs (x ∷ []) (meets_has z (zs ++ x ∷ []) p m)) [
  | inl h ↦ inl (inl (has_meets z zs p h))
  | inr h ↦ elim h [ inl k ↦ inr (inl k) | inr k ↦ absurd k ]
]
push_cases (z ∷ zs) x p (inr o) = elim (push_cases zs x p o) [ inl h ↦ inl (inr h) | inr h ↦ inr (inr h) ]

push_left : (xs : List Span) (x : Span) (p : ℕ) → OverlapsAt xs p → OverlapsAt (xs ++ x ∷ []) p
push_left [] x p h = absurd h
push_left (z ∷ zs) x p (inl m) =
    inl (has_meets z (zs ++ x ∷ []) p (has_left (Hit p z) zs (x ∷ []) (meets_has z zs p m)))
push_left (z ∷ zs) x p (inr h) = inr (push_left zs x p h)

push_right : (xs : List Span) (x : Span) (p : ℕ) → Has (λ y. Hit p y x) xs → OverlapsAt (xs ++ x ∷ []) p
push_right [] x p h = absurd h
push_right (z ∷ zs) x p (inl h) = inl (has_meets z (zs ++ x ∷ []) p (has_right (Hit p z) zs (x ∷ []) (inl h)))
push_right (z ∷ zs) x p (inr h) = inr (push_right zs x p h)

-- what some member has, another list has whose members include these
carried : (P : Span → Type 0) (xs ys : List Span) → ((z : Span) → Member z xs → Member z ys) → Has P xs → Has P ys
carried P [] ys into h = absurd h
carried P (x ∷ xs) ys into (inl h) =
    has_weaker (λ (y : Span). y ≡ x) P (λ y e. subst P (sym e) h) ys (into x (inl refl))
carried P (x ∷ xs) ys into (inr h) = carried P xs ys (λ z k. into z (inr k)) h

-- two members that overlap
two_members : (x : Span) (p : ℕ) (ks : List Span) → is_shareable x.kind ≡ true → Member x ks → Has (λ y. Hit p y x) ks
    → OverlapsAt ks p
two_members x p [] s e h = absurd h
two_members x p (z ∷ zs) s (inl e) (inl h) =
    absurd (h.0.1 (record {
      kind = ap (λ (y : Span). y.kind) e;
      shareable = ap (λ (y : Span). is_shareable y.kind) e ∙ s;
      start = ap (λ (y : Span). y.start) e;
      len =
          ap (λ (y : Span). y.len) e;
    }))
two_members x p (z ∷ zs) s (inl e) (inr h) =
    inl (has_meets z zs p (has_weaker (λ (y : Span). Hit p y x) (Hit p z)
    (λ y k. subst (λ (v : Span). Hit p v y) (sym e) (turned p y x k)) zs h))
two_members x p (z ∷ zs) s (inr e) (inl h) =
    inl (has_meets z zs p (has_weaker (λ (y : Span). y ≡ x) (Hit p z)
    (λ y k. subst (λ (v : Span). Hit p z v) (sym k) h) zs e))
two_members x p (z ∷ zs) s (inr e) (inr h) = inr (two_members x p zs s e h)

-- the lists have the same members and overlap at the same offsets
pub record Same (ks fs : List Span) : Type 0 where
  pub into : (z : Span) → Member z ks → Member z fs
  pub back : (z : Span) → Member z fs → Member z ks
  pub over : (p : ℕ) → OverlapsAt ks p → OverlapsAt fs p
  pub under : (p : ℕ) → OverlapsAt fs p → OverlapsAt ks p

pub same_self : (xs : List Span) → Same xs xs
same_self xs = record { into = λ z h. h; back = λ z h. h; over = λ p h. h; under = λ p h. h }

member_push : (z x : Span) (xs ys : List Span) → (Member z xs → Member z ys) → Member z (xs ++ x ∷ [])
    → Member z (ys ++ x ∷ [])
member_push z x xs ys f h = elim (has_cases (λ (y : Span). y ≡ z) xs (x ∷ []) h) [
  | inl k ↦ has_left (λ (y : Span). y ≡ z) ys (x ∷ []) (f k)
  | inr k ↦ has_right (λ (y : Span). y ≡ z) ys (x ∷ []) k
]

keep_one : (ks fs : List Span) (x : Span) → Same ks fs → Same (ks ++ x ∷ []) (fs ++ x ∷ [])
keep_one ks fs x s = record {
  into = λ z. member_push z x ks fs (s.into z);
  back = λ z. member_push z x fs ks (s.back z);
  over = λ p h. elim (push_cases ks x p h)
      [ inl k ↦ push_left fs x p (s.over p k) | inr k ↦ push_right fs x p (carried (λ y. Hit p y x) ks fs s.into k) ];
  under = λ p h. elim (push_cases fs x p h)
      [ inl k ↦ push_left ks x p (s.under p k) | inr k ↦ push_right ks x p (carried (λ y. Hit p y x) fs ks s.back k) ];
}

drop_one : (ks fs : List Span) (x : Span) → Same ks fs → is_shareable x.kind ≡ true → Member x ks
    → Same ks (fs ++ x ∷ [])
drop_one ks fs x s e m = record {
  into = λ z h. has_left (λ (y : Span). y ≡ z) fs (x ∷ []) (s.into z h);
  back = λ z h. elim (has_cases (λ (y : Span). y ≡ z) fs (x ∷ []) h) [
    | inl k ↦ s.back z k
    | inr k ↦ elim k [ inl i ↦ subst (λ (v : Span). Member v ks) i m | inr i ↦ absurd i ]
  ];
  over = λ p h. push_left fs x p (s.over p h);
  under = λ p h. elim (push_cases fs x p h)
      [ inl k ↦ s.under p k | inr k ↦ two_members x p ks e m (carried (λ y. Hit p y x) fs ks s.back k) ];
}

pub same_keep : (ks fs xs : List Span) → Same ks fs → Same (ks ++ xs) (fs ++ xs)
same_keep ks fs [] s = rw (append-nil ks, append-nil fs) s
same_keep ks fs (x ∷ xs) s =
    subst (λ (v : List Span). Same v (fs ++ x ∷ xs)) (append_assoc ks (x ∷ []) xs)
    (subst (λ (v : List Span). Same ((ks ++ x ∷ []) ++ xs) v) (append_assoc fs (x ∷ []) xs)
    (same_keep (ks ++ x ∷ []) (fs ++ x ∷ []) xs (keep_one ks fs x s)))

-- a member that may be shared
pub record IsRepeat (ks : List Span) (x : Span) : Type 0 where
  pub shareable : is_shareable x.kind ≡ true
  pub member : Member x ks

pub same_drop : (ks fs xs : List Span) → Same ks fs → Every (IsRepeat ks) xs → Same ks (fs ++ xs)
same_drop ks fs [] s h = rw (append-nil fs) s
same_drop ks fs (x ∷ xs) s h = subst (Same ks) (append_assoc fs (x ∷ []) xs)
    (same_drop ks (fs ++ x ∷ []) xs (drop_one ks fs x s h.0.shareable h.0.member) h.1)

least_if : (P Q : ℕ → Type 0) (v : Option ℕ) → ((p : ℕ) → P p → Q p) → IfSome v P → IfSome v Q
least_if P Q None f h = h
least_if P Q (Some p) f h = f p h

pub same_least : (ks fs : List Span) (v : Option ℕ) → Same ks fs → IsLeastOf (OverlapsAt ks) v
    → IsLeastOf (OverlapsAt fs) v
same_least ks fs v s h =
    record { here = least_if (OverlapsAt ks) (OverlapsAt fs) v s.over h.here; least = λ p k. h.least p (s.under p k) }

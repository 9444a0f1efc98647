-- The references that a traversal has looked at, and those that it has still to look at.
use Rattle.std.proofs.Common.{◌≡◌, ◌≢◌, ℕ, Bool, true, false, List, [], ◌∷◌, ◌++◌, ◌⊎◌, inl, inr, refl, sym, subst, ◌∙◌}
use Rattle.std.proofs.Common.{append_assoc, Option, None, Some, IsSome}
use Rattle.std.proofs.lemmas.List.{append-nil}
use Rattle.std.proofs.lemmas.Bool.{true≢false, false≢true}
use Rattle.std.specs.List.{AllByRecursion as Every}
use Rattle.record_forest.specs.declared.reference.Reference.{Reference}
use Rattle.record_forest.specs.Members.{Has, Pairs}
use Rattle.record_forest.specs.References.{References, edge, IsLive, Reached, top, more, AreLawful}
use Rattle.record_forest.proofs.Lists.{every_left, every_right, every_weaker, every_put, has_left, has_right}
use Rattle.record_forest.proofs.Lists.{has_weaker, has_put, has_of, pairs_put, pairs_cross}

-- x follows from a valid reference that was looked at
pub record Follows (g : References) (Sound : Reference → Type 0) (done : List Reference) (x : Reference) : Type 0 where
  pub source : Reference
  pub kind : Bool
  pub among : Has (λ y. y ≡ source) done
  pub sound : Sound source
  pub is : edge g kind source ≡ x

abbrev pub Known : (g : References) (Sound : Reference → Type 0) → List Reference → Reference → Type 0
Known g Sound done x = (x ≡ g.top) ⊎ Follows g Sound done x

-- All that were seen: those that were looked at, and those that wait.
pub record Seen (g : References) (Sound : Reference → Type 0) (done waiting : List Reference) : Type 0 where
  pub reached : Every (Reached g Sound) (done ++ waiting)
  pub known : Every (Known g Sound done) (done ++ waiting)
  pub differ : Pairs (λ x y. x ≢ y) (done ++ waiting)
  pub started : Has (λ x. x ≡ g.top) (done ++ waiting)

-- what follows from z was seen
abbrev pub Closed : (g : References) (Sound : Reference → Type 0) → List Reference → Reference → Type 0
Closed g Sound seen z = Sound z → (k : Bool) → IsLive g (edge g k z) → Has (λ y. y ≡ edge g k z) seen

-- a reference that leads nowhere does not wait
abbrev pub keep : Option ℕ → Reference → List Reference → List Reference
keep None x xs = xs
keep (Some p) x xs = x ∷ xs

pub every_keep : (P : Reference → Type 0) (xs ys : List Reference) (t : Option ℕ) (x : Reference) → Every P (xs ++ ys)
    → (IsSome t → P x) → Every P (xs ++ keep t x ys)
every_keep P xs ys None x h k = h
every_keep P xs ys (Some p) x h k = every_put P xs ys x h (k refl)

pub has_keep : (P : Reference → Type 0) (xs ys : List Reference) (t : Option ℕ) (x : Reference) → Has P (xs ++ ys)
    → Has P (xs ++ keep t x ys)
has_keep P xs ys None x h = h
has_keep P xs ys (Some p) x h = has_put P xs ys x h

pub kept : (P : Reference → Type 0) (xs ys : List Reference) (t : Option ℕ) (x : Reference) → IsSome t → P x
    → Has P (xs ++ keep t x ys)
kept P xs ys None x live h = absurd (false≢true live)
kept P xs ys (Some p) x live h = has_right P xs (x ∷ ys) (inl h)

-- what is looked at goes from the one list to the other
pub moved : (done ws : List Reference) (q : Reference) → done ++ q ∷ ws ≡ (done ++ q ∷ []) ++ ws
moved done ws q = sym (append_assoc done (q ∷ []) ws)

-- the newest of those that were looked at
pub newest : (done : List Reference) (q : Reference) → Has (λ y. y ≡ q) (done ++ q ∷ [])
newest done q = has_right (λ y. y ≡ q) done (q ∷ []) (inl refl)

known_more : {g : References} {Sound : Reference → Type 0} {done : List Reference} (q x : Reference)
    → Known g Sound done x → Known g Sound (done ++ q ∷ []) x
known_more {g} {Sound} {done} q x (inl e) = inl e
known_more {g} {Sound} {done} q x (inr f) =
    inr (record {
      source = f.source;
      kind = f.kind;
      among = has_left (λ y. y ≡ f.source) done (q ∷ []) f.among;
      sound = f.sound;
      is = f.is;
    })

module _ {g : References} {Sound : Reference → Type 0} {done ws : List Reference} where
  -- q was looked at
  pub seen_moved : {q : Reference} → Seen g Sound done (q ∷ ws) → Seen g Sound (done ++ q ∷ []) ws
  seen_moved {q} s =
      let e = moved done ws q in
      let done' : List Reference = done ++ q ∷ [] in
      record {
        reached = subst (Every (Reached g Sound)) e s.reached;
        known = subst (Every (Known g Sound done')) e
            (every_weaker (Known g Sound done) (Known g Sound done') (λ x k. known_more q x k)
            (done ++ q ∷ ws) s.known);
        differ = subst (Pairs (λ x y. x ≢ y)) e s.differ;
        started = subst (Has (λ x. x ≡ g.top)) e s.started;
      }

  -- x waits too, if it leads somewhere
  pub seen_put : Seen g Sound done ws → (t : Option ℕ) (x : Reference)
      → (IsSome t → Reached g Sound x × Known g Sound done x × Every (λ y. x ≢ y) (done ++ ws))
      → Seen g Sound done (keep t x ws)
  seen_put s None x f = s
  seen_put s (Some p) x f = record {
    reached = every_put (Reached g Sound) done ws x s.reached (f refl).0;
    known = every_put (Known g Sound done) done ws x s.known (f refl).1;
    differ = pairs_put done ws x s.differ (f refl).2;
    started = has_put (λ y. y ≡ g.top) done ws x s.started;
  }

  -- the reference that is in front was not looked at
  pub front_reached : {q : Reference} → Seen g Sound done (q ∷ ws) → Reached g Sound q
  front_reached {q} s = (every_right (Reached g Sound) done (q ∷ ws) s.reached).0

  pub front_differs : {q : Reference} → Seen g Sound done (q ∷ ws) → Every (λ z. z ≢ q) done
  front_differs {q} s = every_weaker (λ z. Every (λ y. z ≢ y) (q ∷ ws)) (λ z. z ≢ q) (λ z k. k.0) done
      (pairs_cross (λ x y. x ≢ y) done (q ∷ ws) s.differ)

  -- what follows from q was not seen
  follows_apart : AreLawful g Sound → (q : Reference) (k : Bool) → Seen g Sound done (q ∷ ws) → Sound q
      → IsLive g (edge g k q)
      → Every (λ z. Sound z → g.target q ≡ g.target z → (k ≡ true) ⊎ (g.chained ≡ true) → ⊥) done
      → (y : Reference) → Known g Sound done y → edge g k q ≢ y
  follows_apart lawful q k s sound live apart y (inl e) same =
      lawful.only_top q k (front_reached s) sound live (same ∙ e)
  follows_apart lawful q k s sound live apart y (inr f) same =
      let there =
      has_of (Reached g Sound) done f.source f.among (every_left (Reached g Sound) done (q ∷ ws) s.reached) in
      let other = has_of (λ z. z ≢ q) done f.source f.among (front_differs s) in
      let far = has_of (λ z. Sound z → g.target q ≡ g.target z → (k ≡ true) ⊎ (g.chained ≡ true)
      → ⊥) done f.source f.among apart in
      let a = lawful.apart q f.source k f.kind (front_reached s) there sound f.sound live (same ∙ sym f.is) in
      elim a.1 [ inl e ↦ other (sym e) | inr j ↦ far f.sound j.0 j.1 ]

  unlike : AreLawful g Sound → (q : Reference) (k : Bool) → Seen g Sound done (q ∷ ws) → Sound q
      → Every (λ z. Sound z → g.target q ≡ g.target z → (k ≡ true) ⊎ (g.chained ≡ true) → ⊥) done
      → IsLive g (edge g k q) → Every (λ y. edge g k q ≢ y) ((done ++ q ∷ []) ++ ws)
  unlike lawful q k s sound apart live =
      subst (Every (λ y. edge g k q ≢ y)) (moved done ws q)
      (every_weaker (Known g Sound done) (λ y. edge g k q ≢ y) (follows_apart lawful q k s sound live apart)
      (done ++ q ∷ ws) s.known)

following : {g : References} {Sound : Reference → Type 0} (done : List Reference) (q : Reference) (k : Bool) → Sound q
    → Follows g Sound (done ++ q ∷ []) (edge g k q)
following done q k sound = record { source = q; kind = k; among = newest done q; sound = sound; is = refl }

module _ {g : References} {Sound : Reference → Type 0} {done ws : List Reference} where
  -- q is looked at, and what comes after it waits
  pub seen_after : AreLawful g Sound → (q : Reference) → Seen g Sound done (q ∷ ws) → Sound q
      → Every (λ z. Sound z → g.target q ≡ g.target z → (false ≡ true) ⊎ (g.chained ≡ true) → ⊥) done
      → Seen g Sound (done ++ q ∷ []) (keep (g.target (g.after q)) (g.after q) ws)
  seen_after lawful q s sound apart =
      seen_put (seen_moved s) (g.target (g.after q)) (g.after q)
      (λ live. (
        more (front_reached s) sound false refl live,
        inr (following done q false sound),
        unlike lawful q false s sound apart live,
      ))

  -- q is looked at, and its own list and what comes after it wait
  pub seen_both : AreLawful g Sound → (q : Reference) → Seen g Sound done (q ∷ ws) → Sound q
      → Every (λ z. Sound z → g.target q ≡ g.target z → ⊥) done
      → Seen g Sound (done ++ q ∷ []) (keep (g.target (g.own q)) (g.own q) (keep (g.target (g.after q)) (g.after q) ws))
  seen_both lawful q s sound apart =
      let Far : Bool → Reference → Type 0 =
      λ k z. Sound z → g.target q ≡ g.target z → (k ≡ true) ⊎ (g.chained ≡ true) → ⊥ in
      let far : (k : Bool) → Every (Far k) done =
      λ k. every_weaker (λ z. Sound z → g.target q ≡ g.target z → ⊥) (Far k) (λ z n a b _. n a b) done apart in
      let here = front_reached s in
      seen_put (seen_after lawful q s sound (far false)) (g.target (g.own q)) (g.own q) (λ live. (
        more here sound true refl live,
        inr (following done q true sound),
        every_keep (λ y. g.own q ≢ y) (done ++ q ∷ []) ws (g.target (g.after q)) (g.after q)
            (unlike lawful q true s sound (far true) live)
            (λ _ e. true≢false (lawful.apart q q true false here here sound sound live e).0),
      ))

-- In the end each reached reference was looked at.
pub all_done : {g : References} {Sound : Reference → Type 0} {done : List Reference} → Seen g Sound done []
    → Every (Closed g Sound (done ++ [])) done → (x : Reference) → Reached g Sound x
    → Has (λ y. y ≡ x) done
all_done {g} {Sound} {done} s c x (top e) =
    has_weaker (λ y. y ≡ g.top) (λ y. y ≡ x) (λ y i. i ∙ sym e) done
    (subst (Has (λ y. y ≡ g.top)) (append-nil done) s.started)
all_done {g} {Sound} {done} s c x (more {x = z} reached sound k e live) =
    let here = all_done s c z reached in
    let closed = has_of (Closed g Sound (done ++ [])) done z here c in
    let there = closed sound k (subst (IsLive g) (sym e) live) in
    has_weaker (λ y. y ≡ edge g k z) (λ y. y ≡ x) (λ y i. i ∙ e) done
    (subst (Has (λ y. y ≡ edge g k z)) (append-nil done) there)

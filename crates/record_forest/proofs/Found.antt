-- The rows that a traversal has found, against the references that it has looked at.
use Rattle.std.proofs.Common.{◌≡◌, ◌≢◌, ℕ, Bool, List, [], ◌∷◌, ◌++◌, ◌⊎◌, inl, inr, sym, ap, subst, ◌∙◌, Some}
use Rattle.std.proofs.lemmas.Bool.Decides.{eqb_tells}
use Rattle.std.specs.List.{AllByRecursion as Every}
use Rattle.record_forest.specs.declared.reference.Reference.{Reference}
use Rattle.record_forest.specs.declared.reference.Row.{Row}
use Rattle.record_forest.specs.Members.{Has, Pairs}
use Rattle.record_forest.specs.References.{References, edge, IsLive, Reached}
use Rattle.record_forest.specs.Faults.{Twice}
use Rattle.record_forest.proofs.Lists.{every_join, every_left, every_weaker, has_left, has_right, has_weaker, has_every}
use Rattle.record_forest.proofs.Lists.{has_of, every_of, same_some, pairs_push}
use Rattle.record_forest.proofs.Seen.{Seen, Closed, newest, front_reached, front_differs}

abbrev pub At : ℕ → Row → Type 0
At p x = x.offset ≡ p

-- z leads to the record of the row
abbrev pub Leads : References → Reference → Row → Type 0
Leads g z x = g.target z ≡ Some x.offset

-- the row is of a valid record, by a reference that was looked at
pub record IsRow (g : References) (Sound : Reference → Type 0) (done : List Reference) (x : Row) : Type 0 where
  pub among : Has (λ y. y ≡ x.reference) done
  pub sound : Sound x.reference
  pub leads : g.target x.reference ≡ Some x.offset

pub record Found (g : References) (Sound : Reference → Type 0) (found : List Row) (done : List Reference) : Type 0 where
  pub targets : Every (λ z. Sound z → Has (Leads g z) found) done
  pub rows : Every (IsRow g Sound done) found
  pub single : Pairs (λ (x : Row) (y : Row). x.offset ≢ y.offset) found

-- whether a record was found at p
pub has_at : (p : ℕ) (found : List Row) → Has (At p) found ⊎ (Has (At p) found → ⊥)
has_at p [] = inr (λ h. h)
has_at p (x ∷ xs) =
    elim (eqb_tells x.offset p) [
      | inl e ↦ inl (inl e.1)
      | inr n ↦ elim (has_at p xs) [ inl h ↦ inl (inr h) | inr h ↦ inr (λ k. elim k [ inl e ↦ n.1 e | inr e ↦ h e ]) ]
    ]

module _ {g : References} {Sound : Reference → Type 0} {found : List Row} {done : List Reference} where
  row_more : (q : Reference) → Found g Sound found done → Every (IsRow g Sound (done ++ q ∷ [])) found
  row_more q h = every_weaker (IsRow g Sound done) (IsRow g Sound (done ++ q ∷ []))
      (λ x r. record {
        among = has_left (λ y. y ≡ x.reference) done (q ∷ []) r.among;
        sound = r.sound;
        leads = r.leads;
      }) found h.rows

  -- q leads to a record that is not valid, or to one that was found
  pub found_same : (q : Reference) → Found g Sound found done → (Sound q → Has (Leads g q) found)
      → Found g Sound found (done ++ q ∷ [])
  found_same q h here = record {
    targets = every_join (λ z. Sound z → Has (Leads g z) found) done (q ∷ []) h.targets (here, tt);
    rows = row_more q h;
    single = h.single;
  }

  -- no other leads to the record at p where no row is at p
  pub found_apart : (q : Reference) (p : ℕ) → Found g Sound found done → g.target q ≡ Some p → (Has (At p) found → ⊥)
      → Every (λ z. Sound z → g.target q ≡ g.target z → ⊥) done
  found_apart q p h leads fresh =
      every_weaker (λ z. Sound z → Has (Leads g z) found) (λ z. Sound z → g.target q ≡ g.target z → ⊥)
      (λ z k s same. fresh (has_weaker (Leads g z) (At p) (λ x l. same_some (sym l ∙ sym same ∙ leads)) found
      (k s))) done h.targets

-- a row at p
pub row_at : {g : References} {Sound : Reference → Type 0} {found : List Row} {done : List Reference} (p : ℕ)
    → Found g Sound found done → Has (At p) found → (x : Row) × IsRow g Sound done x × At p x
row_at {g} {Sound} {found} {done} p h old = has_every (IsRow g Sound done) (At p) found h.rows old

-- q leads to a record that was not found
pub found_new : {g : References} {Sound : Reference → Type 0} {found : List Row} {done : List Reference} (x : Row)
    → Found g Sound found done → Sound x.reference → g.target x.reference ≡ Some x.offset
    → (Has (At x.offset) found → ⊥) → Found g Sound (found ++ x ∷ []) (done ++ x.reference ∷ [])
found_new {g} {Sound} {found} {done} x h sound leads fresh =
    let found' : List Row = found ++ x ∷ [] in
    let Hits : List Row → Reference → Type 0 = λ xs z. Sound z → Has (Leads g z) xs in
    record {
      targets = every_join (Hits found') done (x.reference ∷ [])
          (every_weaker (Hits found) (Hits found') (λ z k s. has_left (Leads g z) found (x ∷ []) (k s)) done h.targets)
          ((λ _. has_right (Leads g x.reference) found (x ∷ []) (inl leads)), tt);
      rows = every_join (IsRow g Sound (done ++ x.reference ∷ [])) found (x ∷ []) (row_more x.reference h)
          (record { among = newest done x.reference; sound = sound; leads = leads }, tt);
      single = pairs_push (λ (y : Row) (z : Row). y.offset ≢ z.offset) found x h.single
          (every_of (λ (y : Row). y.offset ≢ x.offset) found
          (λ y k e. fresh (has_weaker (λ z. z ≡ y) (At x.offset)
          (λ z i. ap (λ (w : Row). w.offset) i ∙ e) found k)));
    }

module _ {g : References} {Sound : Reference → Type 0} {found : List Row} {done ws : List Reference}
    {q : Reference} where
  -- a second reference to a record that was found
  pub twice_here : (p : ℕ) → Seen g Sound done (q ∷ ws) → Found g Sound found done → g.target q ≡ Some p
      → Has (At p) found → Twice g Sound p
  twice_here p s h leads old =
      let r = row_at p h old in
      let x = r.0.reference in
      record {
        one = x;
        other = q;
        differ = has_of (λ z. z ≢ q) done x r.1.among (front_differs s);
        one_reached = has_of (Reached g Sound) done x r.1.among (every_left (Reached g Sound) done (q ∷ ws) s.reached);
        other_reached = front_reached s;
        one_leads = r.1.leads ∙ ap Some r.2;
        other_leads = leads;
      }

  -- what follows from it was seen, if it is what follows from the first
  pub closed_again : (p : ℕ) (k : Bool) → Seen g Sound done (q ∷ ws) → Found g Sound found done
      → Every (Closed g Sound (done ++ q ∷ ws)) done → g.target q ≡ Some p → Has (At p) found
      → ((x : Reference) → Reached g Sound x → Sound x → g.target x ≡ g.target q → edge g k x ≡ edge g k q)
      → IsLive g (edge g k q) → Has (λ y. y ≡ edge g k q) (done ++ q ∷ ws)
  closed_again p k s h c leads old joined live =
      let r = row_at p h old in
      let x = r.0.reference in
      let reached = has_of (Reached g Sound) done x r.1.among (every_left (Reached g Sound) done (q ∷ ws) s.reached) in
      let same = joined x reached r.1.sound (r.1.leads ∙ ap Some r.2 ∙ sym leads) in
      let there =
      has_of (Closed g Sound (done ++ q ∷ ws)) done x r.1.among c r.1.sound k (subst (IsLive g) (sym same) live) in
      has_weaker (λ y. y ≡ edge g k x) (λ y. y ≡ edge g k q) (λ y i. i ∙ same) (done ++ q ∷ ws) there

-- a reference to p leads to the record of a row at p
pub leads_again : (g : References) (found : List Row) (q : Reference) (p : ℕ) → g.target q ≡ Some p → Has (At p) found
    → Has (Leads g q) found
leads_again g found q p leads old = has_weaker (At p) (Leads g q) (λ x e. leads ∙ ap Some (sym e)) found old

-- All that a traversal keeps, and what each of its steps makes of it.
use Rattle.std.proofs.Common.{◌≡◌, ◌≢◌, ◌+◌, ◌<◌, ◌≤◌, ℕ, true, false, List, [], ◌∷◌, ◌++◌, length, ◌⊎◌, inl, inr, refl}
use Rattle.std.proofs.Common.{sym, ap, subst, ◌∙◌, arith, length-append, Option, Some, None, IfSome, reverse}
use Rattle.std.proofs.lemmas.List.{nil_from_length}
use Rattle.std.proofs.lemmas.Bool.{false≢true}
use Rattle.std.proofs.lemmas.List.Elements.{All-from_recursion}
use Rattle.std.specs.List.{AllByRecursion as Every, All, AllPairs}
use Rattle.record_forest.specs.declared.reference.Reference.{Reference}
use Rattle.rom_fields.specs.declared.fault.Fault.{Fault}
use Rattle.record_forest.specs.declared.reference.Row.{Row}
use Rattle.record_forest.specs.declared.traversal.Pending.{Pending}
use Rattle.record_forest.specs.Members.{Has}
use Rattle.record_forest.specs.References.{References, edge, IsLive, Reached, top, AreLawful}
use Rattle.record_forest.specs.Forest.{Forest, all_rows, IsForest}
use Rattle.record_forest.specs.Faults.{TooMany, HasFault, Twice, IsLeast, IsLeastFault}
use Rattle.record_forest.specs.Lesser.{lesser, lesser_fault}
use Rattle.record_forest.proofs.Lists.{every_join, every_all, every_left, every_weaker, has_of, pairs_left, pairs_pick}
use Rattle.record_forest.proofs.Lists.{pairs_weaker, pairs_to, pigeon}
use Rattle.record_forest.proofs.Seen.{Seen, Closed, keep, has_keep, kept, moved, seen_moved, seen_after, seen_both}
use Rattle.record_forest.proofs.Seen.{front_reached, all_done}
use Rattle.record_forest.proofs.Noted.{Caught, CaughtFault, Judged, Faults, faults_same, faults_more, Noted, Twices}
use Rattle.record_forest.proofs.Noted.{twices_same, twices_more, lesser_some, lesser_fault_some}
use Rattle.record_forest.proofs.Found.{At, IsRow, Found, leads_again, found_same, found_apart, found_new, twice_here}
use Rattle.record_forest.proofs.Found.{closed_again}
use Rattle.record_forest.proofs.Grows.{link_to, row_of, own_of, after_of, below_root, root_row, waiting, Grows}
use Rattle.record_forest.proofs.Grows.{grows_none, grows_more, grows_start, grows_done, reverse_push}

-- `done` is what was looked at, which the code need not hold.
pub record Whole (g : References) (Sound : Reference → Type 0) (Faulty : Reference → Fault → Type 0) (most : ℕ)
    (found : List Row) (pending : List Pending) (count : ℕ) (noted : Option Fault) (twice : Option ℕ) : Type 0 where
  pub done : List Reference
  pub linked : Every (λ (q : Pending). q.edge.target ≡ g.target q.edge.reference) pending
  pub seen : Seen g Sound done (waiting pending)
  pub closed : Every (Closed g Sound (done ++ waiting pending)) done
  pub rows : Found g Sound found done
  pub faults : Faults g Sound Faulty done noted
  pub twices : Twices g Sound done twice
  pub counted : count ≡ length done
  pub fits : count ≤ most
  pub size : length found ≤ count
  pub grows : noted ≡ None → twice ≡ None → Grows g found pending

module _ {g : References} {Sound : Reference → Type 0} {Faulty : Reference → Fault → Type 0} {most count : ℕ}
    {found : List Row} {qs : List Pending} {noted : Option Fault} {twice : Option ℕ} {q : Pending} where
  -- a reference that leads nowhere
  pub whole_none : Whole g Sound Faulty most found (q ∷ qs) count noted twice → q.edge.target ≡ None
      → Whole g Sound Faulty most found qs count noted twice
  whole_none w e =
      let is : waiting (q ∷ qs) ≡ waiting qs = ap (λ (t : Option ℕ). keep t q.edge.reference (waiting qs)) e in
      record {
        done = w.done;
        linked = w.linked.1;
        seen = subst (Seen g Sound w.done) is w.seen;
        closed = subst (λ ws. Every (Closed g Sound (w.done ++ ws)) w.done) is w.closed;
        rows = w.rows;
        faults = w.faults;
        twices = w.twices;
        counted = w.counted;
        fits = w.fits;
        size = w.size;
        grows = λ x y. grows_none g found q qs (sym w.linked.0 ∙ e) (w.grows x y);
      }

  -- the reference that is in front
  front : Whole g Sound Faulty most found (q ∷ qs) count noted twice → (p : ℕ) → q.edge.target ≡ Some p
      → waiting (q ∷ qs) ≡ q.edge.reference ∷ waiting qs
  front w p e = ap (λ (t : Option ℕ). keep t q.edge.reference (waiting qs)) e

  front_seen : (w : Whole g Sound Faulty most found (q ∷ qs) count noted twice) (p : ℕ) → q.edge.target ≡ Some p
      → Seen g Sound w.done (q.edge.reference ∷ waiting qs)
  front_seen w p e = subst (Seen g Sound w.done) (front w p e) w.seen

  front_closed : (w : Whole g Sound Faulty most found (q ∷ qs) count noted twice) (p : ℕ) → q.edge.target ≡ Some p
      → Every (Closed g Sound (w.done ++ q.edge.reference ∷ waiting qs)) w.done
  front_closed w p e = subst (λ ws. Every (Closed g Sound (w.done ++ ws)) w.done) (front w p e) w.closed

  pub whole_leads : Whole g Sound Faulty most found (q ∷ qs) count noted twice → (p : ℕ) → q.edge.target ≡ Some p
      → g.target q.edge.reference ≡ Some p
  whole_leads w p e = sym w.linked.0 ∙ e

  pub whole_reached : Whole g Sound Faulty most found (q ∷ qs) count noted twice → (p : ℕ) → q.edge.target ≡ Some p
      → Reached g Sound q.edge.reference
  whole_reached w p e = front_reached (front_seen w p e)

  -- one reference too many
  pub whole_many : Whole g Sound Faulty most found (q ∷ qs) count noted twice → (p : ℕ) → q.edge.target ≡ Some p
      → count ≡ most → TooMany g Sound most
  whole_many w p e full =
      let s = seen_moved (front_seen w p e) in
      let xs : List Reference = w.done ++ q.edge.reference ∷ [] in
      let counted = w.counted in (
        xs,
        pairs_left (λ x y. x ≢ y) xs (waiting qs) s.differ,
        every_left (Reached g Sound) xs (waiting qs) s.reached,
        rw length-append (omega arith),
      )

  -- two references lead to one record
  pub whole_twice_here : Whole g Sound Faulty most found (q ∷ qs) count noted twice → (p : ℕ) → q.edge.target ≡ Some p
      → Has (At p) found → Twice g Sound p
  whole_twice_here w p e old = twice_here p (front_seen w p e) w.rows (whole_leads w p e) old

  -- the record is not valid
  pub whole_faulty : (fault : Fault) → Whole g Sound Faulty most found (q ∷ qs) count noted twice → (p : ℕ)
      → q.edge.target ≡ Some p → count ≢ most
      → (Sound q.edge.reference → ⊥) → IsLeastFault (Faulty q.edge.reference) fault
      → Whole g Sound Faulty most found qs (count + 1) (lesser_fault noted fault) twice
  whole_faulty fault w p e room bad least =
      let x = q.edge.reference in
      let s = front_seen w p e in
      let m = moved w.done (waiting qs) x in
      let counted = w.counted in
      let fits = w.fits in
      let size = w.size in
      record {
        done = w.done ++ x ∷ [];
        linked = w.linked.1;
        seen = seen_moved s;
        closed = every_join (Closed g Sound ((w.done ++ x ∷ []) ++ waiting qs)) w.done (x ∷ [])
            (subst (λ xs. Every (Closed g Sound xs) w.done) m (front_closed w p e))
            ((λ sound k live. absurd (bad sound)), tt);
        rows = found_same x w.rows (λ sound. absurd (bad sound));
        faults = faults_more x fault w.faults (front_reached s) least;
        twices = twices_same x w.twices (every_all (λ y. Sound y → Sound x → g.target y ≡ g.target x → ⊥)
            (λ y _ sound _. bad sound) w.done);
        counted = rw length-append (omega arith);
        fits = omega arith;
        size = omega arith;
        grows = λ y _. absurd (lesser_fault_some noted fault y);
      }

  -- the record was found, and what comes after it was seen with the first reference
  pub whole_again : AreLawful g Sound → g.chained ≡ true → Whole g Sound Faulty most found (q ∷ qs) count noted twice
      → (p : ℕ) → q.edge.target ≡ Some p → count ≢ most
      → Sound q.edge.reference → ((d : Fault) → Faulty q.edge.reference d → ⊥) → Has (At p) found
      → Whole g Sound Faulty most found qs (count + 1) noted (lesser twice p)
  whole_again lawful chained w p e room sound faultless old =
      let x = q.edge.reference in
      let s = front_seen w p e in
      let leads = whole_leads w p e in
      let reached = front_reached s in
      let m = moved w.done (waiting qs) x in
      let seen' : List Reference = (w.done ++ x ∷ []) ++ waiting qs in
      let own : IsLive g (g.own x) → Has (λ y. y ≡ g.own x) (w.done ++ x ∷ waiting qs) =
      closed_again p true s w.rows (front_closed w p e) leads old
      (λ y r t i. lawful.own_joined y x r reached t sound i) in
      let after : IsLive g (g.after x) → Has (λ y. y ≡ g.after x) (w.done ++ x ∷ waiting qs) =
      closed_again p false s w.rows (front_closed w p e) leads old
      (λ y r t i. lawful.after_joined chained y x r reached t sound i) in
      let counted = w.counted in
      let fits = w.fits in
      let size = w.size in
      record {
        done = w.done ++ x ∷ [];
        linked = w.linked.1;
        seen = seen_moved s;
        closed = every_join (Closed g Sound seen') w.done (x ∷ [])
            (subst (λ xs. Every (Closed g Sound xs) w.done) m (front_closed w p e)) (
              (λ _ k. elim k as (λ k. IsLive g (edge g k x) → Has (λ y. y ≡ edge g k x) seen') [
                | true ↦ (λ live. subst (Has (λ y. y ≡ g.own x)) m (own live))
                | false ↦
                    (λ live. subst (Has (λ y. y ≡ g.after x)) m (after live))
              ]),
              tt,
            );
        rows = found_same x w.rows (λ _. leads_again g found x p leads old);
        faults = faults_same x w.faults sound faultless;
        twices = twices_more x p w.twices leads (whole_twice_here w p e old);
        counted = rw length-append (omega arith);
        fits = omega arith;
        size = omega arith;
        grows = λ _ y. absurd (lesser_some twice p y);
      }

  -- the record was found, and what comes after it is another reference than with the first
  pub whole_beside : AreLawful g Sound → g.chained ≡ false → Whole g Sound Faulty most found (q ∷ qs) count noted twice
      → (p : ℕ) → q.edge.target ≡ Some p → count ≢ most
      → Sound q.edge.reference → ((d : Fault) → Faulty q.edge.reference d → ⊥) → Has (At p) found
      → Whole g Sound Faulty most found (after_of g q ∷ qs) (count + 1) noted (lesser twice p)
  whole_beside lawful chained w p e room sound faultless old =
      let x = q.edge.reference in
      let y = g.after x in
      let s = front_seen w p e in
      let leads = whole_leads w p e in
      let reached = front_reached s in
      let m = moved w.done (waiting qs) x in
      let done' : List Reference = w.done ++ x ∷ [] in
      let seen' : List Reference = done' ++ keep (g.target y) y (waiting qs) in
      let more_seen : (z : Reference) → Has (λ y. y ≡ z) (w.done ++ x ∷ waiting qs) → Has (λ y. y ≡ z) seen' =
      λ z h. has_keep (λ y. y ≡ z) done' (waiting qs) (g.target y) y (subst (Has (λ y. y ≡ z)) m h) in
      let own : IsLive g (g.own x) → Has (λ y. y ≡ g.own x) (w.done ++ x ∷ waiting qs) =
      closed_again p true s w.rows (front_closed w p e) leads old
      (λ z r t i. lawful.own_joined z x r reached t sound i) in
      let counted = w.counted in
      let fits = w.fits in
      let size = w.size in
      record {
        done = done';
        linked = (refl, w.linked.1);
        seen = seen_after lawful x s sound
            (every_all (λ z. Sound z → g.target x ≡ g.target z → (false ≡ true) ⊎ (g.chained ≡ true) → ⊥)
            (λ z _ _ k. elim k [ inl i ↦ false≢true i | inr i ↦ false≢true (sym chained ∙ i) ]) w.done);
        closed = every_join (Closed g Sound seen') w.done (x ∷ [])
            (every_weaker (Closed g Sound (w.done ++ x ∷ waiting qs)) (Closed g Sound seen')
            (λ z c t k live. more_seen (edge g k z) (c t k live)) w.done (front_closed w p e)) (
              (λ _ k. elim k as (λ k. IsLive g (edge g k x) → Has (λ y. y ≡ edge g k x) seen') [
                | true ↦ (λ live. more_seen (g.own x) (own live))
                | false ↦ (λ live. kept (λ z. z ≡ y) done' (waiting qs) (g.target y) y live refl)
              ]),
              tt,
            );
        rows = found_same x w.rows (λ _. leads_again g found x p leads old);
        faults = faults_same x w.faults sound faultless;
        twices = twices_more x p w.twices leads (whole_twice_here w p e old);
        counted = rw length-append (omega arith);
        fits = omega arith;
        size = omega arith;
        grows = λ _ y. absurd (lesser_some twice p y);
      }

  -- the record is valid and new: its own list and what comes after it are still to be looked at
  pub whole_new : AreLawful g Sound → Whole g Sound Faulty most found (q ∷ qs) count noted twice → (p : ℕ)
      → q.edge.target ≡ Some p → count ≢ most
      → Sound q.edge.reference → ((d : Fault) → Faulty q.edge.reference d → ⊥) → (Has (At p) found → ⊥)
      → Whole g Sound Faulty most (found ++ row_of q p ∷ []) (own_of g q p ∷ after_of g q ∷ qs) (count + 1) noted twice
  whole_new lawful w p e room sound faultless fresh =
      let x = q.edge.reference in
      let s = front_seen w p e in
      let leads = whole_leads w p e in
      let m = moved w.done (waiting qs) x in
      let done' : List Reference = w.done ++ x ∷ [] in
      let ws : List Reference = keep (g.target (g.after x)) (g.after x) (waiting qs) in
      let seen' : List Reference = done' ++ keep (g.target (g.own x)) (g.own x) ws in
      let apart = found_apart x p w.rows leads fresh in
      let more_seen : (z : Reference) → Has (λ y. y ≡ z) (w.done ++ x ∷ waiting qs) → Has (λ y. y ≡ z) seen' = λ z h.
      has_keep (λ y. y ≡ z) done' ws (g.target (g.own x)) (g.own x)
      (has_keep (λ y. y ≡ z) done' (waiting qs) (g.target (g.after x)) (g.after x)
      (subst (Has (λ y. y ≡ z)) m h)) in
      let counted = w.counted in
      let fits = w.fits in
      let size = w.size in
      record {
        done = done';
        linked = (refl, (refl, w.linked.1));
        seen = seen_both lawful x s sound apart;
        closed = every_join (Closed g Sound seen') w.done (x ∷ [])
            (every_weaker (Closed g Sound (w.done ++ x ∷ waiting qs)) (Closed g Sound seen')
            (λ z c t k live. more_seen (edge g k z) (c t k live)) w.done (front_closed w p e)) (
              (λ _ k. elim k as (λ k. IsLive g (edge g k x) → Has (λ y. y ≡ edge g k x) seen') [
                | true ↦ (λ live. kept (λ z. z ≡ g.own x) done' ws (g.target (g.own x)) (g.own x) live refl)
                | false ↦ (λ live. has_keep (λ z. z ≡ g.after x) done' ws (g.target (g.own x)) (g.own x)
                    (kept (λ z. z ≡ g.after x) done' (waiting qs) (g.target (g.after x)) (g.after x) live refl))
              ]),
              tt,
            );
        rows = found_new (row_of q p) w.rows sound leads fresh;
        faults = faults_same x w.faults sound faultless;
        twices = twices_same x w.twices (every_weaker (λ z. Sound z → g.target x ≡ g.target z → ⊥)
            (λ z. Sound z → Sound x → g.target z ≡ g.target x → ⊥) (λ z n t _ i. n t (sym i)) w.done apart);
        counted = rw length-append (omega arith);
        fits = omega arith;
        size = rw length-append (omega arith);
        grows = λ y z. grows_more g found q p qs leads (w.grows y z);
      }

-- The root is valid: it was looked at and found.
pub whole_start : {g : References} {Sound : Reference → Type 0} {Faulty : Reference → Fault → Type 0} (most r : ℕ)
    → AreLawful g Sound → g.target g.top ≡ Some r → Sound g.top
    → ((d : Fault) → Faulty g.top d → ⊥) → 0 < most
    → Whole g Sound Faulty most (root_row g r ∷ [])
    (below_root r (link_to g (g.own g.top)) ∷ below_root r (link_to g (g.after g.top)) ∷ []) 1 None None
whole_start {g} {Sound} {Faulty} most r lawful leads sound faultless some =
    let x = g.top in
    let start : Seen g Sound [] (x ∷ []) =
    record { reached = (top refl, tt); known = (inl refl, tt); differ = (tt, tt); started = inl refl } in
    let ws : List Reference = keep (g.target (g.after x)) (g.after x) [] in
    let seen' : List Reference = (x ∷ []) ++ keep (g.target (g.own x)) (g.own x) ws in
    record {
      done = x ∷ [];
      linked = (refl, (refl, tt));
      seen = seen_both lawful x start sound tt;
      closed = (
        (λ _ k. elim k as (λ k. IsLive g (edge g k x) → Has (λ y. y ≡ edge g k x) seen') [
          | true ↦ (λ live. kept (λ z. z ≡ g.own x) (x ∷ []) ws (g.target (g.own x)) (g.own x) live refl)
          | false ↦ (λ live. has_keep (λ z. z ≡ g.after x) (x ∷ []) ws (g.target (g.own x)) (g.own x)
              (kept (λ z. z ≡ g.after x) (x ∷ []) [] (g.target (g.after x)) (g.after x) live refl))
        ]),
        tt,
      );
      rows = record {
        targets = ((λ _. inl leads), tt);
        rows = (record { among = inl refl; sound = sound; leads = leads }, tt);
        single = (tt, tt);
      };
      faults = record { truly = tt; judged = (inl (sound, faultless), tt) };
      twices = record { truly = tt; caught = (tt, tt) };
      counted = refl;
      fits = some;
      size = omega arith;
      grows = λ _ _. grows_start g r leads;
    }

-- nothing is left to look at
module _ {g : References} {Sound : Reference → Type 0} {Faulty : Reference → Fault → Type 0} {most count : ℕ}
    {found : List Row} {noted : Option Fault} {twice : Option ℕ}
    (w : Whole g Sound Faulty most found [] count noted twice) where
  done_all : (x : Reference) → Reached g Sound x → Has (λ y. y ≡ x) w.done
  done_all x h = all_done w.seen w.closed x h

  -- there are not too many references
  pub whole_few : TooMany g Sound most → ⊥
  whole_few t =
      let M : Reference → Reference → Type 0 = λ x y. y ≡ x in
      let apart = pairs_weaker (λ x y. x ≢ y) (λ x y. (z : Reference) → M x z → M y z → ⊥)
      (λ x y n z i j. n (sym i ∙ j)) t.0 t.1 in
      let each = every_weaker (Reached g Sound) (λ x. Has (M x) w.done) (λ x h. done_all x h) t.0 t.2 in
      let size = pigeon M t.0 w.done apart each in
      let over = t.3 in
      let counted = w.counted in
      let fits = w.fits in
      omega arith

  judge : (x : Reference) → Reached g Sound x → Judged Sound Faulty noted x
  judge x h = has_of (Judged Sound Faulty noted) w.done x (done_all x h) w.faults.judged

  pub whole_sounds : noted ≡ None → (x : Reference) → Reached g Sound x → Sound x
  whole_sounds e x h = elim (judge x h) [ inl s ↦ s.0 | inr c ↦ absurd (c.0 e) ]

  pub whole_fault : (e : Fault) → noted ≡ Some e → IsLeastFault (HasFault g Sound Faulty) e
  whole_fault e i = record {
    here = subst (λ (o : Option Fault). IfSome o (HasFault g Sound Faulty)) i w.faults.truly;
    least = λ d f. elim (judge f.reference f.reached)
        [ inl s ↦ absurd (s.1 d f.faulty) | inr c ↦ subst (λ (o : Option Fault). CaughtFault o d) i (c.1 d f.faulty) ];
  }

  pub whole_twice : noted ≡ None → (p : ℕ) → twice ≡ Some p → IsLeast (Twice g Sound) p
  whole_twice n p i = record {
    here = subst (λ (o : Option ℕ). IfSome o (Twice g Sound)) i w.twices.truly;
    least = λ d t.
        let one = t.one in
        let other = t.other in
        let leads = t.one_leads in
        let leads' = t.other_leads in
        let sound = whole_sounds n one t.one_reached in
        let sound' = whole_sounds n other t.other_reached in
        let pick = pairs_pick (Noted g Sound twice) (λ y. y ≡ one) (λ y. y ≡ other) w.done w.twices.caught
        (done_all one t.one_reached) (done_all other t.other_reached) in
        let both : (x y : Reference) → x ≡ one → y ≡ other → Noted g Sound twice x y ⊎ Noted g Sound twice y x
        → Caught twice d = λ x y e f k. elim k [
          | inl h ↦ h (subst Sound (sym e) sound) (subst Sound (sym f) sound') d (ap g.target e ∙ leads)
              (ap g.target f ∙ leads')
          | inr h ↦ h (subst Sound (sym f) sound') (subst Sound (sym e) sound) d (ap g.target f ∙ leads')
              (ap g.target e ∙ leads)
        ] in
        subst (λ (o : Option ℕ). Caught o d) i
        (elim pick [ inl z ↦ absurd (t.differ (sym z.1 ∙ z.2)) | inr z ↦ both z.0 z.1 z.2 z.3 z.4 ]);
  }

  pub whole_done : noted ≡ None → twice ≡ None → (f : Forest) × (found ≡ all_rows g f) × IsForest g Sound most f
  whole_done x y =
      let d = grows_done g found (w.grows x y) in
      let is : found ≡ all_rows g d.0 = sym d.2 in
      let size = w.size in
      let fits = w.fits in (
        d.0,
        is,
        record {
          stands = d.1;
          sound = subst (All (λ (z : Row). Sound z.reference)) is
              (All-from_recursion (λ (z : Row). Sound z.reference) found
              (every_weaker (IsRow g Sound w.done) (λ (z : Row). Sound z.reference)
              (λ z r. r.sound) found w.rows.rows));
          single = subst (AllPairs (λ (z : Row) (v : Row). z.offset ≢ v.offset)) is
              (pairs_to (λ (z : Row) (v : Row). z.offset ≢ v.offset) found w.rows.single);
          few = subst (λ (xs : List Row). length xs ≤ most) is (omega arith);
        },
      )

-- what is pushed last is looked at first
pub whole_popped : {g : References} {Sound : Reference → Type 0} {Faulty : Reference → Fault → Type 0} {most count : ℕ}
    {found : List Row} {noted : Option Fault} {twice : Option ℕ}
    (xs ys : List Pending) (q : Pending) → xs ≡ ys ++ q ∷ []
    → Whole g Sound Faulty most found (reverse xs) count noted twice
    → Whole g Sound Faulty most found (q ∷ reverse ys) count noted twice
whole_popped {g} {Sound} {Faulty} {most} {count} {found} {noted} {twice} xs ys q e w =
    subst (λ (ps : List Pending). Whole g Sound Faulty most found ps count noted twice)
    (ap reverse e ∙ reverse_push ys q) w

pub whole_pushed : {g : References} {Sound : Reference → Type 0} {Faulty : Reference → Fault → Type 0} {most count : ℕ}
    {found : List Row} {noted : Option Fault} {twice : Option ℕ}
    (xs ys : List Pending) (q p : Pending) → ys ≡ xs ++ q ∷ [] → q ≡ p
    → Whole g Sound Faulty most found (p ∷ reverse xs) count noted twice
    → Whole g Sound Faulty most found (reverse ys) count noted twice
whole_pushed {g} {Sound} {Faulty} {most} {count} {found} {noted} {twice} xs ys q p e f w =
    subst (λ (ps : List Pending). Whole g Sound Faulty most found ps count noted twice)
    (ap (λ (o : Pending). o ∷ reverse xs) (sym f) ∙ sym (ap reverse e ∙ reverse_push xs q)) w

pub whole_pushed_two : {g : References} {Sound : Reference → Type 0} {Faulty : Reference → Fault → Type 0}
    {most count : ℕ} {found : List Row} {noted : Option Fault} {twice : Option ℕ}
    (xs ys zs : List Pending) (q r p o : Pending) → ys ≡ xs ++ q ∷ [] → zs ≡ ys ++ r ∷ [] → q ≡ p → r ≡ o
    → Whole g Sound Faulty most found (o ∷ p ∷ reverse xs) count noted twice
    → Whole g Sound Faulty most found (reverse zs) count noted twice
whole_pushed_two {g} {Sound} {Faulty} {most} {count} {found} {noted} {twice} xs ys zs q r p o e f i j w =
    whole_pushed ys zs r o f j (subst (λ (ps : List Pending). Whole g Sound Faulty most found
    (o ∷ ps) count noted twice) (ap (λ (v : Pending). v ∷ reverse xs) (sym i)
    ∙ sym (ap reverse e ∙ reverse_push xs q)) w)

-- other rows are the same ones
pub whole_rows : {g : References} {Sound : Reference → Type 0} {Faulty : Reference → Fault → Type 0} {most count : ℕ}
    {pending : List Pending} {noted : Option Fault} {twice : Option ℕ}
    (xs ys : List Row) → ys ≡ xs → Whole g Sound Faulty most xs pending count noted twice
    → Whole g Sound Faulty most ys pending count noted twice
whole_rows {g} {Sound} {Faulty} {most} {count} {pending} {noted} {twice} xs ys e w =
    subst (λ (rs : List Row). Whole g Sound Faulty most rs pending count noted twice) (sym e) w

-- the stack is empty at the end
pub whole_ended : {g : References} {Sound : Reference → Type 0} {Faulty : Reference → Fault → Type 0} {most count : ℕ}
    {found : List Row} {noted : Option Fault} {twice : Option ℕ}
    (xs : List Pending) → length xs ≡ 0 → Whole g Sound Faulty most found (reverse xs) count noted twice
    → Whole g Sound Faulty most found [] count noted twice
whole_ended {g} {Sound} {Faulty} {most} {count} {found} {noted} {twice} xs e w =
    subst (λ (ps : List Pending). Whole g Sound Faulty most found ps count noted twice)
    (ap reverse (nil_from_length xs e)) w

-- Sessions over something that they share are apart.
use Rattle.std.proofs.Common.{◌≡◌, ℕ, ◌+◌, true, false, List, ◌∷◌, Option, Some, None, drop, refl, sym, ap, ◌∙◌, arith}
use Rattle.std.proofs.Common.{◌==◌}
use Rattle.std.proofs.lemmas.Bool.Decides.{nat_tests}
use Rattle.std.proofs.lemmas.Bool.{eqb-true, true≢false}
use Rattle.open_files.specs.Sessions.{Sessions, Parts, session_calls}
use Rattle.serve_lines.specs.Commands.{Line, asks, is_bad, line_of}
use Rattle.serve_lines.specs.Views.{is_of, AreApart, SeesItsView, LeavesOwn}
use Rattle.serve_lines.proofs.Apart.{sees_its_view}
use Rattle.rom_serve.specs.Obeyed.{answered}
use Rattle.rom_serve.specs.Machines.{session_of, answered_by, answered_among}
use Rattle.rom_serve.specs.SessionLines.{is_mount, is_mount_of, session_lines}
use Rattle.rom_serve.proofs.CallKinds.{call_text, call_own, call_shared, call_kept, call_other, call_mount}

turned : (j k : ℕ) → (j == k) ≡ false → (k == j) ≡ false
turned j k h = grind (arith, nat_tests)

module _ {Shared Own : Type 0} (p : Parts Shared Own) where
  -- of a line without its session
  line_text : (k : ℕ) (s t : Sessions Shared Own) (l : Line) → s.shared ≡ t.shared → s.own k ≡ t.own k
      → (answered (session_calls p k) s l).text ≡ (answered (session_calls p k) t l).text
  line_text k s t (is_bad b) e f = refl
  line_text k s t (asks c) e f = call_text p k s t e f c

  line_own : (k : ℕ) (s t : Sessions Shared Own) (l : Line) → s.shared ≡ t.shared → s.own k ≡ t.own k
      → (answered (session_calls p k) s l).state.own k ≡ (answered (session_calls p k) t l).state.own k
  line_own k s t (is_bad b) e f = f
  line_own k s t (asks c) e f = call_own p k s t e f c

  line_shared : (k : ℕ) (s t : Sessions Shared Own) (l : Line) → s.shared ≡ t.shared
      → (answered (session_calls p k) s l).state.shared ≡ (answered (session_calls p k) t l).state.shared
  line_shared k s t (is_bad b) e = e
  line_shared k s t (asks c) e = call_shared p k s t e c

  line_kept : (k : ℕ) (s : Sessions Shared Own) (l : Line) → is_mount l ≡ false
      → (answered (session_calls p k) s l).state.shared ≡ s.shared
  line_kept k s (is_bad b) e = refl
  line_kept k s (asks c) e = call_kept p k s c e

  line_other : (j k : ℕ) (s : Sessions Shared Own) (l : Line) → (j == k) ≡ false
      → (answered (session_calls p k) s l).state.own j ≡ s.own j
  line_other j k s (is_bad b) e = refl
  line_other j k s (asks c) e = call_other p j k s e c

  line_mount : (j k : ℕ) (s : Sessions Shared Own) (l : Line) → is_mount l ≡ true
      → (answered (session_calls p k) s l).state.own j ≡ s.own j
  line_mount j k s (is_bad b) e = absurd (true≢false (sym e))
  line_mount j k s (asks c) e = call_mount p j k s c e

  -- and of a line that names session o, or none
  by_text : (k : ℕ) (s t : Sessions Shared Own) (l : List ℕ) (o : Option ℕ) → s.shared ≡ t.shared → s.own k ≡ t.own k
      → is_of k o ≡ true → (answered_by (session_calls p) s l o).text ≡ (answered_by (session_calls p) t l o).text
  by_text k s t l None e f h = absurd (true≢false (sym h))
  by_text k s t l (Some j) e f h =
      let same : j ≡ k = eqb-true j k h in
      ap (λ x. (48 + j) ∷ 32 ∷ x) (line_text j s t (line_of true (drop 2 l)) e
      (ap s.own same ∙ f ∙ sym (ap t.own same)))

  by_own : (k : ℕ) (s t : Sessions Shared Own) (l : List ℕ) (o : Option ℕ) → s.shared ≡ t.shared → s.own k ≡ t.own k
      → is_of k o ≡ true → (answered_by (session_calls p) s l o).state.own k
      ≡ (answered_by (session_calls p) t l o).state.own k
  by_own k s t l None e f h = absurd (true≢false (sym h))
  by_own k s t l (Some j) e f h =
      let same : j ≡ k = eqb-true j k h in
      ap (λ i. (answered (session_calls p i) s (line_of true (drop 2 l))).state.own k) same
      ∙ line_own k s t (line_of true (drop 2 l)) e f
      ∙ sym (ap (λ i. (answered (session_calls p i) t (line_of true (drop 2 l))).state.own k) same)

  by_other : (k : ℕ) (s : Sessions Shared Own) (l : List ℕ) (o : Option ℕ) → is_of k o ≡ false
      → (answered_by (session_calls p) s l o).state.own k ≡ s.own k
  by_other k s l None h = refl
  by_other k s l (Some j) h = line_other k j s (line_of true (drop 2 l)) (turned j k h)

  by_shared : (s t : Sessions Shared Own) (l : List ℕ) (o : Option ℕ) → s.shared ≡ t.shared
      → (answered_by (session_calls p) s l o).state.shared ≡ (answered_by (session_calls p) t l o).state.shared
  by_shared s t l None e = e
  by_shared s t l (Some j) e = line_shared j s t (line_of true (drop 2 l)) e

  by_kept : (s : Sessions Shared Own) (l : List ℕ) (o : Option ℕ) → is_mount_of l o ≡ false
      → (answered_by (session_calls p) s l o).state.shared ≡ s.shared
  by_kept s l None e = refl
  by_kept s l (Some j) e = line_kept j s (line_of true (drop 2 l)) e

  by_mount : (k : ℕ) (s : Sessions Shared Own) (l : List ℕ) (o : Option ℕ) → is_mount_of l o ≡ true
      → (answered_by (session_calls p) s l o).state.own k ≡ s.own k
  by_mount k s l None e = absurd (true≢false (sym e))
  by_mount k s l (Some j) e = line_mount k j s (line_of true (drop 2 l)) e

  apart : AreApart (session_lines p)
  apart = record {
    goes_on = λ l. refl;
    reply = λ k s t l same own. by_text k s t l (session_of l) same.shared same.own own;
    own = λ k s t l same own. by_own k s t l (session_of l) same.shared same.own own;
    other = λ k s l h. by_other k s l (session_of l) h;
    shared = λ s t l e. by_shared s t l (session_of l) e;
    unshared = λ s l h. by_kept s l (session_of l) h;
  }

  -- among the replies, those of one session are those that it gets if its view is the whole input
  pub views : (s : Sessions Shared Own) → SeesItsView (session_lines p) s
  views = sees_its_view (session_lines p) apart

  -- `mount` and `umount` leave each session's own part
  pub leaves_own : LeavesOwn (session_lines p)
  leaves_own k s l e = by_mount k s l (session_of l) e

  -- a line that names no session changes nothing
  pub unnamed_stays : (s : Sessions Shared Own) (l : List ℕ) → session_of l ≡ None
      → (answered_among (session_calls p) s l).state ≡ s
  unnamed_stays s l h = ap (λ o. (answered_by (session_calls p) s l o).state) h

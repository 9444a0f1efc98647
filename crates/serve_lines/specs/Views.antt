-- `SessionMachine`: a machine of lines for several sessions, whose lines are mixed in one input.
-- `view_of`: the view of a session. `SeesItsView`, `LeavesOwn`, `AgreeOn`: what the laws state.
-- `AreApart`: the condition of the laws. (This project's own.)
use Rattle.std.specs.Prelude.{◌≡◌, ℕ, ◌==◌, ◌||◌, Bool, true, false, List, [], ◌∷◌, Option, Some}
use Rattle.std.specs.Prelude.{None}
use Rattle.std.specs.List.{filter}
use Rattle.serve_lines.specs.Served.{Machine, Exchange, exchanges, lines_of, joined}

abbrev pub is_of : ℕ → Option ℕ → Bool
is_of k None = false
is_of k (Some j) = j == k

-- A machine whose lines are those of sessions. It has the session that a line names, whether a line
-- may change what all sessions share, and the shared part and each session's own part of a state.
pub record SessionMachine (S Shared Own : Type 0) : Type 0 where
  pub machine : Machine S
  pub session : List ℕ → Option ℕ
  pub is_shared : List ℕ → Bool
  pub shared_of : S → Shared
  pub own_of : S → ℕ → Own

module _ {S Shared Own : Type 0} where
  -- the line names session k
  abbrev pub names : SessionMachine S Shared Own → ℕ → List ℕ → Bool
  names m k line = is_of k (m.session line)

  -- what session k sees: its own lines, and the lines of all sessions that may change the shared
  -- part
  abbrev pub is_seen : SessionMachine S Shared Own → ℕ → List ℕ → Bool
  is_seen m k line = names m k line || m.is_shared line

  abbrev pub view : SessionMachine S Shared Own → ℕ → List (List ℕ) → List (List ℕ)
  view m k ls = filter (is_seen m k) ls

  -- the view as an input
  abbrev pub view_of : SessionMachine S Shared Own → ℕ → List ℕ → List ℕ
  view_of m k x = joined (view m k (lines_of x))

  -- the lines of session k with their replies
  abbrev pub of_session : SessionMachine S Shared Own → ℕ → List Exchange → List Exchange
  of_session m k es = filter (λ e. names m k e.line) es

  -- two states that are the same for session k
  pub record IsSame (m : SessionMachine S Shared Own) (k : ℕ) (s t : S) : Type 0 where
    pub shared : m.shared_of s ≡ m.shared_of t
    pub own : m.own_of s k ≡ m.own_of t k

  -- Sessions are apart. A session's replies and its own part depend only on that part, on its lines
  -- and on the shared part. The shared part depends only on itself and on the lines that may change
  -- it. No line ends the serving.
  pub record AreApart (m : SessionMachine S Shared Own) : Type 0 where
    pub goes_on : (l : List ℕ) → m.machine.ends l ≡ false
    pub reply : (k : ℕ) (s t : S) (l : List ℕ) → IsSame m k s t → names m k l ≡ true
        → m.machine.reply s l ≡ m.machine.reply t l
    pub own : (k : ℕ) (s t : S) (l : List ℕ) → IsSame m k s t → names m k l ≡ true
        → m.own_of (m.machine.next s l) k ≡ m.own_of (m.machine.next t l) k
    pub other : (k : ℕ) (s : S) (l : List ℕ) → names m k l ≡ false
        → m.own_of (m.machine.next s l) k ≡ m.own_of s k
    pub shared : (s t : S) (l : List ℕ) → m.shared_of s ≡ m.shared_of t
        → m.shared_of (m.machine.next s l) ≡ m.shared_of (m.machine.next t l)
    pub unshared : (s : S) (l : List ℕ) → m.is_shared l ≡ false
        → m.shared_of (m.machine.next s l) ≡ m.shared_of s

  -- Among the replies to an input, those of one session are the ones that it gets if its view is
  -- the whole input.
  abbrev pub SeesItsView : SessionMachine S Shared Own → S → Type 0
  SeesItsView m s = (k : ℕ) (x : List ℕ)
      → of_session m k (exchanges m.machine s (lines_of x))
      ≡ of_session m k (exchanges m.machine s (lines_of (view_of m k x)))

  -- a line that may change the shared part leaves each session's own part as it is
  abbrev pub LeavesOwn : SessionMachine S Shared Own → Type 0
  LeavesOwn m = (k : ℕ) (s : S) (l : List ℕ) → m.is_shared l ≡ true
      → m.own_of (m.machine.next s l) k ≡ m.own_of s k

-- Two machines do the same with fine lines in clean states, which stay clean.
pub record AgreeOn {S : Type 0} (m n : Machine S) (Clean : S → Type 0)
    (Fine : List ℕ → Type 0) : Type 0 where
  pub ends : (l : List ℕ) → m.ends l ≡ n.ends l
  pub reply : (s : S) (l : List ℕ) → Clean s → Fine l → m.reply s l ≡ n.reply s l
  pub next : (s : S) (l : List ℕ) → Clean s → Fine l → m.next s l ≡ n.next s l
  pub clean : (s : S) (l : List ℕ) → Clean s → Fine l → Clean (m.next s l)

abbrev pub AllFine : (List ℕ → Type 0) → List (List ℕ) → Type 0
AllFine Fine [] = Unit {0}
AllFine Fine (l ∷ ls) = Fine l × AllFine Fine ls

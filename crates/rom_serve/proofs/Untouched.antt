-- An image that no line mounts may be any other.
use Rattle.std.proofs.Common.{◌≡◌, ℕ, ◌<◌, true, false, List, drop, Option, Some, None, refl, sym, ap, ◌∙◌, subst, ◌==◌}
use Rattle.std.specs.Prelude.{slice_set}
use Rattle.rom_tree.specs.Image.{Image}
use Rattle.path_walk.specs.declared.mount.Mount.{Mount}
use Rattle.path_walk.specs.Graft.{MountedNode}
use Rattle.open_files.specs.Calls.{Answer}
use Rattle.open_files.specs.Machine.{Table}
use Rattle.open_files.specs.Sessions.{Sessions, with_own, shared_answer, graft_parts, space_calls, is_mounted}
use Rattle.open_files.specs.Sessions.{no_sessions}
use Rattle.serve_lines.specs.Commands.{Call, Line, asks, is_bad, line_of}
use Rattle.serve_lines.specs.Served.{exchanges, lines_of}
use Rattle.serve_lines.specs.Views.{AgreeOn}
use Rattle.serve_lines.proofs.Agree.{same_replies}
use Rattle.rom_serve.specs.Obeyed.{Said, says, said, of_done, obeyed, answered}
use Rattle.rom_serve.specs.Machines.{space_machine, session_of, answered_by, prefixed}
use Rattle.rom_serve.specs.SessionLines.{mounts_call, mounts, mounts_of, NeverMounts}
use Rattle.rom_serve.proofs.CallKinds.{by_kind, lifted}
use Rattle.rom_serve.proofs.OtherImage.{of_both, mounting_other, unmounting_other, mounting_free, unmounting_free}
use Rattle.rom_serve.proofs.OtherCalls.{AreOther, none_other, obeyed_same, obeyed_other}

abbrev State : Type 0
State = Sessions (List Mount) (Table MountedNode)

-- image i is not mounted, and nothing of it is open
record IsClean (i : ℕ) (s : State) : Type 0 where
  shared : is_mounted i s.shared ≡ false
  own : (k : ℕ) → AreOther i (s.own k)

module _ (i : ℕ) (m : Image) (ms : List Image) (some : 0 < i) where
  call_same : (k : ℕ) (s : State) → IsClean i s → (c : Call)
      → obeyed (space_calls 64 (slice_set ms i m) k) s c ≡ obeyed (space_calls 64 ms k) s c
  call_same k s h = by_kind (λ c. obeyed (space_calls 64 (slice_set ms i m) k) s c ≡ obeyed (space_calls 64 ms k) s c)
      (λ j x. ap (λ (a : Answer (List Mount) (Unit {0})). said of_done (shared_answer s a))
      (mounting_other i m ms s.shared some h.shared j x))
      (λ j. ap (λ (a : Answer (List Mount) (Unit {0})). said of_done (shared_answer s a))
      (unmounting_other i m ms s.shared some h.shared j))
      (λ c e. let F : Said (Table MountedNode) → Said (State) = λ a. says a.text (with_own s k a.state) in
      lifted (graft_parts 64 (slice_set ms i m)) k s c e
      ∙ ap F (obeyed_same i m ms s.shared some h.shared (s.own k) c (h.own k))
      ∙ sym (lifted (graft_parts 64 ms) k s c e))

  call_clean : (k : ℕ) (s : State) → IsClean i s → (c : Call) → mounts_call i c ≡ false
      → IsClean i (obeyed (space_calls 64 ms k) s c).state
  call_clean k s h = by_kind (λ c. mounts_call i c ≡ false → IsClean i (obeyed (space_calls 64 ms k) s c).state)
      (λ j x e. record { shared = mounting_free i m ms s.shared some h.shared j x e; own = h.own })
      (λ j e. record { shared = unmounting_free i m ms s.shared some h.shared j; own = h.own })
      (λ c e f. let P : Said (State) → Type 0 = λ a. IsClean i a.state in
      subst P (sym (lifted (graft_parts 64 ms) k s c e)) (record {
        shared = h.shared;
        own = λ j. of_both (AreOther i) (j == k) _ (s.own j)
            (obeyed_other i m ms s.shared some h.shared (s.own k) c (h.own k)) (h.own j);
      }))

  line_same : (k : ℕ) (s : State) → IsClean i s → (l : Line)
      → answered (space_calls 64 (slice_set ms i m) k) s l ≡ answered (space_calls 64 ms k) s l
  line_same k s h (asks c) = call_same k s h c
  line_same k s h (is_bad b) = refl

  line_clean : (k : ℕ) (s : State) → IsClean i s → (l : Line) → mounts i l ≡ false
      → IsClean i (answered (space_calls 64 ms k) s l).state
  line_clean k s h (asks c) e = call_clean k s h c e
  line_clean k s h (is_bad b) e = h

  by_same : (s : State) (l : List ℕ) (o : Option ℕ) → IsClean i s
      → answered_by (space_calls 64 (slice_set ms i m)) s l o ≡ answered_by (space_calls 64 ms) s l o
  by_same s l None h = refl
  by_same s l (Some k) h = ap (λ (a : Said (State)). prefixed k a) (line_same k s h (line_of true (drop 2 l)))

  by_clean : (s : State) (l : List ℕ) (o : Option ℕ) → mounts_of i l o ≡ false → IsClean i s
      → IsClean i (answered_by (space_calls 64 ms) s l o).state
  by_clean s l None e h = h
  by_clean s l (Some k) e h = line_clean k s h (line_of true (drop 2 l)) e

  agree : AgreeOn (space_machine (slice_set ms i m)) (space_machine ms) (IsClean i)
      (λ l. mounts_of i l (session_of l) ≡ false)
  agree = record {
    ends = λ l. refl;
    reply = λ s l h e. ap (λ (a : Said (State)). a.text) (by_same s l (session_of l) h);
    next = λ s l h e. ap (λ (a : Said (State)). a.state) (by_same s l (session_of l) h);
    clean = λ s l h e. subst (IsClean i) (sym (ap (λ (a : Said (State)). a.state) (by_same s l (session_of l) h)))
        (by_clean s l (session_of l) e h);
  }

  -- all replies stay the same
  pub untouched : (x : List ℕ) → NeverMounts i x
      → exchanges (space_machine (slice_set ms i m)) (no_sessions 64) (lines_of x)
      ≡ exchanges (space_machine ms) (no_sessions 64) (lines_of x)
  untouched x never =
      same_replies (space_machine (slice_set ms i m)) (space_machine ms) (IsClean i)
      (λ l. mounts_of i l (session_of l) ≡ false) agree
      (no_sessions 64) (lines_of x) (record { shared = refl; own = λ k. none_other i 64 }) never

-- Calls of a session, by what they change.
use Rattle.std.proofs.Common.{◌≡◌, ℕ, Bool, true, false, cond, List, refl, sym, ap, ◌∙◌, ◌==◌}
use Rattle.std.proofs.lemmas.Bool.{true≢false}
use Rattle.open_files.specs.Sessions.{Sessions, Parts, with_own, session_calls}
use Rattle.serve_lines.specs.declared.word.PathCall.TheVariants as path_call
use Rattle.serve_lines.specs.declared.word.FdCall.TheVariants as fd_call
use Rattle.serve_lines.specs.Commands.{Call, on_path, on_fd, read, lend, seek, map_part, quit, mount, umount}
use Rattle.rom_serve.specs.Obeyed.{Said, says, obeyed, result_text, of_done}
use Rattle.rom_serve.specs.SessionLines.{is_mount_call}

-- what holds of `mount`, of `umount` and of each call that mounts nothing holds of all calls
pub by_kind : (P : Call → Type 0) → ((i : ℕ) (path : List ℕ) → P (mount i path)) → ((i : ℕ) → P (umount i))
    → ((c : Call) → is_mount_call c ≡ false → P c) → (c : Call) → P c
by_kind P f g h (mount i path) = f i path
by_kind P f g h (umount i) = g i
by_kind P f g h (on_path a path) = h (on_path a path) refl
by_kind P f g h (on_fd a fd) = h (on_fd a fd) refl
by_kind P f g h (read fd n) = h (read fd n) refl
by_kind P f g h (lend fd n) = h (lend fd n) refl
by_kind P f g h (seek fd n) = h (seek fd n) refl
by_kind P f g h (map_part fd o n) = h (map_part fd o n) refl
by_kind P f g h quit = h quit refl

module _ {Shared Own : Type 0} (p : Parts Shared Own) where
  -- a call that mounts nothing is one on its session's own part
  pub lifted : (k : ℕ) (s : Sessions Shared Own) (c : Call) → is_mount_call c ≡ false
      → obeyed (session_calls p k) s c
      ≡ says (obeyed (p.over s.shared) (s.own k) c).text (with_own s k (obeyed (p.over s.shared) (s.own k) c).state)
  lifted k s (on_path path_call.Lookup x) e = refl
  lifted k s (on_path path_call.Stat x) e = refl
  lifted k s (on_path path_call.Lstat x) e = refl
  lifted k s (on_path path_call.Readlink x) e = refl
  lifted k s (on_path path_call.Open x) e = refl
  lifted k s (on_fd fd_call.Fstat fd) e = refl
  lifted k s (on_fd fd_call.Readdir fd) e = refl
  lifted k s (on_fd fd_call.Rewind fd) e = refl
  lifted k s (on_fd fd_call.Close fd) e = refl
  lifted k s (read fd n) e = refl
  lifted k s (lend fd n) e = refl
  lifted k s (seek fd n) e = refl
  lifted k s (map_part fd o n) e = refl
  lifted k s quit e = refl
  lifted k s (mount i x) e = absurd (true≢false e)
  lifted k s (umount i) e = absurd (true≢false e)

  -- the text comes from what is shared and from the session's own part
  pub call_text : (k : ℕ) (s t : Sessions Shared Own) → s.shared ≡ t.shared → s.own k ≡ t.own k → (c : Call)
      → (obeyed (session_calls p k) s c).text ≡ (obeyed (session_calls p k) t c).text
  call_text k s t e f = by_kind (λ c. (obeyed (session_calls p k) s c).text ≡ (obeyed (session_calls p k) t c).text)
      (λ i path. ap (λ (u : Shared). result_text of_done (p.mounted u i path).reply) e)
      (λ i. ap (λ (u : Shared). result_text of_done (p.unmounted u i).reply) e)
      (λ c h. ap (λ (a : Said (Sessions Shared Own)). a.text) (lifted k s c h)
      ∙ (ap (λ (u : Shared). (obeyed (p.over u) (s.own k) c).text) e
      ∙ ap (λ (o : Own). (obeyed (p.over t.shared) o c).text) f)
      ∙ sym (ap (λ (a : Said (Sessions Shared Own)). a.text) (lifted k t c h)))

  -- and so does its own part afterwards
  pub call_own : (k : ℕ) (s t : Sessions Shared Own) → s.shared ≡ t.shared → s.own k ≡ t.own k → (c : Call)
      → (obeyed (session_calls p k) s c).state.own k ≡ (obeyed (session_calls p k) t c).state.own k
  call_own k s t e f =
      by_kind (λ c. (obeyed (session_calls p k) s c).state.own k ≡ (obeyed (session_calls p k) t c).state.own k)
      (λ i path. f)
      (λ i. f)
      (λ c h. ap (λ (a : Said (Sessions Shared Own)). a.state.own k) (lifted k s c h)
      ∙ (ap (λ (o : Own). cond (k == k) (obeyed (p.over s.shared) (s.own k) c).state o) f
      ∙ (ap (λ (u : Shared). cond (k == k) (obeyed (p.over u) (s.own k) c).state (t.own k)) e
      ∙ ap (λ (o : Own). cond (k == k) (obeyed (p.over t.shared) o c).state (t.own k)) f))
      ∙ sym (ap (λ (a : Said (Sessions Shared Own)). a.state.own k) (lifted k t c h)))

  -- what is shared comes from itself, whichever the session
  pub call_shared : (k : ℕ) (s t : Sessions Shared Own) → s.shared ≡ t.shared → (c : Call)
      → (obeyed (session_calls p k) s c).state.shared ≡ (obeyed (session_calls p k) t c).state.shared
  call_shared k s t e =
      by_kind (λ c. (obeyed (session_calls p k) s c).state.shared ≡ (obeyed (session_calls p k) t c).state.shared)
      (λ i path. ap (λ (u : Shared). (p.mounted u i path).state) e)
      (λ i. ap (λ (u : Shared). (p.unmounted u i).state) e)
      (λ c h. ap (λ (a : Said (Sessions Shared Own)). a.state.shared) (lifted k s c h) ∙ e
      ∙ sym (ap (λ (a : Said (Sessions Shared Own)). a.state.shared) (lifted k t c h)))

  pub call_kept : (k : ℕ) (s : Sessions Shared Own) (c : Call) → is_mount_call c ≡ false
      → (obeyed (session_calls p k) s c).state.shared ≡ s.shared
  call_kept k s c h = ap (λ (a : Said (Sessions Shared Own)). a.state.shared) (lifted k s c h)

  other : (j k : ℕ) (a b : Own) → (j == k) ≡ false → cond (j == k) a b ≡ b
  other j k a b h = ap (λ (t : Bool). cond t a b) h

  -- the other sessions' own parts stay
  pub call_other : (j k : ℕ) (s : Sessions Shared Own) → (j == k) ≡ false → (c : Call)
      → (obeyed (session_calls p k) s c).state.own j ≡ s.own j
  call_other j k s e = by_kind (λ c. (obeyed (session_calls p k) s c).state.own j ≡ s.own j)
      (λ i path. refl)
      (λ i. refl)
      (λ c h. ap (λ (a : Said (Sessions Shared Own)). a.state.own j) (lifted k s c h)
      ∙ other j k (obeyed (p.over s.shared) (s.own k) c).state (s.own j) e)

  -- `mount` and `umount` leave all own parts
  pub call_mount : (j k : ℕ) (s : Sessions Shared Own) (c : Call) → is_mount_call c ≡ true
      → (obeyed (session_calls p k) s c).state.own j ≡ s.own j
  call_mount j k s = by_kind (λ c. is_mount_call c ≡ true → (obeyed (session_calls p k) s c).state.own j ≡ s.own j)
      (λ i path e. refl)
      (λ i e. refl)
      (λ c h e. absurd (true≢false (sym e ∙ h)))

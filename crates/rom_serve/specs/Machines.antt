-- `image_machine`, `space_machine`: the machines of lines of one image, and of several with
-- sessions. `session_of`: the session that a line names. (This project's own.)
use Rattle.std.specs.Prelude.{ℕ, ◌+◌, ◌-◌, ◌==◌, nat_lt, Bool, true, false, if◌then◌else◌, List}
use Rattle.std.specs.Prelude.{◌∷◌, length, drop, slice_index, Option, Some, None}
use Rattle.rom_tree.specs.Tree.{Node}
use Rattle.rom_tree.specs.Image.{Image}
use Rattle.path_walk.specs.declared.mount.Mount.{Mount}
use Rattle.path_walk.specs.Graft.{MountedNode}
use Rattle.open_files.specs.Calls.{Calls}
use Rattle.open_files.specs.Machine.{Table, image_calls}
use Rattle.open_files.specs.Sessions.{Sessions, space_calls}
use Rattle.serve_lines.specs.Served.{Machine}
use Rattle.serve_lines.specs.declared.bad.Bad.{Bad}
use Rattle.serve_lines.specs.declared.bad.Bad.TheVariants as bad
use Rattle.serve_lines.specs.Commands.{Call, quit, Line, asks, is_bad, line_of}
use Rattle.serve_lines.specs.Texts.{bad_text}
use Rattle.rom_serve.specs.Obeyed.{Said, says, answered}

abbrev pub is_quit_call : Call → Bool
is_quit_call quit = true
is_quit_call _ = false

abbrev pub is_quit : Line → Bool
is_quit (asks c) = is_quit_call c
is_quit (is_bad b) = false

-- lines of one table of open files; `quit` ends the serving
abbrev pub lines_alone : {S : Type 0} → Calls S → Machine S
lines_alone c = record {
  reply = λ s line. (answered c s (line_of false line)).text;
  next = λ s line. (answered c s (line_of false line)).state;
  ends = λ line. is_quit (line_of false line);
}

-- A line names its session by a digit from 0 to 7 and a space at its front.
abbrev pub session_digit : List ℕ → Option ℕ
session_digit line =
    if nat_lt (length line) 2 then None
    else if nat_lt (slice_index line 0) 48 then None
    else if nat_lt 55 (slice_index line 0) then None
    else if slice_index line 1 == 32 then Some (slice_index line 0 - 48) else None

-- a line that is too long names none
unfoldable pub session_of : List ℕ → Option ℕ
session_of line = if nat_lt 8191 (length line) then None else session_digit line

-- a reply begins with the digit and the space of its line
abbrev pub prefixed : {S : Type 0} → ℕ → Said S → Said S
prefixed k a = says ((48 + k) ∷ 32 ∷ a.text) a.state

abbrev pub unnamed : List ℕ → Bad
unnamed line = if nat_lt 8191 (length line) then bad.Line else bad.Session

abbrev pub answered_by : {S : Type 0} → (ℕ → Calls S) → S → List ℕ → Option ℕ → Said S
answered_by c s line None = says (bad_text (unnamed line)) s
answered_by c s line (Some k) = prefixed k (answered (c k) s (line_of true (drop 2 line)))

abbrev pub answered_among : {S : Type 0} → (ℕ → Calls S) → S → List ℕ → Said S
answered_among c s line = answered_by c s line (session_of line)

-- lines of several sessions, each with its own calls; no line ends the serving
abbrev pub lines_among : {S : Type 0} → (ℕ → Calls S) → Machine S
lines_among c = record {
  reply = λ s line. (answered_among c s line).text;
  next = λ s line. (answered_among c s line).state;
  ends = λ line. false;
}

-- one image, with 64 descriptors
abbrev pub image_machine : Image → Machine (Table Node)
image_machine m = lines_alone (image_calls 64 m)

-- several images, with 64 descriptors for each session
abbrev pub space_machine : List Image → Machine (Sessions (List Mount) (Table MountedNode))
space_machine ms = lines_among (space_calls 64 ms)

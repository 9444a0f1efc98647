-- `obeyed`, `answered`: the reply to a command, over any calls on open files. (This project's own.)
use Rattle.std.specs.Prelude.{ℕ, List, Option, Some, None, Result, Ok, Err}
use Rattle.rom_tree.specs.declared.types.Stat.{Stat}
use Rattle.open_files.specs.declared.error.CallError.{CallError}
use Rattle.open_files.specs.Calls.{Answer, Of, Lent, Named, Calls}
use Rattle.serve_lines.specs.declared.word.PathCall.TheVariants as path_call
use Rattle.serve_lines.specs.declared.word.FdCall.TheVariants as fd_call
use Rattle.serve_lines.specs.Commands.{Call, on_path, on_fd, read, lend, seek, map_part, quit}
use Rattle.serve_lines.specs.Commands.{mount, umount, Line, asks, is_bad}
use Rattle.serve_lines.specs.Texts.{done_text, end_text, descriptor_text, node_text}
use Rattle.serve_lines.specs.Texts.{attributes_text, piece_text, bytes_text, entry_text}
use Rattle.serve_lines.specs.Texts.{refused_text, bad_text}

-- the text of a reply, and the state after it
pub record Said (S : Type 0) : Type 0 where
  pub text : List ℕ
  pub state : S

abbrev pub says : {S : Type 0} → List ℕ → S → Said S
says t s = record { text = t; state = s }

abbrev pub result_text : {R : Type 0} → (R → List ℕ) → Result R CallError → List ℕ
result_text f (Ok r) = f r
result_text f (Err e) = refused_text e

abbrev pub said : {S R : Type 0} → (R → List ℕ) → Answer S R → Said S
said f a = says (result_text f a.reply) a.state

abbrev pub of_done : Unit {0} → List ℕ
of_done u = done_text

abbrev pub of_node : Of ℕ → List ℕ
of_node x = node_text x.0 x.1

abbrev pub of_stat : Of Stat → List ℕ
of_stat x = attributes_text x.0 x.1

abbrev pub of_piece : Of Lent → List ℕ
of_piece x = piece_text x.0 x.1.place x.1.bytes

abbrev pub of_entry : Option (Of Named) → List ℕ
of_entry None = end_text
of_entry (Some e) = entry_text e.0 e.1.name e.1.node

-- the reply to each call
abbrev pub obeyed : {S : Type 0} → Calls S → S → Call → Said S
obeyed c s (on_path path_call.Lookup p) = said of_node (c.lookup s p)
obeyed c s (on_path path_call.Stat p) = said of_stat (c.stat s p)
obeyed c s (on_path path_call.Lstat p) = said of_stat (c.lstat s p)
obeyed c s (on_path path_call.Readlink p) = said of_piece (c.readlink s p)
obeyed c s (on_path path_call.Open p) = said descriptor_text (c.open_path s p)
obeyed c s (on_fd fd_call.Fstat fd) = said of_stat (c.fstat s fd)
obeyed c s (on_fd fd_call.Readdir fd) = said of_entry (c.readdir s fd)
obeyed c s (on_fd fd_call.Rewind fd) = said of_done (c.rewind s fd)
obeyed c s (on_fd fd_call.Close fd) = said of_done (c.close s fd)
obeyed c s (read fd len) = said bytes_text (c.read_bytes s fd len)
obeyed c s (lend fd len) = said of_piece (c.lend_piece s fd len)
obeyed c s (seek fd off) = said of_done (c.seek_to s fd off)
obeyed c s (map_part fd off len) = said of_piece (c.map_piece s fd off len)
obeyed c s quit = said of_done (c.close_all s)
obeyed c s (mount image p) = said of_done (c.mount_at s image p)
obeyed c s (umount image) = said of_done (c.unmount s image)

abbrev pub answered : {S : Type 0} → Calls S → S → Line → Said S
answered c s (asks call) = obeyed c s call
answered c s (is_bad b) = says (bad_text b) s

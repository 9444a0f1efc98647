-- `reply_text`: the text of a reply of the code. (This project's own.)
use Rattle.std.specs.Prelude.{ℕ, List}
use Rattle.serve_lines.specs.declared.reply.Reply.{Reply}
use Rattle.serve_lines.specs.declared.reply.Reply.TheVariants as reply
use Rattle.serve_lines.specs.Texts.{done_text, end_text, descriptor_text, node_text}
use Rattle.serve_lines.specs.Texts.{attributes_text, piece_text, bytes_text, entry_text}
use Rattle.serve_lines.specs.Texts.{refused_text, bad_text}

unfoldable pub reply_text : Reply → List ℕ
reply_text reply.Done = done_text
reply_text (reply.Descriptor fd) = descriptor_text fd.0
reply_text (reply.Node image node) = node_text image node.0
reply_text (reply.Stat image stat) = attributes_text image stat
reply_text (reply.Piece image piece) = piece_text image piece.place piece.bytes.now
reply_text (reply.Bytes bytes) = bytes_text bytes.now
reply_text (reply.Entry image entry) = entry_text image entry.name.now entry.node.0
reply_text reply.End = end_text
reply_text (reply.Refused e) = refused_text e
reply_text (reply.Bad b) = bad_text b

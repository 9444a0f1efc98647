use Rattle.std.proofs.Common.{subst, sym, ◌∙◌, ℕ, List, ◌++◌}
use Rattle.std.specs.Prelude.{codes}
use Rattle.rom_fields.specs.Written.{Puts, Sink, sink}
use Rattle.rom_fields.proofs.Joins.{chain}
use Rattle.serve_lines.specs.Replies.{reply_text}
use Rattle.serve_lines.specs.declared.reply.Reply.{Reply}
use Rattle.serve_lines.proofs.reply.put_reply.Goals as goal

pub returns-in-Done : goal.returns-in-Done
unfolding reply_text
returns-in-Done g c =
    let P : Reply → Type 0 = λ v. Puts (sink (g.W.ByteWrite.output c.args.w.now) c.args.failed.now)
    (sink (g.W.ByteWrite.output c.put.new.w) c.put.new.failed) (reply_text v) in
    subst P (sym c.in-Done.is) (c.put.ensures)

pub returns-in-Descriptor : goal.returns-in-Descriptor
unfolding reply_text
returns-in-Descriptor g c =
    let P : Reply → Type 0 = λ v. Puts (sink (g.W.ByteWrite.output c.args.w.now) c.args.failed.now)
    (sink (g.W.ByteWrite.output c.put-in-Descriptor-2.new.w) c.put-in-Descriptor-2.new.failed) (reply_text v) in
    subst P (sym c.in-Descriptor.is) (chain c.put-in-Descriptor.ensures
    (chain c.put_decimal.ensures c.put-in-Descriptor-2.ensures))

pub returns-in-Node : goal.returns-in-Node
unfolding reply_text
returns-in-Node g c =
    let P : Reply → Type 0 = λ v. Puts (sink (g.W.ByteWrite.output c.args.w.now) c.args.failed.now)
    (sink (g.W.ByteWrite.output c.put-in-Node-2.new.w) c.put-in-Node-2.new.failed) (reply_text v) in
    subst P (sym c.in-Node.is) (chain c.put-in-Node.ensures
    (chain c.put_image.ensures (chain c.put_decimal-in-Node.ensures c.put-in-Node-2.ensures)))

pub returns-in-Stat : goal.returns-in-Stat
unfolding reply_text
returns-in-Stat g c =
    let P : Reply → Type 0 = λ v. Puts (sink (g.W.ByteWrite.output c.args.w.now) c.args.failed.now)
    (sink (g.W.ByteWrite.output c.put-in-Stat-2.new.w) c.put-in-Stat-2.new.failed) (reply_text v) in
    subst P (sym c.in-Stat.is) (chain c.put-in-Stat.ensures
    (chain c.put_image-in-Stat.ensures (chain c.put_stat.ensures c.put-in-Stat-2.ensures)))

pub returns-in-Piece : goal.returns-in-Piece
unfolding reply_text
returns-in-Piece g c =
    let P : Reply → Type 0 = λ v. Puts (sink (g.W.ByteWrite.output c.args.w.now) c.args.failed.now)
    (sink (g.W.ByteWrite.output c.put_piece.new.w) c.put_piece.new.failed) (reply_text v) in
    subst P (sym c.in-Piece.is) (c.put_piece.ensures)

pub returns-in-Bytes : goal.returns-in-Bytes
unfolding reply_text
returns-in-Bytes g c =
    let P : Reply → Type 0 = λ v. Puts (sink (g.W.ByteWrite.output c.args.w.now) c.args.failed.now)
    (sink (g.W.ByteWrite.output c.put-in-Bytes-3.new.w) c.put-in-Bytes-3.new.failed) (reply_text v) in
    subst P (sym c.in-Bytes.is) (chain c.put-in-Bytes.ensures
    (chain c.put_long_decimal.ensures
    (chain c.put-in-Bytes-2.ensures (chain c.put_hex.ensures c.put-in-Bytes-3.ensures))))

pub returns-in-Entry : goal.returns-in-Entry
unfolding reply_text
returns-in-Entry g c =
    let P : Reply → Type 0 = λ v. Puts (sink (g.W.ByteWrite.output c.args.w.now) c.args.failed.now)
    (sink (g.W.ByteWrite.output c.put-in-Entry-3.new.w) c.put-in-Entry-3.new.failed) (reply_text v) in
    subst P (sym c.in-Entry.is) (chain c.put-in-Entry.ensures
    (chain c.put_escaped.ensures (chain c.put-in-Entry-2.ensures
    (chain c.put_image-in-Entry.ensures (chain c.put_decimal-in-Entry.ensures c.put-in-Entry-3.ensures)))))

pub returns-in-End : goal.returns-in-End
unfolding reply_text
returns-in-End g c =
    let P : Reply → Type 0 = λ v. Puts (sink (g.W.ByteWrite.output c.args.w.now) c.args.failed.now)
    (sink (g.W.ByteWrite.output c.put-in-End.new.w) c.put-in-End.new.failed) (reply_text v) in
    subst P (sym c.in-End.is) (c.put-in-End.ensures)

pub returns-in-Refused : goal.returns-in-Refused
unfolding reply_text
returns-in-Refused g c =
    let from : Sink = sink (g.W.ByteWrite.output c.args.w.now) c.args.failed.now in
    let to : Sink = sink (g.W.ByteWrite.output c.put-in-Refused-3.new.w) c.put-in-Refused-3.new.failed in
    let P : Reply → Type 0 = λ v. Puts from to (reply_text v) in
    let Q : List ℕ → Type 0 = λ v. Puts from to (codes "err " ++ (v ++ codes "\n")) in
    subst P (sym c.in-Refused.is) (subst Q (c.as_bytes.ensures.value ∙ c.name.ensures)
    (chain c.put-in-Refused.ensures (chain c.put-in-Refused-2.ensures c.put-in-Refused-3.ensures)))

pub returns-in-Bad : goal.returns-in-Bad
unfolding reply_text
returns-in-Bad g c =
    let from : Sink = sink (g.W.ByteWrite.output c.args.w.now) c.args.failed.now in
    let to : Sink = sink (g.W.ByteWrite.output c.put-in-Bad.new.w) c.put-in-Bad.new.failed in
    let P : Reply → Type 0 = λ v. Puts from to (reply_text v) in
    let Q : List ℕ → Type 0 = λ v. Puts from to v in
    subst P (sym c.in-Bad.is) (subst Q c.bad_line.ensures c.put-in-Bad.ensures)

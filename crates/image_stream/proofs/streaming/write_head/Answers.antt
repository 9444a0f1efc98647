use Rattle.std.proofs.Common.{List, ℕ, subst}
use Rattle.rom_fields.specs.Written.{WritesText}
use Rattle.image_stream.proofs.streaming.write_head.Goals as goal

pub returns-clause-text : goal.returns-clause-text
returns-clause-text g c =
    subst (λ (v : List ℕ). WritesText (g.W.ByteWrite.output c.args.w.now).contents
    (g.W.ByteWrite.output c.write_whole.new.w).contents
    c.write_whole.result v) c.fill_head.ensures c.write_whole.ensures.text

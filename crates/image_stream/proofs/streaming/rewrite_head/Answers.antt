use Rattle.std.proofs.Common.{List, ℕ, subst}
use Rattle.rom_fields.specs.Rewritten.{RewritesText}
use Rattle.image_stream.proofs.streaming.rewrite_head.Goals as goal

pub returns-clause-text : goal.returns-clause-text
returns-clause-text g c =
    let old = (g.W.ByteWrite.output c.args.w.now).contents in
    let new = (g.W.ByteWrite.output c.rewrite.new.self).contents in
    let f = g.L.Segmented.form c.args.layout.now in
    subst (λ (n : ℕ). RewritesText old new c.rewrite.result n (f.head c.args.stored)) c.image_len.ensures
    (subst (λ (v : List ℕ). RewritesText old new c.rewrite.result c.image_len.result v) c.fill_head.ensures
    c.rewrite.ensures.text)

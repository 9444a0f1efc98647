use Rattle.std.proofs.Common.{ℕ, List, subst}
use Rattle.rom_fields.specs.Written.{Puts, sink}
use Rattle.rom_fields.proofs.Joins.{chain}
use Rattle.image_extents.specs.Lines.{extent_text, range_text, address_of}
use Rattle.image_extents.proofs.lines.put_extent.Goals as goal

pub returns : goal.returns
unfolding extent_text
returns g c =
    let P : List ℕ → Type 0 = λ v. Puts (sink (g.W.ByteWrite.output c.args.w.now) c.args.failed.now)
    (sink (g.W.ByteWrite.output c.put_range.new.w) c.put_range.new.failed) v in
    let A : ℕ → Type 0 = λ v. P (range_text (address_of c.args.base v) c.from-2.result c.word_of.result.now) in
    let L : ℕ → Type 0 = λ v. P (range_text (address_of c.args.base c.args.x.start) v c.word_of.result.now) in
    let W : List ℕ → Type 0 = λ v. P (range_text (address_of c.args.base c.args.x.start) c.args.x.len v) in
    chain (subst W c.word_of.ensures (subst L c.from-2.ensures (subst A c.from.ensures c.put_range.ensures)))
    c.put_owner.ensures

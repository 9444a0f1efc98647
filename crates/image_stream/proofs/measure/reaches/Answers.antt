use Rattle.std.proofs.Common.{◌≡◌, ◌-◌, length, take, drop, ap, arith, length-take, length-drop}
use Rattle.std.proofs.lemmas.Bool.{false≢true}
use Rattle.image_stream.specs.Sources.{content_of}
use Rattle.image_stream.proofs.measure.reaches.Goals as goal

pub returns-in-Ok-eq0-clause-yes : goal.returns-in-Ok-eq0-clause-yes
returns-in-Ok-eq0-clause-yes g c = λ h. absurd (false≢true h)

pub returns-in-Ok-clause-yes : goal.returns-in-Ok-clause-yes
returns-in-Ok-clause-yes g c = λ _ cs is.
    let bs = c.read_at.new.buf in
    let xs = drop (c.args.size - 1) (content_of cs c.args.file) in
    let n = c.in-Ok.field-0 in
    let b = c.in-Ok.ensures.bound in
    let t = c.in-Ok.field-0-test in
    let same : length (take n bs) ≡ length (take n xs) = ap length (c.in-Ok.ensures.bytes cs is).0 in
    omega (
      arith,
      same,
      b.0,
      t,
      length-take n bs,
      length-take n xs,
      length-drop (c.args.size - 1) (content_of cs c.args.file),
    )

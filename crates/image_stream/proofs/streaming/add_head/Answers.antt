use Rattle.std.proofs.Common.{List, ℕ, ◌++◌, subst}
use Rattle.image_stream.proofs.streaming.add_head.Goals as goal

pub returns : goal.returns
returns g c =
    λ xs h. subst (λ (v : List ℕ). g.C.Checksum.Is c.add.new.self (xs ++ v)) c.fill_head.ensures (c.add.ensures xs h)

use Rattle.std.proofs.Common.{◌≡◌, ap, ◌∙◌}
use Rattle.std.specs.NonZero.{non_zero_usize_get}
use Rattle.lookups.proofs.cache.Cached.new.Goals as goal

pub returns-in-Ok-clause-room : goal.returns-in-Ok-clause-room
returns-in-Ok-clause-room g c =
    let e : non_zero_usize_get c.unwrap.result ≡ c.args.names = rw c.unwrap.ensures at c.new.ensures in
    ap (λ k. k.cap) c.in-Ok.ensures ∙ e

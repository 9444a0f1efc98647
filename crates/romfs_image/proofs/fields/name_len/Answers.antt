use Rattle.std.proofs.Common.{◌+◌, ◌-◌, ◌<◌, ◌≤◌, ◌≡◌, length, arith}
use Rattle.romfs_format.proofs.Zeros.{named}
use Rattle.romfs_image.proofs.fields.name_len.Goals as goal
use Rattle.romfs_image.proofs.fields.name_len.Goals.{then-len-at-lt256, else-len-at-lt256}

pub returns : goal.returns
returns c =
    let b = c.args.b.now in
    let at = c.args.at in
    let n = c.if-len-at-lt256.end - at in
    let fits : (at + n ≤ length b) × (n ≤ 256) × (n < 256 → at + n ≡ length b) =
    elim c.if-len-at-lt256.branch [ then-len-at-lt256 w ↦ omega arith | else-len-at-lt256 w ↦ omega arith ] in
    named b at n c.memchr-found.result fits.0 fits.1 fits.2 c.memchr-found.ensures

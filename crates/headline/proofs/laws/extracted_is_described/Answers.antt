use Rattle.image_check.specs.Any.{any_view, report_of}
use Rattle.image_info.specs.Volumes.{volume_of}
use Rattle.headline.proofs.Accepted.{same_bytes}
use Rattle.headline.proofs.Again.{volume_is}
use Rattle.headline.proofs.laws.extracted_is_described.Goals as goal

pub returns : goal.returns
returns c = λ all limits s rules h k l f z p.
    let v = volume_is s (same_bytes all limits (any_view s) (report_of s) h k) l in
    c.accepted_is_described.ensures all limits (any_view s) (report_of s) (volume_of s) rules h k v f z p

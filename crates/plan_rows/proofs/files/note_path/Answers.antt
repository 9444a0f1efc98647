use Rattle.std.proofs.Common.{ap, ◌∙◌, cond, Some}
use Rattle.std.specs.Str.{bytes_eq}
use Rattle.manifest.proofs.Keys.{has_more}
use Rattle.plan_rows.specs.Files.{noted}
use Rattle.plan_rows.proofs.files.note_path.Goals as goal

pub returns : goal.returns
returns c = λ q.
    let more = has_more c.in_ok-key.key.items c.args.paths.now c.insert.new.self
    (Some c.args.target) c.in_ok-insert.ensures.updates q in
    more ∙ ap (λ k. cond (bytes_eq k q) (Some c.args.target) (noted c.args.paths.now q))
    (c.in_ok-key.ensures.items_if_clones_equal (λ x y same. same))

use Rattle.std.proofs.Common.{◌≡◌, cond, ap, ◌∙◌, Option, Some, rules}
use Rattle.build_commands.specs.Noting.{are_equal, merged, noted}
use Rattle.build_commands.specs.declared.rights.Attributes.{Attributes}
use Rattle.build_commands.proofs.Attributed.{keys_tested}
use Rattle.build_commands.proofs.rights.note.Goals as goal

pub returns : goal.returns
returns c = λ k.
    let before : c.copied-before.result ≡ noted c.args.notes.now c.args.key = search rules in
    c.in_ok-insert.ensures.updates.0 k
    ∙ ap (λ b. cond b (Some c.merged.result) (noted c.args.notes.now k)) (keys_tested c.args.key k)
    ∙ ap (λ (v : Attributes). cond (are_equal c.args.key k) (Some v) (noted c.args.notes.now k))
    (c.merged.ensures ∙ ap (λ (o : Option Attributes). merged o c.args.next) before)

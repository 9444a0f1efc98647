use Rattle.std.proofs.Common.{[], ◌<◌, ◌∙◌, ap, arith, vec_len, vec_capacity, List}
use Rattle.tree_extract.specs.Accounts.{logged}
use Rattle.tree_extract.specs.declared.account.Answered.{Answered}
use Rattle.tree_extract.proofs.Noted.{one_more, taken}
use Rattle.tree_extract.proofs.account.Account.note.Goals as goal

pub returns : goal.returns
returns c = λ ms.
    let fits : vec_len c.args.self.now.answered < vec_capacity c.args.self.now.answered = omega arith in
    ap (λ (l : List Answered). logged ms [] l) (c.push.ensures.items ∙ taken c.push.result _ _ (c.push.ensures.succeeds
    fits))
    ∙ one_more ms [] c.args.self.now.answered.items
    (record { asked = c.args.asked; index = c.args.index; is_done = c.args.is_done })

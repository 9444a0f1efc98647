use Rattle.std.proofs.Common.{[], ◌<◌, ◌∙◌, ap, arith, vec_len, vec_capacity, List}
use Rattle.atomic_file.specs.Accounts.{logged}
use Rattle.atomic_file.specs.declared.account.Answered.{Answered}
use Rattle.atomic_file.proofs.Noted.{one_more, taken}
use Rattle.atomic_file.proofs.account.Account.note.Goals as goal

pub returns-clause-log : goal.returns-clause-log
returns-clause-log c =
    let fits : vec_len c.args.self.now.answered < vec_capacity c.args.self.now.answered = omega arith in
    ap (λ (l : List Answered). logged [] l) (c.push.ensures.items ∙ taken c.push.result _ _ (c.push.ensures.succeeds
    fits))
    ∙ one_more [] c.args.self.now.answered.items (record { asked = c.args.asked; answer = c.args.answer })

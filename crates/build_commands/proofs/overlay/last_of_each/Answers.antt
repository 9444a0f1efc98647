use Rattle.std.proofs.Common.{◌≡◌, [], sym, ap, ◌∙◌, rules}
use Rattle.std.proofs.lemmas.List.{nil_from_length}
use Rattle.build_commands.proofs.Overlaid.{agree, holds_first, holds_none, holds_other, holds_same, laid_last}
use Rattle.build_commands.proofs.Overlaid.{laid_none, mixed}
use Rattle.build_commands.proofs.overlay.last_of_each.Goals as goal
use Rattle.build_commands.proofs.overlay.last_of_each.Goals.{in-Some-held+then-not-have_one_path+in_ok-push}
use Rattle.build_commands.proofs.overlay.last_of_each.Goals.{}
use Rattle.build_commands.proofs.overlay.last_of_each.Goals.{in-Some-held+else-not-have_one_path+else-is_directory+in-Symlink-1}
use Rattle.build_commands.proofs.overlay.last_of_each.Goals.{}
use Rattle.build_commands.proofs.overlay.last_of_each.Goals.{in-Some-held+else-not-have_one_path+else-is_directory+in-Directory-1}
use Rattle.build_commands.proofs.overlay.last_of_each.Goals.{in_default, in-Some-held-2+in_ok-push-2, in_default-held}

pub returns-then-is_directory-clause-mixed : goal.returns-then-is_directory-clause-mixed
returns-then-is_directory-clause-mixed c =
    mixed _ _ _ _ _ c.in-Some-held.last c.in-Some.file _ _ c.loop-file.invariant.state c.in-Some-held.is
    c.in-Some.ensures.steps.0 (search rules) c.if-is_directory.true c.is_directory.ensures
    c.is_directory-else-not-have_one_path.ensures

pub loop-file-preserved : goal.loop-file-preserved
loop-file-preserved c =
    let i = c.loop-file.invariant.state in
    let next = c.in-Some.ensures.steps.0 in
    elim c.match-held.branch [
      | in-Some-held+then-not-have_one_path+in_ok-push w ↦
          record {
            next = tt;
            finite = tt;
            state = holds_other _ _ _ _ _ _ w.in-Some-held.last c.in-Some.file i w.in-Some-held.is next
                (search rules) (ap (λ v. v.items) w.laid-is ∙ w.in_ok-push.ensures.items);
          }
      | in-Some-held+else-not-have_one_path+else-is_directory+in-Symlink-1 w ↦
          record {
            next = tt;
            finite = tt;
            state = holds_same _ _ _ _ _ _ w.in-Some-held.last c.in-Some.file i w.in-Some-held.is next
                (search rules) (agree _ _ _ _ w.if-is_directory.false w.is_directory.ensures
                w.is_directory-else-not-have_one_path.ensures) (ap (λ v. v.items) w.laid-is);
          }
      | in-Some-held+else-not-have_one_path+else-is_directory+in-Directory-1 w ↦
          record {
            next = tt;
            finite = tt;
            state = holds_same _ _ _ _ _ _ w.in-Some-held.last c.in-Some.file i w.in-Some-held.is next
                (search rules) (agree _ _ _ _ w.if-is_directory.false w.is_directory.ensures
                w.is_directory-else-not-have_one_path.ensures) (ap (λ v. v.items) w.laid-is);
          }
      | in_default w ↦
          record {
            next = tt;
            finite = tt;
            state = holds_first _ _ _ _ _ _ c.in-Some.file i w.in_default.is next (ap (λ v. v.items) w.laid-is);
          }
    ]

pub returns-clause-laid : goal.returns-clause-laid
returns-clause-laid c =
    let i = c.loop-file.invariant.state in
    let end : c.loop-file.file-iterator.rest.items ≡ [] =
    nil_from_length _ (sym c.loop-file.file-iterator.rest.ok.0 ∙ c.in-None.ensures.steps.0)
    in
    elim c.match-held-2.branch [
      | in-Some-held-2+in_ok-push-2 w ↦
          laid_last _ _ _ _ _ w.in-Some-held-2.last c.requires i w.in-Some-held-2.is end
          (ap (λ v. v.items) w.laid-is ∙ w.in_ok-push-2.ensures.items)
      | in_default-held w ↦ laid_none _ _ _ _ _ c.requires i w.in_default-held.is end (ap (λ v. v.items) w.laid-is)
    ]

pub loop-file-init : goal.loop-file-init
loop-file-init c = record {
  next = tt;
  finite = tt;
  state = holds_none _ _ _ (search rules) (search rules);
}

use Rattle.std.proofs.Common.{Some, None, Ok, Err, Result, IfOk, ◌∙◌, ◌++◌, ap, codes}
use Rattle.system_files.proofs.Split.{split_some, split_none}
use Rattle.system_files.proofs.parts.part_path.Goals as goal

ok_more : {A E : Type 0} {P Q : A → Type 0} (r : Result A E) → ((a : A) → P a → Q a) → IfOk r P → IfOk r Q
ok_more (Ok a) f h = f a h
ok_more (Err e) f h = tt

pub returns-in_ok-name-in-Some : goal.returns-in_ok-name-in-Some
returns-in_ok-name-in-Some c = ok_more c.in_directory.result (λ s e. (
  Some c.in-Some.directory.now,
  c.in-Some.name.now,
  split_some c.args.whole.now _ _ c.in-Some.ensures.cases,
  e ∙ ap (λ n. c.in-Some.directory.now ++ codes "/" ++ n) (c.deref.ensures ∙ c.in_ok-name-in-Some.ensures),
)) c.in_directory.ensures

pub returns-in-None : goal.returns-in-None
returns-in-None c = ok_more c.part_name-in-None.result (λ s e. (
  None,
  c.args.whole.now,
  split_none c.args.whole.now c.in-None.ensures.cases,
  e,
)) c.part_name-in-None.ensures

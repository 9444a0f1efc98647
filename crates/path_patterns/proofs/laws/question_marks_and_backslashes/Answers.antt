use Rattle.path_patterns.proofs.Sets as sets
use Rattle.path_patterns.proofs.laws.question_marks_and_backslashes.Goals as goal

pub returns-clause-any : goal.returns-clause-any
returns-clause-any c = sets.question_any_read

pub returns-clause-one : goal.returns-clause-one
returns-clause-one c = sets.question_one_read

pub returns-clause-itself : goal.returns-clause-itself
returns-clause-itself c = sets.escaped_itself_read

pub returns-clause-only : goal.returns-clause-only
returns-clause-only c = sets.escaped_only_read

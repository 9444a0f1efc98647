use Rattle.atomic_file.proofs.Tries.{after_taken, after_in_use, after_cleared, after_again, knows_taken, knows_in_use}
use Rattle.atomic_file.proofs.Tries.{knows_again}
use Rattle.atomic_file.proofs.beginning.try_name.Goals as goal

pub returns-in-Err-Lost-clause-none : goal.returns-in-Err-Lost-clause-none
returns-in-Err-Lost-clause-none g c = (
  after_taken c.args.names c.args.name c.requires.part _ _ c.in-Err-Lost.ensures.logged,
  knows_taken c.args.names c.args.name c.requires.part _ _ c.in-Err-Lost.ensures.logged,
)

pub returns-in-Err-Refused-clause-err : goal.returns-in-Err-Refused-clause-err
returns-in-Err-Refused-clause-err g c = (
  after_taken c.args.names c.args.name c.requires.part _ _ c.in-Err-Refused.ensures.logged,
  (_, c.in-Err-Refused.ensures.logged),
)

pub returns-in-Err-clause-none : goal.returns-in-Err-clause-none
returns-in-Err-clause-none g c = (
  after_in_use c.args.names c.args.name c.requires.part _ _ _ c.in-Err-Exists.ensures.logged c.in-Err.ensures.logged,
  knows_in_use c.args.names c.args.name c.requires.part _ _ _ c.in-Err-Exists.ensures.logged c.in-Err.ensures.logged,
)

pub returns-in-Ok-create_new-clause-some : goal.returns-in-Ok-create_new-clause-some
returns-in-Ok-create_new-clause-some g c = (
  (
    _,
    after_cleared c.args.names c.args.name c.requires.part _ _ _ c.in-Err-Exists.ensures.logged
        c.in-Ok-remove_left.ensures.logged,
    c.in-Ok-create_new.ensures.logged,
  ),
  c.in-Ok-create_new.ensures.empty,
)

pub returns-in-Err-Exists-create_new-clause-none : goal.returns-in-Err-Exists-create_new-clause-none
returns-in-Err-Exists-create_new-clause-none g c = (
  after_again c.args.names c.args.name c.requires.part _ _ _ _ c.in-Err-Exists.ensures.logged
      c.in-Ok-remove_left.ensures.logged c.in-Err-Exists-create_new.ensures.logged,
  knows_again c.args.names c.args.name c.requires.part _ _ _ _ c.in-Err-Exists.ensures.logged
      c.in-Ok-remove_left.ensures.logged c.in-Err-Exists-create_new.ensures.logged,
)

pub returns-in-Err-Lost-create_new-clause-none : goal.returns-in-Err-Lost-create_new-clause-none
returns-in-Err-Lost-create_new-clause-none g c = (
  after_again c.args.names c.args.name c.requires.part _ _ _ _ c.in-Err-Exists.ensures.logged
      c.in-Ok-remove_left.ensures.logged c.in-Err-Lost-create_new.ensures.logged,
  knows_again c.args.names c.args.name c.requires.part _ _ _ _ c.in-Err-Exists.ensures.logged
      c.in-Ok-remove_left.ensures.logged c.in-Err-Lost-create_new.ensures.logged,
)

pub returns-in-Err-Refused-create_new-clause-err : goal.returns-in-Err-Refused-create_new-clause-err
returns-in-Err-Refused-create_new-clause-err g c = (
  after_again c.args.names c.args.name c.requires.part _ _ _ _ c.in-Err-Exists.ensures.logged
      c.in-Ok-remove_left.ensures.logged c.in-Err-Refused-create_new.ensures.logged,
  (_, c.in-Err-Refused-create_new.ensures.logged),
)

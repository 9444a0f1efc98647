use Rattle.rom_fields.proofs.Joins.{said_ok, said_front, said_rose, said_quiet}
use Rattle.program_report.proofs.needs.finish_unread.Goals as goal

pub returns-then-failed-clause-text : goal.returns-then-failed-clause-text
returns-then-failed-clause-text g c = said_front _ _ _ _ c.if-failed.true c.put_unread.ensures

pub returns-then-failed-clause-count : goal.returns-then-failed-clause-count
returns-then-failed-clause-count g c = said_rose _ _ _ _ c.if-failed.true c.put_unread.ensures

pub returns-else-failed-clause-text : goal.returns-else-failed-clause-text
returns-else-failed-clause-text g c = said_ok _ _ _ _ c.if-failed.false c.put_unread.ensures

pub returns-else-failed-clause-count : goal.returns-else-failed-clause-count
returns-else-failed-clause-count g c = said_quiet _ _ _ _ c.if-failed.false c.put_unread.ensures

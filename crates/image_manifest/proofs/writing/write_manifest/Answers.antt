use Rattle.rom_fields.proofs.Joins.{chain, said_ok, said_front, said_rose, said_quiet}
use Rattle.image_manifest.proofs.writing.write_manifest.Goals as goal

pub returns-then-failed-clause-text : goal.returns-then-failed-clause-text
returns-then-failed-clause-text g c =
    said_front _ _ _ _ c.if-failed.true (chain c.put_volume.ensures c.put_members.ensures)

pub returns-then-failed-clause-count : goal.returns-then-failed-clause-count
returns-then-failed-clause-count g c =
    said_rose _ _ _ _ c.if-failed.true (chain c.put_volume.ensures c.put_members.ensures)

pub returns-else-failed-clause-text : goal.returns-else-failed-clause-text
returns-else-failed-clause-text g c =
    said_ok _ _ _ _ c.if-failed.false (chain c.put_volume.ensures c.put_members.ensures)

pub returns-else-failed-clause-count : goal.returns-else-failed-clause-count
returns-else-failed-clause-count g c =
    said_quiet _ _ _ _ c.if-failed.false (chain c.put_volume.ensures c.put_members.ensures)

pub returns-then-failed-clause-unflushed : goal.returns-then-failed-clause-unflushed
returns-then-failed-clause-unflushed g c = (chain c.put_volume.ensures c.put_members.ensures).unflushed

pub returns-else-failed-clause-unflushed : goal.returns-else-failed-clause-unflushed
returns-else-failed-clause-unflushed g c = (chain c.put_volume.ensures c.put_members.ensures).unflushed

use Rattle.rom_fields.proofs.Joins.{chain, said_ok, said_front, said_rose, said_quiet}
use Rattle.image_info.specs.Description.{description}
use Rattle.image_info.proofs.number_writing.write_numbers.Goals as goal

pub returns-then-failed-clause-text : goal.returns-then-failed-clause-text
unfolding description
returns-then-failed-clause-text g c =
    said_front _ _ _ _ c.if-failed.true (chain c.put.ensures (chain c.put-2.ensures c.put_words.ensures))

pub returns-then-failed-clause-count : goal.returns-then-failed-clause-count
unfolding description
returns-then-failed-clause-count g c =
    said_rose _ _ _ _ c.if-failed.true (chain c.put.ensures (chain c.put-2.ensures c.put_words.ensures))

pub returns-else-failed-clause-text : goal.returns-else-failed-clause-text
unfolding description
returns-else-failed-clause-text g c =
    said_ok _ _ _ _ c.if-failed.false (chain c.put.ensures (chain c.put-2.ensures c.put_words.ensures))

pub returns-else-failed-clause-count : goal.returns-else-failed-clause-count
unfolding description
returns-else-failed-clause-count g c =
    said_quiet _ _ _ _ c.if-failed.false (chain c.put.ensures (chain c.put-2.ensures c.put_words.ensures))

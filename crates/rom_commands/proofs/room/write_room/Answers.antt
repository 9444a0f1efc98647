use Rattle.rom_fields.proofs.Joins.{chain, said_ok, said_front, said_rose, said_quiet}
use Rattle.rom_commands.specs.Room.{room_lines}
use Rattle.rom_commands.proofs.room.write_room.Goals as goal

pub returns-then-failed-clause-text : goal.returns-then-failed-clause-text
unfolding room_lines
returns-then-failed-clause-text g c =
    said_front _ _ _ _ c.if-failed.true
    (chain c.put_number.ensures (chain
    (chain c.put.ensures (chain (rw c.fits_word.ensures at c.put-2.ensures) c.put-3.ensures))
    (rw c.saturating_sub.ensures at c.put_number-2.ensures)))

pub returns-then-failed-clause-count : goal.returns-then-failed-clause-count
unfolding room_lines
returns-then-failed-clause-count g c =
    said_rose _ _ _ _ c.if-failed.true
    (chain c.put_number.ensures (chain
    (chain c.put.ensures (chain (rw c.fits_word.ensures at c.put-2.ensures) c.put-3.ensures))
    (rw c.saturating_sub.ensures at c.put_number-2.ensures)))

pub returns-else-failed-clause-text : goal.returns-else-failed-clause-text
unfolding room_lines
returns-else-failed-clause-text g c =
    said_ok _ _ _ _ c.if-failed.false
    (chain c.put_number.ensures (chain
    (chain c.put.ensures (chain (rw c.fits_word.ensures at c.put-2.ensures) c.put-3.ensures))
    (rw c.saturating_sub.ensures at c.put_number-2.ensures)))

pub returns-else-failed-clause-count : goal.returns-else-failed-clause-count
unfolding room_lines
returns-else-failed-clause-count g c =
    said_quiet _ _ _ _ c.if-failed.false
    (chain c.put_number.ensures (chain
    (chain c.put.ensures (chain (rw c.fits_word.ensures at c.put-2.ensures) c.put-3.ensures))
    (rw c.saturating_sub.ensures at c.put_number-2.ensures)))

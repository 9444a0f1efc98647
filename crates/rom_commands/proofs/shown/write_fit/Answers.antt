use Rattle.rom_fields.specs.Written.{Output}
use Rattle.rom_fields.proofs.Joins.{front_after, rose_after}
use Rattle.image_info.specs.Info.{info_text}
use Rattle.rom_commands.specs.Room.{room_text}
use Rattle.rom_commands.proofs.Texts.{failed_front}
use Rattle.rom_commands.proofs.shown.write_fit.Goals as goal

pub returns-in-Err-clause-text : goal.returns-in-Err-clause-text
returns-in-Err-clause-text g c =
    failed_front (g.W.ByteWrite.output c.args.w.now) (g.W.ByteWrite.output c.write_info.new.w)
    (info_text c.args.file c.args.image.now) (room_text c.args.limit c.args.image.now) c.in-Err.error c.in-Err.ensures

pub returns-in-Err-write_room-clause-text : goal.returns-in-Err-write_room-clause-text
returns-in-Err-write_room-clause-text g c =
    let old : Output = g.W.ByteWrite.output c.args.w.now in
    let mid : Output = g.W.ByteWrite.output c.write_info.new.w in
    let new : Output = g.W.ByteWrite.output c.write_room.new.w in
    let text = rw (c.in_ok-free.ensures.ok, c.image_size-size.ensures) at c.in-Err-write_room.ensures.text in (
      front_after old.contents mid.contents new.contents _ _ c.in-Ok.ensures.0 text,
      rose_after old.failures mid.failures new.failures c.in-Ok.ensures.1 c.in-Err-write_room.ensures.count,
    )

use Rattle.std.proofs.Common.{Ok, true, false, inl, refl, sym, ◌∙◌}
use Rattle.rom_fields.specs.Failures.{Rose}
use Rattle.rom_fields.specs.Written.{AppendsPrefix, Output}
use Rattle.image_check.specs.declared.any.AnyImage.{AnyImage}
use Rattle.rom_commands.specs.Asked.{sound_text, warns}
use Rattle.rom_commands.specs.Answers.{IsAnswer, usual_limits}
use Rattle.rom_commands.proofs.Texts.{sound}
use Rattle.rom_commands.proofs.shown.show_answer.Goals as goal

pub returns-then-warned : goal.returns-then-warned
returns-then-warned g c bytes a =
    let v : AnyImage = c.in-Ok.image in
    let h : IsAnswer bytes (Ok v) = rw c.in-Ok.is at a in (
      sound_text c.args.asked v,
      sound bytes c.args.asked usual_limits v refl h.0 h.1 h.2 true
          (sym c.if-warned.true ∙ c.in-Ok-write_sound.ensures.warns),
      c.in-Ok-write_sound.ensures.text.0,
      c.in-Ok-write_sound.ensures.text.1,
    )

pub returns-else-warned : goal.returns-else-warned
returns-else-warned g c bytes a =
    let v : AnyImage = c.in-Ok.image in
    let h : IsAnswer bytes (Ok v) = rw c.in-Ok.is at a in (
      sound_text c.args.asked v,
      sound bytes c.args.asked usual_limits v refl h.0 h.1 h.2 false
          (sym c.if-warned.false ∙ c.in-Ok-write_sound.ensures.warns),
      c.in-Ok-write_sound.ensures.text.0,
      c.in-Ok-write_sound.ensures.text.1,
    )

pub returns-in-Err-WriteFault : goal.returns-in-Err-WriteFault
returns-in-Err-WriteFault g c bytes a =
    let v : AnyImage = c.in-Ok.image in
    let h : IsAnswer bytes (Ok v) = rw c.in-Ok.is at a in
    let old : Output = g.W.ByteWrite.output c.args.w.now in
    let new : Output = g.W.ByteWrite.output c.write_sound.new.w in
    let t : AppendsPrefix old.contents new.contents (sound_text c.args.asked v) × Rose old.failures new.failures =
    rw c.in-Err-WriteFault.field-0-is at c.in-Err-WriteFault.ensures.text in (
      sound_text c.args.asked v,
      inl (
        warns c.args.asked v,
        sound bytes c.args.asked usual_limits v refl h.0 h.1 h.2 (warns c.args.asked v) refl,
      ),
      t.0,
      t.1,
    )

pub returns-in-Err : goal.returns-in-Err
returns-in-Err g c bytes a = c.show_error.ensures bytes (rw c.in-Err.is at a)

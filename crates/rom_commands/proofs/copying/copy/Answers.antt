use Rattle.std.proofs.Common.{◌≡◌, ℕ, List, refl, Some, None}
use Rattle.rom_fields.specs.Written.{Output}
use Rattle.image_check.specs.declared.any.AnyImage.{AnyImage}
use Rattle.image_check.specs.Any.{any_view}
use Rattle.rom_tree.specs.Image.{Image}
use Rattle.rom_commands.specs.Answers.{Holds, usual_limits}
use Rattle.rom_commands.specs.Copying.{Copies, CopyEnds}
use Rattle.rom_commands.specs.declared.ending.Ending.{Ending}
use Rattle.rom_commands.specs.declared.ending.Ending.TheVariants as ending
use Rattle.rom_commands.proofs.Texts.{usual, held, fault_of}
use Rattle.rom_commands.proofs.copying.copy.Goals as goal

-- what was copied of the image that the bytes hold
copied : (bytes path : List ℕ) (m : Image) (old new : Output) (o : Ending) → Holds bytes m → Copies m path old new o
    → CopyEnds bytes path old new o
copied bytes path m old new ending.Done h c = (m, h, c)
copied bytes path m old new ending.Warned h c = absurd c
copied bytes path m old new (ending.Fault fault None) h c = absurd c
copied bytes path m old new (ending.Fault fault (Some image)) h c = absurd c
copied bytes path m old new (ending.NoFile e) h c = (m, h, c)
copied bytes path m old new ending.Usage h c = absurd c
copied bytes path m old new ending.Memory h c = absurd c
copied bytes path m old new ending.ReadFault h c = absurd c
copied bytes path m old new ending.WriteFault h c = (m, h, c)
copied bytes path m old new ending.TooManyReads h c = absurd c
copied bytes path m old new (ending.File name) h c = absurd c
copied bytes path m old new ending.Changed h c = absurd c
copied bytes path m old new ending.LongPath h c = absurd c
copied bytes path m old new ending.LongVolume h c = absurd c

pub returns-in-Ok : goal.returns-in-Ok
returns-in-Ok g c =
    let v : AnyImage = c.in-Ok.image in
    let e : c.usual.result ≡ usual_limits = usual c.usual.result c.usual.ensures.references c.usual.ensures.depth in
    copied c.args.bytes.now c.args.path.now (any_view v) (g.W.ByteWrite.output c.args.w.now)
    (g.W.ByteWrite.output c.copy_file.new.w) c.copy_file.result
    (held c.args.bytes.now c.usual.result v e c.in-Ok.ensures.ok c.in-Ok.ensures.clean) c.copy_file.ensures

pub returns-in-Err-Fault : goal.returns-in-Err-Fault
returns-in-Err-Fault g c =
    let n : ℕ = c.in-Err-Fault.number in
    let at : ℕ = c.in-Err-Fault.at in
    let e : c.usual.result ≡ usual_limits = usual c.usual.result c.usual.ensures.references c.usual.ensures.depth in (
      fault_of c.args.bytes.now c.usual.result n at e
          (rw c.in-Err-Fault.field-0-is at c.in-Err-Fault.ensures.fault)
          (rw c.in-Err-Fault.field-0-is at c.in-Err-Fault.ensures.least),
      refl,
    )

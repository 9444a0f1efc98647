use Rattle.std.proofs.Common.{ℕ, [], List, None, take, get_or}
use Rattle.std.proofs.lemmas.List.{take_more}
use Rattle.rom_fields.specs.Written.{sink}
use Rattle.rom_fields.proofs.Joins.{puts_nothing, chain}
use Rattle.rom_tree.specs.declared.frame.Frame.{Frame}
use Rattle.rom_tree.specs.Frames.{path_text, name_text}
use Rattle.rom_tree.proofs.Stacks.{path_text-push, path_text-nil}
use Rattle.rom_tree.proofs.Paths.{escaped_both, escaped_none}
use Rattle.rom_tree.proofs.path.put_frames.Goals as goal

pub loop-frame-init : goal.loop-frame-init
loop-frame-init g c =
    rw (path_text-nil [], escaped_none) (puts_nothing (sink (g.W.ByteWrite.output c.args.w.now) c.args.failed.now))

pub loop-frame-preserved : goal.loop-frame-preserved
loop-frame-preserved g c =
    let d : Frame = record { directory = record { 0 = 0 }; cursor = record { 0 = 0 }; name = None } in
    let i : ℕ = c.loop-frame.frame-index in
    let frames : List Frame = c.args.frames.now in
    rw (
      take_more frames i d c.loop-frame-test.true,
      path_text-push [] (take i frames) (get_or frames i d),
      escaped_both (path_text [] (take i frames)) (name_text (get_or frames i d).name),
    )
    (chain c.loop-frame.invariant c.put_name.ensures)

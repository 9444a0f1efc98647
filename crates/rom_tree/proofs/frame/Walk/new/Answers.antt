use Rattle.std.proofs.Common.{List, refl, sym, subst}
use Rattle.rom_tree.specs.Frames.{AreFrames}
use Rattle.rom_tree.specs.declared.frame.Frame.{Frame}
use Rattle.rom_tree.proofs.Stacks.{no_frames}
use Rattle.rom_tree.proofs.frame.Walk.new.Goals as goal

pub returns-clause-walk : goal.returns-clause-walk
returns-clause-walk c = λ m l.
    let P : List Frame → Type 0 = λ v. AreFrames m 0 v in
    record {
      depth = l;
      frames = subst P (sym c.new.ensures) (no_frames m);
      fresh = λ e. (c.new.ensures, refl);
    }

pub returns-clause-all : goal.returns-clause-all
returns-clause-all c = λ m. refl

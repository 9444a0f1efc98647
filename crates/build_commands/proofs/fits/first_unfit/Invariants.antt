use Rattle.std.proofs.Common.{◌≡◌, drop}
use Rattle.std.specs.Option.{option_map}
use Rattle.build_commands.specs.Fitting.{first_from, first_unfit}
use Rattle.build_commands.specs.Overlay.{AreInOrder}
use Rattle.build_commands.proofs.fits.first_unfit.Given as goal

abbrev pub invariant-loop-file : goal.invariant-loop-file
invariant-loop-file l =
    AreInOrder l.found
    → first_from l.found l.listed l.first (option_map (λ f. f.now) l.last) (drop l.file-index l.listed)
    ≡ first_unfit l.found l.listed

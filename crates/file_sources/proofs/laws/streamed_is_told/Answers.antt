use Rattle.std.proofs.Common.{map, subst, []}
use Rattle.std.proofs.lemmas.List.{map-append}
use Rattle.file_sources.specs.Told.{told_of}
use Rattle.file_sources.proofs.laws.streamed_is_told.Goals as goal

pub returns : goal.returns
returns g c = λ was is names known f stored old new s h.
    let told = told_of names in (
      map told s.1.0,
      subst (g.O.Opener.IsLog is) (map-append told s.1.0 s.0.answers) (s.1.1 [] h),
    )

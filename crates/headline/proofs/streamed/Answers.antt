use Rattle.image_build.specs.Streamed.{image_with}
use Rattle.headline.proofs.OpenedWhole.{placed_opened}
use Rattle.headline.proofs.Served.{built, given, of_some}
use Rattle.headline.proofs.streamed.Goals as goal

pub returns-clause-each : goal.returns-clause-each
returns-clause-each c = λ text p known old new r₀ r w₀ w o is s.
    let law = c.streamed_is_accepted.ensures in
    given s.answers is.lines p.sizes (image_with p s.rest) r₀ r w₀ w o (λ e. law.refused text p known old new e is s)
    (λ t. law.each text p known old new t is s)

pub returns-clause-built : goal.returns-clause-built
returns-clause-built c = λ text p known old new r₀ r w₀ w o is none s ends.
    let bytes = image_with p s.rest in
    let b = c.streamed_is_accepted.ensures.built text p known old new is none s in
    let law = c.built_is_accepted.ensures in
    of_some text p.sizes bytes b.contents r₀ r w₀ w o b.sized
    (built text b.contents bytes r₀ r w₀ w o (λ e. law.refused p.format text b.contents bytes e b.built)
    (law.meant p.format text b.contents bytes b.built) ends)

pub returns-clause-placed : goal.returns-clause-placed
returns-clause-placed c = λ text p known old new is s.
    let law = c.streamed_is_placed.ensures in (
      law.named text p known old new is s,
      λ t h. (law.runs text p known old new t is s h, law.copies text p known old new t is s h),
    )

pub returns-clause-mapped : goal.returns-clause-mapped
returns-clause-mapped c = λ text p known old new image is s tree.
    placed_opened image is.lines (c.streamed_is_placed.ensures.runs text p known old new image.tree is s tree)

pub returns-clause-in_place : goal.returns-clause-in_place
returns-clause-in_place c = λ o text p known old new t f is e s h held. (
  c.streamed_is_in_place.ensures.in_place o text p known old new t f is e s h held,
  c.streamed_is_in_place.ensures.whole o text p known old new t f is e s h held,
)

pub returns-clause-sealed : goal.returns-clause-sealed
returns-clause-sealed c = c.streamed_is_accepted.ensures.sealed

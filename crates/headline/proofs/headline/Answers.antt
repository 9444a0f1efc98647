use Rattle.rom_commands.specs.Answers.{usual_limits}
use Rattle.headline.proofs.OpenedWhole.{placed_opened}
use Rattle.headline.proofs.Served.{accepted, built, built_under}
use Rattle.headline.proofs.headline.Goals as goal

pub returns-clause-accepted : goal.returns-clause-accepted
returns-clause-accepted c = accepted

pub returns-clause-one : goal.returns-clause-one
returns-clause-one c = c.one_tree.ensures

pub returns-clause-built : goal.returns-clause-built
returns-clause-built c = λ f text contents bytes r₀ r w₀ w o b.
    let law = c.built_is_accepted.ensures in
    built text contents bytes r₀ r w₀ w o (λ e. law.refused f text contents bytes e b)
    (law.meant f text contents bytes b)

pub returns-clause-placed : goal.returns-clause-placed
returns-clause-placed c = λ f text contents bytes m b e.
    let law = c.built_is_placed.ensures in (
      law.named f text contents bytes m b e,
      λ t h. (law.runs f text contents bytes m b e t h, law.copies f text contents bytes m b e t h),
    )

pub returns-clause-built_under : goal.returns-clause-built_under
returns-clause-built_under c = λ limits f text contents bytes r₀ r w₀ w o b.
    let law = c.built_is_accepted.ensures in
    built_under limits text contents bytes r₀ r w₀ w o
    (c.exact.ensures.faultless bytes usual_limits (law.faultless f text contents bytes b))
    (c.one_tree.ensures bytes limits usual_limits) (law.meant f text contents bytes b)

pub returns-clause-mapped : goal.returns-clause-mapped
returns-clause-mapped c = λ f text contents bytes m image b e tree.
    placed_opened image m (c.built_is_placed.ensures.runs f text contents bytes m b e image.tree tree)

pub returns-clause-in_place : goal.returns-clause-in_place
returns-clause-in_place c = λ o text contents bytes m t f b e h held. (
  c.built_is_in_place.ensures o text contents bytes m t f b e h held,
  c.built_is_mapped_whole.ensures o text contents bytes m t f b e h held,
)

pub returns-clause-in_romfs : goal.returns-clause-in_romfs
returns-clause-in_romfs c = c.romfs_is_mapped.ensures

pub returns-clause-sealed : goal.returns-clause-sealed
returns-clause-sealed c = c.built_is_accepted.ensures.sealed

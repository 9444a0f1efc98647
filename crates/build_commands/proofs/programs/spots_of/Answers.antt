use Rattle.std.proofs.Common.{◌≡◌, Some, ap, sym, ◌∙◌, option_map, rules, ◌+◌, length, arith}
use Rattle.manifest_layout.specs.Views.{section_view}
use Rattle.manifest_layout.specs.Plans.{section_at}
use Rattle.build_commands.specs.Programs.{with_spot}
use Rattle.build_commands.proofs.Spots.{none_within, size_kept, spot_more}
use Rattle.build_commands.proofs.programs.spots_of.Goals as goal
use Rattle.build_commands.proofs.programs.spots_of.Goals.{in-Some, in_default}

pub loop-index-preserved : goal.loop-index-preserved
loop-index-preserved c = elim c.match-section.branch [
  | in-Some w ↦
      let sections = c.args.plan.now.sections in
      let here = section_view w.in-Some.section in
      let at : section_at sections c.loop-index.index ≡ Some here =
      sym c.section.ensures ∙ ap (option_map section_view) w.in-Some.is
      in
      let new : c.match-section.spots.items
      ≡ with_spot c.loop-index.spots.items here (section_at sections (c.loop-index.index + 1)) =
      ap (λ v. v.items) w.spots-is ∙ w.note.ensures
      ∙ ap (with_spot c.loop-index.spots.items here) w.section-in-Some.ensures
      in
      record {
        size = ap length new ∙ size_kept c.loop-index.spots.items here (section_at sections (c.loop-index.index + 1))
            ∙ c.loop-index.invariant.size;
        spots = λ file d l.
            spot_more sections c.loop-index.spots.items c.match-section.spots.items c.loop-index.index here file d _ at
            new
            (omega (arith, l, c.loop-index.invariant.size)) (c.loop-index.invariant.spots file d l);
      }
  | in_default w ↦
      absurd (none_within c.args.plan.now.sections c.loop-index.index
      (sym c.section.ensures ∙ ap (option_map section_view) w.in_default.is) (search rules))
]

use Rattle.std.proofs.Common.{length, ap, sym, map, ◌∙◌, option_map}
use Rattle.std.proofs.lemmas.List.{length-map}
use Rattle.manifest.specs.Lines.{sources_of}
use Rattle.build_commands.proofs.Making.{opened_count}
use Rattle.romtool.proofs.building.build_from.Goals as goal

pub warnings_of-requires : goal.warnings_of-requires
warnings_of-requires c =
    ap length c.deref-3.ensures.value ∙ ap length c.in_ok-sizes.ensures
    ∙ length-map c.deref.result.now (λ s. s.len) ∙ ap length c.deref.ensures.value ∙ c.in_ok-stamps.ensures
    ∙ opened_count (λ n. n.now) c.args.names.now _ _ c.requires

pub invariant_of-prepared : goal.invariant_of-prepared
invariant_of-prepared c = record {
  planned = c.in_ok-plan.ensures.own;
  count =
      ap length c.in_ok-plan.ensures.sizes ∙ ap length c.deref-2.ensures.value ∙ ap length c.in_ok-sizes.ensures
      ∙ length-map c.deref.result.now (λ s. s.len) ∙ ap length c.deref.ensures.value ∙ c.in_ok-stamps.ensures
      ∙ opened_count (λ n. n.now) c.args.names.now (option_map (λ d. d.now) c.args.asked.wanted.sources)
      (sources_of c.args.origin.manifest.now.lines) c.requires;
  sizes =
      c.in_ok-plan.ensures.sizes ∙ c.deref-2.ensures.value ∙ c.in_ok-sizes.ensures
      ∙ ap (map (λ s. s.len)) (c.deref.ensures.value ∙ sym c.deref-8.ensures.value);
  format = c.in_ok-plan.ensures.format;
  within = c.in_ok-check_size.ensures;
  strict = c.in_ok-warnings.ensures;
  in_place = c.in_ok-programs.ensures;
}

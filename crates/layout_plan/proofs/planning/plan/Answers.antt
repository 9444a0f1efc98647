use Rattle.std.proofs.Common.{◌≡◌, MatchOption, map, refl, sym, ap, subst, ◌∙◌}
use Rattle.std.specs.Option.{option_map}
use Rattle.record_forest.specs.Faults.{IsLeastFaultOf}
use Rattle.manifest_layout.specs.Format.{len_of, items_of}
use Rattle.manifest_layout.specs.Misfit.{HasLineMisfit, HasWholeMisfit, HasNoMisfit, line_misfit, whole_misfit}
use Rattle.manifest_layout.specs.Plans.{IsPlanOf}
use Rattle.manifest_layout.specs.Views.{item_view}
use Rattle.formats.specs.Format.{format_of}
use Rattle.plan_rows.specs.Misfits.{misfit_fault}
use Rattle.plan_rows.specs.Rows.{inode_view, row_view}
use Rattle.layout_plan.specs.Ready.{IsReady}
use Rattle.layout_plan.proofs.Readying.{lines_none}
use Rattle.layout_plan.proofs.planning.plan.Goals as goal

pub returns-in-Some-clause-err : goal.returns-in-Some-clause-err
returns-in-Some-clause-err c =
    let m = c.args.m.now in
    let sizes = c.args.sizes.now in
    let least = c.least_of_lines.ensures.least sizes c.in_ok-files.ensures in
    let reported = subst (λ o. IsLeastFaultOf (HasLineMisfit (format_of c.args.format) m sizes) o)
    (ap (λ o. option_map misfit_fault o) c.in-Some.is) least in
    line_misfit (record { here = reported.here; least = λ d p. reported.least d p })

pub place-requires : goal.place-requires
place-requires c =
    let m = c.args.m.now in
    let sizes = c.args.sizes.now in
    let of = c.in_ok-files.ensures in (
      m,
      sizes,
      record {
        manifest = c.least_of_lines.ensures.of_text;
        lines = lines_none (format_of c.args.format) m sizes c.least_of_lines.result c.in_default.is
            (c.least_of_lines.ensures.least sizes of);
        volume_is = c.volume.ensures;
        root_is = c.root-root.ensures sizes of;
        rows_are = ap (map row_view) c.deref.ensures.value ∙ c.in_ok-rows.ensures sizes of;
      },
    )

pub returns-in_default-2-clause-err : goal.returns-in_default-2-clause-err
returns-in_default-2-clause-err c =
    let f = format_of c.args.format in
    let m = c.args.m.now in
    let sizes = c.args.sizes.now in
    let of = c.in_ok-files.ensures in
    let none = lines_none f m sizes c.least_of_lines.result c.in_default.is (c.least_of_lines.ensures.least sizes of) in
    let ready : IsReady f m sizes c.volume.result.now (inode_view c.root-root.result)
    (map row_view c.deref.result.now) = record {
      manifest = c.least_of_lines.ensures.of_text;
      lines = none;
      volume_is = c.volume.ensures;
      root_is = c.root-root.ensures sizes of;
      rows_are = ap (map row_view) c.deref.ensures.value ∙ c.in_ok-rows.ensures sizes of;
    } in
    let reported = subst (λ o. MatchOption o (HasWholeMisfit f m sizes)
    (λ l. HasNoMisfit f m sizes × (l.image_len ≡ len_of f m sizes)
    × (map item_view l.items.items ≡ items_of f m sizes))) c.in_default-2.is (c.in_ok-laid.ensures m sizes ready) in
    whole_misfit none reported refl

pub sections-requires : goal.sections-requires
sections-requires c =
    let f = format_of c.args.format in
    let m = c.args.m.now in
    let sizes = c.args.sizes.now in
    let of = c.in_ok-files.ensures in
    let none = lines_none f m sizes c.least_of_lines.result c.in_default.is (c.least_of_lines.ensures.least sizes of) in
    let ready : IsReady f m sizes c.volume.result.now (inode_view c.root-root.result)
    (map row_view c.deref.result.now) = record {
      manifest = c.least_of_lines.ensures.of_text;
      lines = none;
      volume_is = c.volume.ensures;
      root_is = c.root-root.ensures sizes of;
      rows_are = ap (map row_view) c.deref.ensures.value ∙ c.in_ok-rows.ensures sizes of;
    } in
    let reported = subst (λ o. MatchOption o (HasWholeMisfit f m sizes)
    (λ l. HasNoMisfit f m sizes × (l.image_len ≡ len_of f m sizes)
    × (map item_view l.items.items ≡ items_of f m sizes))) c.in-Some-2.is (c.in_ok-laid.ensures m sizes ready) in (
      m,
      sizes,
      c.least_of_lines.ensures.of_text,
      reported.0,
      c.volume-2.ensures,
      ap (map item_view) c.deref-2.ensures.value ∙ reported.2,
    )

pub new-requires-2 : goal.new-requires-2
new-requires-2 c =
    let f = format_of c.args.format in
    let m = c.args.m.now in
    let sizes = c.args.sizes.now in
    let of = c.in_ok-files.ensures in
    let none = lines_none f m sizes c.least_of_lines.result c.in_default.is (c.least_of_lines.ensures.least sizes of) in
    let ready : IsReady f m sizes c.volume.result.now (inode_view c.root-root.result)
    (map row_view c.deref.result.now) = record {
      manifest = c.least_of_lines.ensures.of_text;
      lines = none;
      volume_is = c.volume.ensures;
      root_is = c.root-root.ensures sizes of;
      rows_are = ap (map row_view) c.deref.ensures.value ∙ c.in_ok-rows.ensures sizes of;
    } in
    let reported = subst (λ o. MatchOption o (HasWholeMisfit f m sizes)
    (λ l. HasNoMisfit f m sizes × (l.image_len ≡ len_of f m sizes)
    × (map item_view l.items.items ≡ items_of f m sizes))) c.in-Some-2.is (c.in_ok-laid.ensures m sizes ready) in
    let items = ap (map item_view) c.deref-2.ensures.value ∙ reported.2 in (
      m,
      sizes,
      c.least_of_lines.ensures.of_text,
      c.requires,
      record {
        fits = reported.0;
        format = refl;
        volume = c.in_ok-volume.ensures;
        image_len = reported.1;
        items = reported.2;
        sections = c.in_ok-sections.ensures m sizes c.least_of_lines.ensures.of_text reported.0 c.volume-2.ensures
            items;
        of_sources = c.in_ok-sizes.ensures;
      },
    )

pub returns-clause-ok : goal.returns-clause-ok
returns-clause-ok c =
    let f = format_of c.args.format in
    let m = c.args.m.now in
    let sizes = c.args.sizes.now in
    let of = c.in_ok-files.ensures in
    let none = lines_none f m sizes c.least_of_lines.result c.in_default.is (c.least_of_lines.ensures.least sizes of) in
    let ready : IsReady f m sizes c.volume.result.now (inode_view c.root-root.result)
    (map row_view c.deref.result.now) = record {
      manifest = c.least_of_lines.ensures.of_text;
      lines = none;
      volume_is = c.volume.ensures;
      root_is = c.root-root.ensures sizes of;
      rows_are = ap (map row_view) c.deref.ensures.value ∙ c.in_ok-rows.ensures sizes of;
    } in
    let reported = subst (λ o. MatchOption o (HasWholeMisfit f m sizes)
    (λ l. HasNoMisfit f m sizes × (l.image_len ≡ len_of f m sizes)
    × (map item_view l.items.items ≡ items_of f m sizes))) c.in-Some-2.is (c.in_ok-laid.ensures m sizes ready) in
    let items = ap (map item_view) c.deref-2.ensures.value ∙ reported.2 in
    subst (IsPlanOf f m sizes) (sym c.new-2.ensures) (record {
      fits = reported.0;
      format = refl;
      volume = c.in_ok-volume.ensures;
      image_len = reported.1;
      items = reported.2;
      sections = c.in_ok-sections.ensures m sizes c.least_of_lines.ensures.of_text reported.0 c.volume-2.ensures items;
      of_sources = c.in_ok-sizes.ensures;
    })

use Rattle.std.proofs.Common.{◌≡◌, Ok, sym, subst}
use Rattle.cramfs_format.specs.declared.order.Order.{Order}
use Rattle.formats.specs.Format.{Format, cramfs}
use Rattle.image_build.specs.Builds.{Builds}
use Rattle.image_build.specs.Streamed.{HasNoCopies, image_with}
use Rattle.manifest.specs.Lines.{ManifestLines}
use Rattle.headline.proofs.in_place.streamed_is_in_place.Goals as goal

-- in cramfs no source is read twice
no_copies : (g : Format) (o : Order) (m : ManifestLines) → g ≡ cramfs o → HasNoCopies g m
no_copies g o m e = subst (λ (k : Format). HasNoCopies k m) (sym e) tt

pub returns-clause-in_place : goal.returns-clause-in_place
returns-clause-in_place c = λ o text p known old new t f is e w h held.
    let bytes = image_with p w.rest in
    let b = c.streamed_is_accepted.ensures.built text p known old new is (no_copies p.format o is.lines e) w in
    c.built_is_in_place.ensures o text b.contents bytes is.lines t f
    (subst (λ (k : Format). Builds k text b.contents (Ok bytes)) e b.built) is.manifest h held

pub returns-clause-whole : goal.returns-clause-whole
returns-clause-whole c = λ o text p known old new t f is e w h held.
    let bytes = image_with p w.rest in
    let b = c.streamed_is_accepted.ensures.built text p known old new is (no_copies p.format o is.lines e) w in
    c.built_is_mapped_whole.ensures o text b.contents bytes is.lines t f
    (subst (λ (k : Format). Builds k text b.contents (Ok bytes)) e b.built) is.manifest h held

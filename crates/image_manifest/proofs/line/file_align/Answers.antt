use Rattle.std.proofs.Common.{true, false, ap, ◌∙◌}
use Rattle.elf_format.specs.InPlace.{needs_pages}
use Rattle.image_manifest.proofs.Lined.{aligned_by}
use Rattle.image_manifest.proofs.line.file_align.Goals as goal

pub returns-then-needs_pages : goal.returns-then-needs_pages
returns-then-needs_pages g c = λ x e.
    aligned_by (g.T.Viewed.image c.args.image.now) c.args.rules x true
    (c.if-needs_pages.ensures ∙ ap needs_pages (c.front_bytes.ensures x e))

pub returns-else-needs_pages : goal.returns-else-needs_pages
returns-else-needs_pages g c = λ x e.
    aligned_by (g.T.Viewed.image c.args.image.now) c.args.rules x false
    (c.if-needs_pages.ensures ∙ ap needs_pages (c.front_bytes.ensures x e))

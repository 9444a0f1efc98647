use Rattle.std.proofs.Common.{◌≡◌, ◌∙◌, ◌^◌, length, map, inr, Ok, subst, sym}
use Rattle.manifest.specs.Lines.{ManifestLines}
use Rattle.manifest_tree.specs.Meant.{IsMeant}
use Rattle.cramfs_format.specs.Tree.{CramfsTree}
use Rattle.formats.specs.Format.{cramfs}
use Rattle.image_build.specs.Accepted.{usual}
use Rattle.rom_tree.specs.Tree.{Node}
use Rattle.headline.proofs.Built.{small, whole}
use Rattle.headline.proofs.in_place.built_is_mapped_whole.Goals as goal

pub returns : goal.returns
returns c = λ o text cs bytes m t f x e h held.
    let same : x.3.tree ≡ t = c.one_tree.ensures bytes usual usual x.3.tree t (inr (o, x.3.holds)) h in
    let meant = c.built_is_accepted.ensures.meant (cramfs o) text cs bytes x t h in
    let named : Ok meant.0 ≡ Ok m = sym meant.1 ∙ e in
    let line : meant.0 ≡ m = cc in
    whole c.run_is_whole.ensures o bytes m t f cs (map length cs)
    (subst (λ (v : Node). CramfsTree o bytes (2 ^ 20) 64 v) same x.3.holds)
    (small c.layout_is_meant.ensures.length (cramfs o) text cs bytes x) held
    (c.built_is_placed.ensures.runs (cramfs o) text cs bytes m x e t h)
    (subst (λ (k : ManifestLines). IsMeant bytes t cs k (map length cs)) line meant.2)

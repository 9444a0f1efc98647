-- Two trees that one manifest means, and the name of a volume.
use Rattle.std.proofs.Common.{◌≡◌, ℕ, ◌<◌, ◌≤◌, List, Option, None, Some, Result, Ok, length, map, drop, take, refl}
use Rattle.std.proofs.Common.{sym, ap, subst, ◌∙◌}
use Rattle.std.proofs.lemmas.Bool.{le-ltb}
use Rattle.std.proofs.lemmas.List.Elements.{All-drop, All-take}
use Rattle.std.specs.List.{All}
use Rattle.std.specs.Option.{option_map}
use Rattle.image_check.specs.Any.{any_view}
use Rattle.image_check.specs.declared.any.AnyImage.{AnyImage}
use Rattle.image_check.specs.declared.any.AnyImage.TheVariants.{Romfs, Cramfs}
use Rattle.image_info.specs.Volumes.{cramfs_volume, volume_of}
use Rattle.manifest.specs.Grammar.{Fault, manifest_of}
use Rattle.manifest.specs.Lines.{ManifestLines}
use Rattle.manifest.specs.Printed.{IsVolume, as_read, manifest_text}
use Rattle.manifest_tree.specs.Meant.{IsMeant}
use Rattle.manifest_tree.specs.Names.{Inode}
use Rattle.manifest_tree.specs.Shape.{file_value, node_value}
use Rattle.manifest_tree.specs.Tree.{file_named}
use Rattle.romfs_format.specs.Record.{before_zero}
use Rattle.rom_tree.specs.Image.{Image}
use Rattle.rom_tree.specs.Tree.{Node}
use Rattle.image_manifest.specs.Lines.{member_lines}
use Rattle.image_manifest.specs.Sources.{file_contents}
use Rattle.image_manifest.specs.Describable.{IsDescribedWhole}
use Rattle.image_manifest.specs.declared.rules.FileRules.{FileRules}
use Rattle.image_manifest.proofs.Ways.{neither}
use Rattle.headline.specs.Alike.{AreAlike}
use Rattle.headline.proofs.OfRomfs.{front_bytes, front_zeros}

-- a path that leads to a node names a file
file_by : (bytes : List ℕ) (contents : List (List ℕ)) (x : Node) (o : Option Inode)
    → option_map (node_value bytes) (Some x) ≡ option_map (file_value contents) o → (i : Inode) × (o ≡ Some i)
file_by bytes contents x None h = absurd (cc)
file_by bytes contents x (Some i) h = (i, refl)

-- two trees that one manifest means are alike
pub alike : (a b : List ℕ) (t u : Node) (contents : List (List ℕ)) (m : ManifestLines) (sizes : List ℕ)
    → IsMeant a t contents m sizes → IsMeant b u contents m sizes → AreAlike a t b u
alike a b t u contents m sizes h k = record {
  values = λ q. h.values q ∙ sym (k.values q);
  shared = λ p q x y v w hp hq kp kq.
      let i = file_by a contents x (file_named m.lines sizes p)
      (ap (option_map (node_value a)) (sym hp) ∙ h.values p) in
      let j = file_by a contents y (file_named m.lines sizes q)
      (ap (option_map (node_value a)) (sym hq) ∙ h.values q) in
      let s = h.shared p q x y i.0 j.0 hp hq i.1 j.1 in
      let r = k.shared p q v w i.0 j.0 kp kq i.1 j.1 in
      (λ e. r.1 (s.0 e), λ e. s.1 (r.0 e));
}

same_lines : (n m : ManifestLines) → ◌≡◌ {A = Result ManifestLines Fault} (Ok n) (Ok m) → n ≡ m
same_lines n m h = cc

-- so what is built of an image's manifest is like the image
pub built_again : (m : Image) (volume : List ℕ) (rules : FileRules) → IsDescribedWhole m volume rules
    → (n : ManifestLines) (bytes : List ℕ) (t : Node)
    → manifest_of (manifest_text volume (member_lines m rules)) ≡ Ok n
    → IsMeant bytes t (file_contents m) n (map length (file_contents m)) → AreAlike m.bytes m.tree bytes t
built_again m volume rules h n bytes t e k =
    let same : n ≡ as_read volume (member_lines m rules) =
    same_lines n (as_read volume (member_lines m rules)) (sym e ∙ h.read) in
    alike m.bytes bytes m.tree t (file_contents m) (as_read volume (member_lines m rules))
    (map length (file_contents m)) h.means
    (subst (λ (v : ManifestLines). IsMeant bytes t (file_contents m) v (map length (file_contents m))) same k)

-- what is before the first zero is a volume's name, if it is not too long
named : (xs : List ℕ) → All (λ b. b < 256) xs → length (before_zero xs) ≤ 255 → IsVolume (before_zero xs)
named xs h l =
    record { bytes = front_bytes xs h; good = neither _ _ (le-ltb 255 (length (before_zero xs)) l) (front_zeros xs) }

pub volume_is : (s : AnyImage) → All (λ b. b < 256) (any_view s).bytes → length (volume_of s) ≤ 255
    → IsVolume (volume_of s)
unfolding cramfs_volume
volume_is (Romfs s) h l = named (drop 16 s.all.now) (All-drop (λ b. b < 256) 16 s.all.now h) l
volume_is (Cramfs s) h l = named (take 16 (drop 48 s.all.now))
    (All-take (λ b. b < 256) 16 (drop 48 s.all.now) (All-drop (λ b. b < 256) 48 s.all.now h)) l

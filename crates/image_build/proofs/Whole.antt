-- A built image is whole.
use Rattle.std.proofs.Common.{◌≡◌, ℕ, List, map, length, Ok, refl, sym, subst, ◌∙◌, inl, inr}
use Rattle.image_check.specs.Checked.{HasTree, IsRefused}
use Rattle.manifest.specs.Grammar.{IsManifest, manifest_of}
use Rattle.manifest.specs.Lines.{ManifestLines}
use Rattle.manifest_layout.specs.Format as of_format
use Rattle.formats.specs.Format.{Format, romfs, cramfs}
use Rattle.manifest_layout.specs.Format.{layout_of}
use Rattle.manifest_layout.specs.Misfit.{HasNoMisfit}
use Rattle.manifest_layout.specs.Placement.{CopiesStand, HasVolume, IsPlaced}
use Rattle.manifest_layout.specs.Sealed.{HasSeal}
use Rattle.manifest_tree.specs.Meant.{IsMeant}
use Rattle.rom_fields.specs.declared.check_error.CheckError.{CheckError}
use Rattle.rom_fields.specs.declared.check_error.CheckError.TheVariants as check
use Rattle.rom_tree.specs.Tree.{Node}
use Rattle.image_build.specs.Accepted.{usual}
use Rattle.image_build.specs.Builds.{Builds}

has_tree : (f : Format) (bytes : List ℕ) (t : Node) → of_format.HasUsualTree f bytes t → HasTree bytes usual t
has_tree romfs bytes t x = inl x
has_tree (cramfs o) bytes t x = inr (o, x)

-- the tree of a built image
pub tree_of : (f : Format) (text : List ℕ) (cs : List (List ℕ)) (bytes : List ℕ) → Builds f text cs (Ok bytes)
    → (t : Node) × HasTree bytes usual t
tree_of f text cs bytes x = (x.3.tree, has_tree f bytes x.3.tree x.3.holds)

pub refused : (bytes : List ℕ) (e : CheckError) → (t : Node) × HasTree bytes usual t → IsRefused bytes usual e
    → e ≡ check.OutOfMemory
refused bytes check.OutOfMemory x r = refl
refused bytes (check.Fault number at) x r = absurd (r x.0 x.1)

pub meant : (f : Format) (text : List ℕ) (cs : List (List ℕ)) (bytes : List ℕ)
    → ((t u : Node) → HasTree bytes usual t → HasTree bytes usual u → t ≡ u) → Builds f text cs (Ok bytes) → (t : Node)
    → HasTree bytes usual t → (m : ManifestLines) × (manifest_of text ≡ Ok m) × IsMeant bytes t cs m (map length cs)
meant f text cs bytes one_tree x t h =
    let is = one_tree x.3.tree t (has_tree f bytes x.3.tree x.3.holds) h in
    (x.0, x.1.manifest, subst (λ (u : Node). IsMeant bytes u cs x.0 (map length cs)) is x.3.meant)

-- the layout of a manifest that fits has a tree with P
abbrev pub Lays : (Format → Node → ManifestLines → Type 0) → Type 0
Lays P =
    (f : Format) (m : ManifestLines) (cs : List (List ℕ)) → IsManifest m → HasNoMisfit f m (map length cs)
    → (t : Node) × of_format.HasUsualTree f (layout_of f m cs) t × P f t m

-- its files are at offsets for which the manifest asks; the offsets of copies
abbrev pub LaysInPlace : Type 0
LaysInPlace = Lays (λ f t m. IsPlaced t m)

abbrev pub LaysCopies : Type 0
LaysCopies = Lays CopiesStand

-- and the volume has its name
abbrev pub NamesVolume : Type 0
NamesVolume =
    (f : Format) (m : ManifestLines) (cs : List (List ℕ)) → IsManifest m → HasNoMisfit f m (map length cs)
    → HasVolume f (layout_of f m cs) m.volume

same_lines : (text : List ℕ) (f : Format) (cs : List (List ℕ)) (bytes : List ℕ) (x : Builds f text cs (Ok bytes))
    (m : ManifestLines)
    → manifest_of text ≡ Ok m → x.0 ≡ m
same_lines text f cs bytes x m e = let z = sym x.1.manifest ∙ e in cc

pub laid_with : (P : Format → Node → ManifestLines → Type 0) → Lays P
    → (f : Format) (text : List ℕ) (cs : List (List ℕ)) (bytes : List ℕ)
    → Builds f text cs (Ok bytes) → (m : ManifestLines) → manifest_of text ≡ Ok m
    → (t : Node) × HasTree bytes usual t × P f t m
laid_with P law f text cs bytes x m e =
    let k = law f x.0 cs (text, x.1.manifest) x.2 in
    let holds = subst (λ (b : List ℕ). of_format.HasUsualTree f b k.0) (sym x.3.layout) k.1 in
    (k.0, has_tree f bytes k.0 holds, subst (P f k.0) (same_lines text f cs bytes x m e) k.2)

pub laid_placed : LaysInPlace → (f : Format) (text : List ℕ) (cs : List (List ℕ)) (bytes : List ℕ)
    → Builds f text cs (Ok bytes)
    → (m : ManifestLines) → manifest_of text ≡ Ok m → (t : Node) × HasTree bytes usual t × IsPlaced t m
laid_placed = laid_with (λ f t m. IsPlaced t m)

pub laid_copies : LaysCopies → (f : Format) (text : List ℕ) (cs : List (List ℕ)) (bytes : List ℕ)
    → Builds f text cs (Ok bytes)
    → (m : ManifestLines) → manifest_of text ≡ Ok m → (t : Node) × HasTree bytes usual t × CopiesStand f t m
laid_copies = laid_with CopiesStand

-- whichever tree the bytes have
pub in_each_tree : (P : Node → Type 0) (bytes : List ℕ)
    → ((t u : Node) → HasTree bytes usual t → HasTree bytes usual u → t ≡ u)
    → (t : Node) × HasTree bytes usual t × P t → (t : Node) → HasTree bytes usual t → P t
in_each_tree P bytes one x t h = subst P (one x.0 t x.1 h) x.2

pub placed_in : (bytes : List ℕ) (m : ManifestLines)
    → ((t u : Node) → HasTree bytes usual t → HasTree bytes usual u → t ≡ u)
    → (t : Node) × HasTree bytes usual t × IsPlaced t m → (t : Node) → HasTree bytes usual t → IsPlaced t m
placed_in bytes m = in_each_tree (λ t. IsPlaced t m) bytes

pub copies_in : (f : Format) (bytes : List ℕ) (m : ManifestLines)
    → ((t u : Node) → HasTree bytes usual t → HasTree bytes usual u → t ≡ u)
    → (t : Node) × HasTree bytes usual t × CopiesStand f t m → (t : Node) → HasTree bytes usual t → CopiesStand f t m
copies_in f bytes m = in_each_tree (λ t. CopiesStand f t m) bytes

pub named : NamesVolume → (f : Format) (text : List ℕ) (cs : List (List ℕ)) (bytes : List ℕ)
    → Builds f text cs (Ok bytes)
    → (m : ManifestLines) → manifest_of text ≡ Ok m → HasVolume f bytes m.volume
named law f text cs bytes x m e =
    subst (λ (k : ManifestLines). HasVolume f bytes k.volume) (same_lines text f cs bytes x m e)
    (subst (λ (b : List ℕ). HasVolume f b x.0.volume) (sym x.3.layout) (law f x.0 cs (text, x.1.manifest) x.2))

-- what the superblock of a layout states is true
abbrev pub SealsLayout : Type 0
SealsLayout =
    (f : Format) (m : ManifestLines) (cs : List (List ℕ)) → IsManifest m → HasNoMisfit f m (map length cs)
    → HasSeal f (layout_of f m cs)

pub sealed : SealsLayout → (f : Format) (text : List ℕ) (cs : List (List ℕ)) (bytes : List ℕ)
    → Builds f text cs (Ok bytes) → HasSeal f bytes
sealed law f text cs bytes x = subst (HasSeal f) (sym x.3.layout) (law f x.0 cs (text, x.1.manifest) x.2)

-- What is served, from how a serving ended.
use Rattle.std.proofs.Common.{◌≡◌, ℕ, List, map, length, refl, sym, subst, inl, inr, ◌⊎◌, Ok}
use Rattle.cramfs_format.specs.Superblock.{order_of}
use Rattle.rom_fields.specs.declared.check_error.CheckError.{CheckError}
use Rattle.rom_fields.specs.declared.check_error.CheckError.TheVariants as check
use Rattle.rom_fields.specs.Written.{Output}
use Rattle.rom_tree.specs.Tree.{Node}
use Rattle.rom_tree.specs.Image.{Image}
use Rattle.rom_tree.specs.declared.types.Limits.{Limits}
use Rattle.rom_tree.specs.declared.types.Report.{Report}
use Rattle.image_build.specs.Each.{AreRead, IsMeantEach}
use Rattle.image_check.specs.Checked.{HasTree, Shows, IsRefused, romfs, cramfs}
use Rattle.image_stream.specs.Answers.{Answer}
use Rattle.manifest.specs.Grammar.{manifest_of}
use Rattle.manifest.specs.Lines.{ManifestLines}
use Rattle.manifest_tree.specs.Meant.{IsMeant}
use Rattle.open_files.specs.Machine.{no_files}
use Rattle.rom_serve.specs.Machines.{image_machine}
use Rattle.rom_commands.specs.Answers.{HoldsUnder, HasFault, IsFaultText, IsFaultTextUnder, usual_limits}
use Rattle.rom_commands.specs.Serving.{Input, EndsServed, EndsRefused, ServingEnds, ServingEndsUnder}
use Rattle.rom_commands.specs.declared.serving.Serving.{Serving}
use Rattle.rom_commands.specs.declared.serving.Serving.TheVariants.{Served, Refused, Memory, ReadFault, WriteFault}
use Rattle.rom_commands.specs.declared.serving.Serving.TheVariants.{TooManyReads}
use Rattle.headline.specs.Headline.{IsServedUnder, IsMeantUnder, IsServedAsMeant, IsServedAsGiven, IsUnserved}

shown : (limits : Limits) (bytes : List ℕ) (m : Image) (report : Report) → Shows bytes limits m report
    → HasTree bytes limits m.tree
shown limits bytes m report (romfs x) = inl x.tree
shown limits bytes m report (cramfs x) = inr (order_of bytes, x.tree)

has_tree : (limits : Limits) (bytes : List ℕ) (m : Image) → HoldsUnder limits bytes m → HasTree bytes limits m.tree
has_tree limits bytes m h = shown limits bytes m h.report h.shows

served : (limits : Limits) (bytes : List ℕ) (m : Image) (r₀ r : Input) (w₀ w : Output) (o : Serving)
    → HoldsUnder limits bytes m
    → EndsServed (image_machine m) (no_files 64) r₀ r w₀ w o → IsServedUnder limits bytes m.tree r₀ r w₀ w o
served limits bytes m r₀ r w₀ w o h a =
    record { tree = has_tree limits bytes m h; image = m; held = h; same = refl; answers = a }

pub accepted : (limits : Limits) (bytes : List ℕ) (r₀ r : Input) (w₀ w : Output) (o : Serving)
    → ServingEndsUnder limits bytes r₀ r w₀ w o
    → ((t : Node) × IsServedUnder limits bytes t r₀ r w₀ w o) ⊎ EndsRefused (IsFaultTextUnder limits bytes) r₀ r w₀ w o
accepted limits bytes r₀ r w₀ w o (inl x) = inl (x.0.tree, served limits bytes x.0 r₀ r w₀ w o x.1 x.2)
accepted limits bytes r₀ r w₀ w o (inr x) = inr x

-- bytes without a fault are refused for memory alone
unserved : (bytes : List ℕ) (r₀ r : Input) (w₀ w : Output) (o : Serving)
    → ((number at : ℕ) → HasFault bytes number at → ⊥) → EndsRefused (IsFaultText bytes) r₀ r w₀ w o
    → IsUnserved r₀ r w₀ w o
unserved bytes r₀ r w₀ w Served none x = absurd x
unserved bytes r₀ r w₀ w Refused none x = absurd (none x.1.1.number x.1.1.at x.1.1.fault)
unserved bytes r₀ r w₀ w Memory none x = record { memory = refl; unread = x.0; unwritten = x.1 }
unserved bytes r₀ r w₀ w ReadFault none x = absurd x
unserved bytes r₀ r w₀ w WriteFault none x = absurd (none x.1.1.number x.1.1.at x.1.1.fault)
unserved bytes r₀ r w₀ w TooManyReads none x = absurd x

no_fault : (bytes : List ℕ) → ((e : CheckError) → IsRefused bytes usual_limits e → e ≡ check.OutOfMemory)
    → (number at : ℕ) → HasFault bytes number at → ⊥
no_fault bytes memory number at h =
    let e : check.Fault number at ≡ check.OutOfMemory = memory (check.Fault number at) h.refused in cc

abbrev Meant : List ℕ → List (List ℕ) → List ℕ → Node → Type 0
Meant text contents bytes t =
    (m : ManifestLines) × (manifest_of text ≡ Ok m) × IsMeant bytes t contents m (map length contents)

pub built : (text : List ℕ) (contents : List (List ℕ)) (bytes : List ℕ) (r₀ r : Input) (w₀ w : Output) (o : Serving)
    → ((e : CheckError) → IsRefused bytes usual_limits e → e ≡ check.OutOfMemory)
    → ((t : Node) → HasTree bytes usual_limits t → Meant text contents bytes t) → ServingEnds bytes r₀ r w₀ w o
    → IsServedAsMeant text contents bytes r₀ r w₀ w o ⊎ IsUnserved r₀ r w₀ w o
built text contents bytes r₀ r w₀ w o memory meant (inl x) =
    let is = meant x.0.tree (has_tree usual_limits bytes x.0 x.1) in
    inl (record {
      lines = is.0;
      manifest = is.1;
      tree = x.0.tree;
      meant = is.2;
      served = served usual_limits bytes x.0 r₀ r w₀ w o x.1 x.2;
    })
built text contents bytes r₀ r w₀ w o memory meant (inr x) =
    inr (unserved bytes r₀ r w₀ w o (no_fault bytes memory) x)

-- what is built has one tree, under whatever limits
pub built_under : (limits : Limits) (text : List ℕ) (contents : List (List ℕ)) (bytes : List ℕ) (r₀ r : Input)
    (w₀ w : Output) (o : Serving)
    → ((u : Node) × HasTree bytes usual_limits u)
    → ((t u : Node) → HasTree bytes limits t → HasTree bytes usual_limits u → t ≡ u)
    → ((t : Node) → HasTree bytes usual_limits t → Meant text contents bytes t)
    → ServingEndsUnder limits bytes r₀ r w₀ w o
    → IsMeantUnder limits text contents bytes r₀ r w₀ w o ⊎ EndsRefused (IsFaultTextUnder limits bytes) r₀ r w₀ w o
built_under limits text contents bytes r₀ r w₀ w o has one meant (inl x) =
    let same : x.0.tree ≡ has.0 = one x.0.tree has.0 (has_tree limits bytes x.0 x.1) has.1 in
    let is : Meant text contents bytes x.0.tree =
    subst (λ (t : Node). Meant text contents bytes t) (sym same) (meant has.0 has.1) in
    inl (record {
      lines = is.0;
      manifest = is.1;
      tree = x.0.tree;
      meant = is.2;
      served = served limits bytes x.0 r₀ r w₀ w o x.1 x.2;
    })
built_under limits text contents bytes r₀ r w₀ w o has one meant (inr x) = inr x

pub given : (answers : List Answer) (lines : ManifestLines) (sizes bytes : List ℕ) (r₀ r : Input) (w₀ w : Output)
    (o : Serving) → ((e : CheckError) → IsRefused bytes usual_limits e → e ≡ check.OutOfMemory)
    → ((t : Node) → HasTree bytes usual_limits t
    → (b : ℕ → List ℕ) × IsMeantEach bytes t b lines sizes × AreRead answers b lines sizes)
    → ServingEnds bytes r₀ r w₀ w o → IsServedAsGiven answers lines sizes bytes r₀ r w₀ w o ⊎ IsUnserved r₀ r w₀ w o
given answers lines sizes bytes r₀ r w₀ w o memory meant (inl x) =
    let is = meant x.0.tree (has_tree usual_limits bytes x.0 x.1) in
    inl (record {
      tree = x.0.tree;
      given = is.0;
      meant = is.1;
      read = is.2;
      served = served usual_limits bytes x.0 r₀ r w₀ w o x.1 x.2;
    })
given answers lines sizes bytes r₀ r w₀ w o memory meant (inr x) =
    inr (unserved bytes r₀ r w₀ w o (no_fault bytes memory) x)

abbrev pub IsOfSome : (text sizes bytes : List ℕ) (r₀ r : Input) (w₀ w : Output) → Serving → Type 0
IsOfSome text sizes bytes r₀ r w₀ w o =
    (contents : List (List ℕ)) × (map length contents ≡ sizes) × IsServedAsMeant text contents bytes r₀ r w₀ w o

pub of_some : (text sizes bytes : List ℕ) (contents : List (List ℕ)) (r₀ r : Input) (w₀ w : Output) (o : Serving)
    → map length contents ≡ sizes
    → IsServedAsMeant text contents bytes r₀ r w₀ w o ⊎ IsUnserved r₀ r w₀ w o
    → IsOfSome text sizes bytes r₀ r w₀ w o ⊎ IsUnserved r₀ r w₀ w o
of_some text sizes bytes contents r₀ r w₀ w o e (inl x) = inl (contents, e, x)
of_some text sizes bytes contents r₀ r w₀ w o e (inr x) = inr x

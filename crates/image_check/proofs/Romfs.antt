-- Two files of which a romfs image reads the same bytes have one tree and the same faults.
use Rattle.std.proofs.Common.{◌≡◌, ℕ, ◌<◌, ◌≤◌, ◌↔◌, min, List, length, take, refl, sym, ap, subst, ◌∙◌}
use Rattle.rom_tree.specs.Tree.{Node, depth}
use Rattle.rom_tree.specs.Image.{Image}
use Rattle.rom_tree.specs.declared.types.Limits.{Limits}
use Rattle.rom_tree.specs.declared.types.Report.{Report}
use Rattle.rom_fields.specs.declared.fault.Fault.{Fault}
use Rattle.rom_fields.specs.declared.fault.TheConstants.{ROOT}
use Rattle.rom_fields.specs.declared.check_error.CheckError.{CheckError}
use Rattle.rom_fields.specs.declared.check_error.CheckError.TheVariants.{OutOfMemory, Fault as FaultAnswer}
use Rattle.romfs_format.specs.Record.{type_of}
use Rattle.romfs_format.specs.Tree.{IsSuperblock, RomfsTree, root_of}
use Rattle.romfs_format.specs.Superblock.{HasImageFault, accessible, HasSize, HasSum, HasRoot, short, no_magic}
use Rattle.romfs_format.specs.Superblock.{bad_size, bad_sum, no_root, root_kind}
use Rattle.romfs_format.specs.Faults.{HasNoFault, IsLeastImageFault, IsLeastPhaseFault, HasTooMany, HasReachedFault}
use Rattle.romfs_format.specs.Faults.{HasTwiceFault, HasDepthFault, HasExtentFault, HasNameFault, whole, many, phase}
use Rattle.romfs_image.specs.Checked.{Shows, IsLeastAnswer}

-- what an image reads of the file is the same of both
pub record Alike (all cut : List ℕ) : Type 0 where
  pub long : (32 ≤ length all) ↔ (32 ≤ length cut)
  pub few : (length all < 32) ↔ (length cut < 32)
  pub begins : take 8 all ≡ take 8 cut
  pub size : HasSize all ↔ HasSize cut
  pub bytes : accessible all ≡ accessible cut

pub alike_self : (all : List ℕ) → Alike all all
alike_self all =
    record { long = (λ h. h, λ h. h); few = (λ h. h, λ h. h); begins = refl; size = (λ h. h, λ h. h); bytes = refl }

pub alike_turned : {all cut : List ℕ} → Alike all cut → Alike cut all
alike_turned a = record {
  long = (a.long.1, a.long.0);
  few = (a.few.1, a.few.0);
  begins = sym a.begins;
  size = (a.size.1, a.size.0);
  bytes = sym a.bytes;
}

image_fault : (all cut : List ℕ) (e : Fault) → Alike all cut → HasImageFault all e → HasImageFault cut e
image_fault all cut e a (short l is) = short (a.few.0 l) is
image_fault all cut e a (no_magic l m is) = no_magic (a.long.0 l) (λ k. m (a.begins ∙ k)) is
image_fault all cut e a (bad_size l m s is) = bad_size (a.long.0 l) (sym a.begins ∙ m) (λ k. s (a.size.1 k)) is
image_fault all cut e a (bad_sum l m s n is) =
    bad_sum (a.long.0 l) (sym a.begins ∙ m) (a.size.0 s) (λ k. n (subst (λ (v : List ℕ). HasSum v) (sym a.bytes) k)) is
image_fault all cut e a (no_root l m s n r is) =
    no_root (a.long.0 l) (sym a.begins ∙ m) (a.size.0 s) (subst (λ (v : List ℕ). HasSum v) a.bytes n)
    (λ k. r (subst (λ (v : List ℕ). HasRoot v) (sym a.bytes) k)) is
image_fault all cut e a (root_kind l m s n r k is) =
    root_kind (a.long.0 l) (sym a.begins ∙ m) (a.size.0 s) (subst (λ (v : List ℕ). HasSum v) a.bytes n)
    (subst (λ (v : List ℕ). HasRoot v) a.bytes r) (λ x. k (ap (λ (v : List ℕ). type_of v (root_of v)) a.bytes ∙ x))
    (subst (λ (v : List ℕ). e ≡ record { number = ROOT; at = root_of v }) a.bytes is)

unfaulted : (all cut : List ℕ) → Alike all cut → ((e : Fault) → HasImageFault all e → ⊥) → (e : Fault)
    → HasImageFault cut e → ⊥
unfaulted all cut a h e k = h e (image_fault cut all e (alike_turned a) k)

least_fault : (all cut : List ℕ) (most deepest : ℕ) (e : Fault) → Alike all cut → IsLeastImageFault all most deepest e
    → IsLeastImageFault cut most deepest e
least_fault all cut most deepest e a (whole h) = whole (image_fault all cut e a h)
least_fault all cut most deepest e a (many n h is) =
    many (unfaulted all cut a n) (subst (λ (v : List ℕ). HasTooMany v (root_of v) most) a.bytes h) is
least_fault all cut most deepest e a (phase n h p) =
    phase (unfaulted all cut a n) (λ k. h (subst (λ (v : List ℕ). HasTooMany v (root_of v) most) (sym a.bytes) k))
    (subst (λ (v : List ℕ). IsLeastPhaseFault v (root_of v) deepest e) a.bytes p)

pub least_answer : (all cut : List ℕ) (limits : Limits) (e : CheckError) → Alike all cut → IsLeastAnswer all limits e
    → IsLeastAnswer cut limits e
least_answer all cut limits OutOfMemory a h = unfaulted all cut a h
least_answer all cut limits (FaultAnswer number at) a h =
    least_fault all cut limits.references limits.depth (record { number = number; at = at }) a h

pub no_fault : (all cut : List ℕ) (most deepest : ℕ) → Alike all cut → HasNoFault all most deepest
    → HasNoFault cut most deepest
no_fault all cut most deepest a h = record {
  image = unfaulted all cut a h.image;
  few = λ k. h.few (subst (λ (v : List ℕ). HasTooMany v (root_of v) most) (sym a.bytes) k);
  sound = subst (λ (v : List ℕ). (e : Fault) → HasReachedFault v (root_of v) e → ⊥) a.bytes h.sound;
  once = subst (λ (v : List ℕ). (e : Fault) → HasTwiceFault v (root_of v) e → ⊥) a.bytes h.once;
  shallow = subst (λ (v : List ℕ). (e : Fault) → HasDepthFault v (root_of v) (min deepest 64) e → ⊥) a.bytes h.shallow;
  apart = subst (λ (v : List ℕ). (e : Fault) → HasExtentFault v (root_of v) e → ⊥) a.bytes h.apart;
  named = subst (λ (v : List ℕ). (e : Fault) → HasNameFault v (root_of v) e → ⊥) a.bytes h.named;
}

superblock : (all cut b : List ℕ) (r : ℕ) → Alike all cut → IsSuperblock all b r → IsSuperblock cut b r
superblock all cut b r a h = record {
  long = a.long.0 h.long;
  begins = sym a.begins ∙ h.begins;
  size = a.size.0 h.size;
  cut = h.cut ∙ a.bytes;
  sum = h.sum;
  volume = h.volume;
  root = h.root;
  fits = h.fits;
  directory = h.directory;
}

pub same_tree : (all cut : List ℕ) (most deepest : ℕ) (t : Node) → Alike all cut → RomfsTree all most deepest t
    → RomfsTree cut most deepest t
same_tree all cut most deepest t a h =
    record {
      b = h.b;
      r = h.r;
      super = superblock all cut h.b h.r a h.super;
      forest = h.forest;
      whole = h.whole;
      same = h.same;
    }

-- an image of the same tree over the other file has the same report
pub shows : (all cut : List ℕ) (limits : Limits) (m w : Image) (report : Report) → Alike all cut → w.bytes ≡ cut
    → m.tree ≡ w.tree → Shows all limits m report → Shows cut limits w report
shows all cut limits m w report a over same h = record {
  bytes = over;
  tree = record {
    b = h.tree.b;
    r = h.tree.r;
    super = superblock all cut h.tree.b h.tree.r a h.tree.super;
    forest = h.tree.forest;
    whole = h.tree.whole;
    same = sym same ∙ h.tree.same;
  };
  count = h.count;
  deep = h.deep ∙ ap depth same;
}

-- Two files of which a cramfs image reads the same bytes have one tree and the same faults.
use Rattle.std.proofs.Common.{◌≡◌, ℕ, ◌<◌, ◌≤◌, ◌↔◌, min, List, length, refl, sym, ap, subst, ◌∙◌}
use Rattle.rom_tree.specs.Tree.{Node, depth}
use Rattle.rom_tree.specs.Image.{Image}
use Rattle.rom_tree.specs.declared.types.Limits.{Limits}
use Rattle.rom_tree.specs.declared.types.Report.{Report}
use Rattle.rom_fields.specs.declared.fault.Fault.{Fault}
use Rattle.rom_fields.specs.declared.check_error.CheckError.{CheckError}
use Rattle.rom_fields.specs.declared.check_error.CheckError.TheVariants.{OutOfMemory, Fault as FaultAnswer}
use Rattle.cramfs_format.specs.declared.order.Order.{Order}
use Rattle.cramfs_format.specs.Order.{word}
use Rattle.cramfs_format.specs.Tree.{CramfsTree}
use Rattle.cramfs_format.specs.Superblock.{IsSuperblock, HasImageFault, accessible, HasSize, HasFlags, HasCrc}
use Rattle.cramfs_format.specs.Superblock.{HasSignature, HasRoot, short, no_magic, bad_size, bad_flags, bad_crc}
use Rattle.cramfs_format.specs.Superblock.{unsigned, bad_root}
use Rattle.cramfs_format.specs.Faults.{HasNoFault, IsLeastImageFault, IsLeastPhaseFault, HasTooMany, HasReachedFault}
use Rattle.cramfs_format.specs.Faults.{HasTwiceFault, HasDepthFault, HasExtentFault, HasNameFault, whole, many, phase}
use Rattle.cramfs_image.specs.Checked.{Shows, IsLeastAnswer}

-- what an image in this byte order reads of the file is the same of both
pub record Alike (o : Order) (all cut : List ℕ) : Type 0 where
  pub long : (76 ≤ length all) ↔ (76 ≤ length cut)
  pub few : (length all < 76) ↔ (length cut < 76)
  pub begins : word o all 0 ≡ word o cut 0
  pub size : HasSize o all ↔ HasSize o cut
  pub bytes : accessible o all ≡ accessible o cut

pub alike_self : (o : Order) (all : List ℕ) → Alike o all all
alike_self o all =
    record { long = (λ h. h, λ h. h); few = (λ h. h, λ h. h); begins = refl; size = (λ h. h, λ h. h); bytes = refl }

pub alike_turned : {o : Order} {all cut : List ℕ} → Alike o all cut → Alike o cut all
alike_turned a = record {
  long = (a.long.1, a.long.0);
  few = (a.few.1, a.few.0);
  begins = sym a.begins;
  size = (a.size.1, a.size.0);
  bytes = sym a.bytes;
}

image_fault : (o : Order) (all cut : List ℕ) (e : Fault) → Alike o all cut → HasImageFault o all e
    → HasImageFault o cut e
image_fault o all cut e a (short l is) = short (a.few.0 l) is
image_fault o all cut e a (no_magic l m is) = no_magic (a.long.0 l) (λ k. m (a.begins ∙ k)) is
image_fault o all cut e a (bad_size l m s is) = bad_size (a.long.0 l) (sym a.begins ∙ m) (λ k. s (a.size.1 k)) is
image_fault o all cut e a (bad_flags l m s f is) =
    bad_flags (a.long.0 l) (sym a.begins ∙ m) (a.size.0 s)
    (λ k. f (subst (λ (v : List ℕ). HasFlags o v) (sym a.bytes) k)) is
image_fault o all cut e a (bad_crc l m s f c is) =
    bad_crc (a.long.0 l) (sym a.begins ∙ m) (a.size.0 s) (subst (λ (v : List ℕ). HasFlags o v) a.bytes f)
    (λ k. c (subst (λ (v : List ℕ). HasCrc o v) (sym a.bytes) k)) is
image_fault o all cut e a (unsigned l m s f c g is) =
    unsigned (a.long.0 l) (sym a.begins ∙ m) (a.size.0 s) (subst (λ (v : List ℕ). HasFlags o v) a.bytes f)
    (subst (λ (v : List ℕ). HasCrc o v) a.bytes c) (λ k. g (subst (λ (v : List ℕ). HasSignature v) (sym a.bytes) k)) is
image_fault o all cut e a (bad_root l m s f c g r is) =
    bad_root (a.long.0 l) (sym a.begins ∙ m) (a.size.0 s) (subst (λ (v : List ℕ). HasFlags o v) a.bytes f)
    (subst (λ (v : List ℕ). HasCrc o v) a.bytes c) (subst (λ (v : List ℕ). HasSignature v) a.bytes g)
    (λ k. r (subst (λ (v : List ℕ). HasRoot o v) (sym a.bytes) k)) is

unfaulted : (o : Order) (all cut : List ℕ) → Alike o all cut → ((e : Fault) → HasImageFault o all e → ⊥) → (e : Fault)
    → HasImageFault o cut e → ⊥
unfaulted o all cut a h e k = h e (image_fault o cut all e (alike_turned a) k)

least_fault : (o : Order) (all cut : List ℕ) (most deepest : ℕ) (e : Fault) → Alike o all cut
    → IsLeastImageFault o all most deepest e → IsLeastImageFault o cut most deepest e
least_fault o all cut most deepest e a (whole h) = whole (image_fault o all cut e a h)
least_fault o all cut most deepest e a (many n h is) =
    many (unfaulted o all cut a n) (subst (λ (v : List ℕ). HasTooMany o v most) a.bytes h) is
least_fault o all cut most deepest e a (phase n h p) =
    phase (unfaulted o all cut a n) (λ k. h (subst (λ (v : List ℕ). HasTooMany o v most) (sym a.bytes) k))
    (subst (λ (v : List ℕ). IsLeastPhaseFault o v deepest e) a.bytes p)

pub least_answer : (o : Order) (all cut : List ℕ) (limits : Limits) (e : CheckError) → Alike o all cut
    → IsLeastAnswer o all limits e → IsLeastAnswer o cut limits e
least_answer o all cut limits OutOfMemory a h = unfaulted o all cut a h
least_answer o all cut limits (FaultAnswer number at) a h =
    least_fault o all cut limits.references limits.depth (record { number = number; at = at }) a h

pub no_fault : (o : Order) (all cut : List ℕ) (most deepest : ℕ) → Alike o all cut → HasNoFault o all most deepest
    → HasNoFault o cut most deepest
no_fault o all cut most deepest a h = record {
  image = unfaulted o all cut a h.image;
  few = λ k. h.few (subst (λ (v : List ℕ). HasTooMany o v most) (sym a.bytes) k);
  sound = subst (λ (v : List ℕ). (e : Fault) → HasReachedFault o v e → ⊥) a.bytes h.sound;
  once = subst (λ (v : List ℕ). (e : Fault) → HasTwiceFault o v e → ⊥) a.bytes h.once;
  shallow = subst (λ (v : List ℕ). (e : Fault) → HasDepthFault o v (min deepest 64) e → ⊥) a.bytes h.shallow;
  apart = subst (λ (v : List ℕ). (e : Fault) → HasExtentFault o v e → ⊥) a.bytes h.apart;
  named = subst (λ (v : List ℕ). (e : Fault) → HasNameFault o v e → ⊥) a.bytes h.named;
}

superblock : (o : Order) (all cut b : List ℕ) → Alike o all cut → IsSuperblock o all b → IsSuperblock o cut b
superblock o all cut b a h = record {
  long = a.long.0 h.long;
  begins = sym a.begins ∙ h.begins;
  size = a.size.0 h.size;
  cut = h.cut ∙ a.bytes;
  flags = h.flags;
  crc = h.crc;
  signed = h.signed;
  root = h.root;
}

pub same_tree : (o : Order) (all cut : List ℕ) (most deepest : ℕ) (t : Node) → Alike o all cut
    → CramfsTree o all most deepest t → CramfsTree o cut most deepest t
same_tree o all cut most deepest t a h =
    record { b = h.b; super = superblock o all cut h.b a h.super; forest = h.forest; whole = h.whole; same = h.same }

-- an image of the same tree over the other file has the same report
pub shows : (o : Order) (all cut : List ℕ) (limits : Limits) (m w : Image) (report : Report) → Alike o all cut
    → w.bytes ≡ cut → m.tree ≡ w.tree → Shows o all limits m report → Shows o cut limits w report
shows o all cut limits m w report a over same h = record {
  bytes = over;
  tree = record {
    b = h.tree.b;
    super = superblock o all cut h.tree.b a h.tree.super;
    forest = h.tree.forest;
    whole = h.tree.whole;
    same = sym same ∙ h.tree.same;
  };
  count = h.count;
  deep = h.deep ∙ ap depth same;
}

-- Two files of which an image of either format reads the same bytes have one tree and the same faults.
use Rattle.std.proofs.Common.{◌≡◌, ℕ, ◌≤◌, ◌↔◌, List, length, take, inl, inr, refl, sym, ap, subst, ◌∙◌, arith}
use Rattle.std.proofs.Common.{length-take, lt_of_lt_of_le}
use Rattle.rom_tree.specs.Tree.{Node}
use Rattle.rom_tree.specs.Image.{Image}
use Rattle.rom_tree.specs.declared.types.Limits.{Limits}
use Rattle.rom_tree.specs.declared.types.Report.{Report}
use Rattle.rom_fields.specs.declared.check_error.CheckError.{CheckError}
use Rattle.cramfs_format.specs.declared.order.Order.{Order}
use Rattle.cramfs_format.specs.Superblock.{order_of}
use Rattle.cramfs_format.specs.Tree.{CramfsTree}
use Rattle.cramfs_format.specs.Faults.{HasNoFault as HasNoCramfsFault}
use Rattle.cramfs_format.proofs.Begins.{tree_order}
use Rattle.cramfs_image.specs.Checked.{Shows as CramfsShows, IsLeastAnswer as IsLeastCramfsAnswer}
use Rattle.formats.specs.Begins.{BeginsRomfs, BeginsCramfs}
use Rattle.image_check.specs.Checked.{HasTree, IsFaultless, no_romfs_fault, no_cramfs_fault}
use Rattle.image_check.specs.Checked.{IsLeastFaultUnder, least_of_romfs, least_of_cramfs, of_neither, neither, Shows}
use Rattle.image_check.specs.Checked.{romfs, cramfs}
use Rattle.image_check.proofs.Formats.{romfs_begins, cramfs_begins}
use Rattle.image_check.proofs.Romfs as of_romfs
use Rattle.image_check.proofs.Cramfs as of_cramfs

-- they begin as images of the same format, and an image of that format reads the same of both
pub record Alike (all cut : List ℕ) : Type 0 where
  pub in_romfs : BeginsRomfs all → of_romfs.Alike all cut
  pub in_cramfs : BeginsCramfs all → of_cramfs.Alike (order_of all) all cut
  pub begins_romfs : BeginsRomfs all ↔ BeginsRomfs cut
  pub begins_cramfs : BeginsCramfs all ↔ BeginsCramfs cut
  pub order : order_of all ≡ order_of cut
  pub other : neither all ≡ neither cut

-- the same image over more bytes
abbrev wider : (m : Image) (all : List ℕ) → length m.bytes ≤ length all → Image
wider m all l = record {
  bytes = all;
  tree = m.tree;
  cursor_index = m.cursor_index;
  coherent = m.coherent;
  starts = m.starts;
  devices = m.devices;
  links = m.links;
  placed = λ x i k j. lt_of_lt_of_le (m.placed x i k j) l;
}

pub turned : {all cut : List ℕ} → Alike all cut → Alike cut all
turned {all} {cut} a = record {
  in_romfs = λ h. of_romfs.alike_turned (a.in_romfs (a.begins_romfs.1 h));
  in_cramfs = λ h. subst (λ (o : Order). of_cramfs.Alike o cut all) a.order
      (of_cramfs.alike_turned (a.in_cramfs (a.begins_cramfs.1 h)));
  begins_romfs = (a.begins_romfs.1, a.begins_romfs.0);
  begins_cramfs = (a.begins_cramfs.1, a.begins_cramfs.0);
  order = sym a.order;
  other = sym a.other;
}

pub tree_over : (all cut : List ℕ) (limits : Limits) (t : Node) → Alike all cut → HasTree all limits t
    → HasTree cut limits t
tree_over all cut limits t a x = elim x [
  | inl r ↦ inl (of_romfs.same_tree all cut limits.references limits.depth t (a.in_romfs (romfs_begins r)) r)
  | inr r ↦
      let same = tree_order r.0 all limits.references limits.depth t r.1 in
      let c = subst (λ (o : Order). CramfsTree o all limits.references limits.depth t) same r.1 in
      inr (
        order_of all,
        of_cramfs.same_tree (order_of all) all cut limits.references limits.depth t
            (a.in_cramfs (cramfs_begins r.1)) c,
      )
]

pub fault_over : (all cut : List ℕ) (limits : Limits) (e : CheckError) → Alike all cut → IsLeastFaultUnder all limits e
    → IsLeastFaultUnder cut limits e
fault_over all cut limits e a (least_of_romfs b h) =
    least_of_romfs (a.begins_romfs.0 b) (of_romfs.least_answer all cut limits e (a.in_romfs b) h)
fault_over all cut limits e a (least_of_cramfs b h) =
    least_of_cramfs (a.begins_cramfs.0 b)
    (subst (λ (o : Order). IsLeastCramfsAnswer o cut limits e) a.order
    (of_cramfs.least_answer (order_of all) all cut limits e (a.in_cramfs b) h))
fault_over all cut limits e a (of_neither r c is) =
    of_neither (λ h. r (a.begins_romfs.1 h)) (λ h. c (a.begins_cramfs.1 h)) (is ∙ a.other)

pub faultless_over : (all cut : List ℕ) (limits : Limits) → Alike all cut → IsFaultless all limits
    → IsFaultless cut limits
faultless_over all cut limits a (no_romfs_fault b h) =
    no_romfs_fault (a.begins_romfs.0 b) (of_romfs.no_fault all cut limits.references limits.depth (a.in_romfs b) h)
faultless_over all cut limits a (no_cramfs_fault b h) =
    no_cramfs_fault (a.begins_cramfs.0 b)
    (subst (λ (o : Order). HasNoCramfsFault o cut limits.references limits.depth) a.order
    (of_cramfs.no_fault (order_of all) all cut limits.references limits.depth (a.in_cramfs b) h))

pub shows_over : (all cut : List ℕ) (limits : Limits) (m w : Image) (report : Report) → Alike all cut → w.bytes ≡ cut
    → m.tree ≡ w.tree → Shows all limits m report → Shows cut limits w report
shows_over all cut limits m w report a over same (romfs h) =
    romfs (of_romfs.shows all cut limits m w report (a.in_romfs (romfs_begins h.tree)) over same h)
shows_over all cut limits m w report a over same (cramfs h) =
    cramfs (subst (λ (o : Order). CramfsShows o cut limits w report) a.order
    (of_cramfs.shows (order_of all) all cut limits m w report (a.in_cramfs (cramfs_begins h.tree)) over same h))

-- a check of the front that shows an image is as good as one of the file
pub shown_over : (all : List ℕ) (n : ℕ) (limits : Limits) (m : Image) (report : Report) → Alike (take n all) all
    → Shows (take n all) limits m report
    → (w : Image) × Shows all limits w report × (w.tree ≡ m.tree)
shown_over all n limits m report a h =
    let e : length m.bytes ≡ length (take n all) = ap length (shown_bytes h) in
    let k = length-take n all in
    let w = wider m all (omega arith) in
    (w, shows_over (take n all) all limits m w report a refl refl h, refl)
  where
    shown_bytes : Shows (take n all) limits m report → m.bytes ≡ take n all
    shown_bytes (romfs s) = s.bytes
    shown_bytes (cramfs s) = s.bytes

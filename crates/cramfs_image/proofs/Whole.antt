-- If an image has no fault, it has a tree.
use Rattle.std.proofs.Common.{◌≡◌, ℕ, ◌^◌, ◌≤◌, min, List, length, take, drop, inl, inr, refl, arith, eqb, ◌||◌}
use Rattle.std.proofs.lemmas.Bool.{cases_lt}
use Rattle.std.proofs.lemmas.Bool.Decides.{Decides-eqb, Decides-or}
use Rattle.rom_tree.specs.Tree.{Node}
use Rattle.record_forest.specs.declared.reference.Row.{Row}
use Rattle.record_forest.specs.Forest.{Forest, all_rows, IsForest}
use Rattle.record_forest.specs.Faults.{IsClean, IsNone}
use Rattle.record_forest.proofs.Run.{forest_of}
use Rattle.record_forest.proofs.Decided.{by_test, same_number, same_list}
use Rattle.cramfs_format.specs.Order.{word}
use Rattle.cramfs_format.specs.declared.order.Order.{Order}
use Rattle.cramfs_format.specs.Inode.{type_of, offset_of, size_of}
use Rattle.crc.specs.Crc.{crc_of}
use Rattle.cramfs_format.specs.Refers.{references, root_place, LeadsToSound}
use Rattle.cramfs_format.specs.Tree.{tree_of, IsNoDot, CramfsTree}
use Rattle.cramfs_format.proofs.Faults.{faultless_led}
use Rattle.cramfs_format.proofs.Lawful.{references_lawful}
use Rattle.cramfs_image.specs.Phases.{IsNameFault, repeated, dots, unsorted, IsWellNamed, AreWell}
use Rattle.cramfs_image.proofs.Composed.{tree_of_well}
use Rattle.cramfs_image.proofs.Exact.{into_names, into_depths}
use Rattle.cramfs_image.proofs.Least.{into_overlaps}
use Rattle.cramfs_format.specs.Superblock.{magic, signature, size_word, flags_of, accessible, without_crc, HasSize}
use Rattle.cramfs_format.specs.Superblock.{HasFlags, HasCrc, HasSignature, HasRoot, IsSuperblock, HasImageFault, short}
use Rattle.cramfs_format.specs.Superblock.{no_magic, bad_size, bad_flags, bad_crc, unsigned, bad_root}
use Rattle.cramfs_format.specs.Faults.{HasDepthFault, HasExtentFault, HasNameFault, HasTwiceFault, HasTooMany}
use Rattle.cramfs_format.specs.Faults.{HasReachedFault, HasNoFault}

no_other_crc : (o : Order) (b : List ℕ) → ((HasCrc o b → ⊥) → ⊥) → HasCrc o b
unfolding HasCrc
no_other_crc o b h e = same_number (word o b 32) (crc_of (without_crc b)) (λ n. h (λ k. n (k e)))

no_other_root : (o : Order) (b : List ℕ) → ((HasRoot o b → ⊥) → ⊥) → HasRoot o b
no_other_root o b h =
    let p : ℕ = offset_of o b root_place in
    let begins = Decides-or (eqb p 0) (eqb p 76 || eqb p 588) (Decides-eqb p 0)
    (Decides-or (eqb p 76) (eqb p 588) (Decides-eqb p 76) (Decides-eqb p 588)) in
    record {
      directory = same_number (type_of o b root_place) 4 (λ n. h (λ k. n k.directory));
      begins = λ e. by_test (eqb p 0 || (eqb p 76 || eqb p 588)) begins (λ n. h (λ k. n (k.begins e)));
      empty = λ e. same_number (size_of o b root_place) 0 (λ n. h (λ k. n (k.empty e)));
    }

-- an image without a fault as a whole has a well formed superblock
pub superblock_of : (o : Order) (bytes : List ℕ) → IsNone (HasImageFault o bytes)
    → IsSuperblock o bytes (accessible o bytes)
superblock_of o bytes h =
    let b : List ℕ = accessible o bytes in
    let long : 76 ≤ length bytes = elim (cases_lt (length bytes) 76)
    [ inl l ↦ absurd (h (record { number = 2; at = 0 }) (short l refl)) | inr l ↦ l ] in
    let begins : word o bytes 0 ≡ magic =
    same_number (word o bytes 0) magic (λ n. h (record { number = 3; at = 0 }) (no_magic long n refl)) in
    let no_size : (HasSize o bytes → ⊥) → ⊥ = λ n. h (record { number = 4; at = 4 }) (bad_size long begins n refl) in
    let size : HasSize o bytes = λ e. (
      elim (cases_lt (size_word o bytes) 76)
          [ inl l ↦ absurd (no_size (λ k. let z = (k e).0 in omega arith)) | inr l ↦ l ],
      elim (cases_lt (length bytes) (size_word o bytes))
          [ inl l ↦ absurd (no_size (λ k. let z = (k e).1 in omega arith)) | inr l ↦ l ],
    ) in
    let flags : HasFlags o b = elim (cases_lt (flags_of o b) (2 ^ 12)) [
      | inl l ↦ l
      | inr l ↦ absurd (h (record { number = 6; at = 8 })
          (bad_flags long begins size (λ k. omega arith) refl))
    ] in
    let crc : HasCrc o b =
    no_other_crc o b (λ n. h (record { number = 7; at = 32 }) (bad_crc long begins size flags n refl)) in
    let signed : HasSignature b =
    same_list (take 16 (drop 16 b)) signature
    (λ n. h (record { number = 8; at = 16 }) (unsigned long begins size flags crc n refl)) in
    let root : HasRoot o b = no_other_root o b
    (λ n. h (record { number = 9; at = root_place }) (bad_root long begins size flags crc signed n refl)) in
    record {
      long = long;
      begins = begins;
      size = size;
      cut = refl;
      flags = flags;
      crc = crc;
      signed = signed;
      root = root;
    }

-- references and records without faults give a forest
forest_here : (o : Order) (b : List ℕ) (most : ℕ) → (HasTooMany o b most → ⊥) → IsNone (HasReachedFault o b)
    → IsNone (HasTwiceFault o b) → (f : Forest) × IsForest (references o b) (LeadsToSound o b) most f
forest_here o b most few sound once =
    let clean : IsClean (references o b) (LeadsToSound o b) most = record {
      few = few;
      sound = λ x k. faultless_led (λ e n. sound e (record { reference = x; reached = k; faulty = n }));
      once = λ q k. once (record { number = 20; at = q }) (k, refl);
    } in
    forest_of (references o b) (LeadsToSound o b) most (references_lawful o b) clean

-- a row without a fault of a name is well named
well_named : {o : Order} {b : List ℕ} {before : List Row} {x : Row} → ((n : ℕ) → IsNameFault o b before x n → ⊥)
    → IsWellNamed o b before x
well_named {o} {b} {before} {x} none =
    let other : IsNoDot o b x =
    record { here = λ e. none 24 (dots refl (λ k. k.here e)); above = λ e. none 24 (dots refl (λ k. k.above e)) } in
    record { fresh = λ k. none 23 (repeated refl k); other = other; sorted = λ k. none 26 (unsorted refl k) }

module _ {o : Order} {b : List ℕ} {most : ℕ} {f : Forest}
    (h : IsForest (references o b) (LeadsToSound o b) most f) where
  -- rows are well if the later phases have no fault
  well_of_faultless : (m : ℕ) → IsNone (HasDepthFault o b m) → IsNone (HasExtentFault o b) → IsNone (HasNameFault o b)
      → AreWell o b m (all_rows (references o b) f)
  well_of_faultless m shallow apart named = record {
    shallow = λ before x after s e. elim (cases_lt m x.depth) [
      | inl l ↦ absurd (shallow (record { number = 21; at = x.offset })
          (into_depths h m before x after 21 s (refl, e, l)))
      | inr l ↦ l
    ];
    apart = λ p k. apart (record { number = 22; at = p }) (into_overlaps h p k);
    named = λ before x after s. well_named
        (λ n k. named (record { number = n; at = x.offset }) (into_names h before x after n s k));
  }

pub tree_of_faultless : (o : Order) (bytes : List ℕ) (most deepest : ℕ) → HasNoFault o bytes most deepest
    → (t : Node) × CramfsTree o bytes most deepest t
tree_of_faultless o bytes most deepest h =
    let b : List ℕ = accessible o bytes in
    let f = forest_here o b most h.few h.sound h.once in
    let well = well_of_faultless f.1 (min deepest 64) h.shallow h.apart h.named in (
      tree_of o b f.0,
      record {
        b = b;
        super = superblock_of o bytes h.image;
        forest = f.0;
        whole = tree_of_well o b most deepest f.0 f.1 well;
        same = refl;
      },
    )

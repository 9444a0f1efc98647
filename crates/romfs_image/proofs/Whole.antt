-- If an image has no fault, it has a tree.
use Rattle.std.proofs.Common.{◌≡◌, ◌≢◌, ℕ, ◌+◌, ◌<◌, ◌≤◌, min, List, length, take, drop, false, Option, None, Some, inl}
use Rattle.std.proofs.Common.{inr, refl, ap, arith}
use Rattle.std.proofs.lemmas.Bool.{cases_lt}
use Rattle.std.proofs.lemmas.Bool.Decides.{eqb_tells}
use Rattle.rom_tree.specs.Tree.{Node}
use Rattle.rom_fields.specs.Words.{words_sum}
use Rattle.record_forest.specs.declared.reference.Row.{Row}
use Rattle.record_forest.specs.Forest.{Forest, all_rows, IsForest}
use Rattle.record_forest.specs.Faults.{IsClean, IsNone}
use Rattle.record_forest.proofs.Lists.{pairs_from}
use Rattle.record_forest.proofs.Run.{forest_of}
use Rattle.record_forest.proofs.Decided.{same_number, same_list}
use Rattle.record_forest.proofs.Exact.{Differ}
use Rattle.romfs_format.specs.Record.{name_of, type_of, before_zero}
use Rattle.romfs_format.specs.Refers.{references, reference_offset, LeadsToSound}
use Rattle.romfs_format.specs.Tree.{follow, tree_of, magic, full_size, root_of, IsSuperblock, RomfsTree}
use Rattle.rom_tree.specs.Dots.{dot, is_dots}
use Rattle.romfs_format.specs.Superblock.{HasImageFault, short, no_magic, bad_size, bad_sum, no_root, root_kind}
use Rattle.romfs_format.specs.Superblock.{accessible, HasSize, HasSum, HasRoot}
use Rattle.romfs_format.specs.Faults.{HasDepthFault, HasExtentFault, HasNameFault, HasTwiceFault, HasTooMany}
use Rattle.romfs_format.specs.Faults.{HasReachedFault, HasNoFault}
use Rattle.romfs_format.proofs.Faults.{faultless_sound}
use Rattle.romfs_format.proofs.Lawful.{references_lawful}
use Rattle.romfs_format.proofs.Spans.{overlap_fault}
use Rattle.romfs_format.proofs.Named.{rows_are_reached, reached_has}
use Rattle.romfs_image.specs.Phases.{IsNameFault, repeated, here_astray, above_astray, root_renamed, link_astray}
use Rattle.romfs_image.specs.Phases.{IsWellNamed, AreWell}
use Rattle.romfs_image.proofs.Composed.{tree_of_well}
use Rattle.romfs_image.proofs.Exact.{into_names}
use Rattle.romfs_image.proofs.Least.{into_depths}
use Rattle.romfs_image.proofs.Naming.{no_target, directory_target}
use Rattle.romfs_image.proofs.Trees.{root_above}

same_option : (o : Option ℕ) (q : ℕ) → ((o ≢ Some q) → ⊥) → o ≡ Some q
same_option None q h = absurd (h (λ e. cc))
same_option (Some p) q h = ap (λ (v : ℕ). Some v) (same_number p q (λ n. h (λ e. n (cc))))

-- an image without a fault as a whole has a well formed superblock
pub superblock_of : (bytes : List ℕ) → IsNone (HasImageFault bytes)
    → IsSuperblock bytes (accessible bytes) (root_of (accessible bytes))
superblock_of bytes h =
    let b : List ℕ = accessible bytes in
    let long : 32 ≤ length bytes = elim (cases_lt (length bytes) 32)
    [ inl l ↦ absurd (h (record { number = 2; at = 0 }) (short l refl)) | inr l ↦ l ] in
    let begins : take 8 bytes ≡ magic =
    same_list (take 8 bytes) magic (λ n. h (record { number = 3; at = 0 }) (no_magic long n refl)) in
    let no_size : (HasSize bytes → ⊥) → ⊥ = λ n. h (record { number = 4; at = 8 }) (bad_size long begins n refl) in
    let size : HasSize bytes = (
      elim (cases_lt (full_size bytes) 32) [ inl l ↦ absurd (no_size (λ k. let z = k.0 in omega arith)) | inr l ↦ l ],
      elim (cases_lt (length bytes) (full_size bytes))
          [ inl l ↦ absurd (no_size (λ k. let z = k.1 in omega arith)) | inr l ↦ l ],
    ) in
    let sum : HasSum b = same_number (words_sum (take (min 512 (length b)) b)) 0
    (λ n. h (record { number = 5; at = 12 }) (bad_sum long begins size n refl)) in
    let rootless : (HasRoot b → ⊥) → ⊥ =
    λ n. h (record { number = 9; at = 16 }) (no_root long begins size sum n refl) in
    let root : HasRoot b = (
      elim (cases_lt (16 + length (before_zero (drop 16 b))) (length b))
          [ inl l ↦ l | inr l ↦ absurd (rootless (λ k. let z = k.0 in omega arith)) ],
      elim (cases_lt (length b) (root_of b + 32))
          [ inl l ↦ absurd (rootless (λ k. let z = k.1 in omega arith)) | inr l ↦ l ],
    ) in
    let kind : type_of b (root_of b) ≡ 1 =
    same_number (type_of b (root_of b)) 1
    (λ n. h (record { number = 9; at = root_of b }) (root_kind long begins size sum root n refl)) in
    record {
      long = long;
      begins = begins;
      size = size;
      cut = refl;
      sum = sum;
      volume = root.0;
      root = refl;
      fits = root.1;
      directory = kind;
    }

module _ {b : List ℕ} {r most : ℕ} (above : 0 < r) where
  -- References and records without faults give a forest.
  pub forest_here : (HasTooMany b r most → ⊥) → IsNone (HasReachedFault b r) → IsNone (HasTwiceFault b r)
      → (f : Forest) × IsForest (references b r) (LeadsToSound b r) most f
  forest_here few sound once =
      let clean : IsClean (references b r) (LeadsToSound b r) most = record {
        few = few;
        sound = λ x k. faultless_sound (λ n e. sound (record { number = n; at = reference_offset b r x })
            (record { reference = x; reached = k; faulty = record { at = refl; number = e } }));
        once = λ q k. once (record { number = 20; at = q }) (k, refl);
      } in
      forest_of (references b r) (LeadsToSound b r) most (references_lawful b r above) clean

-- a row without a fault of a name is well named
module _ {b : List ℕ} {r : ℕ} {all before : List Row} {x : Row}
    (none : (n : ℕ) → IsNameFault b r all before x n → ⊥) where
  target_of_link : is_dots (name_of b x.offset) ≡ false → type_of b x.offset ≡ 0 → (o : Option ℕ)
      → follow b all 8 x.offset ≡ o → (q : ℕ) × (follow b all 8 x.offset ≡ Some q) × (type_of b q ≢ 1)
  target_of_link e t None i = absurd (none 25 (link_astray refl e t (no_target b (follow b all 8 x.offset) i)))
  target_of_link e t (Some q) i = elim (eqb_tells (type_of b q) 1) [
    | inl k ↦ absurd (none 25 (link_astray refl e t (directory_target b (follow b all 8 x.offset) q i k.1)))
    | inr k ↦ (q, i, k.1)
  ]

  well_named : IsWellNamed b r all before x
  well_named = record {
    fresh = λ k. none 23 (repeated refl k);
    leads = record {
      here = λ e. same_option (follow b all 8 x.offset) x.directory (λ n. none 24 (here_astray refl e n));
      above = λ e. same_option (follow b all 8 x.offset) x.parent (λ n. none 24 (above_astray refl e n));
      link = λ e t. target_of_link e t (follow b all 8 x.offset) refl;
    };
    root = λ e. same_list (name_of b x.offset) dot (λ n. none 24 (root_renamed refl e n));
  }

module _ {b : List ℕ} {r most : ℕ} {f : Forest} (above : 0 < r)
    (h : IsForest (references b r) (LeadsToSound b r) most f) where
  -- Rows are well if the later phases have no fault.
  pub well_of_faultless : (m : ℕ) → IsNone (HasDepthFault b r m) → IsNone (HasExtentFault b r)
      → IsNone (HasNameFault b r) → AreWell b r m (all_rows (references b r) f)
  well_of_faultless m shallow apart named = record {
    shallow = λ before x after s e. elim (cases_lt m x.depth) [
      | inl l ↦ absurd (shallow (record { number = 21; at = x.offset })
          (into_depths above h m before x after 21 s (refl, e, l)))
      | inr l ↦ l
    ];
    apart = λ p k.
        apart (record { number = 22; at = p })
        (overlap_fault (all_rows (references b r) f) above (pairs_from Differ (all_rows (references b r) f) h.single)
        (rows_are_reached above h) (reached_has above h) p k);
    named = λ before x after s. well_named
        (λ n k. named (record { number = n; at = x.offset }) (into_names above h before x after n s k));
  }

pub tree_of_faultless : (bytes : List ℕ) (most deepest : ℕ) → HasNoFault bytes most deepest
    → (t : Node) × RomfsTree bytes most deepest t
tree_of_faultless bytes most deepest h =
    let b : List ℕ = accessible bytes in
    let r : ℕ = root_of b in
    let low = root_above b in
    let above : 0 < r = omega arith in
    let live : r ≢ 0 = λ e. omega arith in
    let f = forest_here above h.few h.sound h.once in
    let well = well_of_faultless above f.1 (min deepest 64) h.shallow h.apart h.named in (
      tree_of b r f.0,
      record {
        b = b;
        r = r;
        super = superblock_of bytes h.image;
        forest = f.0;
        whole = tree_of_well b r most deepest f.0 live f.1 well;
        same = refl;
      },
    )

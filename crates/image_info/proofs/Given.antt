-- The facts that the image returned by a check has of its bytes.
use Rattle.std.proofs.Common.{◌≡◌, ◌≢◌, ℕ, ◌^◌, ◌<◌, ◌≤◌, min, true, false, cond, List, length, take, length-take, refl}
use Rattle.std.proofs.Common.{sym, ap, subst, ◌∙◌, arith}
use Rattle.rom_fields.specs.declared.span.Span.{Span}
use Rattle.rom_fields.specs.Words.{word_be}
use Rattle.rom_tree.specs.Tree.{Node, ino_of}
use Rattle.rom_tree.specs.declared.types.Limits.{Limits}
use Rattle.record_forest.specs.Forest.{Forest, all_rows}
use Rattle.romfs_format.specs.Refers.{references}
use Rattle.romfs_format.specs.Superblock.{accessible}
use Rattle.romfs_format.specs.Tree.{RomfsTree, IsSuperblock, IsTree, tree_of, root_of, extents_of}
use Rattle.romfs_format.specs.Made.{IsRomfs}
use Rattle.romfs_format.proofs.Bridge.{accepted}
use Rattle.romfs_format.proofs.Trees.{ino_is}
use Rattle.romfs_image.proofs.Reading.{root_above}
use Rattle.romfs_image.specs.declared.image.Romfs.{Romfs}
use Rattle.romfs_image.specs.Checked.{Shows as RomfsShows}
use Rattle.romfs_image.specs.Reported.{image_of, report_of as report_in}
use Rattle.cramfs_format.specs.declared.order.Order.{Order}
use Rattle.cramfs_format.specs.Refers.{references as cramfs_references}
use Rattle.cramfs_format.specs.Superblock.{accessible as cramfs_accessible, accessible_size, has_crc, size_word}
use Rattle.cramfs_format.specs.Superblock.{IsSuperblock as IsCramfsSuperblock}
use Rattle.cramfs_format.specs.Tree.{CramfsTree, IsTree as IsCramfsTree}
use Rattle.cramfs_format.specs.Tree.{extents_of as extents_of_cramfs}
use Rattle.cramfs_format.specs.Made.{IsCramfs}
use Rattle.cramfs_format.proofs.Bridge.{accepted as cramfs_accepted}
use Rattle.cramfs_image.specs.declared.image.Cramfs.{Cramfs}
use Rattle.cramfs_image.specs.Reported.{order_in}
use Rattle.cramfs_image.specs.Checked.{Shows as CramfsShows}
use Rattle.cramfs_image.specs.Extents.{AreTheSame}
use Rattle.cramfs_image.specs.Merged.{expanded}
use Rattle.image_check.specs.declared.any.AnyImage.{AnyImage}
use Rattle.image_check.specs.declared.any.AnyImage.TheVariants.{Romfs as InRomfs, Cramfs as InCramfs}
use Rattle.image_check.specs.Any.{any_view, report_of}
use Rattle.image_check.specs.Checked.{Shows, romfs, cramfs, HasFormat}
use Rattle.image_check.proofs.Formats.{apart}
use Rattle.image_info.specs.Unused.{unused}
use Rattle.image_info.specs.Gaps.{romfs_extents, romfs_gaps, cramfs_forest, cramfs_extents, cramfs_gaps, IsChecked}
use Rattle.image_info.specs.Held.{HoldsRomfs, HoldsCramfs}
use Rattle.image_info.proofs.Covered.{unused_same, unused_expanded}
use Rattle.image_info.proofs.Forests.{romfs_is, cramfs_is}

-- an image that a check shows is one that it returned
shown_bytes : (all : List ℕ) (l : Limits) (a : AnyImage) → Shows all l (any_view a) (report_of a)
    → all ≡ (any_view a).bytes
shown_bytes all l a (romfs h) = sym h.bytes
shown_bytes all l a (cramfs h) = sym h.bytes

pub check_gave : (all : List ℕ) (l : Limits) (a : AnyImage) → Shows all l (any_view a) (report_of a) → HasFormat all a
    → IsChecked a
check_gave all l a h f =
    let e = shown_bytes all l a h in
    record {
      limits = l;
      shows = subst (λ (u : List ℕ). Shows u l (any_view a) (report_of a)) e h;
      format = subst (λ (u : List ℕ). HasFormat u a) e f;
    }

root_number : (b : List ℕ) (r : ℕ) (f : Forest) → ino_of (tree_of b r f) ≡ r
unfolding tree_of
root_number b r f = ino_is b r _

-- the facts that the tree of a romfs image has of its bytes
romfs_held : (all : List ℕ) (most deepest root k : ℕ) (x : Node) (t : RomfsTree all most deepest x) → root ≡ ino_of x
    → k ≡ length (all_rows (references t.b t.r) t.forest) → k < 2 ^ 32 → HoldsRomfs all root
romfs_held all most deepest root k x t e n small =
    let r : t.r ≡ root = sym (e ∙ ap ino_of t.same ∙ root_number t.b t.r t.forest) in
    record {
      superblock = subst (λ (b : List ℕ). IsSuperblock all b root) t.super.cut
          (subst (λ (q : ℕ). IsSuperblock all t.b q) r t.super);
      most = most;
      deepest = deepest;
      forest = t.forest;
      whole = subst (λ (b : List ℕ). IsTree b root most deepest t.forest) t.super.cut
          (subst (λ (q : ℕ). IsTree t.b q most deepest t.forest) r t.whole);
      few = subst (λ (b : List ℕ). length (all_rows (references b root) t.forest) ≤ 2 ^ 32) t.super.cut
          (subst (λ (q : ℕ). length (all_rows (references t.b q) t.forest) ≤ 2 ^ 32) r (omega arith));
    }

pub checked_romfs : (s : Romfs) (root : ℕ) → IsChecked (InRomfs s) → s.references < 2 ^ 32
    → root ≡ ino_of (any_view (InRomfs s)).tree → HoldsRomfs s.all.now root
checked_romfs s root c small e = by c.shows
  where
    by : Shows s.all.now c.limits (any_view (InRomfs s)) (report_of (InRomfs s)) → HoldsRomfs s.all.now root
    by (romfs h) = romfs_held s.all.now c.limits.references c.limits.depth root s.references
        (any_view (InRomfs s)).tree h.tree e h.count small
    by (cramfs h) = absurd (apart _ s.all.now c.format h.tree.super.begins)

-- and that of a cramfs image
cramfs_held : (o : Order) (all : List ℕ) (most deepest k : ℕ) (x : Node) (t : CramfsTree o all most deepest x)
    → k ≡ length (all_rows (cramfs_references o t.b) t.forest) → k < 2 ^ 32 → HoldsCramfs o all
cramfs_held o all most deepest k x t n small = record {
  superblock = subst (λ (b : List ℕ). IsCramfsSuperblock o all b) t.super.cut t.super;
  most = most;
  deepest = deepest;
  forest = t.forest;
  whole = subst (λ (b : List ℕ). IsCramfsTree o b most deepest t.forest) t.super.cut t.whole;
  few = subst (λ (b : List ℕ). length (all_rows (cramfs_references o b) t.forest) ≤ 2 ^ 32) t.super.cut (omega arith);
}

-- the check of cramfs returned it, too
pub cramfs_shown : (s : Cramfs) (c : IsChecked (InCramfs s))
    → CramfsShows (order_in s) s.all.now c.limits (any_view (InCramfs s)) (report_of (InCramfs s))
cramfs_shown s c = by c.shows
  where
    by : Shows s.all.now c.limits (any_view (InCramfs s)) (report_of (InCramfs s))
        → CramfsShows (order_in s) s.all.now c.limits (any_view (InCramfs s)) (report_of (InCramfs s))
    by (romfs h) = absurd (apart _ s.all.now h.tree.super.begins c.format.0.1)
    by (cramfs h) =
        subst (λ (o : Order). CramfsShows o s.all.now c.limits (any_view (InCramfs s)) (report_of (InCramfs s)))
        (sym c.format.1) h

pub checked_cramfs : (s : Cramfs) → IsChecked (InCramfs s) → s.references < 2 ^ 32 → HoldsCramfs (order_in s) s.all.now
checked_cramfs s c small =
    let h = cramfs_shown s c in
    cramfs_held (order_in s) s.all.now c.limits.references c.limits.depth s.references (any_view (InCramfs s)).tree
    h.tree h.count small

-- the accessible bytes of romfs, and what is known of them
pub romfs_known : (all : List ℕ) (r size : ℕ) → HoldsRomfs all r → size < 2 ^ 32 → size ≡ word_be all 8
    → (k : ℕ) × (k ≤ 2 ^ 32) × IsRomfs (take size all) r k
romfs_known all r size h small e =
    let b : List ℕ = accessible all in
    let live : r ≢ 0 = (let a = root_above b r h.superblock.root in λ z. absurd (omega arith)) in
    let l : length b ≡ min (word_be all 8) (length all) = length-take (word_be all 8) all in
    let s : length b < 2 ^ 32 = grind (arith, l, e, small) in
    subst (λ (n : ℕ). (k : ℕ) × (k ≤ 2 ^ 32) × IsRomfs (take n all) r k) (sym e) (
      length (all_rows (references b r) h.forest),
      h.few,
      (accepted b r h.most h.deepest h.forest live h.whole s h.superblock.directory).0,
    )

-- a check returned it
pub romfs_shown : (s : Romfs) → IsChecked (InRomfs s) → (l : Limits) × RomfsShows s.all.now l (image_of s) (report_in s)
romfs_shown s c = by c.shows
  where
    by : Shows s.all.now c.limits (any_view (InRomfs s)) (report_of (InRomfs s))
        → (l : Limits) × RomfsShows s.all.now l (image_of s) (report_in s)
    by (romfs h) = (c.limits, h)
    by (cramfs h) = absurd (apart _ s.all.now c.format h.tree.super.begins)

-- the extents of the one tree that its bytes hold
given_extents : (b : List ℕ) (r most deepest : ℕ) (f : Forest) (spans : List Span) → r ≢ 0 → IsTree b r most deepest f
    → length (all_rows (references b r) f) ≤ 2 ^ 32 → spans ≡ extents_of b r (all_rows (references b r) f)
    → spans ≡ romfs_extents b r
unfolding romfs_extents
given_extents b r most deepest f spans live t few e =
    e ∙ ap (λ (v : Forest). extents_of b r (all_rows (references b r) v)) (sym (romfs_is b r most deepest f live t few))

pub romfs_counted : (s : Romfs) (size result : ℕ) (given spans : List Span) → IsChecked (InRomfs s)
    → size ≡ word_be s.all.now 8
    → ((b : List ℕ) (r most deepest : ℕ) (f : Forest) → IsSuperblock s.all.now b r → IsTree b r most deepest f
    → spans ≡ extents_of b r (all_rows (references b r) f))
    → given ≡ spans → result ≡ unused given 0 size → result ≡ romfs_gaps s.all.now
unfolding romfs_gaps
romfs_counted s size result given spans c e found g u =
    let all : List ℕ = s.all.now in
    let b : List ℕ = accessible all in
    let r : ℕ = ino_of (any_view (InRomfs s)).tree in
    let h = checked_romfs s r c s.few refl in
    let live : r ≢ 0 = (let a = root_above b r h.superblock.root in λ z. absurd (omega arith)) in
    let l : length b ≡ min (word_be all 8) (length all) = length-take (word_be all 8) all in
    let w = h.superblock.size.1 in
    let n : size ≡ length b = grind (arith, l, e, w) in
    let x : given ≡ romfs_extents b (root_of b) = g
    ∙ given_extents b r h.most h.deepest h.forest spans live h.whole h.few
    (found b r h.most h.deepest h.forest h.superblock h.whole)
    ∙ ap (romfs_extents b) h.superblock.root in
    u ∙ ap (λ (v : List Span). unused v 0 size) x ∙ ap (unused (romfs_extents b (root_of b)) 0) n

-- the same of cramfs
pub cramfs_size : (o : Order) (all : List ℕ) → HoldsCramfs o all
    → (accessible_size o all ≤ length all) × (76 ≤ accessible_size o all)
unfolding accessible_size
cramfs_size o all h =
    let long = h.superblock.long in
    elim (has_crc o all) as (λ v. has_crc o all ≡ v
    → (cond v (size_word o all) (min (length all) (2 ^ 28)) ≤ length all)
    × (76 ≤ cond v (size_word o all) (min (length all) (2 ^ 28)))) [
      | true ↦ λ e. let s = h.superblock.size e in (s.1, s.0)
      | false ↦ λ e. (grind arith, grind (arith, long))
    ] refl

pub cramfs_known : (o : Order) (all : List ℕ) (size : ℕ) → HoldsCramfs o all → size < 2 ^ 32
    → size ≡ accessible_size o all → (k : ℕ) × (k ≤ 2 ^ 32) × IsCramfs o (take size all) k
cramfs_known o all size h small e =
    let b : List ℕ = cramfs_accessible o all in
    let w = cramfs_size o all h in
    let l : length b ≡ min (accessible_size o all) (length all) = length-take (accessible_size o all) all in
    let n : length b ≡ accessible_size o all = (let y = w.0 in grind (arith, l, y)) in
    subst (λ (v : ℕ). (k : ℕ) × (k ≤ 2 ^ 32) × IsCramfs o (take v all) k) (sym e) (
      length (all_rows (cramfs_references o b) h.forest),
      h.few,
      (cramfs_accepted o b h.most h.deepest h.forest h.whole (let y = w.1 in omega (arith, n, y))
          (omega (arith, n, e, small)) h.superblock.root.directory).0,
    )

pub cramfs_counted : (o : Order) (all : List ℕ) (size result : ℕ) (given spans : List Span) → HoldsCramfs o all
    → size ≡ accessible_size o all → given ≡ spans
    → ((b : List ℕ) (most deepest : ℕ) (f : Forest) → IsCramfsSuperblock o all b → IsCramfsTree o b most deepest f
    → AreTheSame (expanded spans) (extents_of_cramfs o b (all_rows (cramfs_references o b) f)))
    → result ≡ unused given 0 size → result ≡ cramfs_gaps o all
unfolding cramfs_gaps cramfs_extents
cramfs_counted o all size result given spans h e g f u =
    let b : List ℕ = cramfs_accessible o all in
    let w = (cramfs_size o all h).0 in
    let l : length b ≡ min (accessible_size o all) (length all) = length-take (accessible_size o all) all in
    let n : size ≡ length b = grind (arith, l, e, w) in
    let same = f b h.most h.deepest h.forest h.superblock h.whole in
    let is : cramfs_forest o b ≡ h.forest = cramfs_is o b h.most h.deepest h.forest h.whole h.few in
    u ∙ ap (λ (v : List Span). unused v 0 size) g
    ∙ unused_expanded spans 0 size
    ∙ unused_same (expanded spans) (extents_of_cramfs o b (all_rows (cramfs_references o b) h.forest)) 0 size same
    ∙ ap (λ (v : Forest). unused (extents_of_cramfs o b (all_rows (cramfs_references o b) v)) 0 size) (sym is)
    ∙ ap (unused (extents_of_cramfs o b (all_rows (cramfs_references o b) (cramfs_forest o b))) 0) n

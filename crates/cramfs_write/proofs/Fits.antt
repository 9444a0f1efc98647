-- The items of a planned volume fit: their names are short, and their bytes end at 2^28 or before.
use Rattle.std.proofs.Common.{◌≡◌, ◌≢◌, ℕ, ◌+◌, ◌^◌, ◌≤◌, List, ◌++◌, length, refl, arith}
use Rattle.std.specs.List.{AllByRecursion as Every}
use Rattle.record_forest.proofs.Lists.{every_join, every_weaker, every_both}
use Rattle.cramfs_format.specs.declared.order.Order.{Order}
use Rattle.rom_fields.proofs.Padding.{pad-after}
use Rattle.manifest_tree.specs.Names.{Inode, Names, nothing, leaf, link, subdirectory, bytes_of}
use Rattle.manifest_tree.specs.Items.{Item}
use Rattle.cramfs_layout.specs.Layout.{pad4, entry_len, State, Kept, nowhere, shared, fresh, kept, after_by, after_file}
use Rattle.cramfs_layout.specs.Layout.{after_list, after_names, first_state, size_of}
use Rattle.cramfs_layout.specs.Items.{AreAlignedBy, entries, below}
use Rattle.cramfs_layout.specs.Wells.{AreWell}
use Rattle.cramfs_layout.specs.Planned.{IsPlanned}
use Rattle.cramfs_layout.proofs.Stored.{names_onward}
use Rattle.cramfs_layout.proofs.Tabled.{FileFresh, AllFresh, IsTabled, all_tabled}
use Rattle.cramfs_write.proofs.Sections.{IsFit}

-- a short name, and as many bytes as is said
abbrev IsNamed : List (List ℕ) → Item → Type 0
IsNamed cs i = (length i.name ≤ 252) × (i.len ≢ 0 → length (bytes_of cs i.fill) ≡ i.len)

entries_named : (o : Order) (cs : List (List ℕ)) (l : ℕ) (s : State) (n : Names) → AreWell cs n
    → Every (IsNamed cs) (entries o l s n)
entries_named o cs l s nothing h = tt
entries_named o cs l s (leaf name i rest) h =
    ((h.0.1, λ u. h.1.bytes), entries_named o cs (l + entry_len name) (after_file s i) rest h.2)
entries_named o cs l s (link name i rest) h = absurd h
entries_named o cs l s (subdirectory name i own rest) h = (
  (h.0.1, λ u. absurd (u refl)),
  entries_named o cs (l + entry_len name)
      (after_names (after_list s own) own) rest h.3,
)

below_named : (o : Order) (cs : List (List ℕ)) (s : State) (n : Names) → AreWell cs n → Every (IsNamed cs) (below o s n)
below_named o cs s nothing h = tt
below_named o cs s (leaf name i rest) h = below_named o cs (after_file s i) rest h.2
below_named o cs s (link name i rest) h = absurd h
below_named o cs s (subdirectory name i own rest) h =
    let s1 = after_list s own in
    let s2 = after_names s1 own in
    every_join (IsNamed cs) (entries o (pad4 s.at) s1 own) (below o s1 own ++ below o s2 rest)
    (entries_named o cs (pad4 s.at) s1 own h.2)
    (every_join (IsNamed cs) (below o s1 own) (below o s2 rest) (below_named o cs s1 own h.2)
    (below_named o cs s2 rest h.3))

-- bytes end at 2^28 or before
abbrev Low : ℕ → ℕ → ℕ → Type 0
Low t d n = d + n ≤ 2 ^ 28

file_low : (s : State) (i : Inode) (k : Kept) → (after_by k s i).at ≤ 2 ^ 28 → FileFresh Low s i k
file_low s i nowhere l = tt
file_low s i (shared t) l = tt
file_low s i fresh l = λ u. l

all_low : (cs : List (List ℕ)) (s : State) (n : Names) → AreWell cs n → (after_names s n).at ≤ 2 ^ 28 → AllFresh Low s n
all_low cs s nothing h l = tt
all_low cs s (leaf name i rest) h l =
    let on = names_onward cs (after_file s i) rest h.2 in
    (file_low s i (kept s.tables i) (omega (arith, on, l)), all_low cs (after_file s i) rest h.2 l)
all_low cs s (link name i rest) h l = absurd h
all_low cs s (subdirectory name i own rest) h l =
    let s1 = after_list s own in
    let s2 = after_names s1 own in
    let on = names_onward cs s2 rest h.3 in
    (all_low cs s1 own h.2 (omega (arith, on, l)), all_low cs s2 rest h.3 l)

pub are_fit : (o : Order) (volume : List ℕ) (root : Inode) (n : Names) (cs : List (List ℕ)) (A : ℕ → ℕ)
    → IsPlanned volume root n cs → AreAlignedBy A n
    → Every (IsFit cs) (entries o 76 (first_state n) n ++ below o (first_state n) n)
unfolding size_of
are_fit o volume root n cs A h al =
    let s = first_state n in
    let es = entries o 76 s n in
    let bs = below o s n in
    let room = h.room in
    let up : (after_names s n).at ≤ size_of n = pad-after (after_names s n).at 4096 (omega arith) in
    let t = all_tabled o cs A Low 76 s n h.well al (all_low cs s n h.well (omega (arith, up, room))) tt in
    let low = every_join (IsTabled Low) es bs t.here t.under in
    let named = every_join (IsNamed cs) es bs (entries_named o cs 76 s n h.well) (below_named o cs s n h.well) in
    every_weaker (λ i. IsNamed cs i × IsTabled Low i) (IsFit cs)
    (λ i k. record { short = k.0.0; low = k.1; long = k.0.1 }) (es ++ bs)
    (every_both (IsNamed cs) (IsTabled Low) (es ++ bs) named low)

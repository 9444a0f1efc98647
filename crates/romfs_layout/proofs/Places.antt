-- The offsets of headers and data.
use Rattle.rom_fields.proofs.Padding.{pad-after}
use Rattle.std.proofs.Common.{◌≡◌, ℕ, ◌+◌, ◌-◌, ◌*◌, ◌/◌, ◌%◌, ◌<◌, ◌≤◌, List, refl, ap, ◌∙◌, arith}
use Rattle.romfs_format.specs.Record.{pad16}
use Rattle.manifest_tree.specs.Names.{Inode, Names, nothing, leaf, link, subdirectory}
use Rattle.romfs_layout.specs.Wells.{IsFile, AreWell}
use Rattle.romfs_layout.specs.Layout.{record_len, data_align, place_of, leaf_end, header_end, ends, first_place}
use Rattle.rom_fields.specs.Padding.{pad}

times16 : (x m : ℕ) → (x * (16 * m)) % 16 ≡ 0
times16 x m = omega arith

pub place_after : (cs : List (List ℕ)) (from : ℕ) (name : List ℕ) (i : Inode) → IsFile cs i
    → from ≤ place_of from name i
unfolding place_of
place_after cs from name i h =
    let a : 0 < data_align i = rw h.aligned (let s = h.some in omega arith) in
    let n = pad-after (pad16 from + record_len name) (data_align i) a in
    omega arith

pad_even : (n k m : ℕ) → k ≡ 16 * m → pad n k % 16 ≡ 0
pad_even n k m h = let x = (n + (k - 1)) / k in ap (λ (z : ℕ). (x * z) % 16) h ∙ times16 x m

sub_even : (h l : ℕ) → h % 16 ≡ 0 → l % 16 ≡ 0 → l ≤ h → (h - l) % 16 ≡ 0
sub_even h l p q r = omega arith

pub place_even : (cs : List (List ℕ)) (from : ℕ) (name : List ℕ) (i : Inode) → IsFile cs i
    → place_of from name i % 16 ≡ 0
unfolding place_of
place_even cs from name i h =
    let a : 0 < data_align i = rw h.aligned (let s = h.some in omega arith) in
    let n = pad-after (pad16 from + record_len name) (data_align i) a in
    sub_even (pad (pad16 from + record_len name) (data_align i)) (record_len name)
    (pad_even (pad16 from + record_len name) (data_align i) h.sixteens h.aligned) (omega arith) (omega arith)

pub ends_after : (cs : List (List ℕ)) (from : ℕ) (n : Names) → AreWell cs n → from ≤ ends from n
ends_after cs from nothing h = omega arith
ends_after cs from (leaf name i after) h =
    let a = place_after cs from name i h.1 in
    let n = ends_after cs (leaf_end from name i) after h.2 in
    omega arith
ends_after cs from (link name i after) h = let n = ends_after cs (header_end from name) after h.2 in omega arith
ends_after cs from (subdirectory name i own after) h =
    let m = ends_after cs (header_end from name + 64) own h.2 in
    let n = ends_after cs (ends (header_end from name + 64) own) after h.3 in
    omega arith

pub first_even : (cs : List (List ℕ)) (from : ℕ) (n : Names) → AreWell cs n → first_place from n % 16 ≡ 0
first_even cs from nothing h = refl
first_even cs from (leaf name i after) h = place_even cs from name i h.1
first_even cs from (link name i after) h = omega arith
first_even cs from (subdirectory name i own after) h = omega arith

pub first_within : (cs : List (List ℕ)) (from : ℕ) (n : Names) → AreWell cs n → first_place from n ≤ ends from n
first_within cs from nothing h = omega arith
first_within cs from (leaf name i after) h = let n = ends_after cs (leaf_end from name i) after h.2 in omega arith
first_within cs from (link name i after) h = let n = ends_after cs (header_end from name) after h.2 in omega arith
first_within cs from (subdirectory name i own after) h =
    let m = ends_after cs (header_end from name + 64) own h.2 in
    let n = ends_after cs (ends (header_end from name + 64) own) after h.3 in
    omega arith

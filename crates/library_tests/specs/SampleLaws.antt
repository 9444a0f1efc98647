-- `sample`: the small tree as an `Image`, with its laws. `each`: a property that holds for each of
-- the ten nodes holds for every node in the tree. (This project's own.)
use Rattle.std.proofs.Common.{◌≡◌, ℕ, ◌+◌, ◌<◌, ◌≤◌, true, false, [], length, Some, refl, arith}
use Rattle.std.specs.Prelude.{slice_index}
use Rattle.rom_tree.specs.Tree.{Node, is_device, attributes_of, row_from, ino_of, is_link}
use Rattle.rom_tree.specs.Tree.{places_of, nodes, node_at, IsIn, here, there, IsCoherent}
use Rattle.rom_tree.specs.Image.{Image}
use Rattle.rom_tree.proofs.Nodes.{coherent_by}
use Rattle.rom_tree.proofs.Numbers.{length_row, row_at}
use Rattle.library_tests.specs.Sample.{sample_bytes, root, bin, sh, deep, pipe, link, disk, tty}
use Rattle.library_tests.specs.Sample.{log}
use Rattle.library_tests.specs.Sample.{empty}

-- a property of each of these nodes holds for each node in the tree
pub each : (P : Node → Type 0) → P root → P bin → P sh → P deep → P pipe → P link → P disk → P tty
    → P log → P empty
    → (x : Node) → IsIn x (nodes root) → P x
each P a b c d e f g h i j x here = a
each P a b c d e f g h i j x (there here) = b
each P a b c d e f g h i j x (there (there here)) = c
each P a b c d e f g h i j x (there (there (there here))) = d
each P a b c d e f g h i j x (there (there (there (there here)))) = e
each P a b c d e f g h i j x (there (there (there (there (there here))))) = f
each P a b c d e f g h i j x (there (there (there (there (there (there here)))))) = g
each P a b c d e f g h i j x (there (there (there (there (there (there (there here))))))) = h
each P a b c d e f g h i j x (there (there (there (there (there (there (there (there here)))))))) =
    i
each P a b c d e f g h i j x (there
    (there (there (there (there (there (there (there (there here))))))))) = c
each P a b c d e f g h i j x (there
    (there (there (there (there (there (there (there (there (there here)))))))))) = j
each P a b c d e f g h i j x (there
    (there (there (there (there (there (there (there (there (there (there k))))))))))) =
    elim k [ ]

pub named : (x : Node) → IsIn x (nodes root) → node_at root (ino_of x) ≡ Some x
unfolding node_at
named = each (λ x. node_at root (ino_of x)
    ≡ Some x) refl refl refl refl refl refl refl refl refl refl

pub coherent : IsCoherent root
coherent = coherent_by root named

abbrev pub NumbersDevices : Node → Type 0
NumbersDevices x =
    is_device x ≡ false → ((attributes_of x).major ≡ 0) × ((attributes_of x).minor ≡ 0)

pub devices : (x : Node) → IsIn x (nodes root) → NumbersDevices x
devices = each NumbersDevices (λ h. (refl, refl)) (λ h. (refl, refl)) (λ h. (refl, refl))
    (λ h. (refl, refl))
    (λ h. (refl, refl)) (λ h. (refl, refl)) (λ h. absurd (cc)) (λ h. absurd (cc))
    (λ h. (refl, refl))
    (λ h. (refl, refl))

abbrev pub FewPlaces : Node → Type 0
FewPlaces x = is_link x ≡ true → (0 < length (places_of x)) × (length (places_of x) ≤ 4095)

pub links : (x : Node) → IsIn x (nodes root) → FewPlaces x
links = each FewPlaces (λ h. absurd (cc)) (λ h. absurd (cc)) (λ h. absurd (cc)) (λ h. absurd (cc))
    (λ h. absurd (cc))
    (λ h. (omega arith, omega arith)) (λ h. absurd (cc)) (λ h. absurd (cc)) (λ h. absurd (cc))
    (λ h. absurd (cc))

abbrev pub IsPlaced : Node → Type 0
IsPlaced x = (k : ℕ) → k < length (places_of x) → slice_index (places_of x) k < length sample_bytes

none_placed : (k : ℕ) → k < 0 → slice_index [] k < length sample_bytes
none_placed k h = absurd (omega arith)

row_placed : (p n : ℕ) → p + n ≤ 37 → (k : ℕ) → k < length (row_from p n)
    → slice_index (row_from p n) k < length sample_bytes
row_placed p n f k h =
    let l : k < n =
    (let e = length_row p n in omega (arith, e)) in let r = row_at p n k l in omega (arith, r)

pub placed : (x : Node) → IsIn x (nodes root) → IsPlaced x
placed =
    each IsPlaced none_placed none_placed (row_placed 0 5 (omega arith)) none_placed none_placed
    (row_placed 5 4 (omega arith)) none_placed none_placed none_placed none_placed

abbrev pub sample : Image
sample = record {
  bytes = sample_bytes;
  tree = root;
  cursor_index = λ d c. Some c;
  coherent = coherent;
  starts = λ d. refl;
  devices = devices;
  links = links;
  placed = placed;
}

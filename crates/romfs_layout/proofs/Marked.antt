-- The headers of a layout have the bit "executable" for the modes that have it.
use Rattle.manifest_tree.proofs.Alike.{alike_some}
use Rattle.std.proofs.Common.{◌≡◌, ℕ, ◌+◌, ◌-◌, ◌/◌, ◌%◌, ◌<◌, ◌≤◌, eqb, List, [], ◌∷◌, ◌++◌, length, drop, replicate}
use Rattle.std.proofs.Common.{refl, ap, ◌∙◌, arith}
use Rattle.std.proofs.lemmas.List.{length-drop, drop-append-le}
use Rattle.std.specs.List.{AllByRecursion as Every}
use Rattle.byteorder.specs.Endian.{big_number}
use Rattle.record_forest.proofs.Lists.{every_weaker, has_of}
use Rattle.rom_fields.specs.Padding.{pad}
use Rattle.rom_fields.specs.Words.{word_be}
use Rattle.rom_tree.specs.declared.types.Kind.{Kind}
use Rattle.rom_tree.specs.Tree.{ino_of}
use Rattle.romfs_format.specs.Tree.{executable}
use Rattle.manifest_tree.specs.Names.{Inode, Names}
use Rattle.manifest_tree.specs.Shape.{node_under, file_under, with_names}
use Rattle.manifest_tree.specs.Files.{Placed, at_place}
use Rattle.romfs_layout.specs.Layout.{code_of, ends, full_size_of, layout, mode_bit, number_of, placed, root_at}
use Rattle.romfs_layout.specs.Marked.{is_executable, AreMarked}
use Rattle.romfs_layout.specs.Planned.{IsPlanned}
use Rattle.romfs_layout.proofs.Image.{tree_in, is_image}
use Rattle.romfs_layout.proofs.Paths.{IsEnd}
use Rattle.romfs_layout.proofs.Places.{ends_after}
use Rattle.romfs_layout.proofs.Shaped.{IsOne, all_placed, bytes_in, ends_alike, files_apart, ino_at}

first_four : (xs ys : List ℕ) → 4 ≤ length xs → big_number 4 (xs ++ ys) ≡ big_number 4 xs
first_four [] ys l = absurd (omega arith)
first_four (a ∷ []) ys l = absurd (omega arith)
first_four (a ∷ b ∷ []) ys l = absurd (omega arith)
first_four (a ∷ b ∷ c ∷ []) ys l = absurd (omega arith)
first_four (a ∷ b ∷ c ∷ d ∷ xs) ys l = refl

-- a word is the same if more bytes follow
word_more : (b more : List ℕ) (p : ℕ) → p + 4 ≤ length b → word_be (b ++ more) p ≡ word_be b p
unfolding word_be
word_more b more p l = ap (big_number 4) (drop-append-le p b more (omega arith))
    ∙ first_four (drop p b) more (omega (arith, length-drop p b))

-- the headers of files are before the end
placed_before : (volume : List ℕ) (root : Inode) (n : Names) (cs : List (List ℕ)) → IsPlanned volume root n cs
    → Every (λ (x : Placed). x.place < full_size_of (root_at volume) n) (all_placed volume root n)
placed_before volume root n cs h =
    let r = root_at volume in
    let size = full_size_of r n in
    let after = ends_after cs (r + 64) n h.well in (
      omega arith,
      every_weaker (λ (x : Placed). (r + 64 ≤ x.place) × (x.place < ends (r + 64) n)) (λ (x : Placed). x.place < size)
          (λ x k. let u = k.1 in omega arith) (placed (r + 64) n) (files_apart cs (r + 64) n h.well).within,
    )

-- if the codes of headers have the bits of the modes
pub are_marked : (volume : List ℕ) (root : Inode) (n : Names) (cs : List (List ℕ))
    → ((k : Kind) (m : ℕ) → eqb ((number_of k + mode_bit k m) / 8 % 2) 1 ≡ is_executable k m)
    → IsPlanned volume root n cs
    → AreMarked (layout volume root n cs) (tree_in (bytes_in volume root n cs) volume n) root n
unfolding layout code_of
are_marked volume root n cs bits h q x i a f =
    let r = root_at volume in
    let size = full_size_of r n in
    let b = bytes_in volume root n cs in
    let zeros = replicate {A = ℕ} (pad size 1024 - size) 0 in
    let all = all_placed volume root n in
    let e = alike_some (IsEnd b cs (IsOne b cs all)) (node_under q (tree_in b volume n))
    (file_under q (with_names root n)) x i (ends_alike volume root n cs h q) a f in
    let long = (is_image volume root n cs h).size in
    let even = e.known.0.even in
    let low : e.place < size =
    has_of (λ (y : Placed). y.place < size) all (at_place i e.place) e.known.1.1 (placed_before volume root n cs h) in
    let same = word_more b zeros e.place (omega (arith, long, even, low)) in
    ap (executable (b ++ zeros)) (ap ino_of e.is ∙ ino_at b e.place e.entries)
    ∙ ap (λ (w : ℕ). eqb (w / 8 % 2) 1) same ∙ e.known.0.bit ∙ bits i.kind i.mode

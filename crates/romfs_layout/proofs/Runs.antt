-- The bytes of each file are in one run, from a multiple of its alignment on.
use Rattle.std.proofs.Common.{◌≡◌, ◌≢◌, ℕ, ◌+◌, ◌-◌, ◌*◌, ◌/◌, ◌<◌, ◌≤◌, max, List, [], inl, inr, sym, ap, subst, ◌∙◌}
use Rattle.std.proofs.Common.{arith, ◌⊎◌}
use Rattle.std.proofs.Math.Nat.{mul_assoc}
use Rattle.std.proofs.lemmas.Bool.Decides.{eqb_tells}
use Rattle.std.specs.List.{AllByRecursion as Every}
use Rattle.record_forest.proofs.Lists.{every_join, every_left, every_right}
use Rattle.rom_tree.specs.declared.types.Kind.{Kind}
use Rattle.rom_tree.specs.declared.types.Kind.TheVariants.{Directory, Regular, Symlink, Block, Character, Socket, Fifo}
use Rattle.rom_tree.specs.Tree.{Entries, places_of, row_from}
use Rattle.rom_tree.proofs.ByKind.{body_places_is}
use Rattle.romfs_format.specs.Record.{pad16, end_of, size_of, type_of}
use Rattle.romfs_format.specs.Tree.{node_of, places_at, by_type, kind_numbers}
use Rattle.rom_fields.specs.Padding.{pad}
use Rattle.rom_fields.proofs.Padding.{pad-after}
use Rattle.manifest_tree.specs.Names.{Inode, Names, nothing, leaf, link, subdirectory}
use Rattle.manifest_tree.specs.Files.{Placed, at_place}
use Rattle.manifest_tree.specs.Placement.{IsRun}
use Rattle.manifest_tree.proofs.Runs.{no_run, run_of}
use Rattle.romfs_layout.specs.Layout.{record_len, data_align, place_of, data_of, leaf_end, header_end, ends, placed}
use Rattle.romfs_layout.specs.Layout.{headers, number_of}
use Rattle.romfs_layout.specs.Reads.{Reads}
use Rattle.romfs_layout.specs.Wells.{IsFile, IsDirectory, AreWell}
use Rattle.romfs_layout.proofs.Files.{IsAt}

-- the data of a file begin at a multiple of its data's alignment
abbrev pub IsAligned : List ℕ → Placed → Type 0
IsAligned b x = x.inode.kind ≢ Directory → (k : ℕ) × (end_of b x.place ≡ k * data_align x.inode)

back : (n l : ℕ) → l ≤ n → n - l + l ≡ n
back n l h = omega arith

data_aligned : (cs : List (List ℕ)) (from : ℕ) (name : List ℕ) (i : Inode) → IsFile cs i
    → (k : ℕ) × (data_of from name i ≡ k * data_align i)
unfolding place_of
data_aligned cs from name i h =
    let a : 0 < data_align i = rw h.aligned (let s = h.some in omega arith) in
    let f = pad16 from + record_len name in
    let n = pad-after f (data_align i) a in
    ((f + (data_align i - 1)) / data_align i, back (pad f (data_align i)) (record_len name) (omega (arith, n)))

pub files_aligned : (b : List ℕ) (cs : List (List ℕ)) (at' : ℕ → ℕ) (dir from : ℕ) (n : Names) → AreWell cs n
    → Every (Reads b cs) (headers at' dir from n) → Every (IsAligned b) (placed from n)
files_aligned b cs at' dir from nothing h r = tt
files_aligned b cs at' dir from (leaf name i after) h r =
    let d = data_aligned cs from name i h.1 in
    ((λ _. (d.0, r.0.ends ∙ d.1)), files_aligned b cs at' dir (leaf_end from name i) after h.2 r.1)
files_aligned b cs at' dir from (link name i after) h r =
    files_aligned b cs at' dir (header_end from name) after h.2 r.1
files_aligned b cs at' dir from (subdirectory name i own after) h r =
    let p = pad16 from in
    let he = header_end from name in
    let q = ends (he + 64) own in
    let mine = headers at' p (he + 64) own in
    let theirs = headers at' dir q after in (
      (λ z. absurd (z h.1.kind)),
      every_join (IsAligned b) (placed (he + 64) own) (placed q after)
          (files_aligned b cs at' p (he + 64) own h.2 (every_left (Reads b cs) mine theirs r.1.1.1))
          (files_aligned b cs at' dir q after h.3 (every_right (Reads b cs) mine theirs r.1.1.1)),
    )

-- the offsets of a file with bytes, or of one without
data_run : (i : Inode) (times k e s : ℕ) → max 16 i.align ≡ times * i.align → e ≡ k * data_align i → s ≡ i.size
    → IsRun i.align (row_from e s)
unfolding data_align
data_run i times k e s t a z = elim (eqb_tells i.size 0) [
  | inl y ↦ subst (λ (v : ℕ). IsRun i.align (row_from e v)) (sym (z ∙ y.1)) (no_run i.align)
  | inr y ↦
      let m : e ≡ k * max 16 i.align = (rw y.0 at a) in
      run_of i.align (k * times) e s (m ∙ ap (λ (v : ℕ). k * v) t ∙ sym (mul_assoc k times i.align))
]

-- what a kind has of offsets
run_by : (k : Kind) (align : ℕ) (ps : List ℕ) → (k ≢ Directory → IsRun align ps)
    → IsRun align (by_type (number_of k) [] ps ps [] [] [] [])
run_by Directory align ps h = no_run align
run_by Regular align ps h = h (λ e. absurd (let n = ap number_of e in omega (arith, n)))
run_by Symlink align ps h = h (λ e. absurd (let n = ap number_of e in omega (arith, n)))
run_by Block align ps h = no_run align
run_by Character align ps h = no_run align
run_by Socket align ps h = no_run align
run_by Fifo align ps h = no_run align

-- the node of a file has its offsets in a run
pub node_run : (b : List ℕ) (cs : List (List ℕ)) (i : Inode) (p : ℕ) (es : Entries) → IsFile cs i ⊎ IsDirectory i
    → IsAt b cs i p → IsAligned b (at_place i p) → IsRun i.align (places_of (node_of b p es))
unfolding node_of places_at
node_run b cs i p es g a d =
    let ps = row_from (end_of b p) (size_of b p) in
    let is : places_of (node_of b p es) ≡ by_type (number_of i.kind) [] ps ps [] [] [] [] =
    body_places_is kind_numbers (type_of b p) ps es ∙ ap (λ (k : ℕ). by_type k [] ps ps [] [] [] []) a.kind in
    subst (IsRun i.align) (sym is) (run_by i.kind i.align ps (λ z. elim g [
      | inl f ↦ let k = d z in data_run i f.times k.0 (end_of b p) (size_of b p) f.of_align k.1 (a.size z)
      | inr f ↦ absurd (z f.kind)
    ]))

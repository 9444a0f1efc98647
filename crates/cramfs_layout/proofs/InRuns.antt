-- The bytes of each file are in one run, from a multiple of its alignment on.
use Rattle.std.proofs.Common.{◌≡◌, ◌≢◌, ℕ, zero, suc, ◌+◌, ◌-◌, ◌*◌, ◌/◌, ◌%◌, ◌^◌, ◌<◌, ◌≤◌, List, [], ◌++◌, length}
use Rattle.std.proofs.Common.{drop, refl, sym, ap, subst, ◌∙◌, arith, length-append}
use Rattle.std.proofs.lemmas.List.{length-drop}
use Rattle.std.specs.List.{AllByRecursion as Every}
use Rattle.record_forest.proofs.Lists.{every_join, every_left, every_right}
use Rattle.rom_tree.specs.declared.types.Kind.{Kind}
use Rattle.rom_tree.specs.declared.types.Kind.TheVariants.{Directory, Regular, Symlink, Block, Character, Socket, Fifo}
use Rattle.rom_tree.specs.Tree.{Entries, places_of}
use Rattle.rom_tree.proofs.ByKind.{body_places_is}
use Rattle.cramfs_format.specs.Order.{word}
use Rattle.cramfs_format.specs.declared.order.Order.{Order}
use Rattle.cramfs_format.specs.Inode.{type_of, size_of, offset_of, block_count}
use Rattle.cramfs_format.specs.Tree.{node_of, places_at, blocks_from, by_type, kind_numbers}
use Rattle.rom_fields.specs.Parts.{HasAt}
use Rattle.manifest_tree.specs.Names.{Inode, Names, nothing, leaf, link, subdirectory, bytes_of}
use Rattle.manifest_tree.specs.Files.{Placed, at_place}
use Rattle.manifest_tree.specs.Items.{Item}
use Rattle.manifest_tree.specs.Placement.{IsRun}
use Rattle.manifest_tree.proofs.Runs.{no_run, run_of}
use Rattle.cramfs_layout.specs.Layout.{pad4, type_bits, size_by, entry_len, pointers, State, Kept, nowhere, shared}
use Rattle.cramfs_layout.specs.Layout.{fresh, kept, data_of, table_by, after_file, after_list, after_names}
use Rattle.cramfs_layout.specs.Items.{start_by, entries, below}
use Rattle.cramfs_layout.specs.Wells.{IsFile, AreWell, AllRead}
use Rattle.cramfs_layout.proofs.Filled.{FilledAt, IsFilled}
use Rattle.cramfs_layout.proofs.Sound.{pointer_at, pointer_says}
use Rattle.cramfs_layout.proofs.Values.{IsAt, one_run}
use Rattle.cramfs_layout.proofs.Paths.{placed, IsGood, a_file, a_directory}

-- the table of a file with bytes points to blocks that begin at a multiple of its alignment
abbrev pub IsAligned : Order → List ℕ → List (List ℕ) → Placed → Type 0
IsAligned o b cs x =
    x.inode.kind ≢ Directory → x.inode.size ≢ 0
    → (k : ℕ) × FilledAt o cs b (offset_of o b x.place) (k * x.inode.align) x.inode.fill

start_aligned : (k : Kept) (from : ℕ) (i : Inode) → (m : ℕ) × (start_by k from i ≡ m * i.align)
unfolding data_of
start_aligned nowhere from i = (0, omega arith)
start_aligned (shared t) from i = ((pad4 t + 4 * block_count i.size + (i.align - 1)) / i.align, refl)
start_aligned fresh from i = ((pad4 from + 4 * block_count i.size + (i.align - 1)) / i.align, refl)

pub files_aligned : (o : Order) (b : List ℕ) (cs : List (List ℕ)) (high l : ℕ) (s : State) (n : Names) → AreWell cs n
    → AllRead o b cs high l s n → Every (IsFilled o cs b) (entries o l s n) → Every (IsFilled o cs b) (below o s n)
    → Every (IsAligned o b cs) (placed l s n)
files_aligned o b cs high l s nothing h r e u = tt
files_aligned o b cs high l s (leaf name i rest) h r e u =
    let k = kept s.tables i in
    let m = start_aligned k s.at i in (
      (λ _ z.
          let f = (e.0 z).1 in
          let g = subst (λ (d : ℕ). FilledAt o cs b (table_by k s.at) d i.fill) m.1 f in
          (m.0, subst (λ (t : ℕ). FilledAt o cs b t (m.0 * i.align) i.fill) (sym r.0.offset_is) g)),
      files_aligned o b cs high (l + entry_len name) (after_file s i) rest h.2 r.2 e.1 u,
    )
files_aligned o b cs high l s (link name i rest) h r e u = absurd h
files_aligned o b cs high l s (subdirectory name i own rest) h r e u =
    let s1 = after_list s own in
    let s2 = after_names s1 own in
    let F : Item → Type 0 = IsFilled o cs b in
    let own_items = entries o (pad4 s.at) s1 own in
    let under = below o s1 own in
    let later = below o s2 rest in
    let both = every_right F own_items (under ++ later) u in (
      (λ z. absurd (z h.1.kind)),
      every_join (IsAligned o b cs) (placed (pad4 s.at) s1 own) (placed (l + entry_len name) s2 rest)
          (files_aligned o b cs high (pad4 s.at) s1 own h.2 r.1 (every_left F own_items (under ++ later) u)
          (every_left F under later both))
          (files_aligned o b cs high (l + entry_len name) s2 rest h.3 r.2 e.1 (every_right F under later both)),
    )

-- what is in the bytes ends in them
ends_within : (b : List ℕ) (p : ℕ) (bytes : List ℕ) → HasAt b p bytes → 0 < length bytes → p + length bytes ≤ length b
ends_within b p bytes (back, e) h =
    let l : length (drop p b) ≡ length (bytes ++ back) = ap length e in
    omega (arith, l, length-drop p b, length-append bytes back, h)

fours : (k m a : ℕ) → a ≡ 4 * m → (k * a) % 4 ≡ 0
fours k m a e = ap (λ (v : ℕ). (k * v) % 4) e ∙ times4 k m
  where
    times4 : (x m : ℕ) → (x * (4 * m)) % 4 ≡ 0
    times4 x m = omega arith

-- the offsets of a file's bytes
file_run : (o : Order) (b : List ℕ) (cs : List (List ℕ)) (i : Inode) (t size : ℕ) → length b ≤ 2 ^ 28 → IsFile cs i
    → size ≡ i.size → (size ≢ 0 → (k : ℕ) × FilledAt o cs b t (k * i.align) i.fill)
    → IsRun i.align (blocks_from o b (block_count size) t size)
file_run o b cs i t zero top h e f =
    subst (IsRun i.align) (sym (one_run o b 0 t 0 0 (omega arith) (λ j m. absurd (omega arith)))) (no_run i.align)
file_run o b cs i t (suc n) top h e f =
    let size = suc n in
    let k = f (λ z. absurd (omega (arith, z))) in
    let d = k.0 * i.align in
    let bytes = bytes_of cs i.fill in
    let long : length bytes ≡ size = h.bytes ∙ sym e in
    let table = subst (λ (v : ℕ). HasAt b t (pointers o d (block_count v))) long k.1.0 in
    let within = ends_within b d bytes k.1.1 (omega (arith, long)) in
    let even : d % 4 ≡ 0 = fours k.0 h.fours i.align h.aligned in
    let c = block_count size in
    let run = one_run o b c t d size (omega arith)
    (λ j m. (pointer_says (word o b (t + 4 * j)) (d + 4096 * j)
    (pointer_at o b t d c j (omega (arith, within, long, top)) m table) (omega (arith, within, long, top, m))
    (omega (arith, even))).1) in
    subst (IsRun i.align) (sym run) (run_of i.align k.0 d size refl)

run_by : (k : Kind) (i : Inode) (ps : List ℕ) → (k ≢ Directory → size_by k i ≡ i.size → IsRun i.align ps)
    → IsRun i.align (by_type (type_bits k) [] ps ps [] [] [] [])
run_by Directory i ps h = no_run i.align
run_by Regular i ps h = h (λ e. absurd (let n = ap type_bits e in omega (arith, n))) refl
run_by Symlink i ps h = h (λ e. absurd (let n = ap type_bits e in omega (arith, n))) refl
run_by Block i ps h = no_run i.align
run_by Character i ps h = no_run i.align
run_by Socket i ps h = no_run i.align
run_by Fifo i ps h = no_run i.align

-- the node of a file has its offsets in a run
pub node_run : (o : Order) (b : List ℕ) (cs : List (List ℕ)) (high : ℕ) (i : Inode) (p : ℕ) (es : Entries)
    → length b ≤ 2 ^ 28 → IsGood cs i → IsAt o b cs high i p → IsAligned o b cs (at_place i p)
    → IsRun i.align (places_of (node_of o b p es))
unfolding node_of places_at
node_run o b cs high i p es top g a d =
    let ps = blocks_from o b (block_count (size_of o b p)) (offset_of o b p) (size_of o b p) in
    let is : places_of (node_of o b p es) ≡ by_type (type_bits i.kind) [] ps ps [] [] [] [] =
    body_places_is kind_numbers (type_of o b p) ps es ∙ ap (λ (k : ℕ). by_type k [] ps ps [] [] [] []) a.type in
    subst (IsRun i.align) (sym is) (run_by i.kind i ps (λ z s. by g z (a.size_is z ∙ s)))
  where
    by : IsGood cs i → i.kind ≢ Directory → size_of o b p ≡ i.size
        → IsRun i.align (blocks_from o b (block_count (size_of o b p)) (offset_of o b p) (size_of o b p))
    by (a_file f) z s = file_run o b cs i (offset_of o b p) (size_of o b p) top f s (λ n. d z (λ e. n (s ∙ e)))
    by (a_directory f) z s = absurd (z f.kind)

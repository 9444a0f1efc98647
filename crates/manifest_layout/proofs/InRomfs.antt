-- What the lines of a manifest make can be written in romfs.
use Rattle.std.proofs.Common.{◌≡◌, ℕ, ◌*◌, ◌<◌, ◌==◌, max, if◌then◌else◌, true, false, inl, inr, List, length, reverse}
use Rattle.std.proofs.Common.{map, get_or, Option, Some, None, refl, sym, ap, ◌∙◌, arith}
use Rattle.std.specs.List.{AllByRecursion as Every}
use Rattle.record_forest.proofs.Lists.{has_of}
use Rattle.rom_tree.specs.declared.types.Kind.TheVariants as kind
use Rattle.manifest.specs.declared.line.Line.{Line}
use Rattle.manifest.specs.declared.line.Word.{Word}
use Rattle.manifest.specs.declared.line.Word.TheVariants.{Dir, File, Slink, Block, Character, Fifo, Socket, Hard, Same}
use Rattle.manifest.specs.Grammar.{is_bad_text}
use Rattle.manifest.specs.Lines.{is_dir, is_file, is_hard, filed}
use Rattle.manifest_tree.specs.Names.{no_bytes, text, source, Inode, bytes_of}
use Rattle.manifest_tree.specs.Tree.{plain, with_contents, inode_by, inode_of, sources_before, bare_root}
use Rattle.romfs_layout.specs.Layout.{data_align, number_of, runnable}
use Rattle.romfs_format.specs.Tree.{mode_named}
use Rattle.romfs_layout.specs.Wells.{HasMode, FitsKind, IsFile, IsDirectory}
use Rattle.formats.specs.Format.{romfs}
use Rattle.manifest_layout.specs.Misfit.{HasBadAttribute}
use Rattle.manifest_layout.proofs.Written.{IsLine, is_device, is_slink}
use Rattle.manifest_layout.proofs.Led.{IsFaultless, filed_member}
use Rattle.manifest_layout.proofs.Plain.{good_text}
use Rattle.manifest_layout.proofs.Aligned.{IsAligned, four_aligned, size_is, equal_by, below_by}

-- attributes that romfs can say
record IsSayable (i : Inode) : Type 0 where
  mode : HasMode i
  owner : (i.uid ≡ 0) × (i.gid ≡ 0)
  major : i.major < 65536
  minor : i.minor < 65536

sayable : (i : Inode) → (HasBadAttribute romfs i → ⊥) → IsSayable i
sayable i h =
    let a = below_by 65535 i.major (λ l. h (inr (inr (inr (inl l))))) in
    let b = below_by 65535 i.minor (λ l. h (inr (inr (inr (inr l))))) in
    record {
      mode = equal_by (mode_named (number_of i.kind) (i.mode == runnable)) i.mode (λ n. h (inr (inr (inl n))));
      owner = (equal_by i.uid 0 (λ n. h (inl n)), equal_by i.gid 0 (λ n. h (inr (inl n))));
      major = omega arith;
      minor = omega arith;
    }

data_aligned : (i : Inode) → IsAligned i.align → (k : ℕ) × (0 < k) × (data_align i ≡ 16 * k)
unfolding data_align
data_aligned i h = elim (i.size == 0) as (λ t. (k : ℕ) × (0 < k) × ((if t then 16 else max 16 i.align) ≡ 16 * k))
    [ true ↦ (1, omega arith, refl) | false ↦ (h.sixteens, h.some, h.of_sixteen) ]

file_is : (cs : List (List ℕ)) (i : Inode) → IsSayable i → FitsKind i.kind i → length (bytes_of cs i.fill) ≡ i.size
    → IsAligned i.align → IsFile cs i
file_is cs i s k e a =
    let d = data_aligned i a in
    record {
      kind = k;
      mode = s.mode;
      owner = s.owner;
      bytes = e;
      sixteens = d.0;
      some = d.1;
      aligned = d.2;
      times = a.times;
      of_align = a.of_times;
    }

-- each alignment of a `file` line is one
abbrev pub AreAligned : List Line → Type 0
AreAligned ls = Every (λ k. is_file k.word ≡ true → IsAligned k.align) ls

contents_are : (cs : List (List ℕ)) (all : List Line) (l : Line) (o : Option Line) → AreAligned (reverse all)
    → filed (reverse all) l.path ≡ o → (l.major ≡ 0) × (l.minor ≡ 0)
    → (HasBadAttribute romfs (with_contents all (map length cs) l o) → ⊥)
    → IsFile cs (with_contents all (map length cs) l o)
contents_are cs all l None a e z h =
    file_is cs (plain l kind.Regular 4 0 no_bytes) (sayable (plain l kind.Regular 4 0 no_bytes) h) z refl four_aligned
contents_are cs all l (Some x) a e z h =
    let k = sources_before x.number all in
    let i = plain l kind.Regular x.align (get_or (map length cs) k 0) (source k) in
    let m = filed_member (reverse all) l.path x e in
    file_is cs i (sayable i h) z (size_is cs k)
    (has_of (λ (y : Line). is_file y.word ≡ true → IsAligned y.align) (reverse all) x m.0 a m.1)

made_by : (cs : List (List ℕ)) (all : List Line) (l : Line) (w : Word) → l.word ≡ w → is_hard w ≡ false
    → is_dir w ≡ false → AreAligned (reverse all) → IsLine l → IsFaultless l
    → (HasBadAttribute romfs (inode_by all (map length cs) w l) → ⊥) → IsFile cs (inode_by all (map length cs) w l)
made_by cs all l Dir e h d a i f b = absurd (cc)
made_by cs all l Hard e h d a i f b = absurd (cc)
made_by cs all l File e h d a i f b =
    contents_are cs all l (filed (reverse all) l.path) a refl (i.numbers (ap is_device e)) b
made_by cs all l Same e h d a i f b =
    contents_are cs all l (filed (reverse all) l.path) a refl (i.numbers (ap is_device e)) b
made_by cs all l Slink e h d a i f b =
    let n = plain l kind.Symlink 4 (length l.text) (text l.text) in
    let z = i.numbers (ap is_device e) in
    let t = good_text 4095 l.text (ap (λ (w : Word). is_bad_text w l.text) (sym e) ∙ f.text) in
    let p = i.text (ap is_slink e) in
    file_is cs n (sayable n b) (z.0, z.1, omega (arith, p), t.0) refl four_aligned
made_by cs all l Block e h d a i f b = let n = plain l kind.Block 4 0 no_bytes in let s =
    sayable n b in file_is cs n s (s.major, s.minor, refl) refl four_aligned
made_by cs all l Character e h d a i f b =
    let n = plain l kind.Character 4 0 no_bytes in let s =
    sayable n b in file_is cs n s (s.major, s.minor, refl) refl four_aligned
made_by cs all l Fifo e h d a i f b = let n = plain l kind.Fifo 4 0 no_bytes in let z =
    i.numbers (ap is_device e) in file_is cs n (sayable n b) (z.0, z.1, refl) refl four_aligned
made_by cs all l Socket e h d a i f b = let n = plain l kind.Socket 4 0 no_bytes in let z =
    i.numbers (ap is_device e) in file_is cs n (sayable n b) (z.0, z.1, refl) refl four_aligned

pub file_made : (cs : List (List ℕ)) (all : List Line) (l : Line) → is_hard l.word ≡ false → is_dir l.word ≡ false
    → AreAligned (reverse all) → IsLine l → IsFaultless l
    → (HasBadAttribute romfs (inode_of all (map length cs) l) → ⊥) → IsFile cs (inode_of all (map length cs) l)
unfolding inode_of
file_made cs all l h d a i f b = made_by cs all l l.word refl h d a i f b

directory_by : (all : List Line) (sizes : List ℕ) (l : Line) (w : Word) → l.word ≡ w → is_dir w ≡ true → IsLine l
    → (HasBadAttribute romfs (inode_by all sizes w l) → ⊥) → IsDirectory (inode_by all sizes w l)
directory_by all sizes l Dir e d i b =
    let n = plain l kind.Directory 4 0 no_bytes in
    let s = sayable n b in
    record { kind = refl; mode = s.mode; owner = s.owner; numbers = i.numbers (ap is_device e); bytes = refl }
directory_by all sizes l File e d i b = absurd (cc)
directory_by all sizes l Slink e d i b = absurd (cc)
directory_by all sizes l Block e d i b = absurd (cc)
directory_by all sizes l Character e d i b = absurd (cc)
directory_by all sizes l Fifo e d i b = absurd (cc)
directory_by all sizes l Socket e d i b = absurd (cc)
directory_by all sizes l Hard e d i b = absurd (cc)
directory_by all sizes l Same e d i b = absurd (cc)

pub directory_made : (all : List Line) (sizes : List ℕ) (l : Line) → is_dir l.word ≡ true → IsLine l
    → (HasBadAttribute romfs (inode_of all sizes l) → ⊥) → IsDirectory (inode_of all sizes l)
unfolding inode_of
directory_made all sizes l d i b = directory_by all sizes l l.word refl d i b

pub bare_made : IsDirectory bare_root
bare_made = record { kind = refl; mode = refl; owner = (refl, refl); numbers = (refl, refl); bytes = refl }

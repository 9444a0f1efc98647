-- What the lines of a manifest make can be written in cramfs.
use Rattle.std.proofs.Common.{◌≡◌, ℕ, ◌^◌, ◌<◌, ◌≤◌, true, false, inl, inr, List, length, reverse, map, get_or, Option}
use Rattle.std.proofs.Common.{Some, None, refl, sym, ap, ◌∙◌, arith}
use Rattle.std.specs.List.{AllByRecursion as Every}
use Rattle.record_forest.proofs.Lists.{has_of}
use Rattle.rom_tree.specs.declared.types.Kind.TheVariants as kind
use Rattle.manifest.specs.declared.line.Line.{Line}
use Rattle.manifest.specs.declared.line.Word.{Word}
use Rattle.manifest.specs.declared.line.Word.TheVariants.{Dir, File, Slink, Block, Character, Fifo, Socket, Hard, Same}
use Rattle.manifest.specs.Grammar.{is_bad_text}
use Rattle.manifest.specs.Lines.{is_dir, is_file, is_hard, filed}
use Rattle.manifest_tree.specs.Names.{no_bytes, text, source, Inode, Names, bytes_of}
use Rattle.manifest_tree.specs.Tree.{plain, with_contents, inode_by, inode_of, sources_before, bare_root}
use Rattle.cramfs_format.specs.declared.order.Order.{Order}
use Rattle.cramfs_layout.specs.Layout.{list_len}
use Rattle.cramfs_layout.specs.Wells.{FitsKind, IsFile, IsDirectory}
use Rattle.formats.specs.Format.{cramfs}
use Rattle.manifest_layout.specs.Misfit.{HasBadAttribute}
use Rattle.manifest_layout.proofs.Written.{IsLine, is_device, is_slink}
use Rattle.manifest_layout.proofs.Led.{IsFaultless, filed_member}
use Rattle.manifest_layout.proofs.Plain.{good_text}
use Rattle.manifest_layout.proofs.Aligned.{IsAligned, four_aligned, size_is, below_by, under_by}

-- attributes that cramfs can say
record IsSayable (i : Inode) : Type 0 where
  owner : (i.uid < 2 ^ 16) × (i.gid < 2 ^ 8)
  major : i.major < 256
  minor : i.minor < 256

sayable : (o : Order) (i : Inode) → (HasBadAttribute (cramfs o) i → ⊥) → IsSayable i
sayable o i h =
    let u = below_by 65535 i.uid (λ l. h (inl l)) in
    let g = below_by 255 i.gid (λ l. h (inr (inl l))) in
    let a = below_by 255 i.major (λ l. h (inr (inr (inl l)))) in
    let b = below_by 255 i.minor (λ l. h (inr (inr (inr l)))) in
    record { owner = (omega arith, omega arith); major = omega arith; minor = omega arith }

file_is : (cs : List (List ℕ)) (i : Inode) → IsSayable i → i.mode < 4096 → (2 ^ 24 ≤ i.size → ⊥) → FitsKind i.kind i
    → length (bytes_of cs i.fill) ≡ i.size → IsAligned i.align → IsFile cs i
file_is cs i s m t k e a = record {
  kind = k;
  mode = m;
  owner = s.owner;
  bytes = e;
  small = under_by (2 ^ 24) i.size t;
  fours = a.fours;
  some = a.some_fours;
  aligned = a.of_four;
}

-- each alignment of a `file` line is one
abbrev pub AreAligned : List Line → Type 0
AreAligned ls = Every (λ k. is_file k.word ≡ true → IsAligned k.align) ls

module _ (o : Order) where
  contents_are : (cs : List (List ℕ)) (all : List Line) (l : Line) (x : Option Line) → AreAligned (reverse all)
      → filed (reverse all) l.path ≡ x → (l.major ≡ 0) × (l.minor ≡ 0) → l.mode < 4096
      → (HasBadAttribute (cramfs o) (with_contents all (map length cs) l x) → ⊥)
      → (2 ^ 24 ≤ (with_contents all (map length cs) l x).size → ⊥)
      → IsFile cs (with_contents all (map length cs) l x)
  contents_are cs all l None a e z m h t =
      file_is cs (plain l kind.Regular 4 0 no_bytes)
      (sayable o (plain l kind.Regular 4 0 no_bytes) h) m t z refl four_aligned
  contents_are cs all l (Some x) a e z m h t =
      let k = sources_before x.number all in
      let i = plain l kind.Regular x.align (get_or (map length cs) k 0) (source k) in
      let f = filed_member (reverse all) l.path x e in
      file_is cs i (sayable o i h) m t z (size_is cs k)
      (has_of (λ (y : Line). is_file y.word ≡ true → IsAligned y.align) (reverse all) x f.0 a f.1)

  made_by : (cs : List (List ℕ)) (all : List Line) (l : Line) (w : Word) → l.word ≡ w → is_hard w ≡ false
      → is_dir w ≡ false → AreAligned (reverse all) → IsLine l → IsFaultless l
      → (HasBadAttribute (cramfs o) (inode_by all (map length cs) w l) → ⊥)
      → (2 ^ 24 ≤ (inode_by all (map length cs) w l).size → ⊥) → IsFile cs (inode_by all (map length cs) w l)
  made_by cs all l Dir e h d a i f b t = absurd (cc)
  made_by cs all l Hard e h d a i f b t = absurd (cc)
  made_by cs all l File e h d a i f b t =
      contents_are cs all l (filed (reverse all) l.path) a refl (i.numbers (ap is_device e)) i.mode b t
  made_by cs all l Same e h d a i f b t =
      contents_are cs all l (filed (reverse all) l.path) a refl (i.numbers (ap is_device e)) i.mode b t
  made_by cs all l Slink e h d a i f b t =
      let n = plain l kind.Symlink 4 (length l.text) (text l.text) in
      let z = i.numbers (ap is_device e) in
      let g = good_text 4095 l.text (ap (λ (w : Word). is_bad_text w l.text) (sym e) ∙ f.text) in
      let p = i.text (ap is_slink e) in
      file_is cs n (sayable o n b) i.mode t (z.0, z.1, omega (arith, p), g.0) refl four_aligned
  made_by cs all l Block e h d a i f b t =
      let n = plain l kind.Block 4 0 no_bytes in let s =
      sayable o n b in file_is cs n s i.mode t (s.major, s.minor, refl) refl four_aligned
  made_by cs all l Character e h d a i f b t =
      let n = plain l kind.Character 4 0 no_bytes in let s =
      sayable o n b in file_is cs n s i.mode t (s.major, s.minor, refl) refl four_aligned
  made_by cs all l Fifo e h d a i f b t = let n = plain l kind.Fifo 4 0 no_bytes in let z =
      i.numbers (ap is_device e) in file_is cs n (sayable o n b) i.mode t (z.0, z.1, refl) refl four_aligned
  made_by cs all l Socket e h d a i f b t =
      let n = plain l kind.Socket 4 0 no_bytes in let z =
      i.numbers (ap is_device e) in file_is cs n (sayable o n b) i.mode t (z.0, z.1, refl) refl four_aligned

  pub file_made : (cs : List (List ℕ)) (all : List Line) (l : Line) → is_hard l.word ≡ false → is_dir l.word ≡ false
      → AreAligned (reverse all) → IsLine l → IsFaultless l
      → (HasBadAttribute (cramfs o) (inode_of all (map length cs) l) → ⊥)
      → (2 ^ 24 ≤ (inode_of all (map length cs) l).size → ⊥) → IsFile cs (inode_of all (map length cs) l)
  unfolding inode_of
  file_made cs all l h d a i f b t = made_by cs all l l.word refl h d a i f b t

  directory_by : (all : List Line) (sizes : List ℕ) (l : Line) (own : Names) (w : Word) → l.word ≡ w → is_dir w ≡ true
      → IsLine l → (HasBadAttribute (cramfs o) (inode_by all sizes w l) → ⊥) → list_len own < 2 ^ 24
      → IsDirectory (inode_by all sizes w l) own
  directory_by all sizes l own Dir e d i b t =
      let n = plain l kind.Directory 4 0 no_bytes in
      let s = sayable o n b in
      record {
        kind = refl;
        mode = i.mode;
        owner = s.owner;
        numbers = i.numbers (ap is_device e);
        bytes = refl;
        small = t;
      }
  directory_by all sizes l own File e d i b t = absurd (cc)
  directory_by all sizes l own Slink e d i b t = absurd (cc)
  directory_by all sizes l own Block e d i b t = absurd (cc)
  directory_by all sizes l own Character e d i b t = absurd (cc)
  directory_by all sizes l own Fifo e d i b t = absurd (cc)
  directory_by all sizes l own Socket e d i b t = absurd (cc)
  directory_by all sizes l own Hard e d i b t = absurd (cc)
  directory_by all sizes l own Same e d i b t = absurd (cc)

  pub directory_made : (all : List Line) (sizes : List ℕ) (l : Line) (own : Names) → is_dir l.word ≡ true → IsLine l
      → (HasBadAttribute (cramfs o) (inode_of all sizes l) → ⊥) → list_len own < 2 ^ 24
      → IsDirectory (inode_of all sizes l) own
  unfolding inode_of
  directory_made all sizes l own d i b t = directory_by all sizes l own l.word refl d i b t

pub bare_made : (own : Names) → list_len own < 2 ^ 24 → IsDirectory bare_root own
bare_made own t = record {
  kind = refl;
  mode = omega arith;
  owner = (omega arith, omega arith);
  numbers = (refl, refl);
  bytes = refl;
  small = t;
}

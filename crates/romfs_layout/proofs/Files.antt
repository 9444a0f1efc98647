-- Each file of a layout is what is at its offset.
use Rattle.std.proofs.Common.{◌≡◌, ◌≢◌, ℕ, ◌+◌, ◌/◌, ◌%◌, true, false, eqb, if◌then◌else◌, List, [], ◌∷◌, ◌++◌, map}
use Rattle.std.proofs.Common.{refl, sym, ap, subst, ◌∙◌, arith, Some}
use Rattle.std.proofs.lemmas.List.{map-append}
use Rattle.std.specs.List.{AllByRecursion as Every}
use Rattle.rom_fields.specs.Words.{word_be}
use Rattle.rom_tree.specs.declared.types.Kind.{Kind}
use Rattle.rom_tree.specs.declared.types.Kind.TheVariants.{Directory, Regular, Symlink, Block, Character, Socket, Fifo}
use Rattle.record_forest.specs.declared.reference.Row.{Row}
use Rattle.record_forest.proofs.Lists.{every_join, every_left, every_right}
use Rattle.romfs_format.specs.Record.{pad16, type_of, size_of, end_of}
use Rattle.romfs_format.specs.Tree.{executable, mode_named}
use Rattle.rom_fields.specs.Parts.{HasAt}
use Rattle.manifest_tree.specs.Names.{Inode, Names, nothing, leaf, link, subdirectory, bytes_of}
use Rattle.romfs_layout.specs.Layout.{Header, placed, place_with, number_of, mode_bit, runnable, code_of, device_of}
use Rattle.romfs_layout.specs.Layout.{place_of, leaf_end, header_end, ends, first_place, headers}
use Rattle.manifest_tree.specs.Files.{Placed}
use Rattle.romfs_layout.specs.Reads.{Reads}
use Rattle.romfs_layout.specs.Wells.{FitsKind, IsFile, HasMode, AreWell, file_of, AreLinks}
use Rattle.manifest_tree.specs.Files.{files}
use Rattle.romfs_layout.proofs.Places.{place_even, first_even}
use Rattle.romfs_layout.proofs.Headers.{code_is}
use Rattle.romfs_layout.proofs.Stands.{says, number_is}
use Rattle.romfs_layout.proofs.Leads.{IsListed, AreLed}

-- the record at p is that of the file i
pub record IsAt (b : List ℕ) (cs : List (List ℕ)) (i : Inode) (p : ℕ) : Type 0 where
  pub even : p % 16 ≡ 0
  pub kind : type_of b p ≡ number_of i.kind
  pub mode : mode_named (number_of i.kind) (executable b p) ≡ i.mode
  pub bit : executable b p ≡ eqb (code_of i / 8 % 2) 1
  pub size : i.kind ≢ Directory → size_of b p ≡ i.size
  pub numbers : i.kind ≢ Directory → word_be b (p + 4) ≡ device_of i
  pub content : i.kind ≢ Directory → HasAt b (end_of b p) (bytes_of cs i.fill)

mode_by : (k : Kind) (m q word : ℕ) → word ≡ q + (number_of k + mode_bit k m) → q % 16 ≡ 0
    → mode_named (number_of k) (eqb (word / 8 % 2) 1) ≡ mode_named (number_of k) (eqb m runnable)
mode_by Directory m q word e even = elim (eqb m runnable) as
    (λ t. word ≡ q + (1 + (if t then 8 else 0)) → mode_named 1 (eqb (word / 8 % 2) 1) ≡ mode_named 1 t) [
      | true ↦ λ w. let x : word / 8 % 2 ≡ 1 = omega (arith, w, even) in rw x refl
      | false ↦ λ w. let x : word / 8 % 2 ≡ 0 = omega (arith, w, even) in rw x refl
    ] e
mode_by Regular m q word e even = elim (eqb m runnable) as
    (λ t. word ≡ q + (2 + (if t then 8 else 0)) → mode_named 2 (eqb (word / 8 % 2) 1) ≡ mode_named 2 t) [
      | true ↦ λ w. let x : word / 8 % 2 ≡ 1 = omega (arith, w, even) in rw x refl
      | false ↦ λ w. let x : word / 8 % 2 ≡ 0 = omega (arith, w, even) in rw x refl
    ] e
mode_by Symlink m q word e even = refl
mode_by Block m q word e even = refl
mode_by Character m q word e even = refl
mode_by Socket m q word e even = refl
mode_by Fifo m q word e even = refl

pub mode_is : (b : List ℕ) (i : Inode) (p q : ℕ) → HasMode i → word_be b p ≡ q + code_of i → q % 16 ≡ 0
    → mode_named (number_of i.kind) (executable b p) ≡ i.mode
unfolding code_of
mode_is b i p q h e even = mode_by i.kind i.mode q (word_be b p) e even ∙ h

pub bit_is : (b : List ℕ) (i : Inode) (p q : ℕ) → word_be b p ≡ q + code_of i → q % 16 ≡ 0
    → executable b p ≡ eqb (code_of i / 8 % 2) 1
bit_is b i p q e even =
    let x : word_be b p / 8 % 2 ≡ code_of i / 8 % 2 = omega (arith, e, even) in ap (λ (w : ℕ). eqb w 1) x

not_directory : (k : Kind) (i : Inode) → FitsKind k i → k ≢ Directory
not_directory Directory i h = absurd h
not_directory Regular i h = λ e. absurd (let n = ap number_of e in omega (arith, n))
not_directory Symlink i h = λ e. absurd (let n = ap number_of e in omega (arith, n))
not_directory Block i h = λ e. absurd (let n = ap number_of e in omega (arith, n))
not_directory Character i h = λ e. absurd (let n = ap number_of e in omega (arith, n))
not_directory Socket i h = λ e. absurd (let n = ap number_of e in omega (arith, n))
not_directory Fifo i h = λ e. absurd (let n = ap number_of e in omega (arith, n))

pub file_kind : (cs : List (List ℕ)) (i : Inode) → IsFile cs i → i.kind ≢ Directory
file_kind cs i h = not_directory i.kind i h.kind

-- a file, and what also holds for its offset
abbrev pub AtPlace : List ℕ → List (List ℕ) → (ℕ → Type 0) → Placed → Type 0
AtPlace b cs Q x = IsAt b cs x.inode x.place × Q x.place

pub files_at : (b : List ℕ) (cs : List (List ℕ)) (Q : ℕ → Type 0) (at' : ℕ → ℕ) (dir from : ℕ) (n : Names)
    → AreWell cs n → Every (Reads b cs) (headers at' dir from n)
    → Every (λ (i : Header). Q i.place) (headers at' dir from n)
    → Every (AtPlace b cs Q) (placed from n)
files_at b cs Q at' dir from nothing h reads k = tt
files_at b cs Q at' dir from (leaf name i after) h reads k =
    let p = place_of from name i in
    let q = leaf_end from name i in
    let c = code_is i in
    let even = first_even cs q after h.2 in
    let s = says b p (first_place q after) (code_of i) reads.0.word even c.small in (
      (
        record {
          even = place_even cs from name i h.1;
          kind = s.kind ∙ c.kind;
          mode = mode_is b i p (first_place q after) h.1.mode reads.0.word even;
          bit = bit_is b i p (first_place q after) reads.0.word even;
          size = λ _. reads.0.size;
          numbers = λ _. reads.0.spec;
          content = λ _. subst (λ (x : ℕ). HasAt b x (bytes_of cs i.fill)) (sym reads.0.ends) reads.0.content;
        },
        k.0,
      ),
      files_at b cs Q at' dir q after h.2 reads.1 k.1,
    )
files_at b cs Q at' dir from (link name i after) h reads k =
    files_at b cs Q at' dir (header_end from name) after h.2 reads.1 k.1
files_at b cs Q at' dir from (subdirectory name i own after) h reads k =
    let p = pad16 from in
    let he = header_end from name in
    let q = ends (he + 64) own in
    let c = code_is i in
    let mine = headers at' p (he + 64) own in
    let theirs = headers at' dir q after in
    let even = first_even cs q after h.3 in
    let s = says b p (first_place q after) (code_of i) reads.0.word even c.small in (
      (
        record {
          even = omega arith;
          kind = s.kind ∙ c.kind;
          mode = mode_is b i p (first_place q after) h.1.mode reads.0.word even;
          bit = bit_is b i p (first_place q after) reads.0.word even;
          size = λ z. absurd (z h.1.kind);
          numbers = λ z. absurd (z h.1.kind);
          content = λ z. absurd (z h.1.kind);
        },
        k.0,
      ),
      every_join (AtPlace b cs Q) (placed (he + 64) own) (placed q after)
          (files_at b cs Q at' p (he + 64) own h.2 (every_left (Reads b cs) mine theirs reads.1.1.1)
          (every_left (λ (j : Header). Q j.place) mine theirs k.1.1.1))
          (files_at b cs Q at' dir q after h.3 (every_right (Reads b cs) mine theirs reads.1.1.1)
          (every_right (λ (j : Header). Q j.place) mine theirs k.1.1.1)),
    )

pub placed_files : (from : ℕ) (n : Names) → map (λ (x : Placed). x.inode) (placed from n) ≡ files n
placed_files from nothing = refl
placed_files from (leaf name i after) = ap (λ (is : List Inode). i ∷ is) (placed_files (leaf_end from name i) after)
placed_files from (link name i after) = placed_files (header_end from name) after
placed_files from (subdirectory name i own after) =
    let he = header_end from name in
    let q = ends (he + 64) own in
    ap (λ (is : List Inode). i ∷ is) (map-append (λ (x : Placed). x.inode) (placed (he + 64) own) (placed q after)
    ∙ ap (λ (is : List Inode). is ++ map (λ (x : Placed). x.inode) (placed q after)) (placed_files (he + 64) own)
    ∙ ap (λ (is : List Inode). files own ++ is) (placed_files q after))

-- the offset of a line's file is that of the line
pub with_line : (P : Placed → Type 0) (xs : List Placed) (line : ℕ) (i : Inode) → Every P xs
    → file_of (map (λ (x : Placed). x.inode) xs) line ≡ Some i → P (record { inode = i; place = place_with xs line })
with_line P [] line i h e = absurd (cc)
with_line P (x ∷ xs) line i h e =
    elim (eqb x.inode.line line) as (λ t. (if t then Some x.inode else file_of (map (λ (y : Placed). y.inode) xs) line)
    ≡ Some i → P (record { inode = i; place = if t then x.place else place_with xs line })) [
      | true ↦ λ z. let same : x.inode ≡ i =
          cc in subst (λ (j : Inode). P (record { inode = j; place = x.place })) same h.0
      | false ↦ λ z. with_line P xs line i h.1 z
    ] e

pub led_by : (b : List ℕ) (cs : List (List ℕ)) (all : List Row) (xs : List Placed) (n : Names) → AreWell cs n
    → AreLinks (map (λ (x : Placed). x.inode) xs) n → Every (AtPlace b cs (IsListed all)) xs
    → AreLed b all (place_with xs) n
led_by b cs all xs nothing h l a = tt
led_by b cs all xs (leaf name i after) h l a = led_by b cs all xs after h.2 l a
led_by b cs all xs (link name i after) h l a =
    let k = with_line (AtPlace b cs (IsListed all)) xs i.line i a l.0 in (
      record { even = k.0.even; listed = k.1; live = λ z. (number_is cs i h.1).1 (sym k.0.kind ∙ z) },
      λ z. (number_is cs i h.1).0 (sym k.0.kind ∙ z),
      led_by b cs all xs after h.2 l.1 a,
    )
led_by b cs all xs (subdirectory name i own after) h l a =
    (led_by b cs all xs own h.2 l.0 a, led_by b cs all xs after h.3 l.1 a)

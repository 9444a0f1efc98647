-- The grammar accepts the lines of an image that a manifest describes whole.
use Rattle.std.proofs.Common.{◌≡◌, ℕ, zero, suc, ◌+◌, ◌<◌, Bool, true, false, ◌||◌, ◌&&◌, not, nat_lt, cond, List, []}
use Rattle.std.proofs.Common.{◌∷◌, ◌++◌, length, map, get_or, Option, None, Some, refl, sym, ap, subst, ◌∙◌}
use Rattle.std.proofs.Common.{append_assoc, append-nil, arith}
use Rattle.std.specs.Prelude.{◌==◌, ◌^◌, if◌then◌else◌}
use Rattle.std.proofs.lemmas.Bool.{eqb-true, le-ltb, ltb-true}
use Rattle.std.proofs.lemmas.List.{length-map}
use Rattle.std.proofs.lemmas.List.Elements.{All-append, All-cons}
use Rattle.std.specs.Cmp.Lexicographic.{bytes_decides}
use Rattle.std.specs.List.{All, list_any}
use Rattle.std.specs.Option.{is_some}
use Rattle.std.specs.Str.{bytes_eq}
use Rattle.manifest.specs.declared.line.Line.{Line}
use Rattle.manifest.specs.Grammar.{fault_of, has_parent, has_target, is_align, is_bad_text, is_dir_line, is_target}
use Rattle.manifest.specs.Lines.{is_dir, is_file, led, line_at}
use Rattle.manifest.specs.Paths.{is_bad_path, names_of, parent_of}
use Rattle.manifest.specs.Texts.{is_empty}
use Rattle.manifest.specs.Printed.{AreTaken, HasOnly, IsSpelled, numbered}
use Rattle.rom_tree.specs.declared.types.Kind.{Kind}
use Rattle.rom_tree.specs.declared.types.Kind.TheVariants.{Directory, Regular, Symlink, Block, Character, Socket, Fifo}
use Rattle.rom_tree.specs.Image.{Image, contents_of}
use Rattle.rom_tree.specs.Names.{Name, names}
use Rattle.rom_tree.specs.Tree.{Node, node, directory, regular, symlink, block, character, socket, fifo, IsIn}
use Rattle.rom_tree.specs.Tree.{attributes_of, ino_of, is_directory, is_link, kind_of, nodes, places_of}
use Rattle.rom_tree.specs.Runs.{front_of}
use Rattle.elf_format.specs.InPlace.{needs_pages}
use Rattle.image_manifest.specs.Lines.{align_of, file_align, first_name, hard_line, line_behind, line_by, lines_behind}
use Rattle.image_manifest.specs.Lines.{member_lines, node_line, text_of, word_of}
use Rattle.image_manifest.specs.Describable.{HasSmallNumbers, IsDescribable}
use Rattle.image_manifest.proofs.Fit.{IsFit, AreFit, fit_at, names_fit, names_differ, differ_at}
use Rattle.image_manifest.proofs.Followed.{all_taken, first_is, in_tree, lines_apart, none_by, other, other_path}
use Rattle.image_manifest.proofs.Followed.{own_led, taken_after}
use Rattle.image_manifest.proofs.Lawful.{no_bytes, stands}
use Rattle.image_manifest.proofs.Lined.{length-lines}
use Rattle.image_manifest.proofs.Plain.{PathsDiffer, has_path}
use Rattle.image_manifest.proofs.ReadBack.{line_path}
use Rattle.image_manifest.proofs.Ways.{Among, first, later, among_back, neither}
use Rattle.image_manifest.specs.declared.rules.FileRules.{FileRules}
use Rattle.image_manifest.specs.Describable.{AreValid}

-- Lines are accepted one by one.

taken_push : (latest : List Line) (j : ℕ) (xs : List Line) (l : Line) (k : ℕ) → k ≡ j + length xs
    → AreTaken latest j xs → IsSpelled l → fault_of (taken_after latest j xs) (numbered k l) ≡ None
    → AreTaken latest j (xs ++ l ∷ [])
taken_push latest j [] l k e t s f =
    let g : k ≡ j = omega (arith, e) in (s, subst (λ (n : ℕ). fault_of latest (numbered n l) ≡ None) g f, tt)
taken_push latest j (x ∷ xs) l k e t s f =
    (t.0, t.1, taken_push (numbered j x ∷ latest) (j + 1) xs l k (omega (arith, e)) t.2 s f)

abbrev Fits : Image → FileRules → ℕ → List Name → Name → Type 0
Fits m rules j b n =
    IsSpelled (line_behind m rules b n)
    × (AreTaken [] j (lines_behind m rules [] b)
    → fault_of (all_taken m rules j b) (numbered (j + length b) (line_behind m rules b n)) ≡ None)

taken_from : (m : Image) (rules : FileRules) (j : ℕ) (b rest : List Name) → AreTaken [] j (lines_behind m rules [] b)
    → ((c : List Name) (n : Name) (a : List Name) → b ++ rest ≡ c ++ n ∷ a → Fits m rules j c n)
    → AreTaken [] j (lines_behind m rules [] (b ++ rest))
taken_from m rules j b [] t f =
    subst (λ (v : List Name). AreTaken [] j (lines_behind m rules [] v)) (sym (append-nil b)) t
taken_from m rules j b (n ∷ rest) t f =
    let g : Fits m rules j b n = f b n rest refl in
    let more : AreTaken [] j (lines_behind m rules [] (b ++ n ∷ [])) =
    subst (λ (v : List Line). AreTaken [] j v) (sym (lines_apart m rules [] b n []))
    (taken_push [] j (lines_behind m rules [] b) (line_behind m rules b n) (j + length b)
    (omega (arith, length-lines m rules [] b)) t g.0 (g.1 t)) in
    subst (λ (v : List Name). AreTaken [] j (lines_behind m rules [] v)) (append_assoc b (n ∷ []) rest)
    (taken_from m rules j (b ++ n ∷ []) rest more (λ c k a e. f c k a (sym (append_assoc b (n ∷ []) rest) ∙ e)))

-- A line's spelling.

dir_word : (k : Node) → is_dir (word_of (kind_of k)) ≡ is_directory k
dir_word (node a (directory es)) = refl
dir_word (node a (regular ps)) = refl
dir_word (node a (symlink ps)) = refl
dir_word (node a block) = refl
dir_word (node a character) = refl
dir_word (node a socket) = refl
dir_word (node a fifo) = refl

pub some_byte : (bytes : List ℕ) (i : ℕ) → All (λ b. b < 256) bytes → get_or bytes i 0 < 256
some_byte [] i h = omega arith
some_byte (b ∷ bs) zero h = h 0 0 (omega arith)
some_byte (b ∷ bs) (suc i) h = some_byte bs i (λ k d l. h (suc k) d (omega (arith, l)))

all_bytes : (bytes ps : List ℕ) → All (λ b. b < 256) bytes → All (λ b. b < 256) (map (λ p. get_or bytes p 0) ps)
all_bytes bytes [] h = no_bytes
all_bytes bytes (p ∷ ps) h = All-cons (λ b. b < 256) (get_or bytes p 0) (map (λ q. get_or bytes q 0) ps)
    (some_byte bytes p h) (all_bytes bytes ps h)

more_is_some : (xs ys : List ℕ) → (ys ≡ [] → ⊥) → xs ++ ys ≡ [] → ⊥
more_is_some [] ys h e = h e
more_is_some (x ∷ xs) ys h e = cc

-- a file's alignment is one that a manifest accepts
file_aligned : (m : Image) (rules : FileRules) (x : Node) → is_align rules.align ≡ true
    → is_align (file_align m rules x) ≡ true
unfolding file_align
file_aligned m rules x e = elim (needs_pages (front_of m.bytes (places_of x))) as
    (λ t. is_align (if t then rules.align else 4) ≡ true) [ true ↦ e | false ↦ refl ]

-- all of these are less than m
all_less : ℕ → List ℕ → Bool
all_less m [] = true
all_less m (k ∷ ks) = nat_lt k m && all_less m ks

one_of : (n m : ℕ) (ks : List ℕ) → list_any (λ k. n == k) ks ≡ true → all_less m ks ≡ true → n < m
unfolding all_less
one_of n m [] h a = absurd (cc)
one_of n m (k ∷ ks) h a = elim (nat_lt k m) as (λ s. nat_lt k m ≡ s → (s && all_less m ks) ≡ true → n < m) [
  | true ↦ λ l b. elim (n == k) as (λ t. (n == k) ≡ t → (t || list_any (λ j. n == j) ks) ≡ true → n < m) [
    | true ↦ λ e g. subst (λ (v : ℕ). v < m) (sym (eqb-true n k e)) (ltb-true k m l)
    | false ↦ λ e g. one_of n m ks g b
  ] refl h
  | false ↦ λ l b. absurd (cc)
] refl a

-- such an alignment is a number of 32 bits
small : (n : ℕ) → is_align n ≡ true → n < 2 ^ 32
unfolding all_less
small n e =
    let l =
    one_of n 65537 (4 ∷ 8 ∷ 16 ∷ 32 ∷ 64 ∷ 128 ∷ 256 ∷ 512 ∷ 1024 ∷ 2048 ∷ 4096 ∷ 8192 ∷ 16384 ∷ 32768 ∷ 65536 ∷ [])
    e refl in
    omega (arith, l)

-- the line of a node can be spelled
own_spelled : (m : Image) (rules : FileRules) (path : List ℕ) (x : Node) → AreValid rules → All (λ b. b < 256) path
    → (path ≡ [] → ⊥) → All (λ b. b < 256) m.bytes → HasSmallNumbers (attributes_of x) → IsIn x (nodes m.tree)
    → IsSpelled (node_line m rules path x)
own_spelled m rules path x f p some bytes s h = record {
  path = p;
  text = text x;
  mode = s.mode;
  uid = s.uid;
  gid = s.gid;
  align = align x;
  major = s.major;
  minor = s.minor;
  only = only x h;
}
  where
    text : (x : Node) → All (λ b. b < 256) (text_of (kind_of x) (rules.directory.now ++ path) (contents_of m.bytes x))
    text (node a (directory es)) = no_bytes
    text (node a (regular ps)) = All-append (λ b. b < 256) rules.directory.now path f.directory p
    text (node a (symlink ps)) = all_bytes m.bytes ps bytes
    text (node a block) = no_bytes
    text (node a character) = no_bytes
    text (node a socket) = no_bytes
    text (node a fifo) = no_bytes

    align : (x : Node) → align_of (kind_of x) (file_align m rules x) < 2 ^ 32
    align (node a (directory es)) = omega arith
    align (node a (regular ps)) = small (file_align m rules (node a (regular ps)))
        (file_aligned m rules (node a (regular ps)) f.align)
    align (node a (symlink ps)) = omega arith
    align (node a block) = omega arith
    align (node a character) = omega arith
    align (node a socket) = omega arith
    align (node a fifo) = omega arith

    no_text : (ps : List ℕ) → 0 < length ps → map (λ p. get_or m.bytes p 0) ps ≡ [] → ⊥
    no_text [] l e = omega (arith, l)
    no_text (q ∷ ps) l e = cc

    only : (x : Node) → IsIn x (nodes m.tree) → HasOnly (word_of (kind_of x)) (node_line m rules path x)
    only (node a (directory es)) i = let d = m.devices (node a (directory es)) i refl in (refl, d.0, d.1, refl)
    only (node a (regular ps)) i =
        let d = m.devices (node a (regular ps)) i refl in (d.0, d.1, more_is_some rules.directory.now path some)
    only (node a (symlink ps)) i = let d =
        m.devices (node a (symlink ps)) i refl in (refl, d.0, d.1, no_text ps (m.links (node a (symlink ps)) i refl).0)
    only (node a block) i = (refl, refl)
    only (node a character) i = (refl, refl)
    only (node a socket) i = let d = m.devices (node a socket) i refl in (refl, d.0, d.1, refl)
    only (node a fifo) i = let d = m.devices (node a fifo) i refl in (refl, d.0, d.1, refl)

-- and so can that of a further name
hard_spelled : (path old : List ℕ) → All (λ b. b < 256) path → All (λ b. b < 256) old → IsSpelled (hard_line path old)
hard_spelled path old p o = record {
  path = p;
  text = o;
  mode = omega arith;
  uid = omega arith;
  gid = omega arith;
  align = omega arith;
  major = omega arith;
  minor = omega arith;
  only = (refl, refl, refl, refl, refl, refl);
}

-- A line's tests.

no_fault : (latest : List Line) (l : Line) → is_bad_path (is_dir l.word) (names_of l.path) ≡ false
    → is_bad_text l.word l.text ≡ false → has_parent latest (parent_of (names_of l.path)) ≡ true
    → is_some (line_at latest l.path) ≡ false → (is_file l.word && not (is_align l.align)) ≡ false
    → has_target latest l.word l.text ≡ true → fault_of latest l ≡ None
unfolding fault_of
no_fault latest l a b c d e f = rw (a, b, c, d, e, f) refl

-- the tests that concern only a node's text
own_text : (m : Image) (rules : FileRules) (path : List ℕ) (x : Node) → IsIn x (nodes m.tree)
    → (is_link x ≡ true → list_any (λ b. b == 0) (contents_of m.bytes x) ≡ false)
    → is_bad_text (word_of (kind_of x)) (text_of (kind_of x) (rules.directory.now ++ path) (contents_of m.bytes x))
    ≡ false
own_text m rules path (node a (directory es)) i h = refl
own_text m rules path (node a (regular ps)) i h = refl
own_text m rules path (node a (symlink ps)) i h =
    let l = (m.links (node a (symlink ps)) i refl).1 in
    let c : List ℕ = contents_of m.bytes (node a (symlink ps)) in
    neither (nat_lt 4095 (length c)) (list_any (λ b. b == 0) c)
    (le-ltb 4095 (length c) (omega (arith, l, length-map ps (λ p. get_or m.bytes p 0)))) (h refl)
own_text m rules path (node a block) i h = refl
own_text m rules path (node a character) i h = refl
own_text m rules path (node a socket) i h = refl
own_text m rules path (node a fifo) i h = refl

own_align : (k : Kind) (align : ℕ) → is_align align ≡ true
    → (is_file (word_of k) && not (is_align (align_of k align))) ≡ false
own_align Directory align e = refl
own_align Regular align e = ap not e
own_align Symlink align e = refl
own_align Block align e = refl
own_align Character align e = refl
own_align Socket align e = refl
own_align Fifo align e = refl

own_target : (latest : List Line) (k : Kind) (text : List ℕ) → has_target latest (word_of k) text ≡ true
own_target latest Directory text = refl
own_target latest Regular text = refl
own_target latest Symlink text = refl
own_target latest Block text = refl
own_target latest Character text = refl
own_target latest Socket text = refl
own_target latest Fifo text = refl

-- What is before a line.

line_kept : (latest : List Line) (n : ℕ) (ls : List Line) (p : List ℕ) → AreTaken latest n ls
    → is_some (line_at latest p) ≡ true → line_at (taken_after latest n ls) p ≡ line_at latest p
line_kept latest n [] p t h = refl
line_kept latest n (l ∷ ls) p t h =
    let e : bytes_eq l.path p ≡ false = other_path latest n l p t.1 h in
    line_kept (numbered n l ∷ latest) (n + 1) ls p t.2 (rw e h) ∙ rw e refl

dir_line : (m : Image) (rules : FileRules) (latest : List Line) (j : ℕ) (pre b : List Name) (d : Name)
    → AreTaken latest j (lines_behind m rules pre b) → Among d b → is_directory d.node ≡ true
    → is_dir_line (line_at (taken_after latest j (lines_behind m rules pre b)) d.path) ≡ true
dir_line m rules latest j pre [] d t h k = elim h [ ]
dir_line m rules latest j pre (x ∷ b) d t first k =
    let l : Line = line_behind m rules pre d in
    let s : bytes_eq l.path d.path ≡ true = (bytes_decides l.path d.path).1 (line_path m rules pre d) in
    let own : l ≡ node_line m rules d.path d.node =
    ap (λ (c : Bool). line_by m rules d (cond c None (first_name (ino_of d.node) pre))) k in
    ap is_dir_line (line_kept (numbered j l ∷ latest) (j + 1) (lines_behind m rules (pre ++ d ∷ []) b) d.path t.2
    (rw s refl))
    ∙ ap (λ (c : Bool). is_dir_line (cond c (Some (numbered j l)) (line_at latest d.path))) s
    ∙ ap (λ (v : Line). is_dir v.word) own ∙ dir_word d.node ∙ k
dir_line m rules latest j pre (x ∷ b) d t (later h) k =
    dir_line m rules (numbered j (line_behind m rules pre x) ∷ latest) (j + 1) (pre ++ x ∷ []) b d t.2 h k

some_line : (m : Image) (rules : FileRules) (latest : List Line) (j : ℕ) (pre b : List Name) (p : List ℕ)
    → is_some (line_at (taken_after latest j (lines_behind m rules pre b)) p)
    ≡ (has_path p b || is_some (line_at latest p))
some_line m rules latest j pre [] p = refl
some_line m rules latest j pre (x ∷ b) p =
    let l : Line = line_behind m rules pre x in
    some_line m rules (numbered j l ∷ latest) (j + 1) (pre ++ x ∷ []) b p
    ∙ ap (λ (v : List ℕ). has_path p b || is_some (cond (bytes_eq v p) (Some (numbered j l)) (line_at latest p)))
    (line_path m rules pre x)
    ∙ by (has_path p b) (bytes_eq x.path p) (numbered j l) (line_at latest p)
  where
    by : (y z : Bool) (l : Line) (o : Option Line) → (y || is_some (cond z (Some l) o)) ≡ ((z || y) || is_some o)
    by true true l o = refl
    by true false l o = refl
    by false true l o = refl
    by false false l o = refl

directory_among : (b : List Name) (p : List ℕ)
    → list_any (λ (d : Name). is_directory d.node && bytes_eq d.path p) b ≡ true
    → (d : Name) × Among d b × (d.path ≡ p) × (is_directory d.node ≡ true)
directory_among [] p h = absurd (cc)
directory_among (x ∷ b) p h = by (is_directory x.node) (bytes_eq x.path p) refl refl h (λ g. directory_among b p g)
  where
    Found : List Name → Type 0
    Found ns = (d : Name) × Among d ns × (d.path ≡ p) × (is_directory d.node ≡ true)

    by : (y z : Bool) → is_directory x.node ≡ y → bytes_eq x.path p ≡ z
        → ((y && z) || list_any (λ (d : Name). is_directory d.node && bytes_eq d.path p) b) ≡ true
        → (list_any (λ (d : Name). is_directory d.node && bytes_eq d.path p) b ≡ true
        → (d : Name) × Among d b × (d.path ≡ p) × (is_directory d.node ≡ true))
        → (d : Name) × Among d (x ∷ b) × (d.path ≡ p) × (is_directory d.node ≡ true)
    by true true e f g go = (x, first, (bytes_decides x.path p).0 f, e)
    by true false e f g go = let r = go g in (r.0, later r.1, r.2, r.3)
    by false z e f g go = let r = go g in (r.0, later r.1, r.2, r.3)

or_true : (a b : Bool) → b ≡ true → (a || b) ≡ true
or_true true b e = refl
or_true false b e = e

has_directory : (m : Image) (rules : FileRules) (j : ℕ) (b : List Name) (p : List ℕ)
    → AreTaken [] j (lines_behind m rules [] b) → stands b p ≡ true → has_parent (all_taken m rules j b) p ≡ true
has_directory m rules j b p t h = by (is_empty p) h
  where
    by : (e : Bool) → (e || list_any (λ (d : Name). is_directory d.node && bytes_eq d.path p) b) ≡ true
        → (e || is_dir_line (line_at (all_taken m rules j b) p)) ≡ true
    by true g = refl
    by false g =
        let r = directory_among b p g in
        ap (λ (v : List ℕ). is_dir_line (line_at (all_taken m rules j b) v)) (sym r.2)
        ∙ dir_line m rules [] j [] b r.0 t r.1 r.3

-- The lines of the names.

some_path : (r : Bool) (p : List ℕ) → is_bad_path r (names_of p) ≡ false → p ≡ [] → ⊥
unfolding names_of
some_path r p h e =
    let g : is_bad_path r (names_of []) ≡ false = ap (λ (v : List ℕ). is_bad_path r (names_of v)) (sym e) ∙ h in cc

own_fits : (m : Image) (rules : FileRules) (j : ℕ) (b : List Name) (n : Name) → IsDescribable m
    → AreValid rules → IsFit b n → has_path n.path b ≡ false → Among n (names m.tree) → other b n ≡ None
    → Fits m rules j b n
own_fits m rules j b n h fs f alone stands o =
    let l : Line = node_line m rules n.path n.node in
    let e : line_behind m rules b n ≡ l = ap (line_by m rules n) o in
    let i = in_tree m.tree n stands in
    let k : ℕ = j + length b in
    let before : List Line = all_taken m rules j b in (
      subst IsSpelled (sym e) (own_spelled m rules n.path n.node fs f.bytes
          (some_path (is_directory n.node) n.path f.path) h.bytes (h.tree.numbers n.node i) i),
      λ t. subst (λ (v : Line). fault_of before (numbered k v) ≡ None) (sym e)
          (no_fault before (numbered k l)
          (ap (λ (c : Bool). is_bad_path c (names_of n.path)) (dir_word n.node) ∙ f.path)
          (own_text m rules n.path n.node i (h.links n.node i))
          (has_directory m rules j b (parent_of (names_of n.path)) t f.parent)
          (some_line m rules [] j [] b n.path ∙ neither (has_path n.path b) false alone refl)
          (own_align (kind_of n.node) (file_align m rules n.node) (file_aligned m rules n.node fs.align))
          (own_target before (kind_of n.node) l.text)),
    )

further_fits : (m : Image) (rules : FileRules) (j : ℕ) (b : List Name) (n : Name) (a : List Name) (old : Name)
    → IsFit b n → has_path n.path b ≡ false → names m.tree ≡ b ++ n ∷ a
    → AreFit [] (names m.tree) → is_directory n.node ≡ false → other b n ≡ Some old
    → first_name (ino_of n.node) b ≡ Some old → Fits m rules j b n
further_fits m rules j b n a old f alone parts fit d o first_old =
    let l : Line = hard_line n.path old.path in
    let e : line_behind m rules b n ≡ l = ap (line_by m rules n) o in
    let k : ℕ = j + length b in
    let before : List Line = all_taken m rules j b in
    let r = first_is (ino_of n.node) b old first_old in
    let all : names m.tree ≡ r.before ++ old ∷ (r.after ++ n ∷ a) =
    parts ∙ ap (λ (v : List Name). v ++ n ∷ a) r.parts ∙ append_assoc r.before (old ∷ r.after) (n ∷ a) in
    let g : IsFit r.before old =
    fit_at [] r.before old (r.after ++ n ∷ a) (subst (λ (v : List Name). AreFit [] v) all fit) in
    let old_stands : Among old (names m.tree) =
    subst (λ (v : List Name). Among old v) (sym all) (among_back old r.before (old ∷ (r.after ++ n ∷ a)) first) in
    let n_stands : Among n (names m.tree) =
    subst (λ (v : List Name). Among n v) (sym parts) (among_back n b (n ∷ a) first) in
    let same : old.node ≡ n.node =
    m.coherent old.node n.node (in_tree m.tree old old_stands) (in_tree m.tree n n_stands) r.number in
    let no_directory : is_directory old.node ≡ false = ap is_directory same ∙ d in
    let own : other r.before old ≡ None =
    none_by (is_directory old.node) (first_name (ino_of old.node) r.before)
    (ap (λ (v : ℕ). first_name v r.before) r.number ∙ r.none) in (
      subst IsSpelled (sym e) (hard_spelled n.path old.path f.bytes g.bytes),
      λ t. subst (λ (v : Line). fault_of before (numbered k v) ≡ None) (sym e)
          (no_fault before (numbered k l)
          (ap (λ (c : Bool). is_bad_path c (names_of n.path)) (sym d) ∙ f.path)
          (ap (λ (c : Bool). is_bad_path c (names_of old.path)) (sym no_directory) ∙ g.path)
          (has_directory m rules j b (parent_of (names_of n.path)) t f.parent)
          (some_line m rules [] j [] b n.path ∙ neither (has_path n.path b) false alone refl)
          refl
          (ap is_target
          (ap (λ (v : List Name). led (all_taken m rules j v) old.path) r.parts
          ∙ own_led m rules j r.before old r.after
          (subst (λ (v : List Name). AreTaken [] j (lines_behind m rules [] v)) r.parts t) own)
          ∙ ap not (dir_word old.node ∙ no_directory))),
    )

fits : (m : Image) (rules : FileRules) (j : ℕ) (b : List Name) (n : Name) (a : List Name) → IsDescribable m
    → AreValid rules → names m.tree ≡ b ++ n ∷ a → Fits m rules j b n
fits m rules j b n a h fs e = by (is_directory n.node) (first_name (ino_of n.node) b) refl refl
  where
    here_fit : IsFit b n
    here_fit = fit_at [] b n a (subst (λ (v : List Name). AreFit [] v) e (names_fit m h))

    alone : has_path n.path b ≡ false
    alone = differ_at b n a (subst PathsDiffer e (names_differ m h))

    own : other b n ≡ None → Fits m rules j b n
    own o = own_fits m rules j b n h fs here_fit alone
        (subst (λ (v : List Name). Among n v) (sym e) (among_back n b (n ∷ a) first)) o

    by : (d : Bool) (o : Option Name) → is_directory n.node ≡ d → first_name (ino_of n.node) b ≡ o → Fits m rules j b n
    by true o g f = own (ap (λ (x : Bool). cond x None (first_name (ino_of n.node) b)) g)
    by false None g f = own (ap (λ (x : Bool). cond x None (first_name (ino_of n.node) b)) g ∙ f)
    by false (Some old) g f = further_fits m rules j b n a old here_fit alone e (names_fit m h) g
        (ap (λ (x : Bool). cond x None (first_name (ino_of n.node) b)) g ∙ f) f

pub are_taken : (m : Image) (rules : FileRules) (j : ℕ) → IsDescribable m → AreValid rules
    → AreTaken [] j (member_lines m rules)
unfolding member_lines
are_taken m rules j h fs = taken_from m rules j [] (names m.tree) tt (λ c n a e. fits m rules j c n a h fs e)

-- The source of a regular file's line, and what it holds.
use Rattle.std.proofs.Common.{◌≡◌, ℕ, ◌+◌, ◌≤◌, Bool, true, false, ◌&&◌, cond, List, [], ◌∷◌, ◌++◌, filter, length, map}
use Rattle.std.proofs.Common.{get_or, Option, None, Some, refl, sym, ap, ◌∙◌, append_assoc, append-nil, arith}
use Rattle.std.proofs.lemmas.Bool.{le-ltb, lt-ltb}
use Rattle.std.proofs.Math.Seq.{get_or-append_seam}
use Rattle.std.specs.Prelude.{is_none}
use Rattle.manifest.specs.declared.line.Line.{Line}
use Rattle.manifest.specs.Lines.{is_file, sources_of as texts_of}
use Rattle.manifest.specs.Printed.{first_number, numbered, numbered_from}
use Rattle.manifest_tree.specs.Tree.{sources_before}
use Rattle.rom_tree.specs.Image.{Image, contents_of}
use Rattle.rom_tree.specs.Names.{Name, names}
use Rattle.rom_tree.specs.Tree.{Node, node, directory, regular, symlink, block, character, socket, fifo, ino_of}
use Rattle.rom_tree.specs.Tree.{is_directory, is_regular}
use Rattle.image_manifest.specs.Lines.{first_name, line_behind, line_by, lines_behind, member_lines}
use Rattle.image_manifest.specs.Sources.{AreSources, has_source, source_names, source_names_behind, sources_behind}
use Rattle.image_manifest.specs.Sources.{file_contents}
use Rattle.image_manifest.specs.declared.rules.FileRules.{FileRules}

and_false : (a : Bool) → (a && false) ≡ false
and_false true = refl
and_false false = refl

and_true : (a : Bool) → (a && true) ≡ a
and_true true = refl
and_true false = refl

-- no line from line j on is before an earlier one
none_before : (n j : ℕ) (ls : List Line) → n ≤ j → sources_before n (numbered_from j ls) ≡ 0
none_before n j [] h = refl
none_before n j (l ∷ ls) h =
    let r = none_before n (j + 1) ls (omega (arith, h)) in
    ap (λ (b : Bool). cond (is_file l.word && b) (sources_before n (numbered_from (j + 1) ls) + 1)
    (sources_before n (numbered_from (j + 1) ls))) (le-ltb j n h)
    ∙ ap (λ (b : Bool). cond b (sources_before n (numbered_from (j + 1) ls) + 1)
    (sources_before n (numbered_from (j + 1) ls))) (and_false (is_file l.word))
    ∙ r

-- a line is a `file` line exactly if its name has a source
file_line : (m : Image) (rules : FileRules) (before : List Name) (n : Name)
    → is_file (line_behind m rules before n).word ≡ has_source before n
file_line m rules before n = by n.node (first_name (ino_of n.node) before)
  where
    by : (x : Node) (o : Option Name)
        → is_file (line_by m rules (record { path = n.path; last = n.last; node = x })
        (cond (is_directory x) None o)).word ≡ (is_regular x && is_none o)
    by (node a (directory es)) o = refl
    by (node a (regular ps)) None = refl
    by (node a (regular ps)) (Some v) = refl
    by (node a (symlink ps)) None = refl
    by (node a (symlink ps)) (Some v) = refl
    by (node a block) None = refl
    by (node a block) (Some v) = refl
    by (node a character) None = refl
    by (node a character) (Some v) = refl
    by (node a socket) None = refl
    by (node a socket) (Some v) = refl
    by (node a fifo) None = refl
    by (node a fifo) (Some v) = refl

-- as many sources are before a name's line as names before it have one
pub as_many_sources : (m : Image) (rules : FileRules) (pre b rest : List Name) (j k : ℕ) → k ≡ j + length b
    → sources_before k (numbered_from j (lines_behind m rules pre (b ++ rest))) ≡ length (sources_behind m pre b)
as_many_sources m rules pre [] rest j k e = none_before k j (lines_behind m rules pre rest) (omega (arith, e))
as_many_sources m rules pre (n ∷ b) rest j k e =
    let more : ℕ = sources_before k (numbered_from (j + 1) (lines_behind m rules (pre ++ n ∷ []) (b ++ rest))) in
    let r = as_many_sources m rules (pre ++ n ∷ []) b rest (j + 1) k (omega (arith, e)) in
    ap (λ (t : Bool). cond (is_file (line_behind m rules pre n).word && t) (more + 1) more)
    (lt-ltb j k (omega (arith, e)))
    ∙ ap (λ (t : Bool). cond t (more + 1) more)
    (and_true (is_file (line_behind m rules pre n).word) ∙ file_line m rules pre n)
    ∙ by (has_source pre n) more (sources_behind m (pre ++ n ∷ []) b) r
  where
    by : (t : Bool) (k : ℕ) (cs : List (List ℕ)) → k ≡ length cs
        → cond t (k + 1) k ≡ length (cond t (contents_of m.bytes n.node ∷ []) [] ++ cs)
    by true k cs e = omega (arith, e)
    by false k cs e = e

sources_apart : (m : Image) (pre b rest : List Name)
    → sources_behind m pre (b ++ rest) ≡ sources_behind m pre b ++ sources_behind m (pre ++ b) rest
sources_apart m pre [] rest = ap (λ (v : List Name). sources_behind m v rest) (sym (append-nil pre))
sources_apart m pre (n ∷ b) rest =
    let own : List (List ℕ) = cond (has_source pre n) (contents_of m.bytes n.node ∷ []) [] in
    ap (λ (v : List (List ℕ)). own ++ v)
    (sources_apart m (pre ++ n ∷ []) b rest
    ∙ ap (λ (v : List Name). sources_behind m (pre ++ n ∷ []) b ++ sources_behind m v rest)
    (append_assoc pre (n ∷ []) b))
    ∙ sym (append_assoc own (sources_behind m (pre ++ n ∷ []) b) (sources_behind m (pre ++ n ∷ b) rest))

-- the source of a name that has one holds its node's contents
pub source_holds : (m : Image) (b : List Name) (n : Name) (a : List Name) → has_source b n ≡ true
    → get_or (sources_behind m [] (b ++ n ∷ a)) (length (sources_behind m [] b)) [] ≡ contents_of m.bytes n.node
source_holds m b n a h =
    let back : List (List ℕ) = sources_behind m (b ++ n ∷ []) a in
    let front : List (List ℕ) = sources_behind m [] b in
    ap (λ (v : List (List ℕ)). get_or v (length front) [])
    (sources_apart m [] b (n ∷ a) ∙ ap (λ (t : Bool). front ++ (cond t (contents_of m.bytes n.node ∷ []) [] ++ back)) h)
    ∙ get_or-append_seam front (contents_of m.bytes n.node) back []

-- What the lines name as their sources.

file_text : (m : Image) (rules : FileRules) (before : List Name) (n : Name) → has_source before n ≡ true
    → (line_behind m rules before n).text ≡ rules.directory.now ++ n.path
file_text m rules before n h = by n.node (first_name (ino_of n.node) before) h
  where
    by : (x : Node) (o : Option Name) → (is_regular x && is_none o) ≡ true
        → (line_by m rules (record { path = n.path; last = n.last; node = x }) (cond (is_directory x) None o)).text
        ≡ rules.directory.now ++ n.path
    by (node a (directory es)) o h = absurd (cc)
    by (node a (regular ps)) None h = refl
    by (node a (regular ps)) (Some v) h = absurd (cc)
    by (node a (symlink ps)) o h = absurd (cc)
    by (node a block) o h = absurd (cc)
    by (node a character) o h = absurd (cc)
    by (node a socket) o h = absurd (cc)
    by (node a fifo) o h = absurd (cc)

-- the lines name the files of these names, in their order
pub sources_named : (m : Image) (rules : FileRules) (j : ℕ) (before ns : List Name)
    → texts_of (numbered_from j (lines_behind m rules before ns))
    ≡ map (λ n. rules.directory.now ++ n.path) (source_names_behind before ns)
sources_named m rules j before [] = refl
sources_named m rules j before (n ∷ ns) =
    let l : Line = numbered j (line_behind m rules before n) in
    let rest : List Line = numbered_from (j + 1) (lines_behind m rules (before ++ n ∷ []) ns) in
    let r = sources_named m rules (j + 1) (before ++ n ∷ []) ns in
    ap (λ (t : Bool). map (λ (k : Line). k.text)
    (cond t (l ∷ filter (λ k. is_file k.word) rest) (filter (λ k. is_file k.word) rest)))
    (file_line m rules before n)
    ∙ by (has_source before n) refl r
  where
    by : (t : Bool) → has_source before n ≡ t
        → texts_of (numbered_from (j + 1) (lines_behind m rules (before ++ n ∷ []) ns))
        ≡ map (λ n. rules.directory.now ++ n.path) (source_names_behind (before ++ n ∷ []) ns)
        → map (λ (k : Line). k.text) (cond t
        (numbered j (line_behind m rules before n)
        ∷ filter (λ k. is_file k.word) (numbered_from (j + 1) (lines_behind m rules (before ++ n ∷ []) ns)))
        (filter (λ k. is_file k.word) (numbered_from (j + 1) (lines_behind m rules (before ++ n ∷ []) ns))))
        ≡ map (λ n. rules.directory.now ++ n.path) (cond t (n ∷ []) [] ++ source_names_behind (before ++ n ∷ []) ns)
    by true h r = ap (λ (v : List ℕ). v
        ∷ texts_of (numbered_from (j + 1) (lines_behind m rules (before ++ n ∷ []) ns)))
        (file_text m rules before n h) ∙ ap (λ (v : List (List ℕ)). (rules.directory.now ++ n.path) ∷ v) r
    by false h r = r

-- and the sources hold what these files hold
pub sources_held : (m : Image) (before ns : List Name)
    → sources_behind m before ns ≡ map (λ n. contents_of m.bytes n.node) (source_names_behind before ns)
sources_held m before [] = refl
sources_held m before (n ∷ ns) = by (has_source before n) (sources_held m (before ++ n ∷ []) ns)
  where
    by : (t : Bool)
        → sources_behind m (before ++ n ∷ []) ns
        ≡ map (λ n. contents_of m.bytes n.node) (source_names_behind (before ++ n ∷ []) ns)
        → cond t (contents_of m.bytes n.node ∷ []) [] ++ sources_behind m (before ++ n ∷ []) ns
        ≡ map (λ n. contents_of m.bytes n.node) (cond t (n ∷ []) [] ++ source_names_behind (before ++ n ∷ []) ns)
    by true r = ap (λ (v : List (List ℕ)). contents_of m.bytes n.node ∷ v) r
    by false r = r

pub are_sources : (m : Image) (volume : List ℕ) (rules : FileRules) → AreSources m volume rules
unfolding member_lines source_names file_contents
are_sources m volume rules = record
    { named = sources_named m rules (first_number volume) [] (names m.tree); held = sources_held m [] (names m.tree) }

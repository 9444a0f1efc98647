-- If the grammar accepts an image's lines, no path is too long, and no link's text has a zero byte.
use Rattle.std.proofs.Common.{◌≡◌, ℕ, ◌+◌, Bool, true, false, ◌||◌, nat_lt, cond, List, [], ◌∷◌, ◌++◌, length, map}
use Rattle.std.proofs.Common.{Option, None, Some, refl, sym, ap, subst, ◌∙◌, arith}
use Rattle.std.specs.Prelude.{◌==◌}
use Rattle.std.specs.List.{list_any}
use Rattle.std.specs.Option.{is_some}
use Rattle.manifest.specs.declared.error.TheConstants.{BAD_PATH}
use Rattle.manifest.specs.declared.line.Line.{Line}
use Rattle.manifest.specs.Grammar.{fault_of, is_bad_text}
use Rattle.manifest.specs.Lines.{is_dir}
use Rattle.manifest.specs.Paths.{is_bad_path, names_from, names_of}
use Rattle.manifest.specs.Texts.{is_bad}
use Rattle.manifest.specs.Printed.{AreTaken, numbered}
use Rattle.rom_tree.specs.Image.{Image, contents_of}
use Rattle.rom_tree.specs.Names.{Name, names}
use Rattle.rom_tree.specs.Tree.{Node, node, directory, regular, symlink, block, character, socket, fifo, IsIn, here}
use Rattle.rom_tree.specs.Tree.{there, is_link, kind_of}
use Rattle.image_manifest.specs.Lines.{line_behind, line_by, lines_behind, member_lines, node_line, text_of, word_of}
use Rattle.image_manifest.specs.Members.{has_long_path, is_long}
use Rattle.image_manifest.specs.Describable.{HaveNoZeros}
use Rattle.image_manifest.proofs.Followed.{all_taken, in_tree, is_led, lines_apart, taken_after}
use Rattle.image_manifest.proofs.Lined.{length-lines, names_nodes}
use Rattle.image_manifest.proofs.ReadBack.{lawful}
use Rattle.image_manifest.proofs.Ways.{Among, among_back, first, later, neither, or_false}
use Rattle.image_manifest.specs.declared.rules.FileRules.{FileRules}

-- No path is too long.

not_bad : (p : List ℕ) → is_some (names_of p) ≡ true → is_bad 4095 p ≡ false
unfolding names_of
not_bad p h = elim (is_bad 4095 p) as (λ t. is_some (cond t None (names_from p)) ≡ true → t ≡ false) [
  | true ↦ λ e. absurd (cc)
  | false ↦ λ e. refl
] h

none_long : (ns : List Name) → ((n : Name) → Among n ns → is_some (names_of n.path) ≡ true)
    → list_any is_long ns ≡ false
none_long [] h = refl
none_long (n ∷ ns) h =
    neither (is_long n) (list_any is_long ns)
    ((or_false (nat_lt 4095 (length n.path)) (list_any (λ b. b == 0) n.path) (not_bad n.path (h n first))).0)
    (none_long ns (λ k i. h k (later i)))

-- Each line has no fault.

line_sound : (latest : List Line) (n : ℕ) (xs : List Line) (l : Line) (ys : List Line) (k : ℕ) → k ≡ n + length xs
    → AreTaken latest n (xs ++ l ∷ ys) → fault_of (taken_after latest n xs) (numbered k l) ≡ None
line_sound latest n [] l ys k e t =
    let f : n ≡ k = omega (arith, e) in subst (λ (v : ℕ). fault_of latest (numbered v l) ≡ None) f t.1
line_sound latest n (x ∷ xs) l ys k e t = line_sound (numbered n x ∷ latest) (n + 1) xs l ys k (omega (arith, e)) t.2

name_sound : (m : Image) (rules : FileRules) (j : ℕ) (b : List Name) (n : Name) (a : List Name)
    → AreTaken [] j (lines_behind m rules [] (b ++ n ∷ a))
    → fault_of (all_taken m rules j b) (numbered (j + length b) (line_behind m rules b n)) ≡ None
name_sound m rules j b n a t =
    line_sound [] j (lines_behind m rules [] b) (line_behind m rules b n) (lines_behind m rules (b ++ n ∷ []) a)
    (j + length b) (omega (arith, length-lines m rules [] b))
    (subst (λ (v : List Line). AreTaken [] j v) (lines_apart m rules [] b n a) t)

sound_text : (ls : List Line) (l : Line) → fault_of ls l ≡ None → is_bad_text l.word l.text ≡ false
unfolding fault_of
sound_text ls l h = by (is_bad_path (is_dir l.word) (names_of l.path)) (is_bad_text l.word l.text) _ h
  where
    by : (a b : Bool) (o : Option ℕ) → cond (a || b) (Some BAD_PATH) o ≡ None → b ≡ false
    by true b o h = absurd (cc)
    by false true o h = absurd (cc)
    by false false o h = refl

-- so a link's text has no zero byte
link_text : (m : Image) (source : List ℕ) (x : Node) → is_link x ≡ true
    → is_bad_text (word_of (kind_of x)) (text_of (kind_of x) source (contents_of m.bytes x)) ≡ false
    → list_any (λ b. b == 0) (contents_of m.bytes x) ≡ false
link_text m source (node a (directory es)) l h = absurd (cc)
link_text m source (node a (regular ps)) l h = absurd (cc)
link_text m source (node a (symlink ps)) l h =
    (or_false (nat_lt 4095 (length (contents_of m.bytes (node a (symlink ps)))))
    (list_any (λ b. b == 0) (contents_of m.bytes (node a (symlink ps)))) h).1
link_text m source (node a block) l h = absurd (cc)
link_text m source (node a character) l h = absurd (cc)
link_text m source (node a socket) l h = absurd (cc)
link_text m source (node a fifo) l h = absurd (cc)

named_node : (ns : List Name) (x : Node) → IsIn x (map (λ (n : Name). n.node) ns)
    → (n : Name) × Among n ns × (n.node ≡ x)
named_node [] x h = elim h [ ]
named_node (n ∷ ns) x here = (n, first, refl)
named_node (n ∷ ns) x (there h) = let r = named_node ns x h in (r.0, later r.1, r.2)

no_zeros : (m : Image) (rules : FileRules) (j : ℕ) → AreTaken [] j (lines_behind m rules [] (names m.tree))
    → HaveNoZeros m
no_zeros m rules j t x h l =
    let n = named_node (names m.tree) x (subst (λ (v : List Node). IsIn x v) (sym (names_nodes m.tree)) h) in
    let r = is_led m rules j (names m.tree) n.0 t n.1 in
    let o : Name = r.origin in
    let stands : Among o (names m.tree) =
    subst (λ (v : List Name). Among o v) (sym r.parts) (among_back o r.before (o ∷ r.after) first) in
    let same : o.node ≡ x =
    m.coherent o.node n.0.node (in_tree m.tree o stands) (in_tree m.tree n.0 n.1) r.number ∙ n.2 in
    let sound = name_sound m rules j r.before o r.after
    (subst (λ (v : List Name). AreTaken [] j (lines_behind m rules [] v)) r.parts t) in
    let e : line_behind m rules r.before o ≡ node_line m rules o.path o.node = ap (line_by m rules o) r.own in
    let own = subst (λ (v : Line). fault_of (all_taken m rules j r.before) (numbered (j + length r.before) v)
    ≡ None) e sound in
    let text = sound_text (all_taken m rules j r.before)
    (numbered (j + length r.before) (node_line m rules o.path o.node)) own in
    subst (λ (v : Node). list_any (λ b. b == 0) (contents_of m.bytes v) ≡ false) same
    (link_text m (rules.directory.now ++ o.path) o.node (ap is_link same ∙ l) text)

pub excepted : (m : Image) (rules : FileRules) (j : ℕ) → AreTaken [] j (member_lines m rules)
    → HaveNoZeros m × (has_long_path m.tree ≡ false)
unfolding member_lines
excepted m rules j t =
    (no_zeros m rules j t, none_long (names m.tree) (λ n i. lawful m rules [] j [] (names m.tree) n t i))

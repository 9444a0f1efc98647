-- The lines of a path are those that are due.
use Rattle.std.proofs.Common.{◌≡◌, ◌≢◌, ℕ, Bool, true, false, List, [], ◌∷◌, ◌++◌, Option, Some, None, refl, sym, ap}
use Rattle.std.proofs.Common.{◌∙◌, inl, inr, eq-eqb}
use Rattle.std.specs.Prelude.{◌==◌, if◌then◌else◌}
use Rattle.std.proofs.lemmas.Bool.{true≢false, and_from, and_parts, eqb-true, false_from_ne_true}
use Rattle.std.proofs.lemmas.Bool.Decides.{eqb_tells}
use Rattle.rom_tree.specs.declared.types.Kind.{Kind}
use Rattle.rom_tree.specs.declared.types.Kind.TheVariants.{Directory, Regular, Symlink, Block, Character, Socket, Fifo}
use Rattle.rom_tree.specs.Image.{stat_of, contents_of}
use Rattle.rom_tree.specs.Listing.{kind_letter}
use Rattle.rom_tree.specs.Tree.{Node, node, directory, regular, symlink, block, character, socket, fifo}
use Rattle.rom_tree.specs.Tree.{kind_of}
use Rattle.image_compare.specs.Diff.{removed_line, added_line, attributes_line, same_attributes, contents_line}
use Rattle.image_compare.specs.Diff.{start_line}
use Rattle.image_compare.specs.Diff.{start_of, node_lines}
use Rattle.image_compare.specs.Paths.{AreChanges, AreLinesAt, BeginsAt, HaveMoved, HaveSameAttributes, minus, plus}
use Rattle.image_compare.specs.Paths.{with_attributes, with_offsets}
use Rattle.image_compare.proofs.Agreed.{alike_is, start_none}
use Rattle.image_compare.proofs.Compared.{same_true, same_false}
use Rattle.image_compare.proofs.Merged.{lines_by}
use Rattle.image_compare.proofs.Printed.{attributes_same, attributes_differ, contents_same, contents_differ}
use Rattle.image_compare.proofs.Printed.{moved_differ}
use Rattle.image_compare.proofs.Printed.{nodes_alike, nodes_differ}

removed_due : (path : List ℕ) → removed_line path ≡ minus path
unfolding removed_line
removed_due path = refl

added_due : (path : List ℕ) → added_line path ≡ plus path
unfolding added_line
added_due path = refl

-- ---- letters

abbrev kind_by : ℕ → Kind
kind_by n = if n == 100 then Directory else (if n == 102 then Regular else (if n == 108 then Symlink else
    (if n == 98 then Block else (if n == 99 then Character else (if n == 115 then Socket else Fifo)))))

kind_back : (k : Kind) → kind_by (kind_letter k) ≡ k
kind_back Directory = refl
kind_back Regular = refl
kind_back Symlink = refl
kind_back Block = refl
kind_back Character = refl
kind_back Socket = refl
kind_back Fifo = refl

one_kind : (k l : Kind) → kind_letter k ≡ kind_letter l → k ≡ l
one_kind k l e = sym (kind_back k) ∙ (ap kind_by e ∙ kind_back l)

-- ---- attributes

module _ (x y : Node) where
  same_test : HaveSameAttributes x y → same_attributes (stat_of x) (stat_of y) ≡ true
  same_test h =
      and_from _ _ (eq-eqb _ _ h.mode) (and_from _ _ (eq-eqb _ _ h.uid) (and_from _ _ (eq-eqb _ _ h.gid)
      (and_from _ _ (eq-eqb _ _ h.major) (eq-eqb _ _ h.minor))))

  test_same : same_attributes (stat_of x) (stat_of y) ≡ true → HaveSameAttributes x y
  test_same h =
      let s = stat_of x in
      let t = stat_of y in
      let a = and_parts (s.mode == t.mode) _ h in
      let b = and_parts (s.uid == t.uid) _ a.1 in
      let c = and_parts (s.gid == t.gid) _ b.1 in
      let d = and_parts (s.major == t.major) _ c.1 in
      record {
        mode = eqb-true _ _ a.0;
        uid = eqb-true _ _ b.0;
        gid = eqb-true _ _ c.0;
        major = eqb-true _ _ d.0;
        minor = eqb-true _ _ d.1;
      }

  attributes_none : (path : List ℕ) → HaveSameAttributes x y → attributes_line path (stat_of x) (stat_of y) ≡ []
  attributes_none path h = attributes_same path (stat_of x) (stat_of y) (sym (same_test h))

  attributes_some : (path : List ℕ) → (HaveSameAttributes x y → ⊥)
      → attributes_line path (stat_of x) (stat_of y) ≡ with_attributes path x y
  attributes_some path h = attributes_differ path (stat_of x) (stat_of y)
      (sym (false_from_ne_true (same_attributes (stat_of x) (stat_of y)) (λ t. h (test_same t))))

-- ---- places

begins : (x : Node) (p : ℕ) → BeginsAt x p → start_of x ≡ Some p
begins (node a (directory es)) p h = absurd (true≢false (sym h.0))
begins (node a (regular [])) p h = h.1
begins (node a (regular (q ∷ qs))) p h = h.1
begins (node a (symlink ps)) p h = absurd (true≢false (sym h.0))
begins (node a block) p h = absurd (true≢false (sym h.0))
begins (node a character) p h = absurd (true≢false (sym h.0))
begins (node a socket) p h = absurd (true≢false (sym h.0))
begins (node a fifo) p h = absurd (true≢false (sym h.0))

start_begins : (x : Node) (p : ℕ) → start_of x ≡ Some p → BeginsAt x p
start_begins (node a (directory es)) p h = absurd (cc)
start_begins (node a (regular [])) p h = absurd (cc)
start_begins (node a (regular (q ∷ qs))) p h = (refl, h)
start_begins (node a (symlink ps)) p h = absurd (cc)
start_begins (node a block) p h = absurd (cc)
start_begins (node a character) p h = absurd (cc)
start_begins (node a socket) p h = absurd (cc)
start_begins (node a fifo) p h = absurd (cc)

module _ (path : List ℕ) where
  start_some : (o u : Option ℕ) (p q : ℕ) → o ≡ Some p → u ≡ Some q → (p ≡ q → ⊥)
      → start_line path o u ≡ with_offsets path p q
  start_some o u p q d e n =
      ap (λ (v : Option ℕ). start_line path v u) d ∙ (ap (start_line path (Some p)) e ∙ moved_differ path p q n)

  module _ (x y : Node) where
    moved_some : (places : Bool) (p q : ℕ) → HaveMoved places x y p q
        → (if places then start_line path (start_of x) (start_of y) else []) ≡ with_offsets path p q
    moved_some true p q h =
        start_some (start_of x) (start_of y) p q (begins x p h.old) (begins y q h.new) h.differ
    moved_some false p q h = absurd (true≢false (sym h.count))

    moved_none : (places : Bool) → ((p q : ℕ) → HaveMoved places x y p q → ⊥)
        → (if places then start_line path (start_of x) (start_of y) else []) ≡ []
    moved_none true h = start_none path (start_of x) (start_of y) (λ p q d e. elim (eqb_tells p q) [
      | inl k ↦ k.1
      | inr k ↦ absurd (h p q (record {
        count = refl;
        old = start_begins x p d;
        new = start_begins y q e;
        differ = k.1;
      }))
    ])
    moved_none false h = refl

-- ---- all lines of a path

module _ (places : Bool) (a b path : List ℕ) where
  changes : (x y : Node) → kind_of x ≡ kind_of y → AreChanges places a b path x y (node_lines places a b path x y)
  changes x y k = record {
    attributes = attributes_line path (stat_of x) (stat_of y);
    contents = contents_line path (contents_of a x) (contents_of b y);
    moved = if places then start_line path (start_of x) (start_of y) else [];
    is = nodes_alike places a b path x y (ap kind_letter k) ∙ alike_is path a b x y places;
    attributes_if = (attributes_none x y path, attributes_some x y path);
    contents_if = (
      λ e. contents_same path (contents_of a x) (contents_of b y) (same_true (contents_of a x) (contents_of b y) e),
      λ e. contents_differ path (contents_of a x) (contents_of b y) (same_false (contents_of a x) (contents_of b y) e),
    );
    moved_if = moved_some path x y places;
    moved_only = moved_none path x y places;
  }

  others : (x y : Node) → kind_of x ≢ kind_of y → node_lines places a b path x y ≡ minus path ++ plus path
  others x y n = nodes_differ places a b path x y (λ e. n (one_kind (kind_of x) (kind_of y) e))
      ∙ (ap (λ (v : List ℕ). v ++ added_line path) (removed_due path)
      ∙ ap (λ (v : List ℕ). minus path ++ v) (added_due path))

  pub lines_due : (o u : Option Node) → AreLinesAt places a b path o u (lines_by places a b path o u)
  lines_due None None = refl
  lines_due (Some x) None = removed_due path
  lines_due None (Some y) = added_due path
  lines_due (Some x) (Some y) = (changes x y, others x y)

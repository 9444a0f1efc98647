-- The rows of lines, put in turn, are the entries of the lines.
use Rattle.std.proofs.Common.{◌≡◌, ℕ, ◌+◌, ◌<◌, nat_lt, cond, true, false, List, [], ◌∷◌, ◌++◌, length, map, reverse}
use Rattle.std.proofs.Common.{take, drop, get_or, Option, None, Some, Vec, refl, sym, ap, subst, ◌∙◌, arith}
use Rattle.std.proofs.lemmas.Bool.{le-ltb}
use Rattle.std.proofs.lemmas.List.{reverse-append, reverse-reverse, take-append-drop}
use Rattle.std.specs.List.{AllByRecursion as Every, list_any}
use Rattle.std.specs.Map.{values_of}
use Rattle.std.specs.Option.{is_some}
use Rattle.manifest.specs.declared.line.Line.{Line}
use Rattle.manifest.specs.Grammar.{IsManifest}
use Rattle.manifest.specs.Lines.{ManifestLines, is_dir}
use Rattle.manifest.specs.Paths.{names_of, names_behind, is_bad_path, is_bad_name, path_of}
use Rattle.manifest.specs.Texts.{pieces}
use Rattle.manifest.proofs.Checked.{AreChecked, checked_lines}
use Rattle.manifest.proofs.Named.{path_with_names}
use Rattle.manifest.proofs.Parents.{is_path, starts, pieces_some}
use Rattle.manifest_tree.specs.Names.{Inode, nothing}
use Rattle.manifest_tree.specs.Tree.{file_at, what_by, grown, tree_of}
use Rattle.manifest_tree.proofs.Law.{HaveFiles, have_files, grown_by, fewer}
use Rattle.manifest_layout.proofs.Led.{IsFaultless, all_faultless}
use Rattle.plan_rows.specs.Entries.{Entry, key_of, entry, entries_by, entries_of, put_line_entry, Rise}
use Rattle.plan_rows.proofs.Rising.{tree_rises}
use Rattle.plan_rows.proofs.Putting.{HaveNoZeros}
use Rattle.plan_rows.proofs.EntryRows.{is_row, tree_row}
use Rattle.plan_rows.proofs.Knowing.{latest_at}
use Rattle.plan_rows.specs.declared.row.Row as code_row
use Rattle.plan_rows.specs.Rows.{Row, row_view, rows}
use Rattle.plan_rows.specs.Keyed.{Keyed, keyed, put_keyed, put_file}
use Rattle.plan_rows.proofs.Ordered.{row_by, by_key, put_is}
use Rattle.plan_rows.proofs.Ways.{way_is, rows_are}

-- what is known of a line behind these
pub record IsStep (all : List Line) (sizes : List ℕ) (l : Line) (ls : List Line) : Type 0 where
  pub path : is_bad_path (is_dir l.word) (names_of l.path) ≡ false
  pub rises : Rise (entries_by all sizes (l ∷ ls))

abbrev AreSteps : List Line → List ℕ → List Line → Type 0
AreSteps all sizes [] = Unit {0}
AreSteps all sizes (l ∷ ls) = IsStep all sizes l ls × AreSteps all sizes ls

steps_by : (all : List Line) (sizes : List ℕ) (ls : List Line) → AreChecked ls → HaveFiles all sizes ls
    → Every IsFaultless ls → AreSteps all sizes ls
steps_by all sizes [] c f h = tt
steps_by all sizes (l ∷ ls) c f h =
    let r = is_row all sizes (l ∷ ls) c f in (
      record {
        path = h.0.path;
        rises = subst Rise r.row
            (tree_rises [] (grown_by all sizes (l ∷ ls)) r.clean r.sorted);
      },
      steps_by all sizes ls c.1 (fewer all sizes l ls f) h.1,
    )

steps : (m : ManifestLines) (sizes : List ℕ) → IsManifest m → AreSteps m.lines sizes (reverse m.lines)
steps m sizes h =
    let c = checked_lines m h.0 h.1 in
    let back : reverse m.lines ≡ c.latest = ap reverse c.reversed ∙ reverse-reverse c.latest in
    subst (AreSteps m.lines sizes) (sym back)
    (steps_by m.lines sizes c.latest c.checked (have_files m sizes c.latest c.reversed c.checked)
    (all_faultless c.latest c.checked))

steps_behind : (all : List Line) (sizes : List ℕ) (xs ys : List Line) → AreSteps all sizes (xs ++ ys)
    → AreSteps all sizes ys
steps_behind all sizes [] ys h = h
steps_behind all sizes (x ∷ xs) ys h = steps_behind all sizes xs ys h.1

pub step_at : (m : ManifestLines) (sizes : List ℕ) (i : ℕ) (d l : Line) → IsManifest m → i < length m.lines
    → l ≡ get_or m.lines i d → IsStep m.lines sizes l (reverse (take i m.lines))
step_at m sizes i d l w h e =
    let split : reverse m.lines ≡ reverse (drop (i + 1) m.lines) ++ l ∷ reverse (take i m.lines) =
    ap reverse (sym (take-append-drop (i + 1) m.lines)) ∙ reverse-append (take (i + 1) m.lines) (drop (i + 1) m.lines)
    ∙ ap (λ (ls : List Line). reverse (drop (i + 1) m.lines) ++ ls) (latest_at m.lines i d l h e) in
    (steps_behind m.lines sizes (reverse (drop (i + 1) m.lines)) (l ∷ reverse (take i m.lines))
    (subst (AreSteps m.lines sizes) split (steps m sizes w))).0

-- the root's path is a slash, and others are longer
no_name : (bs : List ℕ) → names_behind bs ≡ Some [] → nat_lt (length (47 ∷ bs)) 2 ≡ true
no_name [] h = refl
no_name (b ∷ bs) h =
    let p = pieces_some 47 (b ∷ bs) in
    elim (list_any is_bad_name (pieces 47 (b ∷ bs))) as
    (λ t. cond t None (Some (pieces 47 (b ∷ bs))) ≡ Some [] → nat_lt (length (47 ∷ b ∷ bs)) 2 ≡ true) [
      | true ↦ λ e. absurd (cc)
      | false ↦ λ e. let q = p.2 in absurd (cc)
    ] h

root_short : (path : List ℕ) → names_of path ≡ Some [] → nat_lt (length path) 2 ≡ true
root_short path h =
    let same = is_path path (ap is_some h) in
    let s = starts path (ap is_some (sym same ∙ h)) in
    subst (λ (p : List ℕ). nat_lt (length p) 2 ≡ true) (sym s.1) (no_name s.0 (sym s.2 ∙ sym same ∙ h))

some_name : (n : List ℕ) (ns : List (List ℕ)) → list_any is_bad_name (n ∷ ns) ≡ false
    → nat_lt (length (path_of (n ∷ ns))) 2 ≡ false
unfolding is_bad_name
some_name [] ns h = absurd (cc)
some_name (x ∷ n) ns h = le-ltb (length (47 ∷ x ∷ (n ++ path_of ns))) 2 (omega arith)

named_long : (path n : List ℕ) (ns : List (List ℕ)) → names_of path ≡ Some (n ∷ ns) → nat_lt (length path) 2 ≡ false
named_long path n ns h =
    let k = path_with_names path n ns h in
    subst (λ (p : List ℕ). nat_lt (length p) 2 ≡ false) (sym k.joined) (some_name n ns k.names)

-- a line more
pub step_puts : (all : List Line) (sizes : List ℕ) (l : Line) (ls : List Line) → IsStep all sizes l ls
    → put_file l (file_at all sizes l.path) (map by_key (entries_by all sizes ls))
    ≡ map by_key (entries_by all sizes (l ∷ ls))
step_puts all sizes l ls h = by (file_at all sizes l.path) (names_of l.path) refl h.path h.rises
  where
    by : (o : Option Inode) (names : Option (List (List ℕ))) → names_of l.path ≡ names
        → is_bad_path (is_dir l.word) names ≡ false
        → Rise (put_line_entry l o names (entries_by all sizes ls))
        → put_file l o (map by_key (entries_by all sizes ls))
        ≡ map by_key (put_line_entry l o names (entries_by all sizes ls))
    by o None e b r = absurd (cc)
    by None (Some []) e b r = rw (root_short l.path e) refl
    by (Some i) (Some []) e b r = rw (root_short l.path e) refl
    by None (Some (n ∷ ns)) e b r = rw (named_long l.path n ns e) refl
    by (Some i) (Some (n ∷ ns)) e b r =
        let w = what_by l.word i in
        rw (named_long l.path n ns e)
        (ap (λ (k : Keyed). put_keyed k (map by_key (entries_by all sizes ls))) (way_is l.path n ns w e)
        ∙ put_is (entry (key_of (n ∷ ns)) w) (entries_by all sizes ls) r)

-- no name of the tree has a zero byte
tree_clean : (m : ManifestLines) (sizes : List ℕ) → IsManifest m → HaveNoZeros (tree_of m.lines sizes)
unfolding tree_of
tree_clean m sizes h =
    let c = checked_lines m h.0 h.1 in
    let r = is_row m.lines sizes c.latest c.checked (have_files m sizes c.latest c.reversed c.checked) in
    subst HaveNoZeros (sym (ap (λ (ls : List Line). grown m.lines sizes ls nothing) c.reversed)) r.clean

-- the rows of all lines are those of the tree
pub rows_of : (m : ManifestLines) (sizes : List ℕ) → IsManifest m
    → map (λ k. k.row) (map by_key (entries_of m.lines sizes)) ≡ rows 1 (tree_of m.lines sizes)
rows_of m sizes h =
    plain (entries_of m.lines sizes) ∙ ap (map row_by) (sym (tree_row m sizes h))
    ∙ rows_are [] (tree_of m.lines sizes) (tree_clean m sizes h)
  where
    plain : (es : List Entry) → map (λ (k : Keyed). k.row) (map by_key es) ≡ map row_by es
    plain [] = refl
    plain (e ∷ es) = ap (λ (rs : List Row). row_by e ∷ rs) (plain es)

-- the rows of a map without their keys
pub values_are : {A : Type 0} (es : List (Vec ℕ A × code_row.Row))
    → map row_view (values_of es) ≡ map (λ k. k.row) (map (λ e. keyed e.0.items (row_view e.1)) es)
values_are [] = refl
values_are (e ∷ es) = ap (λ (rs : List Row). row_view e.1 ∷ rs) (values_are es)

-- The row of a manifest's tree has the entries of its lines, in order.
use Rattle.std.proofs.Common.{◌≡◌, ℕ, List, [], ◌∷◌, reverse, Option, None, Some, refl, sym, ap, subst, ◌∙◌}
use Rattle.std.proofs.lemmas.List.{reverse-reverse}
use Rattle.std.specs.List.{AllByRecursion as Every}
use Rattle.std.specs.Option.{option_and_then}
use Rattle.manifest.specs.declared.line.Line.{Line}
use Rattle.manifest.specs.Grammar.{IsManifest, fault_of}
use Rattle.manifest.specs.Lines.{ManifestLines}
use Rattle.manifest.specs.Paths.{names_of}
use Rattle.manifest.proofs.Checked.{AreChecked, checked_lines, sound_place}
use Rattle.manifest_tree.specs.Names.{Inode, Names, nothing}
use Rattle.manifest_tree.specs.Tree.{put_line, what_by, file_at, grown, tree_of}
use Rattle.manifest_tree.proofs.Found.{found}
use Rattle.manifest_tree.proofs.Law.{as_found, found_by, HaveFiles, have_files, grown_by, one_more, tree_found}
use Rattle.manifest_tree.proofs.Law.{parent_there, none_named, fewer}
use Rattle.manifest_layout.proofs.Plain.{names_no_zero}
use Rattle.manifest_layout.proofs.Sorted.{AreSorted, put_at_sorted, put_at_hold, last_of}
use Rattle.plan_rows.specs.Entries.{entries, entries_by, entries_of, put_line_entry, Rise}
use Rattle.plan_rows.proofs.Keys.{HasNoZero}
use Rattle.plan_rows.proofs.Rising.{tree_rises}
use Rattle.plan_rows.proofs.Putting.{HaveNoZeros, put_at_entries}

-- names have these entries as their row
pub record IsRow (n : Names) (all : List Line) (sizes : List ℕ) (ls : List Line) : Type 0 where
  pub sorted : AreSorted n
  pub clean : HaveNoZeros n
  pub row : entries [] n ≡ entries_by all sizes ls

last_clean : (m : List ℕ) (ms : List (List ℕ)) → Every HasNoZero (m ∷ ms) → HasNoZero (last_of m ms)
last_clean m [] z = z.0
last_clean m (x ∷ xs) z = last_clean x xs z.1

-- what a line adds, if its file and its names are these
added : (all : List Line) (sizes : List ℕ) (l : Line) (ls : List Line) (o : Option Inode)
    (names : Option (List (List ℕ)))
    → file_at all sizes l.path ≡ o → names_of l.path ≡ names
    → entries_by all sizes (l ∷ ls) ≡ put_line_entry l o names (entries_by all sizes ls)
added all sizes l ls o names g e = rw (g, e) refl

row_more : (all : List Line) (sizes : List ℕ) (l : Line) (ls : List Line) (n : Names) → fault_of ls l ≡ None
    → HaveFiles all sizes ls → ((k : List ℕ) (ks : List (List ℕ)) → found (k ∷ ks) n ≡ found_by all sizes ls (k ∷ ks))
    → IsRow n all sizes ls → IsRow (put_line l (file_at all sizes l.path) (names_of l.path) n) all sizes (l ∷ ls)
row_more all sizes l ls n c f same h = by (file_at all sizes l.path) (names_of l.path) refl refl
  where
    by : (o : Option Inode) (names : Option (List (List ℕ))) → file_at all sizes l.path ≡ o → names_of l.path ≡ names
        → IsRow (put_line l o names n) all sizes (l ∷ ls)
    by None names g e =
        record { sorted = h.sorted; clean = h.clean; row = h.row ∙ sym (added all sizes l ls None names g e) }
    by (Some i) None g e =
        record { sorted = h.sorted; clean = h.clean; row = h.row ∙ sym (added all sizes l ls (Some i) None g e) }
    by (Some i) (Some []) g e =
        record { sorted = h.sorted; clean = h.clean; row = h.row ∙ sym (added all sizes l ls (Some i) (Some []) g e) }
    by (Some i) (Some (m ∷ ms)) g e =
        let z = names_no_zero l.path m ms e in
        let parent = parent_there all sizes l ls m ms n c f e same in
        let none = same m ms ∙ ap (option_and_then (as_found all sizes))
        (none_named ls l.path m ms e (sound_place ls l c).1) in
        let w = what_by l.word i in
        record {
          sorted = put_at_sorted w m ms n parent none h.sorted;
          clean = put_at_hold (λ name v. HasNoZero name) w m ms n (last_clean m ms z) h.clean;
          row = put_at_entries [] w m ms n z h.clean h.sorted parent none
              ∙ ap (λ es. put_line_entry l (Some i) (Some (m ∷ ms)) es) h.row
              ∙ sym (added all sizes l ls (Some i) (Some (m ∷ ms)) g e);
        }

pub is_row : (all : List Line) (sizes : List ℕ) (ls : List Line) → AreChecked ls → HaveFiles all sizes ls
    → IsRow (grown_by all sizes ls) all sizes ls
is_row all sizes [] c f = record { sorted = tt; clean = tt; row = refl }
is_row all sizes (l ∷ ls) c f =
    let fs = fewer all sizes l ls f in
    subst (λ (n : Names). IsRow n all sizes (l ∷ ls)) (sym (one_more all sizes l ls))
    (row_more all sizes l ls (grown_by all sizes ls) c.0 fs (tree_found all sizes ls c.1 fs)
    (is_row all sizes ls c.1 fs))

-- and what follows for the tree of all lines
tree_is : (m : ManifestLines) (sizes : List ℕ) → IsManifest m
    → IsRow (tree_of m.lines sizes) m.lines sizes (reverse m.lines)
unfolding tree_of
tree_is m sizes h =
    let c = checked_lines m h.0 h.1 in
    let back : reverse m.lines ≡ c.latest = ap reverse c.reversed ∙ reverse-reverse c.latest in
    let r = is_row m.lines sizes c.latest c.checked (have_files m sizes c.latest c.reversed c.checked) in
    let same : grown m.lines sizes m.lines nothing ≡ grown_by m.lines sizes c.latest =
    ap (λ (ls : List Line). grown m.lines sizes ls nothing) c.reversed in
    subst (λ (n : Names). IsRow n m.lines sizes (reverse m.lines)) (sym same)
    (subst (λ (ls : List Line). IsRow (grown_by m.lines sizes c.latest) m.lines sizes ls) (sym back) r)

pub tree_row : (m : ManifestLines) (sizes : List ℕ) → IsManifest m
    → entries [] (tree_of m.lines sizes) ≡ entries_of m.lines sizes
tree_row m sizes h = (tree_is m sizes h).row

pub row_rises : (m : ManifestLines) (sizes : List ℕ) → IsManifest m → Rise (entries_of m.lines sizes)
row_rises m sizes h =
    let r = tree_is m sizes h in subst Rise r.row (tree_rises [] (tree_of m.lines sizes) r.clean r.sorted)

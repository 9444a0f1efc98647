-- What a map has of the first file with the contents of each source, while files are gone over.
use Rattle.std.proofs.Common.{◌≡◌, ◌==◌, cond, ℕ, true, false, Bool, Option, Some, None, inl, inr, refl, sym, ap}
use Rattle.std.proofs.Common.{◌∙◌, ◌+◌, ◌<◌, ◌≤◌, arith, List, [], ◌∷◌, map, drop, length, get_or}
use Rattle.std.proofs.lemmas.List.{drop_more, drop_all}
use Rattle.std.proofs.lemmas.Bool.{cases_lt, lt-ltb, le-ltb, true≢false}
use Rattle.std.proofs.lemmas.Bool.Decides.{eqb_tells}
use Rattle.std.specs.BTreeMap.{BTreeMap, get, Updates, is_at}
use Rattle.std.specs.Ordering.{nat_cmp}
use Rattle.std.specs.Option.{is_some}
use Rattle.manifest.specs.declared.line.Line.{Line}
use Rattle.manifest_tree.specs.Names.{Inode}
use Rattle.manifest_tree.specs.Tree.{tree_of}
use Rattle.linux_misreads.specs.Seen.{known_by}
use Rattle.linux_misreads.specs.Tables.{either}
use Rattle.linux_misreads.specs.declared.seen.Known.{Known}
use Rattle.plan_rows.specs.declared.row.Row as code_row
use Rattle.plan_rows.specs.declared.row.What as code_what
use Rattle.plan_rows.specs.declared.row.What.TheVariants as what
use Rattle.plan_rows.specs.Rows.{Row, inode_view, row_view, rows, what_view}
use Rattle.build_commands.specs.Planned.{file_in, first_with, has_same, kept_by, known_as, known_if}
use Rattle.build_commands.specs.Planned.{planned, source_in, AreFirst}

at_is : (p q : ℕ) → is_at (nat_cmp p) q ≡ (p == q)
at_is p q =
    elim (eqb_tells p q) [
      | inl e ↦ rw (le-ltb p q (omega arith), e.0) refl
      | inr n ↦ elim (cases_lt p q) [ inl l ↦ rw (lt-ltb p q l, n.0) refl | inr l ↦ rw (le-ltb p q l, n.0) refl ]
    ]

whole : (g : Option Known) → g ≡ either g None
whole None = refl
whole (Some k) = refl

-- nothing is noted of a file without a source
pub nothing_noted : (i : Inode) (k : ℕ) (g : Option Known) → None ≡ source_in i → g ≡ either g (known_as k i)
nothing_noted i k g e = whole g ∙ ap (λ (s : Option ℕ). either g (known_if k i s)) e

-- nor of one whose source is noted
pub noted_before : (m : BTreeMap ℕ Known) (i : Inode) (j : ℕ) → Some j ≡ source_in i → true ≡ is_some (get nat_cmp m j)
    → (k : ℕ) → get nat_cmp m k ≡ either (get nat_cmp m k) (known_as k i)
noted_before m i j e h k =
    there (get nat_cmp m k) refl ∙ ap (λ (s : Option ℕ). either (get nat_cmp m k) (known_if k i s)) e
  where
    none_is : (g : Option Known) → true ≡ is_some g → g ≡ None → known_if k i (Some j) ≡ None
    none_is None t f = absurd (true≢false t)
    none_is (Some v) t f = absurd (true≢false (ap is_some f))

    there : (g : Option Known) → get nat_cmp m k ≡ g → g ≡ either g (known_if k i (Some j))
    there (Some v) f = refl
    there None f =
        elim (eqb_tells j k) [
          | inl t ↦ sym (none_is (get nat_cmp m j) h (ap (get nat_cmp m) t.1 ∙ f))
          | inr n ↦ rw n.0 refl
        ]

-- the first of a source is noted
pub noted_now : (old new : BTreeMap ℕ Known) (i : Inode) (j : ℕ) (v : Known) → Some j ≡ source_in i
    → v ≡ known_by (planned 0 i) → false ≡ is_some (get nat_cmp old j) → Updates nat_cmp old new j (Some v)
    → (k : ℕ) → get nat_cmp new k ≡ either (get nat_cmp old k) (known_as k i)
noted_now old new i j v e f g u k =
    u.0 k ∙ (ap (λ (b : Bool). cond b (Some v) (get nat_cmp old k)) (at_is j k)
    ∙ (by_place ∙ ap (λ (s : Option ℕ). either (get nat_cmp old k) (known_if k i s)) e))
  where
    absent : (o : Option Known) → false ≡ is_some o → o ≡ None
    absent None t = refl
    absent (Some w) t = absurd (true≢false (sym t))

    by_place : cond (j == k) (Some v) (get nat_cmp old k) ≡ either (get nat_cmp old k) (known_if k i (Some j))
    by_place =
        elim (eqb_tells j k) [
          | inl t ↦
              let gone : get nat_cmp old k ≡ None = ap (get nat_cmp old) (sym t.1) ∙ absent (get nat_cmp old j) g in
              rw (t.0, gone) (ap Some f)
          | inr n ↦ rw n.0 (whole (get nat_cmp old k))
        ]

-- one file more
pub more_firsts : (old new : BTreeMap ℕ Known) (all : Option Known) (i : Inode) (before after : List Inode) (k : ℕ)
    → before ≡ i ∷ after → get nat_cmp new k ≡ either (get nat_cmp old k) (known_as k i)
    → either (get nat_cmp old k) (first_with k before) ≡ all → either (get nat_cmp new k) (first_with k after) ≡ all
more_firsts old new all i before after k e u h =
    ap (λ (g : Option Known). either g (first_with k after)) u
    ∙ (joined (get nat_cmp old k)
    ∙ (ap (λ (is : List Inode). either (get nat_cmp old k) (first_with k is)) (sym e) ∙ h))
  where
    joined : (g : Option Known) → either (either g (known_as k i)) (first_with k after)
        ≡ either g (either (known_as k i) (first_with k after))
    joined None = refl
    joined (Some v) = refl

-- behind the last file
pub all_firsts : (m : BTreeMap ℕ Known) (all : Option Known) (is : List Inode) (k : ℕ) → is ≡ []
    → either (get nat_cmp m k) (first_with k is) ≡ all → get nat_cmp m k ≡ all
all_firsts m all is k e h =
    whole (get nat_cmp m k) ∙ (ap (λ (v : List Inode). either (get nat_cmp m k) (first_with k v)) (sym e) ∙ h)

-- the files of rows
pub files_of : (rs : List code_row.Row) → map (λ r. file_in r.what) (map row_view rs) ≡ map (λ r. inode_view r.inode) rs
files_of [] = refl
files_of (r ∷ rs) = cc (one r.what, files_of rs)
  where
    one : (w : code_what.What) → file_in (what_view w (inode_view r.inode)) ≡ inode_view r.inode
    one what.Leaf = refl
    one what.Link = refl
    one what.Directory = refl

-- one row more
pub row_step : (old new : BTreeMap ℕ Known) (rs : List code_row.Row) (n : ℕ) (d : code_row.Row) → n < length rs
    → ((k : ℕ) → get nat_cmp new k ≡ either (get nat_cmp old k) (known_as k (inode_view (get_or rs n d).inode)))
    → ((k : ℕ) → either (get nat_cmp old k) (first_with k (map (λ r. inode_view r.inode) (drop n rs)))
    ≡ first_with k (map (λ r. inode_view r.inode) rs))
    → (k : ℕ) → either (get nat_cmp new k) (first_with k (map (λ r. inode_view r.inode) (drop (n + 1) rs)))
    ≡ first_with k (map (λ r. inode_view r.inode) rs)
row_step old new rs n d below u h k =
    more_firsts old new (first_with k (map (λ r. inode_view r.inode) rs)) (inode_view (get_or rs n d).inode)
    (map (λ r. inode_view r.inode) (drop n rs)) (map (λ r. inode_view r.inode) (drop (n + 1) rs)) k
    (ap (map (λ r. inode_view r.inode)) (drop_more rs n d below)) (u k) (h k)

pub no_files_from : (rs : List code_row.Row) (n : ℕ) → length rs ≤ n → map (λ r. inode_view r.inode) (drop n rs) ≡ []
no_files_from rs n h = ap (map (λ r. inode_view r.inode)) (drop_all n rs h)

-- two ways to say what is kept of each source
pub kept_alike : (f g : ℕ → Option Known) (o : Option ℕ) → ((k : ℕ) → f k ≡ g k) → kept_by f o ≡ kept_by g o
kept_alike f g None h = refl
kept_alike f g (Some k) h = h k

-- if a line is `same`, the map has what is kept of the first file of each source
pub are_first : (lines : List Line) (sizes : List ℕ) (m : BTreeMap ℕ Known) (rs : List code_row.Row)
    → has_same lines ≡ true → map row_view rs ≡ rows 1 (tree_of lines sizes)
    → ((k : ℕ) → get nat_cmp m k ≡ first_with k (map (λ r. inode_view r.inode) rs)) → AreFirst lines sizes m
are_first lines sizes m rs s e h k =
    h k ∙ (ap (first_with k) (sym (files_of rs))
    ∙ (ap (λ (v : List Row). first_with k (map (λ r. file_in r.what) v)) e
    ∙ ap (λ (b : Bool). cond b (first_with k (map (λ r. file_in r.what) (rows 1 (tree_of lines sizes)))) None) (sym s)))

pub none_first : (lines : List Line) (sizes : List ℕ) (m : BTreeMap ℕ Known) → has_same lines ≡ false
    → m.entries ≡ [] → AreFirst lines sizes m
none_first lines sizes m s e k = rw (s, e) refl

pub before_firsts : (m : BTreeMap ℕ Known) (all : List Inode) (k : ℕ) → m.entries ≡ []
    → either (get nat_cmp m k) (first_with k all) ≡ first_with k all
before_firsts m all k e = rw e refl

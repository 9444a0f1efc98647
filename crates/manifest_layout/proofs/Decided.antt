-- The least misfit, by computing.
use Rattle.std.proofs.Common.{◌≡◌, ℕ, ◌^◌, ◌<◌, ◌≤◌, ◌==◌, ◌||◌, nat_lt, not, Bool, true, false, ◌⊎◌, List, [], ◌∷◌}
use Rattle.std.proofs.Common.{length, refl, sym, ap, ◌∙◌, arith, inl, inr, Option, MatchOption, Some, None}
use Rattle.std.specs.Bool.{Decides}
use Rattle.std.proofs.lemmas.Bool.Decides.{Decides-eqb, Decides-ltb, Decides-or, Decides-not}
use Rattle.rom_fields.specs.declared.fault.Fault.{Fault}
use Rattle.record_forest.specs.Faults.{IsLeastFaultOf}
use Rattle.record_forest.specs.Lesser.{lesser_of_both}
use Rattle.record_forest.specs.Members.{Has}
use Rattle.record_forest.proofs.Noted.{least_joined}
use Rattle.manifest.specs.declared.line.Line.{Line}
use Rattle.manifest.specs.Lines.{ManifestLines, is_hard}
use Rattle.manifest.specs.Paths.{names_of}
use Rattle.manifest_tree.specs.Names.{Inode, Names, nothing, leaf, link, subdirectory}
use Rattle.manifest_tree.specs.Tree.{inode_of, tree_of}
use Rattle.manifest_tree.specs.Files.{height}
use Rattle.romfs_format.specs.Tree.{mode_named}
use Rattle.romfs_layout.specs.Layout.{number_of, runnable}
use Rattle.cramfs_layout.specs.Layout.{list_len}
use Rattle.formats.specs.Format.{Format, romfs, cramfs}
use Rattle.manifest_layout.specs.Format.{len_of, references_of}
use Rattle.manifest_layout.specs.Tests.{bad_attribute, is_large, is_long, is_long_volume, has_no_links, fault}
use Rattle.manifest_layout.specs.Tests.{number_by, number_of_line, at_line, of_lines, volume_by}
use Rattle.manifest_layout.specs.Misfit.{HasBadAttribute, IsLarge, IsLong, IsLongVolume, HasNoLinks, name_len}
use Rattle.manifest_layout.specs.Misfit.{HasMisfit, attribute, large, long_name, hard_link, HasLineMisfit, of_line}
use Rattle.manifest_layout.specs.Misfit.{of_volume, HasLongList, HasLongLists, HasWholeMisfit, long, long_list, deep}
use Rattle.manifest_layout.specs.Misfit.{many, IsLeastMisfit, line_misfit, whole_misfit, HasNoMisfit}

attribute_decides : (f : Format) (i : Inode) → Decides (bad_attribute f i) (HasBadAttribute f i)
attribute_decides romfs i =
    Decides-or (not (i.uid == 0)) _ (Decides-not (i.uid == 0) (Decides-eqb i.uid 0))
    (Decides-or (not (i.gid == 0)) _ (Decides-not (i.gid == 0) (Decides-eqb i.gid 0))
    (Decides-or (not (mode_named (number_of i.kind) (i.mode == runnable) == i.mode)) _
    (Decides-not (mode_named (number_of i.kind) (i.mode == runnable) == i.mode)
    (Decides-eqb (mode_named (number_of i.kind) (i.mode == runnable)) i.mode))
    (Decides-or (nat_lt 65535 i.major) (nat_lt 65535 i.minor) (Decides-ltb 65535 i.major) (Decides-ltb 65535 i.minor))))
attribute_decides (cramfs o) i =
    Decides-or (nat_lt 65535 i.uid) _ (Decides-ltb 65535 i.uid)
    (Decides-or (nat_lt 255 i.gid) _ (Decides-ltb 255 i.gid)
    (Decides-or (nat_lt 255 i.major) (nat_lt 255 i.minor) (Decides-ltb 255 i.major) (Decides-ltb 255 i.minor)))

le_decides : (a b : ℕ) → Decides (not (nat_lt a b)) (b ≤ a)
le_decides a b =
    let d = Decides-not (nat_lt a b) (Decides-ltb a b) in
    (λ e. let k = d.0 e in omega (arith, k), λ l. d.1 (λ k. absurd (omega arith)))

large_decides : (f : Format) (n : ℕ) → Decides (is_large f n) (IsLarge f n)
large_decides romfs n = Decides-ltb (2 ^ 28) n
large_decides (cramfs o) n = le_decides n (2 ^ 24)

never : Decides false ⊥
never = (λ e. absurd (cc), λ e. absurd e)

always : Decides true (Unit {0})
always = (λ e. tt, λ e. refl)

long_decides : (f : Format) (n : ℕ) → Decides (is_long f n) (IsLong f n)
long_decides romfs n = never
long_decides (cramfs o) n = Decides-ltb 252 n

volume_decides : (f : Format) (n : ℕ) → Decides (is_long_volume f n) (IsLongVolume f n)
volume_decides romfs n = never
volume_decides (cramfs o) n = Decides-ltb 16 n

links_decides : (f : Format) → Decides (has_no_links f) (HasNoLinks f)
links_decides romfs = never
links_decides (cramfs o) = always

-- a number is the least for which P holds, or there is none
abbrev LeastNumber : (ℕ → Type 0) → Option ℕ → Type 0
LeastNumber P None = (k : ℕ) → P k → ⊥
LeastNumber P (Some n) = P n × ((k : ℕ) → P k → n ≤ k)

number_is : (f : Format) (m : ManifestLines) (sizes : List ℕ) (l : Line) (h a b c d : Bool) → is_hard l.word ≡ h
    → Decides a (HasBadAttribute f (inode_of m.lines sizes l))
    → Decides b (IsLarge f (inode_of m.lines sizes l).size) → Decides c (IsLong f (name_len (names_of l.path)))
    → Decides d (HasNoLinks f) → LeastNumber (HasMisfit f m sizes l) (number_by h a b c d)
number_is f m sizes l false true b c d e p q r s = (attribute refl e (p.0 refl), λ k x. positive k x)
  where
    positive : (k : ℕ) → HasMisfit f m sizes l k → 1 ≤ k
    positive k (attribute n u v) = omega (arith, n)
    positive k (large n u) = omega (arith, n)
    positive k (long_name n u) = omega (arith, n)
    positive k (hard_link n u v) = omega (arith, n)
number_is f m sizes l false false true c d e p q r s = (large refl (q.0 refl), λ k x. more k x)
  where
    more : (k : ℕ) → HasMisfit f m sizes l k → 2 ≤ k
    more k (attribute n u v) = let z : false ≡ true = p.1 v in absurd (cc)
    more k (large n u) = omega (arith, n)
    more k (long_name n u) = omega (arith, n)
    more k (hard_link n u v) = omega (arith, n)
number_is f m sizes l false false false true d e p q r s = (long_name refl (r.0 refl), λ k x. more k x)
  where
    more : (k : ℕ) → HasMisfit f m sizes l k → 3 ≤ k
    more k (attribute n u v) = let z : false ≡ true = p.1 v in absurd (cc)
    more k (large n u) = let z : false ≡ true = q.1 u in absurd (cc)
    more k (long_name n u) = omega (arith, n)
    more k (hard_link n u v) = omega (arith, n)
number_is f m sizes l false false false false d e p q r s = λ k x. none k x
  where
    none : (k : ℕ) → HasMisfit f m sizes l k → ⊥
    none k (attribute n u v) = let z : false ≡ true = p.1 v in absurd (cc)
    none k (large n u) = let z : false ≡ true = q.1 u in absurd (cc)
    none k (long_name n u) = let z : false ≡ true = r.1 u in absurd (cc)
    none k (hard_link n u v) = let z : false ≡ true = sym e ∙ u in absurd (cc)
number_is f m sizes l true a true c d e p q r s = (large refl (q.0 refl), λ k x. more k x)
  where
    more : (k : ℕ) → HasMisfit f m sizes l k → 2 ≤ k
    more k (attribute n u v) = let z : false ≡ true = sym u ∙ e in absurd (cc)
    more k (large n u) = omega (arith, n)
    more k (long_name n u) = omega (arith, n)
    more k (hard_link n u v) = omega (arith, n)
number_is f m sizes l true a false true d e p q r s = (long_name refl (r.0 refl), λ k x. more k x)
  where
    more : (k : ℕ) → HasMisfit f m sizes l k → 3 ≤ k
    more k (attribute n u v) = let z : false ≡ true = sym u ∙ e in absurd (cc)
    more k (large n u) = let z : false ≡ true = q.1 u in absurd (cc)
    more k (long_name n u) = omega (arith, n)
    more k (hard_link n u v) = omega (arith, n)
number_is f m sizes l true a false false true e p q r s = (hard_link refl e (s.0 refl), λ k x. more k x)
  where
    more : (k : ℕ) → HasMisfit f m sizes l k → 4 ≤ k
    more k (attribute n u v) = let z : false ≡ true = sym u ∙ e in absurd (cc)
    more k (large n u) = let z : false ≡ true = q.1 u in absurd (cc)
    more k (long_name n u) = let z : false ≡ true = r.1 u in absurd (cc)
    more k (hard_link n u v) = omega (arith, n)
number_is f m sizes l true a false false false e p q r s = λ k x. none k x
  where
    none : (k : ℕ) → HasMisfit f m sizes l k → ⊥
    none k (attribute n u v) = let z : false ≡ true = sym u ∙ e in absurd (cc)
    none k (large n u) = let z : false ≡ true = q.1 u in absurd (cc)
    none k (long_name n u) = let z : false ≡ true = r.1 u in absurd (cc)
    none k (hard_link n u v) = let z : false ≡ true = s.1 v in absurd (cc)

abbrev OfLine : Format → ManifestLines → List ℕ → Line → Fault → Type 0
OfLine f m sizes l e = (e.at ≡ l.number) × HasMisfit f m sizes l e.number

line_is : (f : Format) (m : ManifestLines) (sizes : List ℕ) (l : Line) (o : Option ℕ)
    → LeastNumber (HasMisfit f m sizes l) o → IsLeastFaultOf (OfLine f m sizes l) (at_line l.number o)
line_is f m sizes l None h = record { here = tt; least = λ d x. h d.number x.1 }
line_is f m sizes l (Some k) h = record { here = (refl, h.0); least = λ d x. inr (sym x.0, h.1 d.number x.1) }

lines_are : (f : Format) (m : ManifestLines) (sizes : List ℕ) (ls : List Line)
    → IsLeastFaultOf (λ e. Has (λ l. OfLine f m sizes l e) ls) (of_lines f m sizes ls)
lines_are f m sizes [] = record { here = tt; least = λ d x. absurd x }
lines_are f m sizes (l ∷ ls) =
    let i = inode_of m.lines sizes l in
    let n = name_len (names_of l.path) in
    let one = number_is f m sizes l (is_hard l.word) (bad_attribute f i) (is_large f i.size) (is_long f n)
    (has_no_links f) refl (attribute_decides f i) (large_decides f i.size) (long_decides f n) (links_decides f) in
    least_joined {P = OfLine f m sizes l} {Q = λ e. Has (λ l. OfLine f m sizes l e) ls}
    {R = λ e. OfLine f m sizes l e ⊎ Has (λ l. OfLine f m sizes l e) ls} (λ e x. inl x) (λ e x. inr x) (λ e x. x)
    (at_line l.number (number_of_line f m sizes l)) (of_lines f m sizes ls)
    (line_is f m sizes l (number_of_line f m sizes l) one) (lines_are f m sizes ls)

abbrev OfVolume : Format → ManifestLines → Fault → Type 0
OfVolume f m e = IsLongVolume f (length m.volume) × (e ≡ fault 3 m.volume_line)

volume_is : (f : Format) (m : ManifestLines) (b : Bool) → Decides b (IsLongVolume f (length m.volume))
    → IsLeastFaultOf (OfVolume f m) (volume_by b m.volume_line)
volume_is f m true h = record {
  here = (h.0 refl, refl);
  least = λ d x. inr (
    ap (λ (e : Fault). e.at) (sym x.1),
    let n = ap (λ (e : Fault). e.number) x.1 in omega (arith, n),
  );
}
volume_is f m false h = record { here = tt; least = λ d x. let z : false ≡ true = h.1 x.0 in absurd (cc) }

abbrev pub least_line : Format → ManifestLines → List ℕ → Option Fault
least_line f m sizes =
    lesser_of_both (of_lines f m sizes m.lines) (volume_by (is_long_volume f (length m.volume)) m.volume_line)

pub least_line_is : (f : Format) (m : ManifestLines) (sizes : List ℕ)
    → IsLeastFaultOf (HasLineMisfit f m sizes) (least_line f m sizes)
least_line_is f m sizes =
    least_joined {P = λ e. Has (λ l. OfLine f m sizes l e) m.lines} {Q = OfVolume f m} {R = HasLineMisfit f m sizes}
    (λ e x. of_line x) (λ e x. of_volume x.0 x.1) either
    (of_lines f m sizes m.lines) (volume_by (is_long_volume f (length m.volume)) m.volume_line)
    (lines_are f m sizes m.lines) (volume_is f m (is_long_volume f (length m.volume))
    (volume_decides f (length m.volume)))
  where
    either : (e : Fault) → HasLineMisfit f m sizes e → Has (λ l. OfLine f m sizes l e) m.lines ⊎ OfVolume f m e
    either e (of_line x) = inl x
    either e (of_volume x y) = inr (x, y)

abbrev pub has_long_list : Names → Bool
has_long_list nothing = false
has_long_list (leaf name i after) = has_long_list after
has_long_list (link name i after) = has_long_list after
has_long_list (subdirectory name i own after) =
    not (nat_lt (list_len own) (2 ^ 24)) || (has_long_list own || has_long_list after)

long_list_decides : (n : Names) → Decides (has_long_list n) (HasLongList n)
long_list_decides nothing = never
long_list_decides (leaf name i after) = long_list_decides after
long_list_decides (link name i after) = long_list_decides after
long_list_decides (subdirectory name i own after) =
    Decides-or (not (nat_lt (list_len own) (2 ^ 24))) (has_long_list own || has_long_list after)
    (le_decides (list_len own) (2 ^ 24))
    (Decides-or (has_long_list own) (has_long_list after) (long_list_decides own) (long_list_decides after))

abbrev pub has_long_lists : Format → Names → Bool
has_long_lists romfs n = false
has_long_lists (cramfs o) n = not (nat_lt (list_len n) (2 ^ 24)) || has_long_list n

long_lists_decides : (f : Format) (n : Names) → Decides (has_long_lists f n) (HasLongLists f n)
long_lists_decides romfs n = never
long_lists_decides (cramfs o) n = Decides-or (not (nat_lt (list_len n) (2 ^ 24))) (has_long_list n)
    (le_decides (list_len n) (2 ^ 24)) (long_list_decides n)

abbrev pub whole_test : Format → ManifestLines → List ℕ → Bool
whole_test f m sizes =
    nat_lt (2 ^ 28) (len_of f m sizes)
    || (has_long_lists f (tree_of m.lines sizes)
    || (nat_lt 64 (height (tree_of m.lines sizes)) || nat_lt (2 ^ 20) (references_of f m sizes)))

pub whole_decides : (f : Format) (m : ManifestLines) (sizes : List ℕ)
    → Decides (whole_test f m sizes) (HasWholeMisfit f m sizes)
whole_decides f m sizes =
    let n = tree_of m.lines sizes in
    let d = Decides-or (nat_lt (2 ^ 28) (len_of f m sizes))
    (has_long_lists f n || (nat_lt 64 (height n) || nat_lt (2 ^ 20) (references_of f m sizes)))
    (Decides-ltb (2 ^ 28) (len_of f m sizes))
    (Decides-or (has_long_lists f n) (nat_lt 64 (height n) || nat_lt (2 ^ 20) (references_of f m sizes))
    (long_lists_decides f n)
    (Decides-or (nat_lt 64 (height n)) (nat_lt (2 ^ 20) (references_of f m sizes)) (Decides-ltb 64 (height n))
    (Decides-ltb (2 ^ 20) (references_of f m sizes)))) in
    (λ e. to (d.0 e), λ h. d.1 (from h))
  where
    to : (2 ^ 28 < len_of f m sizes) ⊎
        (HasLongLists f (tree_of m.lines sizes)
        ⊎ ((64 < height (tree_of m.lines sizes)) ⊎ (2 ^ 20 < references_of f m sizes)))
        → HasWholeMisfit f m sizes
    to (inl x) = long x
    to (inr (inl x)) = long_list x
    to (inr (inr (inl x))) = deep x
    to (inr (inr (inr x))) = many x

    from : HasWholeMisfit f m sizes
        → (2 ^ 28 < len_of f m sizes) ⊎ (HasLongLists f (tree_of m.lines sizes)
        ⊎ ((64 < height (tree_of m.lines sizes)) ⊎ (2 ^ 20 < references_of f m sizes)))
    from (long x) = inl x
    from (long_list x) = inr (inl x)
    from (deep x) = inr (inr (inl x))
    from (many x) = inr (inr (inr x))

abbrev whole_by : Bool → Option Fault
whole_by true = Some (fault 2 0)
whole_by false = None

abbrev else_whole : Option Fault → Bool → Option Fault
else_whole None b = whole_by b
else_whole (Some e) b = Some e

abbrev pub least_misfit : Format → ManifestLines → List ℕ → Option Fault
least_misfit f m sizes = else_whole (least_line f m sizes) (whole_test f m sizes)

-- the manifest has this as its least misfit, or fits
abbrev pub Judged : Format → ManifestLines → List ℕ → Option Fault → Type 0
Judged f m sizes None = HasNoMisfit f m sizes
Judged f m sizes (Some e) = IsLeastMisfit f m sizes e

pub decided : (f : Format) (m : ManifestLines) (sizes : List ℕ) → Judged f m sizes (least_misfit f m sizes)
decided f m sizes = by (least_line f m sizes) (whole_test f m sizes) (least_line_is f m sizes) (whole_decides f m sizes)
  where
    by : (o : Option Fault) (b : Bool) → IsLeastFaultOf (HasLineMisfit f m sizes) o
        → Decides b (HasWholeMisfit f m sizes) → Judged f m sizes (else_whole o b)
    by (Some e) b h d = line_misfit (record { here = h.here; least = λ c x. h.least c x })
    by None true h d = whole_misfit (λ e x. h.least e x) (d.0 refl) refl
    by None false h d = record { lines = λ e x. h.least e x; whole = λ x. let z : false ≡ true = d.1 x in absurd (cc) }

pub answered : (f : Format) (m : ManifestLines) (sizes : List ℕ)
    → MatchOption (least_misfit f m sizes) (HasNoMisfit f m sizes) (IsLeastMisfit f m sizes)
answered f m sizes = by (least_misfit f m sizes) (decided f m sizes)
  where
    by : (o : Option Fault) → Judged f m sizes o → MatchOption o (HasNoMisfit f m sizes) (IsLeastMisfit f m sizes)
    by None h = h
    by (Some e) h = h

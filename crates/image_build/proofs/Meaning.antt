-- What the tree of a streamed image is, by the lines of its files.
use Rattle.std.proofs.Common.{◌≡◌, ◌≢◌, ℕ, true, false, if◌then◌else◌, ◌⊎◌, inl, inr, List, [], ◌∷◌, length, get_or}
use Rattle.std.proofs.Common.{Option, Some, None, refl, sym, ap, subst, ◌∙◌}
use Rattle.std.proofs.lemmas.Bool.{eq-eqb, ne_eqb}
use Rattle.std.specs.Option.{option_map, option_and_then}
use Rattle.std.specs.Str.{bytes_eq}
use Rattle.std.specs.List.{AllByRecursion as Every}
use Rattle.record_forest.specs.Members.{Pairs}
use Rattle.record_forest.proofs.Lists.{every_weaker, every_both, every_left, every_right}
use Rattle.rom_tree.specs.Tree.{Node}
use Rattle.manifest.specs.Grammar.{IsManifest}
use Rattle.manifest.specs.Lines.{ManifestLines}
use Rattle.manifest_tree.specs.Meant.{IsMeant}
use Rattle.manifest_tree.specs.Names.{Fill, no_bytes, text, source, Inode, Names, nothing, leaf, link, subdirectory}
use Rattle.manifest_tree.specs.Names.{bytes_of}
use Rattle.manifest_tree.specs.Shape.{Value, Named, with_names, find_name, file_under, file_value, HasShape}
use Rattle.manifest_tree.specs.Tree.{tree_of, root_of, file_named}
use Rattle.manifest_tree.specs.Files.{files}
use Rattle.romfs_layout.specs.Wells.{AreLinks, file_of}
use Rattle.cramfs_layout.specs.Wells.{AreWell}
use Rattle.cramfs_layout.specs.Planned.{IsPlanned}
use Rattle.image_build.specs.Each.{bytes_given, value_given, IsMeantEach}
use Rattle.image_build.proofs.Owned.{own_fill, own_file, own_names, HasOwn, found_has}

-- the contents of each line have a property
abbrev pub IsGivenEach : (ℕ → List ℕ → Type 0) → (ℕ → List ℕ) → ManifestLines → List ℕ → Type 0
IsGivenEach G b m sizes =
    (q : List (List ℕ)) (i : Inode) (k : ℕ) → file_named m.lines sizes q ≡ Some i → i.fill ≡ source k → G k (b i.line)

-- what a list of names leads to
abbrev pub Leads : Type 0
Leads = (m : ManifestLines) (sizes : List ℕ) (q : List (List ℕ)) → IsManifest m
    → file_under q (with_names (root_of m.lines sizes) (tree_of m.lines sizes)) ≡ file_named m.lines sizes q

-- something holds of each file of names, further names among them
abbrev pub HoldsOf : (Inode → Type 0) → Names → Type 0
HoldsOf P nothing = Unit {0}
HoldsOf P (leaf name i after) = P i × HoldsOf P after
HoldsOf P (link name i after) = P i × HoldsOf P after
HoldsOf P (subdirectory name i own after) = P i × HoldsOf P own × HoldsOf P after

module _ (P : Inode → Type 0) where
  abbrev Held : Option Named → Type 0
  Held None = Unit {0}
  Held (Some x) = P x.inode × HoldsOf P x.own

  found_held : (n : Names) (m : List ℕ) → HoldsOf P n → Held (find_name n m)
  found_held nothing m h = tt
  found_held (leaf name i after) m h =
      elim (bytes_eq name m) as (λ t. Held (if t then Some (with_names i nothing) else find_name after m)) [
        | true ↦ (h.0, tt)
        | false ↦ found_held after m h.1
      ]
  found_held (link name i after) m h =
      elim (bytes_eq name m) as (λ t. Held (if t then Some (with_names i nothing) else find_name after m)) [
        | true ↦ (h.0, tt)
        | false ↦ found_held after m h.1
      ]
  found_held (subdirectory name i own after) m h =
      elim (bytes_eq name m) as (λ t. Held (if t then Some (with_names i own) else find_name after m)) [
        | true ↦ (h.0, h.1)
        | false ↦ found_held after m h.2
      ]

  same_some : {X : Type 0} (x y : X) → Some x ≡ Some y → x ≡ y
  same_some x y e = cc

  held_next : (ms : List (List ℕ)) (i : Inode) (o : Option Named) → Held o
      → ((y : Named) → P y.inode → HoldsOf P y.own → file_under ms y ≡ Some i → P i)
      → option_and_then (λ y. file_under ms y) o ≡ Some i → P i
  held_next ms i None k go e = absurd (cc)
  held_next ms i (Some y) k go e = go y k.0 k.1 e

  pub under_held : (q : List (List ℕ)) (x : Named) (i : Inode) → P x.inode → HoldsOf P x.own → file_under q x ≡ Some i
      → P i
  under_held [] x i p h e = subst P (same_some x.inode i e) p
  under_held (m ∷ ms) x i p h e =
      held_next ms i (find_name x.own m) (found_held x.own m h) (λ y k l f. under_held ms y i k l f) e

  -- of the files only, if further names are of these
  pub links_held : (all : List Inode) (n : Names) → Every P all → Every P (files n) → AreLinks all n → HoldsOf P n
  links_held all nothing a h l = tt
  links_held all (leaf name i after) a h l = (h.0, links_held all after a h.1 l)
  links_held all (link name i after) a h l = (found_has P all i.line i a l.0, links_held all after a h l.1)
  links_held all (subdirectory name i own after) a h l = (
    h.0,
    links_held all own a (every_left P (files own) (files after) h.1) l.0,
    links_held all after a (every_right P (files own) (files after) h.1) l.1,
  )

-- names with sources of their own lead to the same files, with these
abbrev pub own_named : Named → Named
own_named x = with_names (own_file x.inode) (own_names x.own)

find_own : (n : Names) (m : List ℕ) → find_name (own_names n) m ≡ option_map own_named (find_name n m)
find_own nothing m = refl
find_own (leaf name i after) m = elim (bytes_eq name m) as
    (λ t. (if t then Some (with_names (own_file i) nothing) else find_name (own_names after) m)
    ≡ option_map own_named (if t then Some (with_names i nothing) else find_name after m)) [
      | true ↦ refl
      | false ↦ find_own after m
    ]
find_own (link name i after) m = elim (bytes_eq name m) as
    (λ t. (if t then Some (with_names (own_file i) nothing) else find_name (own_names after) m)
    ≡ option_map own_named (if t then Some (with_names i nothing) else find_name after m)) [
      | true ↦ refl
      | false ↦ find_own after m
    ]
find_own (subdirectory name i own after) m =
    elim (bytes_eq name m) as (λ t. (if t then Some (with_names (own_file i) (own_names own))
    else find_name (own_names after) m)
    ≡ option_map own_named (if t then Some (with_names i own) else find_name after m)) [
      | true ↦ refl
      | false ↦ find_own after m
    ]

own_next : (ms : List (List ℕ)) (o : Option Named)
    → ((y : Named) → file_under ms (own_named y) ≡ option_map own_file (file_under ms y))
    → option_and_then (λ y. file_under ms y) (option_map own_named o)
    ≡ option_map own_file (option_and_then (λ y. file_under ms y) o)
own_next ms None go = refl
own_next ms (Some y) go = go y

pub under_own : (q : List (List ℕ)) (x : Named) → file_under q (own_named x) ≡ option_map own_file (file_under q x)
under_own [] x = refl
under_own (m ∷ ms) x =
    ap (option_and_then (λ y. file_under ms y)) (find_own x.own m)
    ∙ own_next ms (find_name x.own m) (λ y. under_own ms y)

bytes_own : (cs : List (List ℕ)) (line : ℕ) (f : Fill)
    → bytes_of cs (own_fill line f) ≡ bytes_given (get_or cs line []) f
bytes_own cs line no_bytes = refl
bytes_own cs line (text t) = refl
bytes_own cs line (source k) = refl

value_own : (cs : List (List ℕ)) (i : Inode) → file_value cs (own_file i) ≡ value_given (λ line. get_or cs line []) i
unfolding file_value value_given
value_own cs i =
    ap (λ (b : List ℕ). record {
      kind = i.kind;
      mode = i.mode;
      uid = i.uid;
      gid = i.gid;
      major = i.major;
      minor = i.minor;
      bytes = b;
    }) (bytes_own cs i.line i.fill)

values_own : (cs : List (List ℕ)) (o : Option Inode)
    → option_map (file_value cs) (option_map own_file o) ≡ option_map (value_given (λ line. get_or cs line [])) o
values_own cs None = refl
values_own cs (Some i) = ap Some (value_own cs i)

-- a tree of the shape of these names is what the manifest means with the contents of each line
pub meant_of_own : Leads → (m : ManifestLines) (sizes : List ℕ) (bytes : List ℕ) (t : Node) (cs : List (List ℕ))
    → IsManifest m
    → (root_of m.lines sizes).fill ≡ no_bytes → Every (HasOwn cs) (files (tree_of m.lines sizes))
    → AreLinks (files (tree_of m.lines sizes)) (tree_of m.lines sizes)
    → HasShape bytes t cs (own_file (root_of m.lines sizes)) (own_names (tree_of m.lines sizes))
    → IsMeantEach bytes t (λ line. get_or cs line []) m sizes
meant_of_own leads m sizes bytes t cs hm bare own links shape =
    let root = root_of m.lines sizes in
    let n = tree_of m.lines sizes in
    let x = with_names root n in
    let all = links_held (HasOwn cs) (files n) n own own links in
    let top : HasOwn cs root = λ k e. let z : no_bytes ≡ source k = sym bare ∙ e in absurd (cc) in
    let to : (q : List (List ℕ)) → file_under q (own_named x) ≡ option_map own_file (file_named m.lines sizes q) =
    λ q. under_own q x ∙ ap (option_map own_file) (leads m sizes q hm) in
    record {
      values =
          λ q. shape.values q ∙ ap (option_map (file_value cs)) (to q) ∙ values_own cs (file_named m.lines sizes q);
      sized = λ q i k e f. under_held (HasOwn cs) q x i top all (leads m sizes q hm ∙ e) k f;
      shared = λ p q y z i j a b e f. shape.shared p q y z (own_file i) (own_file j) a b
          (to p ∙ ap (option_map own_file) e) (to q ∙ ap (option_map own_file) f);
    }

-- of cramfs, if files with the contents of one source share them
pub every_found : (is : List Inode) → Pairs (λ i j. i.line ≢ j.line) is → Every (λ i. file_of is i.line ≡ Some i) is
every_found [] p = tt
every_found (x ∷ xs) p = (
  rw (eq-eqb x.line x.line refl) refl,
  every_weaker (λ j. (x.line ≢ j.line) × (file_of xs j.line ≡ Some j)) (λ j. file_of (x ∷ xs) j.line ≡ Some j)
      (λ j k. rw (ne_eqb x.line j.line k.0) k.1) xs
      (every_both (λ j. x.line ≢ j.line) (λ j. file_of xs j.line ≡ Some j) xs p.0 (every_found xs p.1)),
)

-- the bytes of the file of a line
abbrev bytes_with : List (List ℕ) → Option Inode → List ℕ
bytes_with cs None = []
bytes_with cs (Some i) = bytes_of cs i.fill

abbrev pub bytes_at : List (List ℕ) → Names → ℕ → List ℕ
bytes_at cs n line = bytes_with cs (file_of (files n) line)

-- the file of a line, with its bytes; or one without bytes
abbrev IsFound : List (List ℕ) → List Inode → Inode → Type 0
IsFound cs all i = ((file_of all i.line ≡ Some i) × (length (bytes_of cs i.fill) ≡ i.size)) ⊎ (i.fill ≡ no_bytes)

files_found : (cs : List (List ℕ)) (all : List Inode) (n : Names) → AreWell cs n
    → Every (λ i. file_of all i.line ≡ Some i) (files n)
    → HoldsOf (IsFound cs all) n
files_found cs all nothing w h = tt
files_found cs all (leaf name i after) w h = (inl (h.0, w.1.bytes), files_found cs all after w.2 h.1)
files_found cs all (link name i after) w h = absurd w
files_found cs all (subdirectory name i own after) w h =
    let P : Inode → Type 0 = λ i. file_of all i.line ≡ Some i in (
      inr w.1.bytes,
      files_found cs all own w.2 (every_left P (files own) (files after) h.1),
      files_found cs all after w.3 (every_right P (files own) (files after) h.1),
    )

bytes_again : (cs : List (List ℕ)) (f : Fill) → bytes_of cs f ≡ bytes_given (bytes_of cs f) f
bytes_again cs no_bytes = refl
bytes_again cs (text t) = refl
bytes_again cs (source k) = refl

bytes_found : (cs : List (List ℕ)) (n : Names) (i : Inode) → IsFound cs (files n) i
    → bytes_of cs i.fill ≡ bytes_given (bytes_at cs n i.line) i.fill
bytes_found cs n i (inl e) =
    bytes_again cs i.fill ∙ ap (λ (o : Option Inode). bytes_given (bytes_with cs o) i.fill) (sym e.0)
bytes_found cs n i (inr e) = ap (bytes_of cs) e ∙ sym (ap (bytes_given (bytes_at cs n i.line)) e)

value_found : (cs : List (List ℕ)) (n : Names) (i : Inode) → IsFound cs (files n) i
    → file_value cs i ≡ value_given (bytes_at cs n) i
unfolding file_value value_given
value_found cs n i h =
    ap (λ (b : List ℕ). record {
      kind = i.kind;
      mode = i.mode;
      uid = i.uid;
      gid = i.gid;
      major = i.major;
      minor = i.minor;
      bytes = b;
    }) (bytes_found cs n i h)

values_found : (cs : List (List ℕ)) (n : Names) (o : Option Inode) → ((i : Inode) → o ≡ Some i → IsFound cs (files n) i)
    → option_map (file_value cs) o ≡ option_map (value_given (bytes_at cs n)) o
values_found cs n None h = refl
values_found cs n (Some i) h = ap Some (value_found cs n i (h i refl))

long_found : (cs : List (List ℕ)) (n : Names) (i : Inode) (k : ℕ) → IsFound cs (files n) i → i.fill ≡ source k
    → length (bytes_at cs n i.line) ≡ i.size
long_found cs n i k (inl e) f = ap (λ (o : Option Inode). length (bytes_with cs o)) e.0 ∙ e.1
long_found cs n i k (inr e) f = let z : no_bytes ≡ source k = sym e ∙ f in absurd (cc)

pub meant_of_sources : Leads → (m : ManifestLines) (sizes : List ℕ) (bytes : List ℕ) (t : Node) (cs : List (List ℕ))
    → IsManifest m
    → IsPlanned m.volume (root_of m.lines sizes) (tree_of m.lines sizes) cs → IsMeant bytes t cs m sizes
    → IsMeantEach bytes t (bytes_at cs (tree_of m.lines sizes)) m sizes
meant_of_sources leads m sizes bytes t cs hm plan meant =
    let n = tree_of m.lines sizes in
    let x = with_names (root_of m.lines sizes) n in
    let all = files_found cs (files n) n plan.well (every_found (files n) plan.lines.1) in
    let found : (q : List (List ℕ)) (i : Inode) → file_named m.lines sizes q ≡ Some i → IsFound cs (files n) i =
    λ q i e. under_held (IsFound cs (files n)) q x i (inr plan.directory.bytes) all (leads m sizes q hm ∙ e) in
    record {
      values = λ q. meant.values q ∙ values_found cs n (file_named m.lines sizes q) (found q);
      sized = λ q i k e f. long_found cs n i k (found q i e) f;
      shared = meant.shared;
    }

-- what holds of the contents of each file holds at each path
pub given_of_own : (G : ℕ → List ℕ → Type 0) → Leads → (m : ManifestLines) (sizes : List ℕ) (cs : List (List ℕ))
    → IsManifest m
    → (root_of m.lines sizes).fill ≡ no_bytes
    → Every (λ i. (k : ℕ) → i.fill ≡ source k → G k (get_or cs i.line [])) (files (tree_of m.lines sizes))
    → AreLinks (files (tree_of m.lines sizes)) (tree_of m.lines sizes)
    → IsGivenEach G (λ line. get_or cs line []) m sizes
given_of_own G leads m sizes cs hm bare own links =
    let root = root_of m.lines sizes in
    let n = tree_of m.lines sizes in
    let P : Inode → Type 0 = λ i. (k : ℕ) → i.fill ≡ source k → G k (get_or cs i.line []) in
    let all = links_held P (files n) n own own links in
    let top : P root = λ k e. let z : no_bytes ≡ source k = sym bare ∙ e in absurd (cc) in
    λ q i k e f. under_held P q (with_names root n) i top all (leads m sizes q hm ∙ e) k f

-- the bytes of a line with a source
pub at_source : Leads → (m : ManifestLines) (sizes : List ℕ) (cs : List (List ℕ)) → IsManifest m
    → IsPlanned m.volume (root_of m.lines sizes) (tree_of m.lines sizes) cs
    → (q : List (List ℕ)) (i : Inode) (k : ℕ) → file_named m.lines sizes q ≡ Some i → i.fill ≡ source k
    → bytes_at cs (tree_of m.lines sizes) i.line ≡ get_or cs k []
at_source leads m sizes cs hm plan q i k e f =
    let n = tree_of m.lines sizes in
    let all = files_found cs (files n) n plan.well (every_found (files n) plan.lines.1) in
    let found = under_held (IsFound cs (files n)) q (with_names (root_of m.lines sizes) n) i
    (inr plan.directory.bytes) all
    (leads m sizes q hm ∙ e) in
    sym (ap (bytes_given (bytes_at cs n i.line)) f) ∙ sym (bytes_found cs n i found) ∙ ap (bytes_of cs) f

one_value : (x y : Value) → Some x ≡ Some y → x ≡ y
one_value x y e = cc

-- two contents of which one tree is what the manifest means are the same at each path
same_bytes : (cs ds : List (List ℕ)) (i : Inode) → Some (file_value cs i) ≡ Some (file_value ds i)
    → bytes_of cs i.fill ≡ bytes_of ds i.fill
unfolding file_value
same_bytes cs ds i e = ap (λ (v : Value). v.bytes) (one_value (file_value cs i) (file_value ds i) e)

pub same_source : (m : ManifestLines) (sizes : List ℕ) (bytes : List ℕ) (t : Node) (cs ds : List (List ℕ))
    → IsMeant bytes t cs m sizes → IsMeant bytes t ds m sizes
    → (q : List (List ℕ)) (i : Inode) (k : ℕ) → file_named m.lines sizes q ≡ Some i → i.fill ≡ source k
    → get_or ds k [] ≡ get_or cs k []
same_source m sizes bytes t cs ds one two q i k e f =
    let values : option_map (file_value ds) (file_named m.lines sizes q)
    ≡ option_map (file_value cs) (file_named m.lines sizes q) = sym (two.values q) ∙ one.values q in
    let same : Some (file_value ds i) ≡ Some (file_value cs i) =
    sym (ap (option_map (file_value ds)) e) ∙ values ∙ ap (option_map (file_value cs)) e in
    sym (ap (bytes_of ds) f) ∙ same_bytes ds cs i same ∙ ap (bytes_of cs) f

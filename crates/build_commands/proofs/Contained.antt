-- The contents of the regular files that were found.
use Rattle.std.proofs.Common.{◌≡◌, ℕ, ◌+◌, Bool, true, false, cond, List, [], ◌∷◌, ◌++◌, Option, None, Some, refl}
use Rattle.std.proofs.Common.{sym, ap, subst, ◌∙◌, ◌⊎◌, inl, inr, append_assoc, append-nil, get_or}
use Rattle.std.proofs.Common.{string_bytes}
use Rattle.std.specs.Prelude.{find, unwrap_or, IsSomeAnd}
use Rattle.std.specs.List.{AllByRecursion as Every, Contains}
use Rattle.std.specs.Option.{option_map}
use Rattle.record_forest.proofs.Lists.{every_join, every_right, every_weaker}
use Rattle.formats.specs.declared.format.Format.{Format}
use Rattle.formats.specs.declared.format.Format.TheVariants.{Romfs, Cramfs, CramfsBig}
use Rattle.rom_tree.specs.Image.{contents_of}
use Rattle.rom_tree.specs.Tree.{Node, kind_of}
use Rattle.rom_tree.specs.declared.types.Kind.TheVariants as node_kind
use Rattle.manifest.specs.declared.line.Line.{Line}
use Rattle.manifest.specs.Grammar.{fault_of}
use Rattle.manifest.specs.Lines.{filed, sources_of}
use Rattle.manifest.specs.Paths.{names_of}
use Rattle.manifest.specs.Printed.{AreTaken, as_read, first_number, numbered, numbered_from}
use Rattle.manifest_tree.specs.Meant.{IsMeant}
use Rattle.manifest_tree.specs.Shape.{Value, file_value, node_under, node_value}
use Rattle.manifest_tree.specs.Tree.{sources_before, with_contents}
use Rattle.build_commands.specs.Contents.{HasItsContents, HaveOneKind}
use Rattle.build_commands.specs.Inventory.{first_link, found_line, is_linked, line_by, lines_behind}
use Rattle.build_commands.specs.Inventory.{lines_found, name_line, path_of, plain_line}
use Rattle.build_commands.specs.Reported.{AreOfOne, kind_named}
use Rattle.build_commands.specs.declared.inventory.FileKind.{FileKind}
use Rattle.build_commands.specs.declared.inventory.FileKind.TheVariants as kind
use Rattle.build_commands.specs.declared.inventory.NamedFile.{NamedFile}
use Rattle.build_commands.proofs.Filed.{file_there, filed_kept, filed_source}
use Rattle.build_commands.proofs.Meant.{are_of_one, contains_at, find_front, find_next, first_there, links_is}
use Rattle.build_commands.proofs.Meant.{no_links, of_file, own_test, same_path, split_at}
use Rattle.build_commands.proofs.Meant.{taken_after}
use Rattle.build_commands.proofs.Reported.{none_some, some_same}

-- ---- the lines of a regular file

regular_line : (f : NamedFile) → kind_named f.kind ≡ node_kind.Regular
    → found_line f ≡ line_by kind.Regular f (plain_line f)
regular_line f r = by f.kind r
  where
    by : (k : FileKind) → kind_named k ≡ node_kind.Regular
        → line_by k f (plain_line f) ≡ line_by kind.Regular f (plain_line f)
    by kind.Regular r = refl
    by kind.Directory r = absurd (cc)
    by (kind.Symlink t) r = absurd (cc)
    by (kind.Block d) r = absurd (cc)
    by (kind.Character d) r = absurd (cc)
    by kind.Fifo r = absurd (cc)
    by kind.Socket r = absurd (cc)

module _ (f : NamedFile) (n : ℕ) (latest : List Line) (r : kind_named f.kind ≡ node_kind.Regular) where
  own_line : (o : Option Format)
      → (filed (numbered n (name_line o None f) ∷ latest) (path_of f) ≡ Some (numbered n (name_line o None f)))
      × ((name_line o None f).text ≡ string_bytes f.place)
  own_line None = rw (regular_line f r, same_path (path_of f)) (refl, refl)
  own_line (Some Romfs) = rw (regular_line f r, same_path (path_of f)) (refl, refl)
  own_line (Some Cramfs) = rw (regular_line f r, same_path (path_of f)) (refl, refl)
  own_line (Some CramfsBig) = rw (regular_line f r, same_path (path_of f)) (refl, refl)

  -- the line of a further name has the contents of the first name, as a `hard` line or a `same` line
  further_filed : (o : Option Format) (g : NamedFile)
      → filed (numbered n (name_line o (Some g) f) ∷ latest) (path_of f) ≡ filed latest (path_of g)
  further_filed None g = rw (regular_line f r, same_path (path_of f)) refl
  further_filed (Some Romfs) g = rw (regular_line f r, same_path (path_of f)) refl
  further_filed (Some Cramfs) g = rw (regular_line f r, same_path (path_of f)) refl
  further_filed (Some CramfsBig) g = rw (regular_line f r, same_path (path_of f)) refl

-- ---- the first name of a file

find_every : (P : NamedFile → Type 0) (test : NamedFile → Bool) (xs : List NamedFile) (g : NamedFile) → Every P xs
    → find test xs ≡ Some g → P g × (test g ≡ true)
find_every P test [] g h e = absurd (none_some g e)
find_every P test (x ∷ xs) g h e = by (find_every P test xs g h.1) (test x) refl e
  where
    by : (find test xs ≡ Some g → P g × (test g ≡ true)) → (b : Bool) → test x ≡ b
        → cond b (Some x) (find test xs) ≡ Some g → P g × (test g ≡ true)
    by rest true i e = (subst P (some_same x g e) h.0, ap test (sym (some_same x g e)) ∙ i)
    by rest false i e = rest e

pub link_every : (P : NamedFile → Type 0) (f g : NamedFile) (xs : List NamedFile) → Every P xs
    → first_link f xs ≡ Some g → P g × AreOfOne f g
link_every P f g xs h e = by f.has_links refl
  where
    by : (b : Bool) → f.has_links ≡ b → P g × AreOfOne f g
    by true i = let r = find_every P (of_file f) xs g h (sym (links_is f xs i) ∙ e) in (r.0, are_of_one f g i r.1)
    by false i = absurd (none_some g (sym (no_links f xs i) ∙ e))

one_joined : (f g h : NamedFile) → AreOfOne f g → (h ≡ g) ⊎ AreOfOne g h → AreOfOne f h
one_joined f g h o (inl e) = subst (AreOfOne f) (sym e) o
one_joined f g h o (inr p) = record {
  links = o.links;
  other_links = p.other_links;
  device = o.device ∙ p.device;
  number = o.number ∙ p.number;
}

-- two names of one file have one first name
link_alike : (f g : NamedFile) (xs : List NamedFile) → AreOfOne f g → first_link f xs ≡ first_link g xs
link_alike f g xs o = links_is f xs o.links
    ∙ (ap (λ (v : ℕ). find (is_linked v f.inode.number) xs) o.device
    ∙ (ap (λ (v : ℕ). find (is_linked g.inode.device v) xs) o.number ∙ sym (links_is g xs o.other_links)))

-- the first name of f among all files, given the one before f
first_is : (f : NamedFile) (b a : List NamedFile) (v : Option NamedFile) (h : NamedFile) → first_link f b ≡ v
    → first_link f (b ++ f ∷ a) ≡ Some h → h ≡ unwrap_or v f
first_is f b a v h e k = by f.has_links refl v e
  where
    by : (t : Bool) → f.has_links ≡ t → (v : Option NamedFile) → first_link f b ≡ v → h ≡ unwrap_or v f
    by false i v e = absurd (none_some h (sym (no_links f (b ++ f ∷ a) i) ∙ k))
    by true i None e = some_same h f (sym k ∙ (links_is f (b ++ f ∷ a) i
        ∙ find_next (of_file f) b a f (sym (links_is f b i) ∙ e) (own_test f i)))
    by true i (Some g) e = some_same h g (sym k ∙ (links_is f (b ++ f ∷ a) i
        ∙ find_front (of_file f) b (f ∷ a) g (sym (links_is f b i) ∙ e)))

-- what holds of the first name of f, given the one before f, holds of its first name among all files
pub first_among : (P : NamedFile → Type 0) (found b a : List NamedFile) (f : NamedFile) (v : Option NamedFile)
    → found ≡ b ++ f ∷ a → first_link f b ≡ v → P (unwrap_or v f)
    → (h : NamedFile) → first_link f found ≡ Some h → P h
first_among P found b a f v is e l h k = subst P (sym (first_is f b a v h e (ap (first_link f) (sym is) ∙ k))) l

-- two names of one file have the line of its first name
pub one_line : (F : NamedFile → Option Line) (found : List NamedFile) (f g : NamedFile) (x y : Line)
    → Contains found f → AreOfOne f g → ((h : NamedFile) → first_link f found ≡ Some h → F h ≡ Some x)
    → ((h : NamedFile) → first_link g found ≡ Some h → F h ≡ Some y) → x ≡ y
one_line F found f g x y c o hx hy =
    let at = split_at found f c in
    let first = first_there f at.before at.after o.links in
    let e : first_link f found ≡ Some first.0 =
    links_is f found o.links ∙ (ap (find (of_file f)) at.is ∙ first.1) in
    some_same x y (sym (hx first.0 e) ∙ hy first.0 (sym (link_alike f g found o) ∙ e))

-- ---- one induction along the files

-- What holds of each file once its line was accepted, and still holds behind each line, holds of all files.
module _ (o : Option Format) (found : List NamedFile) (G : List Line → NamedFile → Type 0)
    (still : (latest : List Line) (n : ℕ) (l : Line) → fault_of latest (numbered n l) ≡ None
    → (f : NamedFile) → G latest f → G (numbered n l ∷ latest) f)
    (next : (b : List NamedFile) (f : NamedFile) (a : List NamedFile) (latest : List Line) (n : ℕ)
    → found ≡ b ++ f ∷ a → Every (G latest) b → Contains found f
    → fault_of latest (numbered n (name_line o (first_link f b) f)) ≡ None
    → G (numbered n (name_line o (first_link f b) f) ∷ latest) f) where
  pub all_kept : (b a : List NamedFile) (latest : List Line) (n : ℕ) → found ≡ b ++ a → Every (G latest) b
      → Every (Contains found) a → AreTaken latest n (lines_behind o b a)
      → Every (G (taken_after latest n (lines_behind o b a))) (b ++ a)
  all_kept b [] latest n is h c t = subst (Every (G latest)) (sym (append-nil b)) h
  all_kept b (f ∷ a) latest n is h c t =
      let l : Line = name_line o (first_link f b) f in
      let more = every_join (G (numbered n l ∷ latest)) b (f ∷ [])
      (every_weaker (G latest) _ (still latest n l t.1) b h)
      (next b f a latest n is h c.0 t.1, tt) in
      let e = append_assoc b (f ∷ []) a in
      subst (Every (G (taken_after latest n (lines_behind o b (f ∷ a))))) e
      (all_kept (b ++ f ∷ []) a (numbered n l ∷ latest) (n + 1) (is ∙ sym e) more c.1 t.2)

pub members : (b a : List NamedFile) → Every (Contains (b ++ a)) a
members b [] = tt
members b (f ∷ a) = (
  contains_at b f a,
  subst (λ (v : List NamedFile). Every (Contains v) a) (append_assoc b (f ∷ []) a) (members (b ++ f ∷ []) a),
)

pub every_at : (P : NamedFile → Type 0) (xs : List NamedFile) (f : NamedFile) → Every P xs → Contains xs f → P f
every_at P xs f h c =
    let s = split_at xs f c in (every_right P s.before (f ∷ s.after) (subst (Every P) s.is h)).0

-- ---- the contents of all files

-- A path has the contents of a line whose source is a place by which its file was found; the path of the file's first
-- name has the same contents.
record IsSourced (found : List NamedFile) (latest : List Line) (f : NamedFile) : Type 0 where
  file : NamedFile
  line : Line
  among : Contains found file
  one : (file ≡ f) ⊎ AreOfOne f file
  has : filed latest (path_of f) ≡ Some line
  text : line.text ≡ string_bytes file.place
  first : (h : NamedFile) → first_link f found ≡ Some h → filed latest (path_of h) ≡ Some line

abbrev IsGood : List NamedFile → List Line → NamedFile → Type 0
IsGood found latest f = Contains found f × (kind_named f.kind ≡ node_kind.Regular → IsSourced found latest f)

still_good : (found : List NamedFile) (latest : List Line) (n : ℕ) (l : Line) → fault_of latest (numbered n l) ≡ None
    → (f : NamedFile) → IsGood found latest f → IsGood found (numbered n l ∷ latest) f
still_good found latest n l e f g = (
  g.0,
  λ r. let s = g.1 r in record {
    file = s.file;
    line = s.line;
    among = s.among;
    one = s.one;
    has = filed_kept latest n l (path_of f) s.line e s.has;
    text = s.text;
    first = λ h k. filed_kept latest n l (path_of h) s.line e (s.first h k);
  },
)

module _ (found : List NamedFile) (kinds : HaveOneKind found) (o : Option Format) where
  next_good : (b : List NamedFile) (f : NamedFile) (a : List NamedFile) (latest : List Line) (n : ℕ)
      → found ≡ b ++ f ∷ a → Every (IsGood found latest) b → Contains found f
      → fault_of latest (numbered n (name_line o (first_link f b) f)) ≡ None
      → IsGood found (numbered n (name_line o (first_link f b) f) ∷ latest) f
  next_good b f a latest n is every c fault = (c, λ r. by r (first_link f b) refl fault)
    where
      by : kind_named f.kind ≡ node_kind.Regular → (v : Option NamedFile) → first_link f b ≡ v
          → fault_of latest (numbered n (name_line o v f)) ≡ None
          → IsSourced found (numbered n (name_line o v f) ∷ latest) f
      by r None e fault =
          let l = own_line f n latest r o in
          record {
            file = f;
            line = numbered n (name_line o None f);
            among = c;
            one = inl refl;
            has = l.0;
            text = l.1;
            first = first_among _ found b a f None is e l.0;
          }
      by r (Some g) e fault =
          let s = link_every (IsGood found latest) f g b every e in
          let t = s.0.1 (sym (kinds f g c s.0.0 s.1) ∙ r) in
          record {
            file = t.file;
            line = t.line;
            among = t.among;
            one = inr (one_joined f g t.file s.1 t.one);
            has = further_filed f n latest r o g ∙ t.has;
            text = t.text;
            first = first_among _ found b a f (Some g) is e
                (filed_kept latest n (name_line o (Some g) f) (path_of g) t.line fault t.has);
          }

module _ (format : Option Format) (found : List NamedFile) (volume image : List ℕ) (t : Node)
    (contents : List (List ℕ)) (sizes : List ℕ) (taken : AreTaken [] (first_number volume) (lines_found format found))
    (meant : IsMeant image t contents (as_read volume (lines_found format found)) sizes)
    (kinds : HaveOneKind found) where
  abbrev all : List Line
  all = numbered_from (first_number volume) (lines_found format found)

  abbrev latest : List Line
  latest = taken_after [] (first_number volume) (lines_found format found)

  sourced : (f : NamedFile) → Contains found f → kind_named f.kind ≡ node_kind.Regular → IsSourced found latest f
  sourced f c = (every_at (IsGood found latest) found f
      (all_kept format found (IsGood found) (still_good found) (next_good found kinds format)
      [] found [] (first_number volume) refl tt (members [] found) taken) c).1

  -- a node has the contents of the line x
  record HasNode (o : Option Node) (x : Line) : Type 0 where
    node : Node
    is : o ≡ Some node
    regular : kind_of node ≡ node_kind.Regular
    same : contents_of image node ≡ get_or contents (sources_before x.number all) []

  has_node : (f : NamedFile) (q : List (List ℕ)) (x : Line) → names_of (path_of f) ≡ Some q
      → filed latest (path_of f) ≡ Some x → HasNode (node_under q t) x
  unfolding node_value file_value
  has_node f q x e h =
      let there = file_there (first_number volume) (lines_found format found) sizes (path_of f) q x taken e h in
      by there.0 (node_under q t) (meant.values q ∙ ap (option_map (file_value contents)) there.1)
    where
      by : (l : Line) (o : Option Node) → option_map (node_value image) o
          ≡ Some (file_value contents (with_contents all sizes l (Some x))) → HasNode o x
      by l None h = absurd (none_some _ h)
      by l (Some y) h =
          let v = some_same (node_value image y) _ h in
          record { node = y; is = refl; regular = ap (λ (v : Value). v.kind) v; same = ap (λ (v : Value). v.bytes) v }

  pub contained : (f : NamedFile) (q : List (List ℕ)) → Contains found f → kind_named f.kind ≡ node_kind.Regular
      → names_of (path_of f) ≡ Some q
      → IsSomeAnd (node_under q t) (λ x. HasItsContents image found
      (sources_of (as_read volume (lines_found format found)).lines) contents f x)
  contained f q c r e =
      let s = sourced f c r in
      let y = has_node f q s.line e s.has in
      subst (λ (o : Option Node). IsSomeAnd o (HasItsContents image found (sources_of all) contents f)) (sym y.is)
      (record {
        regular = y.regular;
        file = s.file;
        among = s.among;
        one = s.one;
        number = sources_before s.line.number all;
        named = filed_source (first_number volume) (lines_found format found) (path_of f) s.line s.has ∙ ap Some s.text;
        same = y.same;
      })

  pub contents_shared : (f g : NamedFile) (p q : List (List ℕ)) (x y : Node) → Contains found f → Contains found g
      → AreOfOne f g → kind_named f.kind ≡ node_kind.Regular → names_of (path_of f) ≡ Some p
      → names_of (path_of g) ≡ Some q → node_under p t ≡ Some x → node_under q t ≡ Some y
      → contents_of image x ≡ contents_of image y
  contents_shared f g p q x y cf cg o r ep eq ex ey =
      let s = sourced f cf r in
      let u = sourced g cg (sym (kinds f g cf cg o) ∙ r) in
      let line : s.line ≡ u.line = one_line (λ h. filed latest (path_of h)) found f g _ _ cf o s.first u.first in
      let v = has_node f p s.line ep s.has in
      let w = has_node g q u.line eq u.has in
      ap (contents_of image) (some_same x v.node (sym ex ∙ v.is))
      ∙ (v.same ∙ (ap (λ (l : Line). get_or contents (sources_before l.number all) []) line
      ∙ sym (ap (contents_of image) (some_same y w.node (sym ey ∙ w.is)) ∙ w.same)))

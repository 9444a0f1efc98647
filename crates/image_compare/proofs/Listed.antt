-- Directories and names that are added, and the names that a directory still has.
use Rattle.std.proofs.Common.{◌≡◌, ℕ, zero, suc, ◌+◌, ◌<◌, ◌≤◌, List, [], ◌∷◌, ◌++◌, map, length, get_or, drop, Option}
use Rattle.std.proofs.Common.{Some}
use Rattle.std.proofs.Common.{refl, sym, ap, ◌∙◌, subst, arith, inl, inr, append_assoc, append-nil, length-append}
use Rattle.std.specs.Prelude.{slice_get}
use Rattle.std.specs.List.{All}
use Rattle.std.proofs.lemmas.Bool.{cases_lt}
use Rattle.std.proofs.lemmas.List.{drop_all, get_or-map, get_or_append_left, length-map, map-append}
use Rattle.std.proofs.lemmas.List.Elements.{All-append, All-cons}
use Rattle.std.proofs.lemmas.Option.{get_or_from_slice_get, slice_get-get_or, slice_get_within}
use Rattle.std.proofs.Math.Seq.{get_or-append_seam}
use Rattle.std.specs.Borrow.{Bor}
use Rattle.rom_tree.specs.declared.frame.Frame.{Frame}
use Rattle.rom_tree.specs.declared.types.NodeId.{NodeId}
use Rattle.rom_tree.specs.Frames.{left}
use Rattle.rom_tree.specs.Image.{Image, image_node}
use Rattle.rom_tree.specs.Names.{Name, named, names, entries_names, path_below}
use Rattle.rom_tree.specs.Tree.{Node, Entries, entries_of, entry, no_entries}
use Rattle.rom_tree.proofs.Stacks.{names_directory}
use Rattle.image_compare.specs.declared.directories.Directory.{Directory}
use Rattle.image_compare.specs.declared.rows.Row.{Row}
use Rattle.image_compare.specs.declared.rows.Rows.{Rows}
use Rattle.image_compare.specs.Directories.{AreWays, IsDirectory, way_at}
use Rattle.image_compare.specs.Rows.{AreRows, HasLong, HasLongPath, HasNames, HasRows, IsFirst, row_path, row_key}
use Rattle.image_compare.specs.Rows.{name_key}
use Rattle.image_compare.specs.Rows.{names_below}

-- ---- paths of directories

pub way_front : (ws vs : List (List ℕ)) (i : ℕ) → i < length ws → way_at (ws ++ vs) i ≡ way_at ws i
way_front ws vs i l = get_or_append_left ws vs [] i l

pub way_last : (ws : List (List ℕ)) (w : List ℕ) → way_at (ws ++ w ∷ []) (length ws) ≡ w
way_last ws w = get_or-append_seam ws w [] []

module _ (ds : List Directory) (ws : List (List ℕ)) (d : Directory) (w : List ℕ) (h : AreWays ds ws)
    (there : d.parent < length ds) (size : length w ≡ d.len) (short : d.len ≤ 16384)
    (is : w ≡ path_below (way_at ws d.parent) d.name.now) where
  abbrev longer : List (List ℕ)
  longer = ws ++ w ∷ []

  front : (i : ℕ) → i < length ds → way_at longer i ≡ way_at ws i
  front i l = way_front ws (w ∷ []) i (let e = h.count in omega (arith, e, l))

  earlier_one : (i : ℕ) (e : Directory) → i < length ds → slice_get ds i ≡ Some e → IsDirectory longer i e
  earlier_one i e l s = let k = h.each i e s in record {
    size = ap (λ (v : List ℕ). length v) (front i l) ∙ k.size;
    short = k.short;
    earlier = k.earlier;
    below = λ p. front i l ∙ (k.below p
        ∙ ap (λ (v : List ℕ). path_below v e.name.now)
        (sym (front e.parent (let q = k.earlier p in omega (arith, q, l)))));
  }

  last_one : IsDirectory longer (length ds) d
  last_one =
      let P : ℕ → Type 0 = λ v. IsDirectory longer v d in
      let here : way_at longer (length ws) ≡ w = way_last ws w in
      subst P h.count (record {
        size = ap (λ (v : List ℕ). length v) here ∙ size;
        short = short;
        earlier = λ p. let e = h.count in omega (arith, e, there);
        below = λ p. here ∙ (is ∙ ap (λ (v : List ℕ). path_below v d.name.now) (sym (front d.parent there)));
      })

  at_each : (i : ℕ) (e : Directory) → slice_get (ds ++ d ∷ []) i ≡ Some e → IsDirectory longer i e
  at_each i e s =
      let within : i < length (ds ++ d ∷ []) = slice_get_within (ds ++ d ∷ []) i e s in
      let read : get_or (ds ++ d ∷ []) i e ≡ e = get_or_from_slice_get (ds ++ d ∷ []) i e e s in
      elim (cases_lt i (length ds)) [
        | inl l ↦ earlier_one i e l (slice_get-get_or ds i e l
            ∙ ap (λ (v : Directory). Some v) (sym (get_or_append_left ds (d ∷ []) e i l) ∙ read))
        | inr l ↦
            let here : i ≡ length ds = omega (arith, within, length-append ds (d ∷ []), l) in
            let same : d ≡ e = sym (get_or-append_seam ds d [] e)
            ∙ (ap (λ (v : ℕ). get_or (ds ++ d ∷ []) v e) (sym here) ∙ read) in
            let P : ℕ → Type 0 = λ v. IsDirectory longer v e in
            let Q : Directory → Type 0 = λ v. IsDirectory longer (length ds) v in
            subst P (sym here) (subst Q same last_one)
      ]

  -- a directory more
  pub ways_push : AreWays (ds ++ d ∷ []) longer
  ways_push = record {
    count = length-append ws (w ∷ []) ∙ (ap (λ (v : ℕ). v + 1) h.count ∙ sym (length-append ds (d ∷ [])));
    root = front 0 (omega (arith, there)) ∙ h.root;
    each = at_each;
  }

-- the root
pub ways_root : (d : Directory) → d.len ≡ 0 → AreWays (d ∷ []) ([] ∷ [])
ways_root d z = record { count = refl; root = refl; each = each_one }
  where
    each_one : (i : ℕ) (e : Directory) → slice_get (d ∷ []) i ≡ Some e → IsDirectory ([] ∷ []) i e
    each_one zero e s =
        let same : d ≡ e = cc in
        let n : e.len ≡ 0 = ap (λ (v : Directory). v.len) (sym same) ∙ z in record {
          size = sym n;
          short = omega (arith, n);
          earlier = λ p. absurd (omega (arith, p));
          below = λ p. absurd (omega (arith, p));
        }
    each_one (suc i) e s = absurd (cc)

-- ---- rows

row_more : (m : Image) (ws : List (List ℕ)) (r : Row) (n : Name)
    → path_below (way_at ws r.directory) r.name.now ≡ n.path
    → image_node m r.node.0 ≡ Some n.node → row_key m ws r ≡ name_key n
row_more m ws r n p x =
    let f : List ℕ → List ℕ × Option Node = λ v. (v, image_node m r.node.0) in
    let g : Option Node → List ℕ × Option Node = λ v. (n.path, v) in
    ap f p ∙ ap g x

pub rows_more : (m : Image) (ws : List (List ℕ)) (rows all : List Row) (ns : List Name) (r : Row) (n : Name)
    → AreRows m ws rows ns → all ≡ rows ++ r ∷ [] → path_below (way_at ws r.directory) r.name.now ≡ n.path
    → image_node m r.node.0 ≡ Some n.node → AreRows m ws all (ns ++ n ∷ [])
rows_more m ws rows all ns r n h e p x =
    ap (map (row_key m ws)) e
    ∙ (map-append (row_key m ws) rows (r ∷ [])
    ∙ (ap (λ (v : List (List ℕ × Option Node)). v ++ row_key m ws r ∷ []) h
    ∙ (ap (λ (v : List ℕ × Option Node). map name_key ns ++ v ∷ []) (row_more m ws r n p x)
    ∙ sym (map-append name_key ns (n ∷ [])))))

abbrev Short : Name → Type 0
Short n = length n.path ≤ 16384

module _ (m : Image) (old new : Rows) (ws : List (List ℕ)) (ns : List Name) (h : HasRows m old ws ns) where
  -- a name more
  pub name_added : (r : Row) (n : Name) → new.directories ≡ old.directories
      → new.names.items ≡ old.names.items ++ r ∷ [] → r.directory < length ws
      → path_below (way_at ws r.directory) r.name.now ≡ n.path → image_node m r.node.0 ≡ Some n.node
      → length n.path ≤ 16384 → HasRows m new ws (ns ++ n ∷ [])
  name_added r n d e l p x s = record {
    ways = let P : List Directory → Type 0 = λ v. AreWays v ws in subst P (ap (λ v. v.items) (sym d)) h.ways;
    same = λ later. rows_more m (ws ++ later) old.names.items new.names.items ns r n (h.same later) e
        (ap (λ (v : List ℕ). path_below v r.name.now) (way_front ws later r.directory l) ∙ p) x;
    short = All-append Short ns (n ∷ []) h.short (All-cons Short n [] s (λ k d z. absurd (omega (arith, z))));
  }

  -- a directory more
  pub directory_added : (d : Directory) (w : List ℕ) → new.names ≡ old.names
      → new.directories.items ≡ old.directories.items ++ d ∷ [] → d.parent < length ws → length w ≡ d.len
      → d.len ≤ 16384 → w ≡ path_below (way_at ws d.parent) d.name.now → HasRows m new (ws ++ w ∷ []) ns
  directory_added d w e f l size short is = record {
    ways = let P : List Directory → Type 0 = λ v. AreWays v (ws ++ w ∷ []) in
        subst P (sym f) (ways_push old.directories.items ws d w h.ways
        (let c = h.ways.count in omega (arith, l, c)) size short is);
    same = λ later.
        let P : List (List ℕ) → Type 0 = λ v. AreRows m v new.names.items ns in
        let Q : List Row → Type 0 = λ v. AreRows m (ws ++ (w ∷ [] ++ later)) v ns in
        subst P (sym (append_assoc ws (w ∷ []) later)) (subst Q (ap (λ v. v.items) (sym e)) (h.same (w ∷ [] ++ later)));
    short = h.short;
  }

-- ---- what a directory still has

-- the names so far and those that are left are all names below a directory
pub record Collected (m : Image) (found : Rows) (ws : List (List ℕ)) (ns : List Name) (directory : ℕ) (f : Frame)
    (x : Node) : Type 0 where
  pub added : List (List ℕ)
  pub done : List Name
  pub has : HasRows m found (ws ++ added) (ns ++ done)
  pub rest : done ++ entries_names (way_at ws directory) (left m f) ≡ names_below ws directory x

entry_names : (p name : List ℕ) (x : Node) (es : Entries) → entries_names p (entry name x es)
    ≡ named (path_below p name) name x ∷ (entries_names (path_below p name) (entries_of x) ++ entries_names p es)
unfolding entries_names
entry_names p name x es = ap (λ (v : List Name). named (path_below p name) name x ∷ (v ++ entries_names p es))
    (names_directory (path_below p name) x)

pub no_names : (p : List ℕ) → entries_names p no_entries ≡ []
unfolding entries_names
no_names p = refl

-- a long path among some names
pub long_within : (xs ys zs whole : List Name) → whole ≡ xs ++ (ys ++ zs) → HasLong ys → HasLong whole
long_within xs ys zs whole e h = record {
  before = xs ++ h.before;
  name = h.name;
  after = h.after ++ zs;
  is = e ∙ (ap (λ (v : List Name). xs ++ (v ++ zs)) h.is
      ∙ (ap (λ (v : List Name). xs ++ v) (append_assoc h.before (h.name ∷ h.after) zs)
      ∙ sym (append_assoc xs h.before (h.name ∷ (h.after ++ zs)))));
  long = h.long;
}

long_one : (n : Name) → 16384 < length n.path → HasLong (n ∷ [])
long_one n l = record { before = []; name = n; after = []; is = refl; long = l }

-- at a directory's end all names are collected
pub at_end : (m : Image) (found : Rows) (ws : List (List ℕ)) (ns : List Name) (directory : ℕ) (f : Frame) (x : Node)
    → Collected m found ws ns directory f x → left m f ≡ no_entries
    → (added : List (List ℕ)) × HasRows m found (ws ++ added) (ns ++ names_below ws directory x)
at_end m found ws ns directory f x s e = (
  s.added,
  let P : List Name → Type 0 = λ v. HasRows m found (ws ++ s.added) (ns ++ v) in
      subst P (sym (append-nil s.done) ∙ (ap (λ (v : List Name). s.done ++ v)
      (sym (ap (entries_names (way_at ws directory)) e ∙ no_names (way_at ws directory))) ∙ s.rest)) s.has,
)

-- at its front none is
pub at_front : (m : Image) (found : Rows) (ws : List (List ℕ)) (ns : List Name) (directory : ℕ) (f : Frame) (x : Node)
    → HasRows m found ws ns → left m f ≡ entries_of x → Collected m found ws ns directory f x
at_front m found ws ns directory f x h e = record {
  added = [];
  done = [];
  has = let P : List (List ℕ) → Type 0 = λ v. HasRows m found v (ns ++ []) in
      let Q : List Name → Type 0 = λ v. HasRows m found ws v in
      subst P (sym (append-nil ws)) (subst Q (sym (append-nil ns)) h);
  rest = ap (entries_names (way_at ws directory)) e;
}

-- an entry
module _ (m : Image) (found : Rows) (ws : List (List ℕ)) (ns : List Name) (directory : ℕ) (f f' : Frame) (x : Node)
    (there : directory < length ws) (s : Collected m found ws ns directory f x) (name : Bor (List ℕ)) (target : Node)
    (next : left m f ≡ entry name.now target (left m f')) where
  abbrev way : List ℕ
  way = way_at ws directory

  abbrev path : List ℕ
  path = path_below way name.now

  abbrev this : Name
  this = named path name.now target

  abbrev below : List Name
  below = entries_names path (entries_of target)

  pub there_yet : directory < length (ws ++ s.added)
  there_yet = let e = length-append ws s.added in omega (arith, e, there)

  -- its path
  pub path_yet : path_below (way_at (ws ++ s.added) directory) name.now ≡ path
  path_yet = ap (λ (v : List ℕ). path_below v name.now) (way_front ws s.added directory there)

  -- its name, those below it, and the rest
  next_names : names_below ws directory x ≡ (s.done ++ this ∷ []) ++ (below ++ entries_names way (left m f'))
  next_names =
      sym s.rest
      ∙ (ap (λ (v : Entries). s.done ++ entries_names way v) next
      ∙ (ap (λ (v : List Name). s.done ++ v) (entry_names way name.now target (left m f'))
      ∙ sym (append_assoc s.done (this ∷ []) (below ++ entries_names way (left m f')))))

  pub long_path : 16384 < length path → HasLong (names_below ws directory x)
  long_path l = long_within s.done (this ∷ []) (below ++ entries_names way (left m f')) (names_below ws directory x)
      (next_names ∙ append_assoc s.done (this ∷ []) (below ++ entries_names way (left m f'))) (long_one this l)

  pub long_below : HasLong below → HasLong (names_below ws directory x)
  long_below h = long_within (s.done ++ this ∷ []) below (entries_names way (left m f')) (names_below ws directory x)
      next_names h

  -- its name was added
  pub with_this : (one : Rows) (n : NodeId) → one.directories ≡ found.directories
      → one.names.items ≡ found.names.items ++ record { directory = directory; name = name; node = n } ∷ []
      → image_node m n.0 ≡ Some target → length path ≤ 16384
      → HasRows m one (ws ++ s.added) ((ns ++ s.done) ++ this ∷ [])
  with_this one n d e x l =
      name_added m found one (ws ++ s.added) (ns ++ s.done) s.has
      (record { directory = directory; name = name; node = n }) this d e there_yet path_yet x l

  -- and it is no directory
  pub leaf : (one : Rows) → HasRows m one (ws ++ s.added) ((ns ++ s.done) ++ this ∷ [])
      → entries_of target ≡ no_entries → Collected m one ws ns directory f' x
  leaf one h none = record {
    added = s.added;
    done = s.done ++ this ∷ [];
    has = let P : List Name → Type 0 = λ v. HasRows m one (ws ++ s.added) v in
        subst P (append_assoc ns s.done (this ∷ [])) h;
    rest = sym (next_names ∙ ap (λ (v : List Name). (s.done ++ this ∷ []) ++ (v ++ entries_names way (left m f')))
        (ap (entries_names path) none ∙ no_names path));
  }

  -- the names below a directory that was added last
  pub below_is : (index : ℕ) → index ≡ length (ws ++ s.added)
      → names_below ((ws ++ s.added) ++ path ∷ []) index target ≡ below
  below_is index i = ap (λ (v : List ℕ). entries_names v (entries_of target))
      (ap (way_at ((ws ++ s.added) ++ path ∷ [])) i ∙ way_last (ws ++ s.added) path)

  -- or it is one, and what is below it was added
  pub deeper : (three : Rows) (index : ℕ) → index ≡ length (ws ++ s.added)
      → ((added : List (List ℕ)) × HasRows m three (((ws ++ s.added) ++ path ∷ []) ++ added)
      (((ns ++ s.done) ++ this ∷ []) ++ names_below ((ws ++ s.added) ++ path ∷ []) index target))
      → Collected m three ws ns directory f' x
  deeper three index i h =
      let more : List (List ℕ) = s.added ++ (path ∷ [] ++ h.0) in
      let e : ((ws ++ s.added) ++ path ∷ []) ++ h.0 ≡ ws ++ more =
      append_assoc (ws ++ s.added) (path ∷ []) h.0 ∙ append_assoc ws s.added (path ∷ [] ++ h.0) in
      let b : names_below ((ws ++ s.added) ++ path ∷ []) index target ≡ below = below_is index i in
      let d : ((ns ++ s.done) ++ this ∷ []) ++ names_below ((ws ++ s.added) ++ path ∷ []) index target
      ≡ ns ++ ((s.done ++ this ∷ []) ++ below) =
      ap (λ (v : List Name). ((ns ++ s.done) ++ this ∷ []) ++ v) b
      ∙ (ap (λ (v : List Name). v ++ below) (append_assoc ns s.done (this ∷ []))
      ∙ append_assoc ns (s.done ++ this ∷ []) below) in
      let P : List (List ℕ) → Type 0 = λ v. HasRows m three v (ns ++ ((s.done ++ this ∷ []) ++ below)) in
      let Q : List Name → Type 0 = λ v. HasRows m three (((ws ++ s.added) ++ path ∷ []) ++ h.0) v in
      record {
        added = more;
        done = (s.done ++ this ∷ []) ++ below;
        has = subst P e (subst Q d h.1);
        rest = append_assoc (s.done ++ this ∷ []) below (entries_names way (left m f')) ∙ sym next_names;
      }

-- ---- the root

none_of : (P : Name → Type 0) → All P []
none_of P k d l = absurd (omega (arith, l))

-- the root's directory, and no name yet
pub first_rows : (m : Image) (found : Rows) (olds : List Directory) (d : Directory)
    → found.directories.items ≡ olds ++ d ∷ [] → olds ≡ [] → found.names.items ≡ [] → d.len ≡ 0
    → HasRows m found ([] ∷ []) []
first_rows m found olds d e o f z = record {
  ways = let P : List Directory → Type 0 = λ v. AreWays v ([] ∷ []) in
      subst P (sym (e ∙ ap (λ (v : List Directory). v ++ d ∷ []) o)) (ways_root d z);
  same = λ later. ap (map (row_key m (([] ∷ []) ++ later))) f;
  short = none_of Short;
}

abbrev pub root_name : Node → Name
root_name t = named (47 ∷ []) [] t

pub all_names : (t : Node) → names t ≡ root_name t ∷ entries_names [] (entries_of t)
unfolding names
all_names t = ap (λ (v : List Name). root_name t ∷ v) (names_directory [] t)

pub as_names : (m : Image) (found : Rows) (ws : List (List ℕ)) (ns : List Name) → HasRows m found ws ns
    → HasNames m found ns
as_names m found ws ns h = record {
  ways = ws;
  directories = h.ways;
  same = let P : List (List ℕ) → Type 0 = λ v. AreRows m v found.names.items ns in subst P (append-nil ws) (h.same []);
  short = h.short;
}

-- the root's name
pub root_rows : (m : Image) (one two : Rows) (r : Row) → HasRows m one ([] ∷ []) [] → two.directories ≡ one.directories
    → two.names.items ≡ one.names.items ++ r ∷ [] → r.directory ≡ 0 → r.name.now ≡ []
    → image_node m r.node.0 ≡ Some m.tree
    → HasRows m two ([] ∷ []) (root_name m.tree ∷ [])
root_rows m one two r h d e z n x =
    name_added m one two ([] ∷ []) [] h r (root_name m.tree) d e (omega (arith, z))
    (ap (λ (v : ℕ). path_below (way_at ([] ∷ []) v) r.name.now) z ∙ ap (λ (v : List ℕ). path_below [] v) n) x
    (omega arith)

-- a long path below the root is one of the tree
pub long_in_tree : (t : Node) → HasLong (names_below ([] ∷ []) 0 t) → HasLongPath t
long_in_tree t h =
    let below : List Name = entries_names [] (entries_of t) in
    let w = long_within (root_name t ∷ []) below [] (names t)
    (all_names t ∙ ap (λ (v : List Name). root_name t ∷ v) (sym (append-nil below))) h in
    record { before = w.before; name = w.name; after = w.after; is = w.is; long = w.long }

-- the root's name, and those below it
pub whole_tree : (m : Image) (found : Rows)
    → ((added : List (List ℕ)) × HasRows m found (([] ∷ []) ++ added)
    ((root_name m.tree ∷ []) ++ names_below ([] ∷ []) 0 m.tree)) → HasNames m found (names m.tree)
whole_tree m found h = let P : List Name → Type 0 = λ v. HasNames m found v in
    subst P (sym (all_names m.tree)) (as_names m found (([] ∷ []) ++ h.0) _ h.1)

pub root_alone : (m : Image) (found : Rows) → HasRows m found ([] ∷ []) (root_name m.tree ∷ [])
    → entries_of m.tree ≡ no_entries → HasNames m found (names m.tree)
root_alone m found h e = let P : List Name → Type 0 = λ v. HasNames m found v in
    subst P (ap (λ (v : List Name). root_name m.tree ∷ v) (sym (ap (entries_names []) e ∙ no_names []))
    ∙ sym (all_names m.tree)) (as_names m found ([] ∷ []) _ h)

-- ---- the name at an index

pub names_count : (m : Image) (found : Rows) (ns : List Name) → HasNames m found ns
    → length found.names.items ≡ length ns
names_count m found ns h = sym (length-map found.names.items (row_key m h.ways))
    ∙ (ap (λ (v : List (List ℕ × Option Node)). length v) h.same ∙ length-map ns name_key)

pub at_key : (m : Image) (found : Rows) (ns : List Name) (h : HasNames m found ns) (i : ℕ) (r : Row) (n : Name)
    → i < length found.names.items → get_or found.names.items i r ≡ r
    → row_key m h.ways r ≡ name_key (get_or ns i n)
at_key m found ns h i r n l e =
    let k : Row → List ℕ × Option Node = row_key m h.ways in
    ap k (sym e) ∙ (sym (get_or-map k found.names.items i r (name_key n) l)
    ∙ (ap (λ (v : List (List ℕ × Option Node)). get_or v i (name_key n)) h.same
    ∙ get_or-map name_key ns i n (name_key n) (let c = names_count m found ns h in omega (arith, c, l))))

pub at_short : (m : Image) (found : Rows) (ns : List Name) (h : HasNames m found ns) (i : ℕ) (r : Row)
    → i < length found.names.items → get_or found.names.items i r ≡ r → length (row_path h.ways r) ≤ 16384
at_short m found ns h i r l e = by ns h refl
  where
    by : (os : List Name) → HasNames m found os → os ≡ ns → length (row_path h.ways r) ≤ 16384
    by [] k z = absurd (let c = names_count m found [] k in omega (arith, c, l))
    by (n ∷ os) k z =
        let p : row_path h.ways r ≡ (get_or ns i n).path = ap (λ (v : List ℕ × Option Node). v.0)
        (at_key m found ns h i r n l e) in
        let s : length (get_or ns i n).path ≤ 16384 =
        h.short i n (let c = names_count m found ns h in omega (arith, c, l)) in
        let q = ap (λ (v : List ℕ). length v) p in omega (arith, s, q)

pub first_at : (m : Image) (found : Rows) (ns : List Name) (h : HasNames m found ns) (i : ℕ) (r : Row) (path : List ℕ)
    → i < length found.names.items → get_or found.names.items i r ≡ r → path ≡ row_path h.ways r
    → IsFirst m path r.node.0 (drop i ns)
first_at m found ns h i r path l e p = by ns h refl
  where
    drop_first : (os : List Name) (i : ℕ) (n : Name) → i < length os → drop i os ≡ get_or os i n ∷ drop (suc i) os
    drop_first [] i n l = absurd (omega (arith, l))
    drop_first (o ∷ os) zero n l = refl
    drop_first (o ∷ os) (suc i) n l = drop_first os i n (omega (arith, l))

    by : (os : List Name) → HasNames m found os → os ≡ ns → IsFirst m path r.node.0 (drop i ns)
    by [] k z = absurd (let c = names_count m found [] k in omega (arith, c, l))
    by (n ∷ os) k z =
        let key = at_key m found ns h i r n l e in record {
          name = get_or ns i n;
          rest = drop (suc i) ns;
          is = drop_first ns i n (let c = names_count m found ns h in omega (arith, c, l));
          path_is = p ∙ ap (λ (v : List ℕ × Option Node). v.0) key;
          node = ap (λ (v : List ℕ × Option Node). v.1) key;
        }

-- past the last name there is none
pub none_at : (m : Image) (found : Rows) (ns : List Name) → HasNames m found ns → (i : ℕ)
    → length found.names.items ≤ i → drop i ns ≡ []
none_at m found ns h i l = drop_all i ns (let c = names_count m found ns h in omega (arith, c, l))

-- Frames at the end of a stack: what a step does to what is still to come.
use Rattle.std.proofs.Common.{◌≡◌, ℕ, suc, ◌+◌, ◌*◌, ◌≤◌, ◌<◌, true, false, List, [], ◌∷◌, ◌++◌, length, Option, Some}
use Rattle.std.proofs.Common.{None, IsSome, refl, sym, ap, subst, ◌∙◌, rules, arith, append_assoc, append-nil}
use Rattle.std.proofs.Common.{length-append}
use Rattle.std.specs.Prelude.{IsSomeAnd}
use Rattle.std.specs.Borrow.{Bor}
use Rattle.rom_tree.specs.declared.frame.Frame.{Frame}
use Rattle.rom_tree.specs.declared.types.NodeId.{NodeId}
use Rattle.rom_tree.specs.Tree.{Node, node, directory, regular, symlink, block, character, socket, fifo, Entries}
use Rattle.rom_tree.specs.Tree.{no_entries, entry, is_directory, entries_of, entry_at, drop_entries, entries_nodes}
use Rattle.rom_tree.specs.Tree.{nodes, levels}
use Rattle.rom_tree.specs.Image.{Image, image_node, HasDirectory, IsEntry}
use Rattle.rom_tree.specs.Names.{path_below}
use Rattle.rom_tree.specs.Names.{Name, named, node_names, entries_names, names}
use Rattle.rom_tree.specs.Frames.{name_text, left, path_text, pending, levels_at, IsFrame, AreFrames, weight, line_path}
use Rattle.rom_tree.proofs.Nodes.{drop_entries-some, drop_entries-none, levels_child, levels_directory}
use Rattle.rom_tree.proofs.Nodes.{not_directory_entries}
use Rattle.rom_tree.proofs.Named.{some_is}

-- the last frame's name ends the path
pub path_text-push : (p : List ℕ) (fs : List Frame) (f : Frame)
    → path_text p (fs ++ f ∷ []) ≡ path_text p fs ++ name_text f.name
unfolding path_text
path_text-push p [] f = refl
path_text-push p (g ∷ fs) f = path_text-push (p ++ name_text g.name) fs f

pub path_text-nil : (p : List ℕ) → path_text p [] ≡ p
unfolding path_text
path_text-nil p = refl

pub pending-nil : (m : Image) (p : List ℕ) → pending m p [] ≡ []
unfolding pending
pending-nil m p = refl

-- the names of the last frame come first
pub pending-push : (m : Image) (p : List ℕ) (fs : List Frame) (f : Frame)
    → pending m p (fs ++ f ∷ []) ≡ entries_names (path_text p fs ++ name_text f.name) (left m f) ++ pending m p fs
unfolding pending path_text
pending-push m p [] f = sym (append-nil (entries_names (p ++ name_text f.name) (left m f)))
pending-push m p (g ∷ fs) f =
    ap (λ (v : List Name). v ++ entries_names (p ++ name_text g.name) (left m g))
    (pending-push m (p ++ name_text g.name) fs f)
    ∙ append_assoc (entries_names (path_text (p ++ name_text g.name) fs ++ name_text f.name) (left m f))
    (pending m (p ++ name_text g.name) fs) (entries_names (p ++ name_text g.name) (left m g))

-- the last frame's share of the weight
pub weight-push : (m : Image) (fs : List Frame) (f : Frame)
    → weight m (fs ++ f ∷ []) ≡ weight m fs + suc (2 * length (entries_nodes (left m f)))
unfolding weight
weight-push m [] f = omega arith
weight-push m (g ∷ fs) f = let h = weight-push m fs f in omega (arith, h)

-- a frame more at the end
pub frames-push : (m : Image) (k : ℕ) (fs : List Frame) (f : Frame) → AreFrames m k fs → IsFrame m (length fs + k) f
    → AreFrames m k (fs ++ f ∷ [])
unfolding AreFrames
frames-push m k [] f h i =
    (let P : ℕ → Type 0 = λ v. IsFrame m v f in let e : 0 + k ≡ k = omega arith in subst P e i, tt)
frames-push m k (g ∷ fs) f h i = (
  h.0,
  let P : ℕ → Type 0 = λ v. IsFrame m v f in let e : suc (length fs) + k ≡ length fs + suc k =
      omega arith in frames-push m (suc k) fs f h.1 (subst P e i),
)

-- the frames before the last
pub frames-front : (m : Image) (k : ℕ) (fs : List Frame) (f : Frame) → AreFrames m k (fs ++ f ∷ []) → AreFrames m k fs
unfolding AreFrames
frames-front m k [] f h = tt
frames-front m k (g ∷ fs) f h = (h.0, frames-front m (suc k) fs f h.1)

-- the last frame
pub frames-last : (m : Image) (k : ℕ) (fs : List Frame) (f : Frame) → AreFrames m k (fs ++ f ∷ [])
    → IsFrame m (length fs + k) f
unfolding AreFrames
frames-last m k [] f h = let P : ℕ → Type 0 = λ v. IsFrame m v f in let e : k ≡ 0 + k = omega arith in subst P e h.0
frames-last m k (g ∷ fs) f h = let P : ℕ → Type 0 =
    λ v. IsFrame m v f in let e : length fs + suc k ≡ suc (length fs) + k =
    omega arith in subst P e (frames-last m (suc k) fs f h.1)

-- the directory and the index of a frame
pub record IsOpen (m : Image) (f : Frame) : Type 0 where
  pub dir : Node
  pub index : ℕ
  pub is_dir : image_node m f.directory.0 ≡ Some dir
  pub is_index : m.cursor_index f.directory.0 f.cursor.0 ≡ Some index

open_by : (m : Image) (f : Frame) (o : Option Node) (p : Option ℕ) → image_node m f.directory.0 ≡ o
    → m.cursor_index f.directory.0 f.cursor.0 ≡ p → IsSomeAnd o (λ x. is_directory x ≡ true) → IsSome p → IsOpen m f
open_by m f None p e k h i = absurd h
open_by m f (Some x) None e k h i = absurd (search rules)
open_by m f (Some x) (Some j) e k h i = record { dir = x; index = j; is_dir = e; is_index = k }

-- each frame has an index
pub opened : (m : Image) (k : ℕ) (f : Frame) → IsFrame m k f → IsOpen m f
opened m k f h =
    open_by m f (image_node m f.directory.0) (m.cursor_index f.directory.0 f.cursor.0) refl refl h.directory h.cursor

left_is : (m : Image) (f : Frame) (o : IsOpen m f) → left m f ≡ drop_entries o.index (entries_of o.dir)
unfolding left
left_is m f o = rw (o.is_dir, o.is_index) refl

-- nothing is left at the end of a list
pub left_none : (m : Image) (f : Frame) (o : IsOpen m f) → entry_at (entries_of o.dir) o.index ≡ None
    → left m f ≡ no_entries
left_none m f o h = left_is m f o ∙ drop_entries-none (entries_of o.dir) o.index h

-- an entry is the first that is left, and the frame that goes on after it has the others
pub left_some : (m : Image) (f f' : Frame) (o : IsOpen m f) (name : List ℕ) (n : ℕ)
    (e : IsEntry m f.directory.0 (entries_of o.dir) o.index name n f'.cursor.0) → f'.directory ≡ f.directory
    → left m f ≡ entry name e.target (left m f')
left_some m f f' o name n e h =
    let node : image_node m f'.directory.0 ≡ Some o.dir = ap (λ (v : NodeId). image_node m v.0) h ∙ o.is_dir in
    let next : m.cursor_index f'.directory.0 f'.cursor.0 ≡ Some (o.index + 1) =
    ap (λ (v : NodeId). m.cursor_index v.0 f'.cursor.0) h ∙ e.next in
    let p : IsOpen m f' = record { dir = o.dir; index = o.index + 1; is_dir = node; is_index = next } in
    let s : o.index + 1 ≡ suc o.index = omega arith in
    left_is m f o ∙ (drop_entries-some (entries_of o.dir) o.index name e.target e.at
    ∙ ap (entry name e.target) (ap (λ (v : ℕ). drop_entries v (entries_of o.dir)) (sym s) ∙ sym (left_is m f' p)))

-- and it is a frame
pub frame_next : (m : Image) (k : ℕ) (f f' : Frame) (o : IsOpen m f) (name : List ℕ) (n : ℕ)
    (e : IsEntry m f.directory.0 (entries_of o.dir) o.index name n f'.cursor.0) → f'.directory ≡ f.directory
    → IsFrame m k f → IsFrame m k f'
frame_next m k f f' o name n e h i =
    let P : NodeId → Type 0 = λ v. HasDirectory m v.0 in
    let Q : NodeId → Type 0 = λ v. levels_at (image_node m v.0) + k ≤ 65 in
    record {
      directory = subst P (sym h) i.directory;
      cursor = some_is (m.cursor_index f'.directory.0 f'.cursor.0) (o.index + 1)
          (ap (λ (v : NodeId). m.cursor_index v.0 f'.cursor.0) h ∙ e.next);
      deep = subst Q (sym h) i.deep;
    }

levels_some : (o : Option Node) → IsSomeAnd o (λ x. is_directory x ≡ true) → 1 ≤ levels_at o
levels_some None h = absurd h
levels_some (Some x) h = levels_directory x h

-- a frame leaves room for itself
pub frame_fits : (m : Image) (k : ℕ) (f : Frame) → IsFrame m k f → k < 65
frame_fits m k f h = let l = levels_some (image_node m f.directory.0) h.directory in let d = h.deep in omega arith

-- the frame of a directory that is entered
pub frame_child : (m : Image) (k : ℕ) (f g : Frame) (o : IsOpen m f) (name : List ℕ) (n c : ℕ)
    (e : IsEntry m f.directory.0 (entries_of o.dir) o.index name n c) → image_node m g.directory.0 ≡ Some e.target
    → HasDirectory m g.directory.0 → m.cursor_index g.directory.0 g.cursor.0 ≡ Some 0 → IsFrame m k f
    → IsFrame m (suc k) g
frame_child m k f g o name n c e x h s i =
    let l = levels_child o.dir o.index name e.target e.at in
    let P : Option Node → Type 0 = λ v. levels_at v + k ≤ 65 in
    let d : levels o.dir + k ≤ 65 = subst P o.is_dir i.deep in
    record {
      directory = h;
      cursor = some_is (m.cursor_index g.directory.0 g.cursor.0) 0 s;
      deep = (rw x (omega arith));
    }

-- at the start all entries are left
pub left_child : (m : Image) (g : Frame) (x : Node) → image_node m g.directory.0 ≡ Some x
    → m.cursor_index g.directory.0 g.cursor.0 ≡ Some 0 → left m g ≡ entries_of x
left_child m g x e s = left_is m g (record { dir = x; index = 0; is_dir = e; is_index = s })

-- one name
abbrev pub one : List ℕ → List ℕ → Node → List Name
one p name x = named p name x ∷ []

-- the names below a node are those of its entries
pub names_directory : (path : List ℕ) (x : Node) → node_names path x ≡ entries_names path (entries_of x)
unfolding node_names
names_directory path (node a (directory es)) = refl
names_directory path (node a (regular ps)) = refl
names_directory path (node a (symlink ps)) = refl
names_directory path (node a block) = refl
names_directory path (node a character) = refl
names_directory path (node a socket) = refl
names_directory path (node a fifo) = refl

names_none : (path : List ℕ) → entries_names path no_entries ≡ []
unfolding entries_names
names_none path = refl

names_entry : (path name : List ℕ) (x : Node) (es : Entries)
    → entries_names path (entry name x es)
    ≡ one (path_below path name) name x
    ++ (entries_names (path_below path name) (entries_of x) ++ entries_names path es)
unfolding entries_names
names_entry path name x es = ap (λ (v : List Name). one (path_below path name) name x ++ (v ++ entries_names path es))
    (names_directory (path_below path name) x)

-- if a directory ends, the rest is that of the frames before it
pub names_end : (m : Image) (fs : List Frame) (f : Frame) → left m f ≡ no_entries
    → pending m [] (fs ++ f ∷ []) ≡ [] ++ pending m [] fs
names_end m fs f h = pending-push m [] fs f
    ∙ ap (λ (v : List Name). v ++ pending m [] fs)
    (ap (entries_names (path_text [] fs ++ name_text f.name)) h ∙ names_none (path_text [] fs ++ name_text f.name))

abbrev below_path : List Frame → Frame → List ℕ → List ℕ
below_path fs f name = path_below (path_text [] fs ++ name_text f.name) name

-- an entry's line, what lies below it, and the rest
pub names_at : (m : Image) (fs : List Frame) (f f' : Frame) (nm : Bor (List ℕ)) (x : Node)
    → left m f ≡ entry nm.now x (left m f') → f'.name ≡ f.name
    → pending m [] (fs ++ f ∷ []) ≡ one (line_path (fs ++ f' ∷ []) (Some nm)) nm.now x
    ++ (entries_names (line_path (fs ++ f' ∷ []) (Some nm)) (entries_of x) ++ pending m [] (fs ++ f' ∷ []))
names_at m fs f f' nm x h e =
    let q : List ℕ = path_text [] fs ++ name_text f.name in
    let q' : List ℕ = path_text [] fs ++ name_text f'.name in
    let same : q ≡ q' = ap (λ (v : Option (Bor (List ℕ))). path_text [] fs ++ name_text v) (sym e) in
    let path : path_below q nm.now ≡ line_path (fs ++ f' ∷ []) (Some nm) =
    ap (λ (v : List ℕ). path_below v nm.now) (same ∙ sym (path_text-push [] fs f')) in
    let rest : entries_names q (left m f') ++ pending m [] fs ≡ pending m [] (fs ++ f' ∷ []) =
    ap (λ (v : List ℕ). entries_names v (left m f') ++ pending m [] fs) same ∙ sym (pending-push m [] fs f') in
    pending-push m [] fs f
    ∙ (ap (λ (v : Entries). entries_names q v ++ pending m [] fs) h
    ∙ (ap (λ (v : List Name). v ++ pending m [] fs) (names_entry q nm.now x (left m f'))
    ∙ (append_assoc (one (path_below q nm.now) nm.now x)
    (entries_names (path_below q nm.now) (entries_of x) ++ entries_names q (left m f')) (pending m [] fs)
    ∙ (ap (λ (v : List Name). one (path_below q nm.now) nm.now x ++ v)
    (append_assoc (entries_names (path_below q nm.now) (entries_of x)) (entries_names q (left m f'))
    (pending m [] fs) ∙ ap (λ (v : List Name). entries_names (path_below q nm.now) (entries_of x) ++ v) rest)
    ∙ ap (λ (v : List ℕ). one v nm.now x ++ (entries_names v (entries_of x) ++ pending m [] (fs ++ f' ∷ []))) path))))

-- an entry's line and the rest, if nothing lies below it
pub names_leaf : (m : Image) (fs : List Frame) (f f' : Frame) (nm : Bor (List ℕ)) (x : Node)
    → left m f ≡ entry nm.now x (left m f') → f'.name ≡ f.name → entries_of x ≡ no_entries
    → pending m [] (fs ++ f ∷ []) ≡ one (line_path (fs ++ f' ∷ []) (Some nm)) nm.now x ++ pending m [] (fs ++ f' ∷ [])
names_leaf m fs f f' nm x h e n =
    names_at m fs f f' nm x h e
    ∙ ap (λ (v : List Name). one (line_path (fs ++ f' ∷ []) (Some nm)) nm.now x ++ (v ++ pending m [] (fs ++ f' ∷ [])))
    (ap (entries_names (line_path (fs ++ f' ∷ []) (Some nm))) n ∙ names_none (line_path (fs ++ f' ∷ []) (Some nm)))

-- an entry's line and the rest, if its directory is entered
pub names_enter : (m : Image) (fs : List Frame) (f f' g : Frame) (nm : Bor (List ℕ)) (x : Node)
    → left m f ≡ entry nm.now x (left m f') → f'.name ≡ f.name → left m g ≡ entries_of x → g.name ≡ Some nm
    → pending m [] (fs ++ f ∷ []) ≡ one (line_path (fs ++ f' ∷ []) (Some nm)) nm.now x
    ++ pending m [] ((fs ++ f' ∷ []) ++ g ∷ [])
names_enter m fs f f' g nm x h e l n =
    let s : path_text [] (fs ++ f' ∷ []) ++ name_text g.name ≡ line_path (fs ++ f' ∷ []) (Some nm) =
    ap (λ (v : Option (Bor (List ℕ))). path_text [] (fs ++ f' ∷ []) ++ name_text v) n in
    names_at m fs f f' nm x h e
    ∙ ap (λ (v : List Name). one (line_path (fs ++ f' ∷ []) (Some nm)) nm.now x ++ v)
    (sym (pending-push m [] (fs ++ f' ∷ []) g
    ∙ (ap (λ (v : List ℕ). entries_names v (left m g) ++ pending m [] (fs ++ f' ∷ [])) s
    ∙ ap (λ (v : Entries). entries_names (line_path (fs ++ f' ∷ []) (Some nm)) v ++ pending m [] (fs ++ f' ∷ [])) l)))

-- a node, and those below it
length_nodes : (x : Node) → length (nodes x) ≡ suc (length (entries_nodes (entries_of x)))
length_nodes (node a (directory es)) = refl
length_nodes (node a (regular ps)) = refl
length_nodes (node a (symlink ps)) = refl
length_nodes (node a block) = refl
length_nodes (node a character) = refl
length_nodes (node a socket) = refl
length_nodes (node a fifo) = refl

-- each step makes less to come: at the end of a directory,
pub weight_end : (m : Image) (fs : List Frame) (f : Frame) → weight m fs < weight m (fs ++ f ∷ [])
weight_end m fs f = let h = weight-push m fs f in omega (arith, h)

-- the nodes left before an entry
counted : (m : Image) (f f' : Frame) (name : List ℕ) (x : Node) → left m f ≡ entry name x (left m f')
    → length (entries_nodes (left m f))
    ≡ suc (length (entries_nodes (entries_of x))) + length (entries_nodes (left m f'))
counted m f f' name x h = ap (λ (v : Entries). length (entries_nodes v)) h
    ∙ (length-append (nodes x) (entries_nodes (left m f'))
    ∙ ap (λ (v : ℕ). v + length (entries_nodes (left m f'))) (length_nodes x))

-- at an entry with nothing below it,
pub weight_leaf : (m : Image) (fs : List Frame) (f f' : Frame) (name : List ℕ) (x : Node)
    → left m f ≡ entry name x (left m f') → weight m (fs ++ f' ∷ []) < weight m (fs ++ f ∷ [])
weight_leaf m fs f f' name x h = let a = weight-push m fs f in let b = weight-push m fs f' in let k =
    counted m f f' name x h in omega (arith, a, b, k)

-- and if a directory is entered
pub weight_directory : (m : Image) (fs : List Frame) (f f' g : Frame) (name : List ℕ) (x : Node)
    → left m f ≡ entry name x (left m f') → left m g ≡ entries_of x
    → weight m ((fs ++ f' ∷ []) ++ g ∷ []) < weight m (fs ++ f ∷ [])
weight_directory m fs f f' g name x h l = let a = weight-push m fs f in let b = weight-push m fs f' in let d =
    weight-push m (fs ++ f' ∷ []) g in let k =
    counted m f f' name x h in let j : length (entries_nodes (left m g)) ≡ length (entries_nodes (entries_of x)) =
    ap (λ (v : Entries). length (entries_nodes v)) l in omega (arith, a, b, d, k, j)

-- the last of all frames, and those before it
pub last_frame : (m : Image) (all fs : List Frame) (f : Frame) → all ≡ fs ++ f ∷ [] → AreFrames m 0 all
    → IsFrame m (length fs) f
last_frame m all fs f e h = let P : List Frame → Type 0 = λ v. AreFrames m 0 v in let Q : ℕ → Type 0 =
    λ v. IsFrame m v f in let z : length fs + 0 ≡ length fs =
    omega arith in subst Q z (frames-last m 0 fs f (subst P e h))

pub front_frames : (m : Image) (all fs : List Frame) (f : Frame) → all ≡ fs ++ f ∷ [] → AreFrames m 0 all
    → AreFrames m 0 fs
front_frames m all fs f e h = let P : List Frame → Type 0 = λ v. AreFrames m 0 v in frames-front m 0 fs f (subst P e h)

pub push_frame : (m : Image) (fs : List Frame) (f : Frame) → AreFrames m 0 fs → IsFrame m (length fs) f
    → AreFrames m 0 (fs ++ f ∷ [])
push_frame m fs f h i = let Q : ℕ → Type 0 = λ v. IsFrame m v f in let z : length fs ≡ length fs + 0 =
    omega arith in frames-push m 0 fs f h (subst Q z i)

-- a frame at the end of the stack, after the front
pub child_frames : (m : Image) (fs : List Frame) (f g : Frame) → AreFrames m 0 (fs ++ f ∷ [])
    → IsFrame m (suc (length fs)) g → AreFrames m 0 ((fs ++ f ∷ []) ++ g ∷ [])
child_frames m fs f g h i = let Q : ℕ → Type 0 = λ v. IsFrame m v g in let z : suc (length fs) ≡ length (fs ++ f ∷ []) =
    omega (arith, length-append fs (f ∷ [])) in push_frame m (fs ++ f ∷ []) g h (subst Q z i)

pub no_frames : (m : Image) → AreFrames m 0 []
unfolding AreFrames
no_frames m = tt

-- the first frame is that of the root
pub root_frame : (m : Image) (f : Frame) → image_node m f.directory.0 ≡ Some m.tree → f.cursor.0 ≡ 0
    → HasDirectory m f.directory.0 → levels m.tree ≤ 65 → AreFrames m 0 ([] ++ f ∷ [])
root_frame m f e s h l = push_frame m [] f (no_frames m) (record {
  directory = h;
  cursor = some_is (m.cursor_index f.directory.0 f.cursor.0) 0
      (ap (m.cursor_index f.directory.0) s ∙ m.starts f.directory.0);
  deep = (rw e (omega arith));
})

-- the root's line and its frame's lines are the list
pub root_names : (m : Image) (f : Frame) → image_node m f.directory.0 ≡ Some m.tree → f.cursor.0 ≡ 0 → f.name ≡ None
    → one (47 ∷ []) [] m.tree ++ pending m [] ([] ++ f ∷ []) ≡ names m.tree
unfolding names
root_names m f e s n = ap (λ (v : List Name). one (47 ∷ []) [] m.tree ++ v)
    (pending-push m [] [] f
    ∙ (ap (λ (v : List Name). entries_names (path_text [] [] ++ name_text f.name) (left m f) ++ v) (pending-nil m [])
    ∙ (append-nil (entries_names (path_text [] [] ++ name_text f.name) (left m f))
    ∙ (ap (λ (v : List ℕ). entries_names v (left m f))
    (ap (λ (v : List ℕ). v ++ name_text f.name) (path_text-nil []) ∙ ap name_text n)
    ∙ (ap (entries_names []) (left_child m f m.tree e (ap (m.cursor_index f.directory.0) s ∙ m.starts f.directory.0))
    ∙ sym (names_directory [] m.tree))))))

-- and only its line if it is no directory
pub leaf_names : (m : Image) → false ≡ is_directory m.tree → one (47 ∷ []) [] m.tree ++ pending m [] [] ≡ names m.tree
unfolding names
leaf_names m h = ap (λ (v : List Name). one (47 ∷ []) [] m.tree ++ v)
    (pending-nil m [] ∙ sym (names_directory [] m.tree
    ∙ (ap (entries_names []) (not_directory_entries m.tree h) ∙ names_none [])))

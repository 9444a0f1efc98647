-- What one step of a list does where the last frame is before an entry.
use Rattle.std.proofs.Common.{◌≡◌, ℕ, suc, ◌<◌, true, false, List, [], ◌∷◌, ◌++◌, length, Some, None, refl, sym, ap}
use Rattle.std.proofs.Common.{◌∙◌, subst, arith, append-nil, length-append}
use Rattle.std.specs.Borrow.{Bor}
use Rattle.rom_tree.specs.declared.frame.Frame.{Frame}
use Rattle.rom_tree.specs.declared.types.NodeId.{NodeId}
use Rattle.rom_tree.specs.declared.types.Cursor.{Cursor}
use Rattle.rom_tree.specs.Tree.{Node, no_entries, entry, is_directory, entries_of, entry_at}
use Rattle.rom_tree.specs.Image.{Image, image_node, IsEntry}
use Rattle.rom_tree.specs.Names.{Name}
use Rattle.rom_tree.specs.Frames.{left, IsFrame, AreFrames, Follows, Gives, pending, path_text, way_of, line_path}
use Rattle.rom_tree.specs.Names.{named}
use Rattle.rom_tree.proofs.Nodes.{not_directory_entries}
use Rattle.rom_tree.proofs.Named.{has_directory, entry_node}
use Rattle.rom_tree.proofs.Stacks.{IsOpen, opened, left_none, left_some, left_child, one, path_text-push, frame_next}
use Rattle.rom_tree.proofs.Stacks.{frame_fits, frame_child, last_frame, front_frames, push_frame, child_frames}
use Rattle.rom_tree.proofs.Stacks.{names_end, names_leaf, names_enter, weight_end, weight_leaf, weight_directory}

-- the last frame after an entry
abbrev pub moved : Frame → Cursor → Frame
moved f c = record { directory = f.directory; cursor = c; name = f.name }

-- the frame of a directory that is entered
abbrev pub entered : NodeId → Bor (List ℕ) → Frame
entered n name = record { directory = n; cursor = record { 0 = 0 }; name = Some name }

-- the name of an entry in the last of the frames
abbrev pub entry_name : List Frame → Bor (List ℕ) → Node → List Name
entry_name fs name x = one (line_path fs (Some name)) name.now x

-- the step at an entry: a node that is no directory leaves the moved frame last, a directory is entered
pub record Turn (m : Image) (all fs : List Frame) (f : Frame) (name : Bor (List ℕ)) (n : NodeId) : Type 0 where
  pub target : Node
  pub node : image_node m n.0 ≡ Some target
  pub room : length fs < 65
  pub leaf : entries_of target ≡ no_entries → Follows m all (fs ++ f ∷ []) (entry_name (fs ++ f ∷ []) name target)
  pub deeper : is_directory target ≡ true → length (fs ++ f ∷ []) < 65
  pub enters : is_directory target ≡ true
      → Follows m all ((fs ++ f ∷ []) ++ entered n name ∷ []) (entry_name (fs ++ f ∷ []) name target)

module _ (m : Image) (fs : List Frame) (f : Frame) (name : Bor (List ℕ)) (n : NodeId) (c : Cursor)
    (all : AreFrames m 0 (fs ++ f ∷ [])) (o : IsOpen m f)
    (e : IsEntry m f.directory.0 (entries_of o.dir) o.index name.now n.0 c.0) where
  abbrev f' : Frame
  f' = moved f c

  last : IsFrame m (length fs) f
  last = last_frame m (fs ++ f ∷ []) fs f refl all

  node : image_node m n.0 ≡ Some e.target
  node = entry_node m f.directory.0 o.dir o.index name.now n.0 c.0 o.is_dir e

  next : left m f ≡ entry name.now e.target (left m f')
  next = left_some m f f' o name.now n.0 e refl

  frames : AreFrames m 0 (fs ++ f' ∷ [])
  frames = push_frame m fs f' (front_frames m (fs ++ f ∷ []) fs f refl all)
      (frame_next m (length fs) f f' o name.now n.0 e refl last)

  child : is_directory e.target ≡ true → IsFrame m (suc (length fs)) (entered n name)
  child d = frame_child m (length fs) f (entered n name) o name.now n.0 c.0 e node (has_directory m n.0 e.target node d)
      (m.starts n.0) last

  first : left m (entered n name) ≡ entries_of e.target
  first = left_child m (entered n name) e.target node (m.starts n.0)

  pub turn_here : Turn m (fs ++ f ∷ []) fs f' name n
  turn_here = record {
    target = e.target;
    node = node;
    room = frame_fits m (length fs) f last;
    leaf = λ none. record {
      frames = frames;
      less = weight_leaf m fs f f' name.now e.target next;
      names = names_leaf m fs f f' name e.target next refl none;
    };
    deeper = λ d. let r = frame_fits m (suc (length fs)) (entered n name) (child d) in omega
        (arith, r, length-append fs (f' ∷ []));
    enters = λ d. record {
      frames = child_frames m fs f' (entered n name) frames (child d);
      less = weight_directory m fs f f' (entered n name) name.now e.target next first;
      names = names_enter m fs f f' (entered n name) name e.target next refl first refl;
    };
  }

-- the step of a stack whose last frame gives an entry
pub turn : (m : Image) (all fs : List Frame) (f : Frame) (name : Bor (List ℕ)) (n : NodeId) (c : Cursor)
    → all ≡ fs ++ f ∷ [] → AreFrames m 0 all
    → ((x : Node) (i : ℕ) → image_node m f.directory.0 ≡ Some x → m.cursor_index f.directory.0 f.cursor.0 ≡ Some i
    → IsEntry m f.directory.0 (entries_of x) i name.now n.0 c.0)
    → Turn m all fs (moved f c) name n
turn m all fs f name n c h a e =
    let P : List Frame → Type 0 = λ v. Turn m v fs (moved f c) name n in
    let o : IsOpen m f = opened m (length fs) f (last_frame m all fs f h a) in
    let Q : List Frame → Type 0 = λ v. AreFrames m 0 v in
    subst P (sym h) (turn_here m fs f name n c (subst Q h a) o (e o.dir o.index o.is_dir o.is_index))

-- the step of a stack whose last frame gives no entry: that directory ends
pub ends : (m : Image) (all fs : List Frame) (f : Frame) → all ≡ fs ++ f ∷ [] → AreFrames m 0 all
    → ((x : Node) (i : ℕ) → image_node m f.directory.0 ≡ Some x → m.cursor_index f.directory.0 f.cursor.0 ≡ Some i
    → entry_at (entries_of x) i ≡ None)
    → Follows m all fs []
ends m all fs f h a none =
    let o : IsOpen m f = opened m (length fs) f (last_frame m all fs f h a) in
    rw h (record {
      frames = front_frames m all fs f h a;
      less = weight_end m fs f;
      names = names_end m fs f (left_none m f o (none o.dir o.index o.is_dir o.is_index));
    })

-- what follows a stack follows an equal one
pub follows_as : (m : Image) (all fs gs : List Frame) (given : List Name) → gs ≡ fs → Follows m all fs given
    → Follows m all gs given
follows_as m all fs gs given e h = let P : List Frame → Type 0 = λ v. Follows m all v given in subst P (sym e) h

-- a node that is no directory is given, and its frame is the last
pub gives_leaf : (m : Image) (all fs gs : List Frame) (f : Frame) (name : Bor (List ℕ)) (n : NodeId)
    → (t : Turn m all fs f name n) → gs ≡ fs ++ f ∷ [] → false ≡ is_directory t.target → Gives m all gs name n.0 false
gives_leaf m all fs gs f name n t e d =
    let P : List Frame → Type 0 = λ v. Gives m all v name n.0 false in
    let h = t.leaf (not_directory_entries t.target d) in
    subst P (sym e) (record { node = t.target; at = t.node; frames = h.frames; less = h.less; names = h.names })

-- a directory is given, and entered
pub gives_entered : (m : Image) (all fs gs : List Frame) (f : Frame) (name : Bor (List ℕ)) (n : NodeId)
    → (t : Turn m all fs f name n) → gs ≡ (fs ++ f ∷ []) ++ entered n name ∷ [] → is_directory t.target ≡ true
    → Gives m all gs name n.0 true
gives_entered m all fs gs f name n t e d =
    let P : List Frame → Type 0 = λ v. Gives m all v name n.0 true in
    let h = t.enters d in
    let top : List Frame = (fs ++ f ∷ []) ++ entered n name ∷ [] in
    let way : line_path (fs ++ f ∷ []) (Some name) ≡ way_of (Some name) true top =
    sym (append-nil (path_text [] top) ∙ path_text-push [] (fs ++ f ∷ []) (entered n name)) in
    subst P (sym e) (record {
      node = t.target;
      at = t.node;
      frames = h.frames;
      less = h.less;
      names = h.names ∙ ap (λ (v : List ℕ). named v name.now t.target ∷ pending m [] top) way;
    })

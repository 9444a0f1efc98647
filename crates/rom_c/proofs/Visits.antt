-- The steps of a walk without names.
use Rattle.std.proofs.Common.{◌≡◌, ℕ, suc, ◌≤◌, ◌<◌, ◌==◌, true, false, List, [], ◌∷◌, ◌++◌, length, Some, None}
use Rattle.std.proofs.Common.{refl, sym, ap, ◌∙◌, subst, arith, append_assoc, append-nil, length-append}
use Rattle.std.proofs.lemmas.List.{map-append, length-map}
use Rattle.std.proofs.lemmas.Bool.{eqb-true}
use Rattle.rom_tree.specs.declared.frame.Frame.{Frame}
use Rattle.rom_tree.specs.declared.types.NodeId.{NodeId}
use Rattle.rom_tree.specs.declared.types.Cursor.{Cursor}
use Rattle.rom_tree.specs.Tree.{Node, node, directory, regular, symlink, block, character, socket, fifo, Entries}
use Rattle.rom_tree.specs.Tree.{no_entries, entry, is_directory, entries_of, entries_nodes, entry_at, nodes, levels}
use Rattle.rom_tree.specs.Image.{Image, image_node, IsEntry, HasDirectory}
use Rattle.rom_tree.specs.Frames.{AreFrames, IsFrame, left}
use Rattle.rom_tree.proofs.Nodes.{not_directory_entries}
use Rattle.rom_tree.proofs.Named.{has_directory, entry_node}
use Rattle.rom_tree.proofs.Stacks.{IsOpen, opened, left_none, left_some, left_child, frame_next, frame_fits}
use Rattle.rom_tree.proofs.Stacks.{frame_child}
use Rattle.rom_tree.proofs.Stacks.{last_frame, front_frames, push_frame, child_frames, root_frame, no_frames}
use Rattle.rom_tree.proofs.Stacks.{weight_end, weight_leaf, weight_directory}
use Rattle.rom_c.specs.declared.visit.Place.{Place}
use Rattle.rom_c.specs.declared.visit.Visit.{Visit}
use Rattle.rom_c.specs.Visits.{frame_of, frames_of, ArePlaces, nodes_left, Passes, Yields, to_visit, Visits}

-- the last place is that of the last frame
pub framed : (ps : List Place) (p : Place) → frames_of (ps ++ p ∷ []) ≡ frames_of ps ++ frame_of p ∷ []
framed ps p = map-append frame_of ps (p ∷ [])

pub framed_all : (all ps : List Place) (p : Place) → all ≡ ps ++ p ∷ []
    → frames_of all ≡ frames_of ps ++ frame_of p ∷ []
framed_all all ps p e = ap frames_of e ∙ framed ps p

pub left-nil : (m : Image) → nodes_left m [] ≡ []
unfolding nodes_left
left-nil m = refl

-- the nodes of the last place come first
left-push : (m : Image) (ps : List Place) (p : Place)
    → nodes_left m (ps ++ p ∷ []) ≡ entries_nodes (left m (frame_of p)) ++ nodes_left m ps
unfolding nodes_left
left-push m [] p = sym (append-nil (entries_nodes (left m (frame_of p))))
left-push m (q ∷ ps) p =
    ap (λ (v : List Node). v ++ entries_nodes (left m (frame_of q))) (left-push m ps p)
    ∙ append_assoc (entries_nodes (left m (frame_of p))) (nodes_left m ps) (entries_nodes (left m (frame_of q)))

-- a node comes before those below it
pub node_first : (x : Node) → nodes x ≡ x ∷ entries_nodes (entries_of x)
node_first (node a (directory es)) = refl
node_first (node a (regular ps)) = refl
node_first (node a (symlink ps)) = refl
node_first (node a block) = refl
node_first (node a character) = refl
node_first (node a socket) = refl
node_first (node a fifo) = refl

-- if a directory ends, the rest is that of the places before it
left_end : (m : Image) (ps : List Place) (p : Place) → left m (frame_of p) ≡ no_entries
    → nodes_left m (ps ++ p ∷ []) ≡ [] ++ nodes_left m ps
left_end m ps p h = left-push m ps p ∙ ap (λ (v : Entries). entries_nodes v ++ nodes_left m ps) h

-- an entry's node, what lies below it, and the rest
left_at : (m : Image) (ps : List Place) (p q : Place) (name : List ℕ) (x : Node)
    → left m (frame_of p) ≡ entry name x (left m (frame_of q))
    → nodes_left m (ps ++ p ∷ []) ≡ x ∷ (entries_nodes (entries_of x) ++ nodes_left m (ps ++ q ∷ []))
left_at m ps p q name x h =
    let es : List Node = entries_nodes (left m (frame_of q)) in
    left-push m ps p
    ∙ (ap (λ (v : Entries). entries_nodes v ++ nodes_left m ps) h
    ∙ (ap (λ (v : List Node). (v ++ es) ++ nodes_left m ps) (node_first x)
    ∙ ap (λ (v : List Node). x ∷ v)
    (append_assoc (entries_nodes (entries_of x)) es (nodes_left m ps)
    ∙ ap (λ (v : List Node). entries_nodes (entries_of x) ++ v) (sym (left-push m ps q)))))

left_leaf : (m : Image) (ps : List Place) (p q : Place) (name : List ℕ) (x : Node)
    → left m (frame_of p) ≡ entry name x (left m (frame_of q)) → entries_of x ≡ no_entries
    → nodes_left m (ps ++ p ∷ []) ≡ x ∷ nodes_left m (ps ++ q ∷ [])
left_leaf m ps p q name x h n =
    left_at m ps p q name x h
    ∙ ap (λ (v : Entries). x ∷ (entries_nodes v ++ nodes_left m (ps ++ q ∷ []))) n

left_enter : (m : Image) (ps : List Place) (p q r : Place) (name : List ℕ) (x : Node)
    → left m (frame_of p) ≡ entry name x (left m (frame_of q)) → left m (frame_of r) ≡ entries_of x
    → nodes_left m (ps ++ p ∷ []) ≡ x ∷ nodes_left m ((ps ++ q ∷ []) ++ r ∷ [])
left_enter m ps p q r name x h l =
    left_at m ps p q name x h
    ∙ ap (λ (v : List Node). x ∷ v)
    (sym (left-push m (ps ++ q ∷ []) r
    ∙ ap (λ (v : Entries). entries_nodes v ++ nodes_left m (ps ++ q ∷ [])) l))

-- the last place after an entry, and that of a directory that is entered
abbrev pub moved : Place → Cursor → Place
moved p c = record { directory = p.directory; cursor = c }

abbrev pub entered : NodeId → Place
entered n = record { directory = n; cursor = record { 0 = 0 } }

-- the step at an entry: a node that is no directory leaves the moved place last, a directory is entered
pub record Turn (m : Image) (all ps : List Place) (p : Place) (n : NodeId) : Type 0 where
  pub target : Node
  pub node : image_node m n.0 ≡ Some target
  pub room : length ps < 65
  pub leaf : entries_of target ≡ no_entries → Passes m all (ps ++ p ∷ []) (target ∷ [])
  pub deeper : is_directory target ≡ true → length (ps ++ p ∷ []) < 65
  pub enters : is_directory target ≡ true → Passes m all ((ps ++ p ∷ []) ++ entered n ∷ []) (target ∷ [])

module _ (m : Image) (ps : List Place) (p : Place) (name : List ℕ) (n : NodeId) (c : Cursor)
    (all : AreFrames m 0 (frames_of ps ++ frame_of p ∷ [])) (o : IsOpen m (frame_of p))
    (e : IsEntry m p.directory.0 (entries_of o.dir) o.index name n.0 c.0) where
  abbrev fs : List Frame
  fs = frames_of ps

  abbrev f : Frame
  f = frame_of p

  abbrev f' : Frame
  f' = frame_of (moved p c)

  abbrev g : Frame
  g = frame_of (entered n)

  last : IsFrame m (length fs) f
  last = last_frame m (fs ++ f ∷ []) fs f refl all

  there : image_node m n.0 ≡ Some e.target
  there = entry_node m p.directory.0 o.dir o.index name n.0 c.0 o.is_dir e

  next : left m f ≡ entry name e.target (left m f')
  next = left_some m f f' o name n.0 e refl

  frames : AreFrames m 0 (fs ++ f' ∷ [])
  frames = push_frame m fs f' (front_frames m (fs ++ f ∷ []) fs f refl all)
      (frame_next m (length fs) f f' o name n.0 e refl last)

  child : is_directory e.target ≡ true → IsFrame m (suc (length fs)) g
  child d = frame_child m (length fs) f g o name n.0 c.0 e there (has_directory m n.0 e.target there d)
      (m.starts n.0) last

  first : left m g ≡ entries_of e.target
  first = left_child m g e.target there (m.starts n.0)

  one : frames_of (ps ++ moved p c ∷ []) ≡ fs ++ f' ∷ []
  one = framed ps (moved p c)

  two : frames_of ((ps ++ moved p c ∷ []) ++ entered n ∷ []) ≡ (fs ++ f' ∷ []) ++ g ∷ []
  two = framed (ps ++ moved p c ∷ []) (entered n) ∙ ap (λ (v : List Frame). v ++ g ∷ []) one

  pub turn_here : Turn m (ps ++ p ∷ []) ps (moved p c) n
  turn_here =
      let k : length fs ≡ length ps = length-map ps frame_of in
      let before : frames_of (ps ++ p ∷ []) ≡ fs ++ f ∷ [] = framed ps p in
      record {
        target = e.target;
        node = there;
        room = let r = frame_fits m (length fs) f last in omega (arith, r, k);
        leaf = λ none. record {
          places = subst (AreFrames m 0) (sym one) frames;
          less = rw (one, before) (weight_leaf m fs f f' name e.target next);
          nodes = left_leaf m ps p (moved p c) name e.target next none;
        };
        deeper = λ d. let r = frame_fits m (suc (length fs)) g (child d) in omega
            (arith, r, k, length-append ps (moved p c ∷ []));
        enters = λ d. record {
          places = subst (AreFrames m 0) (sym two) (child_frames m fs f' g frames (child d));
          less = rw (two, before) (weight_directory m fs f f' g name e.target next first);
          nodes = left_enter m ps p (moved p c) (entered n) name e.target next first;
        };
      }

-- the step of a stack whose last place gives an entry
pub turn : (m : Image) (all ps : List Place) (p : Place) (name : List ℕ) (n : NodeId) (c : Cursor)
    → all ≡ ps ++ p ∷ [] → ArePlaces m all
    → ((x : Node) (i : ℕ) → image_node m p.directory.0 ≡ Some x → m.cursor_index p.directory.0 p.cursor.0 ≡ Some i
    → IsEntry m p.directory.0 (entries_of x) i name n.0 c.0)
    → Turn m all ps (moved p c) n
turn m all ps p name n c h a e =
    let P : List Place → Type 0 = λ v. Turn m v ps (moved p c) n in
    let b : AreFrames m 0 (frames_of ps ++ frame_of p ∷ []) = subst (AreFrames m 0) (framed_all all ps p h) a in
    let o : IsOpen m (frame_of p) =
    opened m (length (frames_of ps)) (frame_of p)
    (last_frame m (frames_of ps ++ frame_of p ∷ []) (frames_of ps) (frame_of p) refl b) in
    subst P (sym h) (turn_here m ps p name n c b o (e o.dir o.index o.is_dir o.is_index))

-- the last place's directory and its index
pub last_place : (m : Image) (all ps : List Place) (p : Place) → all ≡ ps ++ p ∷ [] → ArePlaces m all
    → IsFrame m (length (frames_of ps)) (frame_of p)
last_place m all ps p h a =
    last_frame m (frames_of all) (frames_of ps) (frame_of p) (framed_all all ps p h) a

-- the step of a stack whose last place gives no entry: that directory ends
pub ends : (m : Image) (all ps : List Place) (p : Place) → all ≡ ps ++ p ∷ [] → ArePlaces m all
    → ((x : Node) (i : ℕ) → image_node m p.directory.0 ≡ Some x → m.cursor_index p.directory.0 p.cursor.0 ≡ Some i
    → entry_at (entries_of x) i ≡ None)
    → Passes m all ps []
ends m all ps p h a none =
    let fs : List Frame = frames_of ps in
    let f : Frame = frame_of p in
    let before : frames_of all ≡ fs ++ f ∷ [] = framed_all all ps p h in
    let o : IsOpen m f = opened m (length fs) f (last_place m all ps p h a) in
    record {
      places = front_frames m (frames_of all) fs f before a;
      less = rw before (weight_end m fs f);
      nodes = ap (nodes_left m) h ∙ left_end m ps p (left_none m f o (none o.dir o.index o.is_dir o.is_index));
    }

-- a node that is no directory is returned, and its place is the last
pub yields_leaf : (m : Image) (all ps new : List Place) (p : Place) (n : NodeId) → (t : Turn m all ps p n)
    → new ≡ ps ++ p ∷ [] → false ≡ is_directory t.target → Yields m all new n.0
yields_leaf m all ps new p n t e d =
    let P : List Place → Type 0 = λ v. Yields m all v n.0 in
    subst P (sym e)
    (record { node = t.target; at = t.node; passes = t.leaf (not_directory_entries t.target d) })

-- a directory is returned, and entered
pub yields_entered : (m : Image) (all ps new : List Place) (p : Place) (n : NodeId) → (t : Turn m all ps p n)
    → new ≡ (ps ++ p ∷ []) ++ entered n ∷ [] → is_directory t.target ≡ true → Yields m all new n.0
yields_entered m all ps new p n t e d =
    let P : List Place → Type 0 = λ v. Yields m all v n.0 in
    subst P (sym e) (record { node = t.target; at = t.node; passes = t.enters d })

-- The walk as a whole.

pub fresh_nodes : (m : Image) (v : Visit) → v.begun ≡ false → to_visit m v ≡ nodes m.tree
fresh_nodes m v h = rw h refl

pub begun_nodes : (m : Image) (v : Visit) → v.begun ≡ true → to_visit m v ≡ nodes_left m v.stack.items
begun_nodes m v h = rw h refl

-- the root is returned first
pub root_visited : (m : Image) (old new : Visit) (n : ℕ) → old.begun ≡ false → new.begun ≡ true
    → image_node m n ≡ Some m.tree → nodes_left m new.stack.items ≡ entries_nodes (entries_of m.tree)
    → Visits m old new n
root_visited m old new n b d x h = record {
  node = m.tree;
  first = fresh_nodes m old b ∙ (node_first m.tree
      ∙ ap (λ (v : List Node). m.tree ∷ v) (sym h ∙ sym (begun_nodes m new d)));
  at = x;
}

-- the place of the root
pub root_left : (m : Image) (n : NodeId) (ps : List Place) → image_node m n.0 ≡ Some m.tree → ps ≡ [] ++ entered n ∷ []
    → nodes_left m ps ≡ entries_nodes (entries_of m.tree)
root_left m n ps x e =
    ap (nodes_left m) e
    ∙ (left-push m [] (entered n)
    ∙ (ap (λ (v : List Node). entries_nodes (left m (frame_of (entered n))) ++ v) (left-nil m)
    ∙ (append-nil (entries_nodes (left m (frame_of (entered n))))
    ∙ ap entries_nodes (left_child m (frame_of (entered n)) m.tree x (m.starts n.0)))))

pub leaf_left : (m : Image) (ps : List Place) → ps ≡ [] → false ≡ is_directory m.tree
    → nodes_left m ps ≡ entries_nodes (entries_of m.tree)
leaf_left m ps e d =
    ap (nodes_left m) e ∙ (left-nil m ∙ sym (ap entries_nodes (not_directory_entries m.tree d)))

pub root_places : (m : Image) (n : NodeId) (ps : List Place) → image_node m n.0 ≡ Some m.tree
    → HasDirectory m n.0 → levels m.tree ≤ 65 → ps ≡ [] ++ entered n ∷ [] → ArePlaces m ps
root_places m n ps x d l e =
    subst (ArePlaces m) (sym e) (root_frame m (frame_of (entered n)) x refl d l)

pub no_places : (m : Image) (ps : List Place) → ps ≡ [] → ArePlaces m ps
no_places m ps e = subst (ArePlaces m) (sym e) (no_frames m)

pub empty_by : (ps : List Place) → (length ps == 0) ≡ true → ps ≡ []
empty_by [] h = refl
empty_by (p ∷ ps) h = absurd (omega (arith, eqb-true (length (p ∷ ps)) 0 h))

-- what a step found is returned
pub found_visited : (m : Image) (old self new : Visit) (n : ℕ) → to_visit m self ≡ to_visit m old
    → self.begun ≡ true → new.begun ≡ true → Yields m self.stack.items new.stack.items n → Visits m old new n
found_visited m old self new n e b d y = record {
  node = y.node;
  first = sym e ∙ (begun_nodes m self b
      ∙ (y.passes.nodes ∙ ap (λ (v : List Node). y.node ∷ v) (sym (begun_nodes m new d))));
  at = y.at;
}

pub over : (m : Image) (old self : Visit) → to_visit m self ≡ to_visit m old → self.begun ≡ true
    → self.stack.items ≡ [] → to_visit m old ≡ []
over m old self e b h = sym e ∙ (begun_nodes m self b ∙ (ap (nodes_left m) h ∙ left-nil m))

-- less is to come after a node
pub fewer : (x : Node) (old new : List Node) → old ≡ x ∷ new → length new < length old
fewer x old new e = rw e (omega arith)

-- there is room for one more where the last place was
pub placed : (m : Image) (all ps : List Place) (p : Place) → all ≡ ps ++ p ∷ [] → ArePlaces m all → length ps < 65
placed m all ps p h a =
    let r = frame_fits m (length (frames_of ps)) (frame_of p) (last_place m all ps p h a) in
    omega (arith, r, length-map ps frame_of)

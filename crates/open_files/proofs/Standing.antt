-- The meaning of an open node of the code.
use Rattle.std.proofs.Common.{◌≡◌, ℕ, zero, suc, ◌<◌, Bool, true, false, List, [], ◌∷◌, length, get_or, map, Option}
use Rattle.std.proofs.Common.{Some, None, Result, Ok, Err, refl, sym, ap, ◌∙◌, subst, arith}
use Rattle.std.specs.Prelude.{◌||◌, option_map}
use Rattle.std.proofs.lemmas.Bool.{false≢true}
use Rattle.rom_tree.specs.Tree.{Node, is_directory, is_regular}
use Rattle.rom_tree.specs.Image.{Image, HasNode, image_node}
use Rattle.rom_tree.proofs.Named.{has_node}
use Rattle.path_walk.specs.declared.mount.Mount.{Mount}
use Rattle.path_walk.specs.Graft.{MountedNode, node_in, bytes_in}
use Rattle.path_walk.proofs.GraftNodes.{node_below, map_node, map_bytes, map_below}
use Rattle.open_files.specs.declared.error.CallError.{CallError}
use Rattle.open_files.specs.declared.slot.OpenNode.{OpenNode}
use Rattle.open_files.specs.Machine.{Open, Outcome}
use Rattle.open_files.specs.Slots.{View, image_view, graft_node, index_in, graft_view, IsImage, HasPlace, open_by}
use Rattle.open_files.specs.Slots.{open_there, open_as, stands, moved, Moves}

pub none_some : {A : Type 0} (x : A) → None ≡ Some x → ⊥
none_some x h = cc

pub by_map : {A B : Type 0} (f : A → B) (v : Option A) (y : B) → option_map f v ≡ Some y
    → (x : A) × (v ≡ Some x) × (f x ≡ y)
by_map f None y h = absurd (none_some y h)
by_map f (Some x) y h = (x, refl, cc)

openable : (x : Node) → true ≡ (is_directory x || is_regular x) → is_directory x ≡ false → is_regular x ≡ true
openable x h d = sym (h ∙ ap (λ (v : Bool). v || is_regular x) d)

on_directory : {R : Type 0} (b : Bool) → (b ≡ true → R) → (b ≡ false → R) → R
on_directory true f g = f refl
on_directory false f g = g refl

module _ {F : Type 0} where
  pub record IsOpen (v : View F) (s : OpenNode) (o : Open F) : Type 0 where
    pub place : v.place s.image s.node.0 ≡ Some o.place
    pub file : is_directory (v.names.node o.place) ≡ false → o.position ≡ s.position
    pub regular : is_directory (v.names.node o.place) ≡ false → is_regular (v.names.node o.place) ≡ true
    pub directory : is_directory (v.names.node o.place) ≡ true → v.index s.image s.node.0 s.position ≡ Some o.position

  -- the same of plain values
  record IsBy (d r : Bool) (p : ℕ) (x : F) (k : Option ℕ) (o : Open F) : Type 0 where
    place : o.place ≡ x
    file : d ≡ false → o.position ≡ p
    regular : d ≡ false → r ≡ true
    directory : d ≡ true → k ≡ Some o.position

  by_is : (d r : Bool) (p : ℕ) (x : F) (k : Option ℕ) (o : Open F) → open_by d r p x k ≡ Some o → IsBy d r p x k o
  by_is true r p x None o h = absurd (none_some o h)
  by_is true r p x (Some k) o h =
      let q : record { place = x; position = k } ≡ o = cc in
      let P : Open F → Type 0 = λ v. IsBy true r p x (Some k) v in
      subst P q (record {
        place = refl;
        file = λ e. absurd (false≢true (sym e));
        regular = λ e. absurd (false≢true (sym e));
        directory = λ e. refl;
      })
  by_is false true p x k o h =
      let q : record { place = x; position = p } ≡ o = cc in
      let P : Open F → Type 0 = λ v. IsBy false true p x k v in
      subst P q (record { place = refl; file = λ e. refl; regular = λ e. refl; directory = λ e. absurd (false≢true e) })
  by_is false false p x k o h = absurd (none_some o h)

  there_is : (v : View F) (s : OpenNode) (w : Option F) (o : Open F) → v.place s.image s.node.0 ≡ w
      → open_there v.names.node s.position (v.index s.image s.node.0 s.position) w ≡ Some o → IsOpen v s o
  there_is v s None o n h = absurd (none_some o h)
  there_is v s (Some x) o n h =
      let b : IsBy (is_directory (v.names.node x)) (is_regular (v.names.node x)) s.position x
      (v.index s.image s.node.0 s.position) o
      = by_is (is_directory (v.names.node x)) (is_regular (v.names.node x)) s.position x
      (v.index s.image s.node.0 s.position) o h in
      let e : is_directory (v.names.node o.place) ≡ is_directory (v.names.node x) =
      ap (λ (y : F). is_directory (v.names.node y)) b.place in
      record {
        place = n ∙ ap (λ (y : F). Some y) (sym b.place);
        file = λ f. b.file (sym e ∙ f);
        regular = λ f. ap (λ (y : F). is_regular (v.names.node y)) b.place ∙ b.regular (sym e ∙ f);
        directory = λ f. b.directory (sym e ∙ f);
      }

  pub is_open : (v : View F) (s : OpenNode) (o : Open F) → stands v s ≡ Some o → IsOpen v s o
  unfolding open_as
  is_open v s o h = there_is v s (v.place s.image s.node.0) o refl h

  pub open_file : (v : View F) (s : OpenNode) (x : F) → v.place s.image s.node.0 ≡ Some x
      → is_directory (v.names.node x) ≡ false → is_regular (v.names.node x) ≡ true
      → stands v s ≡ Some (record { place = x; position = s.position })
  unfolding open_as
  open_file v s x e d r = rw (e, d, r)

  pub open_directory : (v : View F) (s : OpenNode) (x : F) (k : ℕ) → v.place s.image s.node.0 ≡ Some x
      → is_directory (v.names.node x) ≡ true → v.index s.image s.node.0 s.position ≡ Some k
      → stands v s ≡ Some (record { place = x; position = k })
  unfolding open_as
  open_directory v s x k e d c = rw (e, d, c)

  -- a node that can be opened, at its start
  pub open_start : (v : View F) (s : OpenNode) (x : F) (m : Image) → IsImage v s.image m
      → v.place s.image s.node.0 ≡ Some x → true ≡ (is_directory (v.names.node x) || is_regular (v.names.node x))
      → s.position ≡ 0
      → stands v s ≡ Some (record { place = x; position = 0 })
  open_start v s x m i e h z =
      on_directory (is_directory (v.names.node x))
      (λ d. open_directory v s x 0 e d (i.index s.node.0 s.position
      ∙ (ap (m.cursor_index s.node.0) z ∙ m.starts s.node.0)))
      (λ d. open_file v s x e d (openable (v.names.node x) h d)
      ∙ ap (λ (p : ℕ). Some (record { place = x; position = p })) z)

module _ {F : Type 0} where
  -- an open node, seen in its image alone
  abbrev pub in_image : View F → Open F → Open Node
  in_image v o = record { place = v.names.node o.place; position = o.position }

  pub stands_in_image : (v : View F) (s : OpenNode) (o : Open F) (m : Image) → IsImage v s.image m → stands v s ≡ Some o
      → stands (image_view m) s ≡ Some (in_image v o)
  stands_in_image v s o m i h =
      let k : IsOpen v s o = is_open v s o h in
      let n : image_node m s.node.0 ≡ Some (v.names.node o.place) = i.node s.node.0 o.place k.place in
      on_directory (is_directory (v.names.node o.place))
      (λ d. open_directory (image_view m) s (v.names.node o.place) o.position n d
      (sym (i.index s.node.0 s.position) ∙ k.directory d))
      (λ d. open_file (image_view m) s (v.names.node o.place) n d (k.regular d)
      ∙ ap (λ (p : ℕ). Some (record { place = v.names.node o.place; position = p })) (sym (k.file d)))

  -- and back, at another position
  moved_back : (v : View F) (old new : OpenNode) (o : Open F) (m : Image) (q : ℕ) → IsImage v old.image m
      → stands v old ≡ Some o
      → stands (image_view m) new ≡ Some (moved (in_image v o) q) → new.image ≡ old.image → new.node ≡ old.node
      → stands v new ≡ Some (moved o q)
  moved_back v old new o m q i h n a b =
      let k : IsOpen v old o = is_open v old o h in
      let j : IsOpen (image_view m) new (moved (in_image v o) q) =
      is_open (image_view m) new (moved (in_image v o) q) n in
      let e : v.place new.image new.node.0 ≡ Some o.place =
      ap (λ (w : ℕ). v.place w new.node.0) a ∙ (ap (λ w. v.place old.image w.0) b ∙ k.place) in
      on_directory (is_directory (v.names.node o.place))
      (λ d. open_directory v new o.place q e d
      (ap (λ (w : ℕ). v.index w new.node.0 new.position) a ∙ (i.index new.node.0 new.position ∙ j.directory d)))
      (λ d. open_file v new o.place e d (k.regular d)
      ∙ ap (λ (p : ℕ). Some (record { place = o.place; position = p })) (sym (j.file d)))

  -- a call on what is open, seen in its image alone, is a call on what is open
  pub moves_back : {R : Type 0} (v : View F) (old new : OpenNode) (o : Open F) (m : Image) (f g : Outcome R)
      (r : Result R CallError) → IsImage v old.image m → stands v old ≡ Some o → f ≡ g
      → Moves (image_view m) (in_image v o) old new g r → Moves v o old new f r
  moves_back v old new o m f g (Ok r) i h e k = (k.0, e ∙ k.1, moved_back v old new o m k.0 i h k.2 k.3 k.4, k.3, k.4)
  moves_back v old new o m f g (Err c) i h e k = (e ∙ k.0, k.1)

  -- what is open has a place in the view
  pub has_place : (v : View F) (s : OpenNode) (o : Open F) → stands v s ≡ Some o → HasPlace v s.image
  has_place v s o h = let k : IsOpen v s o = is_open v s o h in (s.node.0, o.place, k.place)

-- an open node is one of its image
pub node_asks : (m : Image) (s : OpenNode) → (o : Open Node) × (stands (image_view m) s ≡ Some o) → HasNode m s.node.0
node_asks m s h = has_node m s.node.0 h.0.place (is_open (image_view m) s h.0 h.1).place

-- the images of a slice

index_map : {T : Type 0} (f : T → Image) (xs : List T) (i : ℕ) (y : T) (d c : ℕ) → i < length xs
    → index_in (map f xs) i d c ≡ (f (get_or xs i y)).cursor_index d c
index_map f [] i y d c l = absurd (omega (arith, l))
index_map f (x ∷ xs) zero y d c l = refl
index_map f (x ∷ xs) (suc i) y d c l = index_map f xs i y d c (omega (arith, l))

pub place_below : {T : Type 0} (f : T → Image) (xs : List T) (us : List Mount) (i : ℕ)
    → HasPlace (graft_view (map f xs) us) i → i < length xs
place_below f xs us i h =
    let r = by_map (graft_node i) (node_in (map f xs) i h.0) h.1 h.2 in
    map_below f xs i (node_below (map f xs) i h.0 r.0 r.1)

pub image_in : {T : Type 0} (f : T → Image) (xs : List T) (us : List Mount) (i : ℕ) (y : T) → y ≡ get_or xs i y
    → i < length xs → IsImage (graft_view (map f xs) us) i (f y)
image_in f xs us i y e l =
    record {
      node = λ n x h. let r = by_map (graft_node i) (node_in (map f xs) i n) x h in
          ap (λ z. image_node (f z) n) e ∙ (map_node f xs i n y r.0 r.1 ∙ ap (λ (s : MountedNode). Some s.node) r.2);
      bytes = λ n x h. let r = by_map (graft_node i) (node_in (map f xs) i n) x h in
          ap (λ (s : MountedNode). bytes_in (map f xs) s.image) (sym r.2)
          ∙ (map_bytes f xs i y l ∙ ap (λ z. (f z).bytes) (sym e));
      number = λ n x h. let r = by_map (graft_node i) (node_in (map f xs) i n) x h in ap
          (λ (s : MountedNode). Some s.image) (sym r.2);
      index = λ d c. index_map f xs i y d c l ∙ ap (λ z. (f z).cursor_index d c) (sym e);
    }

module _ {F R : Type 0} (f : Option ℕ → List ℕ → Node → ℕ → Outcome R) (v : View F) (old : OpenNode) (o : Open F)
    (m : Image) (i : IsImage v old.image m) (h : stands v old ≡ Some o) where
  -- the outcome of a call in a view, and in the image alone
  pub in_view : f (v.number o.place) (v.names.bytes o.place) (v.names.node o.place) o.position
      ≡ f (v.label old.image) m.bytes (v.names.node o.place) o.position
  in_view =
      let k : IsOpen v old o = is_open v old o h in
      ap (λ (w : Option ℕ). f w (v.names.bytes o.place) (v.names.node o.place) o.position)
      (i.number old.node.0 o.place k.place)
      ∙ ap (λ (w : List ℕ). f (v.label old.image) w (v.names.node o.place) o.position)
      (i.bytes old.node.0 o.place k.place)

  pub moves_in_view : (new : OpenNode) (r : Result R CallError)
      → Moves (image_view m) (in_image v o) old new (f (v.label old.image) m.bytes (v.names.node o.place) o.position) r
      → Moves v o old new (f (v.number o.place) (v.names.bytes o.place) (v.names.node o.place) o.position) r
  moves_in_view new r k = moves_back v old new o m _ _ r i h in_view k

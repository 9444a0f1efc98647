-- What a mount owes, said once for a whole space: s' is what the walk leaves of s, and p is where it led, the node
-- `dir` of image `on`.
use Rattle.std.proofs.Common.{◌≡◌, ℕ, ◌<◌, ◌==◌, List, [], ◌∷◌, ◌++◌, Some, true, false, Ok, refl, sym, ap, ◌∙◌}
use Rattle.std.proofs.Common.{subst, arith}
use Rattle.std.proofs.Common.{length, get_or}
use Rattle.std.proofs.lemmas.List.{length-map}
use Rattle.std.specs.Prelude.{find}
use Rattle.rom_tree.specs.declared.image.Viewed.{Ghosts}
use Rattle.rom_tree.specs.declared.types.NodeId.{NodeId}
use Rattle.rom_tree.specs.Tree.{ino_of, is_directory}
use Rattle.rom_tree.specs.Image.{Image, HasNode, image_node}
use Rattle.rom_tree.proofs.Named.{has_node}
use Rattle.path_walk.specs.declared.mount.Mount.{Mount}
use Rattle.path_walk.specs.Resolution.{resolution}
use Rattle.path_walk.specs.Graft.{MountedNode, Names, graft, are_mounts, tree_in, covers, IsUncovered}
use Rattle.path_walk.proofs.GraftNodes.{map_tree}
use Rattle.open_files.specs.declared.space.Space.{Space}
use Rattle.open_files.specs.Calls.{give}
use Rattle.open_files.specs.SeenSpace.{images_in}
use Rattle.open_files.specs.Sessions.{is_mounted, mounting, mount_over, mount_at_place}
use Rattle.open_files.proofs.Standing.{place_below, image_in}
use Rattle.open_files.proofs.Sessions.{names_by}
use Rattle.open_files.proofs.Mounting.{mounts_push, mounts_room, new_mount, mounting_goes, mounting_over}
use Rattle.open_files.proofs.OneSession.{IsWalked, view_of, place_still}

module _ {T : Type 0} {n : ℕ} {w : Ghosts T} where
  -- image i can be mounted
  pub record IsFree (s : Space T n w) (i : ℕ) : Type 0 where
    pub other : 0 < i
    pub within : i < length s.images.items
    pub free : is_mounted i s.mounts.items ≡ false

  pub is_free : (s : Space T n w) {i : ℕ} → 0 < i → i < length s.images.items → is_mounted i s.mounts.items ≡ false
      → IsFree s i
  is_free s z l m = record { other = z; within = l; free = m }

  -- there is room for one more
  pub room : (s : Space T n w) (i : ℕ) → IsFree s i → length s.mounts.items < 7
  room s i k =
      let f = s.few in
      let l = k.within in
      let e = length-map s.images.items w.image in
      mounts_room (images_in s) s.mounts.items i s.mounted (omega (arith, f, e)) k.other (omega (arith, l, e)) k.free

  module _ {s s' : Space T n w} (walked : IsWalked s s') (on : ℕ) (dir : NodeId) (p : MountedNode)
      (h : (view_of s).place on dir.0 ≡ Some p) where
    named_before : Names (images_in s) on dir.0 p
    named_before = names_by (images_in s) s.mounts.items on dir.0 p h

    place_after : (view_of s').place on dir.0 ≡ Some p
    place_after = place_still walked refl s'.mounts.items on dir.0 p h

    pub has_image : on < length s'.images.items
    has_image = place_below w.image s'.images.items s'.mounts.items on (dir.0, p, place_after)

    module _ {y : T} (ey : y ≡ get_or s'.images.items on y) where
      pub node_there : image_node (w.image y) dir.0 ≡ Some p.node
      node_there = (image_in w.image s'.images.items s'.mounts.items on y ey has_image).node dir.0 p place_after

      pub has_node_there : HasNode (w.image y) dir.0
      has_node_there = has_node (w.image y) dir.0 p.node node_there

      root_there : tree_in (images_in s) p.image ≡ (w.image y).tree
      root_there =
          ap (tree_in (images_in s)) (sym named_before.image)
          ∙ (ap (λ (z : List Image). tree_in z on) (sym walked.images)
          ∙ (map_tree w.image s'.images.items on y has_image ∙ ap (λ z. (w.image z).tree) (sym ey)))

      module _ {i : ℕ} (k : IsFree s i) where
        below : i < length (images_in s)
        below = let l = k.within in let e = length-map s.images.items w.image in omega (arith, l, e)

        -- what the machine says there
        pub mounts_there : (path : List ℕ) → resolution (graft (images_in s) s.mounts.items) path true ≡ Ok p
            → mounting (images_in s) s.mounts.items i path
            ≡ mount_over s.mounts.items i p (is_directory p.node) (ino_of p.node == ino_of (w.image y).tree)
        mounts_there path r =
            mounting_goes (images_in s) s.mounts.items i path below k.other k.free
            ∙ (ap (mount_at_place (images_in s) s.mounts.items i) r
            ∙ ap (λ v. mount_over s.mounts.items i p (is_directory p.node) (ino_of p.node == ino_of v)) root_there)

        module _ (d : is_directory p.node ≡ true) (o : (ino_of p.node == ino_of (w.image y).tree) ≡ false) where
          abbrev mount : Mount
          mount = record { image = i; on = on; dir = dir }

          not_root : (ino_of p.node == ino_of (tree_in (images_in s) p.image)) ≡ false
          not_root = ap (λ v. ino_of p.node == ino_of v) root_there ∙ o

          pub mounted_there : (path : List ℕ) → resolution (graft (images_in s) s.mounts.items) path true ≡ Ok p
              → mounting (images_in s) s.mounts.items i path ≡ give tt (s.mounts.items ++ mount ∷ [])
          mounted_there path r =
              mounting_goes (images_in s) s.mounts.items i path below k.other k.free
              ∙ (ap (mount_at_place (images_in s) s.mounts.items i) r
              ∙ mounting_over (images_in s) s.mounts.items mount p named_before d not_root)

          pub still_mounts : IsUncovered s.mounts.items on dir.0
              → are_mounts (images_in s') (s'.mounts.items ++ mount ∷ []) ≡ true
          still_mounts c =
              let N : List Image → Type 0 = λ v. Names v on dir.0 p in
              mounts_push (images_in s') s'.mounts.items mount s'.mounted
              (new_mount (images_in s') mount p (subst N (sym walked.images) named_before) k.other
              (let b = below in omega (arith, b, ap length walked.images)) d
              (ap (λ (v : List Image). ino_of p.node == ino_of (tree_in v p.image)) walked.images ∙ not_root))
              (ap (λ v. is_mounted i v.items) walked.mounts ∙ k.free)
              (ap (λ v. find (covers on dir.0) v.items) walked.mounts ∙ c)

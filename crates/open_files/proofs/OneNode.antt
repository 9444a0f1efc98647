-- What the calls on one open node owe, each said once: s is open in image m, and means o. The call asks whether the
-- node is a directory, and is_dir is the answer.
use Rattle.std.proofs.Common.{◌≡◌, ℕ, ◌+◌, ◌≤◌, Bool, true, false, List, Option, Some, Ok, Err, refl, sym, ap, ◌∙◌}
use Rattle.std.proofs.Common.{length}
use Rattle.rom_tree.specs.declared.types.Stat.{Stat}
use Rattle.rom_tree.specs.Tree.{Node, Entries, places_of, entry_at, is_directory}
use Rattle.rom_tree.specs.Image.{Image, HasDirectory, HasCursor, IsEntry, image_node, stat_of}
use Rattle.rom_tree.specs.Runs.{IsLongest}
use Rattle.rom_tree.proofs.Named.{has_directory, some_is}
use Rattle.open_files.specs.declared.error.CallError.TheVariants.{Enotdir, Eisdir}
use Rattle.open_files.specs.declared.slot.OpenNode.{OpenNode}
use Rattle.open_files.specs.Calls.{Of, Named}
use Rattle.open_files.specs.Machine.{Open, Outcome, file_only, directory_only, named, next_entry}
use Rattle.open_files.specs.Slots.{image_view, stands, Moves}
use Rattle.open_files.proofs.Following.{longest_end}
use Rattle.open_files.proofs.Standing.{IsOpen, is_open, open_file, open_directory}

-- readdir's answer with an entry
pub entry_gives : {m : Image} {d : ℕ} {es : Entries} {at : ℕ} {name : List ℕ} {n c : ℕ} → IsEntry m d es at name n c
    → (i : Option ℕ) → next_entry i at (entry_at es at) ≡ Ok (Some (i, named name n), at + 1)
entry_gives {m} {d} {es} {at} {name} {n} {c} h i =
    let ok : ℕ → Outcome (Option (Of Named)) = λ v. Ok (Some (i, named name v), at + 1) in
    ap (next_entry i at) h.at ∙ ap ok h.number

module _ (m : Image) (s : OpenNode) (o : Open Node) (e : stands (image_view m) s ≡ Some o) where
  here : IsOpen (image_view m) s o
  here = is_open (image_view m) s o e

  pub node_here : image_node m s.node.0 ≡ Some o.place
  node_here = here.place

  -- the size of a file
  pub size_here : {st : Stat} {size : ℕ} → size ≡ st.size → st ≡ stat_of o.place → size ≡ length (places_of o.place)
  size_here q h = q ∙ ap (λ (v : Stat). v.size) h

  -- a front of its bytes ends in the image
  pub front_end : {at most place len : ℕ} → IsLongest (places_of o.place) at most place len
      → place + len ≤ length m.bytes
  front_end {at} {most} {place} {len} h = longest_end m s.node.0 o.place at most place len node_here h

  -- the same node at another position
  abbrev moved_to : ℕ → OpenNode
  moved_to q = record { image = s.image; node = s.node; position = q }

  module _ {is_dir : Bool} (known : (x : Node) → image_node m s.node.0 ≡ Some x → is_dir ≡ is_directory x) where
    place_is : {b : Bool} → is_dir ≡ b → is_directory o.place ≡ b
    place_is h = sym (known o.place node_here) ∙ h

    module _ {R : Type 0} where
      pub refuses_directory : is_dir ≡ true → (a : Outcome R) → file_only (is_directory o.place) a ≡ Err Eisdir
      refuses_directory h a = ap (λ (b : Bool). file_only b a) (place_is h)

      pub refuses_file : is_dir ≡ false → (a : Outcome R) → directory_only (is_directory o.place) a ≡ Err Enotdir
      refuses_file h a = ap (λ (b : Bool). directory_only b a) (place_is h)

      pub answers_file : is_dir ≡ false → {a r : Outcome R} → a ≡ r → file_only (is_directory o.place) a ≡ r
      answers_file h {a} {r} w = ap (λ (b : Bool). file_only b a) (place_is h) ∙ w

      -- f is what the machine says of the file at a position
      pub moves_file : is_dir ≡ false → (f : ℕ → Outcome R) (r : R) (q : ℕ) → f s.position ≡ Ok (r, q)
          → Moves (image_view m) o s (moved_to q) (file_only (is_directory o.place) (f o.position)) (Ok r)
      moves_file h f r q w =
          let d : is_directory o.place ≡ false = place_is h in (
            q,
            answers_file h (ap f (here.file d) ∙ w),
            open_file (image_view m) (moved_to q) o.place node_here d (here.regular d),
            refl,
            refl,
          )

      -- c is the cursor of the index k after the call
      pub moves_directory : is_dir ≡ true → (a : Outcome R) (r : R) (c k : ℕ) → m.cursor_index s.node.0 c ≡ Some k
          → a ≡ Ok (r, k)
          → Moves (image_view m) o s (moved_to c) (directory_only (is_directory o.place) a) (Ok r)
      moves_directory h a r c k i w =
          let d : is_directory o.place ≡ true = place_is h in (
            k,
            ap (λ (b : Bool). directory_only b a) d ∙ w,
            open_directory (image_view m) (moved_to c) o.place k node_here d i,
            refl,
            refl,
          )

    -- the index of the directory's cursor
    pub index_here : is_dir ≡ true → m.cursor_index s.node.0 s.position ≡ Some o.position
    index_here h = here.directory (place_is h)

    pub entry_asks : is_dir ≡ true → HasDirectory m s.node.0 × HasCursor m s.node.0 s.position
    entry_asks h = (
      has_directory m s.node.0 o.place node_here (place_is h),
      some_is (m.cursor_index s.node.0 s.position) o.position (index_here h),
    )

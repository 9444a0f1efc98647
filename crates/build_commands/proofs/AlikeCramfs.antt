-- A node with the attributes and the contents of a planned file is misread in cramfs as it.
use Rattle.std.proofs.Common.{◌≡◌, ℕ, ◌+◌, ◌*◌, ◌%◌, Bool, true, false, not, if◌then◌else◌, List, Option}
use Rattle.std.proofs.Common.{inl, inr, refl, sym, ap, ◌∙◌}
use Rattle.std.proofs.lemmas.Bool.{eq-eqb}
use Rattle.manifest.specs.declared.line.Line.{Line}
use Rattle.manifest_tree.specs.Names.{Inode}
use Rattle.manifest_tree.specs.Shape.{Value, file_value, node_value}
use Rattle.manifest_tree.specs.Tree.{inode_of}
use Rattle.rom_tree.specs.Names.{Name}
use Rattle.rom_tree.specs.Tree.{Node, attributes_of, ino_of, is_device}
use Rattle.cramfs_image.specs.declared.image.Cramfs.{Cramfs}
use Rattle.cramfs_image.specs.Reported.{order_in}
use Rattle.linux_misreads.specs.Differences.{ends_with_a_block, is_cut_text, is_other, is_other_device, is_other_root}
use Rattle.linux_misreads.specs.Differences.{is_same}
use Rattle.linux_misreads.specs.Misreads.{in_cramfs}
use Rattle.linux_misreads.specs.Readers.{cramfs_device, old_device}
use Rattle.linux_misreads.specs.Seen.{known_by, seen_of}
use Rattle.linux_misreads.specs.Tables.{kept_in, known_of, view}
use Rattle.linux_misreads.specs.declared.seen.Known.{Known}
use Rattle.linux_misreads.specs.declared.seen.Seen.{Seen}
use Rattle.build_commands.specs.Foreseen.{AreCramfsMisreadAlike, IsFileOf, IsKeptAs}
use Rattle.build_commands.specs.Planned.{cramfs_path, last_of, planned}
use Rattle.build_commands.proofs.Alike.{device_kind, number_counts, seen_is, text_is}

-- the number of the device of a planned file, of the numbers of its node
abbrev number_of : ℕ → ℕ → ℕ
number_of major minor = old_device (major % 256 * 256 + minor % 256)

pub misread_alike : (s : Cramfs) (ns : List Name) (contents : List (List ℕ)) (lines : List Line) (sizes path : List ℕ)
    (kept : Option Known) (o : Line) (x : Node) → IsFileOf (view s).bytes contents x (inode_of lines sizes o)
    → (is_device x ≡ true → cramfs_device (order_in s) (view s).bytes (ino_of x)
    ≡ old_device ((attributes_of x).major % 256 * 256 + (attributes_of x).minor % 256))
    → AreCramfsMisreadAlike (in_cramfs s ns (last_of path) x) (cramfs_path path (inode_of lines sizes o) kept)
unfolding node_value file_value
misread_alike s ns contents lines sizes path kept o x h d =
    let i : Inode = inode_of lines sizes o in
    let b : List ℕ = (view s).bytes in
    let read : ℕ = cramfs_device (order_in s) b (ino_of x) in
    let meant : ℕ = number_of (attributes_of x).major (attributes_of x).minor in
    let v = h.value in
    record {
      last_block = ap ends_with_a_block (seen_is b contents x i 0 h);
      device =
          number_counts (seen_of 0 x) read meant (λ e. d (sym (device_kind x) ∙ e))
          ∙ ap is_other_device (seen_is b contents x i meant h
          ∙ (ap (λ (m : ℕ). planned (number_of m (attributes_of x).minor) i) (ap (λ (u : Value). u.major) v)
          ∙ ap (λ (m : ℕ). planned (number_of i.major m) i) (ap (λ (u : Value). u.minor) v)));
      link = ap is_cut_text (text_is b contents lines sizes o x h);
      root = ap (λ (y : Seen). is_other_root (last_of path) y.mode) (seen_is b contents x i 0 h);
    }

own_facts : (k : Known) → is_same k k ≡ true
own_facts k = rw (
  link k.link,
  eq-eqb k.mode k.mode refl,
  eq-eqb k.uid k.uid refl,
  eq-eqb k.gid k.gid refl,
  eq-eqb k.size k.size refl,
) refl
  where
    link : (b : Bool) → (if b then b else not b) ≡ true
    link true = refl
    link false = refl

same_table : (own other : Known) (found kept : Option Known) → own ≡ other → IsKeptAs own found kept
    → is_other own found ≡ is_other other kept
same_table own other found kept e h = elim h [
  | inl f ↦ ap (is_other own) f ∙ ap (λ (k : Known). is_other k kept) e
  | inr f ↦ ap (is_other own) f.1 ∙ (ap not (own_facts own) ∙ sym (ap (is_other other) f.0))
]

pub tables_alike : (s : Cramfs) (ns : List Name) (contents : List (List ℕ)) (path : List ℕ) (i : Inode)
    (kept : Option Known) (x : Node) → IsFileOf (view s).bytes contents x i
    → IsKeptAs (known_of x) (kept_in s ns x) kept
    → (in_cramfs s ns (last_of path) x).shared_table ≡ (cramfs_path path i kept).shared_table
tables_alike s ns contents path i kept x h k =
    same_table (known_of x) (known_by (planned 0 i)) (kept_in s ns x) kept
    (ap known_by (seen_is (view s).bytes contents x i 0 h)) k

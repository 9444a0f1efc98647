-- A node with the attributes and the contents of a planned file is misread as it.
use Rattle.std.proofs.Common.{◌≡◌, ℕ, Bool, true, false, not, ◌&&◌, List, [], reverse, cond}
use Rattle.std.proofs.Common.{Option, Some, None, refl, sym, ap, ◌∙◌}
use Rattle.manifest.specs.Lines.{filed}
use Rattle.manifest.specs.declared.line.Line.{Line}
use Rattle.manifest.specs.declared.line.Word.{Word}
use Rattle.manifest.specs.declared.line.Word.TheVariants.{Dir, File, Slink, Block, Character, Fifo, Socket, Hard, Same}
use Rattle.manifest_tree.specs.Names.{Inode, bytes_of}
use Rattle.manifest_tree.specs.Shape.{Value, file_value, node_value}
use Rattle.manifest_tree.specs.Tree.{inode_by, inode_of, with_contents}
use Rattle.rom_tree.specs.Tree.{Node, node, directory, regular, symlink, block, character, socket, fifo}
use Rattle.rom_tree.specs.Tree.{attributes_of, ino_of, is_device, is_link, kind_of}
use Rattle.rom_tree.specs.Image.{contents_of}
use Rattle.romfs_image.specs.declared.image.Romfs.{Romfs}
use Rattle.linux_misreads.specs.Differences.{is_cut_text, is_other_device}
use Rattle.linux_misreads.specs.Misreads.{in_romfs}
use Rattle.linux_misreads.specs.Readers.{device_number, names_device, romfs_device}
use Rattle.linux_misreads.specs.Seen.{is_device_kind, is_link_kind, seen_of, text_in}
use Rattle.linux_misreads.specs.Tables.{romfs_view}
use Rattle.linux_misreads.specs.declared.seen.Seen.{Seen}
use Rattle.build_commands.specs.Foreseen.{AreMisreadAlike, IsFileOf}
use Rattle.build_commands.specs.Planned.{last_of, planned, romfs_path, text_by}

pub device_kind : (x : Node) → is_device_kind (kind_of x) ≡ is_device x
device_kind (node a (directory es)) = refl
device_kind (node a (regular ps)) = refl
device_kind (node a (symlink ps)) = refl
device_kind (node a block) = refl
device_kind (node a character) = refl
device_kind (node a socket) = refl
device_kind (node a fifo) = refl

link_kind : (x : Node) → is_link_kind (kind_of x) ≡ is_link x
link_kind (node a (directory es)) = refl
link_kind (node a (regular ps)) = refl
link_kind (node a (symlink ps)) = refl
link_kind (node a block) = refl
link_kind (node a character) = refl
link_kind (node a socket) = refl
link_kind (node a fifo) = refl

-- a planned link has its text, and no other file has one
planned_text : (contents : List (List ℕ)) (lines : List Line) (sizes : List ℕ) (o : Line)
    → text_by (inode_of lines sizes o).fill
    ≡ cond (is_link_kind (inode_of lines sizes o).kind) (bytes_of contents (inode_of lines sizes o).fill) []
unfolding inode_of
planned_text contents lines sizes o = by o.word
  where
    with : (f : Option Line) → text_by (with_contents lines sizes o f).fill
        ≡ cond (is_link_kind (with_contents lines sizes o f).kind)
        (bytes_of contents (with_contents lines sizes o f).fill) []
    with None = refl
    with (Some k) = refl

    by : (w : Word) → text_by (inode_by lines sizes w o).fill
        ≡ cond (is_link_kind (inode_by lines sizes w o).kind) (bytes_of contents (inode_by lines sizes w o).fill) []
    by Dir = refl
    by File = with (filed (reverse lines) o.path)
    by Same = with (filed (reverse lines) o.path)
    by Slink = refl
    by Block = refl
    by Character = refl
    by Fifo = refl
    by Socket = refl
    by Hard = refl

-- the file of a node, of which Linux makes a device of this number
pub seen_is : (image : List ℕ) (contents : List (List ℕ)) (x : Node) (i : Inode) (n : ℕ) → IsFileOf image contents x i
    → seen_of n x ≡ planned n i
unfolding node_value file_value
seen_is image contents x i n h =
    let v = h.value in
    cc (
      ap (λ (u : Value). u.kind) v,
      ap (λ (u : Value). u.mode) v,
      ap (λ (u : Value). u.uid) v,
      ap (λ (u : Value). u.gid) v,
      ap (λ (u : Value). u.major) v,
      ap (λ (u : Value). u.minor) v,
      h.size,
    )

-- only the number of a device counts
pub number_counts : (s : Seen) (m n : ℕ) → (is_device_kind s.kind ≡ true → m ≡ n)
    → is_other_device (record s { device = m }) ≡ is_other_device (record s { device = n })
number_counts s m n h = by (is_device_kind s.kind) h
  where
    by : (b : Bool) → (b ≡ true → m ≡ n) → (b && not (names_device m s.major s.minor))
        ≡ (b && not (names_device n s.major s.minor))
    by true e = ap (λ (k : ℕ). not (names_device k s.major s.minor)) (e refl)
    by false e = refl

pub text_is : (image : List ℕ) (contents : List (List ℕ)) (lines : List Line) (sizes : List ℕ) (o : Line) (x : Node)
    → IsFileOf image contents x (inode_of lines sizes o)
    → text_in image x ≡ text_by (inode_of lines sizes o).fill
unfolding node_value file_value
text_is image contents lines sizes o x h =
    let i = inode_of lines sizes o in
    let kind : kind_of x ≡ i.kind = ap (λ (u : Value). u.kind) h.value in
    let bytes : contents_of image x ≡ bytes_of contents i.fill = ap (λ (u : Value). u.bytes) h.value in
    ap (λ (b : Bool). cond b (contents_of image x) []) (sym (link_kind x) ∙ ap is_link_kind kind)
    ∙ (ap (λ (t : List ℕ). cond (is_link_kind i.kind) t []) bytes ∙ sym (planned_text contents lines sizes o))

pub misread_alike : (s : Romfs) (contents : List (List ℕ)) (lines : List Line) (sizes path own : List ℕ) (o : Line)
    (x : Node) → IsFileOf (romfs_view s).bytes contents x (inode_of lines sizes o)
    → (is_device x ≡ true → romfs_device (romfs_view s).bytes (ino_of x)
    ≡ device_number (attributes_of x).major (attributes_of x).minor)
    → AreMisreadAlike (in_romfs s (last_of path) x) (romfs_path path own (inode_of lines sizes o))
unfolding node_value file_value
misread_alike s contents lines sizes path own o x h d =
    let i = inode_of lines sizes o in
    let b = (romfs_view s).bytes in
    let read : ℕ = romfs_device b (ino_of x) in
    let meant : ℕ = device_number (attributes_of x).major (attributes_of x).minor in
    record {
      cut = refl;
      long = refl;
      device =
          number_counts (seen_of 0 x) read meant (λ e. d (sym (device_kind x) ∙ e))
          ∙ ap is_other_device (numbers b i h);
      link = ap is_cut_text (text_is b contents lines sizes o x h);
    }
  where
    numbers : (b : List ℕ) (i : Inode) → IsFileOf b contents x i
        → seen_of (device_number (attributes_of x).major (attributes_of x).minor) x
        ≡ planned (device_number i.major i.minor) i
    numbers b i h =
        seen_is b contents x i (device_number (attributes_of x).major (attributes_of x).minor) h
        ∙ (ap (λ (v : ℕ). planned (device_number v (attributes_of x).minor) i) (ap (λ (u : Value). u.major) h.value)
        ∙ ap (λ (v : ℕ). planned (device_number i.major v) i) (ap (λ (u : Value). u.minor) h.value))

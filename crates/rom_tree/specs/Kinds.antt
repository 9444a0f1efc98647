-- A format has its own number for each kind of node. `by_kind`: one of seven values, chosen by such
-- a number. `kind_by`, `body_by`, `device_by`: the kind, the body and the device number of a node
-- whose kind has this number. (This project's own.)
use Rattle.std.specs.Prelude.{ℕ, if◌then◌else◌, ◌==◌, List}
use Rattle.rom_tree.specs.declared.types.Kind.{Kind}
use Rattle.rom_tree.specs.declared.types.Kind.TheVariants.{Directory, Regular, Symlink, Block}
use Rattle.rom_tree.specs.declared.types.Kind.TheVariants.{Character, Socket, Fifo}
use Rattle.rom_tree.specs.Tree.{Body, directory, regular, symlink, block, character, socket, fifo}
use Rattle.rom_tree.specs.Tree.{Entries}

-- a format's numbers for six kinds; any other number is that of a fifo
pub record KindNumbers : Type 0 where
  pub of_directory : ℕ
  pub of_regular : ℕ
  pub of_symlink : ℕ
  pub of_block : ℕ
  pub of_character : ℕ
  pub of_socket : ℕ

-- one of seven values, by the number t
abbrev pub by_kind : {A : Type 0} → KindNumbers → ℕ → A → A → A → A → A → A → A → A
by_kind k t directory' regular' symlink' block' character' socket' fifo' =
    if t == k.of_directory then directory'
    else (if t == k.of_regular then regular'
    else (if t == k.of_symlink then symlink'
    else (if t == k.of_block then block'
    else (if t == k.of_character then character'
    else (if t == k.of_socket then socket' else fifo')))))

abbrev pub kind_by : KindNumbers → ℕ → Kind
kind_by k t = by_kind k t Directory Regular Symlink Block Character Socket Fifo

-- the body of a node, which has these offsets or entries if its kind has them
abbrev pub body_by : KindNumbers → ℕ → List ℕ → Entries → Body
body_by k t ps es = by_kind k t (directory es) (regular ps) (symlink ps) block character socket fifo

-- n for block and character devices, and 0 for all other kinds
abbrev pub device_by : KindNumbers → ℕ → ℕ → ℕ
device_by k t n = by_kind k t 0 0 0 n n 0 0

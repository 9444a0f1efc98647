-- Kinds against bodies.
use Rattle.std.proofs.Common.{◌≡◌, true, false, refl}
use Rattle.rom_tree.specs.declared.types.Kind.TheVariants.{Directory, Regular, Symlink}
use Rattle.rom_tree.specs.Tree.{Body, directory, regular, symlink, block, character, socket, fifo, body_kind}
use Rattle.rom_tree.specs.Tree.{is_directory_body, is_regular_body, is_link_body}

-- what has the kind of a directory passes its test
pub directory_kind : (b : Body) → body_kind b ≡ Directory → true ≡ is_directory_body b
directory_kind (directory es) h = refl
directory_kind (regular ps) h = cc
directory_kind (symlink ps) h = cc
directory_kind block h = cc
directory_kind character h = cc
directory_kind socket h = cc
directory_kind fifo h = cc

-- and what has another kind does not
pub directory_kind_not : (b : Body) → (body_kind b ≡ Directory → ⊥) → false ≡ is_directory_body b
directory_kind_not (directory es) h = absurd (h refl)
directory_kind_not (regular ps) h = refl
directory_kind_not (symlink ps) h = refl
directory_kind_not block h = refl
directory_kind_not character h = refl
directory_kind_not socket h = refl
directory_kind_not fifo h = refl

-- what has the kind of a regular file passes its test
pub regular_kind : (b : Body) → body_kind b ≡ Regular → true ≡ is_regular_body b
regular_kind (directory es) h = cc
regular_kind (regular ps) h = refl
regular_kind (symlink ps) h = cc
regular_kind block h = cc
regular_kind character h = cc
regular_kind socket h = cc
regular_kind fifo h = cc

-- and what has another kind does not
pub regular_kind_not : (b : Body) → (body_kind b ≡ Regular → ⊥) → false ≡ is_regular_body b
regular_kind_not (directory es) h = refl
regular_kind_not (regular ps) h = absurd (h refl)
regular_kind_not (symlink ps) h = refl
regular_kind_not block h = refl
regular_kind_not character h = refl
regular_kind_not socket h = refl
regular_kind_not fifo h = refl

-- what has the kind of a symbolic link passes its test
pub link_kind : (b : Body) → body_kind b ≡ Symlink → true ≡ is_link_body b
link_kind (directory es) h = cc
link_kind (regular ps) h = cc
link_kind (symlink ps) h = refl
link_kind block h = cc
link_kind character h = cc
link_kind socket h = cc
link_kind fifo h = cc

-- and what has another kind does not
pub link_kind_not : (b : Body) → (body_kind b ≡ Symlink → ⊥) → false ≡ is_link_body b
link_kind_not (directory es) h = refl
link_kind_not (regular ps) h = refl
link_kind_not (symlink ps) h = absurd (h refl)
link_kind_not block h = refl
link_kind_not character h = refl
link_kind_not socket h = refl
link_kind_not fifo h = refl

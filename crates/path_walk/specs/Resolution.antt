-- `Namespace`: names and the places to which they lead, over any kind of place. `tree_namespace`: a
-- tree as a namespace. `step`: the place to which one component leads. `resolve`: the place to
-- which components lead, with a limit on the links that may still be followed. `resolution`: the
-- place to which a path leads (POSIX.1-2017, 4.13 "Pathname Resolution").
--
-- As in Linux, path_resolution(7), at most 40 symbolic links are followed, and a link that is the
-- last component only if the caller asks for it. These are this project's own: the order of the
-- refusals; that a path has at most 4095 bytes and a component at most 255; and that a path begins
-- with a slash, because there is no current directory.
use Rattle.std.specs.Prelude.{ℕ, zero, suc, nat_lt, Bool, ◌&&◌, not, List, [], ◌∷◌, ◌++◌, length}
use Rattle.std.specs.Prelude.{Option, Some, None, Result, Ok, Err, if◌then◌else◌}
use Rattle.std.specs.Str.{bytes_eq}
use Rattle.rom_tree.specs.Dots.{dot, dot_dot}
use Rattle.rom_tree.specs.Tree.{Node, is_directory, is_link, entries_of}
use Rattle.rom_tree.specs.Image.{find_entry, contents_of}
use Rattle.path_walk.specs.declared.error.WalkError.{WalkError}
use Rattle.path_walk.specs.declared.error.WalkError.TheVariants.{Enoent, Enotdir, Eloop}
use Rattle.path_walk.specs.declared.error.WalkError.TheVariants.{Enametoolong, Einval}
use Rattle.path_walk.specs.Components.{is_empty, begins_with_slash, components}

-- Names and the places to which they lead. F are the places. One of them is the root. Each is a
-- node of an image with these bytes. A directory's entry of some name leads to a place.
pub record Namespace (F : Type 0) : Type 0 where
  pub root : F
  pub node : F → Node
  pub bytes : F → List ℕ
  pub entry : F → List ℕ → Option F

-- a tree in an image of these bytes, whose places are its nodes
abbrev pub tree_namespace : List ℕ → Node → Namespace Node
tree_namespace b t = record {
  root = t;
  node = λ x. x;
  bytes = λ x. b;
  entry = λ x name. find_entry (entries_of x) name;
}

-- the current place, and those on the way to it from the root, the last one first
pub record Trail (F : Type 0) : Type 0 where
  pub current : F
  pub ancestors : List F

-- the result of one component: a refusal, a place with its ancestors, or a link that is to be
-- followed
pub data Step (F : Type 0) : Type 0 where
  fails : WalkError → Step F
  goes : Trail F → Step F
  follows : F → Step F

module _ {F : Type 0} where
  -- dot-dot: the parent, or at the root the root itself
  abbrev pub ascend : F → List F → Trail F
  ascend x [] = record { current = x; ancestors = [] }
  ascend x (y ∷ ys) = record { current = y; ancestors = ys }

  abbrev pub parent : Trail F → Trail F
  parent s = ascend s.current s.ancestors

  abbrev pub root_of : F → List F → F
  root_of x [] = x
  root_of x (y ∷ ys) = root_of y ys

  abbrev pub to_root : Trail F → Trail F
  to_root s = record { current = root_of s.current s.ancestors; ancestors = [] }

  abbrev pub enter : Trail F → F → Trail F
  enter s x = record { current = x; ancestors = s.current ∷ s.ancestors }

  -- a name: it is refused, leads to a link that is to be followed, or is entered
  abbrev pub found : Namespace F → Bool → Trail F → Option F → Step F
  found g last_stays s None = fails Enoent
  found g last_stays s (Some x) =
      if is_link (g.node x) && not last_stays then follows x else goes (enter s x)

  -- one component; `last_stays` is whether it is the last one and a link there is not followed
  unfoldable pub step : Namespace F → Trail F → List ℕ → Bool → Step F
  step g s p last_stays =
      if not (is_directory (g.node s.current)) then fails Enotdir
      else if nat_lt 255 (length p) then fails Enametoolong
      else if bytes_eq p dot then goes s
      else if bytes_eq p dot_dot then goes (parent s)
      else found g last_stays s (g.entry s.current p)

  abbrev pub link_text_at : Namespace F → F → List ℕ
  link_text_at g x = contents_of (g.bytes x) (g.node x)

  -- a link's text leads on from the root, or from the directory that has the link
  abbrev pub after_link : Namespace F → Trail F → F → Trail F
  after_link g s x = if begins_with_slash (link_text_at g x) then to_root s else s

  abbrev pub onward : (Trail F → Result F WalkError) → (F → Result F WalkError) → Step F
      → Result F WalkError
  onward go link (fails e) = Err e
  onward go link (goes t) = go t
  onward go link (follows x) = link x

  -- The place to which components lead, with n links left. A link's components come before the
  -- others.
  unfoldable pub resolve : Namespace F → Bool → ℕ → Trail F → List (List ℕ) → Result F WalkError
  resolve g follow n s [] = Ok s.current
  resolve g follow zero s (p ∷ rest) =
      onward (λ t. resolve g follow zero t rest) (λ x. Err Eloop)
      (step g s p (is_empty rest && not follow))
  resolve g follow (suc n) s (p ∷ rest) =
      onward (λ t. resolve g follow (suc n) t rest)
      (λ x. resolve g follow n (after_link g s x) (components (link_text_at g x) ++ rest))
      (step g s p (is_empty rest && not follow))

  abbrev pub at_root : Namespace F → Trail F
  at_root g = record { current = g.root; ancestors = [] }

  -- the place to which a path leads
  unfoldable pub resolution : Namespace F → List ℕ → Bool → Result F WalkError
  resolution g path follow =
      if nat_lt 4095 (length path) then Err Enametoolong
      else if is_empty path then Err Enoent
      else if not (begins_with_slash path) then Err Einval
      else resolve g follow 40 (at_root g) (components path)

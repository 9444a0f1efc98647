-- The names of a tree, and what lists of names lead to.
use Rattle.std.proofs.Common.{◌≡◌, ℕ, Bool, true, false, ◌||◌, cond, List, [], ◌∷◌, ◌++◌, Some, refl, sym, ap, ◌∙◌}
use Rattle.std.proofs.Common.{append_assoc, append-nil}
use Rattle.std.proofs.lemmas.List.Folds.{list_any-append}
use Rattle.std.specs.Cmp.Lexicographic.{bytes_decides}
use Rattle.std.specs.List.{list_any}
use Rattle.std.specs.Option.{option_and_then}
use Rattle.std.specs.Str.{bytes_eq}
use Rattle.manifest.specs.Paths.{path_of}
use Rattle.manifest_tree.specs.Shape.{node_under}
use Rattle.rom_tree.specs.Image.{find_entry}
use Rattle.rom_tree.specs.Names.{Name, named, node_names, entries_names, path_below}
use Rattle.rom_tree.specs.Tree.{Node, node, directory, regular, symlink, block, character, socket, fifo, Entries}
use Rattle.rom_tree.specs.Tree.{no_entries, entry}

pub or_false : (a b : Bool) → (a || b) ≡ false → (a ≡ false) × (b ≡ false)
or_false true b h = absurd (cc)
or_false false b h = (refl, h)

pub neither : (a b : Bool) → a ≡ false → b ≡ false → (a || b) ≡ false
neither true b h g = absurd (cc)
neither false b h g = g

pub true_is_not_false : (b : Bool) → b ≡ true → b ≡ false → ⊥
true_is_not_false b h g = cc

-- in no list of two, so in neither
pub front_none : {X : Type 0} (p : X → Bool) (xs ys : List X) → list_any p (xs ++ ys) ≡ false
    → (list_any p xs ≡ false) × (list_any p ys ≡ false)
front_none p xs ys h = or_false (list_any p xs) (list_any p ys) (sym (list_any-append p xs ys) ∙ h)

-- A name is among others.
pub data Among (n : Name) : List Name → Type 0 where
  first : {ns : List Name} → Among n (n ∷ ns)
  later : {k : Name} {ns : List Name} → Among n ns → Among n (k ∷ ns)

pub among_front : (n : Name) (xs ys : List Name) → Among n xs → Among n (xs ++ ys)
among_front n [] ys h = elim h [ ]
among_front n (x ∷ xs) ys first = first
among_front n (x ∷ xs) ys (later h) = later (among_front n xs ys h)

pub among_back : (n : Name) (xs ys : List Name) → Among n ys → Among n (xs ++ ys)
among_back n [] ys h = h
among_back n (x ∷ xs) ys h = later (among_back n xs ys h)

pub among_either : {R : Type 0} (n : Name) (xs ys : List Name) → Among n (xs ++ ys) → (Among n xs → R)
    → (Among n ys → R) → R
among_either n [] ys h f k = k h
among_either n (x ∷ xs) ys first f k = f first
among_either n (x ∷ xs) ys (later h) f k = among_either n xs ys h (λ v. f (later v)) k

-- A name at a path, with the node that it leads to.
pub record Reaches (ns : List Name) (p : List ℕ) (x : Node) : Type 0 where
  pub name : Name
  pub among : Among name ns
  pub node : name.node ≡ x
  pub path : name.path ≡ p

some_is : {x y : Node} → Some x ≡ Some y → x ≡ y
some_is h = cc

-- what a list of names leads to has a name at their path
mutual
  unfolding node_names

  pub reaches : (path m : List ℕ) (ms : List (List ℕ)) (t x : Node) → node_under (m ∷ ms) t ≡ Some x
      → Reaches (node_names path t) (path ++ path_of (m ∷ ms)) x
  reaches path m ms (node a (directory es)) x h = reaches_entries path m ms es x h
  reaches path m ms (node a (regular ps)) x h = absurd (cc)
  reaches path m ms (node a (symlink ps)) x h = absurd (cc)
  reaches path m ms (node a block) x h = absurd (cc)
  reaches path m ms (node a character) x h = absurd (cc)
  reaches path m ms (node a socket) x h = absurd (cc)
  reaches path m ms (node a fifo) x h = absurd (cc)

  pub reaches_entries : (path m : List ℕ) (ms : List (List ℕ)) (es : Entries) (x : Node)
      → option_and_then (λ y. node_under ms y) (find_entry es m) ≡ Some x
      → Reaches (entries_names path es) (path ++ path_of (m ∷ ms)) x
  reaches_entries path m ms no_entries x h = absurd (cc)
  reaches_entries path m [] (entry name y es) x h =
      elim (bytes_eq name m) as (λ t. bytes_eq name m ≡ t
      → option_and_then (λ y. node_under [] y) (cond t (Some y) (find_entry es m)) ≡ Some x
      → Reaches (entries_names path (entry name y es)) (path ++ path_of (m ∷ [])) x) [
        | true ↦ λ e g. record {
          name = named (path_below path name) name y;
          among = first;
          node = some_is g;
          path = ap (λ (v : List ℕ). path ++ 47 ∷ v) ((bytes_decides name m).0 e ∙ sym (append-nil m));
        }
        | false ↦ λ e g. let r = reaches_entries path m [] es x g in record {
          name = r.name;
          among = later (among_back r.name (node_names (path_below path name) y) (entries_names path es) r.among);
          node = r.node;
          path = r.path;
        }
      ] refl h
  reaches_entries path m (k ∷ ks) (entry name y es) x h =
      elim (bytes_eq name m) as (λ t. bytes_eq name m ≡ t
      → option_and_then (λ y. node_under (k ∷ ks) y) (cond t (Some y) (find_entry es m)) ≡ Some x
      → Reaches (entries_names path (entry name y es)) (path ++ path_of (m ∷ k ∷ ks)) x) [
        | true ↦ λ e g. let r = reaches (path_below path name) k ks y x g in record {
          name = r.name;
          among = later (among_front r.name (node_names (path_below path name) y) (entries_names path es) r.among);
          node = r.node;
          path = r.path ∙ append_assoc path (47 ∷ name) (path_of (k ∷ ks))
              ∙ ap (λ (v : List ℕ). path ++ 47 ∷ (v ++ path_of (k ∷ ks))) ((bytes_decides name m).0 e);
        }
        | false ↦ λ e g. let r = reaches_entries path m (k ∷ ks) es x g in record {
          name = r.name;
          among = later (among_back r.name (node_names (path_below path name) y) (entries_names path es) r.among);
          node = r.node;
          path = r.path;
        }
      ] refl h

-- From tests of images to what mounts are.
use Rattle.std.proofs.Common.{◌≡◌, ◌≢◌, ℕ, zero, suc, ◌<◌, ◌≤◌, true, false, List, [], ◌∷◌, length, map, get_or, take}
use Rattle.std.proofs.Common.{drop, ◌-◌, Some, refl, sym, ap, ◌∙◌, rules, arith, ◌==◌, nat_lt, tests}
use Rattle.std.proofs.lemmas.Bool.{false_from_ne_true, eqb-true}
use Rattle.std.proofs.lemmas.List.{length-map, take_rest}
use Rattle.rom_tree.specs.Tree.{Node, ino_of, is_directory, levels}
use Rattle.rom_tree.specs.Image.{Image, image_node}
use Rattle.path_walk.specs.declared.mount.Mount.{Mount}
use Rattle.path_walk.specs.Graft.{node_in, tree_in, is_mount, are_apart, are_mounts, AreShallow}
use Rattle.path_walk.proofs.GraftNodes.{map_tree}

not_same : (a b : ℕ) → a ≢ b → (a == b) ≡ false
not_same a b h = false_from_ne_true (a == b) (λ t. h (eqb-true a b t))

less : (a b : ℕ) → a < b → nat_lt a b ≡ true
less a b h = search (rules, tests)

node_of : {T : Type 0} (f : T → Image) (xs : List T) (i n : ℕ) (d : T) (x : Node) → i < length xs
    → image_node (f (get_or xs i d)) n ≡ Some x → node_in (map f xs) i n ≡ Some x
node_of f [] i n d x l e = absurd (omega (arith, l))
node_of f (y ∷ ys) zero n d x l e = e
node_of f (y ∷ ys) (suc i) n d x l e = node_of f ys i n d x (omega (arith, l)) e

mount_by : (ms : List Image) (u : Mount) (x : Node) → u.image ≢ 0 → u.image < length ms → u.on < length ms
    → node_in ms u.on u.dir.0 ≡ Some x → is_directory x ≡ true → u.dir.0 ≢ ino_of (tree_in ms u.on)
    → is_mount ms u ≡ true
mount_by ms u x a b c e d r = rw (
  not_same u.image 0 a,
  less u.image (length ms) b,
  less u.on (length ms) c,
  e,
  d,
  not_same u.dir.0 (ino_of (tree_in ms u.on)) r,
)

pub mount_of : {T : Type 0} (f : T → Image) (xs : List T) (u : Mount) (y : T) (x : Node) → y ≡ get_or xs u.on y
    → u.image ≢ 0 → u.image < length xs → u.on < length xs
    → image_node (f y) u.dir.0 ≡ Some x → is_directory x ≡ true → u.dir.0 ≢ ino_of (f y).tree
    → is_mount (map f xs) u ≡ true
mount_of f xs u y x q a b c e d r =
    let k = length-map xs f in
    let g : image_node (f (get_or xs u.on y)) u.dir.0 ≡ Some x = ap (λ v. image_node (f v) u.dir.0) (sym q) ∙ e in
    mount_by (map f xs) u x a (omega (arith, b, k)) (omega (arith, c, k)) (node_of f xs u.on u.dir.0 y x c g) d
    (λ same. r (same ∙ (ap ino_of (map_tree f xs u.on y c) ∙ ap (λ v. ino_of (f v).tree) (sym q))))

pub no_mounts : (ms : List Image) (us : List Mount) → length us < 1 → are_mounts ms us ≡ true
unfolding are_mounts
no_mounts ms [] l = refl
no_mounts ms (u ∷ us) l = absurd (omega (arith, l))

-- the first of a slice, and what follows it
pub one_more : (ms : List Image) (us : List Mount) (d : Mount) → 1 ≤ length us → is_mount ms (get_or us 0 d) ≡ true
    → are_apart (get_or us 0 d) (take (length us - 1) (drop 1 us)) ≡ true
    → are_mounts ms (take (length us - 1) (drop 1 us)) ≡ true → are_mounts ms us ≡ true
unfolding are_mounts
one_more ms [] d l a b c = absurd (omega (arith, l))
one_more ms (u ∷ us) d l a b c =
    let q : take (length (u ∷ us) - 1) (drop 1 (u ∷ us)) ≡ us = take_rest (u ∷ us) 1 in
    let b' : are_apart u us ≡ true = sym (ap (are_apart u) q) ∙ b in
    let c' : are_mounts ms us ≡ true = sym (ap (are_mounts ms) q) ∙ c in
    rw (a, b', c') refl

pub three_shallow : (a b c : Image) → levels a.tree ≤ 65 → levels b.tree ≤ 65 → levels c.tree ≤ 65
    → AreShallow (a ∷ b ∷ c ∷ [])
three_shallow a b c k l m zero = k
three_shallow a b c k l m (suc zero) = l
three_shallow a b c k l m (suc (suc zero)) = m
three_shallow a b c k l m (suc (suc (suc i))) = omega arith

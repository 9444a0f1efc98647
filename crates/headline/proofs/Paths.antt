-- A path without a link on it leads to the node of its names.
use Rattle.std.proofs.Common.{◌≡◌, ℕ, suc, ◌==◌, nat_lt, ◌||◌, ◌&&◌, not, Bool, true, false, cond, List, [], ◌∷◌}
use Rattle.std.proofs.Common.{length, Option, Some, None, Ok, refl, sym, ap, subst, ◌∙◌, append-nil}
use Rattle.std.proofs.lemmas.Bool.{eqb-true}
use Rattle.std.specs.List.{list_any, onto_first}
use Rattle.std.specs.Option.{option_and_then}
use Rattle.std.specs.Str.{bytes_eq}
use Rattle.rom_tree.specs.Dots.{dot, dot_dot}
use Rattle.rom_tree.specs.Image.{find_entry}
use Rattle.rom_tree.specs.Tree.{Node, node, directory, regular, symlink, block, character, socket, fifo, entries_of}
use Rattle.rom_tree.specs.Tree.{is_directory, is_link}
use Rattle.manifest.specs.Texts.{pieces as cut, is_bad}
use Rattle.manifest.specs.Paths.{names_of, names_from, names_behind, is_bad_name}
use Rattle.manifest_tree.specs.Shape.{node_under}
use Rattle.path_walk.specs.Components.{pieces, is_empty, begin_piece, ends_with_slash, components}
use Rattle.path_walk.specs.Components.{names_of as without_empty}
use Rattle.path_walk.specs.Resolution.{Namespace, Trail, goes, tree_namespace, enter, step, resolve, resolution}
use Rattle.path_walk.specs.Resolution.{at_root}

-- the pieces of a path are those of the manifest's grammar
onto_same : (c : ℕ) (ps : List (List ℕ)) → begin_piece c ps ≡ onto_first c ps
onto_same c [] = refl
onto_same c (p ∷ ps) = refl

same_pieces : (bs : List ℕ) → pieces bs ≡ cut 47 bs
unfolding pieces
same_pieces [] = refl
same_pieces (c ∷ cs) =
    ap (λ ps. cond (c == 47) ([] ∷ ps) (begin_piece c ps)) (same_pieces cs)
    ∙ ap (λ p. cond (c == 47) ([] ∷ cut 47 cs) p) (onto_same c (cut 47 cs))

-- no name is bad: so none is empty, a dot or two, or long
pub record IsGood (n : List ℕ) : Type 0 where
  pub some : is_empty n ≡ false
  pub no_dot : bytes_eq n dot ≡ false
  pub no_dots : bytes_eq n dot_dot ≡ false
  pub short : nat_lt 255 (length n) ≡ false

left_false : (a b : Bool) → a || b ≡ false → a ≡ false
left_false false b h = refl
left_false true b h = absurd (cc)

right_false : (a b : Bool) → a || b ≡ false → b ≡ false
right_false false b h = h
right_false true b h = absurd (cc)

empty_eq : (n : List ℕ) → bytes_eq n [] ≡ false → is_empty n ≡ false
empty_eq [] h = absurd (cc)
empty_eq (b ∷ n) h = refl

good : (n : List ℕ) → is_bad_name n ≡ false → IsGood n
unfolding is_bad_name
good n h =
    let a = bytes_eq n [] in
    let b = bytes_eq n (46 ∷ []) in
    let c = bytes_eq n (46 ∷ 46 ∷ []) in
    let d = nat_lt 255 (length n) in
    let r = right_false a (b || (c || d)) h in
    let s = right_false b (c || d) r in
    record {
      some = empty_eq n (left_false a (b || (c || d)) h);
      no_dot = left_false b (c || d) r;
      no_dots = left_false c d s;
      short = right_false c d s;
    }

-- so nothing is left out of the pieces
none_empty : (ps : List (List ℕ)) → list_any is_bad_name ps ≡ false → without_empty ps ≡ ps
none_empty [] h = refl
none_empty (p ∷ ps) h =
    let g = good p (left_false (is_bad_name p) (list_any is_bad_name ps) h) in
    rw g.some (ap (λ qs. p ∷ qs) (none_empty ps (right_false (is_bad_name p) (list_any is_bad_name ps) h)))

-- behind a slash at the end stands an empty piece
abbrev behind : List (List ℕ) → List (List ℕ)
behind [] = []
behind (p ∷ ps) = ps

behind_begun : (c : ℕ) (ps : List (List ℕ)) → behind (begin_piece c ps) ≡ behind ps
behind_begun c [] = refl
behind_begun c (p ∷ ps) = refl

any_behind : (ps : List (List ℕ)) → list_any is_empty (behind ps) ≡ true → list_any is_empty ps ≡ true
any_behind [] h = h
any_behind (p ∷ ps) h = elim (is_empty p) as (λ v. v || list_any is_empty ps ≡ true) [ true ↦ refl | false ↦ h ]

empty_end : (c : ℕ) (cs : List ℕ) → ends_with_slash (c ∷ cs) ≡ true
    → list_any is_empty (behind (pieces (c ∷ cs))) ≡ true
unfolding pieces
empty_end c [] h = rw h refl
empty_end c (d ∷ cs) h =
    let ps = pieces (d ∷ cs) in
    let rest = empty_end d cs h in
    elim (c == 47) as (λ v. list_any is_empty (behind (cond v ([] ∷ ps) (begin_piece c ps))) ≡ true) [
      | true ↦ any_behind ps rest
      | false ↦ ap (λ qs. list_any is_empty qs) (behind_begun c ps) ∙ rest
    ]

no_empty : (ps : List (List ℕ)) → list_any is_bad_name ps ≡ false → list_any is_empty ps ≡ false
no_empty [] h = refl
no_empty (p ∷ ps) h =
    let g = good p (left_false (is_bad_name p) (list_any is_bad_name ps) h) in
    rw g.some (no_empty ps (right_false (is_bad_name p) (list_any is_bad_name ps) h))

no_slash_end : (v : Bool) (c : ℕ) (cs : List ℕ) → ends_with_slash (c ∷ cs) ≡ v
    → list_any is_bad_name (pieces (c ∷ cs)) ≡ false → v ≡ false
no_slash_end false c cs e h = refl
no_slash_end true c cs e h =
    let some = any_behind (pieces (c ∷ cs)) (empty_end c cs e) in
    let none = no_empty (pieces (c ∷ cs)) h in
    absurd (cc)

-- the components of a path of a manifest are its names
components_of : (c : ℕ) (cs : List ℕ) → list_any is_bad_name (pieces (c ∷ cs)) ≡ false
    → components (47 ∷ c ∷ cs) ≡ pieces (c ∷ cs)
unfolding components pieces
components_of c cs h =
    let e = no_slash_end (ends_with_slash (c ∷ cs)) c cs refl h in
    rw e (append-nil (without_empty (pieces (c ∷ cs))) ∙ none_empty (pieces (c ∷ cs)) h)

-- a node with an entry is a directory, and no link
in_directory : (x y : Node) (p : List ℕ) → find_entry (entries_of x) p ≡ Some y
    → (is_directory x ≡ true) × (is_link x ≡ false)
in_directory (node a (directory es)) y p h = (refl, refl)
in_directory (node a (regular ps)) y p h = absurd (cc)
in_directory (node a (symlink ps)) y p h = absurd (cc)
in_directory (node a block) y p h = absurd (cc)
in_directory (node a character) y p h = absurd (cc)
in_directory (node a socket) y p h = absurd (cc)
in_directory (node a fifo) y p h = absurd (cc)

some_eq : (x y : Node) → Some x ≡ Some y → x ≡ y
some_eq x y h = cc

no_link_by : (rest : List (List ℕ)) (q : List ℕ) (y x : Node) (o : Option Node) → find_entry (entries_of y) q ≡ o
    → option_and_then (λ z. node_under rest z) o ≡ Some x → is_link y ≡ false
no_link_by rest q y x None f e = absurd (cc)
no_link_by rest q y x (Some z) f e = (in_directory y z q f).1

-- no node on the way is a link, where the last is none
no_link : (rest : List (List ℕ)) (y x : Node) → node_under rest y ≡ Some x → is_link x ≡ false → is_link y ≡ false
no_link [] y x e l = subst (λ (v : Node). is_link v ≡ false) (sym (some_eq y x e)) l
no_link (q ∷ rest) y x e l = no_link_by rest q y x (find_entry (entries_of y) q) refl e

module _ (b : List ℕ) (t : Node) where
  abbrev space : Namespace Node
  space = tree_namespace b t

  enters : (s : Trail Node) (p : List ℕ) (st : Bool) (y : Node) → is_directory s.current ≡ true → IsGood p
      → find_entry (entries_of s.current) p ≡ Some y → is_link y ≡ false → step space s p st ≡ goes (enter s y)
  unfolding step
  enters s p st y d k e l = rw (d, k.short, k.no_dot, k.no_dots, e, l) refl

  ends : (n : ℕ) (s : Trail Node) → resolve space true (suc n) s [] ≡ Ok s.current
  unfolding resolve
  ends n s = refl

  goes_on : (n : ℕ) (s u : Trail Node) (p : List ℕ) (rest : List (List ℕ))
      → step space s p (is_empty rest && not true) ≡ goes u
      → resolve space true (suc n) s (p ∷ rest) ≡ resolve space true (suc n) u rest
  unfolding resolve
  goes_on n s u p rest h = rw h refl

  next : (n : ℕ) (p : List ℕ) (rest : List (List ℕ)) (s : Trail Node) (x : Node) (o : Option Node)
      → ((y : Node) → node_under rest y ≡ Some x → resolve space true (suc n) (enter s y) rest ≡ Ok x)
      → IsGood p → is_link x ≡ false → find_entry (entries_of s.current) p ≡ o
      → option_and_then (λ y. node_under rest y) o ≡ Some x
      → resolve space true (suc n) s (p ∷ rest) ≡ Ok x
  next n p rest s x None go k l f e = absurd (cc)
  next n p rest s x (Some y) go k l f e =
      let d = in_directory s.current y p f in
      goes_on n s (enter s y) p rest (enters s p (is_empty rest && not true) y d.0 k f (no_link rest y x e l)) ∙ go y e

  down : (n : ℕ) (ns : List (List ℕ)) (s : Trail Node) (x : Node) → list_any is_bad_name ns ≡ false
      → node_under ns s.current ≡ Some x
      → is_link x ≡ false → resolve space true (suc n) s ns ≡ Ok x
  down n [] s x h e l = ends n s ∙ ap (λ (v : Node). Ok v) (some_eq s.current x e)
  down n (p ∷ rest) s x h e l =
      next n p rest s x (find_entry (entries_of s.current) p)
      (λ y k. down n rest (enter s y) x (right_false (is_bad_name p) (list_any is_bad_name rest) h) k l)
      (good p (left_false (is_bad_name p) (list_any is_bad_name rest) h)) l refl e

-- a path of a manifest is a slash and its names
record IsPathOf (path : List ℕ) (ns : List (List ℕ)) : Type 0 where
  pub first : ℕ
  pub rest : List ℕ
  pub whole : path ≡ 47 ∷ first ∷ rest
  pub names : pieces (first ∷ rest) ≡ ns
  pub good : list_any is_bad_name (pieces (first ∷ rest)) ≡ false
  pub short : nat_lt 4095 (length path) ≡ false

names_by : (v : Bool) (c : ℕ) (cs n : List ℕ) (ns : List (List ℕ)) → nat_lt 4095 (length (47 ∷ c ∷ cs)) ≡ false
    → list_any is_bad_name (cut 47 (c ∷ cs)) ≡ v
    → cond v None (Some (cut 47 (c ∷ cs))) ≡ Some (n ∷ ns) → IsPathOf (47 ∷ c ∷ cs) (n ∷ ns)
names_by true c cs n ns k h e = absurd (cc)
names_by false c cs n ns k h e =
    let same : cut 47 (c ∷ cs) ≡ n ∷ ns = cc in
    record {
      first = c;
      rest = cs;
      whole = refl;
      names = same_pieces (c ∷ cs) ∙ same;
      good = ap (λ ps. list_any is_bad_name ps) (same_pieces (c ∷ cs)) ∙ h;
      short = k;
    }

slash_by : (v : Bool) (b : ℕ) (bs n : List ℕ) (ns : List (List ℕ)) → nat_lt 4095 (length (b ∷ bs)) ≡ false
    → (b == 47) ≡ v
    → cond v (names_behind bs) None ≡ Some (n ∷ ns) → IsPathOf (b ∷ bs) (n ∷ ns)
slash_by false b bs n ns k h e = absurd (cc)
slash_by true b [] n ns k h e = absurd (cc)
slash_by true b (c ∷ cs) n ns k h e =
    let same : b ≡ 47 = eqb-true b 47 h in
    let short = subst (λ x. nat_lt 4095 (length (x ∷ c ∷ cs)) ≡ false) same k in
    subst (λ x. IsPathOf (x ∷ c ∷ cs) (n ∷ ns)) (sym same)
    (names_by (list_any is_bad_name (cut 47 (c ∷ cs))) c cs n ns short refl e)

path_by : (v : Bool) (path n : List ℕ) (ns : List (List ℕ)) → is_bad 4095 path ≡ v
    → cond v None (names_from path) ≡ Some (n ∷ ns) → IsPathOf path (n ∷ ns)
path_by true path n ns h e = absurd (cc)
path_by false [] n ns h e = absurd (cc)
path_by false (b ∷ bs) n ns h e =
    let short = left_false (nat_lt 4095 (length (b ∷ bs))) (list_any (λ c. c == 0) (b ∷ bs)) h in
    slash_by (b == 47) b bs n ns short refl e

path_is : (path n : List ℕ) (ns : List (List ℕ)) → names_of path ≡ Some (n ∷ ns) → IsPathOf path (n ∷ ns)
unfolding names_of
path_is path n ns e = path_by (is_bad 4095 path) path n ns refl e

from_root : (b : List ℕ) (t : Node) (c : ℕ) (cs : List ℕ) → nat_lt 4095 (length (47 ∷ c ∷ cs)) ≡ false
    → resolution (tree_namespace b t) (47 ∷ c ∷ cs) true
    ≡ resolve (tree_namespace b t) true 40 (at_root (tree_namespace b t)) (components (47 ∷ c ∷ cs))
unfolding resolution
from_root b t c cs h = rw h refl

leads_at : (b : List ℕ) (t x : Node) (c : ℕ) (cs : List ℕ) (ns : List (List ℕ))
    → nat_lt 4095 (length (47 ∷ c ∷ cs)) ≡ false
    → list_any is_bad_name (pieces (c ∷ cs)) ≡ false → node_under (pieces (c ∷ cs)) t ≡ Some x → is_link x ≡ false
    → resolution (tree_namespace b t) (47 ∷ c ∷ cs) true ≡ Ok x
leads_at b t x c cs ns short h e l =
    from_root b t c cs short
    ∙ ap (λ ps. resolve (tree_namespace b t) true 40 (at_root (tree_namespace b t)) ps) (components_of c cs h)
    ∙ down b t 39 (pieces (c ∷ cs)) (at_root (tree_namespace b t)) x h e l

-- a path whose names lead to a node that is no link leads to this node
pub path_leads : (b : List ℕ) (t x : Node) (path n : List ℕ) (ns : List (List ℕ)) → names_of path ≡ Some (n ∷ ns)
    → node_under (n ∷ ns) t ≡ Some x → is_link x ≡ false → resolution (tree_namespace b t) path true ≡ Ok x
path_leads b t x path n ns e u l =
    let is = path_is path n ns e in
    let short = subst (λ p. nat_lt 4095 (length p) ≡ false) is.whole is.short in
    let under = subst (λ ps. node_under ps t ≡ Some x) (sym is.names) u in
    subst (λ p. resolution (tree_namespace b t) p true ≡ Ok x) (sym is.whole)
    (leads_at b t x is.first is.rest (n ∷ ns) short is.good under l)

-- What a node has of a value, and the file to which the names of a path lead.
use Rattle.std.proofs.Common.{◌≡◌, ℕ, Bool, true, false, ◌&&◌, cond, List, [], ◌∷◌}
use Rattle.std.proofs.Common.{Option, None, Some, refl, sym, ap, ◌∙◌, ◌⊎◌, inl, inr}
use Rattle.std.proofs.lemmas.Bool.{eqb-true}
use Rattle.std.specs.Prelude.{◌==◌, find, if◌then◌else◌}
use Rattle.std.specs.Cmp.Lexicographic.{bytes_decides}
use Rattle.std.specs.List.{list_any}
use Rattle.std.specs.Option.{option_and_then}
use Rattle.std.specs.Str.{bytes_eq}
use Rattle.record_forest.specs.Members.{Has}
use Rattle.rom_tree.specs.Tree.{Node, node, directory, regular, symlink, block, character, socket, fifo}
use Rattle.rom_tree.specs.declared.types.Kind.{Kind}
use Rattle.rom_tree.specs.declared.types.Kind.TheVariants as node_kind
use Rattle.manifest.specs.declared.line.Line.{Line}
use Rattle.manifest.specs.Paths.{is_bad_name, names_behind, names_from, names_of}
use Rattle.manifest.specs.Texts.{is_bad, pieces}
use Rattle.manifest.proofs.Named.{path_with_names}
use Rattle.manifest.proofs.Parents.{pieces_some}
use Rattle.manifest_tree.specs.Names.{Inode}
use Rattle.manifest_tree.specs.Shape.{Value, node_value}
use Rattle.manifest_tree.specs.Tree.{bare_root, file_at, file_named, is_named, names_eq, or_else, root_of}
use Rattle.build_commands.specs.Reported.{Report}
use Rattle.build_commands.specs.Reported.{node_report}

-- ---- reports

abbrev is_symlink : Kind → Bool
is_symlink node_kind.Symlink = true
is_symlink _ = false

abbrev pub value_report : Value → Report
value_report v = record {
  kind = v.kind;
  mode = v.mode;
  uid = v.uid;
  gid = v.gid;
  major = v.major;
  minor = v.minor;
  target = if is_symlink v.kind then v.bytes else [];
}

pub of_node : (image : List ℕ) (x : Node) → node_report image x ≡ value_report (node_value image x)
unfolding node_value
of_node image (node a (directory es)) = refl
of_node image (node a (regular ps)) = refl
of_node image (node a (symlink ps)) = refl
of_node image (node a block) = refl
of_node image (node a character) = refl
of_node image (node a socket) = refl
of_node image (node a fifo) = refl

-- ---- names lead to the file at a path

abbrev pub HasPath : List ℕ → List Line → Type 0
HasPath p ls = Has (λ l. l.path ≡ p) ls

names_same : (ns : List (List ℕ)) → names_eq ns ns ≡ true
names_same [] = refl
names_same (n ∷ ns) = rw ((bytes_decides n n).1 refl) (names_same ns)

and_true : (a b : Bool) → (a && b) ≡ true → (a ≡ true) × (b ≡ true)
and_true true b h = (refl, h)
and_true false b h = absurd (cc)

names_true : (ms ns : List (List ℕ)) → names_eq ms ns ≡ true → ms ≡ ns
names_true [] [] h = refl
names_true [] (n ∷ ns) h = absurd (cc)
names_true (m ∷ ms) [] h = absurd (cc)
names_true (m ∷ ms) (n ∷ ns) h =
    let s = and_true (bytes_eq m n) (names_eq ms ns) h in
    ap (λ (x : List ℕ). x ∷ ms) ((bytes_decides m n).0 s.0)
    ∙ ap (λ (xs : List (List ℕ)). n ∷ xs) (names_true ms ns s.1)

named_is : (q : List (List ℕ)) (o : Option (List (List ℕ))) → is_named q o ≡ true → o ≡ Some q
named_is q None h = absurd (cc)
named_is q (Some ns) h = ap Some (names_true ns q h)

is_its : (q : List (List ℕ)) (o : Option (List (List ℕ))) → o ≡ Some q → is_named q o ≡ true
is_its q o h = ap (is_named q) h ∙ names_same q

true_false : (b : Bool) → b ≡ true → b ≡ false → ⊥
true_false b h g = cc

record IsFoundAt (p : List ℕ) (q : List (List ℕ)) (ls : List Line) : Type 0 where
  line : Line
  is : find (λ (l : Line). is_named q (names_of l.path)) ls ≡ Some line
  path : line.path ≡ p

find_named : (p n : List ℕ) (ns : List (List ℕ)) (ls : List Line) → names_of p ≡ Some (n ∷ ns) → HasPath p ls
    → IsFoundAt p (n ∷ ns) ls
find_named p n ns [] e h = absurd h
find_named p n ns (x ∷ xs) e h = by (λ k. find_named p n ns xs e k) (is_named (n ∷ ns) (names_of x.path)) refl h
  where
    test : Line → Bool
    test l = is_named (n ∷ ns) (names_of l.path)

    by : (HasPath p xs → IsFoundAt p (n ∷ ns) xs) → (b : Bool) → is_named (n ∷ ns) (names_of x.path) ≡ b
        → (x.path ≡ p) ⊎ HasPath p xs → IsFoundAt p (n ∷ ns) (x ∷ xs)
    by rest true i h = record {
      line = x;
      is = ap (λ (v : Bool). cond v (Some x) (find (λ (l : Line). is_named (n ∷ ns) (names_of l.path)) xs)) i;
      path = (path_with_names x.path n ns (named_is (n ∷ ns) (names_of x.path) i)).joined
          ∙ sym (path_with_names p n ns e).joined;
    }
    by rest false i (inl k) =
        absurd (true_false (is_named (n ∷ ns) (names_of x.path))
        (is_its (n ∷ ns) (names_of x.path) (ap names_of k ∙ e)) i)
    by rest false i (inr k) =
        let r = rest k in
        record {
          line = r.line;
          is = ap (λ (v : Bool). cond v (Some x) (find (λ (l : Line). is_named (n ∷ ns) (names_of l.path)) xs)) i
              ∙ r.is;
          path = r.path;
        }

pub none_some : {X : Type 0} (x : X) → None ≡ Some x → ⊥
none_some x e = cc

pub some_same : {X : Type 0} (x y : X) → Some x ≡ Some y → x ≡ y
some_same x y e = cc

-- only the root's path has no names
root_path : (p : List ℕ) → names_of p ≡ Some [] → p ≡ 47 ∷ []
unfolding names_of
root_path p h = by (is_bad 4095 p) p h
  where
    behind : (bs : List ℕ) → names_behind bs ≡ Some [] → bs ≡ []
    behind [] h = refl
    behind (c ∷ cs) h = absurd (pick (list_any is_bad_name (pieces 47 (c ∷ cs))) h)
      where
        pick : (b : Bool) → (if b then None else Some (pieces 47 (c ∷ cs))) ≡ Some [] → ⊥
        pick true h = cc
        pick false h =
            let s = pieces_some 47 (c ∷ cs) in
            let z : s.0 ∷ s.1 ≡ [] = sym s.2 ∙ some_same (pieces 47 (c ∷ cs)) [] h in
            cc

    from : (p : List ℕ) → names_from p ≡ Some [] → p ≡ 47 ∷ []
    from [] h = absurd (none_some [] h)
    from (b ∷ bs) h = pick (b == 47) refl h
      where
        pick : (v : Bool) → (b == 47) ≡ v → (if v then names_behind bs else None) ≡ Some [] → b ∷ bs ≡ 47 ∷ []
        pick true e h = ap (λ (v : ℕ). v ∷ bs) (eqb-true b 47 e) ∙ ap (λ (v : List ℕ). 47 ∷ v) (behind bs h)
        pick false e h = absurd (none_some [] h)

    by : (v : Bool) (p : List ℕ) → (if v then None else names_from p) ≡ Some [] → p ≡ 47 ∷ []
    by true p h = absurd (none_some [] h)
    by false p h = from p h

pub named_at : (all : List Line) (sizes : List ℕ) (p : List ℕ) (q : List (List ℕ)) (i : Inode) → names_of p ≡ Some q
    → HasPath p all → file_at all sizes p ≡ Some i → file_named all sizes q ≡ Some i
unfolding root_of
named_at all sizes p [] i e h f =
    ap (λ (v : Option Inode). Some (or_else bare_root v)) (ap (file_at all sizes) (sym (root_path p e)) ∙ f)
named_at all sizes p (n ∷ ns) i e h f =
    let s = find_named p n ns all e h in
    ap (option_and_then (λ (l : Line). file_at all sizes l.path)) s.is ∙ (ap (file_at all sizes) s.path ∙ f)

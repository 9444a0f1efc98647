-- The names of a tree whose lists are valid: they are paths, a directory's name is before those in it, and no two have
-- one path.
use Rattle.std.proofs.Common.{◌≡◌, ℕ, ◌<◌, Bool, true, false, ◌||◌, ◌&&◌, nat_lt, List, [], ◌∷◌, ◌++◌, length, Option}
use Rattle.std.proofs.Common.{None, Some, refl, sym, ap, subst, ◌∙◌, append_assoc, append-nil, arith}
use Rattle.std.specs.Prelude.{◌==◌}
use Rattle.std.proofs.lemmas.List.{append_cancel_left}
use Rattle.std.proofs.lemmas.List.Elements.{All-append, All-cons}
use Rattle.std.proofs.lemmas.List.Folds.{list_any-append}
use Rattle.std.specs.Cmp.Lexicographic.{bytes_decides}
use Rattle.std.specs.List.{All, list_any}
use Rattle.std.specs.Str.{bytes_eq}
use Rattle.manifest.specs.Paths.{is_bad_name, names_of, path_of}
use Rattle.manifest.specs.Texts.{is_empty}
use Rattle.manifest.proofs.Named.{names_with_path}
use Rattle.manifest_tree.specs.Shape.{node_under}
use Rattle.rom_tree.specs.Image.{find_entry}
use Rattle.rom_tree.specs.Names.{Name, named, node_names, entries_names, path_below}
use Rattle.rom_tree.specs.Tree.{Node, node, directory, regular, symlink, block, character, socket, fifo, Entries}
use Rattle.rom_tree.specs.Tree.{no_entries, entry, entries_of, entries_nodes, is_directory, nodes, IsIn, here, there}
use Rattle.rom_tree.proofs.Nodes.{in-front, in-back}
use Rattle.image_manifest.specs.ByPaths.{has_slash}
use Rattle.image_manifest.specs.Describable.{IsLawfulName, IsLawfulList}
use Rattle.image_manifest.proofs.Paths.{same_names}
use Rattle.image_manifest.proofs.Plain.{ArePlain, PathsDiffer, has_path, leads, leads_entries, some_by}
use Rattle.image_manifest.proofs.Ways.{Among, first, later, front_none, neither, or_false}

-- Valid names, and their path.

abbrev pub AreLawful : List (List ℕ) → Type 0
AreLawful [] = Unit {0}
AreLawful (n ∷ ns) = IsLawfulName n × AreLawful ns

pub lawful_push : (ns : List (List ℕ)) (n : List ℕ) → AreLawful ns → IsLawfulName n → AreLawful (ns ++ n ∷ [])
lawful_push [] n w h = (h, tt)
lawful_push (k ∷ ns) n w h = (w.0, lawful_push ns n w.1 h)

path_push : (ns : List (List ℕ)) (n : List ℕ) → path_of (ns ++ n ∷ []) ≡ path_of ns ++ 47 ∷ n
path_push [] n = ap (λ (v : List ℕ). 47 ∷ v) (append-nil n)
path_push (k ∷ ns) n = ap (λ (v : List ℕ). 47 ∷ (k ++ v)) (path_push ns n)
    ∙ ap (λ (v : List ℕ). 47 ∷ v) (sym (append_assoc k (path_of ns) (47 ∷ n)))

no_slashes : (ns : List (List ℕ)) → AreLawful ns → list_any has_slash ns ≡ false
no_slashes [] w = refl
no_slashes (n ∷ ns) w = neither (has_slash n) (list_any has_slash ns) w.0.no_slash (no_slashes ns w.1)

good_names : (ns : List (List ℕ)) → AreLawful ns → list_any is_bad_name ns ≡ false
good_names [] w = refl
good_names (n ∷ ns) w = neither (is_bad_name n) (list_any is_bad_name ns) w.0.good (good_names ns w.1)

no_zeros : (ns : List (List ℕ)) → AreLawful ns → list_any (λ b. b == 0) (path_of ns) ≡ false
no_zeros [] w = refl
no_zeros (n ∷ ns) w =
    list_any-append (λ b. b == 0) n (path_of ns)
    ∙ neither (list_any (λ b. b == 0) n) (list_any (λ b. b == 0) (path_of ns)) w.0.no_zero (no_zeros ns w.1)

pub no_bytes : All (λ b. b < 256) []
no_bytes = λ k d l. absurd (omega (arith, l))

pub path_bytes : (ns : List (List ℕ)) → AreLawful ns → All (λ b. b < 256) (path_of ns)
path_bytes [] w = no_bytes
path_bytes (n ∷ ns) w = All-cons (λ b. b < 256) 47 (n ++ path_of ns) (omega arith)
    (All-append (λ b. b < 256) n (path_of ns) w.0.bytes (path_bytes ns w.1))

-- the path of valid names that is not too long has these names
pub lawful_names : (n : List ℕ) (ns : List (List ℕ)) → AreLawful (n ∷ ns)
    → nat_lt 4095 (length (path_of (n ∷ ns))) ≡ false → names_of (path_of (n ∷ ns)) ≡ Some (n ∷ ns)
lawful_names n ns w h =
    names_with_path n ns
    (neither (nat_lt 4095 (length (path_of (n ∷ ns)))) (list_any (λ b. b == 0) (path_of (n ∷ ns))) h
    (no_zeros (n ∷ ns) w))
    (no_slashes (n ∷ ns) w) (good_names (n ∷ ns) w)

-- What is before a name.

-- the root's path is empty here, or a directory of this path is among the names
abbrev pub stands : List Name → List ℕ → Bool
stands before p = is_empty p || list_any (λ d. is_directory d.node && bytes_eq d.path p) before

stands_more : (b c : List Name) (p : List ℕ) → stands b p ≡ true → stands (b ++ c) p ≡ true
stands_more b c p h =
    let f = λ (d : Name). is_directory d.node && bytes_eq d.path p in
    ap (λ (t : Bool). is_empty p || t) (list_any-append f b c) ∙ by (is_empty p) (list_any f b) (list_any f c) h
  where
    by : (x y z : Bool) → (x || y) ≡ true → (x || (y || z)) ≡ true
    by true y z h = refl
    by false true z h = refl
    by false false z h = absurd (cc)

stands_new : (b : List Name) (n : Name) (p : List ℕ) → is_directory n.node ≡ true → n.path ≡ p
    → stands (b ++ n ∷ []) p ≡ true
stands_new b n p d e =
    let f = λ (k : Name). is_directory k.node && bytes_eq k.path p in
    ap (λ (t : Bool). is_empty p || t) (list_any-append f b (n ∷ []))
    ∙ by (is_empty p) (list_any f b) (is_directory n.node) (bytes_eq n.path p) d ((bytes_decides n.path p).1 e)
  where
    by : (x y z t : Bool) → z ≡ true → t ≡ true → (x || (y || ((z && t) || false))) ≡ true
    by true y z t h g = refl
    by false true z t h g = refl
    by false false true true h g = refl
    by false false true false h g = absurd (cc)
    by false false false t h g = absurd (cc)

-- A name behind others: its path is that of valid names, and its directory is before it.
pub record IsSound (earlier : List Name) (n : Name) : Type 0 where
  pub way : List (List ℕ)
  pub lawful : AreLawful way
  pub last : IsLawfulName n.last
  pub path : n.path ≡ path_of (way ++ n.last ∷ [])
  pub parent : stands earlier (path_of way) ≡ true

abbrev pub AreSound : List Name → List Name → Type 0
AreSound before [] = Unit {0}
AreSound before (n ∷ ns) = IsSound before n × AreSound (before ++ n ∷ []) ns

sound_append : (before xs ys : List Name) → AreSound before xs → AreSound (before ++ xs) ys → AreSound before (xs ++ ys)
sound_append before [] ys h k = subst (λ (v : List Name). AreSound v ys) (append-nil before) k
sound_append before (x ∷ xs) ys h k = (
  h.0,
  sound_append (before ++ x ∷ []) xs ys h.1
      (subst (λ (v : List Name). AreSound v ys) (sym (append_assoc before (x ∷ []) xs)) k),
)

abbrev pub HasLawfulLists : List Node → Type 0
HasLawfulLists xs = (x : Node) → IsIn x xs → IsLawfulList (entries_of x)

mutual
  unfolding node_names

  pub sound_node : (before : List Name) (qs : List (List ℕ)) (t : Node)
      → (is_directory t ≡ true → stands before (path_of qs) ≡ true) → AreLawful qs → HasLawfulLists (nodes t)
      → AreSound before (node_names (path_of qs) t)
  sound_node before qs (node a (directory es)) s w h =
      sound_entries before qs es (s refl) w (h (node a (directory es)) here) (λ x i. h x (there i))
  sound_node before qs (node a (regular ps)) s w h = tt
  sound_node before qs (node a (symlink ps)) s w h = tt
  sound_node before qs (node a block) s w h = tt
  sound_node before qs (node a character) s w h = tt
  sound_node before qs (node a socket) s w h = tt
  sound_node before qs (node a fifo) s w h = tt

  sound_entries : (before : List Name) (qs : List (List ℕ)) (es : Entries) → stands before (path_of qs) ≡ true
      → AreLawful qs → IsLawfulList es → HasLawfulLists (entries_nodes es)
      → AreSound before (entries_names (path_of qs) es)
  sound_entries before qs no_entries s w l h = tt
  sound_entries before qs (entry name x es) s w l h =
      let p : List ℕ = path_below (path_of qs) name in
      let n : Name = named p name x in
      let e : path_of (qs ++ name ∷ []) ≡ p = path_push qs name in
      let own : AreSound (before ++ n ∷ []) (node_names p x) =
      subst (λ (v : List ℕ). AreSound (before ++ n ∷ []) (node_names v x)) e
      (sound_node (before ++ n ∷ []) (qs ++ name ∷ []) x
      (λ d. stands_new before n (path_of (qs ++ name ∷ [])) d (sym e)) (lawful_push qs name w l.0)
      (λ y i. h y (in-front y (nodes x) (entries_nodes es) i))) in
      let rest : AreSound ((before ++ n ∷ []) ++ node_names p x) (entries_names (path_of qs) es) =
      sound_entries ((before ++ n ∷ []) ++ node_names p x) qs es
      (stands_more (before ++ n ∷ []) (node_names p x) (path_of qs)
      (stands_more before (n ∷ []) (path_of qs) s)) w l.2
      (λ y i. h y (in-back y (nodes x) (entries_nodes es) i)) in (
        record { way = qs; lawful = w; last = l.0; path = sym e; parent = s },
        sound_append (before ++ n ∷ []) (node_names p x) (entries_names (path_of qs) es) own rest,
      )

pub plain_names : (before ns : List Name) → AreSound before ns → ArePlain ns
plain_names before [] h = refl
plain_names before (n ∷ ns) h = neither (has_slash n.last) (list_any (λ k. has_slash k.last) ns) h.0.last.no_slash
    (plain_names (before ++ n ∷ []) ns h.1)

-- No two have one path.

pub record HasName (ns : List Name) (p : List ℕ) : Type 0 where
  pub name : Name
  pub among : Among name ns
  pub path : name.path ≡ p

pub name_of : (ns : List Name) (p : List ℕ) → has_path p ns ≡ true → HasName ns p
name_of [] p h = absurd (cc)
name_of (n ∷ ns) p h =
    elim (bytes_eq n.path p) as (λ t. bytes_eq n.path p ≡ t → (t || has_path p ns) ≡ true → HasName (n ∷ ns) p) [
      | true ↦ λ e g. record { name = n; among = first; path = (bytes_decides n.path p).0 e }
      | false ↦ λ e g. let r = name_of ns p g in record { name = r.name; among = later r.among; path = r.path }
    ] refl h

differ_join : (xs ys : List Name) → PathsDiffer xs → PathsDiffer ys
    → ((n : Name) → Among n xs → has_path n.path ys ≡ false) → PathsDiffer (xs ++ ys)
differ_join [] ys h k c = k
differ_join (x ∷ xs) ys h k c = (
  list_any-append (λ n. bytes_eq n.path x.path) xs ys
      ∙ neither (has_path x.path xs) (has_path x.path ys) h.0 (c x first),
  differ_join xs ys h.1 k (λ n i. c n (later i)),
)

some_is_none : (o : Option Node) (y : Node) → o ≡ Some y → o ≡ None → ⊥
some_is_none o y h g = cc

first_same : (n : List ℕ) (ns : List (List ℕ)) (k : List ℕ) (ks : List (List ℕ)) → n ∷ ns ≡ k ∷ ks → n ≡ k
first_same n ns k ks h = cc

-- below another name of the list nothing has the path
other_list : (path name : List ℕ) (q : List (List ℕ)) (es : Entries) (p : List ℕ) → ArePlain (entries_names path es)
    → PathsDiffer (entries_names path es) → find_entry es name ≡ None → list_any has_slash (name ∷ q) ≡ false
    → p ≡ path ++ path_of (name ∷ q) → has_path p (entries_names path es) ≡ false
other_list path name q es p a d none plain e = by (has_path p (entries_names path es)) refl
  where
    by : (t : Bool) → has_path p (entries_names path es) ≡ t → t ≡ false
    by false h = refl
    by true h =
        let r = name_of (entries_names path es) p h in
        let g = leads_entries path es r.name a d r.among in
        let same = same_names name q g.head g.more plain g.plain
        (append_cancel_left path (path_of (name ∷ q)) (path_of (g.head ∷ g.more)) (sym e ∙ sym r.path ∙ g.path)) in
        let found = some_by (λ y. node_under g.more y) (find_entry es g.head) r.name.node g.node in
        absurd (some_is_none (find_entry es g.head) found.0 found.1
        (ap (find_entry es) (sym (first_same name q g.head g.more same)) ∙ none))

-- nor has anything below a node its own path
not_own : (path : List ℕ) (t : Node) → ArePlain (node_names path t) → PathsDiffer (node_names path t)
    → has_path path (node_names path t) ≡ false
not_own path t a d = by (has_path path (node_names path t)) refl
  where
    longer : (n : List ℕ) (ns : List (List ℕ)) → [] ≡ path_of (n ∷ ns) → ⊥
    longer n ns h = cc

    by : (b : Bool) → has_path path (node_names path t) ≡ b → b ≡ false
    by false h = refl
    by true h =
        let r = name_of (node_names path t) path h in
        let g = leads path t r.name a d r.among in
        absurd (longer g.head g.more (append_cancel_left path [] (path_of (g.head ∷ g.more))
        (append-nil path ∙ sym r.path ∙ g.path)))

mutual
  unfolding node_names

  pub differ_node : (path : List ℕ) (t : Node) → ArePlain (node_names path t) → HasLawfulLists (nodes t)
      → PathsDiffer (node_names path t)
  differ_node path (node a (directory es)) p h =
      differ_entries path es p (h (node a (directory es)) here) (λ x i. h x (there i))
  differ_node path (node a (regular ps)) p h = tt
  differ_node path (node a (symlink ps)) p h = tt
  differ_node path (node a block) p h = tt
  differ_node path (node a character) p h = tt
  differ_node path (node a socket) p h = tt
  differ_node path (node a fifo) p h = tt

  differ_entries : (path : List ℕ) (es : Entries) → ArePlain (entries_names path es) → IsLawfulList es
      → HasLawfulLists (entries_nodes es) → PathsDiffer (entries_names path es)
  differ_entries path no_entries p l h = tt
  differ_entries path (entry name x es) p l h =
      let below : List ℕ = path_below path name in
      let own : List Name = node_names below x in
      let after : List Name = entries_names path es in
      let s = or_false (has_slash name) _ p in
      let r = front_none (λ (k : Name). has_slash k.last) own after s.1 in
      let a : PathsDiffer own = differ_node below x r.0 (λ y i. h y (in-front y (nodes x) (entries_nodes es) i)) in
      let b : PathsDiffer after =
      differ_entries path es r.1 l.2 (λ y i. h y (in-back y (nodes x) (entries_nodes es) i)) in (
        list_any-append (λ n. bytes_eq n.path below) own after
            ∙ neither (has_path below own) (has_path below after) (not_own below x r.0 a)
            (other_list path name [] es below r.1 b l.1 (neither (has_slash name) false s.0 refl)
            (ap (λ (v : List ℕ). path ++ 47 ∷ v) (sym (append-nil name)))),
        differ_join own after a b (λ n i. let g = leads below x n r.0 a i in
            other_list path name (g.head ∷ g.more) es n.path r.1 b l.1
            (neither (has_slash name) (list_any has_slash (g.head ∷ g.more)) s.0 g.plain)
            (g.path ∙ append_assoc path (47 ∷ name) (path_of (g.head ∷ g.more)))),
      )

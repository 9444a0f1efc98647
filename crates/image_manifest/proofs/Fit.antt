-- The properties of a tree's names, one behind the other, if a manifest describes the tree whole.
use Rattle.std.proofs.Common.{◌≡◌, ℕ, ◌<◌, Bool, true, false, not, nat_lt, List, [], ◌∷◌, ◌++◌, length, Option, Some}
use Rattle.std.proofs.Common.{refl, sym, ap, subst, ◌∙◌, append_assoc, append-nil, arith}
use Rattle.std.proofs.lemmas.List.Elements.{All-cons}
use Rattle.std.specs.Cmp.Lexicographic.{bytes_decides}
use Rattle.std.specs.List.{All, list_any}
use Rattle.std.specs.Str.{bytes_eq}
use Rattle.manifest.specs.Paths.{but_last, is_bad_name, is_bad_path, names_of, parent_of, path_of}
use Rattle.rom_tree.specs.Image.{Image}
use Rattle.rom_tree.specs.Names.{Name, named, names, node_names}
use Rattle.rom_tree.specs.Tree.{Node, is_directory}
use Rattle.image_manifest.specs.Members.{is_long}
use Rattle.image_manifest.specs.ByPaths.{IsByPaths}
use Rattle.image_manifest.specs.Describable.{IsLawfulName, IsDescribable}
use Rattle.image_manifest.proofs.Lawful.{AreLawful, AreSound, IsSound, differ_node, lawful_names, lawful_push, name_of}
use Rattle.image_manifest.proofs.Lawful.{path_bytes, plain_names, sound_node, stands}
use Rattle.image_manifest.proofs.Plain.{PathsDiffer, has_path}
use Rattle.image_manifest.proofs.Ways.{true_is_not_false, Among, first, later, neither, or_false}

-- What each name of the tree has.

pub record IsFit (earlier : List Name) (n : Name) : Type 0 where
  pub bytes : All (λ b. b < 256) n.path
  pub path : is_bad_path (is_directory n.node) (names_of n.path) ≡ false
  pub parent : stands earlier (parent_of (names_of n.path)) ≡ true

but_last-push : (ns : List (List ℕ)) (n : List ℕ) → but_last (ns ++ n ∷ []) ≡ ns
but_last-push [] n = refl
but_last-push (m ∷ []) n = refl
but_last-push (m ∷ k ∷ ns) n = ap (λ (x : List (List ℕ)). m ∷ x) (but_last-push (k ∷ ns) n)

way_names : (way : List (List ℕ)) (n : List ℕ) → AreLawful way → IsLawfulName n
    → nat_lt 4095 (length (path_of (way ++ n ∷ []))) ≡ false → names_of (path_of (way ++ n ∷ [])) ≡ Some (way ++ n ∷ [])
way_names [] n w h l = lawful_names n [] (h, tt) l
way_names (k ∷ ks) n w h l = lawful_names k (ks ++ n ∷ []) (w.0, lawful_push ks n w.1 h) l

good_way : (r : Bool) (way : List (List ℕ)) (n : List ℕ) → is_bad_path r (Some (way ++ n ∷ [])) ≡ false
good_way r [] n = refl
good_way r (k ∷ ks) n = refl

fit : (before : List Name) (n : Name) → IsSound before n → is_long n ≡ false → IsFit before n
fit before n s l =
    let e : names_of n.path ≡ Some (s.way ++ n.last ∷ []) =
    ap names_of s.path ∙ way_names s.way n.last s.lawful s.last
    (ap (λ (v : List ℕ). nat_lt 4095 (length v)) (sym s.path) ∙ l) in
    record {
      bytes = subst (λ (v : List ℕ). All (λ b. b < 256) v) (sym s.path)
          (path_bytes (s.way ++ n.last ∷ []) (lawful_push s.way n.last s.lawful s.last));
      path = ap (is_bad_path (is_directory n.node)) e ∙ good_way (is_directory n.node) s.way n.last;
      parent = ap (λ (o : Option (List (List ℕ))). stands before (parent_of o)) e
          ∙ ap (λ (v : List (List ℕ)). stands before (path_of v)) (but_last-push s.way n.last) ∙ s.parent;
    }

abbrev pub AreFit : List Name → List Name → Type 0
AreFit before [] = Unit {0}
AreFit before (n ∷ ns) = IsFit before n × AreFit (before ++ n ∷ []) ns

all_fit : (before ns : List Name) → AreSound before ns → list_any is_long ns ≡ false → AreFit before ns
all_fit before [] s l = tt
all_fit before (n ∷ ns) s l = let r =
    or_false (is_long n) (list_any is_long ns) l in (fit before n s.0 r.0, all_fit (before ++ n ∷ []) ns s.1 r.1)

pub fit_at : (before b : List Name) (n : Name) (a : List Name) → AreFit before (b ++ n ∷ a) → IsFit (before ++ b) n
fit_at before [] n a h = subst (λ (v : List Name). IsFit v n) (sym (append-nil before)) h.0
fit_at before (k ∷ b) n a h =
    subst (λ (v : List Name). IsFit v n) (append_assoc before (k ∷ []) b) (fit_at (before ++ k ∷ []) b n a h.1)

root_fit : (t : Node) → is_directory t ≡ true → IsFit [] (named (47 ∷ []) [] t)
unfolding names_of
root_fit t h = record {
  bytes = All-cons (λ b. b < 256) 47 [] (omega arith) (λ k d l. absurd (omega (arith, l)));
  path = ap not h;
  parent = refl;
}

root_name : Node → Name
root_name t = named (47 ∷ []) [] t

sound_below : (m : Image) → IsDescribable m → AreSound (root_name m.tree ∷ []) (node_names [] m.tree)
unfolding root_name
sound_below m h = sound_node (named (47 ∷ []) [] m.tree ∷ []) [] m.tree (λ d. refl) tt h.tree.lists

pub names_fit : (m : Image) → IsDescribable m → AreFit [] (names m.tree)
unfolding names root_name
names_fit m h = (
  root_fit m.tree h.tree.root,
  all_fit (named (47 ∷ []) [] m.tree ∷ []) (node_names [] m.tree) (sound_below m h)
      (or_false (is_long (named (47 ∷ []) [] m.tree)) _ h.paths).1,
)

sound_among : (before ns : List Name) (n : Name) → AreSound before ns → Among n ns → (b : List Name) × IsSound b n
sound_among before [] n s h = elim h [ ]
sound_among before (k ∷ ns) n s first = (before, s.0)
sound_among before (k ∷ ns) n s (later h) = sound_among (before ++ k ∷ []) ns n s.1 h

empty_path : (n : List ℕ) (ns : List (List ℕ)) → IsLawfulName n → path_of (n ∷ ns) ≡ 47 ∷ [] → ⊥
unfolding is_bad_name
empty_path [] ns w e = let g : true ≡ false = w.good in cc
empty_path (b ∷ bs) ns w e = cc

root_alone : (m : Image) → IsDescribable m → has_path (47 ∷ []) (node_names [] m.tree) ≡ false
root_alone m h = by (has_path (47 ∷ []) (node_names [] m.tree)) refl
  where
    empty_way : (way : List (List ℕ)) (n : List ℕ) → AreLawful way → IsLawfulName n
        → path_of (way ++ n ∷ []) ≡ 47 ∷ [] → ⊥
    empty_way [] n w g e = empty_path n [] g e
    empty_way (k ∷ ks) n w g e = empty_path k (ks ++ n ∷ []) w.0 e

    by : (t : Bool) → has_path (47 ∷ []) (node_names [] m.tree) ≡ t → t ≡ false
    by false e = refl
    by true e =
        let r = name_of (node_names [] m.tree) (47 ∷ []) e in
        let s = sound_among (root_name m.tree ∷ []) (node_names [] m.tree) r.name (sound_below m h) r.among in
        absurd (empty_way s.1.way r.name.last s.1.lawful s.1.last (sym s.1.path ∙ r.path))

pub names_differ : (m : Image) → IsDescribable m → PathsDiffer (names m.tree)
unfolding names
names_differ m h = (
  root_alone m h,
  differ_node [] m.tree
      (plain_names (root_name m.tree ∷ []) (node_names [] m.tree) (sound_below m h)) h.tree.lists,
)

pub differ_at : (b : List Name) (n : Name) (a : List Name) → PathsDiffer (b ++ n ∷ a) → has_path n.path b ≡ false
differ_at [] n a h = refl
differ_at (k ∷ b) n a h = neither (bytes_eq k.path n.path) (has_path n.path b) (apart b h.0) (differ_at b n a h.1)
  where
    turned : (c : Bool) → bytes_eq k.path n.path ≡ c → bytes_eq n.path k.path ≡ false → c ≡ false
    turned false e f = refl
    turned true e f = absurd (true_is_not_false (bytes_eq n.path k.path)
        ((bytes_decides n.path k.path).1 (sym ((bytes_decides k.path n.path).0 e))) f)

    apart : (b : List Name) → has_path k.path (b ++ n ∷ a) ≡ false → bytes_eq k.path n.path ≡ false
    apart [] e = turned (bytes_eq k.path n.path) refl (or_false (bytes_eq n.path k.path) _ e).0
    apart (x ∷ b) e = apart b (or_false (bytes_eq x.path k.path) _ e).1

-- so paths describe the tree
pub by_paths : (m : Image) → IsDescribable m → IsByPaths m.tree
unfolding names
by_paths m h = record {
  names = plain_names (root_name m.tree ∷ []) (node_names [] m.tree) (sound_below m h);
  directories = h.tree.directories;
}

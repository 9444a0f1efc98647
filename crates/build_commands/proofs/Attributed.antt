-- Attributes that are noted for files, and what changes of attributes mean.
use Rattle.std.proofs.Common.{◌≡◌, ◌≢◌, ℕ, ◌+◌, ◌<◌, ◌≤◌, Bool, true, false, cond, Ordering, Less, Equal, Greater}
use Rattle.std.proofs.Common.{List, [], ◌∷◌, ◌++◌, map, eqb}
use Rattle.std.proofs.Common.{length, get_or, take, set, refl, sym, ap, ap₂, subst, ◌∙◌, arith, append-nil}
use Rattle.std.proofs.Common.{append_assoc, drop, Option, Some, None, string_bytes}
use Rattle.std.specs.Prelude.{filter, ◌==◌, ◌&&◌, ◌||◌, unwrap_or}
use Rattle.std.specs.BTreeMap.{BTreeMap}
use Rattle.std.specs.Ordering.{is_eq, nat_cmp, ordering_then}
use Rattle.std.specs.Option.{is_some}
use Rattle.std.proofs.lemmas.Bool.{cases_Bool, cases_lt}
use Rattle.std.proofs.lemmas.Bool.Decides.{nat_tests}
use Rattle.std.proofs.lemmas.List.{take-append-drop, take_more, get_or_default, get_or-map, get_or-set_other}
use Rattle.std.proofs.lemmas.List.{get_or-set_same, length-map, same_lists}
use Rattle.std.proofs.lemmas.List.Elements.{filter_more}
use mathlib.Core.Logic.{⊎_elim}
use Rattle.build_commands.specs.Noting.{AreApplied, AreNoted, applied, are_equal, key_of, merged, noted, or_else}
use Rattle.build_commands.specs.Inventory.{path_of}
use Rattle.build_commands.specs.Overlay.{has_path, AreInOrder}
use Rattle.build_commands.specs.Rights.{HasFile, are_linked, are_one, changed, concerns, leads, with_all}
use Rattle.build_commands.specs.Rights.{with_attributes}
use Rattle.build_commands.specs.declared.inventory.NamedFile.{NamedFile}
use Rattle.build_commands.specs.declared.rights.Attributes.{Attributes}
use Rattle.build_commands.specs.declared.rights.Change.{Change}
use Rattle.build_commands.proofs.Overlaid.{itself, same_path}
use Rattle.build_commands.proofs.Ordered.{file_found, one_index}

-- ---- the keys of files

triples : (x y : ℕ × ℕ × ℕ) → x.0 ≡ y.0 → x.1 ≡ y.1 → x.2 ≡ y.2 → x ≡ y
triples x y a b c =
    ap (λ (v : ℕ). (v, x.1, x.2)) a ∙ ap (λ (v : ℕ). (y.0, v, x.2)) b ∙ ap (λ (v : ℕ). (y.0, y.1, v)) c

pub equal_keys : (x y : ℕ × ℕ × ℕ) → are_equal x y ≡ true → x ≡ y
equal_keys x y h =
    triples x y (grind (arith, nat_tests, h)) (grind (arith, nat_tests, h)) (grind (arith, nat_tests, h))

itself_equal : (x : ℕ × ℕ × ℕ) → are_equal x x ≡ true
itself_equal x = grind (arith, nat_tests)

-- of two names at different indexes
key_apart : (f g : NamedFile) (i j : ℕ) (a b : Bool) → f.has_links ≡ a → g.has_links ≡ b → eqb i j ≡ false
    → are_equal (key_of f i) (key_of g j) ≡ are_linked f g
key_apart f g i j true true p q ne = rw (p, q) refl
key_apart f g i j true false p q ne = rw (p, q) refl
key_apart f g i j false true p q ne = rw (p, q) refl
key_apart f g i j false false p q ne = rw (p, q) (ap (λ (b : Bool). b && true) ne)

indexes_apart : (fs : List NamedFile) (i j : ℕ) (d : NamedFile)
    → has_path (path_of (get_or fs i d)) (get_or fs j d) ≡ false → eqb i j ≡ false
indexes_apart fs i j d t =
    ⊎_elim
    (λ (e : eqb i j ≡ true).
    let is : i ≡ j = grind (arith, nat_tests, e) in
    let same : has_path (path_of (get_or fs i d)) (get_or fs j d) ≡ true =
    subst (λ (k : ℕ). has_path (path_of (get_or fs i d)) (get_or fs k d) ≡ true) is (itself (path_of (get_or fs i d)))
    in
    absurd cc)
    (λ (e : eqb i j ≡ false). e)
    (cases_Bool (eqb i j))

-- two keys are equal if they are those of names of one file
pub keys_of_one : (fs : List NamedFile) (i j : ℕ) (d : NamedFile) → AreInOrder fs → i < length fs → j < length fs
    → are_equal (key_of (get_or fs i d) i) (key_of (get_or fs j d) j) ≡ are_one (get_or fs i d) (get_or fs j d)
keys_of_one fs i j d o li lj =
    let f : NamedFile = get_or fs i d in
    let g : NamedFile = get_or fs j d in
    ⊎_elim
    (λ (t : has_path (path_of f) g ≡ true).
    let e : j ≡ i = one_index fs j i d o lj li (same_path _ _ t) in
    subst (λ (k : ℕ). are_equal (key_of f i) (key_of (get_or fs k d) k) ≡ true) (sym e) (itself_equal (key_of f i))
    ∙ sym (ap (λ (b : Bool). b || are_linked f g) t))
    (λ (t : has_path (path_of f) g ≡ false).
    key_apart f g i j f.has_links g.has_links refl refl (indexes_apart fs i j d t)
    ∙ sym (ap (λ (b : Bool). b || are_linked f g) t))
    (cases_Bool (has_path (path_of f) g))

-- ---- one change after the other

or_else_is : (a b : Option ℕ) (x : ℕ) → unwrap_or (or_else a b) x ≡ unwrap_or a (unwrap_or b x)
or_else_is None b x = refl
or_else_is (Some a) b x = refl

pub merged_is : (o : Option Attributes) (a : Attributes) (f : NamedFile)
    → applied (Some (merged o a)) f ≡ with_attributes a (applied o f)
merged_is None a f = refl
merged_is (Some b) a f =
    ap (λ (m : ℕ). record f { mode = m; uid = a.uid; gid = a.gid }) (or_else_is a.mode b.mode f.mode)

with_last : (cs : List Change) (c : Change) (f : NamedFile)
    → with_all (cs ++ c ∷ []) f ≡ with_attributes c.attributes (with_all cs f)
with_last [] c f = refl
with_last (b ∷ cs) c f = with_last cs c (with_attributes b.attributes f)

by_test : (b : Bool) (cs : List Change) (c : Change) (f : NamedFile)
    → with_all (cs ++ cond b (c ∷ []) []) f ≡ cond b (with_attributes c.attributes (with_all cs f)) (with_all cs f)
by_test true cs c f = with_last cs c f
by_test false cs c f = ap (λ (v : List Change). with_all v f) (append-nil cs)

pub changed_more : (found : List NamedFile) (cs : List Change) (i : ℕ) (c : Change) (f : NamedFile) → i < length cs
    → c ≡ get_or cs i c
    → changed found (take (i + 1) cs) f
    ≡ cond (concerns found f c) (with_attributes c.attributes (changed found (take i cs) f))
    (changed found (take i cs) f)
changed_more found cs i c f l is =
    ap (λ (v : List Change). with_all v f) (filter_more (concerns found f) cs i c l)
    ∙ ap (λ (x : Change). with_all (filter (concerns found f) (take i cs) ++ cond (concerns found f x) (x ∷ []) []) f)
    (sym is)
    ∙ by_test (concerns found f c) (filter (concerns found f) (take i cs)) c f

pub noted_more : (found : List NamedFile) (cs : List Change) (i n : ℕ) (c : Change)
    (old new : BTreeMap (ℕ × ℕ × ℕ) Attributes) (f : NamedFile)
    → AreInOrder found → i < length cs → c ≡ get_or cs i c → n < length found
    → ((d : NamedFile) → path_of (get_or found n d) ≡ string_bytes c.path) → f ≡ get_or found n f
    → ((k : ℕ × ℕ × ℕ) → noted new k
    ≡ cond (are_equal (key_of f n) k) (Some (merged (noted old (key_of f n)) c.attributes)) (noted old k))
    → AreNoted found (take i cs) old → AreNoted found (take (i + 1) cs) new
noted_more found cs i n c old new f o li isc ln at isf step was j d lj =
    let g : NamedFile = get_or found j d in
    let fd : f ≡ get_or found n d = isf ∙ get_or_default found n f d ln in
    let key : are_equal (key_of f n) (key_of g j) ≡ are_one f g =
    subst (λ (v : NamedFile). are_equal (key_of v n) (key_of g j) ≡ are_one v g) (sym fd)
    (keys_of_one found n j d o ln lj)
    in
    let about : concerns found g c ≡ are_one f g =
    ap (λ (v : Option NamedFile). leads v g) (file_found found n d (string_bytes c.path) o ln (at d))
    ∙ ap (λ (v : NamedFile). are_one v g) (sym fd)
    in
    let before = was j d lj in
    let goal : Bool → Type 0 = λ b.
    applied (cond b (Some (merged (noted old (key_of f n)) c.attributes)) (noted old (key_of g j))) g
    ≡ cond b (with_attributes c.attributes (changed found (take i cs) g)) (changed found (take i cs) g) in
    ap (λ (v : Option Attributes). applied v g) (step (key_of g j))
    ∙ ap (λ (b : Bool). applied (cond b (Some (merged (noted old (key_of f n)) c.attributes))
    (noted old (key_of g j))) g) key
    ∙ ⊎_elim
    (λ (t : are_one f g ≡ true). subst goal (sym t)
    (ap (λ (k : ℕ × ℕ × ℕ). applied (Some (merged (noted old k) c.attributes)) g)
    (equal_keys (key_of f n) (key_of g j) (key ∙ t))
    ∙ merged_is (noted old (key_of g j)) c.attributes g
    ∙ ap (with_attributes c.attributes) before))
    (λ (t : are_one f g ≡ false). subst goal (sym t) before)
    (cases_Bool (are_one f g))
    ∙ sym (ap (λ (b : Bool). cond b (with_attributes c.attributes (changed found (take i cs) g))
    (changed found (take i cs) g)) about)
    ∙ sym (changed_more found cs i c g li isc)

-- the files before an index have what is noted for them, and the others are as they were
pub record Applying (m : BTreeMap (ℕ × ℕ × ℕ) Attributes) (old now : List NamedFile) (i : ℕ) : Type 0 where
  pub done : (j : ℕ) (d : NamedFile) → j < i
      → get_or now j d ≡ applied (noted m (key_of (get_or old j d) j)) (get_or old j d)
  pub left : (j : ℕ) (d : NamedFile) → i ≤ j → get_or now j d ≡ get_or old j d

pub applying_more : (m : BTreeMap (ℕ × ℕ × ℕ) Attributes) (old now new : List NamedFile) (i : ℕ) (f g : NamedFile)
    → i < length now → f ≡ get_or now i f → new ≡ set now i g → g ≡ applied (noted m (key_of f i)) f
    → Applying m old now i → Applying m old new (i + 1)
applying_more m old now new i f g l is put made a = record {
  done = λ j d lt. ⊎_elim
      (λ (before : j < i).
      let ne : j ≢ i = omega (arith, before) in
      ap (λ (v : List NamedFile). get_or v j d) put ∙ get_or-set_other now i j g d ne ∙ a.done j d before)
      (λ (ge : i ≤ j).
      let e : i ≡ j = omega (arith, ge, lt) in
      let fd : f ≡ get_or old i d = is ∙ get_or_default now i f d l ∙ a.left i d (omega arith) in
      subst (λ (k : ℕ). get_or new k d ≡ applied (noted m (key_of (get_or old k d) k)) (get_or old k d)) e
      (ap (λ (v : List NamedFile). get_or v i d) put ∙ get_or-set_same now i g d l ∙ made
      ∙ ap (λ (v : NamedFile). applied (noted m (key_of v i)) v) fd))
      (cases_lt j i);
  left = λ j d ge.
      let ne : j ≢ i = omega (arith, ge) in
      ap (λ (v : List NamedFile). get_or v j d) put ∙ get_or-set_other now i j g d ne ∙ a.left j d (omega (arith, ge));
}

pub applying_now : (m : BTreeMap (ℕ × ℕ × ℕ) Attributes) (old now new : List NamedFile) (i : ℕ) (f g : NamedFile)
    (a : Option Attributes) (key : ℕ × ℕ × ℕ)
    → i < length now → f ≡ get_or now i f → a ≡ noted m key → key ≡ key_of f i → g ≡ applied a f
    → new ≡ set now i g → Applying m old now i → Applying m old new (i + 1)
applying_now m old now new i f g a key l is known keyed made put s =
    applying_more m old now new i f g l is put
    (made ∙ ap (λ (o : Option Attributes). applied o f) (known ∙ ap (noted m) keyed)) s

pub item_is : (xs : List NamedFile) (i : ℕ) (d f : NamedFile) → i < length xs → f ≡ get_or xs i f → get_or xs i d ≡ f
item_is xs i d f l is = get_or_default xs i d f l ∙ sym is

-- the test of keys in a map

equal_then : (x y : Ordering) → is_eq (ordering_then x y) ≡ (is_eq x && is_eq y)
equal_then Less y = refl
equal_then Equal y = refl
equal_then Greater y = refl

equal_numbers : (x y : ℕ) → is_eq (nat_cmp x y) ≡ (x == y)
equal_numbers x y = grind (arith, nat_tests)

pub keys_tested : (x y : ℕ × ℕ × ℕ)
    → is_eq (ordering_then (ordering_then (nat_cmp x.0 y.0) (nat_cmp x.1 y.1)) (nat_cmp x.2 y.2)) ≡ are_equal x y
keys_tested x y =
    equal_then (ordering_then (nat_cmp x.0 y.0) (nat_cmp x.1 y.1)) (nat_cmp x.2 y.2)
    ∙ ap₂ ◌&&◌ (equal_then (nat_cmp x.0 y.0) (nat_cmp x.1 y.1)
    ∙ ap₂ ◌&&◌ (equal_numbers x.0 y.0) (equal_numbers x.1 y.1)) (equal_numbers x.2 y.2)

-- each file has the attributes that were noted for it
pub all_changed : (found new : List NamedFile) (cs : List Change) (m : BTreeMap (ℕ × ℕ × ℕ) Attributes)
    → AreNoted found cs m → AreApplied m found new → length new ≡ length found → new ≡ map (changed found cs) found
all_changed found new cs m noted applied same =
    same_lists new (map (changed found cs) found) (same ∙ sym (length-map found (changed found cs)))
    (λ k d l.
    let here : k < length found = omega (arith, l, same) in
    applied k d here ∙ noted k d here ∙ sym (get_or-map (changed found cs) found k d d here))

-- a list around one item
pub split_at : (cs : List Change) (i : ℕ) (c : Change) → i < length cs → c ≡ get_or cs i c
    → cs ≡ take i cs ++ c ∷ drop (i + 1) cs
split_at cs i c l is =
    sym (take-append-drop (i + 1) cs)
    ∙ ap (λ (v : List Change). v ++ drop (i + 1) cs) (take_more cs i c l)
    ∙ append_assoc (take i cs) (get_or cs i c ∷ []) (drop (i + 1) cs)
    ∙ ap (λ (v : Change). take i cs ++ v ∷ drop (i + 1) cs) (sym is)

-- a change of a path that a file has
pub has_file : (found : List NamedFile) (n : ℕ) (c d : Change) → AreInOrder found → n < length found
    → ((f : NamedFile) → path_of (get_or found n f) ≡ string_bytes c.path) → d ≡ c → HasFile found d
has_file [] n c d o l at e = absurd (omega (arith, l))
has_file (f ∷ fs) n c d o l at e =
    subst (λ (v : Change). HasFile (f ∷ fs) v) (sym e)
    (ap is_some (file_found (f ∷ fs) n f (string_bytes c.path) o l (at f)))

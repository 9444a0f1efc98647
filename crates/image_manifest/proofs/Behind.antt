-- The names of an image, one more at a time.
use Rattle.std.proofs.Common.{◌≡◌, ℕ, suc, ◌<◌, ◌≤◌, Bool, true, false, cond, List, [], ◌∷◌, ◌++◌, length, map, Option}
use Rattle.std.proofs.Common.{Some, None, option_map, refl, sym, ap, ap₂, ◌∙◌, append_assoc, append-nil, arith}
use Rattle.std.specs.Prelude.{◌==◌, ◌||◌}
use Rattle.std.specs.List.{list_any}
use Rattle.std.proofs.lemmas.List.{map-append}
use Rattle.std.proofs.lemmas.List.Folds.{list_any-append}
use Rattle.std.proofs.lemmas.Bool.Decides.{nat_tests}
use Rattle.rom_tree.specs.Tree.{Node, ino_of}
use Rattle.rom_tree.specs.Names.{Name}
use Rattle.image_manifest.specs.Firsts.{first_by, noted_with}
use Rattle.image_manifest.specs.Members.{Known, all_behind, first_behind, is_long, place_of, known_behind, known_of}
use Rattle.image_manifest.specs.declared.naming.Member.{Member}

by_number : (t : Bool) (index : ℕ) → option_map suc (cond t (Some index) None) ≡ cond t (Some (suc index)) None
by_number true index = refl
by_number false index = refl

shifted : (node index number : ℕ) (o : Option ℕ)
    → option_map suc (noted_with node index o number) ≡ noted_with node (suc index) (option_map suc o) number
shifted node index number None = by_number (node == number) index
shifted node index number (Some i) = refl

by_test : (t : Bool) (node index number : ℕ) (o more : Option ℕ) → more ≡ noted_with node index o number
    → cond t (Some 0) (option_map suc more) ≡ noted_with node (suc index) (cond t (Some 0) (option_map suc o)) number
by_test true node index number o more e = refl
by_test false node index number o more e = ap (option_map suc) e ∙ shifted node index number o

-- the index of a node's first name, with one more name
pub place_more : (number : ℕ) (before : List Name) (n : Name)
    → place_of number (before ++ n ∷ []) ≡ noted_with (ino_of n.node) (length before) (place_of number before) number
place_more number [] n = refl
place_more number (b ∷ before) n =
    by_test (ino_of b.node == number) (ino_of n.node) (length before) number (place_of number before)
    (place_of number (before ++ n ∷ []))
    (place_more number before n)

-- what a member has, with one more name
pub behind_more : (before ns : List Name) (n : Name)
    → all_behind before (ns ++ n ∷ []) ≡ all_behind before ns ++ known_behind (before ++ ns) n ∷ []
behind_more before [] n = ap (λ (x : List Name). known_behind x n ∷ []) (sym (append-nil before))
behind_more before (m ∷ ns) n =
    ap (λ (x : List Known). known_behind before m ∷ x)
    (behind_more (before ++ m ∷ []) ns n
    ∙ ap (λ (x : List Name). all_behind (before ++ m ∷ []) ns ++ known_behind x n ∷ [])
    (append_assoc before (m ∷ []) ns))

-- one member more
pub pushed : (old new : List Member) (x : Member) (done : List Name) (n : Name) → new ≡ old ++ x ∷ []
    → map known_of old ≡ all_behind [] done
    → known_of x ≡ known_behind done n → map known_of new ≡ all_behind [] (done ++ n ∷ [])
pushed old new x done n e h k =
    ap (map known_of) e ∙ map-append known_of old (x ∷ []) ∙ ap₂ (λ (a : List Known) (b : Known). a ++ b ∷ []) h k
    ∙ sym (behind_more [] done n)

length-behind : (before ns : List Name) → length (all_behind before ns) ≡ length ns
length-behind before [] = refl
length-behind before (n ∷ ns) = ap suc (length-behind (before ++ n ∷ []) ns)

length-map : (xs : List Member) → length (map known_of xs) ≡ length xs
length-map [] = refl
length-map (x ∷ xs) = ap suc (length-map xs)

-- there are as many members as names
pub as_many : (xs : List Member) (done : List Name) → map known_of xs ≡ all_behind [] done → length xs ≡ length done
as_many xs done h = sym (length-map xs) ∙ ap length h ∙ length-behind [] done

-- all names have members
pub none_left : (done left all : List Name) → left ≡ [] → done ++ left ≡ all → done ≡ all
none_left done left all e h = sym (append-nil done) ∙ (ap (λ (v : List Name). done ++ v) (sym e) ∙ h)

-- one of them more
pub one_more : (done old new all : List Name) (n : Name) → old ≡ n ∷ new → done ++ old ≡ all
    → (done ++ n ∷ []) ++ new ≡ all
one_more done old new all n e h = append_assoc done (n ∷ []) new ∙ (ap (λ (v : List Name). done ++ v) (sym e) ∙ h)

or_true : (b : Bool) → (b || true) ≡ true
or_true true = refl
or_true false = refl

-- none of them is long, with one more that is not
pub none_long : (done : List Name) (n : Name) (path : List ℕ) → path ≡ n.path → list_any is_long done ≡ false
    → length path ≤ 4095 → list_any is_long (done ++ n ∷ []) ≡ false
none_long done n path e h l =
    let k : is_long n ≡ false = grind (arith, nat_tests, ap length e, l) in
    list_any-append is_long done (n ∷ []) ∙ rw (h, k) refl

-- one is long, so that some are
pub some_long : (done new all : List Name) (n : Name) (path : List ℕ) → path ≡ n.path → done ++ n ∷ new ≡ all
    → 4095 < length path → list_any is_long all ≡ true
some_long done new all n path e h l =
    let k : is_long n ≡ true = grind (arith, nat_tests, ap length e, l) in
    ap (list_any is_long) (sym h) ∙ (list_any-append is_long done (n ∷ new) ∙ rw k (or_true (list_any is_long done)))

-- what a member has
pub known_as : (x : Member) (done : List Name) (n : Name) → x.node.0 ≡ ino_of n.node
    → x.first ≡ first_behind done n.node
    → known_of x ≡ known_behind done n
known_as x done n a b = rw (a, b) refl

-- the first name of a node, as the map has it
pub first_as : (x : Node) (done : List Name) (number : ℕ) (first o : Option ℕ) → first ≡ first_by x o
    → o ≡ place_of number done → number ≡ ino_of x → first ≡ first_behind done x
first_as x done number first o e h k = e ∙ ap (first_by x) h ∙ ap (λ (v : ℕ). first_by x (place_of v done)) k

-- the map with one name more
pub firsts_more : (done : List Name) (n : Name) (node index number : ℕ) (old new : Option ℕ)
    → new ≡ noted_with node index old number → old ≡ place_of number done
    → node ≡ ino_of n.node → index ≡ length done → new ≡ place_of number (done ++ n ∷ [])
firsts_more done n node index number old new e h k l =
    e ∙ ap (λ (o : Option ℕ). noted_with node index o number) h
    ∙ ap (λ (v : ℕ). noted_with v index (place_of number done) number) k
    ∙ ap (λ (v : ℕ). noted_with (ino_of n.node) v (place_of number done) number) l
    ∙ sym (place_more number done n)

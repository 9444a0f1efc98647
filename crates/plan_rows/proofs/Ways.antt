-- A path and the way to it determine the number of names and the last of them.
use Rattle.std.proofs.Common.{◌≡◌, ◌≢◌, ℕ, ◌+◌, ◌==◌, ◌||◌, if◌then◌else◌, Bool, true, false, List, [], ◌∷◌, ◌++◌}
use Rattle.std.proofs.Common.{length, map, Some, refl, sym, ap, ◌∙◌, arith}
use Rattle.std.proofs.lemmas.Bool.{eq-eqb, ne_eqb}
use Rattle.std.proofs.lemmas.List.{append-nil, map-append}
use Rattle.std.proofs.lemmas.List.Recursion.{is_count_by}
use Rattle.std.specs.List.{AllByRecursion as Every, list_any}
use Rattle.record_forest.proofs.Lists.{every_weaker}
use Rattle.manifest.specs.Paths.{names_of, path_of}
use Rattle.manifest.proofs.Named.{path_with_names, has_slash}
use Rattle.manifest_layout.proofs.Plain.{names_no_zero}
use Rattle.manifest_layout.proofs.Sorted.{last_of}
use Rattle.manifest_tree.specs.Names.{Names, nothing, leaf, link, subdirectory}
use Rattle.manifest_tree.specs.Tree.{What, a_leaf, a_link, a_directory}
use Rattle.plan_rows.specs.Entries.{key_of, entry, entries}
use Rattle.plan_rows.proofs.Keys.{HasNoZero}
use Rattle.plan_rows.proofs.Putting.{HaveNoZeros}
use Rattle.plan_rows.specs.Rows.{Row, row, rows}
use Rattle.plan_rows.specs.Keyed.{keyed, count, behind, zeroed, row_at}
use Rattle.plan_rows.proofs.Ordered.{tally, row_by, by_key}

-- no byte of a text is b
abbrev Lacks : ℕ → List ℕ → Type 0
Lacks b bs = Every (λ x. (x == b) ≡ false) bs

-- names, each behind a b
abbrev joined : ℕ → List (List ℕ) → List ℕ
joined b [] = []
joined b (n ∷ ns) = b ∷ (n ++ joined b ns)

same : (b : ℕ) → (b == b) ≡ true
same b = eq-eqb b b refl

count_past : (b : ℕ) (n rest : List ℕ) → Lacks b n → tally b (n ++ rest) ≡ tally b rest
count_past b [] rest h = refl
count_past b (x ∷ n) rest h = rw h.0 (count_past b n rest h.1)

count_one : (b : ℕ) (rest : List ℕ) → tally b (b ∷ rest) ≡ 1 + tally b rest
count_one b rest = rw (same b) refl

tally_is : (b : ℕ) (bs : List ℕ) → count b bs ≡ tally b bs
tally_is b bs = sym (is_count_by (tally b) (λ x. x == b) refl (λ x xs. refl) bs)

behind_past : (b : ℕ) (all n rest : List ℕ) → Lacks b n → behind b all (n ++ rest) ≡ behind b all rest
behind_past b all [] rest h = refl
behind_past b all (x ∷ n) rest h = rw h.0 (behind_past b all n rest h.1)

behind_one : (b : ℕ) (all rest : List ℕ) → behind b all (b ∷ rest) ≡ behind b rest rest
behind_one b all rest = rw (same b) refl

-- the number of names that are joined, and the last of them
count_is : (b : ℕ) (ns : List (List ℕ)) → Every (Lacks b) ns → tally b (joined b ns) ≡ length ns
count_is b [] h = refl
count_is b (n ∷ ns) h =
    let e = count_one b (n ++ joined b ns)
    ∙ ap (λ (k : ℕ). 1 + k) (count_past b n (joined b ns) h.0 ∙ count_is b ns h.1) in omega (arith, e)

behind_is : (b : ℕ) (all n : List ℕ) (ns : List (List ℕ)) → Every (Lacks b) (n ∷ ns)
    → behind b all (joined b (n ∷ ns)) ≡ last_of n ns
behind_is b all n [] h = behind_one b all (n ++ []) ∙ behind_past b (n ++ []) n [] h.0 ∙ append-nil n
behind_is b all n (m ∷ ms) h =
    behind_one b all (n ++ joined b (m ∷ ms)) ∙ behind_past b (n ++ joined b (m ∷ ms)) n (joined b (m ∷ ms)) h.0
    ∙ behind_is b (n ++ joined b (m ∷ ms)) m ms h.1

path_is : (ns : List (List ℕ)) → path_of ns ≡ joined 47 ns
path_is [] = refl
path_is (n ∷ ns) = ap (λ (x : List ℕ). 47 ∷ (n ++ x)) (path_is ns)

key_is : (ns : List (List ℕ)) → key_of ns ≡ joined 0 ns
key_is [] = refl
key_is (n ∷ ns) = ap (λ (x : List ℕ). 0 ∷ (n ++ x)) (key_is ns)

zeroed_name : (n : List ℕ) → Lacks 47 n → zeroed n ≡ n
zeroed_name [] h = refl
zeroed_name (x ∷ n) h = rw h.0 (ap (λ (y : List ℕ). x ∷ y) (zeroed_name n h.1))

zeroed_is : (ns : List (List ℕ)) → Every (Lacks 47) ns → zeroed (joined 47 ns) ≡ joined 0 ns
zeroed_is [] h = refl
zeroed_is (n ∷ ns) h =
    ap (λ (x : List ℕ). 0 ∷ x) (map-append (λ (b : ℕ). if b == 47 then 0 else b) n (joined 47 ns)
    ∙ ap (λ (x : List ℕ). x ++ zeroed (joined 47 ns)) (zeroed_name n h.0)
    ∙ ap (λ (x : List ℕ). n ++ x) (zeroed_is ns h.1))

or_false : (a b : Bool) → (a || b) ≡ false → (a ≡ false) × (b ≡ false)
or_false true b h = absurd (cc)
or_false false b h = (refl, h)

-- names have neither a slash nor a zero byte
no_slash : (n : List ℕ) → has_slash n ≡ false → Lacks 47 n
no_slash [] h = tt
no_slash (x ∷ n) h = let s = or_false (x == 47) (has_slash n) h in (s.0, no_slash n s.1)

no_slashes : (ns : List (List ℕ)) → list_any has_slash ns ≡ false → Every (Lacks 47) ns
no_slashes [] h = tt
no_slashes (n ∷ ns) h = let s = or_false (has_slash n) (list_any has_slash ns) h in (no_slash n s.0, no_slashes ns s.1)

no_zero : (n : List ℕ) → HasNoZero n → Lacks 0 n
no_zero n h = every_weaker (λ (x : ℕ). x ≢ 0) (λ (x : ℕ). (x == 0) ≡ false) (λ x e. ne_eqb x 0 e) n h

no_zeros : (ns : List (List ℕ)) → Every HasNoZero ns → Every (Lacks 0) ns
no_zeros ns h = every_weaker HasNoZero (Lacks 0) no_zero ns h

-- the way to what a path names, with its row, is that of its entry
pub way_is : (path n : List ℕ) (ns : List (List ℕ)) (w : What) → names_of path ≡ Some (n ∷ ns)
    → keyed (zeroed path) (row_at path w) ≡ by_key (entry (key_of (n ∷ ns)) w)
way_is path n ns w h =
    let k = path_with_names path n ns h in
    let s = no_slashes (n ∷ ns) k.plain in
    let z = no_zeros (n ∷ ns) (names_no_zero path n ns h) in
    let p : path ≡ joined 47 (n ∷ ns) = k.joined ∙ path_is (n ∷ ns) in
    let q : key_of (n ∷ ns) ≡ joined 0 (n ∷ ns) = key_is (n ∷ ns) in
    let c : count 47 path ≡ tally 0 (key_of (n ∷ ns)) =
    tally_is 47 path ∙ ap (tally 47) p ∙ count_is 47 (n ∷ ns) s ∙ sym (ap (tally 0) q ∙ count_is 0 (n ∷ ns) z) in
    let l : behind 47 path path ≡ behind 0 [] (key_of (n ∷ ns)) =
    ap (behind 47 path) p ∙ behind_is 47 path n ns s ∙ sym (ap (behind 0 []) q ∙ behind_is 0 [] n ns z) in
    ap (λ (x : List ℕ). keyed x (row_at path w)) (ap zeroed p ∙ zeroed_is (n ∷ ns) s ∙ sym q)
    ∙ ap (λ (x : ℕ). keyed (key_of (n ∷ ns)) (row x (behind 47 path path) w)) c
    ∙ ap (λ (x : List ℕ). keyed (key_of (n ∷ ns)) (row (tally 0 (key_of (n ∷ ns))) x w)) l

-- a name more on the way
deeper : (k name : List ℕ) → HasNoZero name → tally 0 (k ++ 0 ∷ name) ≡ tally 0 k + 1
deeper [] name z = count_one 0 name ∙ ap (λ (n : ℕ). 1 + n)
    (ap (tally 0) (sym (append-nil name)) ∙ count_past 0 name [] (no_zero name z))
deeper (x ∷ k) name z = elim (x == 0) as
    (λ t. (if t then 1 + tally 0 (k ++ 0 ∷ name) else tally 0 (k ++ 0 ∷ name))
    ≡ (if t then 1 + tally 0 k else tally 0 k) + 1) [
      | true ↦ let e = deeper k name z in omega (arith, e)
      | false ↦ deeper k name z
    ]

named_last : (all k name : List ℕ) → HasNoZero name → behind 0 all (k ++ 0 ∷ name) ≡ name
named_last all [] name z = ap (behind 0 name) (sym (append-nil name)) ∙ behind_past 0 name name [] (no_zero name z)
named_last all (x ∷ k) name z = elim (x == 0) as
    (λ t. (if t then behind 0 (k ++ 0 ∷ name) (k ++ 0 ∷ name) else behind 0 all (k ++ 0 ∷ name)) ≡ name) [
      | true ↦ named_last (k ++ 0 ∷ name) k name z
      | false ↦ named_last all k name z
    ]

row_here : (k name : List ℕ) (w : What) → HasNoZero name → row_by (entry (k ++ 0 ∷ name) w) ≡ row (tally 0 k + 1) name w
row_here k name w z =
    ap (λ (n : ℕ). row n (behind 0 [] (k ++ 0 ∷ name)) w) (deeper k name z)
    ∙ ap (λ (x : List ℕ). row (tally 0 k + 1) x w) (named_last [] k name z)

-- so the entries of names determine their rows
pub rows_are : (k : List ℕ) (n : Names) → HaveNoZeros n → map row_by (entries k n) ≡ rows (tally 0 k + 1) n
rows_are k nothing z = refl
rows_are k (leaf name i after) z =
    ap (λ (r : Row). r ∷ map row_by (entries k after)) (row_here k name (a_leaf i) z.0)
    ∙ ap (λ (rs : List Row). row (tally 0 k + 1) name (a_leaf i) ∷ rs) (rows_are k after z.1)
rows_are k (link name i after) z =
    ap (λ (r : Row). r ∷ map row_by (entries k after)) (row_here k name (a_link i) z.0)
    ∙ ap (λ (rs : List Row). row (tally 0 k + 1) name (a_link i) ∷ rs) (rows_are k after z.1)
rows_are k (subdirectory name i own after) z =
    let below = rows_are (k ++ 0 ∷ name) own z.1 ∙ ap (λ (n : ℕ). rows (n + 1) own) (deeper k name z.0) in
    ap (λ (r : Row). r ∷ map row_by (entries (k ++ 0 ∷ name) own ++ entries k after))
    (row_here k name (a_directory i) z.0)
    ∙ ap (λ (rs : List Row). row (tally 0 k + 1) name (a_directory i) ∷ rs)
    (map-append row_by (entries (k ++ 0 ∷ name) own) (entries k after)
    ∙ ap (λ (rs : List Row). rs ++ map row_by (entries k after)) below
    ∙ ap (λ (rs : List Row). rows (tally 0 k + 1 + 1) own ++ rs) (rows_are k after z.2))

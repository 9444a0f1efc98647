-- A path more in a tree is an entry more in its row, in order.
use Rattle.std.proofs.Common.{◌≡◌, ℕ, Bool, true, false, cond, ◌⊎◌, inl, inr, List, [], ◌∷◌, ◌++◌, None, refl, sym, ap}
use Rattle.std.proofs.Common.{subst, ◌∙◌, append_assoc}
use Rattle.std.proofs.lemmas.List.{append-nil}
use Rattle.std.specs.Cmp.Lexicographic.{bytes_decides}
use Rattle.std.specs.List.{AllByRecursion as Every}
use Rattle.std.specs.Str.{bytes_eq}
use Rattle.record_forest.proofs.Lists.{every_weaker, every_join}
use Rattle.cramfs_format.specs.Tree.{precedes}
use Rattle.cramfs_format.proofs.Orders.{one_first}
use Rattle.manifest.specs.Paths.{but_last}
use Rattle.manifest_tree.specs.Names.{Inode, Names, nothing, leaf, link, subdirectory}
use Rattle.manifest_tree.specs.Tree.{What, a_leaf, a_link, a_directory, named, put, put_at, is_before}
use Rattle.manifest_tree.proofs.Found.{found, a_file, last_or, is_parent, is_a_directory, past_file, own_parent}
use Rattle.manifest_tree.proofs.Found.{not_here}
use Rattle.manifest_tree.specs.Lists.{StandsIn}
use Rattle.manifest_layout.proofs.Orders.{same_order}
use Rattle.manifest_layout.proofs.Sorted.{AreSorted, Before, HoldAll}
use Rattle.plan_rows.specs.Entries.{key_of, Entry, entry, entries, put_entry}
use Rattle.plan_rows.proofs.Keys.{HasNoZero, IsTail, ends, goes_on, not_back, behind, longer, ways_rise}

-- no name has a zero byte
abbrev pub HaveNoZeros : Names → Type 0
HaveNoZeros n = HoldAll (λ name w. HasNoZero name) n

-- an entry at a name of the directory at k, or below it
abbrev pub Under : List ℕ → List ℕ → Entry → Type 0
Under k m e = (r : List ℕ) × IsTail r × (e.key ≡ k ++ 0 ∷ (m ++ r))

abbrev pub Through : List ℕ → Names → Entry → Type 0
Through k n e = (m : List ℕ) × StandsIn m n × Under k m e

pub own_key : (k m : List ℕ) → k ++ 0 ∷ m ≡ k ++ 0 ∷ (m ++ [])
own_key k m = ap (λ (x : List ℕ). k ++ 0 ∷ x) (sym (append-nil m))

head_under : (k m : List ℕ) (w : What) → Under k m (entry (k ++ 0 ∷ m) w)
head_under k m w = ([], ends, own_key k m)

below_under : (k m : List ℕ) (own : Names) (e : Entry) → Through (k ++ 0 ∷ m) own e → Under k m e
below_under k m own e (x, s, (r, t, g)) = (0 ∷ (x ++ r), goes_on (x ++ r), g ∙ append_assoc k (0 ∷ m) (0 ∷ (x ++ r)))

pub through : (k : List ℕ) (n : Names) → Every (Through k n) (entries k n)
through k nothing = tt
through k (leaf name i after) = (
  (name, inl refl, head_under k name (a_leaf i)),
  every_weaker (Through k after) (Through k (leaf name i after)) (λ e h. (h.0, inr h.1, h.2)) (entries k after)
      (through k after),
)
through k (link name i after) = (
  (name, inl refl, head_under k name (a_link i)),
  every_weaker (Through k after) (Through k (link name i after)) (λ e h. (h.0, inr h.1, h.2)) (entries k after)
      (through k after),
)
through k (subdirectory name i own after) = (
  (name, inl refl, head_under k name (a_directory i)),
  every_join (Through k (subdirectory name i own after)) (entries (k ++ 0 ∷ name) own) (entries k after)
      (every_weaker (Through (k ++ 0 ∷ name) own) (Through k (subdirectory name i own after))
      (λ e h. (name, inl refl, below_under k name own e h)) (entries (k ++ 0 ∷ name) own)
      (through (k ++ 0 ∷ name) own))
      (every_weaker (Through k after) (Through k (subdirectory name i own after)) (λ e h. (h.0, inr h.1, h.2))
      (entries k after) (through k after)),
)

pub own_under : (k m : List ℕ) (own : Names) → Every (Under k m) (entries (k ++ 0 ∷ m) own)
own_under k m own = every_weaker (Through (k ++ 0 ∷ m) own) (Under k m) (λ e h. below_under k m own e h)
    (entries (k ++ 0 ∷ m) own) (through (k ++ 0 ∷ m) own)

no_zero_in : (m : List ℕ) (n : Names) → HaveNoZeros n → StandsIn m n → HasNoZero m
no_zero_in m nothing z s = absurd s
no_zero_in m (leaf name i after) z (inl e) = subst HasNoZero (sym e) z.0
no_zero_in m (leaf name i after) z (inr s) = no_zero_in m after z.1 s
no_zero_in m (link name i after) z (inl e) = subst HasNoZero (sym e) z.0
no_zero_in m (link name i after) z (inr s) = no_zero_in m after z.1 s
no_zero_in m (subdirectory name i own after) z (inl e) = subst HasNoZero (sym e) z.0
no_zero_in m (subdirectory name i own after) z (inr s) = no_zero_in m after z.2 s

-- an entry under a lesser name is before the new one
under_before : (k m name s : List ℕ) (e : Entry) → HasNoZero name → precedes m name ≡ true → Under k m e
    → precedes (k ++ 0 ∷ (name ++ s)) e.key ≡ false
under_before k m name s e z h (r, t, g) =
    ap (precedes (k ++ 0 ∷ (name ++ s))) g
    ∙ not_back (k ++ 0 ∷ (m ++ r)) (k ++ 0 ∷ (name ++ s)) (ways_rise k m name r s t z h)

-- the entries of greater names are behind it
pub all_behind : (k name s : List ℕ) (n : Names) → IsTail s → HaveNoZeros n → Before name n
    → Every (λ e. precedes (k ++ 0 ∷ (name ++ s)) e.key ≡ true) (entries k n)
all_behind k name s n t z b =
    every_weaker (Through k n) (λ (e : Entry). precedes (k ++ 0 ∷ (name ++ s)) e.key ≡ true)
    (λ e h. ap (precedes (k ++ 0 ∷ (name ++ s))) h.2.2
    ∙ ways_rise k name h.0 s h.2.0 t (no_zero_in h.0 n z h.1) (b h.0 h.1))
    (entries k n) (through k n)

put_here : (e d : Entry) (ds : List Entry) → precedes e.key d.key ≡ true → put_entry e (d ∷ ds) ≡ e ∷ d ∷ ds
put_here e d ds h = rw h refl

put_on : (e d : Entry) (ds : List Entry) → precedes e.key d.key ≡ false → put_entry e (d ∷ ds) ≡ d ∷ put_entry e ds
put_on e d ds h = rw h refl

put_past : (e : Entry) (xs ys : List Entry) → Every (λ d. precedes e.key d.key ≡ false) xs
    → put_entry e (xs ++ ys) ≡ xs ++ put_entry e ys
put_past e [] ys h = refl
put_past e (x ∷ xs) ys h = put_on e x (xs ++ ys) h.0 ∙ ap (λ (ds : List Entry). x ∷ ds) (put_past e xs ys h.1)

put_front : (e : Entry) (ys : List Entry) → Every (λ d. precedes e.key d.key ≡ true) ys → put_entry e ys ≡ e ∷ ys
put_front e [] h = refl
put_front e (y ∷ ys) h = put_here e y ys h.0

put_within : (e : Entry) (xs ys : List Entry) → Every (λ d. precedes e.key d.key ≡ true) ys
    → put_entry e (xs ++ ys) ≡ put_entry e xs ++ ys
put_within e [] ys h = put_front e ys h
put_within e (x ∷ xs) ys h = elim (precedes e.key x.key) as
    (λ t. cond t (e ∷ x ∷ (xs ++ ys)) (x ∷ put_entry e (xs ++ ys)) ≡ cond t (e ∷ x ∷ xs) (x ∷ put_entry e xs) ++ ys) [
      | true ↦ refl
      | false ↦ ap (λ (ds : List Entry). x ∷ ds) (put_within e xs ys h)
    ]

named_entries : (k : List ℕ) (w : What) (name : List ℕ) (n : Names)
    → entries k (named w name n) ≡ entry (k ++ 0 ∷ (name ++ [])) w ∷ entries k n
named_entries k w name n = by w ∙ ap (λ (x : List ℕ). entry x w ∷ entries k n) (own_key k name)
  where
    by : (v : What) → entries k (named v name n) ≡ entry (k ++ 0 ∷ name) v ∷ entries k n
    by (a_leaf i) = refl
    by (a_link i) = refl
    by (a_directory i) = refl

-- not before a name that is another, so behind it
is_behind : (name m : List ℕ) → is_before name m ≡ false → bytes_eq m name ≡ false → precedes m name ≡ true
is_behind name m e n = elim (one_first m name (λ z. other (bytes_eq m name) ((bytes_decides m name).1 z) n)) [
  | inl p ↦ p
  | inr p ↦ absurd (other (precedes name m) p (sym (same_order name m) ∙ e))
] where
  other : (t : Bool) → t ≡ true → t ≡ false → ⊥
  other t g h = cc

-- in front of an entry of a greater name
head_here : (k name m : List ℕ) (w v : What) (ds : List Entry) → HasNoZero m → is_before name m ≡ true
    → entry (k ++ 0 ∷ (name ++ [])) w ∷ entry (k ++ 0 ∷ m) v ∷ ds
    ≡ put_entry (entry (k ++ 0 ∷ (name ++ [])) w) (entry (k ++ 0 ∷ m) v ∷ ds)
head_here k name m w v ds z e =
    sym (put_here (entry (k ++ 0 ∷ (name ++ [])) w) (entry (k ++ 0 ∷ m) v) ds
    (ap (precedes (k ++ 0 ∷ (name ++ []))) (own_key k m)
    ∙ ways_rise k name m [] [] ends z (sym (same_order name m) ∙ e)))

-- a directory of a lesser name is before the new one, with all that it holds
past_block : (k m name s : List ℕ) (v : What) (own : Names) (w : What) → HasNoZero name → precedes m name ≡ true
    → Every (λ d. precedes (k ++ 0 ∷ (name ++ s)) d.key ≡ false) (entry (k ++ 0 ∷ m) v ∷ entries (k ++ 0 ∷ m) own)
past_block k m name s v own w z h = (
  under_before k m name s (entry (k ++ 0 ∷ m) v) z h (head_under k m v),
  every_weaker (Under k m) (λ (d : Entry). precedes (k ++ 0 ∷ (name ++ s)) d.key ≡ false)
      (λ d u. under_before k m name s d z h u) (entries (k ++ 0 ∷ m) own) (own_under k m own),
)

put_entries : (k : List ℕ) (w : What) (name : List ℕ) (n : Names) → HasNoZero name → HaveNoZeros n
    → found (name ∷ []) n ≡ None → entries k (put w name n) ≡ put_entry (entry (k ++ 0 ∷ (name ++ [])) w) (entries k n)
put_entries k w name nothing z c f = named_entries k w name nothing
put_entries k w name (leaf m i after) z c f =
    let s = not_here (bytes_eq m name) _ (found (name ∷ []) after) f in
    elim (is_before name m) as (λ t. is_before name m ≡ t
    → entries k (cond t (named w name (leaf m i after)) (leaf m i (put w name after)))
    ≡ put_entry (entry (k ++ 0 ∷ (name ++ [])) w) (entries k (leaf m i after))) [
      | true ↦ λ e. named_entries k w name (leaf m i after) ∙ head_here k name m w (a_leaf i) (entries k after) c.0 e
      | false ↦ λ e. ap (λ (ds : List Entry). entry (k ++ 0 ∷ m) (a_leaf i) ∷ ds) (put_entries k w name after z c.1 s.1)
          ∙ sym (put_on (entry (k ++ 0 ∷ (name ++ [])) w) (entry (k ++ 0 ∷ m) (a_leaf i)) (entries k after)
          (under_before k m name [] (entry (k ++ 0 ∷ m) (a_leaf i)) z (is_behind name m e s.0)
          (head_under k m (a_leaf i))))
    ] refl
put_entries k w name (link m i after) z c f =
    let s = not_here (bytes_eq m name) _ (found (name ∷ []) after) f in
    elim (is_before name m) as (λ t. is_before name m ≡ t
    → entries k (cond t (named w name (link m i after)) (link m i (put w name after)))
    ≡ put_entry (entry (k ++ 0 ∷ (name ++ [])) w) (entries k (link m i after))) [
      | true ↦ λ e. named_entries k w name (link m i after) ∙ head_here k name m w (a_link i) (entries k after) c.0 e
      | false ↦ λ e. ap (λ (ds : List Entry). entry (k ++ 0 ∷ m) (a_link i) ∷ ds) (put_entries k w name after z c.1 s.1)
          ∙ sym (put_on (entry (k ++ 0 ∷ (name ++ [])) w) (entry (k ++ 0 ∷ m) (a_link i)) (entries k after)
          (under_before k m name [] (entry (k ++ 0 ∷ m) (a_link i)) z (is_behind name m e s.0)
          (head_under k m (a_link i))))
    ] refl
put_entries k w name (subdirectory m i own after) z c f =
    let s = not_here (bytes_eq m name) _ (found (name ∷ []) after) f in
    let x = entry (k ++ 0 ∷ (name ++ [])) w in
    let d = entry (k ++ 0 ∷ m) (a_directory i) in
    elim (is_before name m) as (λ t. is_before name m ≡ t
    → entries k (cond t (named w name (subdirectory m i own after)) (subdirectory m i own (put w name after)))
    ≡ put_entry (entry (k ++ 0 ∷ (name ++ [])) w) (entries k (subdirectory m i own after))) [
      | true ↦ λ e. named_entries k w name (subdirectory m i own after)
          ∙ head_here k name m w (a_directory i) (entries (k ++ 0 ∷ m) own ++ entries k after) c.0 e
      | false ↦ λ e. ap (λ (ds : List Entry). d ∷ (entries (k ++ 0 ∷ m) own ++ ds))
          (put_entries k w name after z c.2 s.1)
          ∙ sym (put_past x (d ∷ entries (k ++ 0 ∷ m) own) (entries k after)
          (past_block k m name [] (a_directory i) own w z (is_behind name m e s.0)))
    ] refl

-- the first of the names on the way to a directory is one of the list
stands_if : (m : List ℕ) (ms : List (List ℕ)) (n : Names) → is_parent (m ∷ ms) n ≡ true → StandsIn m n
stands_if m ms nothing p = absurd (cc)
stands_if m ms (leaf name i after) p =
    let s = past_file name m ms i (found (m ∷ ms) after) p in inr (stands_if m ms after s.1)
stands_if m ms (link name i after) p =
    let s = past_file name m ms i (found (m ∷ ms) after) p in inr (stands_if m ms after s.1)
stands_if m ms (subdirectory name i own after) p =
    elim (bytes_eq name m) as (λ t. bytes_eq name m ≡ t
    → is_a_directory (cond t (last_or ms (a_file true i) (found ms own)) (found (m ∷ ms) after)) ≡ true
    → (m ≡ name) ⊎ StandsIn m after) [
      | true ↦ λ e q. inl (sym ((bytes_decides name m).0 e))
      | false ↦ λ e q. inr (stands_if m ms after q)
    ] refl p

key_tail : (ns : List (List ℕ)) → IsTail (key_of ns)
key_tail [] = ends
key_tail (n ∷ ns) = goes_on (n ++ key_of ns)

-- a way goes on below a directory
goes_below : (k name : List ℕ) (x : List ℕ) (xs : List (List ℕ)) (w : What)
    → precedes (k ++ 0 ∷ (name ++ key_of (x ∷ xs))) (k ++ 0 ∷ name) ≡ false
goes_below k name x xs w =
    not_back (k ++ 0 ∷ name) (k ++ 0 ∷ (name ++ key_of (x ∷ xs)))
    (behind k (0 ∷ name) (0 ∷ (name ++ key_of (x ∷ xs))) (longer (0 ∷ name) 0 (x ++ key_of xs)))

-- in the directory of a name
inside : (k : List ℕ) (w : What) (name m x : List ℕ) (xs : List (List ℕ)) (i : Inode) (own after : Names) → name ≡ m
    → Every HasNoZero (m ∷ x ∷ xs) → HaveNoZeros (subdirectory name i own after)
    → AreSorted (subdirectory name i own after)
    → entries (k ++ 0 ∷ name) (put_at w (x ∷ xs) own)
    ≡ put_entry (entry ((k ++ 0 ∷ name) ++ key_of (x ∷ xs)) w) (entries (k ++ 0 ∷ name) own)
    → entries k (subdirectory name i (put_at w (x ∷ xs) own) after)
    ≡ put_entry (entry (k ++ key_of (m ∷ x ∷ xs)) w) (entries k (subdirectory name i own after))
inside k w name m x xs i own after e z c h g =
    let d = entry (k ++ 0 ∷ name) (a_directory i) in
    let y = entry (k ++ 0 ∷ (name ++ key_of (x ∷ xs))) w in
    let at : (k ++ 0 ∷ name) ++ key_of (x ∷ xs) ≡ k ++ 0 ∷ (name ++ key_of (x ∷ xs)) =
    append_assoc k (0 ∷ name) (key_of (x ∷ xs)) in
    let new : entries (k ++ 0 ∷ name) (put_at w (x ∷ xs) own) ≡ put_entry y (entries (k ++ 0 ∷ name) own) =
    g ∙ ap (λ (v : List ℕ). put_entry (entry v w) (entries (k ++ 0 ∷ name) own)) at in
    ap (λ (ds : List Entry). d ∷ (ds ++ entries k after)) new
    ∙ ap (λ (ds : List Entry). d ∷ ds)
    (sym (put_within y (entries (k ++ 0 ∷ name) own) (entries k after)
    (all_behind k name (key_of (x ∷ xs)) after (key_tail (x ∷ xs)) c.2 h.0)))
    ∙ sym (put_on y d (entries (k ++ 0 ∷ name) own ++ entries k after) (goes_below k name x xs w))
    ∙ ap (λ (v : List ℕ). put_entry (entry (k ++ 0 ∷ (v ++ key_of (x ∷ xs))) w)
    (d ∷ (entries (k ++ 0 ∷ name) own ++ entries k after))) e

-- A path more, in a directory that is there.
pub put_at_entries : (k : List ℕ) (w : What) (m : List ℕ) (ms : List (List ℕ)) (n : Names)
    → Every HasNoZero (m ∷ ms) → HaveNoZeros n → AreSorted n → is_parent (but_last (m ∷ ms)) n ≡ true
    → found (m ∷ ms) n ≡ None
    → entries k (put_at w (m ∷ ms) n) ≡ put_entry (entry (k ++ key_of (m ∷ ms)) w) (entries k n)
put_at_entries k w m [] n z c h p f = put_entries k w m n z.0 c f
put_at_entries k w m (x ∷ xs) nothing z c h p f = absurd (cc)
put_at_entries k w m (x ∷ xs) (leaf name i after) z c h p f =
    let s = past_file name m (but_last (x ∷ xs)) i (found (m ∷ but_last (x ∷ xs)) after) p in
    let lesser = h.0 m (stands_if m (but_last (x ∷ xs)) after s.1) in
    let d = entry (k ++ 0 ∷ name) (a_leaf i) in
    ap (λ (ds : List Entry). d ∷ ds) (put_at_entries k w m (x ∷ xs) after z c.1 h.1 s.1 (rw s.0 at f))
    ∙ sym (put_on (entry (k ++ key_of (m ∷ x ∷ xs)) w) d (entries k after)
    (under_before k name m (key_of (x ∷ xs)) d z.0 lesser (head_under k name (a_leaf i))))
put_at_entries k w m (x ∷ xs) (link name i after) z c h p f =
    let s = past_file name m (but_last (x ∷ xs)) i (found (m ∷ but_last (x ∷ xs)) after) p in
    let lesser = h.0 m (stands_if m (but_last (x ∷ xs)) after s.1) in
    let d = entry (k ++ 0 ∷ name) (a_link i) in
    ap (λ (ds : List Entry). d ∷ ds) (put_at_entries k w m (x ∷ xs) after z c.1 h.1 s.1 (rw s.0 at f))
    ∙ sym (put_on (entry (k ++ key_of (m ∷ x ∷ xs)) w) d (entries k after)
    (under_before k name m (key_of (x ∷ xs)) d z.0 lesser (head_under k name (a_link i))))
put_at_entries k w m (x ∷ xs) (subdirectory name i own after) z c h p f =
    elim (bytes_eq name m) as (λ t. bytes_eq name m ≡ t
    → is_a_directory (cond t (last_or (but_last (x ∷ xs)) (a_file true i) (found (but_last (x ∷ xs)) own))
    (found (m ∷ but_last (x ∷ xs)) after)) ≡ true
    → cond t (found (x ∷ xs) own) (found (m ∷ x ∷ xs) after) ≡ None
    → entries k (cond t (subdirectory name i (put_at w (x ∷ xs) own) after)
    (subdirectory name i own (put_at w (m ∷ x ∷ xs) after)))
    ≡ put_entry (entry (k ++ key_of (m ∷ x ∷ xs)) w) (entries k (subdirectory name i own after))) [
      | true ↦ λ e q g.
          let same = (bytes_decides name m).0 e in
          inside k w name m x xs i own after same z c h
          (put_at_entries (k ++ 0 ∷ name) w x xs own z.1 c.1 h.1 (own_parent (but_last (x ∷ xs)) i own q) g)
      | false ↦ λ e q g.
          let lesser = h.0 m (stands_if m (but_last (x ∷ xs)) after q) in
          let d = entry (k ++ 0 ∷ name) (a_directory i) in
          ap (λ (ds : List Entry). d ∷ (entries (k ++ 0 ∷ name) own ++ ds))
          (put_at_entries k w m (x ∷ xs) after z c.2 h.2 q g)
          ∙ sym (put_past (entry (k ++ key_of (m ∷ x ∷ xs)) w) (d ∷ entries (k ++ 0 ∷ name) own) (entries k after)
          (past_block k name m (key_of (x ∷ xs)) (a_directory i) own w z.0 lesser))
    ] refl p f

-- What putting a path into names keeps: their order, what holds of each, and the files.
use Rattle.std.proofs.Common.{◌≡◌, ℕ, Bool, true, false, ◌⊎◌, inl, inr, cond, List, [], ◌∷◌, ◌++◌, None, refl, sym, ap}
use Rattle.std.proofs.Common.{subst, ◌∙◌, append_assoc}
use Rattle.std.specs.Cmp.Lexicographic.{bytes_decides}
use Rattle.std.specs.Str.{bytes_eq}
use Rattle.manifest.specs.Paths.{but_last}
use Rattle.manifest_tree.specs.Names.{Inode, Names, nothing, leaf, link, subdirectory}
use Rattle.manifest_tree.specs.Tree.{What, a_leaf, a_link, a_directory, named, put, put_at, is_before}
use Rattle.manifest_tree.proofs.Found.{found, a_file, last_or, is_parent, is_a_directory, past_file, own_parent}
use Rattle.manifest_tree.proofs.Found.{not_here}
use Rattle.manifest_tree.specs.Lists.{StandsIn}
use Rattle.manifest_tree.specs.Files.{files}
use Rattle.cramfs_format.specs.Tree.{precedes}
use Rattle.cramfs_format.proofs.Orders.{precedes_on, one_first}
use Rattle.manifest_layout.proofs.Orders.{same_order}

-- each name precedes those after it in its list
abbrev pub Before : List ℕ → Names → Type 0
Before name n = (m : List ℕ) → StandsIn m n → precedes name m ≡ true

abbrev pub AreSorted : Names → Type 0
AreSorted nothing = Unit {0}
AreSorted (leaf name i after) = Before name after × AreSorted after
AreSorted (link name i after) = Before name after × AreSorted after
AreSorted (subdirectory name i own after) = Before name after × AreSorted own × AreSorted after

-- something holds of each name with what it names
abbrev pub HoldAll : (List ℕ → What → Type 0) → Names → Type 0
HoldAll P nothing = Unit {0}
HoldAll P (leaf name i after) = P name (a_leaf i) × HoldAll P after
HoldAll P (link name i after) = P name (a_link i) × HoldAll P after
HoldAll P (subdirectory name i own after) = P name (a_directory i) × HoldAll P own × HoldAll P after

-- what a list has of files more
abbrev pub MoreFiles : What → List Inode → List Inode → Type 0
MoreFiles (a_leaf i) old new = (xs ys : List Inode) × (old ≡ xs ++ ys) × (new ≡ xs ++ i ∷ ys)
MoreFiles (a_link i) old new = old ≡ new
MoreFiles (a_directory i) old new = (xs ys : List Inode) × (old ≡ xs ++ ys) × (new ≡ xs ++ i ∷ ys)

-- behind others, and before others
more_behind : (w : What) (front old new : List Inode) → MoreFiles w old new → MoreFiles w (front ++ old) (front ++ new)
more_behind (a_leaf i) front old new (xs, ys, e, f) = (
  front ++ xs,
  ys,
  ap (λ (zs : List Inode). front ++ zs) e ∙ sym (append_assoc front xs ys),
  ap (λ (zs : List Inode). front ++ zs) f ∙ sym (append_assoc front xs (i ∷ ys)),
)
more_behind (a_link i) front old new e = ap (λ (zs : List Inode). front ++ zs) e
more_behind (a_directory i) front old new (xs, ys, e, f) = (
  front ++ xs,
  ys,
  ap (λ (zs : List Inode). front ++ zs) e ∙ sym (append_assoc front xs ys),
  ap (λ (zs : List Inode). front ++ zs) f ∙ sym (append_assoc front xs (i ∷ ys)),
)

more_before : (w : What) (back old new : List Inode) → MoreFiles w old new → MoreFiles w (old ++ back) (new ++ back)
more_before (a_leaf i) back old new (xs, ys, e, f) = (
  xs,
  ys ++ back,
  ap (λ (zs : List Inode). zs ++ back) e ∙ append_assoc xs ys back,
  ap (λ (zs : List Inode). zs ++ back) f ∙ append_assoc xs (i ∷ ys) back,
)
more_before (a_link i) back old new e = ap (λ (zs : List Inode). zs ++ back) e
more_before (a_directory i) back old new (xs, ys, e, f) = (
  xs,
  ys ++ back,
  ap (λ (zs : List Inode). zs ++ back) e ∙ append_assoc xs ys back,
  ap (λ (zs : List Inode). zs ++ back) f ∙ append_assoc xs (i ∷ ys) back,
)

named_files : (w : What) (name : List ℕ) (n : Names) → MoreFiles w (files n) (files (named w name n))
named_files (a_leaf i) name n = ([], files n, refl, refl)
named_files (a_link i) name n = refl
named_files (a_directory i) name n = ([], files n, refl, refl)

put_files : (w : What) (name : List ℕ) (n : Names) → MoreFiles w (files n) (files (put w name n))
put_files w name nothing = named_files w name nothing
put_files w name (leaf m i after) = elim (is_before name m) as
    (λ t. MoreFiles w (i ∷ files after) (files (cond t (named w name (leaf m i after)) (leaf m i (put w name after))))) [
      | true ↦ named_files w name (leaf m i after)
      | false ↦ more_behind w (i ∷ []) (files after) (files (put w name after)) (put_files w name after)
    ]
put_files w name (link m i after) = elim (is_before name m) as
    (λ t. MoreFiles w (files after) (files (cond t (named w name (link m i after)) (link m i (put w name after))))) [
      | true ↦ named_files w name (link m i after)
      | false ↦ put_files w name after
    ]
put_files w name (subdirectory m i own after) =
    elim (is_before name m) as (λ t. MoreFiles w (i ∷ files own ++ files after)
    (files (cond t (named w name (subdirectory m i own after)) (subdirectory m i own (put w name after))))) [
      | true ↦ named_files w name (subdirectory m i own after)
      | false ↦ more_behind w (i ∷ files own) (files after) (files (put w name after)) (put_files w name after)
    ]

-- a path more, in a directory that is there
pub put_at_files : (w : What) (m : List ℕ) (ms : List (List ℕ)) (n : Names) → is_parent (but_last (m ∷ ms)) n ≡ true
    → MoreFiles w (files n) (files (put_at w (m ∷ ms) n))
put_at_files w m [] n p = put_files w m n
put_at_files w m (x ∷ xs) nothing p = absurd (cc)
put_at_files w m (x ∷ xs) (leaf name i after) p =
    let s = past_file name m (but_last (x ∷ xs)) i (found (m ∷ but_last (x ∷ xs)) after) p in
    more_behind w (i ∷ []) (files after) (files (put_at w (m ∷ x ∷ xs) after)) (put_at_files w m (x ∷ xs) after s.1)
put_at_files w m (x ∷ xs) (link name i after) p =
    let s = past_file name m (but_last (x ∷ xs)) i (found (m ∷ but_last (x ∷ xs)) after) p in
    put_at_files w m (x ∷ xs) after s.1
put_at_files w m (x ∷ xs) (subdirectory name i own after) p =
    elim (bytes_eq name m) as (λ t. is_a_directory
    (cond t (last_or (but_last (x ∷ xs)) (a_file true i) (found (but_last (x ∷ xs)) own))
    (found (m ∷ but_last (x ∷ xs)) after)) ≡ true
    → MoreFiles w (i ∷ files own ++ files after)
    (files (cond t (subdirectory name i (put_at w (x ∷ xs) own) after)
    (subdirectory name i own (put_at w (m ∷ x ∷ xs) after))))) [
      | true ↦ λ q. more_behind w (i ∷ []) (files own ++ files after) (files (put_at w (x ∷ xs) own) ++ files after)
          (more_before w (files after) (files own) (files (put_at w (x ∷ xs) own))
          (put_at_files w x xs own (own_parent (but_last (x ∷ xs)) i own q)))
      | false ↦ λ q. more_behind w (i ∷ files own) (files after) (files (put_at w (m ∷ x ∷ xs) after))
          (put_at_files w m (x ∷ xs) after q)
    ] p

-- the last of some names
abbrev pub last_of : List ℕ → List (List ℕ) → List ℕ
last_of m [] = m
last_of m (x ∷ xs) = last_of x xs

module _ (P : List ℕ → What → Type 0) where
  named_hold : (w : What) (name : List ℕ) (n : Names) → P name w → HoldAll P n → HoldAll P (named w name n)
  named_hold (a_leaf i) name n p h = (p, h)
  named_hold (a_link i) name n p h = (p, h)
  named_hold (a_directory i) name n p h = (p, tt, h)

  put_hold : (w : What) (name : List ℕ) (n : Names) → P name w → HoldAll P n → HoldAll P (put w name n)
  put_hold w name nothing p h = named_hold w name nothing p h
  put_hold w name (leaf m i after) p h =
      elim (is_before name m) as (λ t. HoldAll P (cond t (named w name (leaf m i after)) (leaf m i (put w name after)))) [
        | true ↦ named_hold w name (leaf m i after) p h
        | false ↦ (h.0, put_hold w name after p h.1)
      ]
  put_hold w name (link m i after) p h =
      elim (is_before name m) as (λ t. HoldAll P (cond t (named w name (link m i after)) (link m i (put w name after)))) [
        | true ↦ named_hold w name (link m i after) p h
        | false ↦ (h.0, put_hold w name after p h.1)
      ]
  put_hold w name (subdirectory m i own after) p h =
      elim (is_before name m) as (λ t. HoldAll P
      (cond t (named w name (subdirectory m i own after)) (subdirectory m i own (put w name after)))) [
        | true ↦ named_hold w name (subdirectory m i own after) p h
        | false ↦ (h.0, h.1, put_hold w name after p h.2)
      ]

  pub put_at_hold : (w : What) (m : List ℕ) (ms : List (List ℕ)) (n : Names) → P (last_of m ms) w → HoldAll P n
      → HoldAll P (put_at w (m ∷ ms) n)
  put_at_hold w m [] n p h = put_hold w m n p h
  put_at_hold w m (x ∷ xs) nothing p h = tt
  put_at_hold w m (x ∷ xs) (leaf name i after) p h = (h.0, put_at_hold w m (x ∷ xs) after p h.1)
  put_at_hold w m (x ∷ xs) (link name i after) p h = (h.0, put_at_hold w m (x ∷ xs) after p h.1)
  put_at_hold w m (x ∷ xs) (subdirectory name i own after) p h =
      elim (bytes_eq name m) as (λ t. HoldAll P
      (cond t (subdirectory name i (put_at w (x ∷ xs) own) after)
      (subdirectory name i own (put_at w (m ∷ x ∷ xs) after)))) [
        | true ↦ (h.0, put_at_hold w x xs own p h.1, h.2)
        | false ↦ (h.0, h.1, put_at_hold w m (x ∷ xs) after p h.2)
      ]

-- the names in a list with one more
named_stands : (w : What) (name x : List ℕ) (n : Names) → StandsIn x (named w name n) → (x ≡ name) ⊎ StandsIn x n
named_stands (a_leaf i) name x n s = s
named_stands (a_link i) name x n s = s
named_stands (a_directory i) name x n s = s

put_stands : (w : What) (name x : List ℕ) (n : Names) → StandsIn x (put w name n) → (x ≡ name) ⊎ StandsIn x n
put_stands w name x nothing s = named_stands w name x nothing s
put_stands w name x (leaf m i after) s =
    elim (is_before name m) as (λ t. StandsIn x (cond t (named w name (leaf m i after)) (leaf m i (put w name after)))
    → (x ≡ name) ⊎ ((x ≡ m) ⊎ StandsIn x after)) [
      | true ↦ λ k. named_stands w name x (leaf m i after) k
      | false ↦ λ k. elim k [
        | inl e ↦ inr (inl e)
        | inr e ↦ elim (put_stands w name x after e)
            [ inl a ↦ inl a | inr a ↦ inr (inr a) ]
      ]
    ] s
put_stands w name x (link m i after) s =
    elim (is_before name m) as (λ t. StandsIn x (cond t (named w name (link m i after)) (link m i (put w name after)))
    → (x ≡ name) ⊎ ((x ≡ m) ⊎ StandsIn x after)) [
      | true ↦ λ k. named_stands w name x (link m i after) k
      | false ↦ λ k. elim k [
        | inl e ↦ inr (inl e)
        | inr e ↦ elim (put_stands w name x after e)
            [ inl a ↦ inl a | inr a ↦ inr (inr a) ]
      ]
    ] s
put_stands w name x (subdirectory m i own after) s =
    elim (is_before name m) as (λ t. StandsIn x
    (cond t (named w name (subdirectory m i own after)) (subdirectory m i own (put w name after)))
    → (x ≡ name) ⊎ ((x ≡ m) ⊎ StandsIn x after)) [
      | true ↦ λ k. named_stands w name x (subdirectory m i own after) k
      | false ↦ λ k. elim k [
        | inl e ↦ inr (inl e)
        | inr e ↦ elim (put_stands w name x after e)
            [ inl a ↦ inl a | inr a ↦ inr (inr a) ]
      ]
    ] s

-- a path of several names changes only the last list on the way
deep_stands : (w : What) (m x : List ℕ) (xs : List (List ℕ)) (y : List ℕ) (n : Names)
    → StandsIn y (put_at w (m ∷ x ∷ xs) n) → StandsIn y n
deep_stands w m x xs y nothing s = s
deep_stands w m x xs y (leaf name i after) (inl e) = inl e
deep_stands w m x xs y (leaf name i after) (inr s) = inr (deep_stands w m x xs y after s)
deep_stands w m x xs y (link name i after) (inl e) = inl e
deep_stands w m x xs y (link name i after) (inr s) = inr (deep_stands w m x xs y after s)
deep_stands w m x xs y (subdirectory name i own after) s =
    elim (bytes_eq name m) as (λ t. StandsIn y
    (cond t (subdirectory name i (put_at w (x ∷ xs) own) after) (subdirectory name i own (put_at w (m ∷ x ∷ xs) after)))
    → (y ≡ name) ⊎ StandsIn y after) [
      | true ↦ λ k. k
      | false ↦ λ k. elim k [ inl e ↦ inl e | inr e ↦ inr (deep_stands w m x xs y after e) ]
    ] s

named_sorted : (w : What) (name : List ℕ) (n : Names) → Before name n → AreSorted n → AreSorted (named w name n)
named_sorted (a_leaf i) name n b h = (b, h)
named_sorted (a_link i) name n b h = (b, h)
named_sorted (a_directory i) name n b h = (b, tt, h)

-- before the first name of a sorted list, so before all
all_before : (name m : List ℕ) (after : Names) → is_before name m ≡ true → Before m after → (x : List ℕ)
    → (x ≡ m) ⊎ StandsIn x after → precedes name x ≡ true
all_before name m after e b x (inl s) = subst (λ y. precedes name y ≡ true) (sym s) (sym (same_order name m) ∙ e)
all_before name m after e b x (inr s) = precedes_on name m x (sym (same_order name m) ∙ e) (b x s)

-- not before the first name, nor the same, so behind it
before_more : (w : What) (name m : List ℕ) (after : Names) → is_before name m ≡ false → bytes_eq m name ≡ false
    → Before m after → Before m (put w name after)
before_more w name m after e n b x s = elim (put_stands w name x after s) [
  | inl k ↦ subst (λ y. precedes m y ≡ true) (sym k)
      (elim (one_first m name (λ z. other (bytes_eq m name) ((bytes_decides m name).1 z) n))
      [ inl p ↦ p | inr p ↦ absurd (other (precedes name m) p (sym (same_order name m) ∙ e)) ])
  | inr k ↦ b x k
] where
  other : (t : Bool) → t ≡ true → t ≡ false → ⊥
  other t g h = cc

put_sorted : (w : What) (name : List ℕ) (n : Names) → found (name ∷ []) n ≡ None → AreSorted n
    → AreSorted (put w name n)
put_sorted w name nothing f h = named_sorted w name nothing (λ m s. absurd s) tt
put_sorted w name (leaf m i after) f h =
    let s = not_here (bytes_eq m name) _ (found (name ∷ []) after) f in
    elim (is_before name m) as (λ t. is_before name m ≡ t
    → AreSorted (cond t (named w name (leaf m i after)) (leaf m i (put w name after)))) [
      | true ↦ λ e. named_sorted w name (leaf m i after) (all_before name m after e h.0) h
      | false ↦ λ e. (before_more w name m after e s.0 h.0, put_sorted w name after s.1 h.1)
    ] refl
put_sorted w name (link m i after) f h =
    let s = not_here (bytes_eq m name) _ (found (name ∷ []) after) f in
    elim (is_before name m) as (λ t. is_before name m ≡ t
    → AreSorted (cond t (named w name (link m i after)) (link m i (put w name after)))) [
      | true ↦ λ e. named_sorted w name (link m i after) (all_before name m after e h.0) h
      | false ↦ λ e. (before_more w name m after e s.0 h.0, put_sorted w name after s.1 h.1)
    ] refl
put_sorted w name (subdirectory m i own after) f h =
    let s = not_here (bytes_eq m name) _ (found (name ∷ []) after) f in
    elim (is_before name m) as (λ t. is_before name m ≡ t
    → AreSorted (cond t (named w name (subdirectory m i own after)) (subdirectory m i own (put w name after)))) [
      | true ↦ λ e. named_sorted w name (subdirectory m i own after) (all_before name m after e h.0) h
      | false ↦ λ e. (before_more w name m after e s.0 h.0, h.1, put_sorted w name after s.1 h.2)
    ] refl

pub put_at_sorted : (w : What) (m : List ℕ) (ms : List (List ℕ)) (n : Names) → is_parent (but_last (m ∷ ms)) n ≡ true
    → found (m ∷ ms) n ≡ None → AreSorted n → AreSorted (put_at w (m ∷ ms) n)
put_at_sorted w m [] n p f h = put_sorted w m n f h
put_at_sorted w m (x ∷ xs) nothing p f h = tt
put_at_sorted w m (x ∷ xs) (leaf name i after) p f h =
    let s = past_file name m (but_last (x ∷ xs)) i (found (m ∷ but_last (x ∷ xs)) after) p in
    ((λ y k. h.0 y (deep_stands w m x xs y after k)), put_at_sorted w m (x ∷ xs) after s.1 (rw s.0 at f) h.1)
put_at_sorted w m (x ∷ xs) (link name i after) p f h =
    let s = past_file name m (but_last (x ∷ xs)) i (found (m ∷ but_last (x ∷ xs)) after) p in
    ((λ y k. h.0 y (deep_stands w m x xs y after k)), put_at_sorted w m (x ∷ xs) after s.1 (rw s.0 at f) h.1)
put_at_sorted w m (x ∷ xs) (subdirectory name i own after) p f h =
    elim (bytes_eq name m) as (λ t. is_a_directory
    (cond t (last_or (but_last (x ∷ xs)) (a_file true i) (found (but_last (x ∷ xs)) own))
    (found (m ∷ but_last (x ∷ xs)) after)) ≡ true
    → cond t (found (x ∷ xs) own) (found (m ∷ x ∷ xs) after) ≡ None
    → AreSorted (cond t (subdirectory name i (put_at w (x ∷ xs) own) after)
    (subdirectory name i own (put_at w (m ∷ x ∷ xs) after)))) [
      | true ↦ λ q g. (h.0, put_at_sorted w x xs own (own_parent (but_last (x ∷ xs)) i own q) g h.1, h.2)
      | false ↦ λ q g. ((λ y k. h.0 y (deep_stands w m x xs y after k)), h.1, put_at_sorted w m (x ∷ xs) after q g h.2)
    ] p f

-- What a list of names leads to, with whether that is a directory, and what a path more does to it.
use Rattle.std.proofs.Common.{◌≡◌, ℕ, Bool, true, false, ◌&&◌, cond, if◌then◌else◌, List, [], ◌∷◌, Option, None, Some}
use Rattle.std.proofs.Common.{refl, sym, subst, ◌∙◌}
use Rattle.std.specs.Cmp.Lexicographic.{bytes_decides, nat_list_eq_equiv}
use Rattle.std.specs.Option.{option_map, option_and_then}
use Rattle.std.specs.Str.{bytes_eq}
use Rattle.manifest.specs.Paths.{but_last}
use Rattle.manifest_tree.specs.Names.{Inode, Names, nothing, leaf, link, subdirectory}
use Rattle.manifest_tree.specs.Shape.{find_name, file_under}
use Rattle.manifest_tree.specs.Tree.{What, a_leaf, a_link, a_directory, named, put, put_at, is_before, names_eq}

pub record Found : Type 0 where
  pub is_directory : Bool
  pub inode : Inode

-- at the last name, or below it
abbrev pub last_or : {X : Type 0} → List (List ℕ) → X → X → X
last_or [] here below = here
last_or (m ∷ ms) here below = below

abbrev pub a_file : Bool → Inode → Option Found
a_file b i = Some (record { is_directory = b; inode = i })

abbrev pub found : List (List ℕ) → Names → Option Found
found [] n = None
found (m ∷ ms) nothing = None
found (m ∷ ms) (leaf name i after) = if bytes_eq name m then last_or ms (a_file false i) None else found (m ∷ ms) after
found (m ∷ ms) (link name i after) = if bytes_eq name m then last_or ms (a_file false i) None else found (m ∷ ms) after
found (m ∷ ms) (subdirectory name i own after) =
    if bytes_eq name m then last_or ms (a_file true i) (found ms own) else found (m ∷ ms) after

pub file_of : (r : Inode) (m : List ℕ) (ms : List (List ℕ)) (n : Names)
    → file_under (m ∷ ms) (record { inode = r; own = n }) ≡ option_map (λ f. f.inode) (found (m ∷ ms) n)
file_of r m ms nothing = refl
file_of r m ms (leaf name i after) =
    elim (bytes_eq name m) as (λ t. option_and_then (λ y. file_under ms y)
    (cond t (Some (record { inode = i; own = nothing })) (find_name after m))
    ≡ option_map (λ f. f.inode) (cond t (last_or ms (a_file false i) None) (found (m ∷ ms) after))) [
      | true ↦ alone ms
      | false ↦ file_of r m ms after
    ]
  where
    alone : (ks : List (List ℕ)) → file_under ks (record { inode = i; own = nothing })
        ≡ option_map (λ f. f.inode) (last_or ks (a_file false i) None)
    alone [] = refl
    alone (k ∷ ks) = refl
file_of r m ms (link name i after) =
    elim (bytes_eq name m) as (λ t. option_and_then (λ y. file_under ms y)
    (cond t (Some (record { inode = i; own = nothing })) (find_name after m))
    ≡ option_map (λ f. f.inode) (cond t (last_or ms (a_file false i) None) (found (m ∷ ms) after))) [
      | true ↦ alone ms
      | false ↦ file_of r m ms after
    ]
  where
    alone : (ks : List (List ℕ)) → file_under ks (record { inode = i; own = nothing })
        ≡ option_map (λ f. f.inode) (last_or ks (a_file false i) None)
    alone [] = refl
    alone (k ∷ ks) = refl
file_of r m [] (subdirectory name i own after) =
    elim (bytes_eq name m) as (λ t. option_and_then (λ y. file_under [] y)
    (cond t (Some (record { inode = i; own = own })) (find_name after m))
    ≡ option_map (λ f. f.inode) (cond t (a_file true i) (found (m ∷ []) after))) [
      | true ↦ refl
      | false ↦ file_of r m [] after
    ]
file_of r m (k ∷ ks) (subdirectory name i own after) =
    elim (bytes_eq name m) as (λ t. option_and_then (λ y. file_under (k ∷ ks) y)
    (cond t (Some (record { inode = i; own = own })) (find_name after m))
    ≡ option_map (λ f. f.inode) (cond t (found (k ∷ ks) own) (found (m ∷ k ∷ ks) after))) [
      | true ↦ file_of i k ks own
      | false ↦ file_of r m (k ∷ ks) after
    ]

-- what a name that is put leads to
abbrev pub found_as : What → Option Found
found_as (a_leaf i) = a_file false i
found_as (a_link i) = a_file false i
found_as (a_directory i) = a_file true i

-- a name that another is not differs from what is the same as that
other_name : (name m k : List ℕ) → bytes_eq name m ≡ false → bytes_eq name k ≡ true → bytes_eq m k ≡ false
other_name name m k n y = nat_list_eq_equiv.symm m k ∙ sym (nat_list_eq_equiv.congr name k m y) ∙ n

-- past a name that is not the one put
past : {X : Type 0} (name m k : List ℕ) (c : Bool) (new here before after : X) → bytes_eq name m ≡ false
    → after ≡ cond (bytes_eq m k && c) new before
    → cond (bytes_eq name k) here after ≡ cond (bytes_eq m k && c) new (cond (bytes_eq name k) here before)
past name m k c new here before after n h =
    elim (bytes_eq name k) as (λ t. bytes_eq name k ≡ t
    → cond t here after ≡ cond (bytes_eq m k && c) new (cond t here before)) [
      | true ↦ λ e. rw (other_name name m k n e) refl
      | false ↦ λ e. h
    ] refl

nothing_below : (ks : List (List ℕ)) → found ks nothing ≡ None
nothing_below [] = refl
nothing_below (k ∷ ks) = refl

pub not_here : {X : Type 0} (b : Bool) (x : X) (o : Option X) → cond b (Some x) o ≡ None → (b ≡ false) × (o ≡ None)
not_here true x o h = absurd (cc)
not_here false x o h = (refl, h)

-- if no name is m, nothing lies below it
none_below : (m : List ℕ) (ms : List (List ℕ)) (n : Names) → found (m ∷ []) n ≡ None → found (m ∷ ms) n ≡ None
none_below m ms nothing h = refl
none_below m ms (leaf name i after) h =
    let s = not_here (bytes_eq name m) _ (found (m ∷ []) after) h in rw s.0 (none_below m ms after s.1)
none_below m ms (link name i after) h =
    let s = not_here (bytes_eq name m) _ (found (m ∷ []) after) h in rw s.0 (none_below m ms after s.1)
none_below m ms (subdirectory name i own after) h =
    let s = not_here (bytes_eq name m) _ (found (m ∷ []) after) h in rw s.0 (none_below m ms after s.1)

-- at the name that is put
here : (w : What) (m : List ℕ) (n : Names) (k : List ℕ) (ks : List (List ℕ)) → found (m ∷ []) n ≡ None
    → found (k ∷ ks) (named w m n) ≡ cond (bytes_eq m k && names_eq [] ks) (found_as w) (found (k ∷ ks) n)
here w m n k ks h = by w ks
  where
    same : (xs : List (List ℕ)) → bytes_eq m k ≡ true → found (k ∷ xs) n ≡ None
    same xs e = subst (λ x. found (x ∷ xs) n ≡ None) ((bytes_decides m k).0 e) (none_below m xs n h)

    by_test : (f : Option Found) (x : List ℕ) (xs : List (List ℕ)) (b : Bool) → bytes_eq m k ≡ b
        → cond b None (found (k ∷ x ∷ xs) n) ≡ cond (b && false) f (found (k ∷ x ∷ xs) n)
    by_test f x xs true e = sym (same (x ∷ xs) e)
    by_test f x xs false e = refl

    alone : (b : Bool) (f o : Option Found) → cond b f o ≡ cond (b && true) f o
    alone true f o = refl
    alone false f o = refl

    by : (w : What) (ks : List (List ℕ))
        → found (k ∷ ks) (named w m n) ≡ cond (bytes_eq m k && names_eq [] ks) (found_as w) (found (k ∷ ks) n)
    by (a_leaf i) [] = alone (bytes_eq m k) (a_file false i) (found (k ∷ []) n)
    by (a_leaf i) (x ∷ xs) = by_test (a_file false i) x xs (bytes_eq m k) refl
    by (a_link i) [] = alone (bytes_eq m k) (a_file false i) (found (k ∷ []) n)
    by (a_link i) (x ∷ xs) = by_test (a_file false i) x xs (bytes_eq m k) refl
    by (a_directory i) [] = alone (bytes_eq m k) (a_file true i) (found (k ∷ []) n)
    by (a_directory i) (x ∷ xs) = by_test (a_file true i) x xs (bytes_eq m k) refl

-- a name more in a list
put_found : (w : What) (m : List ℕ) (n : Names) (k : List ℕ) (ks : List (List ℕ)) → found (m ∷ []) n ≡ None
    → found (k ∷ ks) (put w m n) ≡ cond (bytes_eq m k && names_eq [] ks) (found_as w) (found (k ∷ ks) n)
put_found w m nothing k ks h = here w m nothing k ks h
put_found w m (leaf name i after) k ks h =
    elim (is_before m name) as (λ t. found (k ∷ ks)
    (cond t (named w m (leaf name i after)) (leaf name i (put w m after)))
    ≡ cond (bytes_eq m k && names_eq [] ks) (found_as w) (found (k ∷ ks) (leaf name i after))) [
      | true ↦ here w m (leaf name i after) k ks h
      | false ↦ let s = not_here (bytes_eq name m) _ (found (m ∷ []) after) h in
          past name m k (names_eq [] ks) (found_as w) (last_or ks (a_file false i) None) (found (k ∷ ks) after)
          (found (k ∷ ks) (put w m after)) s.0 (put_found w m after k ks s.1)
    ]
put_found w m (link name i after) k ks h =
    elim (is_before m name) as (λ t. found (k ∷ ks)
    (cond t (named w m (link name i after)) (link name i (put w m after)))
    ≡ cond (bytes_eq m k && names_eq [] ks) (found_as w) (found (k ∷ ks) (link name i after))) [
      | true ↦ here w m (link name i after) k ks h
      | false ↦ let s = not_here (bytes_eq name m) _ (found (m ∷ []) after) h in
          past name m k (names_eq [] ks) (found_as w) (last_or ks (a_file false i) None) (found (k ∷ ks) after)
          (found (k ∷ ks) (put w m after)) s.0 (put_found w m after k ks s.1)
    ]
put_found w m (subdirectory name i own after) k ks h =
    elim (is_before m name) as (λ t. found (k ∷ ks)
    (cond t (named w m (subdirectory name i own after)) (subdirectory name i own (put w m after)))
    ≡ cond (bytes_eq m k && names_eq [] ks) (found_as w) (found (k ∷ ks) (subdirectory name i own after))) [
      | true ↦ here w m (subdirectory name i own after) k ks h
      | false ↦ let s = not_here (bytes_eq name m) _ (found (m ∷ []) after) h in
          past name m k (names_eq [] ks) (found_as w) (last_or ks (a_file true i) (found ks own)) (found (k ∷ ks) after)
          (found (k ∷ ks) (put w m after)) s.0 (put_found w m after k ks s.1)
    ]

abbrev pub is_a_directory : Option Found → Bool
is_a_directory None = false
is_a_directory (Some f) = f.is_directory

-- the root, or a directory of the names
abbrev pub is_parent : List (List ℕ) → Names → Bool
is_parent [] n = true
is_parent (p ∷ ps) n = is_a_directory (found (p ∷ ps) n)

-- past a file that is no directory
pub past_file : (name m : List ℕ) (ps : List (List ℕ)) (i : Inode) (o : Option Found)
    → is_a_directory (cond (bytes_eq name m) (last_or ps (a_file false i) None) o) ≡ true
    → (bytes_eq name m ≡ false) × (is_a_directory o ≡ true)
past_file name m ps i o h = by (bytes_eq name m) ps h
  where
    by : (b : Bool) (ps : List (List ℕ)) → is_a_directory (cond b (last_or ps (a_file false i) None) o) ≡ true
        → (b ≡ false) × (is_a_directory o ≡ true)
    by true [] h = absurd (cc)
    by true (p ∷ ps) h = absurd (cc)
    by false ps h = (refl, h)

pub own_parent : (ps : List (List ℕ)) (i : Inode) (own : Names)
    → is_a_directory (last_or ps (a_file true i) (found ps own)) ≡ true → is_parent ps own ≡ true
own_parent [] i own h = refl
own_parent (p ∷ ps) i own h = h

-- into the directory of this name
into : (w : What) (name m : List ℕ) (i : Inode) (x : List ℕ) (xs : List (List ℕ)) (own after : Names) (k : List ℕ)
    (ks : List (List ℕ)) → bytes_eq name m ≡ true
    → ((y : List ℕ) (ys : List (List ℕ))
    → found (y ∷ ys) (put_at w (x ∷ xs) own)
    ≡ cond (bytes_eq x y && names_eq xs ys) (found_as w) (found (y ∷ ys) own))
    → cond (bytes_eq name k) (last_or ks (a_file true i) (found ks (put_at w (x ∷ xs) own))) (found (k ∷ ks) after)
    ≡ cond (bytes_eq m k && names_eq (x ∷ xs) ks) (found_as w)
    (cond (bytes_eq name k) (last_or ks (a_file true i) (found ks own)) (found (k ∷ ks) after))
into w name m i x xs own after k [] e h =
    subst (λ (z : List ℕ). cond (bytes_eq name k) (a_file true i) (found (k ∷ []) after)
    ≡ cond (bytes_eq z k && false) (found_as w) (cond (bytes_eq name k) (a_file true i) (found (k ∷ []) after)))
    ((bytes_decides name m).0 e) (by (bytes_eq name k))
  where
    by : (b : Bool) → cond b (a_file true i) (found (k ∷ []) after)
        ≡ cond (b && false) (found_as w) (cond b (a_file true i) (found (k ∷ []) after))
    by true = refl
    by false = refl
into w name m i x xs own after k (y ∷ ys) e h =
    subst (λ (z : List ℕ). cond (bytes_eq name k) (found (y ∷ ys) (put_at w (x ∷ xs) own)) (found (k ∷ y ∷ ys) after)
    ≡ cond (bytes_eq z k && names_eq (x ∷ xs) (y ∷ ys)) (found_as w)
    (cond (bytes_eq name k) (found (y ∷ ys) own) (found (k ∷ y ∷ ys) after)))
    ((bytes_decides name m).0 e) (by (bytes_eq name k))
  where
    by : (b : Bool) → cond b (found (y ∷ ys) (put_at w (x ∷ xs) own)) (found (k ∷ y ∷ ys) after)
        ≡ cond (b && names_eq (x ∷ xs) (y ∷ ys)) (found_as w) (cond b (found (y ∷ ys) own) (found (k ∷ y ∷ ys) after))
    by true = h y ys
    by false = refl

-- a path more, in a directory that is there
pub put_at_found : (w : What) (m : List ℕ) (ms : List (List ℕ)) (n : Names) (k : List ℕ) (ks : List (List ℕ))
    → is_parent (but_last (m ∷ ms)) n ≡ true → found (m ∷ ms) n ≡ None
    → found (k ∷ ks) (put_at w (m ∷ ms) n) ≡ cond (bytes_eq m k && names_eq ms ks) (found_as w) (found (k ∷ ks) n)
put_at_found w m [] n k ks p h = put_found w m n k ks h
put_at_found w m (x ∷ xs) nothing k ks p h = absurd (cc)
put_at_found w m (x ∷ xs) (leaf name i after) k ks p h =
    let s = past_file name m (but_last (x ∷ xs)) i (found (m ∷ but_last (x ∷ xs)) after) p in
    past name m k (names_eq (x ∷ xs) ks) (found_as w) (last_or ks (a_file false i) None) (found (k ∷ ks) after)
    (found (k ∷ ks) (put_at w (m ∷ x ∷ xs) after)) s.0
    (put_at_found w m (x ∷ xs) after k ks s.1 (rw s.0 at h))
put_at_found w m (x ∷ xs) (link name i after) k ks p h =
    let s = past_file name m (but_last (x ∷ xs)) i (found (m ∷ but_last (x ∷ xs)) after) p in
    past name m k (names_eq (x ∷ xs) ks) (found_as w) (last_or ks (a_file false i) None) (found (k ∷ ks) after)
    (found (k ∷ ks) (put_at w (m ∷ x ∷ xs) after)) s.0
    (put_at_found w m (x ∷ xs) after k ks s.1 (rw s.0 at h))
put_at_found w m (x ∷ xs) (subdirectory name i own after) k ks p h =
    elim (bytes_eq name m) as (λ t. bytes_eq name m ≡ t
    → is_a_directory (cond t (last_or (but_last (x ∷ xs)) (a_file true i) (found (but_last (x ∷ xs)) own))
    (found (m ∷ but_last (x ∷ xs)) after)) ≡ true
    → cond t (found (x ∷ xs) own) (found (m ∷ x ∷ xs) after) ≡ None
    → found (k ∷ ks) (cond t (subdirectory name i (put_at w (x ∷ xs) own) after)
    (subdirectory name i own (put_at w (m ∷ x ∷ xs) after)))
    ≡ cond (bytes_eq m k && names_eq (x ∷ xs) ks) (found_as w) (found (k ∷ ks) (subdirectory name i own after))) [
      | true ↦ λ e q g. into w name m i x xs own after k ks e
          (λ y ys. put_at_found w x xs own y ys (own_parent (but_last (x ∷ xs)) i own q) g)
      | false ↦ λ e q g. past name m k (names_eq (x ∷ xs) ks) (found_as w) (last_or ks (a_file true i) (found ks own))
          (found (k ∷ ks) after) (found (k ∷ ks) (put_at w (m ∷ x ∷ xs) after)) e
          (put_at_found w m (x ∷ xs) after k ks q g)
    ] refl p h

-- What was found, and what is below the directories that are still to be listed, make all that is below the first
-- one.
use Rattle.std.proofs.Common.{◌≡◌, inl, inr, ℕ, Bool, true, false, List, [], ◌∷◌, ◌++◌, Option, Some, None, refl, sym}
use Rattle.std.proofs.Common.{◌∙◌, ap, subst, append_assoc}
use Rattle.std.specs.Prelude.{⊤, if◌then◌else◌}
use Rattle.std.specs.List.Sorted.{IsPermutation}
use Rattle.std.proofs.lemmas.List.{append-nil}
use Rattle.std.proofs.lemmas.List.Sorted.{IsPermutation-refl, IsPermutation-sym, IsPermutation-trans}
use Rattle.std.proofs.lemmas.List.Sorted.{IsPermutation-cons, IsPermutation-append_comm, IsPermutation-append_left}
use Rattle.std.proofs.lemmas.List.Sorted.{IsPermutation-append_right}
use Rattle.directory_walk.specs.Trees.{Tree, Nil, Leaf, Branch, Name, name, join, all_below, level, IsChild, IsIn}
use Rattle.directory_walk.specs.Trees.{itself, inside, Top, IsDirectoryOf, IsReached, IsTop, AreAllBelow, entered}

-- ---- moved parts of lists

swap_front : {X : Type 0} (xs ys zs : List X) → IsPermutation (xs ++ (ys ++ zs)) (ys ++ (xs ++ zs))
swap_front {X} xs ys zs =
    subst (λ (l : List X). IsPermutation l (ys ++ (xs ++ zs))) (append_assoc xs ys zs)
    (subst (λ (l : List X). IsPermutation ((xs ++ ys) ++ zs) l) (append_assoc ys xs zs)
    (IsPermutation-append_left zs (xs ++ ys) (ys ++ xs) (IsPermutation-append_comm xs ys)))

-- ---- a directory, and what is in it

abbrev deeper : {T : Type 0} → List ℕ → Tree T → List (Name T)
deeper p Nil = []
deeper p (Leaf n known more) = deeper p more
deeper p (Branch n known inner more) = all_below (join p n) inner ++ deeper p more

split_all : {T : Type 0} (p : List ℕ) (g : Tree T) → IsPermutation (level p g ++ deeper p g) (all_below p g)
split_all p Nil = IsPermutation-refl []
split_all p (Leaf n known more) = IsPermutation-cons (name (join p n) known false) (level p more ++ deeper p more)
    (all_below p more) (split_all p more)
split_all p (Branch n known inner more) =
    let below = all_below (join p n) inner in
    IsPermutation-cons (name (join p n) known true) (level p more ++ (below ++ deeper p more))
    (below ++ all_below p more)
    (IsPermutation-trans (level p more ++ (below ++ deeper p more)) (below ++ (level p more ++ deeper p more))
    (below ++ all_below p more)
    (swap_front (level p more) below (deeper p more))
    (IsPermutation-append_right below (level p more ++ deeper p more) (all_below p more) (split_all p more)))

-- ---- what is below the directories of these paths

abbrev Pending : {T : Type 0} → Top T → List (List ℕ) → List (Name T) → Type 0
Pending t [] ns = ns ≡ []
Pending {T} t (p ∷ ws) ns = (g : Tree T) × (more : List (Name T)) × IsIn t.path t.tree p g × Pending t ws more ×
    (ns ≡ all_below p g ++ more)

pending_join : {T : Type 0} (t : Top T) (xs ys : List (List ℕ)) (a b : List (Name T)) → Pending t xs a
    → Pending t ys b → Pending t (xs ++ ys) (a ++ b)
pending_join {T} t [] ys a b h k = subst (λ (l : List (Name T)). Pending t ys (l ++ b)) (sym h) k
pending_join {T} t (p ∷ xs) ys a b h k = (
  h.0,
  h.1 ++ b,
  h.2,
  pending_join t xs ys h.1 b h.3 k,
  ap (λ (l : List (Name T)). l ++ b) h.4
      ∙ append_assoc (all_below p h.0) h.1 b,
)

pending_split : {T : Type 0} (t : Top T) (xs ys : List (List ℕ)) (ns : List (Name T)) → Pending t (xs ++ ys) ns
    → (a : List (Name T)) × (b : List (Name T)) × Pending t xs a × Pending t ys b × (ns ≡ a ++ b)
pending_split t [] ys ns h = ([], ns, refl, h, refl)
pending_split {T} t (p ∷ xs) ys ns h =
    let r = pending_split t xs ys h.1 h.3 in (
      all_below p h.0 ++ r.0,
      r.1,
      (h.0, r.0, h.2, r.2, refl),
      r.3,
      h.4 ∙ ap (λ (l : List (Name T)). all_below p h.0 ++ l) r.4 ∙ sym (append_assoc (all_below p h.0) r.0 r.1),
    )

children : {T : Type 0} (t : Top T) (p : List ℕ) (g : Tree T)
    → ((q : List ℕ) (inner : Tree T) → IsChild p g q inner → IsIn t.path t.tree q inner)
    → Pending t (entered (level p g)) (deeper p g)
children t p Nil within = refl
children t p (Leaf n known more) within = children t p more within
children t p (Branch n known i more) within = (
  i,
  deeper p more,
  within (join p n) i (inl (refl, refl)),
  children t p more
      (λ q inner child. within q inner (inr child)),
  refl,
)

-- ---- the walk

pub record Walk {T : Type 0} (t : Top T) (found : List (Name T)) (ws : List (List ℕ)) : Type 0 where
  pub to_come : List (Name T)
  pub pending : Pending t ws to_come
  pub all : IsPermutation (all_below t.path t.tree) (found ++ to_come)

begins : {T : Type 0} (t : Top T) → Walk t [] (t.path ∷ [])
begins {T} t =
    let all = all_below t.path t.tree in
    record {
      to_come = all ++ [];
      pending = (t.tree, [], itself, refl, refl);
      all = subst (λ (l : List (Name T)). IsPermutation all l) (sym (append-nil all)) (IsPermutation-refl all);
    }

-- one directory is listed
moved : {X : Type 0} (found a ns deep below : List X) → IsPermutation (ns ++ deep) below
    → IsPermutation (found ++ (a ++ below)) ((found ++ ns) ++ (a ++ deep))
moved {X} found a ns deep below h =
    subst (λ (l : List X). IsPermutation (found ++ (a ++ below)) l) (sym (append_assoc found ns (a ++ deep)))
    (IsPermutation-append_right found (a ++ below) (ns ++ (a ++ deep))
    (IsPermutation-trans (a ++ below) (a ++ (ns ++ deep)) (ns ++ (a ++ deep))
    (IsPermutation-append_right a below (ns ++ deep) (IsPermutation-sym (ns ++ deep) below h))
    (swap_front a ns deep)))

goes_on : {T : Type 0} (t : Top T) (found ns : List (Name T)) (rest : List (List ℕ)) (p : List ℕ)
    → Walk t found (rest ++ p ∷ [])
    → ((g : Tree T) → IsIn t.path t.tree p g → ns ≡ level p g) → Walk t (found ++ ns) (rest ++ entered ns)
goes_on {T} t found ns rest p w knows =
    let s = pending_split t rest (p ∷ []) w.to_come w.pending in
    let g : Tree T = s.3.0 in
    let within : IsIn t.path t.tree p g = s.3.2 in
    let is : ns ≡ level p g = knows g within in
    let below = all_below p g in
    let all = all_below t.path t.tree in
    let last : s.1 ≡ below = s.3.4 ∙ ap (λ (l : List (Name T)). below ++ l) s.3.3 ∙ append-nil below in
    let come : w.to_come ≡ s.0 ++ below = s.4 ∙ ap (λ (l : List (Name T)). s.0 ++ l) last in
    record {
      to_come = s.0 ++ deeper p g;
      pending = pending_join t rest (entered ns) s.0 (deeper p g) s.2
          (subst (λ (l : List (Name T)). Pending t (entered l) (deeper p g)) (sym is)
          (children t p g (λ q inner child. inside p g q inner within child)));
      all = IsPermutation-trans all (found ++ (s.0 ++ below)) ((found ++ ns) ++ (s.0 ++ deeper p g))
          (subst (λ (l : List (Name T)). IsPermutation all (found ++ l)) come w.all)
          (moved found s.0 ns (deeper p g) below
          (subst (λ (l : List (Name T)). IsPermutation (l ++ deeper p g) below) (sym is) (split_all p g)));
    }

ends : {T : Type 0} (t : Top T) (found : List (Name T)) → Walk t found []
    → IsPermutation (all_below t.path t.tree) found
ends {T} t found w =
    subst (λ (l : List (Name T)). IsPermutation (all_below t.path t.tree) l)
    (ap (λ (l : List (Name T)). found ++ l) w.pending ∙ append-nil found) w.all

-- ---- where the tree is reported

abbrev pub Walking : {T : Type 0} → Option (Top T) → List (Name T) → List (List ℕ) → Type 0
Walking None found ws = ⊤
Walking (Some t) found ws = Walk t found ws

pub walking_begins : {T : Type 0} (o : Option (Top T)) (path : List ℕ) (found : List (Name T)) (ws : List (List ℕ))
    → IsTop o path → found ≡ [] → ws ≡ path ∷ [] → Walking o found ws
walking_begins None path found ws top is is2 = tt
walking_begins {T} (Some t) path found ws top is is2 =
    subst (λ (l : List (Name T)). Walk t l ws) (sym is)
    (subst (λ (l : List (List ℕ)). Walk t [] l) (sym (is2 ∙ ap (λ (q : List ℕ). q ∷ []) top)) (begins t))

pub walking_goes_on : {T : Type 0} (o : Option (Top T)) (found found2 ns : List (Name T))
    (ws rest ws2 : List (List ℕ)) (p : List ℕ) → Walking o found ws → ws ≡ rest ++ p ∷ []
    → ((g : Tree T) → IsDirectoryOf o p g → ns ≡ level p g) → found2 ≡ found ++ ns → ws2 ≡ rest ++ entered ns
    → Walking o found2 ws2
walking_goes_on None found found2 ns ws rest ws2 p w is knows is2 is3 = tt
walking_goes_on {T} (Some t) found found2 ns ws rest ws2 p w is knows is2 is3 =
    let next : Walk t (found ++ ns) (rest ++ entered ns) = goes_on t found ns rest p
    (subst (λ (l : List (List ℕ)). Walk t found l) is w) knows in
    subst (λ (l : List (Name T)). Walk t l ws2) (sym is2)
    (subst (λ (l : List (List ℕ)). Walk t (found ++ ns) l) (sym is3) next)

pub walking_ends : {T : Type 0} (o : Option (Top T)) (found : List (Name T)) (ws : List (List ℕ)) → Walking o found ws
    → ws ≡ [] → AreAllBelow o found
walking_ends None found ws w is = tt
walking_ends {T} (Some t) found ws w is = ends t found (subst (λ (l : List (List ℕ)). Walk t found l) is w)

-- the directory that is listed next is one of the tree
pub walking_reached : {T : Type 0} (o : Option (Top T)) (found : List (Name T)) (ws rest : List (List ℕ)) (p : List ℕ)
    → Walking o found ws → ws ≡ rest ++ p ∷ [] → IsReached o p
walking_reached None found ws rest p w is = tt
walking_reached {T} (Some t) found ws rest p w is =
    let s = pending_split t rest (p ∷ []) w.to_come
    (subst (λ (l : List (List ℕ)). Pending t l w.to_come) is w.pending) in
    (s.3.0, s.3.2)

-- sorted names are the same names
pub all_sorted : {T : Type 0} (o : Option (Top T)) (found sorted : List (Name T)) → AreAllBelow o found
    → IsPermutation found sorted → AreAllBelow o sorted
all_sorted None found sorted all same = tt
all_sorted (Some t) found sorted all same = IsPermutation-trans (all_below t.path t.tree) found sorted all same

-- ---- the directories that were entered

entered_append : {T : Type 0} (xs ys : List (Name T)) → entered (xs ++ ys) ≡ entered xs ++ entered ys
entered_append [] ys = refl
entered_append {T} (x ∷ xs) ys = choose x.is_entered (entered_append xs ys)
  where
    choose : (b : Bool) → entered (xs ++ ys) ≡ entered xs ++ entered ys
        → (if b then x.path ∷ entered (xs ++ ys) else entered (xs ++ ys)) ≡
        (if b then x.path ∷ entered xs else entered xs) ++ entered ys
    choose true h = ap (λ (l : List (List ℕ)). x.path ∷ l) h
    choose false h = h

-- the first one and those that were found are those that were listed, and those that are still to be listed
abbrev pub AreEntered : {T : Type 0} → List ℕ → List (Name T) → List (List ℕ) → List (List ℕ) → Type 0
AreEntered top found done ws = IsPermutation (top ∷ entered found) (done ++ ws)

one_moved : {X : Type 0} (done rest more : List X) (p : X)
    → IsPermutation ((done ++ (rest ++ p ∷ [])) ++ more) ((done ++ p ∷ []) ++ (rest ++ more))
one_moved {X} done rest more p =
    subst (λ (l : List X). IsPermutation l ((done ++ p ∷ []) ++ (rest ++ more)))
    (sym (append_assoc done (rest ++ p ∷ []) more ∙ ap (λ (l : List X). done ++ l) (append_assoc rest (p ∷ []) more)))
    (subst (λ (l : List X). IsPermutation (done ++ (rest ++ (p ∷ [] ++ more))) l)
    (sym (append_assoc done (p ∷ []) (rest ++ more)))
    (IsPermutation-append_right done (rest ++ (p ∷ [] ++ more)) (p ∷ [] ++ (rest ++ more))
    (swap_front rest (p ∷ []) more)))

pub entered_goes_on : {T : Type 0} (top : List ℕ) (found found2 ns : List (Name T))
    (done done2 ws rest ws2 : List (List ℕ)) (p : List ℕ) → AreEntered top found done ws
    → ws ≡ rest ++ p ∷ [] → found2 ≡ found ++ ns → ws2 ≡ rest ++ entered ns → done2 ≡ done ++ p ∷ []
    → AreEntered top found2 done2 ws2
entered_goes_on {T} top found found2 ns done done2 ws rest ws2 p all is is2 is3 is4 =
    let more = entered ns in
    let names : entered found2 ≡ entered found ++ more = ap (λ (l : List (Name T)). entered l) is2
    ∙ entered_append found ns in
    let before : IsPermutation ((top ∷ entered found) ++ more) ((done ++ (rest ++ p ∷ [])) ++ more) =
    IsPermutation-append_left more (top ∷ entered found) (done ++ (rest ++ p ∷ []))
    (subst (λ (l : List (List ℕ)). IsPermutation (top ∷ entered found) (done ++ l)) is all) in
    subst (λ (l : List (List ℕ)). IsPermutation (top ∷ l) (done2 ++ ws2)) (sym names)
    (subst (λ (l : List (List ℕ)). IsPermutation (top ∷ (entered found ++ more)) (l ++ ws2)) (sym is4)
    (subst (λ (l : List (List ℕ)). IsPermutation (top ∷ (entered found ++ more)) ((done ++ p ∷ []) ++ l)) (sym is3)
    (IsPermutation-trans ((top ∷ entered found) ++ more) ((done ++ (rest ++ p ∷ [])) ++ more)
    ((done ++ p ∷ []) ++ (rest ++ more)) before (one_moved done rest more p))))

pub entered_begins : {T : Type 0} (top : List ℕ) (found : List (Name T)) (done ws : List (List ℕ)) → found ≡ []
    → done ≡ [] → ws ≡ top ∷ [] → AreEntered top found done ws
entered_begins {T} top found done ws is is2 is3 =
    subst (λ (l : List (Name T)). IsPermutation (top ∷ entered l) (done ++ ws)) (sym is)
    (subst (λ (l : List (List ℕ)). IsPermutation (top ∷ []) (l ++ ws)) (sym is2)
    (subst (λ (l : List (List ℕ)). IsPermutation (top ∷ []) l) (sym is3) (IsPermutation-refl (top ∷ []))))

pub entered_ends : {T : Type 0} (top : List ℕ) (found : List (Name T)) (done ws : List (List ℕ))
    → AreEntered top found done ws → ws ≡ [] → IsPermutation (top ∷ entered found) done
entered_ends top found done ws all is =
    subst (λ (l : List (List ℕ)). IsPermutation (top ∷ entered found) l)
    (ap (λ (l : List (List ℕ)). done ++ l) is ∙ append-nil done) all

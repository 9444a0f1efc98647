-- The names that are compared: in a list, at a node, and turn by turn of a walk.
use Rattle.std.proofs.Common.{◌≡◌, ℕ, zero, suc, ◌+◌, ◌-◌, ◌<◌, ◌≤◌, Bool, true, false, List, [], ◌∷◌, ◌++◌, length}
use Rattle.std.proofs.Common.{Some, None, refl, sym, ap, ◌∙◌, arith, ◌==◌, nat_lt}
use Rattle.std.specs.Prelude.{not, ◌&&◌, if◌then◌else◌}
use Rattle.std.specs.Bool.{OnTrue, OnFalse}
use Rattle.std.specs.Borrow.{Bor}
use Rattle.std.specs.Str.{bytes_eq}
use Rattle.rom_tree.specs.Dots.{dot, dot_dot}
use Rattle.rom_tree.specs.Tree.{Node, Entries, is_directory, entries_of, entry_at, drop_entries}
use Rattle.rom_tree.proofs.Nodes.{drop_entries-some, drop_entries-none}
use Rattle.path_walk.specs.declared.budget.Purse.{Purse}
use Rattle.path_walk.specs.declared.budget.Purse.TheVariants.{Unlimited, Limited}
use Rattle.path_walk.specs.declared.error.WalkError.{WalkError}
use Rattle.path_walk.specs.Components.{is_empty, components, begins_with_slash}
use Rattle.path_walk.specs.Resolution.{Namespace, Trail, fails, goes, follows, step, after_link, link_text_at, at_root}
use Rattle.path_walk.specs.Trails.{unread_components, NoneEmpty}
use Rattle.path_walk.specs.Compared.{entries_until, is_looked_up, compared_at, onward_compared, compared_by}
use Rattle.path_walk.specs.Compared.{names_compared, with_more, AreTakenFrom, AreTooManyFor}
use Rattle.path_walk.proofs.Mounts.{and_left}
use Rattle.path_walk.proofs.Resolving.{unread-push}
use Rattle.path_walk.proofs.Texts.{unread-empty}

-- the entries up to a name, from an index on
some_until : (b : Bool) (n : ℕ) → 0 < (if b then 1 else suc n)
some_until true n = omega arith
some_until false n = omega arith

pub until_some : (es : Entries) (i : ℕ) (at name : List ℕ) (x : Node) → entry_at es i ≡ Some (at, x)
    → 0 < entries_until (drop_entries i es) name
until_some es i at name x h =
    rw (drop_entries-some es i at x h) (some_until (bytes_eq at name) (entries_until (drop_entries (suc i) es) name))

pub until_here : (es : Entries) (i : ℕ) (at name : List ℕ) (x : Node) → entry_at es i ≡ Some (at, x)
    → true ≡ bytes_eq at name → entries_until (drop_entries i es) name ≡ 1
until_here es i at name x h t = rw (drop_entries-some es i at x h, ← t) refl

pub until_next : (es : Entries) (i : ℕ) (at name : List ℕ) (x : Node) → entry_at es i ≡ Some (at, x)
    → false ≡ bytes_eq at name
    → entries_until (drop_entries i es) name ≡ suc (entries_until (drop_entries (i + 1) es) name)
until_next es i at name x h t =
    let k : suc i ≡ i + 1 = omega arith in
    let e : entries_until (drop_entries i es) name ≡ suc (entries_until (drop_entries (suc i) es) name) =
    rw (drop_entries-some es i at x h, ← t) refl in
    e ∙ ap (λ (v : ℕ). suc (entries_until (drop_entries v es) name)) k

pub until_end : (es : Entries) (i : ℕ) (name : List ℕ) → entry_at es i ≡ None
    → entries_until (drop_entries i es) name ≡ 0
until_end es i name h = rw (drop_entries-none es i h) refl

-- a component at a node
module _ (x : Node) (p : List ℕ) where
  pub looked_file : false ≡ is_directory x → is_looked_up x p ≡ false
  unfolding is_looked_up
  looked_file h = rw (← h) refl

  pub looked_long : true ≡ is_directory x → nat_lt 255 (length p) ≡ true → is_looked_up x p ≡ false
  unfolding is_looked_up
  looked_long h l = rw (← h, l) refl

  pub looked_dot : true ≡ is_directory x → nat_lt 255 (length p) ≡ false → bytes_eq p dot ≡ true
      → is_looked_up x p ≡ false
  unfolding is_looked_up
  looked_dot h l d = rw (← h, l, d) refl

  pub looked_name : true ≡ is_directory x → nat_lt 255 (length p) ≡ false → bytes_eq p dot ≡ false
      → is_looked_up x p ≡ not (bytes_eq p dot_dot)
  unfolding is_looked_up
  looked_name h l d = rw (← h, l, d) refl

  pub looked_directory : is_looked_up x p ≡ true → is_directory x ≡ true
  unfolding is_looked_up
  looked_directory h = and_left (is_directory x) _ h

  pub compared_some : is_looked_up x p ≡ true → compared_at x p ≡ entries_until (entries_of x) p
  unfolding compared_at
  compared_some h = rw h refl

  pub compared_none : is_looked_up x p ≡ false → compared_at x p ≡ 0
  unfolding compared_at
  compared_none h = rw h refl

pub on_true : {P Q : Type 0} (b : Bool) → (P → Q) → OnTrue b P → OnTrue b Q
on_true true f p = f p
on_true false f p = p

pub on_false : {P Q : Type 0} (b : Bool) → (P → Q) → OnFalse b P → OnFalse b Q
on_false true f p = p
on_false false f p = f p

-- a path as a whole
module _ {F : Type 0} (g : Namespace F) (path : List ℕ) (follow : Bool) where
  pub names_long : nat_lt 4095 (length path) ≡ true → names_compared g path follow ≡ 0
  unfolding names_compared
  names_long h = rw h refl

  pub names_empty : nat_lt 4095 (length path) ≡ false → is_empty path ≡ true → names_compared g path follow ≡ 0
  unfolding names_compared
  names_empty h e = rw (h, e) refl

  pub names_relative : nat_lt 4095 (length path) ≡ false → is_empty path ≡ false → begins_with_slash path ≡ false
      → names_compared g path follow ≡ 0
  unfolding names_compared
  names_relative h e s = rw (h, e, s) refl

  pub names_go : nat_lt 4095 (length path) ≡ false → is_empty path ≡ false → begins_with_slash path ≡ true
      → names_compared g path follow ≡ compared_by g follow 40 (at_root g) (components path)
  unfolding names_compared
  names_go h e s = rw (h, e, s) refl

module _ {F : Type 0} where
  -- the names that are compared for a link and the components after it, with so many links left
  unfoldable pub onto_compared : Namespace F → Bool → ℕ → Trail F → List (List ℕ) → ℕ
  onto_compared g follow zero s ps = 0
  onto_compared g follow (suc n) s ps = compared_by g follow n s ps

  pub compared-nil : (g : Namespace F) (follow : Bool) (n : ℕ) (s : Trail F) → compared_by g follow n s [] ≡ 0
  unfolding compared_by
  compared-nil g follow zero s = refl
  compared-nil g follow (suc n) s = refl

  pub compared-cons : (g : Namespace F) (follow : Bool) (n : ℕ) (s : Trail F) (p : List ℕ) (rest : List (List ℕ))
      → compared_by g follow n s (p ∷ rest)
      ≡ compared_at (g.node s.current) p
      + onward_compared (λ t. compared_by g follow n t rest)
      (λ x. onto_compared g follow n (after_link g s x) (components (link_text_at g x) ++ rest))
      (step g s p (is_empty rest && not follow))
  unfolding compared_by onto_compared
  compared-cons g follow zero s p rest = refl
  compared-cons g follow (suc n) s p rest = refl

pub below_sum : (a b c : ℕ) → c ≡ a + b → a ≤ c
below_sum a b c e = omega (arith, e)

-- one turn: of the texts us the component p was taken and ws are left
module _ {F : Type 0} (g : Namespace F) (follow : Bool) (n : ℕ) (s : Trail F) (p : List ℕ) (us ws : List (Bor (List ℕ)))
    (st : Bool) (q : unread_components us ≡ p ∷ unread_components ws) (ne : NoneEmpty ws) where
  after : Bool → ℕ
  after v = onward_compared (λ u. compared_by g follow n u (unread_components ws))
      (λ x. onto_compared g follow n (after_link g s x) (components (link_text_at g x) ++ unread_components ws))
      (step g s p v)

  begun : compared_by g follow n s (unread_components us)
      ≡ compared_at (g.node s.current) p + after (is_empty (unread_components ws) && not follow)
  unfolding after
  begun = ap (compared_by g follow n s) q ∙ compared-cons g follow n s p (unread_components ws)

  -- the names with which the component is compared are among those that are to come
  pub turn_begins : compared_at (g.node s.current) p ≤ compared_by g follow n s (unread_components us)
  turn_begins = below_sum (compared_at (g.node s.current) p) (after (is_empty (unread_components ws) && not follow))
      (compared_by g follow n s (unread_components us)) begun

  module _ (t : st ≡ ((length ws == 0) && not follow)) where
    turn : compared_by g follow n s (unread_components us) ≡ compared_at (g.node s.current) p + after st
    turn = begun
        ∙ ap (λ (v : Bool). compared_at (g.node s.current) p + after v)
        (sym (t ∙ ap (λ (v : Bool). v && not follow) (sym (unread-empty ws ne))))

    turn_by : (m : ℕ) → after st ≡ m
        → compared_by g follow n s (unread_components us) ≡ compared_at (g.node s.current) p + m
    turn_by m e = turn ∙ ap (λ (v : ℕ). compared_at (g.node s.current) p + v) e

    pub names_fail : (e : WalkError) → step g s p st ≡ fails e
        → compared_by g follow n s (unread_components us) ≡ compared_at (g.node s.current) p + 0
    unfolding after
    names_fail e h = turn_by 0 (ap (onward_compared (λ u. compared_by g follow n u (unread_components ws))
        (λ x. onto_compared g follow n (after_link g s x) (components (link_text_at g x) ++ unread_components ws))) h)

    pub names_go_on : (u : Trail F) → step g s p st ≡ goes u
        → compared_by g follow n s (unread_components us)
        ≡ compared_at (g.node s.current) p + compared_by g follow n u (unread_components ws)
    unfolding after
    names_go_on u h = turn_by (compared_by g follow n u (unread_components ws))
        (ap (onward_compared (λ u. compared_by g follow n u (unread_components ws))
        (λ x. onto_compared g follow n (after_link g s x) (components (link_text_at g x) ++ unread_components ws))) h)

    names_link : (x : F) → step g s p st ≡ follows x
        → compared_by g follow n s (unread_components us)
        ≡ compared_at (g.node s.current) p
        + onto_compared g follow n (after_link g s x) (components (link_text_at g x) ++ unread_components ws)
    unfolding after
    names_link x h = turn_by
        (onto_compared g follow n (after_link g s x) (components (link_text_at g x) ++ unread_components ws))
        (ap (onward_compared (λ u. compared_by g follow n u (unread_components ws))
        (λ x. onto_compared g follow n (after_link g s x) (components (link_text_at g x) ++ unread_components ws))) h)

    pub names_loop : (x : F) → step g s p st ≡ follows x → n ≡ 0
        → compared_by g follow n s (unread_components us) ≡ compared_at (g.node s.current) p + 0
    unfolding onto_compared
    names_loop x h z = names_link x h
        ∙ ap (λ (v : ℕ). compared_at (g.node s.current) p
        + onto_compared g follow v (after_link g s x) (components (link_text_at g x) ++ unread_components ws)) z

    pub names_follow : (x : F) → step g s p st ≡ follows x → (u : Bor (List ℕ)) (vs : List (Bor (List ℕ)))
        → u.now ≡ link_text_at g x → vs ≡ ws ++ u ∷ [] → 0 < n
        → compared_by g follow n s (unread_components us)
        ≡ compared_at (g.node s.current) p + compared_by g follow (n - 1) (after_link g s x) (unread_components vs)
    unfolding onto_compared
    names_follow x h u vs e w l =
        let k : n ≡ suc (n - 1) = omega arith in
        let c : unread_components vs ≡ components (link_text_at g x) ++ unread_components ws = ap unread_components w
        ∙ (unread-push ws u ∙ ap (λ (v : List ℕ). components v ++ unread_components ws) e) in
        names_link x h
        ∙ (ap (λ (v : ℕ). compared_at (g.node s.current) p
        + onto_compared g follow v (after_link g s x) (components (link_text_at g x) ++ unread_components ws)) k
        ∙ ap (λ (v : List (List ℕ)). compared_at (g.node s.current) p
        + compared_by g follow (n - 1) (after_link g s x) v) (sym c))

pub names_end : {F : Type 0} (g : Namespace F) (follow : Bool) (n : ℕ) (s : Trail F) (us : List (Bor (List ℕ)))
    → unread_components us ≡ [] → compared_by g follow n s (unread_components us) ≡ 0
names_end g follow n s us q = ap (compared_by g follow n s) q ∙ compared-nil g follow n s

-- names that are taken from a purse, and those after them
pub none_taken : (p : Purse) → AreTakenFrom p p 0
none_taken Unlimited = refl
none_taken (Limited b) = ap Limited (omega arith)

more_sum : (p : Purse) (k n all : ℕ) → k + n ≡ all → with_more p all ≡ with_more (with_more p k) n
more_sum Unlimited k n all e = refl
more_sum (Limited b) k n all e = ap Limited (omega (arith, e))

module _ {old p : Purse} (new : Purse) (n k all : ℕ) (t : AreTakenFrom old p n) where
  pub taken_after : AreTakenFrom p new k → k + n ≡ all → AreTakenFrom old new all
  taken_after u e = more_sum new k n all e ∙ (ap (λ (v : Purse). with_more v n) u ∙ t)

  pub too_many_after : AreTooManyFor p new k → k + n ≤ all → AreTooManyFor old new all
  too_many_after m l = (m.0 + n, sym t ∙ ap (λ (v : Purse). with_more v n) m.1, m.2, omega (arith, l, m.3))

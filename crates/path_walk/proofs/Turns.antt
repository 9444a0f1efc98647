-- Facts on the loop of a walk.
use Rattle.std.proofs.Common.{◌≡◌, ℕ, suc, ◌-◌, ◌<◌, Bool, true, false, List, [], ◌∷◌, ◌++◌, length, Result, Ok, Err}
use Rattle.std.proofs.Common.{refl, sym, ap, ◌∙◌, arith, append-nil, ◌==◌, nat_lt}
use Rattle.std.proofs.lemmas.Bool.{eqb-true}
use Rattle.std.specs.Prelude.{not, ◌&&◌}
use Rattle.std.specs.Borrow.{Bor}
use Rattle.path_walk.specs.declared.error.WalkError.{WalkError}
use Rattle.path_walk.specs.declared.error.WalkError.TheVariants.{Eloop, Enametoolong, Enoent, Einval}
use Rattle.path_walk.specs.Components.{is_empty, components, begins_with_slash}
use Rattle.path_walk.specs.Resolution.{Namespace, Trail, fails, goes, follows, step, onward, after_link, link_text_at}
use Rattle.path_walk.specs.Resolution.{resolve, resolution}
use Rattle.path_walk.specs.Trails.{unread_components, NoneEmpty}
use Rattle.path_walk.proofs.Resolving.{onto_link, resolve-nil, resolve-cons, unread-push}
use Rattle.path_walk.proofs.Texts.{unread-empty, unread_components-nil}

pub empty_is : {A : Type 0} (xs : List A) → (length xs == 0) ≡ true → is_empty xs ≡ true
empty_is [] h = refl
empty_is (x ∷ xs) h = absurd (omega (arith, eqb-true (length (x ∷ xs)) 0 h))

pub empty_not : {A : Type 0} (xs : List A) → (length xs == 0) ≡ false → is_empty xs ≡ false
empty_not [] h = h
empty_not (x ∷ xs) h = refl

module _ {F : Type 0} (g : Namespace F) (path : List ℕ) (follow : Bool) where
  pub walk-long : nat_lt 4095 (length path) ≡ true → resolution g path follow ≡ Err Enametoolong
  unfolding resolution
  walk-long h = rw h

  pub walk-empty : nat_lt 4095 (length path) ≡ false → is_empty path ≡ true → resolution g path follow ≡ Err Enoent
  unfolding resolution
  walk-empty h e = rw (h, e)

  pub walk-relative : nat_lt 4095 (length path) ≡ false → is_empty path ≡ false → begins_with_slash path ≡ false
      → resolution g path follow ≡ Err Einval
  unfolding resolution
  walk-relative h e s = rw (h, e, s)

  pub walk-goes : nat_lt 4095 (length path) ≡ false → is_empty path ≡ false → begins_with_slash path ≡ true
      → resolution g path follow ≡ resolve g follow 40 (record { current = g.root; ancestors = [] }) (components path)
  unfolding resolution
  walk-goes h e s = rw (h, e, s)

pub first_components : (us : List (Bor (List ℕ))) (u : Bor (List ℕ)) → us ≡ u ∷ []
    → unread_components us ≡ components u.now
first_components us u e = ap unread_components e
    ∙ (unread-push [] u ∙ (ap (λ (v : List (List ℕ)). components u.now ++ v) unread_components-nil
    ∙ append-nil (components u.now)))

-- one turn: of the texts us the component p was taken and ws are left
module _ {F : Type 0} (g : Namespace F) (follow : Bool) (n : ℕ) (s : Trail F) (p : List ℕ) (us ws : List (Bor (List ℕ)))
    (st : Bool) (all : Result F WalkError) (r : resolve g follow n s (unread_components us) ≡ all)
    (q : unread_components us ≡ p ∷ unread_components ws) (ne : NoneEmpty ws)
    (t : st ≡ ((length ws == 0) && not follow)) where
  turn : onward (λ u. resolve g follow n u (unread_components ws))
      (λ x. onto_link g follow n (after_link g s x) (components (link_text_at g x) ++ unread_components ws))
      (step g s p st) ≡ all
  turn =
      ap (λ (v : Bool). onward (λ u. resolve g follow n u (unread_components ws))
      (λ x. onto_link g follow n (after_link g s x) (components (link_text_at g x) ++ unread_components ws))
      (step g s p v)) (t ∙ ap (λ (v : Bool). v && not follow) (sym (unread-empty ws ne)))
      ∙ (sym (resolve-cons g follow n s p (unread_components ws)) ∙ (sym (ap (resolve g follow n s) q) ∙ r))

  pub turn_fails : (e : WalkError) → step g s p st ≡ fails e → all ≡ Err e
  turn_fails e h = sym turn ∙ ap (onward (λ u. resolve g follow n u (unread_components ws))
      (λ x. onto_link g follow n (after_link g s x) (components (link_text_at g x) ++ unread_components ws))) h

  pub turn_goes : (u : Trail F) → step g s p st ≡ goes u → resolve g follow n u (unread_components ws) ≡ all
  turn_goes u h = sym (ap (onward (λ u. resolve g follow n u (unread_components ws))
      (λ x. onto_link g follow n (after_link g s x) (components (link_text_at g x) ++ unread_components ws))) h) ∙ turn

  turn_link : (x : F) → step g s p st ≡ follows x
      → onto_link g follow n (after_link g s x) (components (link_text_at g x) ++ unread_components ws) ≡ all
  turn_link x h = sym (ap (onward (λ u. resolve g follow n u (unread_components ws))
      (λ x. onto_link g follow n (after_link g s x) (components (link_text_at g x) ++ unread_components ws))) h) ∙ turn

  pub turn_loops : (x : F) → step g s p st ≡ follows x → n ≡ 0 → all ≡ Err Eloop
  unfolding onto_link
  turn_loops x h z = sym (turn_link x h)
      ∙ ap (λ (v : ℕ). onto_link g follow v (after_link g s x)
      (components (link_text_at g x) ++ unread_components ws)) z

  pub turn_follows : (x : F) → step g s p st ≡ follows x → (u : Bor (List ℕ)) (vs : List (Bor (List ℕ)))
      → u.now ≡ link_text_at g x → vs ≡ ws ++ u ∷ [] → 0 < n
      → resolve g follow (n - 1) (after_link g s x) (unread_components vs) ≡ all
  unfolding onto_link
  turn_follows x h u vs e w l =
      let k : n ≡ suc (n - 1) = omega arith in
      ap (resolve g follow (n - 1) (after_link g s x))
      (ap unread_components w ∙ (unread-push ws u ∙ ap (λ (v : List ℕ). components v ++ unread_components ws) e))
      ∙ (sym (ap (λ (v : ℕ). onto_link g follow v (after_link g s x)
      (components (link_text_at g x) ++ unread_components ws)) k) ∙ turn_link x h)

pub walk_ends : {F : Type 0} (g : Namespace F) (follow : Bool) (n : ℕ) (s : Trail F) (us : List (Bor (List ℕ)))
    (all : Result F WalkError) → resolve g follow n s (unread_components us) ≡ all → unread_components us ≡ []
    → all ≡ Ok s.current
walk_ends g follow n s us all r q = sym r ∙ (ap (resolve g follow n s) q ∙ resolve-nil g follow n s)

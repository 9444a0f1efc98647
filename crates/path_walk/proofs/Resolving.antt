-- Facts on components and on resolution, for the invariant of the walk.
use Rattle.std.proofs.Common.{◌≡◌, ℕ, zero, suc, Bool, List, [], ◌∷◌, ◌++◌, Result, Ok, Err, refl, sym, ap, ◌∙◌}
use Rattle.std.proofs.Common.{append_assoc, append-nil}
use Rattle.std.specs.Prelude.{not, ◌&&◌}
use Rattle.std.specs.Borrow.{Bor}
use Rattle.path_walk.specs.Trails.{unread_components}
use Rattle.path_walk.specs.declared.error.WalkError.{WalkError}
use Rattle.path_walk.specs.declared.error.WalkError.TheVariants.{Eloop}
use Rattle.path_walk.specs.Components.{components, is_empty}
use Rattle.path_walk.specs.Resolution.{Namespace, Trail, step, onward, after_link, link_text_at, resolve}

pub unread-push : (us : List (Bor (List ℕ))) (u : Bor (List ℕ))
    → unread_components (us ++ u ∷ []) ≡ components u.now ++ unread_components us
unfolding unread_components
unread-push [] u = sym (append-nil (components u.now))
unread-push (v ∷ us) u = ap (λ (w : List (List ℕ)). w ++ components v.now) (unread-push us u)
    ∙ append_assoc (components u.now) (unread_components us) (components v.now)

module _ {F : Type 0} where
  -- the place to which a link and the components after it lead, with so many links left
  unfoldable pub onto_link : Namespace F → Bool → ℕ → Trail F → List (List ℕ) → Result F WalkError
  onto_link g follow zero s ps = Err Eloop
  onto_link g follow (suc n) s ps = resolve g follow n s ps

  pub resolve-nil : (g : Namespace F) (follow : Bool) (n : ℕ) (s : Trail F) → resolve g follow n s [] ≡ Ok s.current
  unfolding resolve
  resolve-nil g follow zero s = refl
  resolve-nil g follow (suc n) s = refl

  pub resolve-cons : (g : Namespace F) (follow : Bool) (n : ℕ) (s : Trail F) (p : List ℕ) (rest : List (List ℕ))
      → resolve g follow n s (p ∷ rest)
      ≡ onward (λ t. resolve g follow n t rest)
      (λ x. onto_link g follow n (after_link g s x) (components (link_text_at g x) ++ rest))
      (step g s p (is_empty rest && not follow))
  unfolding resolve onto_link
  resolve-cons g follow zero s p rest = refl
  resolve-cons g follow (suc n) s p rest = refl

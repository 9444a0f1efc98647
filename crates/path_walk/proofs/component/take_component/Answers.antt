use Rattle.std.proofs.Common.{◌≡◌, ℕ, ◌<◌, ◌∷◌, [], ◌++◌, List, length, ap, sym, ◌∙◌, subst, arith}
use Rattle.std.specs.Borrow.{Bor}
use Rattle.arrayvec.specs.ArrayVec.{ArrayVec}
use Rattle.path_walk.specs.Components.{components}
use Rattle.path_walk.specs.Trails.{unread_components, unread_bytes, NoneEmpty}
use Rattle.path_walk.proofs.Trails.{nil_none}
use Rattle.path_walk.proofs.Resolving.{unread-push}
use Rattle.path_walk.proofs.Texts.{components-nil, unread_components-nil, bytes-push, none-push, none-front, none-last}
use Rattle.path_walk.proofs.Texts.{nil_by, some_by}
use Rattle.path_walk.proofs.component.take_component.Goals as goal
use Rattle.path_walk.proofs.component.take_component.Goals.{then-not-is_empty, else-not-is_empty}

pub returns-in_default-clause-component : goal.returns-in_default-clause-component
returns-in_default-clause-component c =
    ap unread_components (nil_none c.args.unread.now.items (λ h. c.in_default.ensures.variant.1 h))
    ∙ unread_components-nil

pub next_component-requires : goal.next_component-requires
next_component-requires c =
    let P : List (Bor (List ℕ)) → Type 0 = λ v. NoneEmpty v in
    none-last c.pop.new.self.items c.in-Some.text (subst P c.in-Some.ensures.items c.requires.none_empty)

components_push : (us fs ws : List (Bor (List ℕ))) (u r : Bor (List ℕ)) (p : List ℕ) → us ≡ fs ++ u ∷ []
    → components u.now ≡ p ∷ components r.now → ws ≡ fs ++ r ∷ [] → unread_components us ≡ p ∷ unread_components ws
components_push us fs ws u r p e q w =
    ap unread_components e ∙ (unread-push fs u
    ∙ (ap (λ (v : List (List ℕ)). v ++ unread_components fs) q
    ∙ ap (λ (v : List (List ℕ)). p ∷ v) (sym (unread-push fs r) ∙ sym (ap unread_components w))))

components_end : (us fs ws : List (Bor (List ℕ))) (u r : Bor (List ℕ)) (p : List ℕ) → us ≡ fs ++ u ∷ []
    → components u.now ≡ p ∷ components r.now → ws ≡ fs → r.now ≡ [] → unread_components us ≡ p ∷ unread_components ws
components_end us fs ws u r p e q w z =
    ap unread_components e ∙ (unread-push fs u
    ∙ (ap (λ (v : List (List ℕ)). v ++ unread_components fs)
    (q ∙ ap (λ (v : List (List ℕ)). p ∷ v) (ap components z ∙ components-nil))
    ∙ ap (λ (v : List (List ℕ)). p ∷ v) (sym (ap unread_components w))))

bytes_less : (us fs ws : List (Bor (List ℕ))) (u r : Bor (List ℕ)) → us ≡ fs ++ u ∷ [] → length r.now < length u.now
    → ws ≡ fs ++ r ∷ [] → unread_bytes ws < unread_bytes us
bytes_less us fs ws u r e l w = omega (arith, ap unread_bytes e, ap unread_bytes w, bytes-push fs u, bytes-push fs r)

bytes_end : (us fs ws : List (Bor (List ℕ))) (u r : Bor (List ℕ)) → us ≡ fs ++ u ∷ [] → length r.now < length u.now
    → ws ≡ fs → unread_bytes ws < unread_bytes us
bytes_end us fs ws u r e l w = omega (arith, ap unread_bytes e, ap unread_bytes w, bytes-push fs u)

items : {a b : ArrayVec (Bor (List ℕ))} → a ≡ b → a.items ≡ b.items
items e = ap (λ (v : ArrayVec (Bor (List ℕ))). v.items) e

pub returns-clause-component : goal.returns-clause-component
returns-clause-component c =
    elim c.if-not-is_empty.branch [
      | then-not-is_empty w ↦ components_push c.args.unread.now.items c.pop.new.self.items
          c.if-not-is_empty.unread.items c.in-Some.text c.next_component.result.1 c.next_component.result.0.now
          c.in-Some.ensures.items c.next_component.ensures.components (items w.unread-is ∙ w.push.ensures.items)
      | else-not-is_empty w ↦ components_end c.args.unread.now.items c.pop.new.self.items c.if-not-is_empty.unread.items
          c.in-Some.text c.next_component.result.1 c.next_component.result.0.now c.in-Some.ensures.items
          c.next_component.ensures.components (items w.unread-is)
          (nil_by c.next_component.result.1.now (sym c.is_empty.ensures ∙ w.if-not-is_empty.false))
    ]

pub returns-clause-less : goal.returns-clause-less
returns-clause-less c =
    elim c.if-not-is_empty.branch [
      | then-not-is_empty w ↦ bytes_less c.args.unread.now.items c.pop.new.self.items c.if-not-is_empty.unread.items
          c.in-Some.text c.next_component.result.1 c.in-Some.ensures.items c.next_component.ensures.less
          (items w.unread-is ∙ w.push.ensures.items)
      | else-not-is_empty w ↦ bytes_end c.args.unread.now.items c.pop.new.self.items c.if-not-is_empty.unread.items
          c.in-Some.text c.next_component.result.1 c.in-Some.ensures.items c.next_component.ensures.less
          (items w.unread-is)
    ]

pub returns-clause-none_empty : goal.returns-clause-none_empty
returns-clause-none_empty c =
    let P : List (Bor (List ℕ)) → Type 0 = λ v. NoneEmpty v in
    let f : NoneEmpty c.pop.new.self.items =
    none-front c.pop.new.self.items c.in-Some.text (subst P c.in-Some.ensures.items c.requires.none_empty) in
    elim c.if-not-is_empty.branch [
      | then-not-is_empty w ↦ subst P (sym (items w.unread-is ∙ w.push.ensures.items))
          (none-push c.pop.new.self.items c.next_component.result.1 f
          (some_by c.next_component.result.1.now (sym c.is_empty.ensures ∙ w.if-not-is_empty.true)))
      | else-not-is_empty w ↦ subst P (sym (items w.unread-is)) f
    ]

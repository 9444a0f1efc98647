use Rattle.std.proofs.Common.{◌≡◌, ℕ, ◌<◌, ◌≤◌, ◌≢◌, ◌-◌, ◌∷◌, List, get_or, take, drop, length, ap, sym, ◌∙◌, arith}
use Rattle.std.proofs.Common.{length-drop, add-zero}
use Rattle.std.proofs.lemmas.List.{take_rest, get_or-drop}
use Rattle.rom_tree.specs.Dots.{dot}
use Rattle.path_walk.specs.Components.{components}
use Rattle.path_walk.proofs.Texts.{components-nil, components-only_slashes, components-slashes, components-first}
use Rattle.path_walk.proofs.component.next_component.Goals as goal

pub returns-then-start-text-clause-components : goal.returns-then-start-text-clause-components
returns-then-start-text-clause-components c =
    components-only_slashes c.args.text.now c.requires (λ k l. c.leading_slashes-start.ensures.before k (omega arith))
    ∙ ap (λ (v : List (List ℕ)). dot ∷ v) (sym components-nil)

-- the slashes, the component and what follows it
first : (t : List ℕ) (a n : ℕ) (r : List ℕ) → r ≡ drop a t → a < length t → ((k : ℕ) → k < a → get_or t k 0 ≡ 47)
    → get_or t a 0 ≢ 47 → n ≤ length r → ((k : ℕ) → k < n → get_or r k 0 ≢ 47) → (n < length r → get_or r n 0 ≡ 47)
    → components t ≡ take n r ∷ components (take (length r - n) (drop n r))
first t a n r e l sl other w b f =
    let p : components r ≡ components t = ap components e ∙ components-slashes t a l sl in
    let q : length r ≡ length t - a = ap length e ∙ length-drop a t in
    let z : get_or r 0 0 ≡ get_or t a 0 =
    ap (λ (v : List ℕ). get_or v 0 0) e ∙ (get_or-drop a t 0 0 ∙ ap (λ (v : ℕ). get_or t v 0) (add-zero a)) in
    sym p ∙ (components-first r n (omega arith) (λ h. other (sym z ∙ h)) w b f
    ∙ ap (λ (v : List ℕ). take n r ∷ components v) (sym (take_rest r n)))

pub returns-clause-components : goal.returns-clause-components
returns-clause-components c =
    let t : List ℕ = c.args.text.now in
    let a : ℕ = c.leading_slashes-start.result in
    let l : a < length t = omega arith in
    first t a c.component_len-end.result (take (length t - a) (drop a t))
    (take_rest t a) l c.leading_slashes-start.ensures.before
    (c.leading_slashes-start.ensures.found l) c.component_len-end.ensures.within c.component_len-end.ensures.before
    c.component_len-end.ensures.found

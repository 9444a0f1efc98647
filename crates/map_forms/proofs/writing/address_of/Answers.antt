use Rattle.std.proofs.Common.{◌≡◌, ◌+◌, ◌<◌, ◌%◌, ◌^◌, ℕ, List, Some, subst, ◌∙◌, ap}
use Rattle.rom_tree.specs.Tree.{places_of}
use Rattle.rom_tree.specs.Runs.{IsLongest}
use Rattle.map_forms.proofs.Whole.{whole_address, no_address}
use Rattle.map_forms.proofs.writing.address_of.Goals as goal

pub returns-then-is_whole : goal.returns-then-is_whole
returns-then-is_whole g c = λ x e s.
    let ps : List ℕ = places_of x in
    let r = c.longest_run-place.result in
    let L : ℕ → Type 0 = λ v. IsLongest ps 0 v r.0 r.1 in
    let S : ℕ → Type 0 = λ v. 0 < v in
    let y = c.if-is_whole.ensures.yes in
    ap (λ (v : ℕ). Some ((c.args.base + v) % 2 ^ 64)) c.from-then-is_whole.ensures
    ∙ whole_address c.args.base ps r.0 r.1 (subst L (c.from.ensures ∙ s) (c.longest_run-place.ensures x e))
    (subst S s y.0) (y.1 ∙ s)

pub returns-else-is_whole : goal.returns-else-is_whole
returns-else-is_whole g c = λ x e s.
    let ps : List ℕ = places_of x in
    let r = c.longest_run-place.result in
    let L : ℕ → Type 0 = λ v. IsLongest ps 0 v r.0 r.1 in
    let N : ℕ → Type 0 = λ v. 0 < v → r.1 ≡ v → ⊥ in
    no_address c.args.base ps r.0 r.1 (subst L (c.from.ensures ∙ s) (c.longest_run-place.ensures x e))
    (subst N s c.if-is_whole.ensures.no)

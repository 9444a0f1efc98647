use Rattle.std.proofs.Common.{◌≡◌, ◌∷◌, [], ℕ, Bool, List, IfOk, nat_eq, string_bytes, refl, sym, ◌∙◌, ap}
use Rattle.std.specs.Cmp.Lexicographic.{pointwise}
use Rattle.std.proofs.lemmas.Result.{IfOk-weaker}
use Rattle.directory_walk.specs.Trees.{Tree, Name, name, level}
use Rattle.directory_walk.specs.Views.{IsListing, listed_names}
use Rattle.library_tests.proofs.Known.{known, is_top, is_within, top, within, inner, outer}
use Rattle.library_tests.proofs.lister.FixedLister.list.Goals as goal

abbrev test : List ℕ → Bool
test l = pointwise nat_eq l (116 ∷ [])

pub returns-then-eq-clause-known : goal.returns-then-eq-clause-known
returns-then-eq-clause-known c g is =
    let p = string_bytes c.args.directory.now.path in
    let seen = sym c.if-eq.true ∙ c.eq.ensures ∙ ap test c.as_str.ensures.value in
    let it = is_top test p g refl seen (known p g is) in
    IfOk-weaker c.outer.result
    (λ listed. listed_names listed.items ≡ level top outer)
    (λ listed. listed_names listed.items ≡ level p g)
    (λ listed same. same ∙ sym (ap (λ (q : List ℕ). level q outer) it.0) ∙ sym (ap (λ (h : Tree Bool). level p h) it.1))
    c.outer.ensures

pub returns-else-eq-clause-known : goal.returns-else-eq-clause-known
returns-else-eq-clause-known c g is =
    let p = string_bytes c.args.directory.now.path in
    let seen = sym c.if-eq.false ∙ c.eq.ensures ∙ ap test c.as_str.ensures.value in
    let it = is_within test p g refl seen (known p g is) in
    IfOk-weaker c.inner.result
    (λ listed. listed_names listed.items ≡ level within inner)
    (λ listed. listed_names listed.items ≡ level p g)
    (λ listed same. same ∙ sym (ap (λ (q : List ℕ). level q inner) it.0) ∙ sym (ap (λ (h : Tree Bool). level p h) it.1))
    c.inner.ensures

use Rattle.std.proofs.Common.{◌≡◌, ◌∙◌, ap, sym, subst, ℕ, List, Option}
use Rattle.rom_tree.specs.Image.{Image}
use Rattle.rom_tree.specs.declared.types.NodeId.{NodeId}
use Rattle.lookups.specs.Remembers.{Remembers, found_in}
use Rattle.lookups.proofs.Founds.{answer_found, found_answers}
use Rattle.lookups.proofs.Keys.{found-right, promoted-right, after_put}
use Rattle.lookups.proofs.cache.CachedTreeImage.lookup.Goals as goal

pub invariant_of-self-clause-right : goal.invariant_of-self-clause-right
invariant_of-self-clause-right g c =
    subst (λ (t : Image). Remembers (found_in t) c.args.self.now.kept.entries)
    (sym c.lookup.ensures.stays) c.args.self.now.right

pub invariant_of-self-in-Some-get-clause-right : goal.invariant_of-self-in-Some-get-clause-right
invariant_of-self-in-Some-get-clause-right g c =
    subst (λ l. Remembers (found_in (g.T.Viewed.image c.args.self.now.image)) l.entries)
    (sym c.get.follows.holds-at-none)
    (promoted-right _ _ _ c.args.self.now.right)

pub returns-in-Some-get-clause-found : goal.returns-in-Some-get-clause-found
returns-in-Some-get-clause-found g c =
    let m : Image = g.T.Viewed.image c.args.self.now.image in
    found_answers m c.args.d.0 c.args.name.now _
    (found-right (found_in m) _ _ _ c.args.d.0 c.args.name.now c.args.self.now.right
    (sym c.in-Some-get.ensures.value) c.in-Some.ensures.directory c.in-Some.ensures.name)

pub invariant_of-self-2-clause-right : goal.invariant_of-self-2-clause-right
invariant_of-self-2-clause-right g c =
    let m : Image = g.T.Viewed.image c.args.self.now.image in
    let find : ℕ → List ℕ → Option NodeId = found_in m in
    let before : Remembers find c.get.follows.lender-at-none.entries =
    subst (λ l. Remembers find l.entries) (sym c.get.follows.holds-at-none)
    (promoted-right find _ _ c.args.self.now.right) in
    let here : c.lookup-found.result ≡ find c.in-Some.key.directory c.in-Some.key.name.items =
    answer_found m c.args.d.0 c.args.name.now c.lookup-found.result c.requires c.lookup-found.ensures.found
    ∙ ap (λ d. find d c.args.name.now) (sym c.in-Some.ensures.directory)
    ∙ ap (find c.in-Some.key.directory) (sym c.in-Some.ensures.name) in
    subst (λ (t : Image). Remembers (found_in t) c.put.new.self.entries) (sym c.lookup-found.ensures.stays)
    (after_put find _ _ _ _ _ c.put.ensures.entries c.put.ensures.err before here)

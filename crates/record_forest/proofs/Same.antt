-- The forest from a reference on is determined by it.
use Rattle.std.proofs.Common.{◌≡◌, refl}
use Rattle.record_forest.specs.declared.reference.Reference.{Reference}
use Rattle.record_forest.specs.References.{References}
use Rattle.record_forest.specs.Forest.{Forest, none, at, Stands}

pub same_forest : (g : References) (x : Reference) (e f : Forest) → Stands g x e → Stands g x f → e ≡ f
same_forest g x none none s t = refl
same_forest g x none (at p own after) s t = cc
same_forest g x (at p own after) none s t = cc
same_forest g x (at p own after) (at q own' after') s t =
    let owns = same_forest g (g.own x) own own' s.1 t.1 in
    let afters = same_forest g (g.after x) after after' s.2 t.2 in
    cc

use Rattle.std.proofs.Common.{Ok, refl, sym, ap, ◌∙◌, subst, List, Option, true, ◌≡◌}
use Rattle.open_files.specs.declared.slot.OpenNode.{OpenNode}
use Rattle.open_files.specs.Calls.{give}
use Rattle.open_files.specs.Machine.{Table}
use Rattle.open_files.specs.Slots.{stands, are_sound, table_of, calls_of}
use Rattle.path_walk.specs.Graft.{MountedNode}
use Rattle.open_files.proofs.Tables.{stand-replicate, table-replicate}
use Rattle.open_files.proofs.OneSession.{view_of, still_sound, answers}
use Rattle.open_files.proofs.space.Space.close_all.Goals as goal

pub invariant_of-self-clause-sound : goal.invariant_of-self-clause-sound
invariant_of-self-clause-sound g c =
    let v = view_of c.args.self.now in
    let P : List (Option OpenNode) → Type 0 = λ z. are_sound v z ≡ true in
    still_sound c.args.self.now c.args.session c.requires.session refl refl c.new.result
    (subst P (sym c.new.ensures.blank) (stand-replicate (stands v) g.row.N))

pub returns-clause-reply : goal.returns-clause-reply
returns-clause-reply g c =
    let v = view_of c.args.self.now in
    answers c.args.self.now c.args.session c.requires.session refl refl c.new.result c.new.result
    (λ v t. (calls_of g.row.N v).close_all t) (Ok tt)
    (ap (λ (z : Table MountedNode). give tt z)
    (sym (ap (table_of v) c.new.ensures.blank ∙ table-replicate (stands v) g.row.N)))

use Rattle.std.proofs.Common.{Some, List, Option}
use Rattle.std.specs.Prelude.{option_map, MatchResult, MatchOption}
use Rattle.open_files.specs.Calls.{Of, Named, viewed}
use Rattle.open_files.specs.declared.slot.OpenNode.{OpenNode}
use Rattle.open_files.proofs.OneSession.{in_place}
use Rattle.path_walk.specs.Graft.{MountedNode}
use Rattle.open_files.specs.Slots.{View, calls_of, labelled, named_by, LeadsOn, IsPartThere, table_of}
use Rattle.open_files.proofs.OneSession.{still_sound, answers}
use Rattle.open_files.proofs.space.Space.readdir.Goals as goal

pub invariant_of-self-clause-sound : goal.invariant_of-self-clause-sound
invariant_of-self-clause-sound g c =
    still_sound c.args.self.now c.args.session c.requires.session c.new-images.ensures.images
    c.new-images.ensures.mounts c.readdir.new.slots c.readdir.ensures.sound

pub returns-clause-reply : goal.returns-clause-reply
returns-clause-reply g c =
    answers c.args.self.now c.args.session c.requires.session c.new-images.ensures.images c.new-images.ensures.mounts
    c.index-tables-session.result c.readdir.new.slots (λ v t. (calls_of g.row.N v).readdir t c.args.fd.0)
    (viewed (option_map {U = Of Named} (labelled Some named_by)) c.readdir.result) c.readdir.ensures.reply

pub returns-clause-cursor : goal.returns-clause-cursor
returns-clause-cursor g c =
    let E : View MountedNode → List (Option OpenNode) → Type 0 =
    λ v z. MatchResult c.readdir.result
    (λ r. MatchOption r (Unit {0}) (λ e. LeadsOn v (table_of v z) c.args.fd.0 e.0 e.1.cursor.0)) (λ e. Unit {0}) in
    in_place c.args.self.now c.args.session c.requires.session c.new-images.ensures.images c.new-images.ensures.mounts E
    c.readdir.new.slots c.readdir.ensures.cursor

pub returns-clause-part : goal.returns-clause-part
returns-clause-part g c =
    let E : View MountedNode → List (Option OpenNode) → Type 0 =
    λ v z. MatchResult c.readdir.result
    (λ r. MatchOption r (Unit {0}) (λ e. IsPartThere v (table_of v z) c.args.fd.0 e.1.name.now)) (λ e. Unit {0}) in
    in_place c.args.self.now c.args.session c.requires.session c.new-images.ensures.images c.new-images.ensures.mounts E
    c.readdir.new.slots c.readdir.ensures.part

use Rattle.std.proofs.Common.{refl, ℕ, ◌≡◌, Option, Some, None, ap, subst}
use Rattle.std.specs.Prelude.{option_map, MatchOption}
use Rattle.rom_tree.specs.declared.types.Entry.{Entry}
use Rattle.rom_tree.specs.Image.{LieIn}
use Rattle.open_files.specs.Calls.{Of, Named, viewed}
use Rattle.open_files.specs.Machine.{readdir_on}
use Rattle.open_files.specs.Slots.{labelled, named_by}
use Rattle.open_files.proofs.OneCall.{is_held, nothing_open, refuses, gives_of, gives_sound, entry_leads, name_there}
use Rattle.open_files.proofs.calls.readdir.Goals as goal

-- an entry as a reply, with the number of its image
abbrev reply : Option ℕ → Option Entry → Option (Of Named)
reply label entry = option_map (λ e. (label, named_by e)) entry

pub returns-in_err-opened-clause-reply : goal.returns-in_err-opened-clause-reply
returns-in_err-opened-clause-reply g c =
    let v = g.I.Served.view c.args.images.now in
    nothing_open (λ i b x p. readdir_on i x p) v c.args.slots.now.slots c.args.fd.0
    (viewed (option_map {U = Of Named} (labelled v.label named_by))) (λ e. refl)
    c.in_err-opened.ensures.slot c.from_residual.ensures.1

pub returns-in_err-entry-clause-reply : goal.returns-in_err-entry-clause-reply
returns-in_err-entry-clause-reply g c =
    let v = g.I.Served.view c.args.images.now in
    let k = is_held v c.requires c.in_ok-opened.ensures.slot c.image.ensures in
    let label = v.label c.in_ok-opened.opened.image in
    refuses (λ i b x p. readdir_on i x p) v k
    (viewed (option_map {U = Of Named} (labelled v.label named_by))) (λ e. refl) c.in_err-entry.field-0.0
    c.readdir.new.opened (λ o t. c.in_err-entry.ensures.moves o label t) c.from_residual-in_err-entry.ensures.1

pub returns-in-None-clause-reply : goal.returns-in-None-clause-reply
returns-in-None-clause-reply g c =
    let v = g.I.Served.view c.args.images.now in
    let k = is_held v c.requires c.in_ok-opened.ensures.slot c.image.ensures in
    let label = v.label c.in_ok-opened.opened.image in
    gives_of (λ i b x p. readdir_on i x p) v k c.readdir.new.opened c.set.ensures (reply label c.in_ok-entry.entry)
    (λ o t. c.in_ok-entry.ensures.moves o label t) (λ i. None) (ap (reply label) c.in-None.is)

pub returns-in-None-clause-sound : goal.returns-in-None-clause-sound
returns-in-None-clause-sound g c =
    let v = g.I.Served.view c.args.images.now in
    let k = is_held v c.requires c.in_ok-opened.ensures.slot c.image.ensures in
    let label = v.label c.in_ok-opened.opened.image in
    gives_sound (λ i b x p. readdir_on i x p) v k c.readdir.new.opened c.set.ensures (reply label c.in_ok-entry.entry)
    (λ o t. c.in_ok-entry.ensures.moves o label t)

pub returns-in-Some-clause-reply : goal.returns-in-Some-clause-reply
returns-in-Some-clause-reply g c =
    let v = g.I.Served.view c.args.images.now in
    let k = is_held v c.requires c.in_ok-opened.ensures.slot c.image.ensures in
    let label = v.label c.in_ok-opened.opened.image in
    gives_of (λ i b x p. readdir_on i x p) v k c.readdir.new.opened c.set.ensures (reply label c.in_ok-entry.entry)
    (λ o t. c.in_ok-entry.ensures.moves o label t) (λ i. Some (v.label i, named_by c.in-Some.entry))
    (ap (reply label) c.in-Some.is)

pub returns-in-Some-clause-sound : goal.returns-in-Some-clause-sound
returns-in-Some-clause-sound g c =
    let v = g.I.Served.view c.args.images.now in
    let k = is_held v c.requires c.in_ok-opened.ensures.slot c.image.ensures in
    let label = v.label c.in_ok-opened.opened.image in
    gives_sound (λ i b x p. readdir_on i x p) v k c.readdir.new.opened c.set.ensures (reply label c.in_ok-entry.entry)
    (λ o t. c.in_ok-entry.ensures.moves o label t)

pub returns-in-Some-clause-cursor : goal.returns-in-Some-clause-cursor
returns-in-Some-clause-cursor g c =
    let v = g.I.Served.view c.args.images.now in
    let k = is_held v c.requires c.in_ok-opened.ensures.slot c.image.ensures in
    let label = v.label c.in_ok-opened.opened.image in
    let P : Option Entry → Type 0 = λ z. MatchOption z (Unit {0}) (λ e. e.cursor.0 ≡ c.readdir.new.opened.position) in
    entry_leads v k c.readdir.new.opened c.set.ensures (reply label c.in_ok-entry.entry)
    (λ o t. c.in_ok-entry.ensures.moves o label t)
    c.in-Some.entry.cursor.0 (subst P c.in-Some.is c.in_ok-entry.ensures.cursor)

pub returns-in-Some-clause-part : goal.returns-in-Some-clause-part
returns-in-Some-clause-part g c =
    let v = g.I.Served.view c.args.images.now in
    let k = is_held v c.requires c.in_ok-opened.ensures.slot c.image.ensures in
    let label = v.label c.in_ok-opened.opened.image in
    let m = g.T.Viewed.image c.image.result.now in
    let P : Option Entry → Type 0 = λ z. MatchOption z (Unit {0}) (λ e. LieIn m.bytes e.name.now) in
    name_there v k c.readdir.new.opened c.set.ensures (reply label c.in_ok-entry.entry)
    (λ o t. c.in_ok-entry.ensures.moves o label t)
    c.in-Some.entry.name.now (subst P c.in-Some.is c.in_ok-entry.ensures.lies)

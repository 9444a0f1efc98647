use Rattle.std.proofs.Common.{None, refl, ap, ◌∙◌}
use Rattle.std.specs.Prelude.{is_some}
use Rattle.open_files.specs.declared.slot.OpenNode.{OpenNode}
use Rattle.open_files.specs.Slots.{stands, image_view}
use Rattle.rom_tree.specs.declared.types.Stat.{Stat}
use Rattle.rom_tree.specs.Image.{LieIn}
use Rattle.rom_tree.proofs.Named.{has_node}
use Rattle.image_check.specs.Any.{any_view}
use Rattle.rom_c.specs.Reported.{kind_number}
use Rattle.rom_c.proofs.Standing.{nothing_lies}
use Rattle.rom_c.proofs.Listed.{entry_there, kind_there, no_kind}
use Rattle.rom_c.proofs.lending.readdir_in.Goals as goal

pub returns-in-Ok-Some-clause-read : goal.returns-in-Ok-Some-clause-read
returns-in-Ok-Some-clause-read c = λ o h.
    let m = c.in-Ok-Some.ensures.moves o None h in
    rw m.1 ((refl, rw c.in-Ok-Some.field-0-is (refl, refl, refl)), m.2)

pub returns-in-Ok-Some-clause-stands : goal.returns-in-Ok-Some-clause-stands
returns-in-Ok-Some-clause-stands c =
    let m = c.in-Ok-Some.ensures.moves c.requires.0 None c.requires.1 in ap is_some m.2

pub returns-in-Ok-Some-clause-node : goal.returns-in-Ok-Some-clause-node
returns-in-Ok-Some-clause-node c =
    let m = c.in-Ok-Some.ensures.moves c.requires.0 None c.requires.1 in ap (λ n. n.0) m.4

pub returns-in-Ok-None-clause-read : goal.returns-in-Ok-None-clause-read
returns-in-Ok-None-clause-read c = λ o h.
    let m = c.in-Ok-None.ensures.moves o None h in
    let e = c.no_entry.ensures in
    rw m.1 ((refl, rw c.in-Ok-None.field-0-is (e.name, e.numbers.0, e.numbers.1, e.numbers.2)), m.2)

pub returns-in-Ok-None-clause-stands : goal.returns-in-Ok-None-clause-stands
returns-in-Ok-None-clause-stands c =
    let m = c.in-Ok-None.ensures.moves c.requires.0 None c.requires.1 in ap is_some m.2

pub returns-in-Ok-None-clause-node : goal.returns-in-Ok-None-clause-node
returns-in-Ok-None-clause-node c =
    let m = c.in-Ok-None.ensures.moves c.requires.0 None c.requires.1 in ap (λ n. n.0) m.4

pub returns-in-Err-clause-stands : goal.returns-in-Err-clause-stands
returns-in-Err-clause-stands c =
    let m = c.in-Err.ensures.moves c.requires.0 None c.requires.1 in
    ap (λ (z : OpenNode). is_some (stands (image_view (any_view c.args.image.now)) z)) m.1 ∙ ap is_some c.requires.1

pub returns-in-Err-clause-node : goal.returns-in-Err-clause-node
returns-in-Err-clause-node c =
    let m = c.in-Err.ensures.moves c.requires.0 None c.requires.1 in ap (λ (z : OpenNode). z.node.0) m.1

pub returns-in-Ok-Some-clause-lies : goal.returns-in-Ok-Some-clause-lies
returns-in-Ok-Some-clause-lies c =
    let h : LieIn (any_view c.args.image.now).bytes c.in-Ok-Some.found.name.now =
    rw c.in-Ok-Some.field-0-is at c.in-Ok-Some.ensures.lies in
    h

pub returns-in-Ok-None-clause-lies : goal.returns-in-Ok-None-clause-lies
returns-in-Ok-None-clause-lies c = nothing_lies _ _ c.no_entry.ensures.name

pub returns-in-Err-clause-lies : goal.returns-in-Err-clause-lies
returns-in-Err-clause-lies c = nothing_lies _ _ c.no_entry-in-Err.ensures.name

pub stat-requires : goal.stat-requires
stat-requires c =
    let m = any_view c.args.image.now in
    let o = c.requires.0 in
    let w = c.in-Ok-Some.ensures.moves o None c.requires.1 in
    let y = entry_there m c.args.opened.now o c.in-Ok-Some.field-0 c.in-Ok-Some.found c.requires.1 w.0 w.1
    c.in-Ok-Some.field-0-is in
    has_node m c.in-Ok-Some.found.node.0 y.0 y.1

pub returns-in-Ok-Some-clause-kind : goal.returns-in-Ok-Some-clause-kind
returns-in-Ok-Some-clause-kind c =
    let m = any_view c.args.image.now in
    let o = c.requires.0 in
    let w = c.in-Ok-Some.ensures.moves o None c.requires.1 in
    let y = entry_there m c.args.opened.now o c.in-Ok-Some.field-0 c.in-Ok-Some.found c.requires.1 w.0 w.1
    c.in-Ok-Some.field-0-is in
    λ s. kind_there m c.in-Ok-Some.found.node.0 y.0 c.number_of.result y.1
    (c.number_of.ensures ∙ ap (λ (v : Stat). kind_number v.kind) (c.stat.ensures y.0 y.1))

pub returns-in-Ok-None-clause-kind : goal.returns-in-Ok-None-clause-kind
returns-in-Ok-None-clause-kind c =
    no_kind (any_view c.args.image.now).tree c.no_entry.result c.no_entry.ensures.numbers.1

pub returns-in-Err-clause-kind : goal.returns-in-Err-clause-kind
returns-in-Err-clause-kind c =
    no_kind (any_view c.args.image.now).tree c.no_entry-in-Err.result c.no_entry-in-Err.ensures.numbers.1

use Rattle.std.proofs.Common.{◌≡◌, Bool, None, sym, subst, ap, ◌∙◌}
use Rattle.std.specs.Prelude.{if◌then◌else◌}
use Rattle.open_files.specs.Machine.{map_on}
use Rattle.open_files.proofs.Standing.{node_asks}
use Rattle.open_files.proofs.OneNode.{node_here}
use Rattle.image_check.specs.Any.{any_view}
use Rattle.rom_c.specs.Outcomes.{place_reported}
use Rattle.rom_c.specs.Reported.{no_place}
use Rattle.rom_c.proofs.lending.map_in.Goals as goal

pub asks_nothing-requires : goal.asks_nothing-requires
asks_nothing-requires c = node_asks (any_view c.args.image.now) c.args.opened c.requires

pub returns-then-asks_nothing : goal.returns-then-asks_nothing
returns-then-asks_nothing c = λ o h.
    let e = c.asks_nothing.ensures o.place (node_here (any_view c.args.image.now) c.args.opened o h) in
    rw (sym e ∙ c.if-asks_nothing.true) c.no_place.ensures

pub returns-in-Err : goal.returns-in-Err
returns-in-Err c = λ o h.
    let m = any_view c.args.image.now in
    let e = c.asks_nothing.ensures o.place (node_here m c.args.opened o h) in
    let P : Bool → Type 0 = λ b. c.no_place-in-Err.result
    ≡ (if b then no_place 0
    else place_reported (map_on None m.bytes c.args.off c.args.len o.place o.position)) in
    subst P (sym c.if-asks_nothing.false ∙ e)
    (c.no_place-in-Err.ensures ∙ (ap no_place c.number.ensures ∙ sym (ap place_reported (c.in-Err.ensures o None h))))

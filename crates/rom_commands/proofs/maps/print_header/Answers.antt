use Rattle.std.proofs.Common.{ℕ, Bool, List, subst, sym}
use Rattle.rom_tree.specs.Image.{Image}
use Rattle.map_forms.specs.declared.form.Form.TheVariants.{Header}
use Rattle.rom_commands.specs.declared.ending.Ending.{Ending}
use Rattle.rom_commands.specs.Ends.{Writes}
use Rattle.rom_commands.specs.Texts.{IsMap, StopsMap}
use Rattle.rom_commands.proofs.Closed.{closed}
use Rattle.rom_commands.proofs.Mapped.{map_written}
use Rattle.rom_commands.proofs.maps.print_header.Goals as goal

pub returns : goal.returns
returns g c =
    let m : Image = g.T.Viewed.image c.args.image.now in
    let chosen : List ℕ → Bool = g.C.Choice.chosen c.args.choice.now in
    let Refuses : Type 0 = g.C.Choice.refuses c.args.choice.now in
    let old = g.W.ByteWrite.output c.args.out.now in
    let mid = g.W.ByteWrite.output c.write_header.new.w in
    let e = c.write_header.ensures in
    let P : Ending → Type 0 = λ v. Writes (IsMap Header chosen c.args.prefix.now c.args.base m)
    (StopsMap Header chosen Refuses c.args.prefix.now c.args.base m) old mid v in
    closed (IsMap Header chosen c.args.prefix.now c.args.base m)
    (StopsMap Header chosen Refuses c.args.prefix.now c.args.base m)
    old mid (g.W.ByteWrite.output c.end.new.out) (g.E.ByteWrite.output c.args.err.now)
    (g.E.ByteWrite.output c.end.new.err) c.end.result c.end.ensures.kept c.ending_of-printed.result
    (subst P (sym c.ending_of-printed.ensures) (map_written Header chosen Refuses c.args.prefix.now c.args.base m old
    mid c.write_header.result e.ok e.err e.long e.memory e.quiet e.rose e.still e.spared))
    c.end.ensures.ends

use Rattle.std.proofs.Common.{subst}
use Rattle.rom_fields.specs.Written.{Puts, Sink, sink}
use Rattle.rom_fields.proofs.Joins.{chain}
use Rattle.rom_tree.specs.Image.{Image}
use Rattle.rom_tree.specs.declared.types.Stat.{Stat}
use Rattle.rom_tree.specs.Listing.{line, stat_line, target_text}
use Rattle.rom_fields.specs.Texts.{escaped}
use Rattle.rom_tree.specs.Walks.{given_path}
use Rattle.rom_tree.proofs.line.put_line.Goals as goal

pub returns : goal.returns
unfolding line stat_line
returns g c = λ x e.
    let m : Image = g.T.Viewed.image c.args.image.now in
    let from : Sink = sink (g.W.ByteWrite.output c.args.w.now) c.args.failed.now in
    let to : Sink = sink (g.W.ByteWrite.output c.put-2.new.w) c.put-2.new.failed in
    let P : Stat → Type 0 =
    λ v. Puts from to (stat_line (escaped (given_path c.args.walk.now)) (target_text m.bytes x) v) in
    subst P (c.stat.ensures x e)
    (chain c.put_stat.ensures (chain c.put.ensures
    (chain c.put_path.ensures (chain (c.put_target.ensures x e) c.put-2.ensures))))

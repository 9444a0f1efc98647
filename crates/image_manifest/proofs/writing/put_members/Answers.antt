use Rattle.std.proofs.Common.{List, refl, arith}
use Rattle.manifest.specs.declared.line.Line.{Line}
use Rattle.rom_fields.specs.Written.{Sink, sink}
use Rattle.rom_tree.specs.Image.{Image}
use Rattle.rom_tree.proofs.Named.{has_node}
use Rattle.image_manifest.specs.Lines.{member_lines}
use Rattle.image_manifest.proofs.Lined.{lined, all_short, as_many_lines, and_line, all_lines}
use Rattle.image_manifest.proofs.writing.put_members.Goals as goal

pub put_member-requires : goal.put_member-requires
put_member-requires g c κs =
    let m : Image = g.T.Viewed.image c.args.image.now in
    let is = lined m c.args.rules c.args.members.now c.loop-index.index _ c.requires c.loop-index-test.true in (
      (refl, tt),
      (
        has_node m _ is.node is.at,
        (is.first, (c.loop-index-test.true, all_short m c.args.members.now c.requires)),
      ),
    )

pub loop-index-preserved : goal.loop-index-preserved
loop-index-preserved g c =
    let m : Image = g.T.Viewed.image c.args.image.now in
    let is = lined m c.args.rules c.args.members.now c.loop-index.index _ c.requires c.loop-index-test.true in
    let r : Sink = sink (g.W.ByteWrite.output c.args.w.now) c.args.failed.now in
    let s : Sink = sink (g.W.ByteWrite.output c.loop-index.w) c.loop-index.failed in
    let t : Sink = sink (g.W.ByteWrite.output c.put_member.new.w) c.put_member.new.failed in
    and_line {r = r} {s = s} {t = t} (member_lines m c.args.rules) c.loop-index.index _ is.within is.line
    c.loop-index.invariant (c.put_member.ensures is.node is.at)

pub returns : goal.returns
returns g c =
    let m : Image = g.T.Viewed.image c.args.image.now in
    let ls : List Line = member_lines m c.args.rules in
    let s : Sink = sink (g.W.ByteWrite.output c.args.w.now) c.args.failed.now in
    let t : Sink = sink (g.W.ByteWrite.output c.loop-index.w) c.loop-index.failed in
    all_lines {s = s} {t = t} ls c.loop-index.index
    (omega (
      arith,
      as_many_lines m c.args.rules c.args.members.now c.requires,
      c.loop-index-test.false,
    )) c.loop-index.invariant

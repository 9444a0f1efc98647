use Rattle.std.proofs.Common.{length, ap, arith}
use Rattle.rom_c.specs.Held.{romfs_parts, cramfs_parts}
use Rattle.rom_c.proofs.Fronts.{romfs_within, cramfs_within, long_romfs, long_cramfs}
use Rattle.rom_c.proofs.volume.romtool_volume_v3.Goals as goal

pub returns-then-image-eq-ROMFS-clause-within : goal.returns-then-image-eq-ROMFS-clause-within
returns-then-image-eq-ROMFS-clause-within c = λ z.
    let i = c.args.image.now in
    let h = long_romfs i.bytes.now (romfs_parts i.accessible i.root i.references i.depth)
    (i.romfs z c.if-image-eq-ROMFS.true) in
    let w = romfs_within i.bytes.now h in
    let l = ap length c.volume.ensures in
    omega (arith, w, l)

pub cramfs_volume-requires : goal.cramfs_volume-requires
cramfs_volume-requires c =
    let i = c.args.image.now in
    long_cramfs i.bytes.now (cramfs_parts i.format i.accessible i.references i.depth)
    (i.cramfs c.if-image-ne-OPEN.false c.if-image-eq-ROMFS.false)

pub returns-clause-within : goal.returns-clause-within
returns-clause-within c = λ z.
    let i = c.args.image.now in
    let h = long_cramfs i.bytes.now (cramfs_parts i.format i.accessible i.references i.depth)
    (i.cramfs z c.if-image-eq-ROMFS.false) in
    let w = cramfs_within i.bytes.now h in
    let l = ap length c.cramfs_volume.ensures in
    omega (arith, w, l)

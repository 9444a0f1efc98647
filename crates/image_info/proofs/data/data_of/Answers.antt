use Rattle.std.proofs.Common.{◌∙◌, ◌+◌, ◌<◌, ◌≤◌, ℕ, List, ap, sym, subst, length, take}
use Rattle.rom_tree.specs.Image.{Image}
use Rattle.rom_tree.specs.declared.types.Stat.{Stat}
use Rattle.romfs_format.specs.Record.{name_of, end_of}
use Rattle.cramfs_format.specs.Inode.{offset_of}
use Rattle.image_check.specs.Any.{any_view}
use Rattle.image_info.proofs.Located.{romfs_known, romfs_located, cramfs_known, cramfs_located}
use Rattle.image_info.proofs.data.data_of.Goals as goal

pub end_at-start-requires-clause-name : goal.end_at-start-requires-clause-name
end_at-start-requires-clause-name c =
    let m : Image = any_view c.args.image.now in
    let p = c.in-Romfs.parts in
    let n : ℕ = c.args.n.0 in
    let k = romfs_known m c.args.parts n c.requires.parts c.requires.tree p c.in-Romfs.is c.requires.node in
    let P : List ℕ → Type 0 = λ v. n + 16 + length (name_of (take p.accessible v) n) < length (take p.accessible v) in
    subst P (sym c.bytes-all.ensures) k.sound.name_ends

pub end_at-start-requires-clause-within : goal.end_at-start-requires-clause-within
end_at-start-requires-clause-within c =
    let m : Image = any_view c.args.image.now in
    let p = c.in-Romfs.parts in
    let n : ℕ = c.args.n.0 in
    let k = romfs_known m c.args.parts n c.requires.parts c.requires.tree p c.in-Romfs.is c.requires.node in
    let P : List ℕ → Type 0 = λ v. end_of (take p.accessible v) n ≤ length (take p.accessible v) in
    subst P (sym c.bytes-all.ensures) k.sound.within

pub offset_at-start-requires : goal.offset_at-start-requires
offset_at-start-requires c =
    let m : Image = any_view c.args.image.now in
    let p = c.in-Cramfs.parts in
    let n : ℕ = c.args.n.0 in
    let k = cramfs_known m c.args.parts n c.requires.parts c.requires.tree p c.in-Cramfs.is c.requires.node in
    let P : List ℕ → Type 0 = λ v. n + 12 ≤ length (take p.accessible v) in
    subst P (sym c.bytes-all.ensures) k.header

pub returns-in-Romfs : goal.returns-in-Romfs
returns-in-Romfs c = λ x i.
    let m : Image = any_view c.args.image.now in
    let p = c.in-Romfs.parts in
    let n : ℕ = c.args.n.0 in
    let z = ap (λ (s : Stat). s.size) (c.stat-size.ensures x i) in
    romfs_located m c.args.parts n c.requires.parts c.requires.tree p c.in-Romfs.is x c.end_at-start.result
    c.stat-size.result.size i
    (c.end_at-start.ensures ∙ ap (λ (v : List ℕ). end_of (take p.accessible v) n) c.bytes-all.ensures) z

pub returns-in-Cramfs : goal.returns-in-Cramfs
returns-in-Cramfs c = λ x i.
    let m : Image = any_view c.args.image.now in
    let p = c.in-Cramfs.parts in
    let n : ℕ = c.args.n.0 in
    let z = ap (λ (s : Stat). s.size) (c.stat-size.ensures x i) in
    cramfs_located m c.args.parts n c.requires.parts c.requires.tree p c.in-Cramfs.is x c.offset_at-start.result
    c.stat-size.result.size i
    (c.offset_at-start.ensures.offset
    ∙ ap (λ (v : List ℕ). offset_of p.order (take p.accessible v) n) c.bytes-all.ensures) z

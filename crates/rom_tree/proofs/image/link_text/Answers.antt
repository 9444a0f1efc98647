use Rattle.std.proofs.Common.{◌≡◌, ℕ, ◌≤◌, ◌+◌, take, drop, length, ap, ◌∙◌, subst, refl, arith, List}
use Rattle.rom_tree.specs.declared.types.Run.{Run}
use Rattle.rom_tree.specs.Tree.{places_of}
use Rattle.rom_tree.specs.Image.{Image, IsRun, contents_of}
use Rattle.rom_tree.proofs.Named.{link_by, same_node}
use Rattle.rom_tree.proofs.Rows.{row_end, run_bytes}
use Rattle.rom_tree.proofs.image.link_text.Goals as goal

pub bytes_from-requires : goal.bytes_from-requires
bytes_from-requires g c =
    let m : Image = g.T.Viewed.image c.args.image.now in
    let link = link_by m c.args.n.0 c.requires in
    let run : Run = c.in-Some.run' in
    let is_run : IsRun (places_of link.0) 0 run = c.in-Some.ensures.row link.0 link.1 in
    let fits : run.place + run.len ≤ length m.bytes = row_end m c.args.n.0 link.0 0 run link.1 is_run in
    let bytes : c.bytes-bytes.result.now ≡ m.bytes = c.bytes-bytes.ensures in
    let r : run.place + run.len ≤ length c.bytes-bytes.result.now = omega (arith, ap length bytes) in
    r

pub returns-in-Some : goal.returns-in-Some
returns-in-Some g c = λ y d.
    let m : Image = g.T.Viewed.image c.args.image.now in
    let link = link_by m c.args.n.0 c.requires in
    let run : Run = c.in-Some.run' in
    let is_run : IsRun (places_of link.0) 0 run = c.in-Some.ensures.row link.0 link.1 in
    let whole : run.len ≡ length (places_of link.0) = c.in-Some.ensures.whole link.0 link.1 link.2 refl in
    let text : take run.len (drop run.place m.bytes) ≡ contents_of m.bytes link.0 =
    run_bytes m c.args.n.0 link.0 run link.1 is_run whole in
    let P : List ℕ → Type 0 = λ v. c.bytes_from.result.now ≡ v in
    let Q : List ℕ → Type 0 = λ v. c.bytes_from.result.now ≡ take run.len (drop run.place v) in
    subst P (text ∙ ap (contents_of m.bytes) (same_node m c.args.n.0 link.0 y link.1 d))
    (subst Q c.bytes-bytes.ensures c.bytes_from.ensures)

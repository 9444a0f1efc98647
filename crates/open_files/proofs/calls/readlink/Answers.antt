use Rattle.std.proofs.Common.{◌≡◌, Some, Bool, true, false, refl, sym, ap, ◌∙◌}
use Rattle.rom_tree.specs.Tree.{is_link}
use Rattle.rom_tree.specs.Image.{image_node}
use Rattle.rom_tree.proofs.Named.{has_link}
use Rattle.open_files.specs.Machine.{read_link}
use Rattle.open_files.proofs.calls.readlink.Goals as goal

pub link_piece-requires : goal.link_piece-requires
link_piece-requires g c κs =
    let v = g.I.Served.view c.args.images.now in
    let x = v.names.node c.requires.0 in
    let m = g.T.Viewed.image c.image-holder.result.now in
    let e : image_node m c.args.node.0 ≡ Some x = c.image-holder.ensures.node c.args.node.0 c.requires.0 c.requires.1 in
    let l : is_link x ≡ true = sym (c.is_link_at.ensures x e) ∙ c.if-not-is_link_at.false in
    ((refl, tt), has_link m c.args.node.0 x e l)

pub returns-then-not-is_link_at : goal.returns-then-not-is_link_at
returns-then-not-is_link_at g c = λ x t h.
    let v = g.I.Served.view c.args.images.now in
    let n = v.names.node x in
    let l : is_link n ≡ false =
    sym (c.is_link_at.ensures n (c.image-holder.ensures.node c.args.node.0 x h)) ∙ c.if-not-is_link_at.true in
    ap (λ (b : Bool). read_link (v.number x) (v.names.bytes x) t n b) l

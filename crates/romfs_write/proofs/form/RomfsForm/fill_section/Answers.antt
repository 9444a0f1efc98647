use Rattle.std.proofs.Common.{◌≡◌, List, length, sym, ap, subst, ◌∙◌, arith}
use Rattle.std.proofs.lemmas.List.{length-map}
use Rattle.manifest_tree.specs.Items.{Item}
use Rattle.manifest_tree.specs.Bodies.{item_at}
use Rattle.manifest_layout.specs.declared.section.Body as code_body
use Rattle.manifest_layout.specs.Views.{item_view, body_view}
use Rattle.romfs_layout.specs.Layout.{record_len}
use Rattle.romfs_write.specs.Known.{IsBody}
use Rattle.romfs_write.proofs.Indexed.{item_seen, record_is_long}
use Rattle.romfs_write.proofs.form.RomfsForm.fill_section.Goals as goal

pub fill_record-requires-clause-within : goal.fill_record-requires-clause-within
fill_record-requires-clause-within c =
    let p = c.args.self.now.plan.now in
    let s = c.args.section in
    let k = c.in-Record.item in
    let xs = c.items.result.now in
    let r = c.index-items-item.result in
    let b = subst (λ (b : code_body.Body). IsBody p.items p.sizes s.len (body_view b)) c.in-Record.is c.requires.body in
    let n : length xs ≡ length p.items = sym (length-map xs item_view) ∙ ap length c.items.ensures in
    let low = b.0 in
    let seen = ap (λ (is : List Item). item_at is k) (sym c.items.ensures) ∙ item_seen xs k r (omega (arith, n, low))
    ∙ ap item_view (sym c.index-items-item.is) in
    let long : record_len r.name ≡ s.len =
    ap (λ (i : Item). record_len i.name) (sym seen) ∙ record_is_long p.items p.sizes s.len k b in
    let w = c.requires.within in
    omega (arith, long, w)

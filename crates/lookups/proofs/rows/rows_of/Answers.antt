use Rattle.std.proofs.Common.{◌∙◌, rules, List, subst, sym}
use Rattle.std.proofs.lemmas.List.Sorted.{answers_always}
use Rattle.rom_tree.specs.Image.{Image}
use Rattle.rom_tree.specs.declared.types.Entry.{Entry}
use Rattle.lookups.specs.declared.rows.NamedNode.{NamedNode}
use Rattle.lookups.specs.Indices.{IsIndexOf, entries_in}
use Rattle.lookups.proofs.Firsts.{first_kept}
use Rattle.lookups.proofs.Lists.{is_next, is_last, fewer, knows_more, knows_end}
use Rattle.lookups.proofs.rows.rows_of.Goals as goal

pub loop-entry-smaller : goal.loop-entry-smaller
loop-entry-smaller g c =
    let m : Image = g.T.Viewed.image c.args.image.now in
    let e : Entry = c.in-Some.entry in
    fewer m c.args.d.0 c.loop-entry.cursor.0 e
    (is_next m c.args.d.0 c.loop-entry.cursor.0 e c.requires c.loop-entry.invariant.cursor c.in-Some.ensures)

pub loop-entry-preserved : goal.loop-entry-preserved
loop-entry-preserved g c =
    let m : Image = g.T.Viewed.image c.args.image.now in
    let e : Entry = c.in-Some.entry in
    knows_more m c.args.d.0 c.loop-entry.cursor.0 c.loop-entry.rows.items e c.push.new.self.items c.loop-entry.invariant
    (is_next m c.args.d.0 c.loop-entry.cursor.0 e c.requires c.loop-entry.invariant.cursor c.in-Some.ensures)
    c.in_ok-push.ensures.items

pub returns : goal.returns
returns g c =
    let m : Image = g.T.Viewed.image c.args.image.now in
    let rows : List NamedNode = c.loop-entry.rows.items in
    let none =
    is_last m c.args.d.0 c.loop-entry.cursor.0 c.requires c.loop-entry.invariant.cursor c.in_default.ensures in
    let e = c.in_ok-sort_by_key.ensures in
    subst (IsIndexOf (entries_in m c.args.d.0)) (sym c.shrink_to_fit.ensures.items) (
      e.sorted (λ (x : NamedNode). x.name) (answers_always _ _ _ (λ f a r k called. search rules)),
      λ name. first_kept rows c.sort_by_key.new.self.items name
          (e.stable (λ (x : NamedNode). x.name) (answers_always _ _ _ (λ f a r k called. search rules)))
          ∙ knows_end m c.args.d.0 c.loop-entry.cursor.0 rows name c.loop-entry.invariant none,
    )

use Rattle.std.proofs.Common.{◌+◌, ◌++◌, ℕ, List, length, map, replicate, sym, ap, ◌∙◌}
use Rattle.std.proofs.lemmas.List.{length-map}
use Rattle.manifest_tree.specs.Items.{Item}
use Rattle.manifest_layout.specs.declared.item.Item as code_item
use Rattle.manifest_layout.specs.Views.{item_view}
use Rattle.plan_rows.specs.Rows.{inode_view, row_view}
use Rattle.romfs_layout.specs.Items.{item_of}
use Rattle.romfs_layout.specs.Layout.{root_at}
use Rattle.romfs_plan.specs.Passes.{named_places}
use Rattle.romfs_plan.specs.Headers.{root_headers, headers_of, noted, first_of, IsFineRow}
use Rattle.romfs_plan.proofs.Fine.{fine_rows, near_places, few_rows, each_fit}
use Rattle.romfs_plan.proofs.Lists.{each}
use Rattle.romfs_plan.proofs.Walked.{length-named, first_is, whole}
use Rattle.romfs_plan.proofs.item_list.items.Goals as goal

pub places_of-requires-clause-fit : goal.places_of-requires-clause-fit
places_of-requires-clause-fit c =
    let p = c.requires.planned in
    each_fit c.args.rows.now (each IsFineRow row_view c.args.rows.now
    (fine_rows c.args.volume.now (inode_view c.args.root.now) p.0 p.1 c.args.rows.now p.2 p.3))

pub places_of-requires-clause-shallow : goal.places_of-requires-clause-shallow
places_of-requires-clause-shallow c = λ k d l.
    let p = c.requires.planned in
    (each IsFineRow row_view c.args.rows.now
    (fine_rows c.args.volume.now (inode_view c.args.root.now) p.0 p.1 c.args.rows.now p.2 p.3) k d l).1

pub places_of-requires-clause-few : goal.places_of-requires-clause-few
places_of-requires-clause-few c =
    let p = c.requires.planned in
    few_rows c.args.volume.now (inode_view c.args.root.now) p.0 p.1 c.args.rows.now p.2 p.3

pub lines_of-requires-clause-places : goal.lines_of-requires-clause-places
lines_of-requires-clause-places c =
    let p = c.requires.planned in
    ap length (c.deref.ensures.value ∙ c.in_ok-places.ensures.named p.0 p.2 p.3.shallow)
    ∙ length-named 1 (c.root_at-at.result + 64) p.0
    ∙ sym (ap length p.2) ∙ length-map c.args.rows.now row_view

pub lines_of-requires-clause-near : goal.lines_of-requires-clause-near
lines_of-requires-clause-near c =
    let p = c.requires.planned in
    let at = ap (λ (k : ℕ). named_places (k + 64) p.0) c.root_at-at.ensures.root in
    near_places c.args.volume.now (inode_view c.args.root.now) p.0 p.1 c.deref.result.now p.3
    (c.deref.ensures.value ∙ c.in_ok-places.ensures.named p.0 p.2 p.3.shallow ∙ at)

pub first_of-requires : goal.first_of-requires
first_of-requires c =
    let p = c.requires.planned in
    let at = ap (λ (k : ℕ). named_places (k + 64) p.0) c.root_at-at.ensures.root in
    near_places c.args.volume.now (inode_view c.args.root.now) p.0 p.1 c.deref-2.result.now p.3
    (c.deref-2.ensures.value ∙ c.in_ok-places.ensures.named p.0 p.2 p.3.shallow ∙ at)

pub push_rows-requires-clause-rows : goal.push_rows-requires-clause-rows
push_rows-requires-clause-rows c =
    let p = c.requires.planned in
    each IsFineRow row_view c.args.rows.now
    (fine_rows c.args.volume.now (inode_view c.args.root.now) p.0 p.1 c.args.rows.now p.2 p.3)

pub push_rows-requires-clause-places : goal.push_rows-requires-clause-places
push_rows-requires-clause-places c =
    let p = c.requires.planned in
    ap length (c.deref-3.ensures.value ∙ c.in_ok-places.ensures.named p.0 p.2 p.3.shallow)
    ∙ length-named 1 (c.root_at-at.result + 64) p.0
    ∙ sym (ap length p.2) ∙ length-map c.args.rows.now row_view

pub push_rows-requires-clause-near : goal.push_rows-requires-clause-near
push_rows-requires-clause-near c =
    let p = c.requires.planned in
    let at = ap (λ (k : ℕ). named_places (k + 64) p.0) c.root_at-at.ensures.root in
    near_places c.args.volume.now (inode_view c.args.root.now) p.0 p.1 c.deref-3.result.now p.3
    (c.deref-3.ensures.value ∙ c.in_ok-places.ensures.named p.0 p.2 p.3.shallow ∙ at)

pub returns : goal.returns
returns c = λ n cs e p.
    let volume = c.args.volume.now in
    let root = inode_view c.args.root.now in
    let r = c.root_at-at.result in
    let stand = c.in_ok-places.ensures.named n e p.shallow
    ∙ ap (λ (k : ℕ). named_places (k + 64) n) c.root_at-at.ensures.root in
    let first = c.first_of.ensures ∙ ap first_of (c.deref-2.ensures.value ∙ stand) ∙ first_is (root_at volume + 64) n in
    let rest = map item_of (headers_of (noted c.in_ok-lines.lines) (replicate 66 r)
    (map row_view c.args.rows.now) c.deref-3.result.now) in
    let own = map item_of (root_headers r c.first_of.result root) in
    c.in_ok-push_rows.ensures
    ∙ ap (λ (xs : List Item). xs ++ rest)
    (c.in_ok-push_root.ensures ∙ ap (λ (xs : List code_item.Item). map item_view xs
    ++ own) c.new-found.ensures.items)
    ∙ whole volume root n (map row_view c.args.rows.now) c.deref-3.result.now c.deref.result.now
    (noted c.in_ok-lines.lines) r c.first_of.result p.shallow e
    c.root_at-at.ensures.root (c.deref-3.ensures.value ∙ stand)
    (c.deref.ensures.value ∙ stand) c.in_ok-lines.ensures first

use Rattle.std.proofs.Common.{[], ◌∷◌, ◌++◌, map, sym, ap, ◌∙◌}
use Rattle.std.proofs.lemmas.List.{map-append}
use Rattle.manifest_layout.specs.Views.{item_view}
use Rattle.plan_rows.specs.Rows.{what_view, inode_view}
use Rattle.romfs_layout.specs.Items.{item_of}
use Rattle.romfs_layout.specs.Layout.{header_alone}
use Rattle.romfs_plan.specs.Headers.{noted, headers_by}
use Rattle.romfs_plan.proofs.headers.push_row.Goals as goal

pub returns-in_ok-push-in-Link : goal.returns-in_ok-push-in-Link
returns-in_ok-push-in-Link c =
    let p = c.args.place in
    let row = c.args.row.now in
    let found = c.args.found.now.items in
    let h = c.header_alone.result in
    let at = c.place_of-target.ensures in
    ap (map item_view) c.in_ok-push-in-Link.ensures.items ∙ map-append item_view found (h ∷ [])
    ∙ ap (λ v. map item_view found ++ v ∷ [])
    (c.header_alone.ensures ∙ ap (λ n. item_of
    (header_alone p.at p.next c.place_of-target.result n)) c.in_ok-name-in-Link.ensures
    ∙ ap (λ k. item_of (header_alone p.at p.next k row.name.now)) at)
    ∙ ap (λ w. map item_view found ++ map item_of
    (headers_by (noted c.args.lines.now) c.args.dir row.name.now (what_view w (inode_view row.inode)) p))
    (sym c.in-Link.is)

pub returns-in_ok-push_directory-in-Directory : goal.returns-in_ok-push_directory-in-Directory
returns-in_ok-push_directory-in-Directory c =
    let row = c.args.row.now in
    c.in_ok-push_directory-in-Directory.ensures
    ∙ ap (λ w. map item_view c.args.found.now.items
    ++ map item_of (headers_by (noted c.args.lines.now) c.args.dir row.name.now
    (what_view w (inode_view row.inode)) c.args.place))
    (sym c.in-Directory.is)

use Rattle.std.proofs.Common.{◌≡◌, ◌-◌, Bool, refl, sym, subst, ◌∙◌, arith}
use Rattle.std.specs.Prelude.{min, if◌then◌else◌}
use Rattle.rom_tree.specs.Tree.{entries_of, entry_count}
use Rattle.rom_tree.proofs.Named.{start_cursor}
use Rattle.open_files.proofs.Standing.{node_asks}
use Rattle.open_files.proofs.OneNode.{node_here, index_here, entry_asks}
use Rattle.image_check.specs.Any.{any_view}
use Rattle.rom_c.proofs.Entries.{count_left}
use Rattle.rom_c.proofs.Trees.{fewer_entries}
use Rattle.rom_c.proofs.directories.telldir_in.Goals as goal

pub is_directory_at-requires : goal.is_directory_at-requires
is_directory_at-requires c = λ κs. ((refl, tt), node_asks (any_view c.args.image.now) c.args.opened c.requires.open)

pub returns-then-not-is_directory_at : goal.returns-then-not-is_directory_at
returns-then-not-is_directory_at c = λ o h.
    let e = c.is_directory_at.ensures o.place (node_here (any_view c.args.image.now) c.args.opened o h) in
    let P : Bool → Type 0 = λ b. 0 ≡ (if b then min o.position (entry_count (entries_of o.place)) else 0) in
    subst P (sym c.if-not-is_directory_at.true ∙ e) refl

pub count_from-all-requires : goal.count_from-all-requires
count_from-all-requires c =
    let m = any_view c.args.image.now in
    let s = c.args.opened in
    let o = c.requires.open.0 in
    let h = c.requires.open.1 in
    let here = node_here m s o h in
    let l = count_left m s.node.0 0 o.place 0 here (m.starts s.node.0) in
    let f = fewer_entries m.tree o.place s.node.0 here in
    let few = c.requires.few in
    record {
      directory = (entry_asks m s o h c.is_directory_at.ensures c.if-not-is_directory_at.false).0;
      cursor = start_cursor m s.node.0;
      few = omega (arith, l, f, few);
    }

pub count_from-requires : goal.count_from-requires
count_from-requires c =
    let m = any_view c.args.image.now in
    let s = c.args.opened in
    let o = c.requires.open.0 in
    let h = c.requires.open.1 in
    let here = node_here m s o h in
    let index = index_here m s o h c.is_directory_at.ensures c.if-not-is_directory_at.false in
    let asks = entry_asks m s o h c.is_directory_at.ensures c.if-not-is_directory_at.false in
    let l = count_left m s.node.0 s.position o.place o.position here index in
    let f = fewer_entries m.tree o.place s.node.0 here in
    let few = c.requires.few in
    record { directory = asks.0; cursor = asks.1; few = omega (arith, l, f, few) }

pub overflow_sub-result : goal.overflow_sub-result
overflow_sub-result c =
    let m = any_view c.args.image.now in
    let s = c.args.opened in
    let o = c.requires.open.0 in
    let h = c.requires.open.1 in
    let here = node_here m s o h in
    let index = index_here m s o h c.is_directory_at.ensures c.if-not-is_directory_at.false in
    let all = c.count_from-all.ensures ∙ count_left m s.node.0 0 o.place 0 here (m.starts s.node.0) in
    let rest = c.count_from.ensures ∙ count_left m s.node.0 s.position o.place o.position here index in
    omega (arith, all, rest)

pub returns : goal.returns
returns c = λ o h.
    let m = any_view c.args.image.now in
    let s = c.args.opened in
    let here = node_here m s o h in
    let index = index_here m s o h c.is_directory_at.ensures c.if-not-is_directory_at.false in
    let all = c.count_from-all.ensures ∙ count_left m s.node.0 0 o.place 0 here (m.starts s.node.0) in
    let rest = c.count_from.ensures ∙ count_left m s.node.0 s.position o.place o.position here index in
    let e = c.is_directory_at.ensures o.place here in
    let P : Bool → Type 0 = λ b. c.count_from-all.result - c.count_from.result
    ≡ (if b then min o.position (entry_count (entries_of o.place)) else 0) in
    subst P (sym c.if-not-is_directory_at.false ∙ e) (omega (arith, all, rest))

use Rattle.std.proofs.Common.{[], ◌∷◌, refl, sym, ap, ◌∙◌, subst, arith}
use Rattle.rom_tree.specs.Image.{Image}
use Rattle.rom_tree.specs.Names.{names}
use Rattle.rom_tree.proofs.Answered.{err_by}
use Rattle.rom_tree.proofs.Named.{has_directory, has_node, root_node, some_is}
use Rattle.rom_tree.proofs.Nodes.{not_directory_entries}
use Rattle.image_check.specs.Any.{any_view}
use Rattle.image_compare.specs.declared.rows.Rows.{Rows}
use Rattle.image_compare.specs.Rows.{HasNames}
use Rattle.image_compare.proofs.Listed.{first_rows, long_in_tree, root_alone, root_name, root_rows, whole_tree}
use Rattle.image_compare.proofs.rows.collected.Goals as goal
use Rattle.image_compare.proofs.rows.collected.Goals.{then-is_directory_at+in_ok-collect, else-is_directory_at}

pub is_directory_at-requires : goal.is_directory_at-requires
is_directory_at-requires c κs =
    let m : Image = any_view c.args.image.now in
    ((refl, tt), has_node m c.root-root.result.0 m.tree (root_node m c.root-root.result.0 c.root-root.ensures))

pub collect-requires-clause-frame : goal.collect-requires-clause-frame
collect-requires-clause-frame c =
    let m : Image = any_view c.args.image.now in
    let n = c.root-root.result.0 in
    let i = root_node m n c.root-root.ensures in
    record {
      directory = has_directory m n m.tree i (sym (c.if-is_directory_at.ensures m.tree i));
      cursor = some_is (m.cursor_index n 0) 0 (m.starts n);
      deep = rw i (let s = c.requires in omega (arith, s));
    }

pub collect-requires-clause-known : goal.collect-requires-clause-known
collect-requires-clause-known c =
    let m : Image = any_view c.args.image.now in
    let one = first_rows m c.add_directory.new.found _ _ c.in_ok-add_directory.ensures.directories c.new.ensures.items
    (ap (λ v. v.items) c.in_ok-add_directory.ensures.names ∙ c.new-2.ensures.items) refl in
    let two = root_rows m c.add_directory.new.found c.add_name.new.found _ one c.in_ok-add_name.ensures.directories
    c.in_ok-add_name.ensures.names refl refl (root_node m c.root-root.result.0 c.root-root.ensures) in
    ([] ∷ [], root_name m.tree ∷ [], two, omega arith)

pub returns-in_err-collect-clause-long : goal.returns-in_err-collect-clause-long
returns-in_err-collect-clause-long c =
    err_by c.from_residual-in_err-collect.result c.from_residual-in_err-collect.ensures.1 (λ e is eq.
    let m : Image = any_view c.args.image.now in
    let i = root_node m c.root-root.result.0 c.root-root.ensures in
    let one = first_rows m c.add_directory.new.found _ _ c.in_ok-add_directory.ensures.directories c.new.ensures.items
    (ap (λ v. v.items) c.in_ok-add_directory.ensures.names ∙ c.new-2.ensures.items) refl in
    let two = root_rows m c.add_directory.new.found c.add_name.new.found _ one c.in_ok-add_name.ensures.directories
    c.in_ok-add_name.ensures.names refl refl i in
    long_in_tree m.tree (c.in_err-collect.ensures.long (sym is ∙ eq) ([] ∷ []) (root_name m.tree ∷ []) m.tree two
    (omega arith) i))

pub returns-clause-ok : goal.returns-clause-ok
returns-clause-ok c =
    let m : Image = any_view c.args.image.now in
    let i = root_node m c.root-root.result.0 c.root-root.ensures in
    let one = first_rows m c.add_directory.new.found _ _ c.in_ok-add_directory.ensures.directories c.new.ensures.items
    (ap (λ v. v.items) c.in_ok-add_directory.ensures.names ∙ c.new-2.ensures.items) refl in
    let two = root_rows m c.add_directory.new.found c.add_name.new.found _ one c.in_ok-add_name.ensures.directories
    c.in_ok-add_name.ensures.names refl refl i in
    let P : Rows → Type 0 = λ v. HasNames m v (names m.tree) in
    elim c.if-is_directory_at.branch [
      | then-is_directory_at+in_ok-collect w ↦
          subst P (sym w.found-is) (whole_tree m w.collect.new.found
          (w.in_ok-collect.ensures.ok ([] ∷ []) (root_name m.tree ∷ []) m.tree two (omega arith) i))
      | else-is_directory_at w ↦
          subst P (sym w.found-is) (root_alone m c.add_name.new.found two
          (not_directory_entries m.tree (w.if-is_directory_at.ensures m.tree i)))
    ]

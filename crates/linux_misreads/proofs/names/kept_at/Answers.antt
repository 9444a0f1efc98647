use Rattle.std.proofs.Common.{◌≡◌, ◌∙◌, ap, sym}
use Rattle.rom_tree.specs.Tree.{ino_of}
use Rattle.rom_tree.specs.Names.{names}
use Rattle.rom_tree.proofs.Named.{node_number}
use Rattle.linux_misreads.specs.Tables.{number_in, view}
use Rattle.linux_misreads.proofs.Firsts.{kept_is, none_kept}
use Rattle.linux_misreads.proofs.names.kept_at.Goals as goal

pub returns-then-not-is_known_by_table : goal.returns-then-not-is_known_by_table
returns-then-not-is_known_by_table c = λ x e.
    none_kept c.args.image.now (names (view c.args.image.now).tree) x
    (sym (c.is_known_by_table.ensures x e) ∙ c.if-not-is_known_by_table.true)

pub returns-in-Some : goal.returns-in-Some
returns-in-Some c = λ x e.
    let p : c.number_of.result ≡ number_in c.args.image.now (ino_of x) =
    c.number_of.ensures ∙ ap (number_in c.args.image.now) (sym (node_number (view c.args.image.now) c.args.n.0 x e)) in
    kept_is c.args.image.now (names (view c.args.image.now).tree) c.args.first.now x c.number_of.result
    c.requires.first (sym (c.is_known_by_table.ensures x e) ∙ c.if-not-is_known_by_table.false) p
    (sym c.in-Some.ensures.value)

pub returns-in-None : goal.returns-in-None
returns-in-None c = λ x e.
    let p : c.number_of.result ≡ number_in c.args.image.now (ino_of x) =
    c.number_of.ensures ∙ ap (number_in c.args.image.now) (sym (node_number (view c.args.image.now) c.args.n.0 x e)) in
    kept_is c.args.image.now (names (view c.args.image.now).tree) c.args.first.now x c.number_of.result
    c.requires.first (sym (c.is_known_by_table.ensures x e) ∙ c.if-not-is_known_by_table.false) p
    (sym c.in-None.ensures.value)

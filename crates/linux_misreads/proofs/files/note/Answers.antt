use Rattle.std.proofs.Common.{◌≡◌, ◌∙◌, ap, sym}
use Rattle.rom_tree.specs.Tree.{ino_of}
use Rattle.rom_tree.proofs.Named.{node_number}
use Rattle.linux_misreads.specs.Tables.{number_in, view}
use Rattle.linux_misreads.proofs.Firsts.{noted_before, noted_now}
use Rattle.linux_misreads.proofs.files.note.Goals as goal

pub returns-in_ok-insert : goal.returns-in_ok-insert
returns-in_ok-insert c = λ x e t.
    let p : c.number_of-number.result ≡ number_in c.args.image.now (ino_of x) =
    c.number_of-number.ensures ∙ ap (number_in c.args.image.now)
    (sym (node_number (view c.args.image.now) c.args.n.0 x e)) in
    noted_now c.args.image.now x c.args.first.now c.insert.new.self c.number_of-number.result c.kept_of.result
    (sym (c.is_known_by_table.ensures x e) ∙ c.if-not-is_known_by_table.false) p (c.kept_of.ensures x e)
    (sym c.if-not-contains_key.true ∙ c.contains_key.ensures) c.in_ok-insert.ensures.updates t

pub returns-else-not-contains_key : goal.returns-else-not-contains_key
returns-else-not-contains_key c = λ x e t.
    let p : c.number_of-number.result ≡ number_in c.args.image.now (ino_of x) =
    c.number_of-number.ensures ∙ ap (number_in c.args.image.now)
    (sym (node_number (view c.args.image.now) c.args.n.0 x e)) in
    noted_before c.args.image.now x c.args.first.now c.number_of-number.result p
    (sym c.if-not-contains_key.false ∙ c.contains_key.ensures) t

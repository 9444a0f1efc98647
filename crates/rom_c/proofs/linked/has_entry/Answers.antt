use Rattle.std.proofs.Common.{sym, ap, ◌∙◌, arith}
use Rattle.rom_tree.proofs.Named.{start_cursor}
use Rattle.image_check.specs.Any.{any_view}
use Rattle.rom_c.specs.Directories.{entries_after}
use Rattle.rom_c.specs.Linked.{has_entry}
use Rattle.rom_c.proofs.Entries.{is_next, is_last, left_at, one_less}
use Rattle.rom_c.proofs.Walked.{entry_other, entry_leads}
use Rattle.rom_c.proofs.linked.has_entry.Goals as goal

pub loop-entry-init : goal.loop-entry-init
loop-entry-init c =
    let m = any_view c.args.image.now in
    record {
      cursor = start_cursor m c.args.directory.0;
      none = λ x h. ap (has_entry c.args.node.0) (left_at m c.args.directory.0 0 x 0 h (m.starts c.args.directory.0));
    }

pub loop-entry-smaller : goal.loop-entry-smaller
loop-entry-smaller c =
    let m = any_view c.args.image.now in
    let n = is_next m c.args.directory.0 c.loop-entry.cursor.0 c.in-Some.entry c.requires
    c.loop-entry.invariant.cursor c.in-Some.ensures in
    let l = one_less m c.args.directory.0 c.loop-entry.cursor.0 c.in-Some.entry n in
    omega (arith, l)

pub loop-entry-preserved : goal.loop-entry-preserved
loop-entry-preserved c =
    let m = any_view c.args.image.now in
    let i = c.loop-entry.invariant in
    let e = c.in-Some.entry in
    let n = is_next m c.args.directory.0 c.loop-entry.cursor.0 e c.requires i.cursor c.in-Some.ensures in
    record {
      cursor = n.cursor;
      none = λ x h.
          sym (ap (has_entry c.args.node.0) n.is
          ∙ entry_other c.args.node.0 e.name.now n.target (entries_after m c.args.directory.0 e.cursor.0)
          (λ k. c.if-entry-node.false (sym n.number ∙ k)))
          ∙ i.none x h;
    }

pub returns-then-entry-node : goal.returns-then-entry-node
returns-then-entry-node c = λ x h.
    let m = any_view c.args.image.now in
    let i = c.loop-entry.invariant in
    let e = c.in-Some.entry in
    let n = is_next m c.args.directory.0 c.loop-entry.cursor.0 e c.requires i.cursor c.in-Some.ensures in
    sym (ap (has_entry c.args.node.0) n.is
    ∙ entry_leads c.args.node.0 e.name.now n.target (entries_after m c.args.directory.0 e.cursor.0)
    (n.number ∙ c.if-entry-node.true))
    ∙ i.none x h

pub returns : goal.returns
returns c = λ x h.
    let m = any_view c.args.image.now in
    let i = c.loop-entry.invariant in
    let z = is_last m c.args.directory.0 c.loop-entry.cursor.0 c.requires i.cursor c.in_default.ensures in
    sym (ap (has_entry c.args.node.0) z) ∙ i.none x h

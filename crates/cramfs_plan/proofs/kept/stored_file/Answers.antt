use Rattle.std.proofs.Common.{sym, ap, subst, ◌∙◌, arith}
use Rattle.plan_rows.specs.Rows.{inode_view}
use Rattle.cramfs_plan.specs.Entries.{kept_view, tables_after, Knows}
use Rattle.cramfs_plan.proofs.Placing.{tables_are}
use Rattle.cramfs_plan.proofs.kept.stored_file.Goals as goal

pub returns-clause-knows : goal.returns-clause-knows
returns-clause-knows c = λ s e k.
    let way = kept_view c.how_kept-kept.result in
    let i = inode_view c.args.inode.now in
    subst (λ ts. Knows ts c.note_table.new.tables)
    (ap (λ n. tables_after way n i.fill s.tables) (sym e)
    ∙ tables_are s i way (c.how_kept-kept.ensures.kept s.tables k))
    (c.in_ok-note_table.ensures.knows s.tables k)

pub returns-clause-tables : goal.returns-clause-tables
returns-clause-tables c = λ near h l. c.in_ok-note_table.ensures.near near h (omega (arith, l))

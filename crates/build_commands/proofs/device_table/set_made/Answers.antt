use Rattle.std.proofs.Common.{ap, sym, ◌∙◌, rules, refl}
use Rattle.build_commands.specs.DeviceTable.{is_set_below, set_below}
use Rattle.build_commands.specs.TableRow.{row_view}
use Rattle.build_commands.proofs.Attributed.{item_is}
use Rattle.build_commands.proofs.Mapped.{mapping_all, mapping_more}
use Rattle.build_commands.proofs.Tabled.{any_else, any_then}
use Rattle.build_commands.proofs.device_table.set_made.Goals as goal
use Rattle.build_commands.proofs.device_table.set_made.Goals.{then-give, else-give}

pub loop-index-preserved : goal.loop-index-preserved
loop-index-preserved c =
    let item = c.index-files-index.result in
    let same = item_is c.loop-index.files c.loop-index.index _ item (search rules) c.index-files-index.is in
    record {
      files = mapping_more (λ j. set_below (row_view c.args.row.now)) c.args.files.now c.loop-index.files _
          c.loop-index.index item c.give.new.file (search rules) c.index-files-index.is refl
          (c.give.ensures.file ∙ ap (set_below (row_view c.args.row.now)) same) c.loop-index.invariant.files;
      there = elim c.if-give.branch [
        | then-give w ↦
            w.is_there-is
            ∙ sym (any_then (is_set_below c.args.row.now.path.now) (λ j. set_below (row_view c.args.row.now))
            c.args.files.now c.loop-index.files c.loop-index.index item (search rules) c.index-files-index.is
            c.loop-index.invariant.files
            (ap (is_set_below c.args.row.now.path.now) (sym same) ∙ sym c.give.ensures.there ∙ w.if-give.true))
        | else-give w ↦
            w.is_there-is ∙ c.loop-index.invariant.there
            ∙ sym (any_else (is_set_below c.args.row.now.path.now) (λ j. set_below (row_view c.args.row.now))
            c.args.files.now c.loop-index.files c.loop-index.index item (search rules) c.index-files-index.is
            c.loop-index.invariant.files
            (ap (is_set_below c.args.row.now.path.now) (sym same) ∙ sym c.give.ensures.there ∙ w.if-give.false))
      ];
    }

pub returns-clause-files : goal.returns-clause-files
returns-clause-files c =
    mapping_all (set_below (row_view c.args.row.now)) c.args.files.now c.loop-index.files c.loop-index.index
    (search rules) c.loop-index.invariant.files

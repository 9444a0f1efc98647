use Rattle.std.proofs.Common.{◌++◌, List, Option, refl, subst, sym}
use Rattle.rom_tree.proofs.Answered.{err_by}
use Rattle.build_commands.specs.Composed.{IsAligned, IsListed, IsRefusal, IsTabled}
use Rattle.build_commands.specs.declared.composing.DeviceText.TheVariants as text
use Rattle.build_commands.specs.declared.inventory.NamedFile.{NamedFile}
use Rattle.build_commands.proofs.Readings.{logs_join, next, step_refused}
use Rattle.build_commands.proofs.composing.compose.Goals as goal

pub returns-in_err-files-2-clause-refused : goal.returns-in_err-files-2-clause-refused
returns-in_err-files-2-clause-refused g c =
    let found = c.args.found.items in
    let a = g.R.Readings.IsLog c.args.readings.now in
    let b = g.R.Readings.IsLog c.aligned.new.readings in
    let d = g.R.Readings.IsLog c.with_text.new.readings in
    err_by c.from_residual-in_err-files-2.result c.from_residual-in_err-files-2.ensures.1
    (λ e is. subst (IsRefusal c.args.owner found a d) (sym is)
    (step_refused text.Table c.args.owner found a b d c.in_ok-files.files.items c.in_err-files-2.field-0.0
    c.in_ok-files.ensures.aligned c.in_err-files-2.ensures.refused))

pub returns-in_err-files-3-clause-refused : goal.returns-in_err-files-3-clause-refused
returns-in_err-files-3-clause-refused g c =
    let owner = c.args.owner in
    let found = c.args.found.items in
    let a = g.R.Readings.IsLog c.args.readings.now in
    let b = g.R.Readings.IsLog c.aligned.new.readings in
    let d = g.R.Readings.IsLog c.with_text.new.readings in
    let e = g.R.Readings.IsLog c.with_text-2.new.readings in
    let one = next text.Table (IsAligned owner found) a b d c.in_ok-files.files.items c.in_ok-files-2.files.items
    c.in_ok-files.ensures.aligned c.in_ok-files-2.ensures.laid in
    err_by c.from_residual-in_err-files-3.result c.from_residual-in_err-files-3.ensures.1
    (λ x is. subst (IsRefusal owner found a e) (sym is)
    (step_refused text.List owner found a d e c.in_ok-files-2.files.items c.in_err-files-3.field-0.0 one
    c.in_err-files-3.ensures.refused))

pub returns-in_err-files-4-clause-refused : goal.returns-in_err-files-4-clause-refused
returns-in_err-files-4-clause-refused g c =
    let owner = c.args.owner in
    let found = c.args.found.items in
    let a = g.R.Readings.IsLog c.args.readings.now in
    let b = g.R.Readings.IsLog c.aligned.new.readings in
    let d = g.R.Readings.IsLog c.with_text.new.readings in
    let e = g.R.Readings.IsLog c.with_text-2.new.readings in
    let f = g.R.Readings.IsLog c.with_text-3.new.readings in
    let one = next text.Table (IsAligned owner found) a b d c.in_ok-files.files.items c.in_ok-files-2.files.items
    c.in_ok-files.ensures.aligned c.in_ok-files-2.ensures.laid in
    let two = next text.List (IsTabled owner found) a d e c.in_ok-files-2.files.items c.in_ok-files-3.files.items one
    c.in_ok-files-3.ensures.laid in
    err_by c.from_residual-in_err-files-4.result c.from_residual-in_err-files-4.ensures.1
    (λ x is. subst (IsRefusal owner found a f) (sym is)
    (step_refused text.Given owner found a e f c.in_ok-files-3.files.items c.in_err-files-4.field-0.0 two
    c.in_err-files-4.ensures.refused))

pub returns-clause-composed : goal.returns-clause-composed
returns-clause-composed g c =
    let owner = c.args.owner in
    let found = c.args.found.items in
    let a = g.R.Readings.IsLog c.args.readings.now in
    let b = g.R.Readings.IsLog c.aligned.new.readings in
    let d = g.R.Readings.IsLog c.with_text.new.readings in
    let e = g.R.Readings.IsLog c.with_text-2.new.readings in
    let f = g.R.Readings.IsLog c.with_text-3.new.readings in
    let one = next text.Table (IsAligned owner found) a b d c.in_ok-files.files.items c.in_ok-files-2.files.items
    c.in_ok-files.ensures.aligned c.in_ok-files-2.ensures.laid in
    let two = next text.List (IsTabled owner found) a d e c.in_ok-files-2.files.items c.in_ok-files-3.files.items one
    c.in_ok-files-3.ensures.laid in
    let three = next text.Given (IsListed owner found) a e f c.in_ok-files-3.files.items c.in_ok-files-4.files.items
    two c.in_ok-files-4.ensures.laid in
    let s = c.in_ok-share.ensures.shared in (
      three.0 ++ s.1,
      logs_join a f (g.R.Readings.IsLog c.share.new.readings) three.0 s.1 three.1 s.2,
      record {
        earlier = three.0;
        fs = c.in_ok-files-4.files.items;
        given = three.2;
        lens = s.0;
        last = s.1;
        shared = s.3;
        read = refl;
      },
    )

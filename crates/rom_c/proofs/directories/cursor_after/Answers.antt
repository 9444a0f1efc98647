use Rattle.std.proofs.Common.{◌≡◌, Some, ap, ◌∙◌, arith}
use Rattle.rom_tree.proofs.Named.{some_is}
use Rattle.image_check.specs.Any.{any_view}
use Rattle.rom_c.proofs.Entries.{index_below, index_past}
use Rattle.rom_c.proofs.Entries.{directory_index}
use Rattle.rom_c.proofs.directories.cursor_after.Goals as goal

pub loop-passed-init : goal.loop-passed-init
loop-passed-init c =
    let m = any_view c.args.image.now in
    record { index = m.starts c.args.directory.0; within = λ x h. omega arith }

pub entry-requires : goal.entry-requires
entry-requires c =
    let m = any_view c.args.image.now in
    record {
      directory = c.requires;
      cursor =
          some_is (m.cursor_index c.args.directory.0 c.loop-passed.cursor.0) c.loop-passed.passed
          c.loop-passed.invariant.index;
    }

pub loop-passed-preserved : goal.loop-passed-preserved
loop-passed-preserved c =
    let m = any_view c.args.image.now in
    let i = c.loop-passed.invariant in
    record {
      index =
          directory_index m c.args.directory.0 c.loop-passed.cursor.0 c.loop-passed.passed c.in-Some.entry
          c.requires c.in-Some.ensures i.index;
      within = λ x h.
          let b = index_below m c.args.directory.0 c.loop-passed.cursor.0 c.loop-passed.passed x c.in-Some.entry
          c.in-Some.ensures h i.index in
          let l = b.0 in
          omega (arith, l);
    }

pub returns-in_default : goal.returns-in_default
returns-in_default c = λ x h.
    let m = any_view c.args.image.now in
    let l = index_past m c.args.directory.0 c.loop-passed.cursor.0 c.loop-passed.passed x c.in_default.ensures h
    c.loop-passed.invariant.index in
    omega (arith, l)

pub returns : goal.returns
returns c = λ x h.
    let i = c.loop-passed.invariant in
    let e : c.loop-passed.passed ≡ c.args.entries = omega arith in
    let w = i.within x h in
    (omega (arith, w, e), i.index ∙ ap Some e)

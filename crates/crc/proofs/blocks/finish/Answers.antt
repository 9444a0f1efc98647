use Rattle.std.proofs.Common.{◌∙◌}
use Rattle.std.proofs.lemmas.List.{take_rest}
use Rattle.crc.proofs.Ends.{finishes}
use Rattle.crc.proofs.blocks.finish.Goals as goal

pub returns : goal.returns
returns c =
    let h = c.args.history.now in
    c.with_bytes.ensures
    ∙ finishes h c.args.last.now _ _ _ c.copy_from_slice.new.self c.add.new.bytes c.add-2.new.bytes c.add-3.new.bytes
    c.add-4.new.bytes (take_rest h 155) (take_rest h 117) (take_rest h 89)
    c.copy_from_slice.ensures.after c.add.auto.bytes c.add-2.auto.bytes c.add-3.auto.bytes c.add.ensures c.add-2.ensures
    c.add-3.ensures c.add-4.ensures

use Rattle.std.proofs.Common.{codes, [], ◌∷◌}
use Rattle.std.specs.Prelude.{decimal}
use Rattle.manifest.specs.declared.line.Word.TheVariants.{Dir, File, Slink, Block, Character, Fifo, Socket, Hard, Same}
use Rattle.rom_fields.specs.Texts.{escaped}
use Rattle.rom_fields.proofs.Joins.{chain}
use Rattle.manifest.specs.Printed.{attributes}
use Rattle.manifest.specs.Entries.{line_of}
use Rattle.manifest.proofs.Joined.{of_word, and_fields}
use Rattle.manifest.proofs.printing.put_fields.Goals as goal

pub returns-in-Dir : goal.returns-in-Dir
returns-in-Dir g c = of_word (line_of c.args.e.now) Dir c.in-Dir.is c.put_owned.ensures

pub returns-in-File : goal.returns-in-File
returns-in-File g c =
    let l = line_of c.args.e.now in
    of_word l File c.in-File.is
    (and_fields (codes "file") (attributes l) (decimal l.align) (escaped l.text ∷ []) c.put_owned-in-File.ensures
    (chain c.put.ensures (chain c.put_decimal.ensures c.put_text.ensures)))

pub returns-in-Slink : goal.returns-in-Slink
returns-in-Slink g c =
    let l = line_of c.args.e.now in
    of_word l Slink c.in-Slink.is
    (and_fields (codes "slink") (attributes l) (escaped l.text)
    [] c.put_owned-in-Slink.ensures c.put_text-in-Slink.ensures)

pub returns-in-Block : goal.returns-in-Block
returns-in-Block g c = of_word (line_of c.args.e.now) Block c.in-Block.is c.put_device.ensures

pub returns-in-Character : goal.returns-in-Character
returns-in-Character g c = of_word (line_of c.args.e.now) Character c.in-Character.is c.put_device-in-Character.ensures

pub returns-in-Fifo : goal.returns-in-Fifo
returns-in-Fifo g c = of_word (line_of c.args.e.now) Fifo c.in-Fifo.is c.put_owned-in-Fifo.ensures

pub returns-in-Socket : goal.returns-in-Socket
returns-in-Socket g c = of_word (line_of c.args.e.now) Socket c.in-Socket.is c.put_owned-in-Socket.ensures

pub returns-in-Hard : goal.returns-in-Hard
returns-in-Hard g c =
    of_word (line_of c.args.e.now) Hard c.in-Hard.is
    (chain c.put-in-Hard.ensures (chain c.put_escaped.ensures c.put_text-in-Hard.ensures))

pub returns-in-Same : goal.returns-in-Same
returns-in-Same g c =
    let l = line_of c.args.e.now in
    of_word l Same c.in-Same.is
    (and_fields (codes "same") (attributes l) (escaped l.text)
    [] c.put_owned-in-Same.ensures c.put_text-in-Same.ensures)

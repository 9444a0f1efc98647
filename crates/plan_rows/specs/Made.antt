-- `inode_from`: the file that a line makes, if its path leads to these contents. (This project's
-- own.)
use Rattle.std.specs.Prelude.{length, Option, Some, None}
use Rattle.rom_tree.specs.declared.types.Kind.TheVariants as kind
use Rattle.manifest.specs.declared.line.Line.{Line}
use Rattle.manifest.specs.declared.line.Word.{Word}
use Rattle.manifest.specs.declared.line.Word.TheVariants.{Dir, File, Slink, Block, Character, Fifo}
use Rattle.manifest.specs.declared.line.Word.TheVariants.{Socket, Hard, Same}
use Rattle.manifest_tree.specs.Names.{no_bytes, text, source, Inode}
use Rattle.manifest_tree.specs.Tree.{plain}
use Rattle.plan_rows.specs.declared.files.SourceUse.{SourceUse}

abbrev pub regular_from : Line → Option SourceUse → Inode
regular_from l None = plain l kind.Regular 4 0 no_bytes
regular_from l (Some c) = plain l kind.Regular c.align c.size (source c.source)

abbrev pub inode_from : Word → Line → Option SourceUse → Inode
inode_from Dir l o = plain l kind.Directory 4 0 no_bytes
inode_from File l o = regular_from l o
inode_from Same l o = regular_from l o
inode_from Slink l o = plain l kind.Symlink 4 (length l.text) (text l.text)
inode_from Block l o = plain l kind.Block 4 0 no_bytes
inode_from Character l o = plain l kind.Character 4 0 no_bytes
inode_from Fifo l o = plain l kind.Fifo 4 0 no_bytes
inode_from Socket l o = plain l kind.Socket 4 0 no_bytes
inode_from Hard l o = plain l kind.Regular 4 0 no_bytes

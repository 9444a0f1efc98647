-- The faults of an image in words, by number. (This project's own.)
use Rattle.std.specs.Prelude.{ℕ, List, ◌==◌, if◌then◌else◌, codes}
use Rattle.rom_fields.specs.FaultNumbers.{TOO_MANY, SHORT, MAGIC, SIZE, SUM, FLAGS, CRC, SIGNATURE}
use Rattle.rom_fields.specs.FaultNumbers.{ROOT, BOUNDS, HEADER_SUM, BAD_NAME, KIND, LINK_SIZE}
use Rattle.rom_fields.specs.FaultNumbers.{BLOCK_KIND, LIST_END, TWICE, TOO_DEEP, OVERLAP}
use Rattle.rom_fields.specs.FaultNumbers.{DUPLICATE_NAME, DOT, HARD_LINK, UNSORTED}

-- the sentence of the fault of this number
abbrev pub fault_sentence : ℕ → List ℕ
fault_sentence n =
    if n == TOO_MANY then
    codes "the image has more than 1,048,576 references"
    else (if n == SHORT then
    codes "the file is shorter than a superblock, which has 32 bytes in romfs and 76 in cramfs"
    else (if n == MAGIC then
    codes "the first bytes are those of neither romfs nor cramfs"
    else (if n == SIZE then
    codes "the stated size is smaller than a superblock or greater than the file"
    else (if n == SUM then
    codes "the words of the first 512 bytes do not sum to 0"
    else (if n == FLAGS then
    codes "a flag above 800 (hexadecimal) is set"
    else (if n == CRC then
    codes "the stored CRC-32 is not the CRC-32 of the bytes"
    else (if n == SIGNATURE then
    codes "the superblock lacks the text Compressed ROMFS"
    else (if n == ROOT then
    codes "the root is not where the format says, or is not a directory"
    else (if n == BOUNDS then
    codes "a record, or a part that it names, is outside the image"
    else (if n == HEADER_SUM then
    codes "the words of a file header and its name do not sum to 0"
    else (if n == BAD_NAME then
    codes "a name is empty, has no end, or contains a slash or a zero byte"
    else (if n == KIND then
    codes "the upper four bits of a mode do not stand for a kind of file"
    else (if n == LINK_SIZE then
    codes "the text of a symbolic link is empty or longer than 4,095 bytes"
    else (if n == BLOCK_KIND then
    codes "a block is compressed, or its block pointer is not direct; romtool reads neither"
    else (if n == LIST_END then
    codes "an entry, or its name, goes past the end of its list"
    else (if n == TWICE then
    codes "two references lead to one record, or references form a loop"
    else (if n == TOO_DEEP then
    codes "the path of an entry has more than 64 names"
    else (if n == OVERLAP then
    codes "two parts of the image share bytes"
    else (if n == DUPLICATE_NAME then
    codes "two entries of one directory have the same name"
    else (if n == DOT then
    codes "a name . or .. is not allowed there, or leads to the wrong directory"
    else (if n == HARD_LINK then
    codes "a hard link leads to nothing, to a directory, or through more than 8 links"
    else (if n == UNSORTED then
    codes "in a list that has to be sorted, a name is less than the name before it"
    else codes "no rule has this number"))))))))))))))))))))))

-- The number of each fault of an image, the same in all formats. docs/FAULTS.md has the faults in
-- words. (This project's own.)
use Rattle.std.specs.Prelude.{ℕ}

-- more references than the limit
abbrev pub TOO_MANY : ℕ
TOO_MANY = 1

-- fewer bytes than a superblock has
abbrev pub SHORT : ℕ
SHORT = 2

-- another magic than that of the format
abbrev pub MAGIC : ℕ
MAGIC = 3

-- a size that the image cannot have
abbrev pub SIZE : ℕ
SIZE = 4

-- the words of the superblock's sum do not sum to 0
abbrev pub SUM : ℕ
SUM = 5

-- flags of another kind of image
abbrev pub FLAGS : ℕ
FLAGS = 6

-- the stored CRC is not that of the bytes
abbrev pub CRC : ℕ
CRC = 7

-- another signature
abbrev pub SIGNATURE : ℕ
SIGNATURE = 8

-- the root is not a directory, or is not where a root may be
abbrev pub ROOT : ℕ
ROOT = 9

-- something that a record names is not within the image
abbrev pub BOUNDS : ℕ
BOUNDS = 11

-- the words of a record's header do not sum to 0
abbrev pub HEADER_SUM : ℕ
HEADER_SUM = 12

-- a name that is empty, is too long, or has a byte that no name may have
abbrev pub BAD_NAME : ℕ
BAD_NAME = 13

-- a kind of file that the format does not have
abbrev pub KIND : ℕ
KIND = 14

-- a symbolic link whose text is empty or longer than 4,095 bytes
abbrev pub LINK_SIZE : ℕ
LINK_SIZE = 15

-- a block that is not stored as it is
abbrev pub BLOCK_KIND : ℕ
BLOCK_KIND = 16

-- an entry that ends after the end of its list
abbrev pub LIST_END : ℕ
LIST_END = 17

-- two references lead to one record
abbrev pub TWICE : ℕ
TWICE = 20

-- an entry deeper than the limit
abbrev pub TOO_DEEP : ℕ
TOO_DEEP = 21

-- two parts of the image share bytes that may not be shared
abbrev pub OVERLAP : ℕ
OVERLAP = 22

-- a name occurs twice in one list
abbrev pub DUPLICATE_NAME : ℕ
DUPLICATE_NAME = 23

-- `.` or `..` is where it may not be, or leads to the wrong directory
abbrev pub DOT : ℕ
DOT = 24

-- a hard link leads to no file
abbrev pub HARD_LINK : ℕ
HARD_LINK = 25

-- in a list that has to be sorted, a name is less than the name before it
abbrev pub UNSORTED : ℕ
UNSORTED = 26

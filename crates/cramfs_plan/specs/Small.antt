-- `IsSmall`: an item whose numbers have 32 bits. `cut`: an item with its numbers cut to 32 bits.
-- (This project's own.)
use Rattle.std.specs.Prelude.{◌^◌, ◌%◌, ◌<◌}
use Rattle.manifest_tree.specs.Items.{Item}

pub record IsSmall (i : Item) : Type 0 where
  pub place : i.place < 2 ^ 32
  pub first : i.first < 2 ^ 32
  pub second : i.second < 2 ^ 32
  pub third : i.third < 2 ^ 32
  pub table : i.table < 2 ^ 32
  pub start : i.start < 2 ^ 32
  pub len : i.len < 2 ^ 32

-- the numbers of an item, cut to 32 bits
abbrev pub cut : Item → Item
cut i = record {
  place = i.place % 2 ^ 32;
  first = i.first % 2 ^ 32;
  second = i.second % 2 ^ 32;
  third = i.third % 2 ^ 32;
  name = i.name;
  table = i.table % 2 ^ 32;
  start = i.start % 2 ^ 32;
  len = i.len % 2 ^ 32;
  fill = i.fill;
}

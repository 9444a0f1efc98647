-- `most_of`: the most bytes that an image may have. `padding_of`: the bytes after it in its file.
-- (This project's own.)
use Rattle.std.specs.Prelude.{ℕ, ◌-◌, min, Option, None, Some, option_map}
use Rattle.image_build.specs.declared.padding.Padding.{Padding}
use Rattle.build_commands.specs.declared.limits.Partition.{Partition}
use Rattle.build_commands.specs.declared.limits.Wanted.{Wanted}

-- the lesser of two limits, of which each may be missing
abbrev pub lesser : Option ℕ → Option ℕ → Option ℕ
lesser None b = b
lesser (Some a) None = Some a
lesser (Some a) (Some b) = Some (min a b)

-- `max_size` is a limit, and so is the size of a partition
abbrev pub most_of : Wanted → Option ℕ
most_of wanted = lesser wanted.max_size (option_map (λ p. p.size) wanted.partition)

-- what fills a partition behind an image of this length
abbrev pub padding_in : Option Partition → ℕ → Padding
padding_in None len = record { len = 0; byte = 0 }
padding_in (Some p) len = record { len = p.size - len; byte = p.fill }

abbrev pub padding_of : Wanted → ℕ → Padding
padding_of wanted len = padding_in wanted.partition len

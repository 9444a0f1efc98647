-- The partition that words ask to fill. (This project's own.)
use Rattle.command_line.specs.declared.request.Padding.{Padding}
use Rattle.build_commands.specs.declared.limits.Partition.{Partition}

abbrev pub filled : Padding → Partition
filled p = record { size = p.size; fill = p.fill }

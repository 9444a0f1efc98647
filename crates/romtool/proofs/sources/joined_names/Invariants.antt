use Rattle.std.proofs.Common.{◌≡◌, map, take}
use Rattle.build_commands.specs.Sources.{joined}
use Rattle.romtool.proofs.sources.joined_names.Given as goal

abbrev pub invariant-loop-source : goal.invariant-loop-source
invariant-loop-source l = map (λ n. n.items) l.names.items ≡ map (joined l.directory) (take l.source-index l.sources)

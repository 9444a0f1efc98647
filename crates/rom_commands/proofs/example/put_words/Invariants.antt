use Rattle.std.proofs.Common.{◌≡◌, ◌+◌, ◌*◌, ◌≤◌, length}
use Rattle.rom_commands.specs.Hello.{with_words}
use Rattle.rom_commands.proofs.example.put_words.Given as goal

abbrev pub invariant-loop-rest : goal.invariant-loop-rest
invariant-loop-rest l = record {
  within : l.place + 4 * length l.rest ≤ length l.image;
  rest : with_words l.initial.image l.initial.place l.initial.rest ≡ with_words l.image l.place l.rest;
}

abbrev pub decreases-loop-rest : goal.decreases-loop-rest
decreases-loop-rest l = length l.rest

use Rattle.std.proofs.Common.{◌≡◌, ◌<◌, ◌^◌, drop}
use Rattle.manifest.specs.Texts.{digits_from, below}
use Rattle.build_commands.proofs.table_row.digits.Given as goal

abbrev pub invariant-loop-byte : goal.invariant-loop-byte
invariant-loop-byte l = record {
  fits : l.number < 2 ^ 64;
  reads : below (2 ^ 64) (digits_from l.base l.number (drop l.byte-index l.text))
      ≡ below (2 ^ 64) (digits_from l.base 0 l.text);
}

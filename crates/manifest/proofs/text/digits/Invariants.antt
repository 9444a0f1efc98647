use Rattle.std.proofs.Common.{◌≡◌, ◌<◌, ◌^◌, drop}
use Rattle.manifest.specs.Texts.{digits_from, below}
use Rattle.manifest.proofs.text.digits.Given as goal

abbrev pub invariant-loop-byte : goal.invariant-loop-byte
invariant-loop-byte l = record {
  fits : l.number < 2 ^ 32;
  reads : below (2 ^ 32) (digits_from l.base l.number (drop l.byte-index l.text))
      ≡ below (2 ^ 32) (digits_from l.base 0 l.text);
}

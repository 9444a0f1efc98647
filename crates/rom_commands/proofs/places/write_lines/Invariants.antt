use Rattle.std.proofs.Common.{◌≡◌, take}
use Rattle.std.specs.Io.KnownBytes.{Appends}
use Rattle.rom_commands.specs.Texts.{are_inside, places_text}
use Rattle.rom_commands.proofs.places.write_lines.Given as goal

abbrev pub invariant-loop-address : goal.invariant-loop-address
invariant-loop-address g l = record {
  whole : Appends (g.W.ByteWrite.output l.fn.w).contents (g.W.ByteWrite.output l.w).contents
      (places_text l.base l.file l.found (take l.address-index l.addresses));
  quiet : (g.W.ByteWrite.output l.w).failures ≡ (g.W.ByteWrite.output l.fn.w).failures;
  inside : l.inside ≡ are_inside l.base l.file l.found (take l.address-index l.addresses);
}

-- `padding_bytes`: the bytes after an image. `IsPaddedBy`: exactly these were appended. (This
-- project's own.)
use Rattle.std.specs.Prelude.{◌≡◌, ℕ, List, Option, replicate}
use Rattle.std.specs.Io.KnownBytes.{Appends}
use Rattle.image_build.specs.declared.padding.Padding.{Padding}

abbrev pub padding_bytes : Padding → List ℕ
padding_bytes p = replicate p.len p.byte

-- the bytes after an image follow what the file had; without such bytes the file stays
pub record IsPaddedBy (p : Padding) (old new : Option (List ℕ)) : Type 0 where
  pub appended : Appends old new (padding_bytes p)
  pub none : p.len ≡ 0 → new ≡ old

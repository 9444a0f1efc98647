-- What was written of a map, by how its writing ended.
use Rattle.std.proofs.Common.{◌≡◌, ℕ, Bool, List, length, refl, inl, inr}
use Rattle.std.specs.Prelude.{Result, Ok, Err, OnOk, OnErr, IfErr}
use Rattle.std.specs.Io.KnownBytes.{Appends}
use Rattle.rom_fields.specs.Failures.{Rose}
use Rattle.rom_fields.specs.Written.{AppendsPrefix, Output}
use Rattle.rom_tree.specs.Image.{Image}
use Rattle.map_forms.specs.Header.{HasLongPath, map_text}
use Rattle.map_forms.specs.declared.error.HeaderError.{HeaderError}
use Rattle.map_forms.specs.declared.error.HeaderError.TheVariants as error
use Rattle.map_forms.specs.declared.form.Form.{Form}
use Rattle.rom_commands.specs.declared.ending.Ending.TheVariants.{Done}
use Rattle.rom_commands.specs.Ends.{Writes}
use Rattle.rom_commands.specs.Texts.{IsMap, StopsMap, map_ending}

module _ (f : Form) (chosen : List ℕ → Bool) (Refuses : Type 0) (prefix : List ℕ) (base : ℕ) (m : Image)
    (old new : Output) where
  abbrev text : List ℕ
  text = map_text f chosen prefix base (length m.bytes) m.tree

  pub map_written : (r : Result (Unit {0}) HeaderError) → OnOk r (Appends old.contents new.contents text)
      → OnErr r (AppendsPrefix old.contents new.contents text)
      → IfErr r (λ e. e ≡ error.LongPath → HasLongPath m.tree)
      → IfErr r (λ e. e ≡ error.OutOfMemory → Refuses)
      → OnOk r (new.failures ≡ old.failures)
      → IfErr r (λ e. e ≡ error.WriteFault → Rose old.failures new.failures)
      → IfErr r (λ e. e ≡ error.LongPath → new.failures ≡ old.failures)
      → IfErr r (λ e. e ≡ error.OutOfMemory → new.failures ≡ old.failures)
      → Writes (IsMap f chosen prefix base m) (StopsMap f chosen Refuses prefix base m) old new (map_ending r)
  map_written (Ok v) ok err long memory quiet rose still spared = (text, (refl, refl), ok, quiet)
  map_written (Err error.LongPath) ok err long memory quiet rose still spared =
      (text, (inl (refl, long refl), refl), err, still refl)
  map_written (Err error.WriteFault) ok err long memory quiet rose still spared =
      (text, (Done, (refl, refl)), err, rose refl)
  map_written (Err error.OutOfMemory) ok err long memory quiet rose still spared =
      (text, (inr (refl, memory refl), refl), err, spared refl)

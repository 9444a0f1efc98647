-- How the copying of a file ended, once what was held back is handed on.
use Rattle.std.proofs.Common.{◌≡◌, ℕ, ◌<◌, false, inl, inr, sym, subst, ◌∙◌, arith, List, Some, None}
use Rattle.std.specs.Io.KnownBytes.{Keeps}
use Rattle.rom_fields.specs.Failures.{Rose}
use Rattle.rom_fields.specs.Written.{Output}
use Rattle.rom_fields.proofs.Joins.{appends_keep, front_all}
use Rattle.rom_commands.specs.Answers.{Closes, Flushes, IsHandedOn, Prints, has_text}
use Rattle.rom_commands.specs.Copying.{CopyEnds}
use Rattle.rom_commands.specs.Endings.{line_of}
use Rattle.rom_commands.specs.declared.ending.Ending.{Ending}
use Rattle.rom_commands.specs.declared.ending.Ending.TheVariants as ending
use Rattle.rom_commands.specs.declared.ending.NoFile.{NoFile}
use Rattle.rom_commands.proofs.Printed.{counted, prefix_keep, unsaid, rose_counted}

-- how it ended, and what was said
pub record Reported (bytes path : List ℕ) (old new err err' : Output) (result : Ending) : Type 0 where
  pub ends : CopyEnds bytes path old new result
  pub handed : IsHandedOn result false new
  pub said : Prints err err' (line_of result)

module _ (bytes path : List ℕ) (old mid new err err' : Output) (result : Ending) (fresh : old.failures ≡ 0)
    (k : Keeps mid.contents new.contents) where
  risen : 0 < new.failures → Rose old.failures new.failures
  risen l = inl (omega (arith, fresh, l))

  abbrev R : Ending → Type 0
  R v = Reported bytes path old new err err' v

  done_reported : CopyEnds bytes path old mid ending.Done → Flushes mid new err err' ending.Done result → R result
  done_reported h (inl f) =
      let c = h.2 in
      subst R (sym f.1) (record {
        ends = (
          h.0,
          h.1,
          (
            c.0,
            c.1,
            front_all old.contents new.contents _
                (appends_keep old.contents mid.contents new.contents _ c.2 k),
            risen f.0,
          ),
        );
        handed = tt;
        said = f.2;
      })
  done_reported h (inr f) =
      let c = h.2 in
      subst R (sym f.2) (record {
        ends = (h.0, h.1, (c.0, c.1, appends_keep old.contents mid.contents new.contents _ c.2 k, f.1 ∙ sym fresh));
        handed = counted new.flushes mid.flushes f.4;
        said = unsaid err err' f.3;
      })

  failed_before : CopyEnds bytes path old mid ending.WriteFault → mid.failures ≡ 0 → ⊥
  failed_before h e = let c = h.2 in rose_counted old.failures mid.failures fresh c.3 e

  write_fault_reported : CopyEnds bytes path old mid ending.WriteFault
      → Flushes mid new err err' ending.WriteFault result → R result
  write_fault_reported h (inl f) =
      let c = h.2 in
      subst R (sym f.1) (record {
        ends = (h.0, h.1, (c.0, c.1, prefix_keep old mid new _ c.2 k, risen f.0));
        handed = tt;
        said = f.2;
      })
  write_fault_reported h (inr f) = absurd (failed_before h f.0)

  -- a path that leads to no file, or nothing at all
  no_file_reported : (e : NoFile) → CopyEnds bytes path old mid (ending.NoFile e)
      → Closes false mid new err err' (ending.NoFile e) result → R result
  no_file_reported e h f =
      let c = h.2 in
      subst R (sym f.1) (record { ends = (h.0, h.1, (c.0, f.0 ∙ c.1)); handed = tt; said = f.2 })

  pub reported : (o : Ending) → CopyEnds bytes path old mid o
      → Closes (has_text o false) mid new err err' o result → R result
  reported ending.Done h c = done_reported h c
  reported ending.Warned h c = absurd h.2
  reported (ending.Fault fault None) h c =
      subst R (sym c.1) (record { ends = (h.0, c.0 ∙ h.1); handed = tt; said = c.2 })
  reported (ending.Fault fault (Some image)) h c = absurd h.2
  reported (ending.NoFile e) h c = no_file_reported e h c
  reported ending.Usage h c = absurd h.2
  reported ending.Memory h c = subst R (sym c.1) (record { ends = c.0 ∙ h; handed = tt; said = c.2 })
  reported ending.ReadFault h c = absurd h.2
  reported ending.WriteFault h c = write_fault_reported h c
  reported ending.TooManyReads h c = absurd h.2
  reported (ending.File name) h c = absurd h.2
  reported ending.Changed h c = absurd h.2
  reported ending.LongPath h c = absurd h.2
  reported ending.LongVolume h c = absurd h.2

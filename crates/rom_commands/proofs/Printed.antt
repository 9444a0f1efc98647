-- How a printing ended, once what was held back is handed on.
use Rattle.std.proofs.Common.{◌≡◌, ℕ, ◌<◌, Bool, false, true, List, [], inl, inr, refl, sym, ◌∙◌, subst, arith, None}
use Rattle.std.proofs.Common.{Some}
use Rattle.std.specs.Io.KnownBytes.{Keeps}
use Rattle.rom_fields.specs.Failures.{Rose, one_more}
use Rattle.rom_fields.specs.Written.{AppendsPrefix, Output, sink}
use Rattle.rom_fields.proofs.Joins.{appends_keep, front_all, puts_nothing}
use Rattle.rom_fields.specs.declared.fault.Fault.{Fault}
use Rattle.rom_commands.specs.declared.asked.Asked.{Asked}
use Rattle.rom_commands.specs.declared.ending.Ending.{Ending}
use Rattle.rom_commands.specs.declared.ending.Ending.TheVariants as ending
use Rattle.rom_commands.specs.Asked.{takes_fault}
use Rattle.rom_commands.specs.Endings.{complaint_of, line_of}
use Rattle.rom_commands.specs.Answers.{Closes, Ends, Flushes, HasFault, IsFaultText, IsHandedOn, IsWrittenIf, Prints}
use Rattle.rom_commands.specs.Answers.{has_text}

pub prints_nothing : (o : Output) → Prints o o []
prints_nothing o = (false, puts_nothing (sink o false))

pub unsaid : (err err' : Output) → err' ≡ err → Prints err err' []
unsaid err err' e = let P : Output → Type 0 = λ v. Prints err v [] in subst P (sym e) (prints_nothing err)

pub rose_counted : (old new : ℕ) → old ≡ 0 → Rose old new → new ≡ 0 → ⊥
rose_counted old new z r e = elim r [ inl l ↦ omega arith | inr l ↦ omega arith ]

-- a flush was counted
pub counted : (n m : ℕ) → n ≡ one_more m → 0 < n
counted n m e = omega (arith, e)

-- how it ended, and what was said
pub record Reported (bytes : List ℕ) (asked : Asked) (old new err err' : Output) (result : Ending) : Type 0 where
  pub ends : Ends bytes asked old new result
  pub handed : IsHandedOn result (takes_fault asked) new
  pub said : Prints err err' (complaint_of result (takes_fault asked))

pub prefix_keep : (old mid new : Output) (text : List ℕ) → AppendsPrefix old.contents mid.contents text
    → Keeps mid.contents new.contents → AppendsPrefix old.contents new.contents text
prefix_keep old mid new text a k = (a.0, a.1, appends_keep old.contents mid.contents new.contents a.0 a.2 k, a.3)

module _ (bytes : List ℕ) (asked : Asked) (old mid new err err' : Output) (result : Ending) (fresh : old.failures ≡ 0)
    (k : Keeps mid.contents new.contents) where
  risen : 0 < new.failures → Rose old.failures new.failures
  risen l = inl (omega (arith, fresh, l))

  abbrev R : Ending → Type 0
  R v = Reported bytes asked old new err err' v

  done_reported : Ends bytes asked old mid ending.Done → Flushes mid new err err' ending.Done result → R result
  done_reported h (inl f) = subst R (sym f.1) (record {
    ends = (
      h.0,
      inl (false, h.1),
      front_all old.contents new.contents h.0
          (appends_keep old.contents mid.contents new.contents h.0 h.2 k),
      risen f.0,
    );
    handed = tt;
    said = f.2;
  })
  done_reported h (inr f) = subst R (sym f.2) (record {
    ends = (h.0, h.1, appends_keep old.contents mid.contents new.contents h.0 h.2 k, f.1 ∙ sym fresh);
    handed = counted new.flushes mid.flushes f.4;
    said = unsaid err err' f.3;
  })

  warned_reported : Ends bytes asked old mid ending.Warned → Flushes mid new err err' ending.Warned result → R result
  warned_reported h (inl f) = subst R (sym f.1) (record {
    ends = (
      h.0,
      inl (true, h.1),
      front_all old.contents new.contents h.0
          (appends_keep old.contents mid.contents new.contents h.0 h.2 k),
      risen f.0,
    );
    handed = tt;
    said = f.2;
  })
  warned_reported h (inr f) = subst R (sym f.2) (record {
    ends = (h.0, h.1, appends_keep old.contents mid.contents new.contents h.0 h.2 k, f.1 ∙ sym fresh);
    handed = counted new.flushes mid.flushes f.4;
    said = unsaid err err' f.3;
  })

  write_fault_reported : Ends bytes asked old mid ending.WriteFault
      → Flushes mid new err err' ending.WriteFault result → R result
  write_fault_reported h (inl f) =
      let a = h.2 in
      subst R (sym f.1) (record {
        ends = (h.0, h.1, (a.0, a.1, appends_keep old.contents mid.contents new.contents a.0 a.2 k, a.3), risen f.0);
        handed = tt;
        said = f.2;
      })
  write_fault_reported h (inr f) = absurd (rose_counted old.failures mid.failures fresh h.3 f.0)

  fault_reported : (fault : Fault) (takes : Bool) → takes_fault asked ≡ takes → HasFault bytes fault.number fault.at
      → IsWrittenIf takes (line_of (ending.Fault fault None)) old mid
      → Closes takes mid new err err' (ending.Fault fault None) result → R result
  fault_reported fault true e h t (inl f) =
      let line : List ℕ = line_of (ending.Fault fault None) in
      let is : IsFaultText bytes line = record { number = fault.number; at = fault.at; fault = h; same = refl } in
      subst R (sym f.1) (record {
        ends = (
          line,
          inr (is, e),
          front_all old.contents new.contents line
              (appends_keep old.contents mid.contents new.contents line t.0 k),
          risen f.0,
        );
        handed = tt;
        said = f.2;
      })
  fault_reported fault true e h t (inr f) =
      let line : List ℕ = line_of (ending.Fault fault None) in
      let Told : Bool → Type 0 = λ b. IsWrittenIf b line old new in
      let Handed : Bool → Type 0 = λ b. IsHandedOn (ending.Fault fault None) b new in
      let Said : Bool → Type 0 = λ b. Prints err err' (complaint_of (ending.Fault fault None) b) in
      let whole = appends_keep old.contents mid.contents new.contents line t.0 k in
      subst R (sym f.2) (record {
        ends = (h, subst Told (sym e) (whole, f.1 ∙ sym fresh));
        handed = subst Handed (sym e) (counted new.flushes mid.flushes f.4);
        said = subst Said (sym e) (unsaid err err' f.3);
      })
  fault_reported fault false e h t f =
      let line : List ℕ = line_of (ending.Fault fault None) in
      let Told : Bool → Type 0 = λ b. IsWrittenIf b line old new in
      let Handed : Bool → Type 0 = λ b. IsHandedOn (ending.Fault fault None) b new in
      let Said : Bool → Type 0 = λ b. Prints err err' (complaint_of (ending.Fault fault None) b) in
      subst R (sym f.1) (record {
        ends = (h, subst Told (sym e) (f.0 ∙ t));
        handed = subst Handed (sym e) tt;
        said = subst Said (sym e) f.2;
      })

  pub reported : (o : Ending) → Ends bytes asked old mid o
      → Closes (has_text o (takes_fault asked)) mid new err err' o result → R result
  reported ending.Done h c = done_reported h c
  reported ending.Warned h c = warned_reported h c
  reported (ending.Fault fault None) h c = fault_reported fault (takes_fault asked) refl h.0 h.1 c
  reported (ending.Fault fault (Some image)) h c = absurd h
  reported (ending.NoFile e) h c = absurd h
  reported ending.Usage h c = absurd h
  reported ending.Memory h c = subst R (sym c.1) (record { ends = c.0 ∙ h; handed = tt; said = c.2 })
  reported ending.ReadFault h c = absurd h
  reported ending.WriteFault h c = write_fault_reported h c
  reported ending.TooManyReads h c = absurd h
  reported (ending.File name) h c = absurd h
  reported ending.Changed h c = absurd h
  reported ending.LongPath h c = absurd h
  reported ending.LongVolume h c = absurd h

-- How a command ends, from what was written before the flush.
use Rattle.std.proofs.Common.{◌≡◌, ℕ, [], refl, ◌-◌, ◌^◌, inl, inr, sym, ◌∙◌, subst, List, Bool, true, false, arith}
use Rattle.std.proofs.Common.{Option, Some, None}
use Rattle.std.specs.Prelude.{◌⊎◌}
use Rattle.std.specs.Io.KnownBytes.{Keeps}
use Rattle.std.proofs.lemmas.Bool.{cases_lt}
use Rattle.rom_fields.specs.Failures.{Rose, one_more}
use Rattle.rom_fields.specs.Written.{AppendsPrefix, Output}
use Rattle.rom_fields.proofs.Joins.{appends_keep, appends_none, front_all}
use Rattle.rom_commands.specs.declared.ending.Ending.{Ending}
use Rattle.rom_commands.specs.declared.ending.Ending.TheVariants.{Done, Warned, Fault, NoFile, Usage, Memory, ReadFault}
use Rattle.rom_commands.specs.declared.ending.Ending.TheVariants.{WriteFault, TooManyReads, File, Changed, LongPath}
use Rattle.rom_commands.specs.declared.ending.Ending.TheVariants.{LongVolume}
use Rattle.rom_commands.proofs.Printed.{counted}
use Rattle.rom_commands.specs.Ends.{Closes, Ends, Fails, Finishes, HasText, IsPictured, MayStop, Says, Short, Whole}
use Rattle.rom_commands.specs.Ends.{Writes, is_whole}
use Rattle.rom_commands.specs.Texts.{places_ending, printed_ending, verdict_ending}

front_keep : (old mid new : Output) (text : List ℕ) → AppendsPrefix old.contents mid.contents text
    → Keeps mid.contents new.contents → AppendsPrefix old.contents new.contents text
front_keep old mid new text a k = (a.0, a.1, appends_keep old.contents mid.contents new.contents a.0 a.2 k, a.3)

-- nothing was written
pub nothing : (old new : Output) → new ≡ old
    → AppendsPrefix old.contents new.contents [] × (new.failures ≡ old.failures)
nothing old new e =
    let P : Output → Type 0 = λ v. AppendsPrefix old.contents v.contents [] × (v.failures ≡ old.failures) in
    subst P (sym e) (([], [], appends_none old.contents, refl), refl)

-- a count that rose and then stayed, or counted one more
rose_stays : (a b c : ℕ) → Rose a b → c ≡ b → Rose a c
rose_stays a b c (inl l) e = inl (omega (arith, l, e))
rose_stays a b c (inr l) e = inr l

rose_more : (a b c : ℕ) → Rose a b → c ≡ one_more b → Rose a c
rose_more a b c (inr l) e = inr l
rose_more a b c (inl l) e =
    elim (cases_lt a (2 ^ 64 - 1)) [
      | inl h ↦ inl (omega (arith, l, e, h))
      | inr h ↦ inr h
    ]

more_rose : (a b c : ℕ) → b ≡ a → c ≡ one_more b → Rose a c
more_rose a b c k e =
    elim (cases_lt a (2 ^ 64 - 1)) [
      | inl h ↦ inl (omega (arith, k, e, h))
      | inr h ↦ inr h
    ]

module _ (Text : HasText) (Stop : MayStop) (old mid new err err' : Output) (result : Ending)
    (k : Keeps mid.contents new.contents) where
  stopped : (why : Ending) → Short Stop old mid why → is_whole why ≡ false → Closes mid new err err' why result
      → Ends Text Stop old new err err' result
  stopped why h e (inl f) =
      let said : Fails why err err' result = subst (λ b. Says b why err err' result) e f.2 in
      inr (inr (record {
        why = why;
        text = h.0;
        is = h.1;
        front = front_keep old mid new h.0 h.2 k;
        flushed = counted new.flushes mid.flushes f.1;
        quiet = f.0 ∙ h.3;
        fails = said;
      }))
  stopped why h e (inr f) = inr (inl (record {
    text = h.0;
    is = inr (why, h.1);
    front = front_keep old mid new h.0 h.2 k;
    rose = more_rose old.failures mid.failures new.failures h.3 f.0;
    fails = f.1;
  }))

  whole : (s : Ending) → Whole Text old mid s → is_whole s ≡ true → Closes mid new err err' s result
      → Ends Text Stop old new err err' result
  whole s h e (inl f) =
      let said : (result ≡ s) × (err' ≡ err) = subst (λ b. Says b s err err' result) e f.2 in
      inl (record {
        text = h.0;
        is = subst (λ v. Text h.0 v) (sym said.0) h.1;
        whole = appends_keep old.contents mid.contents new.contents h.0 h.2 k;
        flushed = counted new.flushes mid.flushes f.1;
        quiet = f.0 ∙ h.3;
        unsaid = said.1;
      })
  whole s h e (inr f) = inr (inl (record {
    text = h.0;
    is = inl (s, h.1);
    front = front_all old.contents new.contents h.0 (appends_keep old.contents mid.contents new.contents h.0 h.2 k);
    rose = more_rose old.failures mid.failures new.failures h.3 f.0;
    fails = f.1;
  }))

  pub closed : (printed : Ending) → Writes Text Stop old mid printed → Closes mid new err err' printed result
      → Ends Text Stop old new err err' result
  closed Done h f = whole Done h refl f
  closed Warned h f = whole Warned h refl f
  closed WriteFault h (inl f) = inr (inl (record {
    text = h.0;
    is = inl h.1;
    front = front_keep old mid new h.0 h.2 k;
    rose = rose_stays old.failures mid.failures new.failures h.3 f.0;
    fails = f.2;
  }))
  closed WriteFault h (inr f) = inr (inl (record {
    text = h.0;
    is = inl h.1;
    front = front_keep old mid new h.0 h.2 k;
    rose = rose_more old.failures mid.failures new.failures h.3 f.0;
    fails = f.1;
  }))
  closed Memory h f = stopped Memory h refl f
  closed LongPath h f = stopped LongPath h refl f
  closed (Fault fault image) h f = absurd h
  closed (NoFile e) h f = absurd h
  closed Usage h f = absurd h
  closed ReadFault h f = absurd h
  closed TooManyReads h f = absurd h
  closed (File name) h f = absurd h
  closed Changed h f = absurd h
  closed LongVolume h f = absurd h

-- a text of which nothing is known: the ending is `Done` only after a flush
pub finished : (old new err err' : Output) (result printed : Ending) → IsPictured printed
    → Closes old new err err' printed result → Finishes new err err' result
finished old new err err' result Done h (inl f) =
    subst (λ v. Finishes new err err' v) (sym f.2.0) (counted new.flushes old.flushes f.1, f.2.1)
finished old new err err' result Memory h (inl f) = subst (λ v. Finishes new err err' v) (sym f.2.1) f.2.0
finished old new err err' result WriteFault h (inl f) = subst (λ v. Finishes new err err' v) (sym f.2.1) f.2.0
finished old new err err' result printed h (inr f) = subst (λ v. Finishes new err err' v) (sym f.1.1) f.1.0
finished old new err err' result Warned h (inl f) = absurd h
finished old new err err' result (Fault fault image) h (inl f) = absurd h
finished old new err err' result (NoFile e) h (inl f) = absurd h
finished old new err err' result Usage h (inl f) = absurd h
finished old new err err' result ReadFault h (inl f) = absurd h
finished old new err err' result TooManyReads h (inl f) = absurd h
finished old new err err' result (File name) h (inl f) = absurd h
finished old new err err' result Changed h (inl f) = absurd h
finished old new err err' result LongPath h (inl f) = absurd h
finished old new err err' result LongVolume h (inl f) = absurd h

-- a text that was written whole
pub whole_written : (Text : HasText) (Stop : MayStop) (old new : Output) (o : Ending) → (o ≡ Done) ⊎ (o ≡ Warned)
    → Whole Text old new o → Writes Text Stop old new o
whole_written Text Stop old new o (inl e) h =
    let P : Ending → Type 0 = λ v. Writes Text Stop old new v in
    let Q : Ending → Type 0 = λ v. Whole Text old new v in
    subst P (sym e) (subst Q e h)
whole_written Text Stop old new o (inr e) h =
    let P : Ending → Type 0 = λ v. Writes Text Stop old new v in
    let Q : Ending → Type 0 = λ v. Whole Text old new v in
    subst P (sym e) (subst Q e h)

pub by_printed : (b : Bool) → (printed_ending b ≡ Done) ⊎ (printed_ending b ≡ Warned)
by_printed true = inr refl
by_printed false = inl refl

pub by_places : (b : Bool) → (places_ending b ≡ Done) ⊎ (places_ending b ≡ Warned)
by_places true = inl refl
by_places false = inr refl

pub by_verdict : (v : Option ℕ) → (verdict_ending v ≡ Done) ⊎ (verdict_ending v ≡ Warned)
by_verdict None = inl refl
by_verdict (Some at) = inr refl

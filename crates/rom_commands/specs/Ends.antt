-- How a command that prints a text of a valid image ends. (This project's own.)
use Rattle.std.specs.Prelude.{◌≡◌, ℕ, ◌<◌, ◌⊎◌, List, Bool, true, false}
use Rattle.std.specs.Io.KnownBytes.{Appends}
use Rattle.rom_fields.specs.Failures.{Rose, one_more}
use Rattle.rom_fields.specs.Written.{AppendsPrefix, Output}
use Rattle.rom_commands.specs.Answers.{Prints}
use Rattle.rom_commands.specs.Endings.{line_of}
use Rattle.rom_commands.specs.declared.ending.Ending.{Ending}
use Rattle.rom_commands.specs.declared.ending.Ending.TheVariants.{Done, Warned, Memory}
use Rattle.rom_commands.specs.declared.ending.Ending.TheVariants.{LongPath, WriteFault}

-- standard error has the line of this ending, with which the command ended
abbrev pub Fails : Ending → Output → Output → Ending → Type 0
Fails why err err' result = Prints err err' (line_of why) × (result ≡ why)

-- `HasText`: what a command has to print, with the ending that belongs to it. `MayStop`: for which
-- reasons a command may stop early, and the text of which it printed a prefix then.
abbrev pub HasText : Type 1
HasText = List ℕ → Ending → Type 0

abbrev pub MayStop : Type 1
MayStop = Ending → List ℕ → Type 0

-- All of a text was printed, and after that a flush succeeded. Nothing failed, and standard error
-- has nothing.
pub record Printed (Text : HasText) (old new err err' : Output) (result : Ending) : Type 0 where
  pub text : List ℕ
  pub is : Text text result
  pub whole : Appends old.contents new.contents text
  pub flushed : 0 < new.flushes
  pub quiet : new.failures ≡ old.failures
  pub unsaid : err' ≡ err

-- A write or the flush failed, which standard error says. A prefix of a text was printed.
pub record Broke (Text : HasText) (Stop : MayStop) (old new err err' : Output)
    (result : Ending) : Type 0 where
  pub text : List ℕ
  pub is : ((s : Ending) × Text text s) ⊎ ((w : Ending) × Stop w text)
  pub front : AppendsPrefix old.contents new.contents text
  pub rose : Rose old.failures new.failures
  pub fails : Fails WriteFault err err' result

-- The command stopped for a reason that it may have, which standard error says. A prefix of a text
-- was printed, and after that a flush succeeded.
pub record StoppedShort (Stop : MayStop) (old new err err' : Output)
    (result : Ending) : Type 0 where
  pub why : Ending
  pub text : List ℕ
  pub is : Stop why text
  pub front : AppendsPrefix old.contents new.contents text
  pub flushed : 0 < new.flushes
  pub quiet : new.failures ≡ old.failures
  pub fails : Fails why err err' result

-- how it ends
abbrev pub Ends : HasText → MayStop → Output → Output → Output → Output → Ending → Type 0
Ends Text Stop old new err err' result =
    Printed Text old new err err' result
    ⊎ (Broke Text Stop old new err err' result ⊎ StoppedShort Stop old new err err' result)

-- a text was written whole, which goes with this ending
abbrev pub Whole : HasText → Output → Output → Ending → Type 0
Whole Text old new o =
    (text : List ℕ) × Text text o × Appends old.contents new.contents text
    × (new.failures ≡ old.failures)

-- a prefix of a text was written, and then the command stopped for this reason
abbrev pub Short : MayStop → Output → Output → Ending → Type 0
Short Stop old new why =
    (text : List ℕ) × Stop why text × AppendsPrefix old.contents new.contents text
    × (new.failures ≡ old.failures)

-- what was written before the flush
abbrev pub Writes : HasText → MayStop → Output → Output → Ending → Type 0
Writes Text Stop old new Done = Whole Text old new Done
Writes Text Stop old new Warned = Whole Text old new Warned
Writes Text Stop old new Memory = Short Stop old new Memory
Writes Text Stop old new LongPath = Short Stop old new LongPath
Writes Text Stop old new WriteFault =
    (text : List ℕ) × ((s : Ending) × Text text s)
    × AppendsPrefix old.contents new.contents text × Rose old.failures new.failures
Writes Text Stop old new _ = ⊥

-- whether a text was printed whole
abbrev pub is_whole : Ending → Bool
is_whole Done = true
is_whole Warned = true
is_whole _ = false

-- the ending is the given one, and standard error has its line unless the text is whole
abbrev pub Says : Bool → Ending → Output → Output → Ending → Type 0
Says true s err err' result = (result ≡ s) × (err' ≡ err)
Says false why err err' result = Fails why err err' result

-- the flush succeeded, and what was told is said; or it failed, which standard error says
abbrev pub Closes : Output → Output → Output → Output → Ending → Ending → Type 0
Closes old new err err' printed result =
    ((new.failures ≡ old.failures) × (new.flushes ≡ one_more old.flushes)
    × Says (is_whole printed) printed err err' result)
    ⊎ ((new.failures ≡ one_more old.failures) × Fails WriteFault err err' result)

-- a picture was written, or not, for one of these reasons
abbrev pub IsPictured : Ending → Type 0
IsPictured Done = Unit {0}
IsPictured Memory = Unit {0}
IsPictured WriteFault = Unit {0}
IsPictured _ = ⊥

-- The ending is `Done` only after a flush succeeded, and then standard error has nothing. Otherwise
-- the ending is `Memory` or `WriteFault`, and standard error has its line.
abbrev pub Finishes : Output → Output → Output → Ending → Type 0
Finishes new err err' Done = (0 < new.flushes) × (err' ≡ err)
Finishes new err err' Memory = Prints err err' (line_of Memory)
Finishes new err err' WriteFault = Prints err err' (line_of WriteFault)
Finishes new err err' _ = ⊥

-- What serving images reads and writes, and how it ends: the lines of a reader are answered from
-- the trees that the bytes hold. (This project's own.)
use Rattle.std.specs.Prelude.{◌≡◌, ℕ, ◌^◌, ◌⊎◌, List, [], ◌∷◌, ◌++◌, length, Option, Some, None}
use Rattle.std.specs.Prelude.{Result, Ok, Err}
use Rattle.std.specs.Io.KnownBytes.{Appends}
use Rattle.rom_fields.specs.declared.bytes.Failed.{Failed}
use Rattle.rom_fields.specs.Failures.{Rose, one_more}
use Rattle.rom_fields.specs.Written.{AppendsPrefix, Output}
use Rattle.rom_fields.specs.declared.check_error.CheckError.{CheckError}
use Rattle.rom_fields.specs.declared.check_error.CheckError.TheVariants as check
use Rattle.rom_fields.specs.declared.fault.Fault.{Fault}
use Rattle.rom_tree.specs.Image.{Image}
use Rattle.rom_tree.specs.declared.types.Limits.{Limits}
use Rattle.image_check.specs.Any.{any_view}
use Rattle.image_check.specs.declared.any.AnyImage.{AnyImage}
use Rattle.open_files.specs.Machine.{no_files}
use Rattle.open_files.specs.Sessions.{no_sessions}
use Rattle.serve_lines.specs.Served.{Machine, Serves, Finishes, Breaks}
use Rattle.serve_lines.specs.declared.error.ServeError.{ServeError}
use Rattle.serve_lines.specs.declared.error.ServeError.TheVariants as serve
use Rattle.rom_serve.specs.Machines.{image_machine, space_machine}
use Rattle.rom_commands.specs.Lines.{fault_line, fault_in_line}
use Rattle.rom_commands.specs.Answers.{Holds, HoldsUnder, HasFault, IsFaultTextUnder}
use Rattle.rom_commands.specs.Answers.{usual_limits}
use Rattle.rom_commands.specs.Endings.{line_of}
use Rattle.rom_commands.specs.declared.ending.Ending.{Ending}
use Rattle.rom_commands.specs.declared.ending.Ending.TheVariants as ending
use Rattle.rom_commands.specs.declared.serving.Serving.{Serving}
use Rattle.rom_commands.specs.declared.serving.Serving.TheVariants.{Served, Refused, Memory}
use Rattle.rom_commands.specs.declared.serving.Serving.TheVariants.{ReadFault, WriteFault}
use Rattle.rom_commands.specs.declared.serving.Serving.TheVariants.{TooManyReads}

-- a reader: the bytes that its reads will return, if they are known, and the number of its reads
-- that failed
pub record Input : Type 0 where
  pub remaining : Option (List ℕ)
  pub failures : ℕ

abbrev pub input_of : Option (List ℕ) → ℕ → Input
input_of remaining failures = record { remaining = remaining; failures = failures }

-- how the answering of lines ended, for the program and for its callers
abbrev pub ending_of : Result (Unit {0}) ServeError → Ending
ending_of (Ok _) = ending.Done
ending_of (Err serve.ReadFault) = ending.ReadFault
ending_of (Err serve.WriteFault) = ending.WriteFault
ending_of (Err serve.TooManyReads) = ending.TooManyReads

abbrev pub serving_of : Result (Unit {0}) ServeError → Serving
serving_of (Ok _) = Served
serving_of (Err serve.ReadFault) = ReadFault
serving_of (Err serve.WriteFault) = WriteFault
serving_of (Err serve.TooManyReads) = TooManyReads

-- how the writing of a fault's line ended
abbrev pub refusal_of : Result (Unit {0}) Failed → Serving
refusal_of (Ok _) = Refused
refusal_of (Err _) = WriteFault

-- The machine m answered lines from its state s on: what was read and written in each ending. The
-- reader was r₀ and is r; the writer was w₀ and is w.
abbrev pub EndsServed : {S : Type 0} → Machine S → S → Input → Input → Output → Output → Serving
    → Type 0
EndsServed m s r₀ r w₀ w Served =
    Serves m s r₀.remaining r.remaining w₀ w
    × (r.failures ≡ r₀.failures) × (w.failures ≡ w₀.failures)
EndsServed m s r₀ r w₀ w ReadFault =
    Rose r₀.failures r.failures
    × ((y : List ℕ) × Finishes m s r₀.remaining r.remaining w₀ w y)
EndsServed m s r₀ r w₀ w WriteFault =
    Rose w₀.failures w.failures × Breaks m s r₀.remaining r.remaining w₀ w
EndsServed m s r₀ r w₀ w TooManyReads =
    (y : List ℕ) × (length y ≡ 2 ^ 40) × Finishes m s r₀.remaining r.remaining w₀ w y
EndsServed m s r₀ r w₀ w Refused = ⊥
EndsServed m s r₀ r w₀ w Memory = ⊥

-- No line was answered, and nothing was read. The text of a fault was written and flushed once, or
-- memory was refused.
abbrev pub EndsRefused : (List ℕ → Type 0) → Input → Input → Output → Output → Serving → Type 0
EndsRefused IsText r₀ r w₀ w Refused =
    (r ≡ r₀) × ((text : List ℕ) × IsText text × Appends w₀.contents w.contents text)
    × (w.failures ≡ w₀.failures) × (w.flushes ≡ one_more w₀.flushes)
EndsRefused IsText r₀ r w₀ w WriteFault =
    (r ≡ r₀) × ((text : List ℕ) × IsText text × AppendsPrefix w₀.contents w.contents text)
    × Rose w₀.failures w.failures
EndsRefused IsText r₀ r w₀ w Memory = (r ≡ r₀) × (w ≡ w₀)
EndsRefused IsText r₀ r w₀ w Served = ⊥
EndsRefused IsText r₀ r w₀ w ReadFault = ⊥
EndsRefused IsText r₀ r w₀ w TooManyReads = ⊥

-- No line was answered, and nothing was read. This text was written and flushed once, or that
-- failed.
abbrev pub Reports : List ℕ → Input → Input → Output → Output → Serving → Type 0
Reports text r₀ r w₀ w Refused =
    (r ≡ r₀) × Appends w₀.contents w.contents text
    × (w.failures ≡ w₀.failures) × (w.flushes ≡ one_more w₀.flushes)
Reports text r₀ r w₀ w WriteFault =
    (r ≡ r₀) × AppendsPrefix w₀.contents w.contents text × Rose w₀.failures w.failures
Reports text r₀ r w₀ w Memory = ⊥
Reports text r₀ r w₀ w Served = ⊥
Reports text r₀ r w₀ w ReadFault = ⊥
Reports text r₀ r w₀ w TooManyReads = ⊥

-- What serving does after the check of the image. If the image is accepted, lines are answered from
-- it, with nothing open at first. If it has a fault, the fault's line is written. If memory was
-- refused to the check, nothing is done.
abbrev pub CheckedEnds : Result AnyImage CheckError → Input → Input → Output → Output → Serving
    → Type 0
CheckedEnds (Ok v) r₀ r w₀ w o = EndsServed (image_machine (any_view v)) (no_files 64) r₀ r w₀ w o
CheckedEnds (Err (check.Fault number at)) r₀ r w₀ w o = Reports (fault_line number at) r₀ r w₀ w o
CheckedEnds (Err check.OutOfMemory) r₀ r w₀ w o = (o ≡ Memory) × (r ≡ r₀) × (w ≡ w₀)

-- The bytes hold an image under these limits, and lines were answered from its tree, with nothing
-- open at first; or the bytes were refused.
abbrev pub ServingEndsUnder : Limits → List ℕ → Input → Input → Output → Output → Serving → Type 0
ServingEndsUnder limits bytes r₀ r w₀ w o =
    ((m : Image) × HoldsUnder limits bytes m
    × EndsServed (image_machine m) (no_files 64) r₀ r w₀ w o)
    ⊎ EndsRefused (IsFaultTextUnder limits bytes) r₀ r w₀ w o

-- the same under the usual limits
abbrev pub ServingEnds : List ℕ → Input → Input → Output → Output → Serving → Type 0
ServingEnds bytes r₀ r w₀ w o = ServingEndsUnder usual_limits bytes r₀ r w₀ w o

-- Several images.

-- each of the bytes holds the image at its number
abbrev pub HoldAll : List (List ℕ) → List Image → Type 0
HoldAll [] [] = Unit {0}
HoldAll (b ∷ bs) (m ∷ ms) = Holds b m × HoldAll bs ms
HoldAll [] (m ∷ ms) = ⊥
HoldAll (b ∷ bs) [] = ⊥

-- this is the fault of the first of the bytes that hold no image, and they have this number
pub record HasFirstFault (all : List (List ℕ)) (number at image : ℕ) : Type 0 where
  pub before : List (List ℕ)
  pub bytes : List ℕ
  pub after : List (List ℕ)
  pub split : all ≡ before ++ bytes ∷ after
  pub images : List Image
  pub held : HoldAll before images
  pub counted : image ≡ length before
  pub fault : HasFault bytes number at

-- the text is the line of this fault
pub record IsFirstFaultText (all : List (List ℕ)) (text : List ℕ) : Type 0 where
  pub number : ℕ
  pub at : ℕ
  pub image : ℕ
  pub first : HasFirstFault all number at image
  pub same : text ≡ fault_in_line number at image

-- All of the bytes hold images, and lines were answered from their trees with sessions, with
-- nothing mounted or open at first; or they were refused.
abbrev pub SpaceEnds : List (List ℕ) → Input → Input → Output → Output → Serving → Type 0
SpaceEnds all r₀ r w₀ w o =
    ((ms : List Image) × HoldAll all ms
    × EndsServed (space_machine ms) (no_sessions 64) r₀ r w₀ w o)
    ⊎ EndsRefused (IsFirstFaultText all) r₀ r w₀ w o

-- Serving as an ending of the program. What was done is so of each way in which serving ended. If
-- an image has a fault, the ending has it, and what was refused is so of it.
abbrev pub EndsAs : (Serving → Type 0) → (Fault → Option ℕ → Type 0) → Ending → Type 0
EndsAs Did Had ending.Done = Did Served
EndsAs Did Had (ending.Fault fault image) = Had fault image
EndsAs Did Had ending.Memory = Did Memory
EndsAs Did Had ending.ReadFault = Did ReadFault
EndsAs Did Had ending.WriteFault = Did WriteFault
EndsAs Did Had ending.TooManyReads = Did TooManyReads
EndsAs Did Had _ = ⊥

-- the fault of an ending is that of these bytes, or the first fault of all bytes
abbrev pub IsFaultOf : List ℕ → Fault → Option ℕ → Type 0
IsFaultOf bytes fault None = HasFault bytes fault.number fault.at
IsFaultOf bytes fault (Some image) = ⊥

abbrev pub IsFaultIn : List (List ℕ) → Fault → Option ℕ → Type 0
IsFaultIn all fault None = ⊥
IsFaultIn all fault (Some image) = HasFirstFault all fault.number fault.at image

-- an image was served as the program ends, and so were several images: if there is a fault, its
-- line was written
abbrev pub ImageEnds : List ℕ → Input → Input → Output → Output → Ending → Type 0
ImageEnds bytes r₀ r w₀ w o =
    EndsAs (λ s. ServingEnds bytes r₀ r w₀ w s)
    (λ fault image. IsFaultOf bytes fault image
    × Reports (line_of (ending.Fault fault image)) r₀ r w₀ w Refused) o

abbrev pub ImagesEnd : List (List ℕ) → Input → Input → Output → Output → Ending → Type 0
ImagesEnd all r₀ r w₀ w o =
    EndsAs (λ s. SpaceEnds all r₀ r w₀ w s)
    (λ fault image. IsFaultIn all fault image
    × Reports (line_of (ending.Fault fault image)) r₀ r w₀ w Refused) o

-- What is printed of an image, and how the printing ends. (This project's own.)
use Rattle.std.specs.Prelude.{◌≡◌, ◌<◌, ℕ, ◌⊎◌, Bool, true, false, List, None}
use Rattle.std.specs.Prelude.{Result, Ok, Err}
use Rattle.std.specs.Io.KnownBytes.{Appends}
use Rattle.rom_fields.specs.Failures.{Rose, one_more}
use Rattle.rom_fields.specs.Written.{AppendsPrefix, Output, Puts, sink}
use Rattle.rom_tree.specs.Image.{Image}
use Rattle.rom_fields.specs.declared.check_error.CheckError.{CheckError}
use Rattle.rom_fields.specs.declared.check_error.CheckError.TheVariants.{Fault}
use Rattle.rom_tree.specs.declared.types.Limits.{Limits}
use Rattle.rom_tree.specs.declared.types.Report.{Report}
use Rattle.rom_commands.specs.Lines.{fault_line}
use Rattle.rom_commands.specs.Asked.{sound_text, takes_fault, warns}
use Rattle.rom_commands.specs.declared.asked.Asked.{Asked}
use Rattle.image_check.specs.declared.any.AnyImage.{AnyImage}
use Rattle.image_check.specs.Any.{any_view, report_of}
use Rattle.image_check.specs.Checked.{Shows, IsRefused, HasFormat, IsFaultless, IsLeastFaultUnder}
use Rattle.rom_commands.specs.declared.ending.Ending.{Ending}
use Rattle.rom_commands.specs.declared.ending.Ending.TheVariants as ending
use Rattle.rom_commands.specs.Endings.{line_of}

-- 1,048,576 references, and 64 names on the way to an entry
abbrev pub usual_limits : Limits
usual_limits = record { references = 1048576; depth = 64 }

-- m is the image that these bytes hold under these limits: its tree is the one that the format
-- gives the bytes, and they have no fault
pub record HoldsUnder (limits : Limits) (bytes : List ℕ) (m : Image) : Type 0 where
  pub report : Report
  pub shows : Shows bytes limits m report
  pub clean : IsFaultless bytes limits

-- the same under the usual limits
abbrev pub Holds : List ℕ → Image → Type 0
Holds bytes m = HoldsUnder usual_limits bytes m

-- the text is what is written of the valid image that these bytes hold, and it is or is not a
-- warning
pub record IsSoundText (asked : Asked) (bytes text : List ℕ) (warned : Bool) : Type 0 where
  pub image : AnyImage
  pub shows : Shows bytes usual_limits (any_view image) (report_of image)
  pub format : HasFormat bytes image
  pub clean : IsFaultless bytes usual_limits
  pub same : text ≡ sound_text asked image
  pub warning : warned ≡ warns asked image

-- the text is what is written of this image
abbrev pub IsTextOf : List ℕ → Asked → List ℕ → Type 0
IsTextOf bytes asked text = (warned : Bool) × IsSoundText asked bytes text warned

-- these bytes hold no tree under these limits, and this is their least fault
pub record HasFaultUnder (limits : Limits) (bytes : List ℕ) (number at : ℕ) : Type 0 where
  pub refused : IsRefused bytes limits (Fault number at)
  pub least : IsLeastFaultUnder bytes limits (Fault number at)

-- the same under the usual limits
abbrev pub HasFault : List ℕ → (number at : ℕ) → Type 0
HasFault bytes number at = HasFaultUnder usual_limits bytes number at

-- the text is the line of the fault of these bytes under these limits
pub record IsFaultTextUnder (limits : Limits) (bytes text : List ℕ) : Type 0 where
  pub number : ℕ
  pub at : ℕ
  pub fault : HasFaultUnder limits bytes number at
  pub same : text ≡ fault_line number at

-- the same under the usual limits
abbrev pub IsFaultText : (bytes text : List ℕ) → Type 0
IsFaultText bytes text = IsFaultTextUnder usual_limits bytes text

-- the line was written, if it belongs there; otherwise nothing was written
abbrev pub IsWrittenIf : Bool → List ℕ → Output → Output → Type 0
IsWrittenIf true line old new =
    Appends old.contents new.contents line × (new.failures ≡ old.failures)
IsWrittenIf false line old new = new ≡ old

-- what a check of these bytes under the usual limits answers
abbrev pub IsAnswer : List ℕ → Result AnyImage CheckError → Type 0
IsAnswer bytes (Ok v) =
    Shows bytes usual_limits (any_view v) (report_of v) × HasFormat bytes v
    × IsFaultless bytes usual_limits
IsAnswer bytes (Err e) = IsRefused bytes usual_limits e × IsLeastFaultUnder bytes usual_limits e

-- What was written of the image with these bytes, in each ending. The fault of an ending is the
-- least fault of these bytes.
abbrev pub Ends : List ℕ → Asked → Output → Output → Ending → Type 0
Ends bytes asked old new ending.Done =
    (text : List ℕ) × IsSoundText asked bytes text false
    × Appends old.contents new.contents text × (new.failures ≡ old.failures)
Ends bytes asked old new ending.Warned =
    (text : List ℕ) × IsSoundText asked bytes text true
    × Appends old.contents new.contents text × (new.failures ≡ old.failures)
Ends bytes asked old new (ending.Fault fault None) =
    HasFault bytes fault.number fault.at
    × IsWrittenIf (takes_fault asked) (line_of (ending.Fault fault None)) old new
Ends bytes asked old new ending.Memory = new ≡ old
Ends bytes asked old new ending.WriteFault =
    (text : List ℕ)
    × (IsTextOf bytes asked text ⊎ (IsFaultText bytes text × (takes_fault asked ≡ true)))
    × AppendsPrefix old.contents new.contents text × Rose old.failures new.failures
Ends bytes asked old new _ = ⊥

-- whether the output has a text, of which a part may be held back
abbrev pub has_text : Ending → Bool → Bool
has_text ending.Done takes = true
has_text ending.Warned takes = true
has_text ending.WriteFault takes = true
has_text (ending.Fault fault image) takes = takes
has_text _ takes = false

-- the text was put into a writer, or a prefix of it if a write failed
abbrev pub Prints : Output → Output → List ℕ → Type 0
Prints old new text = (failed : Bool) × Puts (sink old false) (sink new failed) text

-- one flush passed on what was held back, and the ending stays; or a write failed, which is
-- reported
abbrev pub Flushes : Output → Output → Output → Output → Ending → Ending → Type 0
Flushes old new err err' given result =
    ((0 < new.failures) × (result ≡ ending.WriteFault)
    × Prints err err' (line_of ending.WriteFault))
    ⊎ ((old.failures ≡ 0) × (new.failures ≡ 0) × (result ≡ given) × (err' ≡ err)
    × (new.flushes ≡ one_more old.flushes))

-- a text is flushed; otherwise the ending is reported
abbrev pub Closes : Bool → Output → Output → Output → Output → Ending → Ending → Type 0
Closes true old new err err' given result = Flushes old new err err' given result
Closes false old new err err' given result =
    (new ≡ old) × (result ≡ given) × Prints err err' (line_of given)

-- a flush succeeded, if the ending says that a whole text was written
abbrev pub IsHandedOn : Ending → Bool → Output → Type 0
IsHandedOn ending.Done takes new = 0 < new.flushes
IsHandedOn ending.Warned takes new = 0 < new.flushes
IsHandedOn (ending.Fault fault image) true new = 0 < new.flushes
IsHandedOn _ takes new = Unit {0}

-- The line of this fault was written in place of what was asked, if it belongs there. Otherwise
-- nothing was written.
abbrev pub ShowsFault : Bool → Ending → Output → Output → Ending → Type 0
ShowsFault true fault old new result =
    ((result ≡ fault) × Appends old.contents new.contents (line_of fault)
    × (new.failures ≡ old.failures))
    ⊎ ((result ≡ ending.WriteFault) × AppendsPrefix old.contents new.contents (line_of fault)
    × Rose old.failures new.failures)
ShowsFault false fault old new result = (result ≡ fault) × (new ≡ old)

-- the line of this fault was written and flushed once, or a write failed
abbrev pub WritesFault : Ending → Output → Output → Ending → Type 0
WritesFault fault old new result =
    ((result ≡ fault) × Appends old.contents new.contents (line_of fault)
    × (new.failures ≡ old.failures) × (new.flushes ≡ one_more old.flushes))
    ⊎ ((result ≡ ending.WriteFault) × AppendsPrefix old.contents new.contents (line_of fault)
    × Rose old.failures new.failures)

-- The files of a manifest: those that a scan found, with what is laid over them and set, step by
-- step. `Reading`: what is read meanwhile. `IsComposed`: the files after all steps. (This project's
-- own.)
use Rattle.std.specs.Prelude.{◌≡◌, ⊤, ℕ, Bool, List, [], ◌∷◌, ◌++◌, map, Option, Some, None}
use Rattle.build_commands.specs.Alignments.{aligned_all, shared}
use Rattle.build_commands.specs.Equal.{compared, further, shared_all}
use Rattle.build_commands.specs.Laying.{IsListLaid, IsListRefusal, IsTableLaid, IsTableRefusal}
use Rattle.build_commands.specs.Overlay.{AreLaid, IsMixed}
use Rattle.build_commands.specs.Rights.{owned}
use Rattle.build_commands.specs.declared.composing.ComposeError.{ComposeError}
use Rattle.build_commands.specs.declared.composing.ComposeError.TheVariants as error
use Rattle.build_commands.specs.declared.composing.DeviceText.{DeviceText}
use Rattle.build_commands.specs.declared.composing.DeviceText.TheVariants as text
use Rattle.build_commands.specs.declared.composing.Owner.{Owner}
use Rattle.build_commands.specs.declared.inventory.NamedFile.{NamedFile}
use Rattle.build_commands.specs.declared.laying.LayError.{LayError}

-- what was answered: the alignments of files; the text of a table or a list, if there is one; the
-- sizes of files, if equal ones share their contents; digests of those that are compared; and which
-- files became further names
pub data Reading : Type 0 where
  aligned : List NamedFile → List ℕ → Reading
  told : DeviceText → Option (List ℕ) → Reading
  sized : List NamedFile → Option (List ℕ) → Reading
  digested : List NamedFile → List ℕ → List Bool → List (Option (List ℕ)) → Reading
  joined : List NamedFile → List Bool → Reading

-- a list that was possible as the log is possible now with these answers behind it
abbrev pub Logs : (List Reading → Type 0) → (List Reading → Type 0) → List Reading → Type 0
Logs was is answers = (log : List Reading) → was log → is (log ++ answers)

-- all files with one owner and group, if these are given
abbrev pub owned_by : Option Owner → List NamedFile → List NamedFile
owned_by None fs = fs
owned_by (Some o) fs = map (owned o.uid o.gid) fs

-- of each path the last file counts, which gets the owner and the alignment that was read for it
pub record IsAligned (owner : Option Owner) (found : List NamedFile) (answers : List Reading)
    (files : List NamedFile) : Type 0 where
  pub laid : List NamedFile
  pub over : AreLaid found laid
  pub aligns : List ℕ
  pub read : answers ≡ aligned (owned_by owner laid) aligns ∷ []
  pub is : files ≡ aligned_all aligns (owned_by owner laid)

-- what a text makes of files
abbrev pub IsLaidBy : DeviceText → List NamedFile → List ℕ → List NamedFile → Type 0
IsLaidBy text.Table fs t gs = IsTableLaid fs t gs
IsLaidBy text.List fs t gs = IsListLaid fs t gs
IsLaidBy text.Given fs t gs = IsListLaid fs t gs

-- the files stay if there is no such text
abbrev pub IsLaidIf : DeviceText → List NamedFile → Option (List ℕ) → List NamedFile → Type 0
IsLaidIf which fs None gs = gs ≡ fs
IsLaidIf which fs (Some t) gs = IsLaidBy which fs t gs

-- a text was read and laid over files
abbrev pub IsRead : (List Reading → Type 0) → (List Reading → Type 0) → DeviceText → List NamedFile
    → List NamedFile → Type 0
IsRead was is which fs gs =
    (t : Option (List ℕ)) × Logs was is (told which t ∷ []) × IsLaidIf which fs t gs

-- a step after others: a text is read, and laid over the files
pub record IsNext (which : DeviceText) (Before : List Reading → List NamedFile → Type 0)
    (answers : List Reading) (files : List NamedFile) : Type 0 where
  pub earlier : List Reading
  pub fs : List NamedFile
  pub before : Before earlier fs
  pub t : Option (List ℕ)
  pub read : answers ≡ earlier ++ told which t ∷ []
  pub laid : IsLaidIf which fs t files

-- the steps: the table, then the list, then the devices that are given one by one
abbrev pub IsTabled : Option Owner → List NamedFile → List Reading → List NamedFile → Type 0
IsTabled owner found = IsNext text.Table (IsAligned owner found)

abbrev pub IsListed : Option Owner → List NamedFile → List Reading → List NamedFile → Type 0
IsListed owner found = IsNext text.List (IsTabled owner found)

abbrev pub IsGiven : Option Owner → List NamedFile → List Reading → List NamedFile → Type 0
IsGiven owner found = IsNext text.Given (IsListed owner found)

-- the files before the step of a text
abbrev pub IsBefore : DeviceText → Option Owner → List NamedFile → List Reading → List NamedFile
    → Type 0
IsBefore text.Table owner found answers fs = IsAligned owner found answers fs
IsBefore text.List owner found answers fs = IsTabled owner found answers fs
IsBefore text.Given owner found answers fs = IsListed owner found answers fs

-- Files of equal contents share them, if sizes are answered: exactly those are compared whose sizes
-- and attributes leave it open, and each name of a file has the largest alignment of its names.
abbrev pub AreShared : List NamedFile → Option (List ℕ) → List Reading → List NamedFile → Type 0
AreShared fs None answers gs = (gs ≡ fs) × (answers ≡ sized fs None ∷ [])
AreShared fs (Some lens) answers gs =
    (digests : List (Option (List ℕ)))
    × (gs ≡ map (shared (shared_all fs lens digests)) (shared_all fs lens digests))
    × (answers ≡ sized fs (Some lens) ∷ digested fs lens (compared fs lens) digests
    ∷ joined (shared_all fs lens digests) (further fs lens digests) ∷ [])

-- the files after all steps
pub record IsComposed (owner : Option Owner) (found : List NamedFile) (answers : List Reading)
    (files : List NamedFile) : Type 0 where
  pub earlier : List Reading
  pub fs : List NamedFile
  pub given : IsGiven owner found earlier fs
  pub lens : Option (List ℕ)
  pub last : List Reading
  pub shared : AreShared fs lens last files
  pub read : answers ≡ earlier ++ last

-- a text is refused, or cannot be laid over files
abbrev pub IsLayRefusal : DeviceText → List NamedFile → List ℕ → LayError → Type 0
IsLayRefusal text.Table fs t e = IsTableRefusal fs t e
IsLayRefusal text.List fs t e = IsListRefusal fs t e
IsLayRefusal text.Given fs t e = IsListRefusal fs t e

-- a text that was read is refused after the steps before it
pub record IsUnlaid (owner : Option Owner) (found : List NamedFile) (which : DeviceText)
    (t : List ℕ) (e : LayError) (answers : List Reading) : Type 0 where
  pub earlier : List Reading
  pub fs : List NamedFile
  pub before : IsBefore which owner found earlier fs
  pub refused : IsLayRefusal which fs t e
  pub read : answers ≡ earlier ++ told which (Some t) ∷ []

-- why there are no such files: memory or a reading may be refused at any time
abbrev pub IsRefusal : {E : Type 0} → Option Owner → List NamedFile → (List Reading → Type 0)
    → (List Reading → Type 0) → ComposeError E → Type 0
IsRefusal owner found was is error.OutOfMemory = ⊤
IsRefusal owner found was is (error.Unread e) = ⊤
IsRefusal owner found was is (error.Kinds f) = IsMixed found f × Logs was is []
IsRefusal owner found was is (error.Unlaid which t e) =
    (answers : List Reading) × Logs was is answers
    × IsUnlaid owner found which t.items e answers

-- the same before a text was read
abbrev pub IsAlignRefusal : {E : Type 0} → List NamedFile → (List Reading → Type 0)
    → (List Reading → Type 0) → ComposeError E → Type 0
IsAlignRefusal found was is error.OutOfMemory = ⊤
IsAlignRefusal found was is (error.Unread e) = ⊤
IsAlignRefusal found was is (error.Kinds f) = IsMixed found f × Logs was is []
IsAlignRefusal found was is (error.Unlaid which t e) = ⊥

-- the same of one step
abbrev pub IsStepRefusal : {E : Type 0} → DeviceText → List NamedFile → (List Reading → Type 0)
    → (List Reading → Type 0) → ComposeError E → Type 0
IsStepRefusal which fs was is error.OutOfMemory = ⊤
IsStepRefusal which fs was is (error.Unread e) = ⊤
IsStepRefusal which fs was is (error.Kinds f) = ⊥
IsStepRefusal which fs was is (error.Unlaid by t e) =
    (by ≡ which) × Logs was is (told which (Some t.items) ∷ []) × IsLayRefusal which fs t.items e

-- memory or a reading was refused
abbrev pub IsUnread : {E : Type 0} → ComposeError E → Type 0
IsUnread error.OutOfMemory = ⊤
IsUnread (error.Unread e) = ⊤
IsUnread (error.Kinds f) = ⊥
IsUnread (error.Unlaid which t e) = ⊥

-- What is printed of an image, from what its check found.
use Rattle.std.proofs.Common.{◌≡◌, ℕ, Bool, List, Result, Ok, Err, IfOk, IfErr, length, refl, sym, ap, ◌∙◌, ◌++◌, subst}
use Rattle.rom_fields.specs.declared.check_error.CheckError.{CheckError}
use Rattle.rom_fields.specs.declared.check_error.CheckError.TheVariants.{Fault}
use Rattle.rom_tree.specs.declared.types.Limits.{Limits}
use Rattle.image_check.specs.declared.any.AnyImage.{AnyImage}
use Rattle.image_check.specs.Any.{any_view, report_of}
use Rattle.rom_tree.specs.Image.{Image}
use Rattle.rom_tree.specs.declared.types.Report.{Report}
use Rattle.image_check.specs.Checked.{romfs as shows_romfs, cramfs as shows_cramfs}
use Rattle.image_check.specs.Checked.{Shows, IsRefused, HasFormat, IsFaultless, IsLeastFaultUnder}
use Rattle.rom_fields.specs.Written.{Output}
use Rattle.rom_fields.proofs.Joins.{front_first}
use Rattle.image_info.specs.Endings.{WritesAll}
use Rattle.image_info.specs.declared.info.InfoError.{InfoError}
use Rattle.image_info.specs.declared.info.InfoError.TheVariants.{OutOfMemory, WriteFault}
use Rattle.rom_commands.specs.declared.asked.Asked.{Asked}
use Rattle.rom_commands.specs.Asked.{sound_text, warns, Fits}
use Rattle.rom_commands.specs.Answers.{Holds, IsAnswer, IsSoundText, HasFault, usual_limits}

-- limits of these numbers are the usual ones
pub usual : (l : Limits) → l.references ≡ 1048576 → l.depth ≡ 64 → l ≡ usual_limits
usual l r d =
    let by_references : ℕ → Limits = λ n. record { references = n; depth = l.depth } in
    let by_depth : ℕ → Limits = λ n. record { references = 1048576; depth = n } in
    ap by_references r ∙ ap by_depth d

-- a checked image is the one that its bytes hold
pub held : (bytes : List ℕ) (l : Limits) (v : AnyImage) → l ≡ usual_limits → Shows bytes l (any_view v) (report_of v)
    → IsFaultless bytes l → Holds bytes (any_view v)
held bytes l v e h k =
    let P : Limits → Type 0 = λ u. Shows bytes u (any_view v) (report_of v) in
    let Q : Limits → Type 0 = λ u. IsFaultless bytes u in
    record { report = report_of v; shows = subst P e h; clean = subst Q e k }

pub sound : (bytes : List ℕ) (asked : Asked) (l : Limits) (v : AnyImage) → l ≡ usual_limits
    → Shows bytes l (any_view v) (report_of v) → HasFormat bytes v → IsFaultless bytes l
    → (warned : Bool) → warned ≡ warns asked v → IsSoundText asked bytes (sound_text asked v) warned
sound bytes asked l v e h f k warned w =
    let P : Limits → Type 0 = λ u. Shows bytes u (any_view v) (report_of v) in
    let Q : Limits → Type 0 = λ u. IsFaultless bytes u in
    record { image = v; shows = subst P e h; format = f; clean = subst Q e k; same = refl; warning = w }

-- an image shows the bytes that were checked
pub shown_bytes : (bytes : List ℕ) (l : Limits) (m : Image) (r : Report) → Shows bytes l m r → m.bytes ≡ bytes
shown_bytes bytes l m r (shows_romfs h) = h.bytes
shown_bytes bytes l m r (shows_cramfs h) = h.bytes

-- so its addresses fit where theirs do
pub shown_fits : (asked : Asked) (bytes : List ℕ) (l : Limits) (v : AnyImage) → Shows bytes l (any_view v) (report_of v)
    → Fits asked (length bytes) → Fits asked (length (any_view v).bytes)
shown_fits asked bytes l v h f = let P : List ℕ → Type 0 =
    λ u. Fits asked (length u) in subst P (sym (shown_bytes bytes l (any_view v) (report_of v) h)) f

-- the fault that a check found
pub fault_of : (bytes : List ℕ) (l : Limits) (number at : ℕ) → l ≡ usual_limits → IsRefused bytes l (Fault number at)
    → IsLeastFaultUnder bytes l (Fault number at) → HasFault bytes number at
fault_of bytes l number at e h k =
    let P : Limits → Type 0 = λ v. IsRefused bytes v (Fault number at) in
    let Q : Limits → Type 0 = λ v. IsLeastFaultUnder bytes v (Fault number at) in
    record { refused = subst P e h; least = subst Q e k }

-- a failure with nothing to tell is one with something to tell
pub failed_as_well : (old new : Output) (text : List ℕ) (e : InfoError) → WritesAll {T = Unit {0}} old new text (Err e)
    → WritesAll {T = Bool} old new text (Err e)
failed_as_well old new text OutOfMemory h = h
failed_as_well old new text WriteFault h = h

-- a failure of a front is one of the whole
pub failed_front : (old new : Output) (s t : List ℕ) (e : InfoError) → WritesAll {T = Unit {0}} old new s (Err e)
    → WritesAll {T = Bool} old new (s ++ t) (Err e)
failed_front old new s t OutOfMemory h = h
failed_front old new s t WriteFault h = (front_first old.contents new.contents s t h.0, h.1)

-- what a check under these limits answers, if they are the usual ones
pub answered : (bytes : List ℕ) (l : Limits) (r : Result AnyImage CheckError) → l ≡ usual_limits
    → IfOk r (λ v. Shows bytes l (any_view v) (report_of v)) → IfOk r (HasFormat bytes)
    → IfOk r (λ v. IsFaultless bytes l) → IfErr r (IsRefused bytes l) → IfErr r (IsLeastFaultUnder bytes l)
    → IsAnswer bytes r
answered bytes l (Ok v) e h f k r t =
    let P : Limits → Type 0 = λ u. Shows bytes u (any_view v) (report_of v) in
    let Q : Limits → Type 0 = λ u. IsFaultless bytes u in
    (subst P e h, f, subst Q e k)
answered bytes l (Err x) e h f k r t =
    let P : Limits → Type 0 = λ u. IsRefused bytes u x in
    let Q : Limits → Type 0 = λ u. IsLeastFaultUnder bytes u x in
    (subst P e r, subst Q e t)

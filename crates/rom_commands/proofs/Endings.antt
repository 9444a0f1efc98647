-- How a serving ended, from what the server and the writer of a fault's line say.
use Rattle.std.proofs.Common.{◌≡◌, ℕ, ◌^◌, List, length, Result, Ok, Err, OnOk, refl, sym, subst, inl, inr}
use Rattle.std.proofs.Common.{Option, Some, None}
use Rattle.std.specs.Prelude.{IfOk, IfErr}
use Rattle.rom_fields.specs.declared.bytes.Failed.{Failed}
use Rattle.rom_fields.specs.Failures.{Rose, Counts, one_more}
use Rattle.rom_fields.specs.Written.{Output, WritesText}
use Rattle.rom_fields.specs.declared.check_error.CheckError.{CheckError}
use Rattle.rom_fields.specs.declared.check_error.CheckError.TheVariants as check
use Rattle.rom_tree.specs.Image.{Image}
use Rattle.rom_tree.specs.declared.types.Limits.{Limits}
use Rattle.image_check.specs.Any.{any_view, report_of}
use Rattle.image_check.specs.Checked.{Shows, IsRefused, IsFaultless, IsLeastFaultUnder}
use Rattle.image_check.specs.declared.any.AnyImage.{AnyImage}
use Rattle.open_files.specs.Machine.{no_files}
use Rattle.open_files.specs.Sessions.{no_sessions}
use Rattle.serve_lines.specs.Served.{Machine, Serves, Finishes, Breaks}
use Rattle.serve_lines.specs.declared.error.ServeError.{ServeError}
use Rattle.serve_lines.specs.declared.error.ServeError.TheVariants as serve
use Rattle.rom_serve.specs.Machines.{image_machine, space_machine}
use Rattle.rom_commands.specs.declared.serving.Serving.{Serving}
use Rattle.rom_commands.specs.declared.serving.Serving.TheVariants.{Served, Refused, Memory, ReadFault, WriteFault}
use Rattle.rom_commands.specs.declared.serving.Serving.TheVariants.{TooManyReads}
use Rattle.rom_commands.specs.Lines.{fault_line}
use Rattle.rom_commands.specs.Refused.{EndsAnswered, EndsUnserved, IsFirst, fault_at}
use Rattle.rom_commands.specs.declared.several.NoImage.{NoImage}
use Rattle.rom_commands.specs.declared.several.NoImage.TheVariants as none
use Rattle.rom_commands.specs.Answers.{IsFaultTextUnder, IsFaultText, HasFault, WritesFault}
use Rattle.rom_commands.specs.Endings.{line_of}
use Rattle.rom_commands.specs.declared.ending.Ending.{Ending}
use Rattle.rom_commands.specs.declared.ending.Ending.TheVariants as ending
use Rattle.rom_fields.specs.declared.fault.Fault.{Fault}
use Rattle.rom_commands.specs.Serving.{Input, EndsServed, EndsRefused, Reports, CheckedEnds, ServingEndsUnder, HoldAll}
use Rattle.rom_commands.specs.Serving.{IsFirstFaultText, HasFirstFault, SpaceEnds, ServingEnds, serving_of, refusal_of}
use Rattle.rom_commands.specs.Serving.{EndsAs, ImageEnds, ImagesEnd, IsFaultIn, IsFaultOf, ending_of}

-- lines were answered
pub answers_by : {S : Type 0} (m : Machine S) (s : S) (r₀ r : Input) (w₀ w : Output) (q : Result (Unit {0}) ServeError)
    → OnOk q (Serves m s r₀.remaining r.remaining w₀ w)
    → OnOk q ((r.failures ≡ r₀.failures) × (w.failures ≡ w₀.failures))
    → (q ≡ Err serve.ReadFault → Rose r₀.failures r.failures
    × ((y : List ℕ) × Finishes m s r₀.remaining r.remaining w₀ w y))
    → (q ≡ Err serve.WriteFault → Rose w₀.failures w.failures × Breaks m s r₀.remaining r.remaining w₀ w)
    → (q ≡ Err serve.TooManyReads → (y : List ℕ) × (length y ≡ 2 ^ 40) × Finishes m s r₀.remaining r.remaining w₀ w y)
    → EndsServed m s r₀ r w₀ w (serving_of q)
answers_by m s r₀ r w₀ w (Ok _) a b c d e = (a, b.0, b.1)
answers_by m s r₀ r w₀ w (Err serve.ReadFault) a b c d e = c refl
answers_by m s r₀ r w₀ w (Err serve.WriteFault) a b c d e = d refl
answers_by m s r₀ r w₀ w (Err serve.TooManyReads) a b c d e = e refl

-- lines were answered from an image that is seen as m
pub served_by : (m m' : Image) (r₀ r : Input) (w₀ w : Output) (q : Result (Unit {0}) ServeError) (o : Serving) → m' ≡ m
    → o ≡ serving_of q
    → OnOk q (Serves (image_machine m') (no_files 64) r₀.remaining r.remaining w₀ w)
    → OnOk q ((r.failures ≡ r₀.failures) × (w.failures ≡ w₀.failures))
    → (q ≡ Err serve.ReadFault → Rose r₀.failures r.failures
    × ((y : List ℕ) × Finishes (image_machine m') (no_files 64) r₀.remaining r.remaining w₀ w y))
    → (q ≡ Err serve.WriteFault → Rose w₀.failures w.failures
    × Breaks (image_machine m') (no_files 64) r₀.remaining r.remaining w₀ w)
    → (q ≡ Err serve.TooManyReads → (y : List ℕ) × (length y ≡ 2 ^ 40)
    × Finishes (image_machine m') (no_files 64) r₀.remaining r.remaining w₀ w y)
    → EndsServed (image_machine m) (no_files 64) r₀ r w₀ w o
served_by m m' r₀ r w₀ w q o same is a b c d e =
    subst (λ (t : Image). EndsServed (image_machine t) (no_files 64) r₀ r w₀ w o) same
    (subst (λ v. EndsServed (image_machine m') (no_files 64) r₀ r w₀ w v) (sym is)
    (answers_by (image_machine m') (no_files 64) r₀ r w₀ w q a b c d e))

-- a text was written in place of replies
pub refuses_by : (IsText : List ℕ → Type 0) (r : Input) (w₀ w : Output) (text : List ℕ) (q : Result (Unit {0}) Failed)
    → IsText text
    → WritesText w₀.contents w.contents q text → Counts w₀.failures w.failures q
    → OnOk q (w.flushes ≡ one_more w₀.flushes)
    → EndsRefused IsText r r w₀ w (refusal_of q)
refuses_by IsText r w₀ w text (Ok _) h a b f = (refl, (text, h, a), b, f)
refuses_by IsText r w₀ w text (Err _) h a b f = (refl, (text, h, a), b)

-- this text was written
pub reports_by : (r : Input) (w₀ w : Output) (text : List ℕ) (q : Result (Unit {0}) Failed)
    → WritesText w₀.contents w.contents q text
    → Counts w₀.failures w.failures q → OnOk q (w.flushes ≡ one_more w₀.flushes) → Reports text r r w₀ w (refusal_of q)
reports_by r w₀ w text (Ok _) a b f = (refl, a, b, f)
reports_by r w₀ w text (Err _) a b f = (refl, a, b)

-- a text that was written is one of a fault
reported : (IsText : List ℕ → Type 0) (text : List ℕ) (r₀ r : Input) (w₀ w : Output) (o : Serving) → IsText text
    → Reports text r₀ r w₀ w o
    → EndsRefused IsText r₀ r w₀ w o
reported IsText text r₀ r w₀ w Refused is t = (t.0, (text, is, t.1), t.2, t.3)
reported IsText text r₀ r w₀ w WriteFault is t = (t.0, (text, is, t.1), t.2)
reported IsText text r₀ r w₀ w Memory is t = absurd t
reported IsText text r₀ r w₀ w Served is t = absurd t
reported IsText text r₀ r w₀ w ReadFault is t = absurd t
reported IsText text r₀ r w₀ w TooManyReads is t = absurd t

unserved : (IsText : List ℕ → Type 0) (r₀ r : Input) (w₀ w : Output) (o : Serving) → o ≡ Memory → r ≡ r₀ → w ≡ w₀
    → EndsRefused IsText r₀ r w₀ w o
unserved IsText r₀ r w₀ w o e a b = subst (λ (v : Serving). EndsRefused IsText r₀ r w₀ w v) (sym e) (a, b)

-- what a serving did by what the check answered, it did of the bytes that were checked
pub under_by : (limits : Limits) (bytes : List ℕ) (q : Result AnyImage CheckError) (r₀ r : Input) (w₀ w : Output)
    (o : Serving)
    → IfOk q (λ v. Shows bytes limits (any_view v) (report_of v)) → IfOk q (λ v. IsFaultless bytes limits)
    → IfErr q (IsRefused bytes limits) → IfErr q (IsLeastFaultUnder bytes limits)
    → CheckedEnds q r₀ r w₀ w o → ServingEndsUnder limits bytes r₀ r w₀ w o
under_by limits bytes (Ok v) r₀ r w₀ w o shows clean refused least ends =
    inl (any_view v, record { report = report_of v; shows = shows; clean = clean }, ends)
under_by limits bytes (Err (check.Fault number at)) r₀ r w₀ w o shows clean refused least ends =
    let is : IsFaultTextUnder limits bytes (fault_line number at) =
    record { number = number; at = at; fault = record { refused = refused; least = least }; same = refl } in
    inr (reported (IsFaultTextUnder limits bytes) (fault_line number at) r₀ r w₀ w o is ends)
under_by limits bytes (Err check.OutOfMemory) r₀ r w₀ w o shows clean refused least ends =
    inr (unserved (IsFaultTextUnder limits bytes) r₀ r w₀ w o ends.0 ends.1 ends.2)

-- the answering of lines, as the program ends
pub answered_by : (Did : Serving → Type 0) (Had : Fault → Option ℕ → Type 0) (q : Result (Unit {0}) ServeError)
    (o : Ending) → o ≡ ending_of q → Did (serving_of q) → EndsAs Did Had o
answered_by Did Had (Ok _) o e h = subst (λ (v : Ending). EndsAs Did Had v) (sym e) h
answered_by Did Had (Err serve.ReadFault) o e h = subst (λ (v : Ending). EndsAs Did Had v) (sym e) h
answered_by Did Had (Err serve.WriteFault) o e h = subst (λ (v : Ending). EndsAs Did Had v) (sym e) h
answered_by Did Had (Err serve.TooManyReads) o e h = subst (λ (v : Ending). EndsAs Did Had v) (sym e) h

-- what is so in each ending
pub each_so : (Did Done' : Serving → Type 0) (Had Had' : Fault → Option ℕ → Type 0) → ((s : Serving) → Did s → Done' s)
    → ((f : Fault) (i : Option ℕ) → Had f i → Had' f i) → (o : Ending) → EndsAs Did Had o → EndsAs Done' Had' o
each_so Did Done' Had Had' f k ending.Done h = f Served h
each_so Did Done' Had Had' f k ending.Warned h = absurd h
each_so Did Done' Had Had' f k (ending.Fault fault image) h = k fault image h
each_so Did Done' Had Had' f k (ending.NoFile e) h = absurd h
each_so Did Done' Had Had' f k ending.Usage h = absurd h
each_so Did Done' Had Had' f k ending.Memory h = f Memory h
each_so Did Done' Had Had' f k ending.ReadFault h = f ReadFault h
each_so Did Done' Had Had' f k ending.WriteFault h = f WriteFault h
each_so Did Done' Had Had' f k ending.TooManyReads h = f TooManyReads h
each_so Did Done' Had Had' f k (ending.File name) h = absurd h
each_so Did Done' Had Had' f k ending.Changed h = absurd h
each_so Did Done' Had Had' f k ending.LongPath h = absurd h
each_so Did Done' Had Had' f k ending.LongVolume h = absurd h

-- the line of a fault was written in place of replies
pub fault_by : (Did : Serving → Type 0) (Had : Fault → Option ℕ → Type 0) (IsText : List ℕ → Type 0) (fault : Fault)
    (image : Option ℕ) (r : Input) (w₀ w : Output) (o : Ending) → IsText (line_of (ending.Fault fault image))
    → (EndsRefused IsText r r w₀ w WriteFault → Did WriteFault) → Had fault image
    → WritesFault (ending.Fault fault image) w₀ w o
    → EndsAs Did (λ f i. Had f i × Reports (line_of (ending.Fault f i)) r r w₀ w Refused) o
fault_by Did Had IsText fault image r w₀ w o is f h (inl t) =
    let All : Ending → Type 0 =
    λ v. EndsAs Did (λ f i. Had f i × Reports (line_of (ending.Fault f i)) r r w₀ w Refused) v in
    subst All (sym t.0) (h, (refl, t.1, t.2, t.3))
fault_by Did Had IsText fault image r w₀ w o is f h (inr t) =
    let All : Ending → Type 0 =
    λ v. EndsAs Did (λ f i. Had f i × Reports (line_of (ending.Fault f i)) r r w₀ w Refused) v in
    subst All (sym t.0) (f (refl, (line_of (ending.Fault fault image), is, t.1), t.2))

-- the fault of bytes that are one image
pub image_fault : (bytes : List ℕ) (fault : Fault) (r : Input) (w₀ w : Output) (o : Ending)
    → HasFault bytes fault.number fault.at → WritesFault (ending.Fault fault None) w₀ w o
    → ImageEnds bytes r r w₀ w o
image_fault bytes fault r w₀ w o h t =
    let is : IsFaultText bytes (line_of (ending.Fault fault None)) =
    record { number = fault.number; at = fault.at; fault = h; same = refl } in
    fault_by (λ s. ServingEnds bytes r r w₀ w s) (λ f i. IsFaultOf bytes f i) (IsFaultText bytes) fault None r w₀ w o is
    inr h t

-- the first fault of several
pub images_fault : (all : List (List ℕ)) (fault : Fault) (image : ℕ) (r : Input) (w₀ w : Output) (o : Ending)
    → HasFirstFault all fault.number fault.at image → WritesFault (ending.Fault fault (Some image)) w₀ w o
    → ImagesEnd all r r w₀ w o
images_fault all fault image r w₀ w o h t =
    let is : IsFirstFaultText all (line_of (ending.Fault fault (Some image))) =
    record { number = fault.number; at = fault.at; image = image; first = h; same = refl } in
    fault_by (λ s. SpaceEnds all r r w₀ w s) (λ f i. IsFaultIn all f i) (IsFirstFaultText all) fault (Some image) r w₀ w
    o is inr h t

-- what a serving did by what the checks of several images answered, it did of the bytes that were checked
pub all_by : {V : Type 0} (images : V → List Image) (all : List (List ℕ)) (q : Result V NoImage) (r₀ r : Input)
    (w₀ w : Output)
    (o : Ending) → IfOk q (λ v. HoldAll all (images v)) → IfErr q (IsFirst all)
    → IfOk q (λ v. EndsAnswered (space_machine (images v)) (no_sessions 64) r₀ r w₀ w o)
    → IfErr q (λ e. EndsUnserved e r₀ r w₀ w o) → ImagesEnd all r₀ r w₀ w o
all_by images all (Ok v) r₀ r w₀ w o held first served unserved_by =
    each_so (λ s. EndsServed (space_machine (images v)) (no_sessions 64) r₀ r w₀ w s) (λ s. SpaceEnds all r₀ r w₀ w s)
    (λ f i. ⊥)
    (λ f i. IsFaultIn all f i × Reports (line_of (ending.Fault f i)) r₀ r w₀ w Refused)
    (λ s h. inl (images v, held, h)) (λ f i h. absurd h) o served
all_by images all (Err (none.Fault number at image)) r₀ r w₀ w o held first served unserved_by =
    let P : Input → Type 0 = λ v. ImagesEnd all r₀ v w₀ w o in
    subst P (sym unserved_by.0) (images_fault all (fault_at number at) image r₀ w₀ w o first unserved_by.1)
all_by images all (Err none.OutOfMemory) r₀ r w₀ w o held first served unserved_by =
    let P : Ending → Type 0 = λ v. ImagesEnd all r₀ r w₀ w v in
    subst P (sym unserved_by.0) (inr (unserved_by.1, unserved_by.2))

-- what follows of what is so of an answer that was accepted
pub ok_by : {T E : Type 0} (q : Result T E) (P Q : T → Type 0) → ((v : T) → P v → Q v) → IfOk q P → IfOk q Q
ok_by (Ok v) P Q f h = f v h
ok_by (Err e) P Q f h = h

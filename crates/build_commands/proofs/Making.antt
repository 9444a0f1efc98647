-- A file that is the image of a plan, whose sources are files of these names.
use Rattle.std.proofs.Common.{◌≡◌, ◌⊎◌, inl, inr, ℕ, List, [], ◌∷◌, ◌++◌, length, map, Option, Some, None, subst}
use Rattle.std.proofs.Common.{sym, ap, ◌∙◌, ◌↔◌, refl, Result, Ok, Err, IfOk, IfErr, OnErr, option_map, true, ◌≢◌}
use Rattle.std.proofs.lemmas.List.{length-map}
use Rattle.atomic_file.specs.Log.{Event, EachMoment, Throughout}
use Rattle.atomic_file.specs.Crashes.{Place, Content, Anything, Whole, entry, content}
use Rattle.atomic_file.specs.Moments.{HoldsImage, IsNew, IsOldOrNew, IsReplaced, IsKept}
use Rattle.atomic_file.specs.declared.names.Names.{Names}
use Rattle.image_stream.specs.Answers.{Answer}
use Rattle.image_build.specs.Images.{IsCheckedImage}
use Rattle.image_build.specs.declared.padding.Padding.{Padding}
use Rattle.manifest_layout.specs.Plans.{Planned, IsPlanOf}
use Rattle.file_sources.specs.Told.{Told, IsLogOf, contents_of_all}
use Rattle.manifest.specs.Grammar.{manifest_of}
use Rattle.manifest.specs.Lines.{ManifestLines, sources_of}
use Rattle.rom_fields.specs.Written.{Output}
use Rattle.build_commands.specs.Sources.{joined, opened_as}
use Rattle.build_commands.specs.declared.limits.Wanted.{Wanted}
use Rattle.formats.specs.Format.{format_of}
use Rattle.build_commands.specs.Limits.{most_of, padding_of}
use Rattle.build_commands.specs.declared.limits.Foreseen.{Foreseen}
use Rattle.build_commands.specs.Built.{IsBuilt, IsMade, IsOf, IsReported, IsUnbuilt, IsWithin}
use Rattle.build_commands.specs.declared.command.Unbuilt.{Unbuilt}
use Rattle.build_commands.specs.declared.command.Unbuilt.TheVariants.{NotMade, NotKept, NotReported}

all_opened : (directory : Option (List ℕ)) (sources : List (List ℕ))
    → length (opened_as directory sources) ≡ length sources
all_opened None sources = refl
all_opened (Some directory) sources = length-map sources (joined directory)

-- as many names as sources
pub opened_count : {A : Type 0} (f : A → List ℕ) → (names : List A) (directory : Option (List ℕ))
    (sources : List (List ℕ)) → map f names ≡ opened_as directory sources → length names ≡ length sources
opened_count f names directory sources are =
    sym (length-map names f) ∙ ap length are ∙ all_opened directory sources

-- the same image, by logs of which the first is part of the second
pub image_by : {passed : Option (List ℕ) → Type 0} (padding : Padding) (known known' : Option (List (List ℕ)))
    (was is was' is' : List Answer → Type 0) (p : Planned) (old new : Option (List ℕ)) → known ≡ known'
    → ((log : List Answer) → was' log → was log) → ((log : List Answer) → is log → is' log)
    → IsCheckedImage passed padding known was is p old new → IsCheckedImage passed padding known' was' is' p old new
image_by {passed} padding known known' was is was' is' p old new same back forth c =
    subst (λ k. IsCheckedImage passed padding k was' is' p old new) same (record {
      checked = c.checked;
      image = c.image;
      written = record {
        streamed = (
          c.written.streamed.0,
          (c.written.streamed.1.0, λ log h. forth _ (c.written.streamed.1.1 log (back log h))),
        );
        built = c.written.built;
      };
      padded = c.padded;
    })

module _ (names : Names) (P Q : Option (List ℕ) → Type 0) (more : (t : Option (List ℕ)) → P t → Q t) where
  holds : (c : Content) → HoldsImage P c → HoldsImage Q c
  holds Anything is = is
  holds (Whole known) is = more known is

  new_of : (old log : List Event) (p : Place) → IsNew P old log p → IsNew Q old log p
  new_of old log p (k, since, is, whole) = (k, since, is, holds (content log k) whole)

  moment_of : (old log : List Event) → IsOldOrNew names P old log → IsOldOrNew names Q old log
  moment_of old log m = record {
    seen = either (λ new. new_of old log (entry log names.out) new) m.seen;
    crashed = λ p may. either (λ new. new_of old log p new) (m.crashed p may);
    others_seen = m.others_seen;
    others_crashed = m.others_crashed;
    files = m.files;
  }
    where
      either : {A B C : Type 0} → (B → C) → A ⊎ B → A ⊎ C
      either f (inl a) = inl a
      either f (inr b) = inr (f b)

  each_of : (old later mid : List Event) → EachMoment (IsOldOrNew names P old) later mid
      → EachMoment (IsOldOrNew names Q old) later mid
  each_of old [] mid moment = moment_of old mid moment
  each_of old (e ∷ later) mid moments = (moment_of old (e ∷ (later ++ mid)) moments.0, each_of old later mid moments.1)

  pub moments_of : (old a b : List Event) → Throughout (IsOldOrNew names P old) a b
      → Throughout (IsOldOrNew names Q old) a b
  moments_of old a b (later, is, moments) = (later, is, each_of old later a moments)

  pub replaced_of : (old log : List Event) → IsReplaced names P old log → IsReplaced names Q old log
  replaced_of old log m = record { seen = new_of old log (entry log names.out) m.seen; no_part = m.no_part }

  pub kept_of : (old log : List Event) → IsKept names P old log → IsKept names Q old log
  kept_of old log m = record { seen = either m.seen; no_part = m.no_part }
    where
      either : {A B : Type 0} → A ⊎ (IsNew P old log (entry log names.out) × B)
          → A ⊎ (IsNew Q old log (entry log names.out) × B)
      either (inl a) = inl a
      either (inr b) = inr (new_of old log (entry log names.out) b.0, b.1)

-- ---- what an early end leaves

pub unbuilt_by_all : {A E C : Type 0} (names : Names) (Image : Option (List ℕ) → Type 0)
    (IsBegun : List Event → Type 0) (log : List Event) (made : Result A E) (r : Result A (Unbuilt E C))
    → IfOk made (λ a. (old : List Event) → IsBegun old → IsReplaced names Image old log)
    → OnErr made ((old : List Event) → IsBegun old → IsKept names Image old log) → IfErr r (IsOf made)
    → IfErr r (λ e. (old : List Event) → IsBegun old → IsUnbuilt names Image old log e)
unbuilt_by_all names Image IsBegun log made (Ok a) ok err is = tt
unbuilt_by_all names Image IsBegun log made (Err (NotMade e)) ok err is =
    subst (λ m. OnErr m ((old : List Event) → IsBegun old → IsKept names Image old log)) is err
unbuilt_by_all names Image IsBegun log made (Err (NotKept e)) ok err (a, is) =
    subst (λ m. IfOk m (λ a. (old : List Event) → IsBegun old → IsReplaced names Image old log)) is ok
unbuilt_by_all names Image IsBegun log made (Err NotReported) ok err (a, is) =
    subst (λ m. IfOk m (λ a. (old : List Event) → IsBegun old → IsReplaced names Image old log)) is ok

-- ---- the same of results

pub replaced_by_all : {A E : Type 0} (names : Names) (P Q : Option (List ℕ) → Type 0)
    → ((t : Option (List ℕ)) → P t → Q t) → (IsBegun : List Event → Type 0) (log : List Event) (r : Result A E)
    → IfOk r (λ a. (old : List Event) → IsBegun old → IsReplaced names P old log)
    → IfOk r (λ a. (old : List Event) → IsBegun old → IsReplaced names Q old log)
replaced_by_all names P Q more IsBegun log (Ok a) h = λ old begun. replaced_of names P Q more old log (h old begun)
replaced_by_all names P Q more IsBegun log (Err e) h = tt

pub kept_by_all : {A E : Type 0} (names : Names) (P Q : Option (List ℕ) → Type 0)
    → ((t : Option (List ℕ)) → P t → Q t) → (IsBegun : List Event → Type 0) (log : List Event) (r : Result A E)
    → OnErr r ((old : List Event) → IsBegun old → IsKept names P old log)
    → OnErr r ((old : List Event) → IsBegun old → IsKept names Q old log)
kept_by_all names P Q more IsBegun log (Ok a) h = tt
kept_by_all names P Q more IsBegun log (Err e) h = λ old begun. kept_of names P Q more old log (h old begun)

pub made_somehow : {A E : Type 0} (Closed : Option (List ℕ) → Type 0) {P Q : Option (List ℕ) → Type 0}
    → ((t : Option (List ℕ)) → P t → Q t) → (r : Result A E) → IfOk r (λ a. (t : Option (List ℕ)) × Closed t × P t)
    → IfOk r (λ a. (t : Option (List ℕ)) × Closed t × Q t)
made_somehow Closed more (Ok a) (t, closed, h) = (t, closed, more t h)
made_somehow Closed more (Err e) h = tt

-- the image of files that were read, by the logs of the opener before, after, and at the end
pub made_by : {passed : Option (List ℕ) → Type 0} {padding : Padding} (wanted : Wanted)
    (held : Option (List ℕ → List ℕ))
    {ns ns' : List (List ℕ)} {known : Option (List (List ℕ))} {was is : List Answer → Type 0}
    (first last end : List Told → Type 0)
    {p : Planned} {old : Option (List ℕ)} → padding ≡ padding_of wanted p.image_len → known ≡ contents_of_all held ns
    → ((log : List Answer) → was log ↔ IsLogOf ns first log) → ns' ≡ ns
    → ((log : List Answer) → is log ↔ IsLogOf ns' last log) → ((log : List Told) → last log → end log)
    → (new : Option (List ℕ)) → IsCheckedImage passed padding known was is p old new
    → IsMade passed wanted held first end ns p old new
made_by {passed} {padding} wanted held {ns} {ns'} {known} {was} {is} first last end {p} {old} padded same before names
    after ends new image =
    subst (λ pad. IsCheckedImage passed pad (contents_of_all held ns) (IsLogOf ns first) (IsLogOf ns end) p old new)
    padded
    (image_by padding known (contents_of_all held ns) was is (IsLogOf ns first) (IsLogOf ns end) p old new same
    (λ log h. (before log).1 h)
    (λ log h. ends _ (subst (λ n. IsLogOf n last log) names ((after log).0 h)))
    image)

-- ---- a build that is done

pub built_of : {A E U : Type 0} (wanted : Wanted) (text : List ℕ) (foreseen : Foreseen)
    (IsBegun : List Event → Type 0) (IsFile : List Event → List (List ℕ) → Type 0) (p : Planned) (out out' : Output)
    (m : ManifestLines) (ns : List (List ℕ)) → manifest_of text ≡ Ok m
    → ns ≡ opened_as (option_map (λ d. d.now) wanted.sources) (sources_of m.lines) → IsPlanOf p.format m p.sizes p
    → p.format ≡ format_of wanted.format → IsWithin (most_of wanted) p.image_len
    → (wanted.strict ≡ true → foreseen.misread ≡ None) → (wanted.xip ≡ true → foreseen.programs ≢ None)
    → (given : Result A E) (r : Result A U)
    → IfOk given (λ a. (old : List Event) → IsBegun old → IsFile old ns)
    → IfOk r (λ a. (given ≡ Ok a) × IsReported p.image_len out out')
    → IfOk r (λ a. (old : List Event) → IsBegun old → IsBuilt wanted text foreseen (IsFile old) p out out')
built_of wanted text foreseen IsBegun IsFile p out out' m ns says named planned format within strict in_place given
    (Err e) file told = tt
built_of wanted text foreseen IsBegun IsFile p out out' m ns says named planned format within strict in_place given
    (Ok a) file (is, reported) =
    λ old begun. record {
      lines = m;
      manifest = says;
      planned = planned;
      format = format;
      within = within;
      strict = strict;
      in_place = in_place;
      file = subst (IsFile old) named
          (subst (λ r. IfOk r (λ a. (old : List Event) → IsBegun old → IsFile old ns)) is file old begun);
      reported = reported;
    }

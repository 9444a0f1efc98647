-- `AppendsPrefix`: a prefix of a text was appended. `Output`: what is known of a writer (its
-- contents, and its counts of failures and of flushes). `Sink`: a writer to which nothing more is
-- written once it failed. `Puts`: a text was put into a sink, and nothing was flushed. (This
-- project's own.)
use Rattle.std.specs.Prelude.{◌≡◌, ℕ, Bool, MatchBool, List, ◌++◌, Option, Result, MatchResult}
use Rattle.std.specs.Io.KnownBytes.{Appends}
use Rattle.rom_fields.specs.Failures.{Rose}

-- a prefix of the text was appended, perhaps none or all of it
abbrev pub AppendsPrefix : Option (List ℕ) → Option (List ℕ) → List ℕ → Type 0
AppendsPrefix old new text =
    (front : List ℕ) × (rest : List ℕ) × Appends old new front × (text ≡ front ++ rest)

-- all of the text at Ok, and a prefix of it at Err
abbrev pub WritesText : {T E : Type 0} → Option (List ℕ) → Option (List ℕ) → Result T E → List ℕ
    → Type 0
WritesText old new r text =
    MatchResult r (λ _. Appends old new text) (λ _. AppendsPrefix old new text)

-- What is known of a writer: the bytes that it holds, if they are known; the number of its writes
-- and flushes that failed; and the number of its flushes that succeeded.
pub record Output : Type 0 where
  pub contents : Option (List ℕ)
  pub failures : ℕ
  pub flushes : ℕ

abbrev pub output_of : Option (List ℕ) → ℕ → ℕ → Output
output_of contents failures flushes =
    record { contents = contents; failures = failures; flushes = flushes }

-- A writer to which nothing more is written once it failed, and whether it failed.
pub record Sink : Type 0 where
  pub output : Output
  pub failed : Bool

abbrev pub sink : Output → Bool → Sink
sink o f = record { output = o; failed = f }

-- all of the text was appended since, or a prefix of it if the sink failed
unfoldable pub Said : Option (List ℕ) → Sink → List ℕ → Type 0
Said start s all = MatchBool s.failed (AppendsPrefix start s.output.contents all)
    (Appends start s.output.contents all)

-- failures were counted since exactly if the sink failed
unfoldable pub Counted : ℕ → Sink → Type 0
Counted start s = MatchBool s.failed (Rose start s.output.failures) (s.output.failures ≡ start)

-- The text was put into the sink: any text that was put before is now followed by this text.
-- Nothing was flushed.
pub record Puts (s t : Sink) (text : List ℕ) : Type 0 where
  pub said : (start : Option (List ℕ)) (all : List ℕ) → Said start s all
      → Said start t (all ++ text)
  pub counted : (start : ℕ) → Counted start s → Counted start t
  pub unflushed : t.output.flushes ≡ s.output.flushes

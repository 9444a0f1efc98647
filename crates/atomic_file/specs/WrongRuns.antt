-- Runs that may lose a file, and one that leaves its part. (This project's own.)
use Rattle.std.specs.Prelude.{◌≡◌, ℕ, List, [], ◌∷◌, Option}
use Rattle.atomic_file.specs.Log.{Create, Sync, Close, Rename, Remove, Event, Did, Refused}
use Rattle.atomic_file.specs.Moments.{IsPart, IsOldOrNew, IsDurable, IsKept}
use Rattle.atomic_file.specs.declared.directory.Durability.TheVariants.{Durable}
use Rattle.atomic_file.specs.declared.names.Names.{Names}

-- the last moment of this run is none of those that are promised, whatever the new bytes are
abbrev pub RefusesMoment : (ℕ → ℕ → List Event) → Type 0
RefusesMoment run = (names : Names) (part : ℕ) (image : Option (List ℕ))
    → IsOldOrNew names (λ known. known ≡ image) [] (run part names.out) → ⊥

abbrev pub renamed_before_sync : ℕ → ℕ → List Event
renamed_before_sync part out = Did (Rename part out) ∷ Did (Create part) ∷ []

abbrev pub renamed_before_close : Option (List ℕ) → ℕ → ℕ → List Event
renamed_before_close known part out =
    Did (Rename part out) ∷ Did (Sync known) ∷ Did (Create part) ∷ []

-- the errors of the synchronization, or of the close, were dropped
abbrev pub sync_error_dropped : Option (List ℕ) → ℕ → ℕ → List Event
sync_error_dropped known part out =
    Did (Rename part out) ∷ Did Close ∷ Refused (Sync known) ∷ Did (Create part) ∷ []

abbrev pub close_error_dropped : Option (List ℕ) → ℕ → ℕ → List Event
close_error_dropped known part out =
    Did (Rename part out) ∷ Refused Close ∷ Did (Sync known) ∷ Did (Create part) ∷ []

abbrev pub written_in_place : ℕ → ℕ → List Event
written_in_place part out = Did (Create out) ∷ []

abbrev pub removed_first : Option (List ℕ) → ℕ → ℕ → List Event
removed_first known part out =
    Did (Remove out) ∷ Did Close ∷ Did (Sync known) ∷ Did (Create part) ∷ []

-- the directory was not synchronized
abbrev pub not_durable : Option (List ℕ) → ℕ → ℕ → List Event
not_durable known part out =
    Did (Rename part out) ∷ Did Close ∷ Did (Sync known) ∷ Did (Create part) ∷ []

-- this run does not end with a durable file
abbrev pub RefusesEnd : (ℕ → ℕ → List Event) → Type 0
RefusesEnd run = (part out : ℕ) → IsDurable Durable (run part out) → ⊥

-- the bytes were not written, and the part stays
abbrev pub part_left : ℕ → ℕ → List Event
part_left part out = Did (Create part) ∷ []

-- this run is no end with an error
abbrev pub RefusesError : (ℕ → ℕ → List Event) → Type 0
RefusesError run = (names : Names) (part : ℕ) (image : Option (List ℕ)) → IsPart names part
    → IsKept names (λ known. known ≡ image) [] (run part names.out) → ⊥

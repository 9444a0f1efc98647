-- The first bad line of a text is the one for which it is refused.
use Rattle.std.proofs.Common.{◌≡◌, ℕ, ◌+◌, true, false, cond, List, [], ◌∷◌, ◌++◌, Result, Ok, Err, refl}
use Rattle.manifest.specs.Texts.{pieces}
use Rattle.manifest.specs.Grammar.{Fault, Seen, manifest_of, read_lines, read, is_skipped, and_then, as_manifest}
use Rattle.manifest.specs.Grammar.{nothing_read}
use Rattle.manifest.specs.Faults.{faults_of, faults_from, first_fault, fault_in, told, after_read}

firsts : (s : Seen) (n : ℕ) (ls : List (List ℕ))
    → first_fault (faults_from s n ls) ≡ fault_in (as_manifest (read_lines s n ls))
firsts s n [] = refl
firsts s n (l ∷ ls) =
    elim (is_skipped l) as (λ b. first_fault (cond b [] (told (read s n l))
    ++ faults_from (cond b s (after_read s n l (read s n l))) (n + 1) ls)
    ≡ fault_in (as_manifest (cond b (read_lines s (n + 1) ls)
    (and_then (read s n l) (λ t. read_lines t (n + 1) ls))))) [
      | true ↦ firsts s (n + 1) ls
      | false ↦ by (read s n l) (λ t. firsts t (n + 1) ls)
    ]
  where
    by : (r : Result Seen Fault)
        → ((t : Seen) → first_fault (faults_from t (n + 1) ls) ≡ fault_in (as_manifest (read_lines t (n + 1) ls)))
        → first_fault (told r ++ faults_from (after_read s n l r) (n + 1) ls)
        ≡ fault_in (as_manifest (and_then r (λ t. read_lines t (n + 1) ls)))
    by (Ok t) go = go t
    by (Err e) go = refl

pub first_is_parsed : (text : List ℕ) → first_fault (faults_of text) ≡ fault_in (manifest_of text)
unfolding faults_of manifest_of
first_is_parsed text = firsts nothing_read 1 (pieces 10 text)

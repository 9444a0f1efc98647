-- A text whose bad lines were all told.
use Rattle.std.proofs.Common.{◌≡◌, ℕ, ◌++◌, List, Option, Some, sym, ap, ◌∙◌, append-nil}
use Rattle.std.specs.Borrow.{Bor}
use Rattle.manifest.specs.declared.faults.BadLine.{BadLine}
use Rattle.manifest.specs.declared.reader.Reader.{Reader}
use Rattle.manifest.specs.Texts.{pieces, pieces_after}
use Rattle.manifest.specs.Grammar.{nothing_read}
use Rattle.manifest.specs.Faults.{faults_of, faults_from}
use Rattle.manifest.specs.Going.{as_faults}
use Rattle.manifest.specs.Reading.{seen}
use Rattle.manifest.proofs.Whole.{nothing_left}

pub all_told : (bs : List BadLine) (r : Reader) (n : ℕ) (rest : Option (Bor (List ℕ))) (text : List ℕ)
    → ((x : Bor (List ℕ)) → rest ≡ Some x → ⊥)
    → as_faults bs ++ faults_from (seen r) n (pieces_after 10 rest) ≡ faults_from nothing_read 1 (pieces 10 text)
    → as_faults bs ≡ faults_of text
unfolding faults_of
all_told bs r n rest text done reads =
    sym (append-nil (as_faults bs))
    ∙ ap (λ o. as_faults bs ++ faults_from (seen r) n (pieces_after 10 o)) (sym (nothing_left rest done))
    ∙ reads

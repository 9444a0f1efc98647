-- A line that was read, or passed with its fault.
use Rattle.std.proofs.Common.{◌≡◌, ℕ, ◌+◌, true, false, cond, List, [], ◌∷◌, ◌++◌, Option, None, Some, Ok, Err, refl}
use Rattle.std.proofs.Common.{sym, ap, subst, ◌∙◌, append_assoc}
use Rattle.manifest.specs.declared.faults.BadLine.{BadLine}
use Rattle.manifest.specs.declared.reader.Reader.{Reader}
use Rattle.manifest.specs.Grammar.{Fault, Seen, read, is_skipped}
use Rattle.manifest.specs.Faults.{told, passed, after_read, line_faults, after_line, faults_from}
use Rattle.manifest.specs.Going.{as_fault, as_faults, as_told, Passes, Tries}
use Rattle.manifest.specs.Reading.{seen, IsKept}

pub skipped : (r : Reader) (n : ℕ) (line : List ℕ) → IsKept r → is_skipped line ≡ true → Tries r r n line None
skipped r n line k e = record {
  told = ap (λ b. cond b [] (told (read (seen r) n line))) e;
  seen = sym (ap (λ b. cond b (seen r) (after_read (seen r) n line (read (seen r) n line))) e);
  kept = k;
}

pub good : (old new : Reader) (n : ℕ) (line : List ℕ) → is_skipped line ≡ false
    → read (seen old) n line ≡ Ok (seen new) → IsKept new → Tries old new n line None
good old new n line e h k = record {
  told = ap (λ b. cond b [] (told (read (seen old) n line))) e ∙ ap told h;
  seen = sym (ap (λ b. cond b (seen old) (after_read (seen old) n line (read (seen old) n line))) e
      ∙ ap (after_read (seen old) n line) h);
  kept = k;
}

pub bad : (old same new : Reader) (n : ℕ) (line : List ℕ) (one : BadLine) → is_skipped line ≡ false
    → read (seen old) n line ≡ Err (as_fault one) → same ≡ old → Passes same new n line
    → Tries old new n line (Some one)
bad old same new n line one e h is p = record {
  told = ap (λ b. cond b [] (told (read (seen old) n line))) e ∙ ap told h;
  seen = p.seen ∙ ap (λ (r : Reader). passed (seen r) n line) is
      ∙ sym (ap (λ b. cond b (seen old) (after_read (seen old) n line (read (seen old) n line))) e
      ∙ ap (after_read (seen old) n line) h);
  kept = p.kept;
}

pub one_more : (bs cs : List BadLine) (one : Option BadLine) (old new : Reader) (n : ℕ) (line : List ℕ)
    (rest : List (List ℕ)) → as_faults cs ≡ as_faults bs ++ as_told one → Tries old new n line one
    → as_faults cs ++ faults_from (seen new) (n + 1) rest ≡ as_faults bs ++ faults_from (seen old) n (line ∷ rest)
one_more bs cs one old new n line rest more tried =
    ap (λ fs. fs ++ faults_from (seen new) (n + 1) rest) (more ∙ ap (λ fs. as_faults bs ++ fs) (sym tried.told))
    ∙ append_assoc (as_faults bs) (line_faults (seen old) n line) (faults_from (seen new) (n + 1) rest)
    ∙ ap (λ s. as_faults bs ++ (line_faults (seen old) n line ++ faults_from s (n + 1) rest)) tried.seen

-- The lines of what was found, one after the other.
use Rattle.std.proofs.Common.{◌≡◌, ℕ, ◌+◌, ◌<◌, List, [], ◌∷◌, ◌++◌, length, map, take, get_or, sym, ap, ◌∙◌}
use Rattle.std.proofs.Common.{append_assoc, append-nil}
use Rattle.std.proofs.lemmas.List.{take_more}
use Rattle.build_commands.specs.Scanned.{entry_line, scan_text}
use Rattle.build_commands.specs.Seen.{entry_of}
use Rattle.build_commands.specs.declared.scanning.Found.{Found}

pushed : (front : ℕ) (found : List Found) (one : Found)
    → scan_text (map (entry_of front) (found ++ one ∷ []))
    ≡ scan_text (map (entry_of front) found) ++ entry_line (entry_of front one)
pushed front [] one = append-nil (entry_line (entry_of front one))
pushed front (x ∷ found) one =
    ap (λ (t : List ℕ). entry_line (entry_of front x) ++ t) (pushed front found one)
    ∙ sym (append_assoc (entry_line (entry_of front x)) (scan_text (map (entry_of front) found))
    (entry_line (entry_of front one)))

-- the lines up to the next one
pub next_line : (front : ℕ) (found : List Found) (i : ℕ) (d : Found) → i < length found
    → scan_text (map (entry_of front) (take (i + 1) found))
    ≡ scan_text (map (entry_of front) (take i found)) ++ entry_line (entry_of front (get_or found i d))
next_line front found i d h =
    ap (λ (xs : List Found). scan_text (map (entry_of front) xs)) (take_more found i d h)
    ∙ pushed front (take i found) (get_or found i d)

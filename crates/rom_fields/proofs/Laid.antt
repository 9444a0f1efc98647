-- Parts that are laid from the left are the bytes from the left end on.
use Rattle.std.proofs.Common.{◌≡◌, ℕ, ◌-◌, List, [], ◌∷◌, ◌++◌, length, replicate, refl, sym, ap, ◌∙◌, arith}
use Rattle.std.proofs.Common.{append_assoc, append-nil, length-append}
use Rattle.std.proofs.lemmas.List.{length-replicate}
use Rattle.rom_fields.specs.Parts.{Part, end_of_part, with_part, laid, bytes_from, Rises}

laid_at : (ps : List Part) (out : List ℕ) (at : ℕ) → at ≡ length out → Rises at ps
    → laid out ps ≡ out ++ bytes_from at ps
unfolding with_part
laid_at [] out at e h = sym (append-nil out)
laid_at (p ∷ ps) out at e h =
    let gap = replicate (p.place - length out) 0 in
    let le = h.0 in
    let n : end_of_part p ≡ length (out ++ (gap ++ p.bytes)) = simp (length-append, length-replicate) (omega arith) in
    laid_at ps (out ++ (gap ++ p.bytes)) (end_of_part p) n h.1
    ∙ append_assoc out (gap ++ p.bytes) (bytes_from (end_of_part p) ps)
    ∙ ap (λ (v : List ℕ). out ++ v) (append_assoc gap p.bytes (bytes_from (end_of_part p) ps))
    ∙ ap (λ (k : ℕ). out ++ (replicate (p.place - k) 0 ++ (p.bytes ++ bytes_from (end_of_part p) ps))) (sym e)

pub laid_from : (out : List ℕ) (ps : List Part) → Rises (length out) ps
    → laid out ps ≡ out ++ bytes_from (length out) ps
laid_from out ps h = laid_at ps out (length out) refl h

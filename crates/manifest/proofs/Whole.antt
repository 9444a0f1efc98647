-- A text that was read to its end.
use Rattle.std.proofs.Common.{◌≡◌, ℕ, List, Option, None, Some, Ok, refl, sym, ap, ◌∙◌}
use Rattle.std.specs.Borrow.{Bor}
use Rattle.std.proofs.lemmas.List.{reverse-reverse}
use Rattle.manifest.specs.declared.reader.Reader.{Reader}
use Rattle.manifest.specs.Texts.{pieces, pieces_after}
use Rattle.manifest.specs.Grammar.{manifest_of, read_lines, nothing_read, as_manifest}
use Rattle.manifest.specs.Reading.{seen}

pub nothing_left : (o : Option (Bor (List ℕ))) → ((x : Bor (List ℕ)) → o ≡ Some x → ⊥) → o ≡ None
nothing_left None h = refl
nothing_left (Some x) h = absurd (h x refl)

pub whole : (r : Reader) (n : ℕ) (rest : Option (Bor (List ℕ))) (text : List ℕ)
    → ((x : Bor (List ℕ)) → rest ≡ Some x → ⊥)
    → read_lines (seen r) n (pieces_after 10 rest) ≡ read_lines nothing_read 1 (pieces 10 text)
    → manifest_of text ≡ Ok (record { lines = r.lines.items; volume = r.volume; volume_line = r.volume_line })
unfolding manifest_of
whole r n rest text none reads =
    let read = ap (λ o. read_lines (seen r) n (pieces_after 10 o)) (sym (nothing_left rest none)) ∙ reads in
    ap as_manifest (sym read) ∙ ap (λ ls. Ok (record { lines = ls; volume = r.volume; volume_line = r.volume_line }))
    (reverse-reverse r.lines.items)

-- Bytes in memory that were replaced.
use Rattle.std.proofs.Common.{◌≡◌, ℕ, ◌+◌, ◌-◌, ◌≤◌, List, [], ◌++◌, length, take, drop, Option, Some, None, ap, sym}
use Rattle.std.proofs.Common.{◌∙◌, arith, length-append}
use Rattle.std.proofs.Math.Seq.{drop-append-add}
use Rattle.std.proofs.lemmas.List.{take_at}
use Rattle.rom_fields.specs.Rewritten.{Rewrites}

-- none were replaced
pub rewrites_none : (old : Option (List ℕ)) (back : ℕ) → Rewrites old old back []
rewrites_none old back = λ start text e h. h

-- those from an offset on
pub rewrites_at : (items new b : List ℕ) (offset back : ℕ) → back ≤ length items → offset ≡ length items - back
    → new ≡ take offset items ++ (b ++ drop (offset + length b) items) → Rewrites (Some items) (Some new) back b
rewrites_at items new b offset back within e is None text n h = tt
rewrites_at items new b offset back within e is (Some xs) text n h =
    let m : length items ≡ length xs + length text = ap length h ∙ length-append xs text in
    let o : length xs ≡ offset = omega arith in
    let front : take offset items ≡ xs = ap (take offset) h ∙ take_at xs text offset o in
    let rest : drop (offset + length b) items ≡ drop (length b) text =
    ap (λ (k : ℕ). drop (k + length b) items) (sym o) ∙ ap (drop (length xs + length b)) h
    ∙ drop-append-add xs text (length b) in
    is ∙ ap (λ (v : List ℕ). v ++ (b ++ drop (offset + length b) items)) front
    ∙ ap (λ (v : List ℕ). xs ++ (b ++ v)) rest

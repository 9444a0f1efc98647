-- A buffer that is filled from its front.
use Rattle.std.proofs.Common.{◌≡◌, ℕ, ◌+◌, ◌-◌, ◌≤◌, List, [], ◌++◌, length, take, drop, ap, sym, ◌∙◌, arith}
use Rattle.std.proofs.Common.{append-nil, length-append}
use Rattle.std.proofs.Math.Seq.{take-add, take-append-add}
use Rattle.std.proofs.lemmas.List.{drop-drop, drop_all, length-take-le}
use borrow.Rule.Slice.PartMut.{put_mid}

-- the rest of the buffer, from d on, was written to
pub put_rest : (b ys : List ℕ) (d : ℕ) → d ≤ length b → put_mid d (length b - d) b ys ≡ take d b ++ ys
put_rest b ys d fits =
    let none : drop (length b - d) (drop d b) ≡ [] =
    drop-drop (length b - d) d b ∙ drop_all (d + (length b - d)) b (omega arith) in
    ap (λ (x : List ℕ). take d b ++ (ys ++ x)) none ∙ ap (λ (x : List ℕ). take d b ++ x) (append-nil ys)

-- n bytes of it are the next ones of c
pub fill_step : (b ys c : List ℕ) (d n : ℕ) → d ≤ length b → take d b ≡ take d c → take n ys ≡ take n (drop d c)
    → take (d + n) (put_mid d (length b - d) b ys) ≡ take (d + n) c
fill_step b ys c d n fits front next =
    let len : length (take d b) ≡ d = length-take-le d b fits in
    let left : take (d + n) (take d b ++ ys) ≡ take d b ++ take n ys =
    ap (λ (k : ℕ). take (k + n) (take d b ++ ys)) (sym len) ∙ take-append-add (take d b) ys n in
    ap (take (d + n)) (put_rest b ys d fits) ∙ left ∙ ap (λ (x : List ℕ). x ++ take n ys) front
    ∙ ap (λ (x : List ℕ). take d c ++ x) next ∙ sym (take-add d n c)

-- n more bytes of it are at hand
pub front_step : (b ys : List ℕ) (d n : ℕ) → d ≤ length b
    → take (d + n) (put_mid d (length b - d) b ys) ≡ take d b ++ take n ys
front_step b ys d n fits =
    let len : length (take d b) ≡ d = length-take-le d b fits in
    ap (take (d + n)) (put_rest b ys d fits) ∙ ap (λ (k : ℕ). take (k + n) (take d b ++ ys)) (sym len)
    ∙ take-append-add (take d b) ys n

pub length-put_rest : (b ys : List ℕ) (d : ℕ) → d ≤ length b → length ys ≡ length b - d
    → length (put_mid d (length b - d) b ys) ≡ length b
length-put_rest b ys d fits len =
    ap (length {A = ℕ}) (put_rest b ys d fits) ∙ length-append (take d b) ys ∙ omega (arith, length-take-le d b fits)

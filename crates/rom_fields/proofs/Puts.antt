-- A word that is written into bytes.
use Rattle.std.proofs.Common.{◌≡◌, ℕ, ◌+◌, ◌-◌, ◌≤◌, List, [], ◌++◌, length, take, drop, ap, ◌∙◌, arith, append-nil}
use Rattle.std.proofs.lemmas.List.{take_rest, drop-drop, drop_all}
use Rattle.byteorder.specs.Endian.{big_bytes, little_bytes}
use borrow.Rule.Slice.PartMut.{put_mid}
use Rattle.rom_fields.specs.Words.{with_word_be, with_word_le}

-- four bytes over those from p on, if the rest of the list is what is written to
put_mid-four : (b : List ℕ) (p : ℕ) (four ys : List ℕ) → p ≤ length b
    → ys ≡ four ++ drop 4 (take (length b - p) (drop p b))
    → put_mid p (length b - p) b ys ≡ take p b ++ (four ++ drop (p + 4) b)
put_mid-four b p four ys fits is =
    let none : drop (length b - p) (drop p b) ≡ [] =
    drop-drop (length b - p) p b ∙ drop_all (p + (length b - p)) b (omega arith) in
    let rest : ys ≡ four ++ drop (p + 4) b =
    is ∙ ap (λ (x : List ℕ). four ++ x) (ap (drop 4) (take_rest b p) ∙ drop-drop 4 p b) in
    ap (λ (x : List ℕ). take p b ++ (ys ++ x)) none ∙ ap (λ (x : List ℕ). take p b ++ x) (append-nil ys ∙ rest)

-- a word in either byte order
pub put_mid-word : (b : List ℕ) (p v : ℕ) (ys : List ℕ) → p ≤ length b
    → ys ≡ big_bytes 4 v ++ drop 4 (take (length b - p) (drop p b)) → put_mid p (length b - p) b ys ≡ with_word_be b p v
unfolding with_word_be
put_mid-word b p v ys fits is = put_mid-four b p (big_bytes 4 v) ys fits is

pub put_mid-little : (b : List ℕ) (p v : ℕ) (ys : List ℕ) → p ≤ length b
    → ys ≡ little_bytes 4 v ++ drop 4 (take (length b - p) (drop p b))
    → put_mid p (length b - p) b ys ≡ with_word_le b p v
unfolding with_word_le
put_mid-little b p v ys fits is = put_mid-four b p (little_bytes 4 v) ys fits is

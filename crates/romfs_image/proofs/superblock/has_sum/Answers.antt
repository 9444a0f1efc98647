use Rattle.std.proofs.Common.{◌≡◌, ℕ, List, length, take, ap, ◌∙◌, rules, tests, arith}
use Rattle.std.specs.Prelude.{◌↔◌, IsTrue, nat_eq, min}
use Rattle.rom_fields.specs.Words.{words_sum}
use Rattle.romfs_image.proofs.superblock.has_sum.Goals as goal

zero_by : (r s : ℕ) → r ≡ s → IsTrue (nat_eq r 0) ↔ (s ≡ 0)
zero_by r s e = search (rules, tests)

pub returns : goal.returns
returns c =
    let b : List ℕ = c.args.b.now in
    let m : c.min.result ≡ min 512 (length b) = omega (arith, c.min.ensures) in
    zero_by c.word_sum.result (words_sum (take (min 512 (length b)) b))
    (c.word_sum.ensures ∙ ap (λ (n : ℕ). words_sum (take n b)) m)

use Rattle.std.proofs.Common.{◌≡◌, ◌+◌, ◌∙◌, ℕ, List, ap, arith, length}
use Rattle.std.proofs.lemmas.List.{take_rest}
use Rattle.romfs_format.specs.Record.{name_of, before_zero}
use Rattle.image_extents.proofs.romfs_records.entry_at.Goals as goal

name_is : (b got : List ℕ) (p : ℕ) → got ≡ name_of b p → length got ≡ length (name_of b p)
name_is b got p e = ap length e

pub overflow_cast-result : goal.overflow_cast-result
unfolding name_of
overflow_cast-result c =
    let e = name_is c.args.b.now c.upto_zero-name.result.now c.args.at
    (c.upto_zero-name.ensures ∙ ap before_zero (take_rest c.args.b.now (c.args.at + 16))) in
    let h = c.requires.name in
    let s = c.requires.small in
    omega (arith, e, h, s)

pub returns : goal.returns
unfolding name_of
returns c =
    ap (λ (n : ℕ). record { offset = c.args.at; name = c.args.at + 16; length = n; directory = c.args.directory })
    (name_is c.args.b.now c.upto_zero-name.result.now c.args.at
    (c.upto_zero-name.ensures ∙ ap before_zero (take_rest c.args.b.now (c.args.at + 16))))

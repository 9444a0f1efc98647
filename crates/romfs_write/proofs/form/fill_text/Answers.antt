use Rattle.std.proofs.Common.{◌≡◌, ◌+◌, ◌-◌, ℕ, List, [], length, take, drop, sym, ap, ◌∙◌, arith}
use Rattle.manifest_tree.specs.Names.{bytes_of}
use Rattle.manifest_layout.specs.Views.{fill_view}
use Rattle.romfs_write.proofs.form.fill_text.Goals as goal

pub returns-in-Text : goal.returns-in-Text
returns-in-Text c =
    let xs = c.copy_from_slice.new.self in
    let len = c.copy_from_slice.ensures.len in
    let same : (c.args.from + length c.args.out.now) - c.args.from ≡ length xs = omega arith in
    c.copy_from_slice.ensures.after ∙ ap (λ (k : ℕ). take k (drop c.args.from c.as_bytes.result.now)) same
    ∙ ap (λ (v : List ℕ). take (length xs) (drop c.args.from v))
    (c.as_bytes.ensures ∙ sym (ap (λ f. bytes_of [] (fill_view f)) c.in-Text.is))

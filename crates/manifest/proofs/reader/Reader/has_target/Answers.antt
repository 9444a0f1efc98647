use Rattle.std.proofs.Common.{◌≡◌, Bool, List, ℕ, reverse, sym, ap, ◌∙◌}
use Rattle.manifest.specs.declared.line.Line.{Line}
use Rattle.manifest.specs.declared.line.Word.{Word}
use Rattle.manifest.specs.declared.line.Word.TheVariants.{Hard}
use Rattle.manifest.specs.Lines.{line_at, led}
use Rattle.manifest.specs.Grammar.{has_target, is_target}
use Rattle.manifest.specs.Reading.{is_no_directory, reached, to_no_directory}
use Rattle.manifest.proofs.Reached.{no_directory_is}
use Rattle.manifest.proofs.reader.Reader.has_target.Goals as goal

of_hard : (latest : List Line) (w : Word) (old : List ℕ) (known : Bool) → w ≡ Hard
    → ((path : List ℕ) → is_target (led latest path) ≡ is_no_directory (line_at latest path))
    → known ≡ to_no_directory (reached latest old) → known ≡ has_target latest w old
of_hard latest w old known hard targets leads =
    leads ∙ sym (no_directory_is latest old) ∙ sym (targets old) ∙ ap (λ (v : Word). has_target latest v old) (sym hard)

pub returns-in-Hard : goal.returns-in-Hard
returns-in-Hard c =
    let leads : c.is_no_directory.result
    ≡ to_no_directory (reached (reverse c.args.self.now.lines.items) c.as_bytes-old.result.now) =
    c.is_no_directory.ensures ∙ ap to_no_directory c.reached.ensures in
    of_hard _ _ _ _ c.in-Hard.is c.requires.targets
    (leads ∙ ap (λ (old : List ℕ). to_no_directory
    (reached (reverse c.args.self.now.lines.items) old)) c.as_bytes-old.ensures)

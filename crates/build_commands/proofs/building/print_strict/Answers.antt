use Rattle.std.proofs.Common.{ℕ, List, codes, subst, ◌∙◌}
use Rattle.rom_fields.specs.Written.{WritesText}
use Rattle.build_commands.specs.Printed.{refusal_line}
use Rattle.build_commands.proofs.building.print_strict.Goals as goal

pub returns-clause-text : goal.returns-clause-text
returns-clause-text g c =
    let old = (g.W.ByteWrite.output c.args.w.now).contents in
    let new = (g.W.ByteWrite.output c.print_refusal.new.w).contents in
    let P : List ℕ → Type 0 =
    λ n. WritesText old new c.print_refusal.result (refusal_line (codes "strict") c.args.line c.args.number n) in
    subst P (c.as_bytes.ensures.value ∙ c.warning_name-name.ensures) c.print_refusal.ensures.text

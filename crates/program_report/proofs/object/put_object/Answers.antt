use Rattle.std.proofs.Common.{◌≡◌, ◌+◌, ◌%◌, ℕ, List, ◌++◌, [], ◌∷◌, decimal, sym, ap, ◌∙◌, subst}
use Rattle.std.proofs.lemmas.Bool.{eq-eqb, ne_eqb}
use Rattle.std.specs.Prelude.{codes}
use Rattle.rom_fields.specs.Texts.{escaped}
use Rattle.rom_fields.specs.Written.{Puts, sink}
use Rattle.rom_fields.proofs.Joins.{chain, puts_nothing}
use Rattle.rom_tree.specs.Walks.{given_path}
use Rattle.program_report.specs.Lines.{head_of, zeros_before}
use Rattle.program_report.proofs.object.put_object.Goals as goal

pub returns-then-address-eq0 : goal.returns-then-address-eq0
returns-then-address-eq0 g c =
    let path = escaped (given_path c.args.walk.now) in
    let base = c.args.question.now.base in
    let e : (base + c.args.start) % 4096 ≡ 0 =
    sym (ap (λ (v : ℕ). (base + v) % 4096) c.from.ensures) ∙ c.if-address-eq0.true in
    let P : ℕ → Type 0 = λ v. Puts (sink (g.W.ByteWrite.output c.args.w.now) c.args.failed.now)
    (sink (g.W.ByteWrite.output c.put_head.new.w) c.put_head.new.failed)
    (head_of (codes "object ") path (base + v)) in
    let n : c.zeros_before.result ≡ zeros_before _ c.args.start 4095 =
    c.zeros_before.ensures ∙ ap (λ (b : List ℕ). zeros_before b c.args.start 4095) c.bytes.ensures in
    let Q : ℕ → Type 0 = λ v. Puts (sink (g.W.ByteWrite.output c.put_head.new.w) c.put_head.new.failed)
    (sink (g.W.ByteWrite.output c.put_number.new.w) c.put_number.new.failed) (32 ∷ [] ++ decimal v) in
    rw (eq-eqb ((base + c.args.start) % 4096) 0 e)
    (chain (subst P c.from.ensures c.put_head.ensures) (chain (subst Q n c.put_number.ensures) c.put.ensures))

pub returns-else-address-eq0 : goal.returns-else-address-eq0
returns-else-address-eq0 g c =
    let base = c.args.question.now.base in
    let d : (base + c.args.start) % 4096 ≡ 0 → ⊥ =
    λ e. c.if-address-eq0.false (ap (λ (v : ℕ). (base + v) % 4096) c.from.ensures ∙ e) in
    rw (ne_eqb ((base + c.args.start) % 4096) 0 d) (puts_nothing _)

use Rattle.std.proofs.Common.{◌≡◌, ℕ, Bool, List, true, refl, length, None, sym, subst, ap, ◌∙◌, arith}
use Rattle.std.specs.Prelude.{if◌then◌else◌}
use Rattle.rom_tree.specs.Tree.{Node, is_regular, places_of}
use Rattle.rom_tree.specs.Image.{Image, stat_of}
use Rattle.rom_tree.specs.Runs.{IsLongest}
use Rattle.rom_tree.specs.declared.types.Stat.{Stat}
use Rattle.rom_tree.proofs.Named.{node_by}
use Rattle.image_check.specs.Any.{any_view}
use Rattle.program_report.specs.Found.{found_at, found_on}
use Rattle.program_report.proofs.Rows.{front_is, none_found, run_within, some_start}
use Rattle.program_report.proofs.finding.found_in.Goals as goal

-- the size that a node's record has
size_by : (s : Stat) (x : Node) (size : ℕ) → s ≡ stat_of x → size ≡ s.size → size ≡ length (places_of x)
size_by s x size e h = h ∙ ap (λ (v : Stat). v.size) e

longest_by : (ps : List ℕ) (size place len : ℕ) → size ≡ length ps → IsLongest ps 0 size place len
    → IsLongest ps 0 (length ps) place len
longest_by ps size place len e l = subst (λ (n : ℕ). IsLongest ps 0 n place len) e l

regular_by : {A : Type 0} (t : Bool) (x y : A) → t ≡ true → (if t then x else y) ≡ x
regular_by t x y e = rw e refl

pub found_at-requires : goal.found_at-requires
found_at-requires c =
    let m : Image = any_view c.args.image.now in
    let h = node_by m c.args.n.0 c.requires in
    let z : c.from.result ≡ length (places_of h.0) =
    size_by c.stat-size.result h.0 c.from.result (c.stat-size.ensures h.0 h.1) c.from.ensures in
    run_within m c.args.n.0 h.0 c.longest_run-start.result.0 c.longest_run-start.result.1 h.1
    (longest_by (places_of h.0) c.from.result c.longest_run-start.result.0 c.longest_run-start.result.1 z
    (c.longest_run-start.ensures h.0 h.1)) (let d = c.if-len-eq0.false in omega arith)

pub returns-then-len-eq0-clause-is : goal.returns-then-len-eq0-clause-is
returns-then-len-eq0-clause-is c = λ x e.
    let z : c.from.result ≡ length (places_of x) =
    size_by c.stat-size.result x c.from.result (c.stat-size.ensures x e) c.from.ensures in
    none_found c.args.image.now c.args.question.now (places_of x) c.longest_run-start.result.0
    c.longest_run-start.result.1
    (longest_by (places_of x) c.from.result c.longest_run-start.result.0 c.longest_run-start.result.1 z
    (c.longest_run-start.ensures x e)) c.if-len-eq0.true
    ∙ sym (regular_by (is_regular x) (found_on c.args.image.now c.args.question.now (places_of x)) None
    (sym (c.is_regular_at.ensures x e) ∙ c.if-not-is_regular_at.false))

pub returns-clause-is : goal.returns-clause-is
returns-clause-is c = λ x e.
    let a = c.args.image.now in
    let q = c.args.question.now in
    let place = c.longest_run-start.result.0 in
    let len = c.longest_run-start.result.1 in
    let s : c.stat-size.result.size ≡ length (places_of x) = ap (λ (v : Stat). v.size) (c.stat-size.ensures x e) in
    let z : c.from.result ≡ length (places_of x) =
    size_by c.stat-size.result x c.from.result (c.stat-size.ensures x e) c.from.ensures in
    c.found_at.ensures.is
    ∙ (ap (λ (n : ℕ). found_at a q place len n) s
    ∙ (sym (front_is a q (places_of x) place len
    (longest_by (places_of x) c.from.result place len z (c.longest_run-start.ensures x e))
    (let d = c.if-len-eq0.false in omega arith))
    ∙ sym (regular_by (is_regular x) (found_on a q (places_of x)) None
    (sym (c.is_regular_at.ensures x e) ∙ c.if-not-is_regular_at.false))))

pub returns-clause-within : goal.returns-clause-within
returns-clause-within c =
    let m : Image = any_view c.args.image.now in
    let h = node_by m c.args.n.0 c.requires in
    let z : c.from.result ≡ length (places_of h.0) =
    size_by c.stat-size.result h.0 c.from.result (c.stat-size.ensures h.0 h.1) c.from.ensures in
    let d = c.if-len-eq0.false in
    let w = run_within m c.args.n.0 h.0 c.longest_run-start.result.0 c.longest_run-start.result.1 h.1
    (longest_by (places_of h.0) c.from.result c.longest_run-start.result.0 c.longest_run-start.result.1 z
    (c.longest_run-start.ensures h.0 h.1)) (omega arith) in
    some_start c.found_at.result c.longest_run-start.result.0 (length m.bytes) c.found_at.ensures.start (omega arith)

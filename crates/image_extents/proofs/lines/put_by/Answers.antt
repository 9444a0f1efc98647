use Rattle.std.proofs.Common.{◌≡◌, ◌∙◌, ◌++◌, ◌∷◌, ◌+◌, ◌-◌, [], ℕ, List, Option, Some, ap, sym, subst, arith, length}
use Rattle.std.proofs.Common.{append_assoc, append-nil}
use Rattle.std.proofs.lemmas.Grind.{flat_map-append}
use Rattle.std.specs.List.{flat_map}
use Rattle.rom_fields.specs.Written.{Puts, sink}
use Rattle.rom_fields.proofs.Joins.{chain, puts_nothing}
use Rattle.image_extents.specs.Lines.{lines_as}
use Rattle.image_extents.specs.Tables.{led}
use Rattle.image_extents.proofs.Sharing.{led_end, led_none, led_step}
use Rattle.image_extents.proofs.lines.put_by.Goals as goal

pub loop-init : goal.loop-init
loop-init g c =
    let n : ℕ = length c.args.found.now.records.items in
    let z : n ≡ n - 0 = omega arith in (
      [],
      puts_nothing (sink (g.W.ByteWrite.output c.args.w.now) c.args.failed.now),
      ap (λ (v : ℕ). led c.args.found.now.next.items v (Some c.args.first)) z,
    )

pub loop-preserved : goal.loop-preserved
loop-preserved g c =
    let f : ℕ → List ℕ = lines_as c.args.base c.args.found.now c.args.at c.args.run.now in
    let next : List (Option ℕ) = c.args.found.now.next.items in
    let n : ℕ = length c.args.found.now.records.items in
    let k : ℕ = c.loop.counter in
    let i : ℕ = c.in-Some.number in
    let done : List ℕ = c.loop.invariant.0 in
    let P : List ℕ → Type 0 = λ v. Puts (sink (g.W.ByteWrite.output c.args.w.now) c.args.failed.now)
    (sink (g.W.ByteWrite.output c.put_as.new.w) c.put_as.new.failed) v in
    let len = c.len-end.ensures in
    let test = c.loop-test.true in
    let one : flat_map f (done ++ i ∷ []) ≡ flat_map f done ++ f i =
    flat_map-append f done (i ∷ []) ∙ ap (λ (v : List ℕ). flat_map f done ++ v) (append-nil (f i)) in
    let rest : List ℕ = led next (n - (k + 1)) c.next_of-owner.result in
    let step : led next (n - k) c.loop.owner ≡ i ∷ rest =
    ap (led next (n - k)) c.in-Some.is ∙ led_step next n k i (omega (arith, len, test))
    ∙ ap (λ (v : Option ℕ). i ∷ led next (n - (k + 1)) v) (sym c.next_of-owner.ensures) in (
      done ++ i ∷ [],
      subst P (sym one) (chain c.loop.invariant.1 c.put_as.ensures),
      c.loop.invariant.2 ∙ ap (λ (v : List ℕ). done ++ v) step ∙ sym (append_assoc done (i ∷ []) rest),
    )

pub returns-in_default : goal.returns-in_default
returns-in_default g c =
    let f : ℕ → List ℕ = lines_as c.args.base c.args.found.now c.args.at c.args.run.now in
    let next : List (Option ℕ) = c.args.found.now.next.items in
    let n : ℕ = length c.args.found.now.records.items in
    let done : List ℕ = c.loop.invariant.0 in
    let P : List ℕ → Type 0 = λ v. Puts (sink (g.W.ByteWrite.output c.args.w.now) c.args.failed.now)
    (sink (g.W.ByteWrite.output c.loop.w) c.loop.failed) (flat_map f v) in
    let all : led next n (Some c.args.first) ≡ done =
    c.loop.invariant.2
    ∙ ap (λ (v : List ℕ). done ++ v) (led_none next (n - c.loop.counter) c.loop.owner c.in_default.is)
    ∙ append-nil done in
    subst P (sym all) c.loop.invariant.1

pub returns : goal.returns
returns g c =
    let f : ℕ → List ℕ = lines_as c.args.base c.args.found.now c.args.at c.args.run.now in
    let next : List (Option ℕ) = c.args.found.now.next.items in
    let n : ℕ = length c.args.found.now.records.items in
    let done : List ℕ = c.loop.invariant.0 in
    let P : List ℕ → Type 0 = λ v. Puts (sink (g.W.ByteWrite.output c.args.w.now) c.args.failed.now)
    (sink (g.W.ByteWrite.output c.loop.w) c.loop.failed) (flat_map f v) in
    let len = c.len-end.ensures in
    let test = c.loop-test.false in
    let all : led next n (Some c.args.first) ≡ done =
    c.loop.invariant.2 ∙ ap (λ (v : List ℕ). done ++ v)
    (led_end next n c.loop.counter c.loop.owner (omega (arith, len, test))) ∙ append-nil done in
    subst P (sym all) c.loop.invariant.1

use Rattle.std.proofs.Common.{◌≡◌, ℕ, ◌-◌, ◌≤◌, length, take, length-take, arith, subst, min, rules}
use Rattle.std.proofs.lemmas.List.{places}
use Rattle.image_compare.specs.Differences.{Passes}
use Rattle.image_compare.proofs.Dumps.{passes_more}
use Rattle.image_compare.proofs.dump.pass_over.Goals as goal

pub loop-left-preserved : goal.loop-left-preserved
loop-left-preserved g c =
    let i = c.loop-left.invariant in
    let n : ℕ = c.in_ok-passed.passed in
    let b = c.in_ok-passed.ensures in
    let l : length (take n c.read.new.buf) ≡ n =
    let t : length (take n c.read.new.buf) ≡ min n (length c.read.new.buf) = length-take n c.read.new.buf in
    omega (arith, t, b.bound.0) in
    let most : n ≤ c.loop-left.left = search (rules, places, arith) in
    let P : ℕ → Type 0 = λ v. Passes (g.R.Read.remaining c.args.dump.now) (g.R.Read.remaining c.read.new.self) v in
    record {
      within = omega (arith, i.within);
      passed = subst P (omega (arith, most, i.within))
          (passes_more _ _ _ (c.args.count - c.loop-left.left) n (take n c.read.new.buf) l i.passed b.bytes.0);
    }

use Rattle.std.proofs.Common.{◌+◌, arith, sym, ◌∙◌, subst, ap}
use Rattle.std.proofs.lemmas.Bool.{false≢true}
use Rattle.record_forest.proofs.Marked.{Marked, places_sorted, next_apart, next_alike, next_within, marked_end}
use Rattle.record_forest.proofs.listed.repeats.Goals as goal
use Rattle.record_forest.proofs.listed.repeats.Goals.{then-are_alike, else-are_alike}

pub index_mut-requires : goal.index_mut-requires
index_mut-requires c = let k = next_within c.args.names.items c.sort_unstable.new.self.items c.requires
    c.sort_unstable.ensures.permutation (places_sorted c.sort_unstable.new.self.items c.sort_unstable.ensures.sorted)
    c.loop-i.marks.items c.loop-i.i c.index-here.result.now
    (let e = c.len-i-end.ensures in let f = c.loop-i-test.true in omega arith) c.index-here.ensures
    c.loop-i.invariant in let e = c.loop-i.marks.ok in omega arith

pub loop-i-preserved : goal.loop-i-preserved
loop-i-preserved c = elim c.if-are_alike.branch [
  | then-are_alike w ↦ subst (λ m. Marked c.args.names.items c.sort_unstable.new.self.items m (c.loop-i.i + 1))
      (ap (λ v. v.items) (sym w.marks-is))
      (next_alike c.args.names.items c.sort_unstable.new.self.items c.requires c.sort_unstable.ensures.permutation
      (places_sorted c.sort_unstable.new.self.items c.sort_unstable.ensures.sorted)
      c.loop-i.marks.items c.loop-i.i c.index.result.now c.index-here.result.now c.loop-i.auto.i
      (let e = c.len-i-end.ensures in let f = c.loop-i-test.true in omega arith)
      c.index.ensures c.index-here.ensures (c.are_alike.ensures.0 w.if-are_alike.true) c.loop-i.invariant)
  | else-are_alike w ↦ subst (λ m. Marked c.args.names.items c.sort_unstable.new.self.items m (c.loop-i.i + 1))
      (ap (λ v. v.items) (sym w.marks-is))
      (next_apart c.args.names.items c.sort_unstable.new.self.items c.requires c.sort_unstable.ensures.permutation
      (places_sorted c.sort_unstable.new.self.items c.sort_unstable.ensures.sorted)
      c.loop-i.marks.items c.loop-i.i c.index.result.now c.index-here.result.now c.loop-i.auto.i
      (let e = c.len-i-end.ensures in let f = c.loop-i-test.true in omega arith)
      c.index.ensures c.index-here.ensures
      (λ a. false≢true (sym w.if-are_alike.false ∙ c.are_alike.ensures.1 a)) c.loop-i.invariant)
]

pub returns : goal.returns
returns c = marked_end c.args.names.items c.sort_unstable.new.self.items c.requires c.sort_unstable.ensures.permutation
    (places_sorted c.sort_unstable.new.self.items c.sort_unstable.ensures.sorted)
    c.loop-i.marks.items c.loop-i.i (let e = c.len-i-end.ensures in let f = c.loop-i-test.false in omega arith)
    c.loop-i.invariant

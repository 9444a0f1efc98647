use Rattle.std.proofs.Common.{◌≡◌, ◌+◌, ◌-◌, ◌*◌, ◌≤◌, ◌<◌, ◌^◌, ℕ, Some, [], ◌∷◌, ◌++◌, length, sym, ap, subst, ◌∙◌}
use Rattle.std.proofs.Common.{arith, refl}
use Rattle.std.proofs.lemmas.List.Elements.{All-pop, All-push, All-weaker, All-nil}
use Rattle.std.proofs.lemmas.List.{length_push}
use Rattle.std.specs.List.{All}
use Rattle.record_forest.specs.declared.traversal.Pending.{Pending}
use Rattle.record_forest.specs.declared.reference.Edge.{Edge}
use Rattle.record_forest.proofs.Grows.{edge_is, row_of, after_of, below_root, root_row}
use Rattle.record_forest.proofs.Whole.{whole_start, whole_none, whole_many, whole_reached, whole_faulty, whole_again}
use Rattle.record_forest.proofs.Whole.{whole_beside, whole_new, whole_few, whole_sounds, whole_fault, whole_twice}
use Rattle.record_forest.proofs.Whole.{whole_done, whole_popped, whole_pushed, whole_pushed_two, whole_rows}
use Rattle.record_forest.proofs.Whole.{whole_ended}
use Rattle.record_forest.proofs.Visited.{Visits, visits_start, visits_more, visits_same, visits_fresh, visits_old}
use Rattle.record_forest.proofs.traversal.traverse_below.Goals as goal

abbrev Deep : ℕ → Pending → Type 0
Deep n x = x.depth ≤ n

-- what follows from the root is at the depth 1
shallow : (p : ℕ) (own after : Edge) → All (Deep 1) (below_root p after ∷ below_root p own ∷ [])
shallow p own after = All-push (Deep 1) (below_root p after ∷ []) (below_root p own)
    (All-push (Deep 1) [] (below_root p after) (All-nil (Deep 1)) (omega arith)) (omega arith)

pub references-init : goal.references-init
references-init g c =
    let r = g.R.Records.references c.args.records.now in
    let p = c.args.root in
    let own = ap (below_root p) (edge_is r (r.own r.top) c.args.edges.own c.requires.own c.requires.own_target) in
    let after =
    ap (below_root p) (edge_is r (r.after r.top) c.args.edges.after c.requires.after c.requires.after_target) in
    let row : c.in_ok-rows.rows.items ≡ root_row r p ∷ [] =
    rw (c.in_ok-rows.ensures.rows, c.top.ensures.reference) refl in
    record {
      whole = whole_rows _ _ row (whole_pushed_two []
          (below_root p c.args.edges.after ∷ []) _ _ _ _ _ refl c.in_ok-rows.ensures.stack after own
          (whole_start c.args.most p c.requires.lawful c.requires.root c.requires.sound c.requires.faultless
          c.requires.some));
      visits = subst (Visits c.in_ok-rows.visited) (sym row)
          (visits_start c.in_ok-rows.visited (root_row r p) c.in_ok-rows.ensures.visited);
      known = c.requires.known;
      deep = rw (c.in_ok-rows.ensures.stack, row) (shallow p c.args.edges.own c.args.edges.after);
    }

pub references-preserved-in_default-target : goal.references-preserved-in_default-target
references-preserved-in_default-target g c = record {
  whole = whole_none (whole_popped _ _ c.in-Some.next c.in-Some.ensures.items c.references.invariant.whole)
      c.in_default-target.is;
  visits = c.references.invariant.visits;
  known = c.references.invariant.known;
  deep = (All-pop (Deep (length c.references.rows.items)) _ _
      (Some c.in-Some.next) c.in-Some.ensures.items c.references.invariant.deep).0;
}

pub edges-requires-clause-reached : goal.edges-requires-clause-reached
edges-requires-clause-reached g c = whole_reached
    (whole_popped _ _ c.in-Some.next c.in-Some.ensures.items c.references.invariant.whole) c.in-Some-target.at
    c.in-Some-target.is

pub references-preserved-in-Err : goal.references-preserved-in-Err
references-preserved-in-Err g c = record {
  whole = rw c.lesser_fault-noted.ensures
      (whole_faulty c.in-Err.fault (whole_popped _ _ c.in-Some.next c.in-Some.ensures.items
      c.references.invariant.whole) c.in-Some-target.at c.in-Some-target.is
      c.if-count-most.false c.in-Err.ensures.unsound c.in-Err.ensures.err);
  visits = c.references.invariant.visits;
  known = c.in-Err.ensures.known;
  deep = (All-pop (Deep (length c.references.rows.items)) _ _
      (Some c.in-Some.next) c.in-Some.ensures.items c.references.invariant.deep).0;
}

pub references-preserved-then-branch : goal.references-preserved-then-branch
references-preserved-then-branch g c =
    let r = g.R.Records.references c.args.records.now in
    let q = c.in-Some.next in
    let at = c.in-Some-target.at in
    let edges = c.in-Ok.edges in
    let found = c.references.rows.items in
    let w = whole_popped _ _ q c.in-Some.ensures.items c.references.invariant.whole in
    let row : c.enter.new.rows.items ≡ found ++ row_of q at ∷ [] = c.in_ok-enter.ensures.rows in
    let size : length c.enter.new.rows.items ≡ length found + 1 = ap length row ∙ length_push found (row_of q at) in
    let popped = All-pop (Deep (length found)) _ _ (Some q) c.in-Some.ensures.items c.references.invariant.deep in
    let at_q : q.depth ≤ length found = popped.1 in
    let P : Pending → Type 0 = Deep (length c.enter.new.rows.items) in
    let popped' = All-weaker (Deep (length found)) P (λ x h. omega arith) _ popped.0 in
    let at_q' : q.depth ≤ length c.enter.new.rows.items = omega arith in
    let deeper : q.depth + 1 ≤ length c.enter.new.rows.items = omega arith in
    let own = ap (λ (l : Edge). record { edge = l; directory = at; parent = q.directory; depth = q.depth + 1 })
    (edge_is r (r.own q.edge.reference) edges.own c.in-Ok.ensures.own c.in-Ok.ensures.own_target) in
    let after = ap (λ (l : Edge). record { edge = l; directory = q.directory; parent = q.parent; depth = q.depth })
    (edge_is r (r.after q.edge.reference) edges.after c.in-Ok.ensures.after c.in-Ok.ensures.after_target) in
    record {
      whole = whole_rows _ _ row (whole_pushed_two _ _ _ _ _ _ _ refl c.in_ok-enter.ensures.stack after own
          (whole_new c.requires.lawful w at c.in-Some-target.is c.if-count-most.false c.in-Ok.ensures.ok
          c.in-Ok.ensures.faultless
          (visits_fresh c.references.visited found at c.references.invariant.visits
          (sym c.if-branch.true ∙ c.in_ok-insert.ensures.added))));
      visits = subst (Visits c.insert.new.self) (sym row)
          (visits_more c.references.visited c.insert.new.self found
          (row_of q at) c.references.invariant.visits c.in_ok-insert.ensures.updates);
      known = c.in-Ok.ensures.known;
      deep = rw c.in_ok-enter.ensures.stack (All-push P _ _ (All-push P _ _ popped' at_q') deeper);
    }

pub references-preserved-then-is_chained : goal.references-preserved-then-is_chained
references-preserved-then-is_chained g c =
    let w = whole_popped _ _ c.in-Some.next c.in-Some.ensures.items c.references.invariant.whole in
    let old = visits_old c.references.visited c.references.rows.items c.in-Some-target.at c.references.invariant.visits
    (sym c.if-branch.false ∙ c.in_ok-insert.ensures.added) in
    let chained = sym c.is_chained.ensures ∙ c.if-is_chained.true in
    record {
      whole = rw c.lesser_offset-twice.ensures
          (whole_again c.requires.lawful chained w c.in-Some-target.at c.in-Some-target.is c.if-count-most.false
          c.in-Ok.ensures.ok c.in-Ok.ensures.faultless old);
      visits = visits_same c.references.visited c.insert.new.self c.references.rows.items c.in_ok-insert.field-0
          c.references.invariant.visits c.if-branch.false c.in_ok-insert.ensures.unchanged;
      known = c.in-Ok.ensures.known;
      deep = (All-pop (Deep (length c.references.rows.items)) _ _
          (Some c.in-Some.next) c.in-Some.ensures.items c.references.invariant.deep).0;
    }

pub references-preserved : goal.references-preserved
references-preserved g c =
    let r = g.R.Records.references c.args.records.now in
    let q = c.in-Some.next in
    let w = whole_popped _ _ q c.in-Some.ensures.items c.references.invariant.whole in
    let popped = All-pop (Deep (length c.references.rows.items)) _ _
    (Some q) c.in-Some.ensures.items c.references.invariant.deep in
    let after : c.after_of.result ≡ after_of r q =
    c.after_of.ensures ∙ ap (λ (l : Edge). record
    { edge = l; directory = q.directory; parent = q.parent; depth = q.depth })
    (edge_is r (r.after q.edge.reference) c.in-Ok.edges.after c.in-Ok.ensures.after c.in-Ok.ensures.after_target) in
    let old = visits_old c.references.visited c.references.rows.items c.in-Some-target.at c.references.invariant.visits
    (sym c.if-branch.false ∙ c.in_ok-insert.ensures.added) in
    let chained = sym c.is_chained.ensures ∙ c.if-is_chained.false in
    record {
      whole = whole_pushed _ _ _ _ c.in_ok-push.ensures.items after
          (rw c.lesser_offset-twice.ensures
          (whole_beside c.requires.lawful chained w c.in-Some-target.at c.in-Some-target.is c.if-count-most.false
          c.in-Ok.ensures.ok c.in-Ok.ensures.faultless old));
      visits = visits_same c.references.visited c.insert.new.self c.references.rows.items c.in_ok-insert.field-0
          c.references.invariant.visits c.if-branch.false c.in_ok-insert.ensures.unchanged;
      known = c.in-Ok.ensures.known;
      deep = rw (c.in_ok-push.ensures.items, after)
          (All-push (Deep (length c.references.rows.items)) _ (after_of r q) popped.0 popped.1);
    }

pub returns-in-Some-default-clause-fault : goal.returns-in-Some-default-clause-fault
returns-in-Some-default-clause-fault g c =
    let empty : length c.references.stack.items ≡ 0 = omega (arith, c.in_default.ensures.cases) in
    let w = whole_ended _ empty c.references.invariant.whole in
    (whole_few w, whole_fault w _ c.in-Some-default.is-0)

pub returns-in-None-Some-clause-fault : goal.returns-in-None-Some-clause-fault
returns-in-None-Some-clause-fault g c =
    let empty : length c.references.stack.items ≡ 0 = omega (arith, c.in_default.ensures.cases) in
    let w = whole_ended _ empty c.references.invariant.whole in
    (whole_few w, whole_sounds w c.in-None-Some.is-0, whole_twice w c.in-None-Some.is-0 _ c.in-None-Some.is-1)

pub returns-clause-ok : goal.returns-clause-ok
returns-clause-ok g c =
    let empty : length c.references.stack.items ≡ 0 = omega (arith, c.in_default.ensures.cases) in
    let w = whole_ended _ empty c.references.invariant.whole in
    whole_done w c.in-None-None.is-0 c.in-None-None.is-1

-- one reference fewer is pending or allowed, and at most two are added where one is counted
popped_less : (m n a b : ℕ) → a ≡ b + 1 → 2 * (m - n) + b < 2 * (m - n) + a
popped_less m n a b e = omega arith

counted_less : (m n a b k : ℕ) → n ≤ m → (n ≡ m → ⊥) → a ≡ b + 1 → k ≤ b + 2 → 2 * (m - (n + 1)) + k < 2 * (m - n) + a
counted_less m n a b k l f e h = omega arith

pub references-smaller-in_default-target : goal.references-smaller-in_default-target
references-smaller-in_default-target g c =
    popped_less c.args.most c.references.count (length c.references.stack.items) (length c.pop.new.self.items)
    (ap length c.in-Some.ensures.items ∙ length_push c.pop.new.self.items c.in-Some.next)

pub references-smaller-in-Err : goal.references-smaller-in-Err
references-smaller-in-Err g c = counted_less c.args.most c.references.count (length c.references.stack.items)
    (length c.pop.new.self.items) (length c.pop.new.self.items) c.references.invariant.whole.fits
    c.if-count-most.false (ap length c.in-Some.ensures.items ∙ length_push c.pop.new.self.items c.in-Some.next)
    (omega arith)

pub references-smaller-then-branch : goal.references-smaller-then-branch
references-smaller-then-branch g c =
    let e : length c.enter.new.stack.items ≡ length c.pop.new.self.items + 1 + 1 =
    ap length c.in_ok-enter.ensures.stack
    ∙ (length_push _ _ ∙ ap (λ (n : ℕ). n + 1) (length_push c.pop.new.self.items _)) in
    counted_less c.args.most c.references.count (length c.references.stack.items) (length c.pop.new.self.items)
    (length c.enter.new.stack.items) c.references.invariant.whole.fits
    c.if-count-most.false (ap length c.in-Some.ensures.items ∙ length_push c.pop.new.self.items c.in-Some.next)
    (omega (arith, e))

pub references-smaller-then-is_chained : goal.references-smaller-then-is_chained
references-smaller-then-is_chained g c =
    counted_less c.args.most c.references.count (length c.references.stack.items) (length c.pop.new.self.items)
    (length c.pop.new.self.items) c.references.invariant.whole.fits
    c.if-count-most.false (ap length c.in-Some.ensures.items ∙ length_push c.pop.new.self.items c.in-Some.next)
    (omega arith)

pub references-smaller : goal.references-smaller
references-smaller g c =
    let e : length c.push.new.self.items ≡ length c.pop.new.self.items + 1 =
    ap length c.in_ok-push.ensures.items ∙ length_push c.pop.new.self.items _ in
    counted_less c.args.most c.references.count (length c.references.stack.items) (length c.pop.new.self.items)
    (length c.push.new.self.items) c.references.invariant.whole.fits
    c.if-count-most.false (ap length c.in-Some.ensures.items ∙ length_push c.pop.new.self.items c.in-Some.next)
    (omega (arith, e))

pub returns-then-count-most-clause-fault : goal.returns-then-count-most-clause-fault
returns-then-count-most-clause-fault g c =
    whole_many (whole_popped _ _ c.in-Some.next c.in-Some.ensures.items c.references.invariant.whole)
    c.in-Some-target.at c.in-Some-target.is c.if-count-most.true

below_most : (m n d : ℕ) → n ≤ m → (n ≡ m → ⊥) → d ≤ n → m < 2 ^ 32 → d + 1 < 2 ^ 32
below_most m n d l f e h = omega arith

pub overflow_add-count : goal.overflow_add-count
overflow_add-count g c = record {
  fits = below_most c.args.most c.references.count c.references.count
      c.references.invariant.whole.fits c.if-count-most.false (omega arith) c.ranges.most.fits;
}

pub enter-requires : goal.enter-requires
enter-requires g c =
    let d = (All-pop (Deep (length c.references.rows.items)) _ _
    (Some c.in-Some.next) c.in-Some.ensures.items c.references.invariant.deep).1 in
    below_most c.args.most c.references.count c.in-Some.next.depth c.references.invariant.whole.fits
    c.if-count-most.false (omega (arith, d, c.references.invariant.whole.size)) c.ranges.most.fits

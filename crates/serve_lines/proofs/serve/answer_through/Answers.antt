use Rattle.std.proofs.Common.{◌∙◌, ap, ◌≡◌, sym, subst, arith, true, [], List, ℕ, Option, drop}
use Rattle.std.specs.Io.KnownBytes.{append_known}
use Rattle.rom_fields.specs.Failures.{one_more}
use Rattle.rom_fields.specs.Written.{AppendsPrefix}
use Rattle.rom_fields.proofs.Joins.{said_ok, said_front, said_rose, said_quiet}
use Rattle.serve_lines.specs.Starts.{begins_with}
use Rattle.serve_lines.proofs.Flushed.{still_put, failed_counts}
use Rattle.serve_lines.proofs.Buffering.{begins_itself, prefix_of_prefix, all_held, prefix_held}
use Rattle.serve_lines.proofs.serve.answer_through.Goals as goal

pub invariant_of-out : goal.invariant_of-out
invariant_of-out g c = record {
  loan = c.requires.loan;
  starts = subst (λ (s : Option (List ℕ)). begins_with s ((g.W.ByteWrite.output c.args.reached.w.now).contents)
      ≡ true) c.requires.start
      (begins_itself ((g.W.ByteWrite.output c.args.reached.w.now).contents));
  within = omega arith;
}

pub returns-then-failed-clause-text : goal.returns-then-failed-clause-text
returns-then-failed-clause-text g c =
    let w : Option (List ℕ) = (g.W.ByteWrite.output c.args.reached.w.now).contents in
    let v : Option (List ℕ) = (g.W.ByteWrite.output c.answer-last.new.w.reached.w.now).contents in
    let rest : List ℕ = drop c.answer-last.new.w.sent c.answer-last.new.w.held.items in
    let P : List ℕ → Type 0 = λ t. AppendsPrefix (append_known w []) (append_known v rest)
    ((g.M.LineMachine.machine c.args.m.now).reply (g.M.LineMachine.state c.args.m.now) t) in
    let Q : List ℕ → Type 0 = λ t. AppendsPrefix (append_known w t) (append_known v rest)
    ((g.M.LineMachine.machine c.args.m.now).reply (g.M.LineMachine.state c.args.m.now) c.as_slice.result.now) in
    prefix_of_prefix w v rest _
    (subst (λ (s : Option (List ℕ)). begins_with s v ≡ true) (sym c.requires.start) c.answer-last.new.w.starts)
    (subst P c.as_slice.ensures.value (subst Q c.new.ensures
    (said_front _ _ _ _ c.if-failed.true c.answer-last.ensures.text)))

pub returns-then-failed-clause-count : goal.returns-then-failed-clause-count
returns-then-failed-clause-count g c = said_rose _ _ _ _ c.if-failed.true c.answer-last.ensures.text

pub returns-in-Ok-clause-text : goal.returns-in-Ok-clause-text
returns-in-Ok-clause-text g c =
    let w : Option (List ℕ) = (g.W.ByteWrite.output c.args.reached.w.now).contents in
    let v : Option (List ℕ) = (g.W.ByteWrite.output c.flush.new.self.reached.w.now).contents in
    let rest : List ℕ = drop c.flush.new.self.sent c.flush.new.self.held.items in
    let reply : List ℕ → List ℕ = (g.M.LineMachine.machine c.args.m.now).reply (g.M.LineMachine.state c.args.m.now) in
    all_held w v rest _ c.in-Ok.ensures.empty
    (still_put w _ v _ _ rest _ _ reply c.new.ensures c.as_slice.ensures.value
    (said_ok _ _ _ _ c.if-failed.false c.answer-last.ensures.text) c.in-Ok.ensures.bytes)

pub returns-in-Err-clause-text : goal.returns-in-Err-clause-text
returns-in-Err-clause-text g c =
    let w : Option (List ℕ) = (g.W.ByteWrite.output c.args.reached.w.now).contents in
    let v : Option (List ℕ) = (g.W.ByteWrite.output c.flush.new.self.reached.w.now).contents in
    let rest : List ℕ = drop c.flush.new.self.sent c.flush.new.self.held.items in
    let reply : List ℕ → List ℕ = (g.M.LineMachine.machine c.args.m.now).reply (g.M.LineMachine.state c.args.m.now) in
    prefix_held w v rest _
    (subst (λ (s : Option (List ℕ)). begins_with s v ≡ true) (sym c.requires.start) c.flush.new.self.starts)
    (still_put w _ v _ _ rest _ _ reply c.new.ensures c.as_slice.ensures.value
    (said_ok _ _ _ _ c.if-failed.false c.answer-last.ensures.text) c.in-Err.ensures.bytes)

pub returns-in-Ok-clause-count : goal.returns-in-Ok-clause-count
returns-in-Ok-clause-count g c = c.in-Ok.ensures.count ∙ said_quiet _ _ _ _ c.if-failed.false c.answer-last.ensures.text

pub returns-in-Err-clause-count : goal.returns-in-Err-clause-count
returns-in-Err-clause-count g c =
    failed_counts _ _ _ (said_quiet _ _ _ _ c.if-failed.false c.answer-last.ensures.text) c.in-Err.ensures.count

pub returns-in-Ok-clause-last : goal.returns-in-Ok-clause-last
returns-in-Ok-clause-last g c =
    c.answer-last.ensures.last ∙ ap (g.M.LineMachine.machine c.args.m.now).ends c.as_slice.ensures.value

pub returns-in-Err-clause-last : goal.returns-in-Err-clause-last
returns-in-Err-clause-last g c = tt

pub returns-in-Ok-clause-flushed : goal.returns-in-Ok-clause-flushed
returns-in-Ok-clause-flushed g c = c.in-Ok.ensures.flushed ∙ ap one_more c.answer-last.ensures.text.unflushed

pub returns-in-Err-clause-flushed : goal.returns-in-Err-clause-flushed
returns-in-Err-clause-flushed g c = c.in-Err.ensures.flushed ∙ c.answer-last.ensures.text.unflushed

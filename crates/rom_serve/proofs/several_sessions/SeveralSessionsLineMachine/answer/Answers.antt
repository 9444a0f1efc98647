use Rattle.std.proofs.Common.{◌≡◌, ◌∙◌, ◌+◌, ◌-◌, ◌≤◌, sym, ap, subst, arith, List, ℕ, ◌∷◌, drop, true}
use Rattle.rom_fields.specs.Written.{Puts, sink}
use Rattle.rom_fields.proofs.Joins.{chain}
use Rattle.serve_lines.specs.Replies.{reply_text}
use Rattle.serve_lines.specs.Commands.{line_of}
use Rattle.rom_serve.specs.Obeyed.{Said, answered}
use Rattle.rom_serve.proofs.LongLines.{long_said, none_said, some_said}
use Rattle.rom_serve.proofs.several_sessions.SeveralSessionsLineMachine.answer.Goals as goal

pub returns-then-line-gt8191-clause-text : goal.returns-then-line-gt8191-clause-text
unfolding reply_text
returns-then-line-gt8191-clause-text g c =
    let P : Said g.C.OpenCalls.State → Type 0 =
    λ v. Puts (sink (g.W.ByteWrite.output c.args.w.now) c.args.failed.now)
    (sink (g.W.ByteWrite.output c.put_reply.new.w) c.put_reply.new.failed) v.text in
    subst P (sym (long_said (g.C.OpenCalls.calls c.args.self.now.calls)
    (g.C.OpenCalls.state c.args.self.now.calls) c.args.line.now c.if-line-gt8191.true)) c.put_reply.ensures

pub returns-then-line-gt8191-clause-step : goal.returns-then-line-gt8191-clause-step
returns-then-line-gt8191-clause-step g c =
    sym (ap (λ (v : Said g.C.OpenCalls.State). v.state)
    (long_said (g.C.OpenCalls.calls c.args.self.now.calls)
    (g.C.OpenCalls.state c.args.self.now.calls) c.args.line.now c.if-line-gt8191.true))

pub returns-in-None-clause-text : goal.returns-in-None-clause-text
unfolding reply_text
returns-in-None-clause-text g c =
    let P : Said g.C.OpenCalls.State → Type 0 =
    λ v. Puts (sink (g.W.ByteWrite.output c.args.w.now) c.args.failed.now)
    (sink (g.W.ByteWrite.output c.put_reply-in-None.new.w) c.put_reply-in-None.new.failed) v.text in
    subst P (sym (none_said (g.C.OpenCalls.calls c.args.self.now.calls)
    (g.C.OpenCalls.state c.args.self.now.calls) c.args.line.now c.if-line-gt8191.false c.in-None.ensures.names))
    c.put_reply-in-None.ensures

pub returns-in-None-clause-step : goal.returns-in-None-clause-step
returns-in-None-clause-step g c = sym
    (ap (λ (v : Said g.C.OpenCalls.State). v.state)
    (none_said (g.C.OpenCalls.calls c.args.self.now.calls)
    (g.C.OpenCalls.state c.args.self.now.calls) c.args.line.now c.if-line-gt8191.false c.in-None.ensures.names))

pub returns-in-Some-clause-text : goal.returns-in-Some-clause-text
returns-in-Some-clause-text g c =
    let k : ℕ = c.in-Some.digit - 48 in
    let low : 48 ≤ c.in-Some.digit = c.in-Some.ensures.digit.0 in
    let d : c.in-Some.digit ≡ 48 + k = omega arith in
    let P : Said g.C.OpenCalls.State → Type 0 =
    λ v. Puts (sink (g.W.ByteWrite.output c.args.w.now) c.args.failed.now)
    (sink (g.W.ByteWrite.output c.put_answer.new.w) c.put_answer.new.failed) v.text in
    let Q : ℕ → Type 0 = λ v. Puts (sink (g.W.ByteWrite.output c.args.w.now) c.args.failed.now)
    (sink (g.W.ByteWrite.output c.put_answer.new.w) c.put_answer.new.failed)
    (v ∷ 32 ∷ (answered ((g.C.OpenCalls.calls c.args.self.now.calls) k) (g.C.OpenCalls.state c.args.self.now.calls)
    (line_of true (drop 2 c.args.line.now))).text) in
    let R : List ℕ → Type 0 = λ v. Puts (sink (g.W.ByteWrite.output c.args.w.now) c.args.failed.now)
    (sink (g.W.ByteWrite.output c.put_answer.new.w) c.put_answer.new.failed)
    (c.in-Some.digit ∷ 32 ∷ (answered ((g.C.OpenCalls.calls c.args.self.now.calls) k)
    (g.C.OpenCalls.state c.args.self.now.calls) (line_of true v)).text) in
    subst P (sym (some_said (g.C.OpenCalls.calls c.args.self.now.calls)
    (g.C.OpenCalls.state c.args.self.now.calls) c.args.line.now k c.if-line-gt8191.false c.in-Some.ensures.names))
    (subst Q d (subst R c.in-Some.ensures.rest (chain c.put.ensures c.put_answer.ensures.text)))

pub returns-in-Some-clause-step : goal.returns-in-Some-clause-step
returns-in-Some-clause-step g c =
    let k : ℕ = c.in-Some.digit - 48 in
    c.put_answer.ensures.step ∙ ap (λ (v : List ℕ).
    (answered ((g.C.OpenCalls.calls c.args.self.now.calls) k) (g.C.OpenCalls.state c.args.self.now.calls)
    (line_of true v)).state) c.in-Some.ensures.rest
    ∙ sym (ap (λ (v : Said g.C.OpenCalls.State). v.state)
    (some_said (g.C.OpenCalls.calls c.args.self.now.calls)
    (g.C.OpenCalls.state c.args.self.now.calls) c.args.line.now k c.if-line-gt8191.false c.in-Some.ensures.names))

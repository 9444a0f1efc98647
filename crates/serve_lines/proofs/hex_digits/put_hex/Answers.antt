use Rattle.std.proofs.Common.{◌≡◌, ◌<◌, ◌++◌, ◌∙◌, [], List, ℕ, length, ap, sym, subst, append_assoc, append-nil, arith}
use Rattle.std.proofs.Common.{rules}
use Rattle.std.proofs.lemmas.Grind.{common_steps}
use Rattle.rom_fields.specs.Written.{Puts, sink}
use Rattle.rom_fields.proofs.Joins.{chain}
use Rattle.hex.specs.Hex.{encode_lower}
use Rattle.serve_lines.proofs.Hexadecimal.{encode_lower-cut, encode_lower-nil, hex_text-some}
use Rattle.serve_lines.proofs.hex_digits.put_hex.Goals as goal

pub loop-rest-preserved : goal.loop-rest-preserved
loop-rest-preserved g c = record {
  done = c.loop-rest.invariant.done ++ encode_lower c.split_at.result.0.now;
  puts = chain c.loop-rest.invariant.puts c.put_hex_part.ensures;
  rest = append_assoc c.loop-rest.invariant.done (encode_lower c.split_at.result.0.now)
      (encode_lower c.split_at.result.1.now)
      ∙ ap (λ (v : List ℕ). c.loop-rest.invariant.done ++ v)
      (sym (encode_lower-cut _ _ _ _ c.split_at.ensures.front c.split_at.ensures.back))
      ∙ c.loop-rest.invariant.rest;
}

pub returns : goal.returns
returns g c =
    let none : c.loop-rest.rest.now ≡ [] =
    grind (arith, common_steps, c.loop-rest-test.ensures, c.loop-rest-test.false) in
    let some : 0 < length c.args.bytes.now = search rules in
    let all : c.loop-rest.invariant.done ≡ encode_lower c.args.bytes.now =
    sym (append-nil c.loop-rest.invariant.done)
    ∙ ap (λ (v : List ℕ). c.loop-rest.invariant.done ++ v) (sym (encode_lower-nil c.loop-rest.rest.now none))
    ∙ c.loop-rest.invariant.rest in
    let P : List ℕ → Type 0 = λ v. Puts (sink (g.W.ByteWrite.output c.args.w.now) c.args.failed.now)
    (sink (g.W.ByteWrite.output c.loop-rest.w) c.loop-rest.failed) v in
    subst P (all ∙ hex_text-some c.args.bytes.now some) c.loop-rest.invariant.puts

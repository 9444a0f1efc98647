use Rattle.std.proofs.Common.{get_or, ◌<◌, rules, ◌++◌, [], sym, ap, ◌∙◌, List, ℕ, append_assoc, subst}
use Rattle.rom_fields.specs.Written.{Puts, sink}
use Rattle.rom_fields.proofs.Escapes.{percent_encode-escaped}
use Rattle.rom_fields.proofs.Joins.{puts_nothing, puts_then}
use Rattle.percent_encoding.specs.Iter.{encoded_text}
use Rattle.rom_fields.proofs.text.put_escaped.Goals as goal

pub loop-piece-init : goal.loop-piece-init
loop-piece-init g c =
    let small : (i : ℕ) → get_or c.args.name.now i 0 < 256 = λ i. search (rules, c.type_inv.name i) in record {
      can = tt;
      finite = tt;
      done = [];
      puts = puts_nothing (sink (g.W.ByteWrite.output c.args.w.now) c.args.failed.now);
      rest = ap encoded_text c.into_iter-piece-iterator.ensures.into_iter_gives
          ∙ (c.percent_encode-piece-items.ensures.text ∙ percent_encode-escaped c.args.name.now small);
    }

pub loop-piece-preserved : goal.loop-piece-preserved
loop-piece-preserved g c =
    let P : List ℕ → Type 0 = λ v. Puts (sink (g.W.ByteWrite.output c.loop-piece.w) c.loop-piece.failed)
    (sink (g.W.ByteWrite.output c.put.new.w) c.put.new.failed) v in
    record {
      can = tt;
      finite = tt;
      done = c.loop-piece.invariant.done ++ c.in-Some.piece.now;
      puts = puts_then
          (sink (g.W.ByteWrite.output c.args.w.now) c.args.failed.now)
          (sink (g.W.ByteWrite.output c.loop-piece.w) c.loop-piece.failed)
          (sink (g.W.ByteWrite.output c.put.new.w) c.put.new.failed)
          c.loop-piece.invariant.done c.in-Some.piece.now c.loop-piece.invariant.puts
          (subst P c.as_bytes.ensures.value c.put.ensures);
      rest = append_assoc c.loop-piece.invariant.done c.in-Some.piece.now (encoded_text c.next.new.self)
          ∙ (ap (λ (v : List ℕ). c.loop-piece.invariant.done ++ v) (sym c.in-Some.ensures.steps)
          ∙ c.loop-piece.invariant.rest);
    }

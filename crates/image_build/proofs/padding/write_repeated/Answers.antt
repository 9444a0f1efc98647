use Rattle.std.proofs.Common.{◌≡◌, ◌-◌, ◌+◌, ◌++◌, List, ℕ, take, replicate, ap, subst, ◌∙◌, arith}
use Rattle.std.proofs.lemmas.List.{replicate-append-replicate, take-replicate}
use Rattle.std.specs.Io.KnownBytes.{Appends}
use Rattle.rom_fields.proofs.Joins.{appends_join}
use Rattle.image_build.proofs.padding.write_repeated.Goals as goal

pub loop-left-preserved : goal.loop-left-preserved
loop-left-preserved g c =
    let inv = c.loop-left.invariant in
    let b : ℕ = c.args.padding.byte in
    let n : ℕ = c.min-count.result in
    let done : ℕ = c.args.padding.len - c.loop-left.left in
    let P : List ℕ → Type 0 = λ xs. Appends (g.W.ByteWrite.output c.args.w.now).contents
    (g.W.ByteWrite.output c.write_whole.new.w).contents xs in
    let all : done + n ≡ c.args.padding.len - (c.loop-left.left - n) = omega arith in
    let bytes : replicate done b ++ take n (replicate 4096 b)
    ≡ replicate (c.args.padding.len - (c.loop-left.left - n)) b =
    ap (λ (v : List ℕ). replicate done b ++ v) (take-replicate n 4096 b (omega arith))
    ∙ replicate-append-replicate done n b ∙ ap (λ (k : ℕ). replicate k b) all in
    record {
      within = omega arith;
      wrote = c.in_ok-write_whole.ensures.count ∙ inv.wrote;
      gone = subst P bytes (appends_join _ _ _ _ _ inv.gone c.in_ok-write_whole.ensures.text);
    }

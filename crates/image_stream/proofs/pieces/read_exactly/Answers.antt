use Rattle.std.proofs.Common.{◌≡◌, ℕ, List, [], ◌∷◌, ◌++◌, ◌+◌, subst, ◌-◌, length, take, drop, ap, sym, ◌∙◌, arith}
use Rattle.std.proofs.Common.{length-drop, length-take}
use Rattle.std.proofs.lemmas.List.{drop-drop}
use Rattle.image_stream.specs.Sources.{content_of}
use Rattle.image_stream.specs.Answers.{answer, AreReads}
use Rattle.image_stream.proofs.Fills.{fill_step, front_step, length-put_rest}
use Rattle.image_stream.proofs.Answering.{logs_join, reads_one, reads_join}
use Rattle.image_stream.proofs.pieces.read_exactly.Goals as goal

pub loop-done-preserved : goal.loop-done-preserved
loop-done-preserved g c =
    let b = c.loop-done.buffer in
    let d = c.loop-done.done in
    let inv = c.loop-done.invariant in
    let len : length c.read_at.new.buf ≡ length b - d =
    c.read_at.auto.buf ∙ length-take (length b - d) (drop d b) ∙ omega (arith, length-drop d b) in
    let room = length-put_rest b c.read_at.new.buf d inv.within len in
    record {
      within = rw room (omega (arith, len, c.in-Ok.ensures.bound.0));
      room = room ∙ inv.room;
      known = c.read_at.ensures.known ∙ inv.known;
      files = c.read_at.ensures.files ∙ inv.files;
      names = c.read_at.ensures.names ∙ inv.names;
      quiet = c.in-Ok.ensures.count ∙ inv.quiet;
      logged =
          let r = inv.logged in
          let n = c.in-Ok.n in
          let xs = take d b in
          let ys = take n c.read_at.new.buf in
          let one = answer c.args.file (c.args.at + d) ys ∷ [] in
          let m : length xs ≡ d = length-take d b ∙ omega (arith, inv.within) in
          let A : ℕ → Type 0 = λ k. AreReads c.args.file (c.args.at + k) one ys in
          let B : List ℕ → Type 0 = λ v. AreReads c.args.file c.args.at (r.answers ++ one) v in
          record {
            answers = r.answers ++ one;
            are = subst B (sym (front_step b c.read_at.new.buf d n inv.within))
                (reads_join c.args.file c.args.at r.answers one xs ys r.are
                (subst A (sym m) (reads_one c.args.file (c.args.at + d) ys)));
            logged = logs_join (g.S.Sources.IsLog c.args.sources.now) (g.S.Sources.IsLog c.loop-done.sources)
                (g.S.Sources.IsLog c.read_at.new.self) r.answers one r.logged c.in-Ok.ensures.log;
          };
      read = λ cs is.
          let next = (c.in-Ok.ensures.bytes cs (inv.known ∙ is)).0 in
          fill_step b c.read_at.new.buf (drop c.args.at (content_of cs c.args.file)) d c.in-Ok.n inv.within
          (inv.read cs is)
          (next ∙ ap (take c.in-Ok.n) (sym (drop-drop d c.args.at (content_of cs c.args.file))));
    }

pub returns-in-Ok-eq0-clause-ok : goal.returns-in-Ok-eq0-clause-ok
returns-in-Ok-eq0-clause-ok g c = record {}

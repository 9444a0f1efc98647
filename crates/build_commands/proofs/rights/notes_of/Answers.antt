use Rattle.std.proofs.Common.{ℕ, List, Some, cond, take, drop, ◌+◌, refl, sym, ap, ◌∙◌}
use Rattle.std.proofs.lemmas.List.Elements.{All-more}
use Rattle.build_commands.specs.Noting.{are_equal, merged, noted}
use Rattle.build_commands.specs.Rights.{HasFile, file_at}
use Rattle.build_commands.proofs.Attributed.{has_file, noted_more, split_at}
use Rattle.build_commands.proofs.rights.notes_of.Goals as goal

pub returns-in_default-clause-refused : goal.returns-in_default-clause-refused
returns-in_default-clause-refused c = λ o. record {
  before = take c.loop-change.change-index c.args.changes.now;
  change = c.change-item.result;
  more = drop (c.loop-change.change-index + 1) c.args.changes.now;
  is = split_at c.args.changes.now c.loop-change.change-index c.change-item.result c.loop-change-test.true
      c.change-item.is;
  line = refl;
  there = c.loop-change.invariant.there o;
  none = ap (λ (p : List ℕ). file_at p c.args.found.now) (sym c.as_bytes.ensures.value) ∙ c.in_default.ensures.none o;
}

pub loop-change-preserved : goal.loop-change-preserved
loop-change-preserved c =
    let at = c.in-Some.ensures.at in
    record {
      noted = λ o. noted_more c.args.found.now c.args.changes.now c.loop-change.change-index c.in-Some.index
          c.change-item.result c.loop-change.notes c.note.new.notes c.index-found-index.result o c.loop-change-test.true
          c.change-item.is at.0 (λ d. at.1 d ∙ c.as_bytes.ensures.value) c.index-found-index.is
          (λ k. c.in_ok-note.ensures k
          ∙ ap (λ (key : ℕ × ℕ × ℕ). cond (are_equal key k) (Some (merged (noted c.loop-change.notes key)
          c.change-item.result.attributes)) (noted c.loop-change.notes k)) c.key_of.ensures)
          (c.loop-change.invariant.noted o);
      there = λ o. All-more (HasFile c.args.found.now) c.args.changes.now c.loop-change.change-index
          c.change-item.result c.loop-change-test.true (c.loop-change.invariant.there o)
          (has_file c.args.found.now c.in-Some.index c.change-item.result _ o at.0
          (λ d. at.1 d ∙ c.as_bytes.ensures.value) (sym c.change-item.is));
    }

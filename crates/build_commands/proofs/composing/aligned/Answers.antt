use Rattle.std.proofs.Common.{List, ℕ, [], ◌∷◌, ◌∙◌, ap, refl, subst}
use Rattle.build_commands.specs.Alignments.{aligned_all}
use Rattle.build_commands.specs.Composed.{Logs, aligned, owned_by}
use Rattle.build_commands.specs.declared.inventory.NamedFile.{NamedFile}
use Rattle.build_commands.proofs.composing.aligned.Goals as goal

pub returns-clause-aligned : goal.returns-clause-aligned
returns-clause-aligned g c =
    let owned = owned_by c.args.owner c.in-Ok.files.items in
    let aligns = c.in-Ok-alignments.aligns.items in (
      aligned owned aligns ∷ [],
      subst (λ (fs : List NamedFile). Logs (g.R.Readings.IsLog c.args.readings.now)
          (g.R.Readings.IsLog c.alignments.new.self) (aligned fs aligns ∷ []))
          (c.deref.ensures.value ∙ c.own.ensures.owned) c.in-Ok-alignments.ensures,
      record {
        laid = c.in-Ok.files.items;
        over = c.in-Ok.ensures.laid;
        aligns = aligns;
        read = refl;
        is = c.in_ok-align.ensures.aligned
            ∙ ap (λ (xs : List ℕ). aligned_all xs c.own.new.files.items) c.deref-2.ensures.value
            ∙ ap (λ (fs : List NamedFile). aligned_all aligns fs) c.own.ensures.owned;
      },
    )

use Rattle.std.proofs.Common.{◌≡◌, ◌<◌, ℕ, List, length, map, sym, ap, subst, ◌∙◌, arith}
use Rattle.rom_tree.specs.Image.{Image}
use Rattle.image_manifest.proofs.Lined.{all_short}
use Rattle.image_manifest.specs.ExtractedMembers.{members_in}
use Rattle.image_manifest.specs.declared.giving.Giving.{Giving}
use Rattle.image_manifest.proofs.Made.{all_fit, as_many_kinds, further_within, if_ok, some_fit}
use Rattle.tree_extract.specs.Choices.{kinds_chosen, kinds_of}
use Rattle.tree_extract.specs.declared.tree.Kind.{Kind}
use Rattle.image_manifest.proofs.kinds.kinds_made.Goals as goal

pub chosen-requires : goal.chosen-requires
chosen-requires g c = all_short (g.T.Viewed.image c.args.image.now) c.args.members.now c.requires.are

pub choose-requires-clause-all : goal.choose-requires-clause-all
choose-requires-clause-all g c =
    ap length c.deref-2.ensures.value ∙ c.in_ok-chosen.ensures.many
    ∙ sym (as_many_kinds (g.T.Viewed.image c.args.image.now) c.args.members.now c.in_ok-kinds.kinds.items c.requires.are
    c.in_ok-kinds.ensures) ∙ ap length (sym c.deref.ensures.value)

pub choose-requires-clause-further : goal.choose-requires-clause-further
choose-requires-clause-further g c =
    further_within (g.T.Viewed.image c.args.image.now) c.deref.result.now c.requires.lawful
    (λ giving. c.deref.ensures.value ∙ c.in_ok-kinds.ensures giving)

pub returns-then-is_empty-clause-fit : goal.returns-then-is_empty-clause-fit
returns-then-is_empty-clause-fit g c = λ giving.
    all_fit (g.T.Viewed.image c.args.image.now) c.in_ok-kinds.kinds.items giving c.requires.lawful c.in_ok-kinds.ensures

pub returns-clause-fit : goal.returns-clause-fit
returns-clause-fit g c =
    if_ok c.choose.result _ _ c.choose.ensures (λ v is giving. some_fit (g.T.Viewed.image c.args.image.now)
    c.deref.result.now v.items c.deref-2.result.now giving c.requires.lawful
    (λ other. c.deref.ensures.value ∙ c.in_ok-kinds.ensures other) is)

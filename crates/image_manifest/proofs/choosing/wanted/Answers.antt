use Rattle.std.proofs.Common.{◌≡◌, ◌+◌, ◌||◌, ◌∷◌, [], ℕ, Bool, List, length, ap, sym, ◌∙◌, subst, arith, map}
use Rattle.path_patterns.specs.declared.pattern.Piece.{Piece}
use Rattle.image_manifest.specs.declared.naming.Member.{Member}
use Rattle.image_manifest.specs.Chosen.{directory_at, is_chosen_by, is_named}
use Rattle.image_manifest.proofs.Wanted.{AreKnown, known_next, length_next, are_wanted}
use Rattle.image_manifest.proofs.choosing.wanted.Goals as goal

pub loop-index-init : goal.loop-index-init
loop-index-init c = (ap length c.new-found.ensures.items, λ j h. absurd (omega (arith, h)))

pub is_wanted-requires : goal.is_wanted-requires
is_wanted-requires c = record {
  within = c.loop-index-test.true;
  short = c.requires c.loop-index.index;
  earlier = ap length c.deref.ensures.value ∙ c.loop-index.invariant.0;
}

pub loop-index-preserved : goal.loop-index-preserved
loop-index-preserved c =
    let ps : List (List Piece) = map (λ p. p.items) c.args.patterns.now in
    let ms : List Member = c.args.members.now in
    let n : ℕ = c.loop-index.index in
    let i = c.loop-index.invariant in
    let P : List Bool → Type 0 = λ v. (length v ≡ n + 1) × AreKnown ps ms (n + 1) v in
    subst P (sym c.in_ok-push.ensures.items) (
      length_next c.loop-index.found.items c.in_ok-is_found.is_found n i.0,
      known_next ps ms n c.loop-index.found.items c.in_ok-is_found.is_found i.0 i.1
          (c.in_ok-is_found.ensures
          ∙ ap (λ (v : List Bool). is_named ps ms n || is_chosen_by v (directory_at ms n)) c.deref.ensures.value),
    )

pub returns : goal.returns
returns c =
    let ps : List (List Piece) = map (λ p. p.items) c.args.patterns.now in
    let ms : List Member = c.args.members.now in
    let all : c.loop-index.index ≡ length ms = omega (arith, c.loop-index.auto.index-end, c.loop-index-test.false) in
    are_wanted ps ms c.loop-index.found.items (c.loop-index.invariant.0 ∙ all)
    (subst (λ (n : ℕ). AreKnown ps ms n c.loop-index.found.items) all c.loop-index.invariant.1)

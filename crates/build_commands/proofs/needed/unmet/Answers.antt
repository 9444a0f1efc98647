use Rattle.std.proofs.Common.{◌≡◌, ◌<◌, ◌+◌, ℕ, List, [], ◌∷◌, ◌++◌, Bor, Option, None, option_map, map, refl, ap, sym}
use Rattle.std.proofs.Common.{subst, ◌∙◌, slice_index_or, arith, Vec, Global}
use Rattle.rom_tree.specs.Image.{Image}
use Rattle.rom_tree.specs.Tree.{IsShallow}
use Rattle.program_report.specs.Needs.{missing}
use Rattle.build_commands.specs.Needed.{those_there}
use Rattle.std.proofs.lemmas.List.{map-append}
use Rattle.build_commands.proofs.Unmet.{all_taken, if_there, more, none_added}
use Rattle.build_commands.proofs.needed.unmet.Goals as goal
use Rattle.build_commands.proofs.needed.unmet.Goals.{in-Some+in_ok-push, in_default}

pub loop-index-init : goal.loop-index-init
loop-index-init g c = record {
  same = refl;
  found = ap (λ (l : List (Bor (List ℕ))). map (λ n. n.now) l) c.new-unmet.ensures.items;
}

pub missing-requires : goal.missing-requires
missing-requires g c κs = (
  (refl, (refl, tt)),
  (
    subst (λ (m : Image). IsShallow m.tree) (sym c.loop-index.invariant.same) c.requires,
    subst (λ (n : ℕ). c.loop-index.index < n) c.count-index-end.ensures c.loop-index-test.true,
  ),
)

pub returns-in_err-push-clause-stays : goal.returns-in_err-push-clause-stays
returns-in_err-push-clause-stays g c = c.missing.ensures.stays ∙ c.loop-index.invariant.same

pub loop-index-preserved : goal.loop-index-preserved
loop-index-preserved g c =
    let m = g.T.Viewed.image c.args.image.now in
    let i = c.loop-index.index in
    let old : List (List ℕ) = map (λ n. n.now) c.loop-index.unmet.items in
    let is : option_map (λ t. t.now) c.missing.result ≡ slice_index_or (missing m c.args.needs.now) i None =
    c.missing.ensures.is
    ∙ ap (λ (x : Image). slice_index_or (missing x c.args.needs.now) i None) c.loop-index.invariant.same in
    record {
      same = c.missing.ensures.stays ∙ c.loop-index.invariant.same;
      found = more (missing m c.args.needs.now) i (i + 1) old
          (map (λ n. n.now) c.match-missing.unmet.items) (option_map (λ t. t.now) c.missing.result) (omega arith)
          c.loop-index.invariant.found is (elim c.match-missing.branch [
            | in-Some+in_ok-push w ↦
                ap (λ (v : Vec (Bor (List ℕ)) Global). map (λ n. n.now) v.items) w.unmet-is
                ∙ ap (λ (l : List (Bor (List ℕ))). map (λ n. n.now) l) w.in_ok-push.ensures.items
                ∙ map-append (λ n. n.now) c.loop-index.unmet.items (w.in-Some.name ∷ [])
                ∙ sym (ap (λ (o : Option (Bor (List ℕ))). old ++ if_there (option_map (λ t. t.now) o)) w.in-Some.is)
            | in_default w ↦
                ap (λ (v : Vec (Bor (List ℕ)) Global). map (λ n. n.now) v.items) w.unmet-is
                ∙ sym (none_added old)
                ∙ sym (ap (λ (o : Option (Bor (List ℕ))). old ++ if_there (option_map (λ t. t.now) o)) w.in_default.is)
          ]);
    }

pub returns-clause-unmet : goal.returns-clause-unmet
returns-clause-unmet g c =
    c.loop-index.invariant.found
    ∙ ap those_there (all_taken (g.T.Viewed.image c.args.image.now) c.args.needs.now c.loop-index.index
    (omega (arith, c.loop-index-test.false, c.count-index-end.ensures)))

pub returns-clause-stays : goal.returns-clause-stays
returns-clause-stays g c = c.loop-index.invariant.same

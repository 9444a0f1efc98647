use Rattle.std.proofs.Common.{◌≡◌, ◌+◌, ◌∷◌, [], ◌++◌, suc, ℕ, List, length, take, get_or, refl, sym, ap, ◌∙◌, arith}
use Rattle.std.proofs.Math.Seq.{take-suc, take-length}
use Rattle.rom_tree.specs.Image.{Image}
use Rattle.image_manifest.specs.ExtractedMembers.{members_in}
use Rattle.image_manifest.proofs.Known.{many}
use Rattle.tree_extract.specs.Choices.{kinds_of, kind_in}
use Rattle.tree_extract.specs.declared.tree.Kind.{Kind}
use Rattle.tree_extract.specs.declared.tree.Kind.TheVariants.{Directory}
use Rattle.tree_extract.proofs.Chosen.{length_kinds, kind_of_each}
use Rattle.image_manifest.proofs.kinds.all_kinds.Goals as goal

pub loop-index-init : goal.loop-index-init
loop-index-init g c = λ giving. c.new-kinds.ensures.items

pub loop-index-preserved : goal.loop-index-preserved
loop-index-preserved g c = λ giving.
    let m : Image = g.T.Viewed.image c.args.image.now in
    let all = members_in giving m in
    let ks : List Kind = kinds_of all in
    let n : ℕ = c.loop-index.index in
    let len = many giving m c.args.members.now c.requires in
    let long = length_kinds all in
    let next : suc n ≡ n + 1 = omega arith in
    c.in_ok-push.ensures.items ∙ ap (λ v. v ++ c.kind_of.result ∷ []) (c.loop-index.invariant giving)
    ∙ ap (λ (k : Kind). take n ks ++ k ∷ [])
    (c.kind_of.ensures giving ∙ sym (kind_of_each all n (omega (arith, len, c.loop-index-test.true))))
    ∙ sym (take-suc ks n Directory (omega (arith, len, long, c.loop-index-test.true)))
    ∙ ap (λ (k : ℕ). take k ks) next

pub returns : goal.returns
returns g c = λ giving.
    let m : Image = g.T.Viewed.image c.args.image.now in
    let all = members_in giving m in
    let len = many giving m c.args.members.now c.requires in
    let long = length_kinds all in
    let whole : c.loop-index.index ≡ length (kinds_of all) =
    omega (arith, len, long, c.loop-index.auto.index-end, c.loop-index-test.false) in
    c.loop-index.invariant giving ∙ ap (λ (k : ℕ). take k (kinds_of all)) whole ∙ take-length (kinds_of all)

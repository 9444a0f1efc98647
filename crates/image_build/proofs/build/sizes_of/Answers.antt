use Rattle.std.proofs.Common.{List, ℕ, map, length, take, sym, ap, ◌∙◌, ◌++◌, ◌∷◌, []}
use Rattle.std.proofs.lemmas.List.{take_more, map-append}
use Rattle.image_build.proofs.build.sizes_of.Goals as goal

pub loop-file-preserved : goal.loop-file-preserved
loop-file-preserved c =
    let cs = c.args.contents.now in
    let i = c.loop-file.file in
    let x = c.in-Some.content.now in
    c.in_ok-push.ensures.items ∙ ap (λ (s : List ℕ). s ++ length x ∷ []) c.loop-file.invariant
    ∙ sym (map-append length (take i cs) (x ∷ []))
    ∙ ap (map length) (sym (take_more cs i [] c.in-Some.ensures.0
    ∙ ap (λ y. take i cs ++ y ∷ []) (sym c.in-Some.ensures.1)))

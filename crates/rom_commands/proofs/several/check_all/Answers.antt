use Rattle.std.proofs.Common.{◌≡◌, ℕ, ◌-◌, ◌≤◌, List, [], ◌∷◌, ◌++◌, length, map, take, drop, sym, ap, ◌∙◌, subst}
use Rattle.std.proofs.Common.{arith, rules, Vec, Global}
use Rattle.std.proofs.lemmas.List.{length-map, map-append}
use Rattle.rom_tree.specs.Image.{Image}
use Rattle.image_check.specs.Any.{any_view}
use Rattle.lookups.specs.Inner.{inner}
use Rattle.path_walk.specs.Graft.{AreShallow}
use Rattle.rom_commands.specs.Serving.{HoldAll}
use Rattle.rom_commands.proofs.Holding.{few_held, head_rest, one_further, first_by, held_more, shallow_more}
use Rattle.rom_commands.proofs.several.check_all.Goals as goal

pub overflow_cast-len : goal.overflow_cast-len
overflow_cast-len c =
    let i = c.loop-rest.invariant in
    let k : length (map (λ x. any_view (inner x)) c.loop-rest.images.items) ≤ 8 =
    few_held (λ f. f.items) c.args.files.now i.done (map (λ f. f.items) c.loop-rest.rest.now)
    (map (λ x. any_view (inner x)) c.loop-rest.images.items) c.requires i.split i.held in
    let l = length-map c.loop-rest.images.items (λ x. any_view (inner x)) in
    search (rules, arith)

pub returns-in-Err-clause-fault : goal.returns-in-Err-clause-fault
returns-in-Err-clause-fault c =
    let i = c.loop-rest.invariant in
    let f : Vec ℕ Global → List ℕ = λ v. v.items in
    let xs : List (Vec ℕ Global) = c.loop-rest.rest.now in
    let left : List (List ℕ) = map f (take (length xs - 1) (drop 1 xs)) in
    let first : map f xs ≡ c.as_slice.result.now ∷ left =
    ap (map f) (head_rest xs c.file-item.result c.in-len1-up.len_at_least c.file-item.is)
    ∙ ap (λ v. v ∷ left) (sym c.as_slice.ensures.value) in
    let held : c.len.result ≡ length c.loop-rest.images.items = search rules in
    let count : c.len.result ≡ length (map (λ x. any_view (inner x)) c.loop-rest.images.items) =
    held ∙ sym (length-map c.loop-rest.images.items (λ x. any_view (inner x))) in
    first_by (map f c.args.files.now) i.done (map f xs) left c.as_slice.result.now
    (map (λ x. any_view (inner x)) c.loop-rest.images.items) c.len.result c.in-Err.e i.split first i.held count
    (c.in-Err.ensures).fault

pub loop-rest-preserved : goal.loop-rest-preserved
loop-rest-preserved c =
    let i = c.loop-rest.invariant in
    let f : Vec ℕ Global → List ℕ = λ v. v.items in
    let xs : List (Vec ℕ Global) = c.loop-rest.rest.now in
    let left : List (List ℕ) = map f (take (length xs - 1) (drop 1 xs)) in
    let first : map f xs ≡ c.as_slice.result.now ∷ left =
    ap (map f) (head_rest xs c.file-item.result c.in-len1-up.len_at_least c.file-item.is)
    ∙ ap (λ v. v ∷ left) (sym c.as_slice.ensures.value) in
    let found : List Image = map (λ x. any_view (inner x)) c.loop-rest.images.items in
    let more : map (λ x. any_view (inner x)) c.push.new.self.items ≡ found ++ any_view c.in-Ok.image ∷ [] =
    ap (map (λ x. any_view (inner x))) c.in-Ok-push.ensures.items
    ∙ map-append (λ x. any_view (inner x)) c.loop-rest.images.items (c.new.result ∷ [])
    ∙ ap (λ v. found ++ any_view v ∷ []) c.new.ensures in
    let P : List Image → Type 0 = λ v. HoldAll (i.done ++ c.as_slice.result.now ∷ []) v in
    record {
      done = i.done ++ c.as_slice.result.now ∷ [];
      split = one_further (map f c.args.files.now) i.done (map f xs) left c.as_slice.result.now i.split first;
      held = subst P (sym more) (held_more i.done found c.as_slice.result.now
          (any_view c.in-Ok.image) i.held c.in-Ok.ensures.held);
      shallow =
          subst AreShallow (sym more) (shallow_more found (any_view c.in-Ok.image) i.shallow c.in-Ok.ensures.shallow);
    }

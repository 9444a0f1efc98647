use Rattle.std.proofs.Common.{◌≡◌, ◌-◌, ◌<◌, [], ◌∷◌, ℕ, suc, length, get_or, drop, map, replicate, sym, ap, ◌∙◌, arith}
use Rattle.std.specs.Prelude.{reverse}
use Rattle.std.proofs.Math.Seq.{drop-cons}
use Rattle.std.proofs.lemmas.List.{reverse-append, length-set}
use Rattle.rom_tree.specs.declared.types.Kind.TheVariants as kind
use Rattle.plan_rows.specs.declared.row.Bytes.TheVariants as bytes
use Rattle.plan_rows.specs.declared.row.Row as code
use Rattle.plan_rows.specs.declared.row.What.TheVariants as what
use Rattle.plan_rows.specs.Rows.{row_view}
use Rattle.romfs_plan.specs.Passes.{heads_of, heads_with, places_of, placed}
use Rattle.romfs_plan.proofs.passes.linked.Goals as goal

abbrev no_row : code.Row
no_row = record {
  depth = 0;
  name = record { ref_ptr = (0, 0); now = [] };
  what = what.Leaf;
  inode = record {
    line = 0;
    kind = kind.Directory;
    mode = 0;
    uid = 0;
    gid = 0;
    major = 0;
    minor = 0;
    align = 0;
    size = 0;
    bytes = bytes.Nothing;
  };
}

pub loop-i-preserved : goal.loop-i-preserved
loop-i-preserved c =
    let rs = c.args.rows.now in
    let ps = c.args.places.now in
    let hs = c.loop-i.heads in
    let i = c.loop-i.i - 1 in
    let r = get_or rs i no_row in
    let p = get_or ps i 0 in
    let t = c.loop-i-test.true in
    let a = c.loop-i.auto.i in
    let n = c.requires.places in
    let next : suc i ≡ c.loop-i.i = omega arith in
    let here : i < length rs = omega arith in
    let there : i < length ps = omega arith in
    let rows : drop i rs ≡ r ∷ drop c.loop-i.i rs = drop-cons rs i no_row here ∙ ap (λ k. r ∷ drop k rs) next in
    let places : drop i ps ≡ p ∷ drop c.loop-i.i ps = drop-cons ps i 0 there ∙ ap (λ k. p ∷ drop k ps) next in
    record {
      many = length-set _ _ _ ∙ length-set _ _ _ ∙ c.loop-i.invariant.many;
      heads = ap (λ v. heads_with v (row_view r) p) c.loop-i.invariant.heads
          ∙ sym (λ j. heads_of (replicate {A = ℕ} 66 0) (map row_view (rows j)) (places j));
      found = ap reverse c.in_ok-push.ensures.items
          ∙ reverse-append c.loop-i.found.items (placed hs (row_view r) p ∷ [])
          ∙ ap (λ v. placed hs (row_view r) p ∷ v) c.loop-i.invariant.found
          ∙ ap (λ v. placed v (row_view r) p
          ∷ places_of (replicate {A = ℕ} 66 0) (map row_view (drop c.loop-i.i rs))
          (drop c.loop-i.i ps)) c.loop-i.invariant.heads
          ∙ sym (λ j. places_of (replicate {A = ℕ} 66 0) (map row_view (rows j)) (places j));
    }

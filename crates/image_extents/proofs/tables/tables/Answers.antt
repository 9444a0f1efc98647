use Rattle.std.proofs.Common.{◌≡◌, ◌∙◌, ◌-◌, ◌<◌, ◌∷◌, ℕ, suc, List, Option, None, Some, ap, sym, length, arith}
use Rattle.std.proofs.Common.{drop, get_or}
use Rattle.std.specs.BTreeMap.{get}
use Rattle.image_extents.specs.declared.extent.Record.{Record}
use Rattle.image_extents.specs.Found.{table_in}
use Rattle.image_extents.specs.Tables.{first_with, nexts, pair_cmp}
use Rattle.image_extents.proofs.Sharing.{drop_at, drop_set, first_more, first_other, length_set, next_more}
use Rattle.image_extents.proofs.Sharing.{next_other, set_other}
use Rattle.image_extents.proofs.tables.tables.Goals as goal

abbrev none : Record
none = record { offset = 0; name = 0; length = 0; directory = 0 }

pub loop-number-preserved-in_ok-insert : goal.loop-number-preserved-in_ok-insert
loop-number-preserved-in_ok-insert c =
    let o = c.args.order in
    let b : List ℕ = c.args.b.now in
    let T : Record → Option (ℕ × ℕ) = table_in o b in
    let rs : List Record = c.args.records.now in
    let ns : List (Option ℕ) = c.loop-number.next.items in
    let n : ℕ = c.loop-number.number in
    let k : ℕ = n - 1 in
    let u : ℕ × ℕ = c.in-Some.table in
    let v : Option ℕ = c.copied.result in
    let x : Record = get_or rs k none in
    let test = c.loop-number-test.true in
    let low = c.loop-number.invariant.low in
    let len = c.loop-number.invariant.len in
    let z : n ≡ suc k = omega (arith, test) in
    let inside : k < length rs = omega (arith, test, low) in
    let there : k < length ns = omega (arith, inside, len) in
    let e : T x ≡ Some u = sym c.table_at.ensures ∙ c.in-Some.is in
    let was : (t : ℕ × ℕ) → get pair_cmp c.loop-number.first t ≡ first_with T t (suc k) (drop (suc k) rs) =
    λ t. c.loop-number.invariant.first t ∙ ap (λ (m : ℕ). first_with T t m (drop m rs)) z in
    let later : drop (suc k) ns ≡ nexts T (suc k) (drop (suc k) rs) =
    sym (ap (λ (m : ℕ). drop m ns) z) ∙ c.loop-number.invariant.next ∙ ap (λ (m : ℕ). nexts T m (drop m rs)) z in
    let found : v ≡ first_with T u (suc k) (drop (suc k) rs) = c.copied.ensures ∙ c.get.ensures.value ∙ was u in
    let split : drop k rs ≡ x ∷ drop (suc k) rs = drop_at rs k none inside in
    record {
      low = omega (arith, low);
      first = λ t. first_more T u t k x (drop (suc k) rs) (get pair_cmp c.loop-number.first t)
          (get pair_cmp c.insert.new.self t) e (was t) (c.in_ok-insert.ensures.updates.0 t)
          ∙ ap (first_with T t k) (sym split);
      next = drop_set ns k v there ∙ next_more T u k x (drop (suc k) rs) v (drop (suc k) ns) e found later
          ∙ ap (nexts T k) (sym split);
      len = length_set ns k v ∙ len;
      none = λ i m. set_other ns k i v None m ∙ c.loop-number.invariant.none i (omega (arith, m));
    }

pub loop-number-preserved : goal.loop-number-preserved
loop-number-preserved c =
    let o = c.args.order in
    let b : List ℕ = c.args.b.now in
    let T : Record → Option (ℕ × ℕ) = table_in o b in
    let rs : List Record = c.args.records.now in
    let ns : List (Option ℕ) = c.loop-number.next.items in
    let n : ℕ = c.loop-number.number in
    let k : ℕ = n - 1 in
    let x : Record = get_or rs k none in
    let test = c.loop-number-test.true in
    let low = c.loop-number.invariant.low in
    let len = c.loop-number.invariant.len in
    let z : n ≡ suc k = omega (arith, test) in
    let inside : k < length rs = omega (arith, test, low) in
    let there : k < length ns = omega (arith, inside, len) in
    let e : T x ≡ None = sym c.table_at.ensures ∙ c.in_default.is in
    let was : (t : ℕ × ℕ) → get pair_cmp c.loop-number.first t ≡ first_with T t (suc k) (drop (suc k) rs) =
    λ t. c.loop-number.invariant.first t ∙ ap (λ (m : ℕ). first_with T t m (drop m rs)) z in
    let later : drop (suc k) ns ≡ nexts T (suc k) (drop (suc k) rs) =
    sym (ap (λ (m : ℕ). drop m ns) z) ∙ c.loop-number.invariant.next ∙ ap (λ (m : ℕ). nexts T m (drop m rs)) z in
    let split : drop k rs ≡ x ∷ drop (suc k) rs = drop_at rs k none inside in
    let nothing : drop k ns ≡ None ∷ drop (suc k) ns =
    drop_at ns k None there ∙ ap (λ (w : Option ℕ). w ∷ drop (suc k) ns)
    (c.loop-number.invariant.none k (omega (arith, z))) in
    record {
      low = omega (arith, low);
      first = λ t. was t ∙ first_other T t k x (drop (suc k) rs) e ∙ ap (first_with T t k) (sym split);
      next = nothing ∙ next_other T k x (drop (suc k) rs) (drop (suc k) ns) e later ∙ ap (nexts T k) (sym split);
      len = len;
      none = λ i m. c.loop-number.invariant.none i (omega (arith, m));
    }

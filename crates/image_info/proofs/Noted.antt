-- What a map says of the bytes of nodes, if one more is noted.
use Rattle.std.proofs.Common.{◌≡◌, ℕ, Bool, true, false, cond, Option, Some, IfSome, refl, sym, ap, subst}
use Rattle.std.proofs.lemmas.Bool.{true≢false}
use Rattle.std.proofs.lemmas.Map.Lookups.{CmpEqualImpliesEq, exact_pairs, exact_unsigned}
use Rattle.std.specs.Ordering.{is_eq, nat_cmp}
use Rattle.std.specs.declared.cmp.Ordering.{Ordering}
use Rattle.std.specs.declared.cmp.Ordering.TheVariants.{Less, Equal, Greater}
use Rattle.std.specs.BTreeMap.{BTreeMap, Updates, get, is_at}
use Rattle.image_info.specs.Data.{data_cmp}

level : (o : Ordering) → is_eq o ≡ true → o ≡ Equal
level Less e = absurd (true≢false (sym e))
level Equal e = refl
level Greater e = absurd (true≢false (sym e))

-- what compares as equal is equal
pub exact_data : CmpEqualImpliesEq data_cmp
exact_data a b e =
    ap (λ (p : ℕ × ℕ). record { start = p.0; size = p.1 })
    (exact_pairs nat_cmp nat_cmp exact_unsigned exact_unsigned (a.start, a.size) (b.start, b.size) e)

-- if each value of a map is right, and the new one is, then each of the new map is
pub still_right : {K X : Type 0} (cmp : K → K → Ordering) → CmpEqualImpliesEq cmp → (Q : K → X → Type 0)
    (old new : BTreeMap K X) (d : K) (v : X) → ((q : K) → IfSome (get cmp old q) (Q q))
    → Updates cmp old new d (Some v) → Q d v → (q : K) → IfSome (get cmp new q) (Q q)
still_right {K} {X} cmp exact Q old new d v h u w q =
    let P : Option X → Type 0 = λ o. IfSome o (Q q) in
    subst P (sym (u.0 q)) (by_key (is_at (cmp d) q) refl)
  where
    by_key : (b : Bool) → is_at (cmp d) q ≡ b → IfSome (cond b (Some v) (get cmp old q)) (Q q)
    by_key true e = subst (λ k. Q k v) (exact d q (level (cmp d q) e)) w
    by_key false e = h q

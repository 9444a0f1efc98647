-- Entries in order are names in order.
use Rattle.std.proofs.Common.{◌≡◌, ℕ, ◌+◌, false, List, [], ◌∷◌, get_or, subst, sym, arith, string_bytes}
use Rattle.std.specs.Cmp.Lexicographic.{slice_cmp}
use Rattle.std.specs.List.Sorted.{IsSortedByKey}
use Rattle.std.specs.Ordering.{nat_cmp, is_lt}
use Rattle.std.proofs.lemmas.List.{length-map, get_or-map}
use Rattle.directory_walk.specs.Trees.{Name, name, AreInOrder}
use Rattle.directory_walk.specs.Views.{names_of}
use Rattle.directory_walk.specs.declared.lister.Entry.{Entry}

abbrev pub entry_path : {T : Type 0} → Entry T → List ℕ
entry_path e = string_bytes e.path

abbrev pub entry_name : {T : Type 0} → Entry T → Name T
entry_name e = name (string_bytes e.path) e.known e.is_entered

pub in_order : {T : Type 0} (es : List (Entry T))
    → IsSortedByKey (λ (e : Entry T). entry_path e) (slice_cmp nat_cmp) es → AreInOrder (names_of es)
in_order [] up = λ k d low high. absurd (omega (arith, high))
in_order {T} (e ∷ es) up = λ k d low high.
    let all : List (Entry T) = e ∷ es in
    let f : Entry T → Name T = λ x. entry_name x in
    let l = length-map all f in
    let here : get_or (names_of all) k d ≡ f (get_or all k e) = get_or-map f all k e d (omega (arith, high, l)) in
    let next : get_or (names_of all) (k + 1) d ≡ f (get_or all (k + 1) e) = get_or-map f all (k + 1) e d
    (omega (arith, high, l)) in
    subst (λ (v : Name T). is_lt (slice_cmp nat_cmp v.path (get_or (names_of all) k d).path) ≡ false) (sym next)
    (subst (λ (v : Name T). is_lt (slice_cmp nat_cmp (entry_path (get_or all (k + 1) e)) v.path) ≡ false) (sym here)
    (up k e low (omega (arith, high, l))))

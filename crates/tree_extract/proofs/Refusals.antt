-- The wrong runs are refused.
use Rattle.std.proofs.Common.{◌≡◌, ◌≢◌, inl, inr, ℕ, List, [], ◌∷◌, ◌++◌, Option}
use Rattle.std.proofs.Common.{refl, sym, ◌∙◌, ap, subst, arith}
use Rattle.tree_extract.specs.Paths.{IsName, IsPlain, path_of}
use Rattle.tree_extract.specs.Members.{Member, AreMembers, kind_at, path_at, rights_at}
use Rattle.tree_extract.specs.Log.{Call, MakeDirectory, MakeFile, FinishFile, MakeName}
use Rattle.tree_extract.specs.Log.{MakeSymlink, Event, Did, Refused, call_of, Has, HasAfter}
use Rattle.tree_extract.specs.Safe.{AreSafe, IsSafe, IsNew, MakesOther}
use Rattle.tree_extract.specs.Extracted.{IsMadeAs, IsWhole}
use Rattle.tree_extract.specs.declared.tree.Kind.{Kind}
use Rattle.tree_extract.specs.declared.tree.Kind.TheVariants as kind
use Rattle.tree_extract.specs.declared.tree.Owner.{Owner}
use Rattle.tree_extract.specs.declared.tree.Rights.{Rights}
use Rattle.tree_extract.specs.WrongRuns.{RefusesCall, link_followed, led_outside, made_twice}
use Rattle.tree_extract.specs.WrongRuns.{RefusesLeftOut, RefusesForeign, RefusesRightsFirst}
use Rattle.tree_extract.specs.WrongRuns.{RefusesOtherRights}

pub through_link : (link text rest : List ℕ) (owner : Option Owner) → RefusesCall (link_followed link text owner rest)
through_link link text rest owner log safe = safe.0.inside.misses.0 (rest, refl)

pub twice : (path text : List ℕ) (owner : Option Owner) → RefusesCall (made_twice path text owner)
twice path text owner log safe = safe.0.fresh.0 refl

-- ---- `..` is no name

head_is : (a b : ℕ) (xs ys : List ℕ) → a ∷ xs ≡ b ∷ ys → a ≡ b
head_is a b xs ys is = cc

tail_is : (a b : ℕ) (xs ys : List ℕ) → a ∷ xs ≡ b ∷ ys → xs ≡ ys
tail_is a b xs ys is = cc

-- what follows a name begins with a slash, or is nothing
follows : (names : List (List ℕ)) (b : ℕ) (rest : List ℕ) → path_of names ≡ b ∷ rest → b ≡ 47
follows [] b rest is = absurd (cc)
follows (name ∷ names) b rest is = sym (head_is 47 b (name ++ path_of names) rest is)

no_dots : (name : List ℕ) (names : List (List ℕ)) (rest : List ℕ) → IsName name
    → name ++ path_of names ≡ 46 ∷ 46 ∷ 47 ∷ rest → ⊥
no_dots [] names rest ok is = ok.some refl
no_dots (a ∷ []) names rest ok is =
    absurd (omega (arith, follows names 46 (47 ∷ rest) (tail_is a 46 (path_of names) _ is)))
no_dots (a ∷ b ∷ []) names rest ok is =
    let second = tail_is a 46 _ _ is in
    ok.no_dots (ap (λ (x : ℕ). x ∷ b ∷ []) (head_is a 46 _ _ is)
    ∙ ap (λ (x : ℕ). 46 ∷ x ∷ []) (head_is b 46 _ _ second))
no_dots (a ∷ b ∷ c ∷ bytes) names rest ok is =
    ok.bytes.1.1.0.0 (head_is c 47 _ _ (tail_is b 46 _ _ (tail_is a 46 _ _ is)))

pub outside : (rest : List ℕ) → RefusesCall (led_outside rest)
outside rest log safe =
    let plain : IsPlain (47 ∷ 46 ∷ 46 ∷ 47 ∷ rest) = safe.0.inside.plain in
    no_dots plain.first plain.others rest plain.first_name
    (sym (tail_is 47 47 (46 ∷ 46 ∷ 47 ∷ rest) (plain.first ++ path_of plain.others) plain.is))

-- ---- what was left out

new_has : (log : List Event) (c : Call) (q : List ℕ) → IsNew log q → Has log (Did c) → MakesOther c q
new_has [] c q fresh has = absurd has
new_has (Did d ∷ log) c q fresh (inl is) = subst (λ e. MakesOther (call_of e) q) (sym is) fresh.0
new_has (Did d ∷ log) c q fresh (inr has) = new_has log c q fresh.1 has
new_has (Refused d ∷ log) c q fresh (inl is) = absurd (cc)
new_has (Refused d ∷ log) c q fresh (inr has) = new_has log c q fresh has

-- a file that was finished was made
finished_made : (log : List Event) (p : List ℕ) (contents : Option (List ℕ)) (rights : Rights) → AreSafe log
    → Has log (Did (FinishFile p contents rights)) → Has log (Did (MakeFile p))
finished_made [] p contents rights safe has = absurd has
finished_made (e ∷ log) p contents rights safe (inl is) =
    let before : (older : List Event) × (log ≡ Did (MakeFile p) ∷ older) =
    subst (λ x. IsSafe log (call_of x)) (sym is) safe.0 in
    inr (subst (λ (l : List Event). Has l (Did (MakeFile p))) (sym before.1) (inl refl))
finished_made (e ∷ log) p contents rights safe (inr has) = inr (finished_made log p contents rights safe.1 has)

no_whole : (known : Option (List ℕ)) (log : List Event) (q bytes : List ℕ) (rights : Rights) → AreSafe log
    → IsNew log q → IsWhole known log q bytes rights → ⊥
no_whole known log q bytes rights safe fresh whole =
    new_has log (MakeFile q) q fresh (finished_made log q whole.0 rights safe whole.2) refl

was_there : (log : List Event) (x before : Event) → HasAfter log x before → Has log x
was_there [] x before has = absurd has
was_there (e ∷ log) x before (inl is) = inl is.0
was_there (e ∷ log) x before (inr has) = inr (was_there log x before has)

none_made : (known : Option (List ℕ)) (ms : List Member) (i : ℕ) (log : List Event) (k : Kind) → k ≢ kind.Nothing
    → AreSafe log → IsNew log (path_at ms i) → IsMadeAs known ms i log k → ⊥
none_made known ms i log kind.Directory some safe fresh made = new_has log (MakeDirectory _) _ fresh made refl
none_made known ms i log kind.File some safe fresh made = no_whole known log _ _ _ safe fresh made
none_made known ms i log (kind.Further first) some safe fresh (inl made) =
    new_has log (MakeName _ _) _ fresh made refl
none_made known ms i log (kind.Further first) some safe fresh (inr made) =
    no_whole known log _ _ _ safe fresh (made.0, made.1, was_there log _ _ made.2)
none_made known ms i log kind.Symlink some safe fresh made = new_has log (MakeSymlink _ _ _) _ fresh made refl
none_made known ms i log kind.Nothing some safe fresh made = some refl

pub left_out : RefusesLeftOut
left_out known ms i log lt some safe fresh it =
    none_made known ms i log (kind_at ms i) some safe fresh (it.made i lt)

pub foreign : RefusesForeign
foreign known ms path log other of = other of.0.0 of.0.1 of.0.2.0

pub rights : RefusesRightsFirst
rights known ms path directory given log it = absurd (cc)

pub other_rights : RefusesOtherRights
other_rights known contents ms i given log members lt other of =
    let made = of.0 in
    let same : i ≡ made.0 = members.distinct i made.0 lt made.1 made.2.0 in
    other (made.2.2 ∙ ap (rights_at ms) (sym same))

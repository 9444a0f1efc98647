-- Logs that grow, and what holds at each moment.
use Rattle.std.proofs.Common.{◌≡◌, List, [], ◌∷◌, ◌++◌, Option, Some, None, IfSome, IfNone, refl, sym, ◌∙◌, ap, subst}
use Rattle.atomic_file.specs.Log.{Event, Knows, EachMoment, Throughout}
use Rattle.atomic_file.specs.Runs.{AreAll, Adds}

pub assoc : (xs ys zs : List Event) → (xs ++ ys) ++ zs ≡ xs ++ (ys ++ zs)
assoc [] ys zs = refl
assoc (x ∷ xs) ys zs = ap (λ (l : List Event). x ∷ l) (assoc xs ys zs)

pub adds_none : (P : Event → Type 0) (log : List Event) → Adds P log log
adds_none P log = ([], refl, tt)

pub adds_one : (P : Event → Type 0) (e : Event) (old log new : List Event) → P e → new ≡ e ∷ log → Adds P old log
    → Adds P old new
adds_one P e old log new is whole (later, before, all) =
    (e ∷ later, whole ∙ ap (λ (l : List Event). e ∷ l) before, (is, all))

all_both : (P : Event → Type 0) (xs ys : List Event) → AreAll P xs → AreAll P ys → AreAll P (xs ++ ys)
all_both P [] ys all others = others
all_both P (x ∷ xs) ys all others = (all.0, all_both P xs ys all.1 others)

pub adds_both : (P : Event → Type 0) (a b c : List Event) → Adds P a b → Adds P b c → Adds P a c
adds_both P a b c (first, is, all) (second, is2, all2) = (
  second ++ first,
  is2 ∙ ap (λ (l : List Event). second ++ l) is ∙ sym (assoc second first a),
  all_both P second first all2 all,
)

pub knows_more : (P : Event → Type 0) (e : Event) (a b c : List Event) → Knows e a b → Adds P b c → Knows e a c
knows_more P e a b c (newer, older, is) (later, is2, all) = (
  later ++ newer,
  older,
  is2 ∙ ap (λ (l : List Event). later ++ l) is ∙ sym (assoc later newer (e ∷ (older ++ a))),
)

pub knows_after : (P : Event → Type 0) (e : Event) (a b c : List Event) → Adds P a b → Knows e b c → Knows e a c
knows_after P e a b c (later, is, all) (newer, older, is2) = (
  newer,
  older ++ later,
  is2 ∙ ap (λ (l : List Event). newer ++ (e ∷ l)) (ap (λ (l : List Event). older ++ l) is ∙ sym (assoc older later a)),
)

each_both : (P : List Event → Type 0) (second first old : List Event) → EachMoment P second (first ++ old)
    → EachMoment P first old → EachMoment P (second ++ first) old
each_both P [] first old moments before = before
each_both P (e ∷ second) first old moments before = (
  subst P (ap (λ (l : List Event). e ∷ l) (sym (assoc second first old))) moments.0,
  each_both P second first old moments.1 before,
)

pub throughout_both : (P : List Event → Type 0) (a b c : List Event) → Throughout P a b → Throughout P b c
    → Throughout P a c
throughout_both P a b c (first, is, moments) (second, is2, moments2) = (
  second ++ first,
  is2 ∙ ap (λ (l : List Event). second ++ l) is ∙ sym (assoc second first a),
  each_both P second first a (subst (EachMoment P second) is moments2) moments,
)

each_map : (P Q : List Event → Type 0) (later old : List Event) → ((log : List Event) → P log → Q log)
    → EachMoment P later old → EachMoment Q later old
each_map P Q [] old map moment = map old moment
each_map P Q (e ∷ later) old map moments =
    (map (e ∷ (later ++ old)) moments.0, each_map P Q later old map moments.1)

pub throughout_map : (P Q : List Event → Type 0) (a b : List Event) → ((log : List Event) → P log → Q log)
    → Throughout P a b → Throughout Q a b
throughout_map P Q a b map (later, is, moments) = (later, is, each_map P Q later a map moments)

pub throughout_last : (P : List Event → Type 0) (a b : List Event) → Throughout P a b → P b
throughout_last P a b ([], is, moment) = subst P (sym is) moment
throughout_last P a b (e ∷ later, is, moments) = subst P (sym is) moments.0

pub throughout_first : (P : List Event → Type 0) (a b : List Event) → Throughout P a b → P a
throughout_first P a b (later, is, moments) = first later moments
  where
    first : (xs : List Event) → EachMoment P xs a → P a
    first [] moment = moment
    first (e ∷ xs) moments = first xs moments.1

pub some_holds : {A : Type 0} (P : A → Type 0) (o : Option A) (a : A) → o ≡ Some a → IfSome o P → P a
some_holds P o a is holds = subst (λ x. IfSome x P) is holds

pub none_holds : {A : Type 0} (P : Type 0) (o : Option A) → o ≡ None → IfNone o P → P
none_holds P o is holds = subst (λ x. IfNone x P) is holds

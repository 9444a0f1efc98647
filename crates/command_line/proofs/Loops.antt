-- What a loop over words or rows adds at each turn.
use Rattle.std.proofs.Common.{◌≡◌, ℕ, ◌+◌, ◌<◌, ◌≤◌, List, [], ◌∷◌, ◌++◌, length, map, take, drop, get_or, refl, sym}
use Rattle.std.proofs.Common.{ap, ◌∙◌, suc, zero, slice_index, arith, append_assoc}
use Rattle.std.proofs.lemmas.List.{append-nil}
use Rattle.std.specs.Borrow.{Bor}
use Rattle.std.proofs.lemmas.List.{take_more, map-append, take-append-drop}
use Rattle.std.proofs.Math.Seq.{drop-cons}
use Rattle.clap.specs.Words.{App, Rule, Shape, with_rule, with_subcommand}
use Rattle.command_line.specs.Commands.{with_rules, with_shapes}
use Rattle.command_line.specs.Table.{rule_named, shape_named}
use Rattle.command_line.specs.declared.table.Word.{Word}
use Rattle.command_line.specs.declared.table.Subcommand.{Subcommand}

rules_push : (a : App) (rs : List Rule) (r : Rule) → with_rules a (rs ++ r ∷ []) ≡ with_rule (with_rules a rs) r
rules_push a [] r = refl
rules_push a (q ∷ rs) r = rules_push (with_rule a q) rs r

shapes_push : (a : App) (ss : List Shape) (s : Shape)
    → with_shapes a (ss ++ s ∷ []) ≡ with_subcommand (with_shapes a ss) s
shapes_push a [] s = refl
shapes_push a (q ∷ ss) s = shapes_push (with_subcommand a q) ss s

-- a map of the first items, and of one more
pub map_more : {X Y : Type 0} (f : X → Y) (xs : List X) (i : ℕ) (d : X) → i < length xs
    → map f (take (i + 1) xs) ≡ map f (take i xs) ++ f (get_or xs i d) ∷ []
map_more f xs i d h = ap (map f) (take_more xs i d h) ∙ map-append f (take i xs) (get_or xs i d ∷ [])

pub next_rule : (a : App) (ws : List Word) (i : ℕ) (d : Word) → i < length ws
    → with_rules a (map rule_named (take (i + 1) ws))
    ≡ with_rule (with_rules a (map rule_named (take i ws))) (rule_named (get_or ws i d))
next_rule a ws i d h = ap (with_rules a) (map_more rule_named ws i d h)
    ∙ rules_push a (map rule_named (take i ws)) (rule_named (get_or ws i d))

pub next_shape : (a : App) (rows : List Subcommand) (i : ℕ) (d : Subcommand) → i < length rows
    → with_shapes a (map shape_named (take (i + 1) rows))
    ≡ with_subcommand (with_shapes a (map shape_named (take i rows))) (shape_named (get_or rows i d))
next_shape a rows i d h = ap (with_shapes a) (map_more shape_named rows i d h)
    ∙ shapes_push a (map shape_named (take i rows)) (shape_named (get_or rows i d))

successor : (i : ℕ) → suc i ≡ i + 1
successor i = omega arith

-- a list at the place of one of its items
pub parted : (xs : List ℕ) (i a : ℕ) → i < length xs → get_or xs i 0 ≡ a
    → xs ≡ take i xs ++ a ∷ drop (i + 1) xs
parted xs i a h e =
    sym (take-append-drop i xs)
    ∙ ap (λ (ys : List ℕ). take i xs ++ ys)
    (drop-cons xs i 0 h ∙ ap (λ (x : ℕ). x ∷ drop (suc i) xs) e
    ∙ ap (λ (n : ℕ). a ∷ drop n xs) (successor i))

-- all items of a list
pub whole : {X : Type 0} (xs : List X) (i : ℕ) → length xs ≤ i → take i xs ≡ xs
whole [] zero h = refl
whole [] (suc i) h = refl
whole (x ∷ xs) zero h = absurd (omega arith)
whole (x ∷ xs) (suc i) h = ap (λ ys. x ∷ ys) (whole xs i (omega arith))

-- a command with more arguments, and its shape
pub with_rules_are : (a : App) (rs : List Rule)
    → with_rules a rs ≡ record a { top = record a.top { rules = a.top.rules ++ rs } }
with_rules_are a [] =
    ap (λ (qs : List Rule). record a { top = record a.top { rules = qs } }) (sym (append-nil a.top.rules))
with_rules_are a (r ∷ rs) =
    with_rules_are (with_rule a r) rs
    ∙ ap (λ (qs : List Rule). record a { top = record a.top { rules = qs } }) (append_assoc a.top.rules (r ∷ []) rs)

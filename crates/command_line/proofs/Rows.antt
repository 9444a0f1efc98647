-- The values of clap's matches, as its rows have them.
use Rattle.std.proofs.Common.{◌≡◌, ℕ, Bool, true, false, cond, List, [], ◌∷◌, ◌++◌, map, Option, Some, None, option_map}
use Rattle.std.proofs.Common.{slice_get, refl, sym, ap, ap₂, ◌∙◌, Result, Ok, Err, IfOk}
use Rattle.std.specs.Prelude.{option_and_then, find, ◌&&◌, not}
use Rattle.std.specs.Borrow.{Bor}
use Rattle.std.specs.Str.{bytes_eq}
use Rattle.std.proofs.lemmas.Slice.Eq.{bytes_eq-Decides}
use Rattle.std.proofs.lemmas.Bool.{cases_Bool}
use mathlib.Core.Logic.{⊎_elim}
use Rattle.clap.specs.Words.{AddsArg, AddsSubcommand, App, Rule, Shape, all_of, app_of, first_of, first_value}
use Rattle.clap.specs.Words.{is_simple, matched_of, raw_values, rows_of, rule_of, shape_of, with_subcommand}
use Rattle.clap.specs.Walk.{row_of, texts}
use Rattle.clap.specs.Facts.{Entry}
use Rattle.clap.specs.declared.builder.arg.Arg.{Arg}
use Rattle.clap.specs.declared.builder.command.Command.{Command}
use Rattle.clap.specs.declared.parser.matches.Found.{Found}
use Rattle.command_line.specs.Commands.{IsShaped, romtool_app}

abbrev first_text : List (Bor (List ℕ)) → Option (List ℕ)
first_text vs = option_map (λ s. s.now) (slice_get vs 0)

first_of_texts : (vs : List (Bor (List ℕ))) → first_text vs ≡ slice_get (texts vs) 0
first_of_texts [] = refl
first_of_texts (v ∷ vs) = refl

value_in : (es : List Entry) (id : List ℕ)
    → option_and_then (λ a. first_text a.vals.items) (option_map (λ e. e.1) (find (λ e. bytes_eq e.0.now id) es))
    ≡ option_and_then (λ r. slice_get r.values 0) (find (λ r. bytes_eq r.id id) (map row_of es))
value_in [] id = refl
value_in (e ∷ es) id = by (bytes_eq e.0.now id) (value_in es id)
  where
    by : (b : Bool) → option_and_then (λ a. first_text a.vals.items)
        (option_map (λ e. e.1) (find (λ e. bytes_eq e.0.now id) es))
        ≡ option_and_then (λ r. slice_get r.values 0) (find (λ r. bytes_eq r.id id) (map row_of es))
        → option_and_then (λ a. first_text a.vals.items)
        (option_map (λ e. e.1) (cond b (Some e) (find (λ e. bytes_eq e.0.now id) es)))
        ≡ option_and_then (λ r. slice_get r.values 0)
        (cond b (Some (row_of e)) (find (λ r. bytes_eq r.id id) (map row_of es)))
    by true h = first_of_texts e.1.vals.items
    by false h = h

pub value_is : (f : Found) (id : List ℕ) → first_value f id ≡ first_of id (rows_of f)
value_is f id = value_in f.entries.items id

values_in : (es : List Entry) (id : List ℕ)
    → option_map raw_values (option_map (λ e. e.1) (find (λ e. bytes_eq e.0.now id) es))
    ≡ option_map (λ r. r.values) (find (λ r. bytes_eq r.id id) (map row_of es))
values_in [] id = refl
values_in (e ∷ es) id = by (bytes_eq e.0.now id) (values_in es id)
  where
    by : (b : Bool) → option_map raw_values (option_map (λ e. e.1) (find (λ e. bytes_eq e.0.now id) es))
        ≡ option_map (λ r. r.values) (find (λ r. bytes_eq r.id id) (map row_of es))
        → option_map raw_values (option_map (λ e. e.1) (cond b (Some e) (find (λ e. bytes_eq e.0.now id) es)))
        ≡ option_map (λ r. r.values) (cond b (Some (row_of e)) (find (λ r. bytes_eq r.id id) (map row_of es)))
    by true h = refl
    by false h = h

pub values_are : (f : Found) (id : List ℕ) → option_map raw_values (matched_of f id) ≡ all_of id (rows_of f)
values_are f id = values_in f.entries.items id

-- two results of one function, put together
abbrev pub paired : {X A B : Type 0} → (X → A) → (X → B) → X → A × B
paired f g x = (f x, g x)

pub both_parts : {X Y A B : Type 0} (o : Option X) (s : Option Y) (f : X → A) (g : X → B) (h : Y → A) (k : Y → B)
    → option_map f o ≡ option_map h s → option_map g o ≡ option_map (λ (p : A × B). p.1) (option_map (paired h k) s)
    → option_map (paired f g) o ≡ option_map (paired h k) s
both_parts None None f g h k a b = refl
both_parts None (Some y) f g h k a b = absurd cc
both_parts (Some x) None f g h k a b = absurd cc
both_parts (Some x) (Some y) f g h k a b = cc

-- a shape with one more argument
abbrev with_more : Shape → Rule → Shape
with_more s rule = record s { rules = s.rules ++ rule ∷ [] }

-- a command with one more argument
pub with_arg : (old : Command) (arg : Arg) (new : Command) (s : Shape) (rule : Rule) → AddsArg old arg new
    → shape_of old ≡ s → rule_of arg ≡ rule
    → arg.global ≡ false → shape_of new ≡ with_more s rule
with_arg old arg new s rule h e k l = ap (λ (a : App). a.top) (h.shape l) ∙ ap₂ with_more e k

-- the same of a result that may have no command
pub with_last_arg : {E : Type 0} (old : Command) (arg : Arg) (r : Result Command E) (s : Shape) (rule : Rule)
    → IfOk r (AddsArg old arg) → shape_of old ≡ s
    → rule_of arg ≡ rule → arg.global ≡ false → IfOk r (IsShaped (with_more s rule))
with_last_arg old arg (Ok new) s rule h e k l = with_arg old arg new s rule h e k l
with_last_arg old arg (Err _) s rule h e k l = tt

-- a command of this shape has no global argument
pub not_third : (a b c d : Bool) → (a && (not b && (not c && d))) ≡ true → c ≡ false
not_third true false true d h = absurd cc
not_third true false false d h = refl
not_third true true c d h = absurd cc
not_third false b c d h = absurd cc

-- a command with one more subcommand
pub with_sub : (old sub new : Command) (a : App) (s : Shape) → AddsSubcommand old sub new → app_of old ≡ a
    → shape_of sub ≡ s → s.is_plain ≡ true
    → app_of new ≡ with_subcommand a s
with_sub old sub new a s h e k p =
    h.shape (not_third _ _ _ _ (ap (λ (x : Shape). x.is_plain) k ∙ p)) ∙ ap₂ with_subcommand e k

-- the same of a result that may have no command
pub with_last : {E : Type 0} (old sub : Command) (r : Result Command E) (a : App) (s : Shape)
    → IfOk r (AddsSubcommand old sub) → app_of old ≡ a
    → shape_of sub ≡ s → s.is_plain ≡ true → IfOk r (λ c. app_of c ≡ with_subcommand a s)
with_last old sub (Ok new) a s h e k p = with_sub old sub new a s h e k p
with_last old sub (Err _) a s h e k p = tt

pub put_onto : {E : Type 0} (r : Result Command E) (a b : App) (s : Shape) → a ≡ b
    → IfOk r (λ c. app_of c ≡ with_subcommand a s)
    → IfOk r (λ c. app_of c ≡ with_subcommand b s)
put_onto (Ok c) a b s e h = h ∙ ap (λ x. with_subcommand x s) e
put_onto (Err _) a b s e h = tt

-- a word that is none of a table
abbrev pub IsNone : List ℕ → List (List ℕ × ℕ) → Type 0
IsNone word [] = Unit {0}
IsNone word (p ∷ ps) = (word ≡ p.0 → ⊥) × IsNone word ps

pub absent : (word : List ℕ) (ps : List (List ℕ × ℕ)) → IsNone word ps → find (λ p. bytes_eq p.0 word) ps ≡ None
absent word [] h = refl
absent word (p ∷ ps) h =
    ⊎_elim
    (λ (e : bytes_eq p.0 word ≡ true). absurd (h.0 (sym ((bytes_eq-Decides p.0 word).0 e))))
    (λ (e : bytes_eq p.0 word ≡ false). rw e (absent word ps h.1))
    (cases_Bool (bytes_eq p.0 word))

pub simple : is_simple romtool_app ≡ true
simple = refl

-- The lines that were put, and those that are left.
use Rattle.std.proofs.Common.{◌≡◌, ℕ, ◌+◌, Bool, false, List, [], ◌++◌, drop, refl, sym, ap, ◌∙◌, append_assoc}
use Rattle.std.proofs.Common.{append-nil}
use Rattle.std.specs.Prelude.{◌||◌}
use Rattle.std.proofs.lemmas.List.{drop-drop}
use Rattle.rom_fields.specs.Written.{Puts, Sink}
use Rattle.rom_fields.proofs.Joins.{puts_nothing, chain}
use Rattle.rom_tree.specs.Names.{Name}
use Rattle.image_compare.specs.declared.steps.Step.{Step}
use Rattle.image_compare.specs.Diff.{names_lines, is_printed}
use Rattle.image_compare.specs.Rows.{StepPuts}
use Rattle.image_compare.proofs.Printed.{printed_both}
use Rattle.image_compare.proofs.Stepped.{none_is}

pub record IsReached (s t : Sink) (places : Bool) (a b : List ℕ) (ps qs : List Name) (i j : ℕ)
    (printed : Bool) : Type 0 where
  pub done : List ℕ
  pub puts : Puts s t done
  pub rest : done ++ names_lines places a b (drop i ps) (drop j qs) ≡ names_lines places a b ps qs
  pub printed_is : printed ≡ is_printed done

pub reached_none : (s : Sink) (places : Bool) (a b : List ℕ) (ps qs : List Name)
    → IsReached s s places a b ps qs 0 0 false
reached_none s places a b ps qs = record { done = []; puts = puts_nothing s; rest = refl; printed_is = refl }

-- a step more
pub reached_more : (s t u : Sink) (places : Bool) (a b : List ℕ) (ps qs : List Name) (i j : ℕ) (printed more : Bool)
    (r : Step) → IsReached s t places a b ps qs i j printed → StepPuts t u places a b (drop i ps) (drop j qs) r
    → more ≡ (printed || r.printed) → IsReached s u places a b ps qs (i + r.old) (j + r.new) more
reached_more s t u places a b ps qs i j printed more r h k e = record {
  done = h.done ++ k.text;
  puts = chain h.puts k.puts;
  rest = append_assoc h.done k.text (names_lines places a b (drop (i + r.old) ps) (drop (j + r.new) qs))
      ∙ (ap (λ (v : List ℕ). h.done ++ v)
      (ap (λ (v : List Name). k.text ++ names_lines places a b v (drop (j + r.new) qs)) (sym (drop-drop r.old i ps))
      ∙ (ap (λ (v : List Name). k.text ++ names_lines places a b (drop r.old (drop i ps)) v)
      (sym (drop-drop r.new j qs)) ∙ k.rest)) ∙ h.rest);
  printed_is = e ∙ (ap (λ (v : Bool). v || r.printed) h.printed_is
      ∙ (ap (λ (v : Bool). is_printed h.done || v) k.printed ∙ sym (printed_both h.done k.text)));
}

-- nothing is left
pub reached_all : (s t : Sink) (places : Bool) (a b : List ℕ) (ps qs : List Name) (i j : ℕ) (printed : Bool)
    → drop i ps ≡ [] → drop j qs ≡ [] → (h : IsReached s t places a b ps qs i j printed)
    → h.done ≡ names_lines places a b ps qs
reached_all s t places a b ps qs i j printed p q h =
    sym (append-nil h.done) ∙ (ap (λ (v : List ℕ). h.done ++ v) (sym (ap (λ (v : List Name). names_lines places a b v
    (drop j qs)) p ∙ (ap (names_lines places a b []) q ∙ none_is places a b))) ∙ h.rest)

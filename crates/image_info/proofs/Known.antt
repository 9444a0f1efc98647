-- The lines of a file's runs, put one after the other.
use Rattle.std.proofs.Common.{◌≡◌, ℕ, ◌+◌, ◌<◌, ◌≤◌, List, [], ◌∷◌, ◌++◌, length, ◌-◌, drop, length-drop, refl, sym, ap}
use Rattle.std.proofs.Common.{◌∙◌, subst, arith, append_assoc, append-nil, nat_lt, true, false, rules, tests}
use Rattle.std.specs.Prelude.{slice_index}
use Rattle.rom_tree.specs.Image.{IsRun}
use Rattle.std.proofs.lemmas.List.{get_or-drop, drop-drop, drop_all}
use Rattle.rom_fields.specs.Written.{Puts, Sink}
use Rattle.rom_fields.proofs.Joins.{puts_nothing, chain}
use Rattle.rom_tree.specs.declared.types.Run.{Run}
use Rattle.image_info.specs.Runs.{Piece, piece, runs_from, runs, IsWholeRun}
use Rattle.image_info.specs.Map.{run_line, run_lines}
use Rattle.image_info.proofs.Pieces.{runs_nil, runs_first}

-- the lines of the runs before byte `at` were put, and those from there on complete them
pub record IsKnown (s t : Sink) (base : ℕ) (path ps : List ℕ) (at : ℕ) : Type 0 where
  pub done : List ℕ
  pub puts : Puts s t done
  pub rest : done ++ run_lines base path (runs_from at (drop at ps)) ≡ run_lines base path (runs ps)

pub known_none : (s : Sink) (base : ℕ) (path ps : List ℕ) → IsKnown s s base path ps 0
known_none s base path ps = record { done = []; puts = puts_nothing s; rest = refl }

pub known_more : (s t u : Sink) (base : ℕ) (path ps : List ℕ) (at : ℕ) (r : Run) → IsWholeRun ps at r
    → Puts t u (run_line base path (piece r.place r.len at)) → IsKnown s t base path ps at
    → IsKnown s u base path ps (at + r.len)
known_more s t u base path ps at r h p i =
    let line : List ℕ = run_line base path (piece r.place r.len at) in
    let l : length (drop at ps) ≡ length ps - at = length-drop at ps in
    let front : runs_from at (drop at ps) ≡ piece r.place r.len at ∷ runs_from (at + r.len) (drop r.len (drop at ps)) =
    runs_first (drop at ps) r.place at r.len h.run.some (omega (arith, l, h.run.within))
    (λ k w. get_or-drop at ps k 0 ∙ h.run.row k w)
    (λ w e. h.ends (omega (arith, l, w)) (sym (get_or-drop at ps r.len 0) ∙ e)) in
    let next : run_lines base path (runs_from at (drop at ps))
    ≡ line ++ run_lines base path (runs_from (at + r.len) (drop (at + r.len) ps)) =
    ap (run_lines base path) front ∙ ap (λ (v : List ℕ). line ++ run_lines base path (runs_from (at + r.len) v))
    (drop-drop r.len at ps) in
    record {
      done = i.done ++ line;
      puts = chain i.puts p;
      rest = append_assoc i.done line (run_lines base path (runs_from (at + r.len) (drop (at + r.len) ps)))
          ∙ (ap (λ (v : List ℕ). i.done ++ v) (sym next) ∙ i.rest);
    }

pub known_all : (s t : Sink) (base : ℕ) (path ps : List ℕ) (at : ℕ) → length ps ≤ at → IsKnown s t base path ps at
    → Puts s t (run_lines base path (runs ps))
known_all s t base path ps at h i =
    let none : runs_from at (drop at ps) ≡ [] = ap (runs_from at) (drop_all at ps h) ∙ runs_nil at in
    let e : i.done ≡ run_lines base path (runs ps) =
    sym (append-nil i.done) ∙ (ap (λ (v : List Piece). i.done ++ run_lines base path v) (sym none) ∙ i.rest) in
    let P : List ℕ → Type 0 = λ v. Puts s t v in
    subst P e i.puts

lt_by : (a b : ℕ) → nat_lt a b ≡ true → a < b
lt_by a b h = search (rules, tests)

le_by : (a b : ℕ) → nat_lt a b ≡ false → b ≤ a
le_by a b h = search (rules, tests)

-- a row that goes on
pub run_more : (ps : List ℕ) (at place len : ℕ) (r : Run) → ((k : ℕ) → k < len → slice_index ps (at + k) ≡ place + k)
    → IsRun ps (at + len) r → r.place ≡ place + len → (k : ℕ) → k < len + r.len → slice_index ps (at + k) ≡ place + k
run_more ps at place len r row i e k l =
    elim (nat_lt k len) as (λ v. nat_lt k len ≡ v → slice_index ps (at + k) ≡ place + k) [
      | true ↦ λ t. row k (lt_by k len t)
      | false ↦ λ t.
          let b : len ≤ k = le_by k len t in
          let a : at + len + (k - len) ≡ at + k = omega arith in
          let w : k - len < r.len = omega arith in
          ap (slice_index ps) (sym a) ∙ (i.row (k - len) w ∙ omega arith)
    ] refl

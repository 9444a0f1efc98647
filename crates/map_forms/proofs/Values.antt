-- The lines of a file say where its bytes are.
use Rattle.std.proofs.Common.{◌≡◌, ◌%◌, ◌^◌, ℕ, ◌+◌, Bool, true, false, List, [], ◌∷◌}
use Rattle.std.proofs.Common.{length}
use Rattle.std.proofs.Common.{refl, sym, ap, ◌∙◌, subst, arith, append-nil}
use Rattle.std.proofs.lemmas.List.{drop_all}
use Rattle.std.specs.Prelude.{◌&&◌, if◌then◌else◌}
use Rattle.rom_tree.proofs.Numbers.{length_row, row_at}
use Rattle.rom_tree.specs.Tree.{Node, is_regular, places_of, row_from}
use Rattle.image_info.specs.Runs.{Piece, piece, runs, runs_from, joined, GoOn}
use Rattle.image_info.proofs.Pieces.{runs_nil, runs_first, runs_joined, runs_go}
use Rattle.map_forms.specs.Header.{address_macro, address_number, definition, length_number, macros, only_address}
use Rattle.map_forms.specs.Header.{name_macros, node_macros, map_text}
use Rattle.map_forms.specs.Names.{Address}
use Rattle.map_forms.specs.declared.form.Form.{Form}
use Rattle.map_forms.specs.Values.{AreValues, FollowFrom, HasValues}

-- bytes that follow one another are one run
one_run : (p : ℕ) (ps : List ℕ) → FollowFrom p ps → runs ps ≡ piece p (length ps) 0 ∷ []
one_run p ps h =
    let n = length ps in
    runs_first ps p 0 n h.0 (omega arith) (λ k l. h.1 k l) (λ l e. absurd (omega (arith, l)))
    ∙ ap (λ (v : List Piece). piece p n 0 ∷ v) (ap (runs_from (0 + n)) (drop_all n ps (omega arith)) ∙ runs_nil (0 + n))

-- and one run is of bytes that do
one_follows : (ps : List ℕ) (r : Piece) → runs ps ≡ r ∷ [] → FollowFrom r.place ps
one_follows ps r e =
    let g : GoOn 0 (r ∷ []) (length ps) =
    subst (λ (v : List Piece). GoOn 0 v (length ps)) e (runs_go 0 (length ps) ps (omega arith)) in
    let j : row_from r.place r.count ≡ ps =
    sym (append-nil (row_from r.place r.count)) ∙ (ap joined (sym e) ∙ runs_joined 0 ps) in
    let l = length_row r.place r.count in
    subst (FollowFrom r.place) j (
      (let some = g.1 in omega (arith, l, some)),
      λ k m. row_at r.place r.count k (omega (arith, m, l)),
    )

module _ (f : Form) (prefix : List ℕ) (base : ℕ) (path : List ℕ) where
  some_address : (ps : List ℕ) (p : ℕ) → FollowFrom p ps
      → address_macro f prefix path (only_address base (runs ps))
      ≡ definition f prefix (Address path) (address_number f ((base + p) % 2 ^ 64))
  unfolding address_macro
  some_address ps p h = ap (λ (v : List Piece). address_macro f prefix path (only_address base v)) (one_run p ps h)

  no_address : (ps : List ℕ) (rs : List Piece) → runs ps ≡ rs → ((p : ℕ) → FollowFrom p ps → ⊥)
      → address_macro f prefix path (only_address base rs) ≡ []
  unfolding address_macro
  no_address ps [] e h = refl
  no_address ps (r ∷ []) e h = absurd (h r.place (one_follows ps r e))
  no_address ps (r ∷ s ∷ rs) e h = refl

  file_values : (chosen : List ℕ → Bool) (x : Node) → is_regular x ≡ true → chosen path ≡ true
      → HasValues f prefix base path x (node_macros f chosen prefix base path x)
  unfolding macros length_number
  file_values chosen x e k = record {
    address = address_macro f prefix path (only_address base (runs (places_of x)));
    is = rw (e, k) refl;
    address_if = some_address (places_of x);
    address_only = no_address (places_of x) (runs (places_of x)) refl;
  }

  no_values : (chosen : List ℕ → Bool) (x : Node) → is_regular x ≡ false
      → node_macros f chosen prefix base path x ≡ []
  no_values chosen x e = rw e refl

  not_both : (a b : Bool) (ys zs : List ℕ) → b ≡ false → (if a && b then ys else zs) ≡ zs
  not_both true b ys zs e = rw e refl
  not_both false b ys zs e = refl

  none_chosen : (chosen : List ℕ → Bool) (x : Node) → chosen path ≡ false
      → node_macros f chosen prefix base path x ≡ []
  none_chosen chosen x e = not_both (is_regular x) (chosen path) _ [] e

pub values_are : (f : Form) (chosen : List ℕ → Bool) (prefix : List ℕ) (base size : ℕ) (t : Node)
    → AreValues f chosen prefix base size t (map_text f chosen prefix base size t)
unfolding map_text
values_are f chosen prefix base size t = record {
  values = name_macros f chosen prefix base;
  is = refl;
  files = λ n e k. file_values f prefix base n.path chosen n.node e k;
  unchosen = λ n e. none_chosen f prefix base n.path chosen n.node e;
  others = λ n e. no_values f prefix base n.path chosen n.node e;
}

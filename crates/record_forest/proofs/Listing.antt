-- The names of rows, and what the marks of names tell of the rows.
use Rattle.std.proofs.Common.{◌≡◌, ℕ, ◌+◌, ◌<◌, Bool, true, false, List, [], ◌∷◌, ◌++◌, length, length-append, take}
use Rattle.std.proofs.Common.{get_or, inl, inr, refl, sym, ap, subst, ◌∙◌, arith}
use Rattle.std.proofs.lemmas.Bool.{cases_lt}
use Rattle.std.proofs.lemmas.List.{take_more, get_or-take, length-take-le, get_or_append_left, get_or_at}
use Rattle.std.proofs.lemmas.List.{get_or_default}
use Rattle.std.specs.List.{Any}
use Rattle.record_forest.specs.declared.listed.ListedName.{ListedName}
use Rattle.record_forest.specs.declared.reference.Row.{Row}
use Rattle.record_forest.specs.Listed.{MarksRepeats, AreNames}
use Rattle.record_forest.proofs.Marked.{some}

module _ (name : ℕ → List ℕ) where
  pub names_start : AreNames name [] []
  names_start = record {
    count = refl;
    numbered = λ i d l. absurd (omega arith);
    list = λ i d e l. absurd (omega arith);
    named = λ i d e l. absurd (omega arith);
  }

  names_push : (rows : List Row) (r : Row) (xs : List ListedName) (x : ListedName) → AreNames name rows xs
      → x.list ≡ r.directory → x.name.now ≡ name r.offset → x.index ≡ length rows
      → AreNames name (rows ++ r ∷ []) (xs ++ x ∷ [])
  names_push rows r xs x w e f n = record {
    count = length-append xs (x ∷ []) ∙ ap (λ (v : ℕ). v + 1) w.count ∙ sym (length-append rows (r ∷ []));
    numbered = λ i d l. elim (cases_lt i (length xs)) [
      | inl c ↦ ap (λ (v : ListedName). v.index) (get_or_append_left xs (x ∷ []) d i c) ∙ w.numbered i d c
      | inr c ↦ (let k = length-append xs (x ∷ []) in let is : length xs
          ≡ i = omega arith in ap (λ (v : ListedName). v.index) (get_or_at xs x [] d i is) ∙ n ∙ sym w.count ∙ is)
    ];
    list = λ i d g l. elim (cases_lt i (length rows)) [
      | inl c ↦ ap (λ (v : ListedName). v.list) (get_or_append_left xs (x ∷ []) d i (let k = w.count in omega arith))
          ∙ w.list i d g c ∙ ap (λ (v : Row). v.directory) (sym (get_or_append_left rows (r ∷ []) g i c))
      | inr c ↦
          (let k = length-append rows (r ∷ []) in let is : length rows ≡ i = omega arith in let at : length xs
          ≡ i = w.count ∙ is in
          ap (λ (v : ListedName). v.list) (get_or_at xs x [] d i at) ∙ e
          ∙ ap (λ (v : Row). v.directory) (sym (get_or_at rows r [] g i is)))
    ];
    named = λ i d g l. elim (cases_lt i (length rows)) [
      | inl c ↦ ap (λ (v : ListedName). v.name.now)
          (get_or_append_left xs (x ∷ []) d i (let k = w.count in omega arith)) ∙ w.named i d g c
          ∙ ap (λ (v : Row). name v.offset) (sym (get_or_append_left rows (r ∷ []) g i c))
      | inr c ↦
          (let k = length-append rows (r ∷ []) in let is : length rows ≡ i = omega arith in let at : length xs
          ≡ i = w.count ∙ is in
          ap (λ (v : ListedName). v.name.now) (get_or_at xs x [] d i at) ∙ f
          ∙ ap (λ (v : Row). name v.offset) (sym (get_or_at rows r [] g i is)))
    ];
  }

  -- one row further
  pub names_more : (rows : List Row) (i : ℕ) (blank : Row) (xs all : List ListedName) (x : ListedName) → i < length rows
      → AreNames name (take i rows) xs → all ≡ xs ++ x ∷ []
      → x.list ≡ (get_or rows i blank).directory → x.name.now ≡ name (get_or rows i blank).offset → x.index ≡ i
      → AreNames name (take (i + 1) rows) all
  names_more rows i blank xs all x l w a e f n =
      rw (take_more rows i blank l, a) (names_push (take i rows) (get_or rows i blank) xs x w e f
      (n ∙ sym (length-take-le i rows (omega arith))))

  -- an earlier row of the same list has the same name
  abbrev pub Repeated : List Row → Row → Type 0
  Repeated rows x = Any (λ (y : Row). (y.directory ≡ x.directory) × (name y.offset ≡ name x.offset)) rows

  module _ (rows : List Row) (xs : List ListedName) (marks : List Bool) (w : AreNames name rows xs)
      (m : MarksRepeats xs marks) (i : ℕ) (blank : Row) (l : i < length rows) where
    within : i < length xs
    within = subst (λ (v : ℕ). i < v) (sym w.count) l

    pub marked_old : get_or marks i false ≡ true → Repeated (take i rows) (get_or rows i blank)
    marked_old e =
        let r = m.set i within e in
        let d : ListedName = some xs i within in
        let before : r.0 < length rows = (let u = r.1 in omega arith) in
        let alike = r.2 d in (
          r.0,
          get_or rows r.0 blank,
          (let u = r.1 in let k = length-take-le i rows (omega arith) in omega arith),
          get_or-take i rows r.0 (get_or rows r.0 blank) r.1
              ∙ get_or_default rows r.0 (get_or rows r.0 blank) blank before,
          (
            sym (w.list r.0 d blank before) ∙ alike.0 ∙ w.list i d blank l,
            sym (w.named r.0 d blank before) ∙ alike.1 ∙ w.named i d blank l,
          ),
        )

    pub marked_new : get_or marks i false ≡ false → Repeated (take i rows) (get_or rows i blank) → ⊥
    marked_new e a =
        let less : a.0 < i = (let u = a.2 in let k = length-take-le i rows (omega arith) in omega arith) in
        let before : a.0 < length rows = omega arith in
        let is : get_or rows a.0 a.1 ≡ a.1 = sym (get_or-take i rows a.0 a.1 less) ∙ a.3 in
        let p = a.4 in
        m.clear i within e (
          a.0,
          less,
          λ d. (
            w.list a.0 d a.1 before ∙ ap (λ (v : Row). v.directory) is ∙ p.0 ∙ sym (w.list i d blank l),
            w.named a.0 d a.1 before ∙ ap (λ (v : Row). name v.offset) is ∙ p.1 ∙ sym (w.named i d blank l),
          ),
        )

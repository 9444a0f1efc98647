-- A list of files whose elements are replaced one after the other.
use Rattle.std.proofs.Common.{◌≡◌, ◌≢◌, ⊎_elim, ℕ, ◌+◌, ◌<◌, ◌≤◌, List, get_or, length, map, set, refl, sym, ap, subst}
use Rattle.std.proofs.Common.{◌∙◌, arith}
use Rattle.std.proofs.lemmas.Bool.{cases_lt}
use Rattle.std.proofs.lemmas.List.{get_or-set_same, get_or-set_other, get_or_default, get_or-map, length-map}
use Rattle.std.proofs.lemmas.List.{length-set}
use Rattle.std.proofs.lemmas.List.{same_lists}
use Rattle.build_commands.specs.declared.inventory.NamedFile.{NamedFile}

-- the files before an index are replaced, each by what is made of it at its index, and the others are as they were
pub record Mapping (g : ℕ → NamedFile → NamedFile) (old now : List NamedFile) (i : ℕ) : Type 0 where
  pub done : (j : ℕ) (d : NamedFile) → j < i → get_or now j d ≡ g j (get_or old j d)
  pub left : (j : ℕ) (d : NamedFile) → i ≤ j → get_or now j d ≡ get_or old j d
  pub size : length now ≡ length old

pub mapping_none : (g : ℕ → NamedFile → NamedFile) (old : List NamedFile) → Mapping g old old 0
mapping_none g old = record {
  done = λ j d lt. absurd (omega (arith, lt));
  left = λ j d ge. refl;
  size = refl;
}

pub mapping_more : (g : ℕ → NamedFile → NamedFile) (old now new : List NamedFile) (i : ℕ) (f h : NamedFile)
    → i < length now → f ≡ get_or now i f → new ≡ set now i h → h ≡ g i f → Mapping g old now i
    → Mapping g old new (i + 1)
mapping_more g old now new i f h l is put made a = record {
  done = λ j d lt. ⊎_elim
      (λ (before : j < i).
      let ne : j ≢ i = omega (arith, before) in
      ap (λ (v : List NamedFile). get_or v j d) put ∙ get_or-set_other now i j h d ne ∙ a.done j d before)
      (λ (ge : i ≤ j).
      let e : i ≡ j = omega (arith, ge, lt) in
      let fd : f ≡ get_or old i d = is ∙ get_or_default now i f d l ∙ a.left i d (omega arith) in
      subst (λ (k : ℕ). get_or new k d ≡ g k (get_or old k d)) e
      (ap (λ (v : List NamedFile). get_or v i d) put ∙ get_or-set_same now i h d l ∙ made ∙ ap (g i) fd))
      (cases_lt j i);
  left = λ j d ge.
      let ne : j ≢ i = omega (arith, ge) in
      ap (λ (v : List NamedFile). get_or v j d) put ∙ get_or-set_other now i j h d ne ∙ a.left j d (omega (arith, ge));
  size = ap length put ∙ length-set now i h ∙ a.size;
}

pub mapping_all : (g : NamedFile → NamedFile) (old now : List NamedFile) (i : ℕ) → length old ≤ i
    → Mapping (λ j. g) old now i → now ≡ map g old
mapping_all g old now i all a =
    same_lists now (map g old) (a.size ∙ sym (length-map old g))
    (λ k d l.
    let here : k < length old = omega (arith, l, a.size) in
    a.done k d (omega (arith, here, all)) ∙ sym (get_or-map g old k d d here))

-- The first line that does not fit has the least misfit of the lines.
use Rattle.std.proofs.Common.{◌≡◌, ◌<◌, ◌+◌, ◌++◌, ◌||◌, ℕ, true, false, cond, List, [], ◌∷◌, length, drop, take}
use Rattle.std.proofs.Common.{get_or, suc, nat_lt, Option, Some, None, refl, sym, ap, subst, ◌∙◌, arith}
use Rattle.std.specs.Prelude.{IfSome}
use Rattle.std.proofs.lemmas.Bool.{lt-ltb}
use Rattle.std.proofs.Math.Seq.{split_at}
use Rattle.std.proofs.lemmas.List.{at_drop_more}
use Rattle.std.specs.List.{AllByRecursion as Every}
use Rattle.rom_fields.specs.declared.fault.Fault.{Fault}
use Rattle.record_forest.specs.Lesser.{lesser_of_both}
use Rattle.record_forest.proofs.Lists.{pairs_right}
use Rattle.manifest.specs.declared.line.Line.{Line}
use Rattle.manifest.specs.Grammar.{IsManifest}
use Rattle.manifest.specs.Lines.{ManifestLines}
use Rattle.formats.specs.Format.{Format}
use Rattle.manifest_layout.specs.Tests.{fault, at_line, number_of_line, of_lines}
use Rattle.plan_rows.proofs.Knowing.{Rise, rise}

nothing_less : (o : Option Fault) → lesser_of_both None o ≡ o
nothing_less None = refl
nothing_less (Some e) = refl

pub no_line : (f : Format) (m : ManifestLines) (sizes : List ℕ) (l : Line) (rest : List Line)
    → number_of_line f m sizes l ≡ None → of_lines f m sizes (l ∷ rest) ≡ of_lines f m sizes rest
no_line f m sizes l rest e =
    ap (λ (o : Option ℕ). lesser_of_both (at_line l.number o) (of_lines f m sizes rest)) e
    ∙ nothing_less (of_lines f m sizes rest)

one_of_both : (P : Fault → Type 0) (a b : Option Fault) → IfSome a P → IfSome b P → IfSome (lesser_of_both a b) P
one_of_both P a None h k = h
one_of_both P None (Some e) h k = k
one_of_both P (Some d) (Some e) h k = elim (nat_lt d.at e.at || _) as (λ t. P (cond t d e)) [ true ↦ h | false ↦ k ]

later : (f : Format) (m : ManifestLines) (sizes : List ℕ) (n : ℕ) (ls : List Line) → Every (λ l. n < l.number) ls
    → IfSome (of_lines f m sizes ls) (λ e. n < e.at)
later f m sizes n [] h = tt
later f m sizes n (l ∷ ls) h =
    one_of_both (λ e. n < e.at) (at_line l.number (number_of_line f m sizes l)) (of_lines f m sizes ls)
    (by (number_of_line f m sizes l)) (later f m sizes n ls h.1)
  where
    by : (o : Option ℕ) → IfSome (at_line l.number o) (λ e. n < e.at)
    by None = tt
    by (Some k) = h.0

first_less : (d : Fault) (o : Option Fault) → IfSome o (λ e. d.at < e.at) → lesser_of_both (Some d) o ≡ Some d
first_less d None h = refl
first_less d (Some e) h = rw (lt-ltb d.at e.at h) refl

this_line : (f : Format) (m : ManifestLines) (sizes : List ℕ) (l : Line) (rest : List Line) (k : ℕ)
    → Every (λ x. l.number < x.number) rest → number_of_line f m sizes l ≡ Some k
    → of_lines f m sizes (l ∷ rest) ≡ Some (fault k l.number)
this_line f m sizes l rest k h e =
    ap (λ (o : Option ℕ). lesser_of_both (at_line l.number o) (of_lines f m sizes rest)) e
    ∙ first_less (fault k l.number) (of_lines f m sizes rest) (later f m sizes l.number rest h)

-- at an index of the lines
pub misfit_at : (f : Format) (m : ManifestLines) (sizes : List ℕ) (i : ℕ) (d l : Line) (k : ℕ) → IsManifest m
    → i < length m.lines → l ≡ get_or m.lines i d → Some k ≡ number_of_line f m sizes l
    → Some (fault k l.number) ≡ of_lines f m sizes (drop i m.lines)
misfit_at f m sizes i d l k w h e n =
    let u : suc i ≡ i + 1 = omega arith in
    let s = split_at m.lines i d h ∙ ap (λ (x : Line). take i m.lines ++ x ∷ drop (suc i) m.lines) (sym e)
    ∙ ap (λ (n : ℕ). take i m.lines ++ l ∷ drop n m.lines) u in
    let p = pairs_right (λ (x : Line) (y : Line). x.number < y.number) (take i m.lines) (l ∷ drop (i + 1) m.lines)
    (subst Rise s (rise m w)) in
    sym (this_line f m sizes l (drop (i + 1) m.lines) k p.0 (sym n))
    ∙ sym (at_drop_more (of_lines f m sizes) m.lines i d h
    ∙ ap (λ (x : Line). of_lines f m sizes (x ∷ drop (i + 1) m.lines)) (sym e))

pub fits_at : (f : Format) (m : ManifestLines) (sizes : List ℕ) (i : ℕ) (d l : Line) → i < length m.lines
    → l ≡ get_or m.lines i d → None ≡ number_of_line f m sizes l
    → of_lines f m sizes (drop i m.lines) ≡ of_lines f m sizes (drop (i + 1) m.lines)
fits_at f m sizes i d l h e n =
    at_drop_more (of_lines f m sizes) m.lines i d h
    ∙ ap (λ (x : Line). of_lines f m sizes (x ∷ drop (i + 1) m.lines)) (sym e)
    ∙ no_line f m sizes l (drop (i + 1) m.lines) (sym n)

-- Hard links of a layout lead to their targets.
use Rattle.std.proofs.Common.{◌≡◌, ◌≢◌, ℕ, ◌+◌, ◌%◌, true, false, eqb, List, ◌∷◌, refl, sym, ap, ◌∙◌, arith, Some}
use Rattle.std.proofs.lemmas.Bool.{false≢true, ne_eqb, eq-eqb}
use Rattle.std.specs.List.{AllByRecursion as Every, list_any}
use Rattle.record_forest.specs.declared.reference.Reference.{Reference}
use Rattle.record_forest.specs.declared.reference.Row.{Row}
use Rattle.record_forest.specs.Forest.{rows}
use Rattle.record_forest.proofs.Lists.{every_join, every_left, every_right}
use Rattle.romfs_format.specs.Record.{pad16, type_of, spec_offset_of, name_of}
use Rattle.romfs_format.specs.Refers.{references}
use Rattle.romfs_format.specs.Tree.{follow, LeadsWell}
use Rattle.rom_tree.specs.Dots.{dot, dot_dot, is_dots}
use Rattle.manifest_tree.specs.Names.{Names, nothing, leaf, link, subdirectory}
use Rattle.romfs_layout.specs.Layout.{Header, number_of, code_of, place_of, leaf_end, header_end, ends, first_place}
use Rattle.romfs_layout.specs.Layout.{headers}
use Rattle.romfs_layout.specs.Reads.{Reads}
use Rattle.romfs_layout.specs.Wells.{AreWell}
use Rattle.romfs_layout.specs.Forest.{offsets}
use Rattle.romfs_layout.proofs.Places.{first_even}
use Rattle.romfs_layout.proofs.Headers.{code_is}
use Rattle.romfs_layout.proofs.Stands.{says, says_target, number_is}
use Rattle.romfs_layout.proofs.Named.{dot_is_not}

-- a record of the rows is at q
abbrev pub IsListed : List Row → ℕ → Type 0
IsListed all q = list_any (λ (x : Row). eqb x.offset q) all ≡ true

-- a link may lead there
pub record IsTarget (b : List ℕ) (all : List Row) (q : ℕ) : Type 0 where
  pub even : q % 16 ≡ 0
  pub listed : IsListed all q
  pub live : type_of b q ≢ 0

-- each further name leads to a file
abbrev pub AreLed : List ℕ → List Row → (ℕ → ℕ) → Names → Type 0
AreLed b all at' nothing = Unit {0}
AreLed b all at' (leaf name i after) = AreLed b all at' after
AreLed b all at' (link name i after) =
    IsTarget b all (at' i.line) × (type_of b (at' i.line) ≢ 1) × AreLed b all at' after
AreLed b all at' (subdirectory name i own after) = AreLed b all at' own × AreLed b all at' after

pub follow_once : (b : List ℕ) (all : List Row) (p q : ℕ) → type_of b p ≡ 0 → spec_offset_of b p ≡ q
    → IsTarget b all q → follow b all 8 p ≡ Some q
unfolding follow
follow_once b all p q t e k = rw (eq-eqb (type_of b p) 0 t, e, k.listed, ne_eqb (type_of b q) 0 k.live) refl

plain_leads : (b : List ℕ) (all : List Row) (x : Row) → is_dots (name_of b x.offset) ≡ false → type_of b x.offset ≢ 0
    → LeadsWell b all x
plain_leads b all x d t = record {
  here = λ e. absurd (false≢true (sym d ∙ ap is_dots e));
  above = λ e. absurd (false≢true (sym d ∙ ap is_dots e));
  link = λ _ z. absurd (t z);
}

pub dot_leads : (b : List ℕ) (all : List Row) (x : Row) → name_of b x.offset ≡ dot
    → follow b all 8 x.offset ≡ Some x.directory → LeadsWell b all x
dot_leads b all x d f = record {
  here = λ e. f;
  above = λ e. absurd (dot_is_not (sym d ∙ e));
  link = λ e _. absurd (false≢true (sym e ∙ ap is_dots d));
}

pub dots_leads : (b : List ℕ) (all : List Row) (x : Row) → name_of b x.offset ≡ dot_dot
    → follow b all 8 x.offset ≡ Some x.parent → LeadsWell b all x
dots_leads b all x d f = record {
  here = λ e. absurd (dot_is_not (sym e ∙ d));
  above = λ e. f;
  link = λ e _. absurd (false≢true (sym e ∙ ap is_dots d));
}

pub leads : (b : List ℕ) (r : ℕ) (cs : List (List ℕ)) (at' : ℕ → ℕ) (all : List Row) (x : Reference)
    (dir up depth from : ℕ) (n : Names)
    → AreWell cs n → AreLed b all at' n → IsTarget b all dir
    → Every (Reads b cs) (headers at' dir from n)
    → Every (λ (i : Header). IsListed all i.place) (headers at' dir from n)
    → Every (LeadsWell b all) (rows (references b r) x dir up depth (offsets from n))
leads b r cs at' all x dir up depth from nothing h led d reads listed = tt
leads b r cs at' all x dir up depth from (leaf name i after) h led d reads listed =
    let g = references b r in
    let p = place_of from name i in
    let q = leaf_end from name i in
    let c = code_is i in
    let s = says b p (first_place q after) (code_of i) reads.0.word (first_even cs q after h.2) c.small in
    let head : Row = record { offset = p; reference = x; directory = dir; parent = up; depth = depth } in (
      plain_leads b all head (ap is_dots reads.0.name ∙ h.0.no_dots)
          (λ z. (number_is cs i h.1).1 (sym (s.kind ∙ c.kind) ∙ z)),
      leads b r cs at' all (g.after x) dir up depth q after h.2 led d reads.1 listed.1,
    )
leads b r cs at' all x dir up depth from (link name i after) h led d reads listed =
    let g = references b r in
    let p = pad16 from in
    let q = header_end from name in
    let s = says b p (first_place q after) 0 (reads.0.word ∙ omega arith) (first_even cs q after h.2) (omega arith) in
    let f = follow_once b all p (at' i.line) s.kind (says_target b p (at' i.line) reads.0.spec led.0.even) led.0 in
    let no_dots : is_dots (name_of b p) ≡ false = ap is_dots reads.0.name ∙ h.0.no_dots in (
      record {
        here = λ e. absurd (false≢true (sym no_dots ∙ ap is_dots e));
        above = λ e. absurd (false≢true (sym no_dots ∙ ap is_dots e));
        link = λ _ z. (at' i.line, f, led.1);
      },
      leads b r cs at' all (g.after x) dir up depth q after h.2 led.2 d reads.1 listed.1,
    )
leads b r cs at' all x dir up depth from (subdirectory name i own after) h led d reads listed =
    let g = references b r in
    let p = pad16 from in
    let he = header_end from name in
    let q = ends (he + 64) own in
    let c = code_is i in
    let mine = headers at' p (he + 64) own in
    let theirs = headers at' dir q after in
    let y1 = g.own x in
    let y2 = g.after y1 in
    let y3 = g.after y2 in
    let s = says b p (first_place q after) (code_of i) reads.0.word (first_even cs q after h.3) c.small in
    let s1 = says b he (he + 32) 0 (reads.1.0.word ∙ omega arith) (omega arith) (omega arith) in
    let s2 = says b (he + 32) (first_place (he + 64) own) 0 (reads.1.1.0.word ∙ omega arith)
    (first_even cs (he + 64) own h.2) (omega arith) in
    let kind : type_of b p ≡ 1 = s.kind ∙ c.kind ∙ ap number_of h.1.kind in
    let d' : IsTarget b all p =
    record { even = omega arith; listed = listed.0; live = λ z. absurd (omega (arith, kind, z)) } in
    let head : Row = record { offset = p; reference = x; directory = dir; parent = up; depth = depth } in
    let row1 : Row = record { offset = he; reference = y1; directory = p; parent = dir; depth = depth + 1 } in
    let row2 : Row = record { offset = he + 32; reference = y2; directory = p; parent = dir; depth = depth + 1 } in
    let own_rows = rows g y3 p dir (depth + 1) (offsets (he + 64) own) in
    let after_rows = rows g (g.after x) dir up depth (offsets q after) in
    let f1 = follow_once b all he p s1.kind (says_target b he p reads.1.0.spec (omega arith)) d' in
    let f2 = follow_once b all (he + 32) dir s2.kind (says_target b (he + 32) dir reads.1.1.0.spec d.even) d in
    let inner = leads b r cs at' all y3 p dir (depth + 1) (he + 64) own h.2 led.0 d'
    (every_left (Reads b cs) mine theirs reads.1.1.1)
    (every_left (λ (j : Header). IsListed all j.place) mine theirs listed.1.1.1) in
    let later = leads b r cs at' all (g.after x) dir up depth q after h.3 led.1 d
    (every_right (Reads b cs) mine theirs reads.1.1.1)
    (every_right (λ (j : Header). IsListed all j.place) mine theirs listed.1.1.1) in (
      plain_leads b all head (ap is_dots reads.0.name ∙ h.0.no_dots) (λ z. absurd (omega (arith, kind, z))),
      every_join (LeadsWell b all) (row1 ∷ row2 ∷ own_rows) after_rows
          (dot_leads b all row1 reads.1.0.name f1, (dots_leads b all row2 reads.1.1.0.name f2, inner)) later,
    )

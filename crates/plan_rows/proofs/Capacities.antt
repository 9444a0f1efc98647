-- What a format can hold is what the tests of a line's misfits say.
use Rattle.std.proofs.Common.{◌≡◌, ℕ, Bool, false, not, ◌==◌, nat_lt, inl, inr, refl}
use Rattle.std.proofs.Common.{sym, ap, ◌∙◌, arith}
use Rattle.std.specs.Prelude.{MatchOption}
use Rattle.std.proofs.lemmas.Bool.{cases_lt, lt-ltb, le-ltb}
use Rattle.std.proofs.lemmas.Bool.Decides.{eqb_tells}
use Rattle.formats.specs.Capacity.{capacity_of}
use Rattle.formats.specs.Format.{format_of}
use Rattle.formats.specs.declared.format.Format as code
use Rattle.formats.specs.declared.format.Format.TheVariants.{Romfs, Cramfs, CramfsBig}
use Rattle.manifest_layout.specs.Tests as tests
use Rattle.manifest_tree.specs.Names.{Inode}
use Rattle.plan_rows.specs.Misfits.{exceeds}

-- below a power of two, or up to one less
below : (n : ℕ) → nat_lt 16777215 n ≡ not (nat_lt n 16777216)
below n = elim (cases_lt n 16777216) [
  | inl h ↦ le-ltb 16777215 n (omega arith) ∙ sym (ap not (lt-ltb n 16777216 h))
  | inr h ↦ lt-ltb 16777215 n (omega arith) ∙ sym (ap not (le-ltb n 16777216 h))
]

positive : (n : ℕ) → nat_lt 0 n ≡ not (n == 0)
positive n = elim (eqb_tells n 0) [
  | inl h ↦ le-ltb 0 n (omega (arith, h)) ∙ sym (ap not h.0)
  | inr h ↦ lt-ltb 0 n (omega (arith, h)) ∙ sym (ap not h.0)
]

pub large_is : (f : code.Format) (n : ℕ) → nat_lt (capacity_of f).file n ≡ tests.is_large (format_of f) n
large_is Romfs n = refl
large_is Cramfs n = below n
large_is CramfsBig n = below n

pub long_is : (f : code.Format) (n : ℕ) (r : Bool)
    → MatchOption (capacity_of f).name (r ≡ false) (λ most. r ≡ nat_lt most n) → r ≡ tests.is_long (format_of f) n
long_is Romfs n r h = h
long_is Cramfs n r h = h
long_is CramfsBig n r h = h

pub long_volume_is : (f : code.Format) (n : ℕ) (r : Bool)
    → MatchOption (capacity_of f).volume (r ≡ false) (λ most. r ≡ nat_lt most n)
    → r ≡ tests.is_long_volume (format_of f) n
long_volume_is Romfs n r h = h
long_volume_is Cramfs n r h = h
long_volume_is CramfsBig n r h = h

pub no_links_is : (f : code.Format) → not (capacity_of f).has_hard_links ≡ tests.has_no_links (format_of f)
no_links_is Romfs = refl
no_links_is Cramfs = refl
no_links_is CramfsBig = refl

pub exceeds_is : (f : code.Format) (i : Inode) → exceeds (capacity_of f) i ≡ tests.bad_attribute (format_of f) i
exceeds_is Romfs i = rw (positive i.uid, positive i.gid) refl
exceeds_is Cramfs i = refl
exceeds_is CramfsBig i = refl

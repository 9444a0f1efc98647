-- `IsFoundAs`: what is found of a file in an image is what its bytes alone say of it. Only its last
-- page may be in place as well, if no other data are in it. (This project's own.)
use Rattle.std.specs.Prelude.{◌≡◌, ◌+◌, ℕ, Bool, if◌then◌else◌, Option, Some, None}
use Rattle.program_pages.specs.declared.counting.ProgramPages.{ProgramPages}
use Rattle.program_report.specs.declared.finding.Found.{Found}
use Rattle.program_report.specs.declared.finding.Verdict.{Verdict}
use Rattle.program_report.specs.declared.finding.Verdict.TheVariants.{InPlace, Not}

-- The same pages are loaded. By the second all that are not written are in place; but if the last
-- page of the file is shared, as many as by the first.
pub record HaveSamePages (shared : Bool) (p q : ProgramPages) : Type 0 where
  pub loaded : p.in_place + p.copied ≡ q.in_place + q.copied
  pub in_place : q.in_place ≡ (if shared then p.in_place else p.fixed)
  pub fixed : p.fixed ≡ q.fixed
  pub zero : p.zero ≡ q.zero
  pub used : p.used ≡ q.used

-- a program is in place by both, with such pages; or by neither, for the same reason
abbrev pub AreAlike : Bool → Verdict → Verdict → Type 0
AreAlike shared (InPlace p) (InPlace q) = HaveSamePages shared p q
AreAlike shared (Not r n) (Not s m) = (r ≡ s) × (n ≡ m)
AreAlike shared v w = ⊥

-- a file of `size` bytes from `start` on is found, with a verdict that is alike
pub record IsFoundBy (shared : Bool) (v : Verdict) (start size : ℕ) (f : Found) : Type 0 where
  pub begins : f.start ≡ start
  pub long : f.size ≡ size
  pub alike : AreAlike shared v f.verdict

-- it is found exactly if there is a verdict
abbrev pub IsFoundAs : Bool → Option Verdict → ℕ → ℕ → Option Found → Type 0
IsFoundAs shared None start size None = Unit {0}
IsFoundAs shared (Some v) start size (Some f) = IsFoundBy shared v start size f
IsFoundAs shared v start size f = ⊥

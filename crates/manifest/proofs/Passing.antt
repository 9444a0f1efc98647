-- What a bad line counts as.
use Rattle.std.proofs.Common.{◌≡◌, ℕ, true, false, cond, List, [], refl, subst, sym}
use Rattle.std.specs.Prelude.{codes}
use Rattle.std.specs.Str.{bytes_eq}
use Rattle.percent_encoding.specs.Percent.{percent_decode}
use Rattle.manifest.specs.declared.line.Line.{Line}
use Rattle.manifest.specs.declared.reader.Reached.{Reached}
use Rattle.manifest.specs.declared.reader.Reached.TheVariants.{Directory, RegularFile, Other}
use Rattle.manifest.specs.Faults.{making, word_of_kind, kind_of, counted, passed_by, passed_path}
use Rattle.manifest.specs.Grammar.{Seen, has_target}

kind_leads : (ls : List Line) (kind : Reached) (t : List ℕ) → has_target ls (word_of_kind kind) t ≡ true
kind_leads ls Directory t = refl
kind_leads ls RegularFile t = refl
kind_leads ls Other t = refl

pub making_leads : (ls : List Line) (l : Line) (n : ℕ) (kind : Reached) (path : List ℕ) → l ≡ making n kind path
    → has_target ls l.word l.text ≡ true
making_leads ls l n kind path e =
    subst (λ (m : Line). has_target ls m.word m.text ≡ true) (sym e) (kind_leads ls kind [])

pub passed_is : (s : Seen) (n : ℕ) (w p o : List ℕ) (l : Line) → bytes_eq w (codes "volume") ≡ false
    → l ≡ making n (kind_of s.latest w (percent_decode o)) (percent_decode p)
    → passed_by s n w p o
    ≡ record { latest = counted s.latest l; volume = s.volume; volume_line = s.volume_line }
passed_is s n w p o l e same =
    subst (λ b. cond b (record { latest = s.latest; volume = s.volume; volume_line = n }) (passed_path s n w p o)
    ≡ record { latest = counted s.latest l; volume = s.volume; volume_line = s.volume_line }) (sym e)
    (subst (λ (m : Line). passed_path s n w p o
    ≡ record { latest = counted s.latest m; volume = s.volume; volume_line = s.volume_line }) (sym same) refl)

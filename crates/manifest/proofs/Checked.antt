-- Each line of a manifest has no fault behind those before it.
use Rattle.std.proofs.Common.{◌≡◌, ℕ, ◌+◌, ◌==◌, Bool, true, false, not, ◌||◌, cond, List, [], ◌∷◌, reverse, Option}
use Rattle.std.proofs.Common.{None, Some, Result, Ok, Err, refl, sym, ap, subst}
use Rattle.std.specs.List.{list_any}
use Rattle.percent_encoding.specs.Percent.{percent_decode}
use Rattle.manifest.specs.declared.line.Line.{Line}
use Rattle.manifest.specs.declared.error.TheConstants.{BAD_WORD, BAD_PATH, NO_PARENT, EXISTS}
use Rattle.manifest.specs.declared.line.Word.{Word}
use Rattle.manifest.specs.declared.line.Word.TheVariants.{Dir, File, Slink, Block, Character, Fifo, Socket, Hard, Same}
use Rattle.std.specs.Option.{is_some}
use Rattle.std.specs.Str.{bytes_eq}
use Rattle.manifest.specs.Paths.{names_of, parent_of, is_bad_path}
use Rattle.manifest.specs.Texts.{pieces, is_empty, is_bad}
use Rattle.manifest.specs.Lines.{ManifestLines, is_dir, is_hard, line_at, led}
use Rattle.manifest.specs.Grammar.{Fault, Fields, Seen, manifest_of, read_lines, read, read_by, read_volume}
use Rattle.manifest.specs.Grammar.{read_fields, read_numbers, with_line, line_of, fields_of, volume_field, fault}
use Rattle.manifest.specs.Grammar.{fault_of, is_skipped, and_then, as_manifest, nothing_read, is_target, has_parent}
use Rattle.manifest.specs.Grammar.{has_target, is_bad_text}
use Rattle.manifest.specs.Reading.{is_no_directory}
use Rattle.manifest.proofs.Adding.{more_targets, sound_target}

-- the lines from the last to the first
abbrev pub AreChecked : List Line → Type 0
AreChecked [] = Unit {0}
AreChecked (l ∷ ls) = (fault_of ls l ≡ None) × AreChecked ls

same_latest : (s t : Seen) → ◌≡◌ {A = Result Seen Fault} (Ok s) (Ok t) → s.latest ≡ t.latest
same_latest s t e = ap (λ (x : Seen). x.latest) (injective e)
  where
    injective : ◌≡◌ {A = Result Seen Fault} (Ok s) (Ok t) → s ≡ t
    injective e = cc

of_line : (s t : Seen) (n : ℕ) (l : Line) (o : Option ℕ) → fault_of s.latest l ≡ o → AreChecked s.latest
    → with_line s n l o ≡ Ok t → AreChecked t.latest
of_line s t n l None e k h = subst AreChecked (same_latest _ t h) (e, k)
of_line s t n l (Some j) e k h = absurd (cc)

of_numbers : (s t : Seen) (n : ℕ) (o : Option Line) → AreChecked s.latest → read_numbers s n o ≡ Ok t
    → AreChecked t.latest
of_numbers s t n None k h = absurd (cc)
of_numbers s t n (Some l) k h = of_line s t n l (fault_of s.latest l) refl k h

of_fields : (s t : Seen) (n : ℕ) (o : Option Fields) → AreChecked s.latest → read_fields s n o ≡ Ok t
    → AreChecked t.latest
of_fields s t n None k h = absurd (cc)
of_fields s t n (Some f) k h = of_numbers s t n (line_of n f) k h

of_volume : (s t : Seen) (n : ℕ) (name : List ℕ) → AreChecked s.latest → read_volume s n name ≡ Ok t
    → AreChecked t.latest
of_volume s t n name k h = by (is_bad 255 name) (s.volume_line == 0) h
  where
    by : (a b : Bool) → cond a (fault n BAD_PATH)
        (cond b (Ok (record { latest = s.latest; volume = name; volume_line = n })) (fault n EXISTS)) ≡ Ok t
        → AreChecked t.latest
    by true b h = absurd (cc)
    by false true h = subst AreChecked (same_latest _ t h) k
    by false false h = absurd (cc)

of_kind : (s t : Seen) (n : ℕ) (fs : List (List ℕ)) (o : Option (List ℕ)) → AreChecked s.latest
    → read_by s n fs o ≡ Ok t → AreChecked t.latest
of_kind s t n fs (Some name) k h = of_volume s t n (percent_decode name) k h
of_kind s t n fs None k h = of_fields s t n (fields_of fs) k h

of_read : (s t : Seen) (n : ℕ) (line : List ℕ) → AreChecked s.latest → read s n line ≡ Ok t → AreChecked t.latest
unfolding read
of_read s t n line k h = by (list_any is_empty (pieces 32 line)) h
  where
    by : (b : Bool) → cond b (fault n BAD_WORD) (read_by s n (pieces 32 line) (volume_field (pieces 32 line))) ≡ Ok t
        → AreChecked t.latest
    by true h = absurd (cc)
    by false h = of_kind s t n (pieces 32 line) (volume_field (pieces 32 line)) k h

of_lines : (s t : Seen) (n : ℕ) (ls : List (List ℕ)) → AreChecked s.latest → read_lines s n ls ≡ Ok t
    → AreChecked t.latest
of_lines s t n [] k h = subst AreChecked (same_latest s t h) k
of_lines s t n (l ∷ ls) k h =
    elim (is_skipped l) as (λ b. cond b (read_lines s (n + 1) ls) (and_then (read s n l) (λ u. read_lines u (n + 1) ls))
    ≡ Ok t → AreChecked t.latest) [
      | true ↦ λ g. of_lines s t (n + 1) ls k g
      | false ↦ λ g. after (read s n l) refl g (λ u c. of_lines u t (n + 1) ls c)
    ] h
  where
    after : (r : Result Seen Fault) → read s n l ≡ r → and_then r (λ u. read_lines u (n + 1) ls) ≡ Ok t
        → ((u : Seen) → AreChecked u.latest → read_lines u (n + 1) ls ≡ Ok t → AreChecked t.latest)
        → AreChecked t.latest
    after (Err e) same g go = absurd (cc)
    after (Ok u) same g go = go u (of_read s u n l k same) g

-- the lines of a manifest, from the last to the first
pub record CheckedLines (m : ManifestLines) : Type 0 where
  pub latest : List Line
  pub reversed : m.lines ≡ reverse latest
  pub checked : AreChecked latest

pub checked_lines : (m : ManifestLines) (text : List ℕ) → manifest_of text ≡ Ok m → CheckedLines m
unfolding manifest_of
checked_lines m text h = by (read_lines nothing_read 1 (pieces 10 text)) refl h
  where
    injective : {x y : ManifestLines} → ◌≡◌ {A = Result ManifestLines Fault} (Ok x) (Ok y) → x ≡ y
    injective e = cc

    by : (r : Result Seen Fault) → read_lines nothing_read 1 (pieces 10 text) ≡ r → as_manifest r ≡ Ok m
        → CheckedLines m
    by (Err e) same g = absurd (cc)
    by (Ok s) same g = record {
      latest = s.latest;
      reversed = ap (λ (x : ManifestLines). x.lines) (sym (injective g));
      checked = of_lines nothing_read s 1 (pieces 10 text) tt same;
    }

-- each path leads to a file that is not a directory exactly if its line makes none
pub targets : (ls : List Line) → AreChecked ls → (q : List ℕ) → is_target (led ls q) ≡ is_no_directory (line_at ls q)
targets [] k q = refl
targets (l ∷ ls) k q = more_targets ls l (sound_target ls l k.0) (targets ls k.1) q

-- what a line without a fault has
pub sound_place : (ls : List Line) (l : Line) → fault_of ls l ≡ None
    → (has_parent ls (parent_of (names_of l.path)) ≡ true) × (is_some (line_at ls l.path) ≡ false)
unfolding fault_of
sound_place ls l h =
    by (is_bad_path (is_dir l.word) (names_of l.path) || is_bad_text l.word l.text)
    (has_parent ls (parent_of (names_of l.path))) (is_some (line_at ls l.path)) _ h
  where
    by : (a b c : Bool) (o : Option ℕ)
        → cond a (Some BAD_PATH) (cond (not b) (Some NO_PARENT) (cond c (Some EXISTS) o)) ≡ None
        → (b ≡ true) × (c ≡ false)
    by true b c o h = absurd (cc)
    by false false c o h = absurd (cc)
    by false true true o h = absurd (cc)
    by false true false o h = (refl, refl)

-- a path that a line has leads to a line
pub leads : (ls : List Line) (q : List ℕ) → AreChecked ls → is_some (line_at ls q) ≡ true → is_some (led ls q) ≡ true
leads [] q k h = absurd (cc)
leads (l ∷ ls) q k h =
    elim (bytes_eq l.path q) as (λ t. is_some (cond t (Some l) (line_at ls q)) ≡ true
    → is_some (cond t (cond (is_hard l.word) (led ls l.text) (Some l)) (led ls q)) ≡ true) [
      | true ↦ λ e. by l.word (sound_target ls l k.0)
      | false ↦ λ e. leads ls q k.1 e
    ] h
  where
    some_target : (o : Option Line) → is_target o ≡ true → is_some o ≡ true
    some_target None e = absurd (cc)
    some_target (Some x) e = refl

    by : (w : Word) → has_target ls w l.text ≡ true → is_some (cond (is_hard w) (led ls l.text) (Some l)) ≡ true
    by Dir e = refl
    by File e = refl
    by Slink e = refl
    by Block e = refl
    by Character e = refl
    by Fifo e = refl
    by Socket e = refl
    by Hard e = some_target (led ls l.text) e
    by Same e = refl

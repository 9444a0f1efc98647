-- A line by itself has the fault that it has behind other lines.
use Rattle.std.proofs.Common.{◌≡◌, ℕ, Bool, true, false, not, ◌||◌, ◌&&◌, cond, List, Option, None, Some, refl}
use Rattle.std.specs.Option.{is_some}
use Rattle.manifest.specs.declared.line.Line.{Line}
use Rattle.manifest.specs.declared.error.TheConstants.{BAD_PATH, NO_PARENT, EXISTS, BAD_ALIGN, BAD_TARGET}
use Rattle.manifest.specs.Alone.{own_fault}
use Rattle.manifest.specs.Grammar.{fault_of, has_parent, has_target, is_bad_text, is_align}
use Rattle.manifest.specs.Lines.{is_dir, is_file, line_at}
use Rattle.manifest.specs.Paths.{names_of, parent_of, is_bad_path}

tests : (a b c d e : Bool) → b ≡ true → c ≡ false → e ≡ true
    → cond a (Some BAD_PATH) (cond (not b) (Some NO_PARENT) (cond c (Some EXISTS)
    (cond d (Some BAD_ALIGN) (cond (not e) (Some BAD_TARGET) None))))
    ≡ cond a (Some BAD_PATH) (cond d (Some BAD_ALIGN) None)
tests true b c d e x y z = refl
tests false true false true e x y z = refl
tests false true false false true x y z = refl
tests false false c d e x y z = absurd (cc)
tests false true true d e x y z = absurd (cc)
tests false true false false false x y z = absurd (cc)

pub behind : (latest : List Line) (l : Line) → has_parent latest (parent_of (names_of l.path)) ≡ true
    → is_some (line_at latest l.path) ≡ false → has_target latest l.word l.text ≡ true
    → fault_of latest l ≡ own_fault l
unfolding fault_of
behind latest l parent free target =
    tests (is_bad_path (is_dir l.word) (names_of l.path) || is_bad_text l.word l.text)
    (has_parent latest (parent_of (names_of l.path)))
    (is_some (line_at latest l.path))
    (is_file l.word && not (is_align l.align))
    (has_target latest l.word l.text) parent free target

-- The map has what each path leads to among the lines.
use Rattle.std.proofs.Common.{◌≡◌, ℕ, Bool, true, false, ◌||◌, cond, List, [], ◌∷◌, Option, None, Some, refl, ap, ◌∙◌}
use Rattle.std.specs.Option.{is_some, option_map}
use Rattle.std.specs.Str.{bytes_eq}
use Rattle.manifest.specs.declared.line.Line.{Line}
use Rattle.manifest.specs.declared.line.Word.{Word}
use Rattle.manifest.specs.declared.line.Word.TheVariants.{Dir, File, Slink, Block, Character, Fifo, Socket, Hard, Same}
use Rattle.manifest.specs.declared.reader.Reached.TheVariants.{Directory, RegularFile, Other}
use Rattle.manifest.specs.Lines.{is_dir, is_hard, is_same, is_file, line_at, filed}
use Rattle.manifest.specs.Grammar.{is_dir_line}
use Rattle.manifest.specs.Reading.{reached, reached_by, to_directory, to_regular_file, to_no_directory, is_no_directory}

-- if no line has a path, it leads to no `file` line, and neither does that of a `dir`
filed_nowhere : (ls : List Line) (path : List ℕ) → line_at ls path ≡ None → filed ls path ≡ None
filed_nowhere [] path h = refl
filed_nowhere (l ∷ ls) path h =
    elim (bytes_eq l.path path) as (λ t. cond t (Some l) (line_at ls path) ≡ None
    → cond t (cond (is_hard l.word || is_same l.word) (filed ls l.text) (cond (is_file l.word) (Some l) None))
    (filed ls path) ≡ None) [
      | true ↦ λ e. absurd (cc)
      | false ↦ λ e. filed_nowhere ls path e
    ] h

filed_dir : (ls : List Line) (path : List ℕ) (m : Line) → line_at ls path ≡ Some m → is_dir m.word ≡ true
    → filed ls path ≡ None
filed_dir [] path m h d = absurd (cc)
filed_dir (l ∷ ls) path m h d =
    elim (bytes_eq l.path path) as (λ t. cond t (Some l) (line_at ls path) ≡ Some m
    → cond t (cond (is_hard l.word || is_same l.word) (filed ls l.text) (cond (is_file l.word) (Some l) None))
    (filed ls path) ≡ None) [
      | true ↦ λ e. no_contents l.word (ap is_dir (ap (λ (x : Line). x.word) (injective e)) ∙ d)
      | false ↦ λ e. filed_dir ls path m e d
    ] h
  where
    injective : Some l ≡ Some m → l ≡ m
    injective e = cc

    no_contents : (w : Word) → is_dir w ≡ true
        → cond (is_hard w || is_same w) (filed ls l.text) (cond (is_file w) (Some l) None) ≡ None
    no_contents w e = elim w as (λ v. is_dir v ≡ true
        → cond (is_hard v || is_same v) (filed ls l.text) (cond (is_file v) (Some l) None) ≡ None) [
          | Dir ↦ λ f. refl
          | File ↦ λ f. absurd (cc)
          | Slink ↦ λ f. absurd (cc)
          | Block ↦ λ f. absurd (cc)
          | Character ↦ λ f. absurd (cc)
          | Fifo ↦ λ f. absurd (cc)
          | Socket ↦ λ f. absurd (cc)
          | Hard ↦ λ f. absurd (cc)
          | Same ↦ λ f. absurd (cc)
        ] e

directory_by : (l : Line) (b : Bool) → is_dir l.word ≡ to_directory (Some (reached_by l b))
directory_by l b = by (is_dir l.word) b
  where
    by : (d b : Bool) → d ≡ to_directory (Some (cond d Directory (cond b RegularFile Other)))
    by true b = refl
    by false true = refl
    by false false = refl

pub directory_is : (ls : List Line) (path : List ℕ) → is_dir_line (line_at ls path) ≡ to_directory (reached ls path)
directory_is ls path = by (line_at ls path)
  where
    by : (o : Option Line) → is_dir_line o ≡ to_directory (option_map (λ l. reached_by l (is_some (filed ls path))) o)
    by None = refl
    by (Some l) = directory_by l (is_some (filed ls path))

pub stands_is : (ls : List Line) (path : List ℕ) → is_some (line_at ls path) ≡ is_some (reached ls path)
stands_is ls path = by (line_at ls path)
  where
    by : (o : Option Line) → is_some o ≡ is_some (option_map (λ l. reached_by l (is_some (filed ls path))) o)
    by None = refl
    by (Some l) = refl

pub no_directory_is : (ls : List Line) (path : List ℕ)
    → is_no_directory (line_at ls path) ≡ to_no_directory (reached ls path)
no_directory_is ls path = by (line_at ls path)
  where
    by_kind : (d b : Bool) → cond d false true ≡ to_no_directory (Some (cond d Directory (cond b RegularFile Other)))
    by_kind true b = refl
    by_kind false true = refl
    by_kind false false = refl

    by : (o : Option Line) → is_no_directory o
        ≡ to_no_directory (option_map (λ l. reached_by l (is_some (filed ls path))) o)
    by None = refl
    by (Some l) = by_kind (is_dir l.word) (is_some (filed ls path))

pub file_is : (ls : List Line) (path : List ℕ) → is_some (filed ls path) ≡ to_regular_file (reached ls path)
file_is ls path = by (line_at ls path) refl
  where
    by_kind : (d b : Bool) → (d ≡ true → b ≡ false)
        → b ≡ to_regular_file (Some (cond d Directory (cond b RegularFile Other)))
    by_kind true b h = h refl
    by_kind false true h = refl
    by_kind false false h = refl

    by : (o : Option Line) → line_at ls path ≡ o
        → is_some (filed ls path) ≡ to_regular_file (option_map (λ l. reached_by l (is_some (filed ls path))) o)
    by None e = ap is_some (filed_nowhere ls path e)
    by (Some l) e = by_kind (is_dir l.word) (is_some (filed ls path)) (λ d. ap is_some (filed_dir ls path l e d))

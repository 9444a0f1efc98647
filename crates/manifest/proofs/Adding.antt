-- What one more line does to what the reader keeps.
use Rattle.std.proofs.Common.{◌≡◌, ℕ, Bool, true, false, not, ◌||◌, ◌&&◌, cond, if◌then◌else◌, List, [], ◌∷◌, ◌++◌, map}
use Rattle.std.proofs.Common.{filter, reverse, Option, None, Some, refl, sym, ap, subst, ◌∙◌}
use Rattle.std.proofs.lemmas.List.{reverse-append}
use Rattle.std.specs.Option.{is_some, option_map}
use Rattle.std.specs.Str.{bytes_eq}
use Rattle.manifest.specs.declared.line.Line.{Line}
use Rattle.manifest.specs.declared.line.Word.{Word}
use Rattle.manifest.specs.declared.line.Word.TheVariants.{Dir, File, Slink, Block, Character, Fifo, Socket, Hard, Same}
use Rattle.manifest.specs.declared.error.TheConstants.{BAD_PATH, NO_PARENT, EXISTS, BAD_ALIGN, BAD_TARGET}
use Rattle.manifest.specs.declared.reader.Reader.{Reader}
use Rattle.manifest.specs.Paths.{names_of, is_bad_path, parent_of}
use Rattle.manifest.specs.Lines.{is_dir, is_hard, is_same, is_file, line_at, led, filed, sources_of}
use Rattle.manifest.specs.Grammar.{is_target, has_target, has_parent, fault_of, is_bad_text, is_align}
use Rattle.manifest.specs.Reading.{IsKept, Adds, HasMore, reached, reached_by, has_contents, is_no_directory}

some_by : {X : Type 0} (a b : Bool) (o : Option X) (x : X)
    → is_some (cond a o (cond b (Some x) None)) ≡ cond a (is_some o) b
some_by true b o x = refl
some_by false true o x = refl
some_by false false o x = refl

-- what the new line's path leads to
more_reached : (ls : List Line) (l : Line) (q : List ℕ)
    → (if bytes_eq l.path q then Some (reached_by l (has_contents ls l)) else reached ls q) ≡ reached (l ∷ ls) q
more_reached ls l q =
    elim (bytes_eq l.path q) as (λ t. cond t (Some (reached_by l (has_contents ls l))) (reached ls q)
    ≡ option_map (λ m. reached_by m (is_some
    (cond t (cond (is_hard l.word || is_same l.word) (filed ls l.text) (cond (is_file l.word) (Some l) None))
    (filed ls q)))) (cond t (Some l) (line_at ls q))) [
      | true ↦ ap (λ (b : Bool). Some (reached_by l b))
          (sym (some_by (is_hard l.word || is_same l.word) (is_file l.word) (filed ls l.text) l))
      | false ↦ refl
    ]

last_test : {X : Type 0} (a b c d e : Bool) (v w x y z : X)
    → cond a (Some v) (cond b (Some w) (cond c (Some x) (cond d (Some y) (cond (not e) (Some z) None)))) ≡ None
    → e ≡ true
last_test true b c d e v w x y z h = absurd (cc)
last_test false true c d e v w x y z h = absurd (cc)
last_test false false true d e v w x y z h = absurd (cc)
last_test false false false true e v w x y z h = absurd (cc)
last_test false false false false true v w x y z h = refl
last_test false false false false false v w x y z h = absurd (cc)

pub sound_target : (ls : List Line) (l : Line) → fault_of ls l ≡ None → has_target ls l.word l.text ≡ true
unfolding fault_of
sound_target ls l h =
    last_test
    (is_bad_path (is_dir l.word) (names_of l.path) || is_bad_text l.word l.text)
    (not (has_parent ls (parent_of (names_of l.path))))
    (is_some (line_at ls l.path))
    (is_file l.word && not (is_align l.align))
    (has_target ls l.word l.text) BAD_PATH NO_PARENT EXISTS BAD_ALIGN BAD_TARGET h

not_dir : (b : Bool) → not b ≡ cond b false true
not_dir true = refl
not_dir false = refl

target_by : (ls : List Line) (l : Line) → has_target ls l.word l.text ≡ true
    → is_target (cond (is_hard l.word) (led ls l.text) (Some l)) ≡ cond (is_dir l.word) false true
target_by ls l h = by l.word refl h
  where
    by : (w : Word) → l.word ≡ w → has_target ls w l.text ≡ true
        → is_target (cond (is_hard w) (led ls l.text) (Some l)) ≡ cond (is_dir w) false true
    by Dir e f = ap not (ap is_dir e)
    by File e f = ap not (ap is_dir e)
    by Slink e f = ap not (ap is_dir e)
    by Block e f = ap not (ap is_dir e)
    by Character e f = ap not (ap is_dir e)
    by Fifo e f = ap not (ap is_dir e)
    by Socket e f = ap not (ap is_dir e)
    by Hard e f = f
    by Same e f = ap not (ap is_dir e)

pub more_targets : (ls : List Line) (l : Line) → has_target ls l.word l.text ≡ true
    → ((q : List ℕ) → is_target (led ls q) ≡ is_no_directory (line_at ls q))
    → (q : List ℕ) → is_target (led (l ∷ ls) q) ≡ is_no_directory (line_at (l ∷ ls) q)
more_targets ls l s h q =
    elim (bytes_eq l.path q) as (λ t. is_target (cond t (cond (is_hard l.word) (led ls l.text) (Some l)) (led ls q))
    ≡ is_no_directory (cond t (Some l) (line_at ls q))) [
      | true ↦ target_by ls l s
      | false ↦ h q
    ]

pub sources-append : (ls ms : List Line) → sources_of (ls ++ ms) ≡ sources_of ls ++ sources_of ms
sources-append [] ms = refl
sources-append (l ∷ ls) ms = elim (is_file l.word) as
    (λ t. map (λ (m : Line). m.text) (cond t (l ∷ filter (λ m. is_file m.word) (ls ++ ms))
    (filter (λ m. is_file m.word) (ls ++ ms)))
    ≡ map (λ (m : Line). m.text) (cond t (l ∷ filter (λ m. is_file m.word) ls) (filter (λ m. is_file m.word) ls))
    ++ sources_of ms) [
      | true ↦ ap (λ (ts : List (List ℕ)). l.text ∷ ts) (sources-append ls ms)
      | false ↦ sources-append ls ms
    ]

pub adds : (old new : Reader) (l : Line) → IsKept old → has_target (reverse old.lines.items) l.word l.text ≡ true
    → new.lines.items ≡ old.lines.items ++ l ∷ [] → new.volume ≡ old.volume → new.volume_line ≡ old.volume_line
    → HasMore l.path (reached_by l (has_contents (reverse old.lines.items) l)) old.paths new.paths
    → new.sources.items ≡ old.sources.items ++ sources_of (l ∷ []) → Adds old new l
adds old new l k s lines volume volume_line more sources =
    let latest : reverse new.lines.items ≡ l ∷ reverse old.lines.items =
    ap reverse lines ∙ reverse-append old.lines.items (l ∷ []) in
    record {
      seen = rw (latest, volume, volume_line) refl;
      kept = record {
        paths = λ q. more q ∙ ap (λ o. cond (bytes_eq l.path q)
            (Some (reached_by l (has_contents (reverse old.lines.items) l))) o) (k.paths q)
            ∙ more_reached (reverse old.lines.items) l q ∙ ap (λ ls. reached ls q) (sym latest);
        targets = λ q. subst (λ ls. is_target (led ls q) ≡ is_no_directory (line_at ls q)) (sym latest)
            (more_targets (reverse old.lines.items) l s k.targets q);
        sources = sources ∙ ap (λ ts. ts ++ sources_of (l ∷ [])) k.sources
            ∙ sym (sources-append old.lines.items (l ∷ [])) ∙ ap sources_of (sym lines);
      };
    }

-- The path of each line of a manifest is a path.
use Rattle.std.proofs.Common.{◌≡◌, ℕ, zero, suc, ◌<◌, arith, length, get_or, true, false, Bool, List, [], ◌∷◌, reverse}
use Rattle.std.proofs.Common.{Option, Some, None, refl, sym, subst}
use Rattle.std.specs.List.{AllByRecursion as Every}
use Rattle.std.specs.Option.{is_some}
use Rattle.std.proofs.lemmas.List.{reverse-append}
use Rattle.record_forest.proofs.Lists.{every_weaker, every_join}
use Rattle.manifest.specs.declared.line.Line.{Line}
use Rattle.manifest.specs.Grammar.{IsManifest}
use Rattle.manifest.specs.Lines.{ManifestLines, is_dir}
use Rattle.manifest.specs.Paths.{names_of, is_bad_path}
use Rattle.manifest.proofs.Checked.{checked_lines}
use Rattle.manifest_layout.proofs.Led.{IsFaultless, all_faultless}

path_some : (root : Bool) (o : Option (List (List ℕ))) → is_bad_path root o ≡ false → is_some o ≡ true
path_some root None h = absurd (cc)
path_some root (Some ns) h = refl

back : (ls : List Line) → Every (λ l. is_some (names_of l.path) ≡ true) ls
    → Every (λ l. is_some (names_of l.path) ≡ true) (reverse ls)
back [] h = tt
back (l ∷ ls) h =
    subst (Every (λ (k : Line). is_some (names_of k.path) ≡ true)) (sym (reverse-append (l ∷ []) ls))
    (every_join (λ (k : Line). is_some (names_of k.path) ≡ true) (reverse ls) (l ∷ []) (back ls h.1) (h.0, tt))

pub are_paths : (m : ManifestLines) → IsManifest m → Every (λ l. is_some (names_of l.path) ≡ true) m.lines
are_paths m h =
    let c = checked_lines m h.0 h.1 in
    let f = every_weaker IsFaultless (λ (l : Line). is_some (names_of l.path) ≡ true)
    (λ l x. path_some (is_dir l.word) (names_of l.path) x.path) c.latest (all_faultless c.latest c.checked) in
    subst (Every (λ (l : Line). is_some (names_of l.path) ≡ true)) (sym c.reversed) (back c.latest f)

-- at an index
get_of : (ls : List Line) (i : ℕ) (d : Line) → i < length ls → Every (λ l. is_some (names_of l.path) ≡ true) ls
    → is_some (names_of (get_or ls i d).path) ≡ true
get_of [] i d h e = absurd (omega (arith, h))
get_of (l ∷ ls) zero d h e = e.0
get_of (l ∷ ls) (suc i) d h e = get_of ls i d (omega (arith, h)) e.1

pub path_at : (m : ManifestLines) (i : ℕ) (d l : Line) → IsManifest m → i < length m.lines → l ≡ get_or m.lines i d
    → is_some (names_of l.path) ≡ true
path_at m i d l w h e =
    subst (λ (k : Line). is_some (names_of k.path) ≡ true) (sym e) (get_of m.lines i d h (are_paths m w))

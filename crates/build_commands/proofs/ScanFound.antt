-- What was taken and what is left have the lines of all.
use Rattle.std.proofs.Common.{◌≡◌, ℕ, Bool, List, [], ◌∷◌, ◌++◌, length, map, refl, sym, ap, ◌∙◌, append_assoc}
use Rattle.std.proofs.Common.{append-nil, arith}
use Rattle.std.proofs.lemmas.List.{map-append}
use Rattle.build_commands.specs.Scanned.{Entry as Printed}
use Rattle.build_commands.specs.Seen.{entry_of}
use Rattle.build_commands.specs.declared.scanning.Found.{Found}
use Rattle.directory_walk.specs.Views.{names_of}
use Rattle.directory_walk.specs.declared.lister.Entry.{Entry}
use Rattle.build_commands.specs.ScanPrinted.{HaveSameLines}
use Rattle.build_commands.specs.Scans.{all_shown}

pub record Left (all rest : List (Entry Bool)) (fs : List Found) : Type 0 where
  pub found : (front : ℕ) → map (entry_of front) fs ++ all_shown front (names_of rest)
      ≡ all_shown front (names_of all)

abbrev pub found_as : Entry Bool → Found
found_as e = record { place = e.path; is_directory = e.known }

pub step : (all : List (Entry Bool)) (x : Entry Bool) (rest : List (Entry Bool)) (fs gs : List Found)
    → Left all (x ∷ rest) fs → gs ≡ fs ++ found_as x ∷ [] → Left all rest gs
step all x rest fs gs left is = record {
  found = λ front.
      ap (λ (l : List Found). map (entry_of front) l ++ all_shown front (names_of rest)) is
      ∙ ap (λ (l : List Printed). l ++ all_shown front (names_of rest))
      (map-append (entry_of front) fs (found_as x ∷ []))
      ∙ append_assoc (map (entry_of front) fs) (entry_of front (found_as x) ∷ []) (all_shown front (names_of rest))
      ∙ left.found front;
}

pub all_found : (all : List (Entry Bool)) (fs : List Found) → Left all [] fs → HaveSameLines (names_of all) fs
all_found all fs left = λ front. sym (append-nil (map (entry_of front) fs)) ∙ left.found front

pub nothing_left : {X : Type 0} (l : List X) → length l ≡ 0 → l ≡ []
nothing_left [] h = refl
nothing_left (x ∷ xs) h = absurd (omega arith)

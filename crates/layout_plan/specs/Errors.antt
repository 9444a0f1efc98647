-- `name_of_refusal`: the name of each refusal of a plan by its number, and `Unknown` for any other
-- number. (This project's own.)
use Rattle.std.specs.Prelude.{ℕ, List, ◌==◌, if◌then◌else◌, codes}
use Rattle.plan_rows.specs.declared.misfit.TheConstants.{ATTRIBUTE, TOO_LARGE, NAME_TOO_LONG}
use Rattle.plan_rows.specs.declared.misfit.TheConstants.{HARD_LINK}

abbrev pub name_of_refusal : ℕ → List ℕ
name_of_refusal n =
    if n == ATTRIBUTE then codes "Attribute"
    else (if n == TOO_LARGE then codes "TooLarge"
    else (if n == NAME_TOO_LONG then codes "NameTooLong"
    else (if n == HARD_LINK then codes "HardLink"
    else codes "Unknown")))

-- The misfits in words, by number. (This project's own.)
use Rattle.std.specs.Prelude.{ℕ, List, ◌==◌, if◌then◌else◌, codes}
use Rattle.plan_rows.specs.declared.misfit.TheConstants.{ATTRIBUTE, TOO_LARGE, NAME_TOO_LONG}
use Rattle.plan_rows.specs.declared.misfit.TheConstants.{HARD_LINK}

-- the sentence of the misfit of this number
abbrev pub misfit_sentence : ℕ → List ℕ
misfit_sentence n =
    if n == ATTRIBUTE then
    codes "the format cannot hold an owner, a group, a mode or a device's number"
    else (if n == TOO_LARGE then
    codes "a file, a list or the whole image is too large"
    else (if n == NAME_TOO_LONG then
    codes "a name is longer than the format allows"
    else (if n == HARD_LINK then
    codes "cramfs has no hard links: write same PATH MODE UID GID OLD instead of hard"
    else codes "no rule has this number")))

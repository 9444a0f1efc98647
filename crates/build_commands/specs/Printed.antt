-- What is printed of a build. (This project's own.)
use Rattle.std.specs.Prelude.{ℕ, List, ◌++◌, codes, decimal}
use Rattle.rom_fields.specs.Texts.{escaped}
use Rattle.layout_plan.specs.Errors.{name_of_refusal}
use Rattle.manifest.specs.Errors.{name_of_fault}
use Rattle.build_commands.specs.Warnings.{name_of_warning}

-- ok LENGTH, and a line feed
unfoldable pub built_line : ℕ → List ℕ
built_line len = codes "ok " ++ (decimal len ++ codes "\n")

-- WHO LINE NUMBER NAME, and a line feed
unfoldable pub refusal_line : List ℕ → ℕ → ℕ → List ℕ → List ℕ
refusal_line who line number name =
    who ++ (codes " " ++ (decimal line
    ++ (codes " " ++ (decimal number ++ (codes " " ++ (name ++ codes "\n"))))))

-- for an invalid manifest: its first faulty line, and the least fault of that line
abbrev pub manifest_line : ℕ → ℕ → List ℕ
manifest_line line number = refusal_line (codes "manifest") line number (name_of_fault number)

-- for a manifest that does not fit: the line of its least misfit, or 0 for the whole, and the
-- misfit
abbrev pub misfit_line : ℕ → ℕ → List ℕ
misfit_line line number = refusal_line (codes "plan") line number (name_of_refusal number)

-- for an image that would be too long: size LENGTH MOST, and a line feed
unfoldable pub size_line : ℕ → ℕ → List ℕ
size_line len most = codes "size " ++ (decimal len ++ (codes " " ++ (decimal most ++ codes "\n")))

-- for a strict scan that would change so many owners, groups and modes: unfit OWNERS GROUPS MODES,
-- and a line feed
unfoldable pub unfit_line : ℕ → ℕ → ℕ → List ℕ
unfit_line owners groups modes =
    codes "unfit " ++ (decimal owners
    ++ (codes " " ++ (decimal groups ++ (codes " " ++ (decimal modes ++ codes "\n")))))

-- for an image with a program that would not be executed in place: xip LINE REASON PATH, and a line
-- feed
unfoldable pub xip_line : ℕ → List ℕ → List ℕ → List ℕ
xip_line line reason path =
    codes "xip " ++ (decimal line ++ (codes " " ++ (reason ++ (codes " " ++ (escaped path
    ++ codes "\n")))))

-- for an image with a program that needs a file which it would not have: needs LINE PATH NAME, and
-- a line feed
unfoldable pub needs_line : ℕ → List ℕ → List ℕ → List ℕ
needs_line line path name =
    codes "needs " ++ (decimal line ++ (codes " " ++ (escaped path ++ (codes " " ++ (escaped name
    ++ codes "\n")))))

-- for an image with a program of which it is not known what it needs: unread LINE PATH, and a line
-- feed
unfoldable pub unread_line : ℕ → List ℕ → List ℕ
unread_line line path =
    codes "unread " ++ (decimal line ++ (codes " " ++ (escaped path ++ codes "\n")))

-- for a build that refuses what it would otherwise only warn of: the line of the least warning, or
-- 0 for the whole, and the warning
abbrev pub strict_line : ℕ → ℕ → List ℕ
strict_line line number = refusal_line (codes "strict") line number (name_of_warning number)

-- `error_number`, `error_name`: the number and the name of each error of a path. The names are
-- those of POSIX.1-2017, System Interfaces 2.3, "Error Numbers". The numbers are this project's
-- own.
use Rattle.std.specs.Prelude.{ℕ, List, codes}
use Rattle.path_walk.specs.declared.error.WalkError.{WalkError}
use Rattle.path_walk.specs.declared.error.WalkError.TheVariants.{Enoent, Enotdir, Eloop}
use Rattle.path_walk.specs.declared.error.WalkError.TheVariants.{Enametoolong, Einval}

abbrev pub error_number : WalkError → ℕ
error_number Enoent = 1
error_number Enotdir = 2
error_number Eloop = 3
error_number Enametoolong = 4
error_number Einval = 5

abbrev pub error_name : WalkError → List ℕ
error_name Enoent = codes "ENOENT"
error_name Enotdir = codes "ENOTDIR"
error_name Eloop = codes "ELOOP"
error_name Enametoolong = codes "ENAMETOOLONG"
error_name Einval = codes "EINVAL"

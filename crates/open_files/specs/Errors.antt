-- `error_number`, `error_name`: the number and the name of each error of a call. `error_of`: the
-- refusal of a walk. The names are those of POSIX.1-2017, System Interfaces 2.3, "Error Numbers".
-- The numbers are this project's own; the first five are those of a walk along a path.
use Rattle.std.specs.Prelude.{ℕ, List, codes}
use Rattle.path_walk.specs.declared.error.WalkError.{WalkError}
use Rattle.path_walk.specs.declared.error.WalkError.TheVariants as walk
use Rattle.open_files.specs.declared.error.CallError.{CallError}
use Rattle.open_files.specs.declared.error.CallError.TheVariants.{Enoent, Enotdir, Eloop}
use Rattle.open_files.specs.declared.error.CallError.TheVariants.{Enametoolong, Einval, Ebadf}
use Rattle.open_files.specs.declared.error.CallError.TheVariants.{Eisdir, Enxio, Emfile, Erange}
use Rattle.open_files.specs.declared.error.CallError.TheVariants.{Enodev, Ebusy}

abbrev pub error_number : CallError → ℕ
error_number Enoent = 1
error_number Enotdir = 2
error_number Eloop = 3
error_number Enametoolong = 4
error_number Einval = 5
error_number Ebadf = 6
error_number Eisdir = 7
error_number Enxio = 8
error_number Emfile = 9
error_number Erange = 10
error_number Enodev = 11
error_number Ebusy = 12

abbrev pub error_name : CallError → List ℕ
error_name Enoent = codes "ENOENT"
error_name Enotdir = codes "ENOTDIR"
error_name Eloop = codes "ELOOP"
error_name Enametoolong = codes "ENAMETOOLONG"
error_name Einval = codes "EINVAL"
error_name Ebadf = codes "EBADF"
error_name Eisdir = codes "EISDIR"
error_name Enxio = codes "ENXIO"
error_name Emfile = codes "EMFILE"
error_name Erange = codes "ERANGE"
error_name Enodev = codes "ENODEV"
error_name Ebusy = codes "EBUSY"

-- the refusal of a walk
abbrev pub error_of : WalkError → CallError
error_of walk.Enoent = Enoent
error_of walk.Enotdir = Enotdir
error_of walk.Eloop = Eloop
error_of walk.Enametoolong = Enametoolong
error_of walk.Einval = Einval

-- The program's subcommands with their arguments, as clap reads words for them. (This project's
-- own.)
use Rattle.std.specs.Prelude.{◌≡◌, ℕ, false, true, List, [], ◌∷◌, ◌++◌, codes, Some}
use Rattle.clap.specs.Words.{App, Rule, Shape, Text, new_rule, shape_of, with_rule}
use Rattle.clap.specs.Words.{with_subcommand}
use Rattle.clap.specs.Simple.{new_shape}
use Rattle.clap.specs.declared.builder.action.ArgAction.TheVariants.{Append, SetTrue}
use Rattle.clap.specs.declared.builder.command.Command.{Command}

-- a required value
abbrev pub value_rule : Text → Rule
value_rule name = record (new_rule name) { required = true; value_names = 1 }

-- one to eight values
abbrev pub few_rule : Text → Rule
few_rule name = record (value_rule name)
    { range = Some (record { start_inclusive = 1; end_inclusive = 8 }) }

-- one to 65,535 values
abbrev pub several_rule : Text → Rule
several_rule name = record (value_rule name)
    { range = Some (record { start_inclusive = 1; end_inclusive = 65535 }) }

-- at most 65,535 values
abbrev pub any_rule : Text → Rule
any_rule name = record (new_rule name)
    { value_names = 1; range = Some (record { start_inclusive = 1; end_inclusive = 65535 }) }

-- --NAME VALUE
abbrev pub option_rule : Text → Rule
option_rule name = record (new_rule name) { long = Some name; value_names = 1 }

-- --NAME VALUE, or a letter after a single - and VALUE
abbrev pub lettered_rule : ℕ → Text → Rule
lettered_rule letter name = record (option_rule name) { short = Some letter }

-- --NAME VALUE, any number of times
abbrev pub repeated_rule : Text → Rule
repeated_rule name = record (option_rule name) { action = Some Append }

-- --NAME
abbrev pub flag_rule : Text → Rule
flag_rule name = record (new_rule name) { long = Some name; action = Some SetTrue }

-- --explain
abbrev pub explain_rule : Rule
explain_rule = flag_rule (codes "explain")

abbrev pub shape_with : Text → List Rule → Shape
shape_with name rules = record (new_shape name) { rules = rules }

-- a command with more arguments
abbrev pub with_rules : App → List Rule → App
with_rules a [] = a
with_rules a (r ∷ rs) = with_rules (with_rule a r) rs

-- a command with more subcommands
abbrev pub with_shapes : App → List Shape → App
with_shapes a [] = a
with_shapes a (s ∷ ss) = with_shapes (with_subcommand a s) ss

-- the program without its subcommands: it has a version, and the option --explain
abbrev pub romtool_top : App
romtool_top = with_rule (record
    { top = record (new_shape (codes "romtool")) { has_version = true }; subs = [] })
    explain_rule

-- a subcommand with these arguments, and the option --explain
abbrev pub sub : Text → List Rule → Shape
sub name rules = shape_with name (rules ++ explain_rule ∷ [])

-- the option that every subcommand has that reads an image
abbrev pub most_rule : Rule
most_rule = option_rule (codes "max-size")

-- the subcommands that read one image or two
abbrev pub reading_shapes : List Shape
reading_shapes =
    sub (codes "check") (flag_rule (codes "each") ∷ most_rule ∷ several_rule (codes "image")
    ∷ [])
    ∷ sub (codes "list") (value_rule (codes "image") ∷ most_rule ∷ [])
    ∷ sub (codes "info") (value_rule (codes "image") ∷ option_rule (codes "size") ∷ most_rule
    ∷ [])
    ∷ sub (codes "map") (value_rule (codes "image") ∷ option_rule (codes "base")
    ∷ flag_rule (codes "all") ∷ flag_rule (codes "c") ∷ flag_rule (codes "ld")
    ∷ option_rule (codes "prefix") ∷ repeated_rule (codes "only") ∷ flag_rule (codes "svg")
    ∷ most_rule ∷ [])
    ∷ sub (codes "which") (value_rule (codes "image") ∷ option_rule (codes "base") ∷ most_rule
    ∷ several_rule (codes "address") ∷ [])
    ∷ sub (codes "diff") (value_rule (codes "old") ∷ value_rule (codes "new")
    ∷ flag_rule (codes "tree") ∷ most_rule ∷ [])
    ∷ sub (codes "digest") (value_rule (codes "file") ∷ flag_rule (codes "image") ∷ most_rule
    ∷ [])
    ∷ sub (codes "verify") (value_rule (codes "image") ∷ value_rule (codes "dump")
    ∷ option_rule (codes "offset") ∷ most_rule ∷ [])
    ∷ sub (codes "numbers") (value_rule (codes "image") ∷ flag_rule (codes "c") ∷ most_rule ∷ [])
    ∷ sub (codes "cat") (value_rule (codes "image") ∷ value_rule (codes "path") ∷ most_rule ∷ [])
    ∷ sub (codes "linux") (value_rule (codes "image") ∷ flag_rule (codes "needs") ∷ most_rule ∷ [])
    ∷ sub (codes "xip") (value_rule (codes "image") ∷ option_rule (codes "base")
    ∷ flag_rule (codes "no-mmu") ∷ flag_rule (codes "advice") ∷ most_rule ∷ [])
    ∷ []

-- the subcommands that serve and build images
abbrev pub building_shapes : List Shape
building_shapes =
    sub (codes "serve") (value_rule (codes "image") ∷ most_rule ∷ [])
    ∷ sub (codes "space") (most_rule ∷ few_rule (codes "image") ∷ [])
    ∷ sub (codes "build") (value_rule (codes "format") ∷ value_rule (codes "manifest")
    ∷ value_rule (codes "out") ∷ flag_rule (codes "no-follow") ∷ flag_rule (codes "strict")
    ∷ flag_rule (codes "xip") ∷ flag_rule (codes "needs") ∷ option_rule (codes "max-size")
    ∷ option_rule (codes "size")
    ∷ option_rule (codes "fill") ∷ lettered_rule 67 (codes "directory")
    ∷ option_rule (codes "depfile") ∷ [])
    ∷ sub (codes "pack") (value_rule (codes "format") ∷ several_rule (codes "folder")
    ∷ repeated_rule (codes "align") ∷ option_rule (codes "owner") ∷ flag_rule (codes "all-root")
    ∷ repeated_rule (codes "exclude") ∷ option_rule (codes "volume")
    ∷ option_rule (codes "devices") ∷ option_rule (codes "device-table")
    ∷ repeated_rule (codes "device")
    ∷ flag_rule (codes "dedupe") ∷ flag_rule (codes "one-file-system")
    ∷ flag_rule (codes "strict") ∷ flag_rule (codes "xip") ∷ flag_rule (codes "needs")
    ∷ option_rule (codes "max-size") ∷ option_rule (codes "size") ∷ option_rule (codes "fill")
    ∷ option_rule (codes "depfile") ∷ option_rule (codes "manifest") ∷ flag_rule (codes "quiet")
    ∷ [])
    ∷ []

-- the others
abbrev pub other_shapes : List Shape
other_shapes =
    sub (codes "scan") (several_rule (codes "folder") ∷ flag_rule (codes "all")
    ∷ option_rule (codes "for") ∷ repeated_rule (codes "align") ∷ option_rule (codes "owner")
    ∷ flag_rule (codes "all-root") ∷ repeated_rule (codes "exclude")
    ∷ option_rule (codes "volume") ∷ option_rule (codes "devices")
    ∷ option_rule (codes "device-table") ∷ repeated_rule (codes "device")
    ∷ flag_rule (codes "dedupe")
    ∷ lettered_rule 111 (codes "output") ∷ option_rule (codes "depfile")
    ∷ flag_rule (codes "one-file-system") ∷ flag_rule (codes "strict") ∷ [])
    ∷ sub (codes "extract") (value_rule (codes "image") ∷ value_rule (codes "folder")
    ∷ option_rule (codes "align") ∷ flag_rule (codes "owners") ∷ flag_rule (codes "no-sync")
    ∷ most_rule ∷ any_rule (codes "path") ∷ [])
    ∷ sub (codes "version") ([])
    ∷ []

-- the program
abbrev pub romtool_app : App
romtool_app =
    with_shapes (with_shapes (with_shapes romtool_top reading_shapes) building_shapes) other_shapes

-- a command of this shape
abbrev pub IsShaped : Shape → Command → Type 0
IsShaped s c = shape_of c ≡ s

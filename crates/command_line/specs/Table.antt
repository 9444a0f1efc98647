-- The rows of the table of subcommands, as clap reads words for them. (This project's own.)
use Rattle.std.specs.Prelude.{List, [], ◌∷◌, ◌++◌, map}
use Rattle.clap.specs.Words.{Rule, Shape}
use Rattle.command_line.specs.Commands.{few_rule, flag_rule, lettered_rule, option_rule}
use Rattle.command_line.specs.Commands.{repeated_rule, several_rule, shape_with, value_rule}
use Rattle.command_line.specs.Commands.{any_rule, explain_rule}
use Rattle.command_line.specs.declared.table.Word.{Word}
use Rattle.command_line.specs.declared.table.Subcommand.{Subcommand}
use Rattle.command_line.specs.declared.table.Kind.{Kind}
use Rattle.command_line.specs.declared.table.Kind.TheVariants.{Value, Few, Several, Option}
use Rattle.command_line.specs.declared.table.Kind.TheVariants.{Any, Lettered}
use Rattle.command_line.specs.declared.table.Kind.TheVariants.{Repeated, Flag}
use Rattle.clap.specs.Words.{Text}

-- an argument of this kind and name
abbrev pub rule_of_kind : Kind → Text → Rule
rule_of_kind Value name = value_rule name
rule_of_kind Few name = few_rule name
rule_of_kind Several name = several_rule name
rule_of_kind Any name = any_rule name
rule_of_kind Option name = option_rule name
rule_of_kind (Lettered letter) name = lettered_rule letter name
rule_of_kind Repeated name = repeated_rule name
rule_of_kind Flag name = flag_rule name

abbrev pub rule_named : Word → Rule
rule_named w = rule_of_kind w.kind w.name.now

-- a subcommand, with the option to explain in addition
abbrev pub shape_named : Subcommand → Shape
shape_named s = shape_with s.name.now (map rule_named s.words.now ++ explain_rule ∷ [])

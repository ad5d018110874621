-- How `clap` reads the words. No public contract cites a word of this module.
use Rattle.std.specs.Prelude.{◌≡◌, ℕ, true, false, List, Option, Some, None, codes, option_and_then, unwrap_or}
use Rattle.clap.specs.Words.{App, Row, Rule, Shape, Text, app_of, first_of, new_app, new_rule, one_of, with_rule, with_subcommand}
use Rattle.clap.specs.Simple.{on_top}
use Rattle.clap.specs.Values.{bool_text}
use Rattle.clap.specs.declared.builder.action.ArgAction.TheVariants.{SetTrue}
use Rattle.clap.specs.declared.builder.command.Command.{Command}
use Rattle.clap.specs.declared.builder.command.Command.TheViews.{out-Command}
use Rattle.lmn_app_words.specs.declared.parsing.ArgumentKind.{ArgumentKind}
use Rattle.lmn_app_words.specs.declared.parsing.ArgumentKind.TheVariants as argument
use Rattle.lmn_app_words.specs.declared.setting.OrderName.{OrderName}
use Rattle.lmn_app_words.specs.declared.setting.OrderName.TheVariants as name
use Rattle.lmn_app_words.specs.Forms.{Request, Run, ordered_by, pair_word, standing_first, standing_last, to_compile, to_demo, to_pair, to_run}
use Rattle.lmn_app_words.specs.Hearing.{number_written, order_named}

-- ---- the command line

-- a word that has to stand there
abbrev pub required_rule : Text → Rule
required_rule id = record (new_rule id) { required = true }

-- an option without a value
abbrev pub flag_rule : Text → Rule
flag_rule id = record (new_rule id) { long = Some id; action = Some SetTrue }

-- an option with a value
abbrev pub option_rule : Text → Rule
option_rule id = record (new_rule id) { long = Some id }

-- one of these, by its kind
abbrev pub argument_rule : ArgumentKind → Text → Rule
argument_rule argument.Required id = required_rule id
argument_rule argument.Flag id = flag_rule id
argument_rule argument.Valued id = option_rule id

-- with the options of `run` that have a value
abbrev pub with_options : App → App
with_options line = with_rule (with_rule (with_rule (with_rule line (option_rule (codes "budget"))) (option_rule (codes "size"))) (option_rule (codes "order"))) (option_rule (codes "seed"))

abbrev pub run_line : App
run_line = with_options (with_rule (with_rule (with_rule (new_app (codes "run")) (required_rule (codes "file"))) (flag_rule (codes "trace"))) (flag_rule (codes "folded")))

abbrev pub compile_line : App
compile_line = with_rule (new_app (codes "compile")) (required_rule (codes "file"))

abbrev pub demo_line : App
demo_line = with_rule (new_app (codes "demo")) (required_rule (codes "number"))

abbrev pub pair_line : Text → App
pair_line name = with_rule (with_rule (new_app name) (required_rule (codes "first"))) (required_rule (codes "last"))

-- no name of the program stands before the words, nothing is asked for but the commands, and one is
abbrev pub with_settings : Shape → Shape
with_settings top = record top { no_binary_name = true; disable_help_flag = true; disable_help_subcommand = true; subcommand_required = true }

abbrev pub bare_line : App
bare_line = on_top with_settings (new_app (codes "lmn"))

abbrev pub single_lines : App
single_lines = with_subcommand (with_subcommand (with_subcommand bare_line run_line.top) compile_line.top) demo_line.top

abbrev pub with_pair : App → Text → App
with_pair line name = with_subcommand line (pair_line name).top

abbrev pub whole_line : App
whole_line = with_pair (with_pair (with_pair (with_pair single_lines (codes "check")) (codes "debug")) (codes "exec")) (codes "bound")

-- a command is a line, in which no argument is global
abbrev pub IsLineOfCommand : Command → App → Type 0
IsLineOfCommand command line = (app_of command ≡ line) × ((out-Command command).has_globals ≡ false)

-- ---- what matches ask for

-- the number that an option has, or the default
abbrev pub number_given : List Row → Text → ℕ → ℕ
number_given rows id default = unwrap_or (option_and_then number_written (first_of id rows)) default

-- the name that `--order` has, or the default
abbrev pub order_given : List Row → OrderName
order_given rows = unwrap_or (option_and_then order_named (first_of (codes "order") rows)) name.First

-- the rows tell a run
pub record Tells (rows : List Row) (run : Run) : Type 0 where
  pub file : first_of (codes "file") rows ≡ Some run.file
  pub trace : one_of (codes "trace") rows ≡ Some (bool_text run.trace)
  pub folded : one_of (codes "folded") rows ≡ Some (bool_text run.folded)
  pub budget : number_given rows (codes "budget") 1000000 ≡ run.budget
  pub size : number_given rows (codes "size") 16777216 ≡ run.size
  pub order : ordered_by (order_given rows) (number_given rows (codes "seed") 0) ≡ run.order

-- the command that was found, with its rows, is this request
abbrev pub FoundIsRequest : Option (Text × List Row) → Request → Type 0
FoundIsRequest None request = ⊥
FoundIsRequest (Some found) (to_run run) = (found.0 ≡ codes "run") × Tells found.1 run
FoundIsRequest (Some found) (to_compile file) = (found.0 ≡ codes "compile") × (first_of (codes "file") found.1 ≡ Some file)
FoundIsRequest (Some found) (to_demo n) = (found.0 ≡ codes "demo") × (option_and_then number_written (first_of (codes "number") found.1) ≡ Some n)
FoundIsRequest (Some found) (to_pair pair) = (found.0 ≡ pair_word pair.kind) × (first_of (codes "first") found.1 ≡ Some (standing_first pair.kind pair.file pair.second))
    × (first_of (codes "last") found.1 ≡ Some (standing_last pair.kind pair.file pair.second))

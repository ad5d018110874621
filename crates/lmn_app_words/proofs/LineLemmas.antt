-- How the command line is built up.
use Rattle.std.proofs.Common.{◌≡◌, ◌∙◌, ap, ap₂, Bool, true, false, ◌||◌}
use Rattle.clap.specs.Built.{AddsArg, AddsSubcommand}
use Rattle.clap.specs.Simple.{App, app_of_fields, on_top, with_rule, with_subcommand}
use Rattle.clap.specs.Walk.{Rule, rule_of}
use Rattle.clap.specs.declared.builder.arg.Arg.{Arg}
use Rattle.clap.specs.declared.builder.command.Command.{Command}
use Rattle.clap.specs.declared.builder.command.Command.TheViews.{out-Command}
use Rattle.clap.specs.declared.builder.command.Command.TheOpen.{Command-F}
use Rattle.lmn_app_words.specs.Parsing.{IsLineOfCommand, with_settings}

-- one more argument
pub argument_more : (old new : Command) (a : Arg) (line : App) (rule : Rule) → AddsArg old a new → IsLineOfCommand old line → rule_of a ≡ rule → a.global ≡ false → IsLineOfCommand new (with_rule line rule)
argument_more old new a line rule adds is same local =
    (adds.shape local ∙ ap₂ with_rule is.0 same, adds.globals ∙ ap₂ (λ (b c : Bool). b || c) is.1 local)

-- one more command below
pub command_more : (old below new : Command) (line sub : App) → AddsSubcommand old below new → IsLineOfCommand old line → IsLineOfCommand below sub → IsLineOfCommand new (with_subcommand line sub.top)
command_more old below new line sub adds is found =
    (adds.shape found.1 ∙ ap₂ with_subcommand is.0 (ap (λ (a : App). a.top) found.0), adds.globals ∙ ap₂ (λ (b c : Bool). b || c) is.1 found.1)

-- the settings of the whole line
pub settings_made : (a b c d e : Command) (line : App) → IsLineOfCommand a line
    → out-Command b ≡ record (out-Command a) { no_binary_name = true } → out-Command c ≡ record (out-Command b) { disable_help_flag = true }
    → out-Command d ≡ record (out-Command c) { disable_help_subcommand = true } → out-Command e ≡ record (out-Command d) { subcommand_required = true }
    → IsLineOfCommand e (on_top with_settings line)
settings_made a b c d e line is f g h i =
    let same : out-Command e ≡ record (out-Command a) { no_binary_name = true; disable_help_flag = true; disable_help_subcommand = true; subcommand_required = true } =
    i ∙ ap (λ (x : Command-F Command). record x { subcommand_required = true }) h
    ∙ ap (λ (x : Command-F Command). record x { disable_help_subcommand = true; subcommand_required = true }) g
    ∙ ap (λ (x : Command-F Command). record x { disable_help_flag = true; disable_help_subcommand = true; subcommand_required = true }) f in
    (ap app_of_fields same ∙ ap (on_top with_settings) is.0, ap (λ (x : Command-F Command). x.has_globals) same ∙ is.1)

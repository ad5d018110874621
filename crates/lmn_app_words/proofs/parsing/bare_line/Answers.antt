use Rattle.lmn_app_words.proofs.LineLemmas.{settings_made}
use Rattle.lmn_app_words.proofs.parsing.bare_line.Goals as goal

pub returns : goal.returns
returns c =
    settings_made c.new.result c.no_binary_name.result c.disable_help_flag.result c.disable_help_subcommand.result c.subcommand_required.result _
    (c.new.ensures.app, c.new.ensures.local) c.no_binary_name.ensures c.disable_help_flag.ensures c.disable_help_subcommand.ensures c.subcommand_required.ensures

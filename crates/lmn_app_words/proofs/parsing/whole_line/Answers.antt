use Rattle.std.specs.Prelude.{codes}
use Rattle.clap.specs.Words.{with_subcommand}
use Rattle.lmn_app_words.specs.Parsing.{bare_line, compile_line, run_line, single_lines, with_pair}
use Rattle.lmn_app_words.proofs.parsing.whole_line.Goals as goal

pub returns : goal.returns
returns c =
    let run = c.with_command-with_run.ensures bare_line run_line c.bare_line.ensures c.run_line.ensures in
    let compile = c.with_word-with_compile.ensures (with_subcommand bare_line run_line.top) run in
    let demo = c.with_word-with_demo.ensures (with_subcommand (with_subcommand bare_line run_line.top) compile_line.top) compile in
    let check = c.with_pair-with_check.ensures single_lines demo in
    let debug = c.with_pair-with_debug.ensures (with_pair single_lines (codes "check")) check in
    let exec = c.with_pair-with_exec.ensures (with_pair (with_pair single_lines (codes "check")) (codes "debug")) debug in
    c.with_pair.ensures (with_pair (with_pair (with_pair single_lines (codes "check")) (codes "debug")) (codes "exec")) exec

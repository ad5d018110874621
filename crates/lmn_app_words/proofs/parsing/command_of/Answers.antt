use Rattle.std.proofs.Common.{◌∙◌, ap, rules, option_map, option_and_then, codes}
use Rattle.clap.specs.Words.{found_of, rows_of}
use Rattle.clap.proofs.WalkLemmas.{first_value-rows}
use Rattle.lmn_app_words.specs.Forms.{request_of}
use Rattle.lmn_app_words.specs.Hearing.{number_written}
use Rattle.lmn_app_words.proofs.FoundLemmas.{compile_found, demo_found, found_so}
use Rattle.lmn_app_words.proofs.parsing.command_of.Goals as goal

pub returns-in_err-get_str-in-compile : goal.returns-in_err-get_str-in-compile
returns-in_err-get_str-in-compile c = λ request found.
    ap (option_map request_of) c.from_residual-in_err-get_str-in-compile.ensures
    ∙ compile_found c.in_ok-name.name.now (rows_of (found_of c.in_ok-name.words.now)) request _ (search rules)
    (c.in_err-get_str-in-compile.ensures ∙ first_value-rows (found_of c.in_ok-name.words.now) (codes "file"))
    (found_so _ _ _ request c.in_ok-name.ensures.name c.in_ok-name.ensures.rows found)

pub returns-in_ok-get_str-in-compile : goal.returns-in_ok-get_str-in-compile
returns-in_ok-get_str-in-compile c = λ request found.
    compile_found c.in_ok-name.name.now (rows_of (found_of c.in_ok-name.words.now)) request _ (search rules)
    (c.in_ok-get_str-in-compile.ensures ∙ first_value-rows (found_of c.in_ok-name.words.now) (codes "file"))
    (found_so _ _ _ request c.in_ok-name.ensures.name c.in_ok-name.ensures.rows found)

pub returns-in_err-get_str-in-demo : goal.returns-in_err-get_str-in-demo
returns-in_err-get_str-in-demo c = λ request found.
    ap (option_map request_of) c.from_residual-in_err-get_str-in-demo.ensures
    ∙ demo_found c.in_ok-name.name.now (rows_of (found_of c.in_ok-name.words.now)) request _ (search rules)
    (ap (option_and_then number_written) (c.in_err-get_str-in-demo.ensures ∙ first_value-rows (found_of c.in_ok-name.words.now) (codes "number")))
    (found_so _ _ _ request c.in_ok-name.ensures.name c.in_ok-name.ensures.rows found)

pub returns-in_err-number-in-demo : goal.returns-in_err-number-in-demo
returns-in_err-number-in-demo c = λ request found.
    ap (option_map request_of) c.from_residual-in_err-number-in-demo.ensures
    ∙ demo_found c.in_ok-name.name.now (rows_of (found_of c.in_ok-name.words.now)) request _ (search rules)
    (c.in_err-number-in-demo.ensures ∙ ap (option_and_then number_written) (c.in_ok-get_str-in-demo.ensures ∙ first_value-rows (found_of c.in_ok-name.words.now) (codes "number")))
    (found_so _ _ _ request c.in_ok-name.ensures.name c.in_ok-name.ensures.rows found)

pub returns-in_ok-number-in-demo : goal.returns-in_ok-number-in-demo
returns-in_ok-number-in-demo c = λ request found.
    demo_found c.in_ok-name.name.now (rows_of (found_of c.in_ok-name.words.now)) request _ (search rules)
    (c.in_ok-number-in-demo.ensures ∙ ap (option_and_then number_written) (c.in_ok-get_str-in-demo.ensures ∙ first_value-rows (found_of c.in_ok-name.words.now) (codes "number")))
    (found_so _ _ _ request c.in_ok-name.ensures.name c.in_ok-name.ensures.rows found)

use Rattle.std.proofs.Common.{◌∙◌, ap, ap₂, Some, option_and_then, codes}
use Rattle.std.specs.Prelude.{unwrap_or}
use Rattle.std.proofs.lemmas.Option.{none-some}
use Rattle.clap.specs.Words.{found_of, rows_of}
use Rattle.clap.proofs.WalkLemmas.{first_value-rows, one_text-rows}
use Rattle.lmn_app_words.specs.declared.command.RunWords.{RunWords}
use Rattle.lmn_app_words.specs.declared.setting.OrderName.TheVariants as name
use Rattle.lmn_app_words.specs.Forms.{ordered_by}
use Rattle.lmn_app_words.specs.Hearing.{number_written, order_named}
use Rattle.lmn_app_words.proofs.FoundLemmas.{run_found}
use Rattle.lmn_app_words.proofs.parsing.run_words.Goals as goal

pub returns-in_err-file : goal.returns-in_err-file
returns-in_err-file c = λ run tells. absurd (none-some run.file (c.in_err-file.ensures ∙ first_value-rows (found_of c.args.matches.now) (codes "file") ∙ tells.file))

pub returns : goal.returns
returns c = λ run tells.
    let found = found_of c.args.matches.now in
    let trace = one_text-rows found (codes "trace") in
    let folded = one_text-rows found (codes "folded") in
    let seed = c.number_or-seed.ensures ∙ ap (λ o. unwrap_or (option_and_then number_written o) 0) (c.get_str-4.ensures ∙ first_value-rows found (codes "seed")) in
    let order = c.order_or_first.ensures ∙ ap (λ o. unwrap_or (option_and_then order_named o) name.First) (c.get_str-5.ensures ∙ first_value-rows found (codes "order")) in
    let words : RunWords = record {
      file = c.in_ok-file.file;
      settings = record { trace = c.get_flag-trace.result; folded = c.get_flag-folded.result; budget = c.number_or-budget.result; size = c.number_or-size.result; order = c.with_seed-order.result };
    } in
    ap Some (run_found (rows_of found) words run (c.in_ok-file.ensures ∙ first_value-rows found (codes "file"))
    (λ e. c.get_flag-trace.ensures.value (trace ∙ e)) (λ e. c.get_flag-trace.ensures.other (trace ∙ e))
    (λ e. c.get_flag-folded.ensures.value (folded ∙ e)) (λ e. c.get_flag-folded.ensures.other (folded ∙ e))
    (c.number_or-budget.ensures ∙ ap (λ o. unwrap_or (option_and_then number_written o) 1000000) (c.get_str-2.ensures ∙ first_value-rows found (codes "budget")))
    (c.number_or-size.ensures ∙ ap (λ o. unwrap_or (option_and_then number_written o) 16777216) (c.get_str-3.ensures ∙ first_value-rows found (codes "size")))
    (c.with_seed-order.ensures ∙ ap₂ ordered_by order seed) tells)

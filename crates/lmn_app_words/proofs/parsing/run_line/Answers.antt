use Rattle.lmn_app_words.proofs.parsing.run_line.Goals as goal

pub returns : goal.returns
returns c =
    let folded = c.with_argument-with_folded.ensures _ (c.with_argument-with_trace.ensures _ c.word_line-with_file.ensures) in
    c.with_argument.ensures _ (c.with_argument-with_order.ensures _ (c.with_argument-with_size.ensures _ (c.with_argument-with_budget.ensures _ folded)))

use Rattle.std.proofs.Common.{◌∙◌, ap, Some, codes}
use Rattle.std.proofs.lemmas.Option.{none-some, same_Some}
use Rattle.clap.specs.Words.{found_of, rows_of}
use Rattle.clap.proofs.WalkLemmas.{first_value-rows}
use Rattle.lmn_app_words.specs.Forms.{to_pair}
use Rattle.lmn_app_words.proofs.FoundLemmas.{kind_found, pair_same}
use Rattle.lmn_app_words.proofs.parsing.pair_found.Goals as goal

pub returns-in_err-first : goal.returns-in_err-first
returns-in_err-first c = λ pair found. absurd (none-some _ (c.in_err-first.ensures ∙ first_value-rows (found_of c.args.words.now) (codes "first") ∙ found.1))

pub returns-in_err-last : goal.returns-in_err-last
returns-in_err-last c = λ pair found. absurd (none-some _ (c.in_err-last.ensures ∙ first_value-rows (found_of c.args.words.now) (codes "last") ∙ found.2))

pub returns : goal.returns
returns c = λ pair found.
    let rows = rows_of (found_of c.args.words.now) in
    let first = same_Some _ _ (c.in_ok-first.ensures ∙ first_value-rows (found_of c.args.words.now) (codes "first") ∙ found.1) in
    let last = same_Some _ _ (c.in_ok-last.ensures ∙ first_value-rows (found_of c.args.words.now) (codes "last") ∙ found.2) in
    ap (λ p. Some (to_pair p)) (c.of_words.ensures ∙ pair_same pair c.in_ok-kind.kind _ _ (kind_found _ rows pair c.in_ok-kind.kind c.in_ok-kind.ensures found) first last)

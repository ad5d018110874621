use Rattle.std.proofs.Common.{ap, sym, ◌∙◌}
use Rattle.lmn_base.specs.Codes.{words_of_number}
use Rattle.lmn_base.proofs.CodeLemmas.{no_words, numbers_are_of_codes}
use Rattle.lmn_base.proofs.code.words_of_number.Goals as goal

pub returns-in-Some : goal.returns-in-Some
returns-in-Some c =
    let same = numbers_are_of_codes c.args.number c.in-Some.code (sym c.of_number.ensures ∙ c.in-Some.is) in
    c.words.ensures ∙ ap words_of_number (sym same)

pub returns-in-None : goal.returns-in-None
returns-in-None c = sym (no_words c.args.number (sym c.of_number.ensures ∙ c.in-None.is))

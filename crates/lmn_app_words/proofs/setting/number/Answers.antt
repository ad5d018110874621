use Rattle.std.proofs.Common.{◌≡◌, ◌≤◌, false, length, rules, ◌∙◌}
use Rattle.lmn_app_words.specs.Hearing.{begins_with}
use Rattle.lmn_app_words.proofs.WordLemmas.{number_parsed}
use Rattle.lmn_app_words.proofs.setting.number.Goals as goal

pub returns : goal.returns
returns c =
    let w = c.args.word.now in
    let short : length w ≤ 19 = search rules in
    let plus : begins_with 43 w ≡ false = search rules in
    c.ok.ensures.value ∙ number_parsed w c.parse.result short plus c.parse.ensures.value.0

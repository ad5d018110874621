use Rattle.std.proofs.Common.{ap, ◌∙◌, ◌-◌, ◌/◌, length}
use Rattle.lmn_lexer.proofs.FaultLemmas.{quoted_size}
use Rattle.lmn_lexer.proofs.fault.quoted_bytes.Goals as goal

pub returns : goal.returns
returns c = λ name h. ap (λ n. length c.args.bytes.now - 1 - n / 2) c.quotes.ensures ∙ quoted_size c.args.bytes.now name h

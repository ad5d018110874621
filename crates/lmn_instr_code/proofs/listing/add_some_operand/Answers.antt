use Rattle.std.proofs.Common.{ap, sym, ◌++◌, ◌∙◌, append-nil}
use Rattle.std.specs.Prelude.{codes, option_to_list}
use Rattle.lmn_io.proofs.TakingLemmas.{adds_as, adds_more}
use Rattle.lmn_instr_code.specs.Listings.{operand_text, operands_text}
use Rattle.lmn_instr_code.proofs.listing.add_some_operand.Goals as goal

pub returns-in-Some : goal.returns-in-Some
returns-in-Some g c =
    adds_as (sym (append-nil (codes " " ++ operand_text c.args.names.now c.in-Some.operand)) ∙ ap (λ o. operands_text c.args.names.now (option_to_list o)) (sym c.in-Some.is))
    (adds_more (codes " ") _ _ _ _ c.add.ensures c.add_operand.ensures)

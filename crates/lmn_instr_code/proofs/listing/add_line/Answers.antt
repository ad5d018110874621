use Rattle.std.proofs.Common.{ap, ◌∙◌}
use Rattle.std.specs.Prelude.{codes, option_to_list}
use Rattle.lmn_io.proofs.TakingLemmas.{adds_as, adds_more}
use Rattle.lmn_instr_code.specs.Listings.{operands_text}
use Rattle.lmn_instr_code.specs.Opcodes.{opcode_name}
use Rattle.lmn_instr_code.specs.Words.{mnemonic, operands}
use Rattle.lmn_instr_code.proofs.ListingLemmas.{pieces}
use Rattle.lmn_instr_code.proofs.listing.add_line.Goals as goal

pub returns : goal.returns
returns g c =
    let names = c.args.names.now in
    adds_more (codes "  ") _ _ _ _ c.add.ensures
    (adds_more (mnemonic c.args.instr.now) _ _ _ _ (adds_as (c.name.ensures ∙ ap opcode_name c.operands_of-opcode.ensures.opcode) c.add-2.ensures)
    (adds_more (operands_text names (operands c.args.instr.now)) (codes "\n") _ _ _
    (adds_as (pieces names c.operands_of-opcode.result ∙ ap (operands_text names) c.operands_of-opcode.ensures.operands)
    (adds_more (operands_text names (option_to_list c.operands_of-opcode.result.first)) _ _ _ _ c.add_some_operand.ensures
    (adds_more (operands_text names (option_to_list c.operands_of-opcode.result.second)) _ _ _ _ c.add_some_operand-2.ensures
    (adds_more (operands_text names (option_to_list c.operands_of-opcode.result.third)) _ _ _ _ c.add_some_operand-3.ensures c.add_parts.ensures))))
    c.add-3.ensures))

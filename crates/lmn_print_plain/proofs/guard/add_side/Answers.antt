use Rattle.lmn_io.proofs.TakingLemmas.{adds_as, adds_more}
use Rattle.lmn_congruence.specs.Translation.{expression_of}
use Rattle.lmn_flatten_plain.specs.Words.{operand_pieces, text_of}
use Rattle.lmn_print_plain.proofs.GuardLemmas.{side_text}
use Rattle.lmn_print_plain.proofs.guard.add_side.Goals as goal

pub returns-in-Op : goal.returns-in-Op
returns-in-Op g c =
    adds_as (side_text c.args.names.now c.args.side.now c.in-Op.op c.in-Op.left c.in-Op.right c.deref.result.now c.deref-in-Op.result.now c.operator_text.result.now c.in-Op.is c.deref.ensures c.deref-in-Op.ensures c.operator_text.ensures)
    (adds_more (text_of (operand_pieces (expression_of c.args.names.now c.deref.result.now))) _ _ _ _ c.add_operand.ensures (adds_more c.operator_text.result.now _ _ _ _ c.add.ensures c.add_operand-in-Op.ensures))

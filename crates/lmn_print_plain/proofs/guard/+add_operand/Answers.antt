use Rattle.std.specs.Prelude.{codes}
use Rattle.lmn_io.proofs.TakingLemmas.{adds_as, adds_more}
use Rattle.lmn_congruence.specs.Translation.{expression_of}
use Rattle.lmn_flatten_plain.specs.Words.{operand_pieces, text_of}
use Rattle.lmn_print_plain.proofs.GuardLemmas.{operand_text}
use Rattle.lmn_print_plain.proofs.guard.+add_operand.Goals as goal

pub returns-in-Op : goal.returns-in-Op
returns-in-Op g t c =
    adds_as (operand_text c.args.names.now c.args.operand.now c.in-Op.op c.in-Op.left c.in-Op.right c.deref.result.now c.deref-in-Op.result.now c.operator_text.result.now c.in-Op.is c.deref.ensures c.deref-in-Op.ensures c.operator_text.ensures)
    (adds_more (codes "(") _ _ _ _ c.add.ensures (adds_more (text_of (operand_pieces (expression_of c.args.names.now c.deref.result.now))) _ _ _ _ c.add_operand.ensures (adds_more c.operator_text.result.now _ _ _ _ c.add-in-Op.ensures
    (adds_more (text_of (operand_pieces (expression_of c.args.names.now c.deref-in-Op.result.now))) (codes ")") _ _ _ c.add_operand-in-Op.ensures c.add-in-Op-2.ensures))))

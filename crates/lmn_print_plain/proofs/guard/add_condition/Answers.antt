use Rattle.std.specs.Prelude.{codes, ◌++◌}
use Rattle.lmn_congruence.specs.Translation.{expression_of, name_of}
use Rattle.lmn_io.proofs.TakingLemmas.{adds_as, adds_more}
use Rattle.lmn_flatten_plain.specs.Words.{side_pieces, text_of}
use Rattle.lmn_print_plain.proofs.LeafLemmas.{compare_text, equal_text, differ_text}
use Rattle.lmn_print_plain.proofs.guard.add_condition.Goals as goal

pub returns-in-Compare : goal.returns-in-Compare
returns-in-Compare g c =
    adds_as (compare_text c.args.names.now c.args.condition.now c.in-Compare.op c.in-Compare.left c.in-Compare.right c.in-Compare.pos c.comparison_text.result.now c.in-Compare.is c.comparison_text.ensures)
    (adds_more (text_of (side_pieces (expression_of c.args.names.now c.in-Compare.left))) _ _ _ _ c.add_side.ensures (adds_more c.comparison_text.result.now _ _ _ _ c.add.ensures c.add_side-in-Compare.ensures))

pub returns-in-Equal : goal.returns-in-Equal
returns-in-Equal g c =
    adds_as (equal_text c.args.names.now c.args.condition.now c.in-Equal.left c.in-Equal.right c.in-Equal.pos c.in-Equal.is)
    (adds_more (codes "$" ++ name_of c.args.names.now c.in-Equal.left.name) _ _ _ _ c.add_context.ensures (adds_more (codes " = ") _ _ _ _ c.add-in-Equal.ensures c.add_side-in-Equal.ensures))

pub returns-in-Differ : goal.returns-in-Differ
returns-in-Differ g c =
    adds_as (differ_text c.args.names.now c.args.condition.now c.in-Differ.left c.in-Differ.right c.in-Differ.pos c.in-Differ.is)
    (adds_more (codes "$" ++ name_of c.args.names.now c.in-Differ.left.name) _ _ _ _ c.add_context-in-Differ.ensures (adds_more (codes " \\= ") _ _ _ _ c.add-in-Differ.ensures c.add_context-in-Differ-2.ensures))

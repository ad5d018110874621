use Rattle.std.proofs.lemmas.Grind.{common_steps}
use Rattle.std.proofs.Common.{arith}
use Rattle.std.specs.Prelude.{codes, false, map}
use Rattle.lmn_io.proofs.TakingLemmas.{adds_as, adds_more}
use Rattle.lmn_print_plain.specs.Parts.{context_text}
use Rattle.lmn_print_plain.specs.Rows.{in_row}
use Rattle.lmn_print_plain.proofs.LeafLemmas.{arguments_all}
use Rattle.lmn_print_plain.proofs.leaves.add_arguments.Goals as goal

pub returns : goal.returns
returns g c =
    adds_as (arguments_all c.args.names.now c.args.args.now (grind (arith, common_steps, c.is_empty.ensures, c.if-is_empty.false)))
    (adds_more (codes "(") _ _ _ _ c.add.ensures (adds_more (in_row (codes ", ") false (map (context_text c.args.names.now (codes "$")) c.args.args.now)) (codes ")") _ _ _ c.add_contexts.ensures.text c.add-2.ensures))

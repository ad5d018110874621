use Rattle.std.specs.Prelude.{codes, ◌++◌}
use Rattle.lmn_congruence.specs.Translation.{name_of}
use Rattle.lmn_io.proofs.TakingLemmas.{adds_as, adds_more}
use Rattle.lmn_flatten_plain.specs.Words.{link_name}
use Rattle.lmn_print_plain.proofs.LeafLemmas.{typed_text}
use Rattle.lmn_print_plain.proofs.leaves.add_leaf.Goals as goal

pub returns-in-Typed : goal.returns-in-Typed
returns-in-Typed g c =
    adds_as (typed_text c.args.names.now c.args.leaf.now c.in-Typed.name c.in-Typed.link c.in-Typed.pos c.in-Typed.is)
    (adds_more (codes "$" ++ name_of c.args.names.now c.in-Typed.name) _ _ _ _ c.add_context.ensures (adds_more (codes "[") _ _ _ _ c.add.ensures (adds_more (link_name c.in-Typed.link.link) (codes "]") _ _ _ c.add_link.ensures c.add-in-Typed.ensures)))

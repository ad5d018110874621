use Rattle.std.proofs.Common.{sym, ◌∙◌, get_or}
use Rattle.std.specs.Prelude.{codes}
use Rattle.lmn_io.proofs.TakingLemmas.{adds_as, adds_more}
use Rattle.lmn_flatten_plain.specs.Words.{link_name}
use Rattle.lmn_print_plain.proofs.LeafLemmas.{connector_text, atom_text_is}
use Rattle.lmn_print_plain.proofs.leaves.add_atom.Goals as goal

pub returns-then-is_connector : goal.returns-then-is_connector
returns-then-is_connector g c =
    adds_as (connector_text c.args.names.now c.args.label c.args.links.now _ _ (sym c.is_connector.ensures ∙ c.if-is_connector.true))
    (adds_more (link_name (get_or c.args.links.now 0 _).link) _ _ _ _ c.add_link.ensures (adds_more (codes " = ") (link_name (get_or c.args.links.now 1 _).link) _ _ _ c.add.ensures c.add_link-then-is_connector.ensures))

pub returns-else-is_connector : goal.returns-else-is_connector
returns-else-is_connector g c =
    adds_as (atom_text_is c.args.names.now c.args.label c.args.links.now (sym c.is_connector.ensures ∙ c.if-is_connector.false)) (adds_more _ _ _ _ _ c.add_label.ensures c.add_links.ensures)

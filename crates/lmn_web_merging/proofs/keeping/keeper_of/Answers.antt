use Rattle.std.proofs.Common.{◌<◌, sym, ap, subst, ◌∙◌, arith}
use Rattle.std.specs.Option.{option_map}
use Rattle.lmn_web_cells.specs.CellIds.{cell_id, port_id}
use Rattle.lmn_web.specs.Webs.{web_by}
use Rattle.lmn_web_merging.proofs.Seen.{own_keeper, led_keeper}
use Rattle.lmn_web_merging.proofs.keeping.keeper_of.Goals as goal

pub partner-requires : goal.partner-requires
partner-requires c = subst (λ n. 0 < n) (sym c.requires.ports) (omega arith)

pub returns-in-None : goal.returns-in-None
returns-in-None c = sym (own_keeper (web_by c.args.web.now) (cell_id c.args.m) (c.partner.ensures ∙ ap (option_map port_id) c.in-None.is))

pub returns-in-Some : goal.returns-in-Some
returns-in-Some c = sym (led_keeper (web_by c.args.web.now) (cell_id c.args.m) (port_id (c.in-Some.k, _)) c.requires.membrane (c.partner.ensures ∙ ap (option_map port_id) c.in-Some.is))

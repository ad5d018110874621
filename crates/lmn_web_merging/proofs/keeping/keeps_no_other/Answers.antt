use Rattle.std.proofs.Common.{◌<◌, sym, ap, subst, ◌∙◌, inl, arith}
use Rattle.std.specs.Option.{option_map}
use Rattle.lmn_web_cells.specs.CellIds.{cell_id, port_id}
use Rattle.lmn_web.specs.Webs.{web_by}
use Rattle.lmn_web_merging.proofs.Seen.{own_keeper}
use Rattle.lmn_web_merging.proofs.keeping.keeps_no_other.Goals as goal

pub partner-requires : goal.partner-requires
partner-requires c = subst (λ i. 0 < i) (sym c.requires.ports) (omega arith)

pub returns-in-None : goal.returns-in-None
returns-in-None c _ = inl (own_keeper (web_by c.args.web.now) (cell_id c.args.n) (c.partner.ensures ∙ ap (option_map port_id) c.in-None.is))

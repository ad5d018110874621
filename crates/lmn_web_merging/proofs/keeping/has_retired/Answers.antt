use Rattle.std.proofs.Common.{◌==◌, ◌≤◌, sym, ap, subst, ◌∙◌, arith}
use Rattle.lmn_web_cells.specs.CellIds.{cell_id}
use Rattle.lmn_web.specs.Webs.{web_by}
use Rattle.lmn_web_merging.specs.Keepers.{RETIRED}
use Rattle.lmn_web_merging.proofs.Sending.{kind_there}
use Rattle.lmn_web_merging.proofs.Trading.{retired_mark}
use Rattle.lmn_web_merging.proofs.keeping.has_retired.Goals as goal

pub mark-requires-clause-there : goal.mark-requires-clause-there
mark-requires-clause-there c = kind_there (web_by c.args.web.now (cell_id c.args.m)) c.requires.membrane

pub mark-requires-clause-slot : goal.mark-requires-clause-slot
mark-requires-clause-slot c = subst (λ n. 1 ≤ n) (sym c.requires.ports) (omega arith)

pub returns : goal.returns
returns c = ap (λ z. z == RETIRED) c.mark.ensures ∙ sym (retired_mark (web_by c.args.web.now (cell_id c.args.m)) c.requires.membrane)

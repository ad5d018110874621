use Rattle.lmn_web_cells.specs.Rows.{place_of}
use Rattle.lmn_web_cells.proofs.FillLemmas.{LinksDone}
use Rattle.lmn_web_cells.proofs.filling.fill_links.Given as goal

abbrev pub invariant-loop-k : goal.invariant-loop-k
invariant-loop-k l = LinksDone l.fn.rows.rows l.rows.rows (place_of l.at) l.k

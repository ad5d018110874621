use Rattle.lmn_app.proofs.SmallExecutions.{no_run_at_once, small_execution, small_listing_is_read, small_listing_is_wrong}
use Rattle.lmn_app.proofs.laws.small_text_is_executed.Goals as goal

pub returns-clause-read : goal.returns-clause-read
returns-clause-read c = small_listing_is_read c.listed_codes_are_one.ensures.read

pub returns-clause-wrong : goal.returns-clause-wrong
returns-clause-wrong c = small_listing_is_wrong c.listed_codes_are_one.ensures.refused c.listed_lines_stand.ensures

pub returns-clause-executed : goal.returns-clause-executed
returns-clause-executed c = small_execution c.heaps_run_as_solids.ensures

pub returns-clause-not_so : goal.returns-clause-not_so
returns-clause-not_so c = no_run_at_once c.listed_codes_are_one.ensures.read c.graphs_have_heaps.ensures c.heaps_are_graphs.ensures.preorder c.heads_are_alike.ensures

use Rattle.lmn_app_reading.proofs.Readings.{all_read, links_refused, well_made, with_each}
use Rattle.lmn_app_reading.specs.Texts.{LeavesNames}
use Rattle.lmn_app_reading.proofs.reading.read.Goals as goal

pub check_links-requires : goal.check_links-requires
check_links-requires c = let h = c.in_ok-plain.ensures.reads in well_made c.args.text.now c.plain_of.new.names c.in_ok-plain.plain h.0 h.1

pub returns-in-Err-clause-reads : goal.returns-in-Err-clause-reads
returns-in-Err-clause-reads c = let h = c.in_ok-plain.ensures.reads in
    links_refused c.args.text.now c.plain_of.new.names c.in_ok-plain.plain c.check_links.result c.in-Err.refusal h.0 h.1 c.in-Err.is c.check_links.ensures

pub returns-in-Ok-clause-reads : goal.returns-in-Ok-clause-reads
returns-in-Ok-clause-reads c = let h = c.in_ok-plain.ensures.reads in
    all_read c.args.text.now c.plain_of.new.names c.in_ok-plain.plain c.check_links.result tt c.with_plans.result h.0 h.1 c.in-Ok.is c.check_links.ensures c.with_plans.ensures

pub returns-in-Ok-clause-names : goal.returns-in-Ok-clause-names
returns-in-Ok-clause-names c = with_each (LeavesNames c.args.text.now c.args.names.now c.plain_of.new.names) c.with_plans.result c.in_ok-plain.ensures.names

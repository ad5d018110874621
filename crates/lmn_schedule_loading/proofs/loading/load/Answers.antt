use Rattle.lmn_schedule_loading.proofs.Items.{fits_in, too_large}
use Rattle.lmn_schedule_loading.proofs.loading.load.Goals as goal

pub returns-then-items-size-clause-fault : goal.returns-then-items-size-clause-fault
returns-then-items-size-clause-fault g c = too_large c.args.plain.now c.number_of_items-items.result c.args.size c.number_of_items-items.ensures c.if-items-size.true

pub returns-in-Ok-clause-fits : goal.returns-in-Ok-clause-fits
returns-in-Ok-clause-fits g c = fits_in c.args.plain.now c.number_of_items-items.result c.args.size c.requires.size c.number_of_items-items.ensures c.if-items-size.false

pub returns-in-Err-clause-fault : goal.returns-in-Err-clause-fault
returns-in-Err-clause-fault g c = fits_in c.args.plain.now c.number_of_items-items.result c.args.size c.requires.size c.number_of_items-items.ensures c.if-items-size.false

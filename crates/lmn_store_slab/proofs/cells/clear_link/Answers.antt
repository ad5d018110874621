use Rattle.lmn_store_slab.proofs.cells.clear_link.Goals as goal

pub returns-in-Some : goal.returns-in-Some
returns-in-Some c = rw c.in-Some.is c.set_link.ensures

use Rattle.lmn_schedule.proofs.AllWake.{Rousing}
use Rattle.lmn_schedule.proofs.rousing.rouse_all.Given as goal

abbrev pub invariant-loop-counted : goal.invariant-loop-counted
invariant-loop-counted g l = record { rousing : Rousing (g.S.LinkStore.heap l.fn.store) (g.S.LinkStore.heap l.store) l.counted (g.S.LinkStore.mem_id l.at) }

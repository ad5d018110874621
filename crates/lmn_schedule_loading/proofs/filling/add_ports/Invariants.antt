use Rattle.std.proofs.Common.{◌≡◌, ◌++◌, drop}
use Rattle.lmn_schedule_loading.specs.Adding.{ports_with_links}
use Rattle.lmn_schedule_loading.proofs.filling.add_ports.Given as goal

abbrev pub invariant-loop-i : goal.invariant-loop-i
invariant-loop-i g l = l.ports ++ ports_with_links l.atom l.i (drop l.i l.links) ≡ l.fn.ports ++ ports_with_links l.atom 0 l.links

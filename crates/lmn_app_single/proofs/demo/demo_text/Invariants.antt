use Rattle.std.proofs.Common.{◌≡◌}
use Rattle.std.specs.List.{flat_map, range_with_len}
use Rattle.lmn_app_single.specs.Demos.{demo_atom}
use Rattle.lmn_app_single.proofs.demo.demo_text.Given as goal

abbrev pub invariant-loop-i : goal.invariant-loop-i
invariant-loop-i l = l.text.items ≡ flat_map demo_atom (range_with_len 1 l.i)

-- The folded line of a small process: of `a` and `b` that are joined by their last ports.
use Rattle.std.specs.Prelude.{List, Contains, codes}
use Rattle.std.specs.declared.alloc.Global.{Global}
use Rattle.lmn_base.specs.Names.{IsNames}
use Rattle.lmn_congruence.specs.Regions.{region_process}
use Rattle.lmn_congruence.specs.Rules.{Name}
use Rattle.lmn_print_folded.specs.Examples.{last_ports}
use Rattle.lmn_print_folded_laws.specs.ReadBack.{IsFoldedLineOf}

abbrev pub ItsLine : Type 0
ItsLine = (alloc : Global) (names : List Name) → IsNames names → Contains names (codes "a") → Contains names (codes "b")
    → IsFoldedLineOf names (region_process last_ports) (codes "a(b).\n")

-- The other way round it is no folded line of this process, though what it reads as is congruent.
abbrev pub NotItsLine : Type 0
NotItsLine = (names : List Name) → IsFoldedLineOf names (region_process last_ports) (codes "b(a).\n") → ⊥

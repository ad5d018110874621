use Rattle.std.proofs.Common.{◌≡◌, ◌++◌, map}
use Rattle.lmn_solid_heads.specs.Heads.{atoms_of, typed_contexts_of}
use Rattle.lmn_solid_firing.specs.Pieces.{ends_from, wires}
use Rattle.lmn_solid_firing.proofs.wires.add_wires.Given as goal

abbrev pub invariant-loop-link : goal.invariant-loop-link
invariant-loop-link l =
    l.connectors ++ wires l.first (ends_from l.flat l.images 0 (atoms_of l.items)) (map (λ t. t.link) (typed_contexts_of l.items)) l.link
    ≡ l.fn.connectors ++ wires l.first (ends_from l.flat l.images 0 (atoms_of l.items)) (map (λ t. t.link) (typed_contexts_of l.items)) l.links

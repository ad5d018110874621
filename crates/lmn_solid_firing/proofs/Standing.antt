-- A ground part that is listed in the order of a walk stands for what it is in the calculus.
use Rattle.std.proofs.Common.{◌<◌, sym, subst}
use Rattle.lmn_base.specs.Graphs.{Reached, at_root}
use Rattle.lmn_base.specs.Lists.{In}
use Rattle.lmn_congruence.specs.Orders.{Among}
use Rattle.lmn_adequacy.specs.Next.{DepthFirst, links_at}
use Rattle.lmn_adequacy.specs.Embedding.{IsPart}
use Rattle.lmn_store_heap.specs.Graphs.{atom_map}
use Rattle.lmn_store_heap.specs.Heap.{arity_of}
use Rattle.lmn_store_heap.proofs.Replacing.{port_within}
use Rattle.lmn_solid_bodies.proofs.Brought.{part_all}
use Rattle.lmn_adequacy_heaps.specs.HeapRegions.{atoms_at}
use Rattle.lmn_adequacy_heaps.specs.Parts.{HasPart}
use Rattle.lmn_adequacy_heaps.proofs.PartLaws.{ground_parts_stand_whole}
use Rattle.lmn_adequacy_turns.proofs.CopiedParts.{part_atoms, part_depth_first, part_in_order, port_at_link}
use Rattle.lmn_solid_firing.specs.Laws.{PartsStand}

pub parts_stand : PartsStand
parts_stand h r read m root part g is p link walk =
    let has : HasPart h root part = (ground_parts_stand_whole h r m root part g read is).1 in
    let outside : Reached (atom_map h) root is.holder.0 → ⊥ = λ w. is.away ((has is.holder.0).1 w) in
    let ordered = part_in_order h r read m root part g is p.atoms walk in
    let here : In root.0 p.atoms = part_all h root p.atoms read.valid.sound.paired walk root.0 at_root in
    let port : root.1 < arity_of h root.0 = port_within h root.0 root.1 is.holder is.link in
    let there = part_atoms h r read root is.holder is.link outside p.atoms walk in
    record {
      is = subst (λ z. IsPart g z (atoms_at h r p.atoms)) (sym link) ordered.is;
      in_order = subst (λ z. DepthFirst z (atoms_at h r p.atoms)) (sym link) (part_depth_first h r read root is.holder is.link outside p.atoms walk);
      held = subst (λ z. Among z (links_at (atoms_at h r p.atoms))) (sym link) (port_at_link h r read p.atoms there root.0 root.1 here port);
    }

use Rattle.lmn_store_slab.specs.Kept.{heap_of}
use Rattle.std.proofs.Common.{rules, ◌<◌, sym, subst}
use Rattle.lmn_store_heap.specs.Heap.{Heap, IsAtom, arity_of}
use Rattle.lmn_ground.specs.Spread.{IsGroundIn}
use Rattle.lmn_test_rows.proofs.PartLemmas.{clean_same}
use Rattle.lmn_ground.proofs.GroundLaws.{ground_full}
use Rattle.lmn_test_rows.proofs.parts.part.Goals as goal

pub returns-clause-clean : goal.returns-clause-clean
returns-clause-clean g c = clean_same (heap_of c.args.store.now) (heap_of c.is_ground-ground.new.store) c.is_ground-ground.ensures.same c.requires

pub returns-clause-atom : goal.returns-clause-atom
returns-clause-atom g c = subst (λ (h : Heap). IsAtom h c.args.root.0) (sym c.is_ground-ground.ensures.same) (c.has_port.ensures.atom (search rules))

pub returns-clause-port : goal.returns-clause-port
returns-clause-port g c = subst (λ (h : Heap). c.args.root.1 < arity_of h c.args.root.0) (sym c.is_ground-ground.ensures.same) (c.has_port.ensures.port (search rules))

pub returns-clause-ground : goal.returns-clause-ground
returns-clause-ground g c = subst (λ (h : Heap). IsGroundIn h (c.args.root.0, c.args.root.1) c.args.m) (sym c.is_ground-ground.ensures.same) (c.is_ground-ground.ensures.ground.0 (search rules))

pub returns-clause-whole : goal.returns-clause-whole
returns-clause-whole g c = ground_full (heap_of c.args.store.now) (heap_of c.is_ground-ground.new.store) _ _ c.root-root.ensures.sound (c.is_ground-ground.ensures.ground.0 (search rules)) c.is_ground-ground.ensures.same

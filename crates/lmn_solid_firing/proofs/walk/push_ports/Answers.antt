use Rattle.std.proofs.Common.{[], ◌∷◌, ◌-◌, refl, subst, sym, arith}
use Rattle.std.specs.List.{AllByRecursion}
use Rattle.lmn_base.proofs.Lists.{all_append}
use Rattle.lmn_store_heap.specs.Heap.{arity_of}
use Rattle.lmn_solid_tables.specs.Flats.{heap_of}
use Rattle.lmn_solid_firing.specs.Pieces.{IsPort, stacked}
use Rattle.lmn_solid_firing.proofs.Walking.{port_pushed}
use Rattle.lmn_solid_firing.proofs.walk.push_ports.Goals as goal

pub loop-index-preserved : goal.loop-index-preserved
loop-index-preserved c =
    let h = heap_of c.args.flat.now in
    let pos = c.loop-index-test.true in
    let low = c.loop-index.auto.index in
    let e = c.arity-index.ensures in
    record {
      ports = port_pushed c.args.atom c.loop-index.index (arity_of h c.args.atom) c.loop-index.waiting.items c.push.new.self.items (stacked c.args.waiting.now.items) (record { atom = c.args.atom; index = c.loop-index.index - 1 })
          c.in_ok-push.ensures.items refl (omega (arith, pos)) (omega (arith, low, e)) c.loop-index.invariant.ports;
      there = λ old. subst (AllByRecursion (IsPort h)) (sym c.in_ok-push.ensures.items)
          (all_append (IsPort h) c.loop-index.waiting.items ((record { atom = c.args.atom; index = c.loop-index.index - 1 }) ∷ []) (c.loop-index.invariant.there old) (omega (arith, pos, low, e), tt));
    }

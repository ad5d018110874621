use Rattle.std.proofs.Common.{◌≡◌, ◌+◌, ◌∙◌, Some, length, drop, refl, sym, ap, arith}
use Rattle.std.proofs.lemmas.Option.{same_Some}
use Rattle.lmn_solid_tables.specs.Flats.{heap_of}
use Rattle.lmn_store_heap.specs.Functors.{with_functor}
use Rattle.lmn_solid_search.proofs.AheadLemmas.{found_none, found_one, found_whole, none_missing}
use Rattle.lmn_solid_search.proofs.PairingLemmas.{port_differs}
use Rattle.lmn_solid_search.proofs.ahead.are_enough.Goals as goal
use Rattle.lmn_solid_search.proofs.ahead.are_enough.Goals.{then-is_same_functor, else-is_same_functor}
use Rattle.lmn_adequacy_heaps.proofs.OutOf.{index_in as item_in}

pub functor-requires : goal.functor-requires
functor-requires c = c.requires _ (item_in c.args.atoms.now c.loop-atom.atom-index c.loop-atom-test.true)

pub returns-then-missing-eq0 : goal.returns-then-missing-eq0
returns-then-missing-eq0 c =
    let z = c.if-missing-eq0.true in
    let e : c.loop-atom.missing + length (with_functor (heap_of c.args.flat.now) c.args.functor c.args.atoms.now) ≡ c.args.count + length (with_functor (heap_of c.args.flat.now) c.args.functor (drop c.loop-atom.atom-index c.args.atoms.now)) = c.loop-atom.invariant in
    ((λ t. omega (arith, z, e)), λ l. refl)

pub loop-atom-preserved : goal.loop-atom-preserved
loop-atom-preserved c = elim c.if-is_same_functor.branch [
  | then-is_same_functor w ↦
      (let less = w.missing-is in let some = c.if-missing-eq0.false in
      found_one (heap_of c.args.flat.now) c.args.functor c.args.atoms.now c.loop-atom.atom-index c.loop-atom.missing c.if-is_same_functor.missing c.args.count _ c.loop-atom-test.true refl (c.functor.ensures ∙ ap Some (c.is_same_functor.ensures.0 w.if-is_same_functor.true)) (omega (arith, less, some)) c.loop-atom.invariant)
  | else-is_same_functor w ↦
      (let same = w.missing-is in
      let r = found_none (heap_of c.args.flat.now) c.args.functor c.args.atoms.now c.loop-atom.atom-index c.loop-atom.missing c.args.count _ c.loop-atom-test.true refl (λ e. port_differs c.is_same_functor.ensures.1 w.if-is_same_functor.false (same_Some _ _ (sym c.functor.ensures ∙ e))) c.loop-atom.invariant in
      omega (arith, same, r))
]

pub returns : goal.returns
returns c = none_missing c.loop-atom.missing c.args.count (length (with_functor (heap_of c.args.flat.now) c.args.functor c.args.atoms.now)) (found_whole (heap_of c.args.flat.now) c.args.functor c.args.atoms.now c.loop-atom.atom-index c.loop-atom.missing c.args.count c.loop-atom-test.false c.loop-atom.invariant)

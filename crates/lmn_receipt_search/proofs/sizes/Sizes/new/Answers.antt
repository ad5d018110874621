use Rattle.std.proofs.Common.{◌≡◌, ◌+◌, ◌-◌, ◌∙◌, arith, length, map, subst}
use Rattle.std.proofs.lemmas.List.{length-set}
use Rattle.lmn_store_heap.specs.Heap.{atoms_in, mems_in, rules_in}
use Rattle.lmn_solid_tables.specs.Flats.{heap_of}
use Rattle.lmn_receipt_search.specs.Items.{size_at, total}
use Rattle.lmn_receipt_search.proofs.Sizing.{AreSizesFrom, children, sized_more}
use Rattle.lmn_receipt_search.proofs.sizes.Sizes.new.Goals as goal

pub loop-membrane-init : goal.loop-membrane-init
loop-membrane-init c = record {
  length = c.in_ok-of.ensures;
  sizes = λ m inner low there f. let below = (c.membrane_count-count.ensures.count m).0 there in absurd (omega (arith, low, below));
}

pub loop-membrane-preserved : goal.loop-membrane-preserved
loop-membrane-preserved c =
    let h = heap_of c.args.flat.now in
    let m = c.loop-membrane.membrane - 1 in
    let of = c.loop-membrane.of.items in
    let many = c.loop-membrane.invariant.length in
    let test = c.loop-membrane-test.true in
    let auto = c.loop-membrane.auto.membrane in
    let size = subst (λ xs. c.in_ok-of-2.field-0 ≡ 1 + length (atoms_in h m) + length (rules_in h m) + total (map (size_at xs) (mems_in h m))) c.as_slice.ensures.value c.in_ok-of-2.ensures in
    record {
      length = length-set of m c.in_ok-of-2.field-0 ∙ many;
      sizes = sized_more h of m c.in_ok-of-2.field-0 (subst (λ z. AreSizesFrom h z of) (omega (arith, test)) c.loop-membrane.invariant.sizes) (children c.args.flat.now c.requires.1.valid m) (omega (arith, many, test, auto)) size;
    }

pub returns : goal.returns
returns c = λ m inner there f. let past = c.loop-membrane-test.false in c.loop-membrane.invariant.sizes m inner (omega (arith, past)) there f

use Rattle.std.proofs.Common.{◌+◌, drop, length, subst, sym, arith}
use Rattle.std.proofs.lemmas.List.{drop_all, take_at}
use Rattle.std.proofs.lemmas.Option.{slice_get-get_or}
use Rattle.lmn_base.proofs.Lists.{drop_get}
use Rattle.lmn_solid_tables.specs.Flats.{heap_of}
use Rattle.lmn_solid_search.specs.Finding.{port_at}
use Rattle.lmn_solid_firing.specs.Matched.{IsPartAt}
use Rattle.lmn_solid_firing.specs.Pieces.{Before}
use Rattle.lmn_solid_firing.proofs.Telling.{part_added, parts_ended}
use Rattle.lmn_solid_firing.proofs.parts.parts_named.Goals as goal

pub loop-number-preserved : goal.loop-number-preserved
loop-number-preserved c =
    let a = c.part_at.auto.marks in
    let b = c.as_mut_slice.ensures.len in
    let d = c.loop-number.marks.ok.0 in
    record {
      before = subst (Before (heap_of c.args.flat.now) (c.loop-number.number + 1 + 1)) (sym (take_at c.part_at.new.marks (drop (length c.part_at.new.marks) c.loop-number.marks.items) c.loop-number.marks.len (omega (arith, a, b, d))))
          (subst (λ n. Before (heap_of c.args.flat.now) (n + 1) c.part_at.new.marks) c.in_ok-round.ensures c.in_ok-part_at.ensures.marks);
      parts = part_added c.args.flat.now (port_at c.args.ports.now) c.loop-number.number c.args.names.now (drop c.loop-number.number c.args.names.now) (drop (c.loop-number.number + 1) c.args.names.now)
          c.loop-number.parts c.push.new.self c.in_ok-part_at.field-0 _ c.in_ok-push.ensures.ok (drop_get c.loop-number.number c.args.names.now _ (slice_get-get_or c.args.names.now c.loop-number.number 0 c.loop-number-test.true))
          c.in_ok-part_at.ensures.name (subst (λ p. IsPartAt c.args.flat.now p c.in_ok-part_at.field-0) c.entry.ensures c.in_ok-part_at.ensures.part) c.loop-number.invariant.parts;
    }

pub returns : goal.returns
returns c = parts_ended c.args.flat.now (port_at c.args.ports.now) c.loop-number.number c.args.names.now (drop c.loop-number.number c.args.names.now) c.loop-number.parts
    (drop_all c.loop-number.number c.args.names.now c.loop-number-test.false) c.loop-number.invariant.parts

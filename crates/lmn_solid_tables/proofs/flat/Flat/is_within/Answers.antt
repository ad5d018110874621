use Rattle.std.proofs.Common.{◌≡◌, ◌<◌, length, ap, ◌∙◌, arith}
use Rattle.std.specs.Prelude.{◌==◌}
use Rattle.lmn_base.proofs.Numbers.{equal_itself, equal_when}
use Rattle.lmn_solid_tables.proofs.Climbing.{above_at_most, climb, climb_less, mem_in_table}
use Rattle.lmn_solid_tables.proofs.flat.Flat.is_within.Goals as goal

pub loop-at-smaller : goal.loop-at-smaller
loop-at-smaller c =
    let f = c.args.self.now in
    climb_less f c.args.outer c.loop-at.at c.index.result.now c.loop-at-test.true (omega (arith, c.loop-at.invariant.at_most, mem_in_table f c.args.membrane c.requires)) c.index.ensures

pub loop-at-preserved : goal.loop-at-preserved
loop-at-preserved c =
    let f = c.args.self.now in
    let below : c.loop-at.at < length f.membranes.items = omega (arith, c.loop-at.invariant.at_most, mem_in_table f c.args.membrane c.requires) in
    let less = climb_less f c.args.outer c.loop-at.at c.index.result.now c.loop-at-test.true below c.index.ensures in
    record {
      at_most = omega (arith, less, c.loop-at.invariant.at_most);
      same = climb f c.args.outer c.loop-at.at c.index.result.now c.loop-at-test.true below c.index.ensures c.args.membrane c.loop-at.invariant.same;
    }

pub returns : goal.returns
returns c =
    let same = c.loop-at.invariant.same in (
      (λ t. same.1 (0, equal_when c.loop-at.at c.args.outer t)),
      (λ w.
          let v = same.0 w in
          let l = above_at_most c.args.self.now v.0 c.args.outer c.loop-at.at v.1 in
          let e : c.loop-at.at ≡ c.args.outer = omega (arith, l, c.loop-at-test.false) in
          ap (λ m. m == c.args.outer) e ∙ equal_itself c.args.outer),
    )

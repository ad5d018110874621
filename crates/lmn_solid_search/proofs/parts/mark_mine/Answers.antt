use Rattle.std.proofs.Common.{◌≡◌, ◌∙◌, arith, ℕ, length, refl, subst}
use Rattle.std.proofs.lemmas.Option.{slice_get_read, slice_get-get_or}
use Rattle.lmn_solid_search.specs.Parting.{TellMine}
use Rattle.lmn_solid_search.proofs.WalkingLemmas.{cleared_length}
use Rattle.lmn_solid_search.proofs.PartsLemmas.{mine_first, mine_more}
use Rattle.lmn_solid_search.proofs.parts.mark_mine.Goals as goal

pub mark_all-requires : goal.mark_all-requires
mark_all-requires c = λ a i. (let l = c.requires.images a i in let e = cleared_length c.args.seen.now c.clear.new.self c.clear.ensures in omega (arith, l, e))

pub loop-number-init : goal.loop-number-init
loop-number-init c = record {
  long = c.mark_all.ensures.length ∙ cleared_length c.args.seen.now c.clear.new.self c.clear.ensures;
  mine = mine_first c.args.seen.now c.clear.new.self c.mark_all.new.seen c.args.images.now c.args.typed.now c.args.parts.now c.args.membrane c.clear.ensures c.mark_all.ensures.marked;
}

pub mark_part-requires : goal.mark_part-requires
mark_part-requires c = λ a i. (
    let l = c.requires.parts c.loop-number.number a c.index-parts-number.result
    (slice_get_read c.args.parts.now (length c.args.parts.now) c.loop-number.number c.index-parts-number.result refl (let l = c.loop-number-test.true in let e = c.requires.all in omega (arith, l, e)) c.index-parts-number.is) i in
    let e = c.loop-number.invariant.long in
    omega (arith, l, e))

pub loop-number-preserved : goal.loop-number-preserved
loop-number-preserved c = record {
  long = c.mark_part.ensures.length ∙ c.loop-number.invariant.long;
  mine = mine_more c.loop-number.seen c.mark_part.new.seen c.args.images.now c.args.typed.now c.args.parts.now c.args.membrane c.loop-number.number _ _ c.index-parts-number.result _
      (slice_get-get_or c.args.typed.now c.loop-number.number _ c.loop-number-test.true)
      (slice_get_read c.args.parts.now (length c.args.parts.now) c.loop-number.number c.index-parts-number.result refl (let l = c.loop-number-test.true in let e = c.requires.all in omega (arith, l, e)) c.index-parts-number.is)
      refl refl c.mark_part.ensures.marked c.loop-number.invariant.mine;
}

pub returns-clause-mine : goal.returns-clause-mine
returns-clause-mine c = let e : c.loop-number.number ≡ length c.args.typed.now = (let l = c.loop-number-test.false in let m = c.loop-number.auto.number-end in omega (arith, l, m)) in
    subst (λ (n : ℕ). TellMine c.args.images.now c.args.typed.now c.args.parts.now c.args.membrane n c.loop-number.seen) e c.loop-number.invariant.mine

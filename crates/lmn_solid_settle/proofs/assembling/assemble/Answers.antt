use Rattle.std.proofs.Common.{[], ◌∷◌, ◌≡◌, ◌∙◌, ap, length, map, sym, subst, arith, vec_len}
use Rattle.std.proofs.lemmas.Bool.{eqb-true}
use Rattle.std.proofs.lemmas.List.{length-append, length-set}
use Rattle.std.proofs.lemmas.List.{nil_from_length}
use Rattle.lmn_solid_settle.specs.Tables.{empty_part}
use Rattle.lmn_solid_settle.proofs.LaidParts.{AreBelow, laid_below, laid_is_put_together, last_below, not_none, put_together, step_below, step_last, step_together}
use Rattle.lmn_solid_settle.proofs.assembling.assemble.Goals as goal

pub loop-part-init : goal.loop-part-init
loop-part-init c =
    let are = c.in_ok-parts.ensures in (
      subst AreBelow (sym (are ∙ ap (map empty_part) c.requires.1)) (laid_below c.requires.0),
      λ r e. ap put_together (are ∙ ap (map empty_part) e) ∙ laid_is_put_together r,
    )

pub returns-then-is_empty : goal.returns-then-is_empty
returns-then-is_empty c r e =
    let left = c.pop.new.self in
    let none : left.items ≡ [] = nil_from_length left.items (sym left.ok.0 ∙ eqb-true (vec_len left) 0 (sym c.if-is_empty.ensures)) in
    c.whole-region.ensures ∙ step_last c.loop-part.parts.items left.items c.in-Some.part _ c.in-Some.ensures.items none (c.loop-part.invariant.1 r e)

pub index_mut-requires : goal.index_mut-requires
index_mut-requires c =
    let left = c.pop.new.self in
    let some = not_none (vec_len left) c.if-is_empty.ensures in
    let size = left.ok.0 in
    let l = last_below left.items c.in-Some.part (omega (arith, some, size)) (subst AreBelow c.in-Some.ensures.items c.loop-part.invariant.0) in
    omega (arith, l, size)

pub loop-part-smaller : goal.loop-part-smaller
loop-part-smaller c =
    let left = c.pop.new.self in
    let more = ap length c.in-Some.ensures.items in
    let one = length-append left.items (c.in-Some.part ∷ []) in
    let same = length-set left.items c.in-Some.part.around (record { around = c.index_mut.result.now.around; atoms = c.index_mut.result.now.atoms; membranes = c.offer.new.self; rules = c.index_mut.result.now.rules }) in
    omega (arith, more, one, same)

pub loop-part-preserved : goal.loop-part-preserved
loop-part-preserved c =
    let left = c.pop.new.self in
    let some = not_none (vec_len left) c.if-is_empty.ensures in
    let size = left.ok.0 in
    let items = c.in-Some.ensures.items in
    let l = last_below left.items c.in-Some.part (omega (arith, some, size)) (subst AreBelow items c.loop-part.invariant.0) in
    let was = c.index_mut.result.now in
    let inner = c.offer.new.self in (
      step_below c.loop-part.parts.items left.items c.in-Some.part was inner c.whole-region.result items l c.index_mut.ensures.value c.in_default-offer.ensures.ok c.loop-part.invariant.0,
      λ r e. step_together c.loop-part.parts.items left.items c.in-Some.part was inner c.whole-region.result _ items l c.whole-region.ensures c.index_mut.ensures.value c.in_default-offer.ensures.ok (c.loop-part.invariant.1 r e),
    )

use Rattle.std.proofs.Common.{[], ap, subst, sym, ◌∙◌, arith}
use Rattle.std.specs.Prelude.{length, slice_get}
use Rattle.lmn_solid_tables.specs.Flats.{IsLeft, heap_of}
use Rattle.lmn_solid_tables.proofs.Left.{Kept, kept_left, kept_none, kept_out, left_below}
use Rattle.lmn_solid_tables.proofs.flat.Flat.left_in.Goals as goal
use Rattle.lmn_solid_tables.proofs.flat.Flat.left_in.Goals.{then-here+in_ok-push-2, else-here}

pub loop-number-init : goal.loop-number-init
loop-number-init c =
    let P = IsLeft (heap_of c.args.self.now) c.args.images.now c.args.home in
    subst (λ fs. Kept P fs c.new-left.result.items 0) (sym c.new-is_left.ensures.items) (subst (λ ls. Kept P [] ls 0) (sym c.new-left.ensures.items) (kept_none P))

pub is_left-here-requires-clause-number : goal.is_left-here-requires-clause-number
is_left-here-requires-clause-number c =
    (omega (arith, c.loop-number-test.true, c.len-number-end.ensures, c.args.self.now.membranes.ok.0), ap length c.as_slice.ensures.value ∙ c.loop-number.invariant.many)

pub is_left-here-requires-clause-before : goal.is_left-here-requires-clause-before
is_left-here-requires-clause-before c m b e = c.loop-number.invariant.each m b (ap (λ bs. slice_get bs m) (sym c.as_slice.ensures.value) ∙ e)

pub loop-number-preserved : goal.loop-number-preserved
loop-number-preserved c =
    let P = IsLeft (heap_of c.args.self.now) c.args.images.now c.args.home in
    elim c.if-here.branch [
      | then-here+in_ok-push-2 w ↦ kept_left P c.loop-number.is_left.items c.push.new.self.items c.loop-number.left.items c.loop-number.number c.is_left-here.result c.loop-number.invariant c.in_ok-push.ensures.items c.is_left-here.ensures w.if-here.true c.if-here.left.items (ap (λ v. v.items) w.left-is ∙ w.in_ok-push-2.ensures.items)
      | else-here w ↦ kept_out P c.loop-number.is_left.items c.push.new.self.items c.loop-number.left.items c.loop-number.number c.is_left-here.result c.loop-number.invariant c.in_ok-push.ensures.items c.is_left-here.ensures w.if-here.false c.if-here.left.items (ap (λ v. v.items) w.left-is)
    ]

pub returns-clause-left : goal.returns-clause-left
returns-clause-left c m =
    let i = c.loop-number.invariant.listed m in (
      (λ h. (i.0 h).1),
      (λ h.
          let l = left_below c.args.self.now c.requires c.args.home c.args.images.now m h in
          i.1 (omega (arith, l, c.loop-number-test.false, c.len-number-end.ensures, c.args.self.now.membranes.ok.0), h)),
    )

pub returns-clause-order : goal.returns-clause-order
returns-clause-order c = c.loop-number.invariant.order

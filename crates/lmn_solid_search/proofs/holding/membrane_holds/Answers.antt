use Rattle.std.proofs.Common.{◌↔◌, ◌∙◌, ℕ, List, IsTrue, sym, subst, refl}
use Rattle.std.proofs.lemmas.Result.{IfOk-weaker}
use Rattle.lmn_base.specs.Lists.{In}
use Rattle.lmn_store_heap.proofs.Common.{in_at}
use Rattle.lmn_solid_tables.specs.Flats.{heap_of}
use Rattle.lmn_solid_search.specs.Closing.{IsClosedAt}
use Rattle.lmn_solid_search.proofs.HoldingLemmas.{told, not_held, held_open, held_closed}
use Rattle.lmn_solid_search.proofs.holding.membrane_holds.Goals as goal

pub mark_mine-requires-clause-images : goal.mark_mine-requires-clause-images
mark_mine-requires-clause-images c = λ a i. c.requires.room.mine a (c.requires.placed.atoms a (subst (λ (xs : List ℕ). In a xs) c.as_slice.ensures i))

pub mark_mine-requires-clause-parts : goal.mark_mine-requires-clause-parts
mark_mine-requires-clause-parts c = λ n a part e i. c.requires.room.mine a (c.requires.parts n a part e i)

pub holds_no_more-requires-clause-membrane : goal.holds_no_more-requires-clause-membrane
holds_no_more-requires-clause-membrane c = c.requires.placed.membranes c.at-membrane.result.now (in_at c.args.placed.now.membranes c.args.index c.at-membrane.result.now c.at-membrane.ensures)

pub returns-then-not-holds_no_more-clause-holds : goal.returns-then-not-holds_no_more-clause-holds
returns-then-not-holds_no_more-clause-holds c = (
  (λ z. absurd (cc)),
  λ w. absurd (not_held (heap_of c.args.flat.now) c.args.head.now c.args.placed.now c.args.parts.now c.args.index c.at-membrane.result.now c.args.item.now c.mark_mine.new.seen c.as_slice-3.result.now
      c.at-membrane.ensures c.as_slice-3.ensures (told c.args.head.now c.args.placed.now c.args.parts.now c.args.index c.args.number c.mark_mine.new.seen c.as_slice.result.now c.as_slice-2.result.now c.as_slice.ensures c.as_slice-2.ensures c.requires.number c.mark_mine.ensures.mine)
      c.holds_no_more.result c.holds_no_more.ensures c.if-not-holds_no_more.true w),
)

pub returns-then-not-item-clause-holds : goal.returns-then-not-item-clause-holds
returns-then-not-item-clause-holds c = (
  (λ z. held_open (heap_of c.args.flat.now) c.args.head.now c.args.placed.now c.args.parts.now c.args.index c.at-membrane.result.now c.args.item.now c.mark_mine.new.seen c.as_slice-3.result.now
      c.at-membrane.ensures c.as_slice-3.ensures (told c.args.head.now c.args.placed.now c.args.parts.now c.args.index c.args.number c.mark_mine.new.seen c.as_slice.result.now c.as_slice-2.result.now c.as_slice.ensures c.as_slice-2.ensures c.requires.number c.mark_mine.ensures.mine)
      (c.holds_no_more.ensures.0 c.if-not-holds_no_more.false) c.if-not-item.true),
  λ w. refl,
)

pub is_closed-requires-clause-membrane : goal.is_closed-requires-clause-membrane
is_closed-requires-clause-membrane c = c.requires.placed.membranes c.at-membrane.result.now (in_at c.args.placed.now.membranes c.args.index c.at-membrane.result.now c.at-membrane.ensures)

pub returns-clause-holds : goal.returns-clause-holds
returns-clause-holds c = IfOk-weaker c.is_closed.result _ _ (λ b closed. held_closed (heap_of c.args.flat.now) c.args.head.now c.args.placed.now c.args.parts.now c.args.index c.at-membrane.result.now c.args.item.now c.mark_mine.new.seen c.as_slice-3.result.now
    c.at-membrane.ensures c.as_slice-3.ensures (told c.args.head.now c.args.placed.now c.args.parts.now c.args.index c.args.number c.mark_mine.new.seen c.as_slice.result.now c.as_slice-2.result.now c.as_slice.ensures c.as_slice-2.ensures c.requires.number c.mark_mine.ensures.mine)
    b (c.holds_no_more.ensures.0 c.if-not-holds_no_more.false) c.if-not-item.false (subst (λ (xs : List ℕ). IsTrue b ↔ IsClosedAt (heap_of c.args.flat.now) c.at-membrane.result.now xs c.mark_mine.new.seen) (c.as_slice-4.ensures ∙ sym c.as_slice-3.ensures) closed)) c.is_closed.ensures.closed

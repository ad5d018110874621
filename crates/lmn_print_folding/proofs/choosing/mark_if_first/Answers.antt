use Rattle.std.proofs.Common.{inl, inr, refl}
use Rattle.lmn_print_folding.proofs.OwnMarks.{changes_none}
use Rattle.lmn_print_folding.proofs.choosing.mark_if_first.Goals as goal

pub returns-then-is_child-clause-first : goal.returns-then-is_child-clause-first
returns-then-is_child-clause-first g c = record {
  marks = changes_none (g.S.LinkStore.heap c.args.store.now);
  here = inr (c.requires.unmarked, c.is_child.ensures.child c.if-is_child.true);
  others = λ b d. refl;
}

pub returns-clause-first : goal.returns-clause-first
returns-clause-first g c =
    let set = c.set_own_mark.ensures.set in
    record { marks = set.marks; here = inl (set.mark, c.is_child.ensures.none c.if-is_child.false); others = set.others }

use Rattle.std.proofs.Common.{[], ◌∷◌, ◌+◌, ap, ◌∙◌, arith, subst, sym, Some}
use Rattle.std.proofs.lemmas.Option.{get_or_from_slice_get}
use Rattle.lmn_flatten_numbers.proofs.NumberSteps.{room_left, gives_old, gives_next, next_is}
use Rattle.lmn_solid_settle.specs.Tables.{Gives}
use Rattle.lmn_solid_settle.proofs.numbers.Numbers.number.Goals as goal

pub overflow_add-self : goal.overflow_add-self
overflow_add-self c =
    let r = room_left _ c.at.result.now c.at-2.result.now c.set.new.self c.requires.valid c.at-2.ensures c.in-None.is in
    let f = c.requires.valid.fits in omega (arith, r, f)

pub returns-in-Some-clause-gives : goal.returns-in-Some-clause-gives
returns-in-Some-clause-gives c =
    let same = get_or_from_slice_get c.args.self.now.classes c.args.link c.at.result.now 0 c.at.ensures in
    subst (λ k. Gives (k ∷ []) c.args.self.now c.args.self.now) (sym same) (gives_old _ c.at.result.now c.at-2.result.now c.args.self.now.numbers c.requires.valid c.at-2.ensures c.in-Some.number c.in-Some.is)

pub returns-in-Some-clause-number : goal.returns-in-Some-clause-number
returns-in-Some-clause-number c to a =
    let same = get_or_from_slice_get c.args.self.now.classes c.args.link c.at.result.now 0 c.at.ensures in
    c.from.ensures ∙ sym (a c.at.result.now c.in-Some.number (c.at-2.ensures ∙ ap Some c.in-Some.is)) ∙ ap to (sym same)

pub returns-in-None-clause-gives : goal.returns-in-None-clause-gives
returns-in-None-clause-gives c =
    let same = get_or_from_slice_get c.args.self.now.classes c.args.link c.at.result.now 0 c.at.ensures in
    subst (λ k. Gives (k ∷ []) c.args.self.now (record { classes = c.args.self.now.classes; numbers = c.set.new.self; count = c.args.self.now.count + 1 })) (sym same)
    (gives_next _ c.at.result.now c.at-2.result.now c.set.new.self c.requires.valid c.at-2.ensures c.in-None.is c.set.ensures)

pub returns-in-None-clause-number : goal.returns-in-None-clause-number
returns-in-None-clause-number c to a =
    let same = get_or_from_slice_get c.args.self.now.classes c.args.link c.at.result.now 0 c.at.ensures in
    c.from-in-None.ensures ∙ next_is _ c.at.result.now c.at-2.result.now c.set.new.self c.requires.valid c.at-2.ensures c.in-None.is c.set.ensures to a ∙ ap to (sym same)

use Rattle.std.proofs.Common.{◌++◌, ◌∷◌, [], ap, sym, subst, ◌∙◌}
use Rattle.std.proofs.lemmas.List.{append_assoc}
use Rattle.lmn_instr_pool.specs.Pools.{Selects}
use Rattle.lmn_instr_pool.proofs.Picking.{keeps_on, keeps_selected, selects_more}
use Rattle.lmn_instr_pool.proofs.pool.Pool.put_all.Goals as goal

pub loop-instr-preserved : goal.loop-instr-preserved
loop-instr-preserved c = (
  subst (λ ns. Selects c.put.new.self ns (c.loop-instr.yielded ++ c.in-Some.instr ∷ [])) (sym c.in_ok-push.ensures.ok)
      (selects_more c.put.new.self c.loop-instr.numbers c.loop-instr.yielded c.in_ok-number.number c.in-Some.instr
      (keeps_selected c.loop-instr.self c.put.new.self c.put.ensures.keeps c.loop-instr.numbers c.loop-instr.yielded c.loop-instr.invariant.0) c.in_ok-number.ensures.ok),
  append_assoc c.loop-instr.yielded (c.in-Some.instr ∷ []) c.next.new.self.rest.items ∙ (ap (λ xs. c.loop-instr.yielded ++ xs) (sym c.in-Some.ensures.steps.0) ∙ c.loop-instr.invariant.1),
  keeps_on c.args.self.now c.loop-instr.self c.put.new.self c.loop-instr.invariant.2 c.put.ensures.keeps,
)

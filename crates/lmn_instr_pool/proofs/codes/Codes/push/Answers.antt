use Rattle.std.proofs.Common.{◌≡◌, ◌++◌, ◌∷◌, [], sym, subst, ◌∙◌}
use Rattle.lmn_instr_pool.specs.Extents.{EndsAt, HasExtent}
use Rattle.lmn_instr_pool.specs.Stored.{AreStored, stored_codes}
use Rattle.lmn_base.proofs.Lists.{on_err}
use Rattle.lmn_instr_pool.proofs.Picking.{keeps_stored, stored_more}
use Rattle.lmn_instr_pool.proofs.codes.Codes.push.Goals as goal

pub invariant_of-self : goal.invariant_of-self
invariant_of-self c = (keeps_stored c.self.inside.pool c.put_all.new.self c.put_all.ensures.keeps c.self.inside.codes c.self.invariant).1

pub returns-in_err-head-clause-err : goal.returns-in_err-head-clause-err
returns-in_err-head-clause-err c = on_err c.from_residual.result _
    ((keeps_stored c.self.inside.pool c.put_all.new.self c.put_all.ensures.keeps c.self.inside.codes c.self.invariant).0 ∙ c.self.view_is)

pub invariant_of-self-in_err-push : goal.invariant_of-self-in_err-push
invariant_of-self-in_err-push c =
    subst (λ cs. AreStored c.put_all.new.self cs) (sym c.in_err-push.ensures.err) (keeps_stored c.self.inside.pool c.put_all.new.self c.put_all.ensures.keeps c.self.inside.codes c.self.invariant).1

pub returns-in_err-push-clause-err : goal.returns-in_err-push-clause-err
returns-in_err-push-clause-err c =
    on_err c.from_residual-in_err-push.result _ (subst (λ cs. stored_codes c.put_all.new.self cs ≡ c.args.self.now) (sym c.in_err-push.ensures.err)
    ((keeps_stored c.self.inside.pool c.put_all.new.self c.put_all.ensures.keeps c.self.inside.codes c.self.invariant).0 ∙ c.self.view_is))

pub invariant_of-self-2 : goal.invariant_of-self-2
invariant_of-self-2 c =
    let stored = keeps_stored c.self.inside.pool c.put_all.new.self c.put_all.ensures.keeps c.self.inside.codes c.self.invariant in
    subst (λ cs. AreStored c.put_all.new.self cs) (sym c.in_ok-push.ensures.ok)
    (stored_more c.put_all.new.self c.self.inside.codes (record { head = c.in_ok-head.head; acts = c.end_of_actions-acts.result; body = c.args.code.body; extent = c.of-extent.result }) c.args.code.head stored.1
    c.in_ok-head.ensures.ok (subst (λ xs. EndsAt c.end_of_actions-acts.result xs) c.as_slice-2.ensures c.end_of_actions-acts.ensures) (subst (λ xs. HasExtent c.of-extent.result xs) c.as_slice.ensures c.of-extent.ensures)).1

pub returns-clause-ok : goal.returns-clause-ok
returns-clause-ok c =
    let stored = keeps_stored c.self.inside.pool c.put_all.new.self c.put_all.ensures.keeps c.self.inside.codes c.self.invariant in
    let more = stored_more c.put_all.new.self c.self.inside.codes (record { head = c.in_ok-head.head; acts = c.end_of_actions-acts.result; body = c.args.code.body; extent = c.of-extent.result }) c.args.code.head stored.1
    c.in_ok-head.ensures.ok (subst (λ xs. EndsAt c.end_of_actions-acts.result xs) c.as_slice-2.ensures c.end_of_actions-acts.ensures) (subst (λ xs. HasExtent c.of-extent.result xs) c.as_slice.ensures c.of-extent.ensures) in
    subst (λ cs. stored_codes c.put_all.new.self cs ≡ c.args.self.now ++ c.args.code ∷ []) (sym c.in_ok-push.ensures.ok)
    (more.0 ∙ λ i. (stored.0 ∙ c.self.view_is) i ++ c.args.code ∷ [])

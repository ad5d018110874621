use Rattle.std.proofs.Common.{◌≡◌, ◌∷◌, [], ◌++◌, ℕ, Some, slice_get, Contains, sym, subst, ◌∙◌, ap, Vec, Global}
use Rattle.lmn_base.specs.Names.{first_names, IsNames}
use Rattle.lmn_base.specs.HeldNames.{names_in}
use Rattle.lmn_base.proofs.HeldNames.{one_more, get_last, added, other_absent}
use Rattle.lmn_base.proofs.names.Names.put.Goals as goal

pub invariant_of-self-2 : goal.invariant_of-self-2
invariant_of-self-2 c =
    let absent = subst (λ l. ¬ (Contains l c.args.name.now)) (sym c.self.view_is) c.in_default.ensures.new in
    let texts = added (λ (v : Vec ℕ Global). v.items) c.self.inside.others.keys c.insert.new.self.keys c.in_ok-text.text c.args.name.now c.in_ok-insert.ensures.keys c.in_ok-text.ensures.items (other_absent _ _ absent) in
    subst (λ l. IsNames (first_names ++ l)) (sym texts) (one_more (first_names ++ names_in c.self.inside.others) c.args.name.now c.self.invariant absent)

pub returns-clause-new : goal.returns-clause-new
returns-clause-new c = λ absent.
    let texts = added (λ (v : Vec ℕ Global). v.items) c.self.inside.others.keys c.insert.new.self.keys c.in_ok-text.text c.args.name.now c.in_ok-insert.ensures.keys c.in_ok-text.ensures.items
    (other_absent _ _ (subst (λ l. ¬ (Contains l c.args.name.now)) (sym c.self.view_is) c.in_default.ensures.new)) in
    ap (λ l. first_names ++ l) texts ∙ ap (λ l. l ++ c.args.name.now ∷ []) c.self.view_is

pub returns-clause-number : goal.returns-clause-number
returns-clause-number c =
    let new = returns-clause-new c c.in_default.ensures.new in
    subst (λ l. slice_get l c.len-number.result ≡ Some c.args.name.now) (sym new)
    (subst (λ n. slice_get (c.args.self.now ++ c.args.name.now ∷ []) n ≡ Some c.args.name.now) (sym c.len-number.ensures.len) (get_last c.args.self.now c.args.name.now))

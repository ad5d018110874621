use Rattle.std.proofs.Common.{◌≡◌, ◌∷◌, ◌∙◌, OnOk, rules, subst, sym, w64}
use Rattle.std.proofs.lemmas.Int.{to_z-of_z}
use Rattle.lmn_solid_search.proofs.ForetellingLemmas.{equal_bound, equal_forgotten, equal_named, three_ok}
use Rattle.lmn_solid_search.proofs.early.Early.equate.Goals as goal

pub returns-then-has_name : goal.returns-then-has_name
returns-then-has_name c =
    equal_named c.args.self.now c.args.typed.now c.args.name c.args.right.now c.has_name.result c.has_name.ensures c.if-has_name.true

pub returns-in-Some : goal.returns-in-Some
returns-in-Some c =
    three_ok c.bind.result (λ ns vs rs. equal_bound c.args.self.now c.bind.new.self c.args.typed.now c.args.name c.args.right.now c.in-Some.integer c.read_by-rests.result c.has_name.result c.has_name.ensures c.if-has_name.false (sym c.value.ensures ∙ c.in-Some.is) c.read_by-rests.ensures ns vs rs)
    c.bind.ensures.names (subst (λ z. OnOk c.bind.result (c.bind.new.self.values.items ≡ z ∷ c.args.self.now.values.items)) (to_z-of_z w64 c.in-Some.integer (search rules)) c.bind.ensures.values) c.bind.ensures.rests

pub returns-in-None : goal.returns-in-None
returns-in-None c =
    equal_forgotten c.args.self.now c.forget.new.self c.args.typed.now c.args.name c.args.right.now c.forget.ensures

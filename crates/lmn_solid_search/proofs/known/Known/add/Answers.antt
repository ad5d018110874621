use Rattle.std.proofs.Common.{◌≡◌, ◌∙◌, ◌∷◌, refl, sym, subst, w64, OnOk, rules}
use Rattle.std.proofs.lemmas.Int.{to_z-of_z}
use Rattle.lmn_solid_tables.specs.Flats.{heap_of}
use Rattle.lmn_solid_search.proofs.NamingLemmas.{named_more, unnamed, integer_more, integer_none, both_ok, two_ok}
use Rattle.lmn_solid_search.proofs.known.Known.add.Goals as goal

pub returns-in-Some-clause-parts : goal.returns-in-Some-clause-parts
returns-in-Some-clause-parts c = both_ok c.bind.result (named_more c.args.self.now.parts c.bind.new.self.parts (record { name = c.args.name; entry = c.args.entry }) (c.bind.ensures.parts ∙ c.in_ok-push.ensures.ok))

pub returns-in-Some-clause-integers : goal.returns-in-Some-clause-integers
returns-in-Some-clause-integers c = two_ok c.bind.result (λ ns vs w. integer_more (heap_of c.args.flat.now) c.args.self.now c.bind.new.self (record { name = c.args.name; entry = c.args.entry }) (c.bind.ensures.parts ∙ c.in_ok-push.ensures.ok)
    (unnamed c.part.result _ c.is_some.result c.part.ensures c.is_some.ensures c.if-is_some.false) w c.in-Some.integer ns vs (sym c.in-Some.is ∙ c.integer_of.ensures)) c.bind.ensures.names (subst (λ z. OnOk c.bind.result (c.bind.new.self.values.items ≡ z ∷ c.args.self.now.values.items)) (to_z-of_z w64 c.in-Some.integer (search rules)) c.bind.ensures.values)

pub returns-in-None-clause-parts : goal.returns-in-None-clause-parts
returns-in-None-clause-parts c = named_more c.args.self.now.parts c.push.new.self (record { name = c.args.name; entry = c.args.entry }) c.in_ok-push.ensures.ok

pub returns-in-None-clause-integers : goal.returns-in-None-clause-integers
returns-in-None-clause-integers c = λ w. integer_none (heap_of c.args.flat.now) c.args.self.now (record { parts = c.push.new.self; names = c.args.self.now.names; values = c.args.self.now.values }) (record { name = c.args.name; entry = c.args.entry }) c.in_ok-push.ensures.ok
    (unnamed c.part.result _ c.is_some.result c.part.ensures c.is_some.ensures c.if-is_some.false) w refl refl (sym c.in-None.is ∙ c.integer_of.ensures)

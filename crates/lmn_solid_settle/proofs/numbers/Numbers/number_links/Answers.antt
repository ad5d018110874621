use Rattle.std.proofs.Common.{ℕ, ◌<◌, [], ◌∷◌, length, All, subst, sym}
use Rattle.std.proofs.lemmas.List.Elements.{All-head}
use Rattle.lmn_solid_settle.specs.Tables.{Gives, class_in, numbered_link}
use Rattle.lmn_solid_settle.proofs.NumberLoops.{alone, each_alone, passed_gives, passed_keys, passed_more, passed_none, passed_parts, passed_within}
use Rattle.lmn_solid_settle.proofs.numbers.Numbers.number_links.Goals as goal

pub loop-link-init : goal.loop-link-init
loop-link-init c = passed_none numbered_link (λ cs x. class_in cs x ∷ []) c.args.self.now c.args.links.now c.requires.valid

pub number-requires-clause-valid : goal.number-requires-clause-valid
number-requires-clause-valid c = c.loop-link.invariant.renumbers.gives.valid

pub number-requires-clause-keys : goal.number-requires-clause-keys
number-requires-clause-keys c = passed_keys numbered_link (λ cs x. class_in cs x ∷ []) c.loop-link.invariant c.requires.keys

pub number-requires-clause-within : goal.number-requires-clause-within
number-requires-clause-within c =
    let S : ℕ → Type 0 = λ x. x < length c.loop-link.self.classes in
    let all = subst (All (λ x. x < length c.args.self.now.classes)) (sym (alone c.args.links.now)) c.requires.within in
    All-head S _ [] (passed_within numbered_link (λ cs x. class_in cs x ∷ []) c.loop-link.invariant (λ x. x ∷ []) 0 c.loop-link-test.true all)

pub loop-link-preserved : goal.loop-link-preserved
loop-link-preserved c =
    passed_more numbered_link (λ cs x. class_in cs x ∷ []) c.loop-link.invariant c.number.new.self c.number.result 0 c.loop-link-test.true c.number.ensures.classes c.number.ensures.gives c.number.ensures.number

pub returns-clause-classes : goal.returns-clause-classes
returns-clause-classes c = c.loop-link.invariant.classes

pub returns-clause-gives : goal.returns-clause-gives
returns-clause-gives c =
    subst (λ ks. Gives ks c.args.self.now c.loop-link.self) (each_alone (class_in c.args.self.now.classes) c.args.links.now)
    (passed_gives numbered_link (λ cs x. class_in cs x ∷ []) c.loop-link.invariant c.loop-link-test.false)

pub returns-clause-links : goal.returns-clause-links
returns-clause-links c = passed_parts numbered_link (λ cs x. class_in cs x ∷ []) c.loop-link.invariant c.loop-link-test.false

use Rattle.std.proofs.Common.{All, sym, subst}
use Rattle.std.proofs.lemmas.Result.{IfOk-weaker}
use Rattle.lmn_instr_code.specs.Listings.{HasCode}
use Rattle.lmn_compile_listing.proofs.Listed.{codes_are, codes_held}
use Rattle.lmn_compile_listing.proofs.listing.compile_rules.Goals as goal

pub returns-clause-codes : goal.returns-clause-codes
returns-clause-codes c =
    IfOk-weaker c.stored.result _ _ (λ codes are. codes_are c.args.plain.now.rules c.args.plans.now codes c.requires.many are) c.stored.ensures

pub returns-clause-named : goal.returns-clause-named
returns-clause-named c =
    IfOk-weaker c.stored.result _ _ (λ codes are. λ names known.
    subst (All (HasCode names)) (sym (codes_are c.args.plain.now.rules c.args.plans.now codes c.requires.many are))
    (codes_held names c.args.plain.now c.args.plans.now c.codes_have_names.ensures known)) c.stored.ensures

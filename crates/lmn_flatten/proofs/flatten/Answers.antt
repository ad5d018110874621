use Rattle.std.proofs.Common.{[], ◌∷◌}
use Rattle.lmn_flatten.proofs.GlossaryLemmas.{accepted_when, refused_when}
use Rattle.lmn_flatten.specs.Outside.{outside_rules}
use Rattle.lmn_flatten_numbers.specs.Outside.{context_places}
use Rattle.lmn_flatten.specs.Glossaries.{reading_of}
use Rattle.lmn_flatten.proofs.flatten.Goals as goal

pub returns-in-Ok-clause-plain : goal.returns-in-Ok-clause-plain
returns-in-Ok-clause-plain c =
    let found = c.in_ok-glossary.ensures.glossary in (
      c.in_ok-plain.ensures (reading_of c.args.text.now c.args.tokens.now c.read.new.names found.0) found.1,
      accepted_when (outside_rules c.in_ok-plain.plain.top ∷ []) c.refuse.result tt c.in-Ok.is (c.refuse.ensures (context_places c.in_ok-plain.plain.top) c.first_outside.ensures),
    )

pub returns-in-Err-clause-plain : goal.returns-in-Err-clause-plain
returns-in-Err-clause-plain c =
    let found = c.in_ok-glossary.ensures.glossary in (
      c.in_ok-plain.plain,
      c.in_ok-plain.ensures (reading_of c.args.text.now c.args.tokens.now c.read.new.names found.0) found.1,
      refused_when (outside_rules c.in_ok-plain.plain.top ∷ []) c.refuse.result c.in-Err.refusal c.in-Err.is (c.refuse.ensures (context_places c.in_ok-plain.plain.top) c.first_outside.ensures),
    )

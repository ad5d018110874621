use Rattle.std.proofs.Common.{arith, refl, sym, subst}
use Rattle.lmn_io.proofs.WritingLemmas.{writes_same}
use Rattle.lmn_compile_rules.specs.Compiled.{AreWhole}
use Rattle.lmn_app_single.specs.declared.task.Task.TheVariants as task
use Rattle.lmn_app_single.proofs.ListLemmas.{listed_ended, listed_part, listing_text, plain_named}
use Rattle.lmn_app_single.proofs.OutcomeLemmas.{memory_ended}
use Rattle.lmn_app_accepted.proofs.Loadable.{rules_whole}
use Rattle.lmn_app_single.proofs.compiling.compile.Goals as goal

pub compile_rules-requires : goal.compile_rules-requires
compile_rules-requires g c =
    let read = c.args.accepted.now in
    subst (AreWhole read.plain.rules) (sym c.as_slice.ensures) (rules_whole c.accepted_texts.ensures c.requires.accepted.0 c.args.names.now read.plain read.plans c.requires.accepted.1.named c.requires.accepted.1.accepted)

pub list_codes-requires-clause-named : goal.list_codes-requires-clause-named
list_codes-requires-clause-named g c =
    let read = c.args.accepted.now in
    let named = plain_named c.accepted_texts.ensures c.requires.accepted.0 c.args.names.now read.plain read.plans c.requires.accepted.1 in
    c.in-Ok.ensures.named c.args.names.now named.1

pub list_codes-requires-clause-few : goal.list_codes-requires-clause-few
list_codes-requires-clause-few g c =
    let few = c.if-len.false in let count = c.len.ensures in omega (arith, few, count)

pub returns-in-Ok-list_codes : goal.returns-in-Ok-list_codes
returns-in-Ok-list_codes g c = λ text before after a.
    let read = c.args.accepted.now in
    listed_ended text c.args.names.now read.plain read.plans a _ _ _ _ _ before after
    (writes_same _ _ _ _ _ _ _ (listing_text c.args.names.now read.plain.rules _ _ _ _ refl c.in-Ok.ensures.codes c.as_slice.ensures) c.in-Ok-list_codes.ensures)

pub returns : goal.returns
returns g c = λ text before after a.
    let read = c.args.accepted.now in
    listed_part text c.args.names.now read.plain read.plans a _ _ _ _ _ before after
    (writes_same _ _ _ _ _ _ _ (listing_text c.args.names.now read.plain.rules _ _ _ _ refl c.in-Ok.ensures.codes c.as_slice.ensures) c.in-Err.ensures)

pub returns-then-len : goal.returns-then-len
returns-then-len g c = λ text before after a. memory_ended task.List _ _ _ before after

pub returns-in_default : goal.returns-in_default
returns-in_default g c = λ text before after a. memory_ended task.List _ _ _ before after

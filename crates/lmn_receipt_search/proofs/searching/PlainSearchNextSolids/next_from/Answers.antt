use Rattle.std.specs.Prelude.{IfSome, IsTrue}
use Rattle.std.proofs.lemmas.Option.{IfSome_then}
use Rattle.std.proofs.lemmas.Result.{IfOk-weaker}
use Rattle.lmn_base.specs.declared.solid.Solid.{Solid}
use Rattle.lmn_congruence.specs.Translation.{region_of}
use Rattle.lmn_solid_next.specs.Searching.{CanSearch, IsSolidBy}
use Rattle.lmn_receipt_chain.specs.Found.{IsNextFound}
use Rattle.lmn_receipt_search.specs.Feeds.{NamesWithout}
use Rattle.lmn_receipt_search.specs.Turns.{IsFoundWithin}
use Rattle.lmn_receipt_search.proofs.Found.{found_beside}
use Rattle.lmn_receipt_search.proofs.searching.PlainSearchNextSolids.next_from.Goals as goal

pub most_items-limit-requires-clause-line : goal.most_items-limit-requires-clause-line
most_items-limit-requires-clause-line c = c.requires.line

pub most_items-limit-requires-clause-names : goal.most_items-limit-requires-clause-names
most_items-limit-requires-clause-names c = c.requires.asked.1.2

pub passed-passed-requires : goal.passed-passed-requires
passed-passed-requires c = c.requires.asked.1.2

pub next_from-requires : goal.next_from-requires
next_from-requires c = let q = c.requires.asked in (c.args.self.now.names.now, q.0, q.1.0, q.1.1, q.2, q.3)

pub returns-clause-tables : goal.returns-clause-tables
returns-clause-tables c s holds are = c.next_from.ensures.tables s are

pub returns-clause-found : goal.returns-clause-found
returns-clause-found c s holds are left =
    let p = c.args.self.now in
    let fits : Solid → Type 0 = λ z. CanSearch p.names.now p.plain.now p.plans.now × IsSolidBy p.names.now p.plain.now z × (IsTrue p.without_feeds → NamesWithout p.names.now) in
    IfOk-weaker c.next_from.result (λ o. IfSome o (IsFoundWithin p.names.now p.plain.now s c.args.from c.most_items-limit.result c.passed-passed.result.now))
    (λ o. IfSome o (IsNextFound fits (region_of p.names.now p.plain.now.rules) (region_of p.names.now p.plain.now.rules s) c.args.from c.args.text.now))
    (λ o h. IfSome_then o h (found_beside p.names.now p.plain.now s c.args.from c.most_items-limit.result c.args.text.now c.args.left_out.now c.passed-passed.result.now fits (λ z by. (holds.0, by, holds.2)) c.most_items-limit.ensures left c.passed-passed.ensures))
    (c.next_from.ensures.found p.names.now s holds.0 holds.1 are)

pub returns-clause-none : goal.returns-clause-none
returns-clause-none c s holds are = c.next_from.ensures.none c.args.self.now.names.now s holds.0 holds.1 are

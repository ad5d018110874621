use Rattle.std.proofs.Common.{◌≡◌, ◌<◌, ◌≤◌, None, length, rules, take}
use Rattle.std.proofs.lemmas.List.{take_all}
use Rattle.lmn_io.specs.Counts.{one_more}
use Rattle.lmn_receipt_line.proofs.ComparingLemmas.{all_met, other_kept, other_met}
use Rattle.lmn_receipt_line.proofs.comparison.ComparisonSink.put.Goals as goal

pub returns-then-count-piece-clause-writes : goal.returns-then-count-piece-clause-writes
returns-then-count-piece-clause-writes c =
    let none : c.self.inside.other ≡ None = search rules in
    let whole : take c.common-count.result c.args.piece.now ≡ c.args.piece.now = search (rules, take_all) in
    let more : c.self.inside.since ≤ c.saturating_add-self-inside-then-count-piece.result = search rules in
    all_met c.self.inside.text.now c.args.piece.now c.behind.result.now c.self.inside.at c.common-count.result c.self.inside.failures c.self.inside.since c.saturating_add-self-inside-then-count-piece.result
    c.self.inside.other c.args.self.now c.self.view_is none c.behind.ensures c.common-count.ensures.same whole more

pub invariant_of-self-2 : goal.invariant_of-self-2
invariant_of-self-2 c =
    let none : c.self.inside.other ≡ None = search rules in
    let less : c.common-count.result < length c.args.piece.now = search rules in
    let more : c.saturating_add-self-inside-2.result ≡ one_more c.self.inside.failures = search rules in
    other_kept c.self.inside.text.now c.args.piece.now c.behind.result.now c.self.inside.at c.common-count.result c.self.inside.failures c.saturating_add-self-inside-2.result
    c.self.inside.other c.self.invariant none c.behind.ensures c.common-count.ensures.left less c.common-count.ensures.differ more

pub returns-clause-writes : goal.returns-clause-writes
returns-clause-writes c =
    let none : c.self.inside.other ≡ None = search rules in
    let less : c.common-count.result < length c.args.piece.now = search rules in
    let more : c.saturating_add-self-inside-2.result ≡ one_more c.self.inside.failures = search rules in
    other_met c.self.inside.text.now c.args.piece.now c.behind.result.now c.self.inside.at c.common-count.result c.self.inside.failures c.self.inside.since c.saturating_add-self-inside-2.result
    c.self.inside.other c.args.self.now _ c.self.invariant c.self.view_is none c.behind.ensures c.common-count.ensures.same less more

use Rattle.std.proofs.Common.{rules, ◌≡◌, sym, ◌∙◌, ap, None}
use Rattle.lmn_parser_grammar.specs.Scan as scanner
use Rattle.lmn_parser.specs.Parsing.{kinds_of}
use Rattle.lmn_parser.specs.Scans.{scan_of, stack_of}
use Rattle.lmn_parser_grammar.proofs.Counts.{scan_passes}
use Rattle.lmn_parser_grammar.proofs.Scans.{within_none, scan_take, within_take}
use Rattle.lmn_parser.proofs.limits.first_passing.Goals as goal

pub loop-at-init : goal.loop-at-init
loop-at-init c = record { scan = ap (λ xs. record { opened = stack_of xs; operators = 0; last = scanner.Other }) c.new.ensures; within = within_none }

pub returns-in-Some : goal.returns-in-Some
returns-in-Some c = (
  c.kind_of-kind.result,
  c.kind_of-kind.ensures,
  c.loop-at.invariant.within,
  scan_passes _ _ _ (ap (λ s. scanner.passes s c.kind_of-kind.result) (sym c.loop-at.invariant.scan) ∙ sym c.in-Some.ensures),
)

pub loop-at-preserved : goal.loop-at-preserved
loop-at-preserved c =
    let ks = kinds_of c.args.tokens.now in
    let k = c.kind_of-kind.result in
    let none : scanner.passes (scan_of c.loop-at.scan) k ≡ None = search rules in
    record {
      scan = c.in_ok-scan.ensures ∙ ap (λ s. scanner.scan_after s k) c.loop-at.invariant.scan ∙ sym (scan_take ks c.loop-at.at k c.kind_of-kind.ensures);
      within = within_take ks c.loop-at.at k c.kind_of-kind.ensures c.loop-at.invariant.within (ap (λ s. scanner.passes s k) (sym c.loop-at.invariant.scan) ∙ none);
    }

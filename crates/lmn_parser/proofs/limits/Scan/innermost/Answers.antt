use Rattle.std.proofs.Common.{rules, arith, sym, ap, map}
use Rattle.lmn_parser.specs.Scans.{opened_of, innermost_of}
use Rattle.lmn_parser.proofs.Stacks.{last_first}
use Rattle.lmn_parser.proofs.limits.Scan.innermost.Goals as goal

pub returns : goal.returns
returns c = sym (ap (λ xs. innermost_of (map opened_of xs)) (last_first c.args.self.now.opened c.at.result.now (omega arith) (search rules)))

use Rattle.std.proofs.Common.{◌+◌, List, sym, subst}
use Rattle.lmn_instr_code.specs.declared.instr.Code.{Code}
use Rattle.lmn_verify_listing.specs.Reaching.{AreReadCodes}
use Rattle.lmn_verify_listing.proofs.CodeLemmas.{codes_more, none_read}
use Rattle.lmn_verify_listing.proofs.listing.read_codes.Goals as goal

pub loop-number-init : goal.loop-number-init
loop-number-init c = subst (λ (xs : List Code). AreReadCodes c.args.rules c.args.listing.now c.args.names.now c.args.names.now 0 0 1 xs) (sym c.new-codes.ensures) (none_read c.args.rules c.args.listing.now c.args.names.now)

pub loop-number-preserved : goal.loop-number-preserved
loop-number-preserved c =
    subst (λ (xs : List Code). AreReadCodes c.args.rules c.args.listing.now c.args.names.now c.read_code.new.names (c.loop-number.number + 1) c.in_ok-read.read.at c.in_ok-read.read.line xs) (sym c.in_ok-push.ensures.ok)
    (codes_more c.args.rules c.args.listing.now c.args.names.now c.loop-number.names c.read_code.new.names c.loop-number.number c.loop-number.at c.loop-number.line c.in_ok-read.read.at c.in_ok-read.read.line c.loop-number.codes c.in_ok-read.read.code
    c.loop-number.invariant c.loop-number-test.true c.in_ok-read.ensures.code)

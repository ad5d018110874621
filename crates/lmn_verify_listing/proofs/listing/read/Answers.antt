use Rattle.std.proofs.Common.{◌≡◌, ℕ, List, refl, sym, subst}
use Rattle.lmn_instr_code.specs.declared.instr.Code.{Code}
use Rattle.lmn_base.specs.declared.refusal.Refusal.{Refusal}
use Rattle.lmn_verify_listing.specs.Listings.{IsFirstUnverified, IsRefusedListing, not_a_listing, not_verified}
use Rattle.lmn_verify_listing.specs.Reaching.{IsRefusedLine}
use Rattle.lmn_verify_listing.proofs.CodeLemmas.{refused_on}
use Rattle.lmn_verify_listing.proofs.listing.read.Goals as goal

pub returns-in_err-codes-clause-refused : goal.returns-in_err-codes-clause-refused
returns-in_err-codes-clause-refused c =
    let rules = c.args.rules in
    let listing = c.args.listing.now in
    refused_on c.from_residual.result _ (IsRefusedLine rules listing) (λ r. IsRefusedListing rules c.args.names.now c.read_codes.new.names listing r.code r.pos.line × (r.pos.column ≡ 1)) c.from_residual.ensures.1 c.in_err-codes.ensures.refused
    (λ r h. (subst (λ (k : ℕ). IsRefusedListing rules c.args.names.now c.read_codes.new.names listing k r.pos.line) (sym h.code) (not_a_listing h.wrong), h.column))

pub returns-in-Some-clause-refused : goal.returns-in-Some-clause-refused
returns-in-Some-clause-refused c =
    let some = rw c.in-Some.is at c.in_ok-line.ensures.some in
    subst (λ (r : Refusal). IsRefusedListing c.args.rules c.args.names.now c.read_codes.new.names c.args.listing.now r.code r.pos.line × (r.pos.column ≡ 1)) (sym c.at.ensures) (
      not_verified c.in_ok-codes.codes c.in_ok-codes.ensures.listed c.in_ok-codes.ensures.order (subst (λ (cs : List Code). IsFirstUnverified c.args.rules cs c.in-Some.line) c.as_slice.ensures some),
      refl,
    )

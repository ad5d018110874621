-- The laws of listings that are read.
use Rattle.std.proofs.Common.{◌≡◌, ℕ, zero, suc, List, [], ◌∷◌, sym, ◌∙◌, subst, arith, slice_get}
use Rattle.std.specs.Prelude.{Some}
use Rattle.std.specs.List.{AllByRecursion}
use Rattle.std.proofs.lemmas.Option.{same_Some}
use Rattle.lmn_instr_code.specs.declared.instr.Code.{Code}
use Rattle.lmn_verify_code.specs.Verified.{IsVerified}
use Rattle.lmn_verify_listing.specs.Listings.{not_a_listing, not_verified}
use Rattle.lmn_verify_listing.proofs.Exclusion.{all_lines, all_whole, listed_lines_stand, text_is}
use Rattle.lmn_verify_compiled.specs.OneReading.{ListedCodesAreOne, ListedCodesAreRead, VerifiedIsNotRefused}
use Rattle.lmn_verify_compiled.proofs.Lines.{one_codes, joined_one}
use Rattle.lmn_verify_listing.proofs.CodeLemmas.{more_codes}

pub listed_codes_are_one : ListedCodesAreOne
listed_codes_are_one n names cs ds text small once a b =
    let many = a.many in
    let count = b.many in
    one_codes names once 0 cs ds a.whole b.whole a.named b.named a.plain b.plain
    (joined_one (all_lines names 0 cs) (all_lines names 0 ds) (all_whole names 0 cs (omega (arith, many, small)) a.plain) (all_whole names 0 ds (omega (arith, count, small)) b.plain)
    (sym (text_is names 0 cs) ∙ a.are ∙ sym b.are ∙ text_is names 0 ds))

pub listed_codes_are_read : ListedCodesAreRead
listed_codes_are_read n k names later cs ds text small once puts a b =
    let more = more_codes k names later puts cs 0 a.named in
    listed_codes_are_one n later cs ds text small once (record { many = a.many; whole = a.whole; named = more.0; plain = more.2 a.plain; are = more.1 ∙ a.are }) b

-- what holds of each element holds of that with a number
all_at : (P : Code → Type 0) (xs : List Code) (k : ℕ) (x : Code) → AllByRecursion P xs → slice_get xs k ≡ Some x → P x
all_at P [] k x h e = absurd (cc)
all_at P (y ∷ ys) zero x h e = subst P (same_Some y x e) h.0
all_at P (y ∷ ys) (suc k) x h e = all_at P ys k x h.1 e

pub verified_is_not_refused : VerifiedIsNotRefused
verified_is_not_refused n k names later cs text code line small once puts a v (not_a_listing w) = listed_lines_stand n names cs text _ small a w
verified_is_not_refused n k names later cs text code line small once puts a v (not_verified ds b order f) =
    let same = listed_codes_are_read n k names later cs ds text small once puts a b in
    f.unverified (all_at (λ c. IsVerified c n) ds f.rule f.code (subst (AllByRecursion (λ c. IsVerified c n)) same v) f.is)

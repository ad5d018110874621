-- The code of a refusal.
use Rattle.std.proofs.Common.{◌≡◌, ℕ, List, refl, sym, ap, subst}
use Rattle.std.specs.Prelude.{Option}
use Rattle.lmn_base.specs.declared.refusal.Refusal.{Refusal}
use Rattle.lmn_app_reading.proofs.CodeLemmas.{refusals_have_codes}
use Rattle.lmn_base.specs.Codes.{IsTextCode}
use Rattle.lmn_app_single.specs.Texts.{IsRefusal, at_start, by_reading, too_large, too_long}

has_code : (r : Refusal) (n : ℕ) → r ≡ at_start n → IsTextCode n → IsTextCode r.code
has_code r n e h = let P : ℕ → Type 0 = IsTextCode in subst P (sym (ap (λ (z : Refusal). z.code) e)) h

-- a refusal has a code of the table
pub refusal_code : (size : Option ℕ) (text : List ℕ) (r : Refusal) → IsRefusal size text r → IsTextCode r.code
refusal_code size text r (too_long l e) = has_code r 1 e refl
refusal_code size text r (by_reading short names named h) = refusals_have_codes text names r h
refusal_code size text r (too_large names p ps a l e) = has_code r 50 e refl

-- How often ports stand in code.
use Rattle.std.proofs.Common.{◌≡◌, ◌+◌, ℕ, Bool, if◌then◌else◌, List, [], ◌∷◌, ◌++◌, refl, ap, ◌∙◌, arith}
use Rattle.std.specs.Prelude.{count_by}
use Rattle.std.specs.List.{flat_map}
use Rattle.std.proofs.lemmas.List.Concat.{flat_map-append}
use Rattle.std.proofs.lemmas.List.Recursion.{is_count_by}
use Rattle.lmn_base.proofs.Truth.{cond_plus}
use Rattle.lmn_instr_code.specs.declared.instr.NewPort.{NewPort}
use Rattle.lmn_instr_code.specs.declared.instr.Instr.{Instr}
use Rattle.lmn_verify_code.specs.Verified.{places}

-- how many items of a list pass a test
abbrev pub counted : {P : Type 0} → (P → Bool) → List P → ℕ
counted t [] = 0
counted t (p ∷ ps) = (if t p then 1 else 0) + counted t ps

pub counted_is : {P : Type 0} (t : P → Bool) (ps : List P) → counted t ps ≡ count_by t ps
counted_is t ps = is_count_by (counted t) t refl (λ x xs. cond_plus (t x) (counted t xs)) ps

pub counted_append : {P : Type 0} (t : P → Bool) (ps qs : List P) → counted t (ps ++ qs) ≡ counted t ps + counted t qs
counted_append t [] qs = omega arith
counted_append t (p ∷ ps) qs = let e = counted_append t ps qs in omega (arith, e)

-- how many places of code pass it
abbrev pub stands : (NewPort → Bool) → List Instr → ℕ
stands t is = counted t (flat_map places is)

pub stands_append : (t : NewPort → Bool) (xs ys : List Instr) → stands t (xs ++ ys) ≡ stands t xs + stands t ys
stands_append t xs ys = ap (counted t) (flat_map-append places xs ys) ∙ counted_append t (flat_map places xs) (flat_map places ys)

-- none does where there are none
pub stands_none : (t : NewPort → Bool) (i : Instr) → places i ≡ [] → stands t (i ∷ []) ≡ 0
stands_none t i e = ap (λ ps. counted t (ps ++ [])) e

pub none_both : (t : NewPort → Bool) (xs ys : List Instr) → stands t xs ≡ 0 → stands t ys ≡ 0 → stands t (xs ++ ys) ≡ 0
none_both t xs ys h g = let e = stands_append t xs ys in omega (arith, e, h, g)

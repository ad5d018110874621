-- The names of code, in the order of its listing.
use Rattle.std.specs.Prelude.{pos, ◌≡◌, ◌≢◌, [], ◌∷◌}
use Rattle.lmn_base.specs.declared.functor.Label.TheVariants.{Int}
use Rattle.lmn_base.specs.SmallTexts.{name_a, name_b}
use Rattle.lmn_instr_code.specs.declared.instr.Code.{Code}
use Rattle.lmn_instr_code.specs.declared.instr.Instr.TheVariants.{FindAtom, Commit, RemoveAtom, NewAtom, Proceed}
use Rattle.lmn_verify_code.specs.Operands.{code_names}
use Rattle.lmn_verify_code.specs.VerifiedExamples.{code, functor}

-- code that takes away a `b` and makes an `a`, a `7` and a `b`
abbrev pub some_code : Code
some_code =
    code (FindAtom 0 0 (functor name_b 0) ∷ (Commit ∷ []))
    (RemoveAtom 0 ∷ (NewAtom 1 0 (functor name_a 0) ∷ (NewAtom 2 0 (record { label = Int (pos 7); arity = 1 }) ∷ (NewAtom 3 0 (functor name_b 0) ∷ (Proceed ∷ [])))))

-- It has `b`, `a` and `b` once more; an integer has no name. It hasn't `a` first.
abbrev pub CodeNamesExamples : Type 0
CodeNamesExamples = (code_names some_code ≡ name_b ∷ (name_a ∷ (name_b ∷ []))) × (code_names some_code ≢ name_a ∷ (name_b ∷ (name_b ∷ [])))

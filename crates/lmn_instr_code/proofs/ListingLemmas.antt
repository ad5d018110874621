-- The text of a line, piece by piece.
use Rattle.std.proofs.Common.{◌≡◌, ℕ, List, [], ◌∷◌, ◌++◌, map, sym, ap, ◌∙◌}
use Rattle.std.specs.Prelude.{codes, option_to_list}
use Rattle.std.proofs.lemmas.List.Concat.{flat_map-append}
use Rattle.lmn_instr_code.specs.declared.words.Operand.{Operand}
use Rattle.lmn_instr_code.specs.declared.words.Operand.TheVariants.{Part}
use Rattle.lmn_instr_code.specs.declared.words.Operands.{Operands}
use Rattle.lmn_instr_code.specs.Words.{all_operands}
use Rattle.lmn_instr_code.specs.Listings.{operand_text, operands_text, HasInstr}
use Rattle.lmn_instr_code.specs.declared.instr.Instr.TheVariants.{IsClosed}

-- the operands' text is that of the first, the second, the third, and the parts
pub pieces : (names : List (List ℕ)) (o : Operands)
    → operands_text names (option_to_list o.first) ++ (operands_text names (option_to_list o.second) ++ (operands_text names (option_to_list o.third) ++ operands_text names (map Part o.parts.now)))
    ≡ operands_text names (all_operands o)
pieces names o =
    let a = option_to_list o.first in
    let b = option_to_list o.second in
    let d = option_to_list o.third in
    let e = map Part o.parts.now in
    let text : Operand → List ℕ = λ x. codes " " ++ operand_text names x in
    sym (flat_map-append text a (b ++ (d ++ e)) ∙ ap (λ t. operands_text names a ++ t)
    (flat_map-append text b (d ++ e) ∙ ap (λ t. operands_text names b ++ t) (flat_map-append text d e)))

-- the parts that a closed membrane may have need no names
pub parts_named : (ns : List (List ℕ)) (m : ℕ) (gs : List ℕ) → HasInstr ns (IsClosed m gs)
parts_named ns m [] = (tt, tt)
parts_named ns m (g ∷ gs) = (tt, (tt, (parts_named ns m gs).1))

-- No trace is neither a chain nor wrong.
use Rattle.std.proofs.Common.{◌≡◌, ◌∙◌, ℕ, zero, suc, ◌+◌, ◌<◌, ◌≤◌, List, [], ◌∷◌, ◌++◌, codes, length, map, refl, sym, ap, subst, arith, append_assoc, append-nil}
use Rattle.std.specs.List.{concat}
use Rattle.std.proofs.lemmas.List.{length-append}
use Rattle.lmn_base.specs.declared.refusal.Refusal.{Refusal}
use Rattle.lmn_congruence.specs.Regions.{Region}
use Rattle.lmn_flatten_plain.specs.SolidLines.{as_level}
use Rattle.lmn_flatten_plain.specs.Words.{text_of, top_pieces}
use Rattle.lmn_receipt_chain.specs.Chains.{BeginsChain, Continues, IsChain, IsEndThere, IsWrongTrace, at_line, begun, continued, line_of_solid, no_end_line, no_first_line, no_next_line}
use Rattle.lmn_receipt_chain.specs.Laws.{NoTraceIsNeither}
use Rattle.lmn_receipt_chain.proofs.WalkLemmas.{lines_more}

-- behind a line less is left
shorter : (S : Region) (xs more : List ℕ) (fuel : ℕ) → xs ≡ line_of_solid S ++ more → length xs ≤ suc fuel → length more ≤ fuel
shorter S xs more fuel is few =
    let some : 0 < length (line_of_solid S) = omega (arith, length-append (text_of (top_pieces (as_level S))) (codes "\n")) in
    let same : length xs ≡ length (line_of_solid S ++ more) = ap length is in
    omega (arith, few, some, same, length-append (line_of_solid S) more)

module _ (S : Region) (trace : List ℕ) (chain : (n : ℕ) → IsChain S trace n → ⊥) (wrong : (r : Refusal) → IsWrongTrace S trace r → ⊥) where
  -- where an end is there it is the one that is due, or wrong
  at_end : (before : List Region) (last : Region) (rest : List ℕ) → BeginsChain S trace before last rest → IsEndThere rest → ⊥
  at_end before last rest b there =
      wrong (at_line 62 (length before + 2))
      (no_end_line before last rest b there (λ word ends is. chain (length before) (record { before = before; last = last; word = word; begins = subst (BeginsChain S trace before last) is b; ends = ends; count = refl })) refl)

  next_begins : (before : List Region) (last next : Region) (rest more : List ℕ) → BeginsChain S trace before last rest → Continues last next → rest ≡ line_of_solid next ++ more
      → BeginsChain S trace (before ++ last ∷ []) next more
  next_begins before last next rest more b c is =
      let lines = concat (map line_of_solid (before ++ last ∷ [])) in
      record {
        solids = continued b.solids c;
        is = b.is ∙ ap (λ r. lines ++ r) is ∙ sym (append_assoc lines (line_of_solid next) more) ∙ ap (λ t. t ++ more) (sym (lines_more (before ++ last ∷ []) next));
      }

  -- behind the lines of some solids
  walk : (fuel : ℕ) (before : List Region) (last : Region) (rest : List ℕ) → BeginsChain S trace before last rest → length rest ≤ fuel → ⊥
  walk fuel before last [] b few = at_end before last [] b tt
  walk zero before last (byte ∷ rest) b few = omega (arith, few)
  walk (suc fuel) before last (byte ∷ rest) b few =
      wrong (at_line 61 (length before + 2))
      (no_next_line before last (byte ∷ rest) b (λ is. at_end before last (byte ∷ rest) b is)
      (λ next more c is. walk fuel (before ++ last ∷ []) next more (next_begins before last next (byte ∷ rest) more b c is) (shorter next (byte ∷ rest) more fuel is few)) refl)

  neither : ⊥
  neither =
      wrong (at_line 61 1)
      (no_first_line (λ rest is. walk (length rest) [] S rest (record { solids = begun; is = is ∙ ap (λ t. t ++ rest) (sym (append-nil (line_of_solid S))) }) (omega arith)) refl)

-- no trace is neither a chain nor wrong
pub no_trace_is_neither : NoTraceIsNeither
no_trace_is_neither S trace both = neither S trace both.0 both.1

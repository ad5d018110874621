-- Lemmas that several crates above cite.
use Rattle.lmn_instr_reading.specs.Lines.{joined, IsOneLine}
use Rattle.std.proofs.Common.{List, [], ℕ, ◌++◌, ◌∙◌, ◌∷◌, ◌≡◌, refl}
use Rattle.std.proofs.lemmas.List.{append_assoc}

pub joined_first : (line : List ℕ) (lines : List (List ℕ)) (rest : List ℕ) → joined (line ∷ lines) ++ rest ≡ line ++ 10 ∷ (joined lines ++ rest)
joined_first line lines rest = append_assoc (line ++ 10 ∷ []) (joined lines) rest ∙ append_assoc line (10 ∷ []) (joined lines ++ rest)

pub feed_within : (u v : List ℕ) → IsOneLine (u ++ 10 ∷ v) → ⊥
feed_within [] v h = h.0 refl
feed_within (x ∷ u) v h = feed_within u v h.1

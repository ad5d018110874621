-- The same up to order and grouping, and what stands side by side in a process.
use Rattle.std.proofs.Common.{ℕ, ◌≡◌, List, [], ◌∷◌, ◌++◌, refl, sym, ◌∙◌, ap, subst, arith}
use Rattle.std.proofs.lemmas.List.{append_assoc}
use Rattle.lmn_congruence.specs.Process.{Process, nothing, connector, atom, pair, membrane, rule, occurrences, Linked}
use Rattle.lmn_congruence.specs.Congruence.{Congruent, unit, swap, regroup, beside, inside, same, back, chain}
use Rattle.lmn_congruence.specs.UpToOrder.{Reordered, r_unit, r_swap, r_regroup, r_beside, r_inside, r_same, r_back, r_chain}
use Rattle.lmn_congruence.specs.Orders.{here, Shuffle, none, more}
use Rattle.lmn_congruence.proofs.Counts.{linked_left, linked_right, linked_inside, linked_as}
use Rattle.lmn_congruence.proofs.Crossings.{crossings, same_number}
use Rattle.lmn_congruence.proofs.Shuffles.{shuffle_append, shuffle_same, shuffle_swap, shuffle_flip, shuffle_chain, shuffle_map}

-- an empty process in a membrane may stand outside
pub nothing_out : {P : Process} → Reordered (membrane (pair nothing P)) (pair nothing (membrane P))
nothing_out = r_chain (r_inside r_unit) (r_back r_unit)

-- processes that are reordered beside another are reordered with it
pub r_right : {P Q Q' : Process} → Reordered Q Q' → Reordered (pair P Q) (pair P Q')
r_right d = r_chain r_swap (r_chain (r_beside d) r_swap)

-- order and grouping don't change how often a link occurs
pub reordered_count : {P Q : Process} → Reordered P Q → (z : ℕ) → occurrences z P ≡ occurrences z Q
reordered_count r_unit z = omega arith
reordered_count r_swap z = omega arith
reordered_count r_regroup z = omega arith
reordered_count (r_beside d) z = omega (arith, reordered_count d z)
reordered_count (r_inside d) z = reordered_count d z
reordered_count (r_same e) z = ap (occurrences z) e
reordered_count (r_back d) z = sym (reordered_count d z)
reordered_count (r_chain d e) z = reordered_count d z ∙ reordered_count e z

-- nor the crossings
pub reordered_crossings : {P Q : Process} → Reordered P Q → crossings P ≡ crossings Q
reordered_crossings r_unit = omega arith
reordered_crossings r_swap = omega arith
reordered_crossings r_regroup = omega arith
reordered_crossings (r_beside d) = omega (arith, reordered_crossings d)
reordered_crossings (r_inside {P = P} {P' = P'} d) = rw (same_number P P' (reordered_count d), reordered_crossings d) refl
reordered_crossings (r_same e) = ap crossings e
reordered_crossings (r_back d) = sym (reordered_crossings d)
reordered_crossings (r_chain d e) = reordered_crossings d ∙ reordered_crossings e

-- a linked process is congruent to what it is reordered to
pub reordered_congruent : {P Q : Process} → Reordered P Q → Linked P → Congruent P Q
reordered_congruent r_unit l = unit (linked_right l)
reordered_congruent r_swap l = swap l
reordered_congruent r_regroup l = regroup l
reordered_congruent (r_beside {P = P} {P' = P'} {Q = Q} d) l = beside (reordered_congruent d (linked_left l)) l (linked_as (reordered_count (r_beside {Q = Q} d)) l)
reordered_congruent (r_inside d) l = inside (reordered_congruent d (linked_inside l))
reordered_congruent (r_same {P = P} e) l = subst (Congruent P) e (same l)
reordered_congruent (r_back d) l = back (reordered_congruent d (linked_as (λ z. sym (reordered_count d z)) l))
reordered_congruent (r_chain d e) l = chain (reordered_congruent d l) (reordered_congruent e (linked_as (reordered_count d) l))

-- ---- what stands side by side in a process

-- the atoms, connectors, membranes and rules of a process, in a row
abbrev pub pieces : Process → List (Process)
pieces nothing = []
pieces (connector x y) = connector x y ∷ []
pieces (atom a xs) = atom a xs ∷ []
pieces (pair P Q) = pieces P ++ pieces Q
pieces (membrane P) = membrane P ∷ []
pieces (rule r) = rule r ∷ []

-- one piece is the other, the content of a membrane up to order
pub data SamePiece : Process → Process → Type 0 where
  itself : {P : Process} → SamePiece P P
  content : {P Q : Process} → Reordered P Q → SamePiece (membrane P) (membrane Q)

same_piece_back : (P Q : Process) → SamePiece Q P → SamePiece P Q
same_piece_back P Q itself = itself
same_piece_back P Q (content d) = content (r_back d)

-- sameness of pieces goes on from one to the next
pub same_piece_chain : (P Q S : Process) → SamePiece P Q → SamePiece Q S → SamePiece P S
same_piece_chain P Q S itself e = e
same_piece_chain P Q S (content d) itself = content d
same_piece_chain P Q S (content d) (content e) = content (r_chain d e)

-- Two reordered processes have the same pieces, in some order.
pub reordered_pieces : {P Q : Process} → Reordered P Q → Shuffle SamePiece (pieces P) (pieces Q)
reordered_pieces (r_unit {P = P}) = shuffle_same (λ X. itself) (pieces P)
reordered_pieces (r_swap {P = P} {Q = Q}) = shuffle_swap (λ X. itself) (pieces P) (pieces Q)
reordered_pieces (r_regroup {P = P} {Q = Q} {S = S}) = subst (Shuffle SamePiece (pieces P ++ (pieces Q ++ pieces S))) (sym (append_assoc (pieces P) (pieces Q) (pieces S))) (shuffle_same (λ X. itself) (pieces P ++ (pieces Q ++ pieces S)))
reordered_pieces (r_beside {Q = Q} d) = shuffle_append (reordered_pieces d) (shuffle_same (λ X. itself) (pieces Q))
reordered_pieces (r_inside d) = more (content d) none here
reordered_pieces (r_same {P = P} e) = subst (λ X. Shuffle SamePiece (pieces P) (pieces X)) e (shuffle_same (λ X. itself) (pieces P))
reordered_pieces (r_back d) = shuffle_map (λ X Y. same_piece_back X Y) (shuffle_flip (reordered_pieces d))
reordered_pieces (r_chain {S = S} d e) = shuffle_chain same_piece_chain (reordered_pieces d) (pieces S) (reordered_pieces e)

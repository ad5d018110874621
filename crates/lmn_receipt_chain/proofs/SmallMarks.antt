-- A first line, and a membrane that isn't left out.
use Rattle.std.proofs.Common.{ℕ, ◌≡◌, Bool, true, false, List, [], ◌∷◌, ◌++◌, codes, refl, sym, ap, subst, arith}
use Rattle.std.specs.Prelude.{◌==◌, if◌then◌else◌}
use Rattle.std.proofs.lemmas.List.{append-nil}
use Rattle.lmn_base.proofs.Lists.{head_is}
use Rattle.lmn_flatten_plain.specs.SolidLines.{as_level}
use Rattle.lmn_flatten_plain.specs.Words.{text_of, top_pieces}
use Rattle.lmn_reduction.specs.Examples.{label_a, label_b}
use Rattle.lmn_adequacy.specs.ChangeExamples.{changing}
use Rattle.lmn_adequacy.specs.Next.{NextAt}
use Rattle.lmn_receipt_chain.specs.Bytes.{NoFeed}
use Rattle.lmn_receipt_chain.specs.Chains.{line_of_solid}
use Rattle.lmn_receipt_chain.specs.Examples.{ChosenIsAsked, FirstOfTwo, NotTheSecond, inside}
use Rattle.lmn_receipt_chain.proofs.LineBytes.{first_line_one}
use Rattle.lmn_receipt_chain.proofs.SmallMembranes.{membrane_is_chosen}

-- no byte is a line feed, by tests
abbrev any_feed : List ℕ → Bool
any_feed [] = false
any_feed (b ∷ bs) = if b == 10 then true else any_feed bs

unfed : (bs : List ℕ) → any_feed bs ≡ false → NoFeed bs
unfed [] e = tt
unfed (b ∷ bs) e = by (b == 10) refl (unfed bs) e
  where
    differs : (b == 10) ≡ false → b ≡ 10 → ⊥
    differs q e = let t : (10 == 10) ≡ false = subst (λ z. (z == 10) ≡ false) e q in absurd (cc)

    by : (t : Bool) → (b == 10) ≡ t → (any_feed bs ≡ false → NoFeed bs) → (if t then true else any_feed bs) ≡ false → NoFeed (b ∷ bs)
    by true q r e = absurd (cc)
    by false q r e = (differs q, r e)

pub first_of_two : FirstOfTwo
first_of_two front more quiet is = ap (λ z. z ++ codes "\n") (first_line_one (codes "a.") front (codes "b.\n") more (unfed (codes "a.") refl) quiet is).0

pub not_the_second : NotTheSecond
not_the_second so = let first : 98 ≡ 97 = head_is (so (codes "a.") (codes "b.\n") (unfed (codes "a.") refl) refl) in absurd (omega (arith, first))

pub chosen_is_asked : ChosenIsAsked
chosen_is_asked left =
    let n = membrane_is_chosen.0.next in
    left (inside (changing (label_b ∷ []))) []
    (record {
      path = 0 ∷ [];
      number = n.number;
      positions = n.positions;
      next = subst (λ p. NextAt p n.number n.positions (inside (changing (label_a ∷ []))) (inside (changing (label_b ∷ [])))) membrane_is_chosen.2 n.next;
      earlier = [] ∷ [];
      later = [];
      all = refl;
      marked = refl;
    })
    (unfed (text_of (top_pieces (as_level (inside (changing (label_b ∷ [])))))) refl) (sym (append-nil (line_of_solid (inside (changing (label_b ∷ []))))))

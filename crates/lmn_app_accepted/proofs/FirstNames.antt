-- The fixed names are a list of names.
use Rattle.std.proofs.Common.{◌≡◌, ◌≢◌, false, [], ◌∷◌, refl, sym, ◌∙◌, arith, true≢false}
use Rattle.std.specs.Prelude.{bytes_eq, codes}
use Rattle.std.proofs.lemmas.List.Elements.{All-from_recursion}
use Rattle.std.proofs.lemmas.List.Kept.{AllPairs-cons}
use Rattle.std.proofs.lemmas.Slice.Eq.{bytes_eq-Decides}
use Rattle.lmn_base.specs.Names.{IsNames, first_names}
use Rattle.lmn_congruence.specs.Rules.{Name}

apart : (m n : Name) → bytes_eq m n ≡ false → m ≢ n
apart m n e same = true≢false (sym ((bytes_eq-Decides m n).1 same) ∙ e)

-- the names with the numbers 0 to 3 make a list of names
pub first_are_names : IsNames first_names
first_are_names =
    let R : Name → Name → Type 0 = λ m n. m ≢ n in
    let int = codes "int" ∷ codes "unary" ∷ codes "ground" ∷ [] in
    let unary = codes "unary" ∷ codes "ground" ∷ [] in
    let ground = codes "ground" ∷ [] in
    record {
      begins = ([], refl);
      once =
          AllPairs-cons R (codes "=") int (All-from_recursion (R (codes "=")) int (apart _ _ refl, (apart _ _ refl, (apart _ _ refl, tt))))
          (AllPairs-cons R (codes "int") unary (All-from_recursion (R (codes "int")) unary (apart _ _ refl, (apart _ _ refl, tt)))
          (AllPairs-cons R (codes "unary") ground (All-from_recursion (R (codes "unary")) ground (apart _ _ refl, tt))
          (AllPairs-cons R (codes "ground") [] (All-from_recursion (R (codes "ground")) [] tt) (λ i j d lt within. absurd (omega (arith, within))))));
    }

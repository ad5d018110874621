-- What holds of each copy that items make.
use Rattle.std.proofs.Common.{ℕ, ◌+◌, List, [], ◌∷◌, ◌++◌}
use Rattle.lmn_solid_bodies.specs.declared.items.BodyItem.{BodyItem}
use Rattle.lmn_solid_bodies.specs.declared.items.BodyItem.TheVariants.{Atom, Connector, Copy, Bound, Membrane, Rest, Rule, Rules}
use Rattle.lmn_adequacy_turns.proofs.Adders.{past}

-- by its number, that of its typed context, and its link; the next copy has number k
abbrev pub EachCopy : (ℕ → ℕ → ℕ → Type 0) → ℕ → List BodyItem → Type 0
EachCopy P k [] = Unit {0}
EachCopy P k (Atom functor links inside ∷ xs) = EachCopy P k xs
EachCopy P k (Connector left right ∷ xs) = EachCopy P k xs
EachCopy P k (Copy part link inside ∷ xs) = P k part link × EachCopy P (k + 1) xs
EachCopy P k (Bound integer link inside ∷ xs) = EachCopy P k xs
EachCopy P k (Membrane inside ∷ xs) = EachCopy P k xs
EachCopy P k (Rest of closed inside ∷ xs) = EachCopy P k xs
EachCopy P k (Rule rule inside ∷ xs) = EachCopy P k xs
EachCopy P k (Rules of inside ∷ xs) = EachCopy P k xs

-- of items in a row
pub each_both : (P : ℕ → ℕ → ℕ → Type 0) (k : ℕ) (xs ys : List BodyItem) → EachCopy P k (xs ++ ys) → EachCopy P k xs × EachCopy P (past k xs) ys
each_both P k [] ys e = (tt, e)
each_both P k (Atom functor links inside ∷ xs) ys e = each_both P k xs ys e
each_both P k (Connector left right ∷ xs) ys e = each_both P k xs ys e
each_both P k (Copy part link inside ∷ xs) ys e = let u = each_both P (k + 1) xs ys e.1 in ((e.0, u.0), u.1)
each_both P k (Bound integer link inside ∷ xs) ys e = each_both P k xs ys e
each_both P k (Membrane inside ∷ xs) ys e = each_both P k xs ys e
each_both P k (Rest of closed inside ∷ xs) ys e = each_both P k xs ys e
each_both P k (Rule rule inside ∷ xs) ys e = each_both P k xs ys e
each_both P k (Rules of inside ∷ xs) ys e = each_both P k xs ys e

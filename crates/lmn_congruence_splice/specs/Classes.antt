-- The classes into which the connectors of a body join its links, and what ties the ends of each class.
use Rattle.std.specs.Prelude.{ℕ, zero, suc, ◌==◌, min, max, if◌then◌else◌, List, [], ◌∷◌, ◌++◌}
use Rattle.lmn_congruence_splice.specs.Ties.{Tie, newlink, relink, unify}
use Rattle.lmn_congruence.specs.Process.{replace}

-- m, where the classes of x and y have become one
abbrev pub with_joined : (ℕ → ℕ) → ℕ → ℕ → ℕ → ℕ
with_joined m x y z = replace (min (m x) (m y)) (max (m x) (m y)) (m z)

-- the map of links, each connector having joined two classes
abbrev pub classes : (ℕ → ℕ) → List (ℕ × ℕ) → ℕ → ℕ
classes m [] = m
classes m (e ∷ es) = classes (with_joined m e.0 e.1) es

-- The class of a link, by its least link. A connector is a pair of links.
abbrev pub class_of : List (ℕ × ℕ) → ℕ → ℕ
class_of es = classes (λ z. z) es

-- the ports at a class, of ports with their links, in their order
abbrev pub ends_of_class : {P : Type 0} → (ℕ → ℕ) → ℕ → List (P × ℕ) → List P
ends_of_class m z [] = []
ends_of_class m z (e ∷ es) = if m e.1 == z then e.0 ∷ ends_of_class m z es else ends_of_class m z es

-- what ties the ends of a class, the new ones and the old ones: a class has two ends or none
abbrev pub tie_of : {P : Type 0} → List P → List P → List (Tie P)
tie_of (p ∷ q ∷ []) [] = newlink p q ∷ []
tie_of (p ∷ []) (h ∷ []) = relink p h ∷ []
tie_of [] (g ∷ h ∷ []) = unify g h ∷ []
tie_of ps hs = []

-- class by class
abbrev pub ties_of : {P : Type 0} → (ℕ → ℕ) → List (P × ℕ) → List (P × ℕ) → List ℕ → List (Tie P)
ties_of m news olds [] = []
ties_of m news olds (z ∷ zs) = tie_of (ends_of_class m z news) (ends_of_class m z olds) ++ ties_of m news olds zs

-- n numbers from x on
abbrev pub rising : ℕ → ℕ → List ℕ
rising x zero = []
rising x (suc n) = x ∷ rising (suc x) n

-- The ties of a body: its new ports and the old ones that are left by the head, each with its link, its
-- connectors, and the number of links of the rule.
abbrev pub body_ties : {P : Type 0} → List (P × ℕ) → List (P × ℕ) → List (ℕ × ℕ) → ℕ → List (Tie P)
body_ties news olds es n = ties_of (class_of es) news olds (rising 0 n)

-- What the ties of a body make of the links: the fusion of its connectors.
use Rattle.std.specs.Prelude.{ℕ, suc, ◌+◌, ◌≡◌, ◌⊎◌, ◌==◌, ◌&&◌, if◌then◌else◌, List, [], ◌∷◌, ◌++◌, map, Option, Some, None}
use Rattle.lmn_congruence_splice.specs.Ports.{Partners, Coloured}
use Rattle.lmn_base.specs.Graphs.{Port}
use Rattle.lmn_congruence.specs.Links.{places}

-- it stands in the list
abbrev pub IsOneOf : {A : Type 0} → A → List A → Type 0
IsOneOf x [] = ⊥
IsOneOf x (y ∷ ys) = (y ≡ x) ⊎ IsOneOf x ys

-- no element stands twice
abbrev pub NoneTwice : {A : Type 0} → List A → Type 0
NoneTwice [] = Unit {0}
NoneTwice (x ∷ xs) = (IsOneOf x xs → ⊥) × NoneTwice xs

-- each number stands in the list twice or never
abbrev pub TwiceOrNever : List ℕ → Type 0
TwiceOrNever xs = (z : ℕ) → (places z xs ≡ 0) ⊎ (places z xs ≡ 2)

-- the links of connectors
abbrev pub both_links : List (ℕ × ℕ) → List ℕ
both_links [] = []
both_links (e ∷ es) = e.0 ∷ e.1 ∷ both_links es

-- the ports of pairs, and their links
abbrev pub ports : List (Port × ℕ) → List Port
ports es = map (λ e. e.0) es

abbrev pub links : List (Port × ℕ) → List ℕ
links es = map (λ e. e.1) es

-- the link at a port, where the list has it
abbrev pub link_at : List (Port × ℕ) → Port → Option ℕ
link_at [] p = None
link_at (e ∷ es) p = if (e.0.0 == p.0) && (e.0.1 == p.1) then Some e.1 else link_at es p

-- In a raw process or level the links of the rule have the even numbers, and those of the solid the odd ones.
abbrev pub of_rule : ℕ → ℕ
of_rule x = x + x

abbrev pub of_solid : ℕ → ℕ
of_solid x = suc (x + x)

-- the raw link of a port: the rule's at a new port, and elsewhere that of the solid
abbrev pub raw_by : ℕ → Option ℕ → ℕ
raw_by x None = of_solid x
raw_by x (Some y) = of_rule y

abbrev pub raw_link : List (Port × ℕ) → (Port → ℕ) → Port → ℕ
raw_link news c p = raw_by (c p) (link_at news p)

-- before the ties: what lives in the end and isn't new, and the old ports
abbrev pub LiveBefore : (Port → Type 0) → List (Port × ℕ) → List (Port × ℕ) → Port → Type 0
LiveBefore F news olds p = (F p × (IsOneOf p (ports news) → ⊥)) ⊎ IsOneOf p (ports olds)

-- A body's ports and connectors beside ports with colours.
--   new_once, old_once   no port is named twice
--   made                 a new port lives in the end, and has no partner yet
--   gone                 an old port doesn't live in the end
--   linked               each link stands twice, or not at all, in connectors and at ports
--   coloured             what lives before is joined by colours
pub record Splice (F : Port → Type 0) (c : Port → ℕ) (k : Partners) (news olds : List (Port × ℕ)) (es : List (ℕ × ℕ)) : Type 0 where
  pub new_once : NoneTwice (ports news)
  pub old_once : NoneTwice (ports olds)
  pub made : (p : Port) → IsOneOf p (ports news) → F p × (k p ≡ None)
  pub gone : (p : Port) → IsOneOf p (ports olds) → F p → ⊥
  pub linked : TwiceOrNever (both_links es ++ (links news ++ links olds))
  pub coloured : Coloured c (LiveBefore F news olds) k

-- The fusion of the raw links: one map takes the two links of each connector of the body to one, and the link
-- of the rule at each old port and its link in the solid. By its images what lives in the end is coloured.
pub record Fusion (F : Port → Type 0) (c : Port → ℕ) (k : Partners) (news olds : List (Port × ℕ)) (es : List (ℕ × ℕ)) : Type 0 where
  pub to : ℕ → ℕ
  pub connectors : (e : ℕ × ℕ) → IsOneOf e es → to (of_rule e.0) ≡ to (of_rule e.1)
  pub heads : (e : Port × ℕ) → IsOneOf e olds → to (of_rule e.1) ≡ to (of_solid (c e.0))
  pub coloured : Coloured (λ p. to (raw_link news c p)) F k

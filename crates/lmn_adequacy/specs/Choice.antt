-- Which rule the strategy fires, and where.
use Rattle.std.specs.Prelude.{ℕ, zero, suc, List, map, take, drop, ◌≡◌, ◌<◌, ◌⊎◌, [], ◌∷◌, ◌++◌}
use Rattle.lmn_congruence.specs.Orders.{Among}
use Rattle.lmn_congruence.specs.Regions.{Region, Regions, SolidAtom, no_region, region, region_and}
use Rattle.lmn_congruence.specs.Rules.{Context, Label, Leaf, Level, Levels, Name, Rule, Rules, atom_leaf, connector_leaf, head_of, level, level_and, no_level, typed_leaf}
use Rattle.lmn_reduction.specs.Assignments.{Assignment}
use Rattle.lmn_adequacy.specs.Embedding.{EmbedsIn, Taken, TakenRegion}
use Rattle.lmn_adequacy.specs.Next.{NextAt}

-- the paths of all membranes in preorder: the root, then each membrane of its list followed by what is inside it
abbrev mutual
  pub paths : Region → List (List ℕ)
  paths (region xs ms rs) = [] ∷ paths_from 0 ms

  pub paths_from : ℕ → Regions → List (List ℕ)
  paths_from n no_region = []
  paths_from n (region_and m ms) = map (λ path. n ∷ path) (paths m) ++ paths_from (suc n) ms

-- the lexicographic order of lists of numbers
pub data Before : List ℕ → List ℕ → Type 0 where
  less_here : {m n : ℕ} {ms ns : List ℕ} → m < n → Before (m ∷ ms) (n ∷ ns)
  less_behind : {n : ℕ} {ms ns : List ℕ} → Before ms ns → Before (n ∷ ms) (n ∷ ns)

-- ---- positions

-- A map says where in a list each item stands that is left; here it says so when item number n has been taken out too.
abbrev pub left_without : ℕ → (ℕ → ℕ) → ℕ → ℕ
left_without zero at i = at (suc i)
left_without (suc n) at zero = at zero
left_without (suc n) at (suc i) = left_without n (λ k. at (suc k)) i

-- the places of items in a list of which nothing is taken out
abbrev pub whole_list : ℕ → ℕ
whole_list i = i

-- The positions that the numbers of an embedding stand for, in the order of head items. A number of an embedding
-- counts the items that earlier ones have left, and a position counts all of the list. `rest` reads the numbers that
-- are over.
abbrev pub leaf_positions : List Leaf → (ℕ → ℕ) → (List ℕ → List ℕ) → List ℕ → List ℕ
leaf_positions [] at rest ns = rest ns
leaf_positions (atom_leaf a xs ∷ ls) at rest [] = []
leaf_positions (atom_leaf a xs ∷ ls) at rest (n ∷ ns) = at n ∷ leaf_positions ls (left_without n at) rest ns
leaf_positions (connector_leaf x y ∷ ls) at rest ns = leaf_positions ls at rest ns
leaf_positions (typed_leaf p x ∷ ls) at rest ns = leaf_positions ls at rest ns

abbrev mutual
  pub level_positions : Level → (List ℕ → List ℕ) → List ℕ → List ℕ
  level_positions (level leaves membranes contexts rule_contexts rules) rest =
      leaf_positions leaves whole_list (membrane_positions membranes whole_list rest)

  pub membrane_positions : Levels → (ℕ → ℕ) → (List ℕ → List ℕ) → List ℕ → List ℕ
  membrane_positions no_level at rest ns = rest ns
  membrane_positions (level_and l ls) at rest [] = []
  membrane_positions (level_and l ls) at rest (n ∷ ns) =
      at n ∷ level_positions l (membrane_positions ls (left_without n at) rest) ns

-- the positions at which the head of a rule is, by the numbers of an embedding
abbrev pub positions_of : Rule → List ℕ → List ℕ
positions_of r = level_positions (head_of r) (λ ns. ns)

-- the images of a head stand at these positions of the lists: those of its atoms, then each membrane followed by its
-- own
pub data AtomsStand (t : Assignment) (xs : List SolidAtom) : List Leaf → List ℕ → Type 0 where
  no_atom_stands : AtomsStand t xs [] []
  atom_stands : {a : Label} {ys : List ℕ} {ls : List Leaf} {n : ℕ} {ns : List ℕ} {others : List SolidAtom} →
      Taken n (record { label = a; links = map t.link_of ys }) xs others → AtomsStand t xs ls ns →
      AtomsStand t xs (atom_leaf a ys ∷ ls) (n ∷ ns)
  typed_stands : {p : Name} {x : ℕ} {ls : List Leaf} {ns : List ℕ} →
      AtomsStand t xs ls ns → AtomsStand t xs (typed_leaf p x ∷ ls) ns

mutual
  pub data LevelStands (t : Assignment) : Level → List ℕ → Region → Type 0 where
    level_stands : {leaves : List Leaf} {membranes : Levels} {contexts : List Context} {rule_contexts : List Name} {rules : Rules}
        {ns ns' : List ℕ} {xs : List SolidAtom} {ms : Regions} {rs : List Rule} →
        AtomsStand t xs leaves ns → MembranesStand t membranes ns' ms →
        LevelStands t (level leaves membranes contexts rule_contexts rules) (ns ++ ns') (region xs ms rs)

  pub data MembranesStand (t : Assignment) : Levels → List ℕ → Regions → Type 0 where
    no_membrane_stands : {ms : Regions} → MembranesStand t no_level [] ms
    membrane_stands : {l : Level} {ls : Levels} {n : ℕ} {ns ns' : List ℕ} {m : Region} {ms others : Regions} →
        TakenRegion n m ms others → LevelStands t l ns m → MembranesStand t ls ns' ms →
        MembranesStand t (level_and l ls) (n ∷ (ns ++ ns')) ms

-- The first membrane that is asked and has an embedding, its first rule that embeds, and the least positions at which
-- this rule embeds. Membranes are asked from a number on, wrapping round.
pub record ChosenFrom (from : ℕ) (S : Region) (path : List ℕ) (k : ℕ) (f : List ℕ) : Type 0 where
  pub embeds : EmbedsIn path k f S
  pub earlier : List (List ℕ)
  pub later : List (List ℕ)
  pub order : drop from (paths S) ++ take from (paths S) ≡ earlier ++ (path ∷ later)
  pub first_membrane : (p : List ℕ) → Among p earlier → (j : ℕ) (g : List ℕ) → ¬ (EmbedsIn p j g S)
  pub first_rule : (j : ℕ) → j < k → (g : List ℕ) → ¬ (EmbedsIn path j g S)
  pub least : (g : List ℕ) → EmbedsIn path k g S → (f ≡ g) ⊎ Before f g

-- S' is the solid after the firing that the strategy chooses, where membranes are asked from a number on
pub record NextFrom (from : ℕ) (S S' : Region) : Type 0 where
  pub path : List ℕ
  pub number : ℕ
  pub positions : List ℕ
  pub chosen : ChosenFrom from S path number positions
  pub next : NextAt path number positions S S'

-- the paths of the membranes as they are asked, from a number on, wrapping round
abbrev pub asked_paths : ℕ → Region → List (List ℕ)
asked_paths from S = drop from (paths S) ++ take from (paths S)

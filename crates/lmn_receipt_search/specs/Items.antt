-- How many items a firing leaves, told from below: what the head doesn't take, and what the body's contexts stand for. Contracts of private
-- functions alone cite these words.
use Rattle.std.specs.Prelude.{ℕ, ◌≡◌, ◌+◌, ◌-◌, ◌==◌, if◌then◌else◌, List, [], ◌∷◌, get_or, length, map}
use Rattle.lmn_base.specs.declared.level.CtxUse.{CtxUse}
use Rattle.lmn_base.specs.declared.level.Leaf.{Leaf}
use Rattle.lmn_base.specs.declared.level.Leaf.TheVariants as leaf
use Rattle.lmn_base.specs.declared.level.Level.{Level}
use Rattle.lmn_base.specs.declared.level.Level.TheOpen.{Level-F}
use Rattle.lmn_base.specs.declared.level.Level.TheFolds.{fold-Level}
use Rattle.lmn_store_heap.specs.Heap.{Heap, IsMem, atoms_in, mems_in, rules_in}
use Rattle.lmn_store_heap.specs.Sound.{Forest, Forms, flat as members, item_count_in}
use Rattle.lmn_ground_parts.specs.Walks.{is_in}
use Rattle.lmn_solid_bodies.specs.Flattening.{membrane_named}
use Rattle.lmn_solid_firing.specs.declared.match_.Match.{Match}
use Rattle.lmn_solid_firing.specs.declared.match_.Part.{Part}

-- the size of a membrane in a table
abbrev pub size_at : List ℕ → ℕ → ℕ
size_at sizes m = get_or sizes m 0

-- a table says of each membrane how many items it is with all that stands in it
abbrev pub AreSizes : Heap → List ℕ → Type 0
AreSizes h sizes = (m : ℕ) (inner : Forest) → IsMem h m → Forms h inner (mems_in h m) → size_at sizes m ≡ item_count_in h (m ∷ members inner)

-- the sizes of the numbers of a list that aren't taken
abbrev pub left_size : (ℕ → ℕ) → List ℕ → List ℕ → ℕ
left_size size taken [] = 0
left_size size taken (x ∷ xs) = (if is_in taken x then 0 else size x) + left_size size taken xs

-- what a head leaves of a membrane: each atom is one item, and membranes are as many as the table says
abbrev pub context_size : Heap → List ℕ → Match → ℕ → ℕ
context_size h sizes t m = left_size (λ a. 1) t.atoms (atoms_in h m) + left_size (size_at sizes) t.membranes (mems_in h m)

-- what untyped contexts stand for,
abbrev pub contexts_size : Heap → List ℕ → Match → List CtxUse → ℕ
contexts_size h sizes t [] = 0
contexts_size h sizes t (u ∷ us) = context_size h sizes t (membrane_named t.contexts u.name) + contexts_size h sizes t us

-- rule contexts,
abbrev pub rules_size : Heap → Match → List CtxUse → ℕ
rules_size h t [] = 0
rules_size h t (u ∷ us) = length (rules_in h (membrane_named t.rule_contexts u.name)) + rules_size h t us

-- and typed contexts, where an integer isn't counted
abbrev pub part_size : List Part → ℕ → ℕ
part_size [] name = 0
part_size (p ∷ ps) name = if p.name == name then length p.atoms else part_size ps name

abbrev pub leaf_size : Match → Leaf → ℕ
leaf_size t (leaf.Atom functor links pos) = 0
leaf_size t (leaf.Typed name o pos) = part_size t.parts name

abbrev pub leaves_size : Match → List Leaf → ℕ
leaves_size t [] = 0
leaves_size t (x ∷ xs) = leaf_size t x + leaves_size t xs

-- all of a body: of a level itself, and of those in it
abbrev pub total : List ℕ → ℕ
total [] = 0
total (n ∷ ns) = n + total ns

abbrev pub size_step : Heap → List ℕ → Match → Level-F ℕ → ℕ
size_step h sizes t l = leaves_size t l.leaves + contexts_size h sizes t l.contexts + rules_size h t l.rule_contexts + total l.membranes

abbrev pub body_size : Heap → List ℕ → Match → Level → ℕ
body_size h sizes t = fold-Level ℕ (size_step h sizes t)

-- ---- the whole solid

-- what is left of it behind the images of a head: an image in another one is taken twice
abbrev pub kept_size : List ℕ → Match → ℕ
kept_size sizes t = size_at sizes 0 - (1 + length t.atoms + total (map (size_at sizes) t.membranes))

abbrev pub firing_size : Heap → List ℕ → Match → Level → ℕ
firing_size h sizes t body = kept_size sizes t + body_size h sizes t body

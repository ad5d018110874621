-- The head of a rule as one flat list: its atoms, typed contexts and membranes by their numbers, its links by
-- the ports at which they stand, and how its membranes are nested.
use Rattle.std.specs.Prelude.{ℕ, zero, suc, ◌+◌, ◌==◌, Bool, if◌then◌else◌, List, [], ◌∷◌, ◌++◌, length, map, slice_index_or}
use Rattle.lmn_base.specs.declared.functor.Functor.{Functor}
use Rattle.lmn_guards.specs.declared.plan.TypeKind.{TypeKind}
use Rattle.lmn_solid_heads.specs.declared.items.HeadItem.{HeadItem}
use Rattle.lmn_solid_heads.specs.declared.items.HeadItem.TheVariants.{Atom, Typed, Membrane}
use Rattle.lmn_base.specs.Graphs.{Port}

-- an atom, a typed context and a membrane of a head, each with the number of the membrane in which it stands
pub record HeadAtom : Type 0 where
  pub functor : Functor
  pub links : List ℕ
  pub inside : ℕ

pub record HeadTyped : Type 0 where
  pub name : ℕ
  pub kind : TypeKind
  pub link : ℕ
  pub inside : ℕ

pub record HeadMembrane : Type 0 where
  pub inside : ℕ
  pub has_context : Bool
  pub has_closed_context : Bool
  pub has_rule_context : Bool

-- an item as a list of one, where it is of the sort
abbrev pub atom_of : HeadItem → List HeadAtom
atom_of (Atom functor links inside) = (record { functor = functor; links = links; inside = inside }) ∷ []
atom_of item = []

abbrev pub typed_of : HeadItem → List HeadTyped
typed_of (Typed name kind link inside) = (record { name = name; kind = kind; link = link; inside = inside }) ∷ []
typed_of item = []

abbrev pub membrane_of : HeadItem → List HeadMembrane
membrane_of (Membrane inside has_context has_closed_context has_rule_context) =
    (record { inside = inside; has_context = has_context; has_closed_context = has_closed_context; has_rule_context = has_rule_context }) ∷ []
membrane_of item = []

-- the atoms, by their numbers from 0
abbrev pub atoms_of : List HeadItem → List HeadAtom
atoms_of [] = []
atoms_of (x ∷ xs) = atom_of x ++ atoms_of xs

-- the typed contexts, by their numbers from 0
abbrev pub typed_contexts_of : List HeadItem → List HeadTyped
typed_contexts_of [] = []
typed_contexts_of (x ∷ xs) = typed_of x ++ typed_contexts_of xs

-- the membranes; the number of each is one more than its index
abbrev pub membranes_of : List HeadItem → List HeadMembrane
membranes_of [] = []
membranes_of (x ∷ xs) = membrane_of x ++ membranes_of xs

-- a link at a port of an atom
pub record Occurrence : Type 0 where
  pub link : ℕ
  pub port : Port

-- the links of atom number n, from its port i on
abbrev pub at_ports : ℕ → ℕ → List ℕ → List Occurrence
at_ports n i [] = []
at_ports n i (x ∷ xs) = (record { link = x; port = (n, i) }) ∷ at_ports n (i + 1) xs

-- the links of atoms, of which the first has the number n, in their order
abbrev pub at_atoms : ℕ → List HeadAtom → List Occurrence
at_atoms n [] = []
at_atoms n (a ∷ as') = at_ports n 0 a.links ++ at_atoms (n + 1) as'

-- the links of a head at each of its places: the ports of atoms, and the typed contexts
abbrev pub links_of_head : List HeadItem → List ℕ
links_of_head items = map (λ o. o.link) (at_atoms 0 (atoms_of items)) ++ map (λ t. t.link) (typed_contexts_of items)

-- how often a link stands in a list
abbrev pub times : ℕ → List ℕ → ℕ
times x [] = 0
times x (y ∷ ys) = (if y == x then 1 else 0) + times x ys

-- The number of the membrane in which membrane number k stands. It is less than k.
abbrev pub inside_of : List HeadMembrane → ℕ → ℕ
inside_of ms zero = 0
inside_of ms (suc k) = slice_index_or (map (λ m. m.inside) ms) k 0

-- The outermost head membrane round membrane number k, which may be it: the one of those round it that stands at
-- the top of the head. A head has fewer steps to it than membranes.
abbrev pub outermost_by : ℕ → List HeadMembrane → ℕ → ℕ
outermost_by zero ms k = k
outermost_by (suc fuel) ms k = if inside_of ms k == 0 then k else outermost_by fuel ms (inside_of ms k)

-- the outermost head membrane round membrane number k
abbrev pub outermost : List HeadMembrane → ℕ → ℕ
outermost ms k = outermost_by (length ms) ms k

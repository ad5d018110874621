-- The tables of links while a process is settled, and the membranes that are put together. Contracts of private functions alone cite
-- these words.
use Rattle.std.specs.Prelude.{ℕ, zero, suc, ◌≡◌, ◌<◌, List, [], ◌∷◌, ◌++◌, map, flat_map, length, reverse, slice_index_or, take, Option, Some, None}
use Rattle.lmn_base.specs.declared.solid.Region.{Region}
use Rattle.lmn_base.specs.declared.solid.Region.TheViews.{roll-Region}
use Rattle.lmn_base.specs.declared.solid.SolidAtom.{SolidAtom}
use Rattle.lmn_flatten_numbers.specs.Numberings.{FollowsNumbering, GivesNumbers, IsNewNumbering, IsNumbering}
use Rattle.lmn_solid_settle.specs.declared.settling.RawMembrane.{RawMembrane}
use Rattle.lmn_solid_settle.specs.declared.numbers.Numbers.{Numbers}
use Rattle.lmn_solid_settle.specs.declared.assembling.Part.{Part}
use Rattle.lmn_solid_settle.specs.Raw.{settled_atom}
use Rattle.lmn_congruence_splice.specs.Classes.{class_of}

-- The numbers that classes have got so far: different ones, by first occurrence.
abbrev pub IsValid : Numbers → Type 0
IsValid t = IsNumbering (record { numbers = t.numbers; count = t.count })

-- none has one yet
abbrev pub IsNew : ℕ → Numbers → Type 0
IsNew n t = IsNewNumbering n (record { numbers = t.numbers; count = t.count })

-- `to` is a class's number, where it has one
abbrev pub Follows : (ℕ → ℕ) → Numbers → Type 0
Follows to t = FollowsNumbering to (record { numbers = t.numbers; count = t.count })

-- classes occur, in this order: those that have no number get the next ones
abbrev pub Gives : List ℕ → Numbers → Numbers → Type 0
Gives keys old new = GivesNumbers keys (record { numbers = old.numbers; count = old.count }) (record { numbers = new.numbers; count = new.count })

-- the class of a link, by the table
abbrev pub class_in : List ℕ → ℕ → ℕ
class_in classes x = slice_index_or classes x 0

-- the table has the class of each link below n, by its least link
pub record AreClasses (connectors : List (ℕ × ℕ)) (n : ℕ) (classes : List ℕ) : Type 0 where
  pub many : length classes ≡ n
  pub are : (x : ℕ) → x < n → class_in classes x ≡ class_of connectors x

-- each class is a key of the numbers
abbrev pub HaveKeys : Numbers → Type 0
HaveKeys t = (x : ℕ) → x < length t.classes → class_in t.classes x < length t.numbers

-- a link at the number of its class, and so an atom and a membrane
abbrev pub numbered_link : List ℕ → (ℕ → ℕ) → ℕ → ℕ
numbered_link classes to x = to (class_in classes x)

abbrev pub numbered_atom : List ℕ → (ℕ → ℕ) → SolidAtom → SolidAtom
numbered_atom classes to a = settled_atom (numbered_link classes to) a

abbrev pub numbered_membrane : List ℕ → (ℕ → ℕ) → RawMembrane → RawMembrane
numbered_membrane classes to m = record { around = m.around; atoms = map (numbered_atom classes to) m.atoms; rules = m.rules }

-- the classes of the links of an atom, of atoms, and of a membrane, in their order
abbrev pub atom_keys : List ℕ → SolidAtom → List ℕ
atom_keys classes a = map (class_in classes) a.links

abbrev pub membrane_keys : List ℕ → RawMembrane → List ℕ
membrane_keys classes m = flat_map (atom_keys classes) m.atoms

-- ---- putting together

-- a membrane without any in it
abbrev pub empty_part : RawMembrane → Part
empty_part m = record { around = m.around; atoms = m.atoms; membranes = []; rules = m.rules }

-- the region of a part, whose membranes came from the last to the first
abbrev pub whole : Part → Region
whole p = roll-Region (record { atoms = p.atoms; membranes = reverse p.membranes; rules = p.rules })

-- the part with a number gets one membrane more
abbrev pub given : List Part → ℕ → Region → List Part
given [] k r = []
given (p ∷ ps) zero r = record { around = p.around; atoms = p.atoms; membranes = p.membranes ++ r ∷ []; rules = p.rules } ∷ ps
given (p ∷ ps) (suc k) r = p ∷ given ps k r

abbrev pub no_part : Part
no_part = record { around = 0; atoms = []; membranes = []; rules = [] }

-- The region of the first of so many parts: the last goes into the one around it, and so on.
abbrev pub assembled : ℕ → List Part → Option Region
assembled zero ps = None
assembled (suc zero) ps = Some (whole (slice_index_or ps 0 no_part))
assembled (suc (suc n)) ps = let last = slice_index_or ps (suc n) no_part in assembled (suc n) (given (take (suc n) ps) last.around (whole last))

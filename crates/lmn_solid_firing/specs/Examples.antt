-- A match of a small head, and what is none.
use Rattle.std.specs.Prelude.{◌≡◌, List, [], ◌∷◌, None, Some, pos}
use Rattle.lmn_base.specs.declared.rule.RuleTree.{RuleTree}
use Rattle.lmn_congruence.specs.Rules.{Label}
use Rattle.lmn_guards.specs.declared.plan.TypeKind.TheVariants.{Ground}
use Rattle.lmn_store_heap.specs.Examples.{functor_b}
use Rattle.lmn_solid_heads.specs.declared.items.HeadItem.{HeadItem}
use Rattle.lmn_solid_heads.specs.declared.items.HeadItem.TheVariants.{Atom, Typed}
use Rattle.lmn_solid_heads.specs.Embeddings.{Images}
use Rattle.lmn_solid_bodies.specs.Flattening.{numbering}
use Rattle.lmn_solid_tables.specs.Examples.{HasTables, a_in, b_in, holds, port_of}
use Rattle.lmn_solid_tables.specs.declared.flat.Flat.{Flat}
use Rattle.lmn_solid_search.specs.declared.embedding.Found.{Found}
use Rattle.lmn_solid_firing.specs.declared.match_.Match.{Match}
use Rattle.lmn_solid_firing.specs.declared.match_.Part.{Part}
use Rattle.lmn_solid_firing.specs.Matched.{AddsWires, IsMatched, IsPartAt, IsPartOfName}

-- the tables of `{a(X)}, b(X)`: atom 0 is the b, and atom 1 the a
abbrev pub AcrossTables : Flat → Type 0
AcrossTables flat = HasTables flat (b_in 0 ∷ a_in 1 ∷ []) (holds (0 ∷ []) (1 ∷ []) ∷ holds (1 ∷ []) [] ∷ []) (port_of 0 ∷ port_of 1 ∷ [])

-- the heads `b(X)` and `b(X), $x[X]`, where `$x` has the name 5
abbrev pub b_alone : List HeadItem
b_alone = Atom functor_b (0 ∷ []) 0 ∷ []

abbrev pub b_with_part : List HeadItem
b_with_part = Atom functor_b (0 ∷ []) 0 ∷ Typed 5 Ground 0 0 ∷ []

-- the part that is entered at the a
abbrev pub a_part : Part
a_part = record { name = 5; link = 0; atoms = 1 ∷ [] }

-- Its link is the number 0, and its one atom is the a: the walk doesn't go on by the port at which it is entered.
abbrev pub OneAtomIsAPart : Type 0
OneAtomIsAPart = (flat : Flat) → AcrossTables flat → IsPartAt flat (1, 0) a_part

abbrev pub OtherLinkIsNone : Type 0
OtherLinkIsNone = (flat : Flat) → AcrossTables flat → IsPartAt flat (1, 0) (record a_part { link = 1 }) → ⊥

abbrev pub MoreAtomsAreNone : Type 0
MoreAtomsAreNone = (flat : Flat) → AcrossTables flat → IsPartAt flat (1, 0) (record a_part { atoms = 1 ∷ 0 ∷ [] }) → ⊥

-- a name of no typed context has no part
abbrev pub OtherNameHasNone : Type 0
OtherNameHasNone = (flat : Flat) (f : Images) (p : Part) → IsPartOfName flat f None (Some p) → ⊥

-- what was found: the head lies at the b, its part is entered at the a, and the guard binds the name 7 to 3
pub record IsFound (found : Found) : Type 0 where
  pub atoms : found.atoms ≡ 0 ∷ []
  pub parts : found.parts ≡ port_of 1 ∷ []
  pub names : found.names.items ≡ 7 ∷ []
  pub values : found.values.items ≡ pos 3 ∷ []

-- the match, where an untyped context with the name 4 stands in the head beside these
abbrev pub across_match : Match
across_match = record { home = 0; links = 1; atoms = 0 ∷ 1 ∷ []; membranes = []; parts = a_part ∷ []; integers = (7, pos 3) ∷ []; contexts = (4, 0) ∷ []; rule_contexts = [] }

abbrev pub HasContext : RuleTree → Type 0
HasContext rule = ((numbering (λ l. l.contexts) rule.head).names 0 1 ≡ (4, 0) ∷ []) × ((numbering (λ l. l.rule_contexts) rule.head).names 0 1 ≡ [])

abbrev pub AcrossIsMatched : Type 0
AcrossIsMatched = (flat : Flat) → AcrossTables flat → (rule : RuleTree) → HasContext rule → (found : Found) → IsFound found → IsMatched flat rule b_with_part 0 found across_match

-- The atom of the part is taken too.
abbrev pub ImagesAloneAreNone : Type 0
ImagesAloneAreNone = (flat : Flat) (rule : RuleTree) (found : Found) → IsFound found → IsMatched flat rule b_with_part 0 found (record across_match { atoms = 0 ∷ [] }) → ⊥

-- The one link of `b(X)` stands once: its connector joins the first new number to the number of the link of the solid. In
-- `b(X), $x[X]` it stands twice.
abbrev pub OneWireIsAdded : Type 0
OneWireIsAdded = (flat : Flat) → AcrossTables flat → (f : Images) → f.atom 0 ≡ 0 → AddsWires flat b_alone f 1 1 [] ((1, 0) ∷ [])

abbrev pub TwoPlacesAddNone : Type 0
TwoPlacesAddNone = (flat : Flat) (f : Images) → AddsWires flat b_with_part f 1 1 [] []

abbrev pub NoneIsTooFew : Type 0
NoneIsTooFew = (flat : Flat) (f : Images) (a : Label) → AddsWires flat b_alone f 1 1 [] [] → ⊥

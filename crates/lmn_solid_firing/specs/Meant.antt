-- What the names of a body stand for, by the lists of a match.
use Rattle.lmn_congruence.specs.LinkedRules.{level_occurrences}
use Rattle.lmn_congruence.specs.Rules.{Level}
use Rattle.std.specs.Prelude.{ℕ, zero, suc, ℤ, ◌≡◌, ◌<◌, ◌+◌, ◌==◌, cond, if◌then◌else◌, List, [], ◌∷◌, length, map, Option, Some, None}
use Rattle.lmn_base.specs.declared.level.CtxUse.{CtxUse}
use Rattle.lmn_solid_bodies.specs.Flattening.{membrane_named}
use Rattle.lmn_solid_tables.specs.Flats.{heap_of}
use Rattle.lmn_solid_tables.specs.declared.flat.Flat.{Flat}
use Rattle.lmn_solid_firing.specs.Making.{left_of}
use Rattle.std.specs.List.{AllByRecursion}
use Rattle.lmn_base.specs.declared.level.Leaf.{Leaf}
use Rattle.lmn_base.specs.declared.level.Leaf.TheVariants.{Atom, Typed}
use Rattle.lmn_congruence.specs.Orders.{Among}
use Rattle.lmn_congruence.specs.Translation.{context_tree, name_of}
use Rattle.lmn_reduction.specs.Parts.{IsInteger, Rooted}
use Rattle.lmn_adequacy.specs.Embedding.{Contents, IsPart}
use Rattle.lmn_adequacy.specs.Next.{DepthFirst, links_at}
use Rattle.lmn_adequacy_heaps.specs.HeapRegions.{HeapReading, atoms_at, regions_at}
use Rattle.lmn_store_heap.specs.Heap.{Heap, atoms_in, rules_in}
use Rattle.lmn_store_heap.specs.Sound.{Forest}
use Rattle.lmn_solid_firing.specs.declared.match_.Match.{Match}
use Rattle.lmn_solid_firing.specs.declared.match_.Part.{Part}

-- the part of a typed context of the head, and the integer to which a name is bound
abbrev pub part_named : List Part → ℕ → Option Part
part_named [] name = None
part_named (p ∷ ps) name = if p.name == name then Some p else part_named ps name

abbrev pub integer_named : List (ℕ × ℤ) → ℕ → Option ℤ
integer_named [] name = None
integer_named (e ∷ es) name = if e.0 == name then Some e.1 else integer_named es name

-- The atoms of a part are what a typed context stands for, held by its link, depth first from it.
pub record PartStands (h : Heap) (r : HeapReading) (p : Part) (g : Rooted) : Type 0 where
  pub is : IsPart g p.link (atoms_at h r p.atoms)
  pub in_order : DepthFirst p.link (atoms_at h r p.atoms)
  pub held : Among p.link (links_at (atoms_at h r p.atoms))

-- A name of a typed context of the body stands for a part of the head, or for the integer to which it is bound.
abbrev pub MeansPart : Heap → HeapReading → Match → Contents → ℕ → Option Part → Type 0
MeansPart h r t c name (Some p) = PartStands h r p (c.typed_of (name_of r.names name))
MeansPart h r t c name None = (z : ℤ) × (integer_named t.integers name ≡ Some z) × IsInteger z (c.typed_of (name_of r.names name))

abbrev pub MeansTyped : Heap → HeapReading → Match → Contents → ℕ → Type 0
MeansTyped h r t c name = MeansPart h r t c name (part_named t.parts name)

-- An atom of the body has as many links as its functor says, and the links of the rule are below a number.
abbrev pub LeafFits : Heap → HeapReading → Match → Contents → ℕ → Leaf → Type 0
LeafFits h r t c R (Atom functor links pos) = (length links ≡ functor.arity) × AllByRecursion (λ o. o.link < R) links
LeafFits h r t c R (Typed name o pos) = (o.link < R) × MeansTyped h r t c name

-- An untyped context of the body stands for what the head leaves of its membrane, and a rule context for the rules of its membrane.
abbrev pub ContextFits : Flat → HeapReading → Match → Contents → (ℕ → Forest) → CtxUse → Type 0
ContextFits flat r t c left u =
    let x = membrane_named t.contexts u.name in
    (c.atoms_of (context_tree r.names u) ≡ atoms_at (heap_of flat) r (left_of t.atoms (atoms_in (heap_of flat) x))) × (c.membranes_of (context_tree r.names u) ≡ regions_at (heap_of flat) r (left x))

abbrev pub RuleContextFits : Flat → HeapReading → Match → Contents → CtxUse → Type 0
RuleContextFits flat r t c u = c.rules_of (name_of r.names u.name) ≡ map r.rule (rules_in (heap_of flat) (membrane_named t.rule_contexts u.name))

-- all that stands in a body, at every depth
pub record BodyFits (flat : Flat) (r : HeapReading) (t : Match) (c : Contents) (left : ℕ → Forest) (R : ℕ) (leaves : List Leaf) (contexts rule_contexts : List CtxUse) : Type 0 where
  pub leaves_fit : AllByRecursion (LeafFits (heap_of flat) r t c R) leaves
  pub contexts_fit : AllByRecursion (ContextFits flat r t c left) contexts
  pub rule_contexts_fit : AllByRecursion (RuleContextFits flat r t c) rule_contexts

-- the connectors of a head by numbers: from each link below n that stands there once to that of the solid
abbrev pub wire_pairs : ℕ → (ℕ → ℕ) → Level → ℕ → List (ℕ × ℕ)
wire_pairs F f l zero = []
wire_pairs F f l (suc n) = cond (level_occurrences n l == 1) ((F + n, f n) ∷ wire_pairs F f l n) (wire_pairs F f l n)

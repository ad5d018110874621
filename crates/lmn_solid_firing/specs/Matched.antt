-- A match, made of what a search has found.
use Rattle.std.specs.Prelude.{ℕ, ◌≡◌, ◌<◌, ◌↔◌, ◌++◌, List, Option, None, Some, map}
use Rattle.lmn_base.specs.Graphs.{Port}
use Rattle.lmn_base.specs.Lists.{In}
use Rattle.lmn_base.specs.declared.rule.RuleTree.{RuleTree}
use Rattle.lmn_congruence.specs.LinkedRules.{level_occurrences}
use Rattle.lmn_congruence.specs.Rules.{Level}
use Rattle.lmn_guards.specs.Values.{value_beside}
use Rattle.lmn_ground_parts.specs.Walks.{IsPartInDepth}
use Rattle.lmn_solid_heads.specs.declared.items.HeadItem.{HeadItem}
use Rattle.lmn_solid_heads.specs.Embeddings.{HasLink, Images, IsMembraneImage}
use Rattle.lmn_solid_heads.specs.Guards.{typed_number}
use Rattle.lmn_solid_heads.specs.Heads.{links_of_head, times, typed_contexts_of}
use Rattle.lmn_solid_bodies.specs.Flattening.{context_membrane, membrane_named, numbering, rule_context_membrane}
use Rattle.lmn_solid_bodies.specs.Within.{IsTakenAtom}
use Rattle.lmn_solid_tables.specs.Flats.{heap_of, link_at}
use Rattle.lmn_solid_tables.specs.declared.flat.Flat.{Flat}
use Rattle.lmn_solid_search.specs.Finding.{images}
use Rattle.lmn_solid_search.specs.declared.embedding.Found.{Found}
use Rattle.lmn_solid_firing.specs.Meant.{integer_named, part_named, wire_pairs}
use Rattle.lmn_solid_firing.specs.declared.match_.Match.{Match}
use Rattle.lmn_solid_firing.specs.declared.match_.Part.{Part}

-- a part is that of a typed context of the head: its atoms depth first from the port at which it is entered, and the link there
pub record IsPartAt (flat : Flat) (root : Port) (p : Part) : Type 0 where
  pub link : p.link ≡ link_at flat root.0 root.1
  pub in_depth : IsPartInDepth (heap_of flat) root p.atoms

-- the part of a name is that of the typed context with the name, and there is none where no typed context has it
abbrev pub IsPartOfName : Flat → Images → Option ℕ → Option Part → Type 0
IsPartOfName flat f None None = Unit {0}
IsPartOfName flat f None (Some p) = ⊥
IsPartOfName flat f (Some g) None = ⊥
IsPartOfName flat f (Some g) (Some p) = IsPartAt flat (f.part g) p

-- the names of numbered contexts
abbrev pub names_of : List (ℕ × ℕ) → List ℕ
names_of es = map (λ e. e.0) es

-- A match is what a search has found of the items of a rule's head, at membrane m.
--   links      its number is above those of all links of the solid
--   atoms      it takes the images of atoms, and the atoms of the parts
--   membranes  and the images of membranes
--   parts      the first typed context with a name counts
--   integers   names stand for the integers that were found
--   contexts, rule_contexts   a context of the head stands for the image of the membrane in which it stands
pub record IsMatched (flat : Flat) (rule : RuleTree) (items : List HeadItem) (m : ℕ) (found : Found) (t : Match) : Type 0 where
  pub home : t.home ≡ m
  pub links : (a i : ℕ) → link_at flat a i < t.links
  pub atoms : (a : ℕ) → In a t.atoms ↔ IsTakenAtom (heap_of flat) items (images m found) a
  pub membranes : (c : ℕ) → In c t.membranes ↔ IsMembraneImage items (images m found) c
  pub parts : (x : ℕ) → IsPartOfName flat (images m found) (typed_number (typed_contexts_of items) 0 x) (part_named t.parts x)
  pub integers : (x : ℕ) → integer_named t.integers x ≡ value_beside found.names.items found.values.items x
  pub contexts : (x : ℕ) → In x (names_of ((numbering (λ l. l.contexts) rule.head).names 0 1)) → membrane_named t.contexts x ≡ (images m found).membrane (context_membrane rule.head x)
  pub rule_contexts : (x : ℕ) → In x (names_of ((numbering (λ l. l.rule_contexts) rule.head).names 0 1)) → membrane_named t.rule_contexts x ≡ (images m found).membrane (rule_context_membrane rule.head x)

-- The connectors of the head were added to a list, where the head is this level and a link of it is that of the solid at the images of
-- its ports.
abbrev pub AddsWires : Flat → List HeadItem → Images → ℕ → ℕ → List (ℕ × ℕ) → List (ℕ × ℕ) → Type 0
AddsWires flat items f links R before after = (link_of : ℕ → ℕ) (l : Level) →
    ((x : ℕ) (p : Port) → HasLink items x p → link_of x ≡ link_at flat (f.atom p.0) p.1) → ((x : ℕ) → times x (links_of_head items) ≡ level_occurrences x l) →
    after ≡ before ++ wire_pairs links link_of l R

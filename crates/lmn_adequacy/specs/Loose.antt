-- Embeddings up to the order of what contexts stand for. No contract of the program speaks of them: the proofs go from
-- instances to embeddings, and from heaps to regions, by way of them.
use Rattle.std.specs.Prelude.{ℕ, List, map, [], ◌∷◌, ◌++◌}
use Rattle.lmn_congruence.specs.Fused.{NoConnector}
use Rattle.lmn_congruence.specs.Process.{Closed, Free, Process, pair, rule, together}
use Rattle.lmn_congruence.specs.Regions.{Region, Regions, SolidAtom, region, region_process}
use Rattle.lmn_congruence.specs.Rules.{Context, Leaf, Level, Levels, Name, Rule, Rules, closed_context, guard_of, head_of, level, level_and, no_level, rules_list}
use Rattle.lmn_congruence.specs.UpToOrder.{Reordered}
use Rattle.lmn_reduction.specs.Assignments.{Assignment, NoRuleAtTop}
use Rattle.lmn_reduction.specs.Firing.{typed_contexts}
use Rattle.lmn_reduction.specs.Guards.{GuardHolds}
use Rattle.lmn_reduction.specs.Instances.{rules_of_contexts}
use Rattle.lmn_adequacy.specs.Embedding.{AtomImages, Contents, KeepsLinks, LeftTo, Taken, TakenRegion, TypedParts}

-- what the untyped contexts, the rule contexts and the rules of a level stand for
abbrev pub filling : Assignment → List Context → List Name → Rules → Process
filling t contexts rule_contexts rules =
    pair (together (map t.context_of contexts))
    (pair (together (rules_of_contexts t rule_contexts)) (together (map rule (rules_list rules))))

-- A level has images in a region: `rest` is what they and the typed parts leave of it. What is left of the image of a
-- head membrane is, up to order, what its contexts stand for; so it is nothing where the membrane has none. The
-- numbers are in the order of head items: leaves, then each membrane followed by its own items.
mutual
  pub data LevelImages (t : Assignment) : Level → List ℕ → Region → Region → Type 0 where
    level_images : {leaves : List Leaf} {membranes : Levels} {contexts : List Context} {rule_contexts : List Name} {rules : Rules}
        {ns ns' : List ℕ} {xs xs' xs'' : List SolidAtom} {ms ms' : Regions} {rs : List Rule} →
        AtomImages t leaves ns xs xs' → TypedParts t leaves xs' xs'' → MembraneImages t membranes ns' ms ms' →
        LevelImages t (level leaves membranes contexts rule_contexts rules) (ns ++ ns')
        (region xs ms rs) (region xs'' ms' rs)

  pub data MembraneImages (t : Assignment) : Levels → List ℕ → Regions → Regions → Type 0 where
    no_membrane_image : {ms : Regions} → MembraneImages t no_level [] ms ms
    membrane_image_and : {leaves : List Leaf} {membranes ls : Levels} {contexts : List Context} {rule_contexts : List Name}
        {rules : Rules} {n : ℕ} {ns ns' : List ℕ} {m rest : Region} {ms ms' ms'' : Regions} →
        TakenRegion n m ms ms' → LevelImages t (level leaves membranes contexts rule_contexts rules) ns m rest →
        KeepsLinks t (level leaves membranes contexts rule_contexts rules) m →
        Reordered (filling t contexts rule_contexts rules) (region_process rest) → MembraneImages t ls ns' ms' ms'' →
        MembraneImages t (level_and (level leaves membranes contexts rule_contexts rules) ls) (n ∷ (ns ++ ns')) ms ms''

-- what untyped contexts stand for has no connector, and no rule at its top; each link of what a closed one stands for
-- occurs twice in it, so no link leaves it; the root of a typed context is free
pub record Plain (t : Assignment) : Type 0 where
  pub no_connector : (p : Context) → NoConnector (t.context_of p)
  pub no_rule : (p : Context) → NoRuleAtTop (t.context_of p)
  pub closed : (p : Name) → Closed (t.context_of (closed_context p))
  pub root_is_free : (p : Name) → Free (t.typed_of p).root (t.typed_of p).process

-- a rule of a region embeds in it at the positions f, up to order
pub record EmbedsLoosely (r : Rule) (f : List ℕ) (m : Region) : Type 0 where
  pub assignment : Assignment
  pub rest : Region
  pub plain : Plain assignment
  pub images : LevelImages assignment (head_of r) f m rest
  pub guard : GuardHolds (typed_contexts (head_of r)) assignment (guard_of r)

-- what each image of a head membrane has left is what its contexts stand for, in its order
abbrev mutual
  pub EachLeft : (c : Contents) {t : Assignment} {l : Level} {ns : List ℕ} {m rest : Region} → LevelImages t l ns m rest → Type 0
  EachLeft c (level_images i j k) = EachLeftIn c k

  pub EachLeftIn : (c : Contents) {t : Assignment} {ls : Levels} {ns : List ℕ} {ms rest : Regions} → MembraneImages t ls ns ms rest → Type 0
  EachLeftIn c no_membrane_image = Unit {0}
  EachLeftIn c (membrane_image_and {contexts = contexts} {rule_contexts = rule_contexts} {rest = rest} k d e f g) =
      LeftTo c contexts rule_contexts rest × EachLeft c d × EachLeftIn c g

-- Rule number k of the membrane at the end of the path embeds at the positions f, up to order.
pub data EmbedsLooselyIn : List ℕ → ℕ → List ℕ → Region → Type 0 where
  embeds_loosely_here : {k : ℕ} {r : Rule} {f : List ℕ} {xs : List SolidAtom} {ms : Regions} {rs rs' : List Rule} →
      Taken k r rs rs' → EmbedsLoosely r f (region xs ms rs) → EmbedsLooselyIn [] k f (region xs ms rs)
  embeds_loosely_below : {n k : ℕ} {path f : List ℕ} {m : Region} {xs : List SolidAtom} {ms ms' : Regions} {rs : List Rule} →
      TakenRegion n m ms ms' → EmbedsLooselyIn path k f m → EmbedsLooselyIn (n ∷ path) k f (region xs ms rs)

-- some rule of some membrane of the region embeds, up to order
pub record HasLooseEmbedding (S : Region) : Type 0 where
  pub path : List ℕ
  pub number : ℕ
  pub positions : List ℕ
  pub embeds : EmbedsLooselyIn path number positions S

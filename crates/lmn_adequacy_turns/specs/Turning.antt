-- A turn on a heap, and the next solid of the calculus.
use Rattle.std.specs.Prelude.{ℕ, ◌≡◌, ◌⊎◌, None, Some, List, [], ◌∷◌, ◌++◌, map, Contains, slice_get}
use Rattle.lmn_base.specs.declared.level.CtxUse.{CtxUse}
use Rattle.lmn_base.specs.declared.level.Leaf.TheVariants.{Typed}
use Rattle.lmn_base.specs.declared.level.Occ.{Occ}
use Rattle.lmn_base.specs.declared.refusal.Pos.{Pos}
use Rattle.lmn_base.specs.declared.rule.RuleTree.{RuleTree}
use Rattle.lmn_base.specs.Levels.{leaves_of, contexts_of, rule_contexts_of, rules_of}
use Rattle.lmn_guards.specs.declared.plan.GuardPlan.{GuardPlan}
use Rattle.lmn_store_heap.specs.Heap.{Heap, IsMem, atoms_in, mems_in, rules_in}
use Rattle.lmn_store_heap.specs.Lists.{without_all}
use Rattle.lmn_store_heap.specs.Sound.{Forest, bare, mem, Forms, IsTree}
use Rattle.lmn_solid_heads.specs.Embeddings.{HasLink}
use Rattle.lmn_instr_code.specs.Running.{IsFirstSuccess}
use Rattle.lmn_compile_head.specs.Accepted.{head_items, rule_head_code}
use Rattle.lmn_compile_body.specs.Accepted.{IsCompilable, rule_body_names, rule_body_code}
use Rattle.lmn_solid_bodies.specs.Fired.{images_of}
use Rattle.lmn_solid_bodies.specs.Rules.{PartAtoms}
use Rattle.lmn_solid_bodies.specs.Running.{Registers, RunsBody}
use Rattle.lmn_solid_bodies.specs.Within.{HoldsRests, membrane_images}
use Rattle.lmn_congruence.specs.Regions.{Region, region}
use Rattle.lmn_congruence.specs.Translation.{context_tree, name_of, rule_tree}
use Rattle.lmn_reduction.specs.Parts.{IsInteger}
use Rattle.lmn_adequacy.specs.Embedding.{Contents, EmbedsAt}
use Rattle.lmn_adequacy.specs.Next.{NextAt}
use Rattle.lmn_adequacy_heaps.specs.HeapRegions.{HeapReading, atoms_at, regions_at, region_at}
use Rattle.lmn_adequacy_heaps.specs.Parts.{IsGroundPart}
use Rattle.lmn_adequacy_heaps.specs.Premises.{IsRead, HasForest, IsRule}
use Rattle.lmn_base.specs.Graphs.{Port}
use Rattle.lmn_base.specs.Lists.{In}

-- The region is what is left of membrane x when these atoms and membranes are taken: of each list what isn't taken, in its
-- order.
pub record IsLeft (h : Heap) (r : HeapReading) (atoms membranes : List ℕ) (x : ℕ) (left : Region) : Type 0 where
  pub forest : Forest
  pub forms : Forms h forest (without_all membranes (mems_in h x))
  pub is : left ≡ region (atoms_at h r (without_all atoms (atoms_in h x))) (regions_at h r forest) (map r.rule (rules_in h x))

-- The parts of a rule stand for what the registers name on the heap, where the head takes some atoms.
--   links           a link of the head is that at the images of its ports
--   contexts        an untyped context of the body stands for what is left of its membrane
--   rule_contexts   a rule context stands for the rules of its membrane
--   parts           a name of a typed context of the head stands for the part of the heap at its port
--   bound           a name that the guard binds stands for its integer
pub record HasContents (h : Heap) (r : HeapReading) (rule : RuleTree) (plan : GuardPlan) (s : Registers) (taken : List ℕ) (c : Contents) : Type 0 where
  pub links : (x : ℕ) (p : Port) → HasLink (head_items rule plan) x p → c.link_of x ≡ r.name (s.head.images.atom p.0) p.1
  pub contexts : (u : CtxUse) → Contains (contexts_of rule.body) u →
      let x = s.head.images.membrane ((rule_body_names rule plan).context u.name) in let p = context_tree r.names u in
      IsLeft h r taken (membrane_images s (head_items rule plan)) x (region (c.atoms_of p) (c.membranes_of p) (map r.rule (rules_in h x)))
  pub rule_contexts : (u : CtxUse) → Contains (rule_contexts_of rule.body) u →
      c.rules_of (name_of r.names u.name) ≡ map r.rule (rules_in h (s.head.images.membrane ((rule_body_names rule plan).rule_context u.name)))
  pub parts : (n : ℕ) (o : Occ) (p : Pos) (g : ℕ) → Contains (leaves_of rule.body) (Typed n o p) → (rule_body_names rule plan).part n ≡ Some g →
      (x : ℕ) × (part : List ℕ) × IsGroundPart h r x (s.head.images.part g) part (c.typed_of (name_of r.names n))
  pub bound : (n : ℕ) (o : Occ) (p : Pos) → Contains (leaves_of rule.body) (Typed n o p) → (rule_body_names rule plan).part n ≡ None →
      IsInteger (s.head.integer ((rule_body_names rule plan).integer n)) (c.typed_of (name_of r.names n))

-- An embedding in the region of membrane m, with its contents and its rest, is that of the registers: the head takes the
-- images of its atoms and the atoms of its typed contexts.
abbrev pub IsRegisters : (h : Heap) (r : HeapReading) (rule : RuleTree) (plan : GuardPlan) (m : ℕ) (inner : Forest) (s : Registers) (ns : List ℕ) → EmbedsAt (rule_tree r.names r.rule rule) ns (region_at h r m inner) → Type 0
IsRegisters h r rule plan m inner s ns e =
    let items = head_items rule plan in
    (parts : List ℕ) → PartAtoms h items s.head.images parts → let taken = images_of s items ++ parts in
    HasContents h r rule plan s taken e.contents × IsLeft h r taken (membrane_images s items) m e.rest

-- a reading with other numbers of links
abbrev pub renumbered_reading : HeapReading → (Port → ℕ) → HeapReading
renumbered_reading r number = record { name = λ a i. number (a, i); names = r.names; rule = r.rule }

-- the path leads from membrane x to membrane m: it has the number of a membrane in each list on the way
pub data Leads (h : Heap) (m : ℕ) : List ℕ → ℕ → Type 0 where
  stays : Leads h m [] m
  enters : {n x y : ℕ} {path : List ℕ} → slice_get (mems_in h x) n ≡ Some y → Leads h m path y → Leads h m (n ∷ path) x

-- The heap h' can be read again, with numbers for its links, and its membranes are a tree. Each rule of a membrane of it stood in
-- a membrane of h, or stands in the body of this rule.
pub record IsReadAgain (h : Heap) (r : HeapReading) (rule : RuleTree) (h' : Heap) : Type 0 where
  pub number : Port → ℕ
  pub read : IsRead h' (renumbered_reading r number)
  pub forest : Forest
  pub tree : IsTree h' (mem h'.root forest bare)
  pub rules : (x k : ℕ) → In k (rules_in h' x) → ((y : ℕ) × In k (rules_in h y)) ⊎ Contains (rules_of rule.body) k

-- The heap h' has the next solid of that of h: this rule, number `index` of membrane m, fires at the positions ns.
pub record HasNext (h : Heap) (r : HeapReading) (inner : Forest) (rule : RuleTree) (m index : ℕ) (ns : List ℕ) (h' : Heap) : Type 0 where
  pub again : IsReadAgain h r rule h'
  pub path : List ℕ
  pub leads : Leads h m path h.root
  pub next : NextAt path index ns (region_at h r h.root inner) (region_at h' (renumbered_reading r again.number) h'.root again.forest)

-- Where the head code of an accepted rule first succeeds in a membrane, its body code, run with the same registers, which hold
-- what is left where closed contexts stand, leaves a heap that can be read again.
abbrev pub TurnIsRead : Type 0
TurnIsRead = (table : List RuleTree) (rule : RuleTree) (plan : GuardPlan) → IsCompilable table rule plan →
    (h : Heap) (r : HeapReading) → IsRead h r → IsRule r rule → (m : ℕ) (mi : Forest) → IsMem h m → HasForest h m mi →
    (s : Registers) → IsFirstSuccess h (rule_head_code rule plan) m s.head → HoldsRests h s (head_items rule plan) → (h' : Heap) → RunsBody s (rule_body_code rule plan) h h' →
    IsReadAgain h r rule h'

-- Where the head code of an accepted rule first succeeds in a membrane, its body code, run with the same registers, which hold
-- what is left where closed contexts stand, leaves the next solid of the calculus, for each embedding that is that of the registers.
abbrev pub TurnIsNext : Type 0
TurnIsNext = (table : List RuleTree) (rule : RuleTree) (plan : GuardPlan) → IsCompilable table rule plan →
    (h : Heap) (r : HeapReading) (inner : Forest) → IsRead h r → IsTree h (mem h.root inner bare) → IsRule r rule →
    (m : ℕ) (mi : Forest) → IsMem h m → HasForest h m mi →
    (index k : ℕ) → slice_get (rules_in h m) index ≡ Some k → r.rule k ≡ rule_tree r.names r.rule rule →
    (s : Registers) → IsFirstSuccess h (rule_head_code rule plan) m s.head → HoldsRests h s (head_items rule plan) →
    (ns : List ℕ) (e : EmbedsAt (rule_tree r.names r.rule rule) ns (region_at h r m mi)) → IsRegisters h r rule plan m mi s ns e →
    (h' : Heap) → RunsBody s (rule_body_code rule plan) h h' → HasNext h r inner rule m index ns h'

-- The laws of body code.
use Rattle.std.specs.Prelude.{ℕ, Some, true, false, ◌+◌, ◌≤◌, ◌<◌, ◌≡◌, ◌⊎◌, All, List, ◌++◌, map, length}
use Rattle.lmn_store_heap.specs.Heap.{Heap, discarded, IsMemInPlace, atoms_in, rules_in, spare_of}
use Rattle.lmn_store_heap.specs.Lists.{without_all}
use Rattle.lmn_store_heap.specs.Sound.{Valid}
use Rattle.lmn_solid_heads.specs.declared.items.HeadItem.{HeadItem}
use Rattle.lmn_solid_heads.specs.Embeddings.{Lies, HasAtom, HasTyped, HasMembrane, HasLink}
use Rattle.lmn_solid_bodies.specs.declared.items.BodyItem.{BodyItem}
use Rattle.lmn_solid_bodies.specs.Code.{body_code}
use Rattle.lmn_solid_bodies.specs.Running.{Registers, Prepares, RunsBody}
use Rattle.lmn_solid_bodies.specs.Conditions.{CanRun}
use Rattle.lmn_solid_bodies.specs.Added.{named_rules}
use Rattle.lmn_instr_code.specs.declared.instr.Instr.{Instr}
use Rattle.lmn_base.specs.declared.level.Level.{Level}
use Rattle.lmn_base.specs.declared.level.CtxUse.{CtxUse}
use Rattle.lmn_base.specs.Levels.{leaves_of, contexts_of, rule_contexts_of, links_of}
use Rattle.lmn_base.specs.WellMade.{FitsArity}
use Rattle.lmn_base.specs.Links.{EachTwice}
use Rattle.lmn_guards.specs.declared.plan.TypeKind.{TypeKind}
use Rattle.lmn_solid_heads.specs.Flattening.{items_of_head}
use Rattle.lmn_solid_heads.specs.Heads.{HeadAtom, HeadTyped, HeadMembrane, membranes_of}
use Rattle.lmn_congruence_splice.specs.Splice.{IsOneOf, NoneTwice}
use Rattle.lmn_store_heap.specs.Conditions.{Alone}
use Rattle.lmn_solid_bodies.specs.Stopping.{NoCopying, SameButSpares}
use Rattle.lmn_solid_bodies.specs.Flattening.{BodyNames, body_items, context_membrane, open_uses, rule_context_membrane}
use Rattle.lmn_solid_bodies.specs.Names.{Names}
use Rattle.lmn_solid_bodies.specs.Rules.{PlainRule, NestedRule, PartAtoms, HeadNests, IsHeadMembrane, WellPlaced}
use Rattle.lmn_solid_bodies.specs.Fired.{images_of, FiresOnHeap}
use Rattle.lmn_solid_bodies.specs.Made.{copies_of}
use Rattle.lmn_solid_bodies.specs.CopiedSolid.{Hangs, IsSolidCopy, AreSolidRests}
use Rattle.lmn_store_heap.specs.Solid.{solid_atoms_at}
use Rattle.lmn_solid_bodies.specs.Within.{FiresWithin, FiredAtoms, FiredSolid, HoldsRests}
use Rattle.lmn_solid_bodies.specs.Items.{body_links, LinkedItems, AllMade, NoCopies}
use Rattle.lmn_base.specs.Graphs.{Port}

-- The code of a body of atoms, connectors and integers, run where a head of atoms lies, fires the rule: the heap is
-- valid again, and its solid is the raw region with its links fused.
abbrev pub BodyFires : Type 0
BodyFires = (head : List HeadItem) (body : List BodyItem) (n : ℕ) → PlainRule head body n → (r : Registers) (h : Heap) (valid : Valid h)
    (m : ℕ) → Lies h head m r.head.images → IsMemInPlace h m → (c : Port → ℕ) → Names h c →
    (h' : Heap) → RunsBody r (body_code head body n) h h' → FiresOnHeap h c valid.tree.0 r head body m h'

-- The code of a body with membranes, contexts, rules and copies, run where its head lies, fires the rule: the heap is
-- valid again, and the links and the lists of each membrane are those of the firing. The head takes the images of its atoms
-- and the atoms of its parts, which are ps. The registers hold what is left in membranes with closed contexts.
abbrev pub BodyFiresWithin : Type 0
BodyFiresWithin = (head : List HeadItem) (body : List BodyItem) (n : ℕ) → NestedRule head body n → (r : Registers) (h : Heap) → Valid h →
    (m : ℕ) → Lies h head m r.head.images → HoldsRests h r head → IsMemInPlace h m → (c : Port → ℕ) → Names h c →
    (h' : Heap) → RunsBody r (body_code head body n) h h' →
    (ps : List ℕ) × PartAtoms h head r.head.images ps × Valid h' × FiresWithin h c r head body (images_of r head ++ ps) h'

-- When a body is prepared where its head lies, with enough spares for the rules that it names, each of its instructions
-- can run in its turn.
abbrev pub BodyCanRun : Type 0
BodyCanRun = (head : List HeadItem) (body : List BodyItem) (n : ℕ) → NestedRule head body n → (r : Registers) (h : Heap) → Valid h →
    (m : ℕ) → Lies h head m r.head.images → HoldsRests h r head → IsMemInPlace h m → (c : Port → ℕ) → Names h c →
    (s : Heap) → Prepares r (body_code head body n) h s → ((x : ℕ) → length (named_rules r (rules_in h) body x) ≤ spare_of s x) →
    CanRun r (body_code head body n) s

-- A firing leaves the atoms of the solid.
abbrev pub FiringLeavesSolid : Type 0
FiringLeavesSolid = (head : List HeadItem) (body : List BodyItem) (n : ℕ) → NestedRule head body n → (r : Registers) (h : Heap) → Valid h →
    (m : ℕ) → Lies h head m r.head.images → HoldsRests h r head → IsMemInPlace h m → (c : Port → ℕ) → Names h c → (ps : List ℕ) → PartAtoms h head r.head.images ps →
    (h' : Heap) (f : FiresWithin h c r head body (images_of r head ++ ps) h') → FiredSolid h c r head body (images_of r head ++ ps) h' f

-- The same of a body without copies.
abbrev pub FiringLeavesAtoms : Type 0
FiringLeavesAtoms = (head : List HeadItem) (body : List BodyItem) (n : ℕ) → NestedRule head body n → NoCopies body → (r : Registers) (h : Heap) → Valid h →
    (m : ℕ) → Lies h head m r.head.images → HoldsRests h r head → IsMemInPlace h m → (c : Port → ℕ) → Names h c → (ps : List ℕ) → PartAtoms h head r.head.images ps →
    (h' : Heap) (f : FiresWithin h c r head body (images_of r head ++ ps) h') → FiredAtoms h c r head body (images_of r head ++ ps) h' f

-- After a firing the atoms of a copy in the solid are those of its part.
abbrev pub CopiesInSolid : Type 0
CopiesInSolid = (h : Heap) → Valid h → (c : Port → ℕ) → Names h c → (r : Registers) (head : List HeadItem) (body : List BodyItem) (taken : List ℕ) (h' : Heap) → Valid h' →
    (f : FiresWithin h c r head body taken h') → (e : ℕ × ℕ) → IsOneOf e (copies_of 0 body) → Hangs h (r.head.images.part e.1) →
    IsSolidCopy h c h' f.number (r.head.images.part e.1) (r.copy e.0) (r.copied e.0) (solid_atoms_at h' (λ a i. f.number (a, i)) (r.copied e.0))

-- After a firing the atoms of the copy of a rest in the solid are those of the rest.
abbrev pub RestsInSolid : Type 0
RestsInSolid = (head : List HeadItem) (body : List BodyItem) (n : ℕ) → NestedRule head body n → (r : Registers) (h : Heap) → Valid h →
    (m : ℕ) → Lies h head m r.head.images → HoldsRests h r head → IsMemInPlace h m → (c : Port → ℕ) → Names h c →
    (ps : List ℕ) → PartAtoms h head r.head.images ps → (h' : Heap) → Valid h' → (f : FiresWithin h c r head body (images_of r head ++ ps) h') →
    AreSolidRests h c h' f.number (λ k. without_all (images_of r head ++ ps) (atoms_in h k)) r f.rests body

-- A prepare may be given up after any of its instructions: what was made waits alone, and without it the heap is as it
-- was, but for spares.
abbrev pub PrepareStops : Type 0
PrepareStops = (r : Registers) (code : List Instr) → NoCopying code → (h : Heap) → Valid h → (s : Heap) → Prepares r code h s →
    Alone s × SameButSpares h (discarded s)

-- The items of a flattened body are well placed, where the names of its contexts are those of contexts of the head, and
-- each open one stands once.
abbrev pub FlattenedArePlaced : Type 0
FlattenedArePlaced = (s : BodyNames) (k : ℕ) (l : Level) → ((u : CtxUse) → IsOneOf u (contexts_of l) → IsHeadMembrane k (s.context u.name)) →
    ((u : CtxUse) → IsOneOf u (rule_contexts_of l) → IsHeadMembrane k (s.rule_context u.name)) → NoneTwice (map (λ u. s.context u.name) (open_uses (contexts_of l))) →
    WellPlaced k (1 + k) (body_items s k l)

-- A flattened body has the links of its levels, in their order.
abbrev pub FlattenedKeepLinks : Type 0
FlattenedKeepLinks = (s : BodyNames) (k : ℕ) (l : Level) → body_links (body_items s k l) ≡ links_of l

-- The atoms of a flattened body have as many links as their arities, and none is a connector.
abbrev pub FlattenedAreMade : Type 0
FlattenedAreMade = (s : BodyNames) (k : ℕ) (l : Level) → All FitsArity (leaves_of l) → AllMade (body_items s k l)

-- The membranes of a flattened head are numbered after those round them, and its atoms have as many links as their arities.
abbrev pub FlattenedHeads : Type 0
FlattenedHeads = (kind : ℕ → TypeKind) (l : Level) → All FitsArity (leaves_of l) →
    HeadNests (items_of_head kind l) × ((k : ℕ) (a : HeadAtom) → HasAtom (items_of_head kind l) k a → length a.links ≡ a.functor.arity)

-- Where each link stands twice in a rule, so it does in the flattened one.
abbrev pub FlattenedAreLinked : Type 0
FlattenedAreLinked = (kind : ℕ → TypeKind) (s : BodyNames) (k : ℕ) (head body : Level) → EachTwice (links_of head ++ links_of body) → LinkedItems (items_of_head kind head) (body_items s k body)

-- A rule whose links stand twice and have numbers below n, whose atoms fit their arities, and whose contexts and typed
-- contexts stand where they should, each untyped one in its form, is a nested one when it is flattened.
abbrev pub FlattenedRules : Type 0
FlattenedRules = (kind : ℕ → TypeKind) (s : BodyNames) (head body : Level) (n : ℕ) → EachTwice (links_of head ++ links_of body) →
    ((x : ℕ) → IsOneOf x (links_of head ++ links_of body) → x < n) → All FitsArity (leaves_of head) → All FitsArity (leaves_of body) →
    let items = items_of_head kind head in let k = length (membranes_of items) in
    ((x g : ℕ) → s.part x ≡ Some g → (t : HeadTyped) × HasTyped items g t) → ((g : ℕ) (t : HeadTyped) → HasTyped items g t → (p : Port) × HasLink items t.link p) →
    ((u : CtxUse) → IsOneOf u (contexts_of body) → (b : HeadMembrane) × HasMembrane items (s.context u.name) b × (b.has_closed_context ≡ u.closed)) →
    ((u : CtxUse) → IsOneOf u (rule_contexts_of body) → IsHeadMembrane k (s.rule_context u.name)) →
    NoneTwice (map (λ u. s.context u.name) (open_uses (contexts_of body))) →
    ((i : ℕ) (b : HeadMembrane) → HasMembrane items i b → b.has_context ≡ true → b.has_closed_context ≡ false → IsOneOf i (map (λ u. s.context u.name) (open_uses (contexts_of body)))) →
    NestedRule items (body_items s k body) n

-- The membrane of a context of a head is one of the head, or that of the rule.
abbrev pub ContextsOfHeads : Type 0
ContextsOfHeads = (kind : ℕ → TypeKind) (head : Level) (x : ℕ) → let k = length (membranes_of (items_of_head kind head)) in
    ((context_membrane head x ≡ 0) ⊎ IsHeadMembrane k (context_membrane head x)) × ((rule_context_membrane head x ≡ 0) ⊎ IsHeadMembrane k (rule_context_membrane head x))

-- The links of every valid heap can be numbered.
abbrev pub LinksHaveNumbers : Type 0
LinksHaveNumbers = (h : Heap) → Valid h → (c : Port → ℕ) × Names h c

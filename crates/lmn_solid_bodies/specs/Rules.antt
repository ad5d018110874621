-- What is asked of a rule and of the places of its items.
use Rattle.std.specs.Prelude.{ℕ, suc, true, false, ◌+◌, ◌≡◌, ◌≢◌, ◌<◌, ◌⊎◌, List, [], ◌∷◌, ◌++◌, length}
use Rattle.lmn_base.specs.Graphs.{Reached, Port}
use Rattle.lmn_store_heap.specs.Heap as heap
use Rattle.lmn_store_heap.specs.Graphs.{atom_map}
use Rattle.lmn_store_heap.specs.Heap.{Heap, IsMem}
use Rattle.lmn_solid_heads.specs.declared.items.HeadItem.{HeadItem}
use Rattle.lmn_solid_heads.specs.Heads.{HeadAtom, typed_contexts_of, membranes_of}
use Rattle.lmn_solid_heads.specs.Heads as heads
use Rattle.lmn_solid_heads.specs.Embeddings.{Images, HasAtom, HasTyped, HasMembrane, HasLink}
use Rattle.lmn_congruence_splice.specs.Splice.{IsOneOf}
use Rattle.lmn_solid_bodies.specs.declared.items.BodyItem.{BodyItem}
use Rattle.lmn_solid_bodies.specs.declared.items.BodyItem.TheVariants.{Atom, Connector, Copy, Bound, Membrane, Rest, Rule, Rules}
use Rattle.lmn_solid_bodies.specs.Items.{body_links, LinkedItems, AllMade, Simple}
use Rattle.lmn_solid_bodies.specs.Running.{Registers}
use Rattle.lmn_solid_bodies.specs.Added.{source_mems, made_mems}
use Rattle.lmn_solid_bodies.specs.RestCopies.{RestCopies, rest_membranes}
use Rattle.lmn_solid_bodies.specs.Made.{copies_of}
use Rattle.lmn_base.specs.Lists.{In}

-- A rule.
--   held                     the link of a typed context of the head stands at an atom of the head
--   typed_once               different typed contexts of the head have different links
--   copied                   a copy in the body is of a typed context of the head
--   head_made, made          an atom has as many links as its arity
--   linked                   each link of the rule stands twice
--   below                    there are n links
pub record AtomRule (head : List HeadItem) (body : List BodyItem) (n : ℕ) : Type 0 where
  pub held : (g : ℕ) (t : heads.HeadTyped) → HasTyped head g t → (p : Port) × HasLink head t.link p
  pub typed_once : (g k : ℕ) (t u : heads.HeadTyped) → HasTyped head g t → HasTyped head k u → g ≢ k → t.link ≢ u.link
  pub copied : (e : ℕ × ℕ) → IsOneOf e (copies_of 0 body) → (t : heads.HeadTyped) × HasTyped head e.1 t
  pub head_made : (k : ℕ) (a : HeadAtom) → HasAtom head k a → length a.links ≡ a.functor.arity
  pub made : AllMade body
  pub linked : LinkedItems head body
  pub below : (x : ℕ) → IsOneOf x (heads.links_of_head head) ⊎ IsOneOf x (body_links body) → x < n

-- a rule without membranes, contexts of its head and inner rules
pub record PlainRule (head : List HeadItem) (body : List BodyItem) (n : ℕ) : Type 0 where
  pub atoms : AtomRule head body n
  pub no_typed : typed_contexts_of head ≡ []
  pub no_membranes : membranes_of head ≡ []
  pub simple : Simple body

-- an item goes to a membrane that is there and isn't removed
abbrev pub Target : Registers → List ℕ → (ℕ → Type 0) → ℕ → Type 0
Target r ks E inside = (In (r.head.images.membrane inside) ks → ⊥) × E (r.head.images.membrane inside)

-- The items of a body go to membranes that are there and aren't removed; contexts are of removed ones, each open context
-- once, and all of a copied rest stands in removed ones.
abbrev pub Goes : Registers → List ℕ → (ℕ → Type 0) → List BodyItem → Type 0
Goes r ks E [] = Unit {0}
Goes r ks E (Atom functor links inside ∷ xs) = Target r ks E inside × Goes r ks E xs
Goes r ks E (Connector left right ∷ xs) = Goes r ks E xs
Goes r ks E (Copy part link inside ∷ xs) = Target r ks E inside × Goes r ks E xs
Goes r ks E (Bound integer link inside ∷ xs) = Target r ks E inside × Goes r ks E xs
Goes r ks E (Membrane inside ∷ xs) = Target r ks E inside × Goes r ks E xs
Goes r ks E (Rest of false inside ∷ xs) =
    In (r.head.images.membrane of) ks × E (r.head.images.membrane of) × (In (r.head.images.membrane of) (source_mems r xs) → ⊥) × Target r ks E inside × Goes r ks E xs
Goes r ks E (Rest of true inside ∷ xs) = ((x : ℕ) → In x (rest_membranes r of) → In x ks × E x) × Target r ks E inside × Goes r ks E xs
Goes r ks E (Rule rule inside ∷ xs) = Target r ks E inside × Goes r ks E xs
Goes r ks E (Rules of inside ∷ xs) = In (r.head.images.membrane of) ks × Target r ks E inside × Goes r ks E xs

-- what stands in the heap when all is made: what stood before, and the new membranes
abbrev pub Exists : Heap → Registers → RestCopies → List HeadItem → List BodyItem → ℕ → Type 0
Exists h r q head body x = IsMem h x ⊎ In x (made_mems r q (1 + length (membranes_of head)) body)

-- a membrane in which an item stands: that of the rule, or one that is made before
abbrev pub Into : Registers → ℕ → List ℕ → ℕ → Type 0
Into r top made inside = (r.head.images.membrane inside ≡ top) ⊎ In (r.head.images.membrane inside) made

-- The items of a body go into the membrane of the rule or into one that is made before. `made` are the membranes made so far, the next has the register m.
abbrev pub Nests : Registers → ℕ → List ℕ → ℕ → List BodyItem → Type 0
Nests r top made m [] = Unit {0}
Nests r top made m (Atom functor links inside ∷ xs) = Into r top made inside × Nests r top made m xs
Nests r top made m (Connector left right ∷ xs) = Nests r top made m xs
Nests r top made m (Copy part link inside ∷ xs) = Into r top made inside × Nests r top made m xs
Nests r top made m (Bound integer link inside ∷ xs) = Into r top made inside × Nests r top made m xs
Nests r top made m (Membrane inside ∷ xs) = Into r top made inside × Nests r top (made ++ r.head.images.membrane m ∷ []) (m + 1) xs
Nests r top made m (Rest of closed inside ∷ xs) = Into r top made inside × Nests r top made m xs
Nests r top made m (Rule rule inside ∷ xs) = Into r top made inside × Nests r top made m xs
Nests r top made m (Rules of inside ∷ xs) = Into r top made inside × Nests r top made m xs

-- a membrane of the head stands in one with a lesser number
abbrev pub HeadNests : List HeadItem → Type 0
HeadNests head = (k : ℕ) (b : heads.HeadMembrane) → HasMembrane head k b → b.inside < k

-- an atom, and a typed context, of the head stands in a membrane of the head or in that of the rule
pub record InsideHead (head : List HeadItem) : Type 0 where
  pub atoms : (k : ℕ) (a : HeadAtom) → HasAtom head k a → a.inside < 1 + length (membranes_of head)
  pub typed : (k : ℕ) (t : heads.HeadTyped) → HasTyped head k t → t.inside < 1 + length (membranes_of head)

-- the atoms of the parts of a head, each once
pub record PartAtoms (h : Heap) (head : List HeadItem) (f : Images) (ps : List ℕ) : Type 0 where
  pub once : heap.Distinct ps
  pub are : (a : ℕ) → In a ps → (g : ℕ) × (t : heads.HeadTyped) × HasTyped head g t × Reached (atom_map h) (f.part g) a
  pub all : (g : ℕ) (t : heads.HeadTyped) (a : ℕ) → HasTyped head g t → Reached (atom_map h) (f.part g) a → In a ps

-- By numbers alone

-- A membrane in which an item of a body may stand, by its number: that of the rule, or one that the body has made, the
-- next of which gets the number m. A head has k membranes.
abbrev pub StandsIn : ℕ → ℕ → ℕ → Type 0
StandsIn k m inside = (inside ≡ 0) ⊎ ((k < inside) × (inside < m))

-- the number of a membrane of a head
abbrev pub IsHeadMembrane : ℕ → ℕ → Type 0
IsHeadMembrane k of = (i : ℕ) × (of ≡ suc i) × (i < k)

-- the numbers of the head membranes whose open contexts stand in a body
abbrev pub rests : List BodyItem → List ℕ
rests [] = []
rests (Atom functor links inside ∷ xs) = rests xs
rests (Connector left right ∷ xs) = rests xs
rests (Copy part link inside ∷ xs) = rests xs
rests (Bound integer link inside ∷ xs) = rests xs
rests (Membrane inside ∷ xs) = rests xs
rests (Rest of false inside ∷ xs) = of ∷ rests xs
rests (Rest of true inside ∷ xs) = rests xs
rests (Rule rule inside ∷ xs) = rests xs
rests (Rules of inside ∷ xs) = rests xs

-- the numbers of the head membranes whose closed contexts stand in a body
abbrev pub closed_rests : List BodyItem → List ℕ
closed_rests [] = []
closed_rests (Atom functor links inside ∷ xs) = closed_rests xs
closed_rests (Connector left right ∷ xs) = closed_rests xs
closed_rests (Copy part link inside ∷ xs) = closed_rests xs
closed_rests (Bound integer link inside ∷ xs) = closed_rests xs
closed_rests (Membrane inside ∷ xs) = closed_rests xs
closed_rests (Rest of false inside ∷ xs) = closed_rests xs
closed_rests (Rest of true inside ∷ xs) = of ∷ closed_rests xs
closed_rests (Rule rule inside ∷ xs) = closed_rests xs
closed_rests (Rules of inside ∷ xs) = closed_rests xs

-- Each item stands in the membrane of the rule or in one that is made before it; contexts are of head membranes, each
-- open context once.
abbrev pub WellPlaced : ℕ → ℕ → List BodyItem → Type 0
WellPlaced k m [] = Unit {0}
WellPlaced k m (Atom functor links inside ∷ xs) = StandsIn k m inside × WellPlaced k m xs
WellPlaced k m (Connector left right ∷ xs) = WellPlaced k m xs
WellPlaced k m (Copy part link inside ∷ xs) = StandsIn k m inside × WellPlaced k m xs
WellPlaced k m (Bound integer link inside ∷ xs) = StandsIn k m inside × WellPlaced k m xs
WellPlaced k m (Membrane inside ∷ xs) = StandsIn k m inside × WellPlaced k (m + 1) xs
WellPlaced k m (Rest of false inside ∷ xs) = IsHeadMembrane k of × (IsOneOf of (rests xs) → ⊥) × StandsIn k m inside × WellPlaced k m xs
WellPlaced k m (Rest of true inside ∷ xs) = IsHeadMembrane k of × StandsIn k m inside × WellPlaced k m xs
WellPlaced k m (Rule rule inside ∷ xs) = StandsIn k m inside × WellPlaced k m xs
WellPlaced k m (Rules of inside ∷ xs) = IsHeadMembrane k of × StandsIn k m inside × WellPlaced k m xs

-- A rule, by its items.
--   placed        see there
--   head_nests    membranes of the head are numbered after those round them
--   inside        its atoms and typed contexts stand in membranes of the rule
--   contexts      each open context of the head stands in the body
--   of_open, of_closed   an open context of the body is of a head membrane with an open one, and a closed one of one with a closed one
pub record NestedRule (head : List HeadItem) (body : List BodyItem) (n : ℕ) : Type 0 where
  pub atoms : AtomRule head body n
  pub placed : WellPlaced (length (membranes_of head)) (1 + length (membranes_of head)) body
  pub head_nests : HeadNests head
  pub inside : InsideHead head
  pub contexts : (k : ℕ) (b : heads.HeadMembrane) → HasMembrane head k b → b.has_context ≡ true → b.has_closed_context ≡ false → IsOneOf k (rests body)
  pub of_open : (k : ℕ) → IsOneOf k (rests body) → (b : heads.HeadMembrane) × HasMembrane head k b × (b.has_closed_context ≡ false)
  pub of_closed : (k : ℕ) → IsOneOf k (closed_rests body) → (b : heads.HeadMembrane) × HasMembrane head k b × (b.has_closed_context ≡ true)

-- each item stands in the membrane of the rule or in one that is made before it
abbrev pub AllStandIn : ℕ → ℕ → List BodyItem → Type 0
AllStandIn k m [] = Unit {0}
AllStandIn k m (Atom functor links inside ∷ xs) = StandsIn k m inside × AllStandIn k m xs
AllStandIn k m (Connector left right ∷ xs) = AllStandIn k m xs
AllStandIn k m (Copy part link inside ∷ xs) = StandsIn k m inside × AllStandIn k m xs
AllStandIn k m (Bound integer link inside ∷ xs) = StandsIn k m inside × AllStandIn k m xs
AllStandIn k m (Membrane inside ∷ xs) = StandsIn k m inside × AllStandIn k (m + 1) xs
AllStandIn k m (Rest of closed inside ∷ xs) = StandsIn k m inside × AllStandIn k m xs
AllStandIn k m (Rule rule inside ∷ xs) = StandsIn k m inside × AllStandIn k m xs
AllStandIn k m (Rules of inside ∷ xs) = StandsIn k m inside × AllStandIn k m xs

-- contexts are of head membranes
abbrev pub HeadContexts : ℕ → List BodyItem → Type 0
HeadContexts k [] = Unit {0}
HeadContexts k (Atom functor links inside ∷ xs) = HeadContexts k xs
HeadContexts k (Connector left right ∷ xs) = HeadContexts k xs
HeadContexts k (Copy part link inside ∷ xs) = HeadContexts k xs
HeadContexts k (Bound integer link inside ∷ xs) = HeadContexts k xs
HeadContexts k (Membrane inside ∷ xs) = HeadContexts k xs
HeadContexts k (Rest of closed inside ∷ xs) = IsHeadMembrane k of × HeadContexts k xs
HeadContexts k (Rule rule inside ∷ xs) = HeadContexts k xs
HeadContexts k (Rules of inside ∷ xs) = IsHeadMembrane k of × HeadContexts k xs

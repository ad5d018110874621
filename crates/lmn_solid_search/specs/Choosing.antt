-- Which placements a search goes through, and which of them is the first. Only private functions' contracts cite these words.
use Rattle.std.specs.Prelude.{ℕ, ◌≡◌, ◌+◌, ◌≤◌, List, [], ◌∷◌, ◌++◌, Some, length, slice_get}
use Rattle.lmn_base.specs.declared.functor.Functor.{Functor}
use Rattle.lmn_base.specs.declared.guard.Cond.{Cond}
use Rattle.lmn_base.specs.Lists.{In}
use Rattle.lmn_base.specs.Graphs.{Port}
use Rattle.lmn_store_heap.specs.Heap.{Heap, atoms_in, mems_in, functor_of}
use Rattle.lmn_solid_heads.specs.declared.items.HeadItem.{HeadItem}
use Rattle.lmn_solid_heads.specs.declared.items.HeadItem.TheVariants.{Atom, Typed, Membrane}
use Rattle.lmn_solid_heads.specs.Heads.{atoms_of, membranes_of}
use Rattle.lmn_solid_heads.specs.Embeddings.{index_of, ListNotAfter}
use Rattle.lmn_compile_head.specs.Heads.{EachInside}
use Rattle.lmn_solid_search.specs.Ahead.{HoldsFunctors}
use Rattle.lmn_solid_search.specs.Binding.{after_all}
use Rattle.lmn_solid_search.specs.Knowing.{Knows}
use Rattle.lmn_solid_search.specs.Taking.{LinksFit, StandsAt}
use Rattle.lmn_solid_search.specs.Placing.{ArePlaced, membrane_at, outermost_in, times_in}
use Rattle.lmn_solid_search.specs.Parting.{AreTaken}
use Rattle.lmn_solid_search.specs.Meeting.{Meets, named_meaning}
use Rattle.lmn_solid_search.specs.Reasoning.{Agrees, SameImages}
use Rattle.lmn_solid_search.specs.declared.head.AtomItem.{AtomItem}
use Rattle.lmn_solid_search.specs.declared.head.TypedItem.{TypedItem}
use Rattle.lmn_solid_search.specs.declared.head.Head.{Head}
use Rattle.lmn_solid_search.specs.declared.placed.Placed.{Placed}
use Rattle.lmn_solid_search.specs.declared.parts.Part.{Part}
use Rattle.lmn_solid_search.specs.declared.meeting.Fulfilled.{Fulfilled}
use Rattle.lmn_solid_search.specs.declared.numbers.Numbers.{Numbers}
use Rattle.lmn_solid_search.specs.declared.numbers.Numbers.TheVariants.{All}
use Rattle.lmn_solid_search.specs.declared.reasons.Reasons.{Reasons}
use Rattle.lmn_solid_search.specs.declared.search.Sought.{Sought}
use Rattle.lmn_solid_search.specs.declared.search.Sought.TheVariants.{Found, Failed}

-- no image yet, of a rule in a membrane
abbrev pub at_home : ℕ → Placed
at_home m = record { home = m; atoms = []; membranes = [] }

-- one image more
abbrev pub with_atom : Placed → ℕ → Placed
with_atom p a = record p { atoms = p.atoms ++ a ∷ [] }

abbrev pub with_membrane : Placed → ℕ → Placed
with_membrane p m = record p { membranes = p.membranes ++ m ∷ [] }

-- an atom can be the next image: it has the functor, is no image yet, and its links lead to those of earlier images as the head says
abbrev pub Allowed : Heap → Head → Placed → Functor → ℕ → Type 0
Allowed h head p functor a = (functor_of h a ≡ Some functor) × (In a p.atoms → ⊥) × LinksFit h head.atoms (p.atoms ++ a ∷ []) (length p.atoms)

-- an image is chosen for each of these items, in their order
abbrev pub Chooses : Heap → Head → List HeadItem → Placed → Placed → Type 0
Chooses h head [] p q = q ≡ p
Chooses h head (Atom functor links inside ∷ xs) p q = (a : ℕ) × In a (atoms_in h (membrane_at p.home p.membranes inside)) × Allowed h head p functor a × Chooses h head xs (with_atom p a) q
Chooses h head (Typed name kind link inside ∷ xs) p q = Chooses h head xs p q
Chooses h head (Membrane inside has_context has_closed_context has_rule_context ∷ xs) p q =
    (m : ℕ) × In m (mems_in h (membrane_at p.home p.membranes inside)) × (In m p.membranes → ⊥) × Chooses h head xs (with_membrane p m) q

-- the positions of what is chosen in their lists
abbrev pub places : (h : Heap) (head : Head) (xs : List HeadItem) (p q : Placed) → Chooses h head xs p q → List ℕ
places h head [] p q c = []
places h head (Atom functor links inside ∷ xs) p q c = index_of c.0 (atoms_in h (membrane_at p.home p.membranes inside)) ∷ places h head xs (with_atom p c.0) q c.3
places h head (Typed name kind link inside ∷ xs) p q c = places h head xs p q c
places h head (Membrane inside has_context has_closed_context has_rule_context ∷ xs) p q c = index_of c.0 (mems_in h (membrane_at p.home p.membranes inside)) ∷ places h head xs (with_membrane p c.0) q c.3

-- a whole placement is one of the rule
abbrev pub CanBe : Heap → Head → List Cond → Placed → Type 0
CanBe h head guard p = (parts : List Part) × AreTaken h head.atoms p head.typed parts (length head.typed) × Meets h head guard p parts

-- and so it is with what was found
abbrev pub IsFound : Heap → Head → List Cond → Placed → Fulfilled → Type 0
IsFound h head guard p found = AreTaken h head.atoms p head.typed found.parts (length head.typed) × Meets h head guard p found.parts
    × Knows h found.known (after_all h (named_meaning head.typed found.parts) guard)

-- none of the ways that go on from a placement leads to one of the rule, for these reasons
abbrev pub Refuted : Heap → Head → List Cond → List HeadItem → Reasons → Placed → Type 0
Refuted h head guard xs e p = (q r : Placed) → Agrees e p q → Chooses h head xs q r → CanBe h head guard r → ⊥

-- What a search answers that goes on from a placement: none of its ways leads to one of the rule, and the placement is as before;
-- or it is the first of these.
abbrev pub Answers : Heap → Head → List Cond → List HeadItem → Placed → Placed → Sought → Type 0
Answers h head guard xs p q (Failed e) = (q ≡ p) × Refuted h head guard xs e p
Answers h head guard xs p q (Found found) = (c : Chooses h head xs p q) × IsFound h head guard q found
    × ((r : Placed) (d : Chooses h head xs p r) → CanBe h head guard r → ListNotAfter (places h head xs p q c) (places h head xs p r d))

-- what holds of each accepted head, kept by sorts
pub record IsSearchable (head : Head) : Type 0 where
  pub outermost : (n : ℕ) (a : AtomItem) → slice_get head.atoms n ≡ Some a → outermost_in head.membranes a.inside ≤ length head.membranes
  pub few : (x : ℕ) → times_in x head ≤ 2
  pub inside : (n : ℕ) (t : TypedItem) → slice_get head.typed n ≡ Some t → t.inside ≤ length head.membranes
  pub held : (n : ℕ) (t : TypedItem) → slice_get head.typed n ≡ Some t → (p : Port) × StandsAt head.atoms t.link p

-- the items before these are placed
pub record Sits (h : Heap) (head : Head) (xs : List HeadItem) (p : Placed) : Type 0 where
  pub placed : ArePlaced h p
  pub atoms : length p.atoms + length (atoms_of xs) ≡ length head.atoms
  pub membranes : length p.membranes + length (membranes_of xs) ≡ length head.membranes
  pub inside : EachInside (length p.membranes) xs

-- The same of the ways that go on from one choice, where it may be made.
--   May    whether a choice may be made behind a placement
--   next   the placement with it
abbrev pub Fails : Heap → Head → List Cond → List HeadItem → (Placed → ℕ → Type 0) → (Placed → ℕ → Placed) → Reasons → Placed → ℕ → Type 0
Fails h head guard xs May next e p a = (q : Placed) (b : ℕ) (r : Placed) → Agrees e (next p a) (next q b) → May q b → Chooses h head xs (next q b) r → CanBe h head guard r → ⊥

abbrev pub AnswersWith : Heap → Head → List Cond → List HeadItem → (Placed → ℕ → Type 0) → (Placed → ℕ → Placed) → Placed → ℕ → Placed → Sought → Type 0
AnswersWith h head guard xs May next p a q (Failed e) = (q ≡ p) × Fails h head guard xs May next e p a
AnswersWith h head guard xs May next p a q (Found found) = May p a × Answers h head guard xs (next p a) q (Found found)

-- The same of the ways that go on from one of the choices that there are behind a placement.
abbrev pub AnswersAmong : Heap → Head → List Cond → List HeadItem → (Placed → ℕ → Type 0) → (Placed → ℕ → Placed) → (Placed → List ℕ) → Placed → Placed → Sought → Type 0
AnswersAmong h head guard xs May next choices p q (Failed e) = (q ≡ p) × ((z : Placed) (a : ℕ) (r : Placed) → Agrees e p z → In a (choices z) → May z a → Chooses h head xs (next z a) r → CanBe h head guard r → ⊥)
AnswersAmong h head guard xs May next choices p q (Found found) = (a : ℕ) × In a (choices p) × May p a × (c : Chooses h head xs (next p a) q) × IsFound h head guard q found
    × ((b : ℕ) → In b (choices p) → May p b → (r : Placed) (d : Chooses h head xs (next p b) r) → CanBe h head guard r
    → ListNotAfter (index_of a (choices p) ∷ places h head xs (next p a) q c) (index_of b (choices p) ∷ places h head xs (next p b) r d))

-- the atoms and the membranes that stand in the image of a membrane, by its number
abbrev pub atoms_inside : Heap → ℕ → Placed → List ℕ
atoms_inside h inside p = atoms_in h (membrane_at p.home p.membranes inside)

abbrev pub membranes_inside : Heap → ℕ → Placed → List ℕ
membranes_inside h inside p = mems_in h (membrane_at p.home p.membranes inside)

-- a membrane is no image yet
abbrev pub IsNew : Placed → ℕ → Type 0
IsNew p m = In m p.membranes → ⊥

-- a placement that has these images where a failure rests on them is none of the rule
abbrev pub Refuses : Heap → Head → List Cond → List ℕ → Numbers → Type 0
Refuses h head guard images e = (r : Placed) → SameImages e images r.atoms → CanBe h head guard r → ⊥

-- an atom isn't the next image behind any placement where the images are the same on which this rests
abbrev pub RefusesAtom : Heap → Head → List Cond → Functor → ℕ → List ℕ → Numbers → Type 0
RefusesAtom h head guard functor n images e = (q : Placed) (b : ℕ) (r : Placed) → length q.atoms ≡ n → SameImages e images (q.atoms ++ b ∷ []) → Allowed h head q functor b
    → SameImages All (q.atoms ++ b ∷ []) r.atoms → CanBe h head guard r → ⊥

-- a membrane isn't the next image behind any placement where the images are the same on which this rests
abbrev pub RefusesMembrane : Heap → List HeadItem → Placed → ℕ → Numbers → Type 0
RefusesMembrane h xs p m e = (q : Placed) (b : ℕ) → length q.membranes ≡ length p.membranes → SameImages e (p.membranes ++ m ∷ []) (q.membranes ++ b ∷ []) → IsNew q b → HoldsFunctors h (length p.membranes + 1) b xs → ⊥

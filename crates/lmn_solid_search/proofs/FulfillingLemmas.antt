-- The parts of a placement are the only ones.
use Rattle.std.proofs.Common.{map, ◌≡◌, ◌∙◌, ◌==◌, ℕ, zero, suc, ◌+◌, List, [], ◌∷◌, length, slice_get, slice_index_or, Some, None, if◌then◌else◌, refl, sym, ap, subst, inl, inr, arith}
use Rattle.std.proofs.lemmas.Option.{same_Some}
use Rattle.lmn_base.specs.declared.guard.Cond.{Cond}
use Rattle.lmn_base.specs.Lists.{In}
use Rattle.lmn_base.specs.Graphs.{Port, Reached}
use Rattle.lmn_base.proofs.Lists.{get_there, get_below}
use Rattle.lmn_store_heap.specs.Heap.{Heap, IsAtom}
use Rattle.lmn_store_heap.specs.Sound.{Valid}
use Rattle.lmn_store_heap.specs.Graphs.{atom_map}
use Rattle.lmn_solid_heads.specs.Guards.{Meaning, HoldsOnHeap}
use Rattle.lmn_solid_tables.specs.Flats.{port_by}
use Rattle.lmn_solid_search.specs.Finding.{port_at}
use Rattle.lmn_solid_search.specs.Taking.{StandsAt}
use Rattle.lmn_solid_search.specs.Parting.{IsPart, AreTaken, AreEntered, IsMine, first_named}
use Rattle.lmn_solid_search.specs.Holding.{IsRestBy, Holds, AreAtoms}
use Rattle.lmn_solid_search.specs.Meeting.{Meets}
use Rattle.lmn_solid_search.specs.declared.head.TypedItem.{TypedItem}
use Rattle.lmn_solid_search.specs.declared.head.MembraneItem.{MembraneItem}
use Rattle.lmn_solid_search.specs.declared.head.Head.{Head}
use Rattle.lmn_solid_search.specs.declared.placed.Placed.{Placed}
use Rattle.lmn_solid_search.specs.declared.parts.Part.{Part}
use Rattle.lmn_solid_search.proofs.WalkingLemmas.{linked_to, reached_atom}

-- the entries of parts, by their numbers
pub entries : List Part → ℕ → Port
entries [] n = (0, 0)
entries (q ∷ parts) zero = port_by q.entry
entries (q ∷ parts) (suc n) = entries parts n

pub entry_is : (parts : List Part) (n : ℕ) (q : Part) → slice_get parts n ≡ Some q → entries parts n ≡ port_by q.entry
unfolding entries
entry_is [] n q e = absurd (cc)
entry_is (r ∷ parts) zero q e = ap (λ (x : Part). port_by x.entry) (same_Some _ _ e)
entry_is (r ∷ parts) (suc n) q e = entry_is parts n q e

pub ports_are : (parts : List Part) (n : ℕ) → port_at (map (λ q. q.entry) parts) n ≡ entries parts n
unfolding entries
ports_are [] n = refl
ports_are (q ∷ parts) zero = refl
ports_are (q ∷ parts) (suc n) = ports_are parts n

pub taken_parts : (h : Heap) (head : Head) (p : Placed) (parts : List Part) → AreTaken h head.atoms p head.typed parts (length head.typed) → (n : ℕ) (t : TypedItem) → slice_get head.typed n ≡ Some t → IsPart h head.atoms p t (entries parts n)
taken_parts h head p parts w n t e =
    let l = get_below head.typed n t e in
    let m = w.long in
    let q = get_there parts n (omega (arith, l, m)) in
    subst (IsPart h head.atoms p t) (sym (entry_is parts n q.0 q.1)) (w.each n t q.0 e q.1).0

-- what is taken is entered at atoms, and has atoms
module _ (h : Heap) (v : Valid h) (head : Head) (p : Placed) (images_there : (a : ℕ) → In a p.atoms → IsAtom h a) (held : (n : ℕ) (t : TypedItem) → slice_get head.typed n ≡ Some t → (q : Port) × StandsAt head.atoms t.link q) where
  typed_there : (parts : List Part) → AreTaken h head.atoms p head.typed parts (length head.typed) → (n : ℕ) (part : Part) → slice_get parts n ≡ Some part → (t : TypedItem) × (slice_get head.typed n ≡ Some t)
  typed_there parts w n part e = let l = get_below parts n part e in let m = w.long in get_there head.typed n (omega (arith, l, m))

  pub are_entered : (parts : List Part) → AreTaken h head.atoms p head.typed parts (length head.typed) → AreEntered h parts
  are_entered parts w n part e =
      let t = typed_there parts w n part e in
      let q = held n t.0 t.1 in
      linked_to h (slice_index_or p.atoms q.0.0 0) q.0.1 (port_by part.entry) v ((w.each n t.0 part t.1 e).0.0.0 q.0.0 q.1.0 q.1.1 q.0.1 t.0.link q.1.2 refl)

  pub are_atoms : (parts : List Part) → AreTaken h head.atoms p head.typed parts (length head.typed) → AreAtoms h parts
  are_atoms parts w n a part e i =
      let t = typed_there parts w n part e in
      reached_atom h (port_by part.entry) a v (are_entered parts w n part e) (((w.each n t.0 part t.1 e).1 a).0 i)

  -- other parts are the same
  module _ (parts parts' : List Part) (w : AreTaken h head.atoms p head.typed parts (length head.typed)) (w' : AreTaken h head.atoms p head.typed parts' (length head.typed)) where
    same_entry : (n : ℕ) (t : TypedItem) (q q' : Part) → slice_get head.typed n ≡ Some t → slice_get parts n ≡ Some q → slice_get parts' n ≡ Some q' → port_by q'.entry ≡ port_by q.entry
    same_entry n t q q' e g g' =
        let s = held n t e in
        same_Some _ _ (sym ((w'.each n t q' e g').0.0.0 s.0.0 s.1.0 s.1.1 s.0.1 t.link s.1.2 refl) ∙ (w.each n t q e g).0.0.0 s.0.0 s.1.0 s.1.1 s.0.1 t.link s.1.2 refl)

    mine_same : (k b : ℕ) → IsMine p.atoms head.typed parts' k (length head.typed) b → IsMine p.atoms head.typed parts k (length head.typed) b
    mine_same k b (inl i) = inl i
    mine_same k b (inr (n, t, q', e, g', l, s, j)) =
        let m = w.long in
        let q = get_there parts n (omega (arith, l, m)) in
        let r' = ((w'.each n t q' e g').1 b).0 j in
        let r = subst (λ (x : Port). Reached (atom_map h) x b) (same_entry n t q.0 q' e q.1 g') r' in
        inr (n, t, q.0, e, q.1, l, s, ((w.each n t q.0 e q.1).1 b).1 r)

  first_same : (typed : List TypedItem) (parts parts' : List Part) (x : ℕ) → length parts ≡ length typed → length parts' ≡ length typed
      → ((n : ℕ) (t : TypedItem) (q q' : Part) → slice_get typed n ≡ Some t → slice_get parts n ≡ Some q → slice_get parts' n ≡ Some q' → port_by q'.entry ≡ port_by q.entry) → first_named typed parts' x ≡ first_named typed parts x
  first_same [] parts parts' x l l' e = refl
  first_same (t ∷ typed) [] parts' x l l' e = absurd (omega (arith, l))
  first_same (t ∷ typed) (q ∷ parts) [] x l l' e = absurd (omega (arith, l'))
  first_same (t ∷ typed) (q ∷ parts) (q' ∷ parts') x l l' e =
      let rest = first_same typed parts parts' x (omega (arith, l)) (omega (arith, l')) (λ n. e (suc n)) in
      let here = e 0 t q q' refl refl refl in
      λ i. if t.name == x then Some (here i) else rest i

  holds_same : (item : MembraneItem) (ms : List ℕ) (Mine Mine' : ℕ → Type 0) (m : ℕ) → ((b : ℕ) → Mine' b → Mine b) → ((b : ℕ) → Mine b → Mine' b) → Holds h item ms Mine' m → Holds h item ms Mine m
  holds_same item ms Mine Mine' m to from s = record {
    atoms = λ e b i. to b (s.atoms e b i);
    inner = s.inner;
    rules = s.rules;
    closed = λ e b i r k link. turn Mine' Mine from r.0 (s.closed e b i r (turn Mine Mine' to b k) link);
  }
    where
      turn : (M N : ℕ → Type 0) → ((x : ℕ) → N x → M x) → (x : ℕ) → IsRestBy h m ms M x → IsRestBy h m ms N x
      turn M N f x (inl (j, d)) = inl (j, λ n. d (f x n))
      turn M N f x (inr r) = inr r

  pub meets_same : (guard : List Cond) (parts parts' : List Part) → AreTaken h head.atoms p head.typed parts (length head.typed) → AreTaken h head.atoms p head.typed parts' (length head.typed) → Meets h head guard p parts' → Meets h head guard p parts
  meets_same guard parts parts' w w' (out, hold, holds) = (
    out,
    λ k item e. holds_same item p.membranes (IsMine p.atoms head.typed parts (k + 1) (length head.typed)) (IsMine p.atoms head.typed parts' (k + 1) (length head.typed)) (slice_index_or p.membranes k 0)
        (mine_same parts parts' w w' (k + 1)) (mine_same parts' parts w' w (k + 1)) (hold k item e),
    subst (λ (s : Meaning). HoldsOnHeap h s guard) (λ i. record { part_of = λ x. first_same head.typed parts parts' x w.long w'.long (same_entry parts parts' w w') i; bound_to = λ x. None }) holds,
  )

-- Where the atoms that a body adds come from, and where those that stand in moved membranes go.
use Rattle.std.proofs.Common.{ℕ, ◌+◌, ◌≡◌, ◌≤◌, ◌⊎◌, ◌==◌, Bool, true, false, cond, List, [], ◌∷◌, map, refl, sym, subst, inl, inr, arith}
use Rattle.std.proofs.lemmas.Bool.{eq-eqb}
use Rattle.lmn_store_heap.proofs.ListLemmas.{in_left, in_right}
use Rattle.lmn_solid_bodies.specs.declared.items.BodyItem.{BodyItem}
use Rattle.lmn_solid_bodies.specs.declared.items.BodyItem.TheVariants.{Atom, Connector, Copy, Bound, Membrane, Rest, Rule, Rules}
use Rattle.lmn_solid_bodies.specs.Running.{Registers}
use Rattle.lmn_solid_bodies.specs.Added.{if_inside, added_atoms, made_mems, moved_mems}
use Rattle.lmn_solid_bodies.specs.RestCopies.{RestCopies, later, rest_membranes, copied_atom, copied_into, given, AreAsLong}
use Rattle.lmn_solid_bodies.specs.Made.{new_atoms}
use Rattle.lmn_solid_bodies.specs.Rules.{Goes, closed_rests}
use Rattle.lmn_base.specs.Lists.{In}
use Rattle.lmn_base.proofs.Lists.{in_either}
use Rattle.lmn_store_heap.proofs.Common.{in_map}
use Rattle.lmn_store_heap.specs.Heap.{Distinct}
use Rattle.lmn_congruence_splice.specs.Splice.{IsOneOf}
use Rattle.lmn_ground_parts.specs.Copies.{answer}
use Rattle.lmn_ground_parts.proofs.AnswerLaws.{answer_in, answer_on, answer_here, answer_onto}
use Rattle.lmn_solid_bodies.proofs.RestGrowing.{in_given, given_in}
use Rattle.lmn_base.proofs.Common.{of_map}

-- what goes to a membrane if it is this one is among what goes there
pub in_if : (r : Registers) (x inside : ℕ) (ns : List ℕ) (b : ℕ) → In b (if_inside r x inside ns) → In b ns
in_if r x inside ns b i = by (r.head.images.membrane inside == x) i
  where
    by : (t : Bool) → In b (cond t ns []) → In b ns
    by true i = i
    by false i = absurd i

if_there : (r : Registers) (inside : ℕ) (ns : List ℕ) → if_inside r (r.head.images.membrane inside) inside ns ≡ ns
if_there r inside ns = rw (eq-eqb (r.head.images.membrane inside) (r.head.images.membrane inside) refl) refl

-- What is left in the membranes of a rest is the rest: its atoms, and membranes of it.
pub record IsWholeRest (r : Registers) (left left_mems : ℕ → List ℕ) (of : ℕ) : Type 0 where
  pub into : (k a : ℕ) → In k (rest_membranes r of) → In a (left k) → In a (r.left_atoms of)
  pub onto : (a : ℕ) → In a (r.left_atoms of) → (k : ℕ) × In k (rest_membranes r of) × In a (left k)
  pub into_mems : (k x : ℕ) → In k (rest_membranes r of) → In x (left_mems k) → In x (r.left_membranes of)
  pub once : Distinct (r.left_atoms of)
  pub outside : In (r.head.images.membrane of) (r.left_membranes of) → ⊥

-- so it is of each rest that a body copies
abbrev pub AreWholeRests : Registers → (ℕ → List ℕ) → (ℕ → List ℕ) → List BodyItem → Type 0
AreWholeRests r left left_mems body = (of : ℕ) → IsOneOf of (closed_rests body) → IsWholeRest r left left_mems of

-- an atom that a body adds is new, or stood in a membrane that moves
abbrev pub Comes : Registers → RestCopies → (ℕ → List ℕ) → ℕ → ℕ → List BodyItem → ℕ → Type 0
Comes r qs left a c body b = In b (new_atoms r qs a c body) ⊎ ((k : ℕ) × In k (moved_mems r body) × In b (left k))

-- equal lengths are long enough
pub long_enough : {x y : ℕ} → x ≡ y → y ≤ x
long_enough {x = x} {y = y} e = omega (arith, e)

-- an added atom is new, or stood in a membrane that moves
pub comes_from : (r : Registers) (qs : RestCopies) (left left_mems : ℕ → List ℕ) (a c : ℕ) (body : List BodyItem) → AreAsLong r qs body → AreWholeRests r left left_mems body → (x b : ℕ) → In b (added_atoms r qs left a c body x) → Comes r qs left a c body b
comes_from r qs left left_mems a c [] lo wh x b i = absurd i
comes_from r qs left left_mems a c (Atom functor links inside ∷ xs) lo wh x b i = elim (in_either b (if_inside r x inside (r.head.images.atom a ∷ [])) (added_atoms r qs left (a + 1) c xs x) i) [
  | inl j ↦ elim (in_if r x inside (r.head.images.atom a ∷ []) b j) [ inl e ↦ inl (inl e) | inr v ↦ absurd v ]
  | inr j ↦ elim (comes_from r qs left left_mems (a + 1) c xs lo wh x b j) [ inl v ↦ inl (inr v) | inr v ↦ inr v ]
]
comes_from r qs left left_mems a c (Bound integer link inside ∷ xs) lo wh x b i = elim (in_either b (if_inside r x inside (r.head.images.atom a ∷ [])) (added_atoms r qs left (a + 1) c xs x) i) [
  | inl j ↦ elim (in_if r x inside (r.head.images.atom a ∷ []) b j) [ inl e ↦ inl (inl e) | inr v ↦ absurd v ]
  | inr j ↦ elim (comes_from r qs left left_mems (a + 1) c xs lo wh x b j) [ inl v ↦ inl (inr v) | inr v ↦ inr v ]
]
comes_from r qs left left_mems a c (Connector l l' ∷ xs) lo wh x b i = comes_from r qs left left_mems a c xs lo wh x b i
comes_from r qs left left_mems a c (Copy part link inside ∷ xs) lo wh x b i = elim (in_either b (if_inside r x inside (r.copied c)) (added_atoms r qs left a (c + 1) xs x) i) [
  | inl j ↦ inl (in_left b (r.copied c) (new_atoms r qs a (c + 1) xs) (in_if r x inside (r.copied c) b j))
  | inr j ↦ elim (comes_from r qs left left_mems a (c + 1) xs lo wh x b j) [ inl v ↦ inl (in_right b (r.copied c) (new_atoms r qs a (c + 1) xs) v) | inr v ↦ inr v ]
]
comes_from r qs left left_mems a c (Membrane inside ∷ xs) lo wh x b i = comes_from r qs left left_mems a c xs lo wh x b i
comes_from r qs left left_mems a c (Rest of false inside ∷ xs) lo wh x b i = elim (in_either b (if_inside r x inside (left (r.head.images.membrane of))) (added_atoms r qs left a c xs x) i) [
  | inl j ↦ inr (r.head.images.membrane of, inl refl, in_if r x inside (left (r.head.images.membrane of)) b j)
  | inr j ↦ elim (comes_from r qs left left_mems a c xs lo wh x b j) [ inl v ↦ inl v | inr v ↦ inr (v.0, inr v.1, v.2) ]
]
comes_from r qs left left_mems a c (Rest of true inside ∷ xs) lo wh x b i =
    let p = qs 0 in
    let G = given (λ k. map (copied_atom r of p) (left k)) (copied_into r of inside p) (rest_membranes r of) x in
    elim (in_either b G (added_atoms r (later qs) left a c xs x) i) [
      | inl j ↦ (let w = in_given (λ k. map (copied_atom r of p) (left k)) (copied_into r of inside p) (rest_membranes r of) x b j in
          let v = of_map (copied_atom r of p) b (left w.0) w.3 in
          inl (in_left b p.atoms (new_atoms r (later qs) a c xs) (subst (λ z. In z p.atoms) v.2 (answer_in (r.left_atoms of) p.atoms v.0 (long_enough lo.0.0) ((wh of (inl refl)).into w.0 v.0 w.1 v.1)))))
      | inr j ↦ elim (comes_from r (later qs) left left_mems a c xs lo.1 (λ o m. wh o (inr m)) x b j) [ inl v ↦ inl (in_right b p.atoms (new_atoms r (later qs) a c xs) v) | inr v ↦ inr v ]
    ]
comes_from r qs left left_mems a c (Rule rule inside ∷ xs) lo wh x b i = comes_from r qs left left_mems a c xs lo wh x b i
comes_from r qs left left_mems a c (Rules of inside ∷ xs) lo wh x b i = comes_from r qs left left_mems a c xs lo wh x b i

-- some membrane that isn't removed gets the atom
abbrev pub Arrives : Registers → RestCopies → (ℕ → List ℕ) → List ℕ → ℕ → ℕ → List BodyItem → ℕ → Type 0
Arrives r qs left ks a c body b = (y : ℕ) × (In y ks → ⊥) × In b (added_atoms r qs left a c body y)

-- each new atom goes to some membrane that isn't removed
pub new_arrives : (r : Registers) (qs : RestCopies) (left left_mems : ℕ → List ℕ) (ks : List ℕ) (E : ℕ → Type 0) (a m c : ℕ) (body : List BodyItem) → AreAsLong r qs body → AreWholeRests r left left_mems body → ((x : ℕ) → In x (made_mems r qs m body) → In x ks → ⊥) → Goes r ks E body → (b : ℕ) → In b (new_atoms r qs a c body) → Arrives r qs left ks a c body b
new_arrives r qs left left_mems ks E a m c [] lo wh away g b i = absurd i
new_arrives r qs left left_mems ks E a m c (Atom functor links inside ∷ xs) lo wh away g b (inl e) =
    (r.head.images.membrane inside, g.0.0, in_left b (if_inside r (r.head.images.membrane inside) inside (r.head.images.atom a ∷ [])) (added_atoms r qs left (a + 1) c xs (r.head.images.membrane inside)) (rw (if_there r inside (r.head.images.atom a ∷ [])) (inl e)))
new_arrives r qs left left_mems ks E a m c (Atom functor links inside ∷ xs) lo wh away g b (inr i) =
    let v = new_arrives r qs left left_mems ks E (a + 1) m c xs lo wh away g.1 b i in (v.0, v.1, in_right b (if_inside r v.0 inside (r.head.images.atom a ∷ [])) (added_atoms r qs left (a + 1) c xs v.0) v.2)
new_arrives r qs left left_mems ks E a m c (Bound integer link inside ∷ xs) lo wh away g b (inl e) =
    (r.head.images.membrane inside, g.0.0, in_left b (if_inside r (r.head.images.membrane inside) inside (r.head.images.atom a ∷ [])) (added_atoms r qs left (a + 1) c xs (r.head.images.membrane inside)) (rw (if_there r inside (r.head.images.atom a ∷ [])) (inl e)))
new_arrives r qs left left_mems ks E a m c (Bound integer link inside ∷ xs) lo wh away g b (inr i) =
    let v = new_arrives r qs left left_mems ks E (a + 1) m c xs lo wh away g.1 b i in (v.0, v.1, in_right b (if_inside r v.0 inside (r.head.images.atom a ∷ [])) (added_atoms r qs left (a + 1) c xs v.0) v.2)
new_arrives r qs left left_mems ks E a m c (Connector l l' ∷ xs) lo wh away g b i = new_arrives r qs left left_mems ks E a m c xs lo wh away g b i
new_arrives r qs left left_mems ks E a m c (Copy part link inside ∷ xs) lo wh away g b i = elim (in_either b (r.copied c) (new_atoms r qs a (c + 1) xs) i) [
  | inl j ↦ (r.head.images.membrane inside, g.0.0, in_left b (if_inside r (r.head.images.membrane inside) inside (r.copied c)) (added_atoms r qs left a (c + 1) xs (r.head.images.membrane inside)) (subst (In b) (sym (if_there r inside (r.copied c))) j))
  | inr j ↦ (let v = new_arrives r qs left left_mems ks E a m (c + 1) xs lo wh away g.1 b j in (v.0, v.1, in_right b (if_inside r v.0 inside (r.copied c)) (added_atoms r qs left a (c + 1) xs v.0) v.2))
]
new_arrives r qs left left_mems ks E a m c (Membrane inside ∷ xs) lo wh away g b i = new_arrives r qs left left_mems ks E a (m + 1) c xs lo wh (λ x j. away x (inr j)) g.1 b i
new_arrives r qs left left_mems ks E a m c (Rest of false inside ∷ xs) lo wh away g b i =
    let v = new_arrives r qs left left_mems ks E a m c xs lo wh away g.4 b i in (v.0, v.1, in_right b (if_inside r v.0 inside (left (r.head.images.membrane of))) (added_atoms r qs left a c xs v.0) v.2)
new_arrives r qs left left_mems ks E a m c (Rest of true inside ∷ xs) lo wh away g b i =
    let p = qs 0 in
    let list : ℕ → List ℕ = λ k. map (copied_atom r of p) (left k) in
    let to = copied_into r of inside p in
    let whole = wh of (inl refl) in
    elim (in_either b p.atoms (new_atoms r (later qs) a c xs) i) [
      | inl j ↦ (let w = answer_onto (r.left_atoms of) p.atoms b (sym lo.0.0) whole.once j in
          let v = whole.onto w.0 w.1 in
          let x = to v.0 in (
            x,
            target v.0 v.1,
            in_left b (given list to (rest_membranes r of) x) (added_atoms r (later qs) left a c xs x) (given_in list to (rest_membranes r of) v.0 b v.1 (subst (λ z. In z (list v.0)) w.2 (in_map (copied_atom r of p) w.0 (left v.0) v.2))),
          ))
      | inr j ↦ (let v = new_arrives r (later qs) left left_mems ks E a m c xs lo.1 (λ o m. wh o (inr m)) (λ x j. away x (in_right x p.membranes (made_mems r (later qs) m xs) j)) g.2 b j in
          (v.0, v.1, in_right b (given list to (rest_membranes r of) v.0) (added_atoms r (later qs) left a c xs v.0) v.2))
    ]
  where
    target : (k : ℕ) → In k (rest_membranes r of) → In (copied_into r of inside (qs 0) k) ks → ⊥
    target k (inl e) = subst (λ z. In z ks → ⊥) (sym (answer_here (r.head.images.membrane of) (r.head.images.membrane inside) (r.left_membranes of) (qs 0).membranes k e)) g.1.0
    target k (inr j) =
        let whole = wh of (inl refl) in
        let d : r.head.images.membrane of ≡ k → ⊥ = λ e. whole.outside (subst (λ z. In z (r.left_membranes of)) (sym e) j) in
        subst (λ z. In z ks → ⊥) (sym (answer_on (r.head.images.membrane of) (r.head.images.membrane inside) (r.left_membranes of) (qs 0).membranes k d))
        (away (answer (r.left_membranes of) (qs 0).membranes k) (in_left (answer (r.left_membranes of) (qs 0).membranes k) (qs 0).membranes (made_mems r (later qs) m xs) (answer_in (r.left_membranes of) (qs 0).membranes k (long_enough lo.0.1) j)))
new_arrives r qs left left_mems ks E a m c (Rule rule inside ∷ xs) lo wh away g b i = new_arrives r qs left left_mems ks E a m c xs lo wh away g.1 b i
new_arrives r qs left left_mems ks E a m c (Rules of inside ∷ xs) lo wh away g b i = new_arrives r qs left left_mems ks E a m c xs lo wh away g.2 b i

-- and so does each that stood in a membrane that moves
pub moved_arrives : (r : Registers) (qs : RestCopies) (left : ℕ → List ℕ) (ks : List ℕ) (E : ℕ → Type 0) (a c : ℕ) (body : List BodyItem) → Goes r ks E body → (k b : ℕ) → In k (moved_mems r body) → In b (left k) → Arrives r qs left ks a c body b
moved_arrives r qs left ks E a c [] g k b i j = absurd i
moved_arrives r qs left ks E a c (Atom functor links inside ∷ xs) g k b i j =
    let v = moved_arrives r qs left ks E (a + 1) c xs g.1 k b i j in (v.0, v.1, in_right b (if_inside r v.0 inside (r.head.images.atom a ∷ [])) (added_atoms r qs left (a + 1) c xs v.0) v.2)
moved_arrives r qs left ks E a c (Bound integer link inside ∷ xs) g k b i j =
    let v = moved_arrives r qs left ks E (a + 1) c xs g.1 k b i j in (v.0, v.1, in_right b (if_inside r v.0 inside (r.head.images.atom a ∷ [])) (added_atoms r qs left (a + 1) c xs v.0) v.2)
moved_arrives r qs left ks E a c (Connector l l' ∷ xs) g k b i j = moved_arrives r qs left ks E a c xs g k b i j
moved_arrives r qs left ks E a c (Copy part link inside ∷ xs) g k b i j =
    let v = moved_arrives r qs left ks E a (c + 1) xs g.1 k b i j in (v.0, v.1, in_right b (if_inside r v.0 inside (r.copied c)) (added_atoms r qs left a (c + 1) xs v.0) v.2)
moved_arrives r qs left ks E a c (Membrane inside ∷ xs) g k b i j = moved_arrives r qs left ks E a c xs g.1 k b i j
moved_arrives r qs left ks E a c (Rest of false inside ∷ xs) g k b (inl e) j = (
  r.head.images.membrane inside,
  g.3.0,
  in_left b (if_inside r (r.head.images.membrane inside) inside (left (r.head.images.membrane of))) (added_atoms r qs left a c xs (r.head.images.membrane inside))
      (rw (if_there r inside (left (r.head.images.membrane of))) (subst (λ z. In b (left z)) (sym e) j)),
)
moved_arrives r qs left ks E a c (Rest of false inside ∷ xs) g k b (inr i) j =
    let v = moved_arrives r qs left ks E a c xs g.4 k b i j in (v.0, v.1, in_right b (if_inside r v.0 inside (left (r.head.images.membrane of))) (added_atoms r qs left a c xs v.0) v.2)
moved_arrives r qs left ks E a c (Rest of true inside ∷ xs) g k b i j =
    let v = moved_arrives r (later qs) left ks E a c xs g.2 k b i j in
    (v.0, v.1, in_right b (given (λ z. map (copied_atom r of (qs 0)) (left z)) (copied_into r of inside (qs 0)) (rest_membranes r of) v.0) (added_atoms r (later qs) left a c xs v.0) v.2)
moved_arrives r qs left ks E a c (Rule rule inside ∷ xs) g k b i j = moved_arrives r qs left ks E a c xs g.1 k b i j
moved_arrives r qs left ks E a c (Rules of inside ∷ xs) g k b i j = moved_arrives r qs left ks E a c xs g.2 k b i j

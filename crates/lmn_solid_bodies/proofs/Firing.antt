-- A body of atoms, connectors and integers fires at an embedding of a head of atoms.
use Rattle.std.proofs.Common.{ℕ, zero, suc, ◌+◌, ◌<◌, ◌≤◌, ◌≡◌, ◌≢◌, ◌⊎◌, ◌==◌, Bool, true, false, cond, List, [], ◌∷◌, ◌++◌, map, length, Option, Some, None, IsSome, refl, sym, ap, subst, ◌∙◌, inl, inr, arith}
use Rattle.std.proofs.lemmas.Bool.{cases_eq, cases_lt, eq-eqb, eqb-true}
use Rattle.std.specs.Option.{option_map, option_and_then}
use Rattle.std.specs.Prelude.{slice_get}
use Rattle.std.specs.Prelude as prelude
use Rattle.lmn_base.specs.declared.functor.Functor.{Functor}
use Rattle.lmn_base.specs.Solids.{connector}
use Rattle.lmn_store_heap.specs.Heap.{Heap, HeapAtom, HeapMem, within, waiting, gone, top, partners_of, functor_of, arity_of, mem_place_of, home_of, home_by, atoms_in, IsAtom, IsInPlace, IsMemInPlace}
use Rattle.lmn_store_heap.specs.Heap as heap
use Rattle.lmn_store_heap.specs.Sound.{Valid}
use Rattle.lmn_store_heap.specs.Sound as heapsound
use Rattle.lmn_store_heap.proofs.Groves.{forms_frame}
use Rattle.lmn_base.specs.Graphs.{Reached, at_root, across, Port}
use Rattle.lmn_store_heap.specs.Graphs.{atom_map}
use Rattle.lmn_store_heap.proofs.ListLemmas.{each_of, in_left, in_right}
use Rattle.lmn_store_heap.proofs.Replacing.{no_waiting, no_waiting_mems}
use Rattle.lmn_solid_heads.specs.declared.items.HeadItem.{HeadItem}
use Rattle.lmn_solid_heads.specs.Heads.{HeadAtom, Occurrence, atoms_of, typed_contexts_of, at_atoms, times}
use Rattle.lmn_solid_heads.specs.Heads as heads
use Rattle.lmn_solid_heads.specs.Embeddings.{Lies, HasAtom, HasTyped, HasLink}
use Rattle.lmn_congruence_splice.specs.Ports.{Coloured}
use Rattle.lmn_congruence_splice.specs.Classes.{rising}
use Rattle.lmn_congruence_splice.specs.Splice.{IsOneOf, TwiceOrNever, both_links, ports, links, LiveBefore, of_rule, of_solid, raw_by, raw_link, Splice}
use Rattle.lmn_congruence_splice.specs.Splice as splice
use Rattle.lmn_congruence_splice.proofs.Joining.{same_some}
use Rattle.lmn_congruence_splice.proofs.EndLemmas.{in_rising, link_found, link_absent}
use Rattle.lmn_instr_code.specs.declared.instr.AtomPort.{AtomPort}
use Rattle.lmn_solid_bodies.specs.declared.items.BodyItem.{BodyItem}
use Rattle.lmn_solid_bodies.specs.declared.items.BodyItem.TheVariants as item
use Rattle.lmn_solid_bodies.specs.Tied.{partners}
use Rattle.lmn_solid_bodies.specs.Items.{port_at, new_ports, old_ports, once_in, connectors, body_links, AllMade, Simple}
use Rattle.lmn_solid_bodies.specs.Running.{Registers, old_port, new_port, integer_functor}
use Rattle.lmn_solid_bodies.specs.Rules.{AtomRule, PartAtoms, closed_rests}
use Rattle.lmn_store_heap.proofs.Depths.{both_distinct}
use Rattle.lmn_solid_bodies.specs.Names.{StandsPort, Names}
use Rattle.lmn_solid_bodies.proofs.Phases.{AllHome, AllStand, atoms_of_pairs}
use Rattle.lmn_solid_bodies.proofs.Finishing.{within_of, in_place_listed}
use Rattle.lmn_solid_bodies.proofs.Brought.{brought_old}
use Rattle.lmn_solid_bodies.proofs.Preparing.{Brought}
use Rattle.lmn_store_heap.proofs.Replacing.{port_within}
use Rattle.lmn_solid_bodies.proofs.Coding.{at_heap}
use Rattle.lmn_solid_bodies.specs.Made.{made_of, places_of, new_atoms, copies_of}
use Rattle.lmn_solid_bodies.proofs.HeadPorts.{times_one, in_map, of_map, at_atoms_in, in_at_atoms, at_atoms_once, other_port, once_in_of, of_once_in}
use Rattle.lmn_solid_bodies.proofs.BodyPorts.{heap_in, of_heap, IsNewPort, Written, NewOrInside, new_is, new_all, new_ports_once, body_count, once_count}
use Rattle.lmn_solid_bodies.proofs.Committing.{Poised, LiveIn}
use Rattle.lmn_solid_bodies.proofs.RestsMade.{HaveRestCopies}
use Rattle.lmn_solid_bodies.specs.RestCopies.{RestCopies, later}
use Rattle.lmn_solid_bodies.specs.Fired.{images_of}
use Rattle.lmn_ground_parts.specs.Rests.{NoneLeaves}
use Rattle.lmn_congruence.specs.Links.{places, one_if_same}
use Rattle.lmn_base.proofs.Common.{port_cases}
use Rattle.lmn_base.proofs.Lists.{get_below, get_there as get_some, in_either}
use Rattle.lmn_congruence.proofs.Counts.{none_if_apart as one_other, one_if_equal as one_same}
use Rattle.lmn_congruence.proofs.TranslatedLinks.{places_append as often_append}
use Rattle.lmn_store_heap.proofs.Common.{decide_in, place_home}
use Rattle.lmn_solid_heads.proofs.Common.{times_append, times_places as times_often}
use Rattle.lmn_congruence_splice.proofs.Common.{in_append}
use Rattle.lmn_base.specs.Lists.{In}
use Rattle.lmn_base.proofs.Truth.{total_two}

-- Numbers from 0 on

-- each of n numbers from a on is one of those
pub rising_below : (n a x : ℕ) → IsOneOf x (rising a n) → (a ≤ x) × (x < a + n)
rising_below zero a x i = absurd i
rising_below (suc n) a x (inl e) = (subst (λ z. a ≤ z) e (omega arith), subst (λ z. z < a + suc n) e (omega arith))
rising_below (suc n) a x (inr i) = let w = rising_below n (suc a) x i in (low w.0, high w.1)
  where
    low : suc a ≤ x → a ≤ x
    low h = omega arith

    high : x < suc a + n → x < a + suc n
    high h = omega arith

-- a number that stands in a list is one of the list
pub heap_in_of : (a : ℕ) (xs : List ℕ) → In a xs → IsOneOf a xs
heap_in_of a [] i = i
heap_in_of a (x ∷ xs) (inl e) = inl e
heap_in_of a (x ∷ xs) (inr i) = inr (heap_in_of a xs i)

-- what is one of a list stands in it
pub of_heap_in : (a : ℕ) (xs : List ℕ) → IsOneOf a xs → In a xs
of_heap_in a [] i = i
of_heap_in a (x ∷ xs) (inl e) = inl e
of_heap_in a (x ∷ xs) (inr i) = inr (of_heap_in a xs i)

-- images of different numbers that are different stand in a list once
pub distinct_images : (f : ℕ → ℕ) (n a : ℕ) → ((x y : ℕ) → a ≤ x → x < a + n → a ≤ y → y < a + n → f x ≡ f y → x ≡ y) → heap.Distinct (map f (rising a n))
distinct_images f zero a once = tt
distinct_images f (suc n) a once = (
  each_of (λ y. f a ≢ y) (map f (rising (suc a) n)) (λ z i e. let w = of_map f z (rising (suc a) n) (heap_in_of z (map f (rising (suc a) n)) i) in let b = rising_below n (suc a) w.0 w.1 in
      off w.0 b.0 (once a w.0 (omega arith) (omega arith) (low w.0 b.0) (top w.0 b.1) (e ∙ sym w.2))),
  distinct_images f n (suc a) (λ x y k h l g. once x y (low x k) (top x h) (low y l) (top y g)),
)
  where
    off : (x : ℕ) → suc a ≤ x → a ≡ x → ⊥
    off x h e = omega arith

    low : (x : ℕ) → suc a ≤ x → a ≤ x
    low x h = omega arith

    top : (x : ℕ) → x < suc a + n → x < a + suc n
    top x h = omega arith

-- in a body without copies of rests the new atoms are those that have a membrane to which they go
pub places_numbers : (r : Registers) (qs : RestCopies) (a c : ℕ) (body : List BodyItem) → closed_rests body ≡ [] → atoms_of_pairs (places_of r a c body) ≡ new_atoms r qs a c body
places_numbers r qs a c [] none = refl
places_numbers r qs a c (item.Atom functor ls inside ∷ xs) none = ap (λ ys. r.head.images.atom a ∷ ys) (places_numbers r qs (a + 1) c xs none)
places_numbers r qs a c (item.Bound integer link inside ∷ xs) none = ap (λ ys. r.head.images.atom a ∷ ys) (places_numbers r qs (a + 1) c xs none)
places_numbers r qs a c (item.Connector left right ∷ xs) none = places_numbers r qs a c xs none
places_numbers r qs a c (item.Copy part link inside ∷ xs) none = copy_places (r.head.images.membrane inside) (r.copied c) (places_of r a (c + 1) xs) ∙ ap (λ ys. r.copied c ++ ys) (places_numbers r qs a (c + 1) xs none)
  where
    copy_places : (m : ℕ) (ys : List ℕ) (es : List (ℕ × ℕ)) → atoms_of_pairs (map (λ y. (m, y)) ys ++ es) ≡ ys ++ atoms_of_pairs es
    copy_places m [] es = refl
    copy_places m (y ∷ ys) es = ap (λ zs. y ∷ zs) (copy_places m ys es)
places_numbers r qs a c (item.Membrane inside ∷ xs) none = places_numbers r qs a c xs none
places_numbers r qs a c (item.Rest of false inside ∷ xs) none = places_numbers r qs a c xs none
places_numbers r qs a c (item.Rest of true inside ∷ xs) none = absurd (cc)
places_numbers r qs a c (item.Rule rule inside ∷ xs) none = places_numbers r qs a c xs none
places_numbers r qs a c (item.Rules of inside ∷ xs) none = places_numbers r qs a c xs none

-- a simple body has no closed context
pub simple_none : (body : List BodyItem) → Simple body → closed_rests body ≡ []
simple_none [] s = refl
simple_none (item.Atom functor ls inside ∷ xs) s = simple_none xs s.1
simple_none (item.Bound integer link inside ∷ xs) s = simple_none xs s.1
simple_none (item.Connector left right ∷ xs) s = simple_none xs s.1
simple_none (item.Copy part link inside ∷ xs) s = absurd s.0
simple_none (item.Membrane inside ∷ xs) s = absurd s.0
simple_none (item.Rest of closed inside ∷ xs) s = absurd s.0
simple_none (item.Rule rule inside ∷ xs) s = absurd s.0
simple_none (item.Rules of inside ∷ xs) s = absurd s.0

stand_at : (s : Heap) (r : Registers) (a c : ℕ) (body : List BodyItem) → Simple body → IsSome (s.mems (r.head.images.membrane 0)) → (mem_place_of s (r.head.images.membrane 0) ≡ Some waiting → ⊥) → AllStand s (places_of r a c body)
stand_at s r a c [] p i w = tt
stand_at s r a c (item.Atom functor ls inside ∷ xs) p i w = (subst (λ k. IsSome (s.mems (r.head.images.membrane k))) (sym p.0) i, (λ e. w (ap (λ k. mem_place_of s (r.head.images.membrane k)) (sym p.0) ∙ e)), stand_at s r (a + 1) c xs p.1 i w)
stand_at s r a c (item.Bound integer link inside ∷ xs) p i w = (subst (λ k. IsSome (s.mems (r.head.images.membrane k))) (sym p.0) i, (λ e. w (ap (λ k. mem_place_of s (r.head.images.membrane k)) (sym p.0) ∙ e)), stand_at s r (a + 1) c xs p.1 i w)
stand_at s r a c (item.Connector left right ∷ xs) p i w = stand_at s r a c xs p.1 i w
stand_at s r a c (item.Copy part link inside ∷ xs) p i w = absurd p.0
stand_at s r a c (item.Membrane inside ∷ xs) p i w = absurd p.0
stand_at s r a c (item.Rest of closed inside ∷ xs) p i w = absurd p.0
stand_at s r a c (item.Rule rule inside ∷ xs) p i w = absurd p.0
stand_at s r a c (item.Rules of inside ∷ xs) p i w = absurd p.0

-- a new atom is written, or one of the copy of a part or of a rest
new_or_copied : (h s : Heap) (r : Registers) (qs : RestCopies) (a c : ℕ) (body : List BodyItem) → Written s r a body → HaveRestCopies h s r qs body → (b : ℕ) → In b (new_atoms r qs a c body)
    → ((f : Functor) × IsOneOf {A = ℕ × Functor} (b, f) (made_of r a body)) ⊎ ((e : ℕ × ℕ) × IsOneOf e (copies_of c body) × In b (r.copied e.0))
    ⊎ ((of : ℕ) × IsOneOf of (closed_rests body) × (x : ℕ) × In x (r.left_atoms of) × (functor_of s b ≡ functor_of h x))
new_or_copied h s r qs a c [] w rc b i = absurd i
new_or_copied h s r qs a c (item.Atom functor ls inside ∷ xs) w rc b (inl e) = inl (functor, inl (λ t. (e t, functor)))
new_or_copied h s r qs a c (item.Atom functor ls inside ∷ xs) w rc b (inr i) = elim (new_or_copied h s r qs (a + 1) c xs (λ x k. w x (inr k)) rc b i) [ inl v ↦ inl (v.0, inr v.1) | inr v ↦ inr v ]
new_or_copied h s r qs a c (item.Bound integer link inside ∷ xs) w rc b (inl e) = inl (integer_functor (r.head.integer integer), inl (λ t. (e t, integer_functor (r.head.integer integer))))
new_or_copied h s r qs a c (item.Bound integer link inside ∷ xs) w rc b (inr i) = elim (new_or_copied h s r qs (a + 1) c xs (λ x k. w x (inr k)) rc b i) [ inl v ↦ inl (v.0, inr v.1) | inr v ↦ inr v ]
new_or_copied h s r qs a c (item.Connector left right ∷ xs) w rc b i = new_or_copied h s r qs a c xs w rc b i
new_or_copied h s r qs a c (item.Copy part link inside ∷ xs) w rc b i = elim (in_either b (r.copied c) (new_atoms r qs a (c + 1) xs) i) [
  | inl j ↦ inr (inl ((c, part), inl refl, j))
  | inr j ↦ elim (new_or_copied h s r qs a (c + 1) xs w rc b j) [ inl v ↦ inl v | inr u ↦ elim u [ inl v ↦ inr (inl (v.0, inr v.1, v.2)) | inr v ↦ inr (inr v) ] ]
]
new_or_copied h s r qs a c (item.Membrane inside ∷ xs) w rc b i = new_or_copied h s r qs a c xs w rc b i
new_or_copied h s r qs a c (item.Rest of false inside ∷ xs) w rc b i = new_or_copied h s r qs a c xs w rc b i
new_or_copied h s r qs a c (item.Rest of true inside ∷ xs) w rc b i = elim (in_either b (qs 0).atoms (new_atoms r (later qs) a c xs) i) [
  | inl j ↦ (let v = rc.0.from b j in inr (inr (of, inl refl, v.0, v.1, v.2)))
  | inr j ↦ elim (new_or_copied h s r (later qs) a c xs w rc.1 b j) [ inl v ↦ inl v | inr u ↦ elim u [ inl v ↦ inr (inl v) | inr v ↦ inr (inr (v.0, inr v.1, v.2, v.3, v.4)) ] ]
]
new_or_copied h s r qs a c (item.Rule rule inside ∷ xs) w rc b i = new_or_copied h s r qs a c xs w rc b i
new_or_copied h s r qs a c (item.Rules of inside ∷ xs) w rc b i = new_or_copied h s r qs a c xs w rc b i

-- no new atom is a connector
plain_made : (r : Registers) (a : ℕ) (body : List BodyItem) → AllMade body → (e : ℕ × Functor) → IsOneOf e (made_of r a body) → e.1 ≢ connector
plain_made r a [] w e i g = absurd i
plain_made r a (item.Atom functor ls inside ∷ xs) w e (inl q) g = w.0.1 (ap (λ (x : ℕ × Functor). x.1) q ∙ g)
plain_made r a (item.Atom functor ls inside ∷ xs) w e (inr i) g = plain_made r (a + 1) xs w.1 e i g
plain_made r a (item.Bound integer link inside ∷ xs) w e (inl q) g = let z : (integer_functor (r.head.integer integer)).arity ≡ connector.arity = ap (λ (x : Functor). x.arity) (ap (λ (x : ℕ × Functor). x.1) q ∙ g) in one_two z
  where
    one_two : ◌≡◌ {A = ℕ} 1 2 → ⊥
    one_two e = omega arith
plain_made r a (item.Bound integer link inside ∷ xs) w e (inr i) g = plain_made r (a + 1) xs w.1 e i g
plain_made r a (item.Connector left right ∷ xs) w e i g = plain_made r a xs w.1 e i g
plain_made r a (item.Copy part link inside ∷ xs) w e i g = plain_made r a xs w.1 e i g
plain_made r a (item.Membrane inside ∷ xs) w e i g = plain_made r a xs w.1 e i g
plain_made r a (item.Rest of closed inside ∷ xs) w e i g = plain_made r a xs w.1 e i g
plain_made r a (item.Rule rule inside ∷ xs) w e i g = plain_made r a xs w.1 e i g
plain_made r a (item.Rules of inside ∷ xs) w e i g = plain_made r a xs w.1 e i g

-- a link that stands at an occurrence stands at least once
pub stands_times : (os : List Occurrence) (o : Occurrence) → IsOneOf o os → 1 ≤ times o.link (map (λ (q : Occurrence). q.link) os)
stands_times [] o i = absurd i
stands_times (p ∷ os) o (inl e) = by (cond (p.link == o.link) 1 0) (times o.link (map (λ (q : Occurrence). q.link) os)) (times_one o.link p.link ∙ one_same o.link p.link (sym (ap (λ (q : Occurrence). q.link) e)))
  where
    by : (x n : ℕ) → x ≡ 1 → 1 ≤ x + n
    by x n e = omega arith
stands_times (p ∷ os) o (inr i) = by (cond (p.link == o.link) 1 0) (times o.link (map (λ (q : Occurrence). q.link) os)) (stands_times os o i)
  where
    by : (x n : ℕ) → 1 ≤ n → 1 ≤ x + n
    by x n h = omega arith

-- what has a place in a list is one of it
pub often_in : (x : ℕ) (xs : List ℕ) → 1 ≤ places x xs → IsOneOf x xs
often_in x [] h = absurd (off h)
  where
    off : 1 ≤ 0 → ⊥
    off h = omega arith
often_in x (y ∷ xs) h = elim (cases_eq y x) [
  | inl e ↦ inl e
  | inr d ↦ inr (often_in x xs (rest (one_if_same x y) (places x xs) (one_other x y (λ e. d (sym e))) h))
]
  where
    rest : (a n : ℕ) → a ≡ 0 → 1 ≤ a + n → 1 ≤ n
    rest a n e h = omega arith

-- and what is one of it has a place
pub in_often : (x : ℕ) (xs : List ℕ) → IsOneOf x xs → 1 ≤ places x xs
in_often x [] i = absurd i
in_often x (y ∷ xs) (inl e) = by (one_if_same x y) (places x xs) (one_same x y (sym e))
  where
    by : (a n : ℕ) → a ≡ 1 → 1 ≤ a + n
    by a n e = omega arith
in_often x (y ∷ xs) (inr i) = by (one_if_same x y) (places x xs) (in_often x xs i)
  where
    by : (a n : ℕ) → 1 ≤ n → 1 ≤ a + n
    by a n h = omega arith

-- a link that stands at typed contexts stands at some one
pub typed_some : (x : ℕ) (ts : List heads.HeadTyped) → 1 ≤ times x (map (λ (t : heads.HeadTyped). t.link) ts) → (g : ℕ) × (t : heads.HeadTyped) × (slice_get ts g ≡ Some t) × (t.link ≡ x)
typed_some x [] h = absurd (off h)
  where
    off : 1 ≤ 0 → ⊥
    off h = omega arith
typed_some x (t ∷ ts) h = elim (cases_eq t.link x) [
  | inl e ↦ (0, t, refl, e)
  | inr d ↦ (let w = typed_some x ts (rest (cond (t.link == x) 1 0) (times x (map (λ (t : heads.HeadTyped). t.link) ts)) (times_one x t.link ∙ one_other x t.link (λ e. d (sym e))) h) in
      (suc w.0, w.1, w.2, w.3))
]
  where
    rest : (a n : ℕ) → a ≡ 0 → 1 ≤ a + n → 1 ≤ n
    rest a n e h = omega arith

pub some_typed : (ts : List heads.HeadTyped) (g : ℕ) (t : heads.HeadTyped) → slice_get ts g ≡ Some t → 1 ≤ times t.link (map (λ (t : heads.HeadTyped). t.link) ts)
some_typed [] g t e = absurd (cc)
some_typed (u ∷ ts) zero t e = let same : u ≡ t = (cc) in by (cond (u.link == t.link) 1 0) (times t.link (map (λ (t : heads.HeadTyped). t.link) ts)) (times_one t.link u.link ∙ one_same t.link u.link (ap (λ (z : heads.HeadTyped). z.link) (sym same)))
  where
    by : (a n : ℕ) → a ≡ 1 → 1 ≤ a + n
    by a n e = omega arith
some_typed (u ∷ ts) (suc g) t e = let r = some_typed ts g t e in by (cond (u.link == t.link) 1 0) (times t.link (map (λ (t : heads.HeadTyped). t.link) ts)) r
  where
    by : (a n : ℕ) → 1 ≤ n → 1 ≤ a + n
    by a n h = omega arith

-- the ports of the heap at which links stand once are named once
pub olds_once : (r : Registers) (N : ℕ) (once : (x y : ℕ) → x < N → y < N → r.head.images.atom x ≡ r.head.images.atom y → x ≡ y) (xs : List ℕ) (os : List Occurrence)
    → splice.NoneTwice (map (λ (o : Occurrence). o.port) os) → ((o : Occurrence) → IsOneOf o os → o.port.0 < N) → splice.NoneTwice (ports (at_heap (old_port r) (once_in xs os)))
olds_once r N once xs [] d below = tt
olds_once r N once xs (o ∷ os) d below = by (times o.link xs == 1) (olds_once r N once xs os d.1 (λ q i. below q (inr i)))
  where
    by : (t : Bool) → splice.NoneTwice (ports (at_heap (old_port r) (once_in xs os)))
        → splice.NoneTwice (ports (at_heap (old_port r) (cond t ((port_at o.port.0 o.port.1, o.link) ∷ once_in xs os) (once_in xs os))))
    by true w = (
      (λ i.
          let v = of_map (λ (e : Port × ℕ). e.0) (r.head.images.atom o.port.0, o.port.1) (at_heap (old_port r) (once_in xs os)) i in
          let u = of_heap (old_port r) v.0 (once_in xs os) v.1 in
          let q = once_in_of xs os u.0 u.1 in
          let image : ◌≡◌ {A = Port} (r.head.images.atom q.0.port.0, q.0.port.1) (r.head.images.atom o.port.0, o.port.1) = ap (λ (e : AtomPort × ℕ). old_port r e.0) q.3 ∙ ap (λ (e : Port × ℕ). e.0) u.2 ∙ v.2 in
          let number : q.0.port.0 ≡ o.port.0 = once q.0.port.0 o.port.0 (below q.0 (inr q.1)) (below o (inl refl)) (ap (λ (p : Port). p.0) image) in
          let index : q.0.port.1 ≡ o.port.1 = ap (λ (p : Port). p.1) image in
          let same : q.0.port ≡ o.port = λ t. (number t, index t) in
          d.0 (subst (λ z. IsOneOf z (map (λ (o : Occurrence). o.port) os)) same (in_map (λ (o : Occurrence). o.port) q.0 os q.1))),
      w,
    )
    by false w = w

-- What is asked of rests in a heap.
--   placed        the atoms of a rest that is copied stand in membranes
--   drop_*        the atoms ds of dropped rests, too; none of them is taken, and no link leaves them
pub record RestsHold (h : Heap) (r : Registers) (body : List BodyItem) (ns ds : List ℕ) : Type 0 where
  pub placed : (of : ℕ) → IsOneOf of (closed_rests body) → (a : ℕ) → In a (r.left_atoms of) → IsInPlace h a
  pub drop_placed : (a : ℕ) → In a ds → IsInPlace h a
  pub drop_apart : (a : ℕ) → In a ds → In a ns → ⊥
  pub drop_stays : NoneLeaves h ds
  pub drop_once : heap.Distinct ds

module _ (h : Heap) (valid : Valid h) (head : List HeadItem) (body : List BodyItem) (n m : ℕ) (r : Registers) (qs : RestCopies) (rule : AtomRule head body n)
    (em : Lies h head m r.head.images) (stand : IsMemInPlace h m) (c : Port → ℕ) (names : Names h c) (free : Brought c h r qs (length (atoms_of head)) body)
    (ps : List ℕ) (parts : PartAtoms h head r.head.images ps) (ds : List ℕ) (dr : RestsHold h r body (images_of r head ++ ps) ds) where
  abbrev pub N : ℕ
  N = length (atoms_of head)

  abbrev pub mk : List (ℕ × Functor)
  mk = made_of r N body

  abbrev pub es : List (ℕ × ℕ)
  es = places_of r N 0 body

  abbrev pub new : List ℕ
  new = new_atoms r qs N 0 body

  abbrev pub s : Heap
  s = free.heap

  -- what is taken
  abbrev pub images : List ℕ
  images = map r.head.images.atom (rising 0 N)

  abbrev pub ns : List ℕ
  ns = map r.head.images.atom (rising 0 N) ++ ps

  -- what is taken and what is dropped
  abbrev pub outs : List ℕ
  outs = ns ++ ds

  abbrev pub news : List (Port × ℕ)
  news = at_heap (new_port r) (new_ports N 0 body)

  abbrev pub olds : List (Port × ℕ)
  olds = at_heap (old_port r) (old_ports head)

  abbrev pub wires : List (ℕ × ℕ)
  wires = connectors body

  -- what was there is as it was
  pub old_atom : (a : ℕ) → IsAtom h a → s.atoms a ≡ h.atoms a
  old_atom a is = (brought_old free.brings a is).1

  old_link : (p : Port) → IsAtom h p.0 → partners s p ≡ partners h p
  old_link p is = ap (λ (o : Option HeapAtom). prelude.slice_index_or (partners_of o) p.1 None) (old_atom p.0 is)

  -- Head atoms

  pub image_is : (a : ℕ) → In a images → (k : ℕ) × (k < N) × (r.head.images.atom k ≡ a)
  image_is a i = let w = of_map r.head.images.atom a (rising 0 N) (heap_in_of a images i) in (w.0, plain w.0 (rising_below N 0 w.0 w.1).1, w.2)
    where
      plain : (k : ℕ) → k < 0 + N → k < N
      plain k h = omega arith

  pub is_taken : (k : ℕ) → k < N → In (r.head.images.atom k) ns
  is_taken k b = in_left (r.head.images.atom k) images ps (of_heap_in (r.head.images.atom k) images (in_map r.head.images.atom k (rising 0 N) (in_rising N 0 k (omega arith) (plain b))))
    where
      plain : k < N → k < 0 + N
      plain h = omega arith

  pub head_in_place : (k : ℕ) → k < N → IsInPlace h (r.head.images.atom k)
  head_in_place k b = let a = get_some (atoms_of head) k b in in_place_listed h (r.head.images.membrane a.0.inside) (r.head.images.atom k) valid.sound.listed (em.atoms_placed k a.0 a.1)

  pub part_in_place : (a : ℕ) → In a ps → IsInPlace h a
  part_in_place a i = let w = parts.are a i in subst (λ (o : Option ℕ). IsSome o) (sym ((em.parts w.0 w.1 w.2).whole.at_home a w.3)) refl

  -- an atom of a part is no image
  pub part_apart : (a k : ℕ) → In a ps → k < N → r.head.images.atom k ≡ a → ⊥
  part_apart a k i b e = let w = parts.are a i in (em.parts w.0 w.1 w.2).apart a w.3 (k, b, e)

  pub part_taken : (g : ℕ) (t : heads.HeadTyped) (a : ℕ) → HasTyped head g t → Reached (atom_map h) (r.head.images.part g) a → In a ns
  part_taken g t a w i = in_right a images ps (parts.all g t a w i)

  pub taken_in_place : (a : ℕ) → In a ns → IsInPlace h a
  taken_in_place a i = elim (in_either a images ps i) [
    | inl j ↦ (let w = image_is a j in subst (IsInPlace h) w.2 (head_in_place w.0 w.1))
    | inr j ↦ part_in_place a j
  ]

  pub is_atom : (a : ℕ) → IsInPlace h a → IsAtom h a
  is_atom a i = by (h.atoms a) i
    where
      by : (o : Option HeapAtom) → IsSome (option_and_then (λ x. home_by x.place) o) → IsSome o
      by None i = absurd (cc)
      by (Some x) i = refl

  same_home : (a : ℕ) → IsAtom h a → home_of s a ≡ home_of h a
  same_home a is = ap (λ (o : Option HeapAtom). option_and_then (λ x. home_by x.place) o) (old_atom a is)

  pub home_s : AllHome s ns
  home_s a i = let p = taken_in_place a i in let w = within_of h a p in (w.0, same_home a (is_atom a p) ∙ place_home h a w.0 w.1)

  pub ns_once : heap.Distinct ns
  ns_once = both_distinct images ps (distinct_images r.head.images.atom N 0 (λ x y k p l q e. em.atoms_differ x y (plain x p) (plain y q) e)) parts.once
      (λ a i j. let w = image_is a i in part_apart a w.0 j w.1 w.2)
    where
      plain : (k : ℕ) → k < 0 + N → k < N
      plain k h = omega arith

  -- a new atom isn't one of the heap before
  not_new : (a : ℕ) → IsAtom h a → In a new → ⊥
  not_new a is = (brought_old free.brings a is).0

  pub in_place_old : (a : ℕ) → IsInPlace s a → IsInPlace h a
  in_place_old a i = elim (decide_in a new) [
    | inl j ↦ absurd (let w = within_of s a i in let z : Some (within w.0) ≡ Some waiting = sym w.1 ∙ free.brings.waits a j in cc)
    | inr o ↦ subst (λ (x : Option HeapAtom). IsSome (option_and_then (λ y. home_by y.place) x)) (free.brings.others a o) i
  ]

  pub in_place_new : (a : ℕ) → IsInPlace h a → IsInPlace s a
  in_place_new a i = subst (λ (x : Option HeapAtom). IsSome (option_and_then (λ y. home_by y.place) x)) (sym (old_atom a (is_atom a i))) i

  pub arity_old : (a : ℕ) → IsInPlace h a → arity_of s a ≡ arity_of h a
  arity_old a i = ap (λ (o : Option HeapAtom). length (partners_of o)) (old_atom a (is_atom a i))

  -- Splice

  abbrev pub F : Port → Type 0
  F = LiveIn s outs new

  new_entry : (p : Port) → IsOneOf p (ports news) → IsNewPort s new p
  new_entry p i = let w = of_map (λ (e : Port × ℕ). e.0) p news i in subst (IsNewPort s new) w.2 (new_is r qs N 0 body rule.made h s free.written free.copies w.0 w.1)

  new_atom_in : (p : Port) → IsOneOf p (ports news) → In p.0 new
  new_atom_in p i = (new_entry p i).0

  new_live : (p : Port) → IsOneOf p (ports news) → F p × (partners s p ≡ None)
  new_live p i = let w = new_entry p i in ((w.1, inr w.0), w.2)

  all_new : (p : Port) → p.1 < arity_of s p.0 → In p.0 new → NewOrInside s r qs N 0 body p
  all_new p b i = new_all r qs N 0 body rule.made h s free.written free.copies free.rests p i b

  -- an old port: a head port whose link stands once in the head
  pub record OldPort (p : Port) : Type 0 where
    pub k : ℕ
    pub i : ℕ
    pub link : ℕ
    pub number : k < N
    pub is : ◌≡◌ {A = Port} (r.head.images.atom k, i) p
    pub stands : HasLink head link (k, i)
    pub once : times link (heads.links_of_head head) ≡ 1

  pub old_entry : (p : Port) → IsOneOf p (ports olds) → OldPort p
  old_entry p i =
      let v = of_map (λ (e : Port × ℕ). e.0) p olds i in
      let u = of_heap (old_port r) v.0 (old_ports head) v.1 in
      let q = once_in_of (heads.links_of_head head) (at_atoms 0 (atoms_of head)) u.0 u.1 in
      let a = at_atoms_in 0 (atoms_of head) q.0 q.1 in
      let number : q.0.port.0 ≡ a.k = a.number ∙ zero_plus a.k in
      record {
        k = a.k;
        i = q.0.port.1;
        link = q.0.link;
        number = get_below (atoms_of head) a.k a.atom a.is;
        is = ap (λ z. (r.head.images.atom z, q.0.port.1)) (sym number) ∙ ap (λ (e : AtomPort × ℕ). old_port r e.0) q.3 ∙ ap (λ (e : Port × ℕ). e.0) u.2 ∙ v.2;
        stands = (a.atom, a.is, a.link);
        once = q.2;
      }
    where
      zero_plus : (k : ℕ) → 0 + k ≡ k
      zero_plus k = omega arith

  head_occurrence : (k i x : ℕ) → HasLink head x (k, i) → IsOneOf {A = Occurrence} (record { link = x; port = (k, i) }) (at_atoms 0 (atoms_of head))
  head_occurrence k i x w = subst (λ z. IsOneOf {A = Occurrence} (record { link = x; port = (z, i) }) (at_atoms 0 (atoms_of head))) (zero_plus k) (in_at_atoms 0 (atoms_of head) k i x w.0 w.1 w.2)
    where
      zero_plus : (k : ℕ) → 0 + k ≡ k
      zero_plus k = omega arith

  is_old : (k i x : ℕ) → HasLink head x (k, i) → times x (heads.links_of_head head) ≡ 1 → IsOneOf {A = Port} (r.head.images.atom k, i) (ports olds)
  is_old k i x w once = in_map (λ (e : Port × ℕ). e.0) ((r.head.images.atom k, i), x) olds
      (heap_in (old_port r) (port_at k i, x) (old_ports head) (of_once_in (heads.links_of_head head) (at_atoms 0 (atoms_of head)) (record { link = x; port = (k, i) }) (head_occurrence k i x w) once))

  old_gone : (p : Port) → IsOneOf p (ports olds) → F p → ⊥
  old_gone p i f = let o = old_entry p i in let same : r.head.images.atom o.k ≡ p.0 = ap (λ (q : Port). q.0) o.is in elim f.1 [
    | inl w ↦ w.1 (in_left p.0 ns ds (subst (λ z. In z ns) same (is_taken o.k o.number)))
    | inr j ↦ not_new p.0 (subst (IsAtom h) same (is_atom (r.head.images.atom o.k) (head_in_place o.k o.number))) j
  ]

  head_below : (o : Occurrence) → IsOneOf o (at_atoms 0 (atoms_of head)) → o.port.0 < N
  head_below o i = let a = at_atoms_in 0 (atoms_of head) o i in subst (λ z. z < N) (sym (a.number ∙ zero_plus a.k)) (get_below (atoms_of head) a.k a.atom a.is)
    where
      zero_plus : (k : ℕ) → 0 + k ≡ k
      zero_plus k = omega arith

  -- links

  abbrev occs : List Occurrence
  occs = at_atoms 0 (atoms_of head)

  abbrev at_links : List ℕ
  at_links = map (λ (o : Occurrence). o.link) occs

  abbrev typed_links : List ℕ
  typed_links = map (λ (t : heads.HeadTyped). t.link) (typed_contexts_of head)

  -- how often a link stands in a head: at atoms, and at typed contexts
  head_times : (x : ℕ) → times x (heads.links_of_head head) ≡ times x at_links + times x typed_links
  head_times x = times_append x at_links typed_links

  -- the link of a typed context stands at an atom too
  typed_held : (x : ℕ) → 1 ≤ times x typed_links → (g : ℕ) × (t : heads.HeadTyped) × HasTyped head g t × (t.link ≡ x)
  typed_held x l = typed_some x (typed_contexts_of head) l

  at_some : (k i x : ℕ) → HasLink head x (k, i) → 1 ≤ times x at_links
  at_some k i x w = stands_times occs (record { link = x; port = (k, i) }) (head_occurrence k i x w)

  typed_twice : (g : ℕ) (t : heads.HeadTyped) → HasTyped head g t → 2 ≤ times t.link (heads.links_of_head head)
  typed_twice g t w =
      let p = rule.held g t w in
      let a = at_some p.0.0 p.0.1 t.link p.1 in
      let b = some_typed (typed_contexts_of head) g t w in
      let e = head_times t.link in
      omega arith

  once_at : (x : ℕ) → times x (heads.links_of_head head) ≡ 1 → places x at_links ≡ 1
  once_at x e = sym (times_often x at_links) ∙ by (cases_lt (times x typed_links) 1)
    where
      by : (times x typed_links < 1) ⊎ (1 ≤ times x typed_links) → times x at_links ≡ 1
      by (inl l) = let f = head_times x in omega arith
      by (inr l) = let w = typed_held x l in let two = typed_twice w.0 w.1 w.2 in absurd (off (times w.1.link (heads.links_of_head head)) two (ap (λ z. times z (heads.links_of_head head)) w.3 ∙ e))
        where
          off : (k : ℕ) → 2 ≤ k → k ≡ 1 → ⊥
          off k h g = omega arith

  linked : TwiceOrNever (both_links wires ++ (links news ++ links olds))
  linked z = total_two _ (places z (both_links wires)) (places z (links news)) (places z (links olds)) (places z (body_links body)) (times z (heads.links_of_head head))
      (places z (map (λ (o : Occurrence). o.link) (at_atoms 0 (atoms_of head)))) (times z (heads.links_of_head head) == 1)
      (often_append z (both_links wires) (links news ++ links olds) ∙ ap (λ k. places z (both_links wires) + k) (often_append z (links news) (links olds)))
      (body_count r N 0 z body) (once_count r z (heads.links_of_head head) (at_atoms 0 (atoms_of head))) (once_at z)
      (eqb-true (times z (heads.links_of_head head)) 1)
      (λ e f. let g : true ≡ false = sym (eq-eqb (times z (heads.links_of_head head)) 1 f) ∙ e in absurd (cc))
      (elim (rule.linked z) [ inl e ↦ inl (ap (λ k. times z (heads.links_of_head head) + k) (sym (times_often z (body_links body))) ∙ e) | inr e ↦ inr (ap (λ k. times z (heads.links_of_head head) + k) (sym (times_often z (body_links body))) ∙ e) ])

  -- colours

  arity_in : (k i : ℕ) → k < N → i < arity_of h (r.head.images.atom k) → (a : HeadAtom) × HasAtom head k a × (i < length a.links)
  arity_in k i b e = let a = get_some (atoms_of head) k b in
      (a.0, a.1, subst (λ z. i < z) (valid.sound.shaped.ports (r.head.images.atom k) a.0.functor (em.functors k a.0 a.1) ∙ sym (rule.head_made k a.0 a.1)) e)

  pub old_port_stands : (p : Port) → IsOneOf p (ports olds) → StandsPort h p
  old_port_stands p i =
      let o = old_entry p i in
      let a = o.stands in
      subst (StandsPort h) o.is (
        head_in_place o.k o.number,
        subst (λ z. o.i < z) (rule.head_made o.k a.0 a.1 ∙ sym (valid.sound.shaped.ports (r.head.images.atom o.k) a.0.functor (em.functors o.k a.0 a.1))) (get_below a.0.links o.i o.link a.2),
      )

  -- a port of a copy with its partner
  abbrev Inside : Port → Type 0
  Inside p = (q : Port) × In p.0 new × In q.0 new × (partners s p ≡ Some q)

  -- what lives before is a port of the heap before, or joined inside a copy
  stands_before : (p : Port) → LiveBefore F news olds p → StandsPort h p ⊎ Inside p
  stands_before p (inl w) = elim w.0.1 [
    | inl v ↦ (let i = in_place_old p.0 v.0 in inl (i, subst (λ z. p.1 < z) (arity_old p.0 i) w.0.0))
    | inr j ↦ (let i = j in elim (all_new p w.0.0 i) [
      | inl k ↦ absurd (w.1 k)
      | inr u ↦ inr (u.0, i, u.1, u.2)
    ])
  ]
  stands_before p (inr i) = inl (old_port_stands p i)

  -- the partner of such a port lives too
  inside_lives : (p q : Port) → In q.0 new → partners s p ≡ Some q → LiveBefore F news olds q × (q ≢ p)
  inside_lives p q j e =
      let back : partners s q ≡ Some p = free.sound.paired.back p.0 p.1 q.0 q.1 e in (
        inl ((port_within s q.0 q.1 p back, inr j), λ i. let z : ◌≡◌ {A = Option Port} None (Some p) = sym (new_live q i).1 ∙ back in absurd (cc)),
        λ f. free.sound.paired.apart p.0 p.1 (e ∙ ap Some f),
      )

  -- the port at the other end of a live port is live too
  other_lives : (p q : Port) → LiveBefore F news olds p → StandsPort h q → partners h q ≡ Some p → LiveBefore F news olds q
  other_lives p q l st e = elim (decide_in q.0 outs) [
    | inr o ↦ inl ((subst (λ z. q.1 < z) (sym (arity_old q.0 st.0)) st.1, inl (in_place_new q.0 st.0, o)), λ i. not_new q.0 (is_atom q.0 st.0) (new_atom_in q i))
    | inl i ↦ elim (taken_how q.0 i) [
      | inr j ↦ elim j [ inl u ↦ absurd (part_never q u p l e) | inr u ↦ absurd (drop_never q u p l e) ]
      | inl j ↦ (let k = image_is q.0 j in
          let a = arity_in k.0 q.1 k.1 (subst (λ z. q.1 < arity_of h z) (sym k.2) st.1) in
          let x = get_some a.0.links q.1 a.2 in
          let has : HasLink head x.0 (k.0, q.1) = (a.0, a.1, x.1) in
          let is_q : ◌≡◌ {A = Port} (r.head.images.atom k.0, q.1) q = λ t. (k.2 t, q.1) in
          elim (cases_eq (times x.0 (heads.links_of_head head)) 1) [
            | inl once ↦ inr (subst (λ z. IsOneOf z (ports olds)) is_q (is_old k.0 q.1 x.0 has once))
            | inr more ↦ absurd (never k.0 q.1 x.0 has more p l (ap (partners h) is_q ∙ e))
          ])
    ]
  ]
    where
      taken_how : (a : ℕ) → In a outs → In a images ⊎ In a ps ⊎ In a ds
      taken_how a i = elim (in_either a ns ds i) [ inl j ↦ elim (in_either a images ps j) [ inl k ↦ inl k | inr k ↦ inr (inl k) ] | inr j ↦ inr (inr j) ]

      -- no live port is one of a dropped atom
      drop_never : (q : Port) → In q.0 ds → (p : Port) → LiveBefore F news olds p → partners h q ≡ Some p → ⊥
      drop_never q i p l e =
          let j = dr.drop_stays q.0 q.1 p.0 p.1 i e in
          elim l [
            | inl v ↦ elim v.0.1 [
              | inl u ↦ u.1 (in_right p.0 ns ds j)
              | inr k ↦ not_new p.0 (is_atom p.0 (dr.drop_placed p.0 j)) k
            ]
            | inr k ↦ (let o = old_entry p k in dr.drop_apart p.0 j (subst (λ z. In z ns) (ap (λ (x : Port). x.0) o.is) (is_taken o.k o.number)))
          ]

      -- no live port is one of a part
      not_in_part : (g : ℕ) (t : heads.HeadTyped) → HasTyped head g t → (p : Port) → LiveBefore F news olds p → Reached (atom_map h) (r.head.images.part g) p.0 → ⊥
      not_in_part g t w p l i = elim l [
        | inl v ↦ elim v.0.1 [
          | inl u ↦ u.1 (in_left p.0 ns ds (part_taken g t p.0 w i))
          | inr j ↦ not_new p.0 (is_atom p.0 (part_in_place p.0 (parts.all g t p.0 w i))) j
        ]
        | inr j ↦ (let o = old_entry p j in part_apart p.0 o.k (parts.all g t p.0 w i) o.number (ap (λ (q : Port). q.0) o.is))
      ]

      -- a live port that is an image of a port of the head has a link that stands once in the head
      live_once : (p : Port) → LiveBefore F news olds p → (k i x : ℕ) → HasLink head x (k, i) → p ≡ (r.head.images.atom k, i) → times x (heads.links_of_head head) ≡ 1
      live_once p l k i x has is_p =
          let below = get_below (atoms_of head) k has.0 has.1 in
          elim l [
            | inl v ↦ absurd (elim v.0.1 [
              | inl u ↦ u.1 (in_left p.0 ns ds (subst (λ z. In z ns) (sym (ap (λ (q : Port). q.0) is_p)) (is_taken k below)))
              | inr j ↦ not_new p.0 (subst (IsAtom h) (sym (ap (λ (q : Port). q.0) is_p)) (is_atom (r.head.images.atom k) (head_in_place k below))) j
            ])
            | inr j ↦ (let o = old_entry p j in
                let image : ◌≡◌ {A = Port} (r.head.images.atom o.k, o.i) (r.head.images.atom k, i) = o.is ∙ is_p in
                let same_k : o.k ≡ k = em.atoms_differ o.k k o.number below (ap (λ (q : Port). q.0) image) in
                let same_i : o.i ≡ i = ap (λ (q : Port). q.1) image in
                let same_atom = one_atom o.stands.0 has.0 (sym o.stands.1 ∙ ap (slice_get (atoms_of head)) same_k ∙ has.1) in
                let same_link = one_link o.link x (sym o.stands.2 ∙ (λ t. slice_get (same_atom t).links (same_i t)) ∙ has.2) in
                ap (λ z. times z (heads.links_of_head head)) (sym same_link) ∙ o.once)
          ]
        where
          one_atom : (x y : HeadAtom) → ◌≡◌ {A = Option HeadAtom} (Some x) (Some y) → x ≡ y
          one_atom x y e = (cc)

          one_link : (x y : ℕ) → ◌≡◌ {A = Option ℕ} (Some x) (Some y) → x ≡ y
          one_link x y e = (cc)

      -- the other end of a port of a part isn't live
      part_never : (q : Port) → In q.0 ps → (p : Port) → LiveBefore F news olds p → partners h q ≡ Some p → ⊥
      part_never q i p l e =
          let w = parts.are q.0 i in
          elim (port_cases q (r.head.images.part w.0)) [
            | inl root ↦ (let holder = rule.held w.0 w.1 w.2 in
                let back = valid.sound.paired.back (r.head.images.atom holder.0.0) holder.0.1 (r.head.images.part w.0).0 (r.head.images.part w.0).1 ((em.parts w.0 w.1 w.2).held holder.0 holder.1) in
                let is_p : p ≡ (r.head.images.atom holder.0.0, holder.0.1) = same_some p (r.head.images.atom holder.0.0, holder.0.1) (sym e ∙ ap (partners h) root ∙ back) in
                off (typed_twice w.0 w.1 w.2) (live_once p l holder.0.0 holder.0.1 w.1.link holder.1 is_p))
            | inr d ↦ not_in_part w.0 w.1 w.2 p l (across {a = q.0} {i = q.1} {j = p.1} w.3 d e)
          ]
        where
          off : {k : ℕ} → 2 ≤ k → k ≡ 1 → ⊥
          off {k = k} h g = omega arith

      -- a link that stands twice in the head joins two ports of the head, or holds a typed context
      never : (k i x : ℕ) → HasLink head x (k, i) → times x (heads.links_of_head head) ≢ 1 → (p : Port) → LiveBefore F news olds p → partners h (r.head.images.atom k, i) ≡ Some p → ⊥
      never k i x has more p l e = elim (cases_lt (times x typed_links) 1) [
        | inr typed ↦ (let w = typed_held x typed in
            let held = (em.parts w.0 w.1 w.2).held (k, i) (subst (λ z. HasLink head z (k, i)) (sym w.3) has) in
            let is_p : p ≡ r.head.images.part w.0 = same_some p (r.head.images.part w.0) (sym e ∙ held) in
            not_in_part w.0 w.1 w.2 p l (subst (λ (z : Port). Reached (atom_map h) (r.head.images.part w.0) z.0) (sym is_p) at_root))
        | inl none ↦ (let occ = head_occurrence k i x has in
            let some = at_some k i x has in
            let w = other_port occs (at_atoms_once 0 (atoms_of head)) (record { link = x; port = (k, i) }) occ (two (times x (heads.links_of_head head)) (times x at_links) (times x typed_links) (head_times x) none more some) in
            let b = at_atoms_in 0 (atoms_of head) w.0 w.1 in
            let number : w.0.port.0 ≡ b.k = b.number ∙ zero_plus b.k in
            let has' : HasLink head x (b.k, w.0.port.1) = (b.atom, b.is, b.link ∙ ap (λ z. Some z) w.2) in
            let differ : ◌≢◌ {A = Port} (k, i) (b.k, w.0.port.1) = λ g. w.3 ((λ t. (number t, w.0.port.1)) ∙ sym g) in
            let join = em.joined x (k, i) (b.k, w.0.port.1) has has' differ in
            more (live_once p l b.k w.0.port.1 x has' (same_some p (r.head.images.atom b.k, w.0.port.1) (sym e ∙ join))))
      ]
        where
          zero_plus : (k : ℕ) → 0 + k ≡ k
          zero_plus k = omega arith

          two : (u v w : ℕ) → u ≡ v + w → w < 1 → u ≢ 1 → 1 ≤ v → 2 ≤ v
          two u v w e l d h = grind arith

  coloured : Coloured c (LiveBefore F news olds) (partners s)
  coloured = record {
    partner = λ p l. elim (stands_before p l) [
      | inl st ↦ (let w = names.partner p st in (w.0, other_lives p w.0 l w.1 (valid.sound.paired.back p.0 p.1 w.0.0 w.0.1 w.2), old_link p (is_atom p.0 st.0) ∙ w.2, w.3, w.4))
      | inr u ↦ (let v = inside_lives p u.0 u.2 u.3 in (u.0, v.0, u.3, v.1, free.same p u.0 u.1 u.3))
    ];
    only = λ p q lp lq e. elim (stands_before p lp) [
      | inl sp ↦ elim (stands_before q lq) [
        | inl sq ↦ elim (names.only p q sp sq e) [ inl f ↦ inl f | inr f ↦ inr (old_link p (is_atom p.0 sp.0) ∙ f) ]
        | inr v ↦ absurd (free.apart q p v.0 v.1 v.3 sp (sym e))
      ]
      | inr u ↦ elim (stands_before q lq) [
        | inl sq ↦ absurd (free.apart p q u.0 u.1 u.3 sq e)
        | inr v ↦ free.only p q u.0 v.0 u.1 v.1 u.3 v.3 e
      ]
    ];
  }

  pub splice_at : Splice F c (partners s) news olds wires
  splice_at = record {
    new_once = new_ports_once r qs N 0 body rule.made h s free.written free.copies free.brings.once;
    old_once = olds_once r N em.atoms_differ (heads.links_of_head head) (at_atoms 0 (atoms_of head)) (at_atoms_once 0 (atoms_of head)) head_below;
    made = new_live;
    gone = old_gone;
    linked = linked;
    coloured = coloured;
  }

  pub stands_mem : (q : ℕ) → IsMemInPlace h q → IsSome (h.mems q) × (mem_place_of h q ≡ Some waiting → ⊥)
  stands_mem q i = by (h.mems q) i
    where
      place : (x : HeapMem) (p : heap.Place) → x.place ≡ p → heap.IsTopOrWithin (Some p) → IsSome {T = HeapMem} (Some x) × (Some x.place ≡ Some waiting → ⊥)
      place x top e i = (refl, λ f. let g : top ≡ waiting = sym e ∙ (cc) in absurd (cc))
      place x (within k) e i = (refl, λ f. let g : within k ≡ waiting = sym e ∙ (cc) in absurd (cc))
      place x waiting e i = absurd i
      place x gone e i = absurd i

      by : (o : Option HeapMem) → heap.IsTopOrWithin (option_map (λ x. x.place) o) → IsSome o × (option_map (λ x. x.place) o ≡ Some waiting → ⊥)
      by None i = absurd i
      by (Some x) i = place x x.place refl i

  -- no new atom is a connector
  pub new_plain : (a : ℕ) → In a new → functor_of s a ≢ Some connector
  new_plain a i e = elim (new_or_copied h s r qs N 0 body free.written free.rests a i) [
    | inl w ↦ plain_made r N body rule.made (a, w.0) w.1 (one_functor w.0 connector (sym (ap (λ (o : Option HeapAtom). option_map (λ x. x.functor) o) (free.written (a, w.0) w.1)) ∙ e))
    | inr z ↦ elim z [
      | inl w ↦ (let t = rule.copied w.0 w.1 in
          let u = (free.copies w.0 w.1).from a w.2 in
          valid.no_connector u.0 (subst (λ (o : Option ℕ). IsSome o) (sym ((em.parts w.0.1 t.0 t.1).whole.at_home u.0 u.1)) refl) (sym u.2 ∙ e))
      | inr w ↦ valid.no_connector w.2 (dr.placed w.0 w.1 w.2 w.3) (sym w.4 ∙ e)
    ]
  ]
    where
      one_functor : (f g : Functor) → ◌≡◌ {A = Option Functor} (Some f) (Some g) → f ≡ g
      one_functor f g e = (cc)

  -- the new atoms of a simple body have membranes to which they go
  pub es_numbers : Simple body → atoms_of_pairs es ≡ new
  es_numbers simple = places_numbers r qs N 0 body (simple_none body simple)

  pub poised : Simple body → Poised s ns es valid.tree.0
  poised simple = record {
    sound = free.sound;
    once = ns_once;
    home = home_s;
    line = free.brings.line ∙ ap (λ xs. xs ++ new) (no_waiting h valid.sound.listed valid.settled) ∙ sym (es_numbers simple);
    stand = let w = stands_mem m stand in stand_at s r N 0 body simple
        (subst (λ (f : ℕ → Option HeapMem). IsSome (f (r.head.images.membrane 0))) (sym free.mems) (subst (λ z. IsSome (h.mems z)) (sym em.here) w.0))
        (subst (λ (f : ℕ → Option HeapMem). option_map (λ x. x.place) (f (r.head.images.membrane 0)) ≡ Some waiting → ⊥) (sym free.mems) (subst (λ z. mem_place_of h z ≡ Some waiting → ⊥) (sym em.here) w.1));
    no_mems = free.new_mems ∙ no_waiting_mems h valid.sound.listed valid.settled;
    none_gone = λ q e. never q (ap (λ f. option_map (λ x. x.place) (f q)) (sym free.mems) ∙ e);
    forms = subst (λ z. heapsound.Forms s valid.tree.0 (z ∷ [])) (sym free.root) (forms_frame h s valid.tree.0 (h.root ∷ []) (λ q i. ap (λ f. heap.mems_by (f q)) free.mems) valid.tree.1.forms);
    flat_once = valid.tree.1.once;
    all = λ q is. valid.tree.1.all q (subst (λ (f : ℕ → Option HeapMem). IsSome (f q)) free.mems is);
    plain = λ a i e. let j = in_place_old a i in valid.no_connector a j (sym (ap (λ (o : Option HeapAtom). option_map (λ x. x.functor) o) (old_atom a (is_atom a j))) ∙ e);
    new_plain = λ a i. new_plain a (subst (In a) (es_numbers simple) i);
  }
    where
      never : (q : ℕ) → mem_place_of h q ≡ Some gone → ⊥
      never q e = by (h.mems q) e (valid.settled.mems q)
        where
          place : (x : HeapMem) → x.place ≡ gone → (Some x.place ≡ Some top) ⊎ IsSome (home_by x.place) → ⊥
          place x e (inl f) = absurd (let g : Some gone ≡ Some top = sym (ap (λ z. Some z) e) ∙ f in cc)
          place x e (inr f) = absurd (let g : IsSome (home_by gone) = subst (λ z. IsSome (home_by z)) e f in cc)

          by : (o : Option HeapMem) → option_map (λ x. x.place) o ≡ Some gone
              → (IsSome o → (option_map (λ x. x.place) o ≡ Some top) ⊎ IsSome (option_and_then (λ x. home_by x.place) o)) → ⊥
          by None e f = absurd (cc)
          by (Some x) e f = place x (cc) (f refl)

  -- the links of the ties are links of the rule
  pub links_below : (x : ℕ) → IsOneOf x (links news ++ links olds) → x < n
  links_below x i = elim (in_append x (links news) (links olds) i) [
    | inl j ↦ rule.below x (inr (often_in x (body_links body) (more (places x (both_links wires)) (places x (links news)) (places x (body_links body)) (body_count r N 0 x body) (in_often x (links news) j))))
    | inr j ↦ rule.below x (inl (often_in x (heads.links_of_head head) (most (places x (heads.links_of_head head)) (places x at_links) (times x typed_links)
        (sym (times_often x (heads.links_of_head head)) ∙ head_times x ∙ ap (λ k. k + times x typed_links) (times_often x at_links))
        (some (times x (heads.links_of_head head) == 1) _ (subst (λ k. 1 ≤ k) (once_count r x (heads.links_of_head head) (at_atoms 0 (atoms_of head))) (in_often x (links olds) j))))))
  ]
    where
      more : (a b l : ℕ) → a + b ≡ l → 1 ≤ b → 1 ≤ l
      more a b l e h = omega arith

      most : (a b d : ℕ) → a ≡ b + d → 1 ≤ b → 1 ≤ a
      most a b d e h = omega arith

      some : (t : Bool) (k : ℕ) → 1 ≤ cond t k 0 → 1 ≤ k
      some true k h = h
      some false k h = absurd (off h)
        where
          off : 1 ≤ 0 → ⊥
          off h = omega arith

  -- the port of a new atom is named by its link
  pub new_link : (e : Port × ℕ) → IsOneOf e news → raw_link news c e.0 ≡ of_rule e.1
  new_link e i = ap (raw_by (c e.0)) (link_found news (new_ports_once r qs N 0 body rule.made h s free.written free.copies free.brings.once) e.0 e.1 i)

  -- the port of an atom that is left is named by its link in the solid
  pub kept_link : (p : Port) → IsInPlace h p.0 → raw_link news c p ≡ of_solid (c p)
  kept_link p i = ap (raw_by (c p)) (link_absent news p (λ j. not_new p.0 (is_atom p.0 i) (new_atom_in p j)))

  pub kept_functor : (a : ℕ) → IsInPlace h a → functor_of s a ≡ functor_of h a
  kept_functor a i = ap (λ (o : Option HeapAtom). option_map (λ x. x.functor) o) (old_atom a (is_atom a i))

  pub new_functor : (e : ℕ × Functor) → IsOneOf e mk → functor_of s e.0 ≡ Some e.1
  new_functor e i = ap (λ (o : Option HeapAtom). option_map (λ x. x.functor) o) (free.written e i)

  pub same_atoms : (k : ℕ) → atoms_in s k ≡ atoms_in h k
  same_atoms k = ap (λ f. heap.atoms_by (f k)) free.mems

  pub same_rules : (k : ℕ) → heap.rules_in s k ≡ heap.rules_in h k
  same_rules k = ap (λ f. heap.rules_by (f k)) free.mems

  -- the port inside a copy is named by its colour
  pub inner_link : (p q : Port) → In p.0 new → partners s p ≡ Some q → raw_link news c p ≡ of_solid (c p)
  inner_link p q i e = ap (raw_by (c p)) (link_absent news p (λ j. let z : ◌≡◌ {A = Option Port} None (Some q) = sym (new_live p j).1 ∙ e in absurd (cc)))

-- The atoms of the solid after a firing, in each membrane.
use Rattle.std.proofs.Common.{ℕ, ◌+◌, ◌≡◌, ◌⊎◌, ◌==◌, Bool, true, false, cond, List, [], ◌∷◌, ◌++◌, map, length, Some, refl, sym, ap, subst, ◌∙◌, inl, inr}
use Rattle.lmn_base.specs.declared.functor.Functor.{Functor}
use Rattle.lmn_base.specs.declared.solid.SolidAtom.{SolidAtom}
use Rattle.lmn_store_heap.specs.Heap.{Heap, functor_of, atoms_in}
use Rattle.lmn_store_heap.specs.Solid.{links_from, solid_atoms_at}
use Rattle.lmn_store_heap.proofs.SolidLemmas.{atoms_append}
use Rattle.lmn_solid_heads.specs.Heads as heads
use Rattle.lmn_congruence_splice.specs.Splice.{IsOneOf, of_rule, of_solid}
use Rattle.lmn_solid_bodies.specs.declared.items.BodyItem.{BodyItem}
use Rattle.lmn_solid_bodies.specs.declared.items.BodyItem.TheVariants.{Atom, Connector, Copy, Bound, Membrane, Rest, Rule, Rules}
use Rattle.lmn_solid_bodies.specs.Items.{new_ports_from, new_ports, AllMade, NoCopies}
use Rattle.lmn_solid_bodies.specs.Running.{Registers, new_port, integer_functor}
use Rattle.lmn_solid_bodies.specs.Added.{if_inside, added_atoms, moved_mems}
use Rattle.lmn_solid_bodies.specs.RestCopies.{RestCopy, RestCopies, later, rest_membranes, copied_atom, copied_into, given}
use Rattle.lmn_solid_bodies.specs.Fired.{images_of}
use Rattle.lmn_solid_bodies.proofs.Held.{held, HoldsRest}
use Rattle.lmn_base.specs.Lists.{In}
use Rattle.lmn_solid_bodies.specs.Made.{made_of}
use Rattle.lmn_solid_bodies.specs.Within.{added_with_copies, added_solid, left_solid, rest_solid}
use Rattle.lmn_solid_bodies.specs.Laws.{FiringLeavesSolid, FiringLeavesAtoms, CopiesInSolid}
use Rattle.lmn_solid_bodies.proofs.SolidCopies.{solid_copy}
use Rattle.lmn_solid_bodies.proofs.Committing.{in_withouts_of}
use Rattle.lmn_solid_bodies.proofs.Finishing.{in_place_listed}
use Rattle.lmn_solid_bodies.proofs.Coding.{at_heap}
use Rattle.lmn_solid_bodies.proofs.BodyPorts.{heap_append, of_heap, copied_new}
use Rattle.lmn_solid_bodies.proofs.SolidAfter.{kept_atoms, numbered_links, one_made}
use Rattle.lmn_base.specs.Graphs.{Port}
use Rattle.lmn_store_heap.specs.Lists.{without_all}
use Rattle.lmn_congruence_splice.proofs.Common.{in_back, in_front}

if_atoms : (h' : Heap) (v : ℕ → ℕ → ℕ) (r : Registers) (x inside : ℕ) (ns : List ℕ) (as' : List SolidAtom) → solid_atoms_at h' v ns ≡ as' → solid_atoms_at h' v (if_inside r x inside ns) ≡ cond (r.head.images.membrane inside == x) as' []
if_atoms h' v r x inside ns as' e = by (r.head.images.membrane inside == x)
  where
    by : (t : Bool) → solid_atoms_at h' v (cond t ns []) ≡ cond t as' []
    by true = e
    by false = refl

one_more : (h' : Heap) (v : ℕ → ℕ → ℕ) (xs ys : List ℕ) (as' bs : List SolidAtom) → solid_atoms_at h' v xs ≡ as' → solid_atoms_at h' v ys ≡ bs → solid_atoms_at h' v (xs ++ ys) ≡ as' ++ bs
one_more h' v xs ys as' bs e f = atoms_append h' v xs ys ∙ (λ t. e t ++ f t)

-- which solid atoms of the copy of a rest go to a membrane
abbrev rest_at : Heap → Registers → (ℕ → ℕ → ℕ) → (ℕ → List ℕ) → ℕ → ℕ → RestCopy → ℕ → List SolidAtom
rest_at h' r v left of inside p x = solid_atoms_at h' v (given (λ k. map (copied_atom r of p) (left k)) (copied_into r of inside p) (rest_membranes r of) x)

added_are : (h' : Heap) (r : Registers) (qs : RestCopies) (v : ℕ → ℕ → ℕ) (g : ℕ → ℕ) (left : ℕ → List ℕ) (solid : ℕ → List SolidAtom) (a c : ℕ) (body : List BodyItem) → ((k : ℕ) → In k (moved_mems r body) → solid_atoms_at h' v (left k) ≡ solid k) → AllMade body
    → ((e : ℕ × Functor) → IsOneOf e (made_of r a body) → functor_of h' e.0 ≡ Some e.1)
    → ((e : Port × ℕ) → IsOneOf e (at_heap (new_port r) (new_ports a c body)) → v e.0.0 e.0.1 ≡ g e.1)
    → (x : ℕ) → solid_atoms_at h' v (added_atoms r qs left a c body x) ≡ added_with_copies r qs solid (λ k. solid_atoms_at h' v (r.copied k)) (rest_at h' r v left) g c body x
added_are h' r qs v g left solid a c [] l m f e x = refl
added_are h' r qs v g left solid a c (Atom functor ls inside ∷ xs) l m f e x =
    let at : (w : Port × ℕ) → IsOneOf w (at_heap (new_port r) (new_ports_from a 0 ls)) ⊎ IsOneOf w (at_heap (new_port r) (new_ports (a + 1) c xs)) → v w.0.0 w.0.1 ≡ g w.1 = λ w i. e w
    (subst (IsOneOf w) (sym (heap_append (new_port r) (new_ports_from a 0 ls) (new_ports (a + 1) c xs)))
    (elim i [
      | inl j ↦ in_front w (at_heap (new_port r) (new_ports_from a 0 ls)) (at_heap (new_port r) (new_ports (a + 1) c xs)) j
      | inr j ↦ in_back w (at_heap (new_port r) (new_ports_from a 0 ls)) (at_heap (new_port r) (new_ports (a + 1) c xs)) j
    ])) in
    let here = one_made v (r.head.images.atom a) functor (h'.atoms (r.head.images.atom a)) (map g ls) (f (r.head.images.atom a, functor) (inl refl))
    (ap (links_from v (r.head.images.atom a) 0) (sym m.0.0) ∙ numbered_links r v g a 0 ls (λ w i. at w (inl i))) in
    one_more h' v (if_inside r x inside (r.head.images.atom a ∷ [])) (added_atoms r qs left (a + 1) c xs x) _ _
    (if_atoms h' v r x inside (r.head.images.atom a ∷ []) ((record { functor = functor; links = map g ls }) ∷ []) (λ t. here t ++ []))
    (added_are h' r qs v g left solid (a + 1) c xs l m.1 (λ w i. f w (inr i)) (λ w i. at w (inr i)) x)
added_are h' r qs v g left solid a c (Bound integer link inside ∷ xs) l m f e x =
    let name = e ((r.head.images.atom a, 0), link) (inl refl) in
    let here = one_made v (r.head.images.atom a) (integer_functor (r.head.integer integer)) (h'.atoms (r.head.images.atom a)) (g link ∷ []) (f (r.head.images.atom a, integer_functor (r.head.integer integer)) (inl refl)) (ap (λ z. z ∷ []) name) in
    one_more h' v (if_inside r x inside (r.head.images.atom a ∷ [])) (added_atoms r qs left (a + 1) c xs x) _ _
    (if_atoms h' v r x inside (r.head.images.atom a ∷ []) ((record { functor = integer_functor (r.head.integer integer); links = g link ∷ [] }) ∷ []) (λ t. here t ++ []))
    (added_are h' r qs v g left solid (a + 1) c xs l m.1 (λ w i. f w (inr i)) (λ w i. e w (inr i)) x)
added_are h' r qs v g left solid a c (Connector p z ∷ xs) l m f e x = added_are h' r qs v g left solid a c xs l m.1 f e x
added_are h' r qs v g left solid a c (Copy part link inside ∷ xs) l m f e x =
    one_more h' v (if_inside r x inside (r.copied c)) (added_atoms r qs left a (c + 1) xs x) _ _
    (if_atoms h' v r x inside (r.copied c) (solid_atoms_at h' v (r.copied c)) refl)
    (added_are h' r qs v g left solid a (c + 1) xs l m.1 f (λ w i. e w (inr i)) x)
added_are h' r qs v g left solid a c (Membrane inside ∷ xs) l m f e x = added_are h' r qs v g left solid a c xs l m.1 f e x
added_are h' r qs v g left solid a c (Rest of false inside ∷ xs) l m f e x =
    one_more h' v (if_inside r x inside (left (r.head.images.membrane of))) (added_atoms r qs left a c xs x) _ _
    (if_atoms h' v r x inside (left (r.head.images.membrane of)) (solid (r.head.images.membrane of)) (l (r.head.images.membrane of) (inl refl)))
    (added_are h' r qs v g left solid a c xs (λ k i. l k (inr i)) m.1 f e x)
added_are h' r qs v g left solid a c (Rest of true inside ∷ xs) l m f e x =
    one_more h' v (given (λ k. map (copied_atom r of (qs 0)) (left k)) (copied_into r of inside (qs 0)) (rest_membranes r of) x) (added_atoms r (later qs) left a c xs x) _ _ refl
    (added_are h' r (later qs) v g left solid a c xs l m.1 f e x)
added_are h' r qs v g left solid a c (Rule rule inside ∷ xs) l m f e x = added_are h' r qs v g left solid a c xs l m.1 f e x
added_are h' r qs v g left solid a c (Rules of inside ∷ xs) l m f e x = added_are h' r qs v g left solid a c xs l m.1 f e x

-- a firing leaves the atoms of the solid
pub firing_leaves_solid : FiringLeavesSolid
firing_leaves_solid head body n nested r h valid m em rests stand c names ps parts h' f x o =
    let taken = images_of r head ++ ps in
    let made = nested.atoms.made in
    let hs = held h valid head body n m r nested em stand rests ps parts c names in
    let v : ℕ → ℕ → ℕ = λ a i. f.number (a, i) in
    let N = length (heads.atoms_of head) in
    let kept : (k : ℕ) → (HoldsRest r head k → ⊥) → solid_atoms_at h' v (without_all taken (atoms_in h k)) ≡ left_solid h c taken (λ z. f.to (of_solid z)) k = λ k q.
    kept_atoms h h' (λ a i. c (a, i)) v (λ z. f.to (of_solid z)) (without_all taken (atoms_in h k)) (λ a i.
    let w = in_withouts_of taken (atoms_in h k) a (valid.sound.listed.atoms_once k) i in
    let p = in_place_listed h k a valid.sound.listed w.0 in
    (f.kept_functors a p w.1 (λ d. q (hs.atom_holds a k d w.0)), λ j. f.kept_links (a, j) p)) in
    ap (solid_atoms_at h' v) (f.atoms x o) ∙ one_more h' v (without_all taken (atoms_in h x)) (added_atoms r f.rests (λ k. without_all taken (atoms_in h k)) N 0 body x) _ _ (kept x (λ q. o (hs.holds_removed x q)))
    (added_are h' r f.rests v (λ z. f.to (of_rule z)) (λ k. without_all taken (atoms_in h k)) (left_solid h c taken (λ z. f.to (of_solid z))) N 0 body (λ k i. kept k (hs.moved_out k i)) made f.made_functors
    (λ e i. let w = of_heap (new_port r) e (new_ports N 0 body) i in
    subst (λ (z : Port × ℕ). v z.0.0 z.0.1 ≡ f.to (of_rule z.1)) w.2 (f.made_links w.0 w.1)) x)

-- without copies
plain_solid : (r : Registers) (qs : RestCopies) (left copy : ℕ → List SolidAtom) (rest : ℕ → ℕ → RestCopy → ℕ → List SolidAtom) (g : ℕ → ℕ) (c : ℕ) (body : List BodyItem) → NoCopies body → (x : ℕ) → added_with_copies r qs left copy rest g c body x ≡ added_solid r left g body x
plain_solid r qs left copy rest g c [] p x = refl
plain_solid r qs left copy rest g c (Atom functor links inside ∷ xs) p x =
    ap (λ zs. cond (r.head.images.membrane inside == x) ((record { functor = functor; links = map g links }) ∷ []) [] ++ zs) (plain_solid r qs left copy rest g c xs p x)
plain_solid r qs left copy rest g c (Bound integer link inside ∷ xs) p x =
    ap (λ zs. cond (r.head.images.membrane inside == x) ((record { functor = integer_functor (r.head.integer integer); links = g link ∷ [] }) ∷ []) [] ++ zs) (plain_solid r qs left copy rest g c xs p x)
plain_solid r qs left copy rest g c (Connector l l' ∷ xs) p x = plain_solid r qs left copy rest g c xs p x
plain_solid r qs left copy rest g c (Copy part link inside ∷ xs) p x = absurd p
plain_solid r qs left copy rest g c (Membrane inside ∷ xs) p x = plain_solid r qs left copy rest g c xs p x
plain_solid r qs left copy rest g c (Rest of true inside ∷ xs) p x = absurd p
plain_solid r qs left copy rest g c (Rest of false inside ∷ xs) p x =
    ap (λ zs. cond (r.head.images.membrane inside == x) (left (r.head.images.membrane of)) [] ++ zs) (plain_solid r qs left copy rest g c xs p x)
plain_solid r qs left copy rest g c (Rule rule inside ∷ xs) p x = plain_solid r qs left copy rest g c xs p x
plain_solid r qs left copy rest g c (Rules of inside ∷ xs) p x = plain_solid r qs left copy rest g c xs p x

-- a firing leaves the atoms of the solid, of a body without copies
pub firing_leaves_atoms : FiringLeavesAtoms
firing_leaves_atoms head body n nested plain r h valid m em rests stand c names ps parts h' f x o =
    let taken = images_of r head ++ ps in
    let left = left_solid h c taken (λ z. f.to (of_solid z)) in
    firing_leaves_solid head body n nested r h valid m em rests stand c names ps parts h' f x o
    ∙ ap (λ zs. left x ++ zs) (plain_solid r f.rests left (λ k. solid_atoms_at h' (λ a i. f.number (a, i)) (r.copied k)) (rest_solid h' f.number r (λ k. without_all taken (atoms_in h k))) (λ z. f.to (of_rule z)) 0 body plain x)

-- the atoms of a copy in the solid are those of its part
pub copies_in_solid : CopiesInSolid
copies_in_solid h valid c names r head body taken h' valid' f e i hangs =
    solid_copy h valid c names h' valid' f.number f.named (r.head.images.part e.1) (r.copy e.0) (r.copied e.0) (f.copies e i)
    (λ y j. f.new_placed y (copied_new r f.rests (length (heads.atoms_of head)) 0 body e y i j)) hangs

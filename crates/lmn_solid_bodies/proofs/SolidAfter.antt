-- The solid after a firing.
use Rattle.std.proofs.Common.{ℕ, zero, suc, ◌+◌, ◌≡◌, ◌≢◌, ◌⊎◌, ◌==◌, Bool, true, false, cond, List, [], ◌∷◌, ◌++◌, map, length, Option, Some, None, refl, sym, ap, subst, ◌∙◌, inl, inr}
use Rattle.std.proofs.lemmas.Bool.{eq-eqb, eqb-true}
use Rattle.std.specs.Option.{option_map}
use Rattle.lmn_base.specs.declared.functor.Functor.{Functor}
use Rattle.lmn_base.specs.declared.solid.Region.TheViews.{roll-Region}
use Rattle.lmn_store_heap.specs.Heap.{Heap, HeapAtom, functor_of, atoms_in, rules_in}
use Rattle.lmn_store_heap.specs.Sound.{Forest, bare, mem, flat}
use Rattle.lmn_store_heap.specs.Solid.{links_from, solid_atom_at, solid_atoms_at, regions_of}
use Rattle.lmn_store_heap.proofs.ListLemmas.{in_left, in_right}
use Rattle.lmn_congruence_splice.specs.Splice.{IsOneOf, of_rule, of_solid}
use Rattle.lmn_solid_bodies.specs.declared.items.BodyItem.{BodyItem}
use Rattle.lmn_solid_bodies.specs.declared.items.BodyItem.TheVariants.{Atom, Connector, Copy, Bound, Membrane, Rest, Rule, Rules}
use Rattle.lmn_solid_heads.specs.declared.items.HeadItem.{HeadItem}
use Rattle.lmn_solid_bodies.specs.Items.{new_ports_from, new_ports, AllMade, Simple}
use Rattle.lmn_solid_bodies.specs.Running.{Registers, new_port, integer_functor}
use Rattle.lmn_solid_bodies.specs.Fired.{linked_by, made_atoms, images_of, fired_regions}
use Rattle.lmn_solid_bodies.proofs.Phases.{placed_in}
use Rattle.lmn_solid_bodies.proofs.Coding.{at_heap}
use Rattle.lmn_solid_bodies.specs.Made.{made_of, places_of}
use Rattle.lmn_solid_bodies.proofs.BodyPorts.{heap_append, numbers}
use Rattle.lmn_base.specs.Graphs.{Port}
use Rattle.lmn_store_heap.specs.Lists.{without_all}
use Rattle.lmn_congruence_splice.proofs.Common.{in_back, in_front}
use Rattle.lmn_base.specs.Lists.{In}
use Rattle.lmn_base.proofs.Lists.{map_append}

-- Atoms that stay

numbered_map : (u v : ℕ → ℕ → ℕ) (g : ℕ → ℕ) (a i n : ℕ) → ((j : ℕ) → v a j ≡ g (u a j)) → links_from v a i n ≡ map g (links_from u a i n)
numbered_map u v g a i zero e = refl
numbered_map u v g a i (suc n) e = let x = e i in let xs = numbered_map u v g a (i + 1) n e in λ t. x t ∷ xs t

same_atom : (u v : ℕ → ℕ → ℕ) (g : ℕ → ℕ) (a : ℕ) (o q : Option HeapAtom) → option_map (λ x. x.functor) q ≡ option_map (λ x. x.functor) o → ((j : ℕ) → v a j ≡ g (u a j))
    → solid_atom_at v a q ≡ map (linked_by g) (solid_atom_at u a o)
same_atom u v g a None None e w = refl
same_atom u v g a None (Some x) e w = absurd (cc)
same_atom u v g a (Some x) None e w = absurd (cc)
same_atom u v g a (Some x) (Some y) e w =
    let f : y.functor ≡ x.functor = (cc) in
    let ls : links_from v a 0 y.functor.arity ≡ map g (links_from u a 0 x.functor.arity) = ap (λ (k : Functor). links_from v a 0 k.arity) f ∙ numbered_map u v g a 0 x.functor.arity w in
    λ t. (record { functor = f t; links = ls t }) ∷ []

-- atoms with the same functors, each link at its image
pub kept_atoms : (h h' : Heap) (u v : ℕ → ℕ → ℕ) (g : ℕ → ℕ) (xs : List ℕ) → ((a : ℕ) → In a xs → (functor_of h' a ≡ functor_of h a) × ((j : ℕ) → v a j ≡ g (u a j)))
    → solid_atoms_at h' v xs ≡ map (linked_by g) (solid_atoms_at h u xs)
kept_atoms h h' u v g [] e = refl
kept_atoms h h' u v g (a ∷ xs) e =
    let w = e a (inl refl) in
    let here = same_atom u v g a (h.atoms a) (h'.atoms a) w.0 w.1 in
    let rest = kept_atoms h h' u v g xs (λ b i. e b (inr i)) in
    (λ t. here t ++ rest t) ∙ sym (map_append (linked_by g) (solid_atom_at u a (h.atoms a)) (solid_atoms_at h u xs))

-- Atoms that are made

-- the links of a new atom in the solid
pub numbered_links : (r : Registers) (v : ℕ → ℕ → ℕ) (g : ℕ → ℕ) (a i : ℕ) (xs : List ℕ)
    → ((e : Port × ℕ) → IsOneOf e (at_heap (new_port r) (new_ports_from a i xs)) → v e.0.0 e.0.1 ≡ g e.1) → links_from v (r.head.images.atom a) i (length xs) ≡ map g xs
numbered_links r v g a i [] e = refl
numbered_links r v g a i (x ∷ xs) e =
    let here = e ((r.head.images.atom a, i), x) (inl refl) in
    let rest = numbered_links r v g a (i + 1) xs (λ f w. e f (inr w)) in
    λ t. here t ∷ rest t

-- an atom with its functor and links is that of the solid
pub one_made : (v : ℕ → ℕ → ℕ) (a : ℕ) (f : Functor) (o : Option HeapAtom) (ls : List ℕ) → option_map (λ x. x.functor) o ≡ Some f → links_from v a 0 f.arity ≡ ls → solid_atom_at v a o ≡ (record { functor = f; links = ls }) ∷ []
one_made v a f None ls e w = absurd (cc)
one_made v a f (Some x) ls e w =
    let q : x.functor ≡ f = (cc) in
    let links : links_from v a 0 x.functor.arity ≡ ls = ap (λ (k : Functor). links_from v a 0 k.arity) q ∙ w in
    λ t. (record { functor = q t; links = links t }) ∷ []

-- the new atoms in the solid are those that the body makes
pub new_atoms_are : (h' : Heap) (r : Registers) (v : ℕ → ℕ → ℕ) (g : ℕ → ℕ) (a c : ℕ) (body : List BodyItem) → AllMade body → Simple body
    → ((e : ℕ × Functor) → IsOneOf e (made_of r a body) → functor_of h' e.0 ≡ Some e.1)
    → ((e : Port × ℕ) → IsOneOf e (at_heap (new_port r) (new_ports a c body)) → v e.0.0 e.0.1 ≡ g e.1)
    → solid_atoms_at h' v (numbers (made_of r a body)) ≡ made_atoms r g body
new_atoms_are h' r v g a c [] m s f e = refl
new_atoms_are h' r v g a c (Atom functor ls inside ∷ xs) m s f e =
    let at : (w : Port × ℕ) → IsOneOf w (at_heap (new_port r) (new_ports_from a 0 ls)) ⊎ IsOneOf w (at_heap (new_port r) (new_ports (a + 1) c xs)) → v w.0.0 w.0.1 ≡ g w.1 = λ w i. e w
    (subst (IsOneOf w) (sym (heap_append (new_port r) (new_ports_from a 0 ls) (new_ports (a + 1) c xs)))
    (elim i [
      | inl j ↦ in_front w (at_heap (new_port r) (new_ports_from a 0 ls)) (at_heap (new_port r) (new_ports (a + 1) c xs)) j
      | inr j ↦ in_back w (at_heap (new_port r) (new_ports_from a 0 ls)) (at_heap (new_port r) (new_ports (a + 1) c xs)) j
    ])) in
    let here = one_made v (r.head.images.atom a) functor (h'.atoms (r.head.images.atom a)) (map g ls) (f (r.head.images.atom a, functor) (inl refl))
    (ap (links_from v (r.head.images.atom a) 0) (sym m.0.0) ∙ numbered_links r v g a 0 ls (λ w i. at w (inl i))) in
    let rest = new_atoms_are h' r v g (a + 1) c xs m.1 s.1 (λ w i. f w (inr i)) (λ w i. at w (inr i)) in
    λ t. here t ++ rest t
new_atoms_are h' r v g a c (Bound integer link inside ∷ xs) m s f e =
    let name = e ((r.head.images.atom a, 0), link) (inl refl) in
    let here = one_made v (r.head.images.atom a) (integer_functor (r.head.integer integer)) (h'.atoms (r.head.images.atom a)) (g link ∷ []) (f (r.head.images.atom a, integer_functor (r.head.integer integer)) (inl refl)) (ap (λ z. z ∷ []) name) in
    let rest = new_atoms_are h' r v g (a + 1) c xs m.1 s.1 (λ w i. f w (inr i)) (λ w i. e w (inr i)) in
    λ t. here t ++ rest t
new_atoms_are h' r v g a c (Connector left right ∷ xs) m s f e = new_atoms_are h' r v g a c xs m.1 s.1 f e
new_atoms_are h' r v g a c (Copy part link inside ∷ xs) m s f e = absurd s.0
new_atoms_are h' r v g a c (Membrane inside ∷ xs) m s f e = absurd s.0
new_atoms_are h' r v g a c (Rest of closed inside ∷ xs) m s f e = absurd s.0
new_atoms_are h' r v g a c (Rule rule inside ∷ xs) m s f e = absurd s.0
new_atoms_are h' r v g a c (Rules of inside ∷ xs) m s f e = absurd s.0

-- all of them go to the membrane of the rule
pub placed_here : (r : Registers) (a c k m : ℕ) (body : List BodyItem) → Simple body → r.head.images.membrane 0 ≡ m → placed_in k (places_of r a c body) ≡ cond (k == m) (numbers (made_of r a body)) []
placed_here r a c k m body s e = by (k == m) refl
  where
    other : (x y : ℕ) → x ≢ y → (x == y) ≡ false
    other x y d = by (x == y) refl
      where
        by : (t : Bool) → (x == y) ≡ t → t ≡ false
        by true e = absurd (d (eqb-true x y e))
        by false e = refl

    same : (a : ℕ) (body : List BodyItem) → Simple body → k ≡ m → placed_in k (places_of r a c body) ≡ numbers (made_of r a body)
    same a [] s q = refl
    same a (Atom functor ls inside ∷ xs) s q = rw (eq-eqb (r.head.images.membrane inside) k (ap r.head.images.membrane s.0 ∙ e ∙ sym q)) (ap (λ ys. r.head.images.atom a ∷ ys) (same (a + 1) xs s.1 q))
    same a (Bound integer link inside ∷ xs) s q = rw (eq-eqb (r.head.images.membrane inside) k (ap r.head.images.membrane s.0 ∙ e ∙ sym q)) (ap (λ ys. r.head.images.atom a ∷ ys) (same (a + 1) xs s.1 q))
    same a (Connector left right ∷ xs) s q = same a xs s.1 q
    same a (Copy part link inside ∷ xs) s q = absurd s.0
    same a (Membrane inside ∷ xs) s q = absurd s.0
    same a (Rest of closed inside ∷ xs) s q = absurd s.0
    same a (Rule rule inside ∷ xs) s q = absurd s.0
    same a (Rules of inside ∷ xs) s q = absurd s.0

    none : (a : ℕ) (body : List BodyItem) → Simple body → k ≢ m → placed_in k (places_of r a c body) ≡ []
    none a [] s d = refl
    none a (Atom functor ls inside ∷ xs) s d = rw (other (r.head.images.membrane inside) k (λ q. d (sym q ∙ ap r.head.images.membrane s.0 ∙ e))) (none (a + 1) xs s.1 d)
    none a (Bound integer link inside ∷ xs) s d = rw (other (r.head.images.membrane inside) k (λ q. d (sym q ∙ ap r.head.images.membrane s.0 ∙ e))) (none (a + 1) xs s.1 d)
    none a (Connector left right ∷ xs) s d = none a xs s.1 d
    none a (Copy part link inside ∷ xs) s d = absurd s.0
    none a (Membrane inside ∷ xs) s d = absurd s.0
    none a (Rest of closed inside ∷ xs) s d = absurd s.0
    none a (Rule rule inside ∷ xs) s d = absurd s.0
    none a (Rules of inside ∷ xs) s d = absurd s.0

    by : (t : Bool) → (k == m) ≡ t → placed_in k (places_of r a c body) ≡ cond t (numbers (made_of r a body)) []
    by true q = same a body s (eqb-true k m q)
    by false q = none a body s (λ w. let z : true ≡ false = sym (eq-eqb k m w) ∙ q in absurd (cc))

-- the regions of a forest, from the atoms and rules of each membrane
pub fired_are : (h h' : Heap) (c : Port → ℕ) (r : Registers) (head : List HeadItem) (body : List BodyItem) (m : ℕ) (to : ℕ → ℕ) (v : ℕ → ℕ → ℕ) (f : Forest)
    → ((k : ℕ) → In k (flat f) → (solid_atoms_at h' v (atoms_in h' k) ≡ map (linked_by (λ x. to (of_solid x))) (solid_atoms_at h (λ a i. c (a, i)) (without_all (images_of r head) (atoms_in h k)))
    ++ cond (k == m) (made_atoms r (λ x. to (of_rule x)) body) []) × (rules_in h' k ≡ rules_in h k))
    → regions_of h' v f ≡ fired_regions h c r head body m to f
fired_are h h' c r head body m to v bare e = refl
fired_are h h' c r head body m to v (mem k i b) e =
    let here = e k (inl refl) in
    let inner = fired_are h h' c r head body m to v i (λ q w. e q (inr (in_left q (flat i) (flat b) w))) in
    let rest = fired_are h h' c r head body m to v b (λ q w. e q (inr (in_right q (flat i) (flat b) w))) in
    λ z. roll-Region (record { atoms = here.0 z; membranes = inner z; rules = here.1 z }) ∷ rest z

-- The making part of the code of a body grows lists by what the body adds.
use Rattle.std.proofs.Common.{ℕ, false, true, ◌+◌, ◌≡◌, List, [], ◌∷◌, ◌++◌, map, length, Some, IsSome, refl, sym, ap, subst, ◌∙◌, inl, inr, arith}
use Rattle.std.proofs.lemmas.List.{append_assoc}
use Rattle.lmn_store_heap.specs.Heap.{Heap, Distinct, within, mem_place_of, atoms_in, mems_in, rules_in}
use Rattle.lmn_store_heap.proofs.ListLemmas.{in_left, in_right, apart, distinct_left, distinct_right}
use Rattle.lmn_store_heap.proofs.Depths.{both_distinct}
use Rattle.lmn_congruence_splice.specs.Splice.{IsOneOf}
use Rattle.lmn_ground_parts.specs.Rests.{CopyWaits, rest_placed}
use Rattle.lmn_solid_bodies.specs.declared.items.BodyItem.{BodyItem}
use Rattle.lmn_solid_bodies.specs.declared.items.BodyItem.TheVariants.{Atom, Connector, Copy, Bound, Membrane, Rest, Rule, Rules}
use Rattle.lmn_solid_bodies.specs.Code.{making}
use Rattle.lmn_solid_bodies.specs.Running.{Registers, DoesAll, IsRestPlaced}
use Rattle.lmn_solid_bodies.specs.Rules.{Goes, Nests, closed_rests}
use Rattle.lmn_solid_bodies.specs.Added.{if_inside, added_atoms, added_mems, added_rules, named_rules, moved_mems, made_mems, source_mems}
use Rattle.lmn_solid_bodies.specs.RestCopies.{RestCopy, RestCopies, later, rest_membranes, copied_atom, copied_membrane, copied_into, given, AreAsLong}
use Rattle.lmn_solid_bodies.specs.Made.{new_atoms}
use Rattle.lmn_store_heap.proofs.ListOps.{there_by}
use Rattle.lmn_solid_bodies.proofs.Growing.{Grown, grown_none, grown_after, grown_placed, grown_all_placed, grown_placed_mem, grown_moved, grown_rules, only_at, some_there}
use Rattle.lmn_solid_bodies.proofs.RestGrowing.{Places, given_same, grown_rest}
use Rattle.lmn_solid_bodies.proofs.Removing.{place_parent}
use Rattle.lmn_base.specs.Lists.{In}
use Rattle.lmn_base.proofs.Lists.{in_either, head_is, tail_is}

-- each membrane whose content moves is one that the head removes
pub moved_within : (r : Registers) (ks : List ℕ) (E : ℕ → Type 0) (body : List BodyItem) → Goes r ks E body → (x : ℕ) → In x (moved_mems r body) → In x ks
moved_within r ks E [] g x i = absurd i
moved_within r ks E (Atom functor links inside ∷ xs) g x i = moved_within r ks E xs g.1 x i
moved_within r ks E (Connector left right ∷ xs) g x i = moved_within r ks E xs g x i
moved_within r ks E (Copy part link inside ∷ xs) g x i = moved_within r ks E xs g.1 x i
moved_within r ks E (Bound integer link inside ∷ xs) g x i = moved_within r ks E xs g.1 x i
moved_within r ks E (Membrane inside ∷ xs) g x i = moved_within r ks E xs g.1 x i
moved_within r ks E (Rest of false inside ∷ xs) g x (inl e) = subst (λ z. In z ks) e g.0
moved_within r ks E (Rest of false inside ∷ xs) g x (inr i) = moved_within r ks E xs g.4 x i
moved_within r ks E (Rest of true inside ∷ xs) g x i = moved_within r ks E xs g.2 x i
moved_within r ks E (Rule rule inside ∷ xs) g x i = moved_within r ks E xs g.1 x i
moved_within r ks E (Rules of inside ∷ xs) g x i = moved_within r ks E xs g.2 x i

-- so does each from which it takes or copies
pub source_within : (r : Registers) (ks : List ℕ) (E : ℕ → Type 0) (body : List BodyItem) → Goes r ks E body → (x : ℕ) → In x (source_mems r body) → In x ks
source_within r ks E [] g x i = absurd i
source_within r ks E (Atom functor links inside ∷ xs) g x i = source_within r ks E xs g.1 x i
source_within r ks E (Connector left right ∷ xs) g x i = source_within r ks E xs g x i
source_within r ks E (Copy part link inside ∷ xs) g x i = source_within r ks E xs g.1 x i
source_within r ks E (Bound integer link inside ∷ xs) g x i = source_within r ks E xs g.1 x i
source_within r ks E (Membrane inside ∷ xs) g x i = source_within r ks E xs g.1 x i
source_within r ks E (Rest of false inside ∷ xs) g x (inl e) = subst (λ z. In z ks) e g.0
source_within r ks E (Rest of false inside ∷ xs) g x (inr i) = source_within r ks E xs g.4 x i
source_within r ks E (Rest of true inside ∷ xs) g x i = elim (in_either x (rest_membranes r of) (source_mems r xs) i) [ inl j ↦ (g.0 x j).0 | inr j ↦ source_within r ks E xs g.2 x j ]
source_within r ks E (Rule rule inside ∷ xs) g x i = source_within r ks E xs g.1 x i
source_within r ks E (Rules of inside ∷ xs) g x i = source_within r ks E xs g.2 x i

-- a membrane whose content moves is one from which the body takes
pub moved_source : (r : Registers) (body : List BodyItem) (x : ℕ) → In x (moved_mems r body) → In x (source_mems r body)
moved_source r [] x i = absurd i
moved_source r (Atom functor links inside ∷ xs) x i = moved_source r xs x i
moved_source r (Connector left right ∷ xs) x i = moved_source r xs x i
moved_source r (Copy part link inside ∷ xs) x i = moved_source r xs x i
moved_source r (Bound integer link inside ∷ xs) x i = moved_source r xs x i
moved_source r (Membrane inside ∷ xs) x i = moved_source r xs x i
moved_source r (Rest of false inside ∷ xs) x (inl e) = inl e
moved_source r (Rest of false inside ∷ xs) x (inr i) = inr (moved_source r xs x i)
moved_source r (Rest of true inside ∷ xs) x i = in_right x (rest_membranes r of) (source_mems r xs) (moved_source r xs x i)
moved_source r (Rule rule inside ∷ xs) x i = moved_source r xs x i
moved_source r (Rules of inside ∷ xs) x i = moved_source r xs x i

-- What is added depends on what is left of the membranes that move, or are copied.
pub same_atoms_added : (r : Registers) (qs : RestCopies) (f g : ℕ → List ℕ) (a c : ℕ) (body : List BodyItem) (x : ℕ) → ((k : ℕ) → In k (source_mems r body) → g k ≡ f k) → added_atoms r qs g a c body x ≡ added_atoms r qs f a c body x
same_atoms_added r qs f g a c [] x e = refl
same_atoms_added r qs f g a c (Atom functor links inside ∷ xs) x e = ap (λ zs. if_inside r x inside (r.head.images.atom a ∷ []) ++ zs) (same_atoms_added r qs f g (a + 1) c xs x e)
same_atoms_added r qs f g a c (Connector left right ∷ xs) x e = same_atoms_added r qs f g a c xs x e
same_atoms_added r qs f g a c (Copy part link inside ∷ xs) x e = ap (λ zs. if_inside r x inside (r.copied c) ++ zs) (same_atoms_added r qs f g a (c + 1) xs x e)
same_atoms_added r qs f g a c (Bound integer link inside ∷ xs) x e = ap (λ zs. if_inside r x inside (r.head.images.atom a ∷ []) ++ zs) (same_atoms_added r qs f g (a + 1) c xs x e)
same_atoms_added r qs f g a c (Membrane inside ∷ xs) x e = same_atoms_added r qs f g a c xs x e
same_atoms_added r qs f g a c (Rest of false inside ∷ xs) x e =
    let here = e (r.head.images.membrane of) (inl refl) in
    let rest = same_atoms_added r qs f g a c xs x (λ k i. e k (inr i)) in
    λ t. if_inside r x inside (here t) ++ rest t
same_atoms_added r qs f g a c (Rest of true inside ∷ xs) x e =
    let p = qs 0 in
    let here = given_same (λ k. map (copied_atom r of p) (f k)) (λ k. map (copied_atom r of p) (g k)) (copied_into r of inside p) (rest_membranes r of) x (λ k i. ap (map (copied_atom r of p)) (e k (in_left k (rest_membranes r of) (source_mems r xs) i))) in
    let rest = same_atoms_added r (later qs) f g a c xs x (λ k i. e k (in_right k (rest_membranes r of) (source_mems r xs) i)) in
    λ t. here t ++ rest t
same_atoms_added r qs f g a c (Rule rule inside ∷ xs) x e = same_atoms_added r qs f g a c xs x e
same_atoms_added r qs f g a c (Rules of inside ∷ xs) x e = same_atoms_added r qs f g a c xs x e

-- a body adds the same membranes by two maps that agree on those that move
pub same_mems_added : (r : Registers) (qs : RestCopies) (f g : ℕ → List ℕ) (m : ℕ) (body : List BodyItem) (x : ℕ) → ((k : ℕ) → In k (source_mems r body) → g k ≡ f k) → added_mems r qs g m body x ≡ added_mems r qs f m body x
same_mems_added r qs f g m [] x e = refl
same_mems_added r qs f g m (Atom functor links inside ∷ xs) x e = same_mems_added r qs f g m xs x e
same_mems_added r qs f g m (Connector left right ∷ xs) x e = same_mems_added r qs f g m xs x e
same_mems_added r qs f g m (Copy part link inside ∷ xs) x e = same_mems_added r qs f g m xs x e
same_mems_added r qs f g m (Bound integer link inside ∷ xs) x e = same_mems_added r qs f g m xs x e
same_mems_added r qs f g m (Membrane inside ∷ xs) x e = ap (λ zs. if_inside r x inside (r.head.images.membrane m ∷ []) ++ zs) (same_mems_added r qs f g (m + 1) xs x e)
same_mems_added r qs f g m (Rest of false inside ∷ xs) x e =
    let here = e (r.head.images.membrane of) (inl refl) in
    let rest = same_mems_added r qs f g m xs x (λ k i. e k (inr i)) in
    λ t. if_inside r x inside (here t) ++ rest t
same_mems_added r qs f g m (Rest of true inside ∷ xs) x e =
    let p = qs 0 in
    let here = given_same (λ k. map (copied_membrane r of p) (f k)) (λ k. map (copied_membrane r of p) (g k)) (copied_into r of inside p) (rest_membranes r of) x (λ k i. ap (map (copied_membrane r of p)) (e k (in_left k (rest_membranes r of) (source_mems r xs) i))) in
    let rest = same_mems_added r (later qs) f g m xs x (λ k i. e k (in_right k (rest_membranes r of) (source_mems r xs) i)) in
    λ t. here t ++ rest t
same_mems_added r qs f g m (Rule rule inside ∷ xs) x e = same_mems_added r qs f g m xs x e
same_mems_added r qs f g m (Rules of inside ∷ xs) x e = same_mems_added r qs f g m xs x e

-- a body names the same rules by two maps that agree on the membranes from which it takes them
pub same_rules_named : (r : Registers) (ks : List ℕ) (E : ℕ → Type 0) (f g : ℕ → List ℕ) (body : List BodyItem) (x : ℕ) → Goes r ks E body → ((k : ℕ) → In k ks → g k ≡ f k) → named_rules r g body x ≡ named_rules r f body x
same_rules_named r ks E f g [] x w e = refl
same_rules_named r ks E f g (Atom functor links inside ∷ xs) x w e = same_rules_named r ks E f g xs x w.1 e
same_rules_named r ks E f g (Connector left right ∷ xs) x w e = same_rules_named r ks E f g xs x w e
same_rules_named r ks E f g (Copy part link inside ∷ xs) x w e = same_rules_named r ks E f g xs x w.1 e
same_rules_named r ks E f g (Bound integer link inside ∷ xs) x w e = same_rules_named r ks E f g xs x w.1 e
same_rules_named r ks E f g (Membrane inside ∷ xs) x w e = same_rules_named r ks E f g xs x w.1 e
same_rules_named r ks E f g (Rest of false inside ∷ xs) x w e = same_rules_named r ks E f g xs x w.4 e
same_rules_named r ks E f g (Rest of true inside ∷ xs) x w e = same_rules_named r ks E f g xs x w.2 e
same_rules_named r ks E f g (Rule rule inside ∷ xs) x w e = ap (λ zs. if_inside r x inside (rule ∷ []) ++ zs) (same_rules_named r ks E f g xs x w.1 e)
same_rules_named r ks E f g (Rules of inside ∷ xs) x w e =
    let here = e (r.head.images.membrane of) w.0 in
    let rest = same_rules_named r ks E f g xs x w.2 e in
    λ t. if_inside r x inside (here t) ++ rest t

-- a body adds the same rules by two maps that agree on the membranes from which it takes them
pub same_rules_added : (r : Registers) (qs : RestCopies) (ks : List ℕ) (E : ℕ → Type 0) (f g : ℕ → List ℕ) (body : List BodyItem) (x : ℕ) → Goes r ks E body → ((k : ℕ) → In k ks → g k ≡ f k) → added_rules r qs g body x ≡ added_rules r qs f body x
same_rules_added r qs ks E f g [] x w e = refl
same_rules_added r qs ks E f g (Atom functor links inside ∷ xs) x w e = same_rules_added r qs ks E f g xs x w.1 e
same_rules_added r qs ks E f g (Connector left right ∷ xs) x w e = same_rules_added r qs ks E f g xs x w e
same_rules_added r qs ks E f g (Copy part link inside ∷ xs) x w e = same_rules_added r qs ks E f g xs x w.1 e
same_rules_added r qs ks E f g (Bound integer link inside ∷ xs) x w e = same_rules_added r qs ks E f g xs x w.1 e
same_rules_added r qs ks E f g (Membrane inside ∷ xs) x w e = same_rules_added r qs ks E f g xs x w.1 e
same_rules_added r qs ks E f g (Rest of false inside ∷ xs) x w e = same_rules_added r qs ks E f g xs x w.4 e
same_rules_added r qs ks E f g (Rest of true inside ∷ xs) x w e =
    let p = qs 0 in
    let here = given_same f g (copied_into r of inside p) (r.left_membranes of) x (λ k i. e k (w.0 k (inr i)).0) in
    let rest = same_rules_added r (later qs) ks E f g xs x w.2 e in
    λ t. here t ++ rest t
same_rules_added r qs ks E f g (Rule rule inside ∷ xs) x w e = ap (λ zs. if_inside r x inside (rule ∷ []) ++ zs) (same_rules_added r qs ks E f g xs x w.1 e)
same_rules_added r qs ks E f g (Rules of inside ∷ xs) x w e =
    let here = e (r.head.images.membrane of) w.0 in
    let rest = same_rules_added r qs ks E f g xs x w.2 e in
    λ t. if_inside r x inside (here t) ++ rest t

-- the same growth, said otherwise
grown_as : (ks : List ℕ) (s t : Heap) (mv na nm : List ℕ) (A M R A' M' R' : ℕ → List ℕ) → Grown ks s t mv na nm A M R → ((x : ℕ) → A' x ≡ A x) → ((x : ℕ) → M' x ≡ M x) → ((x : ℕ) → R' x ≡ R x)
    → Grown ks s t mv na nm A' M' R'
grown_as ks s t mv na nm A M R A' M' R' g a m r = record {
  same = g.same;
  head_atoms = g.head_atoms;
  head_mems = g.head_mems;
  head_rules = g.head_rules;
  empty = g.empty;
  there = g.there;
  gone_before = g.gone_before;
  places = g.places;
  line = g.line;
  mem_line = g.mem_line;
  atoms = λ x o. g.atoms x o ∙ ap (λ zs. atoms_in s x ++ zs) (sym (a x));
  mems = λ x o. g.mems x o ∙ ap (λ zs. mems_in s x ++ zs) (sym (m x));
  rules = λ x o. g.rules x o ∙ ap (λ zs. rules_in s x ++ zs) (sym (r x));
}

-- the heap has grown by what a body makes
abbrev pub GrownBy : Registers → RestCopies → List ℕ → ℕ → ℕ → ℕ → List BodyItem → Heap → Heap → Type 0
GrownBy r qs ks a m c body s t =
    Grown ks s t (moved_mems r body) (new_atoms r qs a c body) (made_mems r qs m body) (added_atoms r qs (atoms_in s) a c body) (added_mems r qs (mems_in s) m body) (added_rules r qs (rules_in s) body)

-- one call, and then the rest
step : (r : Registers) (qs : RestCopies) (ks : List ℕ) (E : ℕ → Type 0) (s t u : Heap) (a m c : ℕ) (xs : List BodyItem) (mv na nm : List ℕ) (A M R : ℕ → List ℕ) → Goes r ks E xs
    → ((x : ℕ) → In x mv → In x ks) → ((x : ℕ) → In x mv → In x (source_mems r xs) → ⊥) → Grown ks s t mv na nm A M R → GrownBy r qs ks a m c xs t u
    → Grown ks s u (mv ++ moved_mems r xs) (na ++ new_atoms r qs a c xs) (nm ++ made_mems r qs m xs) (λ x. A x ++ added_atoms r qs (atoms_in s) a c xs x) (λ x. M x ++ added_mems r qs (mems_in s) m xs x) (λ x. R x ++ added_rules r qs (rules_in s) xs x)
step r qs ks E s t u a m c xs mv na nm A M R w sub apart g h =
    let still : (k : ℕ) → In k (source_mems r xs) → In k mv → ⊥ = λ k i j. apart k j i in
    grown_as ks s u (mv ++ moved_mems r xs) (na ++ new_atoms r qs a c xs) (nm ++ made_mems r qs m xs)
    (λ x. A x ++ added_atoms r qs (atoms_in t) a c xs x) (λ x. M x ++ added_mems r qs (mems_in t) m xs x) (λ x. R x ++ added_rules r qs (rules_in t) xs x)
    (λ x. A x ++ added_atoms r qs (atoms_in s) a c xs x) (λ x. M x ++ added_mems r qs (mems_in s) m xs x) (λ x. R x ++ added_rules r qs (rules_in s) xs x)
    (grown_after ks s t u mv (moved_mems r xs) na (new_atoms r qs a c xs) nm (made_mems r qs m xs) A M R
    (added_atoms r qs (atoms_in t) a c xs) (added_mems r qs (mems_in t) m xs) (added_rules r qs (rules_in t) xs) sub (λ x i j. apart x i (moved_source r xs x j)) g h)
    (λ x. ap (λ zs. A x ++ zs) (sym (same_atoms_added r qs (atoms_in s) (atoms_in t) a c xs x (λ k i. g.head_atoms k (source_within r ks E xs w k i) (still k i)))))
    (λ x. ap (λ zs. M x ++ zs) (sym (same_mems_added r qs (mems_in s) (mems_in t) m xs x (λ k i. g.head_mems k (source_within r ks E xs w k i) (still k i)))))
    (λ x. ap (λ zs. R x ++ zs) (sym (same_rules_added r qs ks E (rules_in s) (rules_in t) xs x w g.head_rules)))

there_on : (E : ℕ → Type 0) (s t : Heap) → ((x : ℕ) → there_by (t.mems x) ≡ there_by (s.mems x)) → ((x : ℕ) → E x → IsSome (s.mems x)) → (x : ℕ) → E x → IsSome (t.mems x)
there_on E s t e h x i = some_there (s.mems x) (t.mems x) (e x) (h x i)

-- the membranes of a copied rest are among those from which a body takes or copies
pub closed_source : (r : Registers) (body : List BodyItem) (of p : ℕ) → IsOneOf of (closed_rests body) → In p (rest_membranes r of) → In p (source_mems r body)
closed_source r [] of p i j = absurd i
closed_source r (Atom functor links inside ∷ xs) of p i j = closed_source r xs of p i j
closed_source r (Connector left right ∷ xs) of p i j = closed_source r xs of p i j
closed_source r (Copy part link inside ∷ xs) of p i j = closed_source r xs of p i j
closed_source r (Bound integer link inside ∷ xs) of p i j = closed_source r xs of p i j
closed_source r (Membrane inside ∷ xs) of p i j = closed_source r xs of p i j
closed_source r (Rest of' false inside ∷ xs) of p i j = inr (closed_source r xs of p i j)
closed_source r (Rest of' true inside ∷ xs) of p (inl e) j = in_left p (rest_membranes r of') (source_mems r xs) (subst (λ z. In p (rest_membranes r z)) (sym e) j)
closed_source r (Rest of' true inside ∷ xs) of p (inr i) j = in_right p (rest_membranes r of') (source_mems r xs) (closed_source r xs of p i j)
closed_source r (Rule rule inside ∷ xs) of p i j = closed_source r xs of p i j
closed_source r (Rules of' inside ∷ xs) of p i j = closed_source r xs of p i j

-- A heap at some place in the making part: what is made so far is done, the rest of what the code makes waits, first in the lines.
--   inside        what stands in a rest that is still to be copied doesn't change, and stands where its list says
pub record Made (r : Registers) (qs : RestCopies) (ks : List ℕ) (E : ℕ → Type 0) (home : ℕ) (done : List ℕ) (a m c : ℕ) (body : List BodyItem) (s : Heap) : Type 0 where
  pub there : (x : ℕ) → E x → IsSome (s.mems x)
  pub goes : Goes r ks E body
  pub nests : Nests r home done m body
  pub long : AreAsLong r qs body
  pub line : (rest : List ℕ) × (s.new_atoms ≡ new_atoms r qs a c body ++ rest)
  pub mem_line : (rest : List ℕ) × (s.new_mems ≡ made_mems r qs m body ++ rest)
  pub made : (y : ℕ) → In y (made_mems r qs m body) → (In y ks → ⊥) × E y
  pub once : Distinct (done ++ made_mems r qs m body)
  pub home_apart : In home (made_mems r qs m body) → ⊥
  pub inside : (of : ℕ) → IsOneOf of (closed_rests body) → (p k : ℕ) → In p (rest_membranes r of) → In k (mems_in s p) → In k ks × (mem_place_of s k ≡ Some (within p))
  pub atoms_once : (of : ℕ) → IsOneOf of (closed_rests body) → Distinct (r.left_atoms of)

-- one call, and the rest is still to be made
pub made_on : (r : Registers) (qs : RestCopies) (ks : List ℕ) (E : ℕ → Type 0) (home : ℕ) (done : List ℕ) (a m c : ℕ) (xs : List BodyItem) (s t : Heap) (mv na nm : List ℕ) (A M R : ℕ → List ℕ) → Grown ks s t mv na nm A M R
    → ((x : ℕ) → In x mv → In x (source_mems r xs) → ⊥) → ((x : ℕ) → E x → IsSome (s.mems x)) → Goes r ks E xs → Nests r home done m xs → AreAsLong r qs xs
    → (rest : List ℕ) × (s.new_atoms ≡ (na ++ new_atoms r qs a c xs) ++ rest) → (rest : List ℕ) × (s.new_mems ≡ (nm ++ made_mems r qs m xs) ++ rest)
    → ((y : ℕ) → In y (made_mems r qs m xs) → (In y ks → ⊥) × E y) → Distinct (done ++ made_mems r qs m xs) → (In home (made_mems r qs m xs) → ⊥)
    → ((of : ℕ) → IsOneOf of (closed_rests xs) → (p k : ℕ) → In p (rest_membranes r of) → In k (mems_in s p) → In k ks × (mem_place_of s k ≡ Some (within p)))
    → ((of : ℕ) → IsOneOf of (closed_rests xs) → Distinct (r.left_atoms of)) → Made r qs ks E home done a m c xs t
made_on r qs ks E home done a m c xs s t mv na nm A M R g apart there goes nests long line mem_line made once home_apart inside atoms_once = record {
  there = there_on E s t g.there there;
  goes = goes;
  nests = nests;
  long = long;
  line = (line.0, g.line (new_atoms r qs a c xs ++ line.0) (line.1 ∙ append_assoc na (new_atoms r qs a c xs) line.0));
  mem_line = (mem_line.0, g.mem_line (made_mems r qs m xs ++ mem_line.0) (mem_line.1 ∙ append_assoc nm (made_mems r qs m xs) mem_line.0));
  made = made;
  once = once;
  home_apart = home_apart;
  inside = λ of i p k j l.
      let src = closed_source r xs of p i j in
      let not_moved : In p mv → ⊥ = λ z. apart p z src in
      let w = inside of i p k j (subst (In k) (g.head_mems p (source_within r ks E xs goes p src) not_moved) l) in (
        w.0,
        g.places k w.0 (λ p' z e. not_moved (subst (λ y. In y mv) (one_place p' p (sym e ∙ w.1)) z)) ∙ w.1,
      );
  atoms_once = atoms_once;
}
  where
    one_place : (x y : ℕ) → Some (within x) ≡ Some (within y) → x ≡ y
    one_place x y e = (cc)

-- a front of a list is told by its length
pub same_front : (xs ys us vs : List ℕ) → xs ++ us ≡ ys ++ vs → length xs ≡ length ys → xs ≡ ys
same_front [] [] us vs e l = refl
same_front [] (y ∷ ys) us vs e l = absurd (omega (arith, l))
same_front (x ∷ xs) [] us vs e l = absurd (omega (arith, l))
same_front (x ∷ xs) (y ∷ ys) us vs e l =
    let h : x ≡ y = head_is e in
    let rest = same_front xs ys us vs (tail_is e) (omega (arith, l)) in
    λ t. h t ∷ rest t

-- A COPYCELLS places the copy that waits first.
pub record RestMade (r : Registers) (qs : RestCopies) (ks : List ℕ) (of inside : ℕ) (s t : Heap) : Type 0 where
  pub waits : CopyWaits s (r.head.images.membrane of) (r.head.images.membrane inside) (r.left_atoms of) (r.left_membranes of) (qs 0).atoms (qs 0).membranes
  pub places : Places ks s (r.head.images.membrane of) (r.head.images.membrane inside) (r.left_atoms of) (r.left_membranes of) (qs 0).membranes
  pub is : t ≡ rest_placed s (r.head.images.membrane of) (r.head.images.membrane inside) (r.left_atoms of) (r.left_membranes of) (qs 0).atoms (qs 0).membranes

module _ (r : Registers) (qs : RestCopies) (ks : List ℕ) (E : ℕ → Type 0) (home : ℕ) (done : List ℕ) (a m c of inside : ℕ) (xs : List BodyItem) (s t : Heap) (mk : Made r qs ks E home done a m c (Rest of true inside ∷ xs) s) where
  abbrev p : RestCopy
  p = qs 0

  abbrev later_mems : List ℕ
  later_mems = made_mems r (later qs) m xs

  pub rest_made : IsRestPlaced r of inside s t → RestMade r qs ks of inside s t
  rest_made run =
      let w = mk.goes in
      let y = r.head.images.membrane inside in
      let k = r.head.images.membrane of in
      let ats = r.left_atoms of in
      let ms = r.left_membranes of in
      let waits = run.2 in
      let same_atoms : run.0 ≡ p.atoms = same_front run.0 p.atoms waits.line.0 (new_atoms r (later qs) a c xs ++ mk.line.0) (sym waits.line.1 ∙ mk.line.1 ∙ append_assoc p.atoms (new_atoms r (later qs) a c xs) mk.line.0) (waits.long ∙ sym mk.long.0.0) in
      let same_mems : run.1 ≡ p.membranes = same_front run.1 p.membranes waits.line_of_membranes.0 (later_mems ++ mk.mem_line.0) (sym waits.line_of_membranes.1 ∙ mk.mem_line.1 ∙ append_assoc p.membranes later_mems mk.mem_line.0) (waits.long_membranes ∙ sym mk.long.0.1) in
      record {
        waits = subst (λ zs. CopyWaits s k y ats ms zs p.membranes) same_atoms (subst (λ zs. CopyWaits s k y ats ms run.0 zs) same_mems waits);
        places = rest_places;
        is = run.3 ∙ (λ v. rest_placed s k y ats ms (same_atoms v) (same_mems v));
      }
    where
      from_done : Distinct (p.membranes ++ later_mems)
      from_done = distinct_right done (p.membranes ++ later_mems) mk.once

      rest_places : Places ks s (r.head.images.membrane of) (r.head.images.membrane inside) (r.left_atoms of) (r.left_membranes of) (qs 0).membranes
      rest_places = record {
        kept = λ z i. (mk.goes.0 z i).0;
        homes = λ q z i j. place_parent s z q (mk.inside of (inl refl) q z i j).1;
        target = (mk.goes.1.0, mk.there (r.head.images.membrane inside) mk.goes.1.1);
        made = λ z i. let v = mk.made z (in_left z p.membranes later_mems i) in (v.0, mk.there z v.1);
        atoms_once = mk.atoms_once of (inl refl);
        new_once = distinct_left p.membranes later_mems from_done;
        apart = λ i. elim mk.nests.0 [
          | inl e ↦ mk.home_apart (in_left home p.membranes later_mems (subst (λ z. In z p.membranes) e i))
          | inr j ↦ apart done (p.membranes ++ later_mems) (r.head.images.membrane inside) (r.head.images.membrane inside) mk.once j (in_left (r.head.images.membrane inside) p.membranes later_mems i) refl
        ];
      }

  pub rest_on : (A M R : ℕ → List ℕ) → Grown ks s t [] p.atoms p.membranes A M R → Made r (later qs) ks E home done a m c xs t
  rest_on A M R g = made_on r (later qs) ks E home done a m c xs s t [] p.atoms p.membranes A M R g (λ x i j. i) mk.there mk.goes.2 mk.nests.1 mk.long.1 mk.line mk.mem_line (λ z i. mk.made z (in_right z p.membranes later_mems i))
      (without_middle done p.membranes later_mems mk.once) (λ i. mk.home_apart (in_right home p.membranes later_mems i)) (λ o i. mk.inside o (inr i)) (λ o i. mk.atoms_once o (inr i))
    where
      without_middle : (xs ys zs : List ℕ) → Distinct (xs ++ (ys ++ zs)) → Distinct (xs ++ zs)
      without_middle xs ys zs d = both_distinct xs zs (distinct_left xs (ys ++ zs) d) (distinct_right ys zs (distinct_right xs (ys ++ zs) d)) (λ x i j. apart xs (ys ++ zs) x x d i (in_right x ys zs j) refl)

-- the heap grows by what a body makes when the making part of its code runs
pub making_grows : (r : Registers) (qs : RestCopies) (ks : List ℕ) (E : ℕ → Type 0) (home : ℕ) (done : List ℕ) (a m c : ℕ) (body : List BodyItem) (s t : Heap) → Made r qs ks E home done a m c body s
    → DoesAll r (making a m c body) s t → GrownBy r qs ks a m c body s t
making_grows r qs ks E home done a m c [] s t mk run = subst (λ z. Grown ks s z [] [] [] (λ x. []) (λ x. []) (λ x. [])) (sym run) (grown_none ks s)
making_grows r qs ks E home done a m c (Atom functor links inside ∷ xs) s t mk run =
    let w = mk.goes in
    let y = r.head.images.membrane inside in
    let g = subst (λ z. Grown ks s z [] (r.head.images.atom a ∷ []) [] (only_at y (r.head.images.atom a ∷ [])) (λ x. []) (λ x. [])) (sym run.1.1) (grown_placed ks s y (r.head.images.atom a) w.0.0 (mk.there y w.0.1)) in
    step r qs ks E s run.0 t (a + 1) m c xs [] (r.head.images.atom a ∷ []) [] (only_at y (r.head.images.atom a ∷ [])) (λ x. []) (λ x. []) w.1 (λ x i. absurd i) (λ x i j. i) g
    (making_grows r qs ks E home done (a + 1) m c xs run.0 t
    (made_on r qs ks E home done (a + 1) m c xs s run.0 [] (r.head.images.atom a ∷ []) [] (only_at y (r.head.images.atom a ∷ [])) (λ x. []) (λ x. []) g (λ x i j. i) mk.there w.1 mk.nests.1 mk.long mk.line mk.mem_line mk.made mk.once mk.home_apart mk.inside mk.atoms_once) run.2)
making_grows r qs ks E home done a m c (Connector left right ∷ xs) s t mk run =
    making_grows r qs ks E home done a m c xs s t (record { there = mk.there; goes = mk.goes; nests = mk.nests; long = mk.long; line = mk.line; mem_line = mk.mem_line; made = mk.made; once = mk.once; home_apart = mk.home_apart; inside = mk.inside; atoms_once = mk.atoms_once }) run
making_grows r qs ks E home done a m c (Copy part link inside ∷ xs) s t mk run =
    let w = mk.goes in
    let y = r.head.images.membrane inside in
    let g = subst (λ z. Grown ks s z [] (r.copied c) [] (only_at y (r.copied c)) (λ x. []) (λ x. [])) (sym run.1.2) (grown_all_placed ks y (r.copied c) s w.0.0 (mk.there y w.0.1)) in
    step r qs ks E s run.0 t a m (c + 1) xs [] (r.copied c) [] (only_at y (r.copied c)) (λ x. []) (λ x. []) w.1 (λ x i. absurd i) (λ x i j. i) g
    (making_grows r qs ks E home done a m (c + 1) xs run.0 t
    (made_on r qs ks E home done a m (c + 1) xs s run.0 [] (r.copied c) [] (only_at y (r.copied c)) (λ x. []) (λ x. []) g (λ x i j. i) mk.there w.1 mk.nests.1 mk.long mk.line mk.mem_line mk.made mk.once mk.home_apart mk.inside mk.atoms_once) run.2)
making_grows r qs ks E home done a m c (Bound integer link inside ∷ xs) s t mk run =
    let w = mk.goes in
    let y = r.head.images.membrane inside in
    let g = subst (λ z. Grown ks s z [] (r.head.images.atom a ∷ []) [] (only_at y (r.head.images.atom a ∷ [])) (λ x. []) (λ x. [])) (sym run.1.1) (grown_placed ks s y (r.head.images.atom a) w.0.0 (mk.there y w.0.1)) in
    step r qs ks E s run.0 t (a + 1) m c xs [] (r.head.images.atom a ∷ []) [] (only_at y (r.head.images.atom a ∷ [])) (λ x. []) (λ x. []) w.1 (λ x i. absurd i) (λ x i j. i) g
    (making_grows r qs ks E home done (a + 1) m c xs run.0 t
    (made_on r qs ks E home done (a + 1) m c xs s run.0 [] (r.head.images.atom a ∷ []) [] (only_at y (r.head.images.atom a ∷ [])) (λ x. []) (λ x. []) g (λ x i j. i) mk.there w.1 mk.nests.1 mk.long mk.line mk.mem_line mk.made mk.once mk.home_apart mk.inside mk.atoms_once) run.2)
making_grows r qs ks E home done a m c (Membrane inside ∷ xs) s t mk run =
    let w = mk.goes in
    let y = r.head.images.membrane inside in
    let n = r.head.images.membrane m in
    let g = subst (λ z. Grown ks s z [] [] (n ∷ []) (λ x. []) (only_at y (n ∷ [])) (λ x. [])) (sym run.1.1) (grown_placed_mem ks s y n w.0.0 (mk.made n (inl refl)).0 (mk.there y w.0.1)) in
    step r qs ks E s run.0 t a (m + 1) c xs [] [] (n ∷ []) (λ x. []) (only_at y (n ∷ [])) (λ x. []) w.1 (λ x i. absurd i) (λ x i j. i) g
    (making_grows r qs ks E home (done ++ n ∷ []) a (m + 1) c xs run.0 t
    (made_on r qs ks E home (done ++ n ∷ []) a (m + 1) c xs s run.0 [] [] (n ∷ []) (λ x. []) (only_at y (n ∷ [])) (λ x. []) g (λ x i j. i) mk.there w.1 mk.nests.1 mk.long mk.line mk.mem_line (λ z i. mk.made z (inr i))
    (subst Distinct (sym (append_assoc done (n ∷ []) (made_mems r qs (m + 1) xs))) mk.once) (λ i. mk.home_apart (inr i)) mk.inside mk.atoms_once) run.2)
making_grows r qs ks E home done a m c (Rest of false inside ∷ xs) s t mk run =
    let w = mk.goes in
    let y = r.head.images.membrane inside in
    let k = r.head.images.membrane of in
    let apart : (x : ℕ) → In x (k ∷ []) → In x (source_mems r xs) → ⊥ = λ x i j. elim i [ inl e ↦ w.2 (subst (λ z. In z (source_mems r xs)) (sym e) j) | inr v ↦ v ] in
    let g = subst (λ z. Grown ks s z (k ∷ []) [] [] (only_at y (atoms_in s k)) (only_at y (mems_in s k)) (λ x. [])) (sym run.1) (grown_moved ks s k y w.0 w.3.0 (mk.there k w.1) (mk.there y w.3.1)) in
    step r qs ks E s run.0 t a m c xs (k ∷ []) [] [] (only_at y (atoms_in s k)) (only_at y (mems_in s k)) (λ x. []) w.4
    (λ x i. elim i [ inl e ↦ subst (λ z. In z ks) e w.0 | inr j ↦ absurd j ]) apart g
    (making_grows r qs ks E home done a m c xs run.0 t
    (made_on r qs ks E home done a m c xs s run.0 (k ∷ []) [] [] (only_at y (atoms_in s k)) (only_at y (mems_in s k)) (λ x. []) g apart mk.there w.4 mk.nests.1 mk.long mk.line mk.mem_line mk.made mk.once mk.home_apart mk.inside mk.atoms_once) run.2)
making_grows r qs ks E home done a m c (Rest of true inside ∷ xs) s t mk run =
    let p = qs 0 in
    let A = given (λ z. map (copied_atom r of p) (atoms_in s z)) (copied_into r of inside p) (rest_membranes r of) in
    let M = given (λ z. map (copied_membrane r of p) (mems_in s z)) (copied_into r of inside p) (rest_membranes r of) in
    let R = given (rules_in s) (copied_into r of inside p) (r.left_membranes of) in
    let w = rest_made r qs ks E home done a m c of inside xs s run.0 mk run.1 in
    let g = subst (λ z. Grown ks s z [] p.atoms p.membranes A M R) (sym w.is) (grown_rest ks s (r.head.images.membrane of) (r.head.images.membrane inside) (r.left_atoms of) (r.left_membranes of) p.atoms p.membranes w.waits w.places) in
    step r (later qs) ks E s run.0 t a m c xs [] p.atoms p.membranes A M R mk.goes.2 (λ x i. absurd i) (λ x i j. i) g
    (making_grows r (later qs) ks E home done a m c xs run.0 t (rest_on r qs ks E home done a m c of inside xs s run.0 mk A M R g) run.2)
making_grows r qs ks E home done a m c (Rule rule inside ∷ xs) s t mk run =
    let w = mk.goes in
    let y = r.head.images.membrane inside in
    let g = subst (λ z. Grown ks s z [] [] [] (λ x. []) (λ x. []) (only_at y (rule ∷ []))) (sym run.1) (grown_rules ks s y (rule ∷ []) w.0.0 (mk.there y w.0.1)) in
    step r qs ks E s run.0 t a m c xs [] [] [] (λ x. []) (λ x. []) (only_at y (rule ∷ [])) w.1 (λ x i. absurd i) (λ x i j. i) g
    (making_grows r qs ks E home done a m c xs run.0 t
    (made_on r qs ks E home done a m c xs s run.0 [] [] [] (λ x. []) (λ x. []) (only_at y (rule ∷ [])) g (λ x i j. i) mk.there w.1 mk.nests.1 mk.long mk.line mk.mem_line mk.made mk.once mk.home_apart mk.inside mk.atoms_once) run.2)
making_grows r qs ks E home done a m c (Rules of inside ∷ xs) s t mk run =
    let w = mk.goes in
    let y = r.head.images.membrane inside in
    let rs = rules_in s (r.head.images.membrane of) in
    let g = subst (λ z. Grown ks s z [] [] [] (λ x. []) (λ x. []) (only_at y rs)) (sym run.1) (grown_rules ks s y rs w.1.0 (mk.there y w.1.1)) in
    step r qs ks E s run.0 t a m c xs [] [] [] (λ x. []) (λ x. []) (only_at y rs) w.2 (λ x i. absurd i) (λ x i j. i) g
    (making_grows r qs ks E home done a m c xs run.0 t
    (made_on r qs ks E home done a m c xs s run.0 [] [] [] (λ x. []) (λ x. []) (only_at y rs) g (λ x i j. i) mk.there w.2 mk.nests.1 mk.long mk.line mk.mem_line mk.made mk.once mk.home_apart mk.inside mk.atoms_once) run.2)

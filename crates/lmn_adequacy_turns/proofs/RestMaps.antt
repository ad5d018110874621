-- The copies of rests that a body makes, and where their links go.
use Rattle.std.proofs.Common.{ℕ, zero, suc, ◌≡◌, ◌+◌, ◌<◌, ◌≤◌, true, false, List, [], ◌∷◌, map, sym, ap, ◌∙◌, arith}
use Rattle.lmn_base.specs.Graphs.{Port}
use Rattle.lmn_base.specs.Lists.{In}
use Rattle.lmn_store_heap.specs.Heap.{Heap}
use Rattle.lmn_store_heap.specs.Solid.{solid_atoms_at}
use Rattle.lmn_ground_parts.specs.Copies.{answer}
use Rattle.lmn_congruence_splice.specs.Splice.{of_solid}
use Rattle.lmn_solid_bodies.specs.declared.items.BodyItem.{BodyItem}
use Rattle.lmn_solid_bodies.specs.declared.items.BodyItem.TheVariants.{Atom, Connector, Copy, Bound, Membrane, Rest, Rule, Rules}
use Rattle.lmn_solid_bodies.specs.CopiedSolid.{AreSolidRests}
use Rattle.lmn_solid_bodies.specs.Fired.{linked_by}
use Rattle.lmn_solid_bodies.specs.RestCopies.{RestCopies, later, rest_membranes}
use Rattle.lmn_solid_bodies.specs.Running.{Registers}
use Rattle.lmn_adequacy_turns.proofs.Adders.{EachRest, closed_past, from_copy, rest_copy}

-- the next number is no smaller
closed_more : (d : ℕ) (xs : List BodyItem) → d ≤ closed_past d xs
closed_more d [] = omega arith
closed_more d (Atom functor links inside ∷ xs) = closed_more d xs
closed_more d (Connector left right ∷ xs) = closed_more d xs
closed_more d (Copy part link inside ∷ xs) = closed_more d xs
closed_more d (Bound integer link inside ∷ xs) = closed_more d xs
closed_more d (Membrane inside ∷ xs) = closed_more d xs
closed_more d (Rest of false inside ∷ xs) = closed_more d xs
closed_more d (Rest of true inside ∷ xs) = (let l = closed_more (suc d) xs in omega (arith, l))
closed_more d (Rule rule inside ∷ xs) = closed_more d xs
closed_more d (Rules of inside ∷ xs) = closed_more d xs

module _ (h h' : Heap) (c number : Port → ℕ) (left : ℕ → List ℕ) (s : Registers) (q : RestCopies) where
  -- where the links of the copies go, by their numbers
  abbrev pub rest_maps : (p : RestCopies) (xs : List BodyItem) → AreSolidRests h c h' number left s p xs → ℕ → ℕ → ℕ
  rest_maps p [] w d = λ y. y
  rest_maps p (Atom functor links inside ∷ xs) w d = rest_maps p xs w d
  rest_maps p (Connector left right ∷ xs) w d = rest_maps p xs w d
  rest_maps p (Copy part link inside ∷ xs) w d = rest_maps p xs w d
  rest_maps p (Bound integer link inside ∷ xs) w d = rest_maps p xs w d
  rest_maps p (Membrane inside ∷ xs) w d = rest_maps p xs w d
  rest_maps p (Rest of false inside ∷ xs) w d = rest_maps p xs w d
  rest_maps p (Rest of true inside ∷ xs) w zero = w.0.to
  rest_maps p (Rest of true inside ∷ xs) w (suc d) = rest_maps (later p) xs w.1 d
  rest_maps p (Rule rule inside ∷ xs) w d = rest_maps p xs w d
  rest_maps p (Rules of inside ∷ xs) w d = rest_maps p xs w d

  -- Of copy number d of a rest: the atoms of the solid that are copied from each of its membranes are those that are left there, each link
  -- at its image. The copies of rests have odd numbers, all below n.
  pub record RestKnown (E : ℕ → ℕ → ℕ) (n d of inside : ℕ) : Type 0 where
    pub are : (k : ℕ) → In k (rest_membranes s of) → solid_atoms_at h' (λ a i. number (a, i)) (map (answer (s.left_atoms of) (rest_copy q d).atoms) (left k)) ≡ map (linked_by (E d)) (solid_atoms_at h (λ a i. c (a, i)) (left k))
    pub below : of_solid d < n

  -- so much is known of each
  pub rests_known : (n m : ℕ) → of_solid m ≤ n → (E : ℕ → ℕ → ℕ) (d : ℕ) (xs : List BodyItem) (w : AreSolidRests h c h' number left s (from_copy q d) xs) → ((j : ℕ) → E (d + j) ≡ rest_maps (from_copy q d) xs w j) → closed_past d xs ≤ m → EachRest (RestKnown E n) d xs
  rests_known n m wide E d [] w same b = tt
  rests_known n m wide E d (Atom functor links inside ∷ xs) w same b = rests_known n m wide E d xs w same b
  rests_known n m wide E d (Connector left right ∷ xs) w same b = rests_known n m wide E d xs w same b
  rests_known n m wide E d (Copy part link inside ∷ xs) w same b = rests_known n m wide E d xs w same b
  rests_known n m wide E d (Bound integer link inside ∷ xs) w same b = rests_known n m wide E d xs w same b
  rests_known n m wide E d (Membrane inside ∷ xs) w same b = rests_known n m wide E d xs w same b
  rests_known n m wide E d (Rest of false inside ∷ xs) w same b = rests_known n m wide E d xs w same b
  rests_known n m wide E d (Rest of true inside ∷ xs) w same b =
      let z : d + 0 ≡ d = omega arith in
      let l = closed_more (suc d) xs in
      let map_is : E d ≡ w.0.to = ap E (sym z) ∙ same 0 in (
        record {
          are = λ k i. w.0.are k i ∙ ap (λ f. map (linked_by f) (solid_atoms_at h (λ a i. c (a, i)) (left k))) (sym map_is);
          below = omega (arith, wide, b, l);
        },
        rests_known n m wide E (suc d) xs w.1 (λ j. let y : suc d + j ≡ d + suc j = omega arith in ap E y ∙ same (suc j)) b,
      )
  rests_known n m wide E d (Rule rule inside ∷ xs) w same b = rests_known n m wide E d xs w same b
  rests_known n m wide E d (Rules of inside ∷ xs) w same b = rests_known n m wide E d xs w same b

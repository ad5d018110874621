-- The atoms of the copy of a rest in the solid.
use Rattle.std.proofs.Common.{ℕ, true, false, ◌+◌, ◌<◌, ◌≤◌, ◌≡◌, List, [], ◌∷◌, ◌++◌, length, Option, Some, None, IsSome, refl, sym, ap, subst, ◌∙◌, inl, inr, arith}
use Rattle.std.specs.Option.{option_map, option_and_then}
use Rattle.lmn_base.specs.declared.functor.Functor.{Functor}
use Rattle.lmn_base.specs.Graphs.{Port}
use Rattle.lmn_base.specs.Lists.{In}
use Rattle.lmn_store_heap.specs.Heap.{Heap, HeapAtom, Distinct, functor_of, arity_of, IsAtom, IsInPlace, atoms_in, home_by}
use Rattle.lmn_store_heap.specs.Sound.{Valid}
use Rattle.lmn_store_heap.specs.Lists.{without_all}
use Rattle.lmn_store_heap.proofs.ListLemmas.{in_left, in_right, distinct_left, distinct_right}
use Rattle.lmn_ground_parts.specs.Copies.{answer, moved, ports_of}
use Rattle.lmn_ground_parts.proofs.AnswerLaws.{answer_in, answer_one}
use Rattle.lmn_congruence_splice.proofs.Joining.{same_some}
use Rattle.lmn_congruence_splice.specs.Splice.{IsOneOf}
use Rattle.lmn_solid_bodies.specs.declared.items.BodyItem.{BodyItem}
use Rattle.lmn_solid_bodies.specs.declared.items.BodyItem.TheVariants.{Atom, Connector, Copy, Bound, Membrane, Rest, Rule, Rules}
use Rattle.lmn_solid_bodies.specs.Running.{Registers}
use Rattle.lmn_solid_bodies.specs.Tied.{partners}
use Rattle.lmn_solid_heads.specs.Heads.{atoms_of}
use Rattle.lmn_solid_bodies.specs.Fired.{images_of}
use Rattle.lmn_solid_bodies.specs.Made.{new_atoms}
use Rattle.lmn_solid_bodies.specs.Names.{StandsPort, Names}
use Rattle.lmn_solid_bodies.specs.RestCopies.{RestCopies, later, rest_membranes, AreCopiesIn, AreRestsCopied}
use Rattle.lmn_solid_bodies.specs.Rules.{closed_rests}
use Rattle.lmn_solid_bodies.specs.CopiedSolid.{IsSolidRest, AreSolidRests}
use Rattle.lmn_solid_bodies.specs.Laws.{RestsInSolid}
use Rattle.lmn_solid_bodies.proofs.Held.{held}
use Rattle.lmn_solid_bodies.proofs.SolidCopies.{image_of, image_at, port_there, all_ports, atoms_moved}

module _ (h : Heap) (valid : Valid h) (c : Port → ℕ) (names : Names h c) (h' : Heap) (valid' : Valid h') (number : Port → ℕ) (named : Names h' number) (left : ℕ → List ℕ) (ms xs ys : List ℕ)
    (k : AreCopiesIn h h' xs ys) (there : (a : ℕ) → In a xs → IsInPlace h a) (once : Distinct ys) (placed : (y : ℕ) → In y ys → IsInPlace h' y) (whole : (q a : ℕ) → In q ms → In a (left q) → In a xs) where
  abbrev f : ℕ → ℕ
  f = answer xs ys

  abbrev to : ℕ → ℕ
  to = image_of c number f (ports_of h xs)

  long : length xs ≤ length ys
  long = omega (arith, k.long)

  is_atom : (a : ℕ) → In a xs → IsAtom h a
  is_atom a i = by (h.atoms a) (there a i)
    where
      by : (o : Option HeapAtom) → IsSome (option_and_then (λ x. home_by x.place) o) → IsSome o
      by None e = absurd (cc)
      by (Some x) e = refl

  stands : (p : Port) → In p.0 xs → p.1 < arity_of h p.0 → StandsPort h p
  stands p i l = (there p.0 i, l)

  arity_same : (a : ℕ) → In a xs → arity_of h' (f a) ≡ arity_of h a
  arity_same a i = by (functor_of h a) refl (is_atom a i)
    where
      none : (q : Option HeapAtom) → option_map (λ x. x.functor) q ≡ None → IsSome q → ⊥
      none None e is = absurd (cc)
      none (Some x) e is = absurd (cc)

      by : (o : Option Functor) → functor_of h a ≡ o → IsAtom h a → arity_of h' (f a) ≡ arity_of h a
      by None e is = absurd (none (h.atoms a) e is)
      by (Some g) e is = valid'.sound.shaped.ports (f a) g (k.functors a i ∙ e) ∙ sym (valid.sound.shaped.ports a g e)

  stands' : (p : Port) → In p.0 xs → p.1 < arity_of h p.0 → StandsPort h' (moved f p)
  stands' p i l = (placed (f p.0) (answer_in xs ys p.0 long i), subst (λ n. p.1 < n) (sym (arity_same p.0 i)) l)

  -- what a port is joined to
  inner : (p q : Port) → In p.0 xs → partners h p ≡ Some q → In q.0 xs × (partners h' (moved f p) ≡ Some (moved f q))
  inner p q i e = k.inner p.0 p.1 q.0 q.1 i e

  partner_number : (p q : Port) → StandsPort h' p → partners h' p ≡ Some q → number q ≡ number p
  partner_number p q st e = let w = named.partner p st in ap number (same_some q w.0 (sym e ∙ w.2)) ∙ w.4

  partner_link : (p q : Port) → StandsPort h p → partners h p ≡ Some q → c q ≡ c p
  partner_link p q st e = let w = names.partner p st in ap c (same_some q w.0 (sym e ∙ w.2)) ∙ w.4

  -- ports of one link have images of one link
  one_image : (p q : Port) → In p.0 xs → p.1 < arity_of h p.0 → In q.0 xs → q.1 < arity_of h q.0 → c q ≡ c p → number (moved f q) ≡ number (moved f p)
  one_image p q i l j m e = elim (names.only p q (stands p i l) (stands q j m) (sym e)) [
    | inl s ↦ ap (λ (z : Port). number (moved f z)) (sym s)
    | inr s ↦ partner_number (moved f p) (moved f q) (stands' p i l) (inner p q i s).1
  ]

  to_is : (p : Port) → In p.0 xs → p.1 < arity_of h p.0 → to (c p) ≡ number (moved f p)
  to_is p i l = image_at c number f (ports_of h xs) p (port_there h xs p i l) (λ q m e. let w = all_ports h xs xs (λ a j. j) q m in one_image p q i l w.0 w.1 e)

  -- ports with one image are one
  same_port : (p q : Port) → In p.0 xs → In q.0 xs → moved f p ≡ moved f q → p ≡ q
  same_port p q i j e =
      let e0 : p.0 ≡ q.0 = answer_one xs ys p.0 q.0 long once i j (ap (λ (z : Port). z.0) e) in
      let e1 : p.1 ≡ q.1 = ap (λ (z : Port). z.1) e in
      λ t. (e0 t, e1 t)

  pub solid_rest : IsSolidRest h c h' number left ms xs ys
  solid_rest = record {
    to = to;
    are = λ q i. atoms_moved h h' (λ a i. c (a, i)) (λ a i. number (a, i)) to f (left q) (λ a j. k.functors a (whole q a i j))
        (λ a j x e n l. sym (to_is (a, n) (whole q a i j) (subst (λ z. n < z) (sym (valid.sound.shaped.ports a x.functor (ap (option_map (λ (z : HeapAtom). z.functor)) e))) l)));
    one_to_one = λ p q i l j m e. one p q i l j m (sym (to_is p i l) ∙ e ∙ to_is q j m) (partners h p) refl (valid.full p.0 p.1 l);
    apart = λ p q i l st e. by p q i l st (sym (to_is p i l) ∙ sym e) (partners h p) refl (valid.full p.0 p.1 l);
  }
    where
      one : (p q : Port) → In p.0 xs → p.1 < arity_of h p.0 → In q.0 xs → q.1 < arity_of h q.0 → number (moved f p) ≡ number (moved f q) → (o : Option Port) → partners h p ≡ o → IsSome o → c p ≡ c q
      one p q i l j m e None g is = absurd (cc)
      one p q i l j m e (Some z) g is = elim (named.only (moved f p) (moved f q) (stands' p i l) (stands' q j m) e) [
        | inl s ↦ ap c (same_port p q i j s)
        | inr s ↦ (let w = inner p z i g in
            let same : z ≡ q = same_port z q w.0 j (same_some (moved f z) (moved f q) (sym w.1 ∙ s)) in
            sym (partner_link p z (stands p i l) g) ∙ ap c same)
      ]

      by : (p q : Port) → In p.0 xs → p.1 < arity_of h p.0 → StandsPort h' q → number (moved f p) ≡ number q → (o : Option Port) → partners h p ≡ o → IsSome o → In q.0 ys
      by p q i l st e None g is = absurd (cc)
      by p q i l st e (Some z) g is = elim (named.only (moved f p) q (stands' p i l) st e) [
        | inl s ↦ subst (λ (w : Port). In w.0 ys) s (answer_in xs ys p.0 long i)
        | inr s ↦ (let w = inner p z i g in subst (λ (v : Port). In v.0 ys) (same_some (moved f z) q (sym w.1 ∙ s)) (answer_in xs ys z.0 long w.0))
      ]

-- each of them
solid_rests : (h : Heap) (valid : Valid h) (c : Port → ℕ) (names : Names h c) (h' : Heap) (valid' : Valid h') (number : Port → ℕ) (named : Names h' number) (left : ℕ → List ℕ) (r : Registers) (q : RestCopies) (a k : ℕ) (body : List BodyItem)
    → AreRestsCopied h h' r q body → Distinct (new_atoms r q a k body) → ((y : ℕ) → In y (new_atoms r q a k body) → IsInPlace h' y)
    → ((of : ℕ) → IsOneOf of (closed_rests body) → (b : ℕ) → In b (r.left_atoms of) → IsInPlace h b)
    → ((of : ℕ) → IsOneOf of (closed_rests body) → (p b : ℕ) → In p (rest_membranes r of) → In b (left p) → In b (r.left_atoms of)) → AreSolidRests h c h' number left r q body
solid_rests h valid c names h' valid' number named left r q a k [] w d placed there whole = tt
solid_rests h valid c names h' valid' number named left r q a k (Atom functor links inside ∷ xs) w d placed there whole = solid_rests h valid c names h' valid' number named left r q (a + 1) k xs w d.1 (λ y i. placed y (inr i)) there whole
solid_rests h valid c names h' valid' number named left r q a k (Connector l l' ∷ xs) w d placed there whole = solid_rests h valid c names h' valid' number named left r q a k xs w d placed there whole
solid_rests h valid c names h' valid' number named left r q a k (Copy part link inside ∷ xs) w d placed there whole =
    solid_rests h valid c names h' valid' number named left r q a (k + 1) xs w (distinct_right (r.copied k) (new_atoms r q a (k + 1) xs) d) (λ y i. placed y (in_right y (r.copied k) (new_atoms r q a (k + 1) xs) i)) there whole
solid_rests h valid c names h' valid' number named left r q a k (Bound integer link inside ∷ xs) w d placed there whole = solid_rests h valid c names h' valid' number named left r q (a + 1) k xs w d.1 (λ y i. placed y (inr i)) there whole
solid_rests h valid c names h' valid' number named left r q a k (Membrane inside ∷ xs) w d placed there whole = solid_rests h valid c names h' valid' number named left r q a k xs w d placed there whole
solid_rests h valid c names h' valid' number named left r q a k (Rest of false inside ∷ xs) w d placed there whole = solid_rests h valid c names h' valid' number named left r q a k xs w d placed there whole
solid_rests h valid c names h' valid' number named left r q a k (Rest of true inside ∷ xs) w d placed there whole =
    let ys = (q 0).atoms in
    let more = new_atoms r (later q) a k xs in (
      solid_rest h valid c names h' valid' number named left (rest_membranes r of) (r.left_atoms of) ys w.0 (there of (inl refl)) (distinct_left ys more d) (λ y i. placed y (in_left y ys more i)) (whole of (inl refl)),
      solid_rests h valid c names h' valid' number named left r (later q) a k xs w.1 (distinct_right ys more d) (λ y i. placed y (in_right y ys more i)) (λ o i. there o (inr i)) (λ o i. whole o (inr i)),
    )
solid_rests h valid c names h' valid' number named left r q a k (Rule rule inside ∷ xs) w d placed there whole = solid_rests h valid c names h' valid' number named left r q a k xs w d placed there whole
solid_rests h valid c names h' valid' number named left r q a k (Rules of inside ∷ xs) w d placed there whole = solid_rests h valid c names h' valid' number named left r q a k xs w d placed there whole

-- The atoms of the copy of a rest in the solid are those of the rest.
pub rests_in_solid : RestsInSolid
rests_in_solid head body n nested r h valid m em rests stand c names ps parts h' valid' f =
    let hs = held h valid head body n m r nested em stand rests ps parts c names in
    solid_rests h valid c names h' valid' f.number f.named (λ k. without_all (images_of r head ++ ps) (atoms_in h k)) r f.rests (length (atoms_of head)) 0 body f.rests_copied f.new_once f.new_placed
    (λ of i a j. hs.rests.placed of i a j) (λ of i k a j l. (hs.whole of i).into k a j l)

-- Walks down through membranes.
use Rattle.std.proofs.Common.{◌≡◌, ◌∙◌, ℕ, zero, suc, ◌+◌, ◌<◌, ◌≤◌, List, [], ◌∷◌, length, take, slice_get, slice_index_or, Option, Some, refl, sym, ap, subst, inl, inr, arith}
use Rattle.std.proofs.lemmas.Bool.{cases_eq}
use Rattle.std.proofs.lemmas.Option.{same_Some}
use Rattle.lmn_base.specs.Lists.{In}
use Rattle.lmn_base.proofs.Lists.{get_there, get_below}
use Rattle.lmn_store_heap.specs.Heap.{Heap, IsMem, mems_in}
use Rattle.lmn_store_heap.specs.Sound.{Valid}
use Rattle.lmn_store_heap.specs.Conditions.{Above}
use Rattle.lmn_store_heap.proofs.Common.{in_at, position}
use Rattle.lmn_store_heap.proofs.Heights.{parent_is, mem_of_place, parent_place}
use Rattle.lmn_solid_search.specs.Walking.{Notes, NotesAll, IsBelow, Holds, Descending, AreBelow, HasMembranes}
use Rattle.lmn_solid_search.proofs.WalkingLemmas.{closed_at_end, tells_nothing, blank}
use Rattle.lmn_solid_search.proofs.WholeLemmas.{in_longer}

pub one_more : (marks marks' marks'' : List (Option ℕ)) (xs xs' xs'' ps : List ℕ) (i : ℕ) → i < length ps → NotesAll marks xs (take i ps) marks' xs' → Notes marks' xs' (slice_index_or ps i 0) marks'' xs'' → NotesAll marks xs (take (i + 1) ps) marks'' xs''
one_more marks marks' marks'' xs xs' xs'' ps i l n m = record {
  tells = λ t. m.tells (n.tells t);
  there = λ t p k. elim (in_longer p ps i l k) [ inl old ↦ m.kept p (n.there t p old) | inr e ↦ subst (λ (z : ℕ). In z xs'') e (m.there (n.tells t)) ];
  front = λ k a e. m.front k a (n.front k a e);
  new = λ a k. elim (cases_eq a (slice_index_or ps i 0)) [
    | inl same ↦ inr (subst (λ (z : ℕ). In z (take (i + 1) ps)) (sym same) (here ps i l))
    | inr apart ↦ elim (n.new a (m.new a k apart)) [ inl old ↦ inl old | inr j ↦ inr (further a ps i j) ]
  ];
  longer = (let u = n.longer in let w = m.longer in omega (arith, u, w));
}
  where
    here : (qs : List ℕ) (j : ℕ) → j < length qs → In (slice_index_or qs j 0) (take (j + 1) qs)
    here [] j low = absurd (omega (arith, low))
    here (q ∷ qs) zero low = inl refl
    here (q ∷ qs) (suc j) low = let e : suc (j + 1) ≡ suc j + 1 = omega arith in subst (λ (n : ℕ). In (slice_index_or qs j 0) (take n (q ∷ qs))) e (inr (here qs j (omega (arith, low))))

    further : (a : ℕ) (qs : List ℕ) (j : ℕ) → In a (take j qs) → In a (take (j + 1) qs)
    further a [] zero k = absurd k
    further a [] (suc j) k = absurd k
    further a (q ∷ qs) zero k = absurd k
    further a (q ∷ qs) (suc j) (inl e) = let e' : suc (j + 1) ≡ suc j + 1 = omega arith in subst (λ (n : ℕ). In a (take n (q ∷ qs))) e' (inl e)
    further a (q ∷ qs) (suc j) (inr k) = let e' : suc (j + 1) ≡ suc j + 1 = omega arith in subst (λ (n : ℕ). In a (take n (q ∷ qs))) e' (inr (further a qs j k))

-- ---- the walk

-- a membrane in a membrane below is below
below_more : (h : Heap) (v : Valid h) (starts : List ℕ) (m b : ℕ) → IsBelow h starts m → In b (mems_in h m) → IsBelow h starts b
below_more h v starts m b (c, k, i, up) j = (c, suc k, i, (m, parent_is h v.sound.listed b m j, up))

pub descending_first : (h : Heap) (starts : List ℕ) (marks marks' marks'' : List (Option ℕ)) (xs ys : List ℕ) → marks' ≡ blank marks → xs ≡ [] → NotesAll marks' xs starts marks'' ys → Descending h starts marks'' ys 0
descending_first h starts marks marks' marks'' xs ys e list n = by (subst (λ (zs : List ℕ). NotesAll marks' zs starts marks'' ys) list n)
  where
    by : NotesAll marks' [] starts marks'' ys → Descending h starts marks'' ys 0
    by m = record {
      tells = m.tells (tells_nothing marks marks' e);
      within = omega arith;
      right = λ a i. elim (m.new a i) [ inl old ↦ absurd old | inr j ↦ (a, 0, j, refl) ];
      started = m.there (tells_nothing marks marks' e);
      done = λ j a i b l g d. absurd (omega (arith, l));
    }

pub descending_next : (h : Heap) (v : Valid h) (starts inner : List ℕ) (marks marks' : List (Option ℕ)) (xs xs' : List ℕ) (k m : ℕ) → slice_get xs k ≡ Some m → inner ≡ mems_in h m → NotesAll marks xs inner marks' xs' → Descending h starts marks xs k → Descending h starts marks' xs' (k + 1)
descending_next h v starts inner marks marks' xs xs' k m at e n w = record {
  tells = n.tells w.tells;
  within = (let l = get_below xs' k m (n.front k m at) in omega (arith, l));
  right = λ a i. elim (n.new a i) [ inl old ↦ w.right a old | inr j ↦ below_more h v starts m a (w.right m (in_at xs k m at)) (subst (In a) e j) ];
  started = λ a s. kept a (w.started a s);
  done = λ j a i b l g d. elim (cases_eq j k) [
    | inr apart ↦ kept b (w.done j a i b (omega (arith, l, apart)) (before j a (omega (arith, l)) g) d)
    | inl same ↦ (
        let f : a ≡ m = same_Some _ _ (sym g ∙ ap (slice_get xs') same ∙ n.front k m at) in
        n.there w.tells b (subst (In b) (sym e) (in_at (mems_in h m) i b (subst (λ (z : ℕ). slice_get (mems_in h z) i ≡ Some b) f d))))
  ];
}
  where
    kept : (a : ℕ) → In a xs → In a xs'
    kept a i = let p = position xs a i in in_at xs' p.0 a (n.front p.0 a p.1)

    before : (j a : ℕ) → j < k + 1 → slice_get xs' j ≡ Some a → slice_get xs j ≡ Some a
    before j a l g = let low = get_below xs k m at in let there = get_there xs j (omega (arith, l, low)) in there.1 ∙ sym (n.front j there.0 there.1) ∙ g

pub descended : (h : Heap) (v : Valid h) (starts : List ℕ) (marks : List (Option ℕ)) (xs : List ℕ) (k : ℕ) → length xs ≤ k → Descending h starts marks xs k → AreBelow h starts marks xs
descended h v starts marks xs k l w = record { tells = w.tells; right = w.right; all = λ b (c, n, i, up). all b c n i up }
  where
    all : (b c n : ℕ) → In c starts → Above h n c b → In b xs
    all b c zero i up = subst (λ (z : ℕ). In z xs) (sym up) (w.started c i)
    all b c (suc n) i (p, e, up) =
        let j : In b (mems_in h p) = (v.sound.listed.mems p b).1 (parent_place h b p e) in
        let q = position (mems_in h p) b j in
        closed_at_end (λ c. In c starts) (IsBelow h starts) (Holds h) marks xs k p q.0 b l w (all p c n i up) q.1

-- what the walk finds is there
pub below_there : (h : Heap) (v : Valid h) (starts : List ℕ) (b : ℕ) → ((m : ℕ) → In m starts → IsMem h m) → IsBelow h starts b → IsMem h b
below_there h v starts b there (c, zero, i, up) = subst (IsMem h) (sym up) (there c i)
below_there h v starts b there (c, suc n, i, (p, e, up)) = mem_of_place h b _ (parent_place h b p e)

-- each membrane in a list has its place
pub inner_fit : (h : Heap) → Valid h → (marks marks' : List (Option ℕ)) (m : ℕ) (inner : List ℕ) → HasMembranes h marks → length marks' ≡ length marks → inner ≡ mems_in h m → (p : ℕ) → In p inner → p < length marks'
inner_fit h v marks marks' m inner places e is p i =
    let there : IsMem h p = mem_of_place h p _ ((v.sound.listed.mems m p).0 (subst (In p) is i)) in
    let l = places p there in
    omega (arith, l, e)

-- what stands in a membrane is a membrane
pub inner_mem : (h : Heap) → Valid h → (m n : ℕ) → In n (mems_in h m) → IsMem h n
inner_mem h v m n i = mem_of_place h n _ ((v.sound.listed.mems m n).0 i)

-- Parts of typed contexts, and what is marked as an image or as one of them.
use Rattle.std.proofs.Common.{◌≡◌, ◌≢◌, ◌∙◌, ◌⊎◌, ◌↔◌, ℕ, ◌+◌, ◌<◌, List, [], ◌∷◌, ◌++◌, length, slice_get, slice_index_or, Option, Some, refl, sym, ap, subst, inl, inr, arith, length-append}
use Rattle.std.proofs.lemmas.Option.{same_Some}
use Rattle.std.proofs.lemmas.Bool.{cases_eq}
use Rattle.lmn_base.specs.Lists.{In}
use Rattle.lmn_base.specs.Graphs.{Port}
use Rattle.lmn_base.proofs.Lists.{get_either}
use Rattle.lmn_store_heap.specs.Heap.{Heap, IsAtom}
use Rattle.lmn_store_heap.specs.Sound.{Valid}
use Rattle.lmn_solid_search.specs.Walking.{IsMarked}
use Rattle.lmn_solid_search.specs.Taking.{StandsAt}
use Rattle.lmn_solid_search.specs.Parting.{LeadsTo, IsPart, IsTaken, AreTaken, IsMine, TellMine}
use Rattle.lmn_solid_search.specs.declared.head.AtomItem.{AtomItem}
use Rattle.lmn_solid_search.specs.declared.head.TypedItem.{TypedItem}
use Rattle.lmn_solid_search.specs.declared.placed.Placed.{Placed}
use Rattle.lmn_solid_search.specs.declared.parts.Part.{Part}
use Rattle.lmn_solid_search.proofs.WalkingLemmas.{linked_to, no_marks, blank}

-- the port of an atom with an image that leads to an entry
abbrev pub Found : Heap → List AtomItem → List ℕ → ℕ → Port → Type 0
Found h atoms images x q = (n : ℕ) × (a : AtomItem) × (slice_get atoms n ≡ Some a) × LeadsTo h a.links x (slice_index_or images n 0) q

pub entry_there : (h : Heap) (atoms : List AtomItem) (images : List ℕ) (x : ℕ) (q : Port) → Valid h → Found h atoms images x q → IsAtom h q.0
entry_there h atoms images x q v (n, a, at, (j, e, link)) = linked_to h (slice_index_or images n 0) j q v link

-- and some, where a link holds the context
pub no_entry : (h : Heap) (atoms : List AtomItem) (p : Placed) (t : TypedItem) (r : Port) → ((n : ℕ) (a : AtomItem) → slice_get atoms n ≡ Some a → (q : Port) → LeadsTo h a.links t.link (slice_index_or p.atoms n 0) q → ⊥) → ((q : Port) × StandsAt atoms t.link q) → IsPart h atoms p t r → ⊥
no_entry h atoms p t r none (q, (a, at, e)) part = none q.0 a at r (q.1, e, part.0.0 q.0 a at q.1 t.link e refl)

pub no_entry_at : (h : Heap) (atoms atoms' : List AtomItem) (images : List ℕ) (p : Placed) (t : TypedItem) (r : Port) → atoms' ≡ atoms → images ≡ p.atoms
    → ((n : ℕ) (a : AtomItem) → slice_get atoms' n ≡ Some a → (q : Port) → LeadsTo h a.links t.link (slice_index_or images n 0) q → ⊥) → ((q : Port) × StandsAt atoms t.link q) → IsPart h atoms p t r → ⊥
no_entry_at h atoms atoms' images p t r e g none = no_entry h atoms p t r
    (subst (λ (as' : List AtomItem). (n : ℕ) (a : AtomItem) → slice_get as' n ≡ Some a → (q : Port) → LeadsTo h a.links t.link (slice_index_or p.atoms n 0) q → ⊥) e
    (subst (λ (xs : List ℕ). (n : ℕ) (a : AtomItem) → slice_get atoms' n ≡ Some a → (q : Port) → LeadsTo h a.links t.link (slice_index_or xs n 0) q → ⊥) g none))

-- one part more
pub taken_more : (h : Heap) (atoms : List AtomItem) (p : Placed) (typed : List TypedItem) (parts parts' : List Part) (n : ℕ) (t : TypedItem) (part : Part) → slice_get typed n ≡ Some t → parts' ≡ parts ++ part ∷ [] → IsTaken h atoms p t part
    → AreTaken h atoms p typed parts n → AreTaken h atoms p typed parts' (n + 1)
taken_more h atoms p typed parts parts' n t part at is taken w = subst (λ (ps : List Part). AreTaken h atoms p typed ps (n + 1)) (sym is) (record {
  long = (let l = length-append parts (part ∷ []) in let m = w.long in omega (arith, l, m));
  each = λ i u q e g. by i u q e (get_either parts part i q g);
})
  where
    by : (i : ℕ) (u : TypedItem) (q : Part) → slice_get typed i ≡ Some u → ((slice_get parts i ≡ Some q) ⊎ ((i ≡ length parts) × (part ≡ q))) → IsTaken h atoms p u q
    by i u q e (inl old) = w.each i u q e old
    by i u q e (inr (k, same)) =
        let f : u ≡ t = same_Some _ _ (sym e ∙ ap (slice_get typed) (k ∙ w.long) ∙ at) in
        subst (λ (z : TypedItem). IsTaken h atoms p z q) (sym f) (subst (IsTaken h atoms p t) same taken)

-- ---- marks

pub part_marked : (marks marks' : List (Option ℕ)) (inside k : ℕ) (xs ys : List ℕ) → inside ≡ k → xs ≡ ys → ((a : ℕ) → (IsMarked marks' a → IsMarked marks a ⊎ In a xs) × ((IsMarked marks a ⊎ In a xs) → IsMarked marks' a))
    → (a : ℕ) → IsMarked marks' a ↔ (IsMarked marks a ⊎ ((inside ≡ k) × In a ys))
part_marked marks marks' inside k xs ys e is h a = (
  (λ m. elim ((h a).0 m) [ inl old ↦ inl old | inr i ↦ inr (e, subst (In a) is i) ]),
  λ j. (h a).1 (elim j [ inl old ↦ inl old | inr i ↦ inr (subst (In a) (sym is) i.1) ]),
)

pub mine_first : (marks marks' marks'' : List (Option ℕ)) (images : List ℕ) (typed : List TypedItem) (parts : List Part) (k : ℕ) → marks' ≡ blank marks → ((a : ℕ) → (IsMarked marks'' a → IsMarked marks' a ⊎ In a images) × ((IsMarked marks' a ⊎ In a images) → IsMarked marks'' a))
    → TellMine images typed parts k 0 marks''
mine_first marks marks' marks'' images typed parts k e h b = (
  (λ m. elim ((h b).0 m) [ inl old ↦ absurd (no_marks marks b old.0 (ap (λ ms. slice_get ms b) (sym e) ∙ old.1)) | inr i ↦ inl i ]),
  λ j. (h b).1 (inr (elim j [ inl i ↦ i | inr q ↦ absurd (none q) ])),
)
  where
    none : ((i : ℕ) × (t : TypedItem) × (part : Part) × (slice_get typed i ≡ Some t) × (slice_get parts i ≡ Some part) × (i < 0) × (t.inside ≡ k) × In b part.atoms) → ⊥
    none (i, t, part, e, g, l, s, j) = omega (arith, l)

pub mine_more : (marks marks' : List (Option ℕ)) (images : List ℕ) (typed : List TypedItem) (parts : List Part) (k n inside : ℕ) (t : TypedItem) (part : Part) (xs : List ℕ) → slice_get typed n ≡ Some t → slice_get parts n ≡ Some part → inside ≡ t.inside → xs ≡ part.atoms
    → ((a : ℕ) → IsMarked marks' a ↔ (IsMarked marks a ⊎ ((inside ≡ k) × In a xs))) → TellMine images typed parts k n marks → TellMine images typed parts k (n + 1) marks'
mine_more marks marks' images typed parts k n inside t part xs at at' is atoms h w b = (
  (λ m. elim ((h b).0 m) [ inl old ↦ further ((w b).0 old) | inr j ↦ inr (n, t, part, at, at', omega arith, sym is ∙ j.0, subst (In b) atoms j.1) ]),
  λ j. (h b).1 (before j),
)
  where
    further : IsMine images typed parts k n b → IsMine images typed parts k (n + 1) b
    further (inl i) = inl i
    further (inr (i, u, q, e, g, l, s, j)) = inr (i, u, q, e, g, omega (arith, l), s, j)

    before : IsMine images typed parts k (n + 1) b → IsMarked marks b ⊎ ((inside ≡ k) × In b xs)
    before (inl i) = inl ((w b).1 (inl i))
    before (inr (i, u, q, e, g, l, s, j)) = by (cases_eq i n)
      where
        by : ((i ≡ n) ⊎ (i ≢ n)) → IsMarked marks b ⊎ ((inside ≡ k) × In b xs)
        by (inr apart) = inl ((w b).1 (inr (i, u, q, e, g, omega (arith, l, apart), s, j)))
        by (inl same) =
            let f : u ≡ t = same_Some _ _ (sym e ∙ ap (slice_get typed) same ∙ at) in
            let f' : q ≡ part = same_Some _ _ (sym g ∙ ap (slice_get parts) same ∙ at') in
            inr (is ∙ sym (ap (λ (z : TypedItem). z.inside) f) ∙ s, subst (In b) (sym atoms) (subst (λ (z : Part). In b z.atoms) f' j))

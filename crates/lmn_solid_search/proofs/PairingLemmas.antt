-- Pairs of atoms, and what they say of two parts.
use Rattle.std.proofs.Common.{◌≡◌, ◌≢◌, ◌∙◌, ◌↔◌, ◌⊎◌, ℕ, zero, suc, ◌+◌, ◌<◌, ◌≤◌, List, [], ◌∷◌, ◌++◌, length, slice_get, slice_set, Option, Some, None, Bool, true, false, nat_eq, refl, sym, ap, subst, inl, inr, arith, length-append}
use Rattle.std.proofs.lemmas.Option.{same_Some}
use Rattle.std.proofs.lemmas.Bool.{cases_eq}
use Rattle.lmn_base.specs.Lists.{In}
use Rattle.lmn_base.specs.Graphs.{Reached, at_root, across, Port, SameGraph}
use Rattle.lmn_base.specs.declared.functor.Functor.{Functor}
use Rattle.lmn_base.proofs.Lists.{get_front, get_last, get_there, get_below, get_either, get_set as get_set_here, get_set_away}
use Rattle.lmn_base.proofs.Numbers.{equal_itself, unequal}
use Rattle.lmn_store_heap.specs.Heap.{Heap, HeapAtom, IsAtom, Distinct, arity_of, functor_of, link_of}
use Rattle.lmn_store_heap.specs.Sound.{Valid}
use Rattle.lmn_store_heap.specs.Graphs.{atom_map}
use Rattle.lmn_store_heap.proofs.Common.{in_at, position, same_port, is_atom_at}
use Rattle.lmn_store_heap.proofs.Replacing.{port_within}
use Rattle.lmn_ground_parts.specs.Copies.{answer}
use Rattle.lmn_ground_parts.proofs.AnswerLaws.{answer_here, answer_on}
use Rattle.lmn_ground.proofs.EqualLaws.{agree_same}
use Rattle.lmn_solid_search.specs.Pairing.{Numbers, IsPair, AreTwins, Clash, Adds, Joins, Agree, Comparing, ComparingAt, Tells}
use Rattle.lmn_solid_search.specs.declared.pairs.Pairs.{Pairs}
use Rattle.lmn_solid_search.proofs.WalkingLemmas.{length_set, one_marked, blank, no_marks, all_unmarked, reached_atom}
use Rattle.lmn_store_heap.proofs.ListLemmas.{each_in as in_by_all, each_of as all_by_in}

-- ---- numbers in lists

get_blank : (marks : List (Option ℕ)) (a : ℕ) → a < length marks → slice_get (blank marks) a ≡ Some None
get_blank [] a l = absurd (omega (arith, l))
get_blank (m ∷ marks) zero l = refl
get_blank (m ∷ marks) (suc a) l = get_blank marks a (omega (arith, l))

no_numbers : (marks : List (Option ℕ)) → Numbers (blank marks) []
no_numbers marks = record {
  marked = λ a n e. absurd (cc);
  listed = λ a n e. absurd (no_marks marks a n e);
  total = (let h = all_unmarked marks in omega (arith, h));
}

number_added : (marks marks' : List (Option ℕ)) (xs xs' : List ℕ) (a m : ℕ) → Numbers marks xs → slice_get marks a ≡ Some None → m ≡ length xs → xs' ≡ xs ++ a ∷ [] → marks' ≡ slice_set marks a (Some m) → Numbers marks' xs'
number_added marks marks' xs xs' a m t free long list_is marks_is =
    subst (λ (ms : List (Option ℕ)). Numbers ms xs') (sym marks_is)
    (subst (λ (ys : List ℕ). Numbers (slice_set marks a (Some m)) ys) (sym list_is) (record {
      marked = λ b n e. marked b n (get_either xs a n b e);
      listed = λ b n e. listed b n e (cases_eq b a);
      total = (
          let one = one_marked marks a m free in
          let more = length-append xs (a ∷ []) in
          let same = length_set marks a (Some m) in
          let all = t.total in
          omega (arith, one, more, same, all));
    }))
  where
    low : a < length marks
    low = get_below marks a None free

    taken : (b n : ℕ) → slice_get marks b ≡ Some (Some n) → b ≢ a
    taken b n e d =
        let g : Some (Some n) ≡ Some None = sym e ∙ subst (λ (z : ℕ). slice_get marks z ≡ Some None) (sym d) free in
        let f : Some n ≡ None = same_Some _ _ g in
        absurd (cc)

    marked : (b n : ℕ) → ((slice_get xs n ≡ Some b) ⊎ ((n ≡ length xs) × (a ≡ b))) → slice_get (slice_set marks a (Some m)) b ≡ Some (Some n)
    marked b n (inl e) = let g = t.marked b n e in get_set_away marks a (Some m) b (taken b n g) ∙ g
    marked b n (inr (k, e)) = subst (λ (z : ℕ). slice_get (slice_set marks a (Some m)) z ≡ Some (Some n)) e (get_set_here marks a (Some m) low ∙ ap (λ (z : ℕ). Some (Some z)) (long ∙ sym k))

    listed : (b n : ℕ) → slice_get (slice_set marks a (Some m)) b ≡ Some (Some n) → ((b ≡ a) ⊎ (b ≢ a)) → slice_get (xs ++ a ∷ []) n ≡ Some b
    listed b n e (inl same) =
        let g : Some (Some m) ≡ Some (Some n) = sym (get_set_here marks a (Some m) low) ∙ subst (λ (z : ℕ). slice_get (slice_set marks a (Some m)) z ≡ Some (Some n)) same e in
        let f : m ≡ n = same_Some _ _ (same_Some _ _ g) in
        subst (λ (z : ℕ). slice_get (xs ++ a ∷ []) z ≡ Some b) (sym long ∙ f) (get_last xs a ∙ ap Some (sym same))
    listed b n e (inr d) = get_front xs (a ∷ []) n b (t.listed b n (sym (get_set_away marks a (Some m) b d) ∙ e))

one_place : (marks : List (Option ℕ)) (xs : List ℕ) (n m a : ℕ) → Numbers marks xs → slice_get xs n ≡ Some a → slice_get xs m ≡ Some a → n ≡ m
one_place marks xs n m a t e g =
    let f : Some (Some n) ≡ Some (Some m) = sym (t.marked a n e) ∙ t.marked a m g in
    same_Some _ _ (same_Some _ _ f)

once_each : (xs : List ℕ) → ((n m a : ℕ) → slice_get xs n ≡ Some a → slice_get xs m ≡ Some a → n ≡ m) → Distinct xs
once_each [] h = tt
once_each (x ∷ xs) h = (
  all_by_in (λ y. x ≢ y) xs (λ a i e. (let p = position xs a i in let z = h zero (suc p.0) a (ap Some e) p.1 in absurd (omega (arith, z)))),
  once_each xs (λ n m a e g. (let z = h (suc n) (suc m) a e g in omega (arith, z))),
)

answer_pair : (xs ys : List ℕ) (n a b : ℕ) → Distinct xs → slice_get xs n ≡ Some a → slice_get ys n ≡ Some b → answer xs ys a ≡ b
answer_pair [] ys n a b d e g = absurd (cc)
answer_pair (x ∷ xs) [] n a b d e g = absurd (cc)
answer_pair (x ∷ xs) (y ∷ ys) zero a b d e g = answer_here x y xs ys a (same_Some _ _ e) ∙ same_Some _ _ g
answer_pair (x ∷ xs) (y ∷ ys) (suc n) a b d e g = answer_on x y xs ys a (in_by_all (λ z. x ≢ z) xs a d.0 (in_at xs n a e)) ∙ answer_pair xs ys n a b d.1 e g

-- ---- pairs are made

pub no_twins : (p : Pairs) (f b : List (Option ℕ)) → p.forth ≡ blank f → p.back ≡ blank b → p.lefts ≡ [] → p.rights ≡ [] → AreTwins p
no_twins p f b fs bs ls rs = record {
  left = subst (λ (ms : List (Option ℕ)). Numbers ms p.lefts) (sym fs) (subst (λ (xs : List ℕ). Numbers (blank f) xs) (sym ls) (no_numbers f));
  right = subst (λ (ms : List (Option ℕ)). Numbers ms p.rights) (sym bs) (subst (λ (xs : List ℕ). Numbers (blank b) xs) (sym rs) (no_numbers b));
  long = ap length ls ∙ sym (ap length rs);
}

twins_added : (p q : Pairs) (c d : ℕ) → AreTwins p → slice_get p.forth c ≡ Some None → slice_get p.back d ≡ Some None → Adds p c d q → AreTwins q
twins_added p q c d t free free' a = record {
  left = number_added p.forth q.forth p.lefts q.lefts c (length p.lefts) t.left free refl a.lefts a.forth;
  right = number_added p.back q.back p.rights q.rights d (length p.lefts) t.right free' t.long a.rights a.back;
  long = (
      let l = length-append p.lefts (c ∷ []) in
      let r = length-append p.rights (d ∷ []) in
      let ls = ap length a.lefts in
      let rs = ap length a.rights in
      let same = t.long in
      omega (arith, l, r, ls, rs, same));
}

pub first_twins : (p q : Pairs) (f b : List (Option ℕ)) (c d : ℕ) → p.forth ≡ blank f → p.back ≡ blank b → p.lefts ≡ [] → p.rights ≡ [] → c < length f → d < length b → Adds p c d q → AreTwins q
first_twins p q f b c d fs bs ls rs low low' = twins_added p q c d (no_twins p f b fs bs ls rs)
    (ap (λ (ms : List (Option ℕ)). slice_get ms c) fs ∙ get_blank f c low) (ap (λ (ms : List (Option ℕ)). slice_get ms d) bs ∙ get_blank b d low')

-- the other of a pair
other_right : (p : Pairs) (n a : ℕ) → AreTwins p → slice_get p.lefts n ≡ Some a → (b : ℕ) × (slice_get p.rights n ≡ Some b)
other_right p n a t e = let l = get_below p.lefts n a e in let same = t.long in get_there p.rights n (omega (arith, l, same))

other_left : (p : Pairs) (n b : ℕ) → AreTwins p → slice_get p.rights n ≡ Some b → (a : ℕ) × (slice_get p.lefts n ≡ Some a)
other_left p n b t e = let l = get_below p.rights n b e in let same = t.long in get_there p.lefts n (omega (arith, l, same))

-- nothing is added
stays : (p : Pairs) (c d : ℕ) (made : Bool) → AreTwins p → (made ≡ true → (n : ℕ) × IsPair p n c d) → (made ≡ false → Clash p c d) → Joins p c d p made
stays p c d made t y n = record { twins = t; front = λ n a b i. i; new = λ n a b i. inl i; longer = omega arith; yes = y; not_made = n }

-- both have a number
pub both_numbered : (p : Pairs) (c d j k : ℕ) → slice_get p.forth c ≡ Some (Some j) → slice_get p.back d ≡ Some (Some k) → AreTwins p → Joins p c d p (nat_eq j k)
both_numbered p c d j k e g t = by (cases_eq j k)
  where
    left : slice_get p.lefts j ≡ Some c
    left = t.left.listed c j e

    by : ((j ≡ k) ⊎ (j ≢ k)) → Joins p c d p (nat_eq j k)
    by (inl same) = stays p c d (nat_eq j k) t (λ y. (j, (left, subst (λ (z : ℕ). slice_get p.rights z ≡ Some d) (sym same) (t.right.listed d k g))))
        (λ n. (let y : nat_eq j k ≡ true = ap (nat_eq j) (sym same) ∙ equal_itself j in absurd (cc)))
    by (inr apart) = stays p c d (nat_eq j k) t (λ y. (let n = unequal j k apart in absurd (cc)))
        (λ n. (let b = other_right p j c t left in (
          j,
          c,
          b.0,
          (left, b.1),
          inl (
            refl,
            λ same.
                apart (one_place p.back p.rights j k d t.right (b.1 ∙ ap Some same) (t.right.listed d k g)),
          ),
        )))

-- one has
pub left_numbered : (p : Pairs) (c d j : ℕ) → slice_get p.forth c ≡ Some (Some j) → slice_get p.back d ≡ Some None → AreTwins p → Joins p c d p false
left_numbered p c d j e g t = stays p c d false t (λ y. absurd (cc)) (λ n. (
    let left = t.left.listed c j e in
    let b = other_right p j c t left in (
      j,
      c,
      b.0,
      (left, b.1),
      inl (
        refl,
        λ same. (
            let f : Some (Some j) ≡ Some None = sym (t.right.marked d j (b.1 ∙ ap Some same)) ∙ g in
            let f' : Some j ≡ None = same_Some _ _ f in
            absurd (cc)),
      ),
    )))

pub right_numbered : (p : Pairs) (c d k : ℕ) → slice_get p.forth c ≡ Some None → slice_get p.back d ≡ Some (Some k) → AreTwins p → Joins p c d p false
right_numbered p c d k e g t = stays p c d false t (λ y. absurd (cc)) (λ n. (
    let right = t.right.listed d k g in
    let a = other_left p k d t right in (
      k,
      a.0,
      d,
      (a.1, right),
      inr (
        (λ same. (
            let f : Some (Some k) ≡ Some None = sym (t.left.marked c k (a.1 ∙ ap Some same)) ∙ e in
            let f' : Some k ≡ None = same_Some _ _ f in
            absurd (cc))),
        refl,
      ),
    )))

-- a pair is added
pub pair_added : (p q : Pairs) (c d : ℕ) → slice_get p.forth c ≡ Some None → slice_get p.back d ≡ Some None → Adds p c d q → AreTwins p → Joins p c d q true
pair_added p q c d free free' a t = record {
  twins = twins_added p q c d t free free' a;
  front = λ n x y i. (in_front p.lefts q.lefts c n x a.lefts i.0, in_front p.rights q.rights d n y a.rights i.1);
  new = λ n x y i. new n x y i (get_either p.lefts c n x (ap (λ (xs : List ℕ). slice_get xs n) (sym a.lefts) ∙ i.0)) (get_either p.rights d n y (ap (λ (xs : List ℕ). slice_get xs n) (sym a.rights) ∙ i.1));
  longer = (let l = length-append p.lefts (c ∷ []) in let ls = ap length a.lefts in omega (arith, l, ls));
  yes = λ y. (
    length p.lefts,
    (
      ap (λ (xs : List ℕ). slice_get xs (length p.lefts)) a.lefts ∙ get_last p.lefts c,
      ap (λ (xs : List ℕ). slice_get xs (length p.lefts)) a.rights ∙ subst (λ (z : ℕ). slice_get (p.rights ++ d ∷ []) z ≡ Some d) (sym t.long) (get_last p.rights d),
    ),
  );
  not_made = λ n. absurd (cc);
}
  where
    in_front : (xs ys : List ℕ) (z n x : ℕ) → ys ≡ xs ++ z ∷ [] → slice_get xs n ≡ Some x → slice_get ys n ≡ Some x
    in_front xs ys z n x e i = ap (λ (zs : List ℕ). slice_get zs n) e ∙ get_front xs (z ∷ []) n x i

    new : (n x y : ℕ) → IsPair q n x y → ((slice_get p.lefts n ≡ Some x) ⊎ ((n ≡ length p.lefts) × (c ≡ x))) → ((slice_get p.rights n ≡ Some y) ⊎ ((n ≡ length p.rights) × (d ≡ y))) → IsPair p n x y ⊎ ((x ≡ c) × (y ≡ d))
    new n x y i (inl e) (inl g) = inl (e, g)
    new n x y i (inr e) (inr g) = inr (sym e.1, sym g.1)
    new n x y i (inl e) (inr g) = let l = get_below p.lefts n x e in let m = g.0 in let same = t.long in absurd (omega (arith, l, m, same))
    new n x y i (inr e) (inl g) = let l = get_below p.rights n y g in let m = e.0 in let same = t.long in absurd (omega (arith, l, m, same))

-- ---- atoms and ports

-- atoms of one functor have one arity
pub one_arity : (h : Heap) (a b : ℕ) → Valid h → functor_of h b ≡ functor_of h a → IsAtom h a → arity_of h b ≡ arity_of h a
one_arity h a b v e i = by (functor_of h a) refl (there (h.atoms a) refl i)
  where
    there : (o : Option HeapAtom) → h.atoms a ≡ o → IsAtom h a → (f : Functor) × (functor_of h a ≡ Some f)
    there (Some x) g i = (x.functor, ap (λ (o : Option HeapAtom). Rattle.std.specs.Option.option_map (λ y. y.functor) o) g)
    there None g i = let z = subst (λ (o : Option HeapAtom). Rattle.std.specs.Option.IsSome o) g i in absurd (cc)

    by : (o : Option Functor) → functor_of h a ≡ o → ((f : Functor) × (functor_of h a ≡ Some f)) → arity_of h b ≡ arity_of h a
    by o g (f, is) = v.sound.shaped.ports b f (e ∙ is) ∙ sym (v.sound.shaped.ports a f is)

module _ (h : Heap) (x y : Port) (v : Valid h) where
  kept_agree : (p q : Pairs) → ((n a b : ℕ) → IsPair p n a b → IsPair q n a b) → (a b i : ℕ) → Agree h x y p a b i → Agree h x y q a b i
  kept_agree p q front a b i (inl e) = inl e
  kept_agree p q front a b i (inr (d, d', (j, c, e, n, l, l', is))) = inr (d, d', (j, c, e, n, l, l', front n c e is))

  -- pairs that were there
  pair_before : (p q : Pairs) (c d : ℕ) (made : Bool) (n a b : ℕ) → AreTwins p → Joins p c d q made → n < length p.lefts → IsPair q n a b → IsPair p n a b
  pair_before p q c d made n a b t j l is =
      let a' = get_there p.lefts n l in
      let b' = other_right p n a'.0 t a'.1 in
      let f = j.front n a'.0 b'.0 (a'.1, b'.1) in
      (a'.1 ∙ sym f.0 ∙ is.0, b'.1 ∙ sym f.1 ∙ is.1)

  joined_more : (p q : Pairs) (c d k : ℕ) (made : Bool) → Joins p c d q made → Reached (atom_map h) x c → Reached (atom_map h) y d → ((g : SameGraph (atom_map h) x (atom_map h) y) → g.to c ≡ d) → Comparing h x y p k → Comparing h x y q k
  joined_more p q c d k made j r r' same w = record {
    twins = j.twins;
    within = (let l = w.within in let m = j.longer in omega (arith, l, m));
    left = λ n a b i. elim (j.new n a b i) [ inl old ↦ w.left n a b old | inr e ↦ subst (Reached (atom_map h) x) (sym e.0) r ];
    right = λ n a b i. elim (j.new n a b i) [ inl old ↦ w.right n a b old | inr e ↦ subst (Reached (atom_map h) y) (sym e.1) r' ];
    first = j.front 0 x.0 y.0 w.first;
    functors = λ n a b l i. w.functors n a b l (before n a b l i);
    agree = λ n a b i l is m. kept_agree p q j.front a b i (w.agree n a b i l (before n a b l is) m);
    like = λ g n a b i. elim (j.new n a b i) [ inl old ↦ w.like g n a b old | inr e ↦ ap g.to e.0 ∙ same g ∙ sym e.1 ];
  }
    where
      before : (n a b : ℕ) → n < k → IsPair q n a b → IsPair p n a b
      before n a b l = pair_before p q c d made n a b w.twins j (let m = w.within in omega (arith, l, m))

  module _ (p : Pairs) (k a b i : ℕ) (w : ComparingAt h x y p k a b i) where
    next_port : Agree h x y p a b i → ComparingAt h x y p k a b (i + 1)
    next_port agree = record {
      comparing = w.comparing;
      at = w.at;
      functor = w.functor;
      before = λ j l. elim (cases_eq j i) [ inl same ↦ subst (λ (z : ℕ). Agree h x y p a b z) (sym same) agree | inr d ↦ w.before j (omega (arith, l, d)) ];
    }

    -- both are the roots
    pub roots_agree : ◌≡◌ {A = ℕ × ℕ} (a, i) x → ◌≡◌ {A = ℕ × ℕ} (b, i) y → ComparingAt h x y p k a b (i + 1)
    roots_agree e e' = next_port (inl (e, e'))

    image : (g : SameGraph (atom_map h) x (atom_map h) y) → g.to a ≡ b
    image g = w.comparing.like g k a b w.at

    reached : Reached (atom_map h) x a
    reached = w.comparing.left k a b w.at

    reached' : Reached (atom_map h) y b
    reached' = w.comparing.right k a b w.at

    -- one of them is
    pub left_root : ◌≡◌ {A = ℕ × ℕ} (a, i) x → ◌≢◌ {A = ℕ × ℕ} (b, i) y → SameGraph (atom_map h) x (atom_map h) y → ⊥
    left_root e d g =
        let u : a ≡ x.0 = ap (λ (r : ℕ × ℕ). r.0) e in
        let w' : i ≡ x.1 = ap (λ (r : ℕ × ℕ). r.1) e in
        let z : b ≡ g.to x.0 = sym (image g) ∙ ap g.to u in
        let s : ◌≡◌ {A = ℕ × ℕ} (b, i) (g.to x.0, x.1) = λ m. (z m, w' m) in
        d (s ∙ g.root)

    module _ (to from : ℕ × ℕ) (apart : ◌≢◌ {A = ℕ × ℕ} (a, i) x) (apart' : ◌≢◌ {A = ℕ × ℕ} (b, i) y) (link : link_of h a i ≡ Some to) (link' : link_of h b i ≡ Some from) where
      reached_to : Reached (atom_map h) x to.0
      reached_to = across reached apart link

      reached_from : Reached (atom_map h) y from.0
      reached_from = across reached' apart' link'

      ends_alike : (g : SameGraph (atom_map h) x (atom_map h) y) → (g.to to.0 ≡ from.0) × (to.1 ≡ from.1)
      ends_alike g =
          let l = (g.joined a to.0 i to.1 reached reached_to).0 link in
          let l' : link_of h b i ≡ Some (g.to to.0, to.1) = subst (λ (z : ℕ). link_of h z i ≡ Some (g.to to.0, to.1)) (image g) l in
          same_port (sym l' ∙ link')

      pub index_differs : to.1 ≢ from.1 → SameGraph (atom_map h) x (atom_map h) y → ⊥
      index_differs d g = d (ends_alike g).1

      pub clash_differs : Clash p to.0 from.0 → SameGraph (atom_map h) x (atom_map h) y → ⊥
      clash_differs (n, c, d, is, inl (same, differ)) g = differ (sym (w.comparing.like g n c d is) ∙ ap g.to same ∙ (ends_alike g).0)
      clash_differs (n, c, d, is, inr (differ, same)) g = differ (g.one_to_one c to.0 (w.comparing.left n c d is) reached_to (w.comparing.like g n c d is ∙ same ∙ sym (ends_alike g).0))

      pub ends_agree : (q : Pairs) (made : Bool) → to.1 ≡ from.1 → Joins p to.0 from.0 q made → Tells made (ComparingAt h x y q k a b (i + 1)) (SameGraph (atom_map h) x (atom_map h) y)
      ends_agree q made same j = ((λ e. on e), (λ e. clash_differs (j.not_made e)))
        where
          on : made ≡ true → ComparingAt h x y q k a b (i + 1)
          on e =
              let n = j.yes e in
              record {
                comparing = joined_more p q to.0 from.0 k made j reached_to reached_from (λ g. (ends_alike g).0) w.comparing;
                at = j.front k a b w.at;
                functor = w.functor;
                before = λ m l. elim (cases_eq m i) [
                  | inl here ↦ subst (λ (z : ℕ). Agree h x y q a b z) (sym here) (inr (apart, apart', (to.1, to.0, from.0, n.0, link, link' ∙ ap (λ (z : ℕ). Some (from.0, z)) (sym same), n.1)))
                  | inr d ↦ kept_agree p q j.front a b m (w.before m (omega (arith, l, d)))
                ];
              }

-- what is asked of the pairs' atoms and places
pub pair_atoms : (h : Heap) (x y : Port) (p : Pairs) (k n a b : ℕ) → Valid h → IsAtom h x.0 → IsAtom h y.0 → Comparing h x y p k → IsPair p n a b → IsAtom h a × IsAtom h b
pair_atoms h x y p k n a b v i i' w is = (reached_atom h x a v i (w.left n a b is), reached_atom h y b v i' (w.right n a b is))

-- the comparison begins with the roots
pub comparing_first : (h : Heap) (x y : Port) (p : Pairs) → AreTwins p → IsPair p 0 x.0 y.0 → ((n a b : ℕ) → IsPair p n a b → (a ≡ x.0) × (b ≡ y.0)) → Comparing h x y p 0
comparing_first h x y p t first only = record {
  twins = t;
  within = omega arith;
  left = λ n a b i. subst (Reached (atom_map h) x) (sym (only n a b i).0) at_root;
  right = λ n a b i. subst (Reached (atom_map h) y) (sym (only n a b i).1) at_root;
  first = first;
  functors = λ n a b l i. absurd (omega (arith, l));
  agree = λ n a b i l is m. absurd (omega (arith, l));
  like = λ g n a b i. ap g.to (only n a b i).0 ∙ ap (λ (r : ℕ × ℕ). r.0) g.root ∙ sym (only n a b i).1;
}

-- and leaves it where all ports agree
pub pair_compared : (h : Heap) (x y : Port) (p : Pairs) (k a b i n : ℕ) → n ≡ arity_of h a → n ≤ i → ComparingAt h x y p k a b i → Comparing h x y p (k + 1)
pair_compared h x y p k a b i n e l w = record {
  twins = w.comparing.twins;
  within = (let m = get_below p.lefts k a w.at.0 in omega (arith, m));
  left = w.comparing.left;
  right = w.comparing.right;
  first = w.comparing.first;
  functors = λ m c d low is. elim (cases_eq m k) [
    | inl same ↦ (let u = here m c d same is in ap (functor_of h) (sym u.1) ∙ w.functor ∙ ap (functor_of h) u.0)
    | inr apart ↦ w.comparing.functors m c d (omega (arith, low, apart)) is
  ];
  agree = λ m c d j low is few. elim (cases_eq m k) [
    | inl same ↦ (
        let u = here m c d same is in
        subst (λ (z : ℕ). Agree h x y p z d j) u.0 (subst (λ (z : ℕ). Agree h x y p a z j) u.1
        (w.before j (let few' = subst (λ (z : ℕ). j < arity_of h z) (sym u.0) few in omega (arith, few', e, l)))))
    | inr apart ↦ w.comparing.agree m c d j (omega (arith, low, apart)) is few
  ];
  like = w.comparing.like;
}
  where
    here : (m c d : ℕ) → m ≡ k → IsPair p m c d → (a ≡ c) × (b ≡ d)
    here m c d same is = (
      same_Some _ _ (sym w.at.0 ∙ subst (λ (z : ℕ). slice_get p.lefts z ≡ Some c) same is.0),
      same_Some _ _ (sym w.at.1 ∙ subst (λ (z : ℕ). slice_get p.rights z ≡ Some d) same is.1),
    )

-- parts whose pairs all agree are equal
module _ (h : Heap) (x y : Port) (v : Valid h) (p : Pairs) (k : ℕ) (w : Comparing h x y p k) (ended : length p.lefts ≤ k) (port : x.1 ≡ y.1) (root : IsAtom h x.0) where
  low : (n a b : ℕ) → IsPair p n a b → n < k
  low n a b is = let l = get_below p.lefts n a is.0 in omega (arith, l, ended)

  pair_left : (a : ℕ) → In a p.lefts → (n : ℕ) × (b : ℕ) × IsPair p n a b
  pair_left a i = let n = position p.lefts a i in let b = other_right p n.0 a w.twins n.1 in (n.0, b.0, (n.1, b.1))

  pair_right : (b : ℕ) → In b p.rights → (n : ℕ) × (a : ℕ) × IsPair p n a b
  pair_right b i = let n = position p.rights b i in let a = other_left p n.0 b w.twins n.1 in (n.0, a.0, (a.1, n.1))

  same_arity' : (n a b i : ℕ) → IsPair p n a b → i < arity_of h b → arity_of h a ≡ arity_of h b
  same_arity' n a b i is l = one_arity h b a v (sym (w.functors n a b (low n a b is) is)) (is_atom_at h b i l)

  left_all : (a : ℕ) → Reached (atom_map h) x a → In a p.lefts
  left_all a at_root = in_at p.lefts 0 x.0 w.first.0
  left_all a (across {a = c} {i = i} {j = j} r d e) =
      let q = pair_left c (left_all c r) in
      by (w.agree q.0 c q.1 i (low q.0 c q.1 q.2) q.2 (port_within h c i (a, j) e))
    where
      by : {b : ℕ} → Agree h x y p c b i → In a p.lefts
      by (inl same) = absurd (d same.0)
      by (inr (apart, apart', (j', a', b', n, link, link', is))) = subst (λ (z : ℕ). In z p.lefts) (same_port (sym link ∙ e)).0 (in_at p.lefts n a' is.0)

  right_all : (b : ℕ) → Reached (atom_map h) y b → In b p.rights
  right_all b at_root = in_at p.rights 0 y.0 w.first.1
  right_all b (across {a = c} {i = i} {j = j} r d e) =
      let q = pair_right c (right_all c r) in
      let l = port_within h c i (b, j) e in
      let same = same_arity' q.0 q.1 c i q.2 l in
      by (w.agree q.0 q.1 c i (low q.0 q.1 c q.2) q.2 (omega (arith, l, same)))
    where
      by : {a : ℕ} → Agree h x y p a c i → In b p.rights
      by (inl same) = absurd (d same.1)
      by (inr (apart, apart', (j', a', b', n, link, link', is))) = subst (λ (z : ℕ). In z p.rights) (same_port (sym link' ∙ e)).0 (in_at p.rights n b' is.1)

  once : Distinct p.lefts
  once = once_each p.lefts (λ n m a e g. one_place p.forth p.lefts n m a w.twins.left e g)

  once' : Distinct p.rights
  once' = once_each p.rights (λ n m a e g. one_place p.back p.rights n m a w.twins.right e g)

  answers : (n a b : ℕ) → IsPair p n a b → answer p.lefts p.rights a ≡ b
  answers n a b is = answer_pair p.lefts p.rights n a b once is.0 is.1

  pub all_agree : SameGraph (atom_map h) x (atom_map h) y
  all_agree = agree_same h x y p.lefts p.rights v.sound
      (record { atoms = λ a r. tt; ends = λ a i r l d. v.full a i l })
      (once, λ a. ((λ i. (let q = pair_left a i in w.left q.0 a q.1 q.2)), left_all a))
      (once', λ b. ((λ i. (let q = pair_right b i in w.right q.0 q.1 b q.2)), right_all b))
      w.twins.long (answers 0 x.0 y.0 w.first) port
      (λ a i. (let q = pair_left a i in ap (functor_of h) (answers q.0 a q.1 q.2) ∙ w.functors q.0 a q.1 (low q.0 a q.1 q.2) q.2))
      (λ a i. (let q = pair_left a i in ap (arity_of h) (answers q.0 a q.1 q.2) ∙ one_arity h a q.1 v (w.functors q.0 a q.1 (low q.0 a q.1 q.2) q.2) (there a i)))
      (λ a i b j is d e. (let q = pair_left a is in by a i b j q.0 q.1 q.2 d e (w.agree q.0 a q.1 i (low q.0 a q.1 q.2) q.2 (port_within h a i (b, j) e))))
      (λ a i b j e. port_within h a i (b, j) e)
    where
      there : (a : ℕ) → In a p.lefts → IsAtom h a
      there a i = let q = pair_left a i in reached_atom h x a v root (w.left q.0 a q.1 q.2)

      by : (a i b j n c : ℕ) → IsPair p n a c → ◌≢◌ {A = ℕ × ℕ} (a, i) x → link_of h a i ≡ Some (b, j) → Agree h x y p a c i → link_of h (answer p.lefts p.rights a) i ≡ Some (answer p.lefts p.rights b, j)
      by a i b j n c is d e (inl same) = absurd (d same.0)
      by a i b j n c is d e (inr (apart, apart', (j', a', b', m, link, link', at))) =
          let u = same_port (sym link ∙ e) in
          let z : answer p.lefts p.rights b ≡ b' = ap (answer p.lefts p.rights) (sym u.0) ∙ answers m a' b' at in
          ap (λ (q : ℕ). link_of h q i) (answers n a c is) ∙ link' ∙ ap (λ (r : ℕ × ℕ). Some r) (λ t. (sym z t, u.1 t))

-- a test that says no
pub port_differs : {A : Type 0} {same : Bool} → (A → same ≡ true) → same ≡ false → A → ⊥
port_differs h e a = let z = h a in absurd (cc)

-- a port at the first root
pub first_port : (h : Heap) (x y : Port) → Valid h → (p : Pairs) (k a b i j : ℕ) (same : Bool) → i ≡ j → ◌≡◌ {A = ℕ × ℕ} (a, i) x → ((same ≡ true) ↔ (◌≡◌ {A = ℕ × ℕ} (b, j) y)) → ComparingAt h x y p k a b i
    → Tells same (ComparingAt h x y p k a b (i + 1)) (SameGraph (atom_map h) x (atom_map h) y)
first_port h x y v p k a b i j same e root is w = (
  λ z. roots_agree h x y v p k a b i w root (subst (λ (m : ℕ). ◌≡◌ {A = ℕ × ℕ} (b, m) y) (sym e) (is.0 z)),
  λ z. left_root h x y v p k a b i w root (λ g. port_differs is.1 z (subst (λ (m : ℕ). ◌≡◌ {A = ℕ × ℕ} (b, m) y) e g)),
)

-- two ports elsewhere, whose ends have another index or are made a pair
module _ (h : Heap) (x y : Port) (v : Valid h) (p : Pairs) (k a b i j : ℕ) (to from : ℕ × ℕ) (e : i ≡ j) (apart : ◌≢◌ {A = ℕ × ℕ} (a, i) x) (apart' : ◌≢◌ {A = ℕ × ℕ} (b, j) y)
    (link : link_of h a i ≡ Some to) (link' : link_of h b j ≡ Some from) (w : ComparingAt h x y p k a b i) where
  apart_here : ◌≢◌ {A = ℕ × ℕ} (b, i) y
  apart_here = subst (λ (m : ℕ). ◌≢◌ {A = ℕ × ℕ} (b, m) y) (sym e) apart'

  link_here : link_of h b i ≡ Some from
  link_here = subst (λ (m : ℕ). link_of h b m ≡ Some from) (sym e) link'

  pub other_index : to.1 ≢ from.1 → SameGraph (atom_map h) x (atom_map h) y → ⊥
  other_index = index_differs h x y v p k a b i w to from apart apart_here link link_here

  pub made_pair : (q : Pairs) (made : Bool) → to.1 ≡ from.1 → (AreTwins p → Joins p to.0 from.0 q made) → Tells made (ComparingAt h x y q k a b (i + 1)) (SameGraph (atom_map h) x (atom_map h) y)
  made_pair q made same joins = ends_agree h x y v p k a b i w to from apart apart_here link link_here q made same (joins w.comparing.twins)

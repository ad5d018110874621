-- Atoms of a membrane besides those of typed contexts.
use Rattle.std.proofs.Common.{ℕ, zero, suc, ◌≡◌, ◌≢◌, ◌<◌, ◌≤◌, ◌+◌, ◌-◌, ◌⊎◌, inl, inr, List, [], ◌∷◌, Some, pos, refl, arith, ap, sym, subst, length, get_or, take, ◌∙◌}
use Rattle.std.specs.Prelude.{slice_get}
use Rattle.std.specs.List.{AllByRecursion}
use Rattle.lmn_base.specs.Graphs.{Reached, at_root}
use Rattle.lmn_store_heap.specs.Heap.{Heap, Distinct, atoms_in, home_of, port_id}
use Rattle.lmn_store_heap.specs.Lists.{without}
use Rattle.lmn_store_heap.specs.Graphs.{atom_map}
use Rattle.lmn_store_heap.specs.Sound.{Sound}
use Rattle.lmn_store_heap.proofs.ListLemmas.{each_in, in_without}
use Rattle.lmn_store_heap.proofs.Listing.{in_without_of, distinct_without, home_is}
use Rattle.lmn_store_heap.proofs.Pigeonholes.{length_without, not_longer}
use Rattle.lmn_ground.specs.Spread.{AreAtoms}
use Rattle.lmn_instr_code.specs.Running.{HeadRegisters, HasOthers, IsInSome}
use Rattle.lmn_machine_registers.specs.declared.registers.SetRegisters.{SetRegisters}
use Rattle.lmn_machine_registers.specs.Agreeing.{Agrees}
use Rattle.lmn_machine.specs.Searching.{AreHeldWhole}
use Rattle.lmn_machine.proofs.Apart.{one_or_apart}
use Rattle.lmn_base.proofs.Lists.{value_or, get_there}
use Rattle.lmn_base.proofs.Numbers.{same_or_not as number_cases}
use Rattle.lmn_store_heap.proofs.Common.{home_placed}
use Rattle.lmn_base.specs.Lists.{In}

-- what holds of each holds of the one at a place
pub each_at : (P : ℕ → Type 0) (xs : List ℕ) (i : ℕ) → AllByRecursion P xs → i < length xs → P (get_or xs i 0)
each_at P [] i each l = absurd (omega (arith, l))
each_at P (x ∷ xs) zero each l = each.0
each_at P (x ∷ xs) (suc i) each l = each_at P xs i each.1 (omega (arith, l))

-- What is left of a list without the elements of another.
record TakenOut (ys xs : List ℕ) : Type 0 where
  left : List ℕ
  once : Distinct left
  count : length left + length ys ≡ length xs
  there : (b : ℕ) → In b left → In b xs
  apart : (b : ℕ) → In b left → In b ys → ⊥
  rest : (b : ℕ) → In b xs → In b left ⊎ In b ys

take_out : (ys xs : List ℕ) → Distinct xs → Distinct ys → ((b : ℕ) → In b ys → In b xs) → TakenOut ys xs
take_out [] xs d e sub = record { left = xs; once = d; count = omega arith; there = λ b s. s; apart = λ b s t. t; rest = λ b s. inl s }
take_out (y ∷ ys) xs d e sub =
    let l = length_without y xs (sub y (inl refl)) in
    let t = take_out ys (without y xs) (distinct_without y xs d) e.1 (λ b s. in_without y b xs (sub b (inr s)) (λ f. each_in (λ z. y ≢ z) ys b e.0 s (sym f))) in
    record {
      left = t.left;
      once = t.once;
      count = (let c = t.count in omega (arith, l, c));
      there = λ b s. (in_without_of y b xs d (t.there b s)).0;
      apart = λ b s u. elim u [ inl f ↦ (in_without_of y b xs d (t.there b s)).1 (sym f) | inr v ↦ t.apart b s v ];
      rest = λ b s. elim (number_cases b y) [ inl f ↦ inr (inl (sym f)) | inr n ↦ elim (t.rest b (in_without y b xs s n)) [ inl u ↦ inl u | inr v ↦ inr (inr v) ] ];
    }

-- Counting with nothing left out.
pub counts_all : (P : ℕ → Type 0) (n : ℕ) (xs : List ℕ) → ((b : ℕ) → P b → ⊥) → Distinct xs → n ≡ length xs → HasOthers P n xs
counts_all P n xs none d e = record { others = xs; differ = d; count = sym e; there = λ b s. s; apart = λ b s t. none b t; rest = λ b s. inl s }

-- What is left out matters within the list alone.
others_as : (P Q : ℕ → Type 0) (n : ℕ) (xs : List ℕ) → ((b : ℕ) → In b xs → P b → Q b) → ((b : ℕ) → In b xs → Q b → P b) → HasOthers P n xs → HasOthers Q n xs
others_as P Q n xs f g o = record {
  others = o.others;
  differ = o.differ;
  count = o.count;
  there = o.there;
  apart = λ b s q. o.apart b s (g b (o.there b s) q);
  rest = λ b s. elim (o.rest b s) [ inl t ↦ inl t | inr p ↦ inr (f b s p) ];
}

-- The number of the others is one.
pub others_count : (P : ℕ → Type 0) (m n : ℕ) (xs : List ℕ) → HasOthers P m xs → HasOthers P n xs → m ≡ n
others_count P m n xs o u =
    let within : (a b : ℕ) → HasOthers P a xs → HasOthers P b xs → a ≤ b = λ a b v w.
    (let l = not_longer v.others w.others v.differ (λ k s. elim (w.rest k (v.there k s)) [ inl t ↦ t | inr p ↦ absurd (v.apart k s p) ]) in
    let c = v.count in let d = w.count in omega (arith, l, c, d)) in
    let x = within m n o u in let y = within n m u o in omega (arith, x, y)

-- More elements are left out, of which none was before.
others_less : (P R : ℕ → Type 0) (n : ℕ) (xs ys : List ℕ) → Distinct ys → ((b : ℕ) → In b ys → R b) → ((b : ℕ) → R b → In b ys) → ((b : ℕ) → R b → In b xs) → ((b : ℕ) → R b → P b → ⊥) →
    HasOthers P n xs → (length ys ≤ n) × HasOthers (λ b. P b ⊎ R b) (n - length ys) xs
others_less P R n xs ys d f g sub apart o =
    let t = take_out ys o.others o.differ d (λ b s. elim (o.rest b (sub b (f b s))) [ inl u ↦ u | inr p ↦ absurd (apart b (f b s) p) ]) in
    let c = t.count in
    let e = o.count in (
      omega (arith, c, e),
      record {
        others = t.left;
        differ = t.once;
        count = omega (arith, c, e);
        there = λ b s. o.there b (t.there b s);
        apart = λ b s u. elim u [ inl p ↦ o.apart b (t.there b s) p | inr r ↦ t.apart b s (g b r) ];
        rest = λ b s. elim (o.rest b s) [ inl u ↦ elim (t.rest b u) [ inl v ↦ inl v | inr w ↦ inr (inr (f b w)) ] | inr p ↦ inr (inl p) ];
      },
    )

-- a number of a list that lies below another
pub listed_below : (n : ℕ) (gs : List ℕ) (i g : ℕ) → AllByRecursion (λ k. k < n) gs → slice_get gs i ≡ Some g → g < n
listed_below n [] i g a e = absurd (cc)
listed_below n (k ∷ gs) zero g a e = let t : k ≡ g = cc in subst (λ x. x < n) t a.0
listed_below n (k ∷ gs) (suc i) g a e = listed_below n gs i g a.1 e

module _ (h : Heap) (s : HeadRegisters) where
  -- the parts of one register more
  pub some_more : (gs : List ℕ) (i g b : ℕ) → slice_get gs i ≡ Some g → IsInSome h s (take (suc i) gs) b → IsInSome h s (take i gs) b ⊎ Reached (atom_map h) (s.images.part g) b
  some_more [] i g b e t = absurd (cc)
  some_more (k ∷ gs) zero g b e (inl r) = let same : k ≡ g = cc in inr (subst (λ x. Reached (atom_map h) (s.images.part x) b) same r)
  some_more (k ∷ gs) zero g b e (inr u) = absurd u
  some_more (k ∷ gs) (suc i) g b e (inl r) = inl (inl r)
  some_more (k ∷ gs) (suc i) g b e (inr u) = elim (some_more gs i g b e u) [ inl v ↦ inl (inr v) | inr r ↦ inr r ]

  -- and back
  pub more_some : (gs : List ℕ) (i g b : ℕ) → slice_get gs i ≡ Some g → IsInSome h s (take i gs) b ⊎ Reached (atom_map h) (s.images.part g) b → IsInSome h s (take (suc i) gs) b
  more_some [] i g b e t = absurd (cc)
  more_some (k ∷ gs) zero g b e (inl u) = absurd u
  more_some (k ∷ gs) zero g b e (inr r) = let same : g ≡ k = cc in inl (subst (λ x. Reached (atom_map h) (s.images.part x) b) same r)
  more_some (k ∷ gs) (suc i) g b e (inl (inl r)) = inl r
  more_some (k ∷ gs) (suc i) g b e (inl (inr u)) = inr (more_some gs i g b e (inl u))
  more_some (k ∷ gs) (suc i) g b e (inr r) = inr (more_some gs i g b e (inr r))

  some_at : (gs : List ℕ) (i b : ℕ) → IsInSome h s (take i gs) b → (j k : ℕ) × ((j < i) × (slice_get gs j ≡ Some k) × Reached (atom_map h) (s.images.part k) b)
  some_at gs zero b t = absurd t
  some_at [] (suc i) b t = absurd t
  some_at (k ∷ gs) (suc i) b (inl r) = (0, k, (omega arith, refl, r))
  some_at (k ∷ gs) (suc i) b (inr u) = let t = some_at gs i b u in let l = t.2.0 in (suc t.0, t.1, (omega (arith, l), t.2.1, t.2.2))

  at_some : (gs : List ℕ) (i j k b : ℕ) → j < i → slice_get gs j ≡ Some k → Reached (atom_map h) (s.images.part k) b → IsInSome h s (take i gs) b
  at_some gs zero j k b l e r = absurd (omega (arith, l))
  at_some [] (suc i) j k b l e r = absurd (cc)
  at_some (g ∷ gs) (suc i) zero k b l e r = let same : k ≡ g = cc in inl (subst (λ x. Reached (atom_map h) (s.images.part x) b) same r)
  at_some (g ∷ gs) (suc i) (suc j) k b l e r = inr (at_some gs i j k b (omega (arith, l)) e r)

  others_more : (gs : List ℕ) (i g n : ℕ) (xs : List ℕ) → slice_get gs i ≡ Some g → HasOthers (λ b. IsInSome h s (take i gs) b ⊎ Reached (atom_map h) (s.images.part g) b) n xs → HasOthers (IsInSome h s (take (i + 1) gs)) n xs
  others_more gs i g n xs e o =
      let t : suc i ≡ i + 1 = omega arith in
      subst (λ k. HasOthers (IsInSome h s (take k gs)) n xs) t (others_as _ (IsInSome h s (take (suc i) gs)) n xs (λ b w u. more_some gs i g b e u) (λ b w u. some_more gs i g b e u) o)

  others_same : (gs : List ℕ) (i g n : ℕ) (xs : List ℕ) → slice_get gs i ≡ Some g → ((b : ℕ) → In b xs → Reached (atom_map h) (s.images.part g) b → IsInSome h s (take i gs) b) → HasOthers (IsInSome h s (take i gs)) n xs →
      (0 ≤ n) × HasOthers (IsInSome h s (take (i + 1) gs)) (n - 0) xs
  others_same gs i g n xs e f o =
      let t : n ≡ n - 0 = omega arith in (
        omega arith,
        subst (λ k. HasOthers (IsInSome h s (take (i + 1) gs)) k xs) t
            (others_more gs i g n xs e (others_as (IsInSome h s (take i gs)) _ n xs (λ b w u. inl u) (λ b w u. elim u [ inl v ↦ v | inr r ↦ f b w r ]) o)),
      )

module _ {A M : Type 0} (atom : A → ℕ) (membrane : M → ℕ) (h : Heap) (sound : Sound h) (set : SetRegisters A M) (held : AreHeldWhole atom membrane h set) (listed : List ℕ) (i g m : ℕ) (p : A × ℕ)
    (here : slice_get listed i ≡ Some g) (is : slice_get set.parts g ≡ Some p) where
  -- the atoms of a part stand where its root does
  part_home : (b : ℕ) → Reached (atom_map h) (port_id atom p) b → home_of h b ≡ home_of h (atom p.0)
  part_home b r = let w = (held.whole g p is).whole.1 in w.at_home b r ∙ sym (w.at_home (atom p.0) at_root)

  in_home : (b : ℕ) → In b (atoms_in h m) → home_of h b ≡ Some m
  in_home b s = home_placed (h.atoms b) m ((sound.listed.atoms m b).0 s)

  home_in : (b : ℕ) → home_of h b ≡ Some m → In b (atoms_in h m)
  home_in b e = (sound.listed.atoms m b).1 (home_is h b m e)

  -- a part in another membrane leaves nothing out
  pub elsewhere : (In (atom p.0) (atoms_in h m) → ⊥) → (s : HeadRegisters) (n : ℕ) → Agrees atom membrane set s → HasOthers (IsInSome h s (take i listed)) n (atoms_in h m) →
      (0 ≤ n) × HasOthers (IsInSome h s (take (i + 1) listed)) (n - 0) (atoms_in h m)
  elsewhere out s n a o = others_same h s listed i g n (atoms_in h m) here
      (λ b w r. absurd (out (home_in (atom p.0) (sym (part_home b (subst (λ q. Reached (atom_map h) q b) (a.parts g p is) r)) ∙ in_home b w)))) o

  -- nor does one that was there before
  pub again : (j k : ℕ) × ((q : A × ℕ) × (j < i) × (slice_get listed j ≡ Some k) × (slice_get set.parts k ≡ Some q) × (port_id atom q ≡ port_id atom p)) → (s : HeadRegisters) (n : ℕ) → Agrees atom membrane set s →
      HasOthers (IsInSome h s (take i listed)) n (atoms_in h m) → (0 ≤ n) × HasOthers (IsInSome h s (take (i + 1) listed)) (n - 0) (atoms_in h m)
  again (j, k, (q, l, e, at, same)) s n a o = others_same h s listed i g n (atoms_in h m) here
      (λ b w r. at_some h s listed i j k b l e (subst (λ x. Reached (atom_map h) x b) (a.parts g p is ∙ (sym same ∙ sym (a.parts k q at))) r)) o

  -- any other part has no atom in common with those before
  pub leaves_out : (In (atom p.0) (atoms_in h m)) → AllByRecursion (λ k. k < length set.parts) listed → ((j k : ℕ) (q : A × ℕ) → j < i → slice_get listed j ≡ Some k → slice_get set.parts k ≡ Some q → port_id atom q ≢ port_id atom p) →
      (size : ℕ) (ys : List ℕ) → AreAtoms h (port_id atom p) ys → length ys ≡ size → (s : HeadRegisters) (n : ℕ) → Agrees atom membrane set s →
      HasOthers (IsInSome h s (take i listed)) n (atoms_in h m) → (size ≤ n) × HasOthers (IsInSome h s (take (i + 1) listed)) (n - size) (atoms_in h m)
  leaves_out inside below new size ys are long s n a o =
      let part = a.parts g p is in
      let to : (b : ℕ) → Reached (atom_map h) (s.images.part g) b → Reached (atom_map h) (port_id atom p) b = λ b r. subst (λ q. Reached (atom_map h) q b) part r in
      let back : (b : ℕ) → Reached (atom_map h) (port_id atom p) b → Reached (atom_map h) (s.images.part g) b = λ b r. subst (λ q. Reached (atom_map h) q b) (sym part) r in
      let less = others_less (IsInSome h s (take i listed)) (λ b. Reached (atom_map h) (s.images.part g) b) n (atoms_in h m) ys are.0 (λ b u. back b ((are.1 b).0 u)) (λ b r. (are.1 b).1 (to b r))
      (λ b r. home_in b (part_home b (to b r) ∙ in_home (atom p.0) inside)) (λ b r u. meets b (to b r) (some_at h s listed i b u)) o in
      subst (λ k. (k ≤ n) × HasOthers (IsInSome h s (take (i + 1) listed)) (n - k) (atoms_in h m)) long (less.0, others_more h s listed i g (n - length ys) (atoms_in h m) here less.1)
    where
      meets : (b : ℕ) → Reached (atom_map h) (port_id atom p) b → (j k : ℕ) × ((j < i) × (slice_get listed j ≡ Some k) × Reached (atom_map h) (s.images.part k) b) → ⊥
      meets b r (j, k, (l, e, u)) =
          let q = get_there set.parts k (listed_below (length set.parts) listed j k below e) in
          let v = subst (λ x. Reached (atom_map h) x b) (a.parts k q.0 q.1) u in
          elim (one_or_apart atom h sound set.atoms p q.0 (held.whole g p is) (held.whole k q.0 q.1)) [
            | inl t ↦ new j k q.0 l e q.1 (ap (λ x. (x, q.0.1)) (sym t.0) ∙ ap (λ x. (atom p.0, x)) (sym t.1))
            | inr d ↦ d b r v
          ]

-- the registers that are set, by the numbers of what they hold
abbrev pub known : {A M : Type 0} → (A → ℕ) → (M → ℕ) → SetRegisters A M → HeadRegisters
known atom membrane g = record {
  images = record {
    atom = λ k. value_or atom 0 (slice_get g.atoms k);
    membrane = λ k. value_or membrane 0 (slice_get g.membranes k);
    part = λ k. value_or (port_id atom) (0, 0) (slice_get g.parts k);
  };
  integer = λ k. value_or (λ z. z) (pos 0) (slice_get g.integers k);
}

-- they agree with what is set
pub known_agrees : {A M : Type 0} (atom : A → ℕ) (membrane : M → ℕ) (g : SetRegisters A M) → Agrees atom membrane g (known atom membrane g)
known_agrees atom membrane g = record {
  atoms = λ k a e. ap (λ o. value_or atom 0 o) e;
  membranes = λ k m e. ap (λ o. value_or membrane 0 o) e;
  parts = λ k p e. ap (λ o. value_or (port_id atom) (0, 0) o) e;
  integers = λ k z e. ap (λ o. value_or (λ x. x) (pos 0) o) e;
}

-- What is left of a number of others, in a heap, where one part more is left out.
abbrev pub Fewer : {A M : Type 0} → (A → ℕ) → (M → ℕ) → SetRegisters A M → List ℕ → ℕ → ℕ → ℕ → Heap → Type 0
Fewer atom membrane set listed i m result h = (s : HeadRegisters) (n : ℕ) → Agrees atom membrane set s → HasOthers (IsInSome h s (take i listed)) n (atoms_in h m) →
    (result ≤ n) × HasOthers (IsInSome h s (take (i + 1) listed)) (n - result) (atoms_in h m)

-- none of the parts up to here is entered at a port
pub unlisted_next : {A : Type 0} (atom : A → ℕ) (listed : List ℕ) (parts : List (A × ℕ)) (root : ℕ × ℕ) (n k0 : ℕ) (p0 : A × ℕ) → slice_get listed n ≡ Some k0 → slice_get parts k0 ≡ Some p0 → port_id atom p0 ≢ root →
    ((j k : ℕ) (p : A × ℕ) → j < n → slice_get listed j ≡ Some k → slice_get parts k ≡ Some p → port_id atom p ≢ root) →
    (j k : ℕ) (p : A × ℕ) → j < n + 1 → slice_get listed j ≡ Some k → slice_get parts k ≡ Some p → port_id atom p ≢ root
unlisted_next {A} atom listed parts root n k0 p0 here at new before j k p l e f = elim (number_cases j n) [
  | inl same ↦ (
      let first : slice_get listed n ≡ Some k = subst (λ x. slice_get listed x ≡ Some k) same e in
      let number : k ≡ k0 = cc in
      let there : slice_get parts k0 ≡ Some p = subst (λ x. slice_get parts x ≡ Some p) number f in
      let part : p0 ≡ p = cc in
      subst (λ (q : A × ℕ). port_id atom q ≢ root) part new)
  | inr d ↦ before j k p (omega (arith, l, d)) e f
]

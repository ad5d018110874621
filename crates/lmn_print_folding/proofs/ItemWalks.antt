-- From each item on there is a walk, and what it enters are the terms in it.
use Rattle.std.proofs.Common.{◌≡◌, ◌≢◌, ℕ, zero, suc, ◌+◌, ◌-◌, ◌<◌, ◌≤◌, ◌⊎◌, inl, inr, true, false, if◌then◌else◌, List, [], ◌∷◌, length, Option, Some, None, refl, sym, ap, ◌∙◌, subst, arith, ◌^◌}
use Rattle.lmn_store_heap.specs.Heap.{Heap, IsAtom, arity_of, link_of}
use Rattle.lmn_store_heap.specs.Lists.{Distinct}
use Rattle.lmn_store_heap.specs.Sound.{Paired, AtMost}
use Rattle.lmn_store_heap.proofs.ListLemmas.{each_of}
use Rattle.lmn_store_heap.proofs.Pigeonholes.{not_longer}
use Rattle.lmn_print_folding.specs.Marks.{is_item, term_at, argument_count, Event, meets_link, meets_term, leaves, WalkMeets, link, term, end_of_term, end_of_item}
use Rattle.lmn_print_folding.proofs.FewTurns.{entered, end_there}
use Rattle.lmn_print_folding.proofs.PrintedWalks.{term_is}
use Rattle.lmn_print_folding.specs.Marking.{IsTermAt, IsTermIn, outer, inner}
use Rattle.lmn_base.proofs.Numbers.{same_or_not as number_cases}
use Rattle.lmn_store_heap.proofs.Common.{same_port}
use Rattle.lmn_base.specs.Lists.{In}

-- The way down to an atom: an item, and then terms, each in the one before it.
data Path (s : Heap) : ℕ → List ℕ → Type 0 where
  start : {a : ℕ} → IsAtom s a → is_item s a ≡ true → Path s a []
  below : {p c : ℕ} {above : List ℕ} (k : ℕ) → Path s p above → term_at s p k ≡ Some c → ¬ (In c (p ∷ above)) → Path s c (p ∷ above)

-- a walk that goes on behind the arguments of p with es
pub record Down (s : Heap) (p i : ℕ) (es : List Event) : Type 0 where
  pub walk : List Event
  pub is : WalkMeets s p i walk
  pub more : (x : ℕ) → In x (entered es) → In x (entered walk)
  pub ports : (k c : ℕ) → i ≤ k → IsTermAt s p k c → In c (entered walk)
  pub inside : (x : ℕ) → In x (entered walk) → In x (entered es) ⊎ ((k c : ℕ) → IsTermAt s x k c → In c (entered walk))

module _ (s : Heap) (paired : Paired s) where
  -- the last port of a term is joined to the port at which it stands
  pub term_back : (p k c : ℕ) → term_at s p k ≡ Some c → (link_of s c (arity_of s c - 1) ≡ Some (p, k)) × (0 < arity_of s c) × (is_item s c ≡ false)
  term_back p k c e =
      let t = term_is s p k c e in
      let long = t.2 in
      (ap (link_of s c) (let f : arity_of s c - 1 ≡ t.0 = omega (arith, long) in f) ∙ paired.back p k c t.0 t.1, omega (arith, long), t.3)

  -- the atom to which the last port of one on the way is joined is on the way
  parent_above : {p : ℕ} {above : List ℕ} → Path s p above → (v u j : ℕ) → In v (p ∷ above) → is_item s v ≡ false → link_of s v (arity_of s v - 1) ≡ Some (u, j) → In u above
  parent_above (start there is) v u j (inl e) plain l = absurd (let f : is_item s v ≡ true = subst (λ z. is_item s z ≡ true) e is in cc)
  parent_above (start there is) v u j (inr h) plain l = absurd h
  parent_above (below {p = p} {c = c} k h t n) v u j (inl e) plain l =
      let back = (term_back p k c t).0 in
      inl (same_port (sym back ∙ subst (λ z. link_of s z (arity_of s z - 1) ≡ Some (u, j)) (sym e) l)).0
  parent_above (below k h t n) v u j (inr i) plain l = inr (parent_above h v u j i plain l)

  not_twice : {p : ℕ} {above : List ℕ} → Path s p above → In p above → ⊥
  not_twice (start there is) h = h
  not_twice (below k h t n) i = n i

  new_one : {p : ℕ} {above : List ℕ} → Path s p above → (k c : ℕ) → term_at s p k ≡ Some c → In c (p ∷ above) → ⊥
  new_one {p} h k c t i = let b = term_back p k c t in not_twice h (parent_above h c p k i b.2 b.0)

  once : {p : ℕ} {above : List ℕ} → Path s p above → Distinct (p ∷ above)
  once (start there is) = (tt, tt)
  once (below {p = p} {c = c} {above = above} k h t n) = (each_of (λ y. c ≢ y) (p ∷ above) (λ y i e. n (subst (λ z. In z (p ∷ above)) (sym e) i)), once h)

  on_way : {p : ℕ} {above : List ℕ} → Path s p above → (v : ℕ) → In v (p ∷ above) → IsAtom s v
  on_way (start there is) v (inl e) = subst (IsAtom s) e there
  on_way (start there is) v (inr h) = absurd h
  on_way (below {p = p} {c = c} k h t n) v (inl e) = subst (IsAtom s) e (let l = term_is s p k c t in end_there s paired p k c l.0 l.1)
  on_way (below k h t n) v (inr i) = on_way h v i

  module _ (most : AtMost (2 ^ 48) s) where
    abbrev Goes : ℕ → Type 0
    Goes n = (p : ℕ) (above : List ℕ) → Path s p above → length most.atoms ≤ n + length above + 1 → (es : List Event) → WalkMeets s p (argument_count s p) es → Down s p 0 es

    module _ (n : ℕ) (again : (m : ℕ) → suc m ≡ n → Goes m) (p : ℕ) (above : List ℕ) (path : Path s p above) (room : length most.atoms ≤ n + length above + 1) (es : List Event) (w : WalkMeets s p (argument_count s p) es) where
      as_link : (i : ℕ) → i < argument_count s p → Down s p (i + 1) es → term_at s p i ≡ None → Down s p i es
      as_link i low d e = record {
        walk = meets_link p i ∷ d.walk;
        is = link low e d.is;
        more = d.more;
        ports = λ k c l t. elim (number_cases k i) [
          | inl f ↦ absurd (let h : term_at s p i ≡ Some c = subst (λ z. term_at s p z ≡ Some c) f t.term in cc)
          | inr f ↦ d.ports k c (omega (arith, l, f)) t
        ];
        inside = d.inside;
      }

      as_term : (i c : ℕ) → i < argument_count s p → Down s p (i + 1) es → term_at s p i ≡ Some c → Down s p i es
      as_term i c low d e = record {
        walk = meets_term p i c ∷ deeper.walk;
        is = term c low e deeper.is;
        more = λ x h. inr (deeper.more x (d.more x h));
        ports = λ k x l t. elim (number_cases k i) [
          | inl f ↦ inl (let h : term_at s p i ≡ Some x = subst (λ z. term_at s p z ≡ Some x) f t.term in let same : c ≡ x = cc in same)
          | inr f ↦ inr (deeper.more x (d.ports k x (omega (arith, l, f)) t))
        ];
        inside = inside;
      }
        where
          back : (link_of s c (arity_of s c - 1) ≡ Some (p, i)) × (0 < arity_of s c) × (is_item s c ≡ false)
          back = term_back p i c e

          way : Path s c (p ∷ above)
          way = below i path e (new_one path i c e)

          long : length above + 2 ≤ length most.atoms
          long = let l = not_longer (c ∷ p ∷ above) most.atoms (once way) (λ b h. most.all_atoms b (on_way way b h)) in omega (arith, l)

          end : WalkMeets s c (argument_count s c) (leaves c ∷ d.walk)
          end = end_of_term p i refl back.2 back.1 (ap (λ b. link_of s c (if b then arity_of s c else arity_of s c - 1)) back.2 ∙ back.0) d.is

          deeper : Down s c 0 (leaves c ∷ d.walk)
          deeper = again (n - 1) (omega (arith, room, long)) c (p ∷ above) way (omega (arith, room, long)) (leaves c ∷ d.walk) end

          further : (x : ℕ) → In x (entered d.walk) ⊎ ((k y : ℕ) → IsTermAt s x k y → In y (entered deeper.walk))
              → In x (entered es) ⊎ ((k y : ℕ) → IsTermAt s x k y → In y (c ∷ entered deeper.walk))
          further x (inr f) = inr (λ k y t. inr (f k y t))
          further x (inl h) = elim (d.inside x h) [
            | inl j ↦ inl j
            | inr f ↦ inr (λ k y t. inr (deeper.more y (f k y t)))
          ]

          inside : (x : ℕ) → In x (c ∷ entered deeper.walk) → In x (entered es) ⊎ ((k y : ℕ) → IsTermAt s x k y → In y (c ∷ entered deeper.walk))
          inside x (inl f) = inr (λ k y t. inr (deeper.ports k y (omega arith) (subst (λ z. IsTermAt s z k y) (sym f) t)))
          inside x (inr h) = further x (deeper.inside x h)

      one_port : (i : ℕ) → i < argument_count s p → Down s p (i + 1) es → Down s p i es
      one_port i low d = by (term_at s p i) refl
        where
          by : (o : Option ℕ) → term_at s p i ≡ o → Down s p i es
          by None e = as_link i low d e
          by (Some c) e = as_term i c low d e

      all_ports : (j i : ℕ) → i + j ≡ argument_count s p → Down s p i es
      all_ports zero i e = record {
        walk = es;
        is = subst (λ k. WalkMeets s p k es) (let f : argument_count s p ≡ i = omega (arith, e) in f) w;
        more = λ x h. h;
        ports = λ k c l t. absurd (let low = t.low in omega (arith, e, l, low));
        inside = λ x h. inl h;
      }
      all_ports (suc j) i e = one_port i (omega (arith, e)) (all_ports j (i + 1) (omega (arith, e)))

    goes : (n : ℕ) → Goes n
    goes zero p above path room es w = all_ports zero (λ m e. absurd (omega (arith, e))) p above path room es w (argument_count s p) 0 (omega arith)
    goes (suc n) p above path room es w =
        all_ports (suc n) (λ m e. let P : ℕ → Type 0 = Goes in subst P (let f : n ≡ m = omega (arith, e) in f) (goes n)) p above path room es w (argument_count s p) 0 (omega arith)

    -- from an item on
    pub item_walk : (a : ℕ) → IsAtom s a → is_item s a ≡ true → Down s a 0 (leaves a ∷ [])
    item_walk a there is = goes (length most.atoms) a [] (start there is) (omega arith) (leaves a ∷ []) (end_of_item refl is)

  -- each term in an item is entered
  pub terms_entered : (a : ℕ) (d : Down s a 0 (leaves a ∷ [])) (c : ℕ) → IsTermIn s a c → In c (entered d.walk)
  terms_entered a d c (outer {k = k} t) = d.ports k c (omega arith) t
  terms_entered a d c (inner {p = p} {k = k} h t) = elim (d.inside p (terms_entered a d p h)) [
    | inl i ↦ absurd i
    | inr f ↦ f k c t
  ]

  -- an item, or a term in it
  abbrev pub Holds : ℕ → ℕ → Type 0
  Holds a x = (x ≡ a) ⊎ IsTermIn s a x

  pub held : (a p k c : ℕ) → Holds a p → IsTermAt s p k c → IsTermIn s a c
  held a p k c (inl e) t = outer (subst (λ z. IsTermAt s z k c) e t)
  held a p k c (inr h) t = inner h t

  -- the atom to which the last port of a term in an item is joined is that item, or a term in it
  pub holder : (a x p j : ℕ) → IsTermIn s a x → link_of s x (arity_of s x - 1) ≡ Some (p, j) → Holds a p
  holder a x p j (outer {k = k} t) l = inl (same_port (sym l ∙ (term_back a k x t.term).0)).0
  holder a x p j (inner {p = q} {k = k} h t) l = inr (subst (IsTermIn s a) (same_port (sym (term_back q k x t.term).0 ∙ l)).0 h)

  pub term_no_item : (a x : ℕ) → IsTermIn s a x → is_item s x ≡ false
  term_no_item a x (outer {k = k} t) = (term_back a k x t.term).2
  term_no_item a x (inner {p = q} {k = k} h t) = (term_back q k x t.term).2

  -- what is entered is a term in the item
  pub entered_terms : (a : ℕ) → is_item s a ≡ true → (x i : ℕ) (es : List Event) → Holds a x → WalkMeets s x i es → (c : ℕ) → In c (entered es) → IsTermIn s a c
  entered_terms a is x i _ h (link l n w) c j = entered_terms a is x (i + 1) _ h w c j
  entered_terms a is x i _ h (term {es = es} d l t w) c (inl e) = subst (IsTermIn s a) e (held a x i d h (record { low = l; term = t }))
  entered_terms a is x i _ h (term {es = es} d l t w) c (inr j) = entered_terms a is d 0 es (inr (held a x i d h (record { low = l; term = t }))) w c j
  entered_terms a is x i _ (inl same) (end_of_term p k e plain ports l w) c j = absurd (let f : is_item s a ≡ false = subst (λ z. is_item s z ≡ false) same plain in cc)
  entered_terms a is x i _ (inr h) (end_of_term {es = es} p k e plain ports l w) c j =
      entered_terms a is p (k + 1) es (holder a x p k h (sym (ap (λ b. link_of s x (if b then arity_of s x else arity_of s x - 1)) plain) ∙ ap (link_of s x) (sym e) ∙ l)) w c j
  entered_terms a is x i _ h (end_of_item e it) c j = absurd j

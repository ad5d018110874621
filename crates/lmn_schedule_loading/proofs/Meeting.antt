-- Ports that meet class by class.
use Rattle.std.proofs.Common.{ℕ, zero, suc, ◌≡◌, ◌≢◌, ◌⊎◌, ◌+◌, ◌<◌, Bool, true, false, not, List, [], ◌∷◌, ◌++◌, map, Option, Some, None, IsSome, refl, sym, ap, subst, ◌∙◌, inl, inr, arith, append_assoc}
use Rattle.std.proofs.lemmas.Bool.{cases_eq, eq-eqb}
use Rattle.std.specs.Option.{option_map}
use Rattle.std.specs.Prelude.{slice_index_or}
use Rattle.lmn_store_heap.specs.Heap.{Heap, HeapAtom, mark_of, linked, cleared, arity_of, link_of, joined}
use Rattle.lmn_store_heap.specs.Splice.{IsPort}
use Rattle.lmn_store_heap.proofs.Listing.{joined_place}
use Rattle.lmn_store_heap.proofs.Ports.{SamePort, joined_a, joined_b, joined_other, joined_arity}
use Rattle.lmn_store_heap.proofs.Replacing.{joined_functor}
use Rattle.lmn_congruence_splice.specs.Splice.{IsOneOf, NoneTwice, TwiceOrNever, ports, links}
use Rattle.lmn_congruence_splice.proofs.EndLemmas.{in_ports, ports_in, one_link}
use Rattle.lmn_schedule_loading.specs.Joining.{flipped, held_after, met, MayMeet, AreFree, SameButPartners, OneClass, AreJoined}
use Rattle.lmn_schedule_loading.proofs.Composing.{links_both}
use Rattle.lmn_base.specs.Graphs.{Port}
use Rattle.lmn_congruence.specs.Links.{places}
use Rattle.lmn_base.proofs.Numbers.{not_equal as apart_test}
use Rattle.lmn_congruence.proofs.Counts.{none_if_apart as one_other, one_if_equal as one_same}
use Rattle.lmn_congruence_splice.proofs.Common.{in_append as either_in, in_back as right_in, in_front as left_in, ports_append}
use Rattle.lmn_congruence_splice.proofs.Joining.{same_some as some_is}
use Rattle.lmn_store_heap.proofs.Common.{linked_marks, cleared_marks}

abbrev odd : ℕ → Bool
odd zero = false
odd (suc n) = not (odd n)

abbrev is_some : Option Port → Bool
is_some None = false
is_some (Some p) = true

-- When the ports of `done` have met, and those of `left` haven't: a port that has met has a partner, or is held for its
-- class; a class holds a port where it had an odd number of them.
pub record Meets (m : ℕ → ℕ) (done left : List (Port × ℕ)) (s h : Heap) (held : ℕ → Option Port) : Type 0 where
  pub once : NoneTwice (ports (done ++ left))
  pub there : (p : Port) → IsOneOf p (ports (done ++ left)) → IsPort h p.0 p.1
  pub items : SameButPartners s h
  pub paired : (p : Port) (x : ℕ) → IsOneOf {A = Port × ℕ} (p, x) done → IsSome (link_of h p.0 p.1) ⊎ (held (m x) ≡ Some p)
  pub waits : (z : ℕ) (p : Port) → held z ≡ Some p → (x : ℕ) × IsOneOf {A = Port × ℕ} (p, x) done × (m x ≡ z) × (link_of h p.0 p.1 ≡ None)
  pub parity : (z : ℕ) → odd (places z (map m (links done))) ≡ is_some (held z)
  pub new : (p : Port) → IsOneOf p (ports left) → link_of h p.0 p.1 ≡ None
  pub one_class : (p q : Port) → link_of h p.0 p.1 ≡ Some q → OneClass m done p q

not_some : (o : Option Port) (p : Port) → o ≡ None → o ≡ Some p → ⊥
not_some o p e f = absurd (let w : ◌≡◌ {A = Option Port} None (Some p) = sym e ∙ f in cc)

apart_parts : (p q : Port) → p ≢ q → SamePort p.0 p.1 q.0 q.1 → ⊥
apart_parts p q d w = d (λ t. (w.0 t, w.1 t))

class_more : (m : ℕ → ℕ) (ps qs : List (Port × ℕ)) (p q : Port) → ((e : Port × ℕ) → IsOneOf e ps → IsOneOf e qs) → OneClass m ps p q → OneClass m qs p q
class_more m ps qs p q f h = record { first = h.first; second = h.second; at_first = f (p, h.first) h.at_first; at_second = f (q, h.second) h.at_second; same = h.same }

-- marks are kept

joined_marks : (s : Heap) (a i b j c k : ℕ) → mark_of (joined s a i b j) c k ≡ mark_of s c k
joined_marks s a i b j c k = ap (λ (xs : List ℕ). slice_index_or xs k 0)
    (linked_marks (linked (cleared (cleared s.atoms (link_of s a i)) (link_of s b j)) a i (Some (b, j))) b j (Some (a, i)) c
    ∙ linked_marks (cleared (cleared s.atoms (link_of s a i)) (link_of s b j)) a i (Some (b, j)) c
    ∙ cleared_marks (cleared s.atoms (link_of s a i)) (link_of s b j) c ∙ cleared_marks s.atoms (link_of s a i) c)

functor_is : (o : Option HeapAtom) (u : Option HeapAtom) → option_map (λ x. x.functor) u ≡ option_map (λ x. x.functor) o → IsSome o → IsSome u
functor_is None u e i = absurd (cc)
functor_is (Some x) None e i = absurd (cc)
functor_is (Some x) (Some y) e i = refl

-- One port more
module _ (m : ℕ → ℕ) (done left : List (Port × ℕ)) (p : Port) (x : ℕ) (s h : Heap) (held held' : ℕ → Option Port) (w : Meets m done ((p, x) ∷ left) s h held)
    (after : (z : ℕ) → held' z ≡ held_after held (m x) p z) where
  abbrev all : List (Port × ℕ)
  all = done ++ (p, x) ∷ left

  abbrev done' : List (Port × ℕ)
  done' = done ++ (p, x) ∷ []

  same_list : done' ++ left ≡ all
  same_list = append_assoc done ((p, x) ∷ []) left

  at_class : held' (m x) ≡ flipped (held (m x)) p
  at_class = after (m x) ∙ rw (eq-eqb (m x) (m x) refl) refl

  away : (z : ℕ) → z ≢ m x → held' z ≡ held z
  away z d = after z ∙ rw (apart_test z (m x) d) refl

  in_all : (e : Port × ℕ) → IsOneOf e done → IsOneOf e all
  in_all e i = left_in e done ((p, x) ∷ left) i

  p_in_all : IsOneOf {A = Port × ℕ} (p, x) all
  p_in_all = right_in (p, x) done ((p, x) ∷ left) (inl refl)

  in_done' : (e : Port × ℕ) → IsOneOf e done → IsOneOf e done'
  in_done' e i = left_in e done ((p, x) ∷ []) i

  p_in_done' : IsOneOf {A = Port × ℕ} (p, x) done'
  p_in_done' = right_in (p, x) done ((p, x) ∷ []) (inl refl)

  p_free : link_of h p.0 p.1 ≡ None
  p_free = w.new p (inl refl)

  p_port : IsPort h p.0 p.1
  p_port = w.there p (in_ports all p x p_in_all)

  twice : (ds : List Port) (q : Port) (ls : List Port) → NoneTwice (ds ++ ls) → IsOneOf q ds → IsOneOf q ls → ⊥
  twice [] q ls d i j = absurd i
  twice (r ∷ ds) q ls d (inl e) j = d.0 (subst (λ z. IsOneOf z (ds ++ ls)) (sym e) (right_in q ds ls j))
  twice (r ∷ ds) q ls d (inr i) j = twice ds q ls d.1 i j

  all_once : NoneTwice (ports done ++ (p ∷ ports left))
  all_once = subst NoneTwice (ports_append done ((p, x) ∷ left)) w.once

  -- a port that has met isn't this one, nor one of those that are left
  pub met_before : (q : Port) → IsOneOf q (ports done) → q ≢ p
  met_before q i e = twice (ports done) q (p ∷ ports left) all_once i (inl (sym e))

  right_of : (ds : List Port) (ls : List Port) → NoneTwice (ds ++ ls) → NoneTwice ls
  right_of [] ls d = d
  right_of (r ∷ ds) ls d = right_of ds ls d.1

  left_apart : (q : Port) → IsOneOf q (ports left) → q ≢ p
  left_apart q i e = (right_of (ports done) (p ∷ ports left) all_once).0 (subst (λ z. IsOneOf z (ports left)) e i)

  more_often : (z : ℕ) → places z (map m (links done')) ≡ places z (map m (links done)) + places z (m x ∷ [])
  more_often z = links_both m z done ((p, x) ∷ [])

  -- the class of the port has one more, and no other has
  odd_at : odd (places (m x) (map m (links done'))) ≡ not (odd (places (m x) (map m (links done))))
  odd_at = ap odd (more_often (m x) ∙ by (places (m x) (map m (links done))) (one_same (m x) (m x) refl))
    where
      by : (n : ℕ) {k : ℕ} → k ≡ 1 → n + (k + 0) ≡ suc n
      by n e = omega (arith, e)

  odd_away : (z : ℕ) → z ≢ m x → odd (places z (map m (links done'))) ≡ odd (places z (map m (links done)))
  odd_away z d = ap odd (more_often z ∙ by (places z (map m (links done))) (one_other z (m x) d))
    where
      by : (n : ℕ) {k : ℕ} → k ≡ 0 → n + (k + 0) ≡ n
      by n e = omega (arith, e)

  parity_flips : (o : Option Port) → held (m x) ≡ o → not (is_some o) ≡ is_some (flipped o p) → (z : ℕ) → odd (places z (map m (links done'))) ≡ is_some (held' z)
  parity_flips o e f z = elim (cases_eq z (m x)) [
    | inl g ↦ subst (λ y. odd (places y (map m (links done'))) ≡ is_some (held' y)) (sym g)
        (odd_at ∙ ap not (w.parity (m x) ∙ ap is_some e) ∙ f ∙ sym (ap is_some (at_class ∙ ap (λ u. flipped u p) e)))
    | inr d ↦ odd_away z d ∙ w.parity z ∙ ap is_some (sym (away z d))
  ]

  -- no port is held for its class: this one is from now on
  held_alone : held (m x) ≡ None → Meets m done' left s h held'
  held_alone e = record {
    once = subst (λ ls. NoneTwice (ports ls)) (sym same_list) w.once;
    there = λ q i. w.there q (subst (λ ls. IsOneOf q (ports ls)) same_list i);
    items = w.items;
    paired = λ q y i. elim (either_in (q, y) done ((p, x) ∷ []) i) [
      | inl j ↦ elim (w.paired q y j) [
        | inl k ↦ inl k
        | inr k ↦ inr (away (m y) (λ d. not_some (held (m x)) q e (ap held (sym d) ∙ k)) ∙ k)
      ]
      | inr j ↦ elim j [
        | inl k ↦ inr (let a : x ≡ y = ap (λ (u : Port × ℕ). u.1) k in let b : p ≡ q = ap (λ (u : Port × ℕ). u.0) k in
            ap (λ z. held' (m z)) (sym a) ∙ at_class ∙ ap (λ u. flipped u p) e ∙ ap Some b)
        | inr k ↦ absurd k
      ]
    ];
    waits = λ z q f. elim (cases_eq z (m x)) [
      | inl g ↦ (let b : p ≡ q = some_is p q (sym (at_class ∙ ap (λ u. flipped u p) e) ∙ ap held' (sym g) ∙ f) in
          (x, subst (λ r. IsOneOf {A = Port × ℕ} (r, x) done') b p_in_done', sym g, subst (λ (r : Port). link_of h r.0 r.1 ≡ None) b p_free))
      | inr d ↦ (let v = w.waits z q (sym (away z d) ∙ f) in (v.0, in_done' (q, v.0) v.1, v.2, v.3))
    ];
    parity = parity_flips None e refl;
    new = λ q i. w.new q (inr i);
    one_class = λ q r f. class_more m done done' q r in_done' (w.one_class q r f);
  }

  -- a port is held for its class: the two meet
  module _ (q : Port) (e : held (m x) ≡ Some q) where
    q_waits : (y : ℕ) × IsOneOf {A = Port × ℕ} (q, y) done × (m y ≡ m x) × (link_of h q.0 q.1 ≡ None)
    q_waits = w.waits (m x) q e

    q_done : IsOneOf q (ports done)
    q_done = in_ports done q q_waits.0 q_waits.1

    q_port : IsPort h q.0 q.1
    q_port = w.there q (in_ports all q q_waits.0 (in_all (q, q_waits.0) q_waits.1))

    pub q_apart : q ≢ p
    q_apart = met_before q q_done

    pub may : IsPort h q.0 q.1 × IsPort h p.0 p.1 × (q ≢ p)
    may = (q_port, p_port, q_apart)

    abbrev h' : Heap
    h' = joined h q.0 q.1 p.0 p.1

    joins_q : link_of h' q.0 q.1 ≡ Some p
    joins_q = joined_a h q.0 q.1 p.0 p.1 q_port.1 p_port.1 (apart_parts q p q_apart)

    joins_p : link_of h' p.0 p.1 ≡ Some q
    joins_p = joined_b h q.0 q.1 p.0 p.1 q_port.1 p_port.1 (apart_parts q p q_apart)

    other : (r : Port) → r ≢ q → r ≢ p → link_of h' r.0 r.1 ≡ link_of h r.0 r.1
    other r d c = elim (joined_other h q.0 q.1 p.0 p.1 q_port.1 p_port.1 (apart_parts q p q_apart) r.0 r.1 (apart_parts r q d) (apart_parts r p c)) [
      | inl v ↦ absurd (elim v.0 [ inl k ↦ not_some (link_of h q.0 q.1) r q_waits.3 k | inr k ↦ not_some (link_of h p.0 p.1) r p_free k ])
      | inr v ↦ v.2
    ]

    same_or_not : (r t : Port) → (r ≡ t) ⊎ (r ≢ t)
    same_or_not r t = elim (cases_eq r.0 t.0) [
      | inl a ↦ elim (cases_eq r.1 t.1) [ inl b ↦ inl (λ z. (a z, b z)) | inr d ↦ inr (λ f. d (ap (λ (u : Port). u.1) f)) ]
      | inr d ↦ inr (λ f. d (ap (λ (u : Port). u.0) f))
    ]

    arities : (c : ℕ) → arity_of h' c ≡ arity_of h c
    arities = joined_arity h q.0 q.1 p.0 p.1 q_port.1 p_port.1 (apart_parts q p q_apart)

    items' : SameButPartners s h'
    items' = record {
      functors = λ a. joined_functor h q.0 q.1 p.0 p.1 a ∙ w.items.functors a;
      arities = λ a. arities a ∙ w.items.arities a;
      places = λ a. joined_place h q.0 q.1 p.0 p.1 a ∙ w.items.places a;
      marks = λ a i. joined_marks h q.0 q.1 p.0 p.1 a i ∙ w.items.marks a i;
      mems = w.items.mems;
      root = w.items.root;
    }

    port_stays : (r : Port) → IsPort h r.0 r.1 → IsPort h' r.0 r.1
    port_stays r i = (functor_is (h.atoms r.0) (h'.atoms r.0) (joined_functor h q.0 q.1 p.0 p.1 r.0) i.0, subst (λ n. r.1 < n) (sym (arities r.0)) i.1)

    partner_of : (r : Port) (y : ℕ) → IsOneOf {A = Port × ℕ} (r, y) done → IsSome (link_of h' r.0 r.1) ⊎ (held' (m y) ≡ Some r)
    partner_of r y i = elim (same_or_not r q) [
      | inl a ↦ inl (subst (λ (u : Port). IsSome (link_of h' u.0 u.1)) (sym a) (rw joins_q refl))
      | inr d ↦ (let c : r ≢ p = met_before r (in_ports done r y i) in elim (w.paired r y i) [
        | inl k ↦ inl (subst (λ (o : Option Port). IsSome o) (sym (other r d c)) k)
        | inr k ↦ inr (away (m y) (λ g. d (some_is r q (sym k ∙ ap held g ∙ e))) ∙ k)
      ])
    ]

    waits' : (z : ℕ) (r : Port) → held' z ≡ Some r → (y : ℕ) × IsOneOf {A = Port × ℕ} (r, y) done' × (m y ≡ z) × (link_of h' r.0 r.1 ≡ None)
    waits' z r f = elim (cases_eq z (m x)) [
      | inl g ↦ absurd (not_some (held' (m x)) r (at_class ∙ ap (λ u. flipped u p) e) (ap held' (sym g) ∙ f))
      | inr d ↦ (let v = w.waits z r (sym (away z d) ∙ f) in
          let c : r ≢ p = met_before r (in_ports done r v.0 v.1) in
          let b : r ≢ q = λ k. d (sym v.2 ∙ ap m (one_link done (done_once (ports done) (p ∷ ports left) all_once) q v.0 q_waits.0 (subst (λ u. IsOneOf {A = Port × ℕ} (u, v.0) done) k v.1) q_waits.1) ∙ q_waits.2) in
          (v.0, in_done' (r, v.0) v.1, v.2, other r b c ∙ v.3))
    ]
      where
        done_once : (ds ls : List Port) → NoneTwice (ds ++ ls) → NoneTwice ds
        done_once [] ls d = tt
        done_once (r ∷ ds) ls d = ((λ i. d.0 (left_in r ds ls i)), done_once ds ls d.1)

    classes' : (r t : Port) → link_of h' r.0 r.1 ≡ Some t → OneClass m done' r t
    classes' r t f = elim (same_or_not r q) [
      | inl a ↦ (let b : p ≡ t = some_is p t (sym joins_q ∙ ap (λ (u : Port). link_of h' u.0 u.1) (sym a) ∙ f) in
          record { first = q_waits.0; second = x; at_first = subst (λ u. IsOneOf {A = Port × ℕ} (u, q_waits.0) done') (sym a) (in_done' (q, q_waits.0) q_waits.1); at_second = subst (λ u. IsOneOf {A = Port × ℕ} (u, x) done') b p_in_done'; same = q_waits.2 })
      | inr d ↦ elim (same_or_not r p) [
        | inl a ↦ (let b : q ≡ t = some_is q t (sym joins_p ∙ ap (λ (u : Port). link_of h' u.0 u.1) (sym a) ∙ f) in
            record { first = x; second = q_waits.0; at_first = subst (λ u. IsOneOf {A = Port × ℕ} (u, x) done') (sym a) p_in_done'; at_second = subst (λ u. IsOneOf {A = Port × ℕ} (u, q_waits.0) done') b (in_done' (q, q_waits.0) q_waits.1); same = sym q_waits.2 })
        | inr c ↦ class_more m done done' r t in_done' (w.one_class r t (sym (other r d c) ∙ f))
      ]
    ]

    met_now : Meets m done' left s h' held'
    met_now = record {
      once = subst (λ ls. NoneTwice (ports ls)) (sym same_list) w.once;
      there = λ r i. port_stays r (w.there r (subst (λ ls. IsOneOf r (ports ls)) same_list i));
      items = items';
      paired = λ r y i. elim (either_in (r, y) done ((p, x) ∷ []) i) [
        | inl j ↦ partner_of r y j
        | inr j ↦ elim j [
          | inl k ↦ inl (subst (λ (u : Port × ℕ). IsSome (link_of h' u.0.0 u.0.1)) k (rw joins_p refl))
          | inr k ↦ absurd k
        ]
      ];
      waits = waits';
      parity = parity_flips (Some q) e refl;
      new = λ r i. other r (λ a. twice (ports done) r (p ∷ ports left) all_once (subst (λ u. IsOneOf u (ports done)) (sym a) q_done) (inr i)) (left_apart r i) ∙ w.new r (inr i);
      one_class = classes';
    }

  pub may_meet : MayMeet h (held (m x)) p
  may_meet = by (held (m x)) refl
    where
      by : (o : Option Port) → held (m x) ≡ o → MayMeet h o p
      by None e = tt
      by (Some q) e = may q e

  pub one_more : (after_it : Heap) → after_it ≡ met h (held (m x)) p → Meets m done' left s after_it held'
  one_more u f = subst (λ u. Meets m done' left s u held') (sym f) (by (held (m x)) refl)
    where
      by : (o : Option Port) → held (m x) ≡ o → Meets m done' left s (met h o p) held'
      by None e = held_alone e
      by (Some q) e = met_now q e

-- Before the first
pub none_met : (m : ℕ → ℕ) (ps : List (Port × ℕ)) (s : Heap) (held : ℕ → Option Port) → AreFree s ps → ((z : ℕ) → held z ≡ None) → Meets m [] ps s s held
none_met m ps s held f none = record {
  once = f.once;
  there = f.there;
  items = record { functors = λ a. refl; arities = λ a. refl; places = λ a. refl; marks = λ a i. refl; mems = refl; root = refl };
  paired = λ p x i. absurd i;
  waits = λ z p e. absurd (not_some (held z) p (none z) e);
  parity = λ z. sym (ap is_some (none z));
  new = λ p i. f.no_partner p.0 p.1;
  one_class = λ p q e. absurd (not_some (link_of s p.0 p.1) q (f.no_partner p.0 p.1) e);
}

-- Behind the last
pub all_met : (m : ℕ → ℕ) (ps left : List (Port × ℕ)) (s h : Heap) (held : ℕ → Option Port) → TwiceOrNever (map m (links ps)) → Meets m ps left s h held → AreJoined m ps s h
all_met m ps left s h held twice w = record {
  items = w.items;
  all = λ p i. (let v = ports_in ps p i in elim (w.paired p v.0 v.1) [ inl k ↦ k | inr k ↦ absurd (never (m v.0) p k) ]);
  one_class = w.one_class;
}
  where
    never : (z : ℕ) (p : Port) → held z ≡ Some p → ⊥
    never z p e =
        let o : odd (places z (map m (links ps))) ≡ true = w.parity z ∙ ap is_some e in
        elim (twice z) [
          | inl k ↦ (let u : false ≡ true = sym (ap odd k) ∙ o in absurd (cc))
          | inr k ↦ (let u : false ≡ true = sym (ap odd k) ∙ o in absurd (cc))
        ]

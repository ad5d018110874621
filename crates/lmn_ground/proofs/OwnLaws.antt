-- Setting own marks while the marks of a walk are taken back.
use Rattle.std.proofs.Common.{◌≡◌, ℕ, zero, suc, ◌<◌, ◌≤◌, List, [], ◌∷◌, ◌++◌, Option, Some, None, IsSome, refl, sym, ap, subst, ◌∙◌, inl, inr, arith}
use Rattle.std.proofs.lemmas.Bool.{cases_eq}
use Rattle.std.specs.Option.{option_map}
use Rattle.std.specs.Prelude.{slice_index_or, slice_set}
use Rattle.lmn_base.specs.Graphs.{AtomMap, Reached, at_root, across}
use Rattle.lmn_store_heap.specs.Graphs.{atom_map}
use Rattle.lmn_store_heap.specs.Heap.{Heap, HeapAtom, Distinct, IsAtom, alter, with_mark, marked, marks_of, arity_of}
use Rattle.lmn_store_heap.proofs.Listing.{alter_at, alter_away}
use Rattle.lmn_store_heap.proofs.Common.{same_atoms}
use Rattle.lmn_ground.specs.Marks.{paint, painted, first_marks, way, ports_ahead, OnWay}
use Rattle.lmn_ground.specs.Spread.{Wiping}
use Rattle.lmn_ground.specs.Rests.{own_marked}
use Rattle.lmn_ground.proofs.PaintLaws.{net_marked, net_painted}
use Rattle.lmn_ground_parts.specs.Walks.{neighbour, Net, net, is_in, Walk}
use Rattle.lmn_base.specs.Lists.{In}

-- the own mark of one atom is set
abbrev pub owned : Heap → ℕ → ℕ → Heap
owned s b v = marked s b (arity_of s b) v

pub net_owned : (s : Heap) (b v : ℕ) → net (owned s b v) ≡ net s
net_owned s b v = net_marked s b (arity_of s b) v

-- the first marks stay, where there is a port
pub firsts_owned : (s : Heap) (b v : ℕ) → 0 < arity_of s b → first_marks (owned s b v) ≡ first_marks s
firsts_owned s b v l = λ i a. (at a) i
  where
    by : (o : Option HeapAtom) (n : ℕ) → 0 < n → slice_index_or (marks_of (option_map (with_mark n v) o)) 0 0 ≡ slice_index_or (marks_of o) 0 0
    by None n l = refl
    by (Some x) zero l = absurd (omega arith)
    by (Some x) (suc n) l = first x.marks
      where
        first : (xs : List ℕ) → slice_index_or (slice_set xs (suc n) v) 0 0 ≡ slice_index_or xs 0 0
        first [] = refl
        first (y ∷ ys) = refl

    at : (a : ℕ) → first_marks (owned s b v) a ≡ first_marks s a
    at a = elim (cases_eq a b) [
      | inl e ↦ subst (λ z. first_marks (owned s b v) z ≡ first_marks s z) (sym e)
          (ap (λ o. slice_index_or (marks_of o) 0 0) (alter_at s.atoms b (option_map (with_mark (arity_of s b) v))) ∙ by (s.atoms b) (arity_of s b) l)
      | inr d ↦ ap (λ o. slice_index_or (marks_of o) 0 0) (alter_away s.atoms b (option_map (with_mark (arity_of s b) v)) a d)
    ]

-- first marks and own marks don't depend on each other
pub painted_owned : (s : Heap) (f : ℕ → ℕ) (b v : ℕ) → 0 < arity_of s b → owned (painted s f) b v ≡ painted (owned s b v) f
painted_owned s f b v l =
    ap (λ n. marked (painted s f) b n v) (ap (λ (n : Net). n.arity b) (net_painted s f))
    ∙ same_atoms s _ _ (λ a. elim (cases_eq a b) [
      | inl e ↦ subst (λ (z : ℕ). alter (painted s f).atoms b (option_map (with_mark (arity_of s b) v)) z ≡ paint (f z) (alter s.atoms b (option_map (with_mark (arity_of s b) v)) z)) (sym e)
          (alter_at (painted s f).atoms b (option_map (with_mark (arity_of s b) v)) ∙ by (f b) (arity_of s b) l (s.atoms b) ∙ ap (paint (f b)) (sym (alter_at s.atoms b (option_map (with_mark (arity_of s b) v)))))
      | inr d ↦ alter_away (painted s f).atoms b (option_map (with_mark (arity_of s b) v)) a d ∙ ap (paint (f a)) (sym (alter_away s.atoms b (option_map (with_mark (arity_of s b) v)) a d))
    ])
  where
    both : (xs : List ℕ) (n m : ℕ) → slice_set (slice_set xs 0 (suc m)) (suc n) v ≡ slice_set (slice_set xs (suc n) v) 0 (suc m)
    both [] n m = refl
    both (x ∷ xs) n m = refl

    by : (m n : ℕ) → 0 < n → (o : Option HeapAtom) → option_map (with_mark n v) (paint m o) ≡ paint m (option_map (with_mark n v) o)
    by zero n l o = refl
    by (suc m) n l None = refl
    by (suc m) zero l (Some x) = absurd (omega arith)
    by (suc m) (suc n) l (Some x) = ap (λ (xs : List ℕ). Some (record x { marks = xs })) (both x.marks n m)

-- one more at the end
pub owned_snoc : (v : ℕ) (xs : List ℕ) (b : ℕ) (s : Heap) → own_marked v (xs ++ b ∷ []) s ≡ owned (own_marked v xs s) b v
owned_snoc v [] b s = refl
owned_snoc v (x ∷ xs) b s = owned_snoc v xs b (owned s x v)

pub reached_same : (m n : AtomMap) (root : ℕ × ℕ) → ((c l : ℕ) → m.partner (c, l) ≡ n.partner (c, l)) → (x : ℕ) → Reached m root x → Reached n root x
reached_same m n root h x at_root = at_root
reached_same m n root h x (across {a = a} {i = i} r d e) = across (reached_same m n root h a r) d (sym (h a i) ∙ e)

-- The walk doesn't see that an own mark is set.
pub wiping_owned : (before now : Heap) (root : ℕ × ℕ) (seen met : List ℕ) (depth a i left b v : ℕ) → 0 < arity_of before b → Wiping before now root seen met depth a i left
    → Wiping (owned before b v) (owned now b v) root seen met depth a i left
wiping_owned before now root seen met depth a i left b v l t =
    let n_now : net now ≡ net before = ap net t.is ∙ net_painted before t.marks in
    let l_now : 0 < arity_of now b = subst (λ (n : Net). 0 < n.arity b) (sym n_now) l in
    let e = sym (net_owned before b v) in
    let f = sym (firsts_owned now b v l_now) in
    let g = sym (firsts_owned before b v l) in
    record {
      marks = t.marks;
      is = (λ i. marked (t.is i) b (arity_of (t.is i) b) v) ∙ painted_owned before t.marks b v l;
      clean = λ x k. subst (λ (w : ℕ → ℕ). w x ≡ 0) g (t.clean x k);
      ports = λ x k. subst (λ (n : Net). 0 < n.arity x) e (t.ports x k);
      outside = t.outside;
      wiped = λ x k d. t.wiped x k (λ m. d (subst (λ (n : Net). In x (way n (first_marks (owned now b v)) depth a)) e (subst (λ (w : ℕ → ℕ). In x (way (net before) w depth a)) f m)));
      high = λ x k d. subst (λ (w : ℕ → ℕ). 512 ≤ w x) f (t.high x k d);
      low = λ x k. subst (λ (w : ℕ → ℕ). w x < 512) f (t.low x k);
      reached = λ x k. reached_same (atom_map before) (atom_map (owned before b v)) root (λ c l. ap (λ (n : Net). n.link c l) e) x (t.reached x k);
      off = λ x p d. subst (λ (w : ℕ → ℕ). w x < 512) f (t.off x (reached_same (atom_map (owned before b v)) (atom_map before) root (λ c l. ap (λ (n : Net). n.link c l) (sym e)) x p) d);
      here = subst (λ (n : Net). i ≤ n.arity a) e t.here;
      on_way = subst (λ (n : Net). OnWay n (first_marks (owned now b v)) root depth a) e (subst (λ (w : ℕ → ℕ). OnWay (net before) w root depth a) f t.on_way);
      once = subst (λ (n : Net). Distinct (way n (first_marks (owned now b v)) depth a)) e (subst (λ (w : ℕ → ℕ). Distinct (way (net before) w depth a)) f t.once);
      way_met = λ x k. t.way_met x (subst (λ (w : ℕ → ℕ). In x (way (net before) w depth a)) (sym f) (subst (λ (n : Net). In x (way n (first_marks (owned now b v)) depth a)) (sym e) k));
      first = t.first;
      rest = subst (λ (n : Net). Walk n.arity (neighbour n root (is_in seen)) met (ports_ahead n (first_marks (owned now b v)) depth a i) seen) e
          (subst (λ (w : ℕ → ℕ). Walk (net before).arity (neighbour (net before) root (is_in seen)) met (ports_ahead (net before) w depth a i) seen) f t.rest);
      few = t.few;
      deep = t.deep;
    }

-- an atom is still there
pub there_owned : (mid to : Heap) (b v : ℕ) → to ≡ owned mid b v → IsAtom mid b → IsAtom to b
there_owned mid to b v e i = subst (λ (s : Heap). IsAtom s b) (sym e) (subst (λ (o : Option HeapAtom). IsSome o) (sym (alter_at mid.atoms b (option_map (with_mark (arity_of mid b) v)))) (by (mid.atoms b) i))
  where
    by : (o : Option HeapAtom) → IsSome o → IsSome (option_map (with_mark (arity_of mid b) v) o)
    by None i = absurd (cc)
    by (Some x) i = refl

-- marks don't change how many ports there are
pub port_marked_has : (s to : Heap) (b m j : ℕ) → to ≡ marked s b 0 m → j < arity_of s b → 0 < arity_of to b
port_marked_has s to b m j e l =
    let n : arity_of to b ≡ arity_of s b = ap (λ (h : Heap). arity_of h b) e ∙ ap (λ (x : Net). x.arity b) (net_marked s b 0 m) in omega (arith, n, l)

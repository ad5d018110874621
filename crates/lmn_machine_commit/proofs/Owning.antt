-- Own marks that are set and taken back: what they leave as it was.
use Rattle.std.proofs.Common.{◌≡◌, ℕ, zero, suc, ◌<◌, Bool, true, false, List, [], ◌∷◌, ◌++◌, length, map, Option, Some, None, IsSome, refl, sym, ap, subst, ◌∙◌, inl, inr, arith}
use Rattle.std.proofs.lemmas.Bool.{cases_eq}
use Rattle.std.proofs.lemmas.List.{get_or-set_other}
use Rattle.std.specs.Option.{option_map}
use Rattle.std.specs.Prelude.{slice_get, slice_set, slice_index_or}
use Rattle.lmn_base.specs.Graphs.{AtomMap}
use Rattle.lmn_base.specs.Lists.{In}
use Rattle.lmn_store_heap.specs.Heap.{Heap, HeapAtom, IsAtom, IsMem, alter, with_mark, marked, partners_of, marks_of, arity_of, link_of, PortsUnmarked, Unmarked}
use Rattle.lmn_store_heap.specs.Graphs.{atom_map}
use Rattle.lmn_store_heap.proofs.Listing.{alter_at, alter_away}
use Rattle.lmn_store_heap.proofs.Common.{same_atoms as same_painted}
use Rattle.lmn_ground_parts.specs.Rests.{keep}
use Rattle.lmn_ground.specs.Marks.{paint_at}
use Rattle.lmn_ground.specs.Rests.{AreMembranes, own_marked}
use Rattle.lmn_ground.proofs.PaintedAt.{paint_links, is_paint, map_painted, painted_none}
use Rattle.lmn_ground.proofs.RestLaws.{keep_here, keep_past}
use Rattle.lmn_machine_commit.specs.OwnMarks.{own_place, own_painted}

-- own marks leave the arities
pub arity_painted : (h : Heap) (v : ℕ → ℕ) (a : ℕ) → arity_of (own_painted h v) a ≡ arity_of h a
arity_painted h v a = ap length (paint_links own_place (v a) (h.atoms a))

set_twice : (xs : List ℕ) (k v w : ℕ) → slice_set (slice_set xs k v) k w ≡ slice_set xs k w
set_twice [] k v w = refl
set_twice (x ∷ xs) zero v w = refl
set_twice (x ∷ xs) (suc k) v w = ap (λ ys. x ∷ ys) (set_twice xs k v w)

set_same : (xs : List ℕ) (k : ℕ) → slice_index_or xs k 0 ≡ 0 → slice_set xs k 0 ≡ xs
set_same [] k e = refl
set_same (x ∷ xs) zero e = ap (λ y. y ∷ xs) (sym e)
set_same (x ∷ xs) (suc k) e = ap (λ ys. x ∷ ys) (set_same xs k e)

-- one own mark more
painted_set : (h : Heap) (v : ℕ → ℕ) (b m : ℕ) → Unmarked h → marked (own_painted h v) b (arity_of h b) m ≡ own_painted h (alter v b (λ _. m))
painted_set h v b m z = same_painted h _ _ (λ a. elim (cases_eq a b) [
  | inl e ↦ subst (λ (x : ℕ). alter (own_painted h v).atoms b (option_map (with_mark (arity_of h b) m)) x ≡ paint_at own_place (alter v b (λ _. m) x) (h.atoms x)) (sym e)
      (alter_at (own_painted h v).atoms b (option_map (with_mark (arity_of h b) m)) ∙ by m (v b) (h.atoms b) (z b (arity_of h b)) ∙ ap (λ (w : ℕ). paint_at own_place w (h.atoms b)) (sym (alter_at v b (λ _. m))))
  | inr d ↦ alter_away (own_painted h v).atoms b (option_map (with_mark (arity_of h b) m)) a d ∙ ap (λ (w : ℕ). paint_at own_place w (h.atoms a)) (sym (alter_away v b (λ _. m) a d))
])
  where
    by : (m w : ℕ) (o : Option HeapAtom) → slice_index_or (marks_of o) (length (partners_of o)) 0 ≡ 0 → option_map (with_mark (length (partners_of o)) m) (paint_at own_place w o) ≡ paint_at own_place m o
    by zero zero None z = refl
    by zero (suc w) None z = refl
    by (suc m) zero None z = refl
    by (suc m) (suc w) None z = refl
    by zero zero (Some x) z = ap (λ (xs : List ℕ). Some (record x { marks = xs })) (set_same x.marks (length x.links) z)
    by zero (suc w) (Some x) z = ap (λ (xs : List ℕ). Some (record x { marks = xs })) (set_twice x.marks (length x.links) (suc w) 0 ∙ set_same x.marks (length x.links) z)
    by (suc m) zero (Some x) z = refl
    by (suc m) (suc w) (Some x) z = ap (λ (xs : List ℕ). Some (record x { marks = xs })) (set_twice x.marks (length x.links) (suc w) (suc m))

-- the own marks after those of a list were set
abbrev pub all_at : List ℕ → ℕ → (ℕ → ℕ) → ℕ → ℕ
all_at [] m v = v
all_at (x ∷ xs) m v = all_at xs m (alter v x (λ _. m))

-- further own marks
pub own_all : (h : Heap) (xs : List ℕ) (m : ℕ) (v : ℕ → ℕ) → Unmarked h → own_marked m xs (own_painted h v) ≡ own_painted h (all_at xs m v)
own_all h [] m v z = refl
own_all h (x ∷ xs) m v z =
    ap (λ (k : ℕ). own_marked m xs (marked (own_painted h v) x k m)) (arity_painted h v x)
    ∙ ap (λ (s : Heap). own_marked m xs s) (painted_set h v x m z)
    ∙ own_all h xs m (alter v x (λ _. m)) z

keeps : (xs : List ℕ) (m : ℕ) (v : ℕ → ℕ) (b : ℕ) → v b ≡ m → all_at xs m v b ≡ m
keeps [] m v b e = e
keeps (x ∷ xs) m v b e = keeps xs m (alter v x (λ _. m)) b (elim (cases_eq b x) [
  | inl s ↦ subst (λ (z : ℕ). alter v x (λ _. m) z ≡ m) (sym s) (alter_at v x (λ _. m))
  | inr d ↦ alter_away v x (λ _. m) b d ∙ e
])

-- what is in the list has the mark
pub in_all : (xs : List ℕ) (m : ℕ) (v : ℕ → ℕ) (b : ℕ) → In b xs → all_at xs m v b ≡ m
in_all [] m v b i = absurd i
in_all (x ∷ xs) m v b (inl e) = keeps xs m (alter v x (λ _. m)) b (subst (λ (z : ℕ). alter v x (λ _. m) z ≡ m) e (alter_at v x (λ _. m)))
in_all (x ∷ xs) m v b (inr i) = in_all xs m (alter v x (λ _. m)) b i

-- and what isn't has the one that it had
pub off_all : (xs : List ℕ) (m : ℕ) (v : ℕ → ℕ) (b : ℕ) → (In b xs → ⊥) → all_at xs m v b ≡ v b
off_all [] m v b n = refl
off_all (x ∷ xs) m v b n = off_all xs m (alter v x (λ _. m)) b (λ i. n (inr i)) ∙ alter_away v x (λ _. m) b (λ e. n (inl (sym e)))

-- no own mark
abbrev pub none : ℕ → ℕ
none a = 0

-- the heap while the marks are set
pub marked_is : (h : Heap) (xs : List ℕ) (m : ℕ) → Unmarked h → own_marked m xs h ≡ own_painted h (all_at xs m none)
marked_is h xs m z = ap (λ (s : Heap). own_marked m xs s) (sym (painted_none own_place h none (λ a. refl))) ∙ own_all h xs m none z

-- what is among the numbers of handles is that of one
pub of_handles : {A : Type 0} (atom : A → ℕ) (xs : List A) (n : ℕ) → In n (map atom xs) → (k : ℕ) × ((b : A) × (slice_get xs k ≡ Some b) × (atom b ≡ n))
of_handles atom [] n i = absurd i
of_handles atom (x ∷ xs) n (inl e) = (0, (x, refl, e))
of_handles atom (x ∷ xs) n (inr i) = let r = of_handles atom xs n i in (suc r.0, r.1)

-- own marks of two lists are set one after the other
pub own_append : (v : ℕ) (xs ys : List ℕ) (s : Heap) → own_marked v (xs ++ ys) s ≡ own_marked v ys (own_marked v xs s)
own_append v [] ys s = refl
own_append v (x ∷ xs) ys s = own_append v xs ys (marked s x (arity_of s x) v)

-- A heap s that is h but for own marks.
module _ (h : Heap) (z : Unmarked h) (v : ℕ → ℕ) (s : Heap) (e : s ≡ own_painted h v) where
  -- the graph is that of h
  pub same_graph : atom_map s ≡ atom_map h
  same_graph = ap atom_map e ∙ map_painted own_place h v

  -- each atom has as many ports
  pub arity_same : (a : ℕ) → arity_of s a ≡ arity_of h a
  arity_same a = ap (λ (k : Heap). arity_of k a) e ∙ arity_painted h v a

  -- which are joined alike
  pub link_same : (a i : ℕ) → link_of s a i ≡ link_of h a i
  link_same a i = ap (λ (n : AtomMap). n.partner (a, i)) same_graph

  -- each atom of h is there
  pub there_painted : (a : ℕ) → IsAtom h a → IsAtom s a
  there_painted a i = subst (λ (k : Heap). IsAtom k a) (sym e) (is_paint own_place (v a) (h.atoms a) i)

  -- and no other
  pub back_painted : (a : ℕ) → IsAtom s a → IsAtom h a
  back_painted a i = by (v a) (h.atoms a) (subst (λ (k : Heap). IsAtom k a) e i)
    where
      by : (w : ℕ) (o : Option HeapAtom) → IsSome (paint_at own_place w o) → IsSome o
      by zero o i = i
      by (suc w) None i = absurd (cc)
      by (suc w) (Some x) i = refl

  -- each membrane is there
  pub mem_painted : (m : ℕ) → IsMem h m → IsMem s m
  mem_painted m i = subst (λ (k : Heap). IsMem k m) (sym e) i

  -- no mark of a port is set
  pub clean_painted : PortsUnmarked s
  clean_painted = subst (λ (k : Heap). PortsUnmarked k) (sym e) (λ a i l. by (v a) (h.atoms a) i (subst (λ (n : ℕ). i < n) (arity_painted h v a) l) (z a i))
    where
      by : (w : ℕ) (o : Option HeapAtom) (i : ℕ) → i < length (partners_of o) → slice_index_or (marks_of o) i 0 ≡ 0 → slice_index_or (marks_of (paint_at own_place w o)) i 0 ≡ 0
      by zero o i l e = e
      by (suc w) None i l e = e
      by (suc w) (Some x) i l e = get_or-set_other x.marks (length x.links) i (suc w) 0 (λ (q : i ≡ length x.links). absurd (omega (arith, q, l))) ∙ e

  -- all ports are joined where they are in h
  pub full_painted : ((a i : ℕ) → i < arity_of h a → IsSome (link_of h a i)) → (a i : ℕ) → i < arity_of s a → IsSome (link_of s a i)
  full_painted full a i l = subst IsSome (sym (link_same a i)) (full a i (subst (λ n. i < n) (arity_same a) l))

  -- each port is there
  pub port_painted : (a i : ℕ) → i < arity_of h a → i < arity_of s a
  port_painted a i l = subst (λ n. i < n) (sym (arity_same a)) l

  -- further own marks
  pub marked_more : (xs : List ℕ) (m : ℕ) (t : Heap) → t ≡ own_marked m xs s → t ≡ own_painted h (all_at xs m v)
  marked_more xs m t f = f ∙ ap (λ (k : Heap). own_marked m xs k) e ∙ own_all h xs m v z

-- handles of membranes name membranes
pub are_membranes : {M : Type 0} (membrane : M → ℕ) (s : Heap) (ms : List M) → ((k : ℕ) (m : M) → slice_get ms k ≡ Some m → IsMem s (membrane m)) → AreMembranes s (map membrane ms)
are_membranes membrane s [] f = tt
are_membranes membrane s (m ∷ ms) f = (f 0 m refl, are_membranes membrane s ms (λ k n e. f (suc k) n e))

-- which of a list are kept is told by the test on its members
pub keep_same : (p q : ℕ → Bool) (xs : List ℕ) → ((x : ℕ) → In x xs → p x ≡ q x) → keep p xs ≡ keep q xs
keep_same p q [] f = refl
keep_same p q (x ∷ xs) f = by (p x) refl (keep_same p q xs (λ y i. f y (inr i)))
  where
    by : (t : Bool) → p x ≡ t → keep p xs ≡ keep q xs → keep p (x ∷ xs) ≡ keep q (x ∷ xs)
    by true e k = keep_here p x xs e ∙ (ap (λ ys. x ∷ ys) k ∙ sym (keep_here q x xs (sym (f x (inl refl)) ∙ e)))
    by false e k = keep_past p x xs e ∙ (k ∙ sym (keep_past q x xs (sym (f x (inl refl)) ∙ e)))

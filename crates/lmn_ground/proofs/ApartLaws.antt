-- Two parts with no common atom, of which one is marked.
use Rattle.std.proofs.Common.{◌≡◌, ◌≢◌, ℕ, zero, suc, ◌<◌, Bool, true, List, length, Option, Some, None, IsSome, refl, sym, ap, subst, ◌∙◌}
use Rattle.std.specs.Option.{option_map}
use Rattle.std.specs.Prelude.{slice_index_or, ◌↔◌}
use Rattle.lmn_base.specs.Graphs.{AtomMap, Reached, at_root, SameGraph}
use Rattle.lmn_store_heap.specs.Heap.{Heap, HeapAtom, IsAtom, functor_of, marks_of}
use Rattle.lmn_store_heap.specs.Splice.{IsPort}
use Rattle.lmn_store_heap.specs.Sound.{Sound}
use Rattle.lmn_store_heap.specs.Graphs.{atom_map}
use Rattle.lmn_ground.specs.Marks.{first_place, paint, painted, first_marks}
use Rattle.lmn_ground.specs.Spread.{IsWhole, Spread, CleanPart}
use Rattle.lmn_ground.specs.Follow.{Two}
use Rattle.lmn_ground.proofs.PaintLaws.{is_painted, net_painted}
use Rattle.lmn_ground.proofs.PaintedAt.{map_painted}
use Rattle.lmn_ground.proofs.GroundLaws.{part_atoms}
use Rattle.lmn_ground.proofs.FollowLaws.{carried}
use Rattle.lmn_ground_parts.specs.Walks.{IsPartInDepth, Net, net, FoundInside}
use Rattle.lmn_base.proofs.Lists.{length_mapped as length_map}

-- a part is equal to itself
pub same_self : (m : AtomMap) (x y : ℕ × ℕ) → x.0 ≡ y.0 → x.1 ≡ y.1 → SameGraph m x m y
same_self m x y e f = subst (λ (p : ℕ × ℕ). SameGraph m x m p) (λ i. (e i, f i)) (record {
  to = λ a. a;
  into = λ a r. r;
  onto = λ b r. (b, r, refl);
  one_to_one = λ a b r q h. h;
  functors = λ a r. refl;
  joined = λ a b i j r q. (λ h. h, λ h. h);
  root = refl;
})

-- equal parts have one functor at their roots
pub same_root_functor : (s : Heap) (x y : ℕ × ℕ) → SameGraph (atom_map s) x (atom_map s) y → functor_of s y.0 ≡ functor_of s x.0
same_root_functor s x y g = sym (ap (λ (p : ℕ × ℕ). functor_of s p.0) g.root) ∙ g.functors x.0 at_root

-- equal parts have as many atoms
pub same_size : (s : Heap) (x y : ℕ × ℕ) (xs ys : List ℕ) → Sound s → IsWhole s x None → IsPartInDepth s x xs → IsPartInDepth s y ys → SameGraph (atom_map s) x (atom_map s) y → length xs ≡ length ys
same_size s x y xs ys sound full part part' g = sym (length_map g.to xs) ∙ ap length (carried s x y xs ys sound full part part' g)

unpainted : (s : Heap) (v : ℕ → ℕ) (a : ℕ) → v a ≡ 0 → first_marks (painted s v) a ≡ first_marks s a
unpainted s v a e = ap (λ (m : ℕ). slice_index_or (marks_of (paint m (s.atoms a))) 0 0) e

module _ (s now : Heap) (x y : ℕ × ℕ) (m : ℕ) (all : Bool) (t : Spread s now y m all) where
  net_is : net now ≡ net s
  net_is = ap net t.is ∙ net_painted s t.marks

  map_is : atom_map now ≡ atom_map s
  map_is = ap atom_map t.is ∙ map_painted first_place s t.marks

  pub graph_now : SameGraph (atom_map now) x (atom_map now) y ↔ SameGraph (atom_map s) x (atom_map s) y
  graph_now = (subst (λ (n : AtomMap). SameGraph n x n y) map_is, subst (λ (n : AtomMap). SameGraph n x n y) (sym map_is))

  pub clean_now : CleanPart s x → ((a : ℕ) → Reached (atom_map s) x a → Reached (atom_map s) y a → ⊥) → CleanPart now x
  clean_now clean apart a given =
      let r : Reached (atom_map s) x a = subst (λ (n : AtomMap). Reached n x a) map_is given in
      ap (λ (h : Heap). first_marks h a) t.is ∙ unpainted s t.marks a (t.outside a (λ k. apart a r (t.reached a k))) ∙ clean a r

  pub two_now : (xs : List ℕ) → all ≡ true → Sound now → IsWhole s x None → IsPartInDepth s x xs → ((a : ℕ) → Reached (atom_map s) x a → Reached (atom_map s) y a → ⊥) → x.1 ≡ y.1 → length xs ≡ m
      → Two now x y xs t.seen
  two_now xs whole sound full part apart ports long = record {
    sound = sound;
    full = record {
      atoms = λ a r. tt;
      ends = λ a i r l d. subst (λ (n : Net). IsSome (n.link a i)) (sym net_is) (full.ends a i (subst (λ (n : AtomMap). Reached n x a) map_is r) (subst (λ (n : Net). i < n.arity a) net_is l) d);
    };
    part = subst (λ (n : Net). FoundInside n x (λ _. true) xs) (sym net_is) part;
    part' = subst (λ (n : Net). FoundInside n y (λ _. true) t.seen) (sym net_is) (t.whole whole);
    apart = λ a k l. apart a (((part_atoms s x xs part).1 a).0 k) (((part_atoms s y t.seen (t.whole whole)).1 a).0 l);
    ports = ports;
    long = long ∙ sym t.counted;
  }

  pub size_now : (xs : List ℕ) → all ≡ true → Sound s → IsWhole s x None → IsPartInDepth s x xs → length xs ≢ m → SameGraph (atom_map s) x (atom_map s) y → ⊥
  size_now xs whole sound full part d g = d (same_size s x y xs t.seen sound full part (t.whole whole) g ∙ t.counted)

-- parts of one heap are equal in another that is the same
pub graph_back : {s t : Heap} {x y : ℕ × ℕ} → t ≡ s → SameGraph (atom_map t) x (atom_map t) y → SameGraph (atom_map s) x (atom_map s) y
graph_back {x = x} {y = y} e g = subst (λ (h : Heap). SameGraph (atom_map h) x (atom_map h) y) e g

-- a walk leaves functors
pub functor_now : (before now : Heap) (root : ℕ × ℕ) (count : ℕ) (all : Bool) → Spread before now root count all → (a : ℕ) → functor_of now a ≡ functor_of before a
functor_now before now root count all t a = ap (λ (s : Heap). functor_of s a) t.is ∙ by (t.marks a) (before.atoms a)
  where
    by : (m : ℕ) (o : Option HeapAtom) → option_map (λ (x : HeapAtom). x.functor) (paint m o) ≡ option_map (λ (x : HeapAtom). x.functor) o
    by zero o = refl
    by (suc m) None = refl
    by (suc m) (Some x) = refl

-- and ports
pub port_now : (before now : Heap) (root : ℕ × ℕ) (count : ℕ) (all : Bool) → Spread before now root count all → (p : ℕ × ℕ) → IsPort before p.0 p.1 → IsPort now p.0 p.1
port_now before now root count all t p h =
    (subst (λ (s : Heap). IsAtom s p.0) (sym t.is) (is_painted before t.marks p.0 h.0), subst (λ (n : Net). p.1 < n.arity p.0) (sym (ap net t.is ∙ net_painted before t.marks)) h.1)

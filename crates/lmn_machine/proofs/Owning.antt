-- Own marks that are set for a test and taken back.
use Rattle.std.proofs.Common.{◌≡◌, ℕ, zero, suc, ◌+◌, ◌<◌, List, ◌∷◌, length, map, Option, Some, None, IsSome, refl, sym, ap, subst, ◌∙◌, inl, inr, arith}
use Rattle.std.proofs.lemmas.Bool.{cases_eq}
use Rattle.std.proofs.lemmas.List.{get_or-set_same, get_or-set_other}
use Rattle.std.specs.Option.{option_map}
use Rattle.std.specs.Prelude.{slice_get, slice_index_or}
use Rattle.lmn_base.specs.Graphs.{AtomMap, Reached, StandsWhole}
use Rattle.lmn_store_heap.specs.Heap.{Heap, HeapAtom, IsAtom, IsMem, alter, with_mark, marked, mark_of, partners_of, marks_of, arity_of, PortsUnmarked, own_mark, Unmarked}
use Rattle.lmn_store_heap.specs.Sound.{Sound}
use Rattle.lmn_store_heap.specs.Graphs.{atom_map}
use Rattle.lmn_store_heap.proofs.Listing.{alter_at, alter_away}
use Rattle.lmn_ground.specs.Spread.{IsGroundIn}
use Rattle.lmn_ground.specs.Rests.{own_marked}
use Rattle.lmn_machine.specs.Searching.{IsWholeApart}
use Rattle.lmn_machine_commit.specs.OwnMarks.{own_place, own_painted}
use Rattle.lmn_machine_commit.proofs.Owning.{arity_painted, all_at, own_all, in_all, off_all, none, marked_is, of_handles}
use Rattle.lmn_ground.specs.Marks.{paint_at}
use Rattle.lmn_ground.proofs.CopyLaws.{member as in_handles}
use Rattle.lmn_ground.proofs.PaintedAt.{is_paint, map_painted, painted_none}
use Rattle.lmn_store_heap.proofs.Common.{decide_in as in_or_not}
use Rattle.lmn_base.specs.Lists.{In}

-- marks that are taken back
pub taken_back_own : (h k t : Heap) (xs : List ℕ) → Unmarked h → k ≡ own_marked 1 xs h → t ≡ own_marked 0 xs k → t ≡ h
taken_back_own h k t xs z e f =
    f ∙ ap (λ (s : Heap). own_marked 0 xs s) (e ∙ marked_is h xs 1 z) ∙ own_all h xs 0 (all_at xs 1 none) z
    ∙ painted_none own_place h (all_at xs 0 (all_at xs 1 none)) (λ a. elim (in_or_not a xs) [ inl i ↦ in_all xs 0 (all_at xs 1 none) a i | inr n ↦ off_all xs 0 (all_at xs 1 none) a n ∙ off_all xs 1 none a n ])

-- own marks leave each atom
pub there_own : (h k : Heap) (xs : List ℕ) (m a : ℕ) → Unmarked h → k ≡ own_marked m xs h → IsAtom h a → IsAtom k a
there_own h k xs m a z e i = subst (λ (s : Heap). IsAtom s a) (sym (e ∙ marked_is h xs m z)) (is_paint own_place (all_at xs m none a) (h.atoms a) i)

-- and each membrane
pub mem_own : (h k : Heap) (xs : List ℕ) (m n : ℕ) → Unmarked h → k ≡ own_marked m xs h → IsMem h n → IsMem k n
mem_own h k xs m n z e i = subst (λ (s : Heap). IsMem s n) (sym (e ∙ marked_is h xs m z)) i

-- and each port
pub port_own : (h k : Heap) (xs : List ℕ) (m a i : ℕ) → Unmarked h → k ≡ own_marked m xs h → i < arity_of h a → i < arity_of k a
port_own h k xs m a i z e l = subst (λ (n : ℕ). i < n) (sym (ap (λ (s : Heap). arity_of s a) (e ∙ marked_is h xs m z) ∙ arity_painted h (all_at xs m none) a)) l

-- An atom of the marked heap is there without them, joined as in it.
pub back_own : (h k : Heap) (xs : List ℕ) (m a : ℕ) → Unmarked h → k ≡ own_marked m xs h → IsAtom k a → IsAtom h a × (partners_of (h.atoms a) ≡ partners_of (k.atoms a))
back_own h k xs m a z e i =
    let is = e ∙ marked_is h xs m z in
    (there (all_at xs m none a) (h.atoms a) (subst (λ (s : Heap). IsAtom s a) is i), sym (ap (λ (s : Heap). partners_of (s.atoms a)) is ∙ joined (all_at xs m none a) (h.atoms a)))
  where
    there : (w : ℕ) (o : Option HeapAtom) → IsSome (paint_at own_place w o) → IsSome o
    there zero o i = i
    there (suc w) None i = i
    there (suc w) (Some x) i = refl

    joined : (w : ℕ) (o : Option HeapAtom) → partners_of (paint_at own_place w o) ≡ partners_of o
    joined zero o = refl
    joined (suc w) None = refl
    joined (suc w) (Some x) = refl

-- and the marks of ports
pub clean_own_all : (h k : Heap) (xs : List ℕ) (m : ℕ) → Unmarked h → k ≡ own_marked m xs h → PortsUnmarked k
clean_own_all h k xs m z e = subst (λ (s : Heap). PortsUnmarked s) (sym (e ∙ marked_is h xs m z)) (λ a i l.
    by (all_at xs m none a) (h.atoms a) i (subst (λ (n : ℕ). i < n) (arity_painted h (all_at xs m none) a) l) (z a i))
  where
    by : (w : ℕ) (o : Option HeapAtom) (i : ℕ) → i < length (partners_of o) → slice_index_or (marks_of o) i 0 ≡ 0 → slice_index_or (marks_of (paint_at own_place w o)) i 0 ≡ 0
    by zero o i l e = e
    by (suc w) None i l e = e
    by (suc w) (Some x) i l e = get_or-set_other x.marks (length x.links) i (suc w) 0 (λ (q : i ≡ length x.links). absurd (omega (arith, q, l))) ∙ e

module _ {A : Type 0} (atom : A → ℕ) (h k : Heap) (handles : List A) (z : Unmarked h) (e : k ≡ own_marked 1 (map atom handles) h) where
  abbrev marks : ℕ → ℕ
  marks = all_at (map atom handles) 1 none

  is : k ≡ own_painted h marks
  is = e ∙ marked_is h (map atom handles) 1 z

  same_map : atom_map k ≡ atom_map h
  same_map = ap atom_map is ∙ map_painted own_place h marks

  matched : Sound h → (a : ℕ) → IsAtom h a → In a (map atom handles) → own_mark k a ≡ 1
  matched sound a there i =
      let m : marks a ≡ 1 = in_all (map atom handles) 1 none a i in
      ap (λ (s : Heap). own_mark s a) is ∙ ap (λ (n : ℕ). mark_of (own_painted h marks) a n) (arity_painted h marks a)
      ∙ ap (λ (w : ℕ). slice_index_or (marks_of (paint_at own_place w (h.atoms a))) (arity_of h a) 0) m
      ∙ by (h.atoms a) there (sound.shaped.marks a there)
    where
      by : (o : Option HeapAtom) → IsSome o → length (marks_of o) ≡ length (partners_of o) + 1 → slice_index_or (marks_of (paint_at own_place 1 o)) (length (partners_of o)) 0 ≡ 1
      by None s l = absurd (cc)
      by (Some x) s l = get_or-set_same x.marks (length x.links) 1 0 (omega (arith, l))

  unmatched : (a : ℕ) → (In a (map atom handles) → ⊥) → own_mark k a ≡ 0
  unmatched a n =
      ap (λ (s : Heap). own_mark s a) is ∙ ap (λ (j : ℕ). mark_of (own_painted h marks) a j) (arity_painted h marks a)
      ∙ ap (λ (w : ℕ). slice_index_or (marks_of (paint_at own_place w (h.atoms a))) (arity_of h a) 0) (off_all (map atom handles) 1 none a n) ∙ z a (arity_of h a)

  pub ground_whole : Sound h → ((j : ℕ) (b : A) → slice_get handles j ≡ Some b → IsAtom h (atom b)) → (root : ℕ × ℕ) (m : ℕ) → IsGroundIn k root m → IsWholeApart atom h handles m root
  ground_whole sound held root m g = record {
    whole = subst (λ (n : AtomMap). StandsWhole n root m) same_map g.whole;
    apart = λ b r. record {
      differ = λ j a s t. g.unmatched b (subst (λ (n : AtomMap). Reached n root b) (sym same_map) r)
          (matched sound b (subst (λ (x : ℕ). IsAtom h x) t (held j a s)) (subst (λ (x : ℕ). In x (map atom handles)) t (in_handles atom handles j a s)));
    };
  }

  pub whole_ground : (root : ℕ × ℕ) (m : ℕ) → IsWholeApart atom h handles m root → IsGroundIn k root m
  whole_ground root m w = record {
    whole = subst (λ (n : AtomMap). StandsWhole n root m) (sym same_map) w.whole;
    unmatched = λ a r t. (
        let n = unmatched a (λ i. (let o = of_handles atom handles a i in (w.apart a (subst (λ (n : AtomMap). Reached n root a) same_map r)).differ o.0 o.1.0 o.1.1 o.1.2)) in
        absurd (omega (arith, n, t)));
  }

-- while the handles are gone through
pub own_next : {A : Type 0} (atom : A → ℕ) (goal h k : Heap) (m : ℕ) (xs ys : List A) (x : A) → xs ≡ x ∷ ys → own_marked m (map atom xs) h ≡ goal → k ≡ marked h (atom x) (arity_of h (atom x)) m → own_marked m (map atom ys) k ≡ goal
own_next atom goal h k m xs ys x e g s =
    ap (λ (t : Heap). own_marked m (map atom ys) t) s ∙ (sym (ap (λ zs. own_marked m (map atom zs) h) e) ∙ g)

-- an atom is there when another is marked
pub there_marked : (h k : Heap) (a i m b : ℕ) → k ≡ marked h a i m → IsAtom h b → IsAtom k b
there_marked h k a i m b e there = subst (λ (s : Heap). IsAtom s b) (sym e) (elim (cases_eq b a) [
  | inl s ↦ subst (λ (x : ℕ). IsSome (alter h.atoms a (option_map (with_mark i m)) x)) (sym s) (subst IsSome (sym (alter_at h.atoms a (option_map (with_mark i m)))) (by (h.atoms a) (subst (λ (x : ℕ). IsAtom h x) s there)))
  | inr d ↦ subst IsSome (sym (alter_away h.atoms a (option_map (with_mark i m)) b d)) there
])
  where
    by : (o : Option HeapAtom) → IsSome o → IsSome (option_map (with_mark i m) o)
    by None s = absurd (cc)
    by (Some x) s = refl

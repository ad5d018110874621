-- The making part of a body can run.
use Rattle.std.proofs.Common.{ℕ, zero, suc, ◌+◌, ◌-◌, ◌<◌, ◌≤◌, ◌≡◌, ◌≢◌, ◌⊎◌, ◌==◌, Bool, true, false, cond, slice_get, List, [], ◌∷◌, ◌++◌, map, length, Option, Some, None, IsSome, refl, sym, ap, subst, ◌∙◌, inl, inr, arith}
use Rattle.std.proofs.lemmas.Bool.{cases_eq, eq-eqb, eqb-true}
use Rattle.std.proofs.lemmas.List.{append_assoc, length-append}
use Rattle.std.specs.Option.{option_map}
use Rattle.lmn_store_heap.specs.Heap as heap
use Rattle.lmn_store_heap.specs.Heap.{Heap, HeapMem, Place, top, within, waiting, gone, alter, atoms_in, mem_with_atoms, mem_with_mems, mem_with_place, mem_with_rules, mem_sent, emptied, filled, mem_place_of, mems_in, rules_in, spare_of, spare_by, IsMemInPlace, IsTopOrWithin, Distinct, placed, placed_mem, moved_all, parent_of, rules_copied}
use Rattle.lmn_store_heap.specs.Sound.{Listed}
use Rattle.lmn_store_heap.specs.Conditions.{Above, IsOutside}
use Rattle.lmn_store_heap.proofs.ListLemmas as lists
use Rattle.lmn_store_heap.proofs.ListLemmas.{in_left, in_right}
use Rattle.lmn_store_heap.proofs.Trees.{mem_by as is_some}
use Rattle.lmn_store_heap.proofs.Listing.{alter_at}
use Rattle.lmn_solid_heads.specs.Embeddings.{index_of}
use Rattle.lmn_solid_bodies.specs.declared.items.BodyItem.{BodyItem}
use Rattle.lmn_solid_bodies.specs.declared.items.BodyItem.TheVariants.{Atom, Connector, Copy, Bound, Membrane, Rest, Rule, Rules}
use Rattle.lmn_solid_bodies.specs.Code.{making}
use Rattle.lmn_solid_bodies.specs.Running.{Registers, all_placed, IsRestPlaced}
use Rattle.lmn_solid_bodies.specs.Conditions.{CanRun}
use Rattle.lmn_solid_bodies.specs.Added.{if_inside, named_rules, made_mems, source_mems}
use Rattle.lmn_solid_bodies.specs.Made.{new_atoms}
use Rattle.lmn_solid_bodies.specs.Rules.{Goes, Into, Nests, closed_rests}
use Rattle.lmn_solid_bodies.specs.RestCopies.{RestCopies, later, rest_membranes, copied_atom, copied_membrane, copied_into, given, AreAsLong}
use Rattle.lmn_ground_parts.specs.Copies.{answer}
use Rattle.lmn_ground_parts.specs.Rests.{IsContent, CopyWaits, atoms_placed, copy_round, membrane_placed, membranes_placed}
use Rattle.lmn_congruence_splice.specs.Splice.{IsOneOf}
use Rattle.lmn_store_heap.proofs.ListOps.{change_at, change_away, change_keeps, place_by}
use Rattle.lmn_solid_bodies.proofs.Growing.{Grown, grown_all_placed, grown_placed_mem, grown_moved, grown_rules, only_at}
use Rattle.lmn_solid_bodies.proofs.MakingParts.{Made, made_on, rest_made, rest_on, source_within, same_rules_named}
use Rattle.lmn_solid_bodies.proofs.RestGrowing.{grown_rest, child_in, all_membranes}
use Rattle.lmn_solid_bodies.proofs.RestListing.{atoms_settle, rest_settles}
use Rattle.lmn_solid_bodies.proofs.TreeAfter.{rest_comes}
use Rattle.lmn_solid_bodies.proofs.Contents.{content_on}
use Rattle.lmn_solid_bodies.proofs.Rooms.{HasRoom, rule_targets, targets_within}
use Rattle.lmn_solid_bodies.proofs.MemListing.{same_lists_listed, sent_at, moved_place}
use Rattle.lmn_store_heap.proofs.MemListing.{placed_mem_listed}
use Rattle.lmn_store_heap.proofs.MoveListing.{moved_all_listed}
use Rattle.lmn_solid_bodies.proofs.Below.{index_split, index_front}
use Rattle.lmn_store_heap.proofs.Common.{decide_in as decide, in_at as get_in}
use Rattle.lmn_store_heap.proofs.Depths.{both_distinct}
use Rattle.lmn_store_heap.proofs.Heights.{parent_place}
use Rattle.lmn_base.specs.Lists.{In}
use Rattle.lmn_base.proofs.Lists.{in_either}

-- Ranks of membranes: the membrane of the rule and the made ones are low, in the order in which they are made, and removed
-- ones are high.
pub record Ranked (r : Registers) (home : ℕ) (ks nm : List ℕ) (rank : ℕ → ℕ) : Type 0 where
  pub low : ℕ
  pub once : Distinct nm
  pub targets : (y : ℕ) → (y ≡ home) ⊎ In y nm → rank y ≤ low
  pub removed : (k : ℕ) → In k ks → low < rank k
  pub from_home : (z : ℕ) → In z nm → rank home < rank z
  pub in_order : (x z : ℕ) → In x nm → In z nm → index_of x nm < index_of z nm → rank x < rank z

place_some : (s : Heap) (x : ℕ) → IsMemInPlace s x → IsSome (s.mems x)
place_some s x i = by (s.mems x) i
  where
    by : (o : Option HeapMem) → IsTopOrWithin (option_map (λ y. y.place) o) → IsSome o
    by None i = absurd i
    by (Some y) i = refl

not_waiting : (s : Heap) (x : ℕ) → IsMemInPlace s x → mem_place_of s x ≡ Some waiting → ⊥
not_waiting s x i e = subst IsTopOrWithin e i

same_in_place : (s t : Heap) (x : ℕ) → mem_place_of t x ≡ mem_place_of s x → IsMemInPlace s x → IsMemInPlace t x
same_in_place s t x e i = subst IsTopOrWithin (sym e) i

sent_stands : (m n : ℕ) (o : Option Place) → IsTopOrWithin o → IsTopOrWithin (sent_at m n o)
sent_stands m n None i = absurd i
sent_stands m n (Some top) i = tt
sent_stands m n (Some (within k)) i = by (k == m)
  where
    by : (t : Bool) → IsTopOrWithin (Some (cond t (within n) (within k)))
    by true = tt
    by false = tt
sent_stands m n (Some waiting) i = absurd i
sent_stands m n (Some gone) i = absurd i

in_only : (y x b : ℕ) (ns : List ℕ) → In b (only_at y ns x) → In b ns × (y ≡ x)
in_only y x b ns i = by (y == x) refl i
  where
    by : (t : Bool) → (y == x) ≡ t → In b (cond t ns []) → In b ns × (y ≡ x)
    by true e i = (i, eqb-true y x e)
    by false e i = absurd i

-- lists of membranes after a step
up_after : (ks : List ℕ) (rank : ℕ → ℕ) (s t : Heap) (mv na nm : List ℕ) (A M R : ℕ → List ℕ) → ((p : ℕ) → In p ks ⊎ (In p ks → ⊥)) → ((p : ℕ) → In p mv ⊎ (In p mv → ⊥))
    → Grown ks s t mv na nm A M R → ((p x : ℕ) → In x (mems_in s p) → rank p < rank x) → ((p x : ℕ) → In x (M p) → rank p < rank x) → (p x : ℕ) → In x (mems_in t p) → rank p < rank x
up_after ks rank s t mv na nm A M R dk dm g up more p x i = elim (dk p) [
  | inr o ↦ elim (in_either x (mems_in s p) (M p) (subst (In x) (g.mems p o) i)) [ inl j ↦ up p x j | inr j ↦ more p x j ]
  | inl k ↦ elim (dm p) [
    | inl j ↦ absurd (subst (In x) (g.empty p j).1 i)
    | inr o ↦ up p x (subst (In x) (g.head_mems p k o) i)
  ]
]

-- what is above has no greater rank
above_rank : (s : Heap) → Listed s → (rank : ℕ → ℕ) → ((p x : ℕ) → In x (mems_in s p) → rank p < rank x) → (k a x : ℕ) → Above s k a x → rank a ≤ rank x
above_rank s h rank up zero a x e = subst (λ z. rank a ≤ rank z) (sym e) (omega arith)
above_rank s h rank up (suc k) a x e = let l = above_rank s h rank up k a e.0 e.2 in let u = up e.0 x ((h.mems e.0 x).1 (parent_place s x e.0 e.1)) in omega arith

spare_all : (y : ℕ) (ys : List ℕ) (s : Heap) (x : ℕ) → spare_of (all_placed s (map (λ b. (y, b)) ys)) x ≡ spare_of s x
spare_all y [] s x = refl
spare_all y (b ∷ ys) s x = spare_all y ys (placed s y b) x ∙ change_keeps spare_by s.mems y (mem_with_atoms (λ zs. zs ++ b ∷ [])) (λ z. refl) x

spare_atoms : (copy : ℕ → ℕ) (y : ℕ) (ys : List ℕ) (s : Heap) (x : ℕ) → spare_of (atoms_placed copy s y ys) x ≡ spare_of s x
spare_atoms copy y [] s x = refl
spare_atoms copy y (b ∷ ys) s x = spare_atoms copy y ys (placed s y (copy b)) x ∙ change_keeps spare_by s.mems y (mem_with_atoms (λ zs. zs ++ copy b ∷ [])) (λ z. refl) x

spare_placed : (s : Heap) (y z x : ℕ) → spare_of (placed_mem s y z) x ≡ spare_of s x
spare_placed s y z x = change_keeps spare_by (alter s.mems z (option_map (mem_with_place (within y)))) y (mem_with_mems (λ ws. ws ++ z ∷ [])) (λ q. refl) x ∙ change_keeps spare_by s.mems z (mem_with_place (within y)) (λ q. refl) x

-- the copy of a rest leaves spares of other membranes
spare_membranes : (cm copy : ℕ → ℕ) (zs : List ℕ) (s : Heap) (x : ℕ) → (In x (map cm zs) → ⊥) → spare_of (membranes_placed cm copy s zs) x ≡ spare_of s x
spare_membranes cm copy [] s x o = refl
spare_membranes cm copy (k ∷ zs) s x o =
    let n = cm k in
    let s1 = placed_mem s (copy_round cm (parent_of s k)) n in
    let s2 = rules_copied s1 k n in
    spare_membranes cm copy zs (membrane_placed cm copy s k) x (λ i. o (inr i))
    ∙ spare_atoms copy n (atoms_in s k) s2 x ∙ change_away spare_by s1.mems n (mem_with_rules (rules_in s1 k)) x (λ e. o (inl (sym e))) ∙ spare_placed s (copy_round cm (parent_of s k)) n x

split_once : (xs : List ℕ) (z : ℕ) (ys : List ℕ) → Distinct (xs ++ (z ∷ ys)) → In z ys → ⊥
split_once [] z ys d i = lists.each_in (λ w. z ≢ w) ys z d.0 i refl
split_once (x ∷ xs) z ys d i = split_once xs z ys d.1 i

-- the membranes of contexts that move, and of rule contexts
abbrev pub context_mems : Registers → List BodyItem → List ℕ
context_mems r [] = []
context_mems r (Atom functor links inside ∷ xs) = context_mems r xs
context_mems r (Connector left right ∷ xs) = context_mems r xs
context_mems r (Copy part link inside ∷ xs) = context_mems r xs
context_mems r (Bound integer link inside ∷ xs) = context_mems r xs
context_mems r (Membrane inside ∷ xs) = context_mems r xs
context_mems r (Rest of false inside ∷ xs) = r.head.images.membrane of ∷ context_mems r xs
context_mems r (Rest of true inside ∷ xs) = context_mems r xs
context_mems r (Rule rule inside ∷ xs) = context_mems r xs
context_mems r (Rules of inside ∷ xs) = r.head.images.membrane of ∷ context_mems r xs

-- Each rest that is still to be copied stands in its membrane, and the membranes of its copy have room for its rules.
abbrev pub RestsWait : Registers → RestCopies → List BodyItem → Heap → Type 0
RestsWait r q [] s = Unit {0}
RestsWait r q (Atom functor links inside ∷ xs) s = RestsWait r q xs s
RestsWait r q (Connector left right ∷ xs) s = RestsWait r q xs s
RestsWait r q (Copy part link inside ∷ xs) s = RestsWait r q xs s
RestsWait r q (Bound integer link inside ∷ xs) s = RestsWait r q xs s
RestsWait r q (Membrane inside ∷ xs) s = RestsWait r q xs s
RestsWait r q (Rest of false inside ∷ xs) s = RestsWait r q xs s
RestsWait r q (Rest of true inside ∷ xs) s =
    IsContent s (r.head.images.membrane of) (r.left_atoms of) (r.left_membranes of)
    × ((k j : ℕ) → In k (r.left_membranes of) → In j (mems_in s k) → index_of k (r.left_membranes of) < index_of j (r.left_membranes of))
    × ((k x y : ℕ) → slice_get (r.left_membranes of) k ≡ Some x → slice_get (q 0).membranes k ≡ Some y → length (rules_in s x) ≤ spare_of s y)
    × RestsWait r (later q) xs s
RestsWait r q (Rule rule inside ∷ xs) s = RestsWait r q xs s
RestsWait r q (Rules of inside ∷ xs) s = RestsWait r q xs s

-- So do all rests.
rests_on : (r : Registers) (q : RestCopies) (m : ℕ) (body : List BodyItem) (s t : Heap) → ((p : ℕ) → In p (source_mems r body) → (atoms_in t p ≡ atoms_in s p) × (mems_in t p ≡ mems_in s p) × (rules_in t p ≡ rules_in s p))
    → ((y : ℕ) → In y (made_mems r q m body) → spare_of t y ≡ spare_of s y) → RestsWait r q body s → RestsWait r q body t
rests_on r q m [] s t same spare w = tt
rests_on r q m (Atom functor links inside ∷ xs) s t same spare w = rests_on r q m xs s t same spare w
rests_on r q m (Connector left right ∷ xs) s t same spare w = rests_on r q m xs s t same spare w
rests_on r q m (Copy part link inside ∷ xs) s t same spare w = rests_on r q m xs s t same spare w
rests_on r q m (Bound integer link inside ∷ xs) s t same spare w = rests_on r q m xs s t same spare w
rests_on r q m (Membrane inside ∷ xs) s t same spare w = rests_on r q (m + 1) xs s t same (λ y i. spare y (inr i)) w
rests_on r q m (Rest of false inside ∷ xs) s t same spare w = rests_on r q m xs s t (λ p i. same p (inr i)) spare w
rests_on r q m (Rest of true inside ∷ xs) s t same spare w = (
  content_on s t (r.head.images.membrane of) (r.left_atoms of) (r.left_membranes of) (λ p i. let v = same p (in_left p (rest_membranes r of) (source_mems r xs) i) in (v.0, v.1)) w.0,
  (λ k j i l. w.1 k j i (subst (In j) (same k (in_left k (rest_membranes r of) (source_mems r xs) (inr i))).1 l)),
  (λ k x y e f. let one = w.2 k x y e f in
      let rx = (same x (in_left x (rest_membranes r of) (source_mems r xs) (inr (get_in (r.left_membranes of) k x e)))).2 in
      let sy = spare y (in_left y (q 0).membranes (made_mems r (later q) m xs) (get_in (q 0).membranes k y f)) in
      subst (λ n. n ≤ spare_of t y) (ap (λ (zs : List ℕ). length zs) (sym rx)) (subst (λ n. length (rules_in s x) ≤ n) (sym sy) one)),
  rests_on r (later q) m xs s t (λ p i. same p (in_right p (rest_membranes r of) (source_mems r xs) i)) (λ y i. spare y (in_right y (q 0).membranes (made_mems r (later q) m xs) i)) w.3,
)
rests_on r q m (Rule rule inside ∷ xs) s t same spare w = rests_on r q m xs s t same spare w
rests_on r q m (Rules of inside ∷ xs) s t same spare w = rests_on r q m xs s t same spare w

-- the membranes to which items may go, now or later
abbrev pub MayGet : Registers → RestCopies → ℕ → List ℕ → ℕ → List BodyItem → ℕ → Type 0
MayGet r q home done m body x = (x ≡ home) ⊎ In x done ⊎ In x (made_mems r q m body)

-- A heap at some place in the making part. `heads` are the membranes of the head, which are gone.
pub record State (r : Registers) (qs : RestCopies) (home : ℕ) (ks heads : List ℕ) (E : ℕ → Type 0) (rank : ℕ → ℕ) (done : List ℕ) (a m c : ℕ) (body : List BodyItem) (s : Heap) : Type 0 where
  pub made : Made r qs ks E home done a m c body s
  pub listed : Listed s
  pub up : (p x : ℕ) → In x (mems_in s p) → rank p < rank x
  pub place : (x : ℕ) → (x ≡ home) ⊎ In x done → IsMemInPlace s x
  pub gone_heads : (x : ℕ) → In x heads → mem_place_of s x ≡ Some gone
  pub contexts : (x : ℕ) → In x (context_mems r body) → In x heads
  pub wait : (x : ℕ) → In x (made_mems r qs m body) → mem_place_of s x ≡ Some waiting
  pub spare : (x : ℕ) → MayGet r qs home done m body x → length (named_rules r (rules_in s) body x) ≤ spare_of s x
  pub rests : RestsWait r qs body s

-- one call: what is said of the heap after
state_on : (r : Registers) (qs : RestCopies) (home : ℕ) (ks heads : List ℕ) (E : ℕ → Type 0) (rank : ℕ → ℕ) (done : List ℕ) (a m c : ℕ) (xs : List BodyItem) (s t : Heap) (mv na nm : List ℕ) (A M R : ℕ → List ℕ) → Grown ks s t mv na nm A M R
    → ((x : ℕ) → In x heads → In x ks) → ((x : ℕ) → In x mv → In x (source_mems r xs) → ⊥) → Made r qs ks E home done a m c xs t → Listed t
    → ((p x : ℕ) → In x (mems_in s p) → rank p < rank x) → ((p x : ℕ) → In x (M p) → rank p < rank x) → ((x : ℕ) → (x ≡ home) ⊎ In x done → IsMemInPlace t x)
    → ((x : ℕ) → In x heads → mem_place_of s x ≡ Some gone) → ((x : ℕ) → In x (context_mems r xs) → In x heads)
    → ((x : ℕ) → In x (made_mems r qs m xs) → mem_place_of t x ≡ Some waiting) → ((x : ℕ) → MayGet r qs home done m xs x → length (named_rules r (rules_in s) xs x) ≤ spare_of t x)
    → ((y : ℕ) → In y (made_mems r qs m xs) → spare_of t y ≡ spare_of s y) → RestsWait r qs xs s → State r qs home ks heads E rank done a m c xs t
state_on r qs home ks heads E rank done a m c xs s t mv na nm A M R g sub apart mk listed up more place gone_s contexts wait spare spare_made rests = record {
  made = mk;
  listed = listed;
  up = up_after ks rank s t mv na nm A M R (λ p. decide p ks) (λ p. decide p mv) g up more;
  place = place;
  gone_heads = λ x i. g.places x (sub x i) (λ p j e. gone_within p (sym (gone_s x i) ∙ e)) ∙ gone_s x i;
  contexts = contexts;
  wait = wait;
  spare = λ x i. subst (λ n. n ≤ spare_of t x) (ap (λ (zs : List ℕ). length zs) (sym (same_rules_named r ks E (rules_in s) (rules_in t) xs x mk.goes g.head_rules))) (spare x i);
  rests = rests_on r qs m xs s t (λ p i. let k = source_within r ks E xs mk.goes p i in (g.head_atoms p k (λ j. apart p j i), g.head_mems p k (λ j. apart p j i), g.head_rules p k)) spare_made rests;
}
  where
    gone_within : (p : ℕ) → ◌≡◌ {A = Option Place} (Some gone) (Some (within p)) → ⊥
    gone_within p e = absurd (cc)

module _ (r : Registers) (home : ℕ) (ks heads nm : List ℕ) (rank : ℕ → ℕ) (E : ℕ → Type 0) (rk : Ranked r home ks nm rank) (sub : (x : ℕ) → In x heads → In x ks) where
  target_place : (qs : RestCopies) (done : List ℕ) (a m c : ℕ) (body : List BodyItem) (s : Heap) → State r qs home ks heads E rank done a m c body s → (inside : ℕ) → Into r home done inside → IsMemInPlace s (r.head.images.membrane inside)
  target_place qs done a m c body s st inside i = st.place (r.head.images.membrane inside) i

  may_get : (qs : RestCopies) (done : List ℕ) (m : ℕ) (body : List BodyItem) (inside : ℕ) → Into r home done inside → MayGet r qs home done m body (r.head.images.membrane inside)
  may_get qs done m body inside (inl e) = inl e
  may_get qs done m body inside (inr i) = inr (inl i)

  target_in : (done : List ℕ) (inside : ℕ) → ((y : ℕ) → In y done → In y nm) → Into r home done inside → (r.head.images.membrane inside ≡ home) ⊎ In (r.head.images.membrane inside) nm
  target_in done inside so (inl e) = inl e
  target_in done inside so (inr i) = inr (so (r.head.images.membrane inside) i)

  -- no target is still to be made
  target_apart : (done made : List ℕ) (inside : ℕ) → Distinct (done ++ made) → (In home made → ⊥) → Into r home done inside → In (r.head.images.membrane inside) made → ⊥
  target_apart done made inside d o (inl e) i = o (subst (λ z. In z made) e i)
  target_apart done made inside d o (inr j) i = lists.apart done made (r.head.images.membrane inside) (r.head.images.membrane inside) d j i refl

  -- atoms are placed
  placed_state : (qs : RestCopies) (done : List ℕ) (a m c a' c' : ℕ) (xs : List BodyItem) (s : Heap) (inside : ℕ) (ys : List ℕ) (full : List BodyItem) → State r qs home ks heads E rank done a m c full s → Into r home done inside
      → (In (r.head.images.membrane inside) ks → ⊥) → Goes r ks E xs → Nests r home done m xs → AreAsLong r qs xs → (rest : List ℕ) × (s.new_atoms ≡ (ys ++ new_atoms r qs a' c' xs) ++ rest)
      → made_mems r qs m full ≡ made_mems r qs m xs → closed_rests full ≡ closed_rests xs → ((x : ℕ) → In x (context_mems r xs) → In x heads)
      → ((x : ℕ) → named_rules r (rules_in s) full x ≡ named_rules r (rules_in s) xs x) → RestsWait r qs xs s
      → State r qs home ks heads E rank done a' m c' xs (all_placed s (map (λ b. (r.head.images.membrane inside, b)) ys))
  placed_state qs done a m c a' c' xs s inside ys full st n o goes nests long line em ec cx er rests =
      let y = r.head.images.membrane inside in
      let t = all_placed s (map (λ b. (y, b)) ys) in
      let mk = st.made in
      let at = target_place qs done a m c full s st inside n in
      let g = grown_all_placed ks y ys s o (place_some s y at) in
      let settles = atoms_settle y ys s (new_atoms r qs a' c' xs ++ line.0) (line.1 ∙ append_assoc ys (new_atoms r qs a' c' xs) line.0) (place_some s y at) (not_waiting s y at) st.listed in
      let same : (x : ℕ) → mem_place_of t x ≡ mem_place_of s x = λ x. settles.others x (λ i. i) in
      state_on r qs home ks heads E rank done a' m c' xs s t [] ys [] (only_at y ys) (λ x. []) (λ x. []) g sub (λ x i j. i)
      (made_on r qs ks E home done a' m c' xs s t [] ys [] (only_at y ys) (λ x. []) (λ x. []) g (λ x i j. i) mk.there goes nests long line
      (mk.mem_line.0, mk.mem_line.1 ∙ ap (λ zs. zs ++ mk.mem_line.0) em) (λ z i. mk.made z (subst (In z) (sym em) i)) (subst (λ zs. Distinct (done ++ zs)) em mk.once) (λ i. mk.home_apart (subst (In home) (sym em) i))
      (λ of i. mk.inside of (subst (IsOneOf of) (sym ec) i)) (λ of i. mk.atoms_once of (subst (IsOneOf of) (sym ec) i)))
      settles.listed
      st.up (λ p x i. absurd i) (λ x i. same_in_place s t x (same x) (st.place x i)) st.gone_heads cx
      (λ x i. same x ∙ st.wait x (subst (In x) (sym em) i))
      (λ x i. subst (λ k. length (named_rules r (rules_in s) xs x) ≤ k) (sym (spare_all y ys s x)) (subst (λ zs. length zs ≤ spare_of s x) (er x) (st.spare x (elim i [ inl e ↦ inl e | inr j ↦ inr (elim j [ inl z ↦ inl z | inr z ↦ inr (subst (In x) (sym em) z) ]) ]))))
      (λ z i. spare_all y ys s z) rests

  -- rules go to a membrane
  rules_state : (qs : RestCopies) (done : List ℕ) (a m c : ℕ) (xs : List BodyItem) (s : Heap) (inside : ℕ) (full : List BodyItem) (rs : List ℕ) → State r qs home ks heads E rank done a m c full s → Into r home done inside
      → (In (r.head.images.membrane inside) ks → ⊥) → Goes r ks E xs → Nests r home done m xs → AreAsLong r qs xs → new_atoms r qs a c full ≡ new_atoms r qs a c xs
      → made_mems r qs m full ≡ made_mems r qs m xs → closed_rests full ≡ closed_rests xs → ((x : ℕ) → In x (context_mems r xs) → In x heads)
      → ((x : ℕ) → named_rules r (rules_in s) full x ≡ if_inside r x inside rs ++ named_rules r (rules_in s) xs x) → RestsWait r qs xs s
      → State r qs home ks heads E rank done a m c xs (record s { mems = alter s.mems (r.head.images.membrane inside) (option_map (mem_with_rules rs)) })
  rules_state qs done a m c xs s inside full rs st n o goes nests long ea em ec cx er rests =
      let y = r.head.images.membrane inside in
      let f = mem_with_rules rs in
      let t : Heap = record s { mems = alter s.mems y (option_map f) } in
      let mk = st.made in
      let at = target_place qs done a m c full s st inside n in
      let g = grown_rules ks s y rs o (place_some s y at) in
      let same : (x : ℕ) → mem_place_of t x ≡ mem_place_of s x = change_keeps place_by s.mems y f (λ z. refl) in
      let once = subst (λ zs. Distinct (done ++ zs)) em mk.once in
      let home_apart : In home (made_mems r qs m xs) → ⊥ = λ i. mk.home_apart (subst (In home) (sym em) i) in
      state_on r qs home ks heads E rank done a m c xs s t [] [] [] (λ x. []) (λ x. []) (only_at y rs) g sub (λ x i j. i)
      (made_on r qs ks E home done a m c xs s t [] [] [] (λ x. []) (λ x. []) (only_at y rs) g (λ x i j. i) mk.there goes nests long (mk.line.0, mk.line.1 ∙ ap (λ zs. zs ++ mk.line.0) ea)
      (mk.mem_line.0, mk.mem_line.1 ∙ ap (λ zs. zs ++ mk.mem_line.0) em) (λ z i. mk.made z (subst (In z) (sym em) i)) once home_apart
      (λ of i. mk.inside of (subst (IsOneOf of) (sym ec) i)) (λ of i. mk.atoms_once of (subst (IsOneOf of) (sym ec) i)))
      (same_lists_listed s y f (λ x. (refl, refl, refl)) st.listed)
      st.up (λ p x i. absurd i) (λ x i. same_in_place s t x (same x) (st.place x i)) st.gone_heads cx
      (λ x i. same x ∙ st.wait x (subst (In x) (sym em) i))
      (λ x i. let was = st.spare x (elim i [ inl e ↦ inl e | inr j ↦ inr (elim j [ inl z ↦ inl z | inr z ↦ inr (subst (In x) (sym em) z) ]) ]) in
      elim (cases_eq x y) [
        | inl e ↦ subst (λ z. length (named_rules r (rules_in s) xs z) ≤ spare_of t z) (sym e)
            (at_y (named_rules r (rules_in s) xs y) (place_some s y at) (subst (λ zs. length zs ≤ spare_of s y) (er y ∙ ap (λ zs. zs ++ named_rules r (rules_in s) xs y) here) (subst (λ z. length (named_rules r (rules_in s) full z) ≤ spare_of s z) e was)))
        | inr d ↦ subst (λ k. length (named_rules r (rules_in s) xs x) ≤ k) (sym (change_away spare_by s.mems y f x d))
            (subst (λ zs. length zs ≤ spare_of s x) (er x ∙ ap (λ zs. zs ++ named_rules r (rules_in s) xs x) (away x d)) was)
      ])
      (λ z i. change_away spare_by s.mems y f z (λ e. target_apart done (made_mems r qs m xs) inside once home_apart n (subst (λ w. In w (made_mems r qs m xs)) e i))) rests
    where
      here : if_inside r (r.head.images.membrane inside) inside rs ≡ rs
      here = rw (eq-eqb (r.head.images.membrane inside) (r.head.images.membrane inside) refl) refl

      away : (x : ℕ) → x ≢ r.head.images.membrane inside → if_inside r x inside rs ≡ []
      away x d = by (r.head.images.membrane inside == x) refl
        where
          by : (t : Bool) → (r.head.images.membrane inside == x) ≡ t → cond t rs [] ≡ []
          by true e = absurd (d (sym (eqb-true (r.head.images.membrane inside) x e)))
          by false e = refl

      at_y : (more : List ℕ) → IsSome (s.mems (r.head.images.membrane inside)) → length (rs ++ more) ≤ spare_of s (r.head.images.membrane inside)
          → length more ≤ spare_by (alter s.mems (r.head.images.membrane inside) (option_map (mem_with_rules rs)) (r.head.images.membrane inside))
      at_y more is h = subst (λ k. length more ≤ k) (sym (change_at spare_by s.mems (r.head.images.membrane inside) (mem_with_rules rs) (λ k. k - length rs) (λ z. refl) is))
          (less (length more) (length rs) (spare_of s (r.head.images.membrane inside)) (subst (λ k. k ≤ spare_of s (r.head.images.membrane inside)) (length-append rs more) h))
        where
          less : (p q w : ℕ) → q + p ≤ w → p ≤ w - q
          less p q w h = omega arith

  -- a membrane is placed
  mem_state : (qs : RestCopies) (done front : List ℕ) (a m c : ℕ) (xs : List BodyItem) (s : Heap) (inside : ℕ) → ((y : ℕ) → In y done → In y front) → nm ≡ front ++ (r.head.images.membrane m ∷ made_mems r qs (m + 1) xs) → State r qs home ks heads E rank done a m c (Membrane inside ∷ xs) s
      → heap.from (Some (r.head.images.membrane m)) s.new_mems ≡ s.new_mems
      → State r qs home ks heads E rank (done ++ r.head.images.membrane m ∷ []) a (m + 1) c xs (placed_mem s (r.head.images.membrane inside) (r.head.images.membrane m))
  mem_state qs done front a m c xs s inside into whole st first =
      let y = r.head.images.membrane inside in
      let z = r.head.images.membrane m in
      let t = placed_mem s y z in
      let mk = st.made in
      let n = mk.nests.0 in
      let at = target_place qs done a m c (Membrane inside ∷ xs) s st inside n in
      let g = grown_placed_mem ks s y z mk.goes.0.0 (mk.made z (inl refl)).0 (place_some s y at) in
      let waits : mem_place_of s z ≡ Some waiting = st.wait z (inl refl) in
      let away : (x : ℕ) → x ≢ z → mem_place_of t x ≡ mem_place_of s x = λ x d. change_keeps place_by (alter s.mems z (option_map (mem_with_place (within y)))) y (mem_with_mems (λ ws. ws ++ z ∷ [])) (λ q. refl) x
      ∙ change_away place_by s.mems z (mem_with_place (within y)) x d in
      let in_nm : In z nm = subst (In z) (sym whole) (in_right z front (z ∷ made_mems r qs (m + 1) xs) (inl refl)) in
      let differs : (x : ℕ) → In x (made_mems r qs (m + 1) xs) → x ≢ z = λ x i e. split_once front z (made_mems r qs (m + 1) xs) (subst Distinct whole rk.once) (subst (λ q. In q (made_mems r qs (m + 1) xs)) e i) in
      state_on r qs home ks heads E rank (done ++ z ∷ []) a (m + 1) c xs s t [] [] (z ∷ []) (λ x. []) (only_at y (z ∷ [])) (λ x. []) g sub (λ x i j. i)
      (made_on r qs ks E home (done ++ z ∷ []) a (m + 1) c xs s t [] [] (z ∷ []) (λ x. []) (only_at y (z ∷ [])) (λ x. []) g (λ x i j. i) mk.there mk.goes.1 mk.nests.1 mk.long mk.line mk.mem_line (λ x i. mk.made x (inr i))
      (subst Distinct (sym (append_assoc done (z ∷ []) (made_mems r qs (m + 1) xs))) mk.once) (λ i. mk.home_apart (inr i)) mk.inside mk.atoms_once)
      (placed_mem_listed s y z st.listed (place_some s y at) (not_waiting s y at) first)
      st.up
      (λ p x i.
      let w = in_only y p x (z ∷ []) i in
      elim w.0 [
        | inl e ↦ subst (λ q. rank q < rank x) w.1 (subst (λ q. rank y < rank q) e (above_target n in_nm))
        | inr v ↦ absurd v
      ])
      (λ x i. elim (cases_eq x z) [
        | inl e ↦ subst (IsMemInPlace t) (sym e) (now_placed s y z waits)
        | inr d ↦ same_in_place s t x (away x d) (st.place x (elim i [
          | inl q ↦ inl q
          | inr j ↦ elim (in_either x done (z ∷ []) j) [ inl l ↦ inr l | inr l ↦ elim l [ inl q ↦ absurd (d (sym q)) | inr v ↦ absurd v ] ]
        ]))
      ])
      st.gone_heads st.contexts
      (λ x i. away x (differs x i) ∙ st.wait x (inr i))
      (λ x i. subst (λ k. length (named_rules r (rules_in s) xs x) ≤ k) (sym (spare_placed s y z x)) (st.spare x (elim i [
        | inl q ↦ inl q
        | inr j ↦ elim j [
          | inl l ↦ elim (in_either x done (z ∷ []) l) [ inl q ↦ inr (inl q) | inr q ↦ elim q [ inl e ↦ inr (inr (inl e)) | inr v ↦ absurd v ] ]
          | inr l ↦ inr (inr (inr l))
        ]
      ])))
      (λ x i. spare_placed s y z x) st.rests
    where
      now_placed : (s : Heap) (y z : ℕ) → mem_place_of s z ≡ Some waiting → IsMemInPlace (placed_mem s y z) z
      now_placed s y z e = subst IsTopOrWithin (sym (change_keeps place_by (alter s.mems z (option_map (mem_with_place (within y)))) y (mem_with_mems (λ ws. ws ++ z ∷ [])) (λ q. refl) z
          ∙ ap place_by (alter_at s.mems z (option_map (mem_with_place (within y)))) ∙ by (s.mems z) e)) tt
        where
          by : (o : Option HeapMem) → place_by o ≡ Some waiting → place_by (option_map (mem_with_place (within y)) o) ≡ Some (within y)
          by None e = absurd (cc)
          by (Some x) e = refl

      above_target : Into r home done inside → In (r.head.images.membrane m) nm → rank (r.head.images.membrane inside) < rank (r.head.images.membrane m)
      above_target (inl e) i = subst (λ q. rank q < rank (r.head.images.membrane m)) (sym e) (rk.from_home (r.head.images.membrane m) i)
      above_target (inr j) i =
          let z = r.head.images.membrane m in
          let y = r.head.images.membrane inside in
          let at : index_of z nm ≡ length front = subst (λ zs. index_of z zs ≡ length front) (sym whole) (index_split front z (made_mems r qs (m + 1) xs) (subst Distinct whole rk.once)) in
          let before : index_of y nm < length front = subst (λ zs. index_of y zs < length front) (sym whole) (index_front y front (z ∷ made_mems r qs (m + 1) xs) (into y j)) in
          rk.in_order y z (subst (In y) (sym whole) (in_left y front (z ∷ made_mems r qs (m + 1) xs) (into y j))) i (omega (arith, at, before))

  -- what is left of a removed membrane moves
  moved_state : (qs : RestCopies) (done front : List ℕ) (a m c : ℕ) (xs : List BodyItem) (s : Heap) (of inside : ℕ) → ((y : ℕ) → In y done → In y front) → nm ≡ front ++ made_mems r qs m xs → State r qs home ks heads E rank done a m c (Rest of false inside ∷ xs) s
      → State r qs home ks heads E rank done a m c xs (moved_all s (r.head.images.membrane of) (r.head.images.membrane inside))
  moved_state qs done front a m c xs s of inside into whole st =
      let y = r.head.images.membrane inside in
      let q = r.head.images.membrane of in
      let t = moved_all s q y in
      let mk = st.made in
      let n = mk.nests.0 in
      let k = mk.goes.0 in
      let o = mk.goes.3.0 in
      let at = target_place qs done a m c (Rest of false inside ∷ xs) s st inside n in
      let from = is_some s q gone (st.gone_heads q (st.contexts q (inl refl))) in
      let g = grown_moved ks s q y k o from (place_some s y at) in
      let place = moved_place s q y in
      let apart : (x : ℕ) → In x (q ∷ []) → In x (source_mems r xs) → ⊥ = λ x i j. elim i [ inl e ↦ mk.goes.2 (subst (λ z. In z (source_mems r xs)) (sym e) j) | inr v ↦ v ] in
      state_on r qs home ks heads E rank done a m c xs s t (q ∷ []) [] [] (only_at y (atoms_in s q)) (only_at y (mems_in s q)) (λ x. []) g sub apart
      (made_on r qs ks E home done a m c xs s t (q ∷ []) [] [] (only_at y (atoms_in s q)) (only_at y (mems_in s q)) (λ x. []) g apart mk.there mk.goes.4 mk.nests.1 mk.long mk.line mk.mem_line mk.made mk.once mk.home_apart mk.inside mk.atoms_once)
      (moved_all_listed s q y (λ e. o (subst (λ w. In w ks) e k)) (place_some s y at) (not_waiting s y at) st.listed)
      st.up
      (λ p x i.
      let w = in_only y p x (mems_in s q) i in
      let low = rk.targets y (target_in done inside (λ z j. subst (In z) (sym whole) (in_left z front (made_mems r qs m xs) (into z j))) n) in
      let high = rk.removed q k in
      let child = st.up q x w.0 in
      subst (λ z. rank z < rank x) w.1 (omega (arith, low, high, child)))
      (λ x i. subst IsTopOrWithin (sym (place x)) (sent_stands q y (mem_place_of s x) (st.place x i)))
      st.gone_heads (λ x i. st.contexts x (inr i))
      (λ x i. place x ∙ ap (sent_at q y) (st.wait x i))
      (λ x i. subst (λ w. length (named_rules r (rules_in s) xs x) ≤ w) (sym (spare_moved s q y x)) (st.spare x i))
      (λ x i. spare_moved s q y x) st.rests
    where
      spare_moved : (s : Heap) (q y x : ℕ) → spare_of (moved_all s q y) x ≡ spare_of s x
      spare_moved s q y x = by (alter (alter s.mems q (option_map emptied)) y (option_map (filled (atoms_in s q) (mems_in s q))) x)
          ∙ change_keeps spare_by (alter s.mems q (option_map emptied)) y (filled (atoms_in s q) (mems_in s q)) (λ z. refl) x ∙ change_keeps spare_by s.mems q emptied (λ z. refl) x
        where
          by : (o : Option HeapMem) → spare_by (option_map (mem_sent q y) o) ≡ spare_by o
          by None = refl
          by (Some z) = refl

  -- the target isn't inside what moves
  outside : (qs : RestCopies) (done front : List ℕ) (a m c : ℕ) (xs : List BodyItem) (s : Heap) (of inside : ℕ) → ((y : ℕ) → In y done → In y front) → nm ≡ front ++ made_mems r qs m xs → State r qs home ks heads E rank done a m c (Rest of false inside ∷ xs) s
      → IsOutside s (r.head.images.membrane inside) (r.head.images.membrane of)
  outside qs done front a m c xs s of inside into whole st j above =
      off (above_rank s st.listed rank st.up j (r.head.images.membrane of) (r.head.images.membrane inside) above)
      (rk.targets (r.head.images.membrane inside) (target_in done inside (λ z i. subst (In z) (sym whole) (in_left z front (made_mems r qs m xs) (into z i))) st.made.nests.0)) (rk.removed (r.head.images.membrane of) st.made.goes.0)
    where
      off : rank (r.head.images.membrane of) ≤ rank (r.head.images.membrane inside) → rank (r.head.images.membrane inside) ≤ rk.low → rk.low < rank (r.head.images.membrane of) → ⊥
      off p q w = omega (arith, p, q, w)

  -- the copy of a rest can be placed
  rest_waits : (qs : RestCopies) (done : List ℕ) (a m c : ℕ) (xs : List BodyItem) (s : Heap) (of inside : ℕ) → State r qs home ks heads E rank done a m c (Rest of true inside ∷ xs) s
      → CopyWaits s (r.head.images.membrane of) (r.head.images.membrane inside) (r.left_atoms of) (r.left_membranes of) (qs 0).atoms (qs 0).membranes
  rest_waits qs done a m c xs s of inside st =
      let mk = st.made in
      record {
        content = st.rests.0;
        outside = λ i. mk.goes.1.0 (mk.goes.0 (r.head.images.membrane inside) i).0;
        long = mk.long.0.0;
        line = (new_atoms r (later qs) a c xs ++ mk.line.0, mk.line.1 ∙ append_assoc (qs 0).atoms (new_atoms r (later qs) a c xs) mk.line.0);
        long_membranes = mk.long.0.1;
        line_of_membranes = (made_mems r (later qs) m xs ++ mk.mem_line.0, mk.mem_line.1 ∙ append_assoc (qs 0).membranes (made_mems r (later qs) m xs) mk.mem_line.0);
        roomy = st.rests.2;
      }

  -- and when it is
  rest_state : (qs : RestCopies) (done front : List ℕ) (a m c : ℕ) (xs : List BodyItem) (s t : Heap) (of inside : ℕ) → ((y : ℕ) → In y done → In y front) → nm ≡ front ++ ((qs 0).membranes ++ made_mems r (later qs) m xs)
      → State r qs home ks heads E rank done a m c (Rest of true inside ∷ xs) s → IsRestPlaced r of inside s t → State r (later qs) home ks heads E rank done a m c xs t
  rest_state qs done front a m c xs s t of inside into whole st run =
      let p = qs 0 in
      let y = r.head.images.membrane inside in
      let q = r.head.images.membrane of in
      let ats = r.left_atoms of in
      let ms = r.left_membranes of in
      let mk = st.made in
      let more = made_mems r (later qs) m xs in
      let w = rest_made r qs ks E home done a m c of inside xs s t mk run in
      let at = target_place qs done a m c (Rest of true inside ∷ xs) s st inside mk.nests.0 in
      let A = given (λ z. map (copied_atom r of p) (atoms_in s z)) (copied_into r of inside p) (rest_membranes r of) in
      let M = given (λ z. map (copied_membrane r of p) (mems_in s z)) (copied_into r of inside p) (rest_membranes r of) in
      let R = given (rules_in s) (copied_into r of inside p) ms in
      let g : Grown ks s t [] p.atoms p.membranes A M R = subst (λ z. Grown ks s z [] p.atoms p.membranes A M R) (sym w.is) (grown_rest ks s q y ats ms p.atoms p.membranes w.waits w.places) in
      let settles = rest_settles ks s q y ats ms p.atoms p.membranes w.waits w.places (not_waiting s y at) st.listed in
      let same : (x : ℕ) → (In x p.membranes → ⊥) → mem_place_of t x ≡ mem_place_of s x = λ x o. ap (λ (z : Heap). mem_place_of z x) w.is ∙ settles.others x o in
      let spare : (x : ℕ) → (In x p.membranes → ⊥) → spare_of t x ≡ spare_of s x = λ x o. ap (λ (z : Heap). spare_of z x) w.is
      ∙ spare_membranes (answer (q ∷ ms) (y ∷ p.membranes)) (answer ats p.atoms) ms (atoms_placed (answer ats p.atoms) s y (atoms_in s q)) x (λ i. o (subst (In x) (all_membranes ks s q y ats ms p.atoms p.membranes w.waits w.places) i))
      ∙ spare_atoms (answer ats p.atoms) y (atoms_in s q) s x in
      let in_home : (x : ℕ) → (x ≡ home) ⊎ In x done → In x p.membranes → ⊥ = λ x i j. elim i [
        | inl e ↦ mk.home_apart (in_left home p.membranes more (subst (λ z. In z p.membranes) e j))
        | inr d ↦ lists.apart done (p.membranes ++ more) x x mk.once d (in_left x p.membranes more j) refl
      ] in
      let from_done : Distinct (p.membranes ++ more) = lists.distinct_right done (p.membranes ++ more) mk.once in
      let in_more : (x : ℕ) → In x more → In x p.membranes → ⊥ = λ x i j. lists.apart p.membranes more x x from_done j i refl in
      state_on r (later qs) home ks heads E rank done a m c xs s t [] p.atoms p.membranes A M R g sub (λ x i j. i)
      (rest_on r qs ks E home done a m c of inside xs s t mk A M R g)
      (subst Listed (sym w.is) settles.listed)
      st.up
      (λ v x i.
      let u = rest_comes r p of inside (mems_in s) home nm rk.once front more whole mk.long.0 w.waits.content.once (λ j. w.waits.content.outside j) (λ k j d l. child_in ks s q y ats ms p.atoms p.membranes w.waits w.places k j d l) st.rests.1 (elim mk.nests.0 [ inl e ↦ inl e | inr j ↦ inr (into y j) ]) v x i in
      elim u.1 [
        | inl e ↦ subst (λ z. rank z < rank x) (sym e) (rk.from_home x u.0)
        | inr d ↦ rk.in_order v x d.0 u.0 d.1
      ])
      (λ x i. same_in_place s t x (same x (in_home x i)) (st.place x i))
      st.gone_heads st.contexts
      (λ x i. same x (in_more x i) ∙ st.wait x (in_right x p.membranes more i))
      (λ x i. elim i [
        | inl e ↦ subst (λ k. length (named_rules r (rules_in s) xs x) ≤ k) (sym (spare x (in_home x (inl e)))) (st.spare x (inl e))
        | inr j ↦ elim j [
          | inl d ↦ subst (λ k. length (named_rules r (rules_in s) xs x) ≤ k) (sym (spare x (in_home x (inr d)))) (st.spare x (inr (inl d)))
          | inr l ↦ subst (λ k. length (named_rules r (rules_in s) xs x) ≤ k) (sym (spare x (in_more x l))) (st.spare x (inr (inr (in_right x p.membranes more l))))
        ]
      ])
      (λ x i. spare x (in_more x i)) st.rests.3

  both_in : (done front : List ℕ) (z : ℕ) → ((y : ℕ) → In y done → In y front) → (y : ℕ) → In y (done ++ z ∷ []) → In y (front ++ z ∷ [])
  both_in done front z into y i = elim (in_either y done (z ∷ []) i) [ inl j ↦ in_left y front (z ∷ []) (into y j) | inr j ↦ in_right y front (z ∷ []) j ]

  -- The making part of a body can run.
  pub making_can : (qs : RestCopies) (done front : List ℕ) (a m c : ℕ) (body : List BodyItem) → ((y : ℕ) → In y done → In y front) → nm ≡ front ++ made_mems r qs m body → (s : Heap) → State r qs home ks heads E rank done a m c body s → CanRun r (making a m c body) s
  making_can qs done front a m c [] into whole s st = tt
  making_can qs done front a m c (Connector left right ∷ xs) into whole s st =
      let mk = st.made in
      making_can qs done front a m c xs into whole s (record {
        made = record { there = mk.there; goes = mk.goes; nests = mk.nests; long = mk.long; line = mk.line; mem_line = mk.mem_line; made = mk.made; once = mk.once; home_apart = mk.home_apart; inside = mk.inside; atoms_once = mk.atoms_once };
        listed = st.listed;
        up = st.up;
        place = st.place;
        gone_heads = st.gone_heads;
        contexts = st.contexts;
        wait = st.wait;
        spare = st.spare;
        rests = st.rests;
      })
  making_can qs done front a m c (Copy part link inside ∷ xs) into whole s st = (
    (target_place qs done a m c (Copy part link inside ∷ xs) s st inside st.made.nests.0, (new_atoms r qs a (c + 1) xs ++ st.made.line.0, st.made.line.1 ∙ append_assoc (r.copied c) (new_atoms r qs a (c + 1) xs) st.made.line.0)),
    λ t e. subst (CanRun r (making a m (c + 1) xs)) (sym e.2) (making_can qs done front a m (c + 1) xs into whole (all_placed s (map (λ b. (r.head.images.membrane inside, b)) (r.copied c)))
        (placed_state qs done a m c a (c + 1) xs s inside (r.copied c) (Copy part link inside ∷ xs) st st.made.nests.0 st.made.goes.0.0 st.made.goes.1 st.made.nests.1 st.made.long st.made.line refl refl st.contexts (λ x. refl) st.rests)),
  )
  making_can qs done front a m c (Atom functor links inside ∷ xs) into whole s st = (
    (target_place qs done a m c (Atom functor links inside ∷ xs) s st inside st.made.nests.0, (new_atoms r qs (a + 1) c xs ++ st.made.line.0, st.made.line.1)),
    λ t e. subst (CanRun r (making (a + 1) m c xs)) (sym e.1) (making_can qs done front (a + 1) m c xs into whole (placed s (r.head.images.membrane inside) (r.head.images.atom a))
        (placed_state qs done a m c (a + 1) c xs s inside (r.head.images.atom a ∷ []) (Atom functor links inside ∷ xs) st st.made.nests.0 st.made.goes.0.0 st.made.goes.1 st.made.nests.1 st.made.long st.made.line refl refl st.contexts (λ x. refl) st.rests)),
  )
  making_can qs done front a m c (Bound integer link inside ∷ xs) into whole s st = (
    (target_place qs done a m c (Bound integer link inside ∷ xs) s st inside st.made.nests.0, (new_atoms r qs (a + 1) c xs ++ st.made.line.0, st.made.line.1)),
    λ t e. subst (CanRun r (making (a + 1) m c xs)) (sym e.1) (making_can qs done front (a + 1) m c xs into whole (placed s (r.head.images.membrane inside) (r.head.images.atom a))
        (placed_state qs done a m c (a + 1) c xs s inside (r.head.images.atom a ∷ []) (Bound integer link inside ∷ xs) st st.made.nests.0 st.made.goes.0.0 st.made.goes.1 st.made.nests.1 st.made.long st.made.line refl refl st.contexts (λ x. refl) st.rests)),
  )
  making_can qs done front a m c (Membrane inside ∷ xs) into whole s st = (
    (target_place qs done a m c (Membrane inside ∷ xs) s st inside st.made.nests.0, (made_mems r qs (m + 1) xs ++ st.made.mem_line.0, st.made.mem_line.1)),
    λ t e. subst (CanRun r (making a (m + 1) c xs)) (sym e.1)
        (making_can qs (done ++ r.head.images.membrane m ∷ []) (front ++ r.head.images.membrane m ∷ []) a (m + 1) c xs (both_in done front (r.head.images.membrane m) into) (whole ∙ sym (append_assoc front (r.head.images.membrane m ∷ []) (made_mems r qs (m + 1) xs))) (placed_mem s (r.head.images.membrane inside) (r.head.images.membrane m))
        (mem_state qs done front a m c xs s inside into whole st e.0)),
  )
  making_can qs done front a m c (Rest of false inside ∷ xs) into whole s st = (
    (st.gone_heads (r.head.images.membrane of) (st.contexts (r.head.images.membrane of) (inl refl)), target_place qs done a m c (Rest of false inside ∷ xs) s st inside st.made.nests.0, outside qs done front a m c xs s of inside into whole st),
    λ t e. subst (CanRun r (making a m c xs)) (sym e) (making_can qs done front a m c xs into whole (moved_all s (r.head.images.membrane of) (r.head.images.membrane inside)) (moved_state qs done front a m c xs s of inside into whole st)),
  )
  making_can qs done front a m c (Rest of true inside ∷ xs) into whole s st = (
    (
      st.made.there (r.head.images.membrane of) (st.made.goes.0 (r.head.images.membrane of) (inl refl)).1,
      target_place qs done a m c (Rest of true inside ∷ xs) s st inside st.made.nests.0,
      ((qs 0).atoms, (qs 0).membranes, rest_waits qs done a m c xs s of inside st),
    ),
    λ t e. making_can (later qs) done (front ++ (qs 0).membranes) a m c xs (λ y i. in_left y front (qs 0).membranes (into y i)) (whole ∙ sym (append_assoc front (qs 0).membranes (made_mems r (later qs) m xs))) t
        (rest_state qs done front a m c xs s t of inside into whole st e),
  )
  making_can qs done front a m c (Rule rule inside ∷ xs) into whole s st =
      let y = r.head.images.membrane inside in
      let at = target_place qs done a m c (Rule rule inside ∷ xs) s st inside st.made.nests.0 in (
        (place_some s y at, one_more (named_rules r (rules_in s) xs y) (spare_of s y) (subst (λ zs. length (zs ++ named_rules r (rules_in s) xs y) ≤ spare_of s y) (inside_here inside (rule ∷ [])) (st.spare y (may_get qs done m (Rule rule inside ∷ xs) inside st.made.nests.0)))),
        λ t e. subst (CanRun r (making a m c xs)) (sym e) (making_can qs done front a m c xs into whole (heap.rule_added s y rule)
            (rules_state qs done a m c xs s inside (Rule rule inside ∷ xs) (rule ∷ []) st st.made.nests.0 st.made.goes.0.0 st.made.goes.1 st.made.nests.1 st.made.long refl refl refl st.contexts (λ x. refl) st.rests)),
      )
    where
      one_more : (zs : List ℕ) (k : ℕ) → length (rule ∷ zs) ≤ k → 1 ≤ k
      one_more zs k h = omega arith

      inside_here : (i : ℕ) (rs : List ℕ) → if_inside r (r.head.images.membrane i) i rs ≡ rs
      inside_here i rs = rw (eq-eqb (r.head.images.membrane i) (r.head.images.membrane i) refl) refl
  making_can qs done front a m c (Rules of inside ∷ xs) into whole s st =
      let y = r.head.images.membrane inside in
      let q = r.head.images.membrane of in
      let rs = rules_in s q in
      let at = target_place qs done a m c (Rules of inside ∷ xs) s st inside st.made.nests.0 in (
        (
          is_some s q gone (st.gone_heads q (st.contexts q (inl refl))),
          place_some s y at,
          (λ e. st.made.goes.1.0 (subst (λ w. In w ks) e st.made.goes.0)),
          first_part rs (named_rules r (rules_in s) xs y) (spare_of s y) (subst (λ zs. length (zs ++ named_rules r (rules_in s) xs y) ≤ spare_of s y) (inside_here inside rs) (st.spare y (may_get qs done m (Rules of inside ∷ xs) inside st.made.nests.0))),
        ),
        λ t e. subst (CanRun r (making a m c xs)) (sym e) (making_can qs done front a m c xs into whole (heap.rules_copied s q y)
            (rules_state qs done a m c xs s inside (Rules of inside ∷ xs) rs st st.made.nests.0 st.made.goes.1.0 st.made.goes.2 st.made.nests.1 st.made.long refl refl refl (λ x i. st.contexts x (inr i)) (λ x. refl) st.rests)),
      )
    where
      first_part : (xs ys : List ℕ) (k : ℕ) → length (xs ++ ys) ≤ k → length xs ≤ k
      first_part xs ys k h = let e = length-append xs ys in omega arith

      inside_here : (i : ℕ) (rs : List ℕ) → if_inside r (r.head.images.membrane i) i rs ≡ rs
      inside_here i rs = rw (eq-eqb (r.head.images.membrane i) (r.head.images.membrane i) refl) refl

-- Rests wait to be copied when each of them is all that stands in its membrane.
pub rests_wait : (r : Registers) (qs : RestCopies) (home : ℕ) (done : List ℕ) (m : ℕ) (body : List BodyItem) (h s t : Heap) → HasRoom r qs body h s → ((x : ℕ) → rules_in t x ≡ rules_in h x) → ((x : ℕ) → spare_of t x ≡ spare_of s x)
    → Nests r home done m body → Distinct (done ++ made_mems r qs m body) → (In home (made_mems r qs m body) → ⊥)
    → ((of : ℕ) → IsOneOf of (closed_rests body) → IsContent t (r.head.images.membrane of) (r.left_atoms of) (r.left_membranes of))
    → ((of : ℕ) → IsOneOf of (closed_rests body) → (k j : ℕ) → In k (r.left_membranes of) → In j (mems_in t k) → index_of k (r.left_membranes of) < index_of j (r.left_membranes of)) → RestsWait r qs body t
rests_wait r qs home done m [] h s t room rules spare nests once apart content order = tt
rests_wait r qs home done m (Atom functor links inside ∷ xs) h s t room rules spare nests once apart content order = rests_wait r qs home done m xs h s t room rules spare nests.1 once apart content order
rests_wait r qs home done m (Connector left right ∷ xs) h s t room rules spare nests once apart content order = rests_wait r qs home done m xs h s t room rules spare nests once apart content order
rests_wait r qs home done m (Copy part link inside ∷ xs) h s t room rules spare nests once apart content order = rests_wait r qs home done m xs h s t room rules spare nests.1 once apart content order
rests_wait r qs home done m (Bound integer link inside ∷ xs) h s t room rules spare nests once apart content order = rests_wait r qs home done m xs h s t room rules spare nests.1 once apart content order
rests_wait r qs home done m (Membrane inside ∷ xs) h s t room rules spare nests once apart content order =
    rests_wait r qs home (done ++ r.head.images.membrane m ∷ []) (m + 1) xs h s t room rules spare nests.1 (subst Distinct (sym (append_assoc done (r.head.images.membrane m ∷ []) (made_mems r qs (m + 1) xs))) once) (λ i. apart (inr i)) content order
rests_wait r qs home done m (Rest of false inside ∷ xs) h s t room rules spare nests once apart content order = rests_wait r qs home done m xs h s t room rules spare nests.1 once apart content order
rests_wait r qs home done m (Rest of true inside ∷ xs) h s t room rules spare nests once apart content order =
    let new = (qs 0).membranes in
    let more = made_mems r (later qs) m xs in
    let from_done : Distinct (new ++ more) = lists.distinct_right done (new ++ more) once in
    let no_target : (y : ℕ) → In y new → In y (rule_targets r xs) → ⊥ = λ y i j. elim (targets_within r (later qs) home done m xs y nests.1 j) [
      | inl e ↦ apart (in_left home new more (subst (λ z. In z new) e i))
      | inr l ↦ elim (in_either y done more l) [
        | inl d ↦ lists.apart done (new ++ more) y y once d (in_left y new more i) refl
        | inr d ↦ lists.apart new more y y from_done i d refl
      ]
    ] in (
      content of (inl refl),
      order of (inl refl),
      (λ k x y e f. subst (λ (zs : List ℕ). length zs ≤ spare_of t y) (sym (rules x)) (subst (λ n. length (rules_in h x) ≤ n) (sym (spare y)) (room.0 k x y e f (no_target y (get_in new k y f))))),
      rests_wait r (later qs) home done m xs h s t room.1 rules spare nests.1 (both_distinct done more (lists.distinct_left done (new ++ more) once) (lists.distinct_right new more from_done) (λ x i j. lists.apart done (new ++ more) x x once i (in_right x new more j) refl))
          (λ i. apart (in_right home new more i)) (λ o i. content o (inr i)) (λ o i. order o (inr i)),
    )
rests_wait r qs home done m (Rule rule inside ∷ xs) h s t room rules spare nests once apart content order = rests_wait r qs home done m xs h s t room rules spare nests.1 once apart content order
rests_wait r qs home done m (Rules of inside ∷ xs) h s t room rules spare nests once apart content order = rests_wait r qs home done m xs h s t room rules spare nests.1 once apart content order

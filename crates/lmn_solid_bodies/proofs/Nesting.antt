-- A body with membranes and contexts fires.
use Rattle.std.proofs.Common.{ℕ, zero, suc, ◌+◌, ◌<◌, ◌≤◌, ◌≡◌, ◌⊎◌, Bool, true, false, List, [], ◌∷◌, ◌++◌, length, Option, Some, None, IsSome, refl, sym, ap, subst, ◌∙◌, inl, inr, arith}
use Rattle.std.specs.Option.{option_map, option_and_then}
use Rattle.std.specs.Prelude as prelude
use Rattle.lmn_store_heap.specs.Heap.{Heap, HeapAtom, HeapMem, Place, top, within, waiting, gone, home_by, partners_of, functor_of, arity_of, link_of, place_of, mem_place_of, home_of, atoms_in, mems_in, rules_in, atoms_by, mems_by, rules_by, IsMem, IsInPlace, IsMemInPlace, Distinct, finished, taken_all}
use Rattle.lmn_store_heap.specs.Heap as heap
use Rattle.lmn_store_heap.specs.Sound.{Paired, Listed, Valid, Sound}
use Rattle.lmn_store_heap.specs.Conditions.{Ready}
use Rattle.lmn_store_heap.proofs.ListLemmas.{in_left, in_right, in_withouts}
use Rattle.lmn_store_heap.proofs.Listing.{same_paired, listed_mem as listed_some}
use Rattle.lmn_store_heap.proofs.Replacing.{no_waiting, no_waiting_mems}
use Rattle.lmn_solid_heads.specs.declared.items.HeadItem.{HeadItem}
use Rattle.lmn_solid_heads.specs.Heads.{HeadMembrane, atoms_of, membranes_of}
use Rattle.lmn_solid_heads.specs.Embeddings.{Lies, HasMembrane}
use Rattle.lmn_congruence_splice.specs.Classes.{body_ties}
use Rattle.lmn_congruence_splice.specs.Splice.{raw_link, of_solid, Splice, Fusion}
use Rattle.lmn_congruence_splice.specs.Splice as splice
use Rattle.lmn_store_heap.proofs.Replacing.{port_within}
use Rattle.lmn_ground_parts.specs.Copies.{answer}
use Rattle.lmn_ground_parts.proofs.AnswerLaws.{answer_in}
use Rattle.lmn_solid_bodies.specs.declared.items.BodyItem.{BodyItem}
use Rattle.lmn_solid_bodies.specs.Tied.{partners, all_tied}
use Rattle.lmn_solid_bodies.specs.Items.{new_ports, old_ports, connectors}
use Rattle.lmn_solid_bodies.specs.Running.{Registers, old_port, new_port, DoesAll}
use Rattle.lmn_solid_bodies.specs.Names.{StandsPort, Names}
use Rattle.lmn_solid_bodies.specs.Added.{added_atoms, added_mems, added_rules, moved_mems, made_mems}
use Rattle.lmn_solid_bodies.specs.Fired.{images_of}
use Rattle.lmn_solid_bodies.specs.Within.{membrane_images, dropped_atoms, dropped_mems, removed_mems, IsCopyIn, FiresWithin}
use Rattle.lmn_solid_bodies.proofs.HeapTies.{SameItems, heap_fusion}
use Rattle.lmn_solid_bodies.proofs.Phases.{all_taken_after}
use Rattle.lmn_solid_bodies.proofs.Coding.{at_heap}
use Rattle.lmn_solid_bodies.specs.Made.{new_atoms, copies_of}
use Rattle.lmn_solid_bodies.specs.RestCopies.{RestCopies, later, AreRestsCopied}
use Rattle.lmn_solid_bodies.specs.declared.items.BodyItem.TheVariants.{Atom, Connector, Copy, Bound, Membrane, Rest, Rule, Rules}
use Rattle.lmn_solid_bodies.proofs.RestsMade.{HaveRestCopies}
use Rattle.lmn_solid_bodies.proofs.MakingListed.{taken_mems_listed, making_listed}
use Rattle.lmn_solid_bodies.proofs.MakingListed.{Ready as MakingReady}
use Rattle.lmn_solid_bodies.proofs.BodyPorts.{heap_in, written_new, copied_new}
use Rattle.lmn_solid_bodies.proofs.Finishing.{within_of, in_place_within, in_place_listed, ready, names_left, stands_on}
use Rattle.lmn_solid_bodies.proofs.Committing.{in_withouts_of, LiveIn}
use Rattle.lmn_solid_bodies.specs.Rules.{AtomRule, Goes, Exists, Nests, PartAtoms}
use Rattle.lmn_solid_bodies.proofs.Firing.{distinct_images, in_place_old, is_taken, part_taken, ns_once, home_s, old_atom, is_atom, taken_in_place, splice_at, links_below, new_link, kept_link, inner_link, kept_functor, new_functor, in_place_new}
use Rattle.lmn_solid_bodies.proofs.Below.{removed_is as image_of_head, is_removed as head_is_image}
use Rattle.lmn_solid_bodies.proofs.Growing.{some_there}
use Rattle.lmn_solid_bodies.proofs.MakingParts.{GrownBy, Made, making_grows, same_atoms_added, same_mems_added, same_rules_added}
use Rattle.lmn_solid_bodies.proofs.Removing.{Shrunk, InOneList, MemInOneList, all_taken_mems, shrunk_atoms, shrunk_mems, shrunk_after, taken_places, place_parent, taken_mems_wait}
use Rattle.lmn_solid_bodies.proofs.Held.{Held, HoldsRest}
use Rattle.lmn_solid_bodies.proofs.Drops.{drops_shrink}
use Rattle.lmn_solid_bodies.proofs.Preparing.{Brought, AllPrepared}
use Rattle.lmn_solid_bodies.proofs.AddedLemmas.{comes_from, new_arrives, moved_arrives}
use Rattle.lmn_base.specs.Graphs.{Port}
use Rattle.lmn_store_heap.specs.Lists.{without_all}
use Rattle.lmn_store_heap.proofs.Common.{decide_in, place_home}
use Rattle.lmn_solid_bodies.specs.Code.{making, drops}
use Rattle.lmn_base.specs.Lists.{In}
use Rattle.lmn_base.proofs.Lists.{in_either, plus_nothing}
use Rattle.lmn_solid_heads.proofs.Common.{without_none}

without_nil : (ns : List ℕ) → without_all ns [] ≡ []
without_nil [] = refl
without_nil (n ∷ ns) = without_nil ns

-- copies of rests stay when functors and links of new atoms stay
rests_then : (r : Registers) (q : RestCopies) (a c : ℕ) (xs : List BodyItem) (h h' s0 : Heap) (new : List ℕ) → ((y : ℕ) → In y (new_atoms r q a c xs) → In y new) → HaveRestCopies h s0 r q xs
    → ((y : ℕ) → In y new → functor_of h' y ≡ functor_of s0 y) → ((x y : Port) → In x.0 new → In y.0 new → partners s0 x ≡ Some y → partners h' x ≡ Some y) → AreRestsCopied h h' r q xs
rests_then r q a c [] h h' s0 new sub w f j = tt
rests_then r q a c (Atom functor links inside ∷ xs) h h' s0 new sub w f j = rests_then r q (a + 1) c xs h h' s0 new (λ y i. sub y (inr i)) w f j
rests_then r q a c (Connector left right ∷ xs) h h' s0 new sub w f j = rests_then r q a c xs h h' s0 new sub w f j
rests_then r q a c (Copy part link inside ∷ xs) h h' s0 new sub w f j = rests_then r q a (c + 1) xs h h' s0 new (λ y i. sub y (in_right y (r.copied c) (new_atoms r q a (c + 1) xs) i)) w f j
rests_then r q a c (Bound integer link inside ∷ xs) h h' s0 new sub w f j = rests_then r q (a + 1) c xs h h' s0 new (λ y i. sub y (inr i)) w f j
rests_then r q a c (Membrane inside ∷ xs) h h' s0 new sub w f j = rests_then r q a c xs h h' s0 new sub w f j
rests_then r q a c (Rest of false inside ∷ xs) h h' s0 new sub w f j = rests_then r q a c xs h h' s0 new sub w f j
rests_then r q a c (Rest of true inside ∷ xs) h h' s0 new sub w f j =
    let k = w.0 in
    let at : (x : ℕ) → In x (r.left_atoms of) → In (answer (r.left_atoms of) (q 0).atoms x) new = λ x i.
    sub (answer (r.left_atoms of) (q 0).atoms x) (in_left (answer (r.left_atoms of) (q 0).atoms x) (q 0).atoms (new_atoms r (later q) a c xs) (answer_in (r.left_atoms of) (q 0).atoms x (long_enough k.is.long) i)) in (
      record {
        long = k.is.long;
        functors = λ x i. f (answer (r.left_atoms of) (q 0).atoms x) (at x i) ∙ k.is.functors x i;
        inner = λ x i b l ia e. let v = k.is.inner x i b l ia e in (v.0, j (answer (r.left_atoms of) (q 0).atoms x, i) (answer (r.left_atoms of) (q 0).atoms b, l) (at x ia) (at b v.0) v.1);
      },
      rests_then r (later q) a c xs h h' s0 new (λ y i. sub y (in_right y (q 0).atoms (new_atoms r (later q) a c xs) i)) w.1 f j,
    )
  where
    long_enough : {x y : ℕ} → x ≡ y → y ≤ x
    long_enough {x = x} {y = y} e = omega (arith, e)
rests_then r q a c (Rule rule inside ∷ xs) h h' s0 new sub w f j = rests_then r q a c xs h h' s0 new sub w f j
rests_then r q a c (Rules of inside ∷ xs) h h' s0 new sub w f j = rests_then r q a c xs h h' s0 new sub w f j

module _ (h : Heap) (valid : Valid h) (head : List HeadItem) (body : List BodyItem) (n m : ℕ) (r : Registers) (qs : RestCopies) (rule : AtomRule head body n)
    (em : Lies h head m r.head.images) (stand : IsMemInPlace h m) (c : Port → ℕ) (names : Names h c)
    (goes : Goes r (removed_mems r head) (Exists h r qs head body) body)
    (contexts : (k : ℕ) (b : HeadMembrane) → HasMembrane head k b → b.has_context ≡ true → b.has_closed_context ≡ false → In (r.head.images.membrane k) (moved_mems r body))
    (ps : List ℕ) (parts : PartAtoms h head r.head.images ps) (hs : Held h valid head body m r ps)
    (s : Heap) (pr : AllPrepared c h s r qs (length (atoms_of head)) (1 + length (membranes_of head)) body)
    (nests : Nests r m [] (1 + length (membranes_of head)) body) (listed_s : Listed s) where
  abbrev pub N : ℕ
  N = length (atoms_of head)

  abbrev pub K : ℕ
  K = length (membranes_of head)

  abbrev pub new : List ℕ
  new = new_atoms r qs N 0 body

  abbrev pub s0 : Heap
  s0 = pr.free.heap

  abbrev pub ns : List ℕ
  ns = images_of r head ++ ps

  abbrev pub ks : List ℕ
  ks = membrane_images r head

  -- the atoms and membranes that are dropped, all atoms that go, and all membranes that are removed
  abbrev pub ds : List ℕ
  ds = dropped_atoms r head

  abbrev pub dms : List ℕ
  dms = dropped_mems r head

  abbrev pub outs : List ℕ
  outs = ns ++ ds

  abbrev pub gs : List ℕ
  gs = removed_mems r head

  abbrev pub nm : List ℕ
  nm = made_mems r qs (1 + K) body

  abbrev pub E : ℕ → Type 0
  E = Exists h r qs head body

  abbrev pub news : List (Port × ℕ)
  news = at_heap (new_port r) (new_ports N 0 body)

  abbrev pub olds : List (Port × ℕ)
  olds = at_heap (old_port r) (old_ports head)

  abbrev pub wires : List (ℕ × ℕ)
  wires = connectors body

  abbrev free : Brought c h r qs N body
  free = pr.free

  abbrev pub same_atom : s.atoms ≡ s0.atoms
  same_atom = pr.atoms.atoms

  -- Head membranes

  removed_is : (x : ℕ) → In x ks → (k : ℕ) × (b : HeadMembrane) × HasMembrane head k b × (r.head.images.membrane k ≡ x)
  removed_is = image_of_head head r

  is_removed : (i : ℕ) → i < K → In (r.head.images.membrane (suc i)) ks
  is_removed = head_is_image head r

  pub ks_once : Distinct ks
  ks_once = distinct_images r.head.images.membrane K 1 once
    where
      once : (x y : ℕ) → 1 ≤ x → x < 1 + K → 1 ≤ y → y < 1 + K → r.head.images.membrane x ≡ r.head.images.membrane y → x ≡ y
      once zero y l p k q e = absurd (off l)
        where
          off : 1 ≤ 0 → ⊥
          off l = omega arith
      once (suc x) zero l p k q e = absurd (off k)
        where
          off : 1 ≤ 0 → ⊥
          off l = omega arith
      once (suc x) (suc y) l p k q e = ap (λ z. suc z) (em.membranes_differ x y (less x p) (less y q) e)
        where
          less : (z : ℕ) → suc z < 1 + K → z < K
          less z u = omega arith

  -- The heap s, in which all waits

  lists_s : (x : ℕ) → (atoms_in s x ≡ atoms_in h x) × (mems_in s x ≡ mems_in h x) × (rules_in s x ≡ rules_in h x)
  lists_s x = (pr.mems.atoms x, pr.mems.mems x, pr.mems.rules x)

  home_as : (a : ℕ) → home_of s a ≡ home_of s0 a
  home_as a = ap (λ (f : ℕ → Option HeapAtom). option_and_then (λ x. home_by x.place) (f a)) same_atom

  pub once_s : InOneList s ns
  once_s a i =
      let w = home_s h valid head body n m r qs rule em stand c names free ps parts ds hs.rests a i in
      let p = taken_in_place h valid head body n m r qs rule em stand c names free ps parts ds hs.rests a i in
      let v = within_of h a p in
      let at = within_one v.0 w.0 a v.1 (home_as a ∙ w.1) in (
        w.0,
        home_as a ∙ w.1,
        λ y j. place_one y v.0 (sym ((valid.sound.listed.atoms y a).0 (subst (In a) (lists_s y).0 j)) ∙ v.1) ∙ at,
        some_mem w.0 (pr.mems.there w.0 (subst (IsMem h) at (listed_some h v.0 a ((valid.sound.listed.atoms v.0 a).1 v.1)))),
      )
    where
      place_one : (y k : ℕ) → ◌≡◌ {A = Option heap.Place} (Some (within y)) (Some (within k)) → y ≡ k
      place_one y k e = (cc)

      some_mem : (k : ℕ) → IsMem s k → IsSome (s.mems k)
      some_mem k i = i

      one_some : (x y : ℕ) → ◌≡◌ {A = Option ℕ} (Some x) (Some y) → x ≡ y
      one_some x y e = (cc)

      within_one : (v w a : ℕ) → place_of h a ≡ Some (within v) → home_of s a ≡ Some w → v ≡ w
      within_one v w a e f =
          let old = in_place_new h valid head body n m r qs rule em stand c names free ps parts ds hs.rests a (in_place_within h a v e) in
          one_some v w (sym (place_home h a v e) ∙ sym (same_home_h a (in_place_within h a v e)) ∙ f)
        where
          same_home_h : (a : ℕ) → IsInPlace h a → home_of s a ≡ home_of h a
          same_home_h a i = home_as a ∙ ap (λ (o : Option HeapAtom). option_and_then (λ x. home_by x.place) o)
              (old_atom h valid head body n m r qs rule em stand c names free ps parts ds hs.rests a (is_atom h valid head body n m r qs rule em stand c names free ps parts ds hs.rests a i))

  abbrev pub t1 : Heap
  t1 = taken_all s ns

  sh1 : Shrunk s t1 ns []
  sh1 = shrunk_atoms ns s (ns_once h valid head body n m r qs rule em stand c names free ps parts ds hs.rests) once_s

  pub once_t1 : MemInOneList t1 ks
  once_t1 x i =
      let w = removed_is x i in
      let p = r.head.images.membrane w.1.inside in
      let in_h : In x (mems_in h p) = subst (λ z. In z (mems_in h p)) w.3 (em.membranes_placed w.0 w.1 w.2) in
      let at_h : mem_place_of h x ≡ Some (within p) = (valid.sound.listed.mems p x).0 in_h in
      let at_t : mem_place_of t1 x ≡ Some (within p) = taken_places ns s x ∙ pr.mems.places x (place_mem (h.mems x) at_h) ∙ at_h in (
        p,
        place_parent t1 x p at_t,
        λ y j. place_one y p (sym ((valid.sound.listed.mems y x).0 (subst (In x) (sh1.mems y ∙ (lists_s y).1) j)) ∙ at_h),
        some_there (s.mems p) (t1.mems p) (sh1.there p) (pr.mems.there p (list_some (h.mems p) in_h)),
      )
    where
      place_one : (y k : ℕ) → ◌≡◌ {A = Option heap.Place} (Some (within y)) (Some (within k)) → y ≡ k
      place_one y k e = (cc)

      place_mem : {p : heap.Place} (o : Option HeapMem) → option_map (λ z. z.place) o ≡ Some p → IsSome o
      place_mem None e = absurd (cc)
      place_mem (Some y) e = refl

      list_some : (o : Option HeapMem) → In x (mems_by o) → IsSome o
      list_some None i = absurd i
      list_some (Some y) i = refl

  abbrev pub t2 : Heap
  t2 = all_taken_mems t1 ks

  pub sh : Shrunk s t2 ns ks
  sh = shrunk_after s t1 t2 ns ks sh1 (shrunk_mems ks t1 ks_once once_t1)

  -- what is left of a membrane
  abbrev pub left_atoms : ℕ → List ℕ
  left_atoms x = without_all ns (atoms_in h x)

  abbrev pub left_mems : ℕ → List ℕ
  left_mems x = without_all ks (mems_in h x)

  pub atoms_t2 : (x : ℕ) → atoms_in t2 x ≡ left_atoms x
  atoms_t2 x = sh.atoms x ∙ ap (without_all ns) (lists_s x).0

  pub mems_t2 : (x : ℕ) → mems_in t2 x ≡ left_mems x
  mems_t2 x = sh.mems x ∙ ap (without_all ks) (lists_s x).1

  pub rules_t2 : (x : ℕ) → rules_in t2 x ≡ rules_in h x
  rules_t2 x = sh.rules x ∙ (lists_s x).2

  pub there_t2 : (x : ℕ) → E x → IsSome (t2.mems x)
  there_t2 x w = some_there (s.mems x) (t2.mems x) (sh.there x) (elim w [ inl i ↦ pr.mems.there x i | inr i ↦ pr.mems.made x i ])

  -- nothing is left of a removed membrane without a context
  nothing : (xs : List ℕ) → ((x : ℕ) → In x xs → ⊥) → xs ≡ []
  nothing [] d = refl
  nothing (x ∷ xs) d = absurd (d x (inl refl))

  left_empty : (x : ℕ) → In x ks → (In x (moved_mems r body) → ⊥) → (HoldsRest r head x → ⊥) → (left_atoms x ≡ []) × (left_mems x ≡ [])
  left_empty x i o q =
      let w = removed_is x i in
      let none = no_context w.1.has_context (λ e. by_form w.1.has_closed_context refl
      (λ f. q (subst (HoldsRest r head) w.3 (hs.closed_image w.0 (w.1, w.2, f)))) (λ f. o (subst (λ z. In z (moved_mems r body)) w.3 (contexts w.0 w.1 w.2 e f)))) in (
        nothing (left_atoms x) (λ a j.
            let v = in_withouts_of ns (atoms_in h x) a (valid.sound.listed.atoms_once x) j in
            elim (em.no_other_atom w.0 w.1 a w.2 none (subst (λ z. In a (atoms_in h z)) (sym w.3) v.0)) [
              | inl u ↦ v.1 (subst (λ z. In z ns) u.2 (is_taken h valid head body n m r qs rule em stand c names free ps parts ds hs.rests u.0 u.1))
              | inr u ↦ v.1 (part_taken h valid head body n m r qs rule em stand c names free ps parts ds hs.rests u.0 u.1 a u.2 u.4)
            ]),
        nothing (left_mems x) (λ a j.
            let v = in_withouts_of ks (mems_in h x) a (valid.sound.listed.mems_once x) j in
            let u = em.no_other_membrane w.0 w.1 a w.2 none (subst (λ z. In a (mems_in h z)) (sym w.3) v.0) in
            v.1 (subst (λ z. In z ks) u.2 (is_removed u.0 u.1))),
      )
    where
      no_context : (t : Bool) → (t ≡ true → ⊥) → t ≡ false
      no_context true d = absurd (d refl)
      no_context false d = refl

      by_form : (t : Bool) → t ≡ t → (t ≡ true → ⊥) → (t ≡ false → ⊥) → ⊥
      by_form true e f g = f refl
      by_form false e f g = g refl

  -- lists and places before anything is made

  pub paired_s : Paired s
  paired_s = same_paired s0 s (λ x i. ap (λ (f : ℕ → Option HeapAtom). prelude.slice_index_or (partners_of (f x)) i None) same_atom) free.sound.paired

  listed_t1 : Listed t1
  listed_t1 = (all_taken_after ns s listed_s paired_s (ns_once h valid head body n m r qs rule em stand c names free ps parts ds hs.rests) (λ a i. let w = once_s a i in (w.0, w.1))).listed

  pub listed_t2 : Listed t2
  listed_t2 = taken_mems_listed ks t1 listed_t1 ks_once (λ k i. let w = once_t1 k i in (w.0, w.1))

  fresh_apart : (x : ℕ) → In x nm → IsMem h x → ⊥
  fresh_apart x i is = let z : IsSome {T = HeapMem} None = subst (λ (o : Option HeapMem). IsSome o) (pr.mems.fresh x i) is in absurd (cc)

  pub new_apart : (x : ℕ) → In x nm → In x gs → ⊥
  new_apart x i j = fresh_apart x i (hs.removed_mem x j)

  -- what stands in a rest stands where its list says
  pub rest_inside : (q x : ℕ) → HoldsRest r head q → In x (mems_in t2 q) → In x gs × (mem_place_of t2 x ≡ Some (within q))
  rest_inside q x w i =
      let v = in_withouts_of ks (mems_in h q) x (valid.sound.listed.mems_once q) (subst (In x) (mems_t2 q) i) in
      let d = hs.holds_mems q x w v.0 v.1 in
      let g = in_right x ks dms d in
      (g, sh.places x v.1 ∙ pr.mems.places x (hs.removed_mem x g) ∙ (valid.sound.listed.mems q x).0 v.0)

  -- the heap before the making part
  pub made_t2 : Made r qs gs E m [] N (1 + K) 0 body t2
  made_t2 = record {
    there = there_t2;
    goes = goes;
    nests = nests;
    long = free.long;
    line = ([], sh.line ∙ pr.atoms.line ∙ free.brings.line ∙ ap (λ xs. xs ++ new) (no_waiting h valid.sound.listed valid.settled) ∙ sym (plus_nothing new));
    mem_line = ([], sh.mem_line ∙ pr.mems.line ∙ ap (λ xs. xs ++ nm) (no_waiting_mems h valid.sound.listed valid.settled) ∙ sym (plus_nothing nm));
    made = λ y i. (new_apart y i, inr i);
    once = pr.mems.once;
    home_apart = λ i. fresh_apart m i hs.home_mem;
    inside = λ of i p k j l. rest_inside p k (hs.closed_holds of p i j) l;
    atoms_once = λ of i. (hs.closed of i).once;
  }

  never_waits : (x : ℕ) → mem_place_of h x ≡ Some waiting → ⊥
  never_waits x e = by (h.mems x) e (valid.settled.mems x)
    where
      place : (y : HeapMem) → y.place ≡ waiting → (Some y.place ≡ Some top) ⊎ IsSome (home_by y.place) → ⊥
      place y e (inl f) = absurd (let g : Some waiting ≡ Some top = sym (ap (λ z. Some z) e) ∙ f in cc)
      place y e (inr f) = absurd (let g : IsSome (home_by waiting) = subst (λ z. IsSome (home_by z)) e f in cc)

      by : (o : Option HeapMem) → option_map (λ y. y.place) o ≡ Some waiting
          → (IsSome o → (option_map (λ y. y.place) o ≡ Some top) ⊎ IsSome (option_and_then (λ y. home_by y.place) o)) → ⊥
      by None e f = absurd (cc)
      by (Some y) e f = place y (cc) (f refl)

  old_ready : (x : ℕ) → IsMem h x → IsSome (t2.mems x) × (mem_place_of t2 x ≡ Some waiting → ⊥)
  old_ready x i = (there_t2 x (inl i), λ e. never_waits x (sym (pr.mems.places x i) ∙ sym (taken_places ns s x) ∙ taken_mems_wait ks t1 x e))

  ready_t2 : MakingReady m [] gs t2
  ready_t2 x (inl e) = old_ready x (subst (IsMem h) (sym e) hs.home_mem)
  ready_t2 x (inr (inl i)) = absurd i
  ready_t2 x (inr (inr i)) = old_ready x (hs.removed_mem x i)

  module _ (t3 : Heap) (run : DoesAll r (making N (1 + K) 0 body) t2 t3) where
    pub gr : GrownBy r qs gs N (1 + K) 0 body t2 t3
    gr = making_grows r qs gs E m [] N (1 + K) 0 body t2 t3 made_t2 run

    pub listed_t3 : Listed t3
    listed_t3 = making_listed r qs m gs E [] N (1 + K) 0 body t2 t3 made_t2 ready_t2 listed_t2 run

    -- rests are as they were
    pub held_atoms : (q : ℕ) → HoldsRest r head q → atoms_in t3 q ≡ left_atoms q
    held_atoms q w = gr.head_atoms q (hs.holds_removed q w) (λ i. hs.moved_out q i w) ∙ atoms_t2 q

    pub held_mems : (q : ℕ) → HoldsRest r head q → mems_in t3 q ≡ left_mems q
    held_mems q w = gr.head_mems q (hs.holds_removed q w) (λ i. hs.moved_out q i w) ∙ mems_t2 q

    one_within : (x y : ℕ) → ◌≡◌ {A = Option Place} (Some (within x)) (Some (within y)) → x ≡ y
    one_within x y e = (cc)

    there_t3 : (q : ℕ) → HoldsRest r head q → IsSome (t3.mems q)
    there_t3 q w = some_there (t2.mems q) (t3.mems q) (gr.there q) (there_t2 q (inl (hs.removed_mem q (hs.holds_removed q w))))

    -- a dropped atom stands in a membrane that holds a rest
    drop_home : (a : ℕ) → In a ds → (q : ℕ) × HoldsRest r head q × In a (atoms_in t3 q)
    drop_home a i =
        let p = within_of h a (hs.rests.drop_placed a i) in
        let in_h : In a (atoms_in h p.0) = (valid.sound.listed.atoms p.0 a).1 p.1 in
        let w = hs.atom_holds a p.0 i in_h in
        (p.0, w, subst (In a) (sym (held_atoms p.0 w)) (in_withouts ns (atoms_in h p.0) a in_h (hs.rests.drop_apart a i)))

    drop_parent : (x : ℕ) → In x dms → (q : ℕ) × HoldsRest r head q × In x (mems_in t3 q)
    drop_parent x i =
        let p = hs.dm_parent x i in
        let w = hs.mem_holds x p.0 i p.1 in
        (p.0, w, subst (In x) (sym (held_mems p.0 w)) (in_withouts ks (mems_in h p.0) x p.1 (hs.dms_apart x i)))

    pub one_list : InOneList t3 ds
    one_list a i =
        let w = drop_home a i in
        let at = (listed_t3.atoms w.0 a).0 w.2 in
        (w.0, place_home t3 a w.0 at, (λ y j. one_within y w.0 (sym ((listed_t3.atoms y a).0 j) ∙ at)), there_t3 w.0 w.1)

    pub one_mem_list : MemInOneList t3 dms
    one_mem_list x i =
        let w = drop_parent x i in
        let at = (listed_t3.mems w.0 x).0 w.2 in
        (w.0, place_parent t3 x w.0 at, (λ y j. one_within y w.0 (sym ((listed_t3.mems y x).0 j) ∙ at)), there_t3 w.0 w.1)

    module _ (t4 : Heap) (drop_run : DoesAll r (drops 1 (membranes_of head)) t3 t4) where
      -- what is dropped leaves its lists
      pub dsh : Shrunk t3 t4 ds dms
      dsh = drops_shrink r 1 (membranes_of head) t3 t4 hs.rests.drop_once hs.dms_once one_list one_mem_list drop_run

      atoms_t4 : (x : ℕ) → (In x gs → ⊥) → atoms_in t4 x ≡ atoms_in t3 x
      atoms_t4 x o = dsh.atoms x ∙ without_none ds (atoms_in t3 x) (λ a i j.
          let w = drop_home a i in
          o (subst (λ z. In z gs) (one_within w.0 x (sym ((listed_t3.atoms w.0 a).0 w.2) ∙ (listed_t3.atoms x a).0 j)) (hs.holds_removed w.0 w.1)))

      mems_t4 : (x : ℕ) → (In x gs → ⊥) → mems_in t4 x ≡ mems_in t3 x
      mems_t4 x o = dsh.mems x ∙ without_none dms (mems_in t3 x) (λ a i j.
          let w = drop_parent a i in
          o (subst (λ z. In z gs) (one_within w.0 x (sym ((listed_t3.mems w.0 a).0 w.2) ∙ (listed_t3.mems x a).0 j)) (hs.holds_removed w.0 w.1)))

      abbrev pub v : Heap
      v = all_tied t4 (body_ties news olds wires n)

      abbrev pub F : Port → Type 0
      F = LiveIn s outs new

      pub links_t4 : (a i : ℕ) → link_of t4 a i ≡ link_of s a i
      links_t4 a i = dsh.same.links a i ∙ gr.same.links a i ∙ sh.same.links a i

      pub arities_t4 : (a : ℕ) → arity_of t4 a ≡ arity_of s a
      arities_t4 a = dsh.same.arities a ∙ gr.same.arities a ∙ sh.same.arities a

      pub functors_t4 : (a : ℕ) → functor_of t4 a ≡ functor_of s a
      functors_t4 a = dsh.same.functors a ∙ gr.same.functors a ∙ sh.same.functors a

      pub sp_s : Splice F c (partners s) news olds wires
      sp_s = subst (λ (f : ℕ → Option HeapAtom). Splice (λ p. (p.1 < length (partners_of (f p.0))) × ((IsSome (option_and_then (λ x. home_by x.place) (f p.0)) × (In p.0 outs → ⊥)) ⊎ In p.0 new))
          c (λ p. prelude.slice_index_or (partners_of (f p.0)) p.1 None) news olds wires) (sym same_atom) (splice_at h valid head body n m r qs rule em stand c names free ps parts ds hs.rests)

      pub same_partners : partners t4 ≡ partners s
      same_partners = λ i p. links_t4 p.0 p.1 i

      fu : Fusion F c (partners v) news olds wires × Paired v × SameItems t4 v
      fu = heap_fusion F c news olds wires n t4 (same_paired s t4 links_t4 paired_s) (λ p f. subst (λ k. p.1 < k) (sym (arities_t4 p.0)) f.0)
          (subst (λ k. Splice F c k news olds wires) (sym same_partners) sp_s) (links_below h valid head body n m r qs rule em stand c names free ps parts ds hs.rests)

      pub fusion_v : Fusion F c (partners v) news olds wires
      fusion_v = fu.0

      pub paired_v : Paired v
      paired_v = fu.1

      pub same : SameItems t4 v
      same = fu.2

      -- lists

      atoms_v : (x : ℕ) → (In x gs → ⊥) → atoms_in v x ≡ left_atoms x ++ added_atoms r qs left_atoms N 0 body x
      atoms_v x o = ap (λ f. atoms_by (f x)) same.mems ∙ atoms_t4 x o ∙ gr.atoms x o
          ∙ (λ t. atoms_t2 x t ++ same_atoms_added r qs left_atoms (atoms_in t2) N 0 body x (λ k i. atoms_t2 k) t)

      pub mems_v : (x : ℕ) → (In x gs → ⊥) → mems_in v x ≡ left_mems x ++ added_mems r qs left_mems (1 + K) body x
      mems_v x o = ap (λ f. mems_by (f x)) same.mems ∙ mems_t4 x o ∙ gr.mems x o
          ∙ (λ t. mems_t2 x t ++ same_mems_added r qs left_mems (mems_in t2) (1 + K) body x (λ k i. mems_t2 k) t)

      rules_v : (x : ℕ) → (In x gs → ⊥) → rules_in v x ≡ rules_in h x ++ added_rules r qs (rules_in h) body x
      rules_v x o = ap (λ f. rules_by (f x)) same.mems ∙ dsh.rules x ∙ gr.rules x o
          ∙ (λ t. rules_t2 x t ++ same_rules_added r qs gs E (rules_in h) (rules_in t2) body x goes (λ k i. rules_t2 k) t)

      -- a removed membrane holds a rest, or what is left of it moves, or nothing is left
      removed_how : (x : ℕ) → In x gs → In x (moved_mems r body) ⊎ HoldsRest r head x ⊎ ((In x (moved_mems r body) → ⊥) × (left_atoms x ≡ []) × (left_mems x ≡ []))
      removed_how x i = elim (decide_in x (moved_mems r body)) [
        | inl j ↦ inl j
        | inr o ↦ elim (in_either x ks dms i) [
          | inr j ↦ inr (inl (hs.dm_holds x j))
          | inl j ↦ (let w = removed_is x j in by_form (w.1.has_closed_context) refl (λ f. inr (inl (subst (HoldsRest r head) w.3 (hs.closed_image w.0 (w.1, w.2, f)))))
              (λ f. let e = left_empty_open x j o w.0 w.1 w.2 w.3 f in inr (inr (o, e.0, e.1))))
        ]
      ]
        where
          by_form : {X : Type 0} (t : Bool) → t ≡ t → (t ≡ true → X) → (t ≡ false → X) → X
          by_form true e f g = f refl
          by_form false e f g = g refl

          left_empty_open : (x : ℕ) → In x ks → (In x (moved_mems r body) → ⊥) → (k : ℕ) (b : HeadMembrane) → HasMembrane head k b → r.head.images.membrane k ≡ x → b.has_closed_context ≡ false → (left_atoms x ≡ []) × (left_mems x ≡ [])
          left_empty_open x j o k b w e f = left_empty x j o (λ q. hs.open_holds k b w f (subst (HoldsRest r head) (sym e) q))

      pub removed_empty : (x : ℕ) → In x gs → (atoms_in v x ≡ []) × (mems_in v x ≡ [])
      removed_empty x i = (ap (λ f. atoms_by (f x)) same.mems ∙ dsh.atoms x ∙ (by (removed_how x i)).0, ap (λ f. mems_by (f x)) same.mems ∙ dsh.mems x ∙ (by (removed_how x i)).1)
        where
          by : In x (moved_mems r body) ⊎ HoldsRest r head x ⊎ ((In x (moved_mems r body) → ⊥) × (left_atoms x ≡ []) × (left_mems x ≡ [])) → (without_all ds (atoms_in t3 x) ≡ []) × (without_all dms (mems_in t3 x) ≡ [])
          by (inl j) = (ap (without_all ds) (gr.empty x j).0 ∙ without_nil ds, ap (without_all dms) (gr.empty x j).1 ∙ without_nil dms)
          by (inr (inl w)) = (
            nothing (without_all ds (atoms_in t3 x)) (λ a j.
                let u = in_withouts_of ds (atoms_in t3 x) a (listed_t3.atoms_once x) j in
                let p = in_withouts_of ns (atoms_in h x) a (valid.sound.listed.atoms_once x) (subst (In a) (held_atoms x w) u.0) in
                u.1 (hs.holds_atoms x a w p.0 p.1)),
            nothing (without_all dms (mems_in t3 x)) (λ a j.
                let u = in_withouts_of dms (mems_in t3 x) a (listed_t3.mems_once x) j in
                let p = in_withouts_of ks (mems_in h x) a (valid.sound.listed.mems_once x) (subst (In a) (held_mems x w) u.0) in
                u.1 (hs.holds_mems x a w p.0 p.1)),
          )
          by (inr (inr w)) = (
            ap (without_all ds) (gr.head_atoms x i w.0 ∙ atoms_t2 x ∙ w.1) ∙ without_nil ds,
            ap (without_all dms) (gr.head_mems x i w.0 ∙ mems_t2 x ∙ w.2) ∙ without_nil dms,
          )

      module _ (sound : Sound v) where
        old_s : (a : ℕ) → IsInPlace h a → IsInPlace s a
        old_s a i = subst (λ (f : ℕ → Option HeapAtom). IsSome (option_and_then (λ x. home_by x.place) (f a))) (sym same_atom) (in_place_new h valid head body n m r qs rule em stand c names free ps parts ds hs.rests a i)

        pub s_old : (a : ℕ) → IsInPlace s a → IsInPlace h a
        s_old a i = in_place_old h valid head body n m r qs rule em stand c names free ps parts ds hs.rests a (subst (λ (f : ℕ → Option HeapAtom). IsSome (option_and_then (λ x. home_by x.place) (f a))) same_atom i)

        left_stands : (x a : ℕ) → In a (left_atoms x) → IsInPlace s a × (In a ns → ⊥)
        left_stands x a i = let w = in_withouts_of ns (atoms_in h x) a (valid.sound.listed.atoms_once x) i in (old_s a (in_place_listed h x a valid.sound.listed w.0), w.1)

        -- what is left where no rest is held isn't dropped
        left_out : (x a : ℕ) → (HoldsRest r head x → ⊥) → In a (left_atoms x) → IsInPlace s a × (In a outs → ⊥)
        left_out x a o i =
            let w = in_withouts_of ns (atoms_in h x) a (valid.sound.listed.atoms_once x) i in
            let p = left_stands x a i in
            (p.0, λ j. elim (in_either a ns ds j) [ inl k ↦ p.1 k | inr k ↦ o (hs.atom_holds a x k w.0) ])

        pub stands_v : (a : ℕ) → IsInPlace v a → (IsInPlace s a × (In a outs → ⊥)) ⊎ In a new
        stands_v a i =
            let w = within_of v a i in
            let j = (sound.listed.atoms w.0 a).1 w.1 in
            elim (decide_in w.0 gs) [
              | inl k ↦ absurd (subst (In a) (removed_empty w.0 k).0 j)
              | inr o ↦ elim (in_either a (left_atoms w.0) (added_atoms r qs left_atoms N 0 body w.0) (subst (In a) (atoms_v w.0 o) j)) [
                | inl l ↦ inl (left_out w.0 a (λ q. o (hs.holds_removed w.0 q)) l)
                | inr l ↦ elim (comes_from r qs left_atoms left_mems N 0 body free.long hs.whole w.0 a l) [ inl q ↦ inr q | inr q ↦ inl (left_out q.0 a (λ u. hs.moved_out q.0 q.1 u) q.2) ]
              ]
            ]

        arrives : (y a : ℕ) → (In y gs → ⊥) → In a (added_atoms r qs left_atoms N 0 body y) → IsInPlace v a
        arrives y a o i = in_place_listed v y a sound.listed (subst (In a) (sym (atoms_v y o)) (in_right a (left_atoms y) (added_atoms r qs left_atoms N 0 body y) i))

        stands_then : (a : ℕ) → (IsInPlace s a × (In a outs → ⊥)) ⊎ In a new → IsInPlace v a
        stands_then a (inl w) =
            let x = within_of h a (s_old a w.0) in
            let in_h : In a (atoms_in h x.0) = (valid.sound.listed.atoms x.0 a).1 x.1 in
            let not_taken : In a ns → ⊥ = λ i. w.1 (in_left a ns ds i) in
            let left : In a (left_atoms x.0) = in_withouts ns (atoms_in h x.0) a in_h not_taken in
            elim (decide_in x.0 gs) [
              | inr o ↦ in_place_listed v x.0 a sound.listed (subst (In a) (sym (atoms_v x.0 o)) (in_left a (left_atoms x.0) (added_atoms r qs left_atoms N 0 body x.0) left))
              | inl k ↦ elim (removed_how x.0 k) [
                | inl j ↦ (let y = moved_arrives r qs left_atoms gs E N 0 body goes x.0 a j left in arrives y.0 a y.1 y.2)
                | inr u ↦ elim u [
                  | inl q ↦ absurd (w.1 (in_right a ns ds (hs.holds_atoms x.0 a q in_h not_taken)))
                  | inr q ↦ absurd (subst (In a) q.1 left)
                ]
              ]
            ]
        stands_then a (inr i) = let y = new_arrives r qs left_atoms left_mems gs E N (1 + K) 0 body free.long hs.whole new_apart goes a i in arrives y.0 a y.1 y.2

        arities_v : (a : ℕ) → arity_of v a ≡ arity_of s a
        arities_v a = same.arities a ∙ arities_t4 a

        pub functors_v : (a : ℕ) → functor_of v a ≡ functor_of s a
        functors_v a = same.functors a ∙ functors_t4 a

        into : (p : Port) → StandsPort v p → F p
        into p l = (subst (λ k. p.1 < k) (arities_v p.0) l.1, stands_v p.0 l.0)

        back : (p : Port) → F p → StandsPort v p
        back p f = (stands_then p.0 f.1, subst (λ k. p.1 < k) (sym (arities_v p.0)) f.0)

        abbrev number : Port → ℕ
        number p = fusion_v.to (raw_link news c p)

        never_gone : (x : ℕ) → mem_place_of h x ≡ Some gone → ⊥
        never_gone x e = by (h.mems x) e (valid.settled.mems x)
          where
            place : (y : HeapMem) → y.place ≡ gone → (Some y.place ≡ Some top) ⊎ IsSome (home_by y.place) → ⊥
            place y e (inl f) = absurd (let g : Some gone ≡ Some top = sym (ap (λ z. Some z) e) ∙ f in cc)
            place y e (inr f) = absurd (let g : IsSome (home_by gone) = subst (λ z. IsSome (home_by z)) e f in cc)

            by : (o : Option HeapMem) → option_map (λ y. y.place) o ≡ Some gone
                → (IsSome o → (option_map (λ y. y.place) o ≡ Some top) ⊎ IsSome (option_and_then (λ y. home_by y.place) o)) → ⊥
            by None e f = absurd (cc)
            by (Some y) e f = place y (cc) (f refl)

        -- what is gone was removed
        pub gone_removed : (x : ℕ) → mem_place_of v x ≡ Some gone → In x gs
        gone_removed x e = elim (dsh.gone_before x (sym (ap (λ f. option_map (λ y. y.place) (f x)) same.mems) ∙ e)) [
          | inl i ↦ in_right x ks dms i
          | inr q ↦ elim (sh.gone_before x (gr.gone_before x q)) [
            | inl i ↦ in_left x ks dms i
            | inr f ↦ absurd (never_gone x (pr.mems.gone_before x f))
          ]
        ]

        no_line : v.new_atoms ≡ []
        no_line = same.new_atoms ∙ dsh.line ∙ gr.line [] (sh.line ∙ pr.atoms.line ∙ free.brings.line
            ∙ ap (λ xs. xs ++ new) (no_waiting h valid.sound.listed valid.settled) ∙ sym (plus_nothing new))

        no_mem_line : v.new_mems ≡ []
        no_mem_line = same.new_mems ∙ dsh.mem_line ∙ gr.mem_line [] (sh.mem_line ∙ pr.mems.line
            ∙ ap (λ xs. xs ++ made_mems r qs (1 + K) body) (no_waiting_mems h valid.sound.listed valid.settled) ∙ sym (plus_nothing (made_mems r qs (1 + K) body)))

        -- what was removed may be freed
        pub ready_v : Ready v
        ready_v = ready v F number fusion_v.coloured into back (λ x e. removed_empty x (gone_removed x e)) no_line no_mem_line

        stays_mem : (x : ℕ) → (In x gs → ⊥) → (finished v).mems x ≡ v.mems x
        stays_mem x o = by (v.mems x) (λ e. o (gone_removed x e))
          where
            place : (y : HeapMem) (p : heap.Place) → y.place ≡ p → (p ≡ gone → ⊥) → heap.mem_unless_gone y ≡ Some y
            place y top e d = rw e refl
            place y (within k) e d = rw e refl
            place y waiting e d = rw e refl
            place y gone e d = absurd (d refl)

            by : (o : Option HeapMem) → (option_map (λ y. y.place) o ≡ Some gone → ⊥) → option_and_then heap.mem_unless_gone o ≡ o
            by None d = refl
            by (Some y) d = place y y.place refl (λ e. d (ap (λ z. Some z) e))

        pub kept_s : (a : ℕ) → IsInPlace h a → functor_of s a ≡ functor_of h a
        kept_s a i = ap (λ (f : ℕ → Option HeapAtom). option_map (λ x. x.functor) (f a)) same_atom ∙ kept_functor h valid head body n m r qs rule em stand c names free ps parts ds hs.rests a i

        -- an atom of a copy stands
        copied_pairs : (e : ℕ × ℕ) → splice.IsOneOf e (copies_of 0 body) → (y : ℕ) → In y (r.copied e.0) → In y new
        copied_pairs e i y j = copied_new r qs N 0 body e y i j

        named_v : Names (finished v) number
        named_v = names_left v F number fusion_v.coloured into back

        in_functors : (y : ℕ) → In y new → functor_of (finished v) y ≡ functor_of s0 y
        in_functors y i = ap (λ (q : Option HeapAtom). option_map (λ x. x.functor) q) (stands_on v y (stands_then y (inr i))) ∙ functors_v y
            ∙ ap (λ (f : ℕ → Option HeapAtom). option_map (λ x. x.functor) (f y)) same_atom

        -- ports of copies that were joined are joined
        joined_then : (p q : Port) → In p.0 new → In q.0 new → partners s0 p ≡ Some q → partners (finished v) p ≡ Some q
        joined_then p q i j e =
            let back_e : partners s0 q ≡ Some p = free.sound.paired.back p.0 p.1 q.0 q.1 e in
            let same_number : number p ≡ number q = ap fusion_v.to (inner_link h valid head body n m r qs rule em stand c names free ps parts ds hs.rests p q i e ∙ ap of_solid (sym (free.same p q i e))
            ∙ sym (inner_link h valid head body n m r qs rule em stand c names free ps parts ds hs.rests q p j back_e)) in
            elim (named_v.only p q (stands_port p q i e) (stands_port q p j back_e) same_number) [
              | inl f ↦ absurd (free.sound.paired.apart p.0 p.1 (e ∙ ap Some (sym f)))
              | inr f ↦ f
            ]
          where
            stands_port : (x z : Port) → In x.0 new → partners s0 x ≡ Some z → StandsPort (finished v) x
            stands_port x z k f =
                let at = stands_on v x.0 (stands_then x.0 (inr k)) in (
                  subst (λ (o : Option HeapAtom). IsSome (option_and_then (λ y. home_by y.place) o)) (sym at) (stands_then x.0 (inr k)),
                  subst (λ (o : Option HeapAtom). x.1 < length (partners_of o)) (sym at) (subst (λ k. x.1 < k) (sym (arities_v x.0 ∙ ap (λ (g : ℕ → Option HeapAtom). length (partners_of (g x.0))) same_atom))
                      (port_within s0 x.0 x.1 z f)),
                )

        copies_then : (e : ℕ × ℕ) → splice.IsOneOf e (copies_of 0 body) → IsCopyIn h (finished v) (r.head.images.part e.1) (r.copy e.0) (r.copied e.0)
        copies_then e i =
            let k = free.copies e i in
            let at : (a : ℕ) → In a k.is.atoms → In (answer k.is.atoms (r.copied e.0) a) (r.copied e.0) = λ a j. answer_in k.is.atoms (r.copied e.0) a (long_enough k.is.long) j in
            record {
              atoms = k.is.atoms;
              part = k.is.part;
              long = k.is.long;
              entered = k.is.entered;
              functors = λ a j. in_functors (answer k.is.atoms (r.copied e.0) a) (copied_pairs e i (answer k.is.atoms (r.copied e.0) a) (at a j)) ∙ k.is.functors a j;
              inner = λ a l b q j d f. let w = k.is.inner a l b q j d f in (
                w.0,
                joined_then (answer k.is.atoms (r.copied e.0) a, l) (answer k.is.atoms (r.copied e.0) b, q)
                    (copied_new r qs N 0 body e (answer k.is.atoms (r.copied e.0) a) i (at a j)) (copied_new r qs N 0 body e (answer k.is.atoms (r.copied e.0) b) i (at b w.0)) w.1,
              );
            }
          where
            long_enough : {x y : ℕ} → x ≡ y → y ≤ x
            long_enough {x = x} {y = y} e = omega (arith, e)

        -- The rule has fired.
        pub fires_within : FiresWithin h c r head body (images_of r head ++ ps) (finished v)
        fires_within = record {
          to = fusion_v.to;
          connectors_fused = fusion_v.connectors;
          heads_fused = λ e i. fusion_v.heads (old_port r e.0, e.1) (heap_in (old_port r) e (old_ports head) i);
          number = λ p. fusion_v.to (raw_link news c p);
          named = names_left v F number fusion_v.coloured into back;
          kept_links = λ p i. ap fusion_v.to (kept_link h valid head body n m r qs rule em stand c names free ps parts ds hs.rests p i);
          made_links = λ e i. ap fusion_v.to (new_link h valid head body n m r qs rule em stand c names free ps parts ds hs.rests (new_port r e.0, e.1) (heap_in (new_port r) e (new_ports N 0 body) i));
          kept_functors = λ a i o d. ap (λ (q : Option HeapAtom). option_map (λ x. x.functor) q) (stands_on v a (stands_then a (inl (old_s a i, λ j. elim (in_either a ns ds j) [ inl k ↦ o k | inr k ↦ d k ])))) ∙ functors_v a ∙ kept_s a i;
          made_functors = λ e i. ap (λ (q : Option HeapAtom). option_map (λ x. x.functor) q) (stands_on v e.0 (stands_then e.0 (inr (written_new r qs N 0 body e.0 e.1 i)))) ∙ functors_v e.0
              ∙ ap (λ (f : ℕ → Option HeapAtom). option_map (λ x. x.functor) (f e.0)) same_atom ∙ new_functor h valid head body n m r qs rule em stand c names free ps parts ds hs.rests e i;
          new_placed = λ y i. subst (λ (o : Option HeapAtom). IsSome (option_and_then (λ x. home_by x.place) o)) (sym (stands_on v y (stands_then y (inr i)))) (stands_then y (inr i));
          copies = copies_then;
          rests = qs;
          rests_long = free.long;
          rests_copied = rests_then r qs N 0 body h (finished v) s0 new (λ y i. i) free.rests in_functors joined_then;
          new_once = free.brings.once;
          new_fresh = free.brings.fresh;
          made_once = pr.mems.once;
          made_fresh = pr.mems.fresh;
          atoms = λ x o. ap atoms_by (stays_mem x o) ∙ atoms_v x o;
          mems = λ x o. ap mems_by (stays_mem x o) ∙ mems_v x o;
          rules = λ x o. ap rules_by (stays_mem x o) ∙ rules_v x o;
        }

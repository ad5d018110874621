-- The code of a body can run.
use Rattle.std.proofs.Common.{true, false, suc, ℕ, ◌+◌, ◌<◌, ◌≤◌, ◌≡◌, ◌≢◌, List, [], ◌∷◌, ◌++◌, length, Option, Some, None, IsSome, refl, sym, ap, subst, ◌∙◌, inl, inr, arith}
use Rattle.std.specs.Option.{option_map, option_and_then}
use Rattle.std.specs.Prelude.{slice_get}
use Rattle.lmn_store_heap.proofs.ListLemmas.{in_left}
use Rattle.lmn_store_heap.specs.Heap as heap
use Rattle.lmn_store_heap.specs.Heap.{Heap, HeapAtom, HeapMem, Place, within, gone, mem_with_atoms, mem_with_mems, mem_with_place, without, arity_of, mem_place_of, atoms_in, mems_in, rules_in, spare_of, spare_by, atom_out, mem_out, home_of, parent_of, IsMem, IsInPlace, IsMemInPlace, Distinct, taken, taken_mem, taken_all}
use Rattle.lmn_store_heap.specs.Sound.{Listed, Valid}
use Rattle.lmn_store_heap.proofs.ListLemmas.{each_in}
use Rattle.lmn_store_heap.proofs.Listing.{alter_at, same_paired}
use Rattle.lmn_store_heap.proofs.Replacing.{no_waiting_mems}
use Rattle.lmn_solid_heads.specs.declared.items.HeadItem.{HeadItem}
use Rattle.lmn_solid_heads.specs.Heads.{HeadMembrane, atoms_of, membranes_of}
use Rattle.lmn_solid_heads.specs.Embeddings.{Lies, HasMembrane}
use Rattle.lmn_congruence_splice.specs.Classes.{class_of, rising, body_ties}
use Rattle.lmn_congruence_splice.specs.Splice.{Splice, ports, links}
use Rattle.lmn_congruence_splice.specs.Splice as splice
use Rattle.lmn_congruence_splice.proofs.Fusions.{d as colour, before, fits, is_old}
use Rattle.lmn_solid_bodies.specs.declared.items.BodyItem.{BodyItem}
use Rattle.lmn_solid_bodies.specs.Tied.{partners}
use Rattle.lmn_solid_bodies.specs.Items.{new_ports, old_ports, connectors}
use Rattle.lmn_solid_bodies.specs.Code.{making, drops, links_code}
use Rattle.lmn_solid_bodies.specs.RestCopies.{RestCopies}
use Rattle.lmn_solid_bodies.specs.Running.{Registers, old_port, new_port, DoesAll}
use Rattle.lmn_solid_bodies.specs.Conditions.{StandsAsPort, CanRun}
use Rattle.lmn_solid_bodies.specs.Names.{Names}
use Rattle.lmn_solid_bodies.specs.Added.{named_rules, moved_mems, made_mems}
use Rattle.lmn_solid_bodies.specs.Rules.{AtomRule, Goes, Exists, Nests, HeadNests, PartAtoms}
use Rattle.lmn_solid_bodies.specs.Within.{membrane_images, removed_mems, dropped_atoms, dropped_mems}
use Rattle.lmn_solid_bodies.proofs.Firing.{links_below, old_port_stands, arity_old}
use Rattle.lmn_solid_bodies.proofs.Coding.{at_heap}
use Rattle.lmn_store_heap.proofs.ListOps.{change_keeps, place_by, out_place}
use Rattle.lmn_solid_bodies.proofs.MakingParts.{GrownBy, making_grows, same_rules_named}
use Rattle.lmn_solid_bodies.proofs.Removing.{all_taken_mems, taken_places}
use Rattle.lmn_solid_bodies.proofs.Preparing.{AllPrepared}
use Rattle.lmn_store_heap.proofs.Heights.{mem_of_list}
use Rattle.lmn_solid_bodies.proofs.MakingCan.{Ranked, State, context_mems, rests_wait, making_can}
use Rattle.lmn_solid_bodies.proofs.Contents.{content_on, drops_can}
use Rattle.lmn_solid_bodies.proofs.Held.{Held, HasClosed, HoldsRest}
use Rattle.lmn_solid_bodies.proofs.Drops.{in_less}
use Rattle.lmn_ground_parts.specs.Rests.{IsContent}
use Rattle.lmn_solid_bodies.proofs.LinksCan.{all_can, links_can}
use Rattle.lmn_solid_bodies.proofs.Nesting as nesting
use Rattle.lmn_solid_bodies.proofs.TreeAfter as treeafter
use Rattle.lmn_base.specs.Graphs.{Port}
use Rattle.lmn_base.specs.Lists.{In}

-- membranes that aren't taken stay, and those that are are gone
taken_mems_away : (ks : List ℕ) (s : Heap) (x : ℕ) → (In x ks → ⊥) → mem_place_of (all_taken_mems s ks) x ≡ mem_place_of s x
taken_mems_away [] s x o = refl
taken_mems_away (k ∷ ks) s x o = taken_mems_away ks (taken_mem s k) x (λ i. o (inr i)) ∙ out_place s k x (λ e. o (inl (sym e)))

gone_now : (s : Heap) (k : ℕ) (P : Place) → mem_place_of s k ≡ Some P → mem_place_of (taken_mem s k) k ≡ Some gone
gone_now s k P e = ap place_by (alter_at (mem_out s.mems (parent_of s k) k) k (option_map (mem_with_place gone))) ∙ by (mem_out s.mems (parent_of s k) k k) (keep (parent_of s k) ∙ e)
  where
    keep : (o : Option ℕ) → place_by (mem_out s.mems o k k) ≡ place_by (s.mems k)
    keep None = refl
    keep (Some q) = change_keeps place_by s.mems q (mem_with_mems (without k)) (λ y. refl) k

    by : (o : Option HeapMem) → place_by o ≡ Some P → place_by (option_map (mem_with_place gone) o) ≡ Some gone
    by None e = absurd (cc)
    by (Some x) e = refl

taken_mems_gone : (ks : List ℕ) (s : Heap) → Distinct ks → ((k : ℕ) → In k ks → (P : Place) × (mem_place_of s k ≡ Some P)) → (x : ℕ) → In x ks → mem_place_of (all_taken_mems s ks) x ≡ Some gone
taken_mems_gone [] s d p x i = absurd i
taken_mems_gone (k ∷ ks) s d p x (inl e) =
    let w = p k (inl refl) in
    subst (λ z. mem_place_of (all_taken_mems (taken_mem s k) ks) z ≡ Some gone) e (taken_mems_away ks (taken_mem s k) k (λ i. each_in (λ z. k ≢ z) ks k d.0 i refl) ∙ gone_now s k w.0 w.1)
taken_mems_gone (k ∷ ks) s d p x (inr i) =
    taken_mems_gone ks (taken_mem s k) d.1 (λ b j. let w = p b (inr j) in (w.0, out_place s k b (λ e. each_in (λ z. k ≢ z) ks b d.0 j (sym e)) ∙ w.1)) x i

taken_spare : (ns : List ℕ) (s : Heap) (x : ℕ) → spare_of (taken_all s ns) x ≡ spare_of s x
taken_spare [] s x = refl
taken_spare (a ∷ ns) s x = taken_spare ns (taken s a) x ∙ by (home_of s a)
  where
    by : (o : Option ℕ) → spare_by (atom_out s.mems o a x) ≡ spare_by (s.mems x)
    by None = refl
    by (Some m) = change_keeps spare_by s.mems m (mem_with_atoms (without a)) (λ y. refl) x

taken_mems_spare : (ks : List ℕ) (s : Heap) (x : ℕ) → spare_of (all_taken_mems s ks) x ≡ spare_of s x
taken_mems_spare [] s x = refl
taken_mems_spare (k ∷ ks) s x = taken_mems_spare ks (taken_mem s k) x ∙ change_keeps spare_by (mem_out s.mems (parent_of s k) k) k (mem_with_place gone) (λ y. refl) x ∙ by (parent_of s k)
  where
    by : (o : Option ℕ) → spare_by (mem_out s.mems o k x) ≡ spare_by (s.mems x)
    by None = refl
    by (Some q) = change_keeps spare_by s.mems q (mem_with_mems (without k)) (λ y. refl) x

module _ (h : Heap) (valid : Valid h) (head : List HeadItem) (body : List BodyItem) (n m : ℕ) (r : Registers) (qs : RestCopies) (rule : AtomRule head body n)
    (em : Lies h head m r.head.images) (stand : IsMemInPlace h m) (c : Port → ℕ) (names : Names h c)
    (goes : Goes r (removed_mems r head) (Exists h r qs head body) body)
    (contexts : (k : ℕ) (b : HeadMembrane) → HasMembrane head k b → b.has_context ≡ true → b.has_closed_context ≡ false → In (r.head.images.membrane k) (moved_mems r body))
    (ps : List ℕ) (parts : PartAtoms h head r.head.images ps) (hs : Held h valid head body m r ps)
    (s : Heap) (pr : AllPrepared c h s r qs (length (atoms_of head)) (1 + length (membranes_of head)) body)
    (nests : Nests r m [] (1 + length (membranes_of head)) body) (listed_s : Listed s) (head_nests : HeadNests head)
    (in_head : (x : ℕ) → In x (context_mems r body) → In x (membrane_images r head))
    (spares : (x : ℕ) → length (named_rules r (rules_in h) body x) ≤ spare_of s x) where
  abbrev N : ℕ
  N = length (atoms_of head)

  abbrev K : ℕ
  K = length (membranes_of head)

  abbrev nm : List ℕ
  nm = made_mems r qs (1 + K) body

  abbrev ks : List ℕ
  ks = membrane_images r head

  abbrev gs : List ℕ
  gs = removed_mems r head

  abbrev ns : List ℕ
  ns = nesting.ns h valid head body n m r qs rule em stand c names goes contexts ps parts hs s pr nests listed_s

  abbrev t1 : Heap
  t1 = nesting.t1 h valid head body n m r qs rule em stand c names goes contexts ps parts hs s pr nests listed_s

  abbrev t2 : Heap
  t2 = nesting.t2 h valid head body n m r qs rule em stand c names goes contexts ps parts hs s pr nests listed_s

  abbrev rank : ℕ → ℕ
  rank = treeafter.rank h valid head body n m r qs rule em stand c names goes contexts ps parts hs s pr nests listed_s head_nests

  abbrev idx : ℕ → ℕ
  idx = treeafter.idx h valid head body n m r qs rule em stand c names goes contexts ps parts hs s pr nests listed_s head_nests

  never_new : (x : ℕ) → IsMem h x → In x nm → ⊥
  never_new x is i = treeafter.old h valid head body n m r qs rule em stand c names goes contexts ps parts hs s pr nests listed_s head_nests x i is

  home_apart : In m ks → ⊥
  home_apart i = let a = hs.removed_later m (in_left m ks (dropped_mems r head) i) in absurd (omega arith)

  ranked : Ranked r m gs nm rank
  ranked = record {
    low = idx m + length nm;
    once = pr.mems.once;
    targets = treeafter.into_rank h valid head body n m r qs rule em stand c names goes contexts ps parts hs s pr nests listed_s head_nests;
    removed = λ k i.
        let l = treeafter.removed_later h valid head body n m r qs rule em stand c names goes contexts ps parts hs s pr nests listed_s head_nests k i in
        let a = treeafter.high_rank h valid head body n m r qs rule em stand c names goes contexts ps parts hs s pr nests listed_s head_nests k (never_new k (hs.removed_mem k i)) l in
        omega (arith, l, a);
    from_home = λ z i.
        let a = treeafter.made_rank h valid head body n m r qs rule em stand c names goes contexts ps parts hs s pr nests listed_s head_nests z i in
        let b = treeafter.home_rank h valid head body n m r qs rule em stand c names goes contexts ps parts hs s pr nests listed_s head_nests in
        omega (arith, a, b);
    in_order = λ x z i j l.
        let a = treeafter.made_rank h valid head body n m r qs rule em stand c names goes contexts ps parts hs s pr nests listed_s head_nests x i in
        let b = treeafter.made_rank h valid head body n m r qs rule em stand c names goes contexts ps parts hs s pr nests listed_s head_nests z j in
        omega (arith, a, b, l);
  }

  place_t2 : (x : ℕ) → (In x ks → ⊥) → mem_place_of t2 x ≡ mem_place_of s x
  place_t2 x o = taken_mems_away ks t1 x o ∙ taken_places ns s x

  spare_t2 : (x : ℕ) → spare_of t2 x ≡ spare_of s x
  spare_t2 x = taken_mems_spare ks t1 x ∙ taken_spare ns s x

  -- what is left where a closed context stands is all that stands there
  content_t2 : (k : ℕ) → HasClosed head k → IsContent t2 (r.head.images.membrane k) (r.left_atoms k) (r.left_membranes k)
  content_t2 k w = hs.contents k w t2 (nesting.atoms_t2 h valid head body n m r qs rule em stand c names goes contexts ps parts hs s pr nests listed_s) (nesting.mems_t2 h valid head body n m r qs rule em stand c names goes contexts ps parts hs s pr nests listed_s)

  state_t2 : State r qs m gs ks (Exists h r qs head body) rank [] N (1 + K) 0 body t2
  state_t2 = record {
    made = nesting.made_t2 h valid head body n m r qs rule em stand c names goes contexts ps parts hs s pr nests listed_s;
    listed = nesting.listed_t2 h valid head body n m r qs rule em stand c names goes contexts ps parts hs s pr nests listed_s;
    up = λ p x i.
        let child = in_less ks (mems_in h p) x (subst (In x) (nesting.mems_t2 h valid head body n m r qs rule em stand c names goes contexts ps parts hs s pr nests listed_s p) i) in
        treeafter.old_up h valid head body n m r qs rule em stand c names goes contexts ps parts hs s pr nests listed_s head_nests p x (never_new p (mem_of_list h p x child)) (never_new x (child_mem p x child))
        (treeafter.child_later h valid head body n m r qs rule em stand c names goes contexts ps parts hs s pr nests listed_s head_nests p x child);
    place = λ x i. elim i [ inl e ↦ subst heap.IsTopOrWithin (sym (ap (mem_place_of t2) e ∙ place_t2 m home_apart ∙ pr.mems.places m hs.home_mem)) stand | inr v ↦ absurd v ];
    gone_heads = taken_mems_gone ks t1 (nesting.ks_once h valid head body n m r qs rule em stand c names goes contexts ps parts hs s pr nests listed_s) (λ k i. some_place t1 k (stands_t1 k i));
    contexts = in_head;
    wait = λ x i. place_t2 x (λ j. nesting.new_apart h valid head body n m r qs rule em stand c names goes contexts ps parts hs s pr nests listed_s x i (in_left x ks (dropped_mems r head) j)) ∙ (listed_s.new_mems x).0 (subst (In x) (sym line_s) i);
    spare = λ x o. subst (λ k. length (named_rules r (rules_in t2) body x) ≤ k) (sym (spare_t2 x))
        (subst (λ k. k ≤ spare_of s x) (ap (λ (zs : List ℕ). length zs) (sym (same_rules_named r gs (Exists h r qs head body) (rules_in h) (rules_in t2) body x goes
        (λ k i. nesting.rules_t2 h valid head body n m r qs rule em stand c names goes contexts ps parts hs s pr nests listed_s k)))) (spares x));
    rests = rests_wait r qs m [] (1 + K) body h s t2 pr.room (nesting.rules_t2 h valid head body n m r qs rule em stand c names goes contexts ps parts hs s pr nests listed_s) spare_t2 nests pr.mems.once (never_new m hs.home_mem)
        (λ of i. content_t2 of (hs.closed_of of i))
        (λ of i k j l q. hs.order of i k j l (in_less ks (mems_in h k) j (subst (In j) (nesting.mems_t2 h valid head body n m r qs rule em stand c names goes contexts ps parts hs s pr nests listed_s k) q)));
  }
    where
      line_s : s.new_mems ≡ nm
      line_s = pr.mems.line ∙ ap (λ xs. xs ++ nm) (no_waiting_mems h valid.sound.listed valid.settled)

      child_mem : (p x : ℕ) → In x (mems_in h p) → IsMem h x
      child_mem p x i = by (h.mems x) ((valid.sound.listed.mems p x).0 i)
        where
          by : (o : Option HeapMem) → option_map (λ y. y.place) o ≡ Some (within p) → IsSome o
          by None e = absurd (cc)
          by (Some y) e = refl

      stands_t1 : (k : ℕ) → In k ks → IsSome (t1.mems k)
      stands_t1 k i = by (t1.mems k) (nesting.once_t1 h valid head body n m r qs rule em stand c names goes contexts ps parts hs s pr nests listed_s k i).1
        where
          by : {p : ℕ} (o : Option HeapMem) → option_and_then (λ y. heap.home_by y.place) o ≡ Some p → IsSome o
          by None e = absurd (cc)
          by (Some y) e = refl

      some_place : (t : Heap) (k : ℕ) → IsSome (t.mems k) → (P : Place) × (mem_place_of t k ≡ Some P)
      some_place t k i = by (t.mems k) i
        where
          by : (o : Option HeapMem) → IsSome o → (P : Place) × (option_map (λ y. y.place) o ≡ Some P)
          by None i = absurd (cc)
          by (Some y) i = (y.place, refl)

  in_gs : (x : ℕ) → In x ks → In x gs
  in_gs x i = in_left x ks (dropped_mems r head) i

  pub making_part_can : CanRun r (making N (1 + K) 0 body) t2
  making_part_can = making_can r m gs ks nm rank (Exists h r qs head body) ranked in_gs qs [] [] N (1 + K) 0 body (λ y i. i) refl t2 state_t2

  module _ (t3 : Heap) (run : DoesAll r (making N (1 + K) 0 body) t2 t3) where
    abbrev gr : GrownBy r qs gs N (1 + K) 0 body t2 t3
    gr = making_grows r qs gs (Exists h r qs head body) m [] N (1 + K) 0 body t2 t3 (nesting.made_t2 h valid head body n m r qs rule em stand c names goes contexts ps parts hs s pr nests listed_s) run

    -- rests are as they were
    same_t3 : (q : ℕ) → HoldsRest r head q → (atoms_in t3 q ≡ atoms_in t2 q) × (mems_in t3 q ≡ mems_in t2 q)
    same_t3 q w = (gr.head_atoms q (hs.holds_removed q w) (λ i. hs.moved_out q i w), gr.head_mems q (hs.holds_removed q w) (λ i. hs.moved_out q i w))

    content_t3 : (k : ℕ) → HasClosed head k → IsContent t3 (r.head.images.membrane k) (r.left_atoms k) (r.left_membranes k)
    content_t3 k w = content_on t2 t3 (r.head.images.membrane k) (r.left_atoms k) (r.left_membranes k) (λ q i. same_t3 q (k, w, i)) (content_t2 k w)

    gone_t3 : (k : ℕ) → HasClosed head k → mem_place_of t3 (r.head.images.membrane k) ≡ Some gone
    gone_t3 k w =
        let x = r.head.images.membrane k in
        let i = hs.closed_in k w in
        let was = state_t2.gone_heads x i in
        gr.places x (in_gs x i) (λ p j e. gone_within p (sym was ∙ e)) ∙ was
      where
        gone_within : (p : ℕ) → ◌≡◌ {A = Option Place} (Some gone) (Some (within p)) → ⊥
        gone_within p e = absurd (cc)

    -- what is dropped can be dropped
    pub drops_part_can : CanRun r (drops 1 (membranes_of head)) t3
    drops_part_can = drops_can r (HasClosed head) 1 (membranes_of head) t3 closed_at hs.rests.drop_once hs.dms_once
        (nesting.one_list h valid head body n m r qs rule em stand c names goes contexts ps parts hs s pr nests listed_s t3 run) (nesting.one_mem_list h valid head body n m r qs rule em stand c names goes contexts ps parts hs s pr nests listed_s t3 run)
        (λ i l w. (gone_t3 i w, content_t3 i w))
        (λ i j p q d a x u v z. hs.rests_apart i j p q d x (hs.atom_round i p a x u (in_less ns (atoms_in h x) a (subst (In a) ((same_t3 x (j, q, v)).0 ∙ nesting.atoms_t2 h valid head body n m r qs rule em stand c names goes contexts ps parts hs s pr nests listed_s x) z))) v)
        (λ i j p q d y x u v z. hs.rests_apart i j p q d x (hs.mem_round i p y x u (in_less ks (mems_in h x) y (subst (In y) ((same_t3 x (j, q, v)).1 ∙ nesting.mems_t2 h valid head body n m r qs rule em stand c names goes contexts ps parts hs s pr nests listed_s x) z))) v)
        hs.rest_out
      where
        closed_at : (j : ℕ) (b : HeadMembrane) → slice_get (membranes_of head) j ≡ Some b → b.has_closed_context ≡ true → HasClosed head (1 + j)
        closed_at j b e f = (b, (j, plus_one j, e), f)
          where
            plus_one : (j : ℕ) → 1 + j ≡ suc j
            plus_one j = omega arith

    module _ (t4 : Heap) (drop_run : DoesAll r (drops 1 (membranes_of head)) t3 t4) where
      abbrev news : List (Port × ℕ)
      news = at_heap (new_port r) (new_ports N 0 body)

      abbrev olds : List (Port × ℕ)
      olds = at_heap (old_port r) (old_ports head)

      abbrev wires : List (ℕ × ℕ)
      wires = connectors body

      abbrev F : Port → Type 0
      F = nesting.F h valid head body n m r qs rule em stand c names goes contexts ps parts hs s pr nests listed_s t3 run t4 drop_run

      sp : Splice F c (partners t4) news olds wires
      sp = subst (λ k. Splice F c k news olds wires) (sym (nesting.same_partners h valid head body n m r qs rule em stand c names goes contexts ps parts hs s pr nests listed_s t3 run t4 drop_run))
          (nesting.sp_s h valid head body n m r qs rule em stand c names goes contexts ps parts hs s pr nests listed_s t3 run t4 drop_run)

      below : (x : ℕ) → splice.IsOneOf x (links news ++ links olds) → x < n
      below = links_below h valid head body n m r qs rule em stand c names pr.free ps parts (dropped_atoms r head) hs.rests

      -- a port of the heap where all waits is one after the making part
      stands_t4 : (p : Port) → p.1 < arity_of s p.0 → StandsAsPort t4 p
      stands_t4 p l = (
        some (s.atoms p.0) (t4.atoms p.0) (nesting.functors_t4 h valid head body n m r qs rule em stand c names goes contexts ps parts hs s pr nests listed_s t3 run t4 drop_run p.0) (has_ports (s.atoms p.0) l),
        subst (λ k. p.1 < k) (sym (nesting.arities_t4 h valid head body n m r qs rule em stand c names goes contexts ps parts hs s pr nests listed_s t3 run t4 drop_run p.0)) l,
      )
        where
          has_ports : (o : Option HeapAtom) → p.1 < length (heap.partners_of o) → IsSome o
          has_ports None l = absurd (off l)
            where
              off : p.1 < 0 → ⊥
              off l = omega arith
          has_ports (Some x) l = refl

          some : (o q : Option HeapAtom) → option_map (λ x. x.functor) q ≡ option_map (λ x. x.functor) o → IsSome o → IsSome q
          some None q e i = absurd (cc)
          some (Some x) None e i = absurd (cc)
          some (Some x) (Some y) e i = refl

      old_stands : (p : Port) → splice.IsOneOf p (ports olds) → StandsAsPort t4 p
      old_stands p i =
          let w = old_port_stands h valid head body n m r qs rule em stand c names pr.free ps parts (dropped_atoms r head) hs.rests p i in
          stands_t4 p (subst (λ k. p.1 < k) (sym (old_arity p.0 w.0)) w.1)
        where
          old_arity : (a : ℕ) → IsInPlace h a → arity_of s a ≡ arity_of h a
          old_arity a i = ap (λ (f : ℕ → Option HeapAtom). length (heap.partners_of (f a))) pr.atoms.atoms ∙ arity_old h valid head body n m r qs rule em stand c names pr.free ps parts (dropped_atoms r head) hs.rests a i

      pub links_part_can : CanRun r (links_code (class_of wires) (new_ports N 0 body) (old_ports head) (rising 0 n)) t4
      links_part_can = links_can r (class_of wires) (new_ports N 0 body) (old_ports head) (rising 0 n) t4
          (all_can F (colour F c (partners t4) news olds wires n sp below) (body_ties news olds wires n) t4
          (same_paired s t4 (nesting.links_t4 h valid head body n m r qs rule em stand c names goes contexts ps parts hs s pr nests listed_s t3 run t4 drop_run) (nesting.paired_s h valid head body n m r qs rule em stand c names goes contexts ps parts hs s pr nests listed_s))
          (λ p f. stands_t4 p f.0) (λ p o. old_stands p (is_old F c (partners t4) news olds wires n sp below p o))
          (fits F c (partners t4) news olds wires n sp below) (before F c (partners t4) news olds wires n sp below))

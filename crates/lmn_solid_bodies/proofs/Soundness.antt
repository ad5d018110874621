-- The heap is sound before PROCEED.
use Rattle.std.proofs.Common.{ℕ, false, ◌+◌, ◌≡◌, true, List, [], length, Option, Some, None, IsSome, refl, sym, ap, subst, ◌∙◌}
use Rattle.std.specs.Option.{option_map}
use Rattle.lmn_store_heap.specs.Heap.{Heap, HeapAtom, functor_of, arity_of, atoms_by, mems_by, IsMemInPlace}
use Rattle.lmn_store_heap.specs.Sound.{Sound, Listed, Shaped, Valid}
use Rattle.lmn_store_heap.proofs.Listing.{same_listed}
use Rattle.lmn_solid_heads.specs.declared.items.HeadItem.{HeadItem}
use Rattle.lmn_solid_heads.specs.Heads.{HeadMembrane, atoms_of, membranes_of}
use Rattle.lmn_solid_heads.specs.Embeddings.{Lies, HasMembrane}
use Rattle.lmn_solid_bodies.specs.declared.items.BodyItem.{BodyItem}
use Rattle.lmn_solid_bodies.specs.Code.{making, drops}
use Rattle.lmn_solid_bodies.specs.Running.{Registers, DoesAll}
use Rattle.lmn_solid_bodies.specs.Names.{Names}
use Rattle.lmn_solid_bodies.specs.Added.{moved_mems}
use Rattle.lmn_solid_bodies.specs.Rules.{AtomRule, Goes, Exists, Nests, PartAtoms}
use Rattle.lmn_solid_bodies.specs.Within.{membrane_images, dropped_atoms, dropped_mems, removed_mems}
use Rattle.lmn_solid_bodies.proofs.Held.{Held}
use Rattle.lmn_solid_bodies.proofs.Drops.{drops_listed, dropped_in_list}
use Rattle.lmn_solid_bodies.proofs.HeapTies.{SameItems}
use Rattle.lmn_solid_bodies.proofs.MakingParts.{GrownBy}
use Rattle.lmn_solid_bodies.proofs.Removing.{Shrunk}
use Rattle.lmn_solid_bodies.proofs.Preparing.{AllPrepared}
use Rattle.lmn_solid_bodies.specs.RestCopies.{RestCopies}
use Rattle.lmn_solid_bodies.proofs.Nesting as nesting
use Rattle.lmn_base.specs.Graphs.{Port}
use Rattle.lmn_base.specs.Lists.{In}

module _ (h : Heap) (valid : Valid h) (head : List HeadItem) (body : List BodyItem) (n m : ℕ) (r : Registers) (qs : RestCopies) (rule : AtomRule head body n)
    (em : Lies h head m r.head.images) (stand : IsMemInPlace h m) (c : Port → ℕ) (names : Names h c)
    (goes : Goes r (removed_mems r head) (Exists h r qs head body) body)
    (contexts : (k : ℕ) (b : HeadMembrane) → HasMembrane head k b → b.has_context ≡ true → b.has_closed_context ≡ false → In (r.head.images.membrane k) (moved_mems r body))
    (ps : List ℕ) (parts : PartAtoms h head r.head.images ps) (hs : Held h valid head body m r ps)
    (s : Heap) (pr : AllPrepared c h s r qs (length (atoms_of head)) (1 + length (membranes_of head)) body)
    (nests : Nests r m [] (1 + length (membranes_of head)) body) (listed_s : Listed s) where
  made_s : Sound pr.free.heap
  made_s = pr.free.sound

  module _ (t3 : Heap) (run : DoesAll r (making (length (atoms_of head)) (1 + length (membranes_of head)) 0 body) (nesting.t2 h valid head body n m r qs rule em stand c names goes contexts ps parts hs s pr nests listed_s) t3) (t4 : Heap) (drop_run : DoesAll r (drops 1 (membranes_of head)) t3 t4) where
    abbrev v : Heap
    v = nesting.v h valid head body n m r qs rule em stand c names goes contexts ps parts hs s pr nests listed_s t3 run t4 drop_run

    abbrev same : SameItems t4 v
    same = nesting.same h valid head body n m r qs rule em stand c names goes contexts ps parts hs s pr nests listed_s t3 run t4 drop_run

    abbrev sh : Shrunk s (nesting.t2 h valid head body n m r qs rule em stand c names goes contexts ps parts hs s pr nests listed_s) (nesting.ns h valid head body n m r qs rule em stand c names goes contexts ps parts hs s pr nests listed_s) (membrane_images r head)
    sh = nesting.sh h valid head body n m r qs rule em stand c names goes contexts ps parts hs s pr nests listed_s

    abbrev dsh : Shrunk t3 t4 (dropped_atoms r head) (dropped_mems r head)
    dsh = nesting.dsh h valid head body n m r qs rule em stand c names goes contexts ps parts hs s pr nests listed_s t3 run t4 drop_run

    abbrev gr : GrownBy r qs (removed_mems r head) (length (atoms_of head)) (1 + length (membranes_of head)) 0 body (nesting.t2 h valid head body n m r qs rule em stand c names goes contexts ps parts hs s pr nests listed_s) t3
    gr = nesting.gr h valid head body n m r qs rule em stand c names goes contexts ps parts hs s pr nests listed_s t3 run

    -- dropping keeps lists and places together
    listed_t4 : Listed t4
    listed_t4 = drops_listed r 1 (membranes_of head) t3 t4 (nesting.listed_t3 h valid head body n m r qs rule em stand c names goes contexts ps parts hs s pr nests listed_s t3 run) (dropped_in_list r 1 (membranes_of head) t3 hs.rests.drop_once hs.dms_once (nesting.one_list h valid head body n m r qs rule em stand c names goes contexts ps parts hs s pr nests listed_s t3 run) (nesting.one_mem_list h valid head body n m r qs rule em stand c names goes contexts ps parts hs s pr nests listed_s t3 run)) drop_run

    listed_v : Listed v
    listed_v = same_listed t4 v listed_t4 same.places (λ x. ap (λ f. option_map (λ y. y.place) (f x)) same.mems) (λ x. ap (λ f. atoms_by (f x)) same.mems) (λ x. ap (λ f. mems_by (f x)) same.mems) same.root same.new_atoms same.new_mems

    functors : (a : ℕ) → functor_of v a ≡ functor_of s a
    functors a = same.functors a ∙ dsh.same.functors a ∙ gr.same.functors a ∙ sh.same.functors a

    arities : (a : ℕ) → arity_of v a ≡ arity_of s a
    arities a = same.arities a ∙ dsh.same.arities a ∙ gr.same.arities a ∙ sh.same.arities a

    shaped_s : Shaped s
    shaped_s = subst (λ (f : ℕ → Option HeapAtom). Shaped (record s { atoms = f })) (sym pr.atoms.atoms) (record { ports = made_s.shaped.ports; marks = made_s.shaped.marks })

    shaped_v : Shaped v
    shaped_v = record {
      ports = λ a f e. arities a ∙ shaped_s.ports a f (sym (functors a) ∙ e);
      marks = λ a is. same.marks a ∙ dsh.same.marks a ∙ gr.same.marks a ∙ sh.same.marks a ∙ shaped_s.marks a (some (v.atoms a) (s.atoms a) (functors a) is) ∙ ap (λ k. k + 1) (sym (arities a));
    }
      where
        some : (o q : Option HeapAtom) → option_map (λ x. x.functor) o ≡ option_map (λ x. x.functor) q → IsSome o → IsSome q
        some None q e i = absurd (cc)
        some (Some x) None e i = absurd (cc)
        some (Some x) (Some y) e i = refl

    -- The heap before PROCEED is sound.
    pub sound_before : Sound v
    sound_before = record { paired = nesting.paired_v h valid head body n m r qs rule em stand c names goes contexts ps parts hs s pr nests listed_s t3 run t4 drop_run; listed = listed_v; shaped = shaped_v }

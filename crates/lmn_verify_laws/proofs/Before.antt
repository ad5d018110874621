-- What holds before what drops, and before what ties, in the code of a body is run.
use Rattle.std.proofs.Common.{ℕ, ◌+◌, ◌≡◌, List, ◌++◌, map, length, sym, ap, subst, ◌∙◌, true, false}
use Rattle.lmn_base.specs.Lists.{In}
use Rattle.lmn_base.proofs.Lists.{get_below, get_there as get_some}
use Rattle.lmn_base.proofs.Numbers.{below_zero_plus as below_plain, zero_least as nothing_less, zero_plus_below as plain_below}
use Rattle.lmn_store_heap.specs.Heap.{Heap, IsMemInPlace, taken_all}
use Rattle.lmn_store_heap.specs.Sound.{Listed, Paired, Valid}
use Rattle.lmn_store_heap.proofs.ListLemmas.{in_right}
use Rattle.lmn_store_heap.proofs.Listing.{same_paired}
use Rattle.lmn_solid_heads.specs.declared.items.HeadItem.{HeadItem}
use Rattle.lmn_solid_heads.specs.Heads.{HeadMembrane, atoms_of as head_atoms, typed_contexts_of, membranes_of}
use Rattle.lmn_solid_heads.specs.Embeddings.{Lies, HasMembrane}
use Rattle.lmn_congruence_splice.specs.Classes.{class_of, rising}
use Rattle.lmn_congruence_splice.proofs.EndLemmas.{in_rising, rising_distinct}
use Rattle.lmn_instr_code.specs.declared.instr.Instr.TheVariants.{RemoveAtom, RemovePart, RemoveMem}
use Rattle.lmn_solid_bodies.specs.declared.items.BodyItem.{BodyItem}
use Rattle.lmn_solid_bodies.specs.Added.{moved_mems}
use Rattle.lmn_solid_bodies.specs.Code.{removals, making, body_code, drops, links_code}
use Rattle.lmn_solid_bodies.specs.Conditions.{CanRun}
use Rattle.lmn_solid_bodies.specs.Fired.{images_of}
use Rattle.lmn_solid_bodies.specs.Items.{connectors, new_ports, old_ports}
use Rattle.lmn_solid_bodies.specs.Rules.{NestedRule, PartAtoms}
use Rattle.lmn_solid_bodies.specs.Running.{Registers, Prepares, DoesAll}
use Rattle.lmn_solid_bodies.specs.Tied.{partners}
use Rattle.lmn_solid_bodies.specs.Within.{HoldsRests, dropped_mems, membrane_images}
use Rattle.lmn_solid_bodies.proofs.Coding.{commits_append, commits_taken}
use Rattle.lmn_solid_bodies.proofs.Firing.{rising_below}
use Rattle.lmn_solid_bodies.proofs.Held.{held, open_from_rest, rest_dropped, rests_closed}
use Rattle.lmn_solid_bodies.proofs.Laws.{prepared_all, prepared_links}
use Rattle.lmn_solid_bodies.proofs.Numbering.{links_have_numbers}
use Rattle.lmn_solid_bodies.proofs.Parts.{parts_commit, taken_append, taken_links}
use Rattle.lmn_solid_bodies.proofs.Places.{goes_body, moved_are, nests_body}
use Rattle.lmn_solid_bodies.proofs.Removing.{all_taken_mems, commits_taken_mems}
use Rattle.lmn_solid_bodies.proofs.Nesting as nesting
use Rattle.lmn_verify_laws.proofs.TiesCan.{ties_can}

-- In a heap that comes by taking out, making and dropping partners agree, and what ties can be run, where the body was prepared.
pub before_ties : (head : List HeadItem) (body : List BodyItem) (n : ℕ) → NestedRule head body n → (r : Registers) (h : Heap) → Valid h → (m : ℕ) → Lies h head m r.head.images → HoldsRests h r head → IsMemInPlace h m →
    (s : Heap) → Prepares r (body_code head body n) h s → (u : Heap) → DoesAll r (removals head ++ (making (length (head_atoms head)) (1 + length (membranes_of head)) 0 body ++ drops 1 (membranes_of head))) s u →
    Paired u × CanRun r (links_code (class_of (connectors body)) (new_ports (length (head_atoms head)) 0 body) (old_ports head) (rising 0 n)) u
before_ties head body n nested r h valid m em rests stand s prepares u does =
    let numbers = links_have_numbers h valid in
    let c = numbers.0 in
    let names = numbers.1 in
    let rule' = nested.atoms in
    let head_nests = nested.head_nests in
    let dropped = drops 1 (membranes_of head) in
    let N = length (head_atoms head) in
    let K = length (membranes_of head) in
    let parts = map RemovePart (rising 0 (length (typed_contexts_of head))) in
    let mems = map RemoveMem (rising 1 K) in
    let make = making N (1 + K) 0 body in
    let all = prepared_all head body n rule' r h valid m em c names (rests_closed h valid head body n m r nested em rests c names) s prepares in
    let qs = all.qs in
    let d = all.d in
    let pr = all.pr in
    let contexts : (k : ℕ) (b : HeadMembrane) → HasMembrane head k b → b.has_context ≡ true → b.has_closed_context ≡ false → In (r.head.images.membrane k) (moved_mems r body) = λ k b w e o. moved_are r body k (nested.contexts k b w e o) in
    let ca = commits_append r (removals head) (make ++ dropped) s u does in
    let cb = commits_append r (map RemoveAtom (rising 0 N)) (parts ++ mems) s ca.0 ca.1 in
    let cd = commits_append r parts mems cb.0 ca.0 cb.2 in
    let ce = commits_append r make dropped ca.0 u ca.2 in
    let images : cb.0 ≡ taken_all s (images_of r head) = commits_taken r (rising 0 N) s cb.0 cb.1 in
    let taken_parts = parts_commit h valid head body n m r rule' em (rising 0 (length (typed_contexts_of head))) (rising_distinct (length (typed_contexts_of head)) 0)
    (λ g i. get_some (typed_contexts_of head) g (below_plain g (length (typed_contexts_of head)) (rising_below (length (typed_contexts_of head)) 0 g i).1)) cb.0 cd.0
    (λ p is. ap (λ z. partners z p) images ∙ taken_links (images_of r head) s p.0 p.1 ∙ prepared_links d h s r qs N (1 + K) body pr p is) cd.1 in
    let ps = taken_parts.0 in
    let parts_are : PartAtoms h head r.head.images ps = record {
      once = taken_parts.1.once;
      are = λ a i. let w = taken_parts.1.are a i in
          let t = get_some (typed_contexts_of head) w.0 (below_plain w.0 (length (typed_contexts_of head)) (rising_below (length (typed_contexts_of head)) 0 w.0 w.1).1) in (w.0, t.0, t.1, w.2);
      all = λ g t a w i. taken_parts.1.all g a (in_rising (length (typed_contexts_of head)) 0 g (nothing_less g) (plain_below g (length (typed_contexts_of head)) (get_below (typed_contexts_of head) g t w))) i;
    } in
    let out : cd.0 ≡ taken_all s (images_of r head ++ ps) = taken_parts.1.is ∙ ap (λ z. taken_all z ps) images ∙ sym (taken_append s (images_of r head) ps) in
    let removed : ca.0 ≡ all_taken_mems (taken_all s (images_of r head ++ ps)) (membrane_images r head) =
    commits_taken_mems r (rising 1 K) cd.0 ca.0 cd.2 ∙ ap (λ z. all_taken_mems z (membrane_images r head)) out in
    let run : DoesAll r make (all_taken_mems (taken_all s (images_of r head ++ ps)) (membrane_images r head)) ce.0 = subst (λ z. DoesAll r make z ce.0) removed ce.1 in
    let listed = all.listed in
    let hs = held h valid head body n m r nested em stand rests ps parts_are c names in
    let goes = goes_body h valid head m r qs em stand head_nests body pr.mems.fresh (dropped_mems r head) (λ x i. hs.removed_mem x (in_right x (membrane_images r head) (dropped_mems r head) i))
    (λ x i. hs.removed_later x (in_right x (membrane_images r head) (dropped_mems r head) i)) (λ of i x j. rest_dropped h valid head body n m r nested em stand rests ps parts_are c names of i x j)
    (λ of k i j l. open_from_rest h valid head body n m r nested em stand rests ps parts_are c names of k i j l) nested.placed in
    let nests = nests_body h valid head m r qs em stand head_nests body pr.mems.fresh (dropped_mems r head) (λ x i. hs.removed_mem x (in_right x (membrane_images r head) (dropped_mems r head) i))
    (λ x i. hs.removed_later x (in_right x (membrane_images r head) (dropped_mems r head) i)) (λ of i x j. rest_dropped h valid head body n m r nested em stand rests ps parts_are c names of i x j)
    (λ of k i j l. open_from_rest h valid head body n m r nested em stand rests ps parts_are c names of k i j l) nested.placed in (
      same_paired s u (nesting.links_t4 h valid head body n m r qs rule' em stand d all.names goes contexts ps parts_are hs s pr nests listed ce.0 run u ce.2)
          (nesting.paired_s h valid head body n m r qs rule' em stand d all.names goes contexts ps parts_are hs s pr nests listed),
      ties_can h valid head body n m r qs rule' em stand d all.names goes contexts ps parts_are hs s pr nests listed ce.0 run u ce.2,
    )

-- In a heap that comes by taking out and making lists and places agree, where the body was prepared.
pub listed_before_drops : (head : List HeadItem) (body : List BodyItem) (n : ℕ) → NestedRule head body n → (r : Registers) (h : Heap) → Valid h → (m : ℕ) → Lies h head m r.head.images → HoldsRests h r head → IsMemInPlace h m →
    (s : Heap) → Prepares r (body_code head body n) h s → (u : Heap) → DoesAll r (removals head ++ making (length (head_atoms head)) (1 + length (membranes_of head)) 0 body) s u → Listed u
listed_before_drops head body n nested r h valid m em rests stand s prepares u does =
    let numbers = links_have_numbers h valid in
    let c = numbers.0 in
    let names = numbers.1 in
    let rule' = nested.atoms in
    let head_nests = nested.head_nests in
    let N = length (head_atoms head) in
    let K = length (membranes_of head) in
    let parts = map RemovePart (rising 0 (length (typed_contexts_of head))) in
    let mems = map RemoveMem (rising 1 K) in
    let make = making N (1 + K) 0 body in
    let all = prepared_all head body n rule' r h valid m em c names (rests_closed h valid head body n m r nested em rests c names) s prepares in
    let qs = all.qs in
    let d = all.d in
    let pr = all.pr in
    let contexts : (k : ℕ) (b : HeadMembrane) → HasMembrane head k b → b.has_context ≡ true → b.has_closed_context ≡ false → In (r.head.images.membrane k) (moved_mems r body) = λ k b w e o. moved_are r body k (nested.contexts k b w e o) in
    let ca = commits_append r (removals head) make s u does in
    let cb = commits_append r (map RemoveAtom (rising 0 N)) (parts ++ mems) s ca.0 ca.1 in
    let cd = commits_append r parts mems cb.0 ca.0 cb.2 in
    let images : cb.0 ≡ taken_all s (images_of r head) = commits_taken r (rising 0 N) s cb.0 cb.1 in
    let taken_parts = parts_commit h valid head body n m r rule' em (rising 0 (length (typed_contexts_of head))) (rising_distinct (length (typed_contexts_of head)) 0)
    (λ g i. get_some (typed_contexts_of head) g (below_plain g (length (typed_contexts_of head)) (rising_below (length (typed_contexts_of head)) 0 g i).1)) cb.0 cd.0
    (λ p is. ap (λ z. partners z p) images ∙ taken_links (images_of r head) s p.0 p.1 ∙ prepared_links d h s r qs N (1 + K) body pr p is) cd.1 in
    let ps = taken_parts.0 in
    let parts_are : PartAtoms h head r.head.images ps = record {
      once = taken_parts.1.once;
      are = λ a i. let w = taken_parts.1.are a i in
          let t = get_some (typed_contexts_of head) w.0 (below_plain w.0 (length (typed_contexts_of head)) (rising_below (length (typed_contexts_of head)) 0 w.0 w.1).1) in (w.0, t.0, t.1, w.2);
      all = λ g t a w i. taken_parts.1.all g a (in_rising (length (typed_contexts_of head)) 0 g (nothing_less g) (plain_below g (length (typed_contexts_of head)) (get_below (typed_contexts_of head) g t w))) i;
    } in
    let out : cd.0 ≡ taken_all s (images_of r head ++ ps) = taken_parts.1.is ∙ ap (λ z. taken_all z ps) images ∙ sym (taken_append s (images_of r head) ps) in
    let removed : ca.0 ≡ all_taken_mems (taken_all s (images_of r head ++ ps)) (membrane_images r head) =
    commits_taken_mems r (rising 1 K) cd.0 ca.0 cd.2 ∙ ap (λ z. all_taken_mems z (membrane_images r head)) out in
    let run : DoesAll r make (all_taken_mems (taken_all s (images_of r head ++ ps)) (membrane_images r head)) u = subst (λ z. DoesAll r make z u) removed ca.2 in
    let listed = all.listed in
    let hs = held h valid head body n m r nested em stand rests ps parts_are c names in
    let goes = goes_body h valid head m r qs em stand head_nests body pr.mems.fresh (dropped_mems r head) (λ x i. hs.removed_mem x (in_right x (membrane_images r head) (dropped_mems r head) i))
    (λ x i. hs.removed_later x (in_right x (membrane_images r head) (dropped_mems r head) i)) (λ of i x j. rest_dropped h valid head body n m r nested em stand rests ps parts_are c names of i x j)
    (λ of k i j l. open_from_rest h valid head body n m r nested em stand rests ps parts_are c names of k i j l) nested.placed in
    let nests = nests_body h valid head m r qs em stand head_nests body pr.mems.fresh (dropped_mems r head) (λ x i. hs.removed_mem x (in_right x (membrane_images r head) (dropped_mems r head) i))
    (λ x i. hs.removed_later x (in_right x (membrane_images r head) (dropped_mems r head) i)) (λ of i x j. rest_dropped h valid head body n m r nested em stand rests ps parts_are c names of i x j)
    (λ of k i j l. open_from_rest h valid head body n m r nested em stand rests ps parts_are c names of k i j l) nested.placed in
    nesting.listed_t3 h valid head body n m r qs rule' em stand d all.names goes contexts ps parts_are hs s pr nests listed u run

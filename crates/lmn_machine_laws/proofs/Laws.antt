-- The cost of a commit, from the laws of head code and of body code.
use Rattle.std.proofs.Common.{ℕ, ◌+◌, ◌<◌, ◌≡◌, ◌↔◌, true, false, List, [], ◌∷◌, ◌++◌, map, length, sym, ap, subst, ◌∙◌, arith}
use Rattle.lmn_base.specs.declared.rule.RuleTree.{RuleTree}
use Rattle.lmn_guards.specs.declared.plan.GuardPlan.{GuardPlan}
use Rattle.lmn_store_heap.specs.Heap.{Heap, atoms_in, rules_in, IsMem, IsMemInPlace, finished, taken_all}
use Rattle.lmn_store_heap.specs.Sound.{Forest, flat, IsTree, Valid, item_count_in}
use Rattle.lmn_store_heap.proofs.ListLemmas.{in_right}
use Rattle.lmn_store_heap.proofs.Trees.{root_first}
use Rattle.lmn_solid_heads.specs.declared.items.HeadItem.{HeadItem}
use Rattle.lmn_solid_heads.specs.Heads.{HeadMembrane, HeadTyped, atoms_of, typed_contexts_of, membranes_of}
use Rattle.lmn_solid_heads.specs.Embeddings.{Lies, HasMembrane, HasTyped}
use Rattle.lmn_congruence_splice.specs.Classes.{class_of, rising, body_ties}
use Rattle.lmn_congruence_splice.specs.Splice.{IsOneOf}
use Rattle.lmn_congruence_splice.proofs.EndLemmas.{in_rising, rising_distinct}
use Rattle.lmn_instr_code.specs.declared.instr.Instr.{Instr}
use Rattle.lmn_instr_code.specs.declared.instr.Instr.TheVariants.{RemoveAtom, RemovePart, RemoveMem, Proceed}
use Rattle.lmn_compile_head.specs.Accepted.{head_items, AcceptedLeast}
use Rattle.lmn_compile_body.specs.Accepted.{rule_body_items, AcceptedNested}
use Rattle.lmn_solid_bodies.specs.declared.items.BodyItem.{BodyItem}
use Rattle.lmn_solid_bodies.specs.Tied.{partners, all_tied}
use Rattle.lmn_solid_bodies.specs.Items.{new_ports, old_ports, connectors}
use Rattle.lmn_solid_bodies.specs.Code.{removals, making, drops, links_code, body_code}
use Rattle.lmn_solid_bodies.specs.Running.{Registers, old_port, new_port, DoesAll, RunsBody}
use Rattle.lmn_solid_bodies.specs.Names.{Names}
use Rattle.lmn_solid_bodies.specs.Added.{moved_mems}
use Rattle.lmn_solid_bodies.specs.Fired.{images_of}
use Rattle.lmn_solid_bodies.specs.Rules.{NestedRule, PartAtoms}
use Rattle.lmn_solid_bodies.specs.Within.{membrane_images, dropped_atoms, dropped_mems, removed_mems, HoldsRests}
use Rattle.lmn_solid_bodies.proofs.Coding.{at_heap, commits_append, commits_taken, commits_tied}
use Rattle.lmn_solid_bodies.proofs.Firing.{rising_below}
use Rattle.lmn_solid_bodies.proofs.Below.{preorder}
use Rattle.lmn_solid_bodies.proofs.Held.{held, rests_closed, rest_dropped, open_from_rest}
use Rattle.lmn_solid_bodies.proofs.Laws.{prepared_all, prepared_links}
use Rattle.lmn_solid_bodies.proofs.Numbering.{links_have_numbers}
use Rattle.lmn_solid_bodies.proofs.Parts.{taken_append, taken_links, parts_commit}
use Rattle.lmn_solid_bodies.proofs.Places.{goes_body, nests_body, moved_are}
use Rattle.lmn_solid_bodies.proofs.Removing.{all_taken_mems, commits_taken_mems}
use Rattle.lmn_solid_bodies.proofs.Soundness.{sound_before}
use Rattle.lmn_solid_bodies.proofs.TreeAfter.{valid_after}
use Rattle.lmn_machine.specs.Costs.{AddsItems, TakesItems, InAll, Leaves}
use Rattle.lmn_machine.proofs.Costing.{left_over}
use Rattle.lmn_machine_laws.specs.Laws.{HeadIsFound, CostIsTold, HeadLies, BodyCostIsTold}
use Rattle.lmn_machine_laws.proofs.Totals.{total_is_sum}
use Rattle.lmn_machine_laws.proofs.Codes.{code_adds, code_takes}
use Rattle.lmn_machine_laws.proofs.Existing.{parts_sum, some_left}
use Rattle.lmn_machine_laws.proofs.Counting.{adds, items_are}
use Rattle.lmn_base.specs.Graphs.{Port}
use Rattle.lmn_base.proofs.Lists.{weigh as total, get_below, get_there as get_some}
use Rattle.lmn_base.proofs.Numbers.{below_zero_plus as below_plain, zero_least as nothing_less, zero_plus_below as plain_below}
use Rattle.lmn_base.specs.Lists.{In}

-- What the instructions of a body add and take, and the items before and after them.
pub record Counted (h : Heap) (r : Registers) (code : List Instr) (items : ℕ) : Type 0 where
  pub added : ℕ
  pub taken : ℕ
  pub adds : InAll (AddsItems h r) code added
  pub takes : InAll (TakesItems h r) code taken
  pub count : (f : Forest) → IsTree h f → items + taken ≡ item_count_in h (flat f) + added

-- The items that the code of a body leaves.
body_counts : (head : List HeadItem) (body : List BodyItem) (n : ℕ) → NestedRule head body n → (r : Registers) (h : Heap) → Valid h → (m : ℕ) → Lies h head m r.head.images → HoldsRests h r head → IsMemInPlace h m →
    (c : Port → ℕ) → Names h c → (h' : Heap) → RunsBody r (body_code head body n) h h' → (f' : Forest) → IsTree h' f' → Counted h r (body_code head body n) (item_count_in h' (flat f'))
body_counts head body n nested r h valid m em rests stand c names h' (s, prepares, commits) =
    let rule = nested.atoms in
    let head_nests = nested.head_nests in
    let N = length (atoms_of head) in
    let K = length (membranes_of head) in
    let T = length (typed_contexts_of head) in
    let links_part = links_code (class_of (connectors body)) (new_ports N 0 body) (old_ports head) (rising 0 n) in
    let part_code = map RemovePart (rising 0 T) in
    let mems = map RemoveMem (rising 1 K) in
    let make = making N (1 + K) 0 body in
    let dropped = drops 1 (membranes_of head) in
    let all = prepared_all head body n rule r h valid m em c names (rests_closed h valid head body n m r nested em rests c names) s prepares in
    let qs = all.qs in
    let d = all.d in
    let pr = all.pr in
    let contexts : (k : ℕ) (b : HeadMembrane) → HasMembrane head k b → b.has_context ≡ true → b.has_closed_context ≡ false → In (r.head.images.membrane k) (moved_mems r body) = λ k b w e o. moved_are r body k (nested.contexts k b w e o) in
    let ca = commits_append r (removals head) (make ++ (dropped ++ (links_part ++ (Proceed ∷ [])))) s h' commits in
    let cb = commits_append r (map RemoveAtom (rising 0 N)) (part_code ++ mems) s ca.0 ca.1 in
    let cd = commits_append r part_code mems cb.0 ca.0 cb.2 in
    let ce = commits_append r make (dropped ++ (links_part ++ (Proceed ∷ []))) ca.0 h' ca.2 in
    let cg = commits_append r dropped (links_part ++ (Proceed ∷ [])) ce.0 h' ce.2 in
    let cf = commits_append r links_part (Proceed ∷ []) cg.0 h' cg.2 in
    let images : cb.0 ≡ taken_all s (images_of r head) = commits_taken r (rising 0 N) s cb.0 cb.1 in
    let typed : (g : ℕ) → IsOneOf g (rising 0 T) → (t : HeadTyped) × HasTyped head g t = λ g i. get_some (typed_contexts_of head) g (below_plain g T (rising_below T 0 g i).1) in
    let taken_parts = parts_commit h valid head body n m r rule em (rising 0 T) (rising_distinct T 0) typed cb.0 cd.0
    (λ p is. ap (λ z. partners z p) images ∙ taken_links (images_of r head) s p.0 p.1 ∙ prepared_links d h s r qs N (1 + K) body pr p is) cd.1 in
    let ps = taken_parts.0 in
    let parts_are : PartAtoms h head r.head.images ps = record {
      once = taken_parts.1.once;
      are = λ a i. let u = taken_parts.1.are a i in let t = typed u.0 u.1 in (u.0, t.0, t.1, u.2);
      all = λ g t a w i. taken_parts.1.all g a (in_rising T 0 g (nothing_less g) (plain_below g T (get_below (typed_contexts_of head) g t w))) i;
    } in
    let out : cd.0 ≡ taken_all s (images_of r head ++ ps) = taken_parts.1.is ∙ ap (λ z. taken_all z ps) images ∙ sym (taken_append s (images_of r head) ps) in
    let removed : ca.0 ≡ all_taken_mems (taken_all s (images_of r head ++ ps)) (membrane_images r head) =
    commits_taken_mems r (rising 1 K) cd.0 ca.0 cd.2 ∙ ap (λ z. all_taken_mems z (membrane_images r head)) out in
    let run : DoesAll r make (all_taken_mems (taken_all s (images_of r head ++ ps)) (membrane_images r head)) ce.0 = subst (λ z. DoesAll r make z ce.0) removed ce.1 in
    let ties : cf.0 ≡ all_tied cg.0 (body_ties (at_heap (new_port r) (new_ports N 0 body)) (at_heap (old_port r) (old_ports head)) (connectors body) n) =
    commits_tied r (class_of (connectors body)) (new_ports N 0 body) (old_ports head) (rising 0 n) cg.0 cf.0 cf.1 in
    let v = all_tied cg.0 (body_ties (at_heap (new_port r) (new_ports N 0 body)) (at_heap (old_port r) (old_ports head)) (connectors body) n) in
    let done : h' ≡ finished v = cf.2.2 ∙ cf.2.1 ∙ ap finished ties in
    let hs = held h valid head body n m r nested em stand rests ps parts_are c names in
    let more_there : (x : ℕ) → In x (dropped_mems r head) → IsMem h x = λ x i. hs.removed_mem x (in_right x (membrane_images r head) (dropped_mems r head) i) in
    let more_later : (x : ℕ) → In x (dropped_mems r head) → preorder h valid m < preorder h valid x = λ x i. hs.removed_later x (in_right x (membrane_images r head) (dropped_mems r head) i) in
    let goes = goes_body h valid head m r qs em stand head_nests body pr.mems.fresh (dropped_mems r head) more_there more_later (λ of i x j. rest_dropped h valid head body n m r nested em stand rests ps parts_are c names of i x j)
    (λ of k i j l. open_from_rest h valid head body n m r nested em stand rests ps parts_are c names of k i j l) nested.placed in
    let nests = nests_body h valid head m r qs em stand head_nests body pr.mems.fresh (dropped_mems r head) more_there more_later (λ of i x j. rest_dropped h valid head body n m r nested em stand rests ps parts_are c names of i x j)
    (λ of k i j l. open_from_rest h valid head body n m r nested em stand rests ps parts_are c names of k i j l) nested.placed in
    let sound = sound_before h valid head body n m r qs rule em stand d all.names goes contexts ps parts_are hs s pr nests all.listed ce.0 run cg.0 cg.1 in
    let after : Valid (finished v) = valid_after h valid head body n m r qs rule em stand d all.names goes contexts ps parts_are hs s pr nests all.listed head_nests ce.0 run cg.0 cg.1 sound in
    subst (λ z. (f' : Forest) → IsTree z f' → Counted h r (body_code head body n) (item_count_in z (flat f'))) (sym done) (λ f' tree'.
    let more = adds h valid head body n m r qs rule em stand d all.names goes contexts ps parts_are hs s pr nests all.listed ce.0 run cg.0 cg.1 sound after f' tree' in
    record {
      added = more.0;
      taken = length ((images_of r head ++ ps) ++ dropped_atoms r head) + total (λ k. 1 + length (rules_in h k)) (removed_mems r head);
      adds = code_adds h r head body n more.0 more.1;
      takes = code_takes h r head body n ps (parts_sum h valid head body n m r nested em stand rests c names ps taken_parts.1.once taken_parts.1.are taken_parts.1.all);
      count = λ f tree. items_are h valid head body n m r qs rule em stand d all.names goes contexts ps parts_are hs s pr nests all.listed ce.0 run cg.0 cg.1 sound after f' tree' f tree;
    })

-- there is the root at least
some_items : (s : Heap) (xs : List ℕ) (x : ℕ) → In x xs → (k : ℕ) × (k + 1 ≡ item_count_in s xs)
some_items s [] x i = absurd i
some_items s (y ∷ ys) x i =
    let w : ℕ → ℕ = λ m. 1 + length (atoms_in s m) + length (rules_in s m) in
    let e = total_is_sum w (y ∷ ys) in
    (length (atoms_in s y) + length (rules_in s y) + total w ys, omega arith)

-- what is told is what is left
told_is_left : (h : Heap) (valid : Valid h) (r : Registers) (code : List Instr) (items n : ℕ) → Counted h r code items → Leaves h r code n ↔ (n + 1 ≡ items)
told_is_left h valid r code items n k =
    let f = valid.tree.0 in
    let tree = valid.tree.1 in
    let b = some_items h (flat f) h.root (root_first h f tree).0 in
    let e = k.count f tree in (
      (λ l. let o = left_over h r code n b.0 k.added k.taken f tree b.1 k.adds k.takes l in let q = b.1 in omega arith),
      (λ q. record { added = k.added; taken = k.taken; adds = k.adds; takes = k.takes; count = λ g t. let u = k.count g t in omega (arith, q) }),
    )

-- one number is told
one_told : (h : Heap) → Valid h → (r : Registers) (code : List Instr) (n k : ℕ) → Leaves h r code n → Leaves h r code k → n ≡ k
one_told h valid r code n k l u =
    let f = valid.tree.0 in
    let tree = valid.tree.1 in
    let b = some_items h (flat f) h.root (root_first h f tree).0 in
    let o = left_over h r code k b.0 l.added l.taken f tree b.1 l.adds l.takes u in
    let c = l.count f tree in
    let q = b.1 in omega arith

-- the cost of a body whose head lies is told
pub body_cost_is_told : BodyCostIsTold
body_cost_is_told = record {
  told = λ head body links h m s w h' runs f tree n.
      let c = links_have_numbers h w.valid in
      told_is_left h w.valid s (body_code head body links) (item_count_in h' (flat f)) n (body_counts head body links w.rule s h w.valid m w.lies w.rests w.placed c.0 c.1 h' runs f tree);
  some = λ head body links h m s w. let c = links_have_numbers h w.valid in some_left h w.valid head body links m s w.rule w.lies w.placed w.rests c.0 c.1;
  one = λ head body links h m s w n k l u. one_told h w.valid s (body_code head body links) n k l u;
}

module _ (heads : AcceptedLeast) (bodies : AcceptedNested) where
  -- where its head code first succeeds, the head of an accepted rule lies
  head_lies : (table : List RuleTree) (r : RuleTree) (plan : GuardPlan) (h : Heap) (m : ℕ) (s : Registers) → HeadIsFound table r plan h m s →
      HeadLies (head_items r plan) (rule_body_items r plan) (length r.links) h m s
  head_lies table r plan h m s w = record {
    rule = bodies table r plan w.whole;
    valid = w.valid;
    placed = w.placed;
    lies = (heads.least table r plan h m s.head w.whole.ready w.valid w.first).embeds.lies;
    rests = w.rests;
  }

  -- the cost of an accepted rule is told
  pub cost_is_told : CostIsTold
  cost_is_told = record {
    told = λ table r plan h m s w. body_cost_is_told.told (head_items r plan) (rule_body_items r plan) (length r.links) h m s (head_lies table r plan h m s w);
    some = λ table r plan h m s w. body_cost_is_told.some (head_items r plan) (rule_body_items r plan) (length r.links) h m s (head_lies table r plan h m s w);
    one = λ table r plan h m s w. body_cost_is_told.one (head_items r plan) (rule_body_items r plan) (length r.links) h m s (head_lies table r plan h m s w);
  }

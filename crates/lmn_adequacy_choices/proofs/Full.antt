-- What is chosen has a run in the definitions, and so a next region with as many items as its cost tells.
use Rattle.std.proofs.Common.{ℕ, zero, suc, ◌≡◌, ◌≢◌, ◌+◌, ◌<◌, ◌≤◌, List, [], ◌∷◌, ◌++◌, length, Option, Some, None, IsSome, refl, sym, ap, subst, ◌∙◌, inl, inr, arith}
use Rattle.std.specs.Option.{option_map}
use Rattle.std.proofs.lemmas.Bool.{cases_eq}
use Rattle.lmn_base.specs.declared.rule.RuleTree.{RuleTree}
use Rattle.lmn_guards.specs.declared.plan.GuardPlan.{GuardPlan}
use Rattle.lmn_store_heap.specs.Heap.{Heap, HeapMem, IsMem, link_of, mems_in, rules_in, spare_of, within}
use Rattle.lmn_store_heap.specs.Sound.{Forest, Valid}
use Rattle.lmn_store_heap.proofs.Trees.{is_mem}
use Rattle.lmn_solid_heads.specs.Heads.{HeadTyped, atoms_of, membranes_of as head_membranes}
use Rattle.lmn_solid_heads.specs.Embeddings.{HasTyped, Images, IsLeast}
use Rattle.lmn_congruence_splice.specs.Classes.{class_of, rising}
use Rattle.lmn_instr_code.specs.declared.instr.Code.{Code}
use Rattle.lmn_instr_code.specs.declared.instr.Instr.TheVariants.{Proceed}
use Rattle.lmn_instr_code.specs.Running.{HeadRegisters, IsFirstSuccess}
use Rattle.lmn_compile_head.specs.Accepted.{AcceptedHeads, AcceptedLeast, head_items, rule_head_code}
use Rattle.lmn_compile_body.specs.Accepted.{AcceptedNested, rule_body_code, rule_body_items}
use Rattle.lmn_solid_bodies.specs.declared.items.BodyItem.{BodyItem}
use Rattle.lmn_solid_bodies.specs.declared.items.BodyItem.TheVariants.{Atom, Connector, Copy, Bound, Membrane, Rest, Rule, Rules}
use Rattle.lmn_machine_commit.specs.Preparing.{CanBeCopied}
use Rattle.lmn_solid_bodies.specs.Added.{if_inside, named_rules}
use Rattle.lmn_solid_bodies.specs.Code.{body_code, drops, links_code, making, removals}
use Rattle.lmn_solid_bodies.specs.Items.{connectors, new_ports, old_ports}
use Rattle.lmn_solid_bodies.specs.Laws.{BodyCanRun, LinksHaveNumbers}
use Rattle.lmn_solid_bodies.specs.Running.{Registers, Prepares, RunsBody}
use Rattle.lmn_solid_bodies.specs.Within.{HoldsRests}
use Rattle.lmn_solid_bodies.proofs.Held.{rests_closed}
use Rattle.lmn_machine.specs.Costs.{Leaves}
use Rattle.lmn_machine_laws.specs.AcceptedCode.{AcceptedSetsItems, SetsItems}
use Rattle.lmn_schedule_strategy.specs.Turns.{HoldsRestsOf}
use Rattle.lmn_adequacy_heaps.specs.HeapRegions.{HeapReading}
use Rattle.lmn_adequacy_heaps.proofs.Counting.{tree_atoms}
use Rattle.lmn_adequacy_turns.specs.Turning.{renumbered_reading}
use Rattle.lmn_adequacy_choices.specs.Laws.{ChoicesAgree, CostsAreItems, CostsAreTold}
use Rattle.lmn_adequacy_choices.specs.Turns.{HaveCodes, IsChosen, IsReadWith, heap_region, membranes_in_preorder, tree_over}
use Rattle.lmn_adequacy_choices.proofs.Choices.{code_of, first_of, inside, rests_held, rule_of}
use Rattle.lmn_adequacy_choices.proofs.Codes.{Coded}
use Rattle.lmn_adequacy_choices.proofs.Costs.{body_reads, leaves_so, quiet_drops, quiet_links, quiet_removals}
use Rattle.lmn_adequacy_choices.proofs.Fresh.{least_so, raised, raised_above, raised_below}
use Rattle.lmn_adequacy_choices.proofs.Makings.{AreMade, all_made}
use Rattle.lmn_adequacy_choices.proofs.Copying.{copied_in, copy_in, these_are}
use Rattle.lmn_adequacy_choices.proofs.Renumbering.{atom_there}
use Rattle.lmn_adequacy_choices.proofs.RestsHeld.{RestsOfRule, rest_so}
use Rattle.lmn_adequacy_choices.proofs.Runs.{commits_exist}
use Rattle.lmn_base.specs.Graphs.{Port}
use Rattle.lmn_base.proofs.Lists.{weigh as total, get_below, get_there as get_some}
use Rattle.lmn_store_heap.proofs.Common.{is_atom_at, mem_stands as mem_in_place, same_port}
use Rattle.lmn_store_heap.proofs.Replacing.{port_within}
use Rattle.lmn_base.specs.Lists.{In}
use Rattle.lmn_solid_bodies.proofs.Coding.{prepares_join}

-- an element of a list is at most the sum of all
in_total : (xs : List ℕ) (x : ℕ) → In x xs → x ≤ total (λ z. z) xs
in_total [] x i = absurd i
in_total (y ∷ xs) x (inl e) = omega (arith, e)
in_total (y ∷ xs) x (inr i) = let u = in_total xs x i in omega (arith, u)

none_there : {X : Type 0} (o : Option X) → (IsSome o → ⊥) → o ≡ None
none_there None f = refl
none_there (Some x) f = absurd (f refl)

mem_there : (h : Heap) → Valid h → (m n : ℕ) → In n (mems_in h m) → IsMem h n
mem_there h v m n i = by (h.mems n) ((v.sound.listed.mems m n).0 i)
  where
    by : (o : Option HeapMem) → option_map (λ x. x.place) o ≡ Some (within m) → IsSome o
    by None e = absurd (cc)
    by (Some x) e = refl

module _ (table : List RuleTree) (plans : List GuardPlan) (codes : List Code) (c : HaveCodes table plans codes) (h : Heap) (r : HeapReading) (inner : Forest) (w : IsReadWith h r inner table)
    (from : ℕ) (code : Code) (s : Registers) (ch : IsChosen from codes h inner code s) (heads : AcceptedHeads) (least_law : AcceptedLeast) (nested_law : AcceptedNested) (sets_law : AcceptedSetsItems) (rests_law : RestsOfRule) (can_run : BodyCanRun) (numbers_law : LinksHaveNumbers) where
  abbrev u : Coded r table plans codes ch.number
  u = rule_of table plans codes c h r inner w from code s ch

  abbrev m : ℕ
  m = ch.membrane

  there : IsMem h m
  there = is_mem h w.read.valid.sound (tree_over h inner) w.tree m (inside table plans codes c h r inner w from code s ch)

  -- a number above all that name an atom or a membrane
  abbrev B : ℕ
  B = suc (total (λ z. z) (tree_atoms h h.root inner) + total (λ z. z) (membranes_in_preorder h inner))

  new_atom : (j : ℕ) → h.atoms (B + j) ≡ None
  new_atom j = none_there (h.atoms (B + j)) (λ i. let l = in_total (tree_atoms h h.root inner) (B + j) (atom_there h w.read.valid r inner w.tree (B + j) i) in omega (arith, l))

  new_mem : (j : ℕ) → h.mems (B + j) ≡ None
  new_mem j = none_there (h.mems (B + j)) (λ i. let l = in_total (membranes_in_preorder h inner) (B + j) (w.tree.all (B + j) i) in omega (arith, l))

  -- the numbers of atoms and of membranes of copies; those of other new ones are even beyond the bound
  abbrev number : ℕ → ℕ
  number i = B + (i + i + 1)

  abbrev N : ℕ
  N = length (atoms_of (head_items u.rule u.plan))

  abbrev K : ℕ
  K = length (head_membranes (head_items u.rule u.plan))

  abbrev images : Images
  images = record { atom = raised N B s.head.images.atom; membrane = raised (1 + K) B s.head.images.membrane; part = s.head.images.part }

  -- those of the first success lie there
  lies_first : IsLeast h (head_items u.rule u.plan) u.rule.guard m s.head.images
  lies_first = least_law.least table u.rule u.plan h m s.head u.whole.ready w.read.valid (first_of table plans codes c h r inner w from code s ch)

  least : IsLeast h (head_items u.rule u.plan) u.rule.guard m images
  least = least_so h (head_items u.rule u.plan) (heads.head table u.rule u.plan u.whole.ready) s.head.images (raised N B s.head.images.atom) (raised (1 + K) B s.head.images.membrane)
      (λ n l. raised_below N B s.head.images.atom n l) (λ k l. raised_below (1 + K) B s.head.images.membrane k l) u.rule.guard m lies_first

  pub found : (t : HeadRegisters) × (t.images ≡ images) × IsFirstSuccess h (rule_head_code u.rule u.plan) m t
  found = least_law.first table u.rule u.plan h m images u.whole.ready w.read.valid least

  -- registers with the same success, and new numbers for what the body makes
  abbrev pub head_registers : HeadRegisters
  head_registers = record { images = images; integer = found.0.integer }

  -- with these copies
  abbrev pub with_copies : (ℕ → Port) → (ℕ → List ℕ) → Registers
  with_copies copy copied = record { head = head_registers; copy = copy; copied = copied; left_atoms = s.left_atoms; left_membranes = s.left_membranes }

  pub first : IsFirstSuccess h (rule_head_code u.rule u.plan) m head_registers
  first = let p = found.1 in subst (λ (z : Images). IsFirstSuccess h (rule_head_code u.rule u.plan) m (record { images = z; integer = found.0.integer })) p found.2

  pub head_is : code.head ≡ rule_head_code u.rule u.plan
  head_is = ap (λ z. z.head) (code_of table plans codes c h r inner w from code s ch) ∙ u.head

  pub body_is : code.body ≡ rule_body_code u.rule u.plan
  body_is = ap (λ z. z.body) (code_of table plans codes c h r inner w from code s ch) ∙ u.body

  sets : SetsItems code.head (head_items u.rule u.plan)
  sets = sets_law code.head table u.rule u.plan (record { ready = u.whole.ready; is = head_is })

  -- they hold the same rests
  pub rests_too : (copy : ℕ → Port) (copied : ℕ → List ℕ) → HoldsRestsOf h code.head (with_copies copy copied)
  rests_too copy copied k l = rest_so h code.head s.head head_registers
      (λ n o. raised_below N B s.head.images.atom n (subst (λ z. n < z) sets.atoms o))
      (λ n o. raised_below (1 + K) B s.head.images.membrane n (subst (λ z. n < 1 + z) sets.membranes o))
      (λ n. refl) k l (s.left_atoms k) (s.left_membranes k) (ch.rests k l)

  abbrev pub chosen_too : (copy : ℕ → Port) (copied : ℕ → List ℕ) → IsChosen from codes h inner code (with_copies copy copied)
  chosen_too copy copied = record {
    membrane = m;
    place = ch.place;
    number = ch.number;
    chosen = ch.chosen;
    is = ch.is;
    first = subst (λ z. IsFirstSuccess h z m head_registers) (sym head_is) first;
    rests = rests_too copy copied;
  }

  head_there : (j : ℕ) → j < 1 + K → IsMem h (images.membrane j)
  head_there zero l = subst (IsMem h) (sym least.embeds.lies.here) there
  head_there (suc j) l =
      let b = get_some (head_membranes (head_items u.rule u.plan)) j (omega (arith, l)) in
      mem_there h w.read.valid (images.membrane b.0.inside) (images.membrane (suc j)) (least.embeds.lies.membranes_placed (suc j) b.0 (j, refl, b.1))

  pub atoms_apart : (i j : ℕ) → N ≤ i → N ≤ j → images.atom i ≡ images.atom j → i ≡ j
  atoms_apart i j l k e = let a = raised_above N B s.head.images.atom i l in let b = raised_above N B s.head.images.atom j k in let d = sym a ∙ e ∙ b in omega (arith, d)

  pub mems_apart : (i j : ℕ) → K < i → K < j → images.membrane i ≡ images.membrane j → i ≡ j
  mems_apart i j l k e =
      let a = raised_above (1 + K) B s.head.images.membrane i (omega (arith, l)) in let b = raised_above (1 + K) B s.head.images.membrane j (omega (arith, k)) in let d = sym a ∙ e ∙ b in omega (arith, d)

  pub numbers_apart : (i j : ℕ) → number i ≡ number j → i ≡ j
  numbers_apart i j e = omega (arith, e)

  pub both_apart : (j i : ℕ) → N ≤ j → images.atom j ≢ number i
  both_apart j i l e = let a = raised_above N B s.head.images.atom j l in let d = sym a ∙ e in omega (arith, d)

  pub mems_both_apart : (j i : ℕ) → K < j → images.membrane j ≢ number i
  mems_both_apart j i l e = let a = raised_above (1 + K) B s.head.images.membrane j (omega (arith, l)) in let d = sym a ∙ e in omega (arith, d)

  abbrev room : ℕ → ℕ
  room x = length (named_rules (with_copies s.copy s.copied) (rules_in h) (rule_body_items u.rule u.plan) x)

  same_room : (copy : ℕ → Port) (copied : ℕ → List ℕ) (xs : List BodyItem) (x : ℕ) → named_rules (with_copies copy copied) (rules_in h) xs x ≡ named_rules (with_copies s.copy s.copied) (rules_in h) xs x
  same_room copy copied [] x = refl
  same_room copy copied (Atom functor links home ∷ xs) x = same_room copy copied xs x
  same_room copy copied (Connector left right ∷ xs) x = same_room copy copied xs x
  same_room copy copied (Copy part link home ∷ xs) x = same_room copy copied xs x
  same_room copy copied (Bound integer link home ∷ xs) x = same_room copy copied xs x
  same_room copy copied (Membrane home ∷ xs) x = same_room copy copied xs x
  same_room copy copied (Rest of closed home ∷ xs) x = same_room copy copied xs x
  same_room copy copied (Rule rule home ∷ xs) x = ap (λ zs. if_inside (with_copies s.copy s.copied) x home (rule ∷ []) ++ zs) (same_room copy copied xs x)
  same_room copy copied (Rules of home ∷ xs) x = ap (λ zs. if_inside (with_copies s.copy s.copied) x home (rules_in h (images.membrane of)) ++ zs) (same_room copy copied xs x)

  -- the part of a typed context can be copied
  can_copy : (g : ℕ) (t : HeadTyped) → HasTyped (head_items u.rule u.plan) g t → CanBeCopied h (images.part g)
  can_copy g t i =
      let v = w.read.valid in
      let part = least.embeds.lies.parts g t i in
      let p = (heads.head table u.rule u.plan u.whole.ready).held g t i in
      let root = images.part g in
      let back : link_of h root.0 root.1 ≡ Some (images.atom p.0.0, p.0.1) = v.sound.paired.back (images.atom p.0.0) p.0.1 root.0 root.1 (part.held p.0 p.1) in
      let port = port_within h root.0 root.1 _ back in
      record {
        atom = is_atom_at h root.0 root.1 port;
        port = port;
        whole = record { atoms = λ a k. tt; ends = λ a j k l d. v.full a j l };
        outside = λ b j k e. part.apart b k (p.0.0, get_below (atoms_of (head_items u.rule u.plan)) p.0.0 p.1.0 p.1.1, one_atom (images.atom p.0.0) b p.0.1 j (sym back ∙ e));
      }
    where
      one_atom : (a b i j : ℕ) → ◌≡◌ {A = Option Port} (Some (a, i)) (Some (b, j)) → a ≡ b
      one_atom a b i j e = (same_port e).0

  abbrev Made : List BodyItem → Type 0
  Made body = AreMade head_registers s.copy s.copied s.left_atoms s.left_membranes h w.read.valid.sound N K room number atoms_apart mems_apart numbers_apart both_apart mems_both_apart (rules_in h) N (1 + K) 0 body h

  pub made_all : Made (rule_body_items u.rule u.plan)
  made_all =
      let nested = nested_law table u.rule u.plan u.whole in
      let names = numbers_law h w.read.valid in
      all_made head_registers s.copy s.copied s.left_atoms s.left_membranes h w.read.valid.sound N K room number atoms_apart mems_apart numbers_apart both_apart mems_both_apart (rules_in h) (rule_body_items u.rule u.plan) N (1 + K) 0 0
      (λ e i. let t = nested.atoms.copied e i in can_copy e.1 t.0 t.1)
      (rests_closed h w.read.valid (head_items u.rule u.plan) (rule_body_items u.rule u.plan) (length u.rule.links) m s nested lies_first.embeds.lies (rests_held table plans codes c h r inner w from code s ch rests_law) names.0 names.1)
      nested.placed (omega arith) (omega arith) h
      (record {
        atoms = λ j l. ap h.atoms (raised_above N B s.head.images.atom j l) ∙ new_atom (j + j);
        numbers = λ j l. new_atom (j + j + 1);
        mem_numbers = λ j l. new_mem (j + j + 1);
        mems = λ j l. ap h.mems (raised_above (1 + K) B s.head.images.membrane j l) ∙ new_mem (j + j);
        there = head_there;
        all = tree_atoms h h.root inner;
        bounded = λ a i. atom_there h w.read.valid r inner w.tree a i;
        sound = w.read.valid.sound;
        old = λ a i. refl;
      })

  -- the registers of a run
  abbrev pub copies : ℕ → Port
  copies = copy_in made_all.made

  abbrev pub copied_atoms : ℕ → List ℕ
  copied_atoms = copied_in made_all.made

  -- a run of the body
  pub run_exists : (h' : Heap) × RunsBody (with_copies copies copied_atoms) code.body h h'
  run_exists =
      let head = head_items u.rule u.plan in
      let body = rule_body_items u.rule u.plan in
      let L = length u.rule.links in
      let nested = nested_law table u.rule u.plan u.whole in
      let made = made_all in
      let run_registers = with_copies copies copied_atoms in
      let make = making N (1 + K) 0 body in
      let drop = drops 1 (head_membranes head) in
      let links = links_code (class_of (connectors body)) (new_ports N 0 body) (old_ports head) (rising 0 L) in
      let prepared : Prepares run_registers (body_code head body L) h made.heap =
      prepares_join run_registers (removals head) (make ++ (drop ++ (links ++ (Proceed ∷ [])))) h h made.heap (quiet_removals run_registers h head)
      (prepares_join run_registers make (drop ++ (links ++ (Proceed ∷ []))) h made.heap made.heap (made.prepares copies copied_atoms (these_are made.made))
      (prepares_join run_registers drop (links ++ (Proceed ∷ [])) made.heap made.heap made.heap (quiet_drops run_registers made.heap 1 (head_membranes head))
      (prepares_join run_registers links (Proceed ∷ []) made.heap made.heap made.heap (quiet_links run_registers made.heap (class_of (connectors body)) (new_ports N 0 body) (old_ports head) (rising 0 L)) (made.heap, refl, refl)))) in
      let names = numbers_law h w.read.valid in
      let spares : (x : ℕ) → length (named_rules run_registers (rules_in h) body x) ≤ spare_of made.heap x = λ x.
      let same : length (named_rules run_registers (rules_in h) body x) ≡ room x = ap length (same_room copies copied_atoms body x) in
      elim (cases_eq (room x) 0) [
        | inl e ↦ omega (arith, e, same)
        | inr d ↦ (let q = made.enough x d in omega (arith, q, same))
      ] in
      let held : HoldsRests h run_registers head =
      rests_law table u.rule u.plan u.whole h w.read.valid m run_registers first (subst (λ z. HoldsRestsOf h z run_registers) head_is (rests_too copies copied_atoms)) in
      let can = can_run head body L nested run_registers h w.read.valid m least.embeds.lies held (mem_in_place h w.read.valid m there) names.0 names.1 made.heap prepared spares in
      let run = commits_exist run_registers (body_code head body L) made.heap made.all made.bounded can in
      (run.0, subst (λ z. RunsBody run_registers z h run.0) (sym body_is) (made.heap, prepared, run.1))

  -- the cost is the same by these registers
  pub same_cost : (k : ℕ) → Leaves h s code.body k → Leaves h (with_copies copies copied_atoms) code.body k
  same_cost k l =
      let nested = nested_law table u.rule u.plan u.whole in
      let run_registers = with_copies copies copied_atoms in
      subst (λ z. Leaves h run_registers z k) (sym body_is)
      (leaves_so h s run_registers (1 + K) (λ g. refl) (λ j q. raised_below (1 + K) B s.head.images.membrane j q) (λ j. refl) (λ j. refl) (rule_body_code u.rule u.plan) k
      (body_reads (head_items u.rule u.plan) (rule_body_items u.rule u.plan) (length u.rule.links) nested.placed) (subst (λ z. Leaves h s z k) body_is l))

-- what is chosen has a next region with as many items as its cost tells
pub costs_are_told : AcceptedHeads → AcceptedLeast → AcceptedNested → AcceptedSetsItems → RestsOfRule → BodyCanRun → LinksHaveNumbers → ChoicesAgree → CostsAreItems → CostsAreTold
costs_are_told heads least_law nested_law sets_law rests_law can_run numbers agree items table plans codes c h r inner w tab from code s ch k leaves =
    let copy = copies table plans codes c h r inner w from code s ch heads least_law nested_law sets_law rests_law can_run numbers in
    let copied = copied_atoms table plans codes c h r inner w from code s ch heads least_law nested_law sets_law rests_law can_run numbers in
    let too = chosen_too table plans codes c h r inner w from code s ch heads least_law nested_law sets_law rests_law can_run numbers copy copied in
    let run_registers = with_copies table plans codes c h r inner w from code s ch heads least_law nested_law sets_law rests_law can_run numbers copy copied in
    let run = run_exists table plans codes c h r inner w from code s ch heads least_law nested_law sets_law rests_law can_run numbers in
    let next = agree table plans codes c h r inner w tab from code run_registers too run.0 run.1 in
    let cost = same_cost table plans codes c h r inner w from code s ch heads least_law nested_law sets_law rests_law can_run numbers k leaves in (
      heap_region run.0 (renumbered_reading r next.number) next.forest,
      next.next,
      next.numbered,
      (items table plans codes c h r inner w from code run_registers too run.0 run.1 (renumbered_reading r next.number) next.forest next.again.read next.again.tree k).0 cost,
    )

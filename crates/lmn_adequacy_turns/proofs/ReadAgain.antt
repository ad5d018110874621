-- After a turn the heap is read again.
use Rattle.std.proofs.Common.{ℕ, ◌≡◌, ◌+◌, ◌<◌, ◌⊎◌, List, [], ◌∷◌, ◌++◌, length, Option, Some, None, IsSome, refl, sym, subst, ◌∙◌, inl, inr}
use Rattle.std.specs.Prelude.{Contains, All}
use Rattle.std.specs.List.{flat_map}
use Rattle.std.proofs.lemmas.List.Elements.{All-contains}
use Rattle.lmn_base.specs.declared.level.Leaf.{Leaf}
use Rattle.lmn_base.specs.declared.level.Leaf.TheVariants as leaf
use Rattle.lmn_base.specs.declared.rule.RuleTree.{RuleTree}
use Rattle.lmn_base.specs.Levels.{leaves_of, contexts_of, rule_contexts_of, rules_of}
use Rattle.lmn_base.specs.Names.{leaf_names, context_names, condition_names, level_names}
use Rattle.lmn_base.specs.WellMade.{FitsArity}
use Rattle.lmn_guards.specs.declared.plan.GuardPlan.{GuardPlan}
use Rattle.std.specs.Option.{option_map}
use Rattle.lmn_store_heap.specs.Heap.{Heap, HeapMem, top, within, Place, IsMem, mems_in, rules_in}
use Rattle.lmn_store_heap.specs.Sound.{Forest, bare, mem, IsTree, Valid}
use Rattle.lmn_solid_heads.specs.declared.items.HeadItem.{HeadItem}
use Rattle.lmn_solid_heads.specs.Heads.{membranes_of}
use Rattle.lmn_solid_heads.proofs.HeadTrees.{Head, head_at, head_leaves, same_leaves, head_rules, same_rules}
use Rattle.lmn_instr_code.specs.Running.{IsFirstSuccess}
use Rattle.lmn_compile_head.specs.Accepted.{AcceptedHeads, head_items, rule_head_code}
use Rattle.lmn_compile_head.specs.Heads.{IsHead}
use Rattle.lmn_compile_body.specs.Accepted.{AcceptedNested, IsCompilable, rule_body_names, rule_body_items, rule_body_code}
use Rattle.lmn_compile_body.proofs.BodyTrees.{flat_body, items_flat}
use Rattle.lmn_solid_bodies.specs.declared.items.BodyItem.{BodyItem}
use Rattle.lmn_solid_bodies.specs.Added.{made_mems}
use Rattle.lmn_congruence_splice.specs.Splice as splice
use Rattle.lmn_solid_bodies.specs.Fired.{images_of}
use Rattle.lmn_solid_bodies.specs.Flattening.{BodyNames}
use Rattle.lmn_solid_bodies.specs.Running.{Registers, RunsBody}
use Rattle.lmn_solid_bodies.specs.Rules.{NestedRule, closed_rests}
use Rattle.lmn_solid_bodies.specs.Within.{membrane_images, dropped_mems, removed_mems, FiresWithin, HoldsRests}
use Rattle.lmn_solid_bodies.proofs.Below.{removed_is}
use Rattle.lmn_solid_bodies.proofs.Held.{Held, held, rest_dropped}
use Rattle.lmn_adequacy_turns.specs.Accepted.{AcceptedFires, Fired}
use Rattle.lmn_adequacy_heaps.specs.HeapRegions.{HeapReading}
use Rattle.lmn_adequacy_heaps.specs.Premises.{IsRead, HasForest, IsRule}
use Rattle.lmn_adequacy_turns.proofs.RulesKept.{body_written, rules_kept}
use Rattle.lmn_adequacy_turns.specs.Turning.{TurnIsRead, renumbered_reading}
use Rattle.lmn_adequacy_turns.proofs.Adders.{at}
use Rattle.lmn_adequacy_turns.proofs.Leavings.{root_tree}
use Rattle.lmn_adequacy_turns.proofs.Made.{root_stays}
use Rattle.lmn_adequacy_turns.proofs.Namings.{names_of_naming, naming_of_names}
use Rattle.lmn_adequacy_turns.proofs.NamesKept.{LeavesNamed, body_named, names_known}
use Rattle.lmn_adequacy_turns.proofs.Places.{placing, placing_removed}
use Rattle.lmn_adequacy_turns.proofs.Turns.{Placing}
use Rattle.lmn_base.specs.Graphs.{Port}
use Rattle.lmn_store_heap.proofs.Common.{mem_stands}
use Rattle.lmn_base.specs.Lists.{In}
use Rattle.lmn_base.proofs.Lists.{all_of_left, all_of_right, in_either}

-- ---- names

leaves_named : (names : List (List ℕ)) (ls : List Leaf) → All (λ n. n < length names) (flat_map leaf_names ls) → LeavesNamed names ls
leaves_named names [] a = tt
leaves_named names (leaf.Atom f os p ∷ ls) a =
    (all_of_left (λ n. n < length names) (leaf_names (leaf.Atom f os p)) (flat_map leaf_names ls) a, leaves_named names ls (all_of_right (λ n. n < length names) (leaf_names (leaf.Atom f os p)) (flat_map leaf_names ls) a))
leaves_named names (leaf.Typed n o p ∷ ls) a = (tt, leaves_named names ls (all_of_right (λ n. n < length names) (n ∷ []) (flat_map leaf_names ls) a))

-- the root is there
pub root_mem : (h : Heap) → Valid h → IsMem h h.root
root_mem h v = by (h.mems h.root) ((v.sound.listed.root h.root).1 refl)
  where
    by : (o : Option HeapMem) → option_map (λ z. z.place) o ≡ Some top → IsSome o
    by None e = absurd (cc)
    by (Some z) e = refl

module _ (r : HeapReading) (rule : RuleTree) (is : IsRule r rule) where
  pub body_leaves_named : LeavesNamed r.names (head_leaves (head_at rule.body))
  body_leaves_named =
      let P : ℕ → Type 0 = λ n. n < length r.names in
      let body = all_of_right P (level_names rule.head ++ flat_map condition_names rule.guard) (level_names rule.body) is.known in
      let leaves = all_of_left P (flat_map leaf_names (leaves_of rule.body)) (context_names (contexts_of rule.body))
      (all_of_left P (flat_map leaf_names (leaves_of rule.body) ++ context_names (contexts_of rule.body)) (context_names (rule_contexts_of rule.body)) body) in
      subst (LeavesNamed r.names) (same_leaves rule.body) (leaves_named r.names (leaves_of rule.body) leaves)

  pub body_fits : (l : Leaf) → Contains (head_leaves (head_at rule.body)) l → FitsArity l
  body_fits l c = All-contains FitsArity (leaves_of rule.body) l (all_of_right FitsArity (leaves_of rule.head) (leaves_of rule.body) is.well_made.arities) (subst (λ ls. Contains ls l) (sym (same_leaves rule.body)) c)

-- ---- the turn

module _ (firing : AcceptedFires) (head_law : AcceptedHeads) (nested : AcceptedNested) (table : List RuleTree) (rule : RuleTree) (plan : GuardPlan) (whole : IsCompilable table rule plan)
    (h : Heap) (r : HeapReading) (read : IsRead h r) (is_rule : IsRule r rule)
    (m : ℕ) (mi : Forest) (there : IsMem h m) (forest : HasForest h m mi) (s : Registers) (first : IsFirstSuccess h (rule_head_code rule plan) m s.head) (rests : HoldsRests h s (head_items rule plan))
    (h' : Heap) (runs : RunsBody s (rule_body_code rule plan) h h') where
  abbrev items : List HeadItem
  items = head_items rule plan

  abbrev bn : BodyNames
  bn = rule_body_names rule plan

  abbrev hd : Head
  hd = head_at rule.body

  abbrev low : ℕ
  low = 1 + length (membranes_of (head_items rule plan))

  abbrev B : List BodyItem
  B = flat_body (rule_body_names rule plan) 0 (1 + length (membranes_of (head_items rule plan))) (head_at rule.body)

  abbrev c : Port → ℕ
  c p = r.name p.0 p.1

  pub body_is : rule_body_items rule plan ≡ B
  body_is = items_flat bn (length (membranes_of items)) rule.body

  pub fired : Fired rule plan h m s c h'
  fired = firing.fires table rule plan whole h m s c (record { valid = read.valid; placed = mem_stands h read.valid m there; first = first; named = names_of_naming h read.valid r.name read.naming; rests = rests }) h' runs

  abbrev taken : List ℕ
  taken = images_of s items ++ fired.parts

  pub flat_fires : FiresWithin h c s items B taken h'
  flat_fires = subst (λ b. FiresWithin h c s items b taken h') body_is fired.fires

  is_head : IsHead items
  is_head = head_law.head table rule plan whole.ready

  -- the items of the rule, and what is asked of the rests that it drops
  pub nested_flat : NestedRule items B (length rule.links)
  nested_flat = subst (λ b. NestedRule items b (length rule.links)) body_is (nested table rule plan whole)

  pub holds : Held h read.valid items B m s fired.parts
  holds = held h read.valid items B (length rule.links) m s nested_flat fired.least.embeds.lies (mem_stands h read.valid m there) rests fired.parts fired.are c (names_of_naming h read.valid r.name read.naming)

  -- the membranes of a rest that the body copies are dropped
  pub copied_dropped : (of : ℕ) → splice.IsOneOf of (closed_rests B) → (x : ℕ) → In x (s.left_membranes of) → In x (dropped_mems s items)
  copied_dropped = rest_dropped h read.valid items B (length rule.links) m s nested_flat fired.least.embeds.lies (mem_stands h read.valid m there) rests fired.parts fired.are c (names_of_naming h read.valid r.name read.naming)

  module _ (f : FiresWithin h (λ p. r.name p.0 p.1) s (head_items rule plan) (flat_body (rule_body_names rule plan) 0 (1 + length (membranes_of (head_items rule plan))) (head_at rule.body)) (images_of s (head_items rule plan) ++ fired.parts) h') where
    pub place : Placing h s (membrane_images s items) (made_mems s f.rests low B) taken m mi
    place = placing h read.valid items rule.guard m mi s fired.least.embeds nested_flat.head_nests is_head.inside there forest.forms forest.once fired.parts fired.are (made_mems s f.rests low B) f.made_fresh f.made_once

    -- the same of all membranes that the rule removes
    pub place_removed : Placing h s (removed_mems s items) (made_mems s f.rests low B) taken m mi
    place_removed =
        placing_removed h read.valid items rule.guard m mi s fired.least.embeds nested_flat.head_nests is_head.inside there forest.forms forest.once fired.parts fired.are B holds rests (made_mems s f.rests low B) place

    pub same_root : h'.root ≡ h.root
    same_root = root_stays s (rule_body_code rule plan) h h' runs

    root_not_removed : In h'.root (removed_mems s items) → ⊥
    root_not_removed i = elim (in_either h.root (membrane_images s items) (dropped_mems s items) (subst (λ z. In z (removed_mems s items)) same_root i)) [
      | inl j ↦ (let w = removed_is items s h.root j in
          clash (at s w.1.inside) (subst (λ z. In z (mems_in h (at s w.1.inside))) w.3 (fired.least.embeds.lies.membranes_placed w.0 w.1 w.2)))
      | inr j ↦ (let w = holds.dm_parent h.root j in clash w.0 w.1)
    ]
      where
        clash : (y : ℕ) → In h.root (mems_in h y) → ⊥
        clash y i = by (sym ((read.valid.sound.listed.root h.root).1 refl) ∙ (read.valid.sound.listed.mems y h.root).0 i)
          where
            by : ◌≡◌ {A = Option Place} (Some top) (Some (within y)) → ⊥
            by e = absurd (cc)

    pub read_again : IsRead h' (renumbered_reading r f.number)
    read_again = record {
      valid = fired.valid;
      naming = naming_of_names h' fired.valid f.number f.named;
      names = read.names;
      known = names_known h h' read.valid fired.valid c s items B m fired.parts holds f r.names read.known (body_named r.names bn 0 low hd (body_leaves_named r rule is_rule)) fired.valid.tree.0 fired.valid.tree.1 root_not_removed;
    }

    pub tree_again : (t : Forest) × IsTree h' (mem h'.root t bare)
    tree_again = let u = root_tree h' fired.valid.tree.0 fired.valid.tree.1 in (u.0, subst (IsTree h') u.1 fired.valid.tree.1)

    -- each rule of a membrane stood in one before, or stands in the body
    pub rules_again : (x k : ℕ) → In k (rules_in h' x) → ((y : ℕ) × In k (rules_in h y)) ⊎ Contains (rules_of rule.body) k
    rules_again x k i = elim (rules_kept h h' read.valid fired.valid c s items B m fired.parts holds f (Contains (head_rules hd)) (body_written (Contains (head_rules hd)) bn 0 low hd (λ k w. w)) fired.valid.tree.0 fired.valid.tree.1 root_not_removed x k i) [
      | inl w ↦ inl w
      | inr w ↦ inr (subst (λ ks. Contains ks k) (sym (same_rules rule.body)) w)
    ]

-- a heap is read again after a turn
pub turn_is_read : AcceptedFires → AcceptedHeads → AcceptedNested → TurnIsRead
turn_is_read firing head_law nested table rule plan whole h r read is_rule m mi there forest s first rests h' runs =
    let f = flat_fires firing head_law nested table rule plan whole h r read is_rule m mi there forest s first rests h' runs in
    let t = tree_again firing head_law nested table rule plan whole h r read is_rule m mi there forest s first rests h' runs f in
    record {
      number = f.number;
      read = read_again firing head_law nested table rule plan whole h r read is_rule m mi there forest s first rests h' runs f;
      forest = t.0;
      tree = t.1;
      rules = rules_again firing head_law nested table rule plan whole h r read is_rule m mi there forest s first rests h' runs f;
    }

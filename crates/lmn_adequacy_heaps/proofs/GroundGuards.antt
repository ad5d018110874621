-- Guards of rules.
use Rattle.std.proofs.Common.{ℕ, ◌≡◌, List, [], map, Option, Some, None, refl, sym, ap, subst, ◌∙◌, arith}
use Rattle.std.specs.Option.{option_map}
use Rattle.std.proofs.lemmas.Option.{same_Some}
use Rattle.lmn_base.specs.declared.rule.RuleTree.{RuleTree}
use Rattle.lmn_guards.specs.declared.plan.TypeKind.{TypeKind}
use Rattle.lmn_store_heap.specs.Heap.{Heap}
use Rattle.lmn_solid_heads.specs.Embeddings.{Images, meaning}
use Rattle.lmn_solid_heads.specs.Flattening.{items_of_head}
use Rattle.lmn_solid_heads.specs.Guards.{typed_number}
use Rattle.lmn_solid_heads.specs.Heads.{HeadTyped, typed_contexts_of}
use Rattle.lmn_congruence.specs.Orders.{Among}
use Rattle.lmn_congruence.specs.Rules as tree
use Rattle.lmn_congruence.specs.Translation.{rule_tree, name_of}
use Rattle.lmn_reduction.specs.Assignments.{Assignment}
use Rattle.lmn_reduction.specs.Firing.{typed_contexts}
use Rattle.lmn_adequacy_heaps.specs.HeapRegions.{HeapReading}
use Rattle.lmn_adequacy_heaps.specs.Premises.{IsRead, IsRule}
use Rattle.lmn_adequacy_heaps.specs.Parts.{IsGroundPart, TakesParts}
use Rattle.lmn_adequacy_heaps.specs.Laws.{GuardsAlike}
use Rattle.lmn_adequacy_heaps.proofs.TypeConditions.{number_is, has_number, among_named, among_of}
use Rattle.lmn_adequacy_heaps.proofs.KindConditions.{heads_are, typed_known, guard_known, same_number}
use Rattle.lmn_adequacy_heaps.proofs.WholeGuards.{Parts, guard_into, guard_back}
use Rattle.lmn_adequacy_heaps.proofs.OnePart.{unary_parts_alike, integer_parts_alike}
use Rattle.lmn_adequacy_heaps.proofs.PartLaws.{equal_parts_alike}
use Rattle.lmn_base.specs.Graphs.{Port}

module _ (h : Heap) (r : HeapReading) (read : IsRead h r) (kind : ℕ → TypeKind) (rule : RuleTree) (is_rule : IsRule r rule) (f : Images) (t : Assignment) (takes : TakesParts h r kind rule f t.typed_of) where
  abbrev contexts : List HeadTyped
  contexts = typed_contexts_of (items_of_head kind rule.head)

  -- the part of a name
  record PartOf (x : ℕ) (p : Port) : Type 0 where
    home : ℕ
    part : List ℕ
    ground : IsGroundPart h r home p part (t.typed_of (name_of r.names x))
    among : Among (name_of r.names x) (map (λ u. name_of r.names u.name) contexts)

  part_of_name : (x : ℕ) (p : Port) → (meaning (items_of_head kind rule.head) f).part_of x ≡ Some p → PartOf x p
  part_of_name x p q = by (typed_number contexts 0 x) refl q
    where
      by : (o : Option ℕ) → typed_number contexts 0 x ≡ o → option_map f.part o ≡ Some p → PartOf x p
      by None k q = absurd (cc)
      by (Some n) k q =
          let w = number_is contexts 0 x n k in
          let z : w.0 ≡ n = omega (arith, w.4) in
          let s : f.part w.0 ≡ p = ap f.part z ∙ same_Some (f.part n) p q in
          let g = takes w.0 w.1 w.2 in
          record {
            home = f.membrane w.1.inside;
            part = g.0;
            ground = subst (λ p. IsGroundPart h r (f.membrane w.1.inside) p g.0 (t.typed_of (name_of r.names x))) s
                (subst (λ y. IsGroundPart h r (f.membrane w.1.inside) (f.part w.0) g.0 (t.typed_of (name_of r.names y))) w.3 g.1);
            among = subst (λ y. Among (name_of r.names y) (map (λ u. name_of r.names u.name) contexts)) w.3 (among_of r.names contexts w.0 w.1 w.2);
          }

  pub ground_parts : Parts h read.valid r.names read.names read.known (typed_contexts (tree.head_of (rule_tree r.names r.rule rule))) t (meaning (items_of_head kind rule.head) f).part_of
  ground_parts = record {
    stands = λ x p q. let w = part_of_name x p q in record {
      integer = λ z. integer_parts_alike h r w.home p w.part (t.typed_of (name_of r.names x)) z read w.ground;
      unary = unary_parts_alike h r w.home p w.part (t.typed_of (name_of r.names x)) read w.ground;
      ground = w.ground.ground;
    };
    graphs = λ x y p q ex ey. let a = part_of_name x p ex in let b = part_of_name y q ey in
        equal_parts_alike h r a.home b.home p q a.part b.part (t.typed_of (name_of r.names x)) (t.typed_of (name_of r.names y)) read a.ground b.ground;
    among = λ x p q. subst (Among (name_of r.names x)) (heads_are r kind rule is_rule) (part_of_name x p q).among;
    found = λ x kx a.
        let w = among_named r.names contexts (name_of r.names x) (subst (Among (name_of r.names x)) (sym (heads_are r kind rule is_rule)) a) in
        let n = same_number r.names w.1.name x read.names (typed_known r kind rule is_rule w.0 w.1 w.2) kx w.3 in
        let k = has_number contexts 0 x w.0 w.1 w.2 n in
        (f.part k.0, ap (option_map f.part) k.1);
  }

-- a guard holds on the heap exactly where it does in the calculus
pub guards_alike : GuardsAlike
guards_alike h r kind rule f t read is_rule takes =
    let heads = typed_contexts (tree.head_of (rule_tree r.names r.rule rule)) in
    let s = meaning (items_of_head kind rule.head) f in
    let parts = ground_parts h r read kind rule is_rule f t takes in
    let known = guard_known r kind rule is_rule in (
      (λ w b. guard_into h read.valid r.names read.names read.known heads t rule.guard s parts (λ x n q. absurd (cc)) known b w),
      (λ w. guard_back h read.valid r.names read.names read.known heads t rule.guard s [] parts (λ x n q. absurd (cc)) (λ x kx k. elim k [ ]) known is_rule.accepted.in_turn w),
    )

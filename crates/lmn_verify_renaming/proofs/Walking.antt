-- Walks over parts of which the atoms have other numbers.
use Rattle.std.proofs.Common.{◌≡◌, ◌∙◌, ◌+◌, ◌==◌, ◌&&◌, ℕ, zero, suc, Bool, true, false, if◌then◌else◌, List, [], ◌∷◌, ◌++◌, Option, Some, None, map, refl, sym, ap, subst}
use Rattle.std.specs.Option.{option_and_then, option_map}
use Rattle.std.proofs.lemmas.Option.{same_Some}
use Rattle.lmn_base.specs.Lists.{In}
use Rattle.lmn_base.proofs.Lists.{map_append}
use Rattle.lmn_store_heap.specs.Heap.{Heap, arity_of, link_of}
use Rattle.lmn_ground_parts.specs.Walks.{IsPartInDepth, Walk, ends, finds, is_port, kept, neighbour, net, passes, port_range}
use Rattle.lmn_ground_parts.proofs.WalkLaws.{determined}
use Rattle.lmn_verify_renaming.specs.Renamed.{Numbering, Renaming, SameButRoom, renamed, renamed_port}
use Rattle.lmn_verify_renaming.proofs.Numbers.{in_back, in_there, kept_test}
use Rattle.lmn_verify_renaming.proofs.FiringReading.{arity_is, link_is}

range_there : (f : ℕ → ℕ) (a i n : ℕ) → map (renamed_port f) (port_range a i n) ≡ port_range (f a) i n
range_there f a i zero = refl
range_there f a i (suc n) = ap (λ ps. (f a, i) ∷ ps) (range_there f a (i + 1) n)

ports_append : (f : ℕ → ℕ) (ps qs : List (ℕ × ℕ)) → map (renamed_port f) (ps ++ qs) ≡ map (renamed_port f) ps ++ map (renamed_port f) qs
ports_append f ps qs = map_append (renamed_port f) ps qs

module _ (n : Numbering) (arity arity' : ℕ → ℕ) (to to' : ℕ × ℕ → Option ℕ) (arities : (a : ℕ) → arity' (n.to a) ≡ arity a) (goes : (p : ℕ × ℕ) → to' (renamed_port n.to p) ≡ option_map n.to (to p)) where
  -- where a port with the other number leads
  leads : (p : ℕ × ℕ) (b : ℕ) → to' (renamed_port n.to p) ≡ Some b → (c : ℕ) × (to p ≡ Some c) × (n.to c ≡ b)
  leads p b e = by (to p) refl (sym (goes p) ∙ e)
    where
      by : (o : Option ℕ) → to p ≡ o → option_map n.to o ≡ Some b → (c : ℕ) × (to p ≡ Some c) × (n.to c ≡ b)
      by None f g = absurd (cc g)
      by (Some c) f g = (c, f, same_Some (n.to c) b g)

  walk_there : {seen all : List ℕ} {ps : List (ℕ × ℕ)} → Walk arity to seen ps all → Walk arity' to' (map n.to seen) (map (renamed_port n.to) ps) (map n.to all)
  walk_there ends = ends
  walk_there (passes {seen = seen} {p = p} h w) = passes (λ b e. (let l = leads p b e in subst (λ z. In z (map n.to seen)) l.2 (in_there n l.0 seen (h l.0 l.1)))) (walk_there w)
  walk_there (finds {seen = seen} {all = all} {ps = ps} {p = p} {b = b} e d w) =
      let same_seen : map n.to (seen ++ b ∷ []) ≡ map n.to seen ++ n.to b ∷ [] = map_append n.to seen (b ∷ []) in
      let same_ports : map (renamed_port n.to) (port_range b 0 (arity b) ++ ps) ≡ port_range (n.to b) 0 (arity' (n.to b)) ++ map (renamed_port n.to) ps =
      ports_append n.to (port_range b 0 (arity b)) ps ∙ ap (λ qs. qs ++ map (renamed_port n.to) ps) (range_there n.to b 0 (arity b) ∙ ap (port_range (n.to b) 0) (sym (arities b))) in
      finds (goes p ∙ ap (option_map n.to) e) (λ i. d (subst (λ z. In z seen) (n.there b) (in_back n (n.to b) seen i)))
      (subst (λ qs. Walk arity' to' (map n.to seen ++ n.to b ∷ []) qs (map n.to all)) same_ports (subst (λ xs. Walk arity' to' xs (map (renamed_port n.to) (port_range b 0 (arity b) ++ ps)) (map n.to all)) same_seen (walk_there w)))

module _ (p : Renaming) (h k : Heap) (alike : SameButRoom (renamed p h) k) where
  abbrev A : ℕ → ℕ
  A = p.atoms.to

  neighbour_there : (root q : ℕ × ℕ) → neighbour (net k) (renamed_port A root) (λ _. true) (renamed_port A q) ≡ option_map A (neighbour (net h) root (λ _. true) q)
  neighbour_there root q =
      let test : is_port (renamed_port A q) (renamed_port A root) ≡ is_port q root = λ i. sym (kept_test p.atoms q.0 root.0) i && (q.1 == root.1) in
      (λ i. if test i then None else option_and_then (kept (λ _. true)) (link_is p h k alike q.0 q.1 i)) ∙ by (is_port q root) (link_of h q.0 q.1)
    where
      by : (t : Bool) (o : Option (ℕ × ℕ)) → (if t then None else option_and_then (kept (λ _. true)) (option_map (renamed_port A) o)) ≡ option_map A (if t then None else option_and_then (kept (λ _. true)) o)
      by true o = refl
      by false None = refl
      by false (Some r) = refl

  -- the atoms of a part, in the order of a walk
  pub part_there : (root : ℕ × ℕ) (all : List ℕ) → IsPartInDepth h root all → IsPartInDepth k (renamed_port A root) (map A all)
  part_there root all w =
      let start : map (renamed_port A) (port_range root.0 0 (arity_of h root.0)) ≡ port_range (A root.0) 0 (arity_of k (A root.0)) =
      range_there A root.0 0 (arity_of h root.0) ∙ ap (port_range (A root.0) 0) (sym (arity_is p h k alike root.0)) in
      subst (λ qs. Walk (arity_of k) (neighbour (net k) (renamed_port A root) (λ _. true)) (A root.0 ∷ []) qs (map A all)) start
      (walk_there p.atoms (arity_of h) (arity_of k) (neighbour (net h) root (λ _. true)) (neighbour (net k) (renamed_port A root) (λ _. true)) (arity_is p h k alike) (neighbour_there root) w)

  pub one_part : (root : ℕ × ℕ) (all all' : List ℕ) → IsPartInDepth h root all → IsPartInDepth k (renamed_port A root) all' → all' ≡ map A all
  one_part root all all' w v = determined (arity_of k) (neighbour (net k) (renamed_port A root) (λ _. true)) v (part_there root all w)

-- What the instructions of a body add and take, part by part.
use Rattle.std.proofs.Common.{ℕ, ◌+◌, ◌≡◌, ◌==◌, Bool, true, false, cond, List, [], ◌∷◌, ◌++◌, map, length, refl, sym, ap, subst, ◌∙◌, inl, inr, arith, length-append}
use Rattle.std.specs.Prelude.{if◌then◌else◌, sum}
use Rattle.std.proofs.lemmas.List.{length-map}
use Rattle.lmn_store_heap.specs.Heap.{Heap, rules_in}
use Rattle.lmn_congruence_splice.specs.Splice as splice
use Rattle.lmn_congruence_splice.specs.Classes.{ends_of_class}
use Rattle.lmn_instr_code.specs.declared.instr.AtomPort.{AtomPort}
use Rattle.lmn_instr_code.specs.declared.instr.NewPort.{NewPort}
use Rattle.lmn_instr_code.specs.declared.instr.Instr.{Instr}
use Rattle.lmn_instr_code.specs.declared.instr.Instr.TheVariants.{RemoveAtom, RemovePart, RemoveMem, DropCells}
use Rattle.lmn_ground_parts.specs.Copies.{answer}
use Rattle.lmn_ground_parts.proofs.AnswerLaws.{answer_in, answer_on, answer_here}
use Rattle.lmn_solid_heads.specs.Heads.{HeadMembrane}
use Rattle.lmn_solid_bodies.specs.declared.items.BodyItem.{BodyItem}
use Rattle.lmn_solid_bodies.specs.declared.items.BodyItem.TheVariants.{Atom, Connector, Copy, Bound, Membrane, Rest, Rule, Rules}
use Rattle.lmn_solid_bodies.specs.Code.{making, drops, link_code, links_code}
use Rattle.lmn_solid_bodies.specs.Made.{copies_of}
use Rattle.lmn_solid_bodies.specs.Running.{Registers}
use Rattle.lmn_solid_bodies.specs.Added.{if_inside, added_atoms, added_rules, source_mems, moved_mems, made_mems}
use Rattle.lmn_solid_bodies.specs.RestCopies.{RestCopies, later, rest_membranes, copied_atom, copied_into, given, AreAsLong}
use Rattle.lmn_solid_bodies.specs.Rules.{Goes, closed_rests}
use Rattle.lmn_solid_bodies.specs.Within.{left_of_closed}
use Rattle.lmn_solid_bodies.proofs.AddedLemmas.{long_enough}
use Rattle.lmn_solid_bodies.proofs.MakingParts.{moved_source}
use Rattle.lmn_machine.specs.Costs.{IsSize, AddsItems, TakesItems, InAll}
use Rattle.lmn_machine_laws.proofs.Totals.{total_is_sum, total_same, total_plus, total_none, total_ones}
use Rattle.lmn_store_heap.specs.Lists.{Distinct}
use Rattle.lmn_store_heap.proofs.ListLemmas.{each_in, each_of, in_left, in_right}
use Rattle.std.proofs.lemmas.Bool.{eq-eqb}
use Rattle.lmn_base.proofs.Lists.{weigh as total, weigh_append}
use Rattle.lmn_base.proofs.Numbers.{not_equal as apart_test}
use Rattle.lmn_base.specs.Lists.{In}

-- one part and then another
pub both_sums : (P : Instr → ℕ → Type 0) (xs ys : List Instr) (m n : ℕ) → InAll P xs m → InAll P ys n → InAll P (xs ++ ys) (m + n)
both_sums P [] ys m n s t = let e : n ≡ m + n = omega (arith, s) in subst (λ k. InAll P ys k) e t
both_sums P (x ∷ xs) ys m n (a, b, (p, s, e)) t = (a, b + n, (p, both_sums P xs ys b n s t, omega (arith, e)))

-- one instruction more adds its own
pub one_more : (P : Instr → ℕ → Type 0) (x : Instr) (xs : List Instr) (a n : ℕ) → P x a → InAll P xs n → InAll P (x ∷ xs) (a + n)
one_more P x xs a n p s = (a, n, (p, s, refl))

none_more : (P : Instr → ℕ → Type 0) (x : Instr) (xs : List Instr) (n : ℕ) → P x 0 → InAll P xs n → InAll P (x ∷ xs) n
none_more P x xs n p s = (0, n, (p, s, omega arith))

module _ (h : Heap) (r : Registers) where
  -- removals

  pub atoms_taken : (ns : List ℕ) → InAll (TakesItems h r) (map RemoveAtom ns) (length ns)
  atoms_taken [] = refl
  atoms_taken (n ∷ ns) = (1, length ns, (refl, atoms_taken ns, omega arith))

  pub mems_taken : (ks : List ℕ) → InAll (TakesItems h r) (map RemoveMem ks) (total (λ k. 1 + length (rules_in h (r.head.images.membrane k))) ks)
  mems_taken [] = refl
  mems_taken (k ∷ ks) = one_more (TakesItems h r) (RemoveMem k) (map RemoveMem ks) (1 + length (rules_in h (r.head.images.membrane k))) (total (λ k. 1 + length (rules_in h (r.head.images.membrane k))) ks) refl (mems_taken ks)

  pub atoms_add : (ns : List ℕ) → InAll (AddsItems h r) (map RemoveAtom ns) 0
  atoms_add [] = refl
  atoms_add (n ∷ ns) = none_more (AddsItems h r) (RemoveAtom n) (map RemoveAtom ns) 0 refl (atoms_add ns)

  pub parts_add : (ns : List ℕ) → InAll (AddsItems h r) (map RemovePart ns) 0
  parts_add [] = refl
  parts_add (n ∷ ns) = none_more (AddsItems h r) (RemovePart n) (map RemovePart ns) 0 refl (parts_add ns)

  pub mems_add : (ns : List ℕ) → InAll (AddsItems h r) (map RemoveMem ns) 0
  mems_add [] = refl
  mems_add (n ∷ ns) = none_more (AddsItems h r) (RemoveMem n) (map RemoveMem ns) 0 refl (mems_add ns)

  -- ties

  tie_adds : (ps : List NewPort) (hs : List AtomPort) → InAll (AddsItems h r) (link_code ps hs) 0
  tie_adds [] [] = refl
  tie_adds [] (a ∷ []) = refl
  tie_adds [] (a ∷ b ∷ []) = (0, 0, (refl, refl, refl))
  tie_adds [] (a ∷ b ∷ c ∷ hs) = refl
  tie_adds (p ∷ []) [] = refl
  tie_adds (p ∷ []) (a ∷ []) = (0, 0, (refl, refl, refl))
  tie_adds (p ∷ []) (a ∷ b ∷ hs) = refl
  tie_adds (p ∷ q ∷ []) [] = (0, 0, (refl, refl, refl))
  tie_adds (p ∷ q ∷ []) (a ∷ hs) = refl
  tie_adds (p ∷ q ∷ s ∷ ps) hs = refl

  tie_takes : (ps : List NewPort) (hs : List AtomPort) → InAll (TakesItems h r) (link_code ps hs) 0
  tie_takes [] [] = refl
  tie_takes [] (a ∷ []) = refl
  tie_takes [] (a ∷ b ∷ []) = (0, 0, (refl, refl, refl))
  tie_takes [] (a ∷ b ∷ c ∷ hs) = refl
  tie_takes (p ∷ []) [] = refl
  tie_takes (p ∷ []) (a ∷ []) = (0, 0, (refl, refl, refl))
  tie_takes (p ∷ []) (a ∷ b ∷ hs) = refl
  tie_takes (p ∷ q ∷ []) [] = (0, 0, (refl, refl, refl))
  tie_takes (p ∷ q ∷ []) (a ∷ hs) = refl
  tie_takes (p ∷ q ∷ s ∷ ps) hs = refl

  pub ties_add : (m : ℕ → ℕ) (news : List (NewPort × ℕ)) (olds : List (AtomPort × ℕ)) (zs : List ℕ) → InAll (AddsItems h r) (links_code m news olds zs) 0
  ties_add m news olds [] = refl
  ties_add m news olds (z ∷ zs) = both_sums (AddsItems h r) (link_code (ends_of_class m z news) (ends_of_class m z olds)) (links_code m news olds zs) 0 0 (tie_adds (ends_of_class m z news) (ends_of_class m z olds)) (ties_add m news olds zs)

  pub ties_take : (m : ℕ → ℕ) (news : List (NewPort × ℕ)) (olds : List (AtomPort × ℕ)) (zs : List ℕ) → InAll (TakesItems h r) (links_code m news olds zs) 0
  ties_take m news olds [] = refl
  ties_take m news olds (z ∷ zs) = both_sums (TakesItems h r) (link_code (ends_of_class m z news) (ends_of_class m z olds)) (links_code m news olds zs) 0 0 (tie_takes (ends_of_class m z news) (ends_of_class m z olds)) (ties_take m news olds zs)

  pub making_takes : (a m c : ℕ) (body : List BodyItem) → InAll (TakesItems h r) (making a m c body) 0
  making_takes a m c [] = refl
  making_takes a m c (Atom functor links inside ∷ xs) = (0, 0, (refl, making_takes (a + 1) m c xs, refl))
  making_takes a m c (Connector left right ∷ xs) = making_takes a m c xs
  making_takes a m c (Copy part link inside ∷ xs) = (0, 0, (refl, making_takes a m (c + 1) xs, refl))
  making_takes a m c (Bound integer link inside ∷ xs) = (0, 0, (refl, making_takes (a + 1) m c xs, refl))
  making_takes a m c (Membrane inside ∷ xs) = (0, 0, (refl, making_takes a (m + 1) c xs, refl))
  making_takes a m c (Rest of false inside ∷ xs) = (0, 0, (refl, making_takes a m c xs, refl))
  making_takes a m c (Rest of true inside ∷ xs) = (0, 0, (refl, making_takes a m c xs, refl))
  making_takes a m c (Rule rule inside ∷ xs) = (0, 0, (refl, making_takes a m c xs, refl))
  making_takes a m c (Rules of inside ∷ xs) = (0, 0, (refl, making_takes a m c xs, refl))

  -- what is dropped

  pub drops_add : (k : ℕ) (bs : List HeadMembrane) → InAll (AddsItems h r) (drops k bs) 0
  drops_add k [] = refl
  drops_add k (b ∷ bs) = by b.has_closed_context (drops_add (k + 1) bs)
    where
      by : (c : Bool) → InAll (AddsItems h r) (drops (k + 1) bs) 0 → InAll (AddsItems h r) (cond c (DropCells k ∷ []) [] ++ drops (k + 1) bs) 0
      by false w = w
      by true w = none_more (AddsItems h r) (DropCells k) (drops (k + 1) bs) 0 refl w

  abbrev mem_items : ℕ → ℕ
  mem_items k = 1 + length (rules_in h k)

  pub drops_take : (k : ℕ) (bs : List HeadMembrane) → InAll (TakesItems h r) (drops k bs) (length (left_of_closed r.left_atoms k bs) + total (λ x. 1 + length (rules_in h x)) (left_of_closed r.left_membranes k bs))
  drops_take k [] = refl
  drops_take k (b ∷ bs) = by b.has_closed_context (drops_take (k + 1) bs)
    where
      by : (c : Bool) → InAll (TakesItems h r) (drops (k + 1) bs) (length (left_of_closed r.left_atoms (k + 1) bs) + total mem_items (left_of_closed r.left_membranes (k + 1) bs))
          → InAll (TakesItems h r) (cond c (DropCells k ∷ []) [] ++ drops (k + 1) bs)
          (length (cond c (r.left_atoms k) [] ++ left_of_closed r.left_atoms (k + 1) bs) + total mem_items (cond c (r.left_membranes k) [] ++ left_of_closed r.left_membranes (k + 1) bs))
      by false w = w
      by true w =
          let atoms = left_of_closed r.left_atoms (k + 1) bs in
          let mems = left_of_closed r.left_membranes (k + 1) bs in
          let long = length-append (r.left_atoms k) atoms in
          let weight = weigh_append mem_items (r.left_membranes k) mems in
          let same = total_is_sum mem_items (r.left_membranes k) in
          let e : (length (r.left_atoms k) + sum (map mem_items (r.left_membranes k))) + (length atoms + total mem_items mems) ≡ length (r.left_atoms k ++ atoms) + total mem_items (r.left_membranes k ++ mems) =
          sums (length (r.left_atoms k)) (sum (map mem_items (r.left_membranes k))) (length atoms) (total mem_items mems) (length (r.left_atoms k ++ atoms)) (total mem_items (r.left_membranes k ++ mems)) (total mem_items (r.left_membranes k)) long weight same in
          subst (λ n. InAll (TakesItems h r) (DropCells k ∷ drops (k + 1) bs) n) e
          (one_more (TakesItems h r) (DropCells k) (drops (k + 1) bs) (length (r.left_atoms k) + sum (map mem_items (r.left_membranes k))) (length atoms + total mem_items mems) refl w)
        where
          sums : (a s b t ab st u : ℕ) → ab ≡ a + b → st ≡ u + t → s ≡ u → (a + s) + (b + t) ≡ ab + st
          sums a s b t ab st u e f g = omega arith

-- What goes to one of some different membranes is counted once.
counted_once : (y : ℕ) (ns : List ℕ) (at : List ℕ) → Distinct at → In y at → total (λ x. length (if y == x then ns else [])) at ≡ length ns
counted_once y ns [] d i = absurd i
counted_once y ns (x ∷ xs) d (inl e) =
    let here : length (if y == x then ns else []) ≡ length ns = rw (eq-eqb y x (sym e)) refl in
    let rest = total_none (λ z. length (if y == z then ns else [])) xs (λ z i. rw (apart_test y z (λ q. each_in (λ u. x ≡ u → ⊥) xs z d.0 i (e ∙ q))) refl) in
    omega arith
counted_once y ns (x ∷ xs) d (inr i) =
    let here : length (if y == x then ns else []) ≡ 0 = rw (apart_test y x (λ q. each_in (λ u. x ≡ u → ⊥) xs y d.0 i (sym q))) refl in
    let rest = counted_once y ns xs d.1 i in
    omega arith

-- What is given to membranes of a list is counted once.
given_total : (list : ℕ → List ℕ) (to : ℕ → ℕ) (ks : List ℕ) (at : List ℕ) → Distinct at → ((k : ℕ) → In k ks → In (to k) at) → total (λ x. length (given list to ks x)) at ≡ total (λ k. length (list k)) ks
given_total list to [] at d into = total_none (λ x. length (given list to [] x)) at (λ x i. refl)
given_total list to (k ∷ ks) at d into =
    total_same (λ x. length (given list to (k ∷ ks) x)) (λ x. length (if to k == x then list k else []) + length (given list to ks x)) at (λ x i. length-append (if to k == x then list k else []) (given list to ks x))
    ∙ total_plus (λ x. length (if to k == x then list k else [])) (λ x. length (given list to ks x)) at
    ∙ (λ t. counted_once (to k) (list k) at d (into k (inl refl)) t + given_total list to ks at d (λ z i. into z (inr i)) t)

-- What is left in the membranes of a rest is as many atoms as the rest has.
pub record IsAllLeft (r : Registers) (left : ℕ → List ℕ) (of : ℕ) : Type 0 where
  pub total : total (λ x. length (left x)) (rest_membranes r of) ≡ length (r.left_atoms of)
  pub outside : In (r.head.images.membrane of) (r.left_membranes of) → ⊥

-- What a body adds to the membranes of a list: its instructions tell the sum, without what is left of the membranes that
-- move.
module _ (h : Heap) (r : Registers) (left : ℕ → List ℕ) (ks : List ℕ) (E : ℕ → Type 0) (at : List ℕ) (once : Distinct at)
    (inside : (x : ℕ) → (In x ks → ⊥) × E x → In x at) where
  abbrev Sum : RestCopies → ℕ → ℕ → ℕ → List BodyItem → Type 0
  Sum q a m c body = (n : ℕ) × InAll (AddsItems h r) (making a m c body) n
      × (total (λ x. length (added_atoms r q left a c body x)) at + length (made_mems r q m body) + total (λ x. length (added_rules r q (rules_in h) body x)) at
      ≡ n + total (λ x. length (left x)) (moved_mems r body))

  -- something is added, and then the rest
  first_added : (first rest : ℕ → List ℕ) → total (λ x. length (first x ++ rest x)) at ≡ total (λ x. length (first x)) at + total (λ x. length (rest x)) at
  first_added first rest =
      total_same (λ x. length (first x ++ rest x)) (λ x. length (first x) + length (rest x)) at (λ x i. length-append (first x) (rest x))
      ∙ total_plus (λ x. length (first x)) (λ x. length (rest x)) at

  -- something is added to one membrane
  atoms_first : (inner : ℕ) (ns : List ℕ) (rest : ℕ → List ℕ) → (In (r.head.images.membrane inner) ks → ⊥) × E (r.head.images.membrane inner)
      → total (λ x. length (if_inside r x inner ns ++ rest x)) at ≡ length ns + total (λ x. length (rest x)) at
  atoms_first inner ns rest w =
      first_added (λ x. if_inside r x inner ns) rest
      ∙ ap (λ k. k + total (λ x. length (rest x)) at) (counted_once (r.head.images.membrane inner) ns at once (inside (r.head.images.membrane inner) w))

  -- what a copy of a rest adds, by its parts
  copy_sum : (atoms mems items rules more made more_rules first first_rules all_atoms all_made all_rules left_size n moved : ℕ)
      → all_atoms ≡ first + more → first ≡ left_size → left_size ≡ atoms → all_made ≡ mems + made → all_rules ≡ first_rules + more_rules → first_rules ≡ rules → items ≡ mems + rules → more + made + more_rules ≡ n + moved
      → all_atoms + all_made + all_rules ≡ ((atoms + items) + n) + moved
  copy_sum atoms mems items rules more made more_rules first first_rules all_atoms all_made all_rules left_size n moved e1 e2 e3 e4 e5 e6 e7 e8 = omega arith

  pub making_adds : (q : RestCopies) (a m c : ℕ) (body : List BodyItem) → Goes r ks E body → AreAsLong r q body → ((of : ℕ) → splice.IsOneOf of (closed_rests body) → IsAllLeft r left of) → ((x : ℕ) → In x (made_mems r q m body) → In x at)
      → ((e : ℕ × ℕ) → splice.IsOneOf e (copies_of c body) → IsSize h (r.head.images.part e.1) (length (r.copied e.0))) → Sum q a m c body
  making_adds q a m c [] g long whole made sizes = (
    0,
    refl,
    let x = total_none (λ x. 0) at (λ x i. refl) in omega arith,
  )
  making_adds q a m c (Atom functor links inner ∷ xs) g long whole made sizes =
      let on = making_adds q (a + 1) m c xs g.1 long whole made sizes in
      let f = atoms_first inner (r.head.images.atom a ∷ []) (added_atoms r q left (a + 1) c xs) g.0 in
      let e = on.2 in
      (1 + on.0, (1, on.0, (refl, on.1, refl)), omega arith)
  making_adds q a m c (Connector l l' ∷ xs) g long whole made sizes = making_adds q a m c xs g long whole made sizes
  making_adds q a m c (Copy part link inner ∷ xs) g long whole made sizes =
      let on = making_adds q a m (c + 1) xs g.1 long whole made (λ e i. sizes e (inr i)) in
      let f = atoms_first inner (r.copied c) (added_atoms r q left a (c + 1) xs) g.0 in
      let e = on.2 in
      (length (r.copied c) + on.0, (length (r.copied c), on.0, (sizes (c, part) (inl refl), on.1, refl)), omega arith)
  making_adds q a m c (Bound integer link inner ∷ xs) g long whole made sizes =
      let on = making_adds q (a + 1) m c xs g.1 long whole made sizes in
      let f = atoms_first inner (r.head.images.atom a ∷ []) (added_atoms r q left (a + 1) c xs) g.0 in
      let e = on.2 in
      (1 + on.0, (1, on.0, (refl, on.1, refl)), omega arith)
  making_adds q a m c (Membrane inner ∷ xs) g long whole made sizes =
      let on = making_adds q a (m + 1) c xs g.1 long whole (λ x i. made x (inr i)) sizes in
      let e = on.2 in
      (1 + on.0, (1, on.0, (refl, on.1, refl)), omega arith)
  making_adds q a m c (Rest of false inner ∷ xs) g long whole made sizes =
      let on = making_adds q a m c xs g.4 long whole made sizes in
      let f = atoms_first inner (left (r.head.images.membrane of)) (added_atoms r q left a c xs) g.3 in
      let e = on.2 in
      (on.0, (0, on.0, (refl, on.1, omega arith)), omega arith)
  making_adds q a m c (Rest of true inner ∷ xs) g long whole made sizes =
      let p = q 0 in
      let on = making_adds (later q) a m c xs g.2 long.1 (λ o i. whole o (inr i)) (λ x i. made x (in_right x p.membranes (made_mems r (later q) m xs) i)) sizes in
      let atoms = r.left_atoms of in
      let mems = r.left_membranes of in
      let list : ℕ → List ℕ = λ k. map (copied_atom r of p) (left k) in
      let to = copied_into r of inner p in
      let items : ℕ → ℕ = λ k. 1 + length (rules_in h k) in
      let rules : ℕ → ℕ = λ k. length (rules_in h k) in
      let size = length atoms + sum (map items mems) in (
        size + on.0,
        (size, on.0, (refl, on.1, refl)),
        copy_sum (length atoms) (length mems) (sum (map items mems)) (total rules mems) (total (λ x. length (added_atoms r (later q) left a c xs x)) at) (length (made_mems r (later q) m xs)) (total (λ x. length (added_rules r (later q) (rules_in h) xs x)) at)
            (total (λ x. length (given list to (rest_membranes r of) x)) at) (total (λ x. length (given (rules_in h) to mems x)) at)
            (total (λ x. length (given list to (rest_membranes r of) x ++ added_atoms r (later q) left a c xs x)) at) (length (p.membranes ++ made_mems r (later q) m xs))
            (total (λ x. length (given (rules_in h) to mems x ++ added_rules r (later q) (rules_in h) xs x)) at) (total (λ k. length (left k)) (rest_membranes r of)) on.0 (total (λ x. length (left x)) (moved_mems r xs))
            (first_added (given list to (rest_membranes r of)) (added_atoms r (later q) left a c xs))
            (given_total list to (rest_membranes r of) at once target ∙ total_same (λ k. length (list k)) (λ k. length (left k)) (rest_membranes r of) (λ k i. length-map (left k) (copied_atom r of p)))
            (whole of (inl refl)).total
            (length-append p.membranes (made_mems r (later q) m xs) ∙ ap (λ k. k + length (made_mems r (later q) m xs)) long.0.1)
            (first_added (given (rules_in h) to mems) (added_rules r (later q) (rules_in h) xs))
            (given_total (rules_in h) to mems at once (λ k i. target k (inr i)))
            (total_is_sum items mems ∙ total_plus (λ k. 1) rules mems ∙ ap (λ k. k + total rules mems) (total_ones mems))
            on.2,
      )
    where
      target : (k : ℕ) → In k (rest_membranes r of) → In (copied_into r of inner (q 0) k) at
      target k (inl e) = subst (λ z. In z at) (sym (answer_here (r.head.images.membrane of) (r.head.images.membrane inner) (r.left_membranes of) (q 0).membranes k e)) (inside (r.head.images.membrane inner) g.1)
      target k (inr j) =
          let d : r.head.images.membrane of ≡ k → ⊥ = λ e. (whole of (inl refl)).outside (subst (λ z. In z (r.left_membranes of)) (sym e) j) in
          let y = answer (r.left_membranes of) (q 0).membranes k in
          subst (λ z. In z at) (sym (answer_on (r.head.images.membrane of) (r.head.images.membrane inner) (r.left_membranes of) (q 0).membranes k d))
          (made y (in_left y (q 0).membranes (made_mems r (later q) m xs) (answer_in (r.left_membranes of) (q 0).membranes k (long_enough long.0.1) j)))
  making_adds q a m c (Rule rule inner ∷ xs) g long whole made sizes =
      let on = making_adds q a m c xs g.1 long whole made sizes in
      let f = atoms_first inner (rule ∷ []) (added_rules r q (rules_in h) xs) g.0 in
      let e = on.2 in
      (1 + on.0, (1, on.0, (refl, on.1, refl)), omega arith)
  making_adds q a m c (Rules of inner ∷ xs) g long whole made sizes =
      let on = making_adds q a m c xs g.2 long whole made sizes in
      let f = atoms_first inner (rules_in h (r.head.images.membrane of)) (added_rules r q (rules_in h) xs) g.1 in
      let e = on.2 in
      (length (rules_in h (r.head.images.membrane of)) + on.0, (length (rules_in h (r.head.images.membrane of)), on.0, (refl, on.1, refl)), omega arith)

-- the membranes that move are different
pub moved_once : (r : Registers) (ks : List ℕ) (E : ℕ → Type 0) (body : List BodyItem) → Goes r ks E body → Distinct (moved_mems r body)
moved_once r ks E [] g = tt
moved_once r ks E (Atom functor links inside ∷ xs) g = moved_once r ks E xs g.1
moved_once r ks E (Connector left right ∷ xs) g = moved_once r ks E xs g
moved_once r ks E (Copy part link inside ∷ xs) g = moved_once r ks E xs g.1
moved_once r ks E (Bound integer link inside ∷ xs) g = moved_once r ks E xs g.1
moved_once r ks E (Membrane inside ∷ xs) g = moved_once r ks E xs g.1
moved_once r ks E (Rest of false inside ∷ xs) g = (each_of _ (moved_mems r xs) (λ z i e. g.2 (subst (λ u. In u (source_mems r xs)) (sym e) (moved_source r xs z i))), moved_once r ks E xs g.4)
moved_once r ks E (Rest of true inside ∷ xs) g = moved_once r ks E xs g.2
moved_once r ks E (Rule rule inside ∷ xs) g = moved_once r ks E xs g.1
moved_once r ks E (Rules of inside ∷ xs) g = moved_once r ks E xs g.2

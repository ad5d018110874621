-- Each membrane that the code of a rule takes out is empty then.
use Rattle.std.proofs.Common.{◌≡◌, ◌≢◌, ◌<◌, ◌+◌, ◌⊎◌, ◌==◌, ◌&&◌, ◌||◌, not, ℕ, zero, suc, Bool, true, false, if◌then◌else◌, List, [], ◌∷◌, ◌++◌, length, map, inl, inr, refl, sym, ap, ◌∙◌, subst, arith, true≢false}
use Rattle.std.specs.Prelude.{Option, Some, None, slice_get, count_by}
use Rattle.std.specs.List.{list_all, list_any}
use Rattle.std.proofs.lemmas.Bool.{eq-eqb}
use Rattle.std.proofs.lemmas.List.Folds.{list_all-append}
use Rattle.std.proofs.lemmas.Option.{same_Some}
use Rattle.lmn_base.proofs.Numbers.{equal_itself, not_equal, same_or_not}
use Rattle.lmn_base.specs.Graphs.{Port}
use Rattle.lmn_base.specs.declared.guard.Cond.{Cond}
use Rattle.lmn_solid_heads.specs.declared.items.HeadItem.{HeadItem}
use Rattle.lmn_solid_heads.specs.Heads.{HeadAtom, HeadTyped, HeadMembrane, atoms_of, typed_contexts_of, membranes_of, at_atoms, times}
use Rattle.lmn_solid_heads.specs.Guards.{typed_number}
use Rattle.lmn_solid_heads.specs.Embeddings.{HasMembrane}
use Rattle.lmn_congruence_splice.specs.Classes.{class_of, ends_of_class, rising}
use Rattle.lmn_congruence_splice.specs.Splice.{IsOneOf, NoneTwice}
use Rattle.lmn_instr_code.specs.declared.instr.AtomPort.{AtomPort}
use Rattle.lmn_instr_code.specs.declared.instr.NewPort.{NewPort}
use Rattle.lmn_instr_code.specs.declared.instr.Code.{Code}
use Rattle.lmn_instr_code.specs.declared.instr.Instr.{Instr}
use Rattle.lmn_instr_code.specs.declared.instr.Instr.TheVariants.{RemoveAtom, RemovePart, RemoveMem, NAtoms, NMems, NoRules, IsClosed, MoveCells, CopyCells, DropCells, Commit, Proceed}
use Rattle.lmn_instr_code.specs.HeadCode.{Entry, operand, find_port, found_code, number_inside, parts_inside, items_code, parts_code, filled_code, all_filled_code, guard_code, head_code}
use Rattle.lmn_solid_bodies.specs.declared.items.BodyItem.{BodyItem}
use Rattle.lmn_solid_bodies.specs.declared.items.BodyItem.TheVariants.{Atom, Connector, Copy, Bound, Membrane, Rest, Rule, Rules}
use Rattle.lmn_solid_bodies.specs.Code.{removals, making, drops, link_code, links_code, body_code}
use Rattle.lmn_solid_bodies.specs.Items.{new_ports, old_ports, connectors}
use Rattle.lmn_solid_bodies.specs.Rules.{NestedRule, WellPlaced, rests, closed_rests}
use Rattle.lmn_verify_code.specs.declared.found.FoundPart.{FoundPart}
use Rattle.lmn_verify_code.specs.declared.found.FoundAtom.{FoundAtom}
use Rattle.lmn_verify_code.specs.declared.found.FoundMembrane.{FoundMembrane}
use Rattle.lmn_verify_code.specs.Verified.{membranes_found, names_parts, counts_atoms, counts_membranes, is_counted, finds_closed, is_closed, is_count_of, asks_closed, moves, copies_rest, drops_rest, nothing_left, rest_moved, rest_dropped, is_emptied}
use Rattle.lmn_verify_compiled.proofs.HeadShapes.{is_check, looks_at_part, is_of_guard, parts, guards, all_items}
use Rattle.lmn_verify_compiled.proofs.BodyShapes.{makes_none, removed, dropped, tied}
use Rattle.lmn_verify_compiled.proofs.Finding.{numbered, all_numbered, found_atom, found_membrane, found_part, found_parts, head_finds, head_enters, head_looks}
use Rattle.lmn_verify_compiled.proofs.Apart.{any_front, any_back}
use Rattle.lmn_verify_compiled.proofs.Counting.{counted, counted_is, counted_append}
use Rattle.lmn_adequacy_choices.proofs.Common.{never_there as not_in}

-- ---- counts

-- where none passes there is none
any_none : {P : Type 0} (t : P → Bool) (xs : List P) → counted t xs ≡ 0 → list_any t xs ≡ false
any_none t [] e = refl
any_none t (x ∷ xs) e = by (t x) refl (any_none t xs)
  where
    by : (b : Bool) → t x ≡ b → (counted t xs ≡ 0 → list_any t xs ≡ false) → list_any t (x ∷ xs) ≡ false
    by true s later = let one : ◌≡◌ {A = ℕ} (if t x then 1 else 0) 1 = ap (λ b. if b then 1 else 0) s in absurd (omega (arith, e, one))
    by false s later = let zero' : ◌≡◌ {A = ℕ} (if t x then 1 else 0) 0 = ap (λ b. if b then 1 else 0) s in ap (λ b. b || list_any t xs) s ∙ later (omega (arith, e, zero'))

none_passes : {P : Type 0} (t : P → Bool) (xs : List P) → counted t xs ≡ 0 → not (list_any t xs) ≡ true
none_passes t xs e = ap not (any_none t xs e)

one_passes : {P : Type 0} (t : P → Bool) (xs : List P) → counted t xs ≡ 1 → (count_by t xs == 1) ≡ true
one_passes t xs e = eq-eqb (count_by t xs) 1 (sym (counted_is t xs) ∙ e)

both_none : (t : Instr → Bool) (xs ys : List Instr) → counted t xs ≡ 0 → counted t ys ≡ 0 → counted t (xs ++ ys) ≡ 0
both_none t xs ys h g = let e = counted_append t xs ys in omega (arith, e, h, g)

once_in_list : (x : ℕ) (ys : List ℕ) → NoneTwice ys → IsOneOf x ys → times x ys ≡ 1
once_in_list x [] d i = absurd i
once_in_list x (y ∷ ys) d (inl e) =
    let here : ◌≡◌ {A = ℕ} (if y == x then 1 else 0) 1 = ap (λ b. if b then 1 else 0) (eq-eqb y x e) in
    let rest = not_in x ys (λ i. d.0 (subst (λ z. IsOneOf z ys) (sym e) i)) in
    omega (arith, here, rest)
once_in_list x (y ∷ ys) d (inr i) =
    let here : ◌≡◌ {A = ℕ} (if y == x then 1 else 0) 0 = ap (λ b. if b then 1 else 0) (not_equal y x (λ e. d.0 (subst (λ z. IsOneOf z ys) (sym e) i))) in
    let rest = once_in_list x ys d.1 i in
    omega (arith, here, rest)

-- ---- a body

-- of what stands round what a body makes none passes
around : (t : Instr → Bool) → ((i : Instr) → makes_none i ≡ true → counted t (i ∷ []) ≡ 0) → (head : List HeadItem) (body : List BodyItem) (n : ℕ)
    → counted t (body_code head body n) ≡ counted t (making (length (atoms_of head)) (1 + length (membranes_of head)) 0 body)
around t one head body n =
    let a = length (atoms_of head) in
    let b = 1 + length (membranes_of head) in
    let Q : List Instr → Type 0 = λ xs. counted t xs ≡ 0 in
    let ds = drops 1 (membranes_of head) in
    let ls = links_code (class_of (connectors body)) (new_ports a 0 body) (old_ports head) (rising 0 n) in
    let e1 = removed Q refl (both_none t) one head in
    let e3 = dropped Q refl (both_none t) one 1 (membranes_of head) in
    let e4 = tied Q refl (both_none t) one (class_of (connectors body)) (new_ports a 0 body) (old_ports head) (rising 0 n) in
    let e5 = one Proceed refl in
    let s1 = counted_append t (removals head) (making a b 0 body ++ (ds ++ (ls ++ (Proceed ∷ [])))) in
    let s2 = counted_append t (making a b 0 body) (ds ++ (ls ++ (Proceed ∷ []))) in
    let s3 = counted_append t ds (ls ++ (Proceed ∷ [])) in
    let s4 = counted_append t ls (Proceed ∷ []) in
    omega (arith, e1, e3, e4, e5, s1, s2, s3, s4)

module _ (m : ℕ) where
  no_move : (i : Instr) → makes_none i ≡ true → counted (moves m) (i ∷ []) ≡ 0
  no_move (MoveCells _ _) h = absurd (true≢false (sym h))
  no_move _ h = refl

  no_copy : (i : Instr) → makes_none i ≡ true → counted (copies_rest m) (i ∷ []) ≡ 0
  no_copy (CopyCells _ _) h = absurd (true≢false (sym h))
  no_copy _ h = refl

  making_moves : (a k c : ℕ) (body : List BodyItem) → counted (moves m) (making a k c body) ≡ times m (rests body)
  making_moves a k c [] = refl
  making_moves a k c (Atom functor links inside ∷ xs) = let e = making_moves (a + 1) k c xs in omega (arith, e)
  making_moves a k c (Connector left right ∷ xs) = making_moves a k c xs
  making_moves a k c (Copy part link inside ∷ xs) = let e = making_moves a k (c + 1) xs in omega (arith, e)
  making_moves a k c (Bound integer link inside ∷ xs) = let e = making_moves (a + 1) k c xs in omega (arith, e)
  making_moves a k c (Membrane inside ∷ xs) = let e = making_moves a (k + 1) c xs in omega (arith, e)
  making_moves a k c (Rest of true inside ∷ xs) = let e = making_moves a k c xs in omega (arith, e)
  making_moves a k c (Rest of false inside ∷ xs) = let e = making_moves a k c xs in omega (arith, e)
  making_moves a k c (Rule rule inside ∷ xs) = let e = making_moves a k c xs in omega (arith, e)
  making_moves a k c (Rules of inside ∷ xs) = let e = making_moves a k c xs in omega (arith, e)

  making_copies : (a k c : ℕ) (body : List BodyItem) → counted (copies_rest m) (making a k c body) ≡ times m (closed_rests body)
  making_copies a k c [] = refl
  making_copies a k c (Atom functor links inside ∷ xs) = let e = making_copies (a + 1) k c xs in omega (arith, e)
  making_copies a k c (Connector left right ∷ xs) = making_copies a k c xs
  making_copies a k c (Copy part link inside ∷ xs) = let e = making_copies a k (c + 1) xs in omega (arith, e)
  making_copies a k c (Bound integer link inside ∷ xs) = let e = making_copies (a + 1) k c xs in omega (arith, e)
  making_copies a k c (Membrane inside ∷ xs) = let e = making_copies a (k + 1) c xs in omega (arith, e)
  making_copies a k c (Rest of true inside ∷ xs) = let e = making_copies a k c xs in omega (arith, e)
  making_copies a k c (Rest of false inside ∷ xs) = let e = making_copies a k c xs in omega (arith, e)
  making_copies a k c (Rule rule inside ∷ xs) = let e = making_copies a k c xs in omega (arith, e)
  making_copies a k c (Rules of inside ∷ xs) = let e = making_copies a k c xs in omega (arith, e)

  abbrev dropped_count : List Instr → ℕ
  dropped_count xs = counted (drops_rest m) xs

  making_drops : (a k c : ℕ) (body : List BodyItem) → dropped_count (making a k c body) ≡ 0
  making_drops a k c [] = refl
  making_drops a k c (Atom functor links inside ∷ xs) = let e = making_drops (a + 1) k c xs in omega (arith, e)
  making_drops a k c (Connector left right ∷ xs) = making_drops a k c xs
  making_drops a k c (Copy part link inside ∷ xs) = let e = making_drops a k (c + 1) xs in omega (arith, e)
  making_drops a k c (Bound integer link inside ∷ xs) = let e = making_drops (a + 1) k c xs in omega (arith, e)
  making_drops a k c (Membrane inside ∷ xs) = let e = making_drops a (k + 1) c xs in omega (arith, e)
  making_drops a k c (Rest of true inside ∷ xs) = let e = making_drops a k c xs in omega (arith, e)
  making_drops a k c (Rest of false inside ∷ xs) = let e = making_drops a k c xs in omega (arith, e)
  making_drops a k c (Rule rule inside ∷ xs) = let e = making_drops a k c xs in omega (arith, e)
  making_drops a k c (Rules of inside ∷ xs) = let e = making_drops a k c xs in omega (arith, e)

  each_none : (f : ℕ → Instr) → ((k : ℕ) → drops_rest m (f k) ≡ false) → (ks : List ℕ) → dropped_count (map f ks) ≡ 0
  each_none f h [] = refl
  each_none f h (k ∷ ks) =
      let here : ◌≡◌ {A = ℕ} (if drops_rest m (f k) then 1 else 0) 0 = ap (λ b. if b then 1 else 0) (h k) in
      let rest = each_none f h ks in
      omega (arith, here, rest)

  tie_drops : (ps : List NewPort) (hs : List AtomPort) → dropped_count (link_code ps hs) ≡ 0
  tie_drops [] [] = refl
  tie_drops [] (x ∷ []) = refl
  tie_drops [] (x ∷ y ∷ []) = refl
  tie_drops [] (x ∷ y ∷ z ∷ hs) = refl
  tie_drops (x ∷ []) [] = refl
  tie_drops (x ∷ []) (y ∷ []) = refl
  tie_drops (x ∷ []) (y ∷ z ∷ hs) = refl
  tie_drops (x ∷ y ∷ []) [] = refl
  tie_drops (x ∷ y ∷ []) (z ∷ hs) = refl
  tie_drops (x ∷ y ∷ z ∷ ps) hs = refl

  ties_drops : (c : ℕ → ℕ) (news : List (NewPort × ℕ)) (olds : List (AtomPort × ℕ)) (zs : List ℕ) → dropped_count (links_code c news olds zs) ≡ 0
  ties_drops c news olds [] = refl
  ties_drops c news olds (z ∷ zs) = both_none (drops_rest m) (link_code (ends_of_class c z news) (ends_of_class c z olds)) (links_code c news olds zs) (tie_drops (ends_of_class c z news) (ends_of_class c z olds)) (ties_drops c news olds zs)

  drop_one : (b : Bool) (k : ℕ) → dropped_count (if b then DropCells k ∷ [] else []) ≡ (if b then (if k == m then 1 else 0) else 0)
  drop_one true k = plus (if k == m then 1 else 0)
    where
      plus : (x : ℕ) → x + 0 ≡ x
      plus x = omega arith
  drop_one false k = refl

  if_same : (b : Bool) → ◌≡◌ {A = ℕ} (if b then 0 else 0) 0
  if_same true = refl
  if_same false = refl

  drops_past : (k : ℕ) (bs : List HeadMembrane) → m < k → dropped_count (drops k bs) ≡ 0
  drops_past k [] l = refl
  drops_past k (b ∷ bs) l =
      both_none (drops_rest m) (if b.has_closed_context then DropCells k ∷ [] else []) (drops (k + 1) bs)
      (drop_one b.has_closed_context k ∙ ap (λ c. if b.has_closed_context then (if c then 1 else 0) else 0) (not_equal k m (λ e. absurd (omega (arith, l, e)))) ∙ if_same b.has_closed_context)
      (drops_past (k + 1) bs (omega (arith, l)))

  drops_at : (k : ℕ) (bs : List HeadMembrane) (j : ℕ) (b : HeadMembrane) → slice_get bs j ≡ Some b → m ≡ k + j → dropped_count (drops k bs) ≡ (if b.has_closed_context then 1 else 0)
  drops_at k [] j b e q = absurd (cc)
  drops_at k (c ∷ bs) zero b e q =
      let same : c ≡ b = same_Some c b e in
      let here : k ≡ m = omega (arith, q) in
      let all = counted_append (drops_rest m) (if c.has_closed_context then DropCells k ∷ [] else []) (drops (k + 1) bs) in
      let first = drop_one c.has_closed_context k ∙ ap (λ t. if c.has_closed_context then (if t then 1 else 0) else 0) (eq-eqb k m here) ∙ ap (λ (d : HeadMembrane). if d.has_closed_context then 1 else 0) same in
      let rest = drops_past (k + 1) bs (omega (arith, here)) in
      omega (arith, all, first, rest)
  drops_at k (c ∷ bs) (suc j) b e q =
      let all = counted_append (drops_rest m) (if c.has_closed_context then DropCells k ∷ [] else []) (drops (k + 1) bs) in
      let first = drop_one c.has_closed_context k ∙ ap (λ t. if c.has_closed_context then (if t then 1 else 0) else 0) (not_equal k m (λ s. absurd (omega (arith, q, s)))) ∙ if_same c.has_closed_context in
      let rest = drops_at (k + 1) bs j b e (omega (arith, q)) in
      omega (arith, all, first, rest)

  body_drops : (head : List HeadItem) (body : List BodyItem) (n j : ℕ) (b : HeadMembrane) → slice_get (membranes_of head) j ≡ Some b → m ≡ 1 + j → dropped_count (body_code head body n) ≡ (if b.has_closed_context then 1 else 0)
  body_drops head body n j b e q =
      let t = drops_rest m in
      let a = length (atoms_of head) in
      let k = 1 + length (membranes_of head) in
      let ds = drops 1 (membranes_of head) in
      let ls = links_code (class_of (connectors body)) (new_ports a 0 body) (old_ports head) (rising 0 n) in
      let as' = map RemoveAtom (rising 0 (length (atoms_of head))) in
      let gs = map RemovePart (rising 0 (length (typed_contexts_of head))) in
      let ms = map RemoveMem (rising 1 (length (membranes_of head))) in
      let e1 = both_none t as' (gs ++ ms) (each_none RemoveAtom (λ k. refl) (rising 0 (length (atoms_of head))))
      (both_none t gs ms (each_none RemovePart (λ k. refl) (rising 0 (length (typed_contexts_of head)))) (each_none RemoveMem (λ k. refl) (rising 1 (length (membranes_of head))))) in
      let e2 = making_drops a k 0 body in
      let e3 = drops_at 1 (membranes_of head) j b e q in
      let e4 = ties_drops (class_of (connectors body)) (new_ports a 0 body) (old_ports head) (rising 0 n) in
      let s1 = counted_append t (removals head) (making a k 0 body ++ (ds ++ (ls ++ (Proceed ∷ [])))) in
      let s2 = counted_append t (making a k 0 body) (ds ++ (ls ++ (Proceed ∷ []))) in
      let s3 = counted_append t ds (ls ++ (Proceed ∷ [])) in
      let s4 = counted_append t ls (Proceed ∷ []) in
      omega (arith, e1, e2, e3, e4, s1, s2, s3, s4)

  rests_apart : (n k : ℕ) (body : List BodyItem) → WellPlaced n k body → NoneTwice (rests body)
  rests_apart n k [] p = tt
  rests_apart n k (Atom functor links inside ∷ xs) p = rests_apart n k xs p.1
  rests_apart n k (Connector left right ∷ xs) p = rests_apart n k xs p
  rests_apart n k (Copy part link inside ∷ xs) p = rests_apart n k xs p.1
  rests_apart n k (Bound integer link inside ∷ xs) p = rests_apart n k xs p.1
  rests_apart n k (Membrane inside ∷ xs) p = rests_apart n (k + 1) xs p.1
  rests_apart n k (Rest of true inside ∷ xs) p = rests_apart n k xs p.2
  rests_apart n k (Rest of false inside ∷ xs) p = (p.1, rests_apart n k xs p.3)
  rests_apart n k (Rule rule inside ∷ xs) p = rests_apart n k xs p.1
  rests_apart n k (Rules of inside ∷ xs) p = rests_apart n k xs p.2

  -- ---- a head

  found_no_count : (n : ℕ) (a : HeadAtom) (e : Option Entry) → counted (is_count_of m) (found_code n a e) ≡ 0
  found_no_count n a None = refl
  found_no_count n a (Some e) = refl

  check_no_count : (i : Instr) → is_check i ≡ true → counted (is_count_of m) (i ∷ []) ≡ 0
  check_no_count (NAtoms _ _ _) h = absurd (true≢false (sym h))
  check_no_count (NMems _ _) h = absurd (true≢false (sym h))
  check_no_count _ h = refl

  part_no_count : (i : Instr) → looks_at_part i ≡ true → counted (is_count_of m) (i ∷ []) ≡ 0
  part_no_count (NAtoms _ _ _) h = absurd (true≢false (sym h))
  part_no_count (NMems _ _) h = absurd (true≢false (sym h))
  part_no_count _ h = refl

  guard_no_count : (i : Instr) → is_of_guard i ≡ true → counted (is_count_of m) (i ∷ []) ≡ 0
  guard_no_count (NAtoms _ _ _) h = absurd (true≢false (sym h))
  guard_no_count (NMems _ _) h = absurd (true≢false (sym h))
  guard_no_count _ h = refl

  found_not_closed : (n : ℕ) (a : HeadAtom) (e : Option Entry) → counted (asks_closed m) (found_code n a e) ≡ 0
  found_not_closed n a None = refl
  found_not_closed n a (Some e) = refl

  check_not_closed : (i : Instr) → is_check i ≡ true → counted (asks_closed m) (i ∷ []) ≡ 0
  check_not_closed (IsClosed _ _) h = absurd (true≢false (sym h))
  check_not_closed _ h = refl

  part_not_closed : (i : Instr) → looks_at_part i ≡ true → counted (asks_closed m) (i ∷ []) ≡ 0
  part_not_closed (IsClosed _ _) h = absurd (true≢false (sym h))
  part_not_closed _ h = refl

  guard_not_closed : (i : Instr) → is_of_guard i ≡ true → counted (asks_closed m) (i ∷ []) ≡ 0
  guard_not_closed (IsClosed _ _) h = absurd (true≢false (sym h))
  guard_not_closed _ h = refl

-- where none passes in what else there is, none passes where none does of what is asked of membranes
head_none : (t : Instr → Bool) → ((n : ℕ) (a : HeadAtom) (e : Option Entry) → counted t (found_code n a e) ≡ 0) → ((i : Instr) → is_check i ≡ true → counted t (i ∷ []) ≡ 0)
    → ((i : Instr) → looks_at_part i ≡ true → counted t (i ∷ []) ≡ 0) → ((i : Instr) → is_of_guard i ≡ true → counted t (i ∷ []) ≡ 0) → counted t (Commit ∷ []) ≡ 0
    → (items : List HeadItem) (guard : List Cond) → counted t (all_filled_code items 1 (membranes_of items)) ≡ 0 → counted t (head_code items guard) ≡ 0
head_none t found check part guarded last items guard filled =
    let Q : List Instr → Type 0 = λ xs. counted t xs ≡ 0 in
    let ps = parts_code items 0 (typed_contexts_of items) in
    let fs = all_filled_code items 1 (membranes_of items) in
    let gs = guard_code (typed_number (typed_contexts_of items) 0) (λ x. 0) 0 guard in
    both_none t (items_code items 0 0 items) (ps ++ (fs ++ (gs ++ (Commit ∷ [])))) (all_items Q refl (both_none t) found check items 0 0 items)
    (both_none t ps (fs ++ (gs ++ (Commit ∷ []))) (parts Q refl (both_none t) part items 0 (typed_contexts_of items))
    (both_none t fs (gs ++ (Commit ∷ [])) filled
    (both_none t gs (Commit ∷ []) (guards Q refl (both_none t) guarded (typed_number (typed_contexts_of items) 0) (λ x. 0) 0 guard) last)))

-- what is asked of a membrane passes in the whole
head_any : (t : Instr → Bool) (items : List HeadItem) (guard : List Cond) → list_any t (all_filled_code items 1 (membranes_of items)) ≡ true → list_any t (head_code items guard) ≡ true
head_any t items guard h =
    let ps = parts_code items 0 (typed_contexts_of items) in
    let fs = all_filled_code items 1 (membranes_of items) in
    let gs = guard_code (typed_number (typed_contexts_of items) 0) (λ x. 0) 0 guard in
    any_back t (items_code items 0 0 items) (ps ++ (fs ++ (gs ++ (Commit ∷ [])))) (any_back t ps (fs ++ (gs ++ (Commit ∷ []))) (any_front t fs (gs ++ (Commit ∷ [])) h))

module _ (items : List HeadItem) where
  all_none : (t : Instr → Bool) (k : ℕ) (bs : List HeadMembrane) → ((j : ℕ) (b : HeadMembrane) → slice_get bs j ≡ Some b → counted t (filled_code items (k + j) b) ≡ 0) → counted t (all_filled_code items k bs) ≡ 0
  all_none t k [] h = refl
  all_none t k (b ∷ bs) h =
      let start : k + 0 ≡ k = omega arith in
      both_none t (filled_code items k b) (all_filled_code items (k + 1) bs) (subst (λ i. counted t (filled_code items i b) ≡ 0) start (h 0 b refl))
      (all_none t (k + 1) bs (λ j c e. let next : k + suc j ≡ (k + 1) + j = omega arith in subst (λ i. counted t (filled_code items i c) ≡ 0) next (h (suc j) c e)))

  any_filled : (t : Instr → Bool) (k : ℕ) (bs : List HeadMembrane) (j : ℕ) (b : HeadMembrane) → slice_get bs j ≡ Some b → list_any t (filled_code items (k + j) b) ≡ true → list_any t (all_filled_code items k bs) ≡ true
  any_filled t k [] j b e h = absurd (cc)
  any_filled t k (c ∷ bs) zero b e h =
      let start : k + 0 ≡ k = omega arith in
      let same : b ≡ c = sym (same_Some c b e) in
      any_front t (filled_code items k c) (all_filled_code items (k + 1) bs) (subst (λ d. list_any t (filled_code items k d) ≡ true) same (subst (λ i. list_any t (filled_code items i b) ≡ true) start h))
  any_filled t k (c ∷ bs) (suc j) b e h =
      let next : k + suc j ≡ (k + 1) + j = omega arith in
      any_back t (filled_code items k c) (all_filled_code items (k + 1) bs) (any_filled t (k + 1) bs j b e (subst (λ i. list_any t (filled_code items i b) ≡ true) next h))

  -- a membrane with a context isn't counted, and no membrane but that with the number
  not_counted : (m k : ℕ) (b : HeadMembrane) → (b.has_context ≡ true) ⊎ (k ≢ m) → counted (is_count_of m) (filled_code items k b) ≡ 0
  not_counted m k b w = by b.has_context b.has_rule_context b.has_closed_context w
    where
      two : (c : Bool) → c ≡ false → ◌≡◌ {A = ℕ} ((if c then 1 else 0) + ((if c then 1 else 0) + 0)) 0
      two true e = absurd (true≢false e)
      two false e = refl

      by : (c r d : Bool) → (c ≡ true) ⊎ (k ≢ m) → counted (is_count_of m) ((if c then [] else NAtoms k (number_inside (λ a. a.inside) k (atoms_of items)) (parts_inside k 0 (typed_contexts_of items)) ∷ (NMems k (number_inside (λ b. b.inside) k (membranes_of items)) ∷ []))
          ++ ((if r then [] else NoRules k ∷ []) ++ (if d then IsClosed k (parts_inside k 0 (typed_contexts_of items)) ∷ [] else []))) ≡ 0
      by true true true w = refl
      by true true false w = refl
      by true false true w = refl
      by true false false w = refl
      by false r d (inl e) = absurd (true≢false (sym e))
      by false true true (inr n) = two (k == m) (not_equal k m n)
      by false true false (inr n) = two (k == m) (not_equal k m n)
      by false false true (inr n) = two (k == m) (not_equal k m n)
      by false false false (inr n) = two (k == m) (not_equal k m n)

  -- and one without a closed one isn't asked about
  not_asked : (m k : ℕ) (b : HeadMembrane) → (b.has_closed_context ≡ false) ⊎ (k ≢ m) → counted (asks_closed m) (filled_code items k b) ≡ 0
  not_asked m k b w = by b.has_context b.has_rule_context b.has_closed_context w
    where
      one : (c : Bool) → c ≡ false → ◌≡◌ {A = ℕ} ((if c then 1 else 0) + 0) 0
      one true e = absurd (true≢false e)
      one false e = refl

      more : (x : ℕ) → x ≡ 0 → 0 + x ≡ 0
      more x e = omega (arith, e)

      by : (c r d : Bool) → (d ≡ false) ⊎ (k ≢ m) → counted (asks_closed m) ((if c then [] else NAtoms k (number_inside (λ a. a.inside) k (atoms_of items)) (parts_inside k 0 (typed_contexts_of items)) ∷ (NMems k (number_inside (λ b. b.inside) k (membranes_of items)) ∷ []))
          ++ ((if r then [] else NoRules k ∷ []) ++ (if d then IsClosed k (parts_inside k 0 (typed_contexts_of items)) ∷ [] else []))) ≡ 0
      by true true false w = refl
      by true false false w = refl
      by false true false w = refl
      by false false false w = refl
      by c r true (inl e) = absurd (true≢false e)
      by true true true (inr n) = one (k == m) (not_equal k m n)
      by true false true (inr n) = more _ (one (k == m) (not_equal k m n))
      by false true true (inr n) = more _ (more _ (one (k == m) (not_equal k m n)))
      by false false true (inr n) = more _ (more _ (more _ (one (k == m) (not_equal k m n))))

  -- ---- the typed contexts of a membrane

  inside_if : (y g : ℕ) (b : Bool) → counted (λ h. h == y) (if b then g ∷ [] else []) ≡ (if b then (if g == y then 1 else 0) else 0)
  inside_if y g true = plus (if g == y then 1 else 0)
    where
      plus : (x : ℕ) → x + 0 ≡ x
      plus x = omega arith
  inside_if y g false = refl

  if_zero : (b : Bool) → ◌≡◌ {A = ℕ} (if b then 0 else 0) 0
  if_zero true = refl
  if_zero false = refl

  inside_none : (m y g : ℕ) (ts : List HeadTyped) → y < g → counted (λ h. h == y) (parts_inside m g ts) ≡ 0
  inside_none m y g [] l = refl
  inside_none m y g (t ∷ ts) l =
      let all = counted_append (λ h. h == y) (if t.inside == m then g ∷ [] else []) (parts_inside m (g + 1) ts) in
      let first = inside_if y g (t.inside == m) ∙ ap (λ c. if t.inside == m then (if c then 1 else 0) else 0) (not_equal g y (λ e. absurd (omega (arith, l, e)))) ∙ if_zero (t.inside == m) in
      let rest = inside_none m y (g + 1) ts (omega (arith, l)) in
      omega (arith, all, first, rest)

  inside_one : (m y g : ℕ) (ts : List HeadTyped) (k : ℕ) (t : HeadTyped) → slice_get ts k ≡ Some t → y ≡ g + k → counted (λ h. h == y) (parts_inside m g ts) ≡ (if t.inside == m then 1 else 0)
  inside_one m y g [] k t e q = absurd (cc)
  inside_one m y g (u ∷ ts) zero t e q =
      let same : u ≡ t = same_Some u t e in
      let here : g ≡ y = omega (arith, q) in
      let all = counted_append (λ h. h == y) (if u.inside == m then g ∷ [] else []) (parts_inside m (g + 1) ts) in
      let first = inside_if y g (u.inside == m) ∙ ap (λ c. if u.inside == m then (if c then 1 else 0) else 0) (eq-eqb g y here) ∙ ap (λ (v : HeadTyped). if v.inside == m then 1 else 0) same in
      let rest = inside_none m y (g + 1) ts (omega (arith, here)) in
      omega (arith, all, first, rest)
  inside_one m y g (u ∷ ts) (suc k) t e q =
      let all = counted_append (λ h. h == y) (if u.inside == m then g ∷ [] else []) (parts_inside m (g + 1) ts) in
      let first = inside_if y g (u.inside == m) ∙ ap (λ c. if u.inside == m then (if c then 1 else 0) else 0) (not_equal g y (λ s. absurd (omega (arith, q, s)))) ∙ if_zero (u.inside == m) in
      let rest = inside_one m y (g + 1) ts k t e (omega (arith, q)) in
      omega (arith, all, first, rest)

  parts_told : (test : FoundPart → Bool) (g : ℕ) (ts : List HeadTyped)
      → ((k : ℕ) (t : HeadTyped) (p : Port) → slice_get ts k ≡ Some t → test (record { part = g + k; kind = t.kind; port = operand p; membrane = t.inside }) ≡ true) → list_all test (found_parts items g ts) ≡ true
  parts_told test g [] h = refl
  parts_told test g (t ∷ ts) h =
      let start : g + 0 ≡ g = omega arith in
      let here = by (find_port t.link (at_atoms 0 (atoms_of items))) (λ p. subst (λ i. test (record { part = i; kind = t.kind; port = operand p; membrane = t.inside }) ≡ true) start (h 0 t p refl)) in
      let rest = parts_told test (g + 1) ts (λ k u p e. let next : g + suc k ≡ (g + 1) + k = omega arith in subst (λ i. test (record { part = i; kind = u.kind; port = operand p; membrane = u.inside }) ≡ true) next (h (suc k) u p e)) in
      list_all-append test (found_part g t (find_port t.link (at_atoms 0 (atoms_of items)))) (found_parts items (g + 1) ts) ∙ (λ i. here i && rest i)
    where
      by : (f : Option Port) → ((p : Port) → test (record { part = g; kind = t.kind; port = operand p; membrane = t.inside }) ≡ true) → list_all test (found_part g t f) ≡ true
      by None k = refl
      by (Some p) k = let e = k p in λ i. e i && true

  -- the numbers that are named of a membrane are those of its typed contexts
  named : (m : ℕ) → names_parts m (parts_inside m 0 (typed_contexts_of items)) (found_parts items 0 (typed_contexts_of items)) ≡ true
  named m = parts_told (λ p. count_by (λ g. g == p.part) (parts_inside m 0 (typed_contexts_of items)) == (if p.membrane == m then 1 else 0)) 0 (typed_contexts_of items)
      (λ k t p e. eq-eqb (count_by (λ g. g == 0 + k) (parts_inside m 0 (typed_contexts_of items))) (if t.inside == m then 1 else 0)
      (sym (counted_is (λ g. g == 0 + k) (parts_inside m 0 (typed_contexts_of items))) ∙ inside_one m (0 + k) 0 (typed_contexts_of items) k t e refl))

  atoms_inside : (m n : ℕ) (as' : List HeadAtom) → number_inside (λ a. a.inside) m as' ≡ counted (λ (a : FoundAtom). a.membrane == m) (numbered found_atom n as')
  atoms_inside m n [] = refl
  atoms_inside m n (a ∷ as') = ap (λ k. (if a.inside == m then 1 else 0) + k) (atoms_inside m (n + 1) as')

  membranes_inside : (m n : ℕ) (bs : List HeadMembrane) → number_inside (λ b. b.inside) m bs ≡ counted (λ (b : FoundMembrane). b.inside == m) (numbered found_membrane n bs)
  membranes_inside m n [] = refl
  membranes_inside m n (b ∷ bs) = ap (λ k. (if b.inside == m then 1 else 0) + k) (membranes_inside m (n + 1) bs)

  -- ---- one membrane

  module _ (guard : List Cond) where
    tells_atoms : (m : ℕ) → counts_atoms (numbered found_atom 0 (atoms_of items)) (found_parts items 0 (typed_contexts_of items)) m
        (NAtoms m (number_inside (λ a. a.inside) m (atoms_of items)) (parts_inside m 0 (typed_contexts_of items))) ≡ true
    tells_atoms m =
        let many = eq-eqb (number_inside (λ a. a.inside) m (atoms_of items)) (count_by (λ (a : FoundAtom). a.membrane == m) (numbered found_atom 0 (atoms_of items)))
        (atoms_inside m 0 (atoms_of items) ∙ counted_is (λ (a : FoundAtom). a.membrane == m) (numbered found_atom 0 (atoms_of items))) in
        let names = named m in
        λ i. equal_itself m i && (many i && names i)

    tells_membranes : (m : ℕ) → counts_membranes (numbered found_membrane 0 (membranes_of items)) m (NMems m (number_inside (λ b. b.inside) m (membranes_of items))) ≡ true
    tells_membranes m =
        let many = eq-eqb (number_inside (λ b. b.inside) m (membranes_of items)) (count_by (λ (b : FoundMembrane). b.inside == m) (numbered found_membrane 0 (membranes_of items)))
        (membranes_inside m 0 (membranes_of items) ∙ counted_is (λ (b : FoundMembrane). b.inside == m) (numbered found_membrane 0 (membranes_of items))) in
        λ i. equal_itself m i && many i

    tells_closed : (m : ℕ) → finds_closed (found_parts items 0 (typed_contexts_of items)) m (IsClosed m (parts_inside m 0 (typed_contexts_of items))) ≡ true
    tells_closed m = let names = named m in λ i. equal_itself m i && names i

    counted_here : (j : ℕ) (b : HeadMembrane) → slice_get (membranes_of items) j ≡ Some b → b.has_context ≡ false → is_counted (head_code items guard) (1 + j) ≡ true
    counted_here j b e c =
        let m = 1 + j in
        let head = head_code items guard in
        let ta = counts_atoms (numbered found_atom 0 (atoms_of items)) (found_parts items 0 (typed_contexts_of items)) m in
        let tm = counts_membranes (numbered found_membrane 0 (membranes_of items)) m in
        let na = NAtoms m (number_inside (λ a. a.inside) m (atoms_of items)) (parts_inside m 0 (typed_contexts_of items)) in
        let nm = NMems m (number_inside (λ b. b.inside) m (membranes_of items)) in
        let rest = (if b.has_rule_context then [] else NoRules m ∷ []) ++ (if b.has_closed_context then IsClosed m (parts_inside m 0 (typed_contexts_of items)) ∷ [] else []) in
        let atoms : list_any ta head ≡ true = head_any ta items guard (any_filled ta 1 (membranes_of items) j b e
        (any_front ta (if b.has_context then [] else na ∷ (nm ∷ [])) rest (ap (λ s. list_any ta (if s then [] else na ∷ (nm ∷ []))) c ∙ ap (λ s. s || (ta nm || false)) (tells_atoms m)))) in
        let membranes : list_any tm head ≡ true = head_any tm items guard (any_filled tm 1 (membranes_of items) j b e
        (any_front tm (if b.has_context then [] else na ∷ (nm ∷ [])) rest (ap (λ s. list_any tm (if s then [] else na ∷ (nm ∷ []))) c ∙ ap (λ s. tm na || (s || false)) (tells_membranes m)))) in
        (λ i. list_any (counts_atoms (head_finds items guard i) (head_looks items guard i) m) head && list_any (counts_membranes (head_enters items guard i) m) head)
        ∙ (λ i. atoms i && membranes i)

    closed_here : (j : ℕ) (b : HeadMembrane) → slice_get (membranes_of items) j ≡ Some b → b.has_closed_context ≡ true → is_closed (head_code items guard) (1 + j) ≡ true
    closed_here j b e c =
        let m = 1 + j in
        let t = finds_closed (found_parts items 0 (typed_contexts_of items)) m in
        let gs = parts_inside m 0 (typed_contexts_of items) in
        let front = if b.has_context then [] else NAtoms m (number_inside (λ a. a.inside) m (atoms_of items)) gs ∷ (NMems m (number_inside (λ b. b.inside) m (membranes_of items)) ∷ []) in
        let rules = if b.has_rule_context then [] else NoRules m ∷ [] in
        (λ i. list_any (finds_closed (head_looks items guard i) m) (head_code items guard))
        ∙ head_any t items guard (any_filled t 1 (membranes_of items) j b e
        (any_back t front (rules ++ (if b.has_closed_context then IsClosed m gs ∷ [] else [])) (any_back t rules (if b.has_closed_context then IsClosed m gs ∷ [] else [])
        (ap (λ s. list_any t (if s then IsClosed m gs ∷ [] else [])) c ∙ ap (λ s. s || false) (tells_closed m)))))

    never_counted : (j : ℕ) (b : HeadMembrane) → slice_get (membranes_of items) j ≡ Some b → b.has_context ≡ true → counted (is_count_of (1 + j)) (head_code items guard) ≡ 0
    never_counted j b e c =
        let m = 1 + j in
        head_none (is_count_of m) (found_no_count m) (check_no_count m) (part_no_count m) (guard_no_count m) refl items guard
        (all_none (is_count_of m) 1 (membranes_of items) (λ i d f. not_counted m (1 + i) d (by i d f (same_or_not i j))))
      where
        by : (i : ℕ) (d : HeadMembrane) → slice_get (membranes_of items) i ≡ Some d → (i ≡ j) ⊎ (i ≢ j) → (d.has_context ≡ true) ⊎ (1 + i ≢ 1 + j)
        by i d f (inl s) = let same : b ≡ d = same_Some b d (sym e ∙ ap (slice_get (membranes_of items)) (sym s) ∙ f) in inl (subst (λ (x : HeadMembrane). x.has_context ≡ true) same c)
        by i d f (inr n) = inr (λ s. n (omega (arith, s)))

    never_asked : (j : ℕ) (b : HeadMembrane) → slice_get (membranes_of items) j ≡ Some b → b.has_closed_context ≡ false → counted (asks_closed (1 + j)) (head_code items guard) ≡ 0
    never_asked j b e c =
        let m = 1 + j in
        head_none (asks_closed m) (found_not_closed m) (check_not_closed m) (part_not_closed m) (guard_not_closed m) refl items guard
        (all_none (asks_closed m) 1 (membranes_of items) (λ i d f. not_asked m (1 + i) d (by i d f (same_or_not i j))))
      where
        by : (i : ℕ) (d : HeadMembrane) → slice_get (membranes_of items) i ≡ Some d → (i ≡ j) ⊎ (i ≢ j) → (d.has_closed_context ≡ false) ⊎ (1 + i ≢ 1 + j)
        by i d f (inl s) = let same : b ≡ d = same_Some b d (sym e ∙ ap (slice_get (membranes_of items)) (sym s) ∙ f) in inl (subst (λ (x : HeadMembrane). x.has_closed_context ≡ false) same c)
        by i d f (inr n) = inr (λ s. n (omega (arith, s)))

    module _ (body : List BodyItem) (n : ℕ) (rule : NestedRule items body n) (closed_has : (k : ℕ) (b : HeadMembrane) → HasMembrane items k b → b.has_closed_context ≡ true → b.has_context ≡ true)
        (rest_has : (k : ℕ) (b : HeadMembrane) → IsOneOf k (rests body) → HasMembrane items k b → b.has_context ≡ true) where
      abbrev whole : Code
      whole = record { head = head_code items guard; body = body_code items body n }

      one_membrane : (j : ℕ) (b : HeadMembrane) → slice_get (membranes_of items) j ≡ Some b → (c : HeadMembrane) → HasMembrane items (1 + j) c → c ≡ b
      one_membrane j b e c h = let q = h.1 in let same : h.0 ≡ j = omega (arith, q) in same_Some c b (sym h.2 ∙ ap (slice_get (membranes_of items)) same ∙ e)

      has : (j : ℕ) (b : HeadMembrane) → slice_get (membranes_of items) j ≡ Some b → HasMembrane items (1 + j) b
      has j b e = (j, omega arith, e)

      moved : (j : ℕ) → counted (moves (1 + j)) (body_code items body n) ≡ times (1 + j) (rests body)
      moved j = around (moves (1 + j)) (no_move (1 + j)) items body n ∙ making_moves (1 + j) (length (atoms_of items)) (1 + length (membranes_of items)) 0 body

      copied : (j : ℕ) → counted (copies_rest (1 + j)) (body_code items body n) ≡ times (1 + j) (closed_rests body)
      copied j = around (copies_rest (1 + j)) (no_copy (1 + j)) items body n ∙ making_copies (1 + j) (length (atoms_of items)) (1 + length (membranes_of items)) 0 body

      never_moved : (j : ℕ) → (IsOneOf (1 + j) (rests body) → ⊥) → not (list_any (moves (1 + j)) (body_code items body n)) ≡ true
      never_moved j h = none_passes (moves (1 + j)) (body_code items body n) (moved j ∙ not_in (1 + j) (rests body) h)

      never_copied : (j : ℕ) (b : HeadMembrane) → slice_get (membranes_of items) j ≡ Some b → b.has_closed_context ≡ false → not (list_any (copies_rest (1 + j)) (body_code items body n)) ≡ true
      never_copied j b e c = none_passes (copies_rest (1 + j)) (body_code items body n) (copied j ∙ not_in (1 + j) (closed_rests body) (λ i.
          let w = rule.of_closed (1 + j) i in
          let is = one_membrane j b e w.0 w.1 in
          true≢false (sym w.2 ∙ ap (λ (x : HeadMembrane). x.has_closed_context) is ∙ c)))

      never_dropped : (j : ℕ) (b : HeadMembrane) → slice_get (membranes_of items) j ≡ Some b → b.has_closed_context ≡ false → not (list_any (drops_rest (1 + j)) (body_code items body n)) ≡ true
      never_dropped j b e c = none_passes (drops_rest (1 + j)) (body_code items body n) (body_drops (1 + j) items body n j b e refl ∙ ap (λ s. if s then 1 else 0) c)

      or_right : (a b : Bool) → b ≡ true → (a || b) ≡ true
      or_right true b e = refl
      or_right false b e = e

      emptied_at : (j : ℕ) (b : HeadMembrane) → slice_get (membranes_of items) j ≡ Some b → is_emptied whole (found_membrane j b) ≡ true
      emptied_at j b e =
          let number : j + 1 ≡ 1 + j = omega arith in
          ap (λ m. nothing_left whole m || (rest_moved whole m || rest_dropped whole m)) number ∙ by b.has_closed_context refl b.has_context refl
        where
          by : (d : Bool) → b.has_closed_context ≡ d → (c : Bool) → b.has_context ≡ c → (nothing_left whole (1 + j) || (rest_moved whole (1 + j) || rest_dropped whole (1 + j))) ≡ true
          by true d c' c =
              let full = closed_has (1 + j) b (has j b e) d in
              let one = one_passes (drops_rest (1 + j)) (body_code items body n) (body_drops (1 + j) items body n j b e refl ∙ ap (λ s. if s then 1 else 0) d) in
              let closed = closed_here j b e d in
              let not_all = none_passes (is_count_of (1 + j)) (head_code items guard) (never_counted j b e full) in
              let stays = never_moved j (λ i. let w = rule.of_open (1 + j) i in let is = one_membrane j b e w.0 w.1 in true≢false (sym d ∙ sym (ap (λ (x : HeadMembrane). x.has_closed_context) is) ∙ w.2)) in
              let this : rest_dropped whole (1 + j) ≡ true = λ i. one i && (closed i && (not_all i && stays i)) in
              or_right (nothing_left whole (1 + j)) (rest_moved whole (1 + j) || rest_dropped whole (1 + j)) (or_right (rest_moved whole (1 + j)) (rest_dropped whole (1 + j)) this)
          by false d true c =
              let stands = rule.contexts (1 + j) b (has j b e) c d in
              let one = one_passes (moves (1 + j)) (body_code items body n) (moved j ∙ once_in_list (1 + j) (rests body) (rests_apart 0 (length (membranes_of items)) (1 + length (membranes_of items)) body rule.placed) stands) in
              let not_all = none_passes (is_count_of (1 + j)) (head_code items guard) (never_counted j b e c) in
              let open_one = none_passes (asks_closed (1 + j)) (head_code items guard) (never_asked j b e d) in
              let no_copies = never_copied j b e d in
              let no_drop = never_dropped j b e d in
              let this : rest_moved whole (1 + j) ≡ true = λ i. one i && (not_all i && (open_one i && (no_copies i && no_drop i))) in
              or_right (nothing_left whole (1 + j)) (rest_moved whole (1 + j) || rest_dropped whole (1 + j)) (ap (λ s. s || rest_dropped whole (1 + j)) this)
          by false d false c =
              let all = counted_here j b e c in
              let open_one = none_passes (asks_closed (1 + j)) (head_code items guard) (never_asked j b e d) in
              let stays = never_moved j (λ i. true≢false (sym (rest_has (1 + j) b i (has j b e)) ∙ c)) in
              let no_copies = never_copied j b e d in
              let no_drop = never_dropped j b e d in
              let this : nothing_left whole (1 + j) ≡ true = λ i. all i && (open_one i && (stays i && (no_copies i && no_drop i))) in
              ap (λ s. s || (rest_moved whole (1 + j) || rest_dropped whole (1 + j))) this

      -- Each membrane that a rule's code takes out is empty then.
      pub all_emptied : list_all (is_emptied whole) (membranes_found (head_code items guard)) ≡ true
      all_emptied = ap (list_all (is_emptied whole)) (head_enters items guard)
          ∙ all_numbered found_membrane (is_emptied whole) 0 (membranes_of items) (λ j b e. let same : j ≡ 0 + j = omega arith in subst (λ k. is_emptied whole (found_membrane k b) ≡ true) same (emptied_at j b e))

-- The flat head and body of verified code are a rule: where its items stand.
use Rattle.std.proofs.Common.{◌≡◌, ◌≢◌, ◌<◌, ◌≤◌, ◌+◌, ◌==◌, ◌&&◌, ◌||◌, ◌⊎◌, ◌∙◌, inl, inr, ℕ, zero, suc, Bool, true, false, cond, not, List, [], ◌∷◌, ◌++◌, length, Some, refl, sym, ap, subst, arith, true≢false}
use Rattle.std.specs.Prelude.{slice_get, count_by, nat_lt, nat_le}
use Rattle.std.specs.List.{filter_map, list_all, list_any}
use Rattle.std.proofs.lemmas.Bool.{cases_eq, eqb-true, leb-true, ltb-true}
use Rattle.std.proofs.lemmas.List.{length-map}
use Rattle.lmn_base.specs.Solids.{connector}
use Rattle.lmn_base.proofs.Lists.{get_there}
use Rattle.lmn_base.proofs.Numbers.{equal_itself, none_more as plus_zero}
use Rattle.lmn_base.proofs.Truth.{and_true, either_true, first_true, second_true, not_true, never as is_false}
use Rattle.lmn_store_heap.specs.Functors.{same_functor}
use Rattle.lmn_store_heap.proofs.WithFunctor.{functor_same}
use Rattle.lmn_congruence_splice.specs.Classes.{rising}
use Rattle.lmn_congruence_splice.specs.Splice.{IsOneOf}
use Rattle.lmn_solid_heads.specs.Heads.{HeadAtom, HeadTyped, HeadMembrane, links_of_head, membranes_of, typed_contexts_of}
use Rattle.lmn_solid_heads.specs.Embeddings.{HasAtom, HasMembrane}
use Rattle.lmn_solid_bodies.specs.declared.items.BodyItem.{BodyItem}
use Rattle.lmn_solid_bodies.specs.Items.{AllMade, LinkedItems, body_links}
use Rattle.lmn_solid_bodies.specs.Made.{copies_of}
use Rattle.lmn_solid_bodies.specs.Rules.{HeadNests, NestedRule, InsideHead, IsHeadMembrane, StandsIn, WellPlaced, closed_rests, rests}
use Rattle.lmn_machine_commit.specs.Preparing.{BodyInOrder, atoms_made, copies_made, membranes_made}
use Rattle.lmn_instr_code.specs.declared.instr.NewPort.TheVariants as new
use Rattle.lmn_instr_code.specs.declared.instr.Code.{Code}
use Rattle.lmn_instr_code.specs.declared.instr.Instr.{Instr}
use Rattle.lmn_instr_code.specs.declared.instr.Instr.TheVariants.{NewAtom, NewInt, NewMem, CopyGround, MoveCells, CopyCells, LoadRule, CopyRules, Unify}
use Rattle.lmn_instr_code.specs.Running.{membranes_set}
use Rattle.lmn_verify_code.proofs.Deciding.{length_rising}
use Rattle.lmn_verify_code.specs.declared.found.FoundMembrane.{FoundMembrane}
use Rattle.lmn_verify_code.specs.Verified.{IsVerified, asks_closed, atoms_found, copies_rest, is_closed, is_count_of, port_of_register, drops_rest, is_counted, is_emptied, is_open, is_removed, membranes_found, moves, nothing_left, rest_dropped, rest_moved}
use Rattle.lmn_verify_laws.specs.Flat.{connected, flat_body, flat_head, link_count, link_in, made_item}
use Rattle.lmn_verify_laws.proofs.InOrder.{is_of_body}
use Rattle.lmn_verify_laws.proofs.Items.{atom_found, head_membrane, membrane_count, membrane_found_at, membranes_are, parts_counted, typed_count, typed_found, typed_held, typed_once}
use Rattle.lmn_verify_laws.proofs.Listed.{all_is, any_passes, counted_some, get_image, get_one, passing, passing_counted, passing_one, passing_some}
use Rattle.lmn_verify_laws.proofs.Ready.{body_is, membranes_counted, verified_is_in_order}

-- ---- the head

-- membranes of the flat head are numbered after those round them
pub head_nests : (code : Code) (k : ℕ) → IsVerified code k → HeadNests (flat_head code)
head_nests code k v j b e =
    let w = membrane_found_at code k v e.0 b e.2 in
    let i = ap (λ (z : HeadMembrane). z.inside) w.2 in
    let l = w.4 in
    let s = e.1 in
    omega (arith, i, l, s)

-- its atoms and typed contexts stand in its membranes, or in that of the rule
pub inside_head : (code : Code) (k : ℕ) → IsVerified code k → InsideHead (flat_head code)
inside_head code k v = record {
  atoms = λ n x e. (let w = atom_found code k v n x e in let i = ap (λ (z : HeadAtom). z.inside) w.2 in let l = w.4 in let a = membrane_count code in let b = membranes_counted code.head in omega (arith, i, l, a, b));
  typed = λ n x e. (let w = typed_found code k v n x e in let i = ap (λ (z : HeadTyped). z.inside) w.2 in let l = w.4 in let a = membrane_count code in let b = membranes_counted code.head in omega (arith, i, l, a, b));
}

head_made : (code : Code) (k : ℕ) → IsVerified code k → (n : ℕ) (x : HeadAtom) → HasAtom (flat_head code) n x → length x.links ≡ x.functor.arity
head_made code k v n x e =
    let w = atom_found code k v n x e in
    subst (λ (z : HeadAtom). length z.links ≡ z.functor.arity) w.2 (length-map (rising 0 w.0.functor.arity) (λ i. link_in code (new.Atom (port_of_register w.0.atom i))) ∙ length_rising 0 w.0.functor.arity)

-- ---- the body

open_stands : (k m n : ℕ) → is_open (1 + k) n ≡ true → n < m → StandsIn k m n
open_stands k m n e l = elim (either_true (n == 0) (nat_le (1 + k) n) e) [
  | inl t ↦ inl (eqb-true n 0 t)
  | inr t ↦ (let u = leb-true (1 + k) n t in inr (omega (arith, u), l))
]

-- a membrane that is taken out is one of the head
pub removed_is : (k m : ℕ) → is_removed (1 + k) m ≡ true → IsHeadMembrane k m
removed_is k zero e = absurd (true≢false (sym e))
removed_is k (suc i) e = (i, refl, let l = ltb-true (suc i) (1 + k) (second_true (nat_lt 0 (suc i)) (nat_lt (suc i) (1 + k)) e) in omega (arith, l))

connectors_placed : (k m j : ℕ) (is : List Instr) → WellPlaced k m (connected j is)
connectors_placed k m j [] = tt
connectors_placed k m j (Unify p q ∷ is) = connectors_placed k m (j + 2) is
connectors_placed k m j (_ ∷ is) = connectors_placed k m (j + 2) is

no_rests : (j : ℕ) (is : List Instr) → rests (connected j is) ≡ []
no_rests j [] = refl
no_rests j (Unify p q ∷ is) = no_rests (j + 2) is
no_rests j (_ ∷ is) = no_rests (j + 2) is

no_closed_rests : (j : ℕ) (is : List Instr) → closed_rests (connected j is) ≡ []
no_closed_rests j [] = refl
no_closed_rests j (Unify p q ∷ is) = no_closed_rests (j + 2) is
no_closed_rests j (_ ∷ is) = no_closed_rests (j + 2) is

no_copies : (c j : ℕ) (is : List Instr) → copies_of c (connected j is) ≡ []
no_copies c j [] = refl
no_copies c j (Unify p q ∷ is) = no_copies c (j + 2) is
no_copies c j (_ ∷ is) = no_copies c (j + 2) is

connectors_made : (j : ℕ) (is : List Instr) → AllMade (connected j is)
connectors_made j [] = tt
connectors_made j (Unify p q ∷ is) = (tt, connectors_made (j + 2) is)
connectors_made j (_ ∷ is) = connectors_made (j + 2) is

abbrev is_move : Instr → Bool
is_move (MoveCells m n) = true
is_move _ = false

abbrev moved_or : ℕ → Instr → ℕ
moved_or x (MoveCells m n) = m
moved_or x _ = x

-- a membrane that is moved here isn't moved again, where it is moved once
twice : (x y : ℕ) (is : List Instr) → passing (moves x) (MoveCells x y ∷ is) ≤ 1 → passing (moves x) is ≢ 0 → ⊥
twice x y is l d = by (x == x) (equal_itself x) l
  where
    by : (b : Bool) → b ≡ true → cond b (1 + passing (moves x) is) (passing (moves x) is) ≤ 1 → ⊥
    by true e l = d (omega (arith, l))
    by false e l = true≢false (sym e)

less_once : (z x y : ℕ) (is : List Instr) → passing (moves z) (MoveCells x y ∷ is) ≤ 1 → passing (moves z) is ≤ 1
less_once z x y is l = by (x == z) l
  where
    by : (b : Bool) → cond b (1 + passing (moves z) is) (passing (moves z) is) ≤ 1 → passing (moves z) is ≤ 1
    by true l = omega (arith, l)
    by false l = l

module _ (code : Code) (j : ℕ) (js : List Instr) where
  abbrev items : List Instr → List BodyItem
  items is = filter_map (made_item code) is ++ connected j js

  -- an open context of the body is that of a membrane whose rest is moved
  pub moved_of : (is : List Instr) (x : ℕ) → IsOneOf x (rests (items is)) → (n : ℕ) × IsOneOf (MoveCells x n) is
  moved_of [] x i = absurd (subst (λ l. IsOneOf x l) (no_rests j js) i)
  moved_of (MoveCells m n ∷ is) x (inl e) = (n, inl (ap (λ z. MoveCells z n) e))
  moved_of (MoveCells m n ∷ is) x (inr i) = let w = moved_of is x i in (w.0, inr w.1)
  moved_of (_ ∷ is) x i = let w = moved_of is x i in (w.0, inr w.1)

  pub of_moved : (is : List Instr) (x n : ℕ) → IsOneOf (MoveCells x n) is → IsOneOf x (rests (items is))
  of_moved [] x n i = absurd i
  of_moved (MoveCells m t ∷ is) x n (inl e) = inl (ap (moved_or x) e)
  of_moved (MoveCells m t ∷ is) x n (inr i) = inr (of_moved is x n i)
  of_moved (_ ∷ is) x n (inl e) = absurd (true≢false (sym (ap is_move e)))
  of_moved (_ ∷ is) x n (inr i) = of_moved is x n i

  pub copied_of : (is : List Instr) (x : ℕ) → IsOneOf x (closed_rests (items is)) → (n : ℕ) × IsOneOf (CopyCells x n) is
  copied_of [] x i = absurd (subst (λ l. IsOneOf x l) (no_closed_rests j js) i)
  copied_of (CopyCells m n ∷ is) x (inl e) = (n, inl (ap (λ z. CopyCells z n) e))
  copied_of (CopyCells m n ∷ is) x (inr i) = let w = copied_of is x i in (w.0, inr w.1)
  copied_of (_ ∷ is) x i = let w = copied_of is x i in (w.0, inr w.1)

  pub all_made : (n h k : ℕ) (is : List Instr) → list_all (is_of_body n h k) is ≡ true → AllMade (items is)
  all_made n h k [] b = connectors_made j js
  all_made n h k (NewAtom a m f ∷ is) b =
      let w = and_true (is_open h m && not (same_functor f connector)) (list_all (is_of_body n h k) is) b in
      let u = not_true (same_functor f connector) (second_true (is_open h m) (not (same_functor f connector)) w.0) in
      ((length-map (rising 0 f.arity) (λ i. link_in code (new.Atom (port_of_register a i))) ∙ length_rising 0 f.arity, λ e. true≢false (sym (subst (λ z. same_functor f z ≡ true) e (functor_same f)) ∙ u)), all_made n h k is w.1)
  all_made n h k (NewInt a m y ∷ is) b = (tt, all_made n h k is (and_true (is_open h m) (list_all (is_of_body n h k) is) b).1)
  all_made n h k (NewMem m t ∷ is) b = (tt, all_made n h k is (and_true (is_open h t) (list_all (is_of_body n h k) is) b).1)
  all_made n h k (CopyGround c m g ∷ is) b = (tt, all_made n h k is (and_true (is_open h m) (list_all (is_of_body n h k) is) b).1)
  all_made n h k (MoveCells m t ∷ is) b = (tt, all_made n h k is (and_true (is_removed h m && is_open h t) (list_all (is_of_body n h k) is) b).1)
  all_made n h k (CopyCells m t ∷ is) b = (tt, all_made n h k is (and_true (is_removed h m && is_open h t) (list_all (is_of_body n h k) is) b).1)
  all_made n h k (LoadRule m t ∷ is) b = (tt, all_made n h k is (and_true (is_open h m && nat_lt t k) (list_all (is_of_body n h k) is) b).1)
  all_made n h k (CopyRules m t ∷ is) b = (tt, all_made n h k is (and_true (is_removed h m && is_open h t) (list_all (is_of_body n h k) is) b).1)
  all_made n h k (i ∷ is) b = all_made n h k is (and_true (is_of_body n h k i) (list_all (is_of_body n h k) is) b).1

  -- its copies are of typed contexts that are set
  pub all_copied : (a m g v c d : ℕ) (is : List Instr) → BodyInOrder a m g v d is → (e : ℕ × ℕ) → IsOneOf e (copies_of c (items is)) → e.1 < g
  all_copied a m g v c d [] o e i = absurd (subst (λ l. IsOneOf e l) (no_copies c j js) i)
  all_copied a m g v c d (CopyGround x y z ∷ is) o e (inl s) = subst (λ (u : ℕ × ℕ). u.1 < g) s o.0.2
  all_copied a m g v c d (CopyGround x y z ∷ is) o e (inr i) = all_copied (a + 0) (m + 0) g v (c + 1) (d + 1) is o.1 e i
  all_copied a m g v c d (q ∷ is) o e i = all_copied (a + atoms_made q) (m + membranes_made q) g v c (d + copies_made q) is o.1 e i

  module _ (n k : ℕ) (rules : ℕ) where
    abbrev h : ℕ
    h = 1 + k

    -- Its items stand in the membrane of the rule or in those that are made before, where each rest is moved once.
    pub all_placed : (is : List Instr) (a m g v c : ℕ) → BodyInOrder a m g v c is → list_all (is_of_body n h rules) is ≡ true → ((x : ℕ) → passing (moves x) is ≤ 1) → WellPlaced k m (items is)
    all_placed [] a m g v c o b once = connectors_placed k m j js
    all_placed (NewAtom x y f ∷ is) a m g v c o b once = (open_stands k m y (first_true (is_open h y) (not (same_functor f connector)) (and_true (is_open h y && not (same_functor f connector)) (list_all (is_of_body n h rules) is) b).0) o.0.1, subst (λ z. WellPlaced k z (items is)) (plus_zero m) (all_placed is (a + 1) (m + 0) g v (c + 0) o.1 (and_true (is_open h y && not (same_functor f connector)) (list_all (is_of_body n h rules) is) b).1 once))
    all_placed (NewInt x y z ∷ is) a m g v c o b once = (open_stands k m y (and_true (is_open h y) (list_all (is_of_body n h rules) is) b).0 o.0.1, subst (λ z. WellPlaced k z (items is)) (plus_zero m) (all_placed is (a + 1) (m + 0) g v (c + 0) o.1 (and_true (is_open h y) (list_all (is_of_body n h rules) is) b).1 once))
    all_placed (NewMem x y ∷ is) a m g v c o b once = (open_stands k m y (and_true (is_open h y) (list_all (is_of_body n h rules) is) b).0 o.0.1, all_placed is (a + 0) (m + 1) g v (c + 0) o.1 (and_true (is_open h y) (list_all (is_of_body n h rules) is) b).1 once)
    all_placed (CopyGround x y z ∷ is) a m g v c o b once = (open_stands k m y (and_true (is_open h y) (list_all (is_of_body n h rules) is) b).0 o.0.1, subst (λ z. WellPlaced k z (items is)) (plus_zero m) (all_placed is (a + 0) (m + 0) g v (c + 1) o.1 (and_true (is_open h y) (list_all (is_of_body n h rules) is) b).1 once))
    all_placed (MoveCells x y ∷ is) a m g v c o b once =
        let w = (and_true (is_removed h x && is_open h y) (list_all (is_of_body n h rules) is) b) in (
          removed_is k x (first_true (is_removed h x) (is_open h y) w.0),
          (λ i. let u = moved_of is x i in twice x y is (once x) (passing_one (moves x) is (MoveCells x u.0) u.1 (equal_itself x))),
          open_stands k m y (second_true (is_removed h x) (is_open h y) w.0) o.0.1,
          subst (λ z. WellPlaced k z (items is)) (plus_zero m) (all_placed is (a + 0) (m + 0) g v (c + 0) o.1 w.1 (λ z. less_once z x y is (once z))),
        )
    all_placed (CopyCells x y ∷ is) a m g v c o b once =
        let w = (and_true (is_removed h x && is_open h y) (list_all (is_of_body n h rules) is) b) in
        (removed_is k x (first_true (is_removed h x) (is_open h y) w.0), open_stands k m y (second_true (is_removed h x) (is_open h y) w.0) o.0.1, subst (λ z. WellPlaced k z (items is)) (plus_zero m) (all_placed is (a + 0) (m + 0) g v (c + 0) o.1 w.1 once))
    all_placed (LoadRule x y ∷ is) a m g v c o b once = (open_stands k m x (first_true (is_open h x) (nat_lt y rules) (and_true (is_open h x && nat_lt y rules) (list_all (is_of_body n h rules) is) b).0) o.0, subst (λ z. WellPlaced k z (items is)) (plus_zero m) (all_placed is (a + 0) (m + 0) g v (c + 0) o.1 (and_true (is_open h x && nat_lt y rules) (list_all (is_of_body n h rules) is) b).1 once))
    all_placed (CopyRules x y ∷ is) a m g v c o b once =
        let w = (and_true (is_removed h x && is_open h y) (list_all (is_of_body n h rules) is) b) in
        (removed_is k x (first_true (is_removed h x) (is_open h y) w.0), open_stands k m y (second_true (is_removed h x) (is_open h y) w.0) o.0.1, subst (λ z. WellPlaced k z (items is)) (plus_zero m) (all_placed is (a + 0) (m + 0) g v (c + 0) o.1 w.1 once))
    all_placed (i ∷ is) a m g v c o b once = subst (λ z. WellPlaced k z (items is)) (plus_zero m) (all_placed is (a + 0) (m + 0) g v (c + 0) o.1 (and_true (is_of_body n h rules i) (list_all (is_of_body n h rules) is) b).1 once)

-- ---- contexts

moves_is : (m : ℕ) (i : Instr) → moves m i ≡ true → (n : ℕ) × (i ≡ MoveCells m n)
moves_is m (MoveCells x n) e = (n, ap (λ z. MoveCells z n) (eqb-true x m e))
moves_is m _ e = absurd (true≢false (sym e))

-- what some item passes, one passes
pub some_passes : (test : Instr → Bool) (is : List Instr) (i : Instr) → IsOneOf i is → test i ≡ true → not (list_any test is) ≡ true → ⊥
some_passes test is i o t n = true≢false (sym (any_passes test is i o t) ∙ not_true (list_any test is) n)

five : (a b c d e : Bool) → (a && (b && (c && (d && e)))) ≡ true → (a ≡ true) × (b ≡ true) × (c ≡ true) × (d ≡ true) × (e ≡ true)
five a b c d e h =
    let w = and_true a (b && (c && (d && e))) h in
    let x = and_true b (c && (d && e)) w.1 in
    let y = and_true c (d && e) x.1 in
    let z = and_true d e y.1 in
    (w.0, x.0, y.0, z.0, z.1)

-- the tests of each of the three kinds
pub counted_tests : (code : Code) (x : ℕ) → nothing_left code x ≡ true →
    (is_counted code.head x ≡ true) × (not (list_any (asks_closed x) code.head) ≡ true) × (not (list_any (moves x) code.body) ≡ true) × (not (list_any (copies_rest x) code.body) ≡ true) × (not (list_any (drops_rest x) code.body) ≡ true)
counted_tests code x t = five (is_counted code.head x) (not (list_any (asks_closed x) code.head)) (not (list_any (moves x) code.body)) (not (list_any (copies_rest x) code.body)) (not (list_any (drops_rest x) code.body)) t

-- the tests where a rest is moved
pub moved_tests : (code : Code) (x : ℕ) → rest_moved code x ≡ true →
    ((count_by (moves x) code.body == 1) ≡ true) × (not (list_any (is_count_of x) code.head) ≡ true) × (not (list_any (asks_closed x) code.head) ≡ true) × (not (list_any (copies_rest x) code.body) ≡ true) × (not (list_any (drops_rest x) code.body) ≡ true)
moved_tests code x t = five (count_by (moves x) code.body == 1) (not (list_any (is_count_of x) code.head)) (not (list_any (asks_closed x) code.head)) (not (list_any (copies_rest x) code.body)) (not (list_any (drops_rest x) code.body)) t

-- the tests where a rest is dropped
pub dropped_tests : (code : Code) (x : ℕ) → rest_dropped code x ≡ true →
    ((count_by (drops_rest x) code.body == 1) ≡ true) × (is_closed code.head x ≡ true) × (not (list_any (is_count_of x) code.head) ≡ true) × (not (list_any (moves x) code.body) ≡ true)
dropped_tests code x t =
    let a = count_by (drops_rest x) code.body == 1 in
    let c = not (list_any (is_count_of x) code.head) in
    let d = not (list_any (moves x) code.body) in
    let w = and_true a (is_closed code.head x && (c && d)) t in
    let y = and_true (is_closed code.head x) (c && d) w.1 in
    let z = and_true c d y.1 in
    (w.0, y.0, z.0, z.1)

module _ (code : Code) (k : ℕ) (v : IsVerified code k) where
  abbrev count : ℕ
  count = length (membranes_found code.head)

  -- a membrane of the head, by its number
  pub head_at : (x : ℕ) → IsHeadMembrane count x → (m : FoundMembrane) × (m.membrane ≡ x) × HasMembrane (flat_head code) x (head_membrane code m) × (is_emptied code m ≡ true)
  head_at x e =
      let m = get_there (membranes_found code.head) e.0 e.2 in
      let get : slice_get (membranes_of (flat_head code)) e.0 ≡ Some (head_membrane code m.0) = subst (λ l. slice_get l e.0 ≡ Some (head_membrane code m.0)) (sym (membranes_are code)) (get_image (head_membrane code) (membranes_found code.head) e.0 m.0 m.1) in
      let w = membrane_found_at code k v e.0 (head_membrane code m.0) get in
      let same : m.0 ≡ w.0 = (let s : Some m.0 ≡ Some w.0 = sym m.1 ∙ w.1 in cc) in
      (m.0, ap (λ (z : FoundMembrane). z.membrane) same ∙ w.3 ∙ sym e.1, (e.0, e.1, get), all_is (is_emptied code) (membranes_found code.head) m.0 v.emptied (get_one (membranes_found code.head) e.0 m.0 m.1))

  pub of_body : (i : Instr) → IsOneOf i code.body → is_of_body (length (atoms_found code.head)) (1 + count) k i ≡ true
  of_body i o = all_is (is_of_body (length (atoms_found code.head)) (1 + count) k) code.body i (body_is code k v) o

  -- what is moved is a membrane of the head, and is neither counted nor dropped
  pub moved_rest : (x n : ℕ) → IsOneOf (MoveCells x n) code.body → (m : FoundMembrane) × (m.membrane ≡ x) × HasMembrane (flat_head code) x (head_membrane code m) × (rest_moved code x ≡ true) × (rest_dropped code x ≡ false)
  moved_rest x n o =
      let w = head_at x (removed_is count x (first_true (is_removed (1 + count) x) (is_open (1 + count) n) (of_body (MoveCells x n) o))) in
      let moved = equal_itself x in
      let not_dropped : rest_dropped code x ≡ true → ⊥ = λ t.
      some_passes (moves x) code.body (MoveCells x n) o moved (dropped_tests code x t).3 in
      let not_counted : nothing_left code x ≡ true → ⊥ = λ t.
      some_passes (moves x) code.body (MoveCells x n) o moved (counted_tests code x t).2 in
      let all : (nothing_left code x || (rest_moved code x || rest_dropped code x)) ≡ true = subst (λ z. (nothing_left code z || (rest_moved code z || rest_dropped code z)) ≡ true) w.1 w.3 in
      let rest : rest_moved code x ≡ true = elim (either_true (nothing_left code x) (rest_moved code x || rest_dropped code x) all) [
        | inl t ↦ absurd (not_counted t)
        | inr t ↦ elim (either_true (rest_moved code x) (rest_dropped code x) t) [ inl u ↦ u | inr u ↦ absurd (not_dropped u) ]
      ] in
      (w.0, w.1, w.2, rest, is_false (rest_dropped code x) not_dropped)

  pub copied_rest : (x n : ℕ) → IsOneOf (CopyCells x n) code.body → (m : FoundMembrane) × (m.membrane ≡ x) × HasMembrane (flat_head code) x (head_membrane code m) × (rest_dropped code x ≡ true)
  copied_rest x n o =
      let w = head_at x (removed_is count x (first_true (is_removed (1 + count) x) (is_open (1 + count) n) (of_body (CopyCells x n) o))) in
      let copied = equal_itself x in
      let all : (nothing_left code x || (rest_moved code x || rest_dropped code x)) ≡ true = subst (λ z. (nothing_left code z || (rest_moved code z || rest_dropped code z)) ≡ true) w.1 w.3 in
      let rest : rest_dropped code x ≡ true = elim (either_true (nothing_left code x) (rest_moved code x || rest_dropped code x) all) [
        | inl t ↦ absurd (some_passes (copies_rest x) code.body (CopyCells x n) o copied (counted_tests code x t).3)
        | inr t ↦ elim (either_true (rest_moved code x) (rest_dropped code x) t) [
          | inl u ↦ absurd (some_passes (copies_rest x) code.body (CopyCells x n) o copied (moved_tests code x u).3)
          | inr u ↦ u
        ]
      ] in
      (w.0, w.1, w.2, rest)

  -- each rest is moved once at most
  pub once_moved : (x : ℕ) → passing (moves x) code.body ≤ 1
  once_moved x = elim (cases_eq (passing (moves x) code.body) 0) [
    | inl e ↦ omega (arith, e)
    | inr d ↦ (let w = passing_some (moves x) code.body d in
        let i = moves_is x w.0 w.2 in
        let u = moved_rest x i.0 (subst (λ z. IsOneOf z code.body) i.1 w.1) in
        let n = eqb-true (count_by (moves x) code.body) 1 (moved_tests code x u.3).0 in
        let p = passing_counted (moves x) code.body in
        omega (arith, n, p))
  ]

  abbrev tail : List Instr
  tail = code.head ++ code.body

  pub contexts : (x : ℕ) (b : HeadMembrane) → HasMembrane (flat_head code) x b → b.has_context ≡ true → b.has_closed_context ≡ false → IsOneOf x (rests (flat_body code))
  contexts x b e c d =
      let w = membrane_found_at code k v e.0 b e.2 in
      let number : w.0.membrane ≡ x = w.3 ∙ sym e.1 in
      let left : nothing_left code w.0.membrane ≡ false = not_true (nothing_left code w.0.membrane) (ap (λ (z : HeadMembrane). z.has_context) w.2 ∙ c) in
      let dropped : rest_dropped code w.0.membrane ≡ false = ap (λ (z : HeadMembrane). z.has_closed_context) w.2 ∙ d in
      let moved : rest_moved code w.0.membrane ≡ true = elim (either_true (nothing_left code w.0.membrane) _ (all_is (is_emptied code) (membranes_found code.head) w.0 v.emptied (get_one (membranes_found code.head) e.0 w.0 w.1))) [
        | inl t ↦ absurd (true≢false (sym t ∙ left))
        | inr t ↦ elim (either_true (rest_moved code w.0.membrane) (rest_dropped code w.0.membrane) t) [ inl u ↦ u | inr u ↦ absurd (true≢false (sym u ∙ dropped)) ]
      ] in
      let one = counted_some (moves w.0.membrane) code.body 0 (eqb-true (count_by (moves w.0.membrane) code.body) 1 (moved_tests code w.0.membrane moved).0) in
      let i = moves_is w.0.membrane one.0 one.2 in
      let there : IsOneOf (MoveCells w.0.membrane i.0) code.body = subst (λ z. IsOneOf z code.body) i.1 one.1 in
      subst (λ z. IsOneOf z (rests (flat_body code))) number (of_moved code 0 tail code.body w.0.membrane i.0 there)

  pub of_open : (x : ℕ) → IsOneOf x (rests (flat_body code)) → (b : HeadMembrane) × HasMembrane (flat_head code) x b × (b.has_closed_context ≡ false)
  of_open x i =
      let w = moved_of code 0 tail code.body x i in
      let u = moved_rest x w.0 w.1 in
      (head_membrane code u.0, u.2, ap (rest_dropped code) u.1 ∙ u.4)

  pub of_closed : (x : ℕ) → IsOneOf x (closed_rests (flat_body code)) → (b : HeadMembrane) × HasMembrane (flat_head code) x b × (b.has_closed_context ≡ true)
  of_closed x i =
      let w = copied_of code 0 tail code.body x i in
      let u = copied_rest x w.0 w.1 in
      (head_membrane code u.0, u.2, ap (rest_dropped code) u.1 ∙ u.3)

  -- Where each link of its flat rule stands twice, and has a number below that of all, verified code is of a rule.
  pub is_rule : LinkedItems (flat_head code) (flat_body code) → ((x : ℕ) → IsOneOf x (links_of_head (flat_head code)) ⊎ IsOneOf x (body_links (flat_body code)) → x < link_count code) → NestedRule (flat_head code) (flat_body code) (link_count code)
  is_rule linked below =
      let order = (verified_is_in_order code k v).ready.order in
      record {
        atoms = record {
          held = typed_held code k v;
          typed_once = typed_once code k v;
          copied = λ e i. (let l = all_copied code 0 tail _ _ _ _ 0 _ code.body order e i in let a = typed_count code in let b = parts_counted code.head in get_there (typed_contexts_of (flat_head code)) e.1 (omega (arith, l, a, b)));
          head_made = head_made code k v;
          made = all_made code 0 tail (length (atoms_found code.head)) (1 + count) k code.body (body_is code k v);
          linked = linked;
          below = below;
        };
        placed =
            let n : length (membranes_of (flat_head code)) ≡ count = membrane_count code in
            let m : count ≡ membranes_set code.head = membranes_counted code.head in
            subst (λ z. WellPlaced z (1 + z) (flat_body code)) (sym n)
            (subst (λ z. WellPlaced count (1 + z) (flat_body code)) (sym m) (all_placed code 0 tail (length (atoms_found code.head)) count k code.body _ (1 + membranes_set code.head) _ _ 0 order (body_is code k v) once_moved));
        head_nests = head_nests code k v;
        inside = inside_head code k v;
        contexts = contexts;
        of_open = of_open;
        of_closed = of_closed;
      }

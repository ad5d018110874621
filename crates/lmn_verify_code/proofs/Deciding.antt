-- The tests, all together, decide whether code is verified.
use Rattle.std.proofs.Common.{◌≡◌, ◌≤◌, ◌+◌, zero, suc, ℕ, Bool, true, false, ◌&&◌, List, [], ◌∷◌, ◌++◌, map, length, drop, refl, sym, ap, ◌∙◌, arith, true≢false, Decides}
use Rattle.std.specs.Prelude.{count_by}
use Rattle.std.specs.List.{list_all, flat_map}
use Rattle.std.proofs.lemmas.Bool.{and_parts, and_from}
use Rattle.std.proofs.lemmas.List.{drop-drop, length-append, length-map}
use Rattle.std.proofs.lemmas.List.Concat.{flat_map-append}
use Rattle.lmn_congruence_splice.specs.Classes.{rising}
use Rattle.lmn_instr_code.specs.declared.instr.Code.{Code}
use Rattle.lmn_instr_code.specs.declared.instr.Instr.{Instr}
use Rattle.lmn_instr_code.specs.declared.instr.NewPort.{NewPort}
use Rattle.lmn_instr_code.specs.declared.instr.NewPort.TheVariants as new
use Rattle.lmn_instr_code.specs.declared.words.Operand.TheVariants as operand
use Rattle.lmn_verify_code.specs.Verified.{at_first, in_order, atoms_found, membranes_found, parts_found, arities, is_copy, places, has_port, named_ports, stand_once, ports_of_registers, ports_of, is_emptied, makes_and_ties, registers_held, held, takes_out, IsVerified}
use Rattle.lmn_verify_code.specs.Passing.{head_passes, body_passes, ports_pass}

-- a test of two lists
all_append : {A : Type 0} (f : A → Bool) (xs ys : List A) → list_all f (xs ++ ys) ≡ (list_all f xs && list_all f ys)
all_append f [] ys = refl
all_append f (x ∷ xs) ys = ap (λ b. f x && b) (all_append f xs ys) ∙ go (f x) (list_all f xs)
  where
    go : (a b : Bool) → (a && (b && list_all f ys)) ≡ ((a && b) && list_all f ys)
    go true b = refl
    go false b = refl

pub length_rising : (s n : ℕ) → length (rising s n) ≡ n
length_rising s zero = refl
length_rising s (suc n) = ap suc (length_rising (suc s) n)

length_held : (a g m : ℕ) → length (registers_held a g m) ≡ a + g + m
length_held a g m =
    let x = length-append (map operand.Atom (rising 0 a)) (map operand.Part (rising 0 g) ++ map operand.Membrane (rising 1 m)) in
    let y = length-append (map operand.Part (rising 0 g)) (map operand.Membrane (rising 1 m)) in
    let p : length (map operand.Atom (rising 0 a)) ≡ a = length-map (rising 0 a) operand.Atom ∙ length_rising 0 a in
    let q : length (map operand.Part (rising 0 g)) ≡ g = length-map (rising 0 g) operand.Part ∙ length_rising 0 g in
    let r : length (map operand.Membrane (rising 1 m)) ≡ m = length-map (rising 1 m) operand.Membrane ∙ length_rising 1 m in
    omega arith

-- the tests, of what a code finds and makes
abbrev pub head_test : Code → Bool
head_test code = head_passes code.head (atoms_found code.head) (membranes_found code.head) (parts_found code.head)

abbrev pub body_test : Code → ℕ → Bool
body_test code k = body_passes code.body (length (atoms_found code.head)) (length (membranes_found code.head)) (length (parts_found code.head)) k

abbrev pub ports_test : Code → Bool
ports_test code = ports_pass code.head code.body (flat_map places code.head ++ flat_map places code.body) (arities code) (count_by is_copy code.body)

abbrev rest_test : Code → ℕ → Bool
rest_test code k = makes_and_ties (1 + length (membranes_found code.head)) k (length (atoms_found code.head)) (drop (length (held code)) code.body)

body_is : (code : Code) (k : ℕ) → body_test code k ≡ (takes_out (held code) code.body && rest_test code k)
body_is code k =
    let a = length (atoms_found code.head) in
    let g = length (parts_found code.head) in
    let m = length (membranes_found code.head) in
    let behind : drop m (drop g (drop a code.body)) ≡ drop (length (held code)) code.body =
    ap (drop m) (drop-drop g a code.body) ∙ drop-drop m (a + g) code.body ∙ ap (λ n. drop n code.body) (sym (length_held a g m)) in
    let one : m + 1 ≡ 1 + m = omega arith in
    (λ j. takes_out (held code) code.body && makes_and_ties (one j) k a (behind j))

abbrev named : Code → Instr → Bool
named code i = list_all (has_port (arities code)) (named_ports i)

ports_are : (code : Code) → ports_test code ≡ (list_all (named code) (code.head ++ code.body) && stand_once (flat_map places (code.head ++ code.body)) (ports_of code))
ports_are code =
    let stands = flat_map places code.head ++ flat_map places code.body in
    let atoms = ports_of_registers 0 (arities code) in
    let copies = map new.Copy (rising 0 (count_by is_copy code.body)) in
    group (list_all (named code) code.head) (list_all (named code) code.body) (stand_once stands atoms && stand_once stands copies)
    ∙ (λ j. sym (all_append (named code) code.head code.body) j && (split stands atoms copies ∙ ap (λ s. stand_once s (atoms ++ copies)) (sym (flat_map-append places code.head code.body))) j)
  where
    group : (a b c : Bool) → (a && (b && c)) ≡ ((a && b) && c)
    group true b c = refl
    group false b c = refl

    split : (stands atoms copies : List NewPort) → (stand_once stands atoms && stand_once stands copies) ≡ stand_once stands (atoms ++ copies)
    split stands atoms copies = sym (all_append _ atoms copies)

refuted : {P : Type 0} → (P → ⊥) → Decides false P
refuted n = ((λ e. absurd (true≢false (sym e))), (λ p. absurd (n p)))

pub body_refuted : (code : Code) (k : ℕ) → body_test code k ≡ false → Decides false (IsVerified code k)
body_refuted code k e = refuted (λ v. true≢false (sym (and_from _ _ v.taken v.rest) ∙ sym (body_is code k) ∙ e))

pub decided : (code : Code) (k : ℕ) → in_order at_first (code.head ++ code.body) ≡ true → length (atoms_found code.head) + length (membranes_found code.head) ≤ 128
    → head_test code ≡ true → body_test code k ≡ true → list_all (is_emptied code) (membranes_found code.head) ≡ true → (r : Bool) → r ≡ ports_test code → Decides r (IsVerified code k)
decided code k order few heads bodies empty r e = (λ t. verified t, λ v. e ∙ ports_are code ∙ and_from _ _ v.ports v.once)
  where
    verified : r ≡ true → IsVerified code k
    verified t =
        let h1 = and_parts _ _ heads in
        let h2 = and_parts _ _ h1.1 in
        let h3 = and_parts _ _ h2.1 in
        let h4 = and_parts _ _ h3.1 in
        let h5 = and_parts _ _ h4.1 in
        let b = and_parts _ _ (sym (body_is code k) ∙ bodies) in
        let p = and_parts _ _ (sym (ports_are code) ∙ sym e ∙ t) in
        record {
          order = order;
          looked_at = h1.0;
          first = h2.0;
          integers = h3.0;
          few = few;
          ports = p.0;
          head = h4.0;
          apart = h5.0;
          apart_membranes = h5.1;
          taken = b.0;
          rest = b.1;
          emptied = empty;
          once = p.1;
        }

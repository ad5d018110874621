-- The clauses of verified code, instruction by instruction.
use Rattle.std.proofs.Common.{◌≡◌, ◌<◌, ◌≤◌, ◌-◌, ◌+◌, suc, ℕ, Bool, true, false, not, ◌&&◌, ◌||◌, if◌then◌else◌, List, [], ◌∷◌, ◌++◌, map, length, get_or, drop, take, refl, sym, ap, ◌∙◌, arith, true≢false}
use Rattle.std.specs.Prelude.{Option, Some, None, option_to_list, is_some, IfSome, IfNone, count_by, ◌==◌}
use Rattle.std.specs.List.{list_all, list_any}
use Rattle.std.proofs.lemmas.List.{at_drop_more, drop_all}
use Rattle.lmn_congruence_splice.specs.Classes.{rising}
use Rattle.lmn_verify_code.specs.declared.found.RegisterCounts.{RegisterCounts}
use Rattle.lmn_instr_code.specs.declared.instr.Instr.{Instr}
use Rattle.lmn_instr_code.specs.declared.words.Operand.{Operand}
use Rattle.lmn_instr_code.specs.declared.words.Operands.{Operands}
use Rattle.lmn_instr_code.specs.Words.{operands, all_operands}
use Rattle.lmn_verify_code.specs.Verified.{is_next, is_set, uses_in_order, after_one, in_order, after, after_all, at_first, sets_register, finds, surveys, finds_first, stand_once, same_port, port_of_register, takes_out, removes}
use Rattle.lmn_instr_code.specs.declared.instr.NewPort.{NewPort}
use Rattle.lmn_instr_code.specs.declared.instr.NewPort.TheVariants as new
use Rattle.lmn_base.proofs.Truth.{first_true as and_first}

-- what holds at what is left from a place on
pub more_at : {A B : Type 0} (F : List A → B) (xs : List A) (at : ℕ) (x : A) → at < length xs → x ≡ get_or xs at x → F (drop at xs) ≡ F (x ∷ drop (at + 1) xs)
more_at F xs at x l e = at_drop_more F xs at x l ∙ ap (λ y. F (y ∷ drop (at + 1) xs)) (sym e)

-- where nothing finds, what finds stands first
none_found : (is : List Instr) → list_any finds is ≡ false → finds_first is ≡ true
none_found [] e = refl
none_found (i ∷ is) e = go (finds i) (list_any finds is) (surveys i) refl e (none_found is)
  where
    go : (f a s : Bool) → list_any finds is ≡ a → (f || a) ≡ false → (list_any finds is ≡ false → finds_first is ≡ true) → ((not s || not (list_any finds is)) && finds_first is) ≡ true
    go true a s q e h = absurd (true≢false e)
    go false true s q e h = absurd (true≢false e)
    go false false true q e h = (λ j. not (q j) && h q j)
    go false false false q e h = h q

pub found_behind_survey : (head : List Instr) (at : ℕ) (x : Instr) (r s : Bool) → at < length head → x ≡ get_or head at x → r ≡ surveys x → r ≡ true
    → s ≡ list_any finds (drop (at + 1) head) → finds_first (drop at head) ≡ finds_first head → not s ≡ finds_first head
found_behind_survey head at x r s l e q t any inv =
    go (list_any finds (drop (at + 1) head)) refl ∙ sym (ap (λ b. (not b || not (list_any finds (drop (at + 1) head))) && finds_first (drop (at + 1) head)) (sym q ∙ t)) ∙ sym (more_at finds_first head at x l e) ∙ inv
  where
    go : (a : Bool) → list_any finds (drop (at + 1) head) ≡ a → not s ≡ ((false || not (list_any finds (drop (at + 1) head))) && finds_first (drop (at + 1) head))
    go true w = ap not (any ∙ w) ∙ sym (ap (λ b. not b && finds_first (drop (at + 1) head)) w)
    go false w = ap not (any ∙ w) ∙ sym (λ j. not (w j) && none_found (drop (at + 1) head) w j)

-- ---- registers

first_and_others : (sets : Bool) (c : RegisterCounts) (os : List Operand) → (list_all (λ o. if sets then is_next c o else is_set c o) (take 1 os) && list_all (is_set c) (drop 1 os)) ≡ uses_in_order sets c os
first_and_others sets c [] = refl
first_and_others sets c (o ∷ os) = go (if sets then is_next c o else is_set c o) (list_all (is_set c) os)
  where
    go : (a b : Bool) → ((a && true) && b) ≡ (a && b)
    go true b = refl
    go false b = refl

pub uses_told : (sets : Bool) (c : RegisterCounts) (ops : Operands) (os : List Operand) (first : Option Operand) (a b : Bool) → all_operands ops ≡ os
    → option_to_list first ≡ take 1 (all_operands ops) → a ≡ list_all (λ o. if sets then is_next c o else is_set c o) (option_to_list first)
    → b ≡ list_all (is_set c) (drop 1 (all_operands ops)) → (a && b) ≡ uses_in_order sets c os
uses_told sets c ops os first a b e f p q =
    (λ j. (p ∙ ap (list_all (λ o. if sets then is_next c o else is_set c o)) f) j && q j) ∙ first_and_others sets c (all_operands ops) ∙ ap (uses_in_order sets c) e

first_alone : (sets : Bool) (c : RegisterCounts) (os : List Operand) → after_one sets c (take 1 os) ≡ after_one sets c os
first_alone sets c [] = refl
first_alone sets c (o ∷ os) = refl

pub after_told : (sets : Bool) (c : RegisterCounts) (ops : Operands) (os : List Operand) (first : Option Operand) → all_operands ops ≡ os → option_to_list first ≡ take 1 (all_operands ops)
    → after_one sets c (option_to_list first) ≡ after_one sets c os
after_told sets c ops os first e f = ap (after_one sets c) (f ∙ ap (take 1) e) ∙ first_alone sets c os

pub first_allowed : (sets : Bool) (c : RegisterCounts) (ops : Operands) (os : List Operand) (first : Option Operand) → all_operands ops ≡ os → option_to_list first ≡ take 1 (all_operands ops)
    → uses_in_order sets c os ≡ true → list_all (λ o. if sets then is_next c o else is_set c o) (option_to_list first) ≡ true
first_allowed sets c ops os first e f u =
    ap (list_all (λ o. if sets then is_next c o else is_set c o)) (f ∙ ap (take 1) e) ∙ and_first _ _ (first_and_others sets c os ∙ u)

-- code in two parts
pub order_append : (c : RegisterCounts) (xs ys : List Instr) → in_order c (xs ++ ys) ≡ (in_order c xs && in_order (after_all c xs) ys)
order_append c [] ys = refl
order_append c (i ∷ is) ys = ap (λ b. uses_in_order (sets_register i) c (operands i) && b) (order_append (after c i) is ys) ∙ go (uses_in_order (sets_register i) c (operands i)) (in_order (after c i) is)
  where
    go : (a b : Bool) → (a && (b && in_order (after_all (after c i) is) ys)) ≡ ((a && b) && in_order (after_all (after c i) is) ys)
    go true b = refl
    go false b = refl

-- ---- numbers that rise

pub rising_more : (k n : ℕ) → k < n → rising k (n - k) ≡ k ∷ rising (k + 1) (n - (k + 1))
rising_more k n l =
    let one : n - k ≡ suc (n - (k + 1)) = omega arith in
    let next : suc k ≡ k + 1 = omega arith in
    ap (rising k) one ∙ ap (λ m. k ∷ rising m (n - (k + 1))) next

-- ---- both parts of a code

pub both_in_order : (d : RegisterCounts) (head body : List Instr) (c : RegisterCounts) (r : Option RegisterCounts) → d ≡ at_first → in_order d head ≡ true → c ≡ after_all d head
    → IfSome r (λ e. (in_order c body ≡ true) × (e ≡ after_all c body)) → IfNone r (in_order c body ≡ false) → is_some r ≡ in_order at_first (head ++ body)
both_in_order d head body c r first holds behind some none =
    told r some none ∙ ap (λ x. in_order x body) behind ∙ sym (ap (λ b. b && in_order (after_all d head) body) holds) ∙ sym (order_append d head body) ∙ ap (λ x. in_order x (head ++ body)) first
  where
    told : (r : Option RegisterCounts) → IfSome r (λ e. (in_order c body ≡ true) × (e ≡ after_all c body)) → IfNone r (in_order c body ≡ false) → is_some r ≡ in_order c body
    told None s n = sym n
    told (Some e) s n = sym s.0

pub not_in_order : (d : RegisterCounts) (head body : List Instr) → d ≡ at_first → in_order d head ≡ false → false ≡ in_order at_first (head ++ body)
not_in_order d head body first fails =
    sym (ap (λ b. b && in_order (after_all d head) body) fails) ∙ sym (order_append d head body) ∙ ap (λ x. in_order x (head ++ body)) first

-- ---- ports one after the other

abbrev atom_ports : ℕ → List ℕ → List NewPort
atom_ports atom ks = map (λ i. new.Atom (port_of_register atom i)) ks

pub ports_more : (stands : List NewPort) (atom n k : ℕ) → k < n → (r : Bool) → r ≡ (count_by (same_port (new.Atom (port_of_register atom k))) stands == 1) → r ≡ true
    → stand_once stands (atom_ports atom (rising k (n - k))) ≡ stand_once stands (atom_ports atom (rising 0 n))
    → stand_once stands (atom_ports atom (rising (k + 1) (n - (k + 1)))) ≡ stand_once stands (atom_ports atom (rising 0 n))
ports_more stands atom n k l r e t inv =
    ap (λ b. b && stand_once stands (atom_ports atom (rising (k + 1) (n - (k + 1))))) (sym t ∙ e) ∙ sym (ap (λ ks. stand_once stands (atom_ports atom ks)) (rising_more k n l)) ∙ inv

-- a port that doesn't stand once
pub ports_fail : (stands : List NewPort) (atom n k : ℕ) → k < n → (r : Bool) → r ≡ (count_by (same_port (new.Atom (port_of_register atom k))) stands == 1) → r ≡ false
    → stand_once stands (atom_ports atom (rising k (n - k))) ≡ stand_once stands (atom_ports atom (rising 0 n)) → false ≡ stand_once stands (atom_ports atom (rising 0 n))
ports_fail stands atom n k l r e t inv =
    ap (λ b. b && stand_once stands (atom_ports atom (rising (k + 1) (n - (k + 1))))) (sym t ∙ e) ∙ sym (ap (λ ks. stand_once stands (atom_ports atom ks)) (rising_more k n l)) ∙ inv

pub copies_more : (stands : List NewPort) (n k : ℕ) → k < n → (r : Bool) → r ≡ (count_by (same_port (new.Copy k)) stands == 1) → r ≡ true
    → stand_once stands (map new.Copy (rising k (n - k))) ≡ stand_once stands (map new.Copy (rising 0 n))
    → stand_once stands (map new.Copy (rising (k + 1) (n - (k + 1)))) ≡ stand_once stands (map new.Copy (rising 0 n))
copies_more stands n k l r e t inv =
    ap (λ b. b && stand_once stands (map new.Copy (rising (k + 1) (n - (k + 1))))) (sym t ∙ e) ∙ sym (ap (λ ks. stand_once stands (map new.Copy ks)) (rising_more k n l)) ∙ inv

-- a copy that doesn't
pub copies_fail : (stands : List NewPort) (n k : ℕ) → k < n → (r : Bool) → r ≡ (count_by (same_port (new.Copy k)) stands == 1) → r ≡ false
    → stand_once stands (map new.Copy (rising k (n - k))) ≡ stand_once stands (map new.Copy (rising 0 n)) → false ≡ stand_once stands (map new.Copy (rising 0 n))
copies_fail stands n k l r e t inv =
    ap (λ b. b && stand_once stands (map new.Copy (rising (k + 1) (n - (k + 1))))) (sym t ∙ e) ∙ sym (ap (λ ks. stand_once stands (map new.Copy ks)) (rising_more k n l)) ∙ inv

-- ---- what is taken out

rising_step : (s k n : ℕ) → k < n → rising s (n - k) ≡ s ∷ rising (s + 1) (n - (k + 1))
rising_step s k n l =
    let one : n - k ≡ suc (n - (k + 1)) = omega arith in
    let next : suc s ≡ s + 1 = omega arith in
    ap (rising s) one ∙ ap (λ m. s ∷ rising m (n - (k + 1))) next

-- registers of one kind from k on, of n, and then others
pub held_more : (F : ℕ → Operand) (os : List Operand) (s k n : ℕ) → k < n → map F (rising s (n - k)) ++ os ≡ F s ∷ (map F (rising (s + 1) (n - (k + 1))) ++ os)
held_more F os s k n l = ap (λ ks. map F ks ++ os) (rising_step s k n l)

pub last_more : (F : ℕ → Operand) (s k n : ℕ) → k < n → map F (rising s (n - k)) ≡ F s ∷ map F (rising (s + 1) (n - (k + 1)))
last_more F s k n l = ap (λ ks. map F ks) (rising_step s k n l)

-- the code ends too early
pub ends_early : (L M : List Operand) (o : Operand) (code : List Instr) (k : ℕ) (w : Bool) → L ≡ o ∷ M → length code ≤ k → takes_out L (drop k code) ≡ w → false ≡ w
ends_early L M o code k w e l inv = sym (ap (λ os. takes_out os []) e) ∙ ap (λ is. takes_out L is) (sym (drop_all k code l)) ∙ inv

takes_one : (L M : List Operand) (o : Operand) (code : List Instr) (k : ℕ) (x : Instr) → L ≡ o ∷ M → k < length code → x ≡ get_or code k x → takes_out L (drop k code) ≡ (removes x o && takes_out M (drop (k + 1) code))
takes_one L M o code k x e l q = more_at (takes_out L) code k x l q ∙ ap (λ os. takes_out os (x ∷ drop (k + 1) code)) e

-- an instruction doesn't take it out
pub not_removed : (L M : List Operand) (o : Operand) (code : List Instr) (k : ℕ) (x : Instr) (r w : Bool) → L ≡ o ∷ M → k < length code → x ≡ get_or code k x → r ≡ removes x o → r ≡ false
    → takes_out L (drop k code) ≡ w → false ≡ w
not_removed L M o code k x r w e l q t f inv = sym (ap (λ b. b && takes_out M (drop (k + 1) code)) (sym t ∙ f)) ∙ sym (takes_one L M o code k x e l q) ∙ inv

-- or it does
pub one_removed : (L M : List Operand) (o : Operand) (code : List Instr) (k : ℕ) (x : Instr) (r w : Bool) → L ≡ o ∷ M → k < length code → x ≡ get_or code k x → r ≡ removes x o → r ≡ true
    → takes_out L (drop k code) ≡ w → takes_out M (drop (k + 1) code) ≡ w
one_removed L M o code k x r w e l q t f inv = sym (ap (λ b. b && takes_out M (drop (k + 1) code)) (sym t ∙ f)) ∙ sym (takes_one L M o code k x e l q) ∙ inv

-- What is known while rules are asked, and membranes.
use Rattle.std.proofs.Common.{ℕ, suc, ◌≡◌, ◌<◌, ◌≤◌, ◌+◌, ◌-◌, List, [], ◌∷◌, length, Some, inl, inr, sym, ap, subst, ◌∙◌, arith}
use Rattle.std.specs.Prelude.{slice_get, take, drop, slice_index_or}
use Rattle.std.proofs.lemmas.List.{length-drop}
use Rattle.std.proofs.lemmas.Option.{slice_get-get_or}
use Rattle.lmn_store_heap.specs.Heap.{Heap, rules_in}
use Rattle.lmn_instr_code.specs.declared.instr.Code.{Code}
use Rattle.lmn_instr_code.specs.Running.{HeadRegisters, Succeeds}
use Rattle.lmn_machine.proofs.Besides.{known, known_agrees}
use Rattle.lmn_machine_registers.specs.declared.registers.SetRegisters.{SetRegisters}
use Rattle.lmn_schedule_strategy.specs.Between.{between}
use Rattle.lmn_schedule_strategy.specs.Choosing.{CodeSucceeds, NoneOf, HasFound}
use Rattle.lmn_schedule_strategy.proofs.Numbers.{take_one_more, take_whole}
use Rattle.lmn_base.specs.Lists.{In}
use Rattle.lmn_base.proofs.Lists.{in_either}

-- where a code has no success, its rule has none
pub fails : (h : Heap) (codes : List Code) (m n : ℕ) (code : Code) → slice_get codes n ≡ Some code → ((r : HeadRegisters) → Succeeds h code.head m r → ⊥) → CodeSucceeds h codes m n → ⊥
fails h codes m n code e none s =
    let same : s.code ≡ code = (let u : Some s.code ≡ Some code = sym s.is ∙ e in cc u) in
    none s.registers (subst (λ c. Succeeds h c.head m s.registers) same s.succeeds)

-- what was found is a success
pub found_succeeds : {A M : Type 0} (atom : A → ℕ) (membrane : M → ℕ) (h : Heap) (codes : List Code) (m n : ℕ) (g : SetRegisters A M) → HasFound atom membrane h codes m n g → CodeSucceeds h codes m n
found_succeeds atom membrane h codes m n g f = record {
  code = f.code;
  is = f.is;
  registers = known atom membrane g;
  succeeds = (f.first (known atom membrane g) (known_agrees atom membrane g)).succeeds;
}

in_one : (n m : ℕ) → In n (m ∷ []) → m ≡ n
in_one n m (inl e) = e
in_one n m (inr i) = absurd i

-- one rule more
pub none_of_more : (h : Heap) (codes : List Code) (m i n : ℕ) (xs : List ℕ) → slice_get xs i ≡ Some n → NoneOf h codes m (take i xs) → (CodeSucceeds h codes m n → ⊥) → NoneOf h codes m (take (i + 1) xs)
none_of_more h codes m i n xs e none fails = λ k p s. elim (in_either k (take i xs) (n ∷ []) (subst (In k) (ap (λ z. take z xs) (let z : i + 1 ≡ suc i = omega arith in z) ∙ take_one_more xs i n e) p)) [
  | inl q ↦ none k q s
  | inr q ↦ fails (subst (CodeSucceeds h codes m) (sym (in_one k n q)) s)
]

-- and all of them
pub none_of_all : (h : Heap) (codes : List Code) (m i : ℕ) (xs : List ℕ) → length xs ≤ i → NoneOf h codes m (take i xs) → NoneOf h codes m xs
none_of_all h codes m i xs l none = subst (NoneOf h codes m) (take_whole xs i l) none

-- up to a number
pub take_first : (xs : List ℕ) (i : ℕ) → between 0 i xs ≡ take i xs
take_first xs i = ap (λ n. take n xs) (let z : i - 0 ≡ i = omega arith in z)

-- from a number on, all
pub take_rest : (xs : List ℕ) (i many : ℕ) → many ≡ length xs → between i many xs ≡ drop i xs
take_rest xs i many e = take_whole (drop i xs) (many - i) (let l = length-drop i xs in omega (arith, l, e))

-- A rule is read at a place below the number of rules that were counted, and the heap is the same each time.
pub rule_below : (h j k : Heap) (m place many : ℕ) → j ≡ h → k ≡ h → many ≡ length (rules_in j m) → place < many → place < length (rules_in k m)
rule_below h j k m place many e f l p = let q : length (rules_in j m) ≡ length (rules_in k m) = ap (λ z. length (rules_in z m)) (e ∙ sym f) in omega (arith, l, p, q)

-- the rule that is read is one of the membrane
pub rule_read : (h j k : Heap) (m place many n : ℕ) → j ≡ h → k ≡ h → many ≡ length (rules_in j m) → place < many → slice_index_or (rules_in k m) place 0 ≡ n → slice_get (rules_in h m) place ≡ Some n
rule_read h j k m place many n e f l p r =
    subst (λ z. slice_get (rules_in z m) place ≡ Some n) f
    (slice_get-get_or (rules_in k m) place 0 (rule_below h j k m place many e f l p) ∙ ap (λ z. Some z) r)

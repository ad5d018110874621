-- Small scripts.
use Rattle.std.proofs.Common.{ℕ, ◌≡◌, ◌≢◌, List, [], ◌∷◌, AllPairs, codes, take, refl, sym, ap, subst, arith, inl, inr}
use Rattle.std.specs.Fmt.{digits}
use Rattle.lmn_base.specs.declared.guard.Cmp.{Cmp}
use Rattle.lmn_base.specs.declared.guard.Cmp.TheVariants.{Eq, Ge, Gt, Le, Lt, Ne}
use Rattle.lmn_base.specs.declared.refusal.Refusal.{Refusal}
use Rattle.lmn_base.proofs.Lists.{head_is, unlike}
use Rattle.lmn_instr_reading.proofs.QuotedLemmas.{no_functor}
use Rattle.lmn_instr_reading.specs.Reading.{IsFunctorText}
use Rattle.lmn_instr_reading.proofs.LineLemmas.{last_split}
use Rattle.lmn_debug_script.proofs.Cuts.{none_wrong, one_wrong}
use Rattle.lmn_debug_script.proofs.LineLemmas.{FrontForm, back_front, front_form, front_unknown, line_unnumbered, operator_spaceless, says_may, step_front, until_front, wish_form, without}
use Rattle.lmn_debug_script.proofs.OneOrder.{orders_alike}
use Rattle.lmn_debug_script.specs.Examples.{EightDigits, FirstIsNotWrong, NoFunctor, NoOperator, NoneWrong, NotOtherOrders, SecondIsWrong, SevenDigits, SmallOrders, SpaceBehind, SpaceInQuotes, TwoSpaces, a_functor, at_line, one_name, small_script, wrong_script}
use Rattle.lmn_debug_script.specs.Scripts.{HasForm, IsCountedOrder, MayStand, Says, an_empty_line, cmp_text, of_show, of_step, of_until, one_order, says_nothing}
use Rattle.lmn_debug_script.specs.declared.order.Order.{Order}
use Rattle.lmn_debug_script.specs.declared.order.Order.TheVariants.{Step, Until}

-- ---- lines

no_step : (line : List ℕ) → IsCountedOrder (codes "step") line 0 → HasForm line → ⊥
no_step line w h = go (front_form (codes "step") line 0 w h)
  where
    go : FrontForm (codes "step") 0 → ⊥
    go (step_front e l) = omega (arith, l)
    go (back_front e l) = unlike (codes "step") (codes "back") refl e
    go (until_front item op e f) = unlike (take 6 (codes "step")) (codes "until ") refl (ap (take 6) e)

-- no operator is written `=`
no_operator_so : (op : Cmp) → cmp_text op ≡ codes "=" → ⊥
no_operator_so Lt = unlike (codes "<") (codes "=") refl
no_operator_so Le = unlike (codes "=<") (codes "=") refl
no_operator_so Gt = unlike (codes ">") (codes "=") refl
no_operator_so Ge = unlike (codes ">=") (codes "=") refl
no_operator_so Eq = unlike (codes "=:=") (codes "=") refl
no_operator_so Ne = unlike (codes "=\\=") (codes "=") refl

pub seven_digits : SevenDigits
seven_digits = of_step {n = 1} (record { digits = codes "0000001"; number = refl; is = refl }) (omega arith)

pub eight_digits : EightDigits
eight_digits = line_unnumbered (codes "step 00000001") (codes "step") (codes "00000001") refl (without 32 (codes "00000001") refl) refl (unlike (codes "step 00000001") (codes "show") refl)

pub two_spaces : TwoSpaces
two_spaces =
    front_unknown (codes "step ") (codes "step  1") 1 (unlike (codes "step ") (codes "step") refl) (unlike (codes "step ") (codes "back") refl) (λ rest e. unlike (take 6 (codes "step ")) (codes "until ") refl (ap (take 6) e))
    (record { digits = codes "1"; number = refl; is = refl })

pub space_behind : SpaceBehind
space_behind = line_unnumbered (codes "show ") (codes "show") [] refl tt refl (unlike (codes "show ") (codes "show") refl)

pub space_in_quotes : SpaceInQuotes
unfolding digits
space_in_quotes =
    of_until {item = codes "'a b'/2"} {op = Ge} {n = 3} (record { front = codes "until 'a b'/2 >="; numbered = record { digits = codes "3"; number = refl; is = refl }; is = refl })
    (codes "'a b'", 2, inl (codes "a b", omega arith, refl), omega arith, refl)

pub no_operator : NoOperator
no_operator h =
    let p = wish_form (codes "a/0 =") (codes "until a/0 = 1") 1 (record { digits = codes "1"; number = refl; is = refl }) h in
    let r = last_split p.0 (cmp_text p.1) (codes "a/0") (codes "=") (operator_spaceless p.1) (without 32 (codes "=") refl) (sym p.2) in
    no_operator_so p.1 r.1

pub no_functor_there : NoFunctor
no_functor_there h =
    let p = wish_form (codes " =:=") (codes "until  =:= 1") 1 (record { digits = codes "1"; number = refl; is = refl }) h in
    let r = last_split p.0 (cmp_text p.1) [] (codes "=:=") (operator_spaceless p.1) (without 32 (codes "=:=") refl) (sym p.2) in
    let f : IsFunctorText [] = subst IsFunctorText r.0 p.3 in
    no_functor [] f.0 f.1 tt f.4

-- ---- scripts

small_says : Says one_name (codes "step 2" ∷ [] ∷ codes "until a/0 =:= 1" ∷ []) (Step 2 ∷ Until a_functor Eq 1 ∷ [])
unfolding digits
small_says =
    one_order {lines = codes "step 2" ∷ [] ∷ []} {orders = Step 2 ∷ []} (codes "until a/0 =:= 1") (Until a_functor Eq 1)
    (an_empty_line {lines = codes "step 2" ∷ []} (one_order {lines = []} {orders = []} (codes "step 2") (Step 2) says_nothing (record { digits = codes "2"; number = refl; is = refl }, omega arith)))
    (record { front = codes "until a/0 =:="; numbered = record { digits = codes "1"; number = refl; is = refl }; is = refl }, (omega arith, omega arith), omega arith)

pub small_orders : SmallOrders
small_orders = record {
  lines = codes "step 2" ∷ [] ∷ codes "until a/0 =:= 1" ∷ [];
  apart = (without 10 (codes "step 2") refl, (tt, (without 10 (codes "until a/0 =:= 1") refl, tt)));
  text_is = inr (codes "step 2" ∷ [] ∷ [], codes "until a/0 =:= 1", refl, (λ e. absurd (cc)), refl);
  say = small_says;
}

one_once : AllPairs (λ a b. a ≢ b) one_name
one_once i j d l k = absurd (omega (arith, l, k))

pub not_other_orders : NotOtherOrders
not_other_orders others = other (head_is (orders_alike one_name small_script _ _ one_once small_orders others))
  where
    number : Order → ℕ
    number (Step n) = n
    number _ = 0

    other : Step 2 ≡ Step 3 → ⊥
    other e = (let same = ap number e in omega (arith, same))

pub none_is_wrong : NoneWrong
none_is_wrong refusal w = none_wrong (small_orders.lines) small_script refusal small_orders.apart small_orders.text_is (says_may one_name small_orders.say) w

pub second_is_wrong : SecondIsWrong
second_is_wrong = record {
  lines = codes "show" ∷ [];
  apart = (without 10 (codes "show") refl, tt);
  may = (inr (of_show refl), tt);
  line = codes "step 0";
  rest = codes "\n";
  one = without 10 (codes "step 0") refl;
  ends = refl;
  text_is = refl;
  wrong = wrong;
  refused = refl;
}
  where
    wrong : MayStand (codes "step 0") → ⊥
    wrong (inl e) = absurd (cc)
    wrong (inr f) = no_step (codes "step 0") (record { digits = codes "0"; number = refl; is = refl }) f

pub first_is_not_wrong : FirstIsNotWrong
first_is_not_wrong w = other (one_wrong wrong_script (at_line 2) (at_line 1) second_is_wrong w)
  where
    other : at_line 2 ≡ at_line 1 → ⊥
    other e = (let same : 2 ≡ 1 = ap (λ (r : Refusal). r.pos.line) e in omega (arith, same))

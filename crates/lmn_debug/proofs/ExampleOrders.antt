-- What small scripts write.
use Rattle.std.proofs.Common.{ℕ, ◌≡◌, ◌<◌, ◌-◌, List, [], ◌∷◌, ◌++◌, codes, get_or, length, refl, ap, subst, ◌∙◌, arith, append-nil}
use Rattle.std.specs.Fmt.{digits}
use Rattle.std.specs.List.{concat}
use Rattle.std.proofs.lemmas.List.{length-append}
use Rattle.lmn_adequacy.specs.Runs.{loaded}
use Rattle.lmn_congruence.specs.Rules.{Name}
use Rattle.lmn_debug.specs.Courses.{Course}
use Rattle.lmn_debug.specs.Examples.{StepsStop, WaitsStop, growing_course, names_a}
use Rattle.lmn_debug.specs.declared.session.Stop.TheVariants as stop
use Rattle.lmn_debug_script.specs.declared.order.Order.{Order}
use Rattle.lmn_debug_script.specs.declared.order.Order.TheVariants.{Step, Back, Show}
use Rattle.lmn_debug.specs.CarryingExamples.{LinesMayFail, MemoryMayLack, OrdersAreWritten}
use Rattle.lmn_debug.specs.Orders.{LacksMemory, Obeys, ObeysAll, begun, line_at, obeyed, shown, stepped, waited, went_back}
use Rattle.lmn_debug.proofs.OneOutcome.{back_line}
use Rattle.lmn_base.proofs.Lists.{last_one}

-- ---- one order

pub none_before : {names : List Name} {g : Course} {xs : List Order} {lines : List (List ℕ)} {t : ℕ} → ObeysAll names g xs lines t → xs ≡ [] → (lines ≡ []) × (t ≡ 0)
none_before begun e = (refl, refl)
none_before (obeyed {orders = ys} {order = y} p o) e = let long = ap length e in let more = length-append ys (y ∷ []) in absurd (omega (arith, long, more))

one_before : {names : List Name} {g : Course} {xs : List Order} {lines : List (List ℕ)} {t : ℕ} (order : Order) → ObeysAll names g xs lines t → xs ≡ order ∷ [] → (line : List ℕ) × Obeys names g 0 order line t × (lines ≡ line ∷ [])
one_before order begun e = absurd (cc e)
one_before {names} {g} order (obeyed {orders = ys} {lines = ls} {t = t} {order = y} {line = line} {t' = t'} p o) e =
    let last = last_one ys [] y order e in
    let before = none_before p last.0 in
    (line, subst (λ n. Obeys names g n order line t') before.1 (subst (λ z. Obeys names g t z line t') last.1 o), ap (λ zs. zs ++ line ∷ []) before.0)

back_byte : {lines : List (List ℕ)} {t : ℕ} → ObeysAll names_a growing_course (Back 9 ∷ []) lines t → ¬ (codes "% at 1\n" ≡ concat lines)
unfolding digits
back_byte all e =
    let one = one_before (Back 9) all refl in
    let line : one.0 ≡ line_at (0 - 9) stop.Done = back_line one.1 in
    let whole : codes "% at 1\n" ≡ line_at (0 - 9) stop.Done = e ∙ ap concat one.2 ∙ append-nil one.0 ∙ line in
    let byte = ap (λ xs. get_or xs 5 0) whole in
    omega (arith, byte)

pub orders_are_written : StepsStop → WaitsStop → OrdersAreWritten
unfolding digits
orders_are_written steps waits = (
  record {
    lines = codes "a. (a :- a, a).\n" ∷ codes "% at 1 full\n" ∷ codes "% at 0\n" ∷ codes "% at 1 met\n" ∷ [];
    last = 1;
    obeys = obeyed (obeyed (obeyed (obeyed begun (shown (record { before = []; trace = loaded; count = refl }) refl)) (stepped (λ e. cc) steps.1)) went_back) (waited (λ e. cc) waits.0);
    is = refl;
  },
  λ w. back_byte w.obeys w.is,
)

-- an order in a list of one is that
in_one : (done others : List Order) (next order : Order) → order ∷ [] ≡ done ++ next ∷ others → next ≡ order
in_one [] others next order e = cc
in_one (x ∷ xs) others next order e = let long = ap length e in let more = length-append xs (next ∷ others) in absurd (omega (arith, long, more))

alone : (done others : List Order) (next order : Order) → order ∷ [] ≡ done ++ next ∷ others → done ≡ []
alone [] others next order e = refl
alone (x ∷ xs) others next order e = let long = ap length e in let more = length-append xs (next ∷ others) in absurd (omega (arith, long, more))

pub memory_may_lack : StepsStop → MemoryMayLack
unfolding digits
memory_may_lack steps = (
  record {
    done = Back 9 ∷ [];
    next = Step 1;
    others = Show ∷ [];
    are = refl;
    lines = codes "% at 0\n" ∷ [];
    at = 0;
    obeys = obeyed begun went_back;
    lacks = (0, steps.2);
    is = refl;
  },
  λ written w. subst (LacksMemory names_a growing_course w.at) (in_one w.done w.others w.next Show w.are) w.lacks,
  λ written w.
      let start = (none_before w.obeys (alone w.done w.others w.next (Back 9) w.are)).1 in
      let lacks : w.at - 9 < w.at = subst (LacksMemory names_a growing_course w.at) (in_one w.done w.others w.next (Back 9) w.are) w.lacks in
      omega (arith, start, lacks),
)

pub lines_may_fail : StepsStop → LinesMayFail
unfolding digits
lines_may_fail steps = (
  record {
    done = Back 9 ∷ Step 1 ∷ [];
    others = Show ∷ [];
    are = refl;
    lines = codes "% at 0\n" ∷ codes "% at 1\n" ∷ [];
    last = 1;
    obeys = obeyed (obeyed begun went_back) (stepped (λ e. cc) steps.0);
    is = refl;
  },
  λ w. by w.done w.others w.are w.obeys w.is,
)
  where
    by : {lines : List (List ℕ)} {t : ℕ} (done others : List Order) → Back 9 ∷ [] ≡ done ++ others → ObeysAll names_a growing_course done lines t → ¬ (codes "% at 1\n" ≡ concat lines)
    by [] others are all e = let none = none_before all refl in let bytes : codes "% at 1\n" ≡ [] = e ∙ ap concat none.0 in let long = ap length bytes in omega (arith, long)
    by {lines} {t} (x ∷ []) others are all e = let same : x ≡ Back 9 = cc in back_byte (subst (λ z. ObeysAll names_a growing_course (z ∷ []) lines t) same all) e
    by (x ∷ (y ∷ zs)) others are all e = let long = ap length are in let more = length-append zs others in absurd (omega (arith, long, more))

-- Orders have one outcome, but for want of memory.
use Rattle.std.proofs.Common.{ℕ, ◌≡◌, ◌≢◌, ◌<◌, ◌≤◌, ◌+◌, ◌-◌, ◌⊎◌, false, List, [], ◌∷◌, ◌++◌, All, length, drop, refl, sym, ap, subst, ◌∙◌, inl, inr, arith}
use Rattle.std.specs.List.{concat}
use Rattle.std.proofs.lemmas.List.{length-append, drop-append-le}
use Rattle.lmn_adequacy.specs.Runs.{End, irreducible, full, loaded}
use Rattle.lmn_adequacy.proofs.Runs.{end_is_one}
use Rattle.lmn_base.proofs.Lists.{all_of_right, last_one}
use Rattle.lmn_congruence.specs.Regions.{Region}
use Rattle.lmn_congruence.specs.Rules.{Name}
use Rattle.lmn_print_folded.specs.Lines.{IsLine}
use Rattle.lmn_debug_script.specs.declared.order.Order.{Order}
use Rattle.lmn_debug_script.specs.declared.order.Order.TheVariants.{Step, Back, Until, Show}
use Rattle.lmn_debug.specs.Courses.{Course, EndsSo, IsAt, Meets, StepsTo, Stepped, WaitsTo, Waited, Wish, most_commits, most_turns, wish}
use Rattle.lmn_debug.specs.declared.session.Stop.{Stop}
use Rattle.lmn_debug.specs.declared.session.Stop.TheVariants as stop
use Rattle.lmn_debug.specs.CarryingLaws.{BackUndoesStep, OrdersAreOne, OrdersStayInTrace, SolidsAreOne, WritingIsOne}
use Rattle.lmn_debug.specs.Orders.{Obeys, ObeysAll, begun, line_at, obeyed, shown, stepped, waited, went_back}
use Rattle.lmn_debug.proofs.TraceParts.{BeginsWell, earlier, ended, passed, solid_one}
use Rattle.lmn_base.proofs.Numbers.{in_order}

-- a course has one solid at a number
pub solids_are_one : SolidsAreOne
solids_are_one g t S S' closed accepted is is' = solid_one g (record { closed = closed; accepted = accepted }) t S S' is is'

-- ---- turns

module _ (g : Course) (well : BeginsWell g) where
  -- two ends at one number are the same
  end_one : (t : ℕ) (S S' : Region) (e d : End) → IsAt g t S → IsAt g t S' → EndsSo g t S e → EndsSo g t S' d → e ≡ d
  end_one t S S' e d is is' a b =
      (end_is_one g.chooser most_commits g.size g.first is.before is'.before S S' e d well.closed well.accepted is.trace (subst (λ n. EndsSo g n S e) (sym is.count) a) is'.trace
      (subst (λ n. EndsSo g n S' d) (sym is'.count) b)).2

  not_both_ends : (t : ℕ) (S S' : Region) → IsAt g t S → IsAt g t S' → EndsSo g t S irreducible → ¬ (EndsSo g t S' full)
  not_both_ends t S S' is is' a b = let e = end_one t S S' irreducible full is is' a b in cc

  module _ (t n : ℕ) where
    -- `step` doesn't stop before another number at which it stops
    step_no_later : (why why' : Stop) (t' t'' : ℕ) (S S' : Region) → why ≢ stop.NoMemory → why' ≢ stop.NoMemory → IsAt g t' S → IsAt g t'' S' → StepsTo g t n why t' S → t'' ≤ t + n → ¬ (t' < t'')
    step_no_later stop.Done why' t' t'' S S' a b is is' to most l = let e = to in omega (arith, e, most, l)
    step_no_later stop.Irreducible why' t' t'' S S' a b is is' to most l = ended g well t' t'' S S' irreducible is is' l to.1
    step_no_later stop.Full why' t' t'' S S' a b is is' to most l = ended g well t' t'' S S' full is is' l to.1
    step_no_later stop.Met why' t' t'' S S' a b is is' to most l = absurd to
    step_no_later stop.Limit why' t' t'' S S' a b is is' to most l = absurd to
    step_no_later stop.NoMemory why' t' t'' S S' a b is is' to most l = a refl

    step_most : (why : Stop) (t' : ℕ) (S : Region) → StepsTo g t n why t' S → t' ≤ t + n
    step_most stop.Done t' S to = let e = to in omega (arith, e)
    step_most stop.Irreducible t' S to = let w = to.0.1 in omega (arith, w)
    step_most stop.Full t' S to = let w = to.0.1 in omega (arith, w)
    step_most stop.Met t' S to = absurd to
    step_most stop.Limit t' S to = absurd to
    step_most stop.NoMemory t' S to = let w = to.0.1 in omega (arith, w)

    -- at one number it stops for one reason
    step_why : (why why' : Stop) (t' : ℕ) (S S' : Region) → why ≢ stop.NoMemory → why' ≢ stop.NoMemory → IsAt g t' S → IsAt g t' S' → StepsTo g t n why t' S → StepsTo g t n why' t' S' → why ≡ why'
    step_why stop.NoMemory why' t' S S' a b is is' to to' = absurd (a refl)
    step_why stop.Met why' t' S S' a b is is' to to' = absurd to
    step_why stop.Limit why' t' S S' a b is is' to to' = absurd to
    step_why stop.Done stop.Done t' S S' a b is is' to to' = refl
    step_why stop.Done stop.Irreducible t' S S' a b is is' to to' = let e = to in let w = to'.0.1 in absurd (omega (arith, e, w))
    step_why stop.Done stop.Full t' S S' a b is is' to to' = let e = to in let w = to'.0.1 in absurd (omega (arith, e, w))
    step_why stop.Done stop.Met t' S S' a b is is' to to' = absurd to'
    step_why stop.Done stop.Limit t' S S' a b is is' to to' = absurd to'
    step_why stop.Done stop.NoMemory t' S S' a b is is' to to' = absurd (b refl)
    step_why stop.Irreducible stop.Done t' S S' a b is is' to to' = let e = to' in let w = to.0.1 in absurd (omega (arith, e, w))
    step_why stop.Irreducible stop.Irreducible t' S S' a b is is' to to' = refl
    step_why stop.Irreducible stop.Full t' S S' a b is is' to to' = absurd (not_both_ends t' S S' is is' to.1 to'.1)
    step_why stop.Irreducible stop.Met t' S S' a b is is' to to' = absurd to'
    step_why stop.Irreducible stop.Limit t' S S' a b is is' to to' = absurd to'
    step_why stop.Irreducible stop.NoMemory t' S S' a b is is' to to' = absurd (b refl)
    step_why stop.Full stop.Done t' S S' a b is is' to to' = let e = to' in let w = to.0.1 in absurd (omega (arith, e, w))
    step_why stop.Full stop.Irreducible t' S S' a b is is' to to' = absurd (not_both_ends t' S' S is' is to'.1 to.1)
    step_why stop.Full stop.Full t' S S' a b is is' to to' = refl
    step_why stop.Full stop.Met t' S S' a b is is' to to' = absurd to'
    step_why stop.Full stop.Limit t' S S' a b is is' to to' = absurd to'
    step_why stop.Full stop.NoMemory t' S S' a b is is' to to' = absurd (b refl)

    step_one : (why why' : Stop) (t' t'' : ℕ) → why ≢ stop.NoMemory → why' ≢ stop.NoMemory → Stepped g t n why t' → Stepped g t n why' t'' → (why ≡ why') × (t' ≡ t'')
    step_one why why' t' t'' a b s s' = by (in_order t' t'')
      where
        by : (t' ≡ t'') ⊎ ((t' < t'') ⊎ (t'' < t')) → (why ≡ why') × (t' ≡ t'')
        by (inl e) = (
          step_why why why' t' s.solid s'.solid a b s.is (subst (λ k. IsAt g k s'.solid) (sym e) s'.is) s.stops (subst (λ k. StepsTo g t n why' k s'.solid) (sym e) s'.stops),
          e,
        )
        by (inr (inl l)) = absurd (step_no_later why why' t' t'' s.solid s'.solid a b s.is s'.is s.stops (step_most why' t'' s'.solid s'.stops) l)
        by (inr (inr l)) = absurd (step_no_later why' why t'' t' s'.solid s.solid b a s'.is s.is s'.stops (step_most why t' s.solid s.stops) l)

  -- ---- waiting

  module _ (names : List Name) (w : Wish) (t : ℕ) where
    abbrev Unmet : Region → Type 0
    Unmet S = ¬ (Meets names w S)

    wait_range : (why : Stop) (t' : ℕ) (S : Region) → WaitsTo names g w t why t' S → (t ≤ t') × (t' ≤ t + most_turns)
    wait_range stop.Done t' S to = absurd to
    wait_range stop.Irreducible t' S to = let a = to.0.0 in let b = to.0.1 in (a, omega (arith, b))
    wait_range stop.Full t' S to = let a = to.0.0 in let b = to.0.1 in (a, omega (arith, b))
    wait_range stop.Met t' S to = (to.0, to.1)
    wait_range stop.Limit t' S to = let e = to.0 in (omega (arith, e), omega (arith, e))
    wait_range stop.NoMemory t' S to = let a = to.0.0 in let b = to.0.1 in (a, omega (arith, b))

    -- a solid that stands before another at which it stops doesn't meet the wish
    unmet_before : (t' t'' : ℕ) (S S' : Region) → IsAt g t' S → (is : IsAt g t'' S') → All Unmet (drop t is.before) → t ≤ t' → t' < t'' → Unmet S
    unmet_before t' t'' S S' at is none from l =
        let p = passed g t' t'' S' is l in
        let here : IsAt g t' p.solid = record { before = p.solids; trace = p.trace; count = p.number } in
        let number = p.number in
        let short : t ≤ length p.solids = omega (arith, number, from) in
        let cut : drop t is.before ≡ drop t p.solids ++ (p.solid ∷ p.rest) = ap (drop t) p.parts ∙ drop-append-le t p.solids (p.solid ∷ p.rest) short in
        let behind : All Unmet (p.solid ∷ p.rest) = all_of_right Unmet (drop t p.solids) (p.solid ∷ p.rest) (subst (All Unmet) cut none) in
        subst Unmet (solid_one g well t' p.solid S here at) (behind 0 p.solid (omega arith))

    wait_no_later : (why : Stop) (t' t'' : ℕ) (S S' : Region) → why ≢ stop.NoMemory → IsAt g t' S → (is : IsAt g t'' S') → All Unmet (drop t is.before) → WaitsTo names g w t why t' S → t'' ≤ t + most_turns → ¬ (t' < t'')
    wait_no_later stop.Done t' t'' S S' a at is none to most l = absurd to
    wait_no_later stop.Irreducible t' t'' S S' a at is none to most l = ended g well t' t'' S S' irreducible at is l to.2
    wait_no_later stop.Full t' t'' S S' a at is none to most l = ended g well t' t'' S S' full at is l to.2
    wait_no_later stop.Met t' t'' S S' a at is none to most l = unmet_before t' t'' S S' at is none to.0 l to.2
    wait_no_later stop.Limit t' t'' S S' a at is none to most l = let e = to.0 in omega (arith, e, most, l)
    wait_no_later stop.NoMemory t' t'' S S' a at is none to most l = a refl

    wait_why : (why why' : Stop) (t' : ℕ) (S S' : Region) → why ≢ stop.NoMemory → why' ≢ stop.NoMemory → IsAt g t' S → IsAt g t' S' → WaitsTo names g w t why t' S → WaitsTo names g w t why' t' S' → why ≡ why'
    wait_why stop.NoMemory why' t' S S' a b is is' to to' = absurd (a refl)
    wait_why stop.Done why' t' S S' a b is is' to to' = absurd to
    wait_why stop.Irreducible stop.Done t' S S' a b is is' to to' = absurd to'
    wait_why stop.Irreducible stop.Irreducible t' S S' a b is is' to to' = refl
    wait_why stop.Irreducible stop.Full t' S S' a b is is' to to' = absurd (not_both_ends t' S S' is is' to.2 to'.2)
    wait_why stop.Irreducible stop.Met t' S S' a b is is' to to' = absurd (to.1 (subst (Meets names w) (sym (solid_one g well t' S S' is is')) to'.2))
    wait_why stop.Irreducible stop.Limit t' S S' a b is is' to to' = let e = to'.0 in let v = to.0.1 in absurd (omega (arith, e, v))
    wait_why stop.Irreducible stop.NoMemory t' S S' a b is is' to to' = absurd (b refl)
    wait_why stop.Full stop.Done t' S S' a b is is' to to' = absurd to'
    wait_why stop.Full stop.Irreducible t' S S' a b is is' to to' = absurd (not_both_ends t' S' S is' is to'.2 to.2)
    wait_why stop.Full stop.Full t' S S' a b is is' to to' = refl
    wait_why stop.Full stop.Met t' S S' a b is is' to to' = absurd (to.1 (subst (Meets names w) (sym (solid_one g well t' S S' is is')) to'.2))
    wait_why stop.Full stop.Limit t' S S' a b is is' to to' = let e = to'.0 in let v = to.0.1 in absurd (omega (arith, e, v))
    wait_why stop.Full stop.NoMemory t' S S' a b is is' to to' = absurd (b refl)
    wait_why stop.Met stop.Done t' S S' a b is is' to to' = absurd to'
    wait_why stop.Met stop.Irreducible t' S S' a b is is' to to' = absurd (to'.1 (subst (Meets names w) (solid_one g well t' S S' is is') to.2))
    wait_why stop.Met stop.Full t' S S' a b is is' to to' = absurd (to'.1 (subst (Meets names w) (solid_one g well t' S S' is is') to.2))
    wait_why stop.Met stop.Met t' S S' a b is is' to to' = refl
    wait_why stop.Met stop.Limit t' S S' a b is is' to to' = absurd (to'.1 (subst (Meets names w) (solid_one g well t' S S' is is') to.2))
    wait_why stop.Met stop.NoMemory t' S S' a b is is' to to' = absurd (b refl)
    wait_why stop.Limit stop.Done t' S S' a b is is' to to' = absurd to'
    wait_why stop.Limit stop.Irreducible t' S S' a b is is' to to' = let e = to.0 in let v = to'.0.1 in absurd (omega (arith, e, v))
    wait_why stop.Limit stop.Full t' S S' a b is is' to to' = let e = to.0 in let v = to'.0.1 in absurd (omega (arith, e, v))
    wait_why stop.Limit stop.Met t' S S' a b is is' to to' = absurd (to.1 (subst (Meets names w) (sym (solid_one g well t' S S' is is')) to'.2))
    wait_why stop.Limit stop.Limit t' S S' a b is is' to to' = refl
    wait_why stop.Limit stop.NoMemory t' S S' a b is is' to to' = absurd (b refl)

    wait_one : (why why' : Stop) (t' t'' : ℕ) → why ≢ stop.NoMemory → why' ≢ stop.NoMemory → Waited names g w t why t' → Waited names g w t why' t'' → (why ≡ why') × (t' ≡ t'')
    wait_one why why' t' t'' a b s s' = by (in_order t' t'')
      where
        by : (t' ≡ t'') ⊎ ((t' < t'') ⊎ (t'' < t')) → (why ≡ why') × (t' ≡ t'')
        by (inl e) = (
          wait_why why why' t' s.solid s'.solid a b s.is (subst (λ k. IsAt g k s'.solid) (sym e) s'.is) s.stops (subst (λ k. WaitsTo names g w t why' k s'.solid) (sym e) s'.stops),
          e,
        )
        by (inr (inl l)) = absurd (wait_no_later why t' t'' s.solid s'.solid a s.is s'.is s'.none_before s.stops (wait_range why' t'' s'.solid s'.stops).1 l)
        by (inr (inr l)) = absurd (wait_no_later why' t'' t' s'.solid s.solid b s'.is s.is s.none_before s'.stops (wait_range why t' s.solid s.stops).1 l)

-- ---- an order

-- what is known of an order that was carried out, by the order
abbrev Done : List Name → Course → ℕ → Order → List ℕ → ℕ → Type 0
Done names g t (Step n) line t' = (why : Stop) × (why ≢ stop.NoMemory) × Stepped g t n why t' × (line ≡ line_at t' why)
Done names g t (Back n) line t' = (line ≡ line_at (t - n) stop.Done) × (t' ≡ t - n)
Done names g t (Until f op n) line t' = (why : Stop) × (why ≢ stop.NoMemory) × Waited names g (wish f op n) t why t' × (line ≡ line_at t' why)
Done names g t Show line t' = (S : Region) × IsAt g t S × IsLine false S line × (t' ≡ t)

done : {names : List Name} {g : Course} {t : ℕ} {order : Order} {line : List ℕ} {t' : ℕ} → Obeys names g t order line t' → Done names g t order line t'
done (stepped {stop = why} ne s) = (why, ne, s, refl)
done went_back = (refl, refl)
done (waited {stop = why} ne s) = (why, ne, s, refl)
done (shown {S = S} is line) = (S, is, line, refl)

-- the line of `back n`
pub back_line : {names : List Name} {g : Course} {t n t' : ℕ} {line : List ℕ} → Obeys names g t (Back n) line t' → line ≡ line_at (t - n) stop.Done
back_line o = (done o).0

module _ (names : List Name) (g : Course) (t : ℕ) (well : BeginsWell g) where
  same_line : {line line' : List ℕ} {t' t'' : ℕ} {why why' : Stop} → line ≡ line_at t' why → line' ≡ line_at t'' why' → (why ≡ why') × (t' ≡ t'') → (line ≡ line') × (t' ≡ t'')
  same_line {t'' = t''} {why = why} a b same = (a ∙ ap (λ k. line_at k why) same.1 ∙ ap (line_at t'') same.0 ∙ sym b, same.1)

  done_one : (order : Order) (line line' : List ℕ) (t' t'' : ℕ) → Done names g t order line t' → Done names g t order line' t'' → (line ≡ line') × (t' ≡ t'')
  done_one (Step n) line line' t' t'' d e = same_line d.3 e.3 (step_one g well t n d.0 e.0 t' t'' d.1 e.1 d.2 e.2)
  done_one (Back n) line line' t' t'' d e = (d.0 ∙ sym e.0, d.1 ∙ sym e.1)
  done_one (Until f op n) line line' t' t'' d e = same_line d.3 e.3 (wait_one g well names (wish f op n) t d.0 e.0 t' t'' d.1 e.1 d.2 e.2)
  done_one Show line line' t' t'' d e = (d.2 ∙ sym (subst (λ S. IsLine false S line') (sym (solid_one g well t d.0 e.0 d.1 e.1)) e.2), d.3 ∙ sym e.3)

-- an order that is carried out has one line, and leads to one number
pub orders_are_one : OrdersAreOne
orders_are_one names g t order line line' t' t'' closed accepted a b = done_one names g t (record { closed = closed; accepted = accepted }) order line line' t' t'' (done a) (done b)

-- ---- orders one behind the other

module _ (names : List Name) (g : Course) (well : BeginsWell g) where
  none_or_more : {A : Type 0} (xs : List A) (x : A) → ¬ ([] ≡ xs ++ x ∷ [])
  none_or_more xs x e = let long = ap length e in let more = length-append xs (x ∷ []) in omega (arith, long, more)

  all_one : {xs ys : List Order} {lines lines' : List (List ℕ)} {t t' : ℕ} → ObeysAll names g xs lines t → ObeysAll names g ys lines' t' → xs ≡ ys → (lines ≡ lines') × (t ≡ t')
  all_one begun begun e = (refl, refl)
  all_one begun (obeyed {orders = ys} {order = y} q o) e = absurd (none_or_more ys y e)
  all_one (obeyed {orders = xs} {order = x} p o) begun e = absurd (none_or_more xs x (sym e))
  all_one (obeyed {orders = xs} {lines = ls} {t = t} {order = x} {line = l} {t' = k} p o) (obeyed {orders = ys} {lines = ms} {t = s} {order = y} {line = m} {t' = j} q o') e =
      let last = last_one xs ys x y e in
      let before = all_one p q last.0 in
      let there : Obeys names g t x m j = subst (λ n. Obeys names g n x m j) (sym before.1) (subst (λ z. Obeys names g s z m j) (sym last.1) o') in
      let here = orders_are_one names g t x l m k j well.closed well.accepted o there in
      (ap (λ zs. zs ++ l ∷ []) before.0 ∙ ap (λ z. ms ++ z ∷ []) here.0, here.1)

-- what is written of orders that are all carried out is one text
pub writing_is_one : WritingIsOne
writing_is_one names g orders written written' closed accepted a b = a.is ∙ ap concat (all_one names g (record { closed = closed; accepted = accepted }) a.obeys b.obeys refl).0 ∙ sym b.is

-- an order leads from a solid of the trace to another
next_solid : (names : List Name) (g : Course) (t : ℕ) (order : Order) (line : List ℕ) (t' : ℕ) → (S : Region) × IsAt g t S → Done names g t order line t' → (S : Region) × IsAt g t' S
next_solid names g t (Step n) line t' from d = (d.2.solid, d.2.is)
next_solid names g t (Back n) line t' from d = subst (λ k. (S : Region) × IsAt g k S) (sym d.1) (earlier g t (t - n) from.0 from.1 (omega arith))
next_solid names g t (Until f op n) line t' from d = (d.2.solid, d.2.is)
next_solid names g t Show line t' from d = subst (λ k. (S : Region) × IsAt g k S) (sym d.3) from

stay : {names : List Name} {g : Course} {orders : List Order} {lines : List (List ℕ)} {t : ℕ} → ObeysAll names g orders lines t → (S : Region) × IsAt g t S
stay {g = g} begun = (g.first, record { before = []; trace = loaded; count = refl })
stay {names} {g} (obeyed {t = t} {order = order} {line = line} {t' = t'} p o) = next_solid names g t order line t' (stay p) (done o)

-- orders lead to a number at which the trace has a solid
pub orders_stay_in_trace : OrdersStayInTrace
orders_stay_in_trace names g orders lines t all = stay all

-- `back n` leads to where so many turns began that all committed
pub back_undoes_step : BackUndoesStep
back_undoes_step names g t n t' t'' line s o = let e = (done o).1 in let to = s.stops in omega (arith, e, to)

-- What an order does, by what the session tells of it and what of its line was written.
use Rattle.std.proofs.Common.{ℕ, ◌≡◌, ◌≢◌, ◌<◌, ◌+◌, ◌-◌, false, List, [], ◌∷◌, ◌++◌, length, get_or, take, drop, Option, Result, Ok, Err, refl, sym, ap, subst, ◌∙◌, add-one, append_assoc, append-nil}
use Rattle.std.specs.List.{concat}
use Rattle.std.specs.Result.{IsErrAnd, MatchResult}
use Rattle.std.proofs.Math.Seq.{drop-cons}
use Rattle.std.proofs.lemmas.List.{take_more, take-append-drop}
use Rattle.std.proofs.lemmas.List.Folds.{concat-append}
use Rattle.lmn_base.specs.declared.functor.Functor.{Functor}
use Rattle.lmn_base.specs.declared.guard.Cmp.{Cmp}
use Rattle.lmn_base.specs.declared.rule.Plain.{Plain}
use Rattle.lmn_base.specs.declared.rule.RuleTree.{RuleTree}
use Rattle.lmn_base.specs.WellMade.{IsWellMade}
use Rattle.lmn_adequacy.proofs.PlainSolids.{solid_of_plain_is_one}
use Rattle.lmn_congruence.specs.Regions.{Region}
use Rattle.lmn_congruence.specs.Rules.{Name}
use Rattle.lmn_congruence.specs.Translation.{region_of}
use Rattle.lmn_store_heap.specs.Heap.{Heap}
use Rattle.lmn_io.specs.Taking.{Takes, TakesPrefix}
use Rattle.lmn_io.proofs.TakingLemmas.{prefix_after, takes_both, takes_nothing}
use Rattle.lmn_app_drive.proofs.Lines.{line_held}
use Rattle.lmn_print.specs.Lines.{IsHeapLine}
use Rattle.lmn_app_runs.proofs.TraceLines.{some_line}
use Rattle.lmn_schedule.specs.Held.{HoldsRegion, HoldsSolid}
use Rattle.lmn_debug_script.specs.declared.order.Order.{Order}
use Rattle.lmn_debug_script.specs.declared.order.Order.TheVariants.{Step, Back, Until, Show}
use Rattle.lmn_debug.specs.Courses.{Course, Stepped, Waited, wish}
use Rattle.lmn_debug.specs.Sessions.{StandsAt, StandsStepped, StandsWaited}
use Rattle.lmn_debug.specs.declared.session.Stop.{Stop}
use Rattle.lmn_debug.specs.declared.session.Stop.TheVariants as stop
use Rattle.lmn_debug.specs.declared.debugging.DebugFault.{DebugFault}
use Rattle.lmn_debug.specs.declared.debugging.DebugFault.TheVariants.{NoMemory, Failed}
use Rattle.lmn_debug.specs.Debugged.{Debugged, FailedSo}
use Rattle.lmn_debug.specs.Obeying.{IsRegionOf, LineTold, Obeyed, ObeyedSo, Unobeyed}
use Rattle.lmn_debug.specs.Orders.{LacksMemory, ObeyedAll, Obeys, ObeysAll, begun, line_at, obeyed, shown, stepped, waited, went_back}
use Rattle.lmn_schedule.proofs.Common.{closed_held}

-- what holds of a closure, of the rules of a plain and of a size holds of equal ones
pub moved : {F : Type 0} (Q : F → List RuleTree → ℕ → Type 0) {f f' : F} {p p' : Plain} {n n' : ℕ} → f ≡ f' → p ≡ p' → n ≡ n' → Q f p.rules n → Q f' p'.rules n'
moved Q {f} {f'} {p} {p'} {n} {n'} a b d q = subst (λ x. Q x p'.rules n') a (subst (λ x. Q f x.rules n') b (subst (λ x. Q f p.rules x) d q))

-- a heap that holds the solid of the plain holds the first region
pub first_is_one : (names : List Name) (plain : Plain) (h : Heap) → IsWellMade plain → (held : HoldsSolid names plain h) → (S : Region) → IsRegionOf names plain S → held.solid ≡ S
first_is_one names plain h made held S first =
    let from = held.from in
    from.2 ∙ ap (region_of names plain.rules) (solid_of_plain_is_one plain from.0 first.0 made from.1 first.1) ∙ sym first.2

pub first_held : (names : List Name) (plain : Plain) (h : Heap) → IsWellMade plain → HoldsSolid names plain h → (S : Region) → IsRegionOf names plain S → HoldsRegion names plain.rules h S
first_held names plain h made held S first = subst (HoldsRegion names plain.rules h) (first_is_one names plain h made held S first) held.holds

module _ (names : List Name) (table : List RuleTree) (g : Course) (t : ℕ) where
  -- an order was carried out as its line says, or it lacks memory: what is written of it
  pub told_obeyed : {A : Type 0} (order : Order) (why : Stop) (t' : ℕ) (h : Heap) (old new : Option (List ℕ)) (result : Result A DebugFault) →
      (why ≢ stop.NoMemory → Obeys names g t order (line_at t' why) t') → (why ≡ stop.NoMemory → LacksMemory names g t order) → StandsAt names table g t' h → LineTold t' why old new result →
      MatchResult result (λ done. Obeyed names table g t order t' h old new) (λ fault. Unobeyed names g t order fault old new)
  told_obeyed order why t' h old new (Ok x) does lacks stands told = record { line = line_at t' why; obeys = does told.0; took = told.1; stands = stands }
  told_obeyed order why t' h old new (Err NoMemory) does lacks stands told = (lacks told.0, told.1)
  told_obeyed order why t' h old new (Err Failed) does lacks stands told = (line_at t' why, t', does told.0, told.1)

  -- `step n`
  pub step_obeyed : {A : Type 0} (n : ℕ) (why : Stop) (t' : ℕ) (h : Heap) (old new : Option (List ℕ)) (result : Result A DebugFault) →
      StandsStepped names table g t n why t' h → LineTold t' why old new result →
      MatchResult result (λ done. Obeyed names table g t (Step n) t' h old new) (λ fault. Unobeyed names g t (Step n) fault old new)
  step_obeyed n why t' h old new result s =
      told_obeyed (Step n) why t' h old new result (λ ne. stepped ne s.stepped) (λ e. (t', subst (λ w. Stepped g t n w t') e s.stepped)) (record { solid = s.stepped.solid; is = s.stepped.is; holds = s.holds })

  -- `until`
  pub until_obeyed : {A : Type 0} (f : Functor) (op : Cmp) (n : ℕ) (why : Stop) (t' : ℕ) (h : Heap) (old new : Option (List ℕ)) (result : Result A DebugFault) →
      StandsWaited names table g (wish f op n) t why t' h → LineTold t' why old new result →
      MatchResult result (λ done. Obeyed names table g t (Until f op n) t' h old new) (λ fault. Unobeyed names g t (Until f op n) fault old new)
  until_obeyed f op n why t' h old new result s =
      told_obeyed (Until f op n) why t' h old new result (λ ne. waited ne s.waited) (λ e. (t', subst (λ w. Waited names g (wish f op n) t w t') e s.waited)) (record { solid = s.waited.solid; is = s.waited.is; holds = s.holds })

  -- `back n`
  pub back_obeyed : {A : Type 0} (n t' : ℕ) (h : Heap) (old new : Option (List ℕ)) (result : Result A DebugFault) → t' ≡ t - n →
      StandsAt names table g t' h → LineTold t' stop.Done old new result →
      MatchResult result (λ done. Obeyed names table g t (Back n) t' h old new) (λ fault. Unobeyed names g t (Back n) fault old new)
  back_obeyed n t' h old new result e stands =
      told_obeyed (Back n) stop.Done t' h old new result (λ ne. subst (λ k. Obeys names g t (Back n) (line_at k stop.Done) k) (sym e) went_back) (λ d. absurd (cc d)) stands

  -- the line of a solid that the heap holds
  pub show_line : (h : Heap) → StandsAt names table g t h → (line : List ℕ) × Obeys names g t Show line t × IsHeapLine false names table h line
  show_line h s =
      let line = some_line false s.solid (closed_held s.holds) in
      (line.0, shown s.is line.1, line_held false names table h s.solid line.0 s.holds line.1)

  -- `show`
  module _ (t' : ℕ) (h h' : Heap) (old new : Option (List ℕ)) (same : t' ≡ t) (s : StandsAt names table g t h) where
    abbrev line_there : (line : List ℕ) × Obeys names g t Show line t × IsHeapLine false names table h line
    line_there = show_line h s

    pub show_obeyed : h' ≡ h → ((line : List ℕ) → IsHeapLine false names table h line → Takes line old new) → Obeyed names table g t Show t' h' old new
    show_obeyed kept took = record {
      line = line_there.0;
      obeys = subst (Obeys names g t Show line_there.0) (sym same) line_there.1;
      took = took line_there.0 line_there.2;
      stands = subst (λ k. StandsAt names table g k h') (sym same) (subst (StandsAt names table g t) (sym kept) s);
    }

    pub show_failed : ((line : List ℕ) → IsHeapLine false names table h line → TakesPrefix line old new) → Unobeyed names g t Show Failed old new
    show_failed part = (line_there.0, t, line_there.1, part line_there.0 line_there.2)

-- what holds of a fault holds where `?` hands it on
pub at_fault : {A : Type 0} (P : A → Type 0) (Q : DebugFault → Type 0) (fault : DebugFault) (r : Result A DebugFault) → IsErrAnd r (λ e. e ≡ fault) → Q fault → MatchResult r P Q
at_fault P Q fault (Ok x) f q = absurd f
at_fault P Q fault (Err e) f q = subst Q (sym f) q

-- ---- orders one behind the other

module _ (names : List Name) (table : List RuleTree) (g : Course) (old : Option (List ℕ)) where
  -- no order
  pub none_obeyed : (t : ℕ) (h : Heap) → t ≡ 0 → StandsAt names table g 0 h → ObeyedSo names table g [] t h old old
  none_obeyed t h e s = record {
    lines = [];
    obeys = subst (ObeysAll names g [] []) (sym e) begun;
    took = takes_nothing old;
    stands = subst (λ k. StandsAt names table g k h) (sym e) s;
  }

  module _ (orders : List Order) (i : ℕ) (d : Order) (within : i < length orders) where
    abbrev order : Order
    order = get_or orders i d

    abbrev cut : orders ≡ take i orders ++ order ∷ drop (i + 1) orders
    cut = sym (take-append-drop i orders) ∙ ap (λ xs. take i orders ++ xs) (drop-cons orders i d within ∙ ap (λ k. order ∷ drop k orders) (sym (add-one i)))

    abbrev cut_behind : orders ≡ (take i orders ++ order ∷ []) ++ drop (i + 1) orders
    cut_behind = cut ∙ sym (append_assoc (take i orders) (order ∷ []) (drop (i + 1) orders))

    module _ (t : ℕ) (h : Heap) (mid : Option (List ℕ)) (so : ObeyedSo names table g (take i orders) t h old mid) where
      -- one order more
      pub one_obeyed : (t' : ℕ) (h' : Heap) (new : Option (List ℕ)) → Obeyed names table g t order t' h' mid new → ObeyedSo names table g (take (i + 1) orders) t' h' old new
      one_obeyed t' h' new o = record {
        lines = so.lines ++ o.line ∷ [];
        obeys = subst (λ xs. ObeysAll names g xs (so.lines ++ o.line ∷ []) t') (sym (take_more orders i d within)) (obeyed so.obeys o.obeys);
        took = subst (λ bytes. Takes bytes old new) (sym (joined so.lines o.line)) (takes_both (concat so.lines) o.line old mid new so.took o.took);
        stands = o.stands;
      }
        where
          joined : (lines : List (List ℕ)) (line : List ℕ) → concat (lines ++ line ∷ []) ≡ concat lines ++ line
          joined lines line = concat-append lines (line ∷ []) ∙ ap (λ bytes. concat lines ++ bytes) (append-nil line)

      -- one that is not carried out, or not written
      pub failed_behind : (fault : DebugFault) (new : Option (List ℕ)) → Unobeyed names g t order fault mid new → FailedSo names g orders fault old new
      failed_behind NoMemory new u = (
        concat so.lines,
        record { done = take i orders; next = order; others = drop (i + 1) orders; are = cut; lines = so.lines; at = t; obeys = so.obeys; lacks = u.0; is = refl },
        subst (Takes (concat so.lines) old) (sym u.1) so.took,
      )
      failed_behind Failed new u = (
        concat so.lines ++ u.0,
        record {
          done = take i orders ++ order ∷ [];
          others = drop (i + 1) orders;
          are = cut_behind;
          lines = so.lines ++ u.0 ∷ [];
          last = u.1;
          obeys = obeyed so.obeys u.2;
          is = sym (concat-append so.lines (u.0 ∷ []) ∙ ap (λ bytes. concat so.lines ++ bytes) (append-nil u.0));
        },
        prefix_after (concat so.lines) u.0 old mid new so.took u.3,
      )

-- all orders were carried out: what is written of them
pub all_written : (names : List Name) (table : List RuleTree) (g : Course) (orders : List Order) (t : ℕ) (h : Heap) (old new : Option (List ℕ)) → ObeyedSo names table g orders t h old new →
    (written : List ℕ) × ObeyedAll names g orders written × Takes written old new
all_written names table g orders t h old new so = (concat so.lines, record { lines = so.lines; last = t; obeys = so.obeys; is = refl }, so.took)

-- what is said of orders where a session stands says how they ended
pub all_debugged : {A : Type 0} (names : List Name) (table : List RuleTree) (g : Course) (orders : List Order) (t : ℕ) (h : Heap) (old new : Option (List ℕ)) (r : Result A DebugFault) →
    MatchResult r (λ done. ObeyedSo names table g orders t h old new) (λ fault. FailedSo names g orders fault old new) → Debugged names g orders r old new
all_debugged names table g orders t h old new (Ok x) so = all_written names table g orders t h old new so
all_debugged names table g orders t h old new (Err fault) so = so

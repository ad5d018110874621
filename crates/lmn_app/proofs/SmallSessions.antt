-- Sessions over a small text.
use Rattle.std.proofs.Common.{◌≡◌, ◌≢◌, ℕ, List, [], ◌∷◌, ◌++◌, length, refl, ap, ◌∙◌, subst, inl, arith, append-nil, length-append}
use Rattle.std.specs.Prelude.{codes}
use Rattle.std.specs.Fmt.{digits}
use Rattle.std.specs.List.{concat}
use Rattle.lmn_adequacy.specs.Runs.{loaded, nothing_embeds}
use Rattle.lmn_adequacy.proofs.ExampleChanges.{short_trace_ends}
use Rattle.lmn_base.specs.Links.{no_more}
use Rattle.lmn_base.proofs.Lists.{head_is, unlike}
use Rattle.lmn_congruence.specs.Regions.{Region}
use Rattle.lmn_congruence.specs.Rules.{Name}
use Rattle.lmn_debug.specs.Courses.{Course, StepsTo, course}
use Rattle.lmn_debug.specs.declared.session.Stop.{Stop}
use Rattle.lmn_debug.specs.declared.session.Stop.TheVariants.{Done, Irreducible, Full, Met, Limit, NoMemory}
use Rattle.lmn_debug.specs.Orders.{Obeys, ObeysAll, begun, line_at, obeyed, shown, stepped, went_back}
use Rattle.lmn_order.specs.declared.order.Order.TheVariants.{First}
use Rattle.lmn_order.specs.Orders.{chosen}
use Rattle.lmn_debug_script.specs.declared.order.Order.{Order}
use Rattle.lmn_debug_script.specs.declared.order.Order.TheVariants.{Step, Back, Show}
use Rattle.lmn_debug_script.specs.Laws.{OrdersAreOnce}
use Rattle.lmn_debug_script.specs.Scripts.{AreOrdersOf, one_order, says_nothing}
use Rattle.lmn_debug_script.proofs.LineLemmas.{without}
use Rattle.lmn_app.specs.DebugExamples.{SmallTextIsDebugged, SmallTextIsNotDebuggedSo}
use Rattle.lmn_app.specs.Debugs.{IsSession, session_size}
use Rattle.lmn_app.specs.TextExamples.{no_plan, small_names, small_plain, small_text}
use Rattle.lmn_app.proofs.SmallRuns.{first, last, more_allowed, nothing_left, small_named, small_solid}
use Rattle.lmn_app.proofs.SmallTexts.{small_text_is_accepted}
use Rattle.lmn_debug.proofs.ExampleOrders.{none_before as none_obeyed}

-- ---- a session

abbrev script : List ℕ
script = codes "step 2\nback 1\nshow\n"

abbrev its_orders : List Order
its_orders = Step 2 ∷ Back 1 ∷ Show ∷ []

are_its : AreOrdersOf small_names script its_orders
unfolding digits
are_its = record {
  lines = codes "step 2" ∷ codes "back 1" ∷ codes "show" ∷ [];
  apart = (without 10 (codes "step 2") refl, (without 10 (codes "back 1") refl, (without 10 (codes "show") refl, tt)));
  text_is = inl refl;
  say =
      one_order {lines = codes "step 2" ∷ codes "back 1" ∷ []} {orders = Step 2 ∷ Back 1 ∷ []} (codes "show") Show
      (one_order {lines = codes "step 2" ∷ []} {orders = Step 2 ∷ []} (codes "back 1") (Back 1)
      (one_order {lines = []} {orders = []} (codes "step 2") (Step 2) says_nothing (record { digits = codes "2"; number = refl; is = refl }, omega arith))
      (record { digits = codes "1"; number = refl; is = refl }, omega arith)) refl;
}

abbrev small_session_of : IsSession small_text script
small_session_of = record {
  of = record {
    names = small_names;
    plain = small_plain;
    plans = no_plan ∷ [];
    accepted = small_text_is_accepted;
    later = small_names;
    adds = record { more = []; are = refl; few = omega arith };
    once = small_named;
  };
  solid = first;
  of_plain = small_solid;
  numbered = (0, no_more);
  few = omega arith;
  orders = its_orders;
  are = are_its;
}

abbrev its_course : Course
its_course = course (chosen First) session_size first

its_lines : ObeysAll small_names its_course its_orders (line_at 1 Irreducible ∷ line_at 0 Done ∷ codes "a. (a :- b).\n" ∷ []) 0
its_lines =
    let t = short_trace_ends.0 (chosen First) in
    obeyed {orders = Step 2 ∷ Back 1 ∷ []} {lines = line_at 1 Irreducible ∷ line_at 0 Done ∷ []} {t = 0}
    (obeyed {orders = Step 2 ∷ []} {lines = line_at 1 Irreducible ∷ []} {t = 1}
    (obeyed {orders = []} {lines = []} {t = 0} begun
    (stepped {n = 2} {t' = 1} {stop = Irreducible} (λ e. absurd (cc))
    (record {
      solid = last;
      is = record { before = first ∷ []; trace = more_allowed (omega arith) (omega arith) t.0; count = refl };
      stops = ((omega arith, omega arith), nothing_embeds (nothing_left t.1));
    }))) (went_back {n = 1})) (shown {S = first} (record { before = []; trace = loaded; count = refl }) refl)

pub small_session : SmallTextIsDebugged
unfolding digits
small_session = (small_session_of, record { lines = line_at 1 Irreducible ∷ line_at 0 Done ∷ codes "a. (a :- b).\n" ∷ []; last = 0; obeys = its_lines; is = refl })

-- ---- and what is none

one_step : (names : List Name) → AreOrdersOf names (codes "step 1\n") (Step 1 ∷ [])
unfolding digits
one_step names = record {
  lines = codes "step 1" ∷ [];
  apart = (without 10 (codes "step 1") refl, tt);
  text_is = inl refl;
  say = one_order {lines = []} {orders = []} (codes "step 1") (Step 1) says_nothing (record { digits = codes "1"; number = refl; is = refl }, omega arith);
}

-- a list of one, by its last
only_one : {A : Type 0} (xs : List A) (x y : A) → xs ++ x ∷ [] ≡ y ∷ [] → (xs ≡ []) × (x ≡ y)
only_one [] x y e = (refl, head_is e)
only_one (z ∷ zs) x y e = absurd (let many = ap length e in omega (arith, many, length-append zs (x ∷ [])))

-- one order is obeyed at the beginning
one_obeyed : {names : List Name} {g : Course} {orders : List Order} {lines : List (List ℕ)} {t : ℕ} → ObeysAll names g orders lines t → (order : Order) → orders ≡ order ∷ []
    → (line : List ℕ) × (lines ≡ line ∷ []) × Obeys names g 0 order line t
one_obeyed begun order e = absurd (let many = ap length e in omega (arith, many))
one_obeyed {names = names} {g = g} (obeyed {orders = orders} {lines = lines} {t = t} {order = o} {line = line} {t' = t'} all this) order e =
    let one = only_one orders o order e in
    let none = none_obeyed all one.0 in
    (line, ap (λ ls. ls ++ line ∷ []) none.0, subst (λ n. Obeys names g n order line t') none.1 (subst (λ p. Obeys names g t p line t') one.1 this))

stands_still : (g : Course) (stop : Stop) (t' : ℕ) (S : Region) → stop ≢ NoMemory → StepsTo g 0 1 stop t' S → codes "% at 0\n" ≡ line_at t' stop → ⊥
unfolding digits
stands_still g Done t' S ne to e = unlike (codes "% at 0\n") (line_at 1 Done) refl (e ∙ ap (λ n. line_at n Done) to)
stands_still g Irreducible t' S ne to e =
    let none : t' ≡ 0 = (let within = to.0 in omega (arith, within.1)) in unlike (codes "% at 0\n") (line_at 0 Irreducible) refl (e ∙ ap (λ n. line_at n Irreducible) none)
stands_still g Full t' S ne to e =
    let none : t' ≡ 0 = (let within = to.0 in omega (arith, within.1)) in unlike (codes "% at 0\n") (line_at 0 Full) refl (e ∙ ap (λ n. line_at n Full) none)
stands_still g Met t' S ne to e = absurd to
stands_still g Limit t' S ne to e = absurd to
stands_still g NoMemory t' S ne to e = ne refl

no_line_so : {names : List Name} {g : Course} {line : List ℕ} {t : ℕ} → Obeys names g 0 (Step 1) line t → codes "% at 0\n" ≡ line → ⊥
no_line_so {g = g} (stepped {t' = t'} {stop = stop} ne s) e = stands_still g stop t' s.solid ne s.stops e

pub no_standing_step : OrdersAreOnce → SmallTextIsNotDebuggedSo
no_standing_step once (s, o) =
    let of = s.of in
    let one = one_obeyed o.obeys (Step 1) (once of.later (codes "step 1\n") s.orders (Step 1 ∷ []) of.once s.are (one_step of.later)) in
    no_line_so one.2 (o.is ∙ ap concat one.1 ∙ append-nil one.0)

-- Two sessions of one script beside one program write one text, and what a session shows reads back.
use Rattle.std.proofs.Common.{◌≡◌, ◌≤◌, ℕ, false, List, [], ◌∷◌, ◌++◌, codes, refl, sym, ap, ◌∙◌, subst, arith}
use Rattle.std.specs.Prelude.{drop, slice_index_or}
use Rattle.std.proofs.lemmas.Fmt.{decimal_injective, signed_decimal_injective}
use Rattle.std.proofs.lemmas.List.{append_cancel_left}
use Rattle.std.proofs.lemmas.List.Elements.{All-weaker}
use Rattle.std.specs.Fmt.{decimal}
use Rattle.std.specs.List.{AllZip}
use Rattle.lmn_adequacy.specs.Runs.{Trace}
use Rattle.lmn_app_accepted.specs.Rules.{AcceptedTexts}
use Rattle.lmn_app_runs.specs.Laws.{TracesAreRuns}
use Rattle.lmn_app_runs.specs.Texts.{PlainsArePrintable}
use Rattle.lmn_base.proofs.Lists.{last_one}
use Rattle.lmn_base.specs.declared.functor.Functor.{Functor}
use Rattle.lmn_base.specs.declared.functor.Label.{Label}
use Rattle.lmn_base.specs.declared.functor.Label.TheVariants as label
use Rattle.lmn_base.specs.declared.guard.Cmp.{Cmp}
use Rattle.lmn_congruence.specs.Regions.{Region, SolidAtom}
use Rattle.lmn_congruence.specs.Rules.{Name, named}
use Rattle.lmn_congruence.specs.Translation.{label_of}
use Rattle.lmn_debug.specs.CarryingLaws.{WritingIsOne}
use Rattle.lmn_debug.specs.Counts.{AreSo, HasFunctor, none, one, other}
use Rattle.lmn_debug.specs.Courses.{Course, Meets, WaitsTo, Waited, course, most_commits, wish}
use Rattle.lmn_debug.specs.Orders.{ObeyedAll, Obeys, ObeysAll, begun, obeyed, shown, stepped, waited, went_back}
use Rattle.lmn_debug.specs.declared.session.Stop.{Stop}
use Rattle.lmn_debug.specs.declared.session.Stop.TheVariants as stop
use Rattle.lmn_debug_script.proofs.Cuts.{lines_once}
use Rattle.lmn_debug_script.proofs.LineLemmas.{numbered_no_show, numbered_once, order_form, step_no_back, until_no_back, until_no_step, until_once}
use Rattle.lmn_debug_script.proofs.OneOrder.{operator_once, short}
use Rattle.lmn_debug_script.specs.Scripts.{HasForm, IsCountedOrder, IsOrder, IsUntil, IsWritable, Says, an_empty_line, cmp_text, of_back, of_show, of_step, of_until, one_order, says_nothing}
use Rattle.lmn_debug_script.specs.declared.order.Order.{Order}
use Rattle.lmn_debug_script.specs.declared.order.Order.TheVariants.{Back, Show, Step, Until}
use Rattle.lmn_flatten_plain.specs.SolidLines.{as_level}
use Rattle.lmn_flatten_plain.specs.Words.{line_of}
use Rattle.lmn_instr_code.specs.Labels.{listed_label_text}
use Rattle.lmn_instr_code.specs.Listings.{functor_text}
use Rattle.lmn_instr_reading.proofs.Common.{size_of}
use Rattle.lmn_instr_reading.proofs.NameTexts.{name_no_integer, one_name}
use Rattle.lmn_instr_reading.proofs.QuotedLemmas.{last_split, no_slash_decimal}
use Rattle.lmn_order.specs.declared.order.Order.TheVariants.{First}
use Rattle.lmn_order.specs.Orders.{chosen}
use Rattle.lmn_app.specs.Checks.{HasSolid}
use Rattle.lmn_app.specs.DebugLaws.{OneSessionText, ShownReadsBack}
use Rattle.lmn_app.specs.Debugs.{IsSession, session_size}
use Rattle.lmn_app.proofs.CheckLemmas.{accepted, by_numbers, printable_of}
use Rattle.lmn_app.proofs.OneCheck.{one_solid}

-- ---- an order by two lists of names

module _ (a b : List Name) where
  abbrev SameFunctor : Functor → Functor → Type 0
  SameFunctor f g = (label_of a f.label ≡ label_of b g.label) × (f.arity ≡ g.arity)

  -- the two order the same
  abbrev SameOrder : Order → Order → Type 0
  SameOrder (Step m) (Step n) = m ≡ n
  SameOrder (Back m) (Back n) = m ≡ n
  SameOrder (Until f op m) (Until g or n) = SameFunctor f g × (op ≡ or) × (m ≡ n)
  SameOrder Show Show = Unit {0}
  SameOrder _ _ = ⊥

  same_label : (x y : Label) → IsWritable a x → IsWritable b y → listed_label_text a x ≡ listed_label_text b y → label_of a x ≡ label_of b y
  same_label (label.Name m) (label.Name n) h k e = ap named (one_name (slice_index_or a m []) (slice_index_or b n []) e)
  same_label (label.Name m) (label.Int z) h k e = absurd (name_no_integer (slice_index_or a m []) z k e)
  same_label (label.Int z) (label.Name n) h k e = absurd (name_no_integer (slice_index_or b n []) z h (sym e))
  same_label (label.Int y) (label.Int z) h k e = ap (λ w. label_of a (label.Int w)) (signed_decimal_injective y z (size_of y h) (size_of z k) e)

  same_functor : (f g : Functor) → IsWritable a f.label → f.arity ≤ 255 → IsWritable b g.label → g.arity ≤ 255 → functor_text a f ≡ functor_text b g → SameFunctor f g
  same_functor f g h m k n e =
      let r = last_split (listed_label_text a f.label) (decimal f.arity) (listed_label_text b g.label) (decimal g.arity) (no_slash_decimal f.arity (omega (arith, m))) (no_slash_decimal g.arity (omega (arith, n))) e in
      (same_label f.label g.label h k r.0, decimal_injective f.arity g.arity (omega (arith, m)) (omega (arith, n)) r.1)

  -- ---- one line

  front_of_until : (line item : List ℕ) (op : Cmp) (n : ℕ) (front : List ℕ) (m : ℕ) → IsUntil line item op n → IsCountedOrder front line m → codes "until " ++ (item ++ (32 ∷ cmp_text op)) ≡ front
  front_of_until line item op n front m u v = sym u.is ∙ (numbered_once u.front front line n m u.numbered v).0

  no_empty : (names : List Name) (order : Order) → IsOrder names [] order → ⊥
  no_empty names order o = go (order_form names [] order o)
    where
      nothing : (u v : List ℕ) → [] ≡ u ++ 32 ∷ v → ⊥
      nothing [] v e = absurd (cc)
      nothing (x ∷ u) v e = absurd (cc)

      go : HasForm [] → ⊥
      go (of_step w l) = nothing (codes "step") w.digits w.is
      go (of_back w l) = nothing (codes "back") w.digits w.is
      go (of_until u f) = nothing u.front u.numbered.digits u.numbered.is
      go (of_show e) = absurd (cc)

  same_order : (line : List ℕ) (x y : Order) → IsOrder a line x → IsOrder b line y → SameOrder x y
  same_order line (Step m) (Step n) v w = (numbered_once (codes "step") (codes "step") line m n v.0 w.0).1
  same_order line (Step m) (Back n) v w = absurd (step_no_back (numbered_once (codes "step") (codes "back") line m n v.0 w.0).0)
  same_order line (Step m) (Until g or n) v w = absurd (until_no_step (functor_text b g ++ (32 ∷ cmp_text or)) (front_of_until line (functor_text b g) or n (codes "step") m w.0 v.0))
  same_order line (Step m) Show v w = absurd (numbered_no_show (codes "step") line m v.0 w)
  same_order line (Back m) (Step n) v w = absurd (step_no_back (numbered_once (codes "step") (codes "back") line n m w.0 v.0).0)
  same_order line (Back m) (Back n) v w = (numbered_once (codes "back") (codes "back") line m n v.0 w.0).1
  same_order line (Back m) (Until g or n) v w = absurd (until_no_back (functor_text b g ++ (32 ∷ cmp_text or)) (front_of_until line (functor_text b g) or n (codes "back") m w.0 v.0))
  same_order line (Back m) Show v w = absurd (numbered_no_show (codes "back") line m v.0 w)
  same_order line (Until f op m) (Step n) v w = absurd (until_no_step (functor_text a f ++ (32 ∷ cmp_text op)) (front_of_until line (functor_text a f) op m (codes "step") n v.0 w.0))
  same_order line (Until f op m) (Back n) v w = absurd (until_no_back (functor_text a f ++ (32 ∷ cmp_text op)) (front_of_until line (functor_text a f) op m (codes "back") n v.0 w.0))
  same_order line (Until f op m) (Until g or n) v w =
      let u = v.0 in
      let t = w.0 in
      let numbers = numbered_once u.front t.front line m n u.numbered t.numbered in
      let parts = until_once (functor_text a f) (functor_text b g) op or (append_cancel_left (codes "until ") _ _ (sym u.is ∙ numbers.0 ∙ t.is)) in
      (same_functor f g v.1 v.2 w.1 w.2 parts.0, operator_once op or parts.1, numbers.1)
  same_order line (Until f op m) Show v w = absurd (numbered_no_show (v.0).front line m (v.0).numbered w)
  same_order line Show (Step n) v w = absurd (numbered_no_show (codes "step") line n w.0 v)
  same_order line Show (Back n) v w = absurd (numbered_no_show (codes "back") line n w.0 v)
  same_order line Show (Until g or n) v w = absurd (numbered_no_show (w.0).front line n (w.0).numbered v)
  same_order line Show Show v w = tt

  -- ---- a script

  abbrev SameOrders : List Order → List Order → Type 0
  SameOrders = AllZip SameOrder

  one_more : (xs ys : List Order) (x y : Order) → SameOrders xs ys → SameOrder x y → SameOrders (xs ++ x ∷ []) (ys ++ y ∷ [])
  one_more [] [] x y h k = (k, tt)
  one_more [] (v ∷ ys) x y h k = absurd h
  one_more (u ∷ xs) [] x y h k = absurd h
  one_more (u ∷ xs) (v ∷ ys) x y h k = (h.0, one_more xs ys x y h.1 k)

  says_alike : {ls : List (List ℕ)} {xs : List Order} → Says a ls xs → {ms : List (List ℕ)} {ys : List Order} → Says b ms ys → ls ≡ ms → SameOrders xs ys
  says_alike says_nothing says_nothing e = tt
  says_alike says_nothing (an_empty_line {lines = ms} t) e = absurd (short ms [] e)
  says_alike says_nothing (one_order {lines = ms} line order t o) e = absurd (short ms line e)
  says_alike (an_empty_line {lines = ls} s) says_nothing e = absurd (short ls [] (sym e))
  says_alike (an_empty_line {lines = ls} s) (an_empty_line {lines = ms} t) e = says_alike s t (last_one ls ms [] [] e).0
  says_alike (an_empty_line {lines = ls} s) (one_order {lines = ms} line order t o) e = absurd (no_empty b order (subst (λ l. IsOrder b l order) (sym (last_one ls ms [] line e).1) o))
  says_alike (one_order {lines = ls} line order s o) says_nothing e = absurd (short ls line (sym e))
  says_alike (one_order {lines = ls} line order s o) (an_empty_line {lines = ms} t) e = absurd (no_empty a order (subst (λ l. IsOrder a l order) (last_one ls ms line [] e).1 o))
  says_alike (one_order {lines = ls} {orders = xs} line order s o) (one_order {lines = ms} {orders = ys} line' next t p) e =
      let r = last_one ls ms line line' e in
      one_more xs ys order next (says_alike s t r.0) (same_order line' order next (subst (λ l. IsOrder a l order) r.1 o) p)

  -- ---- what orders do

  module _ (f g : Functor) (same : SameFunctor f g) where
    has_functor : (x : SolidAtom) → HasFunctor a f x → HasFunctor b g x
    has_functor x h = record { label = h.label ∙ same.0; arity = h.arity ∙ same.1 }

    had_functor : (x : SolidAtom) → HasFunctor b g x → HasFunctor a f x
    had_functor x h = record { label = h.label ∙ sym same.0; arity = h.arity ∙ sym same.1 }

    as_many : {xs : List SolidAtom} {n : ℕ} → AreSo (HasFunctor a f) xs n → AreSo (HasFunctor b g) xs n
    as_many none = none
    as_many (one {a = x} is h) = one (has_functor x is) (as_many h)
    as_many (other {a = x} not h) = other (λ is. not (had_functor x is)) (as_many h)

    were_many : {xs : List SolidAtom} {n : ℕ} → AreSo (HasFunctor b g) xs n → AreSo (HasFunctor a f) xs n
    were_many none = none
    were_many (one {a = x} is h) = one (had_functor x is) (were_many h)
    were_many (other {a = x} not h) = other (λ is. not (has_functor x is)) (were_many h)

    module _ (op : Cmp) (n : ℕ) where
      meets : (S : Region) → Meets a (wish f op n) S → Meets b (wish g op n) S
      meets S (k, count, stands) = (k, as_many count, stands)

      unmet : (S : Region) → ¬ (Meets a (wish f op n) S) → ¬ (Meets b (wish g op n) S)
      unmet S not (k, count, stands) = not (k, were_many count, stands)

      waits_alike : (c : Course) (t : ℕ) (why : Stop) (t' : ℕ) (S : Region) → WaitsTo a c (wish f op n) t why t' S → WaitsTo b c (wish g op n) t why t' S
      waits_alike c t stop.Done t' S h = h
      waits_alike c t stop.Irreducible t' S h = (h.0, unmet S h.1, h.2)
      waits_alike c t stop.Full t' S h = (h.0, unmet S h.1, h.2)
      waits_alike c t stop.Met t' S h = (h.0, h.1, meets S h.2)
      waits_alike c t stop.Limit t' S h = (h.0, unmet S h.1)
      waits_alike c t stop.NoMemory t' S h = (h.0, unmet S h.1, h.2)

      waited_alike : (c : Course) (t : ℕ) (why : Stop) (t' : ℕ) → Waited a c (wish f op n) t why t' → Waited b c (wish g op n) t why t'
      waited_alike c t why t' w = record {
        solid = w.solid;
        is = w.is;
        none_before = All-weaker (λ S. ¬ (Meets a (wish f op n) S)) (λ S. ¬ (Meets b (wish g op n) S)) unmet (drop t w.is.before) w.none_before;
        stops = waits_alike c t why t' w.solid w.stops;
      }

  module _ (c : Course) where
    obeys_alike : (t : ℕ) (x y : Order) (line : List ℕ) (t' : ℕ) → Obeys a c t x line t' → SameOrder x y → Obeys b c t y line t'
    obeys_alike t x (Step n) line t' (stepped {t' = u} {stop = why} some s) e = subst (λ m. Obeys b c t (Step m) line t') e (stepped some s)
    obeys_alike t x (Back n) line t' (went_back {n = m}) e = subst (λ k. Obeys b c t (Back k) line t') e went_back
    obeys_alike t x (Until g or n) line t' (waited {f = f} {op = op} {n = m} {stop = why} some w) e =
        let P : Cmp → ℕ → Type 0 = λ o k. Obeys b c t (Until g o k) line t' in
        subst (λ o. P o n) e.1 (subst (P op) e.2 (waited some (waited_alike f g e.0 op m c t why t' w)))
    obeys_alike t x Show line t' (shown at is) e = shown at is
    obeys_alike t x y line t' o e = absurd e

    -- orders with one more behind are alike where those before are, and the last ones
    cut_last : (xs : List Order) (x : Order) (zs : List Order) → SameOrders (xs ++ x ∷ []) zs → (ys : List Order) × (y : Order) × (zs ≡ ys ++ y ∷ []) × SameOrders xs ys × SameOrder x y
    cut_last [] x [] h = absurd h
    cut_last [] x (z ∷ []) h = ([], z, refl, tt, h.0)
    cut_last [] x (z ∷ (w ∷ zs)) h = absurd h.1
    cut_last (u ∷ xs) x [] h = absurd h
    cut_last (u ∷ xs) x (z ∷ zs) h =
        let r = cut_last xs x zs h.1 in
        (z ∷ r.0, r.1, ap (λ l. z ∷ l) r.2, (h.0, r.3), r.4)

    nothing_else : (zs : List Order) → SameOrders [] zs → zs ≡ []
    nothing_else [] h = refl
    nothing_else (z ∷ zs) h = absurd h

    all_alike : {xs : List Order} {lines : List (List ℕ)} {t : ℕ} → ObeysAll a c xs lines t → (zs : List Order) → SameOrders xs zs → ObeysAll b c zs lines t
    all_alike begun zs h = subst (λ l. ObeysAll b c l [] 0) (sym (nothing_else zs h)) begun
    all_alike (obeyed {orders = xs} {lines = ls} {t = t} {order = x} {line = line} {t' = u} before o) zs h =
        let r = cut_last xs x zs h in
        subst (λ l. ObeysAll b c l (ls ++ line ∷ []) u) (sym r.2) (obeyed (all_alike before r.0 r.3) (obeys_alike t x r.1 line u o r.4))

-- ---- the laws

abbrev solid_of_session : {program script : List ℕ} → IsSession program script → HasSolid program
solid_of_session s = let of = s.of in record { names = of.names; plain = of.plain; plans = of.plans; accepted = of.accepted; solid = s.solid; of_plain = s.of_plain; numbered = s.numbered }

-- two sessions of one script write one text
pub one_session_text : AcceptedTexts → PlainsArePrintable → WritingIsOne → OneSessionText
one_session_text laws printables writing program script written again (s, all) (r, also) =
    let a = s.of in
    let b = r.of in
    let ok = accepted laws printables program (solid_of_session s) in
    let solid = one_solid program (solid_of_session r) (solid_of_session s) in
    let there : ObeyedAll b.later (course (chosen First) session_size s.solid) r.orders again = subst (λ S. ObeyedAll b.later (course (chosen First) session_size S) r.orders again) solid also in
    let lines = lines_once r.are.lines s.are.lines script r.are.apart s.are.apart r.are.text_is s.are.text_is in
    let same = says_alike b.later a.later r.are.say s.are.say lines in
    let here : ObeyedAll a.later (course (chosen First) session_size s.solid) s.orders again =
    record { lines = there.lines; last = there.last; obeys = all_alike b.later a.later (course (chosen First) session_size s.solid) there.obeys s.orders same; is = there.is } in
    writing a.later (course (chosen First) session_size s.solid) s.orders written again ok.closed ok.accepted all here

-- what is shown reads back
pub shown_reads_back : AcceptedTexts → PlainsArePrintable → TracesAreRuns → ShownReadsBack
shown_reads_back laws printables runs alloc program script s t S at =
    let of = solid_of_session s in
    let n = by_numbers laws printables program of in
    let trace = subst (λ R. Trace (chosen First) most_commits session_size R at.before S) n.2 at.trace in
    let run = runs alloc (record { trace = false; folded = false; budget = most_commits; size = session_size; chooser = chosen First }) of.names of.plain n.0 (printable_of laws printables program of.names of.plain of.plans of.accepted) n.1 at.before S trace in
    let last = run.prints (line_of (as_level S) ∷ []) (refl, tt) in
    last.are.0

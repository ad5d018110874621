-- One line orders one thing.
use Rattle.std.proofs.Common.{ℕ, ◌≡◌, ◌≢◌, ◌≤◌, List, [], ◌∷◌, ◌++◌, Some, AllPairs, codes, refl, sym, ap, subst, ◌∙◌, arith}
use Rattle.std.specs.Prelude.{bytes_eq, slice_index_or}
use Rattle.std.specs.Fmt.{decimal}
use Rattle.std.specs.List.{find, flat_map}
use Rattle.std.proofs.lemmas.Fmt.{decimal_injective, signed_decimal_injective}
use Rattle.std.proofs.lemmas.List.{append_cancel_left, append_cancel_right}
use Rattle.std.proofs.lemmas.Option.{same_Some}
use Rattle.lmn_base.proofs.Lists.{one_number, tail_is, last_one as ends_alike}
use Rattle.lmn_base.specs.declared.functor.Functor.{Functor}
use Rattle.lmn_base.specs.declared.functor.Label.{Label}
use Rattle.lmn_base.specs.declared.functor.Label.TheVariants.{Int, Name}
use Rattle.lmn_base.specs.declared.guard.Cmp.{Cmp}
use Rattle.lmn_base.specs.declared.guard.Cmp.TheVariants.{Eq, Ge, Gt, Le, Lt, Ne}
use Rattle.lmn_instr_reading.proofs.Common.{size_of}
use Rattle.lmn_instr_reading.proofs.NameTexts.{name_no_integer, one_name, quoted_one}
use Rattle.lmn_instr_reading.proofs.QuotedLemmas.{no_slash_decimal}
use Rattle.lmn_instr_reading.proofs.QuotedLemmas as slashes
use Rattle.lmn_instr_code.specs.Labels.{listed_label_text}
use Rattle.lmn_instr_code.specs.Listings.{functor_text}
use Rattle.lmn_lexer.specs.NameText.{quoted, quoted_byte}
use Rattle.lmn_debug_script.proofs.Cuts.{lines_once}
use Rattle.lmn_debug_script.proofs.LineLemmas.{numbered_no_show, numbered_once, order_form, step_no_back, until_no_back, until_no_step, until_once}
use Rattle.lmn_debug_script.specs.Scripts.{AreOrdersOf, IsCountedOrder, IsOrder, IsUntil, IsWritable, HasForm, of_back, of_show, of_step, of_until, Says, an_empty_line, cmp_text, one_order, says_nothing}
use Rattle.lmn_debug_script.specs.declared.order.Order.{Order}
use Rattle.lmn_debug_script.specs.declared.order.Order.TheVariants.{Back, Show, Step, Until}
use Rattle.lmn_debug_script.specs.declared.reading.TheConstants.{OPERATORS}

-- ---- operators

found : (op : Cmp) → find (λ o. bytes_eq (cmp_text o) (cmp_text op)) OPERATORS ≡ Some op
found Lt = refl
found Le = refl
found Gt = refl
found Ge = refl
found Eq = refl
found Ne = refl

-- no two operators are written alike
pub operator_once : (a b : Cmp) → cmp_text a ≡ cmp_text b → a ≡ b
operator_once a b e = same_Some a b (sym (found a) ∙ ap (λ t. find (λ o. bytes_eq (cmp_text o) t) OPERATORS) e ∙ found b)

-- ---- functors

-- no two names are written alike in quotes
pub quoted_once : (a b : List ℕ) → quoted a ≡ quoted b → a ≡ b
quoted_once a b e = quoted_one a b (append_cancel_right (flat_map quoted_byte a) (flat_map quoted_byte b) (codes "'") (tail_is e))

-- no two labels are written alike
pub label_once : (names : List (List ℕ)) (x y : Label) → AllPairs (λ a b. a ≢ b) names → IsWritable names x → IsWritable names y → listed_label_text names x ≡ listed_label_text names y → x ≡ y
label_once names (Name m) (Name n) once h k e = ap Name (one_number names once m n h.0 k.0 (one_name (slice_index_or names m []) (slice_index_or names n []) e))
label_once names (Name m) (Int z) once h k e = absurd (name_no_integer (slice_index_or names m []) z k e)
label_once names (Int z) (Name n) once h k e = absurd (name_no_integer (slice_index_or names n []) z h (sym e))
label_once names (Int y) (Int z) once h k e = ap Int (signed_decimal_injective y z (size_of y h) (size_of z k) e)

-- no two functors are
pub functor_once : (names : List (List ℕ)) (f g : Functor) → AllPairs (λ a b. a ≢ b) names → IsWritable names f.label → f.arity ≤ 255 → IsWritable names g.label → g.arity ≤ 255 → functor_text names f ≡ functor_text names g → f ≡ g
functor_once names f g once h a k b e =
    let r = slashes.last_split (listed_label_text names f.label) (decimal f.arity) (listed_label_text names g.label) (decimal g.arity) (no_slash_decimal f.arity (omega (arith, a))) (no_slash_decimal g.arity (omega (arith, b))) e in
    let label = label_once names f.label g.label once h k r.0 in
    let arity = decimal_injective f.arity g.arity (omega (arith, a)) (omega (arith, b)) r.1 in
    λ i. record { label = label i; arity = arity i }

-- ---- orders

until_front_of : (line item : List ℕ) (op : Cmp) (n : ℕ) (other : List ℕ) (m : ℕ) → IsUntil line item op n → IsCountedOrder other line m → codes "until " ++ (item ++ (32 ∷ cmp_text op)) ≡ other
until_front_of line item op n other m u v = sym u.is ∙ (numbered_once u.front other line n m u.numbered v).0

step_no_until : (line : List ℕ) (m : ℕ) (item : List ℕ) (op : Cmp) (n : ℕ) → IsCountedOrder (codes "step") line m → IsUntil line item op n → ⊥
step_no_until line m item op n v u = until_no_step (item ++ (32 ∷ cmp_text op)) (until_front_of line item op n (codes "step") m u v)

back_no_until : (line : List ℕ) (m : ℕ) (item : List ℕ) (op : Cmp) (n : ℕ) → IsCountedOrder (codes "back") line m → IsUntil line item op n → ⊥
back_no_until line m item op n v u = until_no_back (item ++ (32 ∷ cmp_text op)) (until_front_of line item op n (codes "back") m u v)

-- a list with a last item isn't empty
pub short : {A : Type 0} (xs : List A) (x : A) → [] ≡ xs ++ x ∷ [] → ⊥
short [] x e = absurd (cc)
short (y ∷ ys) x e = absurd (cc)

-- an empty line orders nothing
no_empty_order : (names : List (List ℕ)) (order : Order) → IsOrder names [] order → ⊥
no_empty_order names order o = go (order_form names [] order o)
  where
    nothing : (u v : List ℕ) → [] ≡ u ++ 32 ∷ v → ⊥
    nothing [] v e = absurd (cc)
    nothing (x ∷ u) v e = absurd (cc)

    go : HasForm [] → ⊥
    go (of_step w l) = nothing (codes "step") w.digits w.is
    go (of_back w l) = nothing (codes "back") w.digits w.is
    go (of_until u f) = nothing u.front u.numbered.digits u.numbered.is
    go (of_show e) = absurd (cc)

-- a line orders one thing
pub order_once : (names : List (List ℕ)) (line : List ℕ) (a b : Order) → AllPairs (λ x y. x ≢ y) names → IsOrder names line a → IsOrder names line b → a ≡ b
order_once names line (Step m) (Step n) once v w = ap Step (numbered_once (codes "step") (codes "step") line m n v.0 w.0).1
order_once names line (Step m) (Back n) once v w = absurd (step_no_back (numbered_once (codes "step") (codes "back") line m n v.0 w.0).0)
order_once names line (Step m) (Until f op n) once v w = absurd (step_no_until line m (functor_text names f) op n v.0 w.0)
order_once names line (Step m) Show once v w = absurd (numbered_no_show (codes "step") line m v.0 w)
order_once names line (Back m) (Step n) once v w = absurd (step_no_back (numbered_once (codes "step") (codes "back") line n m w.0 v.0).0)
order_once names line (Back m) (Back n) once v w = ap Back (numbered_once (codes "back") (codes "back") line m n v.0 w.0).1
order_once names line (Back m) (Until f op n) once v w = absurd (back_no_until line m (functor_text names f) op n v.0 w.0)
order_once names line (Back m) Show once v w = absurd (numbered_no_show (codes "back") line m v.0 w)
order_once names line (Until f op m) (Step n) once v w = absurd (step_no_until line n (functor_text names f) op m w.0 v.0)
order_once names line (Until f op m) (Back n) once v w = absurd (back_no_until line n (functor_text names f) op m w.0 v.0)
order_once names line (Until f op m) (Until g or n) once v w =
    let u = v.0 in
    let t = w.0 in
    let numbers = numbered_once u.front t.front line m n u.numbered t.numbered in
    let fronts = sym u.is ∙ numbers.0 ∙ t.is in
    let parts = until_once (functor_text names f) (functor_text names g) op or (append_cancel_left (codes "until ") _ _ fronts) in
    let functor = functor_once names f g once v.1 v.2 w.1 w.2 parts.0 in
    let operator = operator_once op or parts.1 in
    λ i. Until (functor i) (operator i) (numbers.1 i)
order_once names line (Until f op m) Show once v w = absurd (numbered_no_show (v.0).front line m (v.0).numbered w)
order_once names line Show (Step n) once v w = absurd (numbered_no_show (codes "step") line n w.0 v)
order_once names line Show (Back n) once v w = absurd (numbered_no_show (codes "back") line n w.0 v)
order_once names line Show (Until f op n) once v w = absurd (numbered_no_show (w.0).front line n (w.0).numbered v)
order_once names line Show Show once v w = refl

-- lines order one list
pub says_once : (names : List (List ℕ)) → AllPairs (λ x y. x ≢ y) names → {ls : List (List ℕ)} {a : List Order} → Says names ls a → {ms : List (List ℕ)} {b : List Order} → Says names ms b → ls ≡ ms → a ≡ b
says_once names once says_nothing says_nothing e = refl
says_once names once says_nothing (an_empty_line {lines = ms} t) e = absurd (short ms [] e)
says_once names once says_nothing (one_order {lines = ms} line order t o) e = absurd (short ms line e)
says_once names once (an_empty_line {lines = ls} s) says_nothing e = absurd (short ls [] (sym e))
says_once names once (an_empty_line {lines = ls} s) (an_empty_line {lines = ms} t) e = says_once names once s t (ends_alike ls ms [] [] e).0
says_once names once (an_empty_line {lines = ls} s) (one_order {lines = ms} line order t o) e =
    absurd (no_empty_order names order (subst (λ l. IsOrder names l order) (sym (ends_alike ls ms [] line e).1) o))
says_once names once (one_order {lines = ls} line order s o) says_nothing e = absurd (short ls line (sym e))
says_once names once (one_order {lines = ls} line order s o) (an_empty_line {lines = ms} t) e =
    absurd (no_empty_order names order (subst (λ l. IsOrder names l order) (ends_alike ls ms line [] e).1 o))
says_once names once (one_order {lines = ls} line order s o) (one_order {lines = ms} other next t p) e =
    let r = ends_alike ls ms line other e in
    let front = says_once names once s t r.0 in
    let last = order_once names other order next once (subst (λ l. IsOrder names l order) r.1 o) p in
    λ i. front i ++ last i ∷ []

-- a text has one list of orders
pub orders_alike : (names : List (List ℕ)) (text : List ℕ) (orders others : List Order) → AllPairs (λ x y. x ≢ y) names → AreOrdersOf names text orders → AreOrdersOf names text others → orders ≡ others
orders_alike names text orders others once a b = says_once names once a.say b.say (lines_once a.lines b.lines text a.apart b.apart a.text_is b.text_is)

-- What is printed where links have other numbers, and where the marks of ports tell them.
use Rattle.std.proofs.Common.{◌≡◌, ℕ, ◌+◌, ◌-◌, ◌<◌, ◌≤◌, ◌==◌, inl, List, ◌++◌, map, filter, refl, sym, ap, ◌∙◌, subst, arith}
use Rattle.lmn_base.specs.declared.rule.RuleTree.{RuleTree}
use Rattle.lmn_congruence.specs.Rules.{Name, Rule}
use Rattle.lmn_congruence.specs.Translation.{numbered_rule}
use Rattle.lmn_print_folded.specs.Terms.{FoldedTerm, link, FoldedTerms, FoldedItem, FoldedMembranes, membrane_and, folded, term_links, terms_links, items_links, membranes_links, renamed_term, renamed_terms, renamed_item, renamed_membranes}
use Rattle.lmn_store_heap.specs.Heap.{Heap, arity_of, atoms_in, rules_in, own_mark}
use Rattle.lmn_store_heap.specs.Sound.{Forest, mem}
use Rattle.lmn_store_heap.proofs.ListLemmas.{in_left, in_right}
use Rattle.lmn_print_folding.specs.Printed as printed
use Rattle.lmn_print_folding.specs.Printed.{PrintsArgument, as_link, as_term, PrintsAll}
use Rattle.lmn_print_folding.proofs.NumberedWalks.{own_same, term_same}
use Rattle.lmn_print_folding.specs.Chosen as chosen
use Rattle.lmn_print_folding.specs.Chosen.{PrintsItems, marked_in, items_in}
use Rattle.lmn_print_plain.specs.Numbers.{Remarks, TellsFirst}
use Rattle.lmn_print_plain.specs.Stored.{number_by_mark}
use Rattle.lmn_print_plain.proofs.MarkLemmas.{arity_same, functor_same}
use Rattle.lmn_print_plain.proofs.NumberLemmas.{mark_low}
use Rattle.lmn_print.specs.Printed.{PrintsForest, none, more}
use Rattle.lmn_base.specs.Lists.{In}

-- Other numbers.
module _ (names : List Name) (s : Heap) (name : ℕ → ℕ → ℕ) (to : ℕ → ℕ) where
  abbrev renaming : ℕ → ℕ → ℕ
  renaming a i = to (name a i)

  mutual
    one_renamed : {a i : ℕ} {t : FoldedTerm} → PrintsArgument names s name a i t → PrintsArgument names s renaming a i (renamed_term to t)
    one_renamed (as_link e) = as_link e
    one_renamed (as_term c f e g all) = as_term c f e g (all_renamed all)

    all_renamed : {a i n : ℕ} {ts : FoldedTerms} → PrintsAll names s name a i n ts → PrintsAll names s renaming a i n (renamed_terms to ts)
    all_renamed printed.none = printed.none
    all_renamed (printed.more p all) = printed.more (one_renamed p) (all_renamed all)

  items_renamed : {xs : List ℕ} {is : List FoldedItem} → PrintsItems names s name xs is → PrintsItems names s renaming xs (map (renamed_item to) is)
  items_renamed chosen.none = chosen.none
  items_renamed (chosen.more p ps) = chosen.more (record { functor = p.functor; is = p.is; label = p.label; arguments = all_renamed p.arguments }) (items_renamed ps)

  pub forest_renamed : {table : List RuleTree} {f : Forest} {given : FoldedMembranes} → PrintsForest names table s name f given → PrintsForest names table s renaming f (renamed_membranes to given)
  forest_renamed none = none
  forest_renamed (more p q r) = more (items_renamed p) (forest_renamed q) (forest_renamed r)

-- each link of a list has one of the first n numbers
abbrev pub Below : ℕ → List ℕ → Type 0
Below n xs = (x : ℕ) → In x xs → x < n

below_left : (n : ℕ) (xs ys : List ℕ) → Below n (xs ++ ys) → Below n xs
below_left n xs ys h x i = h x (in_left x xs ys i)

below_right : (n : ℕ) (xs ys : List ℕ) → Below n (xs ++ ys) → Below n ys
below_right n xs ys h x i = h x (in_right x xs ys i)

-- the same atoms have a mark
pub marked_same : (s t : Heap) → Remarks s t → (k m : ℕ) → marked_in t k m ≡ marked_in s k m
marked_same s t r k m =
    ap (λ (h : Heap). filter (λ a. own_mark t a == k) (atoms_in h m)) r.is ∙ ap (λ (f : ℕ → ℕ). filter (λ a. f a == k) (atoms_in s m)) (λ i a. own_same s t r a i)

-- the items of a membrane stay with other marks of ports
pub items_same : (s t : Heap) → Remarks s t → (m : ℕ) → items_in t m ≡ items_in s m
items_same s t r m = ap (λ xs. xs ++ marked_in t 2 m) (marked_same s t r 1 m) ∙ ap (λ xs. marked_in s 1 m ++ xs) (marked_same s t r 2 m)

-- The marks of ports tell the first n numbers.
module _ (names : List Name) (s t : Heap) (r : Remarks s t) (name : ℕ → ℕ → ℕ) (n : ℕ) (told : TellsFirst t name n) where
  number_is : (a i : ℕ) → i < arity_of s a → name a i < n → number_by_mark t a i ≡ name a i
  number_is a i low small =
      let mark = told a i (subst (λ k. i < k) (sym (arity_same s t r a)) low) ∙ mark_low n (name a i) small in
      ap (λ k. k - 1) mark ∙ omega arith

  mutual
    one_told : {a i : ℕ} {u : FoldedTerm} → PrintsArgument names s name a i u → i < arity_of s a → Below n (term_links u) → PrintsArgument names t (number_by_mark t) a i u
    one_told {a} {i} (as_link e) low h = subst (λ x. PrintsArgument names t (number_by_mark t) a i (link x)) (number_is a i low (h (name a i) (inl refl))) (as_link (term_same s t r a i ∙ e))
    one_told {a} {i} (as_term {ts = ts} c f e g all) low h =
        as_term c f (term_same s t r a i ∙ e) (functor_same s t r c ∙ g)
        (subst (λ k. PrintsAll names t (number_by_mark t) c 0 (k - 1) ts) (sym (arity_same s t r c)) (all_told all (omega arith) h))

    all_told : {a i k : ℕ} {us : FoldedTerms} → PrintsAll names s name a i k us → i + k ≤ arity_of s a → Below n (terms_links us) → PrintsAll names t (number_by_mark t) a i k us
    all_told printed.none low h = printed.none
    all_told (printed.more {t = u} {ts = us} p all) low h =
        printed.more (one_told p (omega (arith, low)) (below_left n (term_links u) (terms_links us) h)) (all_told all (omega (arith, low)) (below_right n (term_links u) (terms_links us) h))

  items_told : {xs : List ℕ} {is : List FoldedItem} → PrintsItems names s name xs is → Below n (items_links is) → PrintsItems names t (number_by_mark t) xs is
  items_told chosen.none h = chosen.none
  items_told (chosen.more {a = a} {i = i} {is = is} p ps) h =
      chosen.more
      (record {
        functor = p.functor;
        is = functor_same s t r a ∙ p.is;
        label = p.label;
        arguments = subst (λ k. PrintsAll names t (number_by_mark t) a 0 k i.arguments) (sym (arity_same s t r a)) (all_told p.arguments (omega arith) (below_left n (terms_links i.arguments) (items_links is) h));
      })
      (items_told ps (below_right n (terms_links i.arguments) (items_links is) h))

  pub forest_told : {table : List RuleTree} {f : Forest} {given : FoldedMembranes} → PrintsForest names table s name f given → Below n (membranes_links given) → PrintsForest names table t (number_by_mark t) f given
  forest_told none h = none
  forest_told {table} {given = whole} (more {m = m} {inner = inner} {rest = rest} {items = items} {inside = inside} {others = others} p q k) h =
      let front = below_left n (items_links items ++ membranes_links inside) (membranes_links others) h in
      subst (λ (rs : List Rule). PrintsForest names table t (number_by_mark t) (mem m inner rest) (membrane_and (folded items inside rs) others))
      (ap (λ (g : Heap). map (numbered_rule names table) (rules_in g m)) r.is)
      (more (subst (λ xs. PrintsItems names t (number_by_mark t) xs items) (sym (items_same s t r m)) (items_told p (below_left n (items_links items) (membranes_links inside) front)))
      (forest_told q (below_right n (items_links items) (membranes_links inside) front)) (forest_told k (below_right n (items_links items ++ membranes_links inside) (membranes_links others) h)))

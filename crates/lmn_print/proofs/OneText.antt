-- What is printed of an atom is one term.
use Rattle.std.proofs.Common.{◌≡◌, ℕ, suc, ◌+◌, ◌-◌, List, [], ◌∷◌, Some, None, refl, sym, ap, ◌∙◌, subst}
use Rattle.lmn_base.specs.declared.functor.Functor.{Functor}
use Rattle.lmn_congruence.specs.Rules.{Name}
use Rattle.lmn_congruence.specs.Translation.{label_of}
use Rattle.lmn_print_folded.specs.Terms.{FoldedTerm, link, labelled, FoldedTerms, no_term, term_and, FoldedItem}
use Rattle.lmn_print_folding.specs.Marks.{term_at}
use Rattle.lmn_print_folding.specs.Printed.{PrintsArgument, PrintsAll, PrintsItem, as_link, as_term, none, more}
use Rattle.lmn_store_heap.specs.Heap.{Heap, arity_of, functor_of}
use Rattle.lmn_print_folding.specs.Chosen.{PrintsItems}
use Rattle.lmn_print_folding.specs.Chosen as items

module _ (names : List Name) (s : Heap) (name : ℕ → ℕ → ℕ) where
  link_alone : {a i : ℕ} {u : FoldedTerm} → PrintsArgument names s name a i u → term_at s a i ≡ None → u ≡ link (name a i)
  link_alone (as_link n) e = refl
  link_alone (as_term c f t g p) e = absurd (cc (t, e))

  term_alone : {a i : ℕ} {u : FoldedTerm} (c : ℕ) (f : Functor) → PrintsArgument names s name a i u → term_at s a i ≡ Some c → functor_of s c ≡ Some f
      → (us : FoldedTerms) × PrintsAll names s name c 0 (arity_of s c - 1) us × (u ≡ labelled (label_of names f.label) us)
  term_alone c f (as_link n) t g = absurd (cc (n, t))
  term_alone c f (as_term {ts = us} d h t' g' p) t g =
      let same : d ≡ c = cc (t', t) in
      let there : functor_of s c ≡ Some h = subst (λ x. functor_of s x ≡ Some h) same g' in
      let functor : h ≡ f = cc (there, g) in
      (us, subst (λ x. PrintsAll names s name x 0 (arity_of s x - 1) us) same p, ap (λ x. labelled (label_of names x.label) us) functor)

  none_alone : {a i : ℕ} {us : FoldedTerms} → PrintsAll names s name a i 0 us → us ≡ no_term
  none_alone none = refl

  more_alone : {a i n : ℕ} {us : FoldedTerms} → PrintsAll names s name a i (suc n) us → (t : FoldedTerm) × (ts : FoldedTerms) × PrintsArgument names s name a i t × PrintsAll names s name a (i + 1) n ts × (us ≡ term_and t ts)
  more_alone (more {t = t} {ts = ts} p ps) = (t, ts, p, ps, refl)

  mutual
    one_term : {a i : ℕ} {t u : FoldedTerm} → PrintsArgument names s name a i t → PrintsArgument names s name a i u → t ≡ u
    one_term (as_link n) q = sym (link_alone q n)
    one_term (as_term c f t g p) q = let v = term_alone c f q t g in ap (labelled (label_of names f.label)) (one_all p v.1) ∙ sym v.2

    one_all : {a i n : ℕ} {ts us : FoldedTerms} → PrintsAll names s name a i n ts → PrintsAll names s name a i n us → ts ≡ us
    one_all none q = sym (none_alone q)
    one_all (more {ts = ts} p ps) q =
        let v = more_alone q in
        ap (λ z. term_and z ts) (one_term p v.2) ∙ ap (term_and v.0) (one_all ps v.3) ∙ sym v.4

  one_item : {a : ℕ} {i j : FoldedItem} → PrintsItem names s name a i → PrintsItem names s name a j → i ≡ j
  one_item {a = a} {i = i} {j = j} p q =
      let functor : p.functor ≡ q.functor = (let w : Some p.functor ≡ Some q.functor = sym p.is ∙ q.is in cc w) in
      let label : i.label ≡ j.label = p.label ∙ ap (λ f. label_of names f.label) functor ∙ sym q.label in
      let arguments : i.arguments ≡ j.arguments = one_all p.arguments q.arguments in
      λ k. record { label = label k; arguments = arguments k }

  first_alone : {a : ℕ} {xs : List ℕ} {js : List FoldedItem} → PrintsItems names s name (a ∷ xs) js → (j : FoldedItem) × (rest : List FoldedItem) × PrintsItem names s name a j × PrintsItems names s name xs rest × (js ≡ j ∷ rest)
  first_alone (items.more {i = i} {is = is} p ps) = (i, is, p, ps, refl)

  last_alone : {js : List FoldedItem} → PrintsItems names s name [] js → js ≡ []
  last_alone items.none = refl

  pub one_row : {xs : List ℕ} {is js : List FoldedItem} → PrintsItems names s name xs is → PrintsItems names s name xs js → is ≡ js
  one_row items.none q = sym (last_alone q)
  one_row (items.more {is = is} p ps) q =
      let v = first_alone q in
      ap (λ z. z ∷ is) (one_item p v.2) ∙ ap (λ z. v.0 ∷ z) (one_row ps v.3) ∙ sym v.4

-- What holds of the examples of what own marks tell.
use Rattle.std.proofs.Common.{◌≡◌, ℕ, zero, suc, List, [], ◌∷◌, slice_get, Some, refl, sym, ap, ◌∙◌, subst, inl, inr, arith}
use Rattle.std.proofs.lemmas.Option.{none-some}
use Rattle.lmn_congruence.specs.Orders.{at_head}
use Rattle.lmn_congruence.specs.Regions.{SolidAtom}
use Rattle.lmn_congruence.specs.Rules.{Name}
use Rattle.lmn_print_folded.specs.Folding.{IsChild, itself, Shows, ShowsAll, ShowsItems}
use Rattle.lmn_print_folded.specs.Folding as folding
use Rattle.lmn_print_folded.specs.Terms.{FoldedTerm, FoldedTerms, link, FoldedItem}
use Rattle.lmn_print_folding.specs.Marks.{term_at}
use Rattle.lmn_print_folding.specs.Printed.{PrintsArgument, PrintsAll}
use Rattle.lmn_print_folding.specs.Printed as printed
use Rattle.lmn_print_folding.specs.PrintedExamples.{one_item, item_with}
use Rattle.lmn_print_folding.proofs.PrintedExampleProofs.{link_is_printed}
use Rattle.lmn_store_heap.specs.Heap.{arity_of, own_mark}
use Rattle.lmn_print_folding.specs.Children.{IsMarkedIn}
use Rattle.lmn_print_folding.specs.Chosen.{PrintsItems}
use Rattle.lmn_print_folding.specs.Chosen as chosen
use Rattle.lmn_print_folding.specs.ToldExamples.{ItemIsTold, OneMembraneIsNotEnough}
use Rattle.lmn_base.specs.Lists.{In}

-- One atom alone is no child.

at_start : (x y : SolidAtom) (q : ℕ) → slice_get (x ∷ []) q ≡ Some y → q ≡ 0
at_start x y zero e = refl
at_start x y (suc q) e = absurd (none-some y e)

alone : (x : SolidAtom) (q p k : ℕ) → IsChild (x ∷ []) q p k → ⊥
alone x q p k c = c.other (at_start x c.child q c.child_at ∙ sym (at_start x c.parent p c.parent_at))

-- in the example the item is told
pub item_is_told : ItemIsTold
item_is_told names name = record {
  shown = item_with names (link (name 0 0)) ∷ [];
  prints = chosen.more (link_is_printed names name) chosen.none;
  items = 0 ∷ [];
  are = record { firsts = 0 ∷ []; no_children = folding.kept (alone _ 0) folding.none; further = folding.printed 0 at_head itself folding.none };
  shows = folding.more _ refl (folding.more (folding.as_link (λ q c. absurd (alone _ q 0 0 c))) folding.none) folding.none;
}

-- Where `b` is no item, something else is printed than is told.

module _ (names : List Name) (name : ℕ → ℕ → ℕ) (x : SolidAtom) (items : List ℕ) where
  no_term : (a i : ℕ) (t : FoldedTerm) (p k y : ℕ) → a ≡ 0 → i ≡ 0 → PrintsArgument names one_item name a i t → Shows (λ x. x) (x ∷ []) items p k y t → ⊥
  no_term a i _ p k y e f (printed.as_link h) g = absurd (cc (sym (ap (λ b. term_at one_item b i) e ∙ ap (term_at one_item 0) f) ∙ h))
  no_term a i _ p k y e f (printed.as_term c g h j all) (folding.as_term {q = q} d n s) = alone x q p k d

  no_argument : (a i n : ℕ) (ts : FoldedTerms) (p k : ℕ) (ys : List ℕ) → a ≡ 0 → i ≡ 0 → n ≡ 1 → PrintsAll names one_item name a i n ts → ShowsAll (λ x. x) (x ∷ []) items p k ys ts → ⊥
  no_argument a i _ _ p k ys e f g printed.none h = absurd (omega (arith, g))
  no_argument a i _ _ p k _ e f g (printed.more {t = t} h hs) (folding.more {x = y} s ss) = no_term a i t p k y e f h s

  no_items : (zs ps : List ℕ) (shown : List FoldedItem) → zs ≡ 0 ∷ [] → PrintsItems names one_item name zs shown → ShowsItems (λ x. x) (x ∷ []) items ps shown → ⊥
  no_items _ ps _ e chosen.none s = absurd (cc e)
  no_items _ _ _ e (chosen.more {a = a} {others = zs} h hs) (folding.more {p = p} {ts = ts} y at s ss) =
      let first : a ≡ 0 = first_is a zs e in
      no_argument a 0 (arity_of one_item a) ts p 0 y.links first refl (ap (arity_of one_item) first) h.arguments s
    where
      first_is : (a : ℕ) (zs : List ℕ) → a ∷ zs ≡ 0 ∷ [] → a ≡ 0
      first_is a zs e = cc

only_one : (P : ℕ → Type 0) → P 0 → (a : ℕ) → In a (0 ∷ []) → P a
only_one P p a (inl e) = subst P e p
only_one P p a (inr h) = absurd h

marked : IsMarkedIn one_item 1
marked = record {
  each = only_one _ (inl refl);
  first = λ a p k e c. c.other (only_one (λ b. b ≡ p) (only_one (λ b. 0 ≡ b) refl p c.parent) a c.child);
  later_child = λ a i e. absurd (no_mark a i 2 (λ f. absurd (omega (arith, f))) e);
  later = λ a i h e b d. no_mark a h 2 (λ f. absurd (omega (arith, f))) e;
  term = λ a i e. absurd (no_mark a i 3 (λ f. absurd (omega (arith, f))) e);
}
  where
    no_mark : (a : ℕ) → In a (0 ∷ []) → (v : ℕ) → (1 ≡ v → ⊥) → own_mark one_item a ≡ v → ⊥
    no_mark a i v d e = d (only_one (λ b. own_mark one_item b ≡ v → 1 ≡ v) (λ f. f) a i e)

-- the marks of one membrane don't tell its folded form
pub one_membrane_is_not_enough : OneMembraneIsNotEnough
one_membrane_is_not_enough = (marked, λ names name t. no_items names name _ t.items (0 ∷ []) t.items t.shown refl t.prints t.shows)

-- The walks over the items of a tree meet the links that are printed.
use Rattle.std.proofs.Common.{◌≡◌, ℕ, ◌+◌, ◌-◌, true, if◌then◌else◌, inl, inr, List, [], ◌∷◌, ◌++◌, refl, sym, ap, ◌∙◌, subst, arith}
use Rattle.std.proofs.lemmas.List.{append-nil, append_assoc}
use Rattle.lmn_base.specs.declared.rule.RuleTree.{RuleTree}
use Rattle.lmn_congruence.specs.Rules.{Name}
use Rattle.lmn_print_folded.specs.Terms.{FoldedTerm, FoldedTerms, FoldedItem, FoldedMembranes, term_links, terms_links, items_links, membranes_links}
use Rattle.lmn_store_heap.specs.Heap.{Heap, arity_of}
use Rattle.lmn_store_heap.specs.Sound.{Forest, flat, Paired}
use Rattle.lmn_print_folding.specs.Marks.{is_item, argument_count, Event, meets_link, meets_term, leaves, WalkMeets, end_of_item, links_met}
use Rattle.lmn_print_folding.specs.Printed as printed
use Rattle.lmn_print_folding.specs.Printed.{PrintsArgument, as_link, as_term, PrintsAll, PrintsItem}
use Rattle.lmn_print_folding.proofs.PrintedWalks.{events, events_all, walk_all}
use Rattle.lmn_print_folding.specs.Chosen as chosen
use Rattle.lmn_print_folding.specs.Chosen.{PrintsItems, items_in}
use Rattle.lmn_print.specs.Printed as forest
use Rattle.lmn_print.specs.Printed.{PrintsForest}
use Rattle.lmn_print.specs.Walked.{printed_items, ItemsWalked, none, more}
use Rattle.lmn_print.proofs.ItemLemmas.{items_are}
use Rattle.lmn_base.specs.Lists.{In}

-- the links met on two walks are those of both
pub met_append : (es fs : List Event) (name : ℕ → ℕ → ℕ) → links_met (es ++ fs) name ≡ links_met es name ++ links_met fs name
met_append [] fs name = refl
met_append (meets_link a i ∷ es) fs name = ap (λ xs. name a i ∷ xs) (met_append es fs name)
met_append (meets_term a i c ∷ es) fs name = met_append es fs name
met_append (leaves a ∷ es) fs name = met_append es fs name

-- the links of two parts
both_links : (es fs : List Event) (name : ℕ → ℕ → ℕ) (xs ys : List ℕ) → links_met es name ≡ xs → links_met fs name ≡ ys → links_met (es ++ fs) name ≡ xs ++ ys
both_links es fs name xs ys d e = met_append es fs name ∙ ap (λ zs. zs ++ links_met fs name) d ∙ ap (λ zs. xs ++ zs) e

module _ (names : List Name) (s : Heap) (name : ℕ → ℕ → ℕ) where
  mutual
    met_one : {a i : ℕ} {t : FoldedTerm} (p : PrintsArgument names s name a i t) → links_met (events names s name p) name ≡ term_links t
    met_one (as_link e) = refl
    met_one (as_term {ts = ts} c f e g all) = both_links (events_all names s name all) (leaves c ∷ []) name (terms_links ts) [] (met_all all) refl ∙ append-nil (terms_links ts)

    met_all : {a i n : ℕ} {ts : FoldedTerms} (p : PrintsAll names s name a i n ts) → links_met (events_all names s name p) name ≡ terms_links ts
    met_all printed.none = refl
    met_all (printed.more {t = t} {ts = ts} p all) = both_links (events names s name p) (events_all names s name all) name (term_links t) (terms_links ts) (met_one p) (met_all all)

  module _ (paired : Paired s) where
    -- the walk over an item
    item_walked : (a : ℕ) (i : FoldedItem) → is_item s a ≡ true → PrintsItem names s name a i → (es : List Event) × WalkMeets s a 0 (es ++ leaves a ∷ []) × (links_met (es ++ leaves a ∷ []) name ≡ terms_links i.arguments)
    item_walked a i is p =
        let inside = events_all names s name p.arguments in
        let whole : argument_count s a ≡ arity_of s a = ap (λ z. if z then arity_of s a else arity_of s a - 1) is in
        let count : 0 + arity_of s a ≡ arity_of s a = omega arith in
        let end : WalkMeets s a (0 + arity_of s a) (leaves a ∷ []) = end_of_item (count ∙ sym whole) is in (
          inside,
          walk_all names s name paired p.arguments (leaves a ∷ []) (count ∙ sym whole) end,
          both_links inside (leaves a ∷ []) name (terms_links i.arguments) [] (met_all p.arguments) refl ∙ append-nil (terms_links i.arguments),
        )

    -- those over items
    items_walked : (xs : List ℕ) (is : List FoldedItem) → ((a : ℕ) → In a xs → is_item s a ≡ true) → PrintsItems names s name xs is → (es : List Event) × ItemsWalked s xs es × (links_met es name ≡ items_links is)
    items_walked _ _ are chosen.none = ([], none, refl)
    items_walked _ _ are (chosen.more {a = a} {others = xs} {i = i} {is = is} p ps) =
        let first = item_walked a i (are a (inl refl)) p in
        let rest = items_walked xs is (λ b h. are b (inr h)) ps in (
          (first.0 ++ leaves a ∷ []) ++ rest.0,
          more first.0 first.1 rest.1,
          both_links (first.0 ++ leaves a ∷ []) rest.0 name (terms_links i.arguments) (items_links is) first.2 rest.2,
        )

  walked_append : (xs ys : List ℕ) (es fs : List Event) → ItemsWalked s xs es → ItemsWalked s ys fs → ItemsWalked s (xs ++ ys) (es ++ fs)
  walked_append [] ys _ fs none k = k
  walked_append (a ∷ xs) ys _ fs (more {fs = gs} es w h) k =
      subst (λ zs. ItemsWalked s (a ∷ (xs ++ ys)) zs) (sym (append_assoc (es ++ leaves a ∷ []) gs fs)) (more es w (walked_append xs ys gs fs h k))

  pub items_append : (ms ns : List ℕ) → printed_items s (ms ++ ns) ≡ printed_items s ms ++ printed_items s ns
  items_append [] ns = refl
  items_append (m ∷ ms) ns = ap (λ zs. items_in s m ++ zs) (items_append ms ns) ∙ sym (append_assoc (items_in s m) (printed_items s ms) (printed_items s ns))

  -- those over the items of a forest
  pub forest_walked : (table : List RuleTree) → Paired s → (f : Forest) (given : FoldedMembranes) → PrintsForest names table s name f given
      → (es : List Event) × ItemsWalked s (printed_items s (flat f)) es × (links_met es name ≡ membranes_links given)
  forest_walked table paired _ _ forest.none = ([], none, refl)
  forest_walked table paired _ _ (forest.more {m = m} {inner = inner} {rest = rest} {items = items} {inside = inside} {others = others} p q r) =
      let here = items_walked paired (items_in s m) items (items_are s m) p in
      let within = forest_walked table paired inner inside q in
      let behind = forest_walked table paired rest others r in
      let both = walked_append (printed_items s (flat inner)) (printed_items s (flat rest)) within.0 behind.0 within.1 behind.1 in (
        here.0 ++ (within.0 ++ behind.0),
        walked_append (items_in s m) (printed_items s (flat inner ++ flat rest)) here.0 (within.0 ++ behind.0) here.1
            (subst (λ zs. ItemsWalked s zs (within.0 ++ behind.0)) (sym (items_append (flat inner) (flat rest))) both),
        both_links here.0 (within.0 ++ behind.0) name (items_links items) (membranes_links inside ++ membranes_links others) here.2
            (both_links within.0 behind.0 name (membranes_links inside) (membranes_links others) within.2 behind.2)
            ∙ sym (append_assoc (items_links items) (membranes_links inside) (membranes_links others)),
      )

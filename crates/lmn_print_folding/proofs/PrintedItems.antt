-- An item is walked, and its text is that of its words.
use Rattle.std.proofs.Common.{◌≡◌, ◌+◌, ◌-◌, ◌==◌, ◌&&◌, not, false, if◌then◌else◌, [], ◌∷◌, ◌++◌, refl, sym, ap, ◌∙◌, arith}
use Rattle.std.specs.Prelude.{codes}
use Rattle.std.proofs.lemmas.List.{append-nil}
use Rattle.lmn_store_heap.specs.Heap.{arity_of, functor_of}
use Rattle.lmn_flatten_plain.specs.Labels.{label_text}
use Rattle.lmn_print_folding.specs.Marks.{argument_count, leaves, WalkMeets, end_of_item}
use Rattle.lmn_print_folding.specs.Events.{is_functor_named, prints_as_cell, is_nil, behind_arguments, events_text}
use Rattle.lmn_print_folding.specs.Laws.{ItemsAreWalked}
use Rattle.lmn_print_folding.proofs.PrintedWalks.{events_all, walk_all}
use Rattle.lmn_print_folding.proofs.PrintedTexts.{opened, closed, label_words, text_split, opening_label, closed_is, first_args}

-- an item is printed as a walk over its terms meets it
pub items_are_walked : ItemsAreWalked
items_are_walked names s name a i valid is p =
    let inside = events_all names s name p.arguments in
    let no_cell : prints_as_cell names s a ≡ false = ap (λ z. not z && ((arity_of s a == 3) && is_functor_named names (codes ".") (functor_of s a))) is in
    let no_nil : is_nil names s a ≡ false = ap (λ z. not z && ((arity_of s a == 1) && is_functor_named names (codes "[]") (functor_of s a))) is in
    let whole : argument_count s a ≡ arity_of s a = ap (λ z. if z then arity_of s a else arity_of s a - 1) is in
    let count : 0 + arity_of s a ≡ arity_of s a = omega arith in
    let end : WalkMeets s a (0 + arity_of s a) (leaves a ∷ []) = end_of_item (count ∙ sym whole) is in
    let walk : WalkMeets s a 0 (inside ++ leaves a ∷ []) = walk_all names s name valid.sound.paired p.arguments (leaves a ∷ []) (count ∙ sym whole) end in
    let texts : events_text names s name (inside ++ leaves a ∷ []) ≡ opened i.arguments ++ closed i.arguments =
    text_split names s name inside (leaves a ∷ [])
    ∙ ap (λ z. z ++ (behind_arguments names s a ++ [])) (first_args names s name valid.sound.paired p.arguments refl no_cell)
    ∙ ap (λ z. opened i.arguments ++ z) (append-nil (behind_arguments names s a) ∙ closed_is names s name p.arguments no_cell whole) in (
      inside ++ leaves a ∷ [],
      walk,
      ap (λ z. z ++ events_text names s name (inside ++ leaves a ∷ [])) (opening_label names s name a p.functor no_cell no_nil p.is ∙ ap label_text (sym p.label))
          ∙ ap (λ z. label_text i.label ++ z) texts ∙ sym (label_words i.label i.arguments),
    )

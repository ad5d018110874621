-- The items of a membrane, one by one.
use Rattle.std.proofs.Common.{◌≡◌, ℕ, Bool, true, false, List, [], ◌∷◌, ◌++◌, map, Option, Some, None, refl, sym, ap, subst}
use Rattle.std.specs.Option.{option_map}
use Rattle.lmn_congruence.specs.Rules.{Name}
use Rattle.lmn_print_folded.specs.Terms.{FoldedItem}
use Rattle.lmn_print_folding.specs.Printed.{PrintsItem}
use Rattle.lmn_store_heap.specs.Heap.{Heap}
use Rattle.lmn_store_heap.specs.Lists.{from, after}
use Rattle.lmn_io.specs.Gathering.{SinkState, Adds}
use Rattle.lmn_print_folding.specs.Chosen.{PrintsItems, none, more, items_in}
use Rattle.lmn_print_plain.specs.Rows.{between_if, in_row}
use Rattle.lmn_print_plain.specs.Stored.{number_by_mark}
use Rattle.lmn_print_plain.proofs.DueLemmas.{Due, due_as, due_first, due_last, due_next}
use Rattle.lmn_print.specs.Texts.{AreItemTexts, item_text}

module _ (names : List Name) (s : Heap) where
  abbrev pub Prints : List ℕ → List FoldedItem → Type 0
  Prints = PrintsItems names s (number_by_mark s)

  -- the first of some items
  pub item_first : (a : ℕ) (xs : List ℕ) (left : List FoldedItem) → Prints (a ∷ xs) left
      → (i : FoldedItem) × (is : List FoldedItem) × PrintsItem names s (number_by_mark s) a i × Prints xs is × (left ≡ i ∷ is)
  item_first a xs _ (more {i = i} {is = is} p ps) = (i, is, p, ps, refl)

  item_last : (left : List FoldedItem) → Prints [] left → left ≡ []
  item_last _ none = refl

  -- what is printed of the items that are left is still to be written of a whole text
  abbrev pub ItemsDue : List ℕ → Bool → List ℕ → List ℕ → SinkState → SinkState → Type 0
  ItemsDue b any xs whole before now = (left : List FoldedItem) × Prints xs left × Due whole (in_row b any (map item_text left)) before now

  pub items_first : (b : List ℕ) (next : Option ℕ) (m : ℕ) (texts : List (List ℕ)) (o : SinkState) → from next (items_in s m) ≡ items_in s m → AreItemTexts names s m texts
      → ItemsDue b false (from next (items_in s m)) (in_row b false texts) o o
  items_first b next m texts o e are =
      (are.1, subst (λ xs. Prints xs are.1) (sym e) are.2, due_as (in_row b false texts) (in_row b false texts) (in_row b false (map item_text are.1)) o o (ap (in_row b false) are.3) (due_first (in_row b false texts) o))

  pub item_here : {A : Type 0} (id : A → ℕ) (b : List ℕ) (any : Bool) (a : A) (now : Option A) (xs whole : List ℕ) (before o : SinkState) → now ≡ Some a
      → ItemsDue b any (from (option_map id now) xs) whole before o → (i : FoldedItem) × PrintsItem names s (number_by_mark s) (id a) i
  item_here id b any a now xs whole before o is d =
      let p : Prints (from (Some (id a)) xs) d.0 = subst (λ x. Prints (from (option_map id x) xs) d.0) is d.1 in
      let first = item_first (id a) (after (id a) xs) d.0 p in
      (first.0, first.2)

  pub items_next : {A : Type 0} (id : A → ℕ) (b : List ℕ) (any : Bool) (a : A) (now next : Option A) (xs whole : List ℕ) (before o1 o2 o3 : SinkState) → now ≡ Some a → from (option_map id next) xs ≡ after (id a) xs
      → ItemsDue b any (from (option_map id now) xs) whole before o1 → Adds (between_if b any) o1 o2 → ((i : FoldedItem) → PrintsItem names s (number_by_mark s) (id a) i → Adds (item_text i) o2 o3)
      → ItemsDue b true (from (option_map id next) xs) whole before o3
  items_next id b any a now next xs whole before o1 o2 o3 is e d h k =
      let p : Prints (from (Some (id a)) xs) d.0 = subst (λ x. Prints (from (option_map id x) xs) d.0) is d.1 in
      let first = item_first (id a) (after (id a) xs) d.0 p in
      let rest = in_row b true (map item_text first.1) in
      let at : in_row b any (map item_text d.0) ≡ between_if b any ++ (item_text first.0 ++ rest) = ap (λ z. in_row b any (map item_text z)) first.4 in (
        first.1,
        subst (λ ys. Prints ys first.1) (sym e) first.3,
        due_next whole (item_text first.0 ++ rest) (item_text first.0) rest before o2 o3 refl
            (due_next whole (in_row b any (map item_text d.0)) (between_if b any) (item_text first.0 ++ rest) before o1 o2 at d.2 h) (k first.0 first.2),
      )

  pub items_end : {A : Type 0} (id : A → ℕ) (b : List ℕ) (any : Bool) (now : Option A) (xs whole : List ℕ) (before o : SinkState) → ((a : A) → now ≡ Some a → ⊥)
      → ItemsDue b any (from (option_map id now) xs) whole before o → Adds whole before o
  items_end id b any (Some a) xs whole before o none_is d = absurd (none_is a refl)
  items_end id b any None xs whole before o none_is d =
      due_last whole before o (due_as whole (in_row b any (map item_text d.0)) [] before o (ap (λ z. in_row b any (map item_text z)) (item_last d.0 d.1)) d.2)

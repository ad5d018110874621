use Rattle.std.proofs.Common.{◌∙◌, false, ap, subst, sym, List, Option, Some, None, arith}
use Rattle.std.specs.Prelude.{slice_index_or}
use Rattle.lmn_store_counts.specs.RuleLists.{RuleList}
use Rattle.lmn_web_cells.specs.CellIds.{cell_id}
use Rattle.lmn_web_merging.specs.Keepers.{merged_by}
use Rattle.lmn_store_heap.specs.Sound.{Sound, Valid}
use Rattle.lmn_store_web.proofs.AloneLemmas.{alone_valid}
use Rattle.lmn_store_web.proofs.NewLemmas.{new_all}
use Rattle.lmn_store_web.proofs.SoundLemmas.{heap_sound, merged_formed}
use Rattle.std.proofs.Common.{◌≡◌, [], ◌∷◌, ◌++◌, map, refl, arith}
use Rattle.std.specs.Option.{option_map}
use Rattle.lmn_store_heap.proofs.Listing.{alter_at}
use Rattle.lmn_web_cells.specs.declared.handle.Cell.{Cell}
use Rattle.lmn_store_web_preorder.specs.Indexed.{IsNested}
use Rattle.lmn_store_web_preorder.specs.Nests.{empty_nest, with_awake, with_key}
use Rattle.lmn_web.specs.declared.kind.CellKind.TheVariants.{Membrane}
use Rattle.lmn_web.specs.Webs.{WebCell, new_cell}
use Rattle.lmn_store_web.specs.Indexes.{IsIndexed, key_of}
use Rattle.lmn_store_web.specs.WebHeaps.{alone, heap_by}
use Rattle.lmn_store_web.proofs.IndexLemmas.{index_alone, index_by, key_is}
use Rattle.lmn_store_web.proofs.web_store.WebStore.filing.Goals as goal

pub make-requires : goal.make-requires
make-requires c = record { ports = λ _. refl; class = omega arith }

pub make-requires-2 : goal.make-requires-2
make-requires-2 c = record { ports = λ _. refl; class = omega arith }

pub make-requires-3 : goal.make-requires-3
make-requires-3 c = record { ports = λ _. refl; class = omega arith }

pub invariant_of-result : goal.invariant_of-result
invariant_of-result c =
    let all = new_all c.args.by_value (merged_by c.new-web.result) (merged_by c.make.new.self) (merged_by c.make-2.new.self) (merged_by c.make-3.new.self) (cell_id c.in_ok-waiting.waiting) (cell_id c.in_ok-gone.gone) (cell_id c.in_ok-root.root) c.in_ok-key.key c.insert.new.self.slots
    c.new-web.ensures c.in_ok-waiting.ensures.1 c.in_ok-gone.ensures.0 c.in_ok-gone.ensures.1 c.in_ok-root.ensures.0 c.in_ok-root.ensures.1 (c.in_ok-key.ensures.updates.changed ∙ ap Some c.new.ensures)
    (λ i d. c.in_ok-key.ensures.updates.others i d ∙ ap (λ (xs : List (Option RuleList)). slice_index_or xs i None) c.new-rules.ensures.empty) in
    let r = cell_id c.in_ok-root.root in
    let key : c.in_ok-key.key ≡ 0 = c.in_ok-key.ensures.key ∙ c.new-rules.ensures.first_key in
    let label = key_is (merged_by c.make-3.new.self) r c.in_ok-key.key (ap (λ (o : Option WebCell). option_map (λ q. q.label) o) ((λ j. c.in_ok-root.ensures.1 j r) ∙ alter_at (merged_by c.make-2.new.self) r (λ _. Some (new_cell c.in_ok-key.key 0 Membrane)))) in
    let now = c.set_awake.ensures (with_key 0 empty_nest) (subst (λ n. IsNested c.add.new.self (with_key n empty_nest)) key (c.in_ok-add.ensures.ok empty_nest c.new-index.ensures (record { next = omega (arith, key); bare = refl; top = λ p i. i }))) (omega (arith, key)) in
    let none = c.new-mems.ensures.items in
    let cells : map cell_id c.push_reserved.new.self.items ≡ r ∷ [] = ap (λ (xs : List Cell). map cell_id xs) (c.push_reserved.ensures.items ∙ ap (λ (xs : List Cell). xs ++ c.in_ok-root.root ∷ []) (c.reserve.ensures.items ∙ none)) in
    record {
      atoms = 0;
      mems = 1;
      sum = refl;
      store = record { stored = all.0; counts = all.1 };
      index = subst (λ xs. IsIndexed (IsNested c.set_awake.new.self) xs (key_of (merged_by c.make-3.new.self)) (heap_by (record { root = r; waiting = cell_id c.in_ok-waiting.waiting; gone = cell_id c.in_ok-gone.gone; by_value = c.args.by_value }) c.insert.new.self.slots (merged_by c.make-3.new.self))) (sym cells)
          (index_by (IsNested c.set_awake.new.self) (r ∷ []) (key_of (merged_by c.make-3.new.self)) (key_of (merged_by c.make-3.new.self)) (alone r) (heap_by (record { root = r; waiting = cell_id c.in_ok-waiting.waiting; gone = cell_id c.in_ok-gone.gone; by_value = c.args.by_value }) c.insert.new.self.slots (merged_by c.make-3.new.self)) (λ m. refl) all.2 (index_alone (IsNested c.set_awake.new.self) (key_of (merged_by c.make-3.new.self)) r false (label ∙ key) (subst (λ z. IsNested c.set_awake.new.self (with_awake z false (with_key 0 empty_nest))) key now)));
    }

pub returns-clause-heap : goal.returns-clause-heap
returns-clause-heap c =
    (new_all c.args.by_value (merged_by c.new-web.result) (merged_by c.make.new.self) (merged_by c.make-2.new.self) (merged_by c.make-3.new.self) (cell_id c.in_ok-waiting.waiting) (cell_id c.in_ok-gone.gone) (cell_id c.in_ok-root.root) c.in_ok-key.key c.insert.new.self.slots
    c.new-web.ensures c.in_ok-waiting.ensures.1 c.in_ok-gone.ensures.0 c.in_ok-gone.ensures.1 c.in_ok-root.ensures.0 c.in_ok-root.ensures.1 (c.in_ok-key.ensures.updates.changed ∙ ap Some c.new.ensures)
    (λ i d. c.in_ok-key.ensures.updates.others i d ∙ ap (λ (xs : List (Option RuleList)). slice_index_or xs i None) c.new-rules.ensures.empty)).2

pub returns-clause-valid : goal.returns-clause-valid
returns-clause-valid c =
    let all = new_all c.args.by_value (merged_by c.new-web.result) (merged_by c.make.new.self) (merged_by c.make-2.new.self) (merged_by c.make-3.new.self) (cell_id c.in_ok-waiting.waiting) (cell_id c.in_ok-gone.gone) (cell_id c.in_ok-root.root) c.in_ok-key.key c.insert.new.self.slots
    c.new-web.ensures c.in_ok-waiting.ensures.1 c.in_ok-gone.ensures.0 c.in_ok-gone.ensures.1 c.in_ok-root.ensures.0 c.in_ok-root.ensures.1 (c.in_ok-key.ensures.updates.changed ∙ ap Some c.new.ensures)
    (λ i d. c.in_ok-key.ensures.updates.others i d ∙ ap (λ (xs : List (Option RuleList)). slice_index_or xs i None) c.new-rules.ensures.empty) in
    let r = cell_id c.in_ok-root.root in
    subst Valid (sym all.2) (alone_valid r (subst Sound all.2 (heap_sound _ _ _ all.0 c.listed.ensures c.paired.ensures (merged_formed c.make-3.new.self))))

pub set_awake-requires : goal.set_awake-requires
set_awake-requires c =
    let key : c.in_ok-key.key ≡ 0 = c.in_ok-key.ensures.key ∙ c.new-rules.ensures.first_key in
    (with_key 0 empty_nest, subst (λ n. IsNested c.add.new.self (with_key n empty_nest)) key (c.in_ok-add.ensures.ok empty_nest c.new-index.ensures (record { next = omega (arith, key); bare = refl; top = λ p i. i })), omega (arith, key))

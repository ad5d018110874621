use Rattle.std.proofs.Common.{◌≡◌, ◌+◌, ◌≢◌, subst, sym, ap, ◌∙◌, ℕ, List, Some, None, arith, inl, inr}
use Rattle.std.specs.Prelude.{Option, slice_index_or}
use Rattle.slab.specs.Slab.{Slab}
use Rattle.lmn_base.proofs.Lists.{on_err}
use Rattle.lmn_store_heap.specs.Heap.{made_mem}
use Rattle.lmn_store_counts.specs.RuleLists.{RuleList}
use Rattle.lmn_store_counts.specs.Counts.{HasCounts}
use Rattle.lmn_web_cells.specs.CellIds.{cell_id}
use Rattle.lmn_web.specs.declared.kind.CellKind.TheVariants.{Membrane}
use Rattle.lmn_web.specs.Webs.{WebCell}
use Rattle.lmn_web_merging.specs.Keepers.{merged_by}
use Rattle.lmn_store_web.specs.WebHeaps.{KeptWeb, heap_of, heap_by, atoms_of, mems_of}
use Rattle.lmn_store_web.specs.WebStores.{IsStored, kept_by}
use Rattle.lmn_store_web.proofs.MakeLemmas.{new_there, new_kind, new_homeless, new_apart, old_kind, old_mark, made_line, mem_stored, made_mem_heap, made_mem_counts}
use Rattle.std.proofs.Common.{◌≤◌, map, length, refl}
use Rattle.std.proofs.lemmas.List.{length-map}
use Rattle.std.specs.Option.{option_map}
use Rattle.lmn_web_cells.specs.declared.handle.Cell.{Cell}
use Rattle.lmn_store_web_preorder.specs.Indexed.{IsNested}
use Rattle.lmn_web.specs.Webs.{web_kind, web_label}
use Rattle.lmn_store_web.specs.Indexes.{IsIndexed, key_of, held}
use Rattle.lmn_store_web.proofs.TableLemmas.{mems_none}
use Rattle.lmn_store_web.proofs.SoundLemmas.{heap_sound, merged_formed}
use Rattle.lmn_store_web.proofs.MakeLemmas.{made_key}
use Rattle.lmn_store_web.proofs.FreedIndex.{vacant_key}
use Rattle.lmn_store_web.proofs.IndexLemmas.{index_by, index_add, index_added, index_made, key_by, key_is}
use Rattle.lmn_store_web.proofs.web_store.WebStoreLinkStore.make_mem.Goals as goal

pub invariant_of-self : goal.invariant_of-self
invariant_of-self c =
    let k = kept_by c.self.inside in
    let p = k.posts in
    let v = merged_by k.web in
    let inv = c.self.invariant.store.stored in
    let same = ap (λ (s : Slab RuleList). s.slots) c.reserve.ensures.rest_kept in
    record {
      atoms = c.self.invariant.atoms;
      mems = c.self.invariant.mems;
      sum = c.self.invariant.sum;
      store = record {
        stored = subst (λ (t : List (Option RuleList)). IsStored p t v) (sym same) inv;
        counts = subst (λ (t : List (Option RuleList)). HasCounts (atoms_of p v) (mems_of p t v) c.self.invariant.atoms c.self.invariant.mems c.self.inside.spare_count) (sym same) c.self.invariant.store.counts;
      };
      index = index_by _ _ _ _ (heap_of k) (heap_by p c.reserve.new.self.slots v) (λ m. refl) (ap (λ (t : List (Option RuleList)). heap_by p t v) same) c.self.invariant.index;
    }

pub returns-in_err-reserve-clause-err : goal.returns-in_err-reserve-clause-err
returns-in_err-reserve-clause-err c =
    let k = kept_by c.self.inside in
    let p = k.posts in
    let v = merged_by k.web in
    let inv = c.self.invariant.store.stored in
    let same = ap (λ (s : Slab RuleList). s.slots) c.reserve.ensures.rest_kept in
    on_err _ _ (ap (λ (t : List (Option RuleList)). heap_by p t v) same ∙ ap (λ (z : KeptWeb). heap_of z) c.self.view_is)

pub invariant_of-self-in_err-m : goal.invariant_of-self-in_err-m
invariant_of-self-in_err-m c =
    let k = kept_by c.self.inside in
    let p = k.posts in
    let v = merged_by k.web in
    let inv = c.self.invariant.store.stored in
    let same = ap (λ (s : Slab RuleList). s.slots) c.reserve.ensures.rest_kept in
    let t = c.reserve.new.self.slots in
    let l = c.vacant_key-place.result in
    let free = vacant_key p k.table v inv l (ap (λ (xs : List (Option RuleList)). slice_index_or xs l None) (sym same) ∙ c.vacant_key-place.ensures.vacant) in
    let test = c.if-place-len.false in let len = c.len.ensures in let many = length-map c.self.inside.mems.items cell_id in
    let low : l ≤ length (map cell_id c.self.inside.mems.items) = omega (arith, test, len, many) in
    let listed = (heap_sound p k.table v inv c.listed.ensures c.paired.ensures (merged_formed k.web)).listed in
    let x = c.self.invariant.index in
    let can = index_add _ _ _ _ x listed l low free in
    let now = c.in_ok-add.ensures.ok x.nest x.nested can in
    let kept = ap (λ (xs : List Cell). map cell_id xs) c.reserve-2.ensures.items in
    record {
      atoms = c.self.invariant.atoms;
      mems = c.self.invariant.mems;
      sum = c.self.invariant.sum;
      store = record {
        stored = subst (λ (f : ℕ → Option WebCell). IsStored p t f) (sym c.in_err-m.ensures) (subst (λ (t : List (Option RuleList)). IsStored p t v) (sym same) inv);
        counts = subst (λ (f : ℕ → Option WebCell). HasCounts (atoms_of p f) (mems_of p t f) c.self.invariant.atoms c.self.invariant.mems c.self.inside.spare_count) (sym c.in_err-m.ensures)
            (subst (λ (t : List (Option RuleList)). HasCounts (atoms_of p v) (mems_of p t v) c.self.invariant.atoms c.self.invariant.mems c.self.inside.spare_count) (sym same) c.self.invariant.store.counts);
      };
      index = subst (λ xs. IsIndexed (IsNested c.add.new.self) xs (key_of (merged_by c.make.new.self)) (heap_by p t (merged_by c.make.new.self))) (sym kept)
          (index_by (IsNested c.add.new.self) _ (key_of v) (key_of (merged_by c.make.new.self)) (heap_of k) (heap_by p t (merged_by c.make.new.self)) (λ m. key_by v (merged_by c.make.new.self) m (ap (λ (f : ℕ → Option WebCell). web_label f m) c.in_err-m.ensures))
          (ap (λ (f : ℕ → Option WebCell). heap_by p t f) c.in_err-m.ensures ∙ ap (λ (t : List (Option RuleList)). heap_by p t v) same) (index_added _ _ _ _ x listed (IsNested c.add.new.self) l low free now));
    }

pub returns-in_err-m-clause-err : goal.returns-in_err-m-clause-err
returns-in_err-m-clause-err c =
    let k = kept_by c.self.inside in
    let p = k.posts in
    let v = merged_by k.web in
    let inv = c.self.invariant.store.stored in
    let same = ap (λ (s : Slab RuleList). s.slots) c.reserve.ensures.rest_kept in
    on_err _ _ (ap (λ (f : ℕ → Option WebCell). heap_by p c.reserve.new.self.slots f) c.in_err-m.ensures ∙ ap (λ (t : List (Option RuleList)). heap_by p t v) same ∙ ap (λ (z : KeptWeb). heap_of z) c.self.view_is)

pub make-requires : goal.make-requires
make-requires c = record { ports = λ _. refl; class = omega arith }

pub add_last-requires-clause-own : goal.add_last-requires-clause-own
add_last-requires-clause-own c _ =
    let k = kept_by c.self.inside in
    let p = k.posts in
    let v = merged_by k.web in
    let inv = c.self.invariant.store.stored in
    let m = cell_id c.in_ok-m.m in
    let u = merged_by c.make.new.self in
    let none = c.in_ok-m.ensures.0 in
    let make = c.in_ok-m.ensures.1 in
    inr (old_mark v u m _ 0 _ none make p.waiting inv.waiting ∙ inv.plain p.waiting inv.waiting (inl refl))

pub add_last-requires-clause-kind : goal.add_last-requires-clause-kind
add_last-requires-clause-kind c =
    let k = kept_by c.self.inside in
    let p = k.posts in
    let v = merged_by k.web in
    let inv = c.self.invariant.store.stored in
    let same = ap (λ (s : Slab RuleList). s.slots) c.reserve.ensures.rest_kept in
    let l = c.vacant_key-place.result in
    let m = cell_id c.in_ok-m.m in
    let u = merged_by c.make.new.self in
    let none = c.in_ok-m.ensures.0 in
    let make = c.in_ok-m.ensures.1 in
    new_kind v u m _ 0 _ none make

pub add_last-requires-clause-there : goal.add_last-requires-clause-there
add_last-requires-clause-there c =
    let k = kept_by c.self.inside in
    let p = k.posts in
    let v = merged_by k.web in
    let inv = c.self.invariant.store.stored in
    let same = ap (λ (s : Slab RuleList). s.slots) c.reserve.ensures.rest_kept in
    let l = c.vacant_key-place.result in
    let m = cell_id c.in_ok-m.m in
    let u = merged_by c.make.new.self in
    let none = c.in_ok-m.ensures.0 in
    let make = c.in_ok-m.ensures.1 in
    new_there v u m _ 0 _ none make

pub add_last-requires-clause-homeless : goal.add_last-requires-clause-homeless
add_last-requires-clause-homeless c =
    let k = kept_by c.self.inside in
    let p = k.posts in
    let v = merged_by k.web in
    let inv = c.self.invariant.store.stored in
    let same = ap (λ (s : Slab RuleList). s.slots) c.reserve.ensures.rest_kept in
    let l = c.vacant_key-place.result in
    let m = cell_id c.in_ok-m.m in
    let u = merged_by c.make.new.self in
    let none = c.in_ok-m.ensures.0 in
    let make = c.in_ok-m.ensures.1 in
    new_homeless v u m _ 0 _ none make

pub add_last-requires-clause-membrane : goal.add_last-requires-clause-membrane
add_last-requires-clause-membrane c =
    let k = kept_by c.self.inside in
    let p = k.posts in
    let v = merged_by k.web in
    let inv = c.self.invariant.store.stored in
    let same = ap (λ (s : Slab RuleList). s.slots) c.reserve.ensures.rest_kept in
    let l = c.vacant_key-place.result in
    let m = cell_id c.in_ok-m.m in
    let u = merged_by c.make.new.self in
    let none = c.in_ok-m.ensures.0 in
    let make = c.in_ok-m.ensures.1 in
    old_kind v u m _ 0 _ none make p.waiting inv.waiting

pub add_last-requires-clause-differ : goal.add_last-requires-clause-differ
add_last-requires-clause-differ c =
    let k = kept_by c.self.inside in
    let p = k.posts in
    let v = merged_by k.web in
    let inv = c.self.invariant.store.stored in
    let same = ap (λ (s : Slab RuleList). s.slots) c.reserve.ensures.rest_kept in
    let l = c.vacant_key-place.result in
    let m = cell_id c.in_ok-m.m in
    let u = merged_by c.make.new.self in
    let none = c.in_ok-m.ensures.0 in
    let make = c.in_ok-m.ensures.1 in
    new_apart v u m _ 0 _ none make p.waiting inv.waiting

pub invariant_of-self-2 : goal.invariant_of-self-2
invariant_of-self-2 c =
    let k = kept_by c.self.inside in
    let p = k.posts in
    let v = merged_by k.web in
    let inv = c.self.invariant.store.stored in
    let same = ap (λ (s : Slab RuleList). s.slots) c.reserve.ensures.rest_kept in
    let l = c.vacant_key-place.result in
    let m = cell_id c.in_ok-m.m in
    let u = merged_by c.make.new.self in
    let none = c.in_ok-m.ensures.0 in
    let make = c.in_ok-m.ensures.1 in
    let w = merged_by c.add_last.new.self in
    let t1 = c.insert_reserved.new.self.slots in
    let key = c.insert_reserved.ensures.key ∙ sym c.vacant_key-place.ensures.value in
    let vacant = ap (λ (xs : List (Option RuleList)). slice_index_or xs l None) (sym same) ∙ c.vacant_key-place.ensures.vacant in
    let row = ap (λ z. slice_index_or t1 z None) (sym key) ∙ c.insert_reserved.ensures.updates.changed ∙ ap Some c.new.ensures in
    let others : (i : ℕ) → i ≢ l → slice_index_or t1 i None ≡ slice_index_or k.table i None = λ i d. c.insert_reserved.ensures.updates.others i (λ e. d (e ∙ key)) ∙ ap (λ (xs : List (Option RuleList)). slice_index_or xs i None) same in
    let d = made_line p v u w m Membrane l 0 none (λ e. new_apart v u m _ 0 _ none make p.waiting inv.waiting (sym e)) make c.add_last.ensures in
    let least = c.if-self-ge-BOUND.false in let sum = c.self.invariant.sum in
    let free = vacant_key p k.table v inv l (ap (λ (xs : List (Option RuleList)). slice_index_or xs l None) (sym same) ∙ c.vacant_key-place.ensures.vacant) in
    let test = c.if-place-len.false in let len = c.len.ensures in let many = length-map c.self.inside.mems.items cell_id in
    let low : l ≤ length (map cell_id c.self.inside.mems.items) = omega (arith, test, len, many) in
    let listed = (heap_sound p k.table v inv c.listed.ensures c.paired.ensures (merged_formed k.web)).listed in
    let x = c.self.invariant.index in
    let can = index_add _ _ _ _ x listed l low free in
    let now = c.in_ok-add.ensures.ok x.nest x.nested can in
    let kept = ap (λ (xs : List Cell). map cell_id xs) c.reserve-2.ensures.items in
    record {
      atoms = c.self.invariant.atoms;
      mems = c.self.invariant.mems + 1;
      sum = omega (arith, sum);
      store = record {
        stored = mem_stored p k.table t1 v w m l d inv vacant row others;
        counts = made_mem_counts p k.table t1 v w m l d inv vacant row others _ _ _ (omega (arith, least, sum)) c.self.invariant.store.counts;
      };
      index = subst (λ xs. IsIndexed (IsNested c.add.new.self) xs (key_of w) (heap_by p t1 w)) (sym (c.hold.ensures ∙ ap (λ xs. held l m xs) kept))
          (index_by (IsNested c.add.new.self) _ (key_of w) (key_of w) (made_mem (heap_of k) m) (heap_by p t1 w) (λ y. refl) (made_mem_heap p k.table t1 v w m l d inv vacant row others)
          (index_made _ _ _ _ x listed (IsNested c.add.new.self) (key_of w) m l (mems_none p k.table v m (ap web_kind none)) low free (key_is w m l (ap (λ (o : Option WebCell). option_map (λ q. q.label) o) d.here)) (λ y f i. made_key p v w m Membrane l 0 d k.table y i) now));
    }

pub returns-clause-ok : goal.returns-clause-ok
returns-clause-ok c =
    let k = kept_by c.self.inside in
    let p = k.posts in
    let v = merged_by k.web in
    let inv = c.self.invariant.store.stored in
    let same = ap (λ (s : Slab RuleList). s.slots) c.reserve.ensures.rest_kept in
    let l = c.vacant_key-place.result in
    let m = cell_id c.in_ok-m.m in
    let u = merged_by c.make.new.self in
    let none = c.in_ok-m.ensures.0 in
    let make = c.in_ok-m.ensures.1 in
    let w = merged_by c.add_last.new.self in
    let t1 = c.insert_reserved.new.self.slots in
    let key = c.insert_reserved.ensures.key ∙ sym c.vacant_key-place.ensures.value in
    let vacant = ap (λ (xs : List (Option RuleList)). slice_index_or xs l None) (sym same) ∙ c.vacant_key-place.ensures.vacant in
    let row = ap (λ z. slice_index_or t1 z None) (sym key) ∙ c.insert_reserved.ensures.updates.changed ∙ ap Some c.new.ensures in
    let others : (i : ℕ) → i ≢ l → slice_index_or t1 i None ≡ slice_index_or k.table i None = λ i d. c.insert_reserved.ensures.updates.others i (λ e. d (e ∙ key)) ∙ ap (λ (xs : List (Option RuleList)). slice_index_or xs i None) same in
    let d = made_line p v u w m Membrane l 0 none (λ e. new_apart v u m _ 0 _ none make p.waiting inv.waiting (sym e)) make c.add_last.ensures in
    made_mem_heap p k.table t1 v w m l d inv vacant row others ∙ ap (λ (z : KeptWeb). made_mem (heap_of z) m) c.self.view_is

pub add-requires : goal.add-requires
add-requires c =
    let k = kept_by c.self.inside in
    let p = k.posts in
    let v = merged_by k.web in
    let inv = c.self.invariant.store.stored in
    let same = ap (λ (s : Slab RuleList). s.slots) c.reserve.ensures.rest_kept in
    let l = c.vacant_key-place.result in
    let free = vacant_key p k.table v inv l (ap (λ (xs : List (Option RuleList)). slice_index_or xs l None) (sym same) ∙ c.vacant_key-place.ensures.vacant) in
    let test = c.if-place-len.false in let len = c.len.ensures in let many = length-map c.self.inside.mems.items cell_id in
    let low : l ≤ length (map cell_id c.self.inside.mems.items) = omega (arith, test, len, many) in
    let listed = (heap_sound p k.table v inv c.listed.ensures c.paired.ensures (merged_formed k.web)).listed in
    let x = c.self.invariant.index in
    let can = index_add _ _ _ _ x listed l low free in
    (x.nest, x.nested, can)

pub invariant_of-self-then-place-len : goal.invariant_of-self-then-place-len
invariant_of-self-then-place-len c =
    let k = kept_by c.self.inside in
    let p = k.posts in
    let v = merged_by k.web in
    let inv = c.self.invariant.store.stored in
    let same = ap (λ (s : Slab RuleList). s.slots) c.reserve.ensures.rest_kept in
    record {
      atoms = c.self.invariant.atoms;
      mems = c.self.invariant.mems;
      sum = c.self.invariant.sum;
      store = record {
        stored = subst (λ (t : List (Option RuleList)). IsStored p t v) (sym same) inv;
        counts = subst (λ (t : List (Option RuleList)). HasCounts (atoms_of p v) (mems_of p t v) c.self.invariant.atoms c.self.invariant.mems c.self.inside.spare_count) (sym same) c.self.invariant.store.counts;
      };
      index = index_by _ _ _ _ (heap_of k) (heap_by p c.reserve.new.self.slots v) (λ m. refl) (ap (λ (t : List (Option RuleList)). heap_by p t v) same) c.self.invariant.index;
    }

pub returns-then-place-len-clause-err : goal.returns-then-place-len-clause-err
returns-then-place-len-clause-err c =
    let k = kept_by c.self.inside in
    let p = k.posts in
    let v = merged_by k.web in
    let inv = c.self.invariant.store.stored in
    let same = ap (λ (s : Slab RuleList). s.slots) c.reserve.ensures.rest_kept in
    ap (λ (t : List (Option RuleList)). heap_by p t v) same ∙ ap (λ (z : KeptWeb). heap_of z) c.self.view_is

pub invariant_of-self-in_err-reserve-2 : goal.invariant_of-self-in_err-reserve-2
invariant_of-self-in_err-reserve-2 c =
    let k = kept_by c.self.inside in
    let p = k.posts in
    let v = merged_by k.web in
    let inv = c.self.invariant.store.stored in
    let same = ap (λ (s : Slab RuleList). s.slots) c.reserve.ensures.rest_kept in
    let kept = ap (λ (xs : List Cell). map cell_id xs) c.reserve-2.ensures.items in
    record {
      atoms = c.self.invariant.atoms;
      mems = c.self.invariant.mems;
      sum = c.self.invariant.sum;
      store = record {
        stored = subst (λ (t : List (Option RuleList)). IsStored p t v) (sym same) inv;
        counts = subst (λ (t : List (Option RuleList)). HasCounts (atoms_of p v) (mems_of p t v) c.self.invariant.atoms c.self.invariant.mems c.self.inside.spare_count) (sym same) c.self.invariant.store.counts;
      };
      index = subst (λ xs. IsIndexed (IsNested c.self.inside.index) xs (key_of v) (heap_by p c.reserve.new.self.slots v)) (sym kept) (index_by _ _ _ _ (heap_of k) (heap_by p c.reserve.new.self.slots v) (λ m. refl) (ap (λ (t : List (Option RuleList)). heap_by p t v) same) c.self.invariant.index);
    }

pub returns-in_err-reserve-2-clause-err : goal.returns-in_err-reserve-2-clause-err
returns-in_err-reserve-2-clause-err c =
    let k = kept_by c.self.inside in
    let p = k.posts in
    let v = merged_by k.web in
    let inv = c.self.invariant.store.stored in
    let same = ap (λ (s : Slab RuleList). s.slots) c.reserve.ensures.rest_kept in
    on_err _ _ (ap (λ (t : List (Option RuleList)). heap_by p t v) same ∙ ap (λ (z : KeptWeb). heap_of z) c.self.view_is)

pub invariant_of-self-in_err-add : goal.invariant_of-self-in_err-add
invariant_of-self-in_err-add c =
    let k = kept_by c.self.inside in
    let p = k.posts in
    let v = merged_by k.web in
    let inv = c.self.invariant.store.stored in
    let same = ap (λ (s : Slab RuleList). s.slots) c.reserve.ensures.rest_kept in
    let kept = ap (λ (xs : List Cell). map cell_id xs) c.reserve-2.ensures.items in
    record {
      atoms = c.self.invariant.atoms;
      mems = c.self.invariant.mems;
      sum = c.self.invariant.sum;
      store = record {
        stored = subst (λ (t : List (Option RuleList)). IsStored p t v) (sym same) inv;
        counts = subst (λ (t : List (Option RuleList)). HasCounts (atoms_of p v) (mems_of p t v) c.self.invariant.atoms c.self.invariant.mems c.self.inside.spare_count) (sym same) c.self.invariant.store.counts;
      };
      index = subst (λ i. IsIndexed (IsNested i) (map cell_id c.reserve-2.new.self.items) (key_of v) (heap_by p c.reserve.new.self.slots v)) (sym c.in_err-add.ensures.err)
          (subst (λ xs. IsIndexed (IsNested c.self.inside.index) xs (key_of v) (heap_by p c.reserve.new.self.slots v)) (sym kept) (index_by _ _ _ _ (heap_of k) (heap_by p c.reserve.new.self.slots v) (λ m. refl) (ap (λ (t : List (Option RuleList)). heap_by p t v) same) c.self.invariant.index));
    }

pub returns-in_err-add-clause-err : goal.returns-in_err-add-clause-err
returns-in_err-add-clause-err c =
    let k = kept_by c.self.inside in
    let p = k.posts in
    let v = merged_by k.web in
    let inv = c.self.invariant.store.stored in
    let same = ap (λ (s : Slab RuleList). s.slots) c.reserve.ensures.rest_kept in
    on_err _ _ (ap (λ (t : List (Option RuleList)). heap_by p t v) same ∙ ap (λ (z : KeptWeb). heap_of z) c.self.view_is)

pub returns-clause-fresh : goal.returns-clause-fresh
returns-clause-fresh c =
    let k = kept_by c.self.inside in let m = cell_id c.in_ok-m.m in
    subst (λ (z : KeptWeb). (heap_of z).mems m ≡ None) c.self.view_is (mems_none k.posts k.table (merged_by k.web) m (ap web_kind c.in_ok-m.ensures.0))

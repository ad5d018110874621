use Rattle.std.proofs.Common.{ℕ, ◌≡◌, ◌≢◌, length, map, Option, Some, sym, ap, subst, ◌∙◌, arith}
use Rattle.std.proofs.lemmas.List.{length-map}
use Rattle.std.proofs.lemmas.Option.{slice_get-map, slice_get-get_or}
use Rattle.std.specs.Option.{option_map}
use Rattle.lmn_web_cells.specs.declared.handle.Cell.{Cell}
use Rattle.std.specs.Prelude.{MatchOption, slice_get}
use Rattle.lmn_store_heap.specs.Heap.{IsMem, mem_mark_of}
use Rattle.lmn_store_heap.specs.Sound.{Forest, IsTree, Valid, flat}
use Rattle.lmn_web_cells.specs.CellIds.{cell_id}
use Rattle.lmn_store_web_preorder.proofs.Keyed.{keyed}
use Rattle.lmn_store_trait.specs.Awake.{NoneAwake, IsNextAwake}
use Rattle.lmn_web_merging.specs.Keepers.{merged_by}
use Rattle.lmn_store_web.specs.Indexes.{key_of}
use Rattle.lmn_store_web.specs.WebHeaps.{KeptWeb, heap_of}
use Rattle.lmn_store_web.specs.WebStores.{HasRules, kept_by}
use Rattle.lmn_store_web.proofs.AwakeLemmas.{root_top, root_tree, root_told, none_told, told_low, some_told}
use Rattle.lmn_store_web.proofs.IndexLemmas.{key_is}
use Rattle.lmn_web_merging.proofs.Sending.{kind_there}
use Rattle.lmn_store_web.proofs.ReadLemmas.{mem_is, mem_mark_is}
use Rattle.lmn_store_web.proofs.web_store.WebStoreLinkStore.awake_from.Goals.{in-None, in-Some, else-start-eq0-via-then-start-eq0+else-mark-eq-AWAKE, else-start-eq0-via-else-start-eq0}
use Rattle.lmn_store_web.proofs.web_store.WebStoreLinkStore.awake_from.Goals as goal

pub awake_from-requires : goal.awake_from-requires
awake_from-requires c =
    let k = kept_by c.self.inside in let w = merged_by k.web in let x = c.self.invariant.index in
    let valid = subst (λ (z : KeptWeb). Valid (heap_of z)) (sym c.self.view_is) c.requires in
    let rules = subst (λ (z : KeptWeb). HasRules z.table (merged_by z.web) (cell_id c.self.inside.root) c.place_of_rules-top.result) (sym c.self.view_is) c.place_of_rules-top.ensures in
    let root = key_is w (cell_id c.self.inside.root) c.place_of_rules-top.result rules.0 in
    let top = root_top _ _ _ _ x valid.sound c.place_of_rules-top.result root in
    (x.nest, x.nested, top.0, top.1)

pub index-requires : goal.index-requires
index-requires c =
    let k = kept_by c.self.inside in let w = merged_by k.web in let x = c.self.invariant.index in
    let valid = subst (λ (z : KeptWeb). Valid (heap_of z)) (sym c.self.view_is) c.requires in
    let rules = subst (λ (z : KeptWeb). HasRules z.table (merged_by z.web) (cell_id c.self.inside.root) c.place_of_rules-top.result) (sym c.self.view_is) c.place_of_rules-top.ensures in
    let root = key_is w (cell_id c.self.inside.root) c.place_of_rules-top.result rules.0 in
    let top = root_top _ _ _ _ x valid.sound c.place_of_rules-top.result root in
    let s = c.self.invariant.store.stored in
    let mark = mem_mark_is k.posts k.table w k.posts.root s.root s.root_waits s.root_goes in
    let sleeps : c.args.start ≡ 0 → mem_mark_of (heap_of k) k.posts.root ≢ 0 = λ e z. elim c.else-start-eq0.branch [
      | else-start-eq0-via-then-start-eq0+else-mark-eq-AWAKE b ↦ b.if-mark-eq-AWAKE.false (b.mark.ensures ∙ sym mark ∙ z)
      | else-start-eq0-via-else-start-eq0 b ↦ b.if-start-eq0.false e
    ] in
    let f = valid.tree.0 in let t = valid.tree.1 in
    let first = c.in-Some.ensures.first x.nest (keyed (key_of w) f) x.nested top.0 top.1 (root_tree _ _ _ _ x valid.sound f t c.place_of_rules-top.result root) in
    let low = told_low _ _ _ _ x valid.sound f t c.args.start sleeps c.max.result c.max.ensures c.in-Some.number c.in-Some.key first in
    let same = length-map c.self.inside.mems.items cell_id in
    let len = c.self.inside.mems.ok.0 in
    omega (arith, low, same, len)

pub invariant_of-self : goal.invariant_of-self
invariant_of-self c =
    let x = c.self.invariant.index in
    record {
      atoms = c.self.invariant.atoms;
      mems = c.self.invariant.mems;
      sum = c.self.invariant.sum;
      store = c.self.invariant.store;
      index = record { nest = x.nest; nested = c.awake_from.ensures.keeps x.nest x.nested; agrees = x.agrees; cells = x.cells; few = x.few };
    }

pub returns-clause-next : goal.returns-clause-next
returns-clause-next c =
    let k = kept_by c.self.inside in
    subst (λ (z : KeptWeb). (f : Forest) → IsTree (heap_of z) f → MatchOption c.match-awake_from.result (NoneAwake (heap_of z) (flat f) c.args.start (length (flat f))) (λ r. IsNextAwake (heap_of z) (flat f) c.args.start r.0 (cell_id r.1))) c.self.view_is
    (λ f t.
    let w = merged_by k.web in let x = c.self.invariant.index in
    let valid = subst (λ (z : KeptWeb). Valid (heap_of z)) (sym c.self.view_is) c.requires in
    let rules = subst (λ (z : KeptWeb). HasRules z.table (merged_by z.web) (cell_id c.self.inside.root) c.place_of_rules-top.result) (sym c.self.view_is) c.place_of_rules-top.ensures in
    let root = key_is w (cell_id c.self.inside.root) c.place_of_rules-top.result rules.0 in
    let top = root_top _ _ _ _ x valid.sound c.place_of_rules-top.result root in
    let tree = root_tree _ _ _ _ x valid.sound f t c.place_of_rules-top.result root in
    let s = c.self.invariant.store.stored in
    let mark = mem_mark_is k.posts k.table w k.posts.root s.root s.root_waits s.root_goes in
    let sleeps : c.args.start ≡ 0 → mem_mark_of (heap_of k) k.posts.root ≢ 0 = λ e z. elim c.else-start-eq0.branch [
      | else-start-eq0-via-then-start-eq0+else-mark-eq-AWAKE b ↦ b.if-mark-eq-AWAKE.false (b.mark.ensures ∙ sym mark ∙ z)
      | else-start-eq0-via-else-start-eq0 b ↦ b.if-start-eq0.false e
    ] in
    let h = heap_of k in
    elim c.match-awake_from.branch [
      | in-None b ↦ (
          let first = b.in-None.ensures.first x.nest (keyed (key_of w) f) x.nested top.0 top.1 tree in
          subst (λ (o : Option (ℕ × Cell)). MatchOption o (NoneAwake h (flat f) c.args.start (length (flat f))) (λ r. IsNextAwake h (flat f) c.args.start r.0 (cell_id r.1))) (sym b.result-is)
          (none_told _ _ _ _ x valid.sound f t c.args.start sleeps c.max.result c.max.ensures first))
      | in-Some b ↦ (
          let first = b.in-Some.ensures.first x.nest (keyed (key_of w) f) x.nested top.0 top.1 tree in
          let low = told_low _ _ _ _ x valid.sound f t c.args.start sleeps c.max.result c.max.ensures b.in-Some.number b.in-Some.key first in
          let same = length-map c.self.inside.mems.items cell_id in
          let at : slice_get (map cell_id c.self.inside.mems.items) b.in-Some.key ≡ Some (cell_id b.index.result.now) =
          slice_get-map cell_id c.self.inside.mems.items b.in-Some.key ∙ ap (λ (o : Option Cell). option_map cell_id o) (slice_get-get_or c.self.inside.mems.items b.in-Some.key b.index.result.now (omega (arith, low, same)) ∙ ap Some (sym b.index.ensures)) in
          subst (λ (o : Option (ℕ × Cell)). MatchOption o (NoneAwake h (flat f) c.args.start (length (flat f))) (λ r. IsNextAwake h (flat f) c.args.start r.0 (cell_id r.1))) (sym b.result-is)
          (some_told _ _ _ _ x valid.sound f t c.args.start sleeps c.max.result c.max.ensures b.in-Some.number b.in-Some.key (cell_id b.index.result.now) first at))
    ])

pub returns-clause-same : goal.returns-clause-same
returns-clause-same c = ap (λ (z : KeptWeb). heap_of z) c.self.view_is

pub place_of_rules-top-requires : goal.place_of_rules-top-requires
place_of_rules-top-requires c =
    let k = kept_by c.self.inside in let s = c.self.invariant.store.stored in
    subst (λ (z : KeptWeb). IsMem (heap_of z) (cell_id c.self.inside.root)) c.self.view_is (mem_is k.posts k.table (merged_by k.web) k.posts.root s.root s.root_waits s.root_goes (kind_there (merged_by k.web k.posts.root) s.root))

pub mark-requires-clause-there : goal.mark-requires-clause-there
mark-requires-clause-there c =
    let k = kept_by c.self.inside in
    kind_there (merged_by k.web k.posts.root) c.self.invariant.store.stored.root

pub returns-then-mark-eq-AWAKE-clause-next : goal.returns-then-mark-eq-AWAKE-clause-next
returns-then-mark-eq-AWAKE-clause-next c =
    let k = kept_by c.self.inside in
    let s = c.self.invariant.store.stored in
    let valid = subst (λ (z : KeptWeb). Valid (heap_of z)) (sym c.self.view_is) c.requires in
    subst (λ (z : KeptWeb). (f : Forest) → IsTree (heap_of z) f → IsNextAwake (heap_of z) (flat f) c.args.start 0 (cell_id c.self.inside.root)) c.self.view_is
    (λ f t. root_told _ _ _ _ c.self.invariant.index valid.sound f t c.args.start c.if-start-eq0.true
    (mem_mark_is k.posts k.table (merged_by k.web) k.posts.root s.root s.root_waits s.root_goes ∙ sym c.mark.ensures ∙ c.if-mark-eq-AWAKE.true))

use Rattle.lmn_web_merging.proofs.Sending.{kind_there}
use Rattle.lmn_store_web.specs.WebStores.{kept_by}
use Rattle.lmn_store_web.specs.WebHeaps.{KeptWeb}
use Rattle.lmn_web_merging.specs.Keepers.{merged_by}
use Rattle.lmn_web_cells.specs.CellIds.{cell_id}
use Rattle.std.specs.Prelude.{IsSome, IfSome}
use Rattle.std.proofs.Common.{subst, sym}
use Rattle.lmn_store_web.proofs.web_store.WebStore.standing.Goals as goal

pub same-requires-clause-first : goal.same-requires-clause-first
same-requires-clause-first c =
    let k = kept_by c.self.inside in
    subst (λ o. IfSome o (λ m. IsSome (merged_by k.web (cell_id m)))) c.in-Some.is (subst (λ (z : KeptWeb). IfSome c.args.home (λ m. IsSome (merged_by z.web (cell_id m)))) (sym c.self.view_is) c.requires)

pub same-requires-else-same-clause-first : goal.same-requires-else-same-clause-first
same-requires-else-same-clause-first c =
    let k = kept_by c.self.inside in
    subst (λ o. IfSome o (λ m. IsSome (merged_by k.web (cell_id m)))) c.in-Some.is (subst (λ (z : KeptWeb). IfSome c.args.home (λ m. IsSome (merged_by z.web (cell_id m)))) (sym c.self.view_is) c.requires)

pub same-requires-clause-second : goal.same-requires-clause-second
same-requires-clause-second c = let k = kept_by c.self.inside in kind_there (merged_by k.web k.posts.waiting) c.self.invariant.store.stored.waiting

pub same-requires-else-same-clause-second : goal.same-requires-else-same-clause-second
same-requires-else-same-clause-second c = let k = kept_by c.self.inside in kind_there (merged_by k.web k.posts.gone) c.self.invariant.store.stored.gone

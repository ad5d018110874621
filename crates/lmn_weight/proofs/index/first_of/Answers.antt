use Rattle.std.proofs.Common.{ℕ, ◌≡◌, true, false, rules, subst}
use Rattle.std.proofs.lemmas.List.Sorted.{IsPartitionPoint-from_clause}
use Rattle.std.specs.List.Sorted.{IsPartitionPoint}
use Rattle.std.specs.Ordering.{is_lt}
use Rattle.lmn_weight.specs.declared.index.Entry.{Entry}
use Rattle.lmn_weight.specs.Index.{entry_at, entry_cmp}
use Rattle.lmn_weight.proofs.IndexLemmas.{places_below}
use Rattle.lmn_weight.proofs.index.first_of.Goals as goal

pub returns : goal.returns
returns c =
    let fs = c.args.functors.now in
    let ps = c.args.index.now in
    let w = c.entry_of-wanted.result in
    let point = IsPartitionPoint-from_clause (λ (k : ℕ). is_lt (entry_cmp (entry_at fs k) w)) ps c.partition_point.result c.partition_point.ensures.partitioned (places_below fs ps c.requires w) (λ a r q k. search rules) in
    subst (λ (x : Entry). IsPartitionPoint (λ k. is_lt (entry_cmp (entry_at fs k) x) ≡ true) (λ k. is_lt (entry_cmp (entry_at fs k) x) ≡ false) ps c.partition_point.result) c.entry_of-wanted.ensures point

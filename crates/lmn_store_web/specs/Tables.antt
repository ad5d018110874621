-- Words of the contracts of private functions: what a table of rules has at a place.
use Rattle.std.specs.Prelude.{ℕ, List, [], Option, None, slice_index_or}
use Rattle.std.specs.Option.{option_map}
use Rattle.lmn_store_heap.specs.Heap.{HeapMem, top}
use Rattle.lmn_store_counts.specs.RuleLists.{RuleList}

-- a membrane with these rules, and nothing else
abbrev pub with_these : RuleList → HeapMem
with_these r = record { atoms = []; mems = []; rules = r.numbers; spare = r.spare; mark = 0; place = top }

-- that of each place of a table, if there are rules
abbrev pub rows : List (Option RuleList) → ℕ → Option HeapMem
rows table i = option_map with_these (slice_index_or table i None)

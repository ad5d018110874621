use Rattle.std.proofs.Common.{ℕ, List, ◌∙◌, ap, ◌++◌, ◌∷◌, []}
use Rattle.lmn_store_heap.specs.Heap.{alter}
use Rattle.lmn_store_slab.proofs.CountLemmas.{left_free}
use Rattle.lmn_store_slab.proofs.lists.Lists.move_last.Goals as goal

pub push_last-requires-clause-free : goal.push_last-requires-clause-free
push_last-requires-clause-free c = left_free _ _ c.args.from_list c.args.x c.unlink.ensures.lists c.requires.once c.requires.only c.requires.there

pub returns-clause-lists : goal.returns-clause-lists
returns-clause-lists c = c.push_last.ensures.lists ∙ ap (λ (f : ℕ → List ℕ). alter f c.args.to_list (λ xs. xs ++ c.args.x ∷ [])) c.unlink.ensures.lists

pub returns-clause-sizes : goal.returns-clause-sizes
returns-clause-sizes c = record { lists = c.push_last.ensures.count ∙ c.unlink.ensures.count; size = c.push_last.ensures.size ∙ c.unlink.ensures.size }

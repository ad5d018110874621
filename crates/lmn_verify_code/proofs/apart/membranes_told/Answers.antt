use Rattle.std.proofs.Common.{ap, ◌∙◌}
use Rattle.lmn_verify_code.specs.Counted.{told_all, membranes_marked}
use Rattle.lmn_verify_code.proofs.Counting.{membranes_tell}
use Rattle.lmn_verify_code.proofs.apart.membranes_told.Goals as goal

pub returns : goal.returns
returns c = membranes_tell _ c.args.head.now c.mark_all_membranes.new.pairs (c.mark_all_membranes.ensures ∙ ap (λ t. told_all membranes_marked t c.args.head.now) (c.from_vec-pairs.ensures ∙ c.in_ok-vec.ensures.items_if_clones_equal (λ y h. h)))

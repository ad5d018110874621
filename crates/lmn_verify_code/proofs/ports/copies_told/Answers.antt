use Rattle.std.proofs.Common.{ap, ◌∙◌}
use Rattle.lmn_verify_code.specs.Counted.{told_all, copy_counted}
use Rattle.lmn_verify_code.proofs.Counting.{copies_tell}
use Rattle.lmn_verify_code.proofs.ports.copies_told.Goals as goal

pub returns : goal.returns
returns c = copies_tell _ c.args.stands.now c.count_copies.new.counts (c.count_copies.ensures ∙ ap (λ t. told_all copy_counted t c.args.stands.now) (c.from_vec-counts.ensures ∙ c.in_ok-vec.ensures.items_if_clones_equal (λ y h. h)))

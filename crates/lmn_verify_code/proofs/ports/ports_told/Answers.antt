use Rattle.std.proofs.Common.{ap, ◌∙◌}
use Rattle.lmn_verify_code.specs.Counted.{told_all, port_counted}
use Rattle.lmn_verify_code.proofs.Counting.{ports_tell}
use Rattle.lmn_verify_code.proofs.ports.ports_told.Goals as goal

pub returns : goal.returns
returns c = ports_tell _ c.args.stands.now c.count_ports.new.counts (c.count_ports.ensures ∙ ap (λ t. told_all port_counted t c.args.stands.now) (c.from_vec-counts.ensures ∙ c.in_ok-vec.ensures.items_if_clones_equal (λ y h. h)))

use Rattle.std.proofs.Common.{ap, ◌∙◌}
use Rattle.lmn_verify_code.specs.Counted.{told_all, atoms_marked}
use Rattle.lmn_verify_code.proofs.Counting.{atoms_tell}
use Rattle.lmn_verify_code.proofs.apart.atoms_told.Goals as goal

pub returns : goal.returns
returns c = atoms_tell _ c.args.head.now c.mark_all_atoms.new.pairs (c.mark_all_atoms.ensures ∙ ap (λ t. told_all atoms_marked t c.args.head.now) (c.from_vec-pairs.ensures ∙ c.in_ok-vec.ensures.items_if_clones_equal (λ y h. h)))

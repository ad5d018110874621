use Rattle.lmn_print_folded_laws.proofs.Naming.{folded_links_are_named}
use Rattle.lmn_print_folded_laws.proofs.same_laws.folded_links_are_named.Goals as goal

pub returns : goal.returns
returns c = folded_links_are_named

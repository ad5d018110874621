-- The folded line of a small process.
use Rattle.std.proofs.Common.{refl, sym, subst}
use Rattle.std.specs.Prelude.{codes}
use Rattle.lmn_congruence.specs.Regions.{Region}
use Rattle.lmn_lexer.specs.Spelling.{byte, nothing}
use Rattle.lmn_print_folded.specs.Examples.{last_ports}
use Rattle.lmn_print_folded.specs.Lines.{IsFoldedLine}
use Rattle.lmn_print_folded.proofs.ExampleLines as folded
use Rattle.lmn_print_folded_laws.specs.Examples.{ItsLine, NotItsLine}
use Rattle.lmn_congruence.proofs.RenamedRegions.{one_region}
use Rattle.lmn_print_folded_laws.proofs.ReadBack.{folded_lines_read_back}
use Rattle.lmn_print_folded.proofs.ExampleLines.{last_ports_closed}

-- the example has its folded line
pub its_line : ItsLine
its_line alloc names is a b =
    folded_lines_read_back alloc names last_ports (codes "a(b).\n") is ((a, (b, tt)), tt, tt, tt, tt)
    ((((codes "a", byte refl nothing), tt), (((codes "b", byte refl nothing), tt), tt)), tt, tt, tt, tt)
    (tt, tt) last_ports_closed folded.last_ports

-- and no other one
pub not_its_line : NotItsLine
not_its_line names h =
    let P : Region → Type 0 = λ S. IsFoldedLine S (codes "b(a).\n") in
    folded.not_the_first (subst P (one_region h.solid last_ports (sym h.of)) h.is)

use Rattle.std.proofs.Common.{arith}
use Rattle.lmn_solid_tables.proofs.Partners.{has_link}
use Rattle.lmn_solid_tables.proofs.flat.Flat.link_count.Goals as goal

pub returns : goal.returns
returns c a i l = let f = c.args.self.now in let h = f.has_ports a i (has_link f a i l) in omega (arith, h, c.len.ensures, f.ports.ok.0)

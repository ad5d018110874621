use Rattle.std.proofs.Common.{subst, sym, ap, ◌∙◌, arith}
use Rattle.lmn_solid_tables.specs.Flats.{partner_by}
use Rattle.lmn_solid_tables.proofs.Partners.{has_link, joined_to, second_port, first_port}
use Rattle.std.proofs.Common.{◌<◌, Some, ◌+◌, ◌*◌, length}
use Rattle.lmn_solid_tables.proofs.flat.Flat.other.Goals as goal

-- src/reading.rt:24:21
pub index-requires : goal.index-requires
index-requires c =
    let f = c.args.self.now in let a = c.args.port.atom in let i = c.args.port.index in let here : 2 * c.link-link.result + 1 < length f.ports.items = subst (λ x. 2 * x + 1 < length f.ports.items) (sym c.link-link.ensures) (f.has_ports a i (has_link f a i c.requires)) in
    omega (arith, here, f.ports.ok.0)

-- src/reading.rt:26:13
pub index-requires-then-eq : goal.index-requires-then-eq
index-requires-then-eq c =
    let f = c.args.self.now in let a = c.args.port.atom in let i = c.args.port.index in let here : 2 * c.link-link.result + 1 < length f.ports.items = subst (λ x. 2 * x + 1 < length f.ports.items) (sym c.link-link.ensures) (f.has_ports a i (has_link f a i c.requires)) in
    omega (arith, here, f.ports.ok.0)

-- src/reading.rt:19:5
pub returns-then-eq : goal.returns-then-eq
returns-then-eq c =
    let f = c.args.self.now in let a = c.args.port.atom in let i = c.args.port.index in let here : 2 * c.link-link.result + 1 < length f.ports.items = subst (λ x. 2 * x + 1 < length f.ports.items) (sym c.link-link.ensures) (f.has_ports a i (has_link f a i c.requires)) in
    joined_to f a i c.requires ∙ ap (λ x. Some (partner_by f.ports.items a i x)) (sym c.link-link.ensures) ∙ ap Some (second_port f.ports.items a i c.link-link.result c.index.result.now here c.index.ensures c.index-then-eq.result.now c.index-then-eq.ensures (sym c.if-eq.ensures))

-- src/reading.rt:19:5
pub returns-else-eq : goal.returns-else-eq
returns-else-eq c =
    let f = c.args.self.now in let a = c.args.port.atom in let i = c.args.port.index in let here : 2 * c.link-link.result + 1 < length f.ports.items = subst (λ x. 2 * x + 1 < length f.ports.items) (sym c.link-link.ensures) (f.has_ports a i (has_link f a i c.requires)) in
    joined_to f a i c.requires ∙ ap (λ x. Some (partner_by f.ports.items a i x)) (sym c.link-link.ensures) ∙ ap Some (first_port f.ports.items a i c.link-link.result c.index.result.now here c.index.ensures (sym c.if-eq.ensures))

-- The body of a rule as one flat list: its new ports and its connectors; and the ports that its head leaves.
use Rattle.std.specs.Prelude.{ℕ, true, false, ◌+◌, ◌≡◌, ◌≢◌, ◌⊎◌, ◌==◌, if◌then◌else◌, List, [], ◌∷◌, ◌++◌, length}
use Rattle.lmn_base.specs.Solids.{connector}
use Rattle.lmn_solid_heads.specs.declared.items.HeadItem.{HeadItem}
use Rattle.lmn_solid_heads.specs.Heads.{Occurrence, atoms_of, at_atoms, links_of_head, times}
use Rattle.lmn_instr_code.specs.declared.instr.AtomPort.{AtomPort}
use Rattle.lmn_instr_code.specs.declared.instr.NewPort.{NewPort}
use Rattle.lmn_instr_code.specs.declared.instr.NewPort.TheVariants as new
use Rattle.lmn_solid_bodies.specs.declared.items.BodyItem.{BodyItem}
use Rattle.lmn_solid_bodies.specs.declared.items.BodyItem.TheVariants.{Atom, Connector, Copy, Bound, Membrane, Rest, Rule, Rules}

-- port i of the atom in a register
abbrev pub port_at : ℕ → ℕ → AtomPort
port_at a i = record { atom = a; port = i }

-- the ports of the atom in register a, from port i on, with their links
abbrev pub new_ports_from : ℕ → ℕ → List ℕ → List (NewPort × ℕ)
new_ports_from a i [] = []
new_ports_from a i (x ∷ xs) = (new.Atom (port_at a i), x) ∷ new_ports_from a (i + 1) xs

-- The new ports of a body with their links, in the order in which their items are made. The first atom has the
-- register a, the first copy the register c.
abbrev pub new_ports : ℕ → ℕ → List BodyItem → List (NewPort × ℕ)
new_ports a c [] = []
new_ports a c (Atom functor links inside ∷ xs) = new_ports_from a 0 links ++ new_ports (a + 1) c xs
new_ports a c (Copy part link inside ∷ xs) = (new.Copy c, link) ∷ new_ports a (c + 1) xs
new_ports a c (Bound integer link inside ∷ xs) = (new.Atom (port_at a 0), link) ∷ new_ports (a + 1) c xs
new_ports a c (x ∷ xs) = new_ports a c xs

-- the connectors of a body, each as its two links
abbrev pub connectors : List BodyItem → List (ℕ × ℕ)
connectors [] = []
connectors (Connector left right ∷ xs) = (left, right) ∷ connectors xs
connectors (x ∷ xs) = connectors xs

-- of these places those whose link occurs once in a list
abbrev pub once_in : List ℕ → List Occurrence → List (AtomPort × ℕ)
once_in xs [] = []
once_in xs (o ∷ os) = if times o.link xs == 1 then (port_at o.port.0 o.port.1, o.link) ∷ once_in xs os else once_in xs os

-- The ports of head atoms whose links occur once in the head, and so once in the body. They are in the order of the
-- head, in which links are numbered, so by rising links.
abbrev pub old_ports : List HeadItem → List (AtomPort × ℕ)
old_ports items = once_in (links_of_head items) (at_atoms 0 (atoms_of items))

-- the links of a body at each of its places, once for each
abbrev pub body_links : List BodyItem → List ℕ
body_links [] = []
body_links (Atom functor links inside ∷ xs) = links ++ body_links xs
body_links (Connector left right ∷ xs) = left ∷ right ∷ body_links xs
body_links (Copy part link inside ∷ xs) = link ∷ body_links xs
body_links (Bound integer link inside ∷ xs) = link ∷ body_links xs
body_links (Membrane inside ∷ xs) = body_links xs
body_links (Rest of closed inside ∷ xs) = body_links xs
body_links (Rule rule inside ∷ xs) = body_links xs
body_links (Rules of inside ∷ xs) = body_links xs

-- each link of a rule stands twice in its head and body, or not at all
abbrev pub LinkedItems : List HeadItem → List BodyItem → Type 0
LinkedItems head body = (x : ℕ) → let n = times x (links_of_head head) + times x (body_links body) in (n ≡ 0) ⊎ (n ≡ 2)

-- an atom of the body has as many links as its arity, and is no connector
abbrev pub IsWellMadeItem : BodyItem → Type 0
IsWellMadeItem (Atom functor links inside) = (length links ≡ functor.arity) × (functor ≢ connector)
IsWellMadeItem (Connector left right) = Unit {0}
IsWellMadeItem (Copy part link inside) = Unit {0}
IsWellMadeItem (Bound integer link inside) = Unit {0}
IsWellMadeItem (Membrane inside) = Unit {0}
IsWellMadeItem (Rest of closed inside) = Unit {0}
IsWellMadeItem (Rule rule inside) = Unit {0}
IsWellMadeItem (Rules of inside) = Unit {0}

abbrev pub AllMade : List BodyItem → Type 0
AllMade [] = Unit {0}
AllMade (x ∷ xs) = IsWellMadeItem x × AllMade xs

-- a body without typed contexts and closed ones
abbrev pub NoCopies : List BodyItem → Type 0
NoCopies [] = Unit {0}
NoCopies (Atom functor links inside ∷ xs) = NoCopies xs
NoCopies (Connector left right ∷ xs) = NoCopies xs
NoCopies (Copy part link inside ∷ xs) = ⊥
NoCopies (Bound integer link inside ∷ xs) = NoCopies xs
NoCopies (Membrane inside ∷ xs) = NoCopies xs
NoCopies (Rest of false inside ∷ xs) = NoCopies xs
NoCopies (Rest of true inside ∷ xs) = ⊥
NoCopies (Rule rule inside ∷ xs) = NoCopies xs
NoCopies (Rules of inside ∷ xs) = NoCopies xs

-- an atom, a connector or an integer at the top
abbrev pub IsSimple : BodyItem → Type 0
IsSimple (Atom functor links inside) = inside ≡ 0
IsSimple (Connector left right) = Unit {0}
IsSimple (Copy part link inside) = ⊥
IsSimple (Bound integer link inside) = inside ≡ 0
IsSimple (Membrane inside) = ⊥
IsSimple (Rest of closed inside) = ⊥
IsSimple (Rule rule inside) = ⊥
IsSimple (Rules of inside) = ⊥

-- a body of atoms, connectors and integers alone
abbrev pub Simple : List BodyItem → Type 0
Simple [] = Unit {0}
Simple (x ∷ xs) = IsSimple x × Simple xs

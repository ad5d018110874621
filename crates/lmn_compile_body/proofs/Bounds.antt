-- What the bounds on links of items say of their ports.
use Rattle.std.proofs.Common.{ℕ, ◌+◌, ◌<◌, ◌==◌, Bool, true, false, List, [], ◌∷◌, ◌++◌}
use Rattle.std.specs.Prelude.{if◌then◌else◌}
use Rattle.lmn_solid_heads.specs.declared.items.HeadItem.{HeadItem}
use Rattle.lmn_solid_heads.specs.declared.items.HeadItem.TheVariants as head
use Rattle.lmn_solid_heads.specs.Heads.{Occurrence, atoms_of, at_ports, at_atoms, links_of_head, times}
use Rattle.lmn_solid_bodies.specs.declared.items.BodyItem.{BodyItem}
use Rattle.lmn_solid_bodies.specs.declared.items.BodyItem.TheVariants.{Atom, Connector, Copy, Bound, Membrane, Rest, Rule, Rules}
use Rattle.lmn_solid_bodies.specs.Items.{port_at, new_ports_from, new_ports, once_in, old_ports, connectors}
use Rattle.lmn_compile_head.specs.Tables.{AllBelow, HeadFits}
use Rattle.lmn_congruence_classes.specs.Tables.{PairsBelow, LinksBelow}
use Rattle.lmn_compile_body.specs.Tables.{BodyFits, AllFew}

-- each atom of a body that fits has few links
pub fits_few : (n : ℕ) (xs : List BodyItem) → BodyFits n xs → AllFew xs
fits_few n [] h = h
fits_few n (Atom functor links inside ∷ xs) h = (h.0, fits_few n xs h.2)
fits_few n (Connector left right ∷ xs) h = fits_few n xs h.2
fits_few n (Copy part link inside ∷ xs) h = fits_few n xs h.1
fits_few n (Bound integer link inside ∷ xs) h = fits_few n xs h.1
fits_few n (Membrane inside ∷ xs) h = fits_few n xs h
fits_few n (Rest of closed inside ∷ xs) h = fits_few n xs h
fits_few n (Rule rule inside ∷ xs) h = fits_few n xs h
fits_few n (Rules of inside ∷ xs) h = fits_few n xs h

-- links of connectors are below the bound
pub connectors_below : (n : ℕ) (xs : List BodyItem) → BodyFits n xs → PairsBelow n (connectors xs)
connectors_below n [] h = h
connectors_below n (Atom functor links inside ∷ xs) h = connectors_below n xs h.2
connectors_below n (Connector left right ∷ xs) h = (h.0, h.1, connectors_below n xs h.2)
connectors_below n (Copy part link inside ∷ xs) h = connectors_below n xs h.1
connectors_below n (Bound integer link inside ∷ xs) h = connectors_below n xs h.1
connectors_below n (Membrane inside ∷ xs) h = connectors_below n xs h
connectors_below n (Rest of closed inside ∷ xs) h = connectors_below n xs h
connectors_below n (Rule rule inside ∷ xs) h = connectors_below n xs h
connectors_below n (Rules of inside ∷ xs) h = connectors_below n xs h

below_append : {P : Type 0} (n : ℕ) (xs ys : List (P × ℕ)) → LinksBelow n xs → LinksBelow n ys → LinksBelow n (xs ++ ys)
below_append n [] ys h g = g
below_append n (x ∷ xs) ys h g = (h.0, below_append n xs ys h.1 g)

ports_below : (n a i : ℕ) (xs : List ℕ) → AllBelow n xs → LinksBelow n (new_ports_from a i xs)
ports_below n a i [] h = h
ports_below n a i (x ∷ xs) h = (h.0, ports_below n a (i + 1) xs h.1)

-- and those of new ports
pub new_below : (n a c : ℕ) (xs : List BodyItem) → BodyFits n xs → LinksBelow n (new_ports a c xs)
new_below n a c [] h = h
new_below n a c (Atom functor links inside ∷ xs) h = below_append n (new_ports_from a 0 links) (new_ports (a + 1) c xs) (ports_below n a 0 links h.1) (new_below n (a + 1) c xs h.2)
new_below n a c (Connector left right ∷ xs) h = new_below n a c xs h.2
new_below n a c (Copy part link inside ∷ xs) h = (h.0, new_below n a (c + 1) xs h.1)
new_below n a c (Bound integer link inside ∷ xs) h = (h.0, new_below n (a + 1) c xs h.1)
new_below n a c (Membrane inside ∷ xs) h = new_below n a c xs h
new_below n a c (Rest of closed inside ∷ xs) h = new_below n a c xs h
new_below n a c (Rule rule inside ∷ xs) h = new_below n a c xs h
new_below n a c (Rules of inside ∷ xs) h = new_below n a c xs h

-- places whose links are below a number
abbrev PlacesBelow : ℕ → List Occurrence → Type 0
PlacesBelow n [] = Unit {0}
PlacesBelow n (o ∷ os) = (o.link < n) × PlacesBelow n os

places_append : (n : ℕ) (xs ys : List Occurrence) → PlacesBelow n xs → PlacesBelow n ys → PlacesBelow n (xs ++ ys)
places_append n [] ys h g = g
places_append n (x ∷ xs) ys h g = (h.0, places_append n xs ys h.1 g)

at_ports_below : (n a i : ℕ) (xs : List ℕ) → AllBelow n xs → PlacesBelow n (at_ports a i xs)
at_ports_below n a i [] h = h
at_ports_below n a i (x ∷ xs) h = (h.0, at_ports_below n a (i + 1) xs h.1)

at_atoms_below : (n a : ℕ) (xs : List HeadItem) → HeadFits n xs → PlacesBelow n (at_atoms a (atoms_of xs))
at_atoms_below n a [] h = h
at_atoms_below n a (head.Atom functor links inside ∷ xs) h = places_append n (at_ports a 0 links) (at_atoms (a + 1) (atoms_of xs)) (at_ports_below n a 0 links h.1) (at_atoms_below n (a + 1) xs h.2)
at_atoms_below n a (head.Typed name kind link inside ∷ xs) h = at_atoms_below n a xs h.1
at_atoms_below n a (head.Membrane inside has_context has_closed_context has_rule_context ∷ xs) h = at_atoms_below n a xs h

once_below : (n : ℕ) (xs : List ℕ) (os : List Occurrence) → PlacesBelow n os → LinksBelow n (once_in xs os)
once_below n xs [] h = h
once_below n xs (o ∷ os) h = by (times o.link xs == 1) (once_below n xs os h.1)
  where
    by : (b : Bool) → LinksBelow n (once_in xs os) → LinksBelow n (if b then (port_at o.port.0 o.port.1, o.link) ∷ once_in xs os else once_in xs os)
    by true g = (h.0, g)
    by false g = g

-- the links of old ports are below the bound
pub old_below : (n : ℕ) (xs : List HeadItem) → HeadFits n xs → LinksBelow n (old_ports xs)
old_below n xs h = once_below n (links_of_head xs) (at_atoms 0 (atoms_of xs)) (at_atoms_below n 0 xs h)

use Rattle.std.proofs.Common.{◌<◌, ℕ}
use Rattle.lmn_solid_tables.specs.Flats.{heap_of}
use Rattle.lmn_solid_search.specs.Taking.{StandsAt, PortFits}
use Rattle.lmn_solid_search.proofs.fits.misfit.Given as goal

abbrev pub invariant-loop-index : goal.invariant-loop-index
invariant-loop-index l = (i x : ℕ) → i < l.index → StandsAt l.atoms x (l.number, i) → PortFits (heap_of l.flat) l.atoms l.images (l.number, i) x

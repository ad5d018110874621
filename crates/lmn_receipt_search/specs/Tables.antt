-- The tables that are made of a solid once. Contracts of private functions alone cite these words.
use Rattle.lmn_base.specs.declared.solid.Solid.{Solid}
use Rattle.lmn_solid_tables.specs.Flats.{IsFlatOf, heap_of}
use Rattle.lmn_solid_search.specs.Holding.{HasRoom}
use Rattle.lmn_receipt_search.specs.Items.{AreSizes}
use Rattle.lmn_receipt_search.specs.declared.tables.SearchTables.{SearchTables}

-- the tables are of this solid, with the sizes of its membranes, and the room is for them
pub record AreSearchTables (s : Solid) (t : SearchTables) : Type 0 where
  pub flat : IsFlatOf s t.flat
  pub sizes : AreSizes (heap_of t.flat) t.sizes.of.items
  pub room : HasRoom (heap_of t.flat) t.room

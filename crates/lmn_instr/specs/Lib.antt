pub use Rattle.lmn_base.specs.Names
pub use Rattle.lmn_instr_code.specs.Labels
pub use Rattle.lmn_instr_code.specs.Listings
pub use Rattle.lmn_instr_reading.specs.Reading

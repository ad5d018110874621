pub use Rattle.lmn_base.specs.Refusals
pub use Rattle.lmn_instr_reading.specs.Reading
pub use Rattle.lmn_verify_code.specs.Verified
pub use Rattle.lmn_verify_coded.specs.Turning
pub use Rattle.lmn_verify_listing.specs.Lines
pub use Rattle.lmn_verify_listing.specs.Listings
pub use Rattle.lmn_store_heap.specs.Sound

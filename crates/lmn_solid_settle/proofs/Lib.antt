pub mod NumberLoops
pub mod LaidParts
pub mod SettledLinks
pub mod PlainSolids

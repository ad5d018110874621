pub use Rattle.lmn_adequacy.specs.Choice
pub use Rattle.lmn_adequacy.specs.Embedding
pub use Rattle.lmn_congruence.specs.Rules
pub use Rattle.lmn_congruence.specs.Translation
pub use Rattle.lmn_solid_next.specs.Searching

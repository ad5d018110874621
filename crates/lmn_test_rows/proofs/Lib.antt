mod MadeLemmas
mod PartLemmas

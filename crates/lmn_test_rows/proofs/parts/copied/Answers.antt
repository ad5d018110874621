use Rattle.std.proofs.Common.{ℕ}
use Rattle.lmn_store_slab.specs.Kept.{heap_of}
use Rattle.lmn_test_rows.proofs.PartLemmas.{clean_answer, no_partner}
use Rattle.lmn_test_rows.proofs.parts.copied.Goals as goal

pub copy-requires-clause-outside : goal.copy-requires-clause-outside
copy-requires-clause-outside g c = λ b j r e. no_partner _ b j c.in-None.ensures.link e

pub returns-in-None : goal.returns-in-None
returns-in-None g c = clean_answer (heap_of c.part.new.store) (heap_of c.copy.new.store) c.copy.result (c.args.root.0, c.args.root.1) (λ (p : ℕ × ℕ). (p.0, p.1)) c.copy.ensures.ok c.copy.ensures.err c.part.ensures.clean

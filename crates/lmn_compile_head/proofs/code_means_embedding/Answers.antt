use Rattle.lmn_compile_head.proofs.Laws.{code_of_embeddings}
use Rattle.lmn_compile_head.proofs.code_means_embedding.Goals as goal

pub returns : goal.returns
returns c = code_of_embeddings

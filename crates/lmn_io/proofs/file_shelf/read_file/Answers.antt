use Rattle.lmn_io.proofs.FetchLemmas.{fetched_untold}
use Rattle.lmn_io.proofs.file_shelf.read_file.Goals as goal

pub returns : goal.returns
returns g c = fetched_untold c.read_all.result _ c.args.name.now c.args.most (c.read_all.ensures c.args.name.now)

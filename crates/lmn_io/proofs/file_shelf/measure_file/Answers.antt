use Rattle.lmn_io.proofs.file_shelf.measure_file.Goals as goal

pub returns-in-Some : goal.returns-in-Some
returns-in-Some g c = c.measured.ensures c.args.name.now

pub returns-in_ok-map_err-in-Whole : goal.returns-in_ok-map_err-in-Whole
returns-in_ok-map_err-in-Whole g c = c.measured-in-Whole.ensures c.args.name.now

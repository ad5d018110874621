use Rattle.lmn_app.proofs.top.lmn_main.Goals as goal

pub returns : goal.returns
returns g c = record { ending = c.act-ending.result; ended = c.act-ending.ensures; concluded = c.conclude.ensures }

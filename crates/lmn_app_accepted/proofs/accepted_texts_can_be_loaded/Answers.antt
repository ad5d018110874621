use Rattle.lmn_app_accepted.proofs.Loadable.{loadable, well_named}
use Rattle.lmn_app_accepted.proofs.LongerLists.{named_behind}
use Rattle.lmn_app_accepted.proofs.accepted_texts_can_be_loaded.Goals as goal

pub returns-clause-loaded : goal.returns-clause-loaded
returns-clause-loaded c = loadable c.accepted_texts.ensures

pub returns-clause-named : goal.returns-clause-named
returns-clause-named c = well_named c.accepted_texts.ensures

pub returns-clause-behind : goal.returns-clause-behind
returns-clause-behind c = named_behind c.accepted_texts.ensures

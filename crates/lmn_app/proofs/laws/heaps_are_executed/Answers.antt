use Rattle.lmn_app.proofs.OneExecution.{Grounds, heaps_are_executed}
use Rattle.lmn_app.proofs.laws.heaps_are_executed.Goals as goal

pub returns : goal.returns
returns c =
    let loading = c.loading_settles.ensures in
    let grounds : Grounds = record {
      laws = record { accepted = c.accepted_texts.ensures; printable = c.plains_are_printable.ensures; runs = c.traces_are_runs.ensures };
      behind = c.accepted_texts_can_be_loaded.ensures.behind;
      settles = loading.settles;
      rules = loading.rules;
      tables = c.plains_are_tables.ensures;
      alike = c.solids_are_regions.ensures;
      codes = c.tables_run_as_rules.ensures;
      read = c.compiled_are_listed.ensures.read;
      listed = c.accepted_can_be_listed.ensures;
    } in
    heaps_are_executed grounds c.heaps_run_as_solids.ensures

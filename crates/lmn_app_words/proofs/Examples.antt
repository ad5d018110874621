-- What some words ask for.
use Rattle.std.proofs.Common.{[], ◌∷◌, refl}
use Rattle.lmn_app_words.specs.declared.setting.Flag.TheVariants as flag
use Rattle.lmn_app_words.specs.declared.setting.OrderName.TheVariants as name
use Rattle.lmn_app_words.specs.declared.setting.Setting.TheVariants as set
use Rattle.lmn_app_words.specs.Forms.{a_file, a_flag, nothing}
use Rattle.lmn_app_words.specs.Laws.{FoldedRun}
use Rattle.lmn_app_words.proofs.Given.{asks_given}

-- the words of the example ask for a run in the folded form
pub folded_run_asked : FoldedRun
folded_run_asked file named = (
  refl,
  asks_given (record {
    settings = set.Flag flag.Folded ∷ [];
    spelled = a_flag flag.Folded refl (a_file named nothing);
    trace = refl;
    folded = refl;
    budget = refl;
    size = refl;
    order_name = name.First;
    named = refl;
    seed = 0;
    seeded = refl;
    order = refl;
  }),
)

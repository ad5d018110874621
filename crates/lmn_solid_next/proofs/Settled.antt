-- What a firing makes settles to the next solid: the laws of what is made and of what is settled, put together.
use Rattle.std.proofs.Common.{length}
use Rattle.lmn_solid_firing.specs.Laws.{FiringsAreSpelled, SettledSolidsKeep}
use Rattle.lmn_solid_next.specs.Settling.{FiringsSettle, SpelledLevelsSettle}

pub firings_settle : FiringsAreSpelled → SettledSolidsKeep → SpelledLevelsSettle → FiringsSettle
firings_settle spelled keep settle flat names table t rule left inner mi index k ns valid f d p formed at is_at accepted closed below known e is rows pairs links made =
    let w = spelled flat names table t rule left inner mi index k ns valid f d p formed at is_at e is rows pairs links made in
    let u = settle names table w.1 w.0 pairs links w.6 (w.7 accepted closed) in
    record {
      region = w.0;
      is_laid = w.3;
      level = w.1;
      path = w.2;
      leads = w.4;
      fires = w.5;
      can_settle = u.can_settle;
      solid = λ s q. let o = keep w.0 pairs s q in record { is = u.solid s q; each_rule = o.0 table (w.8 (length table) below); named = o.1 names (w.9 known) };
    }

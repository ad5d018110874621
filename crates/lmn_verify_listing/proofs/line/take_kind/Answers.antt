use Rattle.std.proofs.Common.{List, ℕ, refl, sym, subst}
use Rattle.lmn_instr_reading.specs.Reading.{NumbersNames}
use Rattle.lmn_instr_reading.proofs.NameLemmas.{adds_none, numbers_same}
use Rattle.lmn_verify_listing.proofs.LineLemmas.{each_taken, plain_behind}
use Rattle.lmn_verify_listing.proofs.line.take_kind.Goals as goal

pub returns-in_default : goal.returns-in_default
returns-in_default c =
    let names = c.args.names.now in
    record {
      some = each_taken c.take_plain.result _ _ c.take_plain.ensures.some (λ t h. let o = h.1 names in (h.0, o.0, o.1, o.2));
      only = λ o ns rest fits short follows e. c.take_plain.ensures.only o ns rest fits (plain_behind c.args.kind rest c.in_default.not-Functor follows) e;
      order = each_taken c.take_plain.result _ _ c.take_plain.ensures.nameless (λ t h. subst (λ (xs : List ℕ). NumbersNames names xs names) (sym h) (numbers_same names names refl));
      names = adds_none 1 names;
    }

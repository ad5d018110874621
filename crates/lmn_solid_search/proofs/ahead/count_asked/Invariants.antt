use Rattle.std.proofs.Common.{◌≡◌, ◌≤◌, ◌+◌, drop}
use Rattle.lmn_solid_heads.specs.Heads.{atoms_of}
use Rattle.lmn_solid_search.specs.Ahead.{asked_in}
use Rattle.lmn_solid_search.proofs.ahead.count_asked.Given as goal

abbrev pub invariant-loop-item : goal.invariant-loop-item
invariant-loop-item l = record {
  few : l.count ≤ l.item-index;
  all : l.count + asked_in l.number l.functor (atoms_of (drop l.item-index l.items)) ≡ asked_in l.number l.functor (atoms_of l.items);
}

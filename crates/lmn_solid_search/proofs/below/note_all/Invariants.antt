use Rattle.std.proofs.Common.{◌≡◌, length, take}
use Rattle.lmn_solid_search.specs.Walking.{NotesAll}
use Rattle.lmn_solid_search.proofs.below.note_all.Given as goal

abbrev pub invariant-loop-number : goal.invariant-loop-number
invariant-loop-number l = record {
  long : length l.seen ≡ length l.fn.seen;
  noted : NotesAll l.fn.seen l.fn.list (take l.number-index l.numbers) l.seen l.list;
}

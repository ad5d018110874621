-- What is quiet stays without matches that it hadn't.
use Rattle.std.proofs.Common.{List, arith}
use Rattle.lmn_solid_heads.specs.declared.items.HeadItem.{HeadItem}
use Rattle.lmn_compile_head.specs.Heads.{IsHead}
use Rattle.lmn_compile_head.proofs.Nesting.{membranes_nested, atoms_nested}
use Rattle.lmn_schedule_sleep.specs.Laws.{QuietStaysMatchless}
use Rattle.lmn_schedule_sleep.proofs.Staying.{IsNested, embedding_stood}
use Rattle.lmn_compile_head.proofs.Common.{typed_inside}

-- the items of a head are nested
pub head_nested : (items : List HeadItem) → IsHead items → IsNested items
head_nested items head = record {
  membranes = membranes_nested items head.inside;
  atoms = atoms_nested items head.inside;
  typed = λ n t e. (let k = typed_inside 0 items head.inside n t e in omega (arith, k));
}

pub quiet_stays_matchless : QuietStaysMatchless
quiet_stays_matchless h t vh vt m quiet items head guard f e = embedding_stood h t vh vt m quiet items (head_nested items head) guard f e

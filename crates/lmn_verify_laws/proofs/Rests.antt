-- What is left in the membranes of the head of verified code.
use Rattle.std.proofs.Common.{◌≡◌, ◌<◌, ◌+◌, ◌∙◌, ℕ, suc, [], length, sym, ap, arith}
use Rattle.lmn_base.proofs.Lists.{get_below}
use Rattle.lmn_solid_heads.specs.Heads.{membranes_of}
use Rattle.lmn_solid_bodies.specs.Running.{Registers}
use Rattle.lmn_instr_code.specs.declared.instr.Code.{Code}
use Rattle.lmn_instr_code.specs.declared.instr.Instr.TheVariants.{CopyCells}
use Rattle.lmn_instr_code.specs.Running.{membranes_set}
use Rattle.lmn_machine_laws.specs.AcceptedCode.{SetsItems}
use Rattle.lmn_schedule_strategy.proofs.RestsFound.{left_by_head, left_closed}
use Rattle.lmn_verify_code.specs.Verified.{IsVerified, rest_dropped}
use Rattle.lmn_verify_laws.specs.Flat.{flat_head}
use Rattle.lmn_verify_laws.specs.Laws.{VerifiedCopiesClosed, VerifiedHoldsRests}
use Rattle.lmn_verify_laws.proofs.Heads.{lies}
use Rattle.lmn_verify_laws.proofs.Items.{atom_count, atoms_counted, head_membrane, membrane_count, parts_counted, typed_count}
use Rattle.lmn_verify_laws.proofs.Listed.{get_one}
use Rattle.lmn_verify_laws.proofs.Ready.{membranes_counted}
use Rattle.lmn_verify_laws.proofs.Rules.{copied_rest, head_nests, inside_head}

-- the head sets a register for each item of the flat head
pub sets_items : (code : Code) (k : ℕ) → IsVerified code k → SetsItems code.head (flat_head code)
sets_items code k v = record {
  atoms = sym (atom_count code ∙ atoms_counted code.head v.looked_at);
  membranes = sym (membrane_count code ∙ membranes_counted code.head);
  parts = sym (typed_count code ∙ parts_counted code.head);
}

below_set : (code : Code) (i n : ℕ) → n ≡ suc i → i < length (membranes_of (flat_head code)) → n < 1 + membranes_set code.head
below_set code i n e l = let a = membrane_count code in let b = membranes_counted code.head in omega (arith, e, l, a, b)

-- No link leaves a rest that verified code copies.
pub verified_copies_closed : VerifiedCopiesClosed
verified_copies_closed code k v h m s valid place first at n to e =
    let w = copied_rest code k v n to (get_one code.body at (CopyCells n to) e) in
    let regs : Registers = record { head = s; copy = λ c. (0, 0); copied = λ c. []; left_atoms = λ c. []; left_membranes = λ c. [] } in
    let b = head_membrane code w.0 in
    let lie = lies code k v h valid m s first.succeeds in (
      below_set code w.2.0 n w.2.1 (get_below (membranes_of (flat_head code)) w.2.0 b w.2.2),
      λ atoms membranes rest. left_closed h valid (flat_head code) m regs lie (head_nests code k v) (inside_head code k v) n b w.2 (ap (rest_dropped code) w.1 ∙ w.3) atoms membranes
          (left_by_head h valid (flat_head code) m regs lie (head_nests code k v) code.head (sets_items code k v) n b w.2 atoms membranes rest),
    )

-- Registers that hold the rests beside what the head sets hold what the flat head leaves.
pub verified_holds_rests : VerifiedHoldsRests
verified_holds_rests code k v h m r valid place first rests n b has closed =
    left_by_head h valid (flat_head code) m r (lies code k v h valid m r.head first.succeeds) (head_nests code k v) code.head (sets_items code k v) n b has (r.left_atoms n) (r.left_membranes n)
    (rests n (below_set code has.0 n has.1 (get_below (membranes_of (flat_head code)) has.0 b has.2)))

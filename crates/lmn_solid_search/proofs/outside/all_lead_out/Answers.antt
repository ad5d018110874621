use Rattle.std.proofs.Common.{◌∙◌, ℕ, refl, slice_index_or, sym, subst, arith}
use Rattle.lmn_solid_tables.specs.Flats.{heap_of}
use Rattle.lmn_store_heap.proofs.Common.{in_at}
use Rattle.lmn_solid_search.specs.Placing.{AtomLeadsOut}
use Rattle.lmn_solid_search.specs.declared.head.AtomItem.{AtomItem}
use Rattle.lmn_solid_search.proofs.OutsideLemmas.{each_more, each_all}
use Rattle.lmn_base.proofs.Lists.{read_or as index_is}
use Rattle.lmn_solid_search.proofs.PairingLemmas.{port_differs}
use Rattle.lmn_solid_search.proofs.outside.all_lead_out.Goals as goal

pub atom_leads_out-requires-clause-image : goal.atom_leads_out-requires-clause-image
atom_leads_out-requires-clause-image c = c.requires.placed.atoms c.at-in-loop-number.result.now (in_at c.args.placed.now.atoms c.loop-number.number c.at-in-loop-number.result.now c.at-in-loop-number.ensures)

pub returns-then-not-branch-clause-all : goal.returns-then-not-branch-clause-all
returns-then-not-branch-clause-all c = (
  (λ z. absurd (cc)),
  λ f. absurd (port_differs c.in_ok-atom_leads_out.ensures.leads.1 c.if-not-branch.true
      (subst (λ (b : ℕ). AtomLeadsOut (heap_of c.args.flat.now) c.args.head.now c.at.result.now b c.args.placed.now) (index_is c.args.placed.now.atoms c.loop-number.number c.at-in-loop-number.result.now c.at-in-loop-number.ensures) (f c.loop-number.number c.at.result.now c.at.ensures))),
)

pub loop-number-preserved : goal.loop-number-preserved
loop-number-preserved c = record {
  long = c.in_ok-atom_leads_out.ensures.length ∙ c.loop-number.invariant.long;
  lead = each_more {A = AtomItem} (λ n a. AtomLeadsOut (heap_of c.args.flat.now) c.args.head.now a (slice_index_or c.args.placed.now.atoms n 0) c.args.placed.now) c.args.head.now.atoms c.loop-number.number c.at.result.now c.at.ensures
      (subst (λ (b : ℕ). AtomLeadsOut (heap_of c.args.flat.now) c.args.head.now c.at.result.now b c.args.placed.now) (sym (index_is c.args.placed.now.atoms c.loop-number.number c.at-in-loop-number.result.now c.at-in-loop-number.ensures)) (c.in_ok-atom_leads_out.ensures.leads.0 c.if-not-branch.false))
      c.loop-number.invariant.lead;
}

pub returns-clause-all : goal.returns-clause-all
returns-clause-all c = (
  (λ z. each_all {A = AtomItem} (λ n a. AtomLeadsOut (heap_of c.args.flat.now) c.args.head.now a (slice_index_or c.args.placed.now.atoms n 0) c.args.placed.now) c.args.head.now.atoms c.loop-number.number
      (let l = c.loop-number-test.false in let e = c.len-number-end.ensures in omega (arith, l, e)) c.loop-number.invariant.lead),
  λ f. refl,
)

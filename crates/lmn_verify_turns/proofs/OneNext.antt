-- The next solid is one.
use Rattle.std.proofs.Common.{ℕ, ◌≡◌, ◌∙◌, ◌<◌, ◌+◌, ◌++◌, ◌↔◌, List, Some, length, sym, subst}
use Rattle.std.specs.Prelude.{slice_get}
use Rattle.std.proofs.lemmas.Option.{same_Some}
use Rattle.lmn_base.specs.declared.solid.Solid.{Solid}
use Rattle.lmn_base.specs.Lists.{In}
use Rattle.lmn_base.proofs.Lists.{get_below}
use Rattle.lmn_store_heap.specs.Heap.{IsMemInPlace}
use Rattle.lmn_store_heap.specs.Sound.{Forest, IsTree}
use Rattle.lmn_print_plain.specs.HeapLaws.{OneSolid}
use Rattle.lmn_solid_heads.specs.Embeddings.{Lies}
use Rattle.lmn_solid_heads.specs.Heads.{typed_contexts_of}
use Rattle.lmn_instr_code.specs.declared.instr.Code.{Code}
use Rattle.lmn_instr_code.specs.Running.{IsFirstSuccess}
use Rattle.lmn_solid_bodies.specs.Fired.{images_of}
use Rattle.lmn_solid_bodies.specs.Within.{FiresFlat, HoldsRests}
use Rattle.lmn_schedule_strategy.specs.Choosing.{IsFirstIn, asked}
use Rattle.lmn_verify_code.specs.Verified.{IsVerified}
use Rattle.lmn_verify_laws.specs.Flat.{flat_body, flat_head, link_count}
use Rattle.lmn_verify_laws.specs.Laws.{IntegersAreOne, RestsThere, VerifiedHeadsLie, VerifiedHoldsRests, VerifiedIsFlat, VerifiedIsInOrder, VerifiedIsRule, VerifiedSetsFlat}
use Rattle.lmn_verify_renaming.specs.FiringLaws.{FiringsAreRenamed, SameMatch}
use Rattle.lmn_verify_renaming.specs.Registers.{renamed_head}
use Rattle.lmn_verify_renaming.specs.Renamed.{Renaming, SameButRoom, renamed}
use Rattle.lmn_verify_renaming.proofs.Alike.{one_solid_is_renamed}
use Rattle.lmn_verify_renaming.proofs.Solids.{renamed_forest}
use Rattle.lmn_verify_solids.specs.Firing.{Fires}
use Rattle.lmn_verify_solids.specs.Graphs.{Graph}
use Rattle.lmn_verify_solids.specs.Heaps.{graph_of}
use Rattle.lmn_verify_solids.specs.Laws.{CommitsAreFirings, HasHeap, TakenByMembers}
use Rattle.lmn_verify_solids.specs.Turns.{Choice}
use Rattle.lmn_verify_turns.specs.Laws.{AreVerified, OneNext}
use Rattle.lmn_verify_turns.proofs.Carried.{tree_there}
use Rattle.lmn_verify_turns.proofs.Chosen.{first_asked, first_success}
use Rattle.lmn_verify_turns.proofs.Gathered.{part_atoms}
use Rattle.lmn_verify_turns.proofs.Matches.{one_first, one_match}
use Rattle.lmn_verify_turns.proofs.OnGraphs.{chosen_back, first_back}
use Rattle.lmn_verify_turns.proofs.OnHeaps as holding
use Rattle.lmn_verify_turns.proofs.OnHeaps.{OnHeap, on_heap}
use Rattle.lmn_verify_turns.proofs.SameBut.{reads, solid_there}
use Rattle.lmn_verify_turns.proofs.Turns.{rule_stands}

-- The laws that it takes.
pub record Grounds : Type 0 where
  pub heaps : holding.Grounds
  pub firings : CommitsAreFirings
  pub members : TakenByMembers
  pub flat : VerifiedIsFlat
  pub left : RestsThere
  pub renamed : FiringsAreRenamed
  pub order : VerifiedIsInOrder
  pub lies : VerifiedHeadsLie
  pub rests : VerifiedHoldsRests
  pub rule : VerifiedIsRule
  pub sets : VerifiedSetsFlat
  pub integers : IntegersAreOne
  pub solid : OneSolid

module _ (on : Grounds) (codes : List Code) (verified : AreVerified codes) (S : Solid) where
  -- ---- one choice

  module _ (c : Choice codes S) (o : OnHeap codes S c) where
    -- what is chosen on the heap, with any of its trees
    asked_first : (f : Forest) (t : IsTree o.heap f) → IsFirstIn o.heap codes (asked 0 f) c.membrane (o.chosen f t).place (o.chosen f t).rule
    asked_first f t = chosen_back o.heap on.heaps.alike codes (asked 0 f) c.code c.membrane c.registers.head (o.chosen f t)

    first : IsFirstSuccess o.heap c.code.head c.membrane c.registers.head
    first = let f = o.valid.tree.0 in let t = o.valid.tree.1 in first_back o.heap on.heaps.alike codes (asked 0 f) c.code c.membrane c.registers.head (o.chosen f t)

    is_verified : IsVerified c.code (length codes)
    is_verified = verified c.chosen.rule c.code c.chosen.is

    placed : IsMemInPlace o.heap c.membrane
    placed =
        let f = o.valid.tree.0 in
        let t = o.valid.tree.1 in
        let w = o.chosen f t in rule_stands o.heap c.membrane w.place w.rule o.valid w.stands

    lies : Lies o.heap (flat_head c.code) c.membrane c.registers.head.images
    lies = on.lies c.code (length codes) is_verified o.heap c.membrane c.registers.head o.valid placed (first).succeeds

    holds : HoldsRests o.heap c.registers (flat_head c.code)
    holds = on.rests c.code (length codes) is_verified o.heap c.membrane c.registers o.valid placed first o.rests

    -- its commit fires the flat rule of the code
    fired : (after : Graph) (S' : Solid) (x : HasHeap after S') → Fires c.code c.graph c.registers c.taken after → FiresFlat (flat_head c.code) (flat_body c.code) c.registers o.heap x.heap
    fired after S' x fires =
        let head = flat_head c.code in
        let r = c.registers in
        let flat = on.flat c.code (length codes) is_verified in
        let ps = part_atoms o.heap o.valid head c.membrane r.head.images lies in
        let taken = images_of r head ++ ps.0 in
        let rests = on.left c.code (length codes) is_verified o.heap o.valid r o.rests ps.0 ps.1 in
        let same : (a : ℕ) → In a c.taken ↔ In a taken = λ a. ((λ i. (rests.takes a).1 ((o.leaves_rests.takes a).0 i)), (λ i. (o.leaves_rests.takes a).1 ((rests.takes a).0 i))) in
        let here : Fires c.code (graph_of o.heap) r c.taken (graph_of x.heap) =
        subst (λ (g : Graph). Fires c.code (graph_of o.heap) r c.taken g) (sym x.is) (subst (λ (g : Graph). Fires c.code g r c.taken after) (sym o.is) fires) in
        on.firings head (flat_body c.code) c.code flat.0 flat.1 o.heap x.heap o.valid x.valid r ps.0 ps.1 (on.members (graph_of o.heap) S o.is_graph c.code r c.taken taken (graph_of x.heap) same here)

  -- ---- two choices

  module _ (c d : Choice codes S) (a : OnHeap codes S c) (b : OnHeap codes S d) (q : Renaming) (alike : SameButRoom (renamed q a.heap) b.heap) where
    -- the same code is chosen in the same membrane
    same_chosen : (q.mems.to c.membrane ≡ d.membrane) × (c.code ≡ d.code)
    same_chosen =
        let f = a.valid.tree.0 in
        let t = a.valid.tree.1 in
        let there = renamed_forest q.mems.to f in
        let tree = tree_there q a.heap b.heap (reads q a.heap b.heap alike) f t in
        let w = a.chosen f t in
        let v = b.chosen there tree in
        let one = one_first b.heap codes (asked 0 there) (q.mems.to c.membrane) d.membrane w.place v.place w.rule v.rule
        (first_asked q a.heap b.heap alike codes f c.membrane w.place w.rule (asked_first c a f t)) (asked_first d b there tree) in
        (one.0, same_Some c.code d.code (sym (subst (λ n. slice_get codes n ≡ Some c.code) one.1 w.is) ∙ v.is))

    -- with the same match
    same_match : SameMatch q (flat_head c.code) (flat_body c.code) c.registers d.registers
    same_match =
        let code = c.code in
        let n = length codes in
        let v = is_verified c a in
        let r = c.registers in
        let s = d.registers in
        let m = q.mems.to c.membrane in
        let other : IsFirstSuccess b.heap code.head m s.head =
        subst (λ (z : Code). IsFirstSuccess b.heap z.head m s.head) (sym (same_chosen).1) (subst (λ z. IsFirstSuccess b.heap d.code.head z s.head) (sym (same_chosen).0) (first d b)) in
        let ordered = on.order code n v in
        let there = first_success q a.heap b.heap alike code.head c.membrane r.head (first c a) in
        let one = one_match b.heap code.head m (renamed_head q r.head) s.head ordered.head there other in
        let set = on.sets code n v in
        let items = set.items in
        let integers = on.integers code.head ordered.head b.heap m (renamed_head q r.head) s.head there.succeeds other.succeeds one.parts in record {
          atoms = λ j l. sym (one.atoms j (subst (λ z. j < z) (sym items.atoms) l));
          membranes = λ j l. sym (one.membranes j (subst (λ z. j < 1 + z) (sym items.membranes) l));
          parts = λ g t e. sym (one.parts g (subst (λ z. g < z) (sym items.parts) (get_below (typed_contexts_of (flat_head code)) g t e)));
          integers = λ z link inside w. sym (integers z (set.integers z link inside w));
        }

    -- and what is committed is one
    same_next : (S' S'' : Solid) (h k : Graph) (x : HasHeap h S') (y : HasHeap k S'') → Fires c.code c.graph c.registers c.taken h → Fires d.code d.graph d.registers d.taken k → S' ≡ S''
    same_next S' S'' h k x y fires others =
        let code = c.code in
        let n = length codes in
        let v = is_verified c a in
        let back : d.code ≡ c.code = sym (same_chosen).1 in
        let held : HoldsRests b.heap d.registers (flat_head code) = subst (λ (z : Code). HoldsRests b.heap d.registers (flat_head z)) back (holds d b) in
        let here = fired c a h S' x fires in
        let there : FiresFlat (flat_head code) (flat_body code) d.registers b.heap y.heap = subst (λ (z : Code). FiresFlat (flat_head z) (flat_body z) d.registers b.heap y.heap) back (fired d b k S'' y others) in
        let w = on.renamed (flat_head code) (flat_body code) (link_count code) (on.rule code n v) q a.heap b.heap a.valid b.valid alike c.membrane (placed c a) c.registers d.registers
        (lies c a) (holds c a) held same_match x.heap y.heap x.valid y.valid x.unmarked y.unmarked here there in
        on.solid y.heap S' S'' y.valid (solid_there w.0 x.heap y.heap w.1 S' x.solid) y.solid

-- The next solid is one.
pub one_next : Grounds → OneNext
one_next on codes verified size other S S' S'' c d =
    let a = on_heap on.heaps codes S c.0 in
    let b = on_heap on.heaps codes S d.0 in
    let q = one_solid_is_renamed a.heap b.heap S a.valid b.valid a.unmarked b.unmarked a.solid b.solid in
    same_next on codes verified S c.0 d.0 a b q.0 q.1 S' S'' c.2 d.2 (on.heaps.heaps c.2 S' c.3) (on.heaps.heaps d.2 S'' d.3) c.4 d.4

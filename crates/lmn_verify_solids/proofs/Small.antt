-- Graphs of small solids, and small codes on them.
use Rattle.std.proofs.Common.{ℕ, zero, suc, ◌≡◌, ◌<◌, ◌+◌, List, [], ◌∷◌, ◌++◌, Option, Some, None, IsSome, refl, sym, ap, subst, inl, inr, arith}
use Rattle.std.specs.Prelude.{flat_map, slice_get}
use Rattle.std.proofs.lemmas.Option.{slice_get_past}
use Rattle.lmn_base.specs.declared.functor.Functor.{Functor}
use Rattle.lmn_base.specs.declared.solid.Region.{Region}
use Rattle.lmn_base.specs.declared.solid.Region.TheFolds.{fold-roll-Region}
use Rattle.lmn_base.specs.declared.solid.Region.TheOpen.{Region-F}
use Rattle.lmn_base.specs.declared.solid.Region.TheViews.{roll-Region}
use Rattle.lmn_base.specs.declared.solid.Solid.{Solid}
use Rattle.lmn_base.specs.declared.solid.SolidAtom.{SolidAtom}
use Rattle.lmn_base.specs.Graphs.{Port}
use Rattle.lmn_base.specs.Links.{Numbers, no_more}
use Rattle.lmn_base.specs.Lists.{In}
use Rattle.lmn_base.specs.Solids.{atoms_step, item_count, items_step, links_of_region}
use Rattle.std.specs.List.{AllByRecursion}
use Rattle.lmn_base.proofs.Lists.{head_is, none_is_not}
use Rattle.lmn_store_heap.specs.Examples.{functor_a, loose}
use Rattle.lmn_store_heap.proofs.ExampleProofs.{across_has_its_solid, across_is_valid}
use Rattle.lmn_instr_code.specs.declared.instr.Code.{Code}
use Rattle.lmn_instr_code.specs.declared.instr.Instr.{Instr}
use Rattle.lmn_instr_code.specs.declared.instr.Instr.TheVariants.{NewMem}
use Rattle.lmn_solid_heads.specs.Heads.{HeadMembrane}
use Rattle.lmn_solid_bodies.specs.RestCopies.{RestCopies}
use Rattle.lmn_verify_solids.specs.Examples.{GraphExamples, IdleCodeIsFlat, TurnExamples, idle, ruled, ruled_solid, zeros}
use Rattle.lmn_verify_solids.specs.Firing.{Fires, IsTaken, LeavesRests}
use Rattle.lmn_verify_solids.specs.Flats.{IsBehind, IsFlatCode, IsRemoval}
use Rattle.lmn_verify_solids.specs.Graphs.{IsGraphOf, none_stands, one_stands}
use Rattle.lmn_verify_solids.specs.Heaps.{graph_of}
use Rattle.lmn_verify_solids.specs.Turns.{Choice}
use Rattle.lmn_verify_solids.proofs.HeapsAreGraphs.{graph_is}

-- ---- graphs

abbrev root_alone : Region-F Region
root_alone = record { atoms = []; membranes = []; rules = 0 ∷ [] }

no_links : links_of_region (roll-Region root_alone) ≡ []
no_links = ap (λ xs. flat_map (λ x. x.links) xs) (fold-roll-Region (List SolidAtom) atoms_step root_alone)

one_item : item_count ruled_solid ≡ 1
one_item = fold-roll-Region ℕ items_step root_alone

ruled_is : IsGraphOf ruled ruled_solid
ruled_is = record {
  link = λ a i. 0;
  count = 0;
  numbers = subst (λ xs. Numbers 0 xs 0) (sym no_links) no_more;
  all = 0 ∷ [];
  stands = one_stands none_stands none_stands;
  once = (tt, tt);
  nowhere = nowhere;
  homes = λ a m. ((λ i. absurd i), (λ e. let u : ◌≡◌ {A = Option ℕ} None (Some m) = e in absurd (cc)));
  atoms_once = λ m. tt;
  no_connector = λ a e. (let u : ◌≡◌ {A = Option Functor} None (Some _) = e in cc);
  placed = λ a. ((λ i. let u : IsSome {T = Functor} None = i in absurd (cc)), (λ i. let u : IsSome {T = ℕ} None = i in absurd (cc)));
  rounds = λ n m. ((λ i. absurd i), (λ e. let u : ◌≡◌ {A = Option ℕ} None (Some m) = e in absurd (cc)));
  joined = λ p q e. (let u : ◌≡◌ {A = Option Port} None (Some q) = e in absurd (cc));
  full = λ p w. (let u : ◌≡◌ {A = Option Functor} None (Some w.0) = w.1 in absurd (cc));
  apart = λ p q w z e. (let u : ◌≡◌ {A = Option Functor} None (Some w.0) = w.1 in absurd (cc));
}
  where
    nowhere : (m : ℕ) → (In m (0 ∷ []) → ⊥) → ((ruled).atoms m ≡ []) × ((ruled).membranes m ≡ []) × ((ruled).rules m ≡ [])
    nowhere zero out = absurd (out (inl refl))
    nowhere (suc m) out = (refl, refl, refl)

-- the first port has no partner
loose_is_none : (S : Solid) → IsGraphOf (graph_of loose) S → ⊥
loose_is_none S is = let u : IsSome {T = Port} None = is.full (0, 0) (functor_a, refl, omega arith) in absurd (cc)

-- ---- codes

no_copies : RestCopies
no_copies k = record { atoms = []; membranes = [] }

taken_none : (a : ℕ) → IsTaken ruled (idle).head (zeros).head a → ⊥
taken_none a (inl w) = (let l : w.0 < 0 = w.1 in omega (arith, l))
taken_none a (inr w) = (let l : w.0 < 0 = w.1 in omega (arith, l))

idle_rests : LeavesRests ruled (idle).head zeros []
idle_rests = record {
  takes = λ a. ((λ i. absurd i), (λ w. absurd (taken_none a w)));
  membranes = λ m l. ([], none_stands);
  once = λ m l. (tt, tt);
  atoms = λ m l. refl;
}

rules_stay : (x : ℕ) → (ruled).rules x ≡ (ruled).rules x ++ []
rules_stay zero = refl
rules_stay (suc x) = refl

idle_fires : Fires idle ruled zeros [] ruled
idle_fires = record {
  number = λ p. 0;
  old = λ p q e. refl;
  new = λ p q e. refl;
  apart = λ p q w z e. (let u : ◌≡◌ {A = Option Functor} None (Some w.0) = w.1 in absurd (cc));
  each = (tt, tt);
  copies = no_copies;
  rests = tt;
  functors = λ a i o d. refl;
  atoms_new = λ a i. absurd i;
  atoms_once = tt;
  membranes_new = λ x i. absurd i;
  membranes_once = tt;
  atoms = λ x o. refl;
  membranes = λ x o. refl;
  rules = λ x o. rules_stay x;
  root = refl;
}

-- the graphs, and what codes do on them
pub graph_examples : GraphExamples
graph_examples = record {
  across = graph_is _ across_is_valid _ across_has_its_solid;
  loose = loose_is_none;
  everywhere = (refl, (tt, tt));
  nowhere = λ r w. absurd w.1.0.0;
  rests = idle_rests;
  others = λ w. taken_none 0 ((w.takes 0).0 (inl refl));
  keeps = idle_fires;
  takes = λ w. (let e : ◌≡◌ {A = List ℕ} (0 ∷ []) [] = w.atoms 0 (λ i. i) in absurd (cc));
}

-- ---- turns

idle_choice : Choice (idle ∷ []) ruled_solid
unfolding ruled_is
idle_choice = record {
  graph = ruled;
  is_graph = ruled_is;
  code = idle;
  membrane = 0;
  registers = zeros;
  chosen = record {
    earlier = [];
    later = [];
    order = refl;
    none = λ m i. absurd i;
    place = 0;
    rule = 0;
    stands = refl;
    none_before = λ n i. absurd i;
    is = refl;
    first = ((refl, (tt, tt)), (λ s w. tt));
  };
  taken = [];
  rests = idle_rests;
  left = 1;
  leaves = (0, 0, nothing, nothing, (let e = one_item in omega (arith, e)));
}
  where
    nothing : (a b : ℕ) × ((a ≡ 0) × (b ≡ 0) × (0 ≡ a + b))
    nothing = (0, 0, (refl, refl, (omega arith)))

-- an empty list has nothing at any place
no_code : (n : ℕ) (code : Code) → slice_get {X = Code} [] n ≡ Some code → ⊥
no_code n code e = none_is_not {A = Code} (slice_get {X = Code} [] n) (slice_get_past {X = Code} [] n (omega arith)) (subst (λ (o : Option Code). IsSome o) (sym e) refl)

-- what codes choose and leave
pub turn_examples : TurnExamples
unfolding idle_choice ruled_is
turn_examples = record {
  commits = (idle_choice, (omega arith), ruled, ruled_is, idle_fires);
  none = λ size S S' w. (let c = w.0 in let chosen = c.chosen in no_code chosen.rule c.code chosen.is);
  succeeds = record {
    graph = ruled;
    is_graph = ruled_is;
    membrane = 0;
    among = inl refl;
    rule = 0;
    stands = inl refl;
    code = idle;
    is = refl;
    registers = (zeros).head;
    succeeds = (refl, (tt, tt));
  };
  without = (
    (ruled, ruled_is, (λ m i n j code r e s. no_code n code e)),
    (λ S s. no_code s.rule s.code s.is),
  );
}

-- ---- flat codes

idle_flat : IsFlatCode [] [] idle
idle_flat = record { membranes = refl; taking = []; behind = (idle).body; whole = refl; takes = tt; ends = (tt, tt); closed = λ k b w e. absurd (none_is_not {A = HeadMembrane} (slice_get {X = HeadMembrane} [] w.0) (slice_get_past {X = HeadMembrane} [] w.0 (omega arith)) (subst (λ (o : Option HeadMembrane). IsSome o) (sym w.2) refl)) }

pub idle_code_is_flat : IdleCodeIsFlat
idle_code_is_flat = (idle_flat, (λ w. by w.taking w.behind w.whole w.takes w.ends))
  where
    by : (ts bs : List Instr) → NewMem 1 0 ∷ [] ≡ ts ++ bs → AllByRecursion IsRemoval ts → AllByRecursion (IsBehind [] []) bs → ⊥
    by [] [] e t b = absurd (cc)
    by [] (i ∷ bs) e t b = subst (IsBehind [] []) (sym (head_is e)) b.0
    by (i ∷ ts) bs e t b = subst IsRemoval (sym (head_is e)) t.0

use Rattle.std.proofs.Common.{ap, map, IsSome, ℕ, List, inl, subst, sym, refl}
use Rattle.std.specs.Option.{option_map}
use Rattle.lmn_store_heap.specs.Heap.{home_of}
use Rattle.lmn_store_heap.proofs.Common.{in_place_atom}
use Rattle.lmn_base.proofs.Lists.{holds_of_item}
use Rattle.lmn_base.specs.Lists.{In}
use Rattle.lmn_ground.specs.Rests.{IsLeft}
use Rattle.lmn_ground.proofs.RestLaws.{atoms_first_in, atoms_next_in, less_left_of}
use Rattle.lmn_ground.proofs.ClosingLaws.{all_stayed, rest_atoms, rest_atoms_are, stays_next}
use Rattle.lmn_base.proofs.Truth.{false_not_true, never_both}
use Rattle.lmn_ground.proofs.closing.rest_stays.Goals as goal

pub loop-next-init : goal.loop-next-init
loop-next-init g c =
    let s = g.S.LinkStore.heap c.args.store.now in
    record {
      stayed = λ atoms ms t a i. inl (subst (In a) (sym (c.first_rest-next.ensures.list atoms ms t)) i);
      at = atoms_first_in g.S.LinkStore.atom_id (IsLeft s (g.S.LinkStore.mem_id c.args.mem) (map g.S.LinkStore.mem_id c.args.out.now)) c.first_rest-next.result c.first_rest-next.ensures.list;
      place = c.first_rest-next.ensures.place;
    }

pub all_stay-requires : goal.all_stay-requires
all_stay-requires g c =
    let s = g.S.LinkStore.heap c.args.store.now in
    in_place_atom s (g.S.LinkStore.atom_id c.in-Some.a) (holds_of_item (λ a. IsSome (home_of s (g.S.LinkStore.atom_id a))) c.loop-next.next c.in-Some.a c.in-Some.is c.loop-next.invariant.place)

pub loop-next-smaller : goal.loop-next-smaller
loop-next-smaller g c =
    let s = g.S.LinkStore.heap c.args.store.now in
    let m = g.S.LinkStore.mem_id c.args.mem in
    let out = map g.S.LinkStore.mem_id c.args.out.now in
    let r = c.requires.rest in
    less_left_of (rest_atoms s m out) r.0 (option_map g.S.LinkStore.atom_id c.loop-next.next) (option_map g.S.LinkStore.atom_id c.next_rest-next.result) (g.S.LinkStore.atom_id c.in-Some.a)
    (rest_atoms_are s c.root-root.ensures.sound c.root-root.ensures.few m out r.0 r.1 r.2) (ap (option_map g.S.LinkStore.atom_id) c.in-Some.is) (c.next_rest-next.ensures.list r.0 r.1 r.2)

pub loop-next-preserved : goal.loop-next-preserved
loop-next-preserved g c =
    let s = g.S.LinkStore.heap c.args.store.now in
    let m = g.S.LinkStore.mem_id c.args.mem in
    let out = map g.S.LinkStore.mem_id c.args.out.now in
    let a = g.S.LinkStore.atom_id c.in-Some.a in
    record {
      stayed = λ atoms ms t. stays_next s (option_map g.S.LinkStore.atom_id c.loop-next.next) (option_map g.S.LinkStore.atom_id c.next_rest-next.result) a atoms
          (ap (option_map g.S.LinkStore.atom_id) c.in-Some.is) (c.next_rest-next.ensures.list atoms ms t) (c.loop-next.invariant.stayed atoms ms t) (c.all_stay.ensures.0 c.if-all_stay.true);
      at = atoms_next_in g.S.LinkStore.atom_id (IsLeft s m out) a c.next_rest-next.result c.next_rest-next.ensures.list;
      place = c.next_rest-next.ensures.place;
    }

pub returns-else-all_stay : goal.returns-else-all_stay
returns-else-all_stay g c = λ atoms ms w. (
  λ f. absurd (false_not_true f),
  λ all. absurd (never_both _ (c.all_stay.ensures.1 (λ i b j l. all (g.S.LinkStore.atom_id c.in-Some.a) i b j
      (holds_of_item (λ a. (atoms ms : List ℕ) → IsLeft (g.S.LinkStore.heap c.args.store.now) (g.S.LinkStore.mem_id c.args.mem) (map g.S.LinkStore.mem_id c.args.out.now) atoms ms → In (g.S.LinkStore.atom_id a) atoms)
      c.loop-next.next c.in-Some.a c.in-Some.is c.loop-next.invariant.at atoms ms w) l)) c.if-all_stay.false),
)

pub returns : goal.returns
returns g c = λ atoms ms w. (
  λ f. all_stayed (g.S.LinkStore.heap c.args.store.now) (option_map g.S.LinkStore.atom_id c.loop-next.next) atoms (ap (option_map g.S.LinkStore.atom_id) c.in_default.is) (c.loop-next.invariant.stayed atoms ms w),
  λ all. refl,
)

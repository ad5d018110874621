use Rattle.std.proofs.Common.{◌≡◌, ◌≢◌, ◌<◌, ℕ, subst, sym}
use Rattle.lmn_store_heap.specs.Heap.{IsAtom, IsMemInPlace, arity_of, joined}
use Rattle.lmn_store_heap.specs.Splice.{relinked, unified}
use Rattle.lmn_machine_commit.proofs.Doing.{asks_as, both_as, does_as, uses_as}
use Rattle.lmn_machine_commit.proofs.committing.run.Goals as goal

pub at-requires : goal.at-requires
at-requires g c = (uses_as _ _ _ _ c.in-NewAtom.is c.requires.uses).1

pub at-requires-in-NewInt : goal.at-requires-in-NewInt
at-requires-in-NewInt g c = (uses_as _ _ _ _ c.in-NewInt.is c.requires.uses).1

pub made_port-p-requires : goal.made_port-p-requires
made_port-p-requires g c = (uses_as _ _ _ _ c.in-NewLink.is c.requires.uses).0

pub made_port-q-requires : goal.made_port-q-requires
made_port-q-requires g c = (uses_as _ _ _ _ c.in-NewLink.is c.requires.uses).1

pub made_port-p-requires-in-Relink : goal.made_port-p-requires-in-Relink
made_port-p-requires-in-Relink g c = (uses_as _ _ _ _ c.in-Relink.is c.requires.uses).0

pub port_of-q-requires : goal.port_of-q-requires
port_of-q-requires g c = (uses_as _ _ _ _ c.in-Relink.is c.requires.uses).1

pub port_of-p-requires : goal.port_of-p-requires
port_of-p-requires g c = (uses_as _ _ _ _ c.in-Unify.is c.requires.uses).0

pub port_of-q-requires-in-Unify : goal.port_of-q-requires-in-Unify
port_of-q-requires-in-Unify g c = (uses_as _ _ _ _ c.in-Unify.is c.requires.uses).1

pub place_atom-atom-requires-clause-mem : goal.place_atom-atom-requires-clause-mem
place_atom-atom-requires-clause-mem g c = let k = c.requires.can in subst (IsMemInPlace (g.S.LinkStore.heap c.args.store.now)) (k.1.membranes _ _ c.at.ensures) (asks_as k.0 (g.S.LinkStore.heap c.args.store.now) c.in-NewAtom.is k.2).0

pub place_atom-atom-requires-in-NewInt-clause-mem : goal.place_atom-atom-requires-in-NewInt-clause-mem
place_atom-atom-requires-in-NewInt-clause-mem g c = let k = c.requires.can in subst (IsMemInPlace (g.S.LinkStore.heap c.args.store.now)) (k.1.membranes _ _ c.at-in-NewInt.ensures) (asks_as k.0 (g.S.LinkStore.heap c.args.store.now) c.in-NewInt.is k.2).0

pub join-requires-clause-a : goal.join-requires-clause-a
join-requires-clause-a g c = let k = c.requires.can in (subst (λ (q : ℕ × ℕ). IsAtom (g.S.LinkStore.heap c.args.store.now) q.0 × (q.1 < arity_of (g.S.LinkStore.heap c.args.store.now) q.0)) (c.made_port-p.ensures g.S.LinkStore.atom_id g.S.LinkStore.mem_id k.0 k.1) (asks_as k.0 (g.S.LinkStore.heap c.args.store.now) c.in-NewLink.is k.2).0).0

pub join-requires-clause-i : goal.join-requires-clause-i
join-requires-clause-i g c = let k = c.requires.can in (subst (λ (q : ℕ × ℕ). IsAtom (g.S.LinkStore.heap c.args.store.now) q.0 × (q.1 < arity_of (g.S.LinkStore.heap c.args.store.now) q.0)) (c.made_port-p.ensures g.S.LinkStore.atom_id g.S.LinkStore.mem_id k.0 k.1) (asks_as k.0 (g.S.LinkStore.heap c.args.store.now) c.in-NewLink.is k.2).0).1

pub join-requires-clause-b : goal.join-requires-clause-b
join-requires-clause-b g c = let k = c.requires.can in (subst (λ (q : ℕ × ℕ). IsAtom (g.S.LinkStore.heap c.args.store.now) q.0 × (q.1 < arity_of (g.S.LinkStore.heap c.args.store.now) q.0)) (c.made_port-q.ensures g.S.LinkStore.atom_id g.S.LinkStore.mem_id k.0 k.1) (asks_as k.0 (g.S.LinkStore.heap c.args.store.now) c.in-NewLink.is k.2).1).0

pub join-requires-clause-j : goal.join-requires-clause-j
join-requires-clause-j g c = let k = c.requires.can in (subst (λ (q : ℕ × ℕ). IsAtom (g.S.LinkStore.heap c.args.store.now) q.0 × (q.1 < arity_of (g.S.LinkStore.heap c.args.store.now) q.0)) (c.made_port-q.ensures g.S.LinkStore.atom_id g.S.LinkStore.mem_id k.0 k.1) (asks_as k.0 (g.S.LinkStore.heap c.args.store.now) c.in-NewLink.is k.2).1).1

pub join-requires-clause-differ : goal.join-requires-clause-differ
join-requires-clause-differ g c = let k = c.requires.can in both_as (λ (p q : ℕ × ℕ). p ≢ q) (c.made_port-p.ensures g.S.LinkStore.atom_id g.S.LinkStore.mem_id k.0 k.1) (c.made_port-q.ensures g.S.LinkStore.atom_id g.S.LinkStore.mem_id k.0 k.1) (asks_as k.0 (g.S.LinkStore.heap c.args.store.now) c.in-NewLink.is k.2).2

pub relink-requires-clause-new : goal.relink-requires-clause-new
relink-requires-clause-new g c = let k = c.requires.can in subst (λ (q : ℕ × ℕ). IsAtom (g.S.LinkStore.heap c.args.store.now) q.0 × (q.1 < arity_of (g.S.LinkStore.heap c.args.store.now) q.0)) (c.made_port-p-in-Relink.ensures g.S.LinkStore.atom_id g.S.LinkStore.mem_id k.0 k.1) (asks_as k.0 (g.S.LinkStore.heap c.args.store.now) c.in-Relink.is k.2).0

pub relink-requires-clause-old : goal.relink-requires-clause-old
relink-requires-clause-old g c = let k = c.requires.can in subst (λ (q : ℕ × ℕ). IsAtom (g.S.LinkStore.heap c.args.store.now) q.0 × (q.1 < arity_of (g.S.LinkStore.heap c.args.store.now) q.0)) (c.port_of-q.ensures g.S.LinkStore.atom_id g.S.LinkStore.mem_id k.0 k.1) (asks_as k.0 (g.S.LinkStore.heap c.args.store.now) c.in-Relink.is k.2).1

pub unify-requires-clause-p : goal.unify-requires-clause-p
unify-requires-clause-p g c = let k = c.requires.can in subst (λ (q : ℕ × ℕ). IsAtom (g.S.LinkStore.heap c.args.store.now) q.0 × (q.1 < arity_of (g.S.LinkStore.heap c.args.store.now) q.0)) (c.port_of-p.ensures g.S.LinkStore.atom_id g.S.LinkStore.mem_id k.0 k.1) (asks_as k.0 (g.S.LinkStore.heap c.args.store.now) c.in-Unify.is k.2).0

pub unify-requires-clause-q : goal.unify-requires-clause-q
unify-requires-clause-q g c = let k = c.requires.can in subst (λ (q : ℕ × ℕ). IsAtom (g.S.LinkStore.heap c.args.store.now) q.0 × (q.1 < arity_of (g.S.LinkStore.heap c.args.store.now) q.0)) (c.port_of-q-in-Unify.ensures g.S.LinkStore.atom_id g.S.LinkStore.mem_id k.0 k.1) (asks_as k.0 (g.S.LinkStore.heap c.args.store.now) c.in-Unify.is k.2).1

pub unify-requires-clause-differ : goal.unify-requires-clause-differ
unify-requires-clause-differ g c = let k = c.requires.can in both_as (λ (p q : ℕ × ℕ). p ≢ q) (c.port_of-p.ensures g.S.LinkStore.atom_id g.S.LinkStore.mem_id k.0 k.1) (c.port_of-q-in-Unify.ensures g.S.LinkStore.atom_id g.S.LinkStore.mem_id k.0 k.1) (asks_as k.0 (g.S.LinkStore.heap c.args.store.now) c.in-Unify.is k.2).2

pub returns-in-NewLink : goal.returns-in-NewLink
returns-in-NewLink g c = λ r u k. does_as r (g.S.LinkStore.heap c.args.store.now) (g.S.LinkStore.heap c.join.new.self) c.in-NewLink.is (both_as (λ (p q : ℕ × ℕ). g.S.LinkStore.heap c.join.new.self ≡ joined (g.S.LinkStore.heap c.args.store.now) p.0 p.1 q.0 q.1) (sym (c.made_port-p.ensures g.S.LinkStore.atom_id g.S.LinkStore.mem_id r u)) (sym (c.made_port-q.ensures g.S.LinkStore.atom_id g.S.LinkStore.mem_id r u)) c.join.ensures)

pub returns-in-Relink : goal.returns-in-Relink
returns-in-Relink g c = λ r u k. does_as r (g.S.LinkStore.heap c.args.store.now) (g.S.LinkStore.heap c.relink.new.store) c.in-Relink.is (both_as (λ (p q : ℕ × ℕ). g.S.LinkStore.heap c.relink.new.store ≡ relinked (g.S.LinkStore.heap c.args.store.now) p.0 p.1 q.0 q.1) (sym (c.made_port-p-in-Relink.ensures g.S.LinkStore.atom_id g.S.LinkStore.mem_id r u)) (sym (c.port_of-q.ensures g.S.LinkStore.atom_id g.S.LinkStore.mem_id r u)) c.relink.ensures)

pub returns-in-Unify : goal.returns-in-Unify
returns-in-Unify g c = λ r u k. does_as r (g.S.LinkStore.heap c.args.store.now) (g.S.LinkStore.heap c.unify.new.store) c.in-Unify.is (both_as (λ (p q : ℕ × ℕ). g.S.LinkStore.heap c.unify.new.store ≡ unified (g.S.LinkStore.heap c.args.store.now) p.0 p.1 q.0 q.1) (sym (c.port_of-p.ensures g.S.LinkStore.atom_id g.S.LinkStore.mem_id r u)) (sym (c.port_of-q-in-Unify.ensures g.S.LinkStore.atom_id g.S.LinkStore.mem_id r u)) c.unify.ensures)

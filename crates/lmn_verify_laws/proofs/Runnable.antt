-- Verified code can be run by turns.
use Rattle.std.proofs.Common.{◌≢◌, ℕ, not, ◌++◌, length, sym, subst}
use Rattle.lmn_base.specs.Lists.{In}
use Rattle.lmn_store_heap.specs.Heap.{Heap, Distinct, IsMemInPlace}
use Rattle.lmn_store_heap.specs.Sound.{Valid}
use Rattle.lmn_solid_heads.specs.Embeddings.{Lies}
use Rattle.lmn_ground_parts.specs.Walks.{is_in}
use Rattle.lmn_ground.proofs.RestLaws.{atoms_once}
use Rattle.lmn_solid_bodies.specs.RestCopies.{rest_membranes}
use Rattle.lmn_solid_bodies.specs.Running.{Registers, DoesAll, Prepares}
use Rattle.lmn_solid_bodies.specs.Within.{HoldsRests, membrane_images}
use Rattle.lmn_solid_bodies.proofs.Dropping as dropping
use Rattle.lmn_machine_commit.specs.Committing.{Runs}
use Rattle.lmn_machine_commit.specs.Matched.{BodiesCanBeCommitted, CanBeCommitted}
use Rattle.lmn_machine_laws.specs.Laws.{BodyCostIsTold}
use Rattle.lmn_machine.specs.Costs.{InAll, Leaves, TakesItems}
use Rattle.lmn_instr_code.specs.declared.instr.Code.{Code}
use Rattle.lmn_verify_code.specs.Verified.{IsVerified}
use Rattle.lmn_verify_laws.specs.Flat.{flat_body, flat_head, link_count}
use Rattle.lmn_verify_laws.specs.Laws.{VerifiedAreRunnable, VerifiedIsRunnable}
use Rattle.lmn_verify_laws.proofs.Before.{listed_before_drops}
use Rattle.lmn_verify_laws.proofs.Commits.{B, D, DropsSame, commits, leaves}
use Rattle.lmn_verify_laws.proofs.Dropped.{back, closed_number, dropped_is, js, js_distinct, ks, ks_distinct, rising_is, takes_any, there}
use Rattle.lmn_verify_laws.proofs.Drops.{does_any, runs_any}
use Rattle.lmn_verify_laws.proofs.Heads.{lies}
use Rattle.lmn_verify_laws.proofs.Linking.{is_nested}
use Rattle.lmn_verify_laws.proofs.Ready.{verified_is_in_order}
use Rattle.lmn_verify_laws.proofs.Rests.{verified_copies_closed, verified_holds_rests}
use Rattle.lmn_verify_laws.proofs.Rules.{head_nests, inside_head}
use Rattle.lmn_verify_laws.proofs.Shape.{made_code, shape, taken_code}

module _ (code : Code) (k : ℕ) (v : IsVerified code k) (h : Heap) (valid : Valid h) (m : ℕ) (place : IsMemInPlace h m) (r : Registers) (lie : Lies h (flat_head code) m r.head.images) (rests : HoldsRests h r (flat_head code)) where
  abbrev Closed : ℕ → Type 0
  Closed n = dropping.IsClosedMembrane h valid (flat_head code) m r lie (head_nests code k v) (inside_head code k v) rests n

  apart : (i j : ℕ) → Closed i → Closed j → i ≢ j → (q : ℕ) → In q (rest_membranes r i) → In q (rest_membranes r j) → ⊥
  apart i j ci cj d q a b = dropping.rounds_apart h valid (flat_head code) m r lie (head_nests code k v) (inside_head code k v) rests i j ci cj d q a b

  once : (i : ℕ) → Closed i → Distinct (r.left_atoms i)
  once i c =
      let w = rests i c.membrane c.has c.closed in
      atoms_once h valid.sound (r.head.images.membrane i) w.0 (λ x. not (is_in (membrane_images r (flat_head code)) x)) (r.left_atoms i) (r.left_membranes i) w.2

  closed : (n : ℕ) → In n (ks code k v) → Closed n
  closed n i = let w = closed_number code k v n i in record { membrane = w.0; has = w.1; closed = w.2 }

  -- What is dropped does the same in the order of the code and in rising order.
  pub same : (s : Heap) → Prepares r (B code k v h valid m place r lie rests) h s → (w : Heap) → DoesAll r (taken_code code k v ++ made_code code k v) s w → DropsSame code k v h valid m place r lie rests w
  same s p w d =
      let listed = listed_before_drops (flat_head code) (flat_body code) (link_count code) (is_nested code k v) r h valid m lie rests place s p w d in
      record {
        runs = λ u. subst (λ l. Runs r l w) (sym (dropped_is code k v)) (runs_any r w listed Closed apart once (js code k v) (ks code k v) (js_distinct code k v) (ks_distinct code k v) closed (there code k v) (back code k v) (subst (λ l. Runs r l w) (rising_is code k v) u));
        does = λ t e. subst (λ l. DoesAll r l w t) (sym (rising_is code k v)) (does_any r w listed Closed apart once (js code k v) (ks code k v) (js_distinct code k v) (ks_distinct code k v) closed (there code k v) (back code k v) t
            (subst (λ l. DoesAll r l w t) (dropped_is code k v) e));
      }

  can_be_committed : BodiesCanBeCommitted → CanBeCommitted r code.body h
  can_be_committed law = commits code k v h valid m place r lie rests same law

  takes : (n : ℕ) → InAll (TakesItems h r) (D code k v h valid m place r lie rests) n → InAll (TakesItems h r) (shape code k v).dropped n
  takes n w = subst (λ l. InAll (TakesItems h r) l n) (sym (dropped_is code k v)) (takes_any h r (js code k v) (ks code k v) (js_distinct code k v) (ks_distinct code k v) (there code k v) (back code k v) n (subst (λ l. InAll (TakesItems h r) l n) (rising_is code k v) w))

  is_told : BodyCostIsTold → (n : ℕ) × Leaves h r code.body n
  is_told law =
      let w = law.some (flat_head code) (flat_body code) (link_count code) h m r (record { rule = is_nested code k v; valid = valid; placed = place; lies = lie; rests = rests }) in
      (w.0, leaves code k v h valid m place r lie rests takes w.0 w.1)

-- The law, from those of bodies.
pub verified_is_runnable : BodiesCanBeCommitted → BodyCostIsTold → VerifiedIsRunnable
verified_is_runnable commit cost code k v =
    let order = verified_is_in_order code k v in
    record {
      head = order.head;
      ready = order.ready;
      loads = order.loads;
      copies = verified_copies_closed code k v;
      leaves = λ h m r valid place first w. is_told code k v h valid m place r (lies code k v h valid m r.head first.succeeds) (verified_holds_rests code k v h m r valid place first w) cost;
      commits = λ h m r valid place first w. can_be_committed code k v h valid m place r (lies code k v h valid m r.head first.succeeds) (verified_holds_rests code k v h m r valid place first w) commit;
    }

-- So it is with all codes of a list.
pub verified_are_runnable : BodiesCanBeCommitted → BodyCostIsTold → VerifiedAreRunnable
verified_are_runnable commit cost codes all n code e = verified_is_runnable commit cost code (length codes) (all n code e)

-- The code of a body of atoms fires it.
use Rattle.std.proofs.Common.{ℕ, ◌+◌, ◌<◌, ◌≡◌, ◌==◌, Bool, true, false, cond, List, [], ◌∷◌, ◌++◌, map, length, Option, Some, None, IsSome, refl, sym, ap, subst, ◌∙◌, inl, inr}
use Rattle.lmn_base.specs.declared.functor.Functor.{Functor}
use Rattle.lmn_store_heap.specs.Heap.{Heap, IsAtom, atoms_in, IsInPlace, finished, taken_all, IsMemInPlace}
use Rattle.lmn_store_heap.specs.Heap as heap
use Rattle.lmn_store_heap.specs.Sound.{Listed, AllInPlace, Valid}
use Rattle.lmn_store_heap.proofs.ListLemmas.{in_right}
use Rattle.lmn_solid_bodies.specs.Items.{NoCopies, Simple}
use Rattle.lmn_solid_bodies.specs.declared.items.BodyItem.TheVariants as item
use Rattle.lmn_store_heap.specs.Solid.{solid_atoms_at}
use Rattle.std.specs.Prelude.{slice_get}
use Rattle.std.specs.Prelude as prelude
use Rattle.lmn_store_heap.specs.Heap.{HeapAtom, partners_of}
use Rattle.lmn_store_heap.proofs.SolidLemmas.{atoms_append}
use Rattle.lmn_solid_heads.specs.declared.items.HeadItem.{HeadItem}
use Rattle.lmn_solid_heads.specs.Heads.{HeadTyped, HeadMembrane, atoms_of as head_atoms, typed_contexts_of, membranes_of}
use Rattle.lmn_solid_heads.specs.Embeddings.{Lies, HasMembrane, HasTyped}
use Rattle.lmn_congruence_splice.specs.Classes.{class_of, rising, body_ties}
use Rattle.lmn_congruence_splice.specs.Splice.{IsOneOf, links, raw_link, of_rule, of_solid, Splice, Fusion}
use Rattle.lmn_instr_code.specs.declared.instr.Instr.{Instr}
use Rattle.lmn_instr_code.specs.declared.instr.Instr.TheVariants.{RemoveAtom, RemovePart, RemoveMem, DropCells, Proceed}
use Rattle.lmn_solid_bodies.specs.declared.items.BodyItem.{BodyItem}
use Rattle.lmn_solid_bodies.specs.declared.items.BodyItem.TheVariants.{Atom, Connector, Copy, Bound, Membrane, Rest, Rule, Rules}
use Rattle.lmn_solid_bodies.specs.Tied.{partners, all_tied}
use Rattle.lmn_solid_bodies.specs.Items.{new_ports, old_ports, connectors}
use Rattle.lmn_solid_bodies.specs.Code.{removals, making, links_code, body_code, drops}
use Rattle.lmn_solid_bodies.specs.Running.{Registers, old_port, new_port, all_placed, Prepares, DoesAll}
use Rattle.lmn_solid_bodies.specs.Rules.{PlainRule, AtomRule, PartAtoms, closed_rests, WellPlaced, Goes, Exists, Nests}
use Rattle.lmn_congruence_splice.proofs.EndLemmas.{in_rising, rising_distinct}
use Rattle.lmn_solid_bodies.proofs.HeadPorts.{in_map, of_map}
use Rattle.lmn_solid_bodies.proofs.Parts.{parts_apart, part_there, part_whole, parts_commit, taken_append, taken_links, no_part_prepares}
use Rattle.lmn_solid_bodies.specs.Names.{Names}
use Rattle.lmn_solid_bodies.specs.Added.{moved_mems}
use Rattle.lmn_solid_bodies.proofs.Places.{goes_body, nests_body, moved_are}
use Rattle.lmn_solid_bodies.proofs.RemovalsCan.{can_append, atoms_can, parts_can, mems_can, all_stay_in_place}
use Rattle.lmn_solid_bodies.proofs.MakingCan.{context_mems}
use Rattle.lmn_solid_bodies.proofs.Below.{is_removed}
use Rattle.lmn_solid_bodies.proofs.BodyCan.{making_part_can, drops_part_can, links_part_can}
use Rattle.lmn_solid_bodies.proofs.MakingListed.{prepares_listed}
use Rattle.lmn_solid_bodies.proofs.Soundness.{sound_before}
use Rattle.lmn_solid_bodies.proofs.Held.{held, rests_closed, rest_dropped, open_from_rest}
use Rattle.lmn_solid_bodies.proofs.RestsMade.{IsClosed, HaveRestCopies, have_rests_on}
use Rattle.lmn_solid_bodies.specs.RestCopies.{RestCopies, AreAsLong}
use Rattle.lmn_solid_bodies.proofs.Phases.{atoms_of_pairs}
use Rattle.lmn_solid_bodies.specs.Within.{membrane_images, dropped_atoms, dropped_mems, FiresWithin, removed_mems}
use Rattle.lmn_solid_bodies.specs.Laws.{BodyFires, BodyFiresWithin, BodyCanRun}
use Rattle.lmn_solid_bodies.proofs.Removing.{all_taken_mems, commits_taken_mems, prepares_taken_mems}
use Rattle.lmn_solid_bodies.proofs.Preparing.{MakesAll, Brought, AllPrepared, making_prepares, no_rests}
use Rattle.lmn_solid_bodies.proofs.Brought.{Brings, brought_old, brings_none, brings_on, brings_listed, Whole, has_copy_on}
use Rattle.lmn_solid_bodies.proofs.Colours.{beside, old_colour, names_beside, same_beside, only_beside, apart_beside, fires_by}
use Rattle.lmn_solid_bodies.proofs.Nesting.{fires_within, ready_v, ks_once, once_t1}
use Rattle.lmn_solid_bodies.proofs.TreeAfter.{valid_after}
use Rattle.lmn_solid_bodies.specs.Conditions.{CanRun}
use Rattle.lmn_store_heap.specs.Conditions.{Ready}
use Rattle.std.specs.Option.{option_and_then}
use Rattle.lmn_solid_bodies.specs.Fired.{linked_by, made_atoms, images_of, FiresOnHeap}
use Rattle.lmn_solid_bodies.proofs.Phases.{placed_in}
use Rattle.lmn_solid_bodies.proofs.Making.{AfterMaking, all_made, all_made_after, made_functor, made_once, AllFree}
use Rattle.lmn_solid_bodies.proofs.Coding.{at_heap, commits_append, prepares_append, commits_taken, prepares_taken, commits_placed, prepares_made, commits_tied, prepares_tied}
use Rattle.lmn_solid_bodies.specs.Made.{made_of, places_of, new_atoms, copies_of}
use Rattle.lmn_solid_bodies.proofs.BodyPorts.{heap_in, numbers, written_new, plain_new}
use Rattle.lmn_solid_bodies.proofs.Finishing.{in_place_listed}
use Rattle.lmn_solid_bodies.proofs.Committing.{Poised, EndsLive, LiveIn, in_withouts_of, commit_names, commit_fusion, commit_valid, commit_tree, commit_lists, commit_rules, commit_functor}
use Rattle.lmn_solid_bodies.proofs.Firing.{old_port_stands, rising_below, heap_in_of, distinct_images, splice_at, poised, links_below, new_link, kept_link, kept_functor, new_functor, same_atoms, same_rules, in_place_new, es_numbers, RestsHold, simple_none}
use Rattle.lmn_solid_bodies.proofs.SolidAfter.{kept_atoms, new_atoms_are, placed_here, fired_are}
use Rattle.lmn_base.specs.Graphs.{Port}
use Rattle.lmn_store_heap.specs.Lists.{without_all}
use Rattle.lmn_base.proofs.Lists.{get_below, get_there as get_some, plus_nothing}
use Rattle.lmn_base.proofs.Numbers.{below_zero_plus as below_plain, zero_least as nothing_less, zero_plus_below as plain_below}
use Rattle.lmn_store_heap.proofs.Common.{is_atom_at, in_map as mapped}
use Rattle.lmn_base.specs.Lists.{In}

-- a head of atoms alone: nothing else is removed
nothing_else_commits : (r : Registers) (ts : List HeadTyped) (ms : List HeadMembrane) (s t : Heap) → ts ≡ [] → ms ≡ []
    → DoesAll r (map RemovePart (rising 0 (length ts)) ++ map RemoveMem (rising 1 (length ms))) s t → t ≡ s
nothing_else_commits r [] [] s t e f w = w
nothing_else_commits r [] (m ∷ ms) s t e f w = absurd (cc)
nothing_else_commits r (x ∷ ts) ms s t e f w = absurd (cc)

nothing_else_prepares : (r : Registers) (ts : List HeadTyped) (ms : List HeadMembrane) (s t : Heap) → ts ≡ [] → ms ≡ []
    → Prepares r (map RemovePart (rising 0 (length ts)) ++ map RemoveMem (rising 1 (length ms))) s t → t ≡ s
nothing_else_prepares r [] [] s t e f w = w
nothing_else_prepares r [] (m ∷ ms) s t e f w = absurd (cc)
nothing_else_prepares r (x ∷ ts) ms s t e f w = absurd (cc)

-- a simple body has no copies
simple_plain : (body : List BodyItem) → Simple body → NoCopies body
simple_plain [] s = tt
simple_plain (item.Atom functor links inside ∷ xs) s = simple_plain xs s.1
simple_plain (item.Bound integer link inside ∷ xs) s = simple_plain xs s.1
simple_plain (item.Connector left right ∷ xs) s = simple_plain xs s.1
simple_plain (item.Copy part link inside ∷ xs) s = absurd s.0
simple_plain (item.Membrane inside ∷ xs) s = absurd s.0
simple_plain (item.Rest of closed inside ∷ xs) s = absurd s.0
simple_plain (item.Rule rule inside ∷ xs) s = absurd s.0
simple_plain (item.Rules of inside ∷ xs) s = absurd s.0

no_copies : (c : ℕ) (body : List BodyItem) → NoCopies body → (e : ℕ × ℕ) → IsOneOf e (copies_of c body) → ⊥
no_copies c [] s e i = i
no_copies c (item.Atom functor links inside ∷ xs) s e i = no_copies c xs s e i
no_copies c (item.Bound integer link inside ∷ xs) s e i = no_copies c xs s e i
no_copies c (item.Connector left right ∷ xs) s e i = no_copies c xs s e i
no_copies c (item.Copy part link inside ∷ xs) s e i = absurd s
no_copies c (item.Membrane inside ∷ xs) s e i = no_copies c xs s e i
no_copies c (item.Rest of false inside ∷ xs) s e i = no_copies c xs s e i
no_copies c (item.Rest of true inside ∷ xs) s e i = absurd s
no_copies c (item.Rule rule inside ∷ xs) s e i = no_copies c xs s e i
no_copies c (item.Rules of inside ∷ xs) s e i = no_copies c xs s e i

-- a simple body copies no rest
simple_long : (r : Registers) (q : RestCopies) (body : List BodyItem) → Simple body → AreAsLong r q body
simple_long r q [] s = tt
simple_long r q (item.Atom functor links inside ∷ xs) s = simple_long r q xs s.1
simple_long r q (item.Bound integer link inside ∷ xs) s = simple_long r q xs s.1
simple_long r q (item.Connector left right ∷ xs) s = simple_long r q xs s.1
simple_long r q (item.Copy part link inside ∷ xs) s = absurd s.0
simple_long r q (item.Membrane inside ∷ xs) s = absurd s.0
simple_long r q (item.Rest of closed inside ∷ xs) s = absurd s.0
simple_long r q (item.Rule rule inside ∷ xs) s = absurd s.0
simple_long r q (item.Rules of inside ∷ xs) s = absurd s.0

simple_rests : (h s : Heap) (r : Registers) (q : RestCopies) (body : List BodyItem) → Simple body → HaveRestCopies h s r q body
simple_rests h s r q [] w = tt
simple_rests h s r q (item.Atom functor links inside ∷ xs) w = simple_rests h s r q xs w.1
simple_rests h s r q (item.Bound integer link inside ∷ xs) w = simple_rests h s r q xs w.1
simple_rests h s r q (item.Connector left right ∷ xs) w = simple_rests h s r q xs w.1
simple_rests h s r q (item.Copy part link inside ∷ xs) w = absurd w.0
simple_rests h s r q (item.Membrane inside ∷ xs) w = absurd w.0
simple_rests h s r q (item.Rest of closed inside ∷ xs) w = absurd w.0
simple_rests h s r q (item.Rule rule inside ∷ xs) w = absurd w.0
simple_rests h s r q (item.Rules of inside ∷ xs) w = absurd w.0

simple_holds : (h : Heap) (r : Registers) (body : List BodyItem) (ns : List ℕ) → Simple body → RestsHold h r body ns []
simple_holds h r body ns s = record {
  placed = λ of i a j. absurd (none_in body s of i);
  drop_placed = λ a i. absurd i;
  drop_apart = λ a i. absurd i;
  drop_stays = λ a i b j t. absurd t;
  drop_once = tt;
}
  where
    none_in : (body : List BodyItem) → Simple body → (of : ℕ) → IsOneOf of (closed_rests body) → ⊥
    none_in body s of i = subst (IsOneOf of) (simple_none body s) i

made_brings : (h s : Heap) (mk : List (ℕ × Functor)) → Listed h → AllInPlace h → AfterMaking h s mk → heap.Distinct (numbers mk) → Brings h s (numbers mk)
made_brings h s mk listed settled ma once = record {
  others = ma.others;
  fresh = ma.fresh;
  waits = λ a i. (ma.sound.listed.new_atoms a).0 (subst (In a) (sym ma.line) (in_right a h.new_atoms (numbers mk) i));
  once = once;
  line = ma.line;
  paired = λ p. ma.sound.paired;
  shaped = λ p. ma.sound.shaped;
}

module _ (head : List HeadItem) (body : List BodyItem) (n : ℕ) (rule : PlainRule head body n) (r : Registers) where
  abbrev N : ℕ
  N = length (head_atoms head)

  abbrev mk : List (ℕ × Functor)
  mk = made_of r N body

  abbrev ns : List ℕ
  ns = images_of r head

  abbrev es : List (ℕ × ℕ)
  es = places_of r N 0 body

  abbrev news : List (Port × ℕ)
  news = at_heap (new_port r) (new_ports N 0 body)

  abbrev olds : List (Port × ℕ)
  olds = at_heap (old_port r) (old_ports head)

  abbrev link_part : List Instr
  link_part = links_code (class_of (connectors body)) (new_ports N 0 body) (old_ports head) (rising 0 n)

  -- a head without membranes drops nothing
  no_drops : drops 1 (membranes_of head) ≡ []
  no_drops = ap (drops 1) rule.no_membranes

  -- what prepares makes the new atoms
  prepared : (h s : Heap) → Prepares r (body_code head body n) h s → AllFree h mk × (s ≡ all_made h mk)
  prepared h s v =
      let w = subst (λ z. Prepares r (removals head ++ (making N (1 + length (membranes_of head)) 0 body ++ (z ++ (link_part ++ (Proceed ∷ []))))) h s) no_drops v in
      let a = prepares_append r (removals head) (making N (1 + length (membranes_of head)) 0 body ++ (link_part ++ (Proceed ∷ []))) h s w in
      let a1 = prepares_append r (map RemoveAtom (rising 0 N)) (map RemovePart (rising 0 (length (typed_contexts_of head))) ++ map RemoveMem (rising 1 (length (membranes_of head)))) h a.0 a.1 in
      let b = prepares_append r (making N (1 + length (membranes_of head)) 0 body) (link_part ++ (Proceed ∷ [])) a.0 s a.2 in
      let d = prepares_append r link_part (Proceed ∷ []) b.0 s b.2 in
      let first : a.0 ≡ h = nothing_else_prepares r (typed_contexts_of head) (membranes_of head) a1.0 a.0 rule.no_typed rule.no_membranes a1.2 ∙ prepares_taken r (rising 0 N) h a1.0 a1.1 in
      let made = prepares_made r N (1 + length (membranes_of head)) 0 body rule.simple a.0 b.0 b.1 in
      let last : s ≡ b.0 = d.2.2 ∙ d.2.1 ∙ prepares_tied r (class_of (connectors body)) (new_ports N 0 body) (old_ports head) (rising 0 n) b.0 d.0 d.1 in
      (subst (λ z. AllFree z mk) first made.0, last ∙ made.1 ∙ ap (λ z. all_made z mk) first)

  -- what commits takes, places, ties and frees
  committed : (s h' : Heap) → DoesAll r (body_code head body n) s h' → h' ≡ finished (all_tied (all_placed (taken_all s ns) es) (body_ties news olds (connectors body) n))
  committed s h' v =
      let w = subst (λ z. DoesAll r (removals head ++ (making N (1 + length (membranes_of head)) 0 body ++ (z ++ (link_part ++ (Proceed ∷ []))))) s h') no_drops v in
      let a = commits_append r (removals head) (making N (1 + length (membranes_of head)) 0 body ++ (link_part ++ (Proceed ∷ []))) s h' w in
      let a1 = commits_append r (map RemoveAtom (rising 0 N)) (map RemovePart (rising 0 (length (typed_contexts_of head))) ++ map RemoveMem (rising 1 (length (membranes_of head)))) s a.0 a.1 in
      let b = commits_append r (making N (1 + length (membranes_of head)) 0 body) (link_part ++ (Proceed ∷ [])) a.0 h' a.2 in
      let d = commits_append r link_part (Proceed ∷ []) b.0 h' b.2 in
      let first : a.0 ≡ taken_all s ns = nothing_else_commits r (typed_contexts_of head) (membranes_of head) a1.0 a.0 rule.no_typed rule.no_membranes a1.2 ∙ commits_taken r (rising 0 N) s a1.0 a1.1 in
      let second : b.0 ≡ all_placed (taken_all s ns) es = commits_placed r N (1 + length (membranes_of head)) 0 body rule.simple a.0 b.0 b.1 ∙ ap (λ z. all_placed z es) first in
      let third : d.0 ≡ all_tied (all_placed (taken_all s ns) es) (body_ties news olds (connectors body) n) =
      commits_tied r (class_of (connectors body)) (new_ports N 0 body) (old_ports head) (rising 0 n) b.0 d.0 d.1 ∙ ap (λ z. all_tied z (body_ties news olds (connectors body) n)) second in
      d.2.2 ∙ d.2.1 ∙ ap finished third

  module _ (h : Heap) (valid : Valid h) (m : ℕ) (em : Lies h head m r.head.images) (stand : IsMemInPlace h m) (c : Port → ℕ) (names : Names h c) (free : AllFree h mk) where
    abbrev s : Heap
    s = all_made h mk

    ma : AfterMaking h s mk
    ma = all_made_after mk h valid.sound free

    -- nothing is joined inside a copy
    unjoined : (p q : Port) → In p.0 (new_atoms r no_rests N 0 body) → partners s p ≡ Some q → ⊥
    unjoined p q i e =
        let j = subst (In p.0) (plain_new r no_rests N 0 body (simple_plain body rule.simple)) i in
        let z : ◌≡◌ {A = Option Port} None (Some q) = sym (ap (λ (o : Option HeapAtom). prelude.slice_index_or (partners_of o) p.1 None) (ma.fresh p.0 j)) ∙ sym (ma.links p.0 p.1) ∙ e in absurd (cc)

    abbrev bro : Brought c h r no_rests N body
    bro = record {
      heap = s;
      sound = ma.sound;
      brings = subst (Brings h s) (sym (plain_new r no_rests N 0 body (simple_plain body rule.simple))) (made_brings h s mk valid.sound.listed valid.settled ma (made_once mk h valid.sound free));
      written = made_functor mk h valid.sound free;
      copies = λ e i. absurd (no_copies 0 body (simple_plain body rule.simple) e i);
      long = simple_long r no_rests body rule.simple;
      rests = simple_rests h s r no_rests body rule.simple;
      mems = ma.mems;
      new_mems = ma.new_mems;
      root = ma.root;
      same = λ p q i e. absurd (unjoined p q i e);
      only = λ p q x y i j ex ey e. absurd (unjoined p x i ex);
      apart = λ p q x i ex st e. unjoined p x i ex;
    }

    abbrev v : Heap
    v = all_tied (all_placed (taken_all s ns) es) (body_ties news olds (connectors body) n)

    no_parts : PartAtoms h head r.head.images []
    no_parts = record {
      once = tt;
      are = λ a i. absurd i;
      all = λ g t a w i. let z : ◌≡◌ {A = Option HeadTyped} None (Some t) = sym (ap (λ ts. slice_get ts g) rule.no_typed) ∙ w in absurd (cc);
    }

    no_held : RestsHold h r body (images_of r head ++ []) []
    no_held = simple_holds h r body (images_of r head ++ []) rule.simple

    abbrev po : Poised s ns es valid.tree.0
    po = subst (λ z. Poised s z es valid.tree.0) (plus_nothing (images_of r head)) (poised h valid head body n m r no_rests rule.atoms em stand c names bro [] no_parts [] no_held rule.simple)

    same_new : atoms_of_pairs es ≡ new_atoms r no_rests N 0 body
    same_new = es_numbers h valid head body n m r no_rests rule.atoms em stand c names bro [] no_parts [] no_held rule.simple

    abbrev sp : Splice (EndsLive s ns es) c (partners s) news olds (connectors body)
    sp = subst (λ z. Splice (LiveIn s z (atoms_of_pairs es)) c (partners s) news olds (connectors body)) (plus_nothing (images_of r head ++ []) ∙ plus_nothing (images_of r head))
        (subst (λ ws. Splice (LiveIn s ((images_of r head ++ []) ++ []) ws) c (partners s) news olds (connectors body)) (sym same_new) (splice_at h valid head body n m r no_rests rule.atoms em stand c names bro [] no_parts [] no_held))

    abbrev below : (x : ℕ) → IsOneOf x (links news ++ links olds) → x < n
    below = links_below h valid head body n m r no_rests rule.atoms em stand c names bro [] no_parts [] no_held

    abbrev fu : Fusion (EndsLive s ns es) c (partners v) news olds (connectors body)
    fu = commit_fusion s ns es valid.tree.0 po c news olds (connectors body) n sp below

    abbrev name : ℕ → ℕ → ℕ
    name a i = fu.to (raw_link news c (a, i))

    left_atoms : (k : ℕ) → solid_atoms_at (finished v) name (without_all ns (atoms_in h k)) ≡ map (linked_by (λ x. fu.to (of_solid x))) (solid_atoms_at h (λ a i. c (a, i)) (without_all ns (atoms_in h k)))
    left_atoms k = kept_atoms h (finished v) (λ a i. c (a, i)) name (λ x. fu.to (of_solid x)) (without_all ns (atoms_in h k)) (λ a i.
        let w = in_withouts_of ns (atoms_in h k) a (valid.sound.listed.atoms_once k) i in
        let p = in_place_listed h k a valid.sound.listed w.0 in (
          commit_functor s ns es valid.tree.0 po c news olds (connectors body) n sp below a (inl (in_place_new h valid head body n m r no_rests rule.atoms em stand c names bro [] no_parts [] no_held a p, w.1))
              ∙ kept_functor h valid head body n m r no_rests rule.atoms em stand c names bro [] no_parts [] no_held a p,
          λ j. ap fu.to (kept_link h valid head body n m r no_rests rule.atoms em stand c names bro [] no_parts [] no_held (a, j) p),
        ))

    new_solid : solid_atoms_at (finished v) name (numbers mk) ≡ made_atoms r (λ x. fu.to (of_rule x)) body
    new_solid = new_atoms_are (finished v) r name (λ x. fu.to (of_rule x)) N 0 body rule.atoms.made rule.simple
        (λ e i. commit_functor s ns es valid.tree.0 po c news olds (connectors body) n sp below e.0
        (inr (subst (In e.0) (sym same_new) (written_new r no_rests N 0 body e.0 e.1 i)))
        ∙ new_functor h valid head body n m r no_rests rule.atoms em stand c names bro [] no_parts [] no_held e i)
        (λ e i. ap fu.to (new_link h valid head body n m r no_rests rule.atoms em stand c names bro [] no_parts [] no_held e i))

    placed_atoms : (k : ℕ) → solid_atoms_at (finished v) name (placed_in k es) ≡ cond (k == m) (made_atoms r (λ x. fu.to (of_rule x)) body) []
    placed_atoms k = ap (solid_atoms_at (finished v) name) (placed_here r N 0 k m body rule.simple em.here) ∙ by (k == m)
      where
        by : (t : Bool) → solid_atoms_at (finished v) name (cond t (numbers mk) []) ≡ cond t (made_atoms r (λ x. fu.to (of_rule x)) body) []
        by true = new_solid
        by false = refl

    atoms_then : (k : ℕ) → solid_atoms_at (finished v) name (atoms_in (finished v) k)
        ≡ map (linked_by (λ x. fu.to (of_solid x))) (solid_atoms_at h (λ a i. c (a, i)) (without_all ns (atoms_in h k))) ++ cond (k == m) (made_atoms r (λ x. fu.to (of_rule x)) body) []
    atoms_then k =
        ap (solid_atoms_at (finished v) name) (commit_lists s ns es valid.tree.0 po c news olds (connectors body) n sp below k
        ∙ ap (λ xs. without_all ns xs ++ placed_in k es) (same_atoms h valid head body n m r no_rests rule.atoms em stand c names bro [] no_parts [] no_held k))
        ∙ atoms_append (finished v) name (without_all ns (atoms_in h k)) (placed_in k es)
        ∙ (λ t. left_atoms k t ++ placed_atoms k t)

    pub fires : FiresOnHeap h c valid.tree.0 r head body m (finished v)
    fires = record {
      valid = commit_valid s ns es valid.tree.0 po c news olds (connectors body) n sp below;
      tree = commit_tree s ns es valid.tree.0 po c news olds (connectors body) n sp below;
      to = fu.to;
      connectors_fused = fu.connectors;
      heads_fused = λ e i. fu.heads (old_port r e.0, e.1) (heap_in (old_port r) e (old_ports head) i);
      number = λ p. fu.to (raw_link news c p);
      named = commit_names s ns es valid.tree.0 po c news olds (connectors body) n sp below;
      solid = fired_are h (finished v) c r head body m fu.to name valid.tree.0 (λ k i. (
        atoms_then k,
        commit_rules s ns es valid.tree.0 po c news olds (connectors body) n sp below k ∙ same_rules h valid head body n m r no_rests rule.atoms em stand c names bro [] no_parts [] no_held k,
      ));
    }

-- The code of a body without membranes and contexts, run at an embedding of a head of atoms, fires the rule: the heap is
-- valid again, and its solid is the raw region with its links fused.
pub body_fires : BodyFires
body_fires head body n rule r h valid m em stand c names h' w =
    let p = prepared head body n rule r h w.0 w.1 in
    let q : DoesAll r (body_code head body n) (all_made h (made_of r (length (head_atoms head)) body)) h' = subst (λ z. DoesAll r (body_code head body n) z h') p.1 w.2 in
    subst (λ z. FiresOnHeap h c valid.tree.0 r head body m z) (sym (committed head body n rule r (all_made h (made_of r (length (head_atoms head)) body)) h' q))
    (fires head body n rule r h valid m em stand c names p.0)

-- With membranes

-- what stood before has the same partner
-- what stood before has the same partner when a body is prepared
pub prepared_links : (d : Port → ℕ) (h : Heap) (s : Heap) (r : Registers) (qs : RestCopies) (a m : ℕ) (body : List BodyItem) → AllPrepared d h s r qs a m body → (p : Port) → IsAtom h p.0 → partners s p ≡ partners h p
prepared_links d h s r qs a m body pr p is =
    ap (λ (f : ℕ → Option HeapAtom). prelude.slice_index_or (partners_of (f p.0)) p.1 None) pr.atoms.atoms ∙ ap (λ (o : Option HeapAtom). prelude.slice_index_or (partners_of o) p.1 None) (brought_old pr.free.brings p.0 is).1

-- what prepares: everything that the code makes, with colours
pub record Prepared (c : Port → ℕ) (h s : Heap) (r : Registers) (a m : ℕ) (body : List BodyItem) : Type 0 where
  pub qs : RestCopies
  pub d : Port → ℕ
  pub names : Names h d
  pub colour : (p : Port) → IsAtom h p.0 → d p ≡ c p + c p
  pub pr : AllPrepared d h s r qs a m body
  pub listed : Listed s

-- what is dropped makes nothing
drops_prepare : (r : Registers) (k : ℕ) (bs : List HeadMembrane) (rest : List Instr) (s t : Heap) → Prepares r (drops k bs ++ rest) s t → Prepares r rest s t
drops_prepare r k [] rest s t w = w
drops_prepare r k (b ∷ bs) rest s t w = drops_prepare r (k + 1) bs rest s t (one b.has_closed_context w)
  where
    one : (closed : Bool) → Prepares r ((cond closed (DropCells k ∷ []) [] ++ drops (k + 1) bs) ++ rest) s t → Prepares r (drops (k + 1) bs ++ rest) s t
    one true w = subst (λ z. Prepares r (drops (k + 1) bs ++ rest) z t) w.1 w.2
    one false w = w

-- a body that is prepared makes all of that
pub prepared_all : (head : List HeadItem) (body : List BodyItem) (n : ℕ) → AtomRule head body n → (r : Registers) (h : Heap) → Valid h → (m : ℕ) → Lies h head m r.head.images → (c : Port → ℕ) → Names h c →
    ((of : ℕ) → IsOneOf of (closed_rests body) → IsClosed h (r.left_atoms of)) → (s : Heap) → Prepares r (body_code head body n) h s → Prepared c h s r (length (head_atoms head)) (1 + length (membranes_of head)) body
prepared_all head body n rule r h valid m em c names closed s prepares =
    let N = length (head_atoms head) in
    let K = length (membranes_of head) in
    let links_part = links_code (class_of (connectors body)) (new_ports N 0 body) (old_ports head) (rising 0 n) in
    let parts = map RemovePart (rising 0 (length (typed_contexts_of head))) in
    let mems = map RemoveMem (rising 1 K) in
    let make = making N (1 + K) 0 body in
    let dropped = drops 1 (membranes_of head) in
    let pa = prepares_append r (removals head) (make ++ (dropped ++ (links_part ++ (Proceed ∷ [])))) h s prepares in
    let pb = prepares_append r (map RemoveAtom (rising 0 N)) (parts ++ mems) h pa.0 pa.1 in
    let pc = prepares_append r parts mems pb.0 pa.0 pb.2 in
    let pd = prepares_append r make (dropped ++ (links_part ++ (Proceed ∷ []))) pa.0 s pa.2 in
    let pe = prepares_append r links_part (Proceed ∷ []) pd.0 s (drops_prepare r 1 (membranes_of head) (links_part ++ (Proceed ∷ [])) pd.0 s pd.2) in
    let first : pa.0 ≡ h = prepares_taken_mems r (rising 1 K) pc.0 pa.0 pc.2 ∙ no_part_prepares r (rising 0 (length (typed_contexts_of head))) pb.0 pc.0 pc.1 ∙ prepares_taken r (rising 0 N) h pb.0 pb.1 in
    let last : s ≡ pd.0 = pe.2.2 ∙ pe.2.1 ∙ prepares_tied r (class_of (connectors body)) (new_ports N 0 body) (old_ports head) (rising 0 n) pd.0 pe.0 pe.1 in
    let from_h : Prepares r make h s = subst (λ z. Prepares r make h z) (sym last) (subst (λ z. Prepares r make z pd.0) first pd.1) in
    let whole : (e : ℕ × ℕ) → IsOneOf e (copies_of 0 body) → Whole h (r.head.images.part e.1) = λ e i. let t = rule.copied e i in part_whole h valid head body n m r rule em e.1 t.0 t.1 in
    let made = making_prepares r N (1 + K) 0 body h valid.sound.paired valid.sound.shaped whole closed h s (λ a i. refl) valid.sound.paired valid.sound.shaped from_h in
    with_colours c h s r made.0 N (1 + K) body valid names made.1
    (prepares_listed r N (1 + K) 0 body h s valid.sound.listed from_h)
  where
    with_colours : (c : Port → ℕ) (h s : Heap) (r : Registers) (qs : RestCopies) (a m : ℕ) (body : List BodyItem) → Valid h → Names h c → MakesAll h h s r qs a m 0 body → Listed s → Prepared c h s r a m body
    with_colours c h s r qs a m body valid names all listed =
        let new = new_atoms r qs a 0 body in
        let t : Heap = record h { atoms = s.atoms; new_atoms = s.new_atoms } in
        let b : Brings h t new = brings_on h s t new refl refl all.brings in
        let paired = b.paired valid.sound.paired in
        record {
          qs = qs;
          d = beside c t new;
          names = names_beside h t new b valid.sound.paired paired c names;
          colour = old_colour h t new b valid.sound.paired paired c names;
          listed = listed;
          pr = record {
            free = record {
              heap = t;
              sound = record { paired = paired; listed = brings_listed h t new b refl refl refl valid.sound.listed; shaped = b.shaped valid.sound.shaped };
              brings = b;
              written = all.written;
              copies = λ e i. has_copy_on h (r.head.images.part e.1) (r.copy e.0) (r.copied e.0) (brings_on s s t [] refl refl (brings_none s)) (all.copies e i);
              long = all.long;
              rests = have_rests_on h r qs body (brings_on s s t [] refl refl (brings_none s)) all.rests;
              mems = refl;
              new_mems = refl;
              root = refl;
              same = same_beside h t new b valid.sound.paired paired c names;
              only = only_beside h t new b valid.sound.paired paired c names;
              apart = apart_beside h t new b valid.sound.paired paired c names;
            };
            atoms = record { atoms = refl; line = refl };
            mems = all.mems;
            room = all.room;
          };
        }

-- the code of a body that is run at an embedding fires the rule
pub body_fires_within : BodyFiresWithin
body_fires_within head body n nested r h valid m em rests stand c names h' (s, prepares, commits) =
    let rule = nested.atoms in
    let head_nests = nested.head_nests in
    let dropped = drops 1 (membranes_of head) in
    let N = length (head_atoms head) in
    let K = length (membranes_of head) in
    let links_part = links_code (class_of (connectors body)) (new_ports N 0 body) (old_ports head) (rising 0 n) in
    let parts = map RemovePart (rising 0 (length (typed_contexts_of head))) in
    let mems = map RemoveMem (rising 1 K) in
    let make = making N (1 + K) 0 body in
    let all = prepared_all head body n rule r h valid m em c names (rests_closed h valid head body n m r nested em rests c names) s prepares in
    let qs = all.qs in
    let d = all.d in
    let pr = all.pr in
    let contexts : (k : ℕ) (b : HeadMembrane) → HasMembrane head k b → b.has_context ≡ true → b.has_closed_context ≡ false → In (r.head.images.membrane k) (moved_mems r body) = λ k b w e o. moved_are r body k (nested.contexts k b w e o) in
    let ca = commits_append r (removals head) (make ++ (dropped ++ (links_part ++ (Proceed ∷ [])))) s h' commits in
    let cb = commits_append r (map RemoveAtom (rising 0 N)) (parts ++ mems) s ca.0 ca.1 in
    let cd = commits_append r parts mems cb.0 ca.0 cb.2 in
    let ce = commits_append r make (dropped ++ (links_part ++ (Proceed ∷ []))) ca.0 h' ca.2 in
    let cg = commits_append r dropped (links_part ++ (Proceed ∷ [])) ce.0 h' ce.2 in
    let cf = commits_append r links_part (Proceed ∷ []) cg.0 h' cg.2 in
    let images : cb.0 ≡ taken_all s (images_of r head) = commits_taken r (rising 0 N) s cb.0 cb.1 in
    let taken_parts = parts_commit h valid head body n m r rule em (rising 0 (length (typed_contexts_of head))) (rising_distinct (length (typed_contexts_of head)) 0)
    (λ g i. get_some (typed_contexts_of head) g (below_plain g (length (typed_contexts_of head)) (rising_below (length (typed_contexts_of head)) 0 g i).1)) cb.0 cd.0
    (λ p is. ap (λ z. partners z p) images ∙ taken_links (images_of r head) s p.0 p.1 ∙ prepared_links d h s r qs N (1 + K) body pr p is) cd.1 in
    let ps = taken_parts.0 in
    let parts_are : PartAtoms h head r.head.images ps = record {
      once = taken_parts.1.once;
      are = λ a i. let u = taken_parts.1.are a i in
          let t = get_some (typed_contexts_of head) u.0 (below_plain u.0 (length (typed_contexts_of head)) (rising_below (length (typed_contexts_of head)) 0 u.0 u.1).1) in (u.0, t.0, t.1, u.2);
      all = λ g t a w i. taken_parts.1.all g a (in_rising (length (typed_contexts_of head)) 0 g (nothing_less g) (plain_below g (length (typed_contexts_of head)) (get_below (typed_contexts_of head) g t w))) i;
    } in
    let out : cd.0 ≡ taken_all s (images_of r head ++ ps) = taken_parts.1.is ∙ ap (λ z. taken_all z ps) images ∙ sym (taken_append s (images_of r head) ps) in
    let removed : ca.0 ≡ all_taken_mems (taken_all s (images_of r head ++ ps)) (membrane_images r head) =
    commits_taken_mems r (rising 1 K) cd.0 ca.0 cd.2 ∙ ap (λ z. all_taken_mems z (membrane_images r head)) out in
    let run : DoesAll r make (all_taken_mems (taken_all s (images_of r head ++ ps)) (membrane_images r head)) ce.0 = subst (λ z. DoesAll r make z ce.0) removed ce.1 in
    let ties : cf.0 ≡ all_tied cg.0 (body_ties (at_heap (new_port r) (new_ports N 0 body)) (at_heap (old_port r) (old_ports head)) (connectors body) n) =
    commits_tied r (class_of (connectors body)) (new_ports N 0 body) (old_ports head) (rising 0 n) cg.0 cf.0 cf.1 in
    let v = all_tied cg.0 (body_ties (at_heap (new_port r) (new_ports N 0 body)) (at_heap (old_port r) (old_ports head)) (connectors body) n) in
    let done : h' ≡ finished v = cf.2.2 ∙ cf.2.1 ∙ ap finished ties in
    let listed = all.listed in
    let hs = held h valid head body n m r nested em stand rests ps parts_are c names in
    let goes = goes_body h valid head m r qs em stand head_nests body pr.mems.fresh (dropped_mems r head) (λ x i. hs.removed_mem x (in_right x (membrane_images r head) (dropped_mems r head) i))
    (λ x i. hs.removed_later x (in_right x (membrane_images r head) (dropped_mems r head) i)) (λ of i x j. rest_dropped h valid head body n m r nested em stand rests ps parts_are c names of i x j)
    (λ of k i j l. open_from_rest h valid head body n m r nested em stand rests ps parts_are c names of k i j l) nested.placed in
    let nests = nests_body h valid head m r qs em stand head_nests body pr.mems.fresh (dropped_mems r head) (λ x i. hs.removed_mem x (in_right x (membrane_images r head) (dropped_mems r head) i))
    (λ x i. hs.removed_later x (in_right x (membrane_images r head) (dropped_mems r head) i)) (λ of i x j. rest_dropped h valid head body n m r nested em stand rests ps parts_are c names of i x j)
    (λ of k i j l. open_from_rest h valid head body n m r nested em stand rests ps parts_are c names of k i j l) nested.placed in
    let sound = sound_before h valid head body n m r qs rule em stand d all.names goes contexts ps parts_are hs s pr nests listed ce.0 run cg.0 cg.1 in (
      ps,
      parts_are,
      subst Valid (sym done) (valid_after h valid head body n m r qs rule em stand d all.names goes contexts ps parts_are hs s pr nests listed head_nests ce.0 run cg.0 cg.1 sound),
      subst (λ z. FiresWithin h c r head body (images_of r head ++ ps) z) (sym done) (fires_by h (finished v) c d r head body (images_of r head ++ ps) all.colour
          (λ e i. is_atom_at h (old_port r e.0).0 (old_port r e.0).1 (old_port_stands h valid head body n m r qs rule em stand d all.names pr.free ps parts_are (dropped_atoms r head) hs.rests (old_port r e.0) (in_map (λ (q : Port × ℕ). q.0) (old_port r e.0, e.1) (at_heap (old_port r) (old_ports head)) (heap_in (old_port r) e (old_ports head) i))).1)
          (fires_within h valid head body n m r qs rule em stand d all.names goes contexts ps parts_are hs s pr nests listed ce.0 run cg.0 cg.1 sound)),
    )

rising_once : (n a : ℕ) → heap.Distinct (rising a n)
rising_once n a = subst heap.Distinct (same (rising a n)) (distinct_images (λ x. x) n a (λ x y k h l g e. e))
  where
    same : (xs : List ℕ) → map (λ (x : ℕ). x) xs ≡ xs
    same [] = refl
    same (x ∷ xs) = ap (λ ys. x ∷ ys) (same xs)

module _ (head : List HeadItem) (body : List BodyItem) (n : ℕ) (rule : AtomRule head body n) (r : Registers) (h : Heap) (valid : Valid h) (m : ℕ) (em : Lies h head m r.head.images)
    (s : Heap) (d : Port → ℕ) (qs : RestCopies) (pr : AllPrepared d h s r qs (length (head_atoms head)) (1 + length (membranes_of head)) body) where
  abbrev N2 : ℕ
  N2 = length (head_atoms head)

  abbrev K2 : ℕ
  K2 = length (membranes_of head)

  abbrev T2 : ℕ
  T2 = length (typed_contexts_of head)

  typed_at : (g : ℕ) → IsOneOf g (rising 0 T2) → (t : HeadTyped) × HasTyped head g t
  typed_at g i = get_some (typed_contexts_of head) g (below_plain g T2 (rising_below T2 0 g i).1)

  -- what stood before stands when all is made
  prepared_stands : (a : ℕ) → IsInPlace h a → IsInPlace s a
  prepared_stands a i =
      let same = (brought_old pr.free.brings a (is_atom (h.atoms a) i)).1 in
      subst (λ (o : Option HeapAtom). IsSome (option_and_then (λ x. heap.home_by x.place) o)) (sym (ap (λ (f : ℕ → Option HeapAtom). f a) pr.atoms.atoms ∙ same)) i
    where
      is_atom : (o : Option HeapAtom) → IsSome (option_and_then (λ x. heap.home_by x.place) o) → IsSome o
      is_atom None i = absurd (cc)
      is_atom (Some x) i = refl

  image_of : (a : ℕ) → In a (images_of r head) → (k : ℕ) × (k < N2) × (r.head.images.atom k ≡ a)
  image_of a i = let w = of_map r.head.images.atom a (rising 0 N2) (heap_in_of a (images_of r head) i) in (w.0, below_plain w.0 N2 (rising_below N2 0 w.0 w.1).1, w.2)

  same_links : (t : Heap) → t ≡ taken_all s (images_of r head) → (p : Port) → IsAtom h p.0 → partners t p ≡ partners h p
  same_links t e p is = ap (λ z. partners z p) e ∙ taken_links (images_of r head) s p.0 p.1 ∙ prepared_links d h s r qs N2 (1 + K2) body pr p is

  head_atoms_can : CanRun r (map RemoveAtom (rising 0 N2)) s
  head_atoms_can = atoms_can r (rising 0 N2) s
      (distinct_images r.head.images.atom N2 0 (λ x y k l p q e. em.atoms_differ x y (below_plain x N2 l) (below_plain y N2 q) e))
      (λ k i. let b = below_plain k N2 (rising_below N2 0 k (heap_in_of k (rising 0 N2) i)).1 in
      let a = get_some (head_atoms head) k b in
      prepared_stands (r.head.images.atom k) (in_place_listed h (r.head.images.membrane a.0.inside) (r.head.images.atom k) valid.sound.listed (em.atoms_placed k a.0 a.1)))

  head_parts_can : (t : Heap) → t ≡ taken_all s (images_of r head) → CanRun r (map RemovePart (rising 0 T2)) t
  head_parts_can t e = parts_can r h (rising 0 T2) (rising_once T2 0) t valid.sound.paired
      (λ g i. let x = typed_at g (heap_in_of g (rising 0 T2) i) in part_there h valid head body n m r rule em g x.0 x.1) (same_links t e)
      (λ g k a i j d p q. let x = typed_at g (heap_in_of g (rising 0 T2) i) in let y = typed_at k (heap_in_of k (rising 0 T2) j) in
      parts_apart h valid head body n m r rule em g k x.0 y.0 x.1 y.1 d a p q)
      (λ g a i p. let x = typed_at g (heap_in_of g (rising 0 T2) i) in
      subst (λ z. IsInPlace z a) (sym e) (all_stay_in_place (images_of r head) s a
      (λ j. (em.parts g x.0 x.1).apart a p (image_of a j))
      (prepared_stands a (subst (λ (o : Option ℕ). IsSome o) (sym ((em.parts g x.0 x.1).whole.at_home a p)) refl))))

  -- the parts that are taken
  parts_taken : (t u : Heap) → t ≡ taken_all s (images_of r head) → DoesAll r (map RemovePart (rising 0 T2)) t u → (ps : List ℕ) × PartAtoms h head r.head.images ps × (u ≡ taken_all s (images_of r head ++ ps))
  parts_taken t u e w =
      let v = parts_commit h valid head body n m r rule em (rising 0 T2) (rising_distinct T2 0) typed_at t u (same_links t e) w in (
        v.0,
        record {
          once = v.1.once;
          are = λ a i. let q = v.1.are a i in let x = typed_at q.0 q.1 in (q.0, x.0, x.1, q.2);
          all = λ g x a y i. v.1.all g a (in_rising T2 0 g (nothing_less g) (plain_below g T2 (get_below (typed_contexts_of head) g x y))) i;
        },
        v.1.is ∙ ap (λ z. taken_all z v.0) e ∙ sym (taken_append s (images_of r head) v.0),
      )

  -- all removals
  removals_commit : (t : Heap) → DoesAll r (removals head) s t → (ps : List ℕ) × PartAtoms h head r.head.images ps × (t ≡ all_taken_mems (taken_all s (images_of r head ++ ps)) (membrane_images r head))
  removals_commit t w =
      let a = commits_append r (map RemoveAtom (rising 0 N2)) (map RemovePart (rising 0 T2) ++ map RemoveMem (rising 1 K2)) s t w in
      let b = commits_append r (map RemovePart (rising 0 T2)) (map RemoveMem (rising 1 K2)) a.0 t a.2 in
      let p = parts_taken a.0 b.0 (commits_taken r (rising 0 N2) s a.0 a.1) b.1 in
      (p.0, p.1, commits_taken_mems r (rising 1 K2) b.0 t b.2 ∙ ap (λ z. all_taken_mems z (membrane_images r head)) p.2)

-- rule contexts and contexts that move are of membranes of the head
contexts_in : (r : Registers) (head : List HeadItem) (m : ℕ) (body : List BodyItem) → WellPlaced (length (membranes_of head)) m body → (x : ℕ) → In x (context_mems r body) → In x (membrane_images r head)
contexts_in r head m [] w x i = absurd i
contexts_in r head m (Atom functor links inside ∷ xs) w x i = contexts_in r head m xs w.1 x i
contexts_in r head m (Connector left right ∷ xs) w x i = contexts_in r head m xs w x i
contexts_in r head m (Copy part link inside ∷ xs) w x i = contexts_in r head m xs w.1 x i
contexts_in r head m (Bound integer link inside ∷ xs) w x i = contexts_in r head m xs w.1 x i
contexts_in r head m (Membrane inside ∷ xs) w x i = contexts_in r head (m + 1) xs w.1 x i
contexts_in r head m (Rest of false inside ∷ xs) w x (inl e) = subst (λ z. In z (membrane_images r head)) (ap r.head.images.membrane (sym w.0.1) ∙ e) (is_removed head r w.0.0 w.0.2)
contexts_in r head m (Rest of false inside ∷ xs) w x (inr i) = contexts_in r head m xs w.3 x i
contexts_in r head m (Rest of true inside ∷ xs) w x i = contexts_in r head m xs w.2 x i
contexts_in r head m (Rule rule inside ∷ xs) w x i = contexts_in r head m xs w.1 x i
contexts_in r head m (Rules of inside ∷ xs) w x (inl e) = subst (λ z. In z (membrane_images r head)) (ap r.head.images.membrane (sym w.0.1) ∙ e) (is_removed head r w.0.0 w.0.2)
contexts_in r head m (Rules of inside ∷ xs) w x (inr i) = contexts_in r head m xs w.2 x i

-- each instruction of a body that is prepared can run in its turn
pub body_can_run : BodyCanRun
body_can_run head body n nested r h valid m em rests stand c names s prepares spares =
    let rule = nested.atoms in
    let head_nests = nested.head_nests in
    let N = length (head_atoms head) in
    let K = length (membranes_of head) in
    let T = length (typed_contexts_of head) in
    let dropped = drops 1 (membranes_of head) in
    let links_part = links_code (class_of (connectors body)) (new_ports N 0 body) (old_ports head) (rising 0 n) in
    let parts = map RemovePart (rising 0 T) in
    let mems = map RemoveMem (rising 1 K) in
    let make = making N (1 + K) 0 body in
    let all = prepared_all head body n rule r h valid m em c names (rests_closed h valid head body n m r nested em rests c names) s prepares in
    let qs = all.qs in
    let d = all.d in
    let pr = all.pr in
    let listed = all.listed in
    let contexts : (k : ℕ) (b : HeadMembrane) → HasMembrane head k b → b.has_context ≡ true → b.has_closed_context ≡ false → In (r.head.images.membrane k) (moved_mems r body) = λ k b w e o. moved_are r body k (nested.contexts k b w e o) in
    let in_head = contexts_in r head (1 + K) body nested.placed in
    let held_by = λ (ps : List ℕ) (parts_are : PartAtoms h head r.head.images ps). held h valid head body n m r nested em stand rests ps parts_are c names in
    let goes_by : (ps : List ℕ) (parts_are : PartAtoms h head r.head.images ps) → Goes r (removed_mems r head) (Exists h r qs head body) body = λ ps parts_are. let hs = held_by ps parts_are in
    goes_body h valid head m r qs em stand head_nests body pr.mems.fresh (dropped_mems r head) (λ x i. hs.removed_mem x (in_right x (membrane_images r head) (dropped_mems r head) i))
    (λ x i. hs.removed_later x (in_right x (membrane_images r head) (dropped_mems r head) i)) (λ of i x j. rest_dropped h valid head body n m r nested em stand rests ps parts_are c names of i x j)
    (λ of k i j l. open_from_rest h valid head body n m r nested em stand rests ps parts_are c names of k i j l) nested.placed in
    let nests_by : (ps : List ℕ) (parts_are : PartAtoms h head r.head.images ps) → Nests r m [] (1 + K) body = λ ps parts_are. let hs = held_by ps parts_are in
    nests_body h valid head m r qs em stand head_nests body pr.mems.fresh (dropped_mems r head) (λ x i. hs.removed_mem x (in_right x (membrane_images r head) (dropped_mems r head) i))
    (λ x i. hs.removed_later x (in_right x (membrane_images r head) (dropped_mems r head) i)) (λ of i x j. rest_dropped h valid head body n m r nested em stand rests ps parts_are c names of i x j)
    (λ of k i j l. open_from_rest h valid head body n m r nested em stand rests ps parts_are c names of k i j l) nested.placed in
    can_append r (removals head) (make ++ (dropped ++ (links_part ++ (Proceed ∷ [])))) s
    (can_append r (map RemoveAtom (rising 0 N)) (parts ++ mems) s (head_atoms_can head body n rule r h valid m em s d qs pr)
    (λ ta wa.
    let ea = commits_taken r (rising 0 N) s ta wa in
    can_append r parts mems ta (head_parts_can head body n rule r h valid m em s d qs pr ta ea) (λ tp wp.
    let p = parts_taken head body n rule r h valid m em s d qs pr ta tp ea wp in
    let goes = goes_by p.0 p.1 in
    let nests = nests_by p.0 p.1 in
    let hs = held_by p.0 p.1 in
    mems_can r (rising 1 K) tp (ks_once h valid head body n m r qs rule em stand d all.names goes contexts p.0 p.1 hs s pr nests listed)
    (λ k i. let u = once_t1 h valid head body n m r qs rule em stand d all.names goes contexts p.0 p.1 hs s pr nests listed (r.head.images.membrane k) (mapped r.head.images.membrane k (rising 1 K) i) in
    (u.0, ap (λ z. heap.parent_of z (r.head.images.membrane k)) p.2 ∙ u.1)))))
    (λ tb wb.
    let p = removals_commit head body n rule r h valid m em s d qs pr tb wb in
    let goes = goes_by p.0 p.1 in
    let nests = nests_by p.0 p.1 in
    let hs = held_by p.0 p.1 in
    let t2 = all_taken_mems (taken_all s (images_of r head ++ p.0)) (membrane_images r head) in
    can_append r make (dropped ++ (links_part ++ (Proceed ∷ []))) tb
    (subst (CanRun r make) (sym p.2) (making_part_can h valid head body n m r qs rule em stand d all.names goes contexts p.0 p.1 hs s pr nests listed head_nests in_head spares))
    (λ tc wc.
    let run : DoesAll r make t2 tc = subst (λ z. DoesAll r make z tc) p.2 wc in
    can_append r dropped (links_part ++ (Proceed ∷ [])) tc
    (drops_part_can h valid head body n m r qs rule em stand d all.names goes contexts p.0 p.1 hs s pr nests listed head_nests in_head spares tc run)
    (λ tx wx.
    can_append r links_part (Proceed ∷ []) tx
    (links_part_can h valid head body n m r qs rule em stand d all.names goes contexts p.0 p.1 hs s pr nests listed head_nests in_head spares tc run tx wx)
    (λ td wd.
    let e = commits_tied r (class_of (connectors body)) (new_ports N 0 body) (old_ports head) (rising 0 n) tx td wd in
    let sound = sound_before h valid head body n m r qs rule em stand d all.names goes contexts p.0 p.1 hs s pr nests listed tc run tx wx in
    (subst Ready (sym e) (ready_v h valid head body n m r qs rule em stand d all.names goes contexts p.0 p.1 hs s pr nests listed tc run tx wx sound), λ t w. tt)))))

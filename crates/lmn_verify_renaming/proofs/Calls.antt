-- What each call makes of a renamed heap.
use Rattle.std.proofs.Common.{◌≡◌, ◌∙◌, ◌==◌, ℕ, zero, suc, Bool, true, false, if◌then◌else◌, [], ◌∷◌, ◌++◌, Option, Some, None, map, refl, sym, ap}
use Rattle.std.specs.Prelude.{replicate}
use Rattle.std.specs.Option.{option_and_then, option_map}
use Rattle.std.proofs.lemmas.List.{map-append, map-set}
use Rattle.lmn_base.specs.declared.functor.Functor.{Functor}
use Rattle.lmn_store_heap.specs.Heap.{Heap, HeapAtom, HeapMem, Place, alter, atom_out, atom_sent, atoms_in, cleared, discarded, emptied, filled, finished, gone, home_of, joined, link_of, linked, made_atom, made_mem, marked, mem_marked, mem_out, mem_sent, mem_unless_gone, mem_unless_waiting, mem_with_atoms, mem_with_mark, mem_with_mems, mem_with_place, mem_with_rules, mem_with_spare, mems_in, moved_all, new_atom, new_mem, parent_of, placed, placed_mem, reserved, rule_added, rules_copied, rules_in, sent, taken, taken_mem, top, unless_gone, unless_waiting, waiting, with_link, with_mark, with_place, within, without}
use Rattle.lmn_verify_renaming.specs.Laws.{CallsAreRenamed, CallsRenamed}
use Rattle.lmn_verify_renaming.specs.Renamed.{Renaming, renamed, renamed_atom, renamed_mem, renamed_place, renamed_port}
use Rattle.lmn_verify_renaming.proofs.Numbers.{after_renamed, altered, kept_test, through, without_renamed}
use Rattle.lmn_verify_renaming.proofs.Reading.{atoms_there, home_there, link_there, mems_there, parent_there, rules_there}

module _ (r : Renaming) where
  abbrev A : ℕ → ℕ
  A = r.atoms.to

  abbrev M : ℕ → ℕ
  M = r.mems.to

  abbrev FA : HeapAtom → HeapAtom
  FA = renamed_atom A M

  abbrev FM : HeapMem → HeapMem
  FM = renamed_mem A M

  abbrev port : Option (ℕ × ℕ) → Option (ℕ × ℕ)
  port = option_map (renamed_port A)

  -- atoms, and membranes, of which one is changed
  atoms_altered : (atoms : ℕ → Option HeapAtom) (a : ℕ) (u v : HeapAtom → HeapAtom) → ((x : HeapAtom) → FA (u x) ≡ v (FA x))
      → ◌≡◌ {A = ℕ → Option HeapAtom} (alter (λ j. option_map FA (atoms (r.atoms.back j))) (A a) (option_map v)) (λ j. option_map FA (alter atoms a (option_map u) (r.atoms.back j)))
  atoms_altered atoms a u v same = altered r.atoms (option_map FA) atoms a (option_map u) (option_map v) (through FA u v same)

  mems_altered : (mems : ℕ → Option HeapMem) (m : ℕ) (u v : HeapMem → HeapMem) → ((x : HeapMem) → FM (u x) ≡ v (FM x))
      → ◌≡◌ {A = ℕ → Option HeapMem} (alter (λ j. option_map FM (mems (r.mems.back j))) (M m) (option_map v)) (λ j. option_map FM (alter mems m (option_map u) (r.mems.back j)))
  mems_altered mems m u v same = altered r.mems (option_map FM) mems m (option_map u) (option_map v) (through FM u v same)

  -- ---- what is made

  no_links : (n : ℕ) → map port (replicate n None) ≡ replicate n None
  no_links zero = refl
  no_links (suc n) = ap (λ ls. None ∷ ls) (no_links n)

  new_same : (f : Functor) → FA (new_atom f) ≡ new_atom f
  new_same f = λ i. record (new_atom f) { links = no_links f.arity i }

  module _ (s : Heap) where
    make_atom : (a : ℕ) (f : Functor) → made_atom (renamed r s) (A a) f ≡ renamed r (made_atom s a f)
    make_atom a f = λ i. record (renamed r s) {
      atoms = altered r.atoms (option_map FA) s.atoms a (λ o. Some (new_atom f)) (λ o. Some (new_atom f)) (λ o. ap (λ x. Some x) (new_same f)) i;
      new_atoms = sym (map-append A s.new_atoms (a ∷ [])) i;
    }

    make_mem : (m : ℕ) → made_mem (renamed r s) (M m) ≡ renamed r (made_mem s m)
    make_mem m = λ i. record (renamed r s) {
      mems = altered r.mems (option_map FM) s.mems m (λ o. Some new_mem) (λ o. Some new_mem) (λ o. refl) i;
      new_mems = sym (map-append M s.new_mems (m ∷ [])) i;
    }

    -- ---- marks, room and rules

    set_mark : (a slot v : ℕ) → marked (renamed r s) (A a) slot v ≡ renamed r (marked s a slot v)
    set_mark a slot v = λ i. record (renamed r s) { atoms = atoms_altered s.atoms a (with_mark slot v) (with_mark slot v) (λ x. refl) i }

    set_mem_mark : (m v : ℕ) → mem_marked (renamed r s) (M m) v ≡ renamed r (mem_marked s m v)
    set_mem_mark m v = λ i. record (renamed r s) { mems = mems_altered s.mems m (mem_with_mark v) (mem_with_mark v) (λ x. refl) i }

    reserve_rules : (m n : ℕ) → reserved (renamed r s) (M m) n ≡ renamed r (reserved s m n)
    reserve_rules m n = λ i. record (renamed r s) { mems = mems_altered s.mems m (mem_with_spare n) (mem_with_spare n) (λ x. refl) i }

    add_rule : (m k : ℕ) → rule_added (renamed r s) (M m) k ≡ renamed r (rule_added s m k)
    add_rule m k = λ i. record (renamed r s) { mems = mems_altered s.mems m (mem_with_rules (k ∷ [])) (mem_with_rules (k ∷ [])) (λ x. refl) i }

    copy_rules : (m n : ℕ) → rules_copied (renamed r s) (M m) (M n) ≡ renamed r (rules_copied s m n)
    copy_rules m n =
        ap (λ ks. record (renamed r s) { mems = alter (renamed r s).mems (M n) (option_map (mem_with_rules ks)) }) (rules_there r s m)
        ∙ (λ i. record (renamed r s) { mems = mems_altered s.mems n (mem_with_rules (rules_in s m)) (mem_with_rules (rules_in s m)) (λ x. refl) i })

    -- ---- placing and taking

    place_atom : (m a : ℕ) → placed (renamed r s) (M m) (A a) ≡ renamed r (placed s m a)
    place_atom m a = λ i. record {
      root = M s.root;
      atoms = atoms_altered s.atoms a (with_place (within m)) (with_place (within (M m))) (λ x. refl) i;
      mems = mems_altered s.mems m (mem_with_atoms (λ xs. xs ++ a ∷ [])) (mem_with_atoms (λ xs. xs ++ A a ∷ [])) (λ x j. record (FM x) { atoms = map-append A x.atoms (a ∷ []) j }) i;
      new_atoms = sym (after_renamed r.atoms a s.new_atoms) i;
      new_mems = map M s.new_mems;
    }

    place_mem : (m n : ℕ) → placed_mem (renamed r s) (M m) (M n) ≡ renamed r (placed_mem s m n)
    place_mem m n =
        let there = alter s.mems n (option_map (mem_with_place (within m))) in
        let first = mems_altered s.mems n (mem_with_place (within m)) (mem_with_place (within (M m))) (λ x. refl) in
        let second = mems_altered there m (mem_with_mems (λ xs. xs ++ n ∷ [])) (mem_with_mems (λ xs. xs ++ M n ∷ [])) (λ x j. record (FM x) { mems = map-append M x.mems (n ∷ []) j }) in
        let all = ap (λ f. alter f (M m) (option_map (mem_with_mems (λ xs. xs ++ M n ∷ [])))) first ∙ second in
        λ i. record (renamed r s) { mems = all i; new_mems = sym (after_renamed r.mems n s.new_mems) i }

    atom_out_of : (a : ℕ) (o : Option ℕ) → ◌≡◌ {A = ℕ → Option HeapMem} (atom_out (renamed r s).mems (option_map M o) (A a)) (λ j. option_map FM (atom_out s.mems o a (r.mems.back j)))
    atom_out_of a None = refl
    atom_out_of a (Some m) = mems_altered s.mems m (mem_with_atoms (without a)) (mem_with_atoms (without (A a))) (λ x j. record (FM x) { atoms = without_renamed r.atoms a x.atoms j })

    mem_out_of : (n : ℕ) (o : Option ℕ) → ◌≡◌ {A = ℕ → Option HeapMem} (mem_out (renamed r s).mems (option_map M o) (M n)) (λ j. option_map FM (mem_out s.mems o n (r.mems.back j)))
    mem_out_of n None = refl
    mem_out_of n (Some m) = mems_altered s.mems m (mem_with_mems (without n)) (mem_with_mems (without (M n))) (λ x j. record (FM x) { mems = without_renamed r.mems n x.mems j })

    take_atom : (a : ℕ) → taken (renamed r s) (A a) ≡ renamed r (taken s a)
    take_atom a =
        let out = ap (λ o. atom_out (renamed r s).mems o (A a)) (home_there r s a) ∙ atom_out_of a (home_of s a) in
        λ i. record (renamed r s) { atoms = atoms_altered s.atoms a (with_place gone) (with_place gone) (λ x. refl) i; mems = out i }

    take_mem : (n : ℕ) → taken_mem (renamed r s) (M n) ≡ renamed r (taken_mem s n)
    take_mem n =
        let out = ap (λ o. mem_out (renamed r s).mems o (M n)) (parent_there r s n) ∙ mem_out_of n (parent_of s n) in
        let all = ap (λ f. alter f (M n) (option_map (mem_with_place gone))) out ∙ mems_altered (mem_out s.mems (parent_of s n) n) n (mem_with_place gone) (mem_with_place gone) (λ x. refl) in
        λ i. record (renamed r s) { mems = all i }

    -- ---- moving

    sent_there : (m n : ℕ) (p : Place) → renamed_place M (sent m n p) ≡ sent (M m) (M n) (renamed_place M p)
    sent_there m n top = refl
    sent_there m n (within k) = by (k == m) ∙ ap (λ t. if t then within (M n) else within (M k)) (kept_test r.mems k m)
      where
        by : (t : Bool) → renamed_place M (if t then within n else within k) ≡ (if t then within (M n) else within (M k))
        by true = refl
        by false = refl
    sent_there m n waiting = refl
    sent_there m n gone = refl

    move_all : (m n : ℕ) → moved_all (renamed r s) (M m) (M n) ≡ renamed r (moved_all s m n)
    move_all m n =
        let xs = atoms_in s m in
        let ys = mems_in s m in
        let empty = alter s.mems m (option_map emptied) in
        let full = alter empty n (option_map (filled xs ys)) in
        let first = mems_altered s.mems m emptied emptied (λ x. refl) in
        let second = mems_altered empty n (filled xs ys) (filled (map A xs) (map M ys)) (λ x j. record (FM x) { atoms = map-append A x.atoms xs j; mems = map-append M x.mems ys j }) in
        let lists : ◌≡◌ {A = ℕ → Option HeapMem} (alter (alter (renamed r s).mems (M m) (option_map emptied)) (M n) (option_map (filled (atoms_in (renamed r s) (M m)) (mems_in (renamed r s) (M m)))))
        (alter (alter (renamed r s).mems (M m) (option_map emptied)) (M n) (option_map (filled (map A xs) (map M ys)))) =
        λ i. alter (alter (renamed r s).mems (M m) (option_map emptied)) (M n) (option_map (filled (atoms_there r s m i) (mems_there r s m i))) in
        let all = lists ∙ ap (λ f. alter f (M n) (option_map (filled (map A xs) (map M ys)))) first ∙ second in
        let mem_there = through FM (mem_sent m n) (mem_sent (M m) (M n)) (λ x j. record (FM x) { place = sent_there m n x.place j }) in
        let atom_there = through FA (atom_sent m n) (atom_sent (M m) (M n)) (λ x j. record (FA x) { place = sent_there m n x.place j }) in
        ap (λ f. record (renamed r s) { atoms = λ a. option_map (atom_sent (M m) (M n)) ((renamed r s).atoms a); mems = λ k. option_map (mem_sent (M m) (M n)) (f k) }) all
        ∙ (λ i. record (renamed r s) { atoms = λ a. sym (atom_there (s.atoms (r.atoms.back a))) i; mems = λ k. sym (mem_there (full (r.mems.back k))) i })

    -- ---- joining

    linked_there : (atoms : ℕ → Option HeapAtom) (a i : ℕ) (p : Option (ℕ × ℕ))
        → ◌≡◌ {A = ℕ → Option HeapAtom} (linked (λ j. option_map FA (atoms (r.atoms.back j))) (A a) i (port p)) (λ j. option_map FA (linked atoms a i p (r.atoms.back j)))
    linked_there atoms a i p = atoms_altered atoms a (with_link i p) (with_link i (port p)) (λ x j. record (FA x) { links = map-set port x.links i p j })

    cleared_there : (atoms : ℕ → Option HeapAtom) (p : Option (ℕ × ℕ))
        → ◌≡◌ {A = ℕ → Option HeapAtom} (cleared (λ j. option_map FA (atoms (r.atoms.back j))) (port p)) (λ j. option_map FA (cleared atoms p (r.atoms.back j)))
    cleared_there atoms None = refl
    cleared_there atoms (Some p) = linked_there atoms p.0 p.1 None

    join : (a i b j : ℕ) → joined (renamed r s) (A a) i (A b) j ≡ renamed r (joined s a i b j)
    join a i b j =
        let p = link_of s a i in
        let q = link_of s b j in
        let one = cleared s.atoms p in
        let two = cleared one q in
        let three = linked two a i (Some (b, j)) in
        let ends : ◌≡◌ {A = ℕ → Option HeapAtom} (cleared (cleared (renamed r s).atoms (link_of (renamed r s) (A a) i)) (link_of (renamed r s) (A b) j)) (cleared (cleared (renamed r s).atoms (port p)) (port q)) =
        λ k. cleared (cleared (renamed r s).atoms (link_there r s a i k)) (link_there r s b j k) in
        let clear = ends ∙ ap (λ f. cleared f (port q)) (cleared_there s.atoms p) ∙ cleared_there one q in
        let all = ap (λ f. linked (linked f (A a) i (Some (A b, j))) (A b) j (Some (A a, i))) clear
        ∙ ap (λ f. linked f (A b) j (Some (A a, i))) (linked_there two a i (Some (b, j))) ∙ linked_there three b j (Some (a, i)) in
        λ k. record (renamed r s) { atoms = all k }

    -- ---- freeing

    not_waiting : (x : HeapAtom) (p : Place) → elim (renamed_place M p) as (λ p. Option HeapAtom) [ top ↦ Some (FA x) | within m ↦ Some (FA x) | waiting ↦ None | gone ↦ Some (FA x) ]
        ≡ option_map FA (elim p as (λ p. Option HeapAtom) [ top ↦ Some x | within m ↦ Some x | waiting ↦ None | gone ↦ Some x ])
    not_waiting x top = refl
    not_waiting x (within m) = refl
    not_waiting x waiting = refl
    not_waiting x gone = refl

    not_gone : (x : HeapAtom) (p : Place) → elim (renamed_place M p) as (λ p. Option HeapAtom) [ top ↦ Some (FA x) | within m ↦ Some (FA x) | waiting ↦ Some (FA x) | gone ↦ None ]
        ≡ option_map FA (elim p as (λ p. Option HeapAtom) [ top ↦ Some x | within m ↦ Some x | waiting ↦ Some x | gone ↦ None ])
    not_gone x top = refl
    not_gone x (within m) = refl
    not_gone x waiting = refl
    not_gone x gone = refl

    mem_not_waiting : (x : HeapMem) (p : Place) → elim (renamed_place M p) as (λ p. Option HeapMem) [ top ↦ Some (FM x) | within m ↦ Some (FM x) | waiting ↦ None | gone ↦ Some (FM x) ]
        ≡ option_map FM (elim p as (λ p. Option HeapMem) [ top ↦ Some x | within m ↦ Some x | waiting ↦ None | gone ↦ Some x ])
    mem_not_waiting x top = refl
    mem_not_waiting x (within m) = refl
    mem_not_waiting x waiting = refl
    mem_not_waiting x gone = refl

    mem_not_gone : (x : HeapMem) (p : Place) → elim (renamed_place M p) as (λ p. Option HeapMem) [ top ↦ Some (FM x) | within m ↦ Some (FM x) | waiting ↦ Some (FM x) | gone ↦ None ]
        ≡ option_map FM (elim p as (λ p. Option HeapMem) [ top ↦ Some x | within m ↦ Some x | waiting ↦ Some x | gone ↦ None ])
    mem_not_gone x top = refl
    mem_not_gone x (within m) = refl
    mem_not_gone x waiting = refl
    mem_not_gone x gone = refl

    -- what is kept of a heap item by item
    all_kept : {X : Type 0} (F : X → X) (keep : X → Option X) → ((x : X) → keep (F x) ≡ option_map F (keep x)) → (o : Option X) → option_and_then keep (option_map F o) ≡ option_map F (option_and_then keep o)
    all_kept F keep same None = refl
    all_kept F keep same (Some x) = same x

    discard : discarded (renamed r s) ≡ renamed r (discarded s)
    discard = λ i. record {
      root = M s.root;
      atoms = λ a. all_kept FA unless_waiting (λ x. not_waiting x x.place) (s.atoms (r.atoms.back a)) i;
      mems = λ m. all_kept FM mem_unless_waiting (λ x. mem_not_waiting x x.place) (s.mems (r.mems.back m)) i;
      new_atoms = [];
      new_mems = [];
    }

    finish : finished (renamed r s) ≡ renamed r (finished s)
    finish = λ i. record (renamed r s) {
      atoms = λ a. all_kept FA unless_gone (λ x. not_gone x x.place) (s.atoms (r.atoms.back a)) i;
      mems = λ m. all_kept FM mem_unless_gone (λ x. mem_not_gone x x.place) (s.mems (r.mems.back m)) i;
    }

    all_calls : CallsRenamed r s
    all_calls = record {
      set_mark = set_mark;
      set_mem_mark = set_mem_mark;
      make_atom = make_atom;
      make_mem = make_mem;
      reserve_rules = reserve_rules;
      discard = discard;
      place_atom = place_atom;
      place_mem = place_mem;
      take_atom = take_atom;
      take_mem = take_mem;
      move_all = move_all;
      add_rule = add_rule;
      copy_rules = copy_rules;
      join = join;
      finish = finish;
    }

-- what each call makes of a renamed heap is what it makes of the heap, renamed
pub calls_are_renamed : CallsAreRenamed
calls_are_renamed r s = all_calls r s

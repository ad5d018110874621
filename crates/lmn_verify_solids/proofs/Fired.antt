-- Where a flat rule fires from heap to heap, its code is committed from graph to graph.
use Rattle.std.proofs.Common.{ℕ, suc, ◌≡◌, ◌≢◌, ◌∙◌, ◌<◌, ◌+◌, Bool, true, false, List, [], ◌∷◌, ◌++◌, Option, Some, None, IsSome, length, map, refl, sym, ap, subst, inl, inr, arith}
use Rattle.std.specs.Prelude.{if◌then◌else◌, slice_get}
use Rattle.std.specs.List.{AllByRecursion}
use Rattle.std.specs.Option.{option_and_then, option_map}
use Rattle.std.proofs.lemmas.Option.{same_Some}
use Rattle.lmn_base.specs.declared.functor.Functor.{Functor}
use Rattle.lmn_base.specs.Graphs.{Port}
use Rattle.lmn_base.specs.Lists.{In}
use Rattle.lmn_base.proofs.Lists.{in_either}
use Rattle.lmn_store_heap.specs.Heap.{Heap, HeapAtom, HeapMem, IsAtom, IsInPlace, arity_of, atoms_in, functor_of, home_by, link_of, mems_in, parent_of, partners_of, rules_in, top}
use Rattle.lmn_store_heap.specs.Lists.{Distinct, without_all}
use Rattle.lmn_store_heap.specs.Sound.{Valid}
use Rattle.lmn_store_heap.proofs.Common.{linked_atom}
use Rattle.lmn_store_heap.proofs.Heights.{mem_of_place}
use Rattle.lmn_store_heap.proofs.ListLemmas.{in_left, in_right}
use Rattle.lmn_store_heap.proofs.Replacing.{port_within}
use Rattle.lmn_ground_parts.specs.Walks.{FoundInside, Net, net as net_of}
use Rattle.lmn_congruence_splice.specs.Classes.{rising}
use Rattle.lmn_congruence_splice.specs.Splice.{IsOneOf, of_rule, of_solid}
use Rattle.lmn_solid_heads.specs.declared.items.HeadItem.{HeadItem}
use Rattle.lmn_solid_heads.specs.Heads.{HeadMembrane, atoms_of, membranes_of}
use Rattle.lmn_instr_code.specs.declared.instr.AtomPort.{AtomPort}
use Rattle.lmn_instr_code.specs.declared.instr.Code.{Code}
use Rattle.lmn_instr_code.specs.declared.instr.Instr.{Instr}
use Rattle.lmn_instr_code.specs.declared.instr.Instr.TheVariants.{RemoveAtom, RemovePart, RemoveMem, DropCells, NewLink, Relink, Unify, Proceed}
use Rattle.lmn_solid_bodies.specs.declared.items.BodyItem.{BodyItem}
use Rattle.lmn_solid_bodies.specs.declared.items.BodyItem.TheVariants.{Atom, Connector, Copy, Bound, Membrane, Rest, Rule, Rules}
use Rattle.lmn_solid_bodies.specs.Added as flat
use Rattle.lmn_solid_bodies.specs.Added.{if_inside}
use Rattle.lmn_solid_bodies.specs.Code.{making}
use Rattle.lmn_solid_bodies.specs.Fired.{images_of}
use Rattle.lmn_solid_bodies.specs.Items.{old_ports}
use Rattle.lmn_solid_bodies.specs.Made as made
use Rattle.lmn_solid_bodies.specs.Made.{copies_of, made_of}
use Rattle.lmn_solid_bodies.specs.Names.{Names}
use Rattle.lmn_solid_bodies.specs.RestCopies.{AreAsLong, AreRestsCopied, RestCopies, RestCopy, copied_atom, copied_into, copied_membrane, given, later, rest_membranes}
use Rattle.lmn_solid_bodies.specs.Running.{Registers, integer_functor, old_port}
use Rattle.lmn_solid_bodies.specs.Within.{FiresFlat, FiresWithin, IsCopyIn, dropped_mems, left_of_closed}
use Rattle.lmn_verify_solids.specs.Graphs.{Graph, IsPort, arity_by, net}
use Rattle.lmn_verify_solids.specs.Heaps.{graph_of}
use Rattle.lmn_verify_solids.specs.Firing.{AreCopied, EachRest, Fires, IsPartCopied, Makes, added_atoms, added_membranes, added_rules, dropped, found, new_atoms, new_membranes, removed}
use Rattle.lmn_verify_solids.specs.Flats.{IsBehind, IsFlatCode, IsRemoval}

-- ---- instructions that make nothing

-- What an instruction adds nothing to.
record Quiet (i : Instr) : Type 1 where
  atoms : (r : Registers) (left : ℕ → List ℕ) (q : RestCopies) (is : List Instr) (x : ℕ) → added_atoms r left q (i ∷ is) x ≡ added_atoms r left q is x
  membranes : (r : Registers) (left : ℕ → List ℕ) (q : RestCopies) (is : List Instr) (x : ℕ) → added_membranes r left q (i ∷ is) x ≡ added_membranes r left q is x
  rules : (r : Registers) (left : ℕ → List ℕ) (q : RestCopies) (is : List Instr) (x : ℕ) → added_rules r left q (i ∷ is) x ≡ added_rules r left q is x
  made : (r : Registers) (q : RestCopies) (is : List Instr) → new_atoms r q (i ∷ is) ≡ new_atoms r q is
  rooms : (r : Registers) (q : RestCopies) (is : List Instr) → new_membranes r q (i ∷ is) ≡ new_membranes r q is
  rests : (P : ℕ → RestCopy → Type 0) (q : RestCopies) (is : List Instr) → EachRest P q is → EachRest P q (i ∷ is)

removal_quiet : (i : Instr) → IsRemoval i → Quiet i
removal_quiet (RemoveAtom a) w = record { atoms = λ r l q is x. refl; membranes = λ r l q is x. refl; rules = λ r l q is x. refl; made = λ r q is. refl; rooms = λ r q is. refl; rests = λ P q is u. u }
removal_quiet (RemovePart a) w = record { atoms = λ r l q is x. refl; membranes = λ r l q is x. refl; rules = λ r l q is x. refl; made = λ r q is. refl; rooms = λ r q is. refl; rests = λ P q is u. u }
removal_quiet (RemoveMem a) w = record { atoms = λ r l q is x. refl; membranes = λ r l q is x. refl; rules = λ r l q is x. refl; made = λ r q is. refl; rooms = λ r q is. refl; rests = λ P q is u. u }
removal_quiet _ w = absurd w

behind_quiet : (head : List HeadItem) (body : List BodyItem) (i : Instr) → IsBehind head body i → Quiet i
behind_quiet head body (DropCells a) w = record { atoms = λ r l q is x. refl; membranes = λ r l q is x. refl; rules = λ r l q is x. refl; made = λ r q is. refl; rooms = λ r q is. refl; rests = λ P q is u. u }
behind_quiet head body (NewLink a b) w = record { atoms = λ r l q is x. refl; membranes = λ r l q is x. refl; rules = λ r l q is x. refl; made = λ r q is. refl; rooms = λ r q is. refl; rests = λ P q is u. u }
behind_quiet head body (Relink a b) w = record { atoms = λ r l q is x. refl; membranes = λ r l q is x. refl; rules = λ r l q is x. refl; made = λ r q is. refl; rooms = λ r q is. refl; rests = λ P q is u. u }
behind_quiet head body (Unify a b) w = record { atoms = λ r l q is x. refl; membranes = λ r l q is x. refl; rules = λ r l q is x. refl; made = λ r q is. refl; rooms = λ r q is. refl; rests = λ P q is u. u }
behind_quiet head body Proceed w = record { atoms = λ r l q is x. refl; membranes = λ r l q is x. refl; rules = λ r l q is x. refl; made = λ r q is. refl; rooms = λ r q is. refl; rests = λ P q is u. u }
behind_quiet head body _ w = absurd w

module _ (P : Instr → Type 0) (f : (i : Instr) → P i → Quiet i) where
  skip_atoms : (r : Registers) (left : ℕ → List ℕ) (q : RestCopies) (is ys : List Instr) (x : ℕ) → AllByRecursion P is → added_atoms r left q (is ++ ys) x ≡ added_atoms r left q ys x
  skip_atoms r left q [] ys x w = refl
  skip_atoms r left q (i ∷ is) ys x w = let u = f i w.0 in u.atoms r left q (is ++ ys) x ∙ skip_atoms r left q is ys x w.1

  skip_membranes : (r : Registers) (left : ℕ → List ℕ) (q : RestCopies) (is ys : List Instr) (x : ℕ) → AllByRecursion P is → added_membranes r left q (is ++ ys) x ≡ added_membranes r left q ys x
  skip_membranes r left q [] ys x w = refl
  skip_membranes r left q (i ∷ is) ys x w = let u = f i w.0 in u.membranes r left q (is ++ ys) x ∙ skip_membranes r left q is ys x w.1

  skip_rules : (r : Registers) (left : ℕ → List ℕ) (q : RestCopies) (is ys : List Instr) (x : ℕ) → AllByRecursion P is → added_rules r left q (is ++ ys) x ≡ added_rules r left q ys x
  skip_rules r left q [] ys x w = refl
  skip_rules r left q (i ∷ is) ys x w = let u = f i w.0 in u.rules r left q (is ++ ys) x ∙ skip_rules r left q is ys x w.1

  skip_made : (r : Registers) (q : RestCopies) (is ys : List Instr) → AllByRecursion P is → new_atoms r q (is ++ ys) ≡ new_atoms r q ys
  skip_made r q [] ys w = refl
  skip_made r q (i ∷ is) ys w = let u = f i w.0 in u.made r q (is ++ ys) ∙ skip_made r q is ys w.1

  skip_rooms : (r : Registers) (q : RestCopies) (is ys : List Instr) → AllByRecursion P is → new_membranes r q (is ++ ys) ≡ new_membranes r q ys
  skip_rooms r q [] ys w = refl
  skip_rooms r q (i ∷ is) ys w = let u = f i w.0 in u.rooms r q (is ++ ys) ∙ skip_rooms r q is ys w.1

  skip_rests : (R : ℕ → RestCopy → Type 0) (q : RestCopies) (is ys : List Instr) → AllByRecursion P is → EachRest R q ys → EachRest R q (is ++ ys)
  skip_rests R q [] ys w u = u
  skip_rests R q (i ∷ is) ys w u = let k = f i w.0 in k.rests R q (is ++ ys) (skip_rests R q is ys w.1 u)

-- ---- what a flat body makes

append_nothing : (xs : List Instr) → xs ++ [] ≡ xs
append_nothing [] = refl
append_nothing (x ∷ xs) = ap (λ ys. x ∷ ys) (append_nothing xs)

module _ (r : Registers) (bs : List Instr) where
  made_atoms : (left : ℕ → List ℕ) (x : ℕ) → ((q : RestCopies) → added_atoms r left q bs x ≡ []) → (q : RestCopies) (a m c : ℕ) (items : List BodyItem) →
      added_atoms r left q (making a m c items ++ bs) x ≡ flat.added_atoms r q left a c items x
  made_atoms left x none q a m c [] = none q
  made_atoms left x none q a m c (Atom f ls k ∷ xs) = ap (λ zs. if_inside r x k (r.head.images.atom a ∷ []) ++ zs) (made_atoms left x none q (a + 1) m c xs)
  made_atoms left x none q a m c (Connector l l' ∷ xs) = made_atoms left x none q a m c xs
  made_atoms left x none q a m c (Copy p l k ∷ xs) = ap (λ zs. if_inside r x k (r.copied c) ++ zs) (made_atoms left x none q a m (c + 1) xs)
  made_atoms left x none q a m c (Bound v l k ∷ xs) = ap (λ zs. if_inside r x k (r.head.images.atom a ∷ []) ++ zs) (made_atoms left x none q (a + 1) m c xs)
  made_atoms left x none q a m c (Membrane k ∷ xs) = made_atoms left x none q a (m + 1) c xs
  made_atoms left x none q a m c (Rest of false k ∷ xs) = ap (λ zs. if_inside r x k (left (r.head.images.membrane of)) ++ zs) (made_atoms left x none q a m c xs)
  made_atoms left x none q a m c (Rest of true k ∷ xs) =
      ap (λ zs. given (λ j. map (copied_atom r of (q 0)) (left j)) (copied_into r of k (q 0)) (rest_membranes r of) x ++ zs) (made_atoms left x none (later q) a m c xs)
  made_atoms left x none q a m c (Rule n k ∷ xs) = made_atoms left x none q a m c xs
  made_atoms left x none q a m c (Rules of k ∷ xs) = made_atoms left x none q a m c xs

  made_membranes : (left : ℕ → List ℕ) (x : ℕ) → ((q : RestCopies) → added_membranes r left q bs x ≡ []) → (q : RestCopies) (a m c : ℕ) (items : List BodyItem) →
      added_membranes r left q (making a m c items ++ bs) x ≡ flat.added_mems r q left m items x
  made_membranes left x none q a m c [] = none q
  made_membranes left x none q a m c (Atom f ls k ∷ xs) = made_membranes left x none q (a + 1) m c xs
  made_membranes left x none q a m c (Connector l l' ∷ xs) = made_membranes left x none q a m c xs
  made_membranes left x none q a m c (Copy p l k ∷ xs) = made_membranes left x none q a m (c + 1) xs
  made_membranes left x none q a m c (Bound v l k ∷ xs) = made_membranes left x none q (a + 1) m c xs
  made_membranes left x none q a m c (Membrane k ∷ xs) = ap (λ zs. if_inside r x k (r.head.images.membrane m ∷ []) ++ zs) (made_membranes left x none q a (m + 1) c xs)
  made_membranes left x none q a m c (Rest of false k ∷ xs) = ap (λ zs. if_inside r x k (left (r.head.images.membrane of)) ++ zs) (made_membranes left x none q a m c xs)
  made_membranes left x none q a m c (Rest of true k ∷ xs) =
      ap (λ zs. given (λ j. map (copied_membrane r of (q 0)) (left j)) (copied_into r of k (q 0)) (rest_membranes r of) x ++ zs) (made_membranes left x none (later q) a m c xs)
  made_membranes left x none q a m c (Rule n k ∷ xs) = made_membranes left x none q a m c xs
  made_membranes left x none q a m c (Rules of k ∷ xs) = made_membranes left x none q a m c xs

  made_rules : (rules : ℕ → List ℕ) (x : ℕ) → ((q : RestCopies) → added_rules r rules q bs x ≡ []) → (q : RestCopies) (a m c : ℕ) (items : List BodyItem) →
      added_rules r rules q (making a m c items ++ bs) x ≡ flat.added_rules r q rules items x
  made_rules rules x none q a m c [] = none q
  made_rules rules x none q a m c (Atom f ls k ∷ xs) = made_rules rules x none q (a + 1) m c xs
  made_rules rules x none q a m c (Connector l l' ∷ xs) = made_rules rules x none q a m c xs
  made_rules rules x none q a m c (Copy p l k ∷ xs) = made_rules rules x none q a m (c + 1) xs
  made_rules rules x none q a m c (Bound v l k ∷ xs) = made_rules rules x none q (a + 1) m c xs
  made_rules rules x none q a m c (Membrane k ∷ xs) = made_rules rules x none q a (m + 1) c xs
  made_rules rules x none q a m c (Rest of false k ∷ xs) = made_rules rules x none q a m c xs
  made_rules rules x none q a m c (Rest of true k ∷ xs) = ap (λ zs. given rules (copied_into r of k (q 0)) (r.left_membranes of) x ++ zs) (made_rules rules x none (later q) a m c xs)
  made_rules rules x none q a m c (Rule n k ∷ xs) = ap (λ zs. if_inside r x k (n ∷ []) ++ zs) (made_rules rules x none q a m c xs)
  made_rules rules x none q a m c (Rules of k ∷ xs) = ap (λ zs. if_inside r x k (rules (r.head.images.membrane of)) ++ zs) (made_rules rules x none q a m c xs)

  made_new : ((q : RestCopies) → new_atoms r q bs ≡ []) → (q : RestCopies) (a m c : ℕ) (items : List BodyItem) → new_atoms r q (making a m c items ++ bs) ≡ made.new_atoms r q a c items
  made_new none q a m c [] = none q
  made_new none q a m c (Atom f ls k ∷ xs) = ap (λ zs. r.head.images.atom a ∷ zs) (made_new none q (a + 1) m c xs)
  made_new none q a m c (Connector l l' ∷ xs) = made_new none q a m c xs
  made_new none q a m c (Copy p l k ∷ xs) = ap (λ zs. r.copied c ++ zs) (made_new none q a m (c + 1) xs)
  made_new none q a m c (Bound v l k ∷ xs) = ap (λ zs. r.head.images.atom a ∷ zs) (made_new none q (a + 1) m c xs)
  made_new none q a m c (Membrane k ∷ xs) = made_new none q a (m + 1) c xs
  made_new none q a m c (Rest of false k ∷ xs) = made_new none q a m c xs
  made_new none q a m c (Rest of true k ∷ xs) = ap (λ zs. (q 0).atoms ++ zs) (made_new none (later q) a m c xs)
  made_new none q a m c (Rule n k ∷ xs) = made_new none q a m c xs
  made_new none q a m c (Rules of k ∷ xs) = made_new none q a m c xs

  made_rooms : ((q : RestCopies) → new_membranes r q bs ≡ []) → (q : RestCopies) (a m c : ℕ) (items : List BodyItem) → new_membranes r q (making a m c items ++ bs) ≡ flat.made_mems r q m items
  made_rooms none q a m c [] = none q
  made_rooms none q a m c (Atom f ls k ∷ xs) = made_rooms none q (a + 1) m c xs
  made_rooms none q a m c (Connector l l' ∷ xs) = made_rooms none q a m c xs
  made_rooms none q a m c (Copy p l k ∷ xs) = made_rooms none q a m (c + 1) xs
  made_rooms none q a m c (Bound v l k ∷ xs) = made_rooms none q (a + 1) m c xs
  made_rooms none q a m c (Membrane k ∷ xs) = ap (λ zs. r.head.images.membrane m ∷ zs) (made_rooms none q a (m + 1) c xs)
  made_rooms none q a m c (Rest of false k ∷ xs) = made_rooms none q a m c xs
  made_rooms none q a m c (Rest of true k ∷ xs) = ap (λ zs. (q 0).membranes ++ zs) (made_rooms none (later q) a m c xs)
  made_rooms none q a m c (Rule n k ∷ xs) = made_rooms none q a m c xs
  made_rooms none q a m c (Rules of k ∷ xs) = made_rooms none q a m c xs

-- What a code adds is what its flat body adds.
module _ (head : List HeadItem) (body : List BodyItem) (code : Code) (is : IsFlatCode head body code) (r : Registers) where
  module _ (left : ℕ → List ℕ) (x : ℕ) where
    no_atoms : (q : RestCopies) → added_atoms r left q is.behind x ≡ []
    no_atoms q = ap (λ ys. added_atoms r left q ys x) (sym (append_nothing is.behind)) ∙ skip_atoms (IsBehind head body) (behind_quiet head body) r left q is.behind [] x is.ends

    -- what it adds to the lists of atoms of membranes
    pub atom_list : (q : RestCopies) → added_atoms r left q code.body x ≡ flat.added_atoms r q left (length (atoms_of head)) 0 body x
    atom_list q = ap (λ ys. added_atoms r left q ys x) is.whole ∙ skip_atoms IsRemoval removal_quiet r left q is.taking (making (length (atoms_of head)) (1 + length (membranes_of head)) 0 body ++ is.behind) x is.takes
        ∙ made_atoms r is.behind left x no_atoms q (length (atoms_of head)) (1 + length (membranes_of head)) 0 body

    no_membranes : (q : RestCopies) → added_membranes r left q is.behind x ≡ []
    no_membranes q = ap (λ ys. added_membranes r left q ys x) (sym (append_nothing is.behind)) ∙ skip_membranes (IsBehind head body) (behind_quiet head body) r left q is.behind [] x is.ends

    -- to their lists of membranes
    pub mem_list : (q : RestCopies) → added_membranes r left q code.body x ≡ flat.added_mems r q left (1 + length (membranes_of head)) body x
    mem_list q = ap (λ ys. added_membranes r left q ys x) is.whole ∙ skip_membranes IsRemoval removal_quiet r left q is.taking (making (length (atoms_of head)) (1 + length (membranes_of head)) 0 body ++ is.behind) x is.takes
        ∙ made_membranes r is.behind left x no_membranes q (length (atoms_of head)) (1 + length (membranes_of head)) 0 body

    no_rules : (q : RestCopies) → added_rules r left q is.behind x ≡ []
    no_rules q = ap (λ ys. added_rules r left q ys x) (sym (append_nothing is.behind)) ∙ skip_rules (IsBehind head body) (behind_quiet head body) r left q is.behind [] x is.ends

    -- and to their rules
    pub rule_list : (q : RestCopies) → added_rules r left q code.body x ≡ flat.added_rules r q left body x
    rule_list q = ap (λ ys. added_rules r left q ys x) is.whole ∙ skip_rules IsRemoval removal_quiet r left q is.taking (making (length (atoms_of head)) (1 + length (membranes_of head)) 0 body ++ is.behind) x is.takes
        ∙ made_rules r is.behind left x no_rules q (length (atoms_of head)) (1 + length (membranes_of head)) 0 body

  no_new : (q : RestCopies) → new_atoms r q is.behind ≡ []
  no_new q = ap (λ ys. new_atoms r q ys) (sym (append_nothing is.behind)) ∙ skip_made (IsBehind head body) (behind_quiet head body) r q is.behind [] is.ends

  -- the atoms that it makes
  pub new_list : (q : RestCopies) → new_atoms r q code.body ≡ made.new_atoms r q (length (atoms_of head)) 0 body
  new_list q = ap (λ ys. new_atoms r q ys) is.whole ∙ skip_made IsRemoval removal_quiet r q is.taking (making (length (atoms_of head)) (1 + length (membranes_of head)) 0 body ++ is.behind) is.takes ∙ made_new r is.behind no_new q (length (atoms_of head)) (1 + length (membranes_of head)) 0 body

  no_rooms : (q : RestCopies) → new_membranes r q is.behind ≡ []
  no_rooms q = ap (λ ys. new_membranes r q ys) (sym (append_nothing is.behind)) ∙ skip_rooms (IsBehind head body) (behind_quiet head body) r q is.behind [] is.ends

  -- and the membranes
  pub room_list : (q : RestCopies) → new_membranes r q code.body ≡ flat.made_mems r q (1 + length (membranes_of head)) body
  room_list q = ap (λ ys. new_membranes r q ys) is.whole ∙ skip_rooms IsRemoval removal_quiet r q is.taking (making (length (atoms_of head)) (1 + length (membranes_of head)) 0 body ++ is.behind) is.takes ∙ made_rooms r is.behind no_rooms q (length (atoms_of head)) (1 + length (membranes_of head)) 0 body

-- ---- from heap to heap

-- the ports that are joined have one number
joined_names : (h : Heap) → Valid h → (c : Port → ℕ) → Names h c → (p q : Port) → link_of h p.0 p.1 ≡ Some q → c p ≡ c q
joined_names h v c names p q e =
    let settled = v.settled in
    let w = names.partner p (settled.atoms p.0 (linked_atom h p.0 p.1 e), port_within h p.0 p.1 q e) in
    sym w.4 ∙ ap c (same_Some w.0 q (sym w.2 ∙ e))

-- a port of the graph stands in the heap
stands_port : (h : Heap) → Valid h → (p : Port) → IsPort (graph_of h) p → IsInPlace h p.0 × (p.1 < arity_of h p.0)
stands_port h v p w =
    let settled = v.settled in
    let sound = v.sound in
    let shaped = sound.shaped in
    let e = shaped.ports p.0 w.0 w.1 in
    let l = w.2 in (settled.atoms p.0 (by (h.atoms p.0) w.1), omega (arith, l, e))
  where
    by : (o : Option HeapAtom) → option_map (λ (x : HeapAtom). x.functor) o ≡ Some w.0 → IsSome o
    by None e = absurd (cc e)
    by (Some x) e = refl

-- the walk over a graph is that over its heap
pub net_same : (h : Heap) → Valid h → net (graph_of h) ≡ net_of h
net_same h v = λ i. record { arity = λ a. arity a i; link = λ a k. link_of h a k }
  where
    arity : (a : ℕ) → arity_by (functor_of h a) ≡ arity_of h a
    arity a = let sound = v.sound in let shaped = sound.shaped in by (functor_of h a) refl (shaped.ports a)
      where
        none : (o : Option HeapAtom) → option_map (λ (x : HeapAtom). x.functor) o ≡ None → 0 ≡ length (partners_of o)
        none None e = refl
        none (Some x) e = absurd (cc e)

        by : (o : Option Functor) → functor_of h a ≡ o → ((f : Functor) → functor_of h a ≡ Some f → arity_of h a ≡ f.arity) → arity_by o ≡ arity_of h a
        by None e w = none (h.atoms a) e
        by (Some f) e w = sym (w f e)

module _ (head : List HeadItem) (body : List BodyItem) (code : Code) (is : IsFlatCode head body code) (h t : Heap) (v : Valid h) (u : Valid t) (r : Registers)
    (placed : (k : ℕ) → k < length (atoms_of head) → IsInPlace h (r.head.images.atom k)) (f : FiresFlat head body r h t) where
  abbrev G : Graph
  G = graph_of h

  abbrev T : Graph
  T = graph_of t

  abbrev N : ℕ
  N = length (atoms_of head)

  abbrev M : ℕ
  M = 1 + length (membranes_of head)

  abbrev pub taken : List ℕ
  taken = images_of r head ++ f.parts

  abbrev fires : FiresWithin h f.name r head body taken t
  fires = f.fires

  -- ---- lists

  atoms_are : (left : ℕ → List ℕ) (x : ℕ) (q : RestCopies) → added_atoms r left q code.body x ≡ flat.added_atoms r q left N 0 body x
  atoms_are left x q = atom_list head body code is r left x q

  membranes_are : (left : ℕ → List ℕ) (x : ℕ) (q : RestCopies) → added_membranes r left q code.body x ≡ flat.added_mems r q left M body x
  membranes_are left x q = mem_list head body code is r left x q

  rules_are : (left : ℕ → List ℕ) (x : ℕ) (q : RestCopies) → added_rules r left q code.body x ≡ flat.added_rules r q left body x
  rules_are left x q = rule_list head body code is r left x q

  new_are : (q : RestCopies) → new_atoms r q code.body ≡ made.new_atoms r q N 0 body
  new_are q = new_list head body code is r q

  rooms_are : (q : RestCopies) → new_membranes r q code.body ≡ flat.made_mems r q M body
  rooms_are q = room_list head body code is r q

  found_are : found code.head r ≡ map r.head.images.membrane (rising 1 (length (membranes_of head)))
  found_are = ap (λ n. map r.head.images.membrane (rising 1 n)) is.membranes

  -- ---- what is dropped

  dropped_here : (left : ℕ → List ℕ) (k a : ℕ) → In a (left k) → (is : List Instr) → IsOneOf (DropCells k) is → In a (dropped left is)
  dropped_here left k a i [] w = absurd w
  dropped_here left k a i (j ∷ js) (inl e) = subst (λ (z : Instr). In a (dropped left (z ∷ js))) (sym e) (in_left a (left k) (dropped left js) i)
  dropped_here left k a i (j ∷ js) (inr w) = later_in j (dropped_here left k a i js w)
    where
      later_in : (j : Instr) → In a (dropped left js) → In a (dropped left (j ∷ js))
      later_in (DropCells m) o = in_right a (left m) (dropped left js) o
      later_in _ o = o

  behind_in : (left : ℕ → List ℕ) (a : ℕ) (is js : List Instr) → In a (dropped left js) → In a (dropped left (is ++ js))
  behind_in left a [] js w = w
  behind_in left a (i ∷ is) js w = more i (behind_in left a is js w)
    where
      more : (i : Instr) → In a (dropped left (is ++ js)) → In a (dropped left (i ∷ (is ++ js)))
      more (DropCells m) o = in_right a (left m) (dropped left (is ++ js)) o
      more _ o = o

  dropped_too : (left : ℕ → List ℕ) (a : ℕ) → In a (left_of_closed left 1 (membranes_of head)) → In a (dropped left code.body)
  dropped_too left a i =
      let w = closed_one 1 (membranes_of head) i in
      subst (λ ys. In a (dropped left ys)) (sym is.whole) (behind_in left a is.taking (making N M 0 body ++ is.behind) (behind_in left a (making N M 0 body) is.behind
      (dropped_here left w.0 a w.3 is.behind (let k : w.0 ≡ suc w.1 = (let e = w.4 in omega (arith, e)) in is.closed w.0 w.2 (w.1, k, w.6) w.5))))
    where
      closed_one : (k : ℕ) (bs : List HeadMembrane) → In a (left_of_closed left k bs) →
          (n : ℕ) × (i : ℕ) × (b : HeadMembrane) × In a (left n) × (n ≡ k + i) × (b.has_closed_context ≡ true) × (slice_get bs i ≡ Some b)
      closed_one k [] w = absurd w
      closed_one k (b ∷ bs) w = by b.has_closed_context refl w (λ i. closed_one (k + 1) bs i)
        where
          next : (In a (left_of_closed left (k + 1) bs) → (n : ℕ) × (i : ℕ) × (c : HeadMembrane) × In a (left n) × (n ≡ (k + 1) + i) × (c.has_closed_context ≡ true) × (slice_get bs i ≡ Some c)) → In a (left_of_closed left (k + 1) bs) →
              (n : ℕ) × (i : ℕ) × (c : HeadMembrane) × In a (left n) × (n ≡ k + i) × (c.has_closed_context ≡ true) × (slice_get (b ∷ bs) i ≡ Some c)
          next more w = (let z = more w in (z.0, suc z.1, z.2, z.3, (let e = z.4 in omega (arith, e)), z.5, z.6))

          by : (c : Bool) → b.has_closed_context ≡ c → In a ((if c then left k else []) ++ left_of_closed left (k + 1) bs) →
              (In a (left_of_closed left (k + 1) bs) → (n : ℕ) × (i : ℕ) × (c : HeadMembrane) × In a (left n) × (n ≡ (k + 1) + i) × (c.has_closed_context ≡ true) × (slice_get bs i ≡ Some c)) →
              (n : ℕ) × (i : ℕ) × (d : HeadMembrane) × In a (left n) × (n ≡ k + i) × (d.has_closed_context ≡ true) × (slice_get (b ∷ bs) i ≡ Some d)
          by true e w more = elim (in_either a (left k) (left_of_closed left (k + 1) bs) w) [
            | inl i ↦ (k, 0, b, i, (let z : k ≡ k + 0 = omega arith in z), e, refl)
            | inr i ↦ next more i
          ]
          by false e w more = next more w

  gone_out : (x : ℕ) → (In x (removed code r) → ⊥) → In x (map r.head.images.membrane (rising 1 (length (membranes_of head))) ++ dropped_mems r head) → ⊥
  gone_out x out i = out (elim (in_either x (map r.head.images.membrane (rising 1 (length (membranes_of head)))) (dropped_mems r head) i) [
    | inl j ↦ in_left x (found code.head r) (dropped r.left_membranes code.body) (subst (In x) (sym found_are) j)
    | inr j ↦ in_right x (found code.head r) (dropped r.left_membranes code.body) (dropped_too r.left_membranes x j)
  ])

  -- ---- what each instruction makes

  abbrev number : Port → ℕ
  number = (fires).number

  abbrev Made : Instr → Type 0
  Made i = Makes G T r number i

  copied_part : (root copy : Port) (copied : List ℕ) → IsCopyIn h t root copy copied → IsPartCopied G T root copy copied
  copied_part root copy copied w = (
    w.atoms,
    subst (λ (n : Net). FoundInside n root (λ _. true) w.atoms) (sym (net_same h v)) w.part,
    record { long = w.long; functors = w.functors; inner = λ p q i d e. w.inner p.0 p.1 q.0 q.1 i d e },
    w.entered,
  )

  each_made : (bs : List Instr) → AllByRecursion Made bs → (a m c : ℕ) (items : List BodyItem) → ((e : ℕ × Functor) → IsOneOf e (made_of r a items) → functor_of t e.0 ≡ Some e.1) →
      ((e : ℕ × ℕ) → IsOneOf e (copies_of c items) → IsCopyIn h t (r.head.images.part e.1) (r.copy e.0) (r.copied e.0)) → AllByRecursion Made (making a m c items ++ bs)
  each_made bs w a m c [] fs cs = w
  each_made bs w a m c (Atom g ls k ∷ xs) fs cs = (fs (r.head.images.atom a, g) (inl refl), each_made bs w (a + 1) m c xs (λ e i. fs e (inr i)) cs)
  each_made bs w a m c (Connector l l' ∷ xs) fs cs = each_made bs w a m c xs fs cs
  each_made bs w a m c (Copy p l k ∷ xs) fs cs = (copied_part (r.head.images.part p) (r.copy c) (r.copied c) (cs (c, p) (inl refl)), each_made bs w a m (c + 1) xs fs (λ e i. cs e (inr i)))
  each_made bs w a m c (Bound n l k ∷ xs) fs cs = (fs (r.head.images.atom a, integer_functor (r.head.integer n)) (inl refl), each_made bs w (a + 1) m c xs (λ e i. fs e (inr i)) cs)
  each_made bs w a m c (Membrane k ∷ xs) fs cs = (tt, each_made bs w a (m + 1) c xs fs cs)
  each_made bs w a m c (Rest of false k ∷ xs) fs cs = (tt, each_made bs w a m c xs fs cs)
  each_made bs w a m c (Rest of true k ∷ xs) fs cs = (tt, each_made bs w a m c xs fs cs)
  each_made bs w a m c (Rule n k ∷ xs) fs cs = (tt, each_made bs w a m c xs fs cs)
  each_made bs w a m c (Rules of k ∷ xs) fs cs = (tt, each_made bs w a m c xs fs cs)

  old_number : (g : AtomPort) (z : ℕ) → g.atom < N → IsOneOf (g, z) (old_ports head) → (fires).to (of_rule z) ≡ number (old_port r g)
  old_number g z l i = (fires).heads_fused (g, z) i ∙ sym ((fires).kept_links (old_port r g) (placed g.atom l))

  behind_made : (i : Instr) → IsBehind head body i → Made i
  behind_made (DropCells m) w = tt
  behind_made (NewLink p q) w = (fires).made_links (p, w.0) w.1 ∙ sym ((fires).made_links (q, w.0) w.2)
  behind_made (Relink p g) w = (fires).made_links (p, w.0) w.1 ∙ old_number g w.0 w.3 w.2
  behind_made (Unify g o) w = sym (old_number g w.0 w.5 w.2) ∙ (fires).connectors_fused (w.0, w.1) w.4 ∙ old_number o w.1 w.6 w.3
  behind_made Proceed w = tt
  behind_made _ w = absurd w

  all_behind : (is : List Instr) → AllByRecursion (IsBehind head body) is → AllByRecursion Made is
  all_behind [] w = tt
  all_behind (i ∷ is) w = (behind_made i w.0, all_behind is w.1)

  removal_made : (i : Instr) → IsRemoval i → Made i
  removal_made (RemoveAtom a) w = tt
  removal_made (RemovePart a) w = tt
  removal_made (RemoveMem a) w = tt
  removal_made _ w = absurd w

  all_removals : (is ys : List Instr) → AllByRecursion IsRemoval is → AllByRecursion Made ys → AllByRecursion Made (is ++ ys)
  all_removals [] ys w o = o
  all_removals (i ∷ is) ys w o = (removal_made i w.0, all_removals is ys w.1 o)

  each : AllByRecursion Made code.body
  each = subst (AllByRecursion Made) (sym is.whole) (all_removals is.taking (making N M 0 body ++ is.behind) is.takes
      (each_made is.behind (all_behind is.behind is.ends) N M 0 body (fires).made_functors (fires).copies))

  -- ---- copies of rests

  abbrev OneRest : ℕ → RestCopy → Type 0
  OneRest m p = AreCopied G T (λ _. ⊥) (r.left_atoms m) p.atoms × (length p.membranes ≡ length (r.left_membranes m))

  rests_made : (bs : List Instr) → ((q : RestCopies) → EachRest OneRest q bs) → (q : RestCopies) (a m c : ℕ) (items : List BodyItem) → AreAsLong r q items → AreRestsCopied h t r q items → EachRest OneRest q (making a m c items ++ bs)
  rests_made bs w q a m c [] l o = w q
  rests_made bs w q a m c (Atom g ls k ∷ xs) l o = rests_made bs w q (a + 1) m c xs l o
  rests_made bs w q a m c (Connector y y' ∷ xs) l o = rests_made bs w q a m c xs l o
  rests_made bs w q a m c (Copy p y k ∷ xs) l o = rests_made bs w q a m (c + 1) xs l o
  rests_made bs w q a m c (Bound n y k ∷ xs) l o = rests_made bs w q (a + 1) m c xs l o
  rests_made bs w q a m c (Membrane k ∷ xs) l o = rests_made bs w q a (m + 1) c xs l o
  rests_made bs w q a m c (Rest of false k ∷ xs) l o = rests_made bs w q a m c xs l o
  rests_made bs w q a m c (Rest of true k ∷ xs) l o = (
    ((let z = o.0 in record { long = z.long; functors = z.functors; inner = λ x y i d e. z.inner x.0 x.1 y.0 y.1 i e }), l.0.1),
    rests_made bs w (later q) a m c xs l.1 o.1,
  )
  rests_made bs w q a m c (Rule n k ∷ xs) l o = rests_made bs w q a m c xs l o
  rests_made bs w q a m c (Rules of k ∷ xs) l o = rests_made bs w q a m c xs l o

  no_rests : (q : RestCopies) → EachRest OneRest q is.behind
  no_rests q = subst (EachRest OneRest q) (append_nothing is.behind) (skip_rests (IsBehind head body) (behind_quiet head body) OneRest q is.behind [] is.ends tt)

  rests : EachRest OneRest (fires).rests code.body
  rests = subst (EachRest OneRest (fires).rests) (sym is.whole) (skip_rests IsRemoval removal_quiet OneRest (fires).rests is.taking (making N M 0 body ++ is.behind) is.takes
      (rests_made is.behind no_rests (fires).rests N M 0 body (fires).rests_long (fires).rests_copied))

  -- ---- what is new

  no_functor : (a : ℕ) → h.atoms a ≡ None → functor_of h a ≡ None
  no_functor a e = ap (λ (o : Option HeapAtom). option_map (λ (x : HeapAtom). x.functor) o) e

  no_round : (x : ℕ) → h.mems x ≡ None → parent_of h x ≡ None
  no_round x e = ap (λ (o : Option HeapMem). option_and_then (λ (y : HeapMem). home_by y.place) o) e

  no_root : (x : ℕ) → h.mems x ≡ None → x ≢ h.root
  no_root x e d =
      let sound = v.sound in
      let listed = sound.listed in
      let s : IsSome (h.mems x) = mem_of_place h x top ((listed.root x).1 d) in
      absurd (cc (e, s))

  -- the code is committed
  pub fired : Fires code G r taken T
  fired = record {
    number = number;
    old = λ p q e. (let settled = v.settled in (fires).kept_links p (settled.atoms p.0 (linked_atom h p.0 p.1 e))
        ∙ ap (λ z. (fires).to (of_solid z)) (joined_names h v f.name f.named p q e) ∙ sym ((fires).kept_links q (settled.atoms q.0 (back p q e))));
    new = λ p q e. joined_names t u number (fires).named p q e;
    apart = λ p q w z e. (let named = (fires).named in named.only p q (stands_port t u p w) (stands_port t u q z) e);
    each = each;
    copies = (fires).rests;
    rests = rests;
    functors = λ a i o d. (fires).kept_functors a i o (λ j. d (dropped_too r.left_atoms a j));
    atoms_new = λ a i. (let j = subst (In a) (new_are (fires).rests) i in (no_functor a ((fires).new_fresh a j), (fires).new_placed a j));
    atoms_once = subst Distinct (sym (new_are (fires).rests)) (fires).new_once;
    membranes_new = λ x i. (let j = subst (In x) (rooms_are (fires).rests) i in (no_round x ((fires).made_fresh x j), no_root x ((fires).made_fresh x j)));
    membranes_once = subst Distinct (sym (rooms_are (fires).rests)) (fires).made_once;
    atoms = λ x o. (fires).atoms x (gone_out x o) ∙ ap (λ zs. without_all taken (atoms_in h x) ++ zs) (sym (atoms_are (λ k. without_all taken (atoms_in h k)) x (fires).rests));
    membranes = λ x o. (fires).mems x (gone_out x o) ∙ (λ i. without_all (sym found_are i) (mems_in h x) ++ flat.added_mems r (fires).rests (λ k. without_all (sym found_are i) (mems_in h k)) M body x)
        ∙ ap (λ zs. without_all (found code.head r) (mems_in h x) ++ zs) (sym (membranes_are (λ k. without_all (found code.head r) (mems_in h k)) x (fires).rests));
    rules = λ x o. (fires).rules x (gone_out x o) ∙ ap (λ zs. rules_in h x ++ zs) (sym (rules_are (λ m. rules_in h m) x (fires).rests));
    root = f.root;
  }
    where
      back : (p q : Port) → link_of h p.0 p.1 ≡ Some q → IsAtom h q.0
      back p q e = (let sound = v.sound in let paired = sound.paired in linked_atom h q.0 q.1 (paired.back p.0 p.1 q.0 q.1 e))

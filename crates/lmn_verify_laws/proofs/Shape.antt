-- The body of verified code is that of its flat rule, but for the order in which it drops, and of two operands of what ties.
use Rattle.std.proofs.Common.{◌≡◌, ◌+◌, ◌&&◌, ◌∙◌, ℕ, Bool, true, false, List, [], ◌∷◌, ◌++◌, map, length, drop, Some, refl, sym, ap, subst, arith, true≢false}
use Rattle.std.specs.Prelude.{slice_get, if◌then◌else◌}
use Rattle.std.specs.List.{filter_map, list_all}
use Rattle.lmn_base.proofs.Lists.{plus_nothing}
use Rattle.lmn_base.proofs.Truth.{and_true}
use Rattle.lmn_congruence_splice.specs.Classes.{class_of, rising}
use Rattle.lmn_solid_heads.specs.Heads.{atoms_of, membranes_of}
use Rattle.lmn_solid_bodies.specs.Code.{removals, making, links_code}
use Rattle.lmn_solid_bodies.specs.Items.{connectors, new_ports, old_ports}
use Rattle.lmn_machine_commit.specs.Preparing.{BodyInOrder}
use Rattle.lmn_instr_code.specs.declared.instr.Code.{Code}
use Rattle.lmn_instr_code.specs.declared.instr.Instr.{Instr}
use Rattle.lmn_instr_code.specs.declared.instr.Instr.TheVariants.{RemoveAtom, RemovePart, RemoveMem, NewLink, Relink, Unify, Proceed}
use Rattle.lmn_instr_code.specs.Running.{atoms_set, membranes_set}
use Rattle.lmn_instr_code.specs.declared.words.Operand.{Operand}
use Rattle.lmn_instr_code.specs.declared.words.Operand.TheVariants.{Atom, Membrane, Part, Integer, Copy, Port, Functor as Of, Number, Constant}
use Rattle.lmn_verify_code.specs.Verified.{IsVerified, atoms_found, drops, held, is_commit, is_empty, is_head, is_of_head, makes, membranes_found, parts_found, ties}
use Rattle.lmn_verify_laws.specs.Flat.{connected, flat_body, flat_head, link_count, made_item}
use Rattle.lmn_verify_laws.proofs.Bodies.{items_append, making_is, no_item_dropped, no_item_tied, nothing_made, nothing_removed, removal, removals_are, sections, taken_first}
use Rattle.lmn_verify_laws.proofs.Exchanged.{EachTie, each_tied, is_tie, only_ties}
use Rattle.lmn_verify_laws.proofs.Items.{atom_count, atoms_counted, membrane_count, typed_count}
use Rattle.lmn_verify_laws.proofs.Ready.{membranes_counted, verified_is_in_order}
use Rattle.lmn_verify_laws.proofs.InOrder.{as_many}

order_behind : (os : List Operand) (ys : List Instr) (a m g v c : ℕ) → BodyInOrder a m g v c (map removal os ++ ys) → BodyInOrder a m g v c ys
order_behind [] ys a m g v c o = o
order_behind (x ∷ os) ys a m g v c o = order_behind os ys a m g v c (one x o)
  where
    back : BodyInOrder (a + 0) (m + 0) g v (c + 0) (map removal os ++ ys) → BodyInOrder a m g v c (map removal os ++ ys)
    back w = as_many (map removal os ++ ys) (a + 0) a (m + 0) m (c + 0) c g v (omega arith) (omega arith) (omega arith) w

    one : (x : Operand) → BodyInOrder a m g v c (removal x ∷ (map removal os ++ ys)) → BodyInOrder a m g v c (map removal os ++ ys)
    one (Atom _) w = back w.1
    one (Part _) w = back w.1
    one (Membrane _) w = back w.1
    one (Integer _) w = back w.1
    one (Copy _) w = back w.1
    one (Port _) w = back w.1
    one (Of _) w = back w.1
    one (Number _) w = back w.1
    one (Constant _) w = back w.1

-- ---- what ties

ties_append : (xs ys : List Instr) → only_ties (xs ++ ys) ≡ only_ties xs ++ only_ties ys
ties_append [] ys = refl
ties_append (x ∷ xs) ys = by (is_tie x) (ties_append xs ys)
  where
    by : (b : Bool) → only_ties (xs ++ ys) ≡ only_ties xs ++ only_ties ys → (if b then x ∷ only_ties (xs ++ ys) else only_ties (xs ++ ys)) ≡ (if b then x ∷ only_ties xs else only_ties xs) ++ only_ties ys
    by true e = ap (λ l. x ∷ l) e
    by false e = e

no_ties : (test : Instr → Bool) → ((i : Instr) → test i ≡ true → is_tie i ≡ false) → (is : List Instr) → list_all test is ≡ true → only_ties is ≡ []
no_ties test f [] e = refl
no_ties test f (i ∷ is) e =
    let t = and_true (test i) (list_all test is) e in
    ap (λ (b : Bool). if b then i ∷ only_ties is else only_ties is) (f i t.0) ∙ no_ties test f is t.1

all_ties : (is : List Instr) → list_all is_tie is ≡ true → only_ties is ≡ is
all_ties [] e = refl
all_ties (i ∷ is) e =
    let t = and_true (is_tie i) (list_all is_tie is) e in
    ap (λ (b : Bool). if b then i ∷ only_ties is else only_ties is) t.0 ∙ ap (λ l. i ∷ l) (all_ties is t.1)

ties_are : (n : ℕ) (is : List Instr) → list_all (ties n) is ≡ true → list_all is_tie is ≡ true
ties_are n [] e = refl
ties_are n (i ∷ is) e = let t = and_true (ties n i) (list_all (ties n) is) e in let u = one i t.0 in let w = ties_are n is t.1 in λ j. u j && w j
  where
    one : (i : Instr) → ties n i ≡ true → is_tie i ≡ true
    one (NewLink _ _) e = refl
    one (Relink _ _) e = refl
    one (Unify _ _) e = refl
    one _ e = absurd (true≢false (sym e))

makes_no_tie : (h k : ℕ) (i : Instr) → makes h k i ≡ true → is_tie i ≡ false
makes_no_tie h k (NewLink _ _) e = absurd (true≢false (sym e))
makes_no_tie h k (Relink _ _) e = absurd (true≢false (sym e))
makes_no_tie h k (Unify _ _) e = absurd (true≢false (sym e))
makes_no_tie h k _ e = refl

drops_no_tie : (h : ℕ) (i : Instr) → drops h i ≡ true → is_tie i ≡ false
drops_no_tie h (NewLink _ _) e = absurd (true≢false (sym e))
drops_no_tie h (Relink _ _) e = absurd (true≢false (sym e))
drops_no_tie h (Unify _ _) e = absurd (true≢false (sym e))
drops_no_tie h _ e = refl

removals_no_tie : (os : List Operand) → only_ties (map removal os) ≡ []
removals_no_tie [] = refl
removals_no_tie (Atom _ ∷ os) = removals_no_tie os
removals_no_tie (Part _ ∷ os) = removals_no_tie os
removals_no_tie (Membrane _ ∷ os) = removals_no_tie os
removals_no_tie (Integer _ ∷ os) = removals_no_tie os
removals_no_tie (Copy _ ∷ os) = removals_no_tie os
removals_no_tie (Port _ ∷ os) = removals_no_tie os
removals_no_tie (Of _ ∷ os) = removals_no_tie os
removals_no_tie (Number _ ∷ os) = removals_no_tie os
removals_no_tie (Constant _ ∷ os) = removals_no_tie os

head_no_tie : (is : List Instr) → is_head is ≡ true → only_ties is ≡ []
head_no_tie [] e = refl
head_no_tie (i ∷ is) e = by (is_commit i) refl e (head_no_tie is)
  where
    commits : (i : Instr) → is_commit i ≡ true → is_tie i ≡ false
    commits (NewLink _ _) e = absurd (true≢false (sym e))
    commits (Relink _ _) e = absurd (true≢false (sym e))
    commits (Unify _ _) e = absurd (true≢false (sym e))
    commits _ e = refl

    heads : (i : Instr) → is_of_head i ≡ true → is_tie i ≡ false
    heads (NewLink _ _) e = absurd (true≢false (sym e))
    heads (Relink _ _) e = absurd (true≢false (sym e))
    heads (Unify _ _) e = absurd (true≢false (sym e))
    heads _ e = refl

    nothing : (js : List Instr) → is_empty js ≡ true → only_ties js ≡ []
    nothing [] e = refl
    nothing (j ∷ js) e = absurd (true≢false (sym e))

    by : (b : Bool) → is_commit i ≡ b → (if b then is_empty is else (is_of_head i && is_head is)) ≡ true → (is_head is ≡ true → only_ties is ≡ []) → (if is_tie i then i ∷ only_ties is else only_ties is) ≡ []
    by true c e more = ap (λ (b : Bool). if b then i ∷ only_ties is else only_ties is) (commits i c) ∙ nothing is e
    by false c e more = let t = and_true (is_of_head i) (is_head is) e in ap (λ (b : Bool). if b then i ∷ only_ties is else only_ties is) (heads i t.0) ∙ more t.1

module _ (code : Code) (k : ℕ) (v : IsVerified code k) where
  abbrev pub N : ℕ
  N = length (atoms_of (flat_head code))

  abbrev pub K : ℕ
  K = length (membranes_of (flat_head code))

  abbrev pub taken_code : List Instr
  taken_code = removals (flat_head code)

  abbrev pub made_code : List Instr
  made_code = making N (1 + K) 0 (flat_body code)

  abbrev pub ties_code : List Instr
  ties_code = links_code (class_of (connectors (flat_body code))) (new_ports N 0 (flat_body code)) (old_ports (flat_head code)) (rising 0 (link_count code))

  same_atoms : N ≡ atoms_set code.head
  same_atoms = atom_count code ∙ atoms_counted code.head v.looked_at

  same_membranes : K ≡ membranes_set code.head
  same_membranes = membrane_count code ∙ membranes_counted code.head

  -- The body of verified code.
  pub record HasShape : Type 0 where
    pub dropped : List Instr
    pub tied : List Instr
    pub whole : code.body ≡ taken_code ++ (made_code ++ (dropped ++ (tied ++ (Proceed ∷ []))))
    pub makes_all : list_all (makes (1 + length (membranes_found code.head)) k) made_code ≡ true
    pub drops_all : list_all (drops (1 + length (membranes_found code.head))) dropped ≡ true
    pub ties_all : list_all is_tie tied ≡ true
    pub same_ties : EachTie tied ties_code

  pub shape : HasShape
  shape =
      let hn = length (atoms_found code.head) in
      let hm = 1 + length (membranes_found code.head) in
      let rest = drop (length (held code)) code.body in
      let s = sections hm k hn rest v.rest in
      let first : code.body ≡ map removal (held code) ++ rest = taken_first (held code) code.body v.taken in
      let behind = s.dropped ++ (s.tied ++ (Proceed ∷ [])) in
      let split : code.body ≡ map removal (held code) ++ (s.made ++ behind) = first ∙ ap (λ l. map removal (held code) ++ l) s.whole in
      let taken : map removal (held code) ≡ taken_code =
      removals_are hn (length (parts_found code.head)) (length (membranes_found code.head))
      ∙ (λ i. map RemoveAtom (rising 0 (sym (atom_count code) i)) ++ (map RemovePart (rising 0 (sym (typed_count code) i)) ++ map RemoveMem (rising 1 (sym (membrane_count code) i)))) in
      let order = order_behind (held code) (s.made ++ behind) (atoms_set code.head) (1 + membranes_set code.head) _ _ 0 (subst (BodyInOrder (atoms_set code.head) (1 + membranes_set code.head) _ _ 0) split (verified_is_in_order code k v).ready.order) in
      let last : filter_map (made_item code) behind ≡ [] = nothing_made code (drops hm) (no_item_dropped code hm) s.dropped (s.tied ++ (Proceed ∷ [])) s.drops_all ∙ nothing_made code (ties hn) (no_item_tied code hn) s.tied (Proceed ∷ []) s.ties_all in
      let items : filter_map (made_item code) code.body ≡ filter_map (made_item code) s.made =
      ap (filter_map (made_item code)) split ∙ nothing_removed code (held code) (s.made ++ behind) ∙ items_append code s.made behind ∙ ap (λ l. filter_map (made_item code) s.made ++ l) last ∙ plus_nothing (filter_map (made_item code) s.made) in
      let made : made_code ≡ s.made =
      (λ i. making (same_atoms i) (1 + same_membranes i) 0 (items i ++ connected 0 (code.head ++ code.body)))
      ∙ making_is code hm k 0 (code.head ++ code.body) (atoms_set code.head) (1 + membranes_set code.head) _ _ 0 s.made behind s.makes_all order in
      let tie = ties_are hn s.tied s.ties_all in
      let only : only_ties (code.head ++ code.body) ≡ s.tied =
      ties_append code.head code.body ∙ ap (λ l. l ++ only_ties code.body) (head_no_tie code.head v.head)
      ∙ ap only_ties split ∙ ties_append (map removal (held code)) (s.made ++ behind) ∙ ap (λ l. l ++ only_ties (s.made ++ behind)) (removals_no_tie (held code))
      ∙ ties_append s.made behind ∙ ap (λ l. l ++ only_ties behind) (no_ties (makes hm k) (makes_no_tie hm k) s.made s.makes_all)
      ∙ ties_append s.dropped (s.tied ++ (Proceed ∷ [])) ∙ ap (λ l. l ++ only_ties (s.tied ++ (Proceed ∷ []))) (no_ties (drops hm) (drops_no_tie hm) s.dropped s.drops_all)
      ∙ ties_append s.tied (Proceed ∷ []) ∙ plus_nothing (only_ties s.tied) ∙ all_ties s.tied tie in
      let each = each_tied code k v 0 (code.head ++ code.body) (λ u i e. let z : u ≡ 0 + u = omega arith in subst (λ n. slice_get (code.head ++ code.body) n ≡ Some i) z e) in
      record {
        dropped = s.dropped;
        tied = s.tied;
        whole = split ∙ (λ i. taken i ++ (sym made i ++ behind));
        makes_all = ap (list_all (makes hm k)) made ∙ s.makes_all;
        drops_all = s.drops_all;
        ties_all = tie;
        same_ties = subst (λ l. EachTie l ties_code) only (subst (λ n. EachTie (only_ties (code.head ++ code.body)) (links_code (class_of (connectors (flat_body code))) (new_ports n 0 (flat_body code)) (old_ports (flat_head code)) (rising 0 (link_count code)))) (sym same_atoms) each);
      }

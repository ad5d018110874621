-- All links get their numbers, atom by atom.
use Rattle.std.proofs.Common.{◌≡◌, ℕ, suc, ◌+◌, ◌*◌, ◌<◌, ◌≤◌, ◌^◌, List, [], ◌∷◌, ◌++◌, length, Option, Some, None, IsSome, IfSome, refl, sym, ap, ◌∙◌, subst, arith}
use Rattle.std.specs.Option.{option_map}
use Rattle.std.proofs.lemmas.List.{append_assoc, append-nil}
use Rattle.lmn_base.specs.Limits.{most_links}
use Rattle.lmn_base.specs.Links.{Numbers}
use Rattle.lmn_base.specs.Solids as solids
use Rattle.lmn_base.specs.declared.solid.Solid.{Solid}
use Rattle.lmn_store_heap.specs.Heap.{Heap, IsInPlace, arity_of, PortsUnmarked}
use Rattle.lmn_store_heap.specs.Lists.{from, after}
use Rattle.lmn_store_heap.specs.Solid.{HasSolid, links_from}
use Rattle.lmn_store_heap.specs.Sound.{Forest, flat, IsTree, Sound, AtMost, Valid}
use Rattle.lmn_store_heap.specs.Trees.{tree_of}
use Rattle.lmn_print_plain.specs.Numbers.{printed_atoms, Remarks, TellsFirst, GoOn, links_at_ports, links_on}
use Rattle.lmn_print_plain.specs.Stored.{TellsNumbers}
use Rattle.lmn_print_plain.proofs.MarkLemmas.{arity_same, home_same, printed_same, tree_same, remarks_more}
use Rattle.lmn_print_plain.proofs.NumberLemmas.{mark_low, mark_high, go_none, go_more, go_as}
use Rattle.lmn_print_plain.proofs.OrderLemmas.{printed_all, printed_few, tree_there}
use Rattle.lmn_print_plain.proofs.StoredLemmas.{atoms_fewer}
use Rattle.lmn_print_plain.proofs.SolidLinks.{links_append, solid_links, in_links, numbers_below}
use Rattle.lmn_store_heap.proofs.Common.{is_atom_at as port_there}
use Rattle.lmn_base.proofs.Common.{all_met}

-- what comes behind an atom in printed order came there before
pub behind_before : (s t : Heap) → Remarks s t → (f : Forest) (a : ℕ) (next : Option ℕ) → from next (printed_atoms t (flat f)) ≡ after a (printed_atoms t (flat f))
    → from next (printed_atoms s (flat f)) ≡ after a (printed_atoms s (flat f))
behind_before s t r f a next e = subst (λ xs. from next xs ≡ after a xs) (printed_same s t r (flat f)) e

-- The atoms before the next one are done: n links have numbers, and the marks tell them.
pub record Numbering (s t : Heap) (n : ℕ) (next : Option ℕ) (f : Forest) : Type 0 where
  pub done : List ℕ
  pub split : printed_atoms s (flat f) ≡ done ++ from next (printed_atoms s (flat f))
  pub numbers : GoOn s t 0 n (links_on s done)
  pub few : n + most_links * length (from next (printed_atoms s (flat f))) ≤ most_links * 2 ^ 48

-- at first no link has its number
pub numbering_first : (s : Heap) → Sound s → AtMost (2 ^ 48) s → (f : Forest) → IsTree s f → (next : Option ℕ) → from next (printed_atoms s (flat f)) ≡ printed_atoms s (flat f) → Numbering s s 0 next f
numbering_first s sound most f tree next e = record {
  done = [];
  split = sym e;
  numbers = go_none s 0;
  few = subst (λ xs. 0 + most_links * length xs ≤ most_links * 2 ^ 48) (sym e) (let l = printed_few s sound f tree most in few_first (length (printed_atoms s (flat f))) l);
}
  where
    few_first : (k : ℕ) → k ≤ 2 ^ 48 → 0 + most_links * k ≤ most_links * 2 ^ 48
    few_first k l = omega (arith, l)

few_more : (n m k j : ℕ) → n + most_links * k ≤ most_links * 2 ^ 48 → k ≡ suc j → m ≤ n + most_links → m + most_links * j ≤ most_links * 2 ^ 48
few_more n m k j h e l = omega (arith, h, e, l)

-- one atom more
pub numbering_more : (s t u : Heap) (n m a : ℕ) (next : Option ℕ) (f : Forest) → Remarks s t → Remarks t u → Numbering s t n (Some a) f → GoOn t u n m (links_at_ports t a) → m ≤ n + most_links
    → from next (printed_atoms u (flat f)) ≡ after a (printed_atoms u (flat f)) → Numbering s u m next f
numbering_more s t u n m a next f r q b g l e = record {
  done = b.done ++ (a ∷ []);
  split = b.split ∙ sym (append_assoc b.done (a ∷ []) (after a (printed_atoms s (flat f)))) ∙ ap (λ xs. (b.done ++ (a ∷ [])) ++ xs) (sym behind);
  numbers = go_as s u 0 m (λ name. links_on s b.done name ++ links_at_ports t a name) (links_on s (b.done ++ (a ∷ []))) same (go_more s t u 0 n m (links_on s b.done) (links_at_ports t a) r b.numbers g);
  few = few_more n m (suc (length (after a (printed_atoms s (flat f))))) (length (from next (printed_atoms s (flat f)))) b.few (ap (λ xs. suc (length xs)) (sym behind)) l;
}
  where
    behind : from next (printed_atoms s (flat f)) ≡ after a (printed_atoms s (flat f))
    behind = behind_before s u (remarks_more s t u r q) f a next e

    here : (name : ℕ → ℕ → ℕ) → links_at_ports t a name ≡ links_on s (a ∷ []) name
    here name = ap (λ k. links_from name a 0 k) (arity_same s t r a) ∙ sym (append-nil (links_at_ports s a name))

    same : (name : ℕ → ℕ → ℕ) → links_on s b.done name ++ links_at_ports t a name ≡ links_on s (b.done ++ (a ∷ [])) name
    same name = ap (λ xs. links_on s b.done name ++ xs) (here name) ∙ sym (links_append s name b.done (a ∷ []))

-- there is room for the numbers of one atom more
pub numbering_room : (s t : Heap) (n a : ℕ) (f : Forest) → Numbering s t n (Some a) f → n + most_links < 2 ^ 56
numbering_room s t n a f b = room n (length (after a (printed_atoms s (flat f)))) b.few
  where
    room : (n k : ℕ) → n + most_links * suc k ≤ most_links * 2 ^ 48 → n + most_links < 2 ^ 56
    room n k h = omega (arith, h)

-- all atoms are done: the marks tell the numbers of the solid's links
pub numbering_last : (s t : Heap) → Valid s → Remarks s t → (n : ℕ) → ((f : Forest) → IsTree s f → Numbering s t n None f) → PortsUnmarked s → (x : Solid) (of : HasSolid s x) → TellsNumbers t of.name
numbering_last s t valid r n all unmarked x of = λ a i l.
    let low : i < arity_of s a = subst (λ k. i < k) (arity_same s t r a) l in
    let whole = printed_atoms s (flat of.forest) in
    let there = in_links s valid.sound of.name whole a i (printed_all s valid of.forest of.tree a (port_there s a i low)) low in
    let below : of.name a i < of.count = numbers_below 0 of.count (links_on s whole of.name) (of.name a i) (subst (λ ls. Numbers 0 ls of.count) links of.numbers) there in
    ended.1 a i l ∙ mark_low n (of.name a i) (subst (λ k. of.name a i < k) (sym (all_met ended.0)) below)
  where
    links : solids.links_of_region x.root ≡ links_on s (printed_atoms s (flat of.forest)) of.name
    links = solid_links s valid.sound of.name of.forest x.root of.root

    last : Numbering s t n None of.forest
    last = all of.forest of.tree

    done : printed_atoms s (flat of.forest) ≡ last.done
    done = last.split ∙ append-nil last.done

    ended : Numbers n [] of.count × TellsFirst t of.name n
    ended =
        last.numbers of.name of.naming [] of.count
        (subst (λ ls. Numbers 0 ls of.count) (links ∙ ap (λ xs. links_on s xs of.name) done ∙ sym (append-nil (links_on s last.done of.name))) of.numbers)
        (λ a i l. unmarked a i l ∙ sym (mark_high 0 (of.name a i) (omega arith)))

-- The next atom, where marks were changed.

-- what is in place with marks is so without
pub next_place : {A : Type 0} (id : A → ℕ) (s t : Heap) → Remarks s t → (next : Option A) → IfSome next (λ a. IsInPlace t (id a)) → IfSome next (λ a. IsInPlace s (id a))
next_place id s t r None h = tt
next_place id s t r (Some a) h = subst IsSome (home_same s t r (id a)) h

-- and the other way round
pub place_before : (s t : Heap) → Remarks s t → (a : ℕ) → IsInPlace s a → IsInPlace t a
place_before s t r a h = subst IsSome (sym (home_same s t r a)) h

-- fewer atoms are to come behind one
pub numbers_fewer : {A : Type 0} (id : A → ℕ) (s t : Heap) → Sound s → AtMost (2 ^ 48) s → Remarks s t → (f : Forest) → IsTree s f → (a : A) (now next : Option A) → now ≡ Some a
    → ((g : Forest) → IsTree t g → from (option_map id next) (printed_atoms t (flat g)) ≡ after (id a) (printed_atoms t (flat g)))
    → length (from (option_map id next) (printed_atoms s (flat (tree_of s)))) < length (from (option_map id now) (printed_atoms s (flat (tree_of s))))
numbers_fewer id s t sound most r f tree a now next is list =
    atoms_fewer id a now next (printed_atoms s (flat (tree_of s))) is
    (behind_before s t r (tree_of s) (id a) (option_map id next) (list (tree_of s) (tree_same s t r (tree_of s) (tree_there s sound most f tree))))

-- where an atom is next
pub numbering_at : {A : Type 0} (id : A → ℕ) (s t : Heap) (n : ℕ) (next : Option A) (a : A) (f : Forest) → next ≡ Some a → Numbering s t n (option_map id next) f → Numbering s t n (Some (id a)) f
numbering_at id s t n next a f is b = subst (λ o. Numbering s t n (option_map id o) f) is b

-- where none is
pub numbering_none : {A : Type 0} (id : A → ℕ) (s t : Heap) (n : ℕ) (next : Option A) (f : Forest) → ((a : A) → next ≡ Some a → ⊥) → Numbering s t n (option_map id next) f → Numbering s t n None f
numbering_none id s t n None f none b = b
numbering_none id s t n (Some a) f none b = absurd (none a refl)

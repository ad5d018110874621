-- What is left to be written of an item, at each event of the walk.
use Rattle.std.proofs.Common.{◌≡◌, ℕ, suc, ◌+◌, ◌-◌, ◌<◌, ◌≤◌, true, false, List, [], ◌++◌, Some, None, refl, sym, ap, ◌∙◌, subst, arith}
use Rattle.std.proofs.lemmas.List.{append_assoc}
use Rattle.lmn_congruence.specs.Rules.{Name}
use Rattle.lmn_store_heap.specs.Heap.{Heap, arity_of, link_of}
use Rattle.lmn_io.specs.Gathering.{SinkState, Adds}
use Rattle.lmn_flatten_plain.specs.Words.{link_name}
use Rattle.lmn_print_plain.proofs.DueLemmas.{Due, due_first, due_next, due_last}
use Rattle.lmn_print_folding.specs.Marks.{is_item, term_at, argument_count, Event, WalkMeets}
use Rattle.lmn_print_folding.proofs.FewTurns.{turns}
use Rattle.lmn_print_folding.specs.Events.{before_argument, behind_arguments, opening, events_text}
use Rattle.lmn_print_folding.proofs.WalkLemmas.{at_link, at_term, at_end_of_term, at_end_of_item, arguments_of_term}
use Rattle.lmn_store_heap.proofs.Common.{same_port}

module _ (names : List Name) (s : Heap) (number : ℕ → ℕ → ℕ) (item : ℕ) (start : SinkState) where
  abbrev text : List Event → List ℕ
  text = events_text names s number

  -- of what the walk over an item meets, so much was written, where it stands at port i of the atom a
  abbrev pub Left : SinkState → ℕ → ℕ → ℕ → Type 0
  Left now a i met = (es : List Event) → WalkMeets s item 0 es → (left : List Event) × WalkMeets s a i left × Due (text es) (text left) start now × (met + turns left ≤ turns es)

  pub left_first : Left start item 0 0
  left_first es w = (es, w, due_first (text es) start, omega arith)

  pub left_link : (now mid after : SinkState) (a i met number_here : ℕ) → Left now a i met → i < argument_count s a → term_at s a i ≡ None → number_here ≡ number a i
      → Adds (before_argument names s a i) now mid → Adds (link_name number_here) mid after → Left after a (i + 1) met
  left_link now mid after a i met k h low none is first second es w =
      let l = h es w in
      let m = at_link s a i l.0 l.1 low none in
      let few = l.3 in
      let e = m.1 in
      let long : turns l.0 ≡ turns m.0 = ap turns e in
      let whole : text l.0 ≡ before_argument names s a i ++ (link_name k ++ text m.0) =
      ap text e ∙ append_assoc (before_argument names s a i) (link_name (number a i)) (text m.0) ∙ ap (λ x. before_argument names s a i ++ (link_name x ++ text m.0)) (sym is) in (
        m.0,
        m.2,
        due_next (text es) (link_name k ++ text m.0) (link_name k) (text m.0) start mid after refl
            (due_next (text es) (text l.0) (before_argument names s a i) (link_name k ++ text m.0) start now mid whole l.2 first) second,
        omega (arith, few, long),
      )

  pub left_term : (now mid after : SinkState) (a i c met : ℕ) → Left now a i met → i < argument_count s a → term_at s a i ≡ Some c
      → Adds (before_argument names s a i) now mid → Adds (opening names s c) mid after → Left after c 0 (met + 1)
  left_term now mid after a i c met h low is first second es w =
      let l = h es w in
      let m = at_term s a i c l.0 l.1 low is in
      let few = l.3 in
      let e = m.1 in
      let long : turns l.0 ≡ suc (turns m.0) = ap turns e in
      let whole : text l.0 ≡ before_argument names s a i ++ (opening names s c ++ text m.0) =
      ap text e ∙ append_assoc (before_argument names s a i) (opening names s c) (text m.0) in (
        m.0,
        m.2,
        due_next (text es) (opening names s c ++ text m.0) (opening names s c) (text m.0) start mid after refl
            (due_next (text es) (text l.0) (before_argument names s a i) (opening names s c ++ text m.0) start now mid whole l.2 first) second,
        omega (arith, few, long),
      )

  pub left_end : (now after : SinkState) (a i p j port met : ℕ) → Left now a i met → argument_count s a ≤ i → is_item s a ≡ false
      → port ≡ j + 1 → link_of s a (arity_of s a - 1) ≡ Some (p, j) → Adds (behind_arguments names s a) now after → Left after p port (met + 1)
  left_end now after a i p j port met h high no_item behind link adds es w =
      let l = h es w in
      let m = at_end_of_term s a i l.0 l.1 high no_item in
      let few = l.3 in
      let e = m.3 in
      let long : turns l.0 ≡ suc (turns m.0) = ap turns e in
      let same = same_port (sym m.6 ∙ ap (link_of s a) (m.4 ∙ arguments_of_term s a no_item) ∙ link) in (
        m.0,
        subst (λ k. WalkMeets s p k m.0) (sym behind) (subst (λ k. WalkMeets s p (k + 1) m.0) same.1 (subst (λ q. WalkMeets s q (m.2 + 1) m.0) same.0 m.7)),
        due_next (text es) (text l.0) (behind_arguments names s a) (text m.0) start now after (ap text e) l.2 adds,
        omega (arith, few, long),
      )

  pub left_all : (now after : SinkState) (a i met : ℕ) → Left now a i met → argument_count s a ≤ i → is_item s a ≡ true → Adds (behind_arguments names s a) now after
      → (es : List Event) → WalkMeets s item 0 es → Adds (text es) start after
  left_all now after a i met h high is adds es w =
      let l = h es w in
      let e = at_end_of_item s a i l.0 l.1 high is in
      due_last (text es) start after (due_next (text es) (text l.0) (behind_arguments names s a) [] start now after (ap text e) l.2 adds)

  -- at most so many turns were taken as there are
  pub left_few : (now : SinkState) (a i met : ℕ) → Left now a i met → (es : List Event) → WalkMeets s item 0 es → met ≤ turns es
  left_few now a i met h es w = let l = h es w in let few = l.3 in omega (arith, few)

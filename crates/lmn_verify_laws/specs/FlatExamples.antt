-- The flat rules of small codes.
use Rattle.std.specs.Prelude.{ℕ, ◌≡◌, true, false, List, [], ◌∷◌}
use Rattle.lmn_base.specs.SmallTexts.{name_a, name_b, name_p, name_q}
use Rattle.lmn_guards.specs.declared.plan.TypeKind.TheVariants as kind
use Rattle.lmn_solid_heads.specs.declared.items.HeadItem.{HeadItem}
use Rattle.lmn_solid_heads.specs.declared.items.HeadItem.TheVariants as head
use Rattle.lmn_solid_bodies.specs.declared.items.BodyItem.TheVariants as body
use Rattle.lmn_instr_code.specs.declared.instr.Code.{Code}
use Rattle.lmn_instr_code.specs.declared.instr.Instr.TheVariants.{GetInt, MoveCells, Proceed, Unify}
use Rattle.lmn_verify_code.specs.VerifiedExamples.{at, both_made, by_link, code, computed, counted, followed, functor, opened, relinked}
use Rattle.lmn_verify_laws.specs.Flat.{flat_body, flat_head, link_count}
use Rattle.lmn_verify_laws.specs.Laws.{SetsFlat}

-- `a(X, Z), b(Y, X) :- .`, with Z and Y joined by UNIFY: DEREF is at place 1 and UNIFY at place 7
abbrev pub unified : Code
unified = followed by_link (Unify (at 0 1) (at 1 0) ∷ (Proceed ∷ []))

abbrev pub unified_head : ℕ → List HeadItem
unified_head y = head.Atom (functor name_a 2) (2 ∷ (14 ∷ [])) 0 ∷ (head.Atom (functor name_b 2) (y ∷ (2 ∷ [])) 0 ∷ [])

-- `{a(X), b(Y)} :- c(X, Y).`, where the membrane is counted, and where the rest of it is moved
abbrev pub emptied : Code
emptied = opened counted relinked

abbrev pub moved : Code
moved = opened [] (MoveCells 1 0 ∷ relinked)

-- `p($x), q($y) :- int($x), ground($y), $z = $x + $x | p($z).`
abbrev pub added : Code
added = computed (GetInt 1 0) both_made

-- What holds of them.
--   ends, connected   UNIFY has two links, one at each of its ports, and a connector joins them
--   apart             and they are not one
--   links             so there are twice as many as instructions
--   counted, made     a membrane that is counted has no context; RELINK has one link, at a new port and one of the head
--   open_             one whose rest is moved has an open context
--   rest              which stands in the body
--   parts, bound      a typed context and the port before it have one link, and so have two new ports
--   set, unset        the head sets the integer that the body names, and without it the integer isn't set
pub record FlatExamples : Type 0 where
  pub ends : flat_head unified ≡ unified_head 15
  pub connected : flat_body unified ≡ body.Connector 14 15 ∷ []
  pub apart : flat_head unified ≡ unified_head 14 → ⊥
  pub links : link_count unified ≡ 18
  pub counted : flat_head emptied ≡ head.Membrane 0 false false true ∷ (head.Atom (functor name_a 1) (26 ∷ []) 1 ∷ (head.Atom (functor name_b 1) (28 ∷ []) 1 ∷ []))
  pub made : flat_body emptied ≡ body.Atom (functor name_p 2) (26 ∷ (28 ∷ [])) 0 ∷ []
  pub open_ : flat_head moved ≡ head.Membrane 0 true false true ∷ (head.Atom (functor name_a 1) (22 ∷ []) 1 ∷ (head.Atom (functor name_b 1) (24 ∷ []) 1 ∷ []))
  pub rest : flat_body moved ≡ body.Rest 1 false 0 ∷ (body.Atom (functor name_p 2) (22 ∷ (24 ∷ [])) 0 ∷ [])
  pub parts : flat_head added ≡
      head.Atom (functor name_p 1) (4 ∷ []) 0 ∷ (head.Atom (functor name_q 1) (6 ∷ []) 0 ∷ (head.Typed 0 kind.Int 4 0 ∷ (head.Typed 1 kind.Ground 6 0 ∷ [])))
  pub bound : flat_body added ≡ body.Atom (functor name_p 1) (28 ∷ []) 0 ∷ (body.Bound 2 28 0 ∷ [])
  pub set : SetsFlat added
  pub unset : SetsFlat (code [] added.body) → ⊥

-- The listings of the bodies of some rules, each written out.
use Rattle.std.specs.Prelude.{ℕ, ◌≡◌, true, false, pos, List, [], ◌∷◌, codes}
use Rattle.std.specs.List.{flat_map}
use Rattle.lmn_base.specs.declared.functor.Functor.{Functor}
use Rattle.lmn_base.specs.declared.functor.Label.TheVariants.{Name, Int}
use Rattle.lmn_guards.specs.declared.plan.TypeKind.TheVariants as kind
use Rattle.lmn_solid_heads.specs.declared.items.HeadItem.{HeadItem}
use Rattle.lmn_solid_heads.specs.declared.items.HeadItem.TheVariants as head
use Rattle.lmn_instr_code.specs.Listings.{line}
use Rattle.lmn_solid_bodies.specs.declared.items.BodyItem.{BodyItem}
use Rattle.lmn_solid_bodies.specs.declared.items.BodyItem.TheVariants as body
use Rattle.lmn_solid_bodies.specs.Code.{body_code}
use Rattle.lmn_base.specs.SmallTexts.{name_a, name_b}
use Rattle.lmn_instr_code.specs.Worked.{name_append, name_dot}

-- the names behind `a` and `b`, by their numbers
abbrev pub name_c : ℕ
name_c = 6

abbrev pub body_p : ℕ
body_p = 7

-- the names of the examples, each at its number
abbrev pub worked_body_names : List (List ℕ)
worked_body_names =
    codes "=" ∷ codes "int" ∷ codes "unary" ∷ codes "ground" ∷ codes "a" ∷ codes "b" ∷ codes "c" ∷ codes "p" ∷ codes "append" ∷ codes "." ∷ []

-- the functor with this name and this arity
abbrev pub functor_named : ℕ → ℕ → Functor
functor_named n k = record { label = Name n; arity = k }

-- the lines of the code of a body beside a head, in a rule with this number of links
abbrev pub body_lines : List HeadItem → List BodyItem → ℕ → List ℕ
body_lines items made n = flat_map (line worked_body_names) (body_code items made n)

-- The code of each of these bodies has these lines.
pub record WorkedBodies : Type 0 where
  -- `a, a :- b.`
  pub two_make_one :
      body_lines (head.Atom (functor_named name_a 0) ([]) 0 ∷ head.Atom (functor_named name_a 0) ([]) 0 ∷ []) (body.Atom (functor_named name_b 0) ([]) 0 ∷ []) 0 ≡
      codes "  REMOVEATOM A0\n  REMOVEATOM A1\n  NEWATOM A2 M0 b/0\n  PROCEED\n"
  -- `{a(X), b(Y)} :- c(X, Y).`
  pub membrane_opens :
      body_lines (head.Membrane 0 false false false ∷ head.Atom (functor_named name_a 1) (0 ∷ []) 1 ∷ head.Atom (functor_named name_b 1) (1 ∷ []) 1 ∷ []) (body.Atom (functor_named name_c 2) (0 ∷ 1 ∷ []) 0 ∷ []) 2 ≡
      codes "  REMOVEATOM A0\n  REMOVEATOM A1\n  REMOVEMEM M1\n  NEWATOM A2 M0 c/2\n  RELINK A2.0 A0.0\n  RELINK A2.1 A1.0\n  PROCEED\n"
  -- `p($x), p($y) :- $z = $x + $y | p($z).`
  pub sum_is_made :
      body_lines (head.Atom (functor_named body_p 1) (0 ∷ []) 0 ∷ head.Typed 20 kind.Int 0 0 ∷ head.Atom (functor_named body_p 1) (1 ∷ []) 0 ∷ head.Typed 21 kind.Int 1 0 ∷ []) (body.Atom (functor_named body_p 1) (2 ∷ []) 0 ∷ body.Bound 2 2 0 ∷ []) 3 ≡
      codes "  REMOVEATOM A0\n  REMOVEATOM A1\n  REMOVEPART G0\n  REMOVEPART G1\n  NEWATOM A2 M0 p/1\n  NEWINT A3 M0 V2\n  NEWLINK A2.0 A3.0\n  PROCEED\n"
  -- `append(X, Y, Z), '.'(A, W, X) :- '.'(A, V, Z), append(W, Y, V).`
  pub lists_append :
      body_lines (head.Atom (functor_named name_append 3) (0 ∷ 1 ∷ 2 ∷ []) 0 ∷ head.Atom (functor_named name_dot 3) (3 ∷ 4 ∷ 0 ∷ []) 0 ∷ []) (body.Atom (functor_named name_dot 3) (3 ∷ 5 ∷ 2 ∷ []) 0 ∷ body.Atom (functor_named name_append 3) (4 ∷ 1 ∷ 5 ∷ []) 0 ∷ []) 6 ≡
      codes "  REMOVEATOM A0\n  REMOVEATOM A1\n  NEWATOM A2 M0 '.'/3\n  NEWATOM A3 M0 append/3\n  RELINK A3.1 A0.1\n  RELINK A2.2 A0.2\n  RELINK A2.0 A1.0\n  RELINK A3.0 A1.1\n  NEWLINK A2.1 A3.2\n  PROCEED\n"
  -- `a :- .`
  pub nothing :
      body_lines (head.Atom (functor_named name_a 0) ([]) 0 ∷ []) ([]) 0 ≡
      codes "  REMOVEATOM A0\n  PROCEED\n"
  -- `a(X, Y) :- X = Y.`
  pub joined :
      body_lines (head.Atom (functor_named name_a 2) (0 ∷ 1 ∷ []) 0 ∷ []) (body.Connector 0 1 ∷ []) 2 ≡
      codes "  REMOVEATOM A0\n  UNIFY A0.0 A0.1\n  PROCEED\n"
  -- `a(X, Y) :- Y = X.`: the lower link first
  pub joined_backwards :
      body_lines (head.Atom (functor_named name_a 2) (0 ∷ 1 ∷ []) 0 ∷ []) (body.Connector 1 0 ∷ []) 2 ≡
      codes "  REMOVEATOM A0\n  UNIFY A0.0 A0.1\n  PROCEED\n"
  -- `a(X, X) :- .`: a link that occurs twice in the head has no instruction
  pub loop :
      body_lines (head.Atom (functor_named name_a 2) (0 ∷ 0 ∷ []) 0 ∷ []) ([]) 1 ≡
      codes "  REMOVEATOM A0\n  PROCEED\n"
  -- `a :- X = Y, Y = X.`: a class without ends has none
  pub circle :
      body_lines (head.Atom (functor_named name_a 0) ([]) 0 ∷ []) (body.Connector 0 1 ∷ body.Connector 1 0 ∷ []) 2 ≡
      codes "  REMOVEATOM A0\n  PROCEED\n"
  -- `a(X, Y), b(Z) :- X = W, W = Y, b(Z).`
  pub chain :
      body_lines (head.Atom (functor_named name_a 2) (0 ∷ 1 ∷ []) 0 ∷ head.Atom (functor_named name_b 1) (2 ∷ []) 0 ∷ []) (body.Connector 0 3 ∷ body.Connector 3 1 ∷ body.Atom (functor_named name_b 1) (2 ∷ []) 0 ∷ []) 4 ≡
      codes "  REMOVEATOM A0\n  REMOVEATOM A1\n  NEWATOM A2 M0 b/1\n  UNIFY A0.0 A0.1\n  RELINK A2.0 A1.0\n  PROCEED\n"
  -- `a(X) :- X = Y, Y = Z, b(Z).`
  pub chain_to_new :
      body_lines (head.Atom (functor_named name_a 1) (0 ∷ []) 0 ∷ []) (body.Connector 0 1 ∷ body.Connector 1 2 ∷ body.Atom (functor_named name_b 1) (2 ∷ []) 0 ∷ []) 3 ≡
      codes "  REMOVEATOM A0\n  NEWATOM A1 M0 b/1\n  RELINK A1.0 A0.0\n  PROCEED\n"
  -- `a :- b(X), X = Y, Y = Z, c(Z).`: the earlier occurrence first
  pub chain_of_new :
      body_lines (head.Atom (functor_named name_a 0) ([]) 0 ∷ []) (body.Atom (functor_named name_b 1) (0 ∷ []) 0 ∷ body.Connector 0 1 ∷ body.Connector 1 2 ∷ body.Atom (functor_named name_c 1) (2 ∷ []) 0 ∷ []) 3 ≡
      codes "  REMOVEATOM A0\n  NEWATOM A1 M0 b/1\n  NEWATOM A2 M0 c/1\n  NEWLINK A1.0 A2.0\n  PROCEED\n"
  -- `a(X, Y) :- b(Z, Z), c(Y, X).`: classes by their least links
  pub rising_classes :
      body_lines (head.Atom (functor_named name_a 2) (0 ∷ 1 ∷ []) 0 ∷ []) (body.Atom (functor_named name_b 2) (2 ∷ 2 ∷ []) 0 ∷ body.Atom (functor_named name_c 2) (1 ∷ 0 ∷ []) 0 ∷ []) 3 ≡
      codes "  REMOVEATOM A0\n  NEWATOM A1 M0 b/2\n  NEWATOM A2 M0 c/2\n  RELINK A2.1 A0.0\n  RELINK A2.0 A0.1\n  NEWLINK A1.0 A1.1\n  PROCEED\n"
  -- `a(X, Y, Z) :- Z = W, b(W, Y), X = V, c(V).`
  pub least_link_decides :
      body_lines (head.Atom (functor_named name_a 3) (0 ∷ 1 ∷ 2 ∷ []) 0 ∷ []) (body.Connector 2 3 ∷ body.Atom (functor_named name_b 2) (3 ∷ 1 ∷ []) 0 ∷ body.Connector 0 4 ∷ body.Atom (functor_named name_c 1) (4 ∷ []) 0 ∷ []) 5 ≡
      codes "  REMOVEATOM A0\n  NEWATOM A1 M0 b/2\n  NEWATOM A2 M0 c/1\n  RELINK A2.0 A0.0\n  RELINK A1.1 A0.1\n  RELINK A1.0 A0.2\n  PROCEED\n"
  -- `{a(X), $p} :- {b(X), $p}.`: made, moved, relinked
  pub across_membranes :
      body_lines (head.Membrane 0 true false false ∷ head.Atom (functor_named name_a 1) (0 ∷ []) 1 ∷ []) (body.Membrane 0 ∷ body.Atom (functor_named name_b 1) (0 ∷ []) 2 ∷ body.Rest 1 false 2 ∷ []) 1 ≡
      codes "  REMOVEATOM A0\n  REMOVEMEM M1\n  NEWMEM M2 M0\n  NEWATOM A1 M2 b/1\n  MOVECELLS M1 M2\n  RELINK A1.0 A0.0\n  PROCEED\n"
  -- `{$p}, {$q} :- {$q, $p}.`: in the order of the body
  pub two_contexts :
      body_lines (head.Membrane 0 true false false ∷ head.Membrane 0 true false false ∷ []) (body.Membrane 0 ∷ body.Rest 2 false 3 ∷ body.Rest 1 false 3 ∷ []) 0 ≡
      codes "  REMOVEMEM M1\n  REMOVEMEM M2\n  NEWMEM M3 M0\n  MOVECELLS M2 M3\n  MOVECELLS M1 M3\n  PROCEED\n"
  -- `a :- {b, {c}}, {}, a.`: leaves before membranes, each followed by its level
  pub nested_membranes :
      body_lines (head.Atom (functor_named name_a 0) ([]) 0 ∷ []) (body.Atom (functor_named name_a 0) ([]) 0 ∷ body.Membrane 0 ∷ body.Atom (functor_named name_b 0) ([]) 1 ∷ body.Membrane 1 ∷ body.Atom (functor_named name_c 0) ([]) 2 ∷ body.Membrane 0 ∷ []) 0 ≡
      codes "  REMOVEATOM A0\n  NEWATOM A1 M0 a/0\n  NEWMEM M1 M0\n  NEWATOM A2 M1 b/0\n  NEWMEM M2 M1\n  NEWATOM A3 M2 c/0\n  NEWMEM M3 M0\n  PROCEED\n"
  -- `{$p, @r} :- {$p, (a :- b), @r}, @r.`: LOADRULE before COPYRULES
  pub rules_in_order :
      body_lines (head.Membrane 0 true false true ∷ []) (body.Membrane 0 ∷ body.Rest 1 false 2 ∷ body.Rule 1 2 ∷ body.Rules 1 2 ∷ body.Rules 1 0 ∷ []) 0 ≡
      codes "  REMOVEMEM M1\n  NEWMEM M2 M0\n  MOVECELLS M1 M2\n  LOADRULE M2 1\n  COPYRULES M1 M2\n  COPYRULES M1 M0\n  PROCEED\n"
  -- `a($x) :- ground($x) | b($x), c($x).`: copies where they are written
  pub copied_twice :
      body_lines (head.Atom (functor_named name_a 1) (0 ∷ []) 0 ∷ head.Typed 20 kind.Ground 0 0 ∷ []) (body.Atom (functor_named name_b 1) (1 ∷ []) 0 ∷ body.Copy 0 1 0 ∷ body.Atom (functor_named name_c 1) (2 ∷ []) 0 ∷ body.Copy 0 2 0 ∷ []) 3 ≡
      codes "  REMOVEATOM A0\n  REMOVEPART G0\n  NEWATOM A1 M0 b/1\n  COPYGROUND C0 M0 G0\n  NEWATOM A2 M0 c/1\n  COPYGROUND C1 M0 G0\n  NEWLINK A1.0 C0\n  NEWLINK A2.0 C1\n  PROCEED\n"
  -- `a($x, Y) :- unary($x) | Y = $x.`: a copy at a link of the head
  pub copy_to_head :
      body_lines (head.Atom (functor_named name_a 2) (0 ∷ 1 ∷ []) 0 ∷ head.Typed 20 kind.Unary 0 0 ∷ []) (body.Connector 1 2 ∷ body.Copy 0 2 0 ∷ []) 3 ≡
      codes "  REMOVEATOM A0\n  REMOVEPART G0\n  COPYGROUND C0 M0 G0\n  RELINK C0 A0.1\n  PROCEED\n"
  -- `p($x), {$p} :- ground($x) | {p($x), $p}.`
  pub copy_in_membrane :
      body_lines (head.Atom (functor_named body_p 1) (0 ∷ []) 0 ∷ head.Typed 20 kind.Ground 0 0 ∷ head.Membrane 0 true false false ∷ []) (body.Membrane 0 ∷ body.Atom (functor_named body_p 1) (1 ∷ []) 2 ∷ body.Copy 0 1 2 ∷ body.Rest 1 false 2 ∷ []) 2 ≡
      codes "  REMOVEATOM A0\n  REMOVEPART G0\n  REMOVEMEM M1\n  NEWMEM M2 M0\n  NEWATOM A1 M2 p/1\n  COPYGROUND C0 M2 G0\n  MOVECELLS M1 M2\n  NEWLINK A1.0 C0\n  PROCEED\n"
  -- `p(X) :- 3(X).`: an integer is an atom
  pub integer_made :
      body_lines (head.Atom (functor_named body_p 1) (0 ∷ []) 0 ∷ []) (body.Atom (record { label = Int (pos 3); arity = 1 }) (0 ∷ []) 0 ∷ []) 1 ≡
      codes "  REMOVEATOM A0\n  NEWATOM A1 M0 3/1\n  RELINK A1.0 A0.0\n  PROCEED\n"
  -- `a(X), b(Y), c(Z, W) :- W = X, Y = Z.`: each UNIFY begins with the lower link
  pub two_heads_joined :
      body_lines (head.Atom (functor_named name_a 1) (0 ∷ []) 0 ∷ head.Atom (functor_named name_b 1) (1 ∷ []) 0 ∷ head.Atom (functor_named name_c 2) (2 ∷ 3 ∷ []) 0 ∷ []) (body.Connector 3 0 ∷ body.Connector 1 2 ∷ []) 4 ≡
      codes "  REMOVEATOM A0\n  REMOVEATOM A1\n  REMOVEATOM A2\n  UNIFY A0.0 A2.1\n  UNIFY A1.0 A2.0\n  PROCEED\n"
  -- `{$p[]} :- {$p[]}, {$p[]}.`: copied twice, and dropped
  pub copied_rests :
      body_lines (head.Membrane 0 true true false ∷ []) (body.Membrane 0 ∷ body.Rest 1 true 2 ∷ body.Membrane 0 ∷ body.Rest 1 true 3 ∷ []) 0 ≡
      codes "  REMOVEMEM M1\n  NEWMEM M2 M0\n  COPYCELLS M1 M2\n  NEWMEM M3 M0\n  COPYCELLS M1 M3\n  DROPCELLS M1\n  PROCEED\n"
  -- `{a(X), $p[]}, {$q} :- $p[], b(X), $q.`: dropped behind all that is made, before the links
  pub beside_an_open_rest :
      body_lines (head.Membrane 0 true true false ∷ head.Atom (functor_named name_a 1) (0 ∷ []) 1 ∷ head.Membrane 0 true false false ∷ []) (body.Atom (functor_named name_b 1) (0 ∷ []) 0 ∷ body.Rest 1 true 0 ∷ body.Rest 2 false 0 ∷ []) 1 ≡
      codes "  REMOVEATOM A0\n  REMOVEMEM M1\n  REMOVEMEM M2\n  NEWATOM A1 M0 b/1\n  COPYCELLS M1 M0\n  MOVECELLS M2 M0\n  DROPCELLS M1\n  RELINK A1.0 A0.0\n  PROCEED\n"

-- The listings of the heads of some rules, and of some bodies, each written out.
use Rattle.std.specs.Prelude.{ℕ, ◌≡◌, true, false, pos, negsuc, List, [], ◌∷◌, codes, length, Box}
use Rattle.std.specs.declared.alloc.Global.{Global}
use Rattle.std.specs.List.{flat_map}
use Rattle.lmn_base.specs.declared.functor.Label.TheVariants.{Name, Int as Integer}
use Rattle.lmn_base.specs.declared.functor.TheConstants.{INT_NAME, UNARY_NAME, GROUND_NAME}
use Rattle.lmn_base.specs.declared.guard.Arith.{Arith}
use Rattle.lmn_base.specs.declared.guard.Arith.TheVariants as arith
use Rattle.lmn_base.specs.declared.guard.Cmp.{Cmp}
use Rattle.lmn_base.specs.declared.guard.Cmp.TheVariants as cmp
use Rattle.lmn_base.specs.declared.guard.Cond.{Cond}
use Rattle.lmn_base.specs.declared.guard.Cond.TheVariants.{Kind, Compare, Equal, Differ}
use Rattle.lmn_base.specs.declared.guard.Expr.{Expr}
use Rattle.lmn_base.specs.declared.guard.Expr.TheVariants as expr
use Rattle.lmn_base.specs.declared.level.CtxUse.{CtxUse}
use Rattle.lmn_guards.specs.declared.plan.TypeKind.TheVariants as kind
use Rattle.lmn_solid_heads.specs.declared.items.HeadItem.{HeadItem}
use Rattle.lmn_solid_heads.specs.declared.items.HeadItem.TheVariants.{Atom, Typed, Membrane}
use Rattle.lmn_instr_code.specs.declared.instr.Instr.TheVariants.{RemoveAtom, RemovePart, RemoveMem, NewAtom, NewInt, NewMem, CopyGround, MoveCells, CopyCells, LoadRule, CopyRules, DropCells, NewLink, Relink, Unify, Proceed}
use Rattle.lmn_instr_code.specs.declared.instr.NewPort.TheVariants as new
use Rattle.lmn_instr_code.specs.HeadCode.{head_code}
use Rattle.lmn_instr_code.specs.Listings.{line, code_listing}
use Rattle.lmn_base.specs.SmallTexts.{name_a, name_b, name_p, name_q, somewhere}

-- the names behind `q`, by their numbers
abbrev pub name_append : ℕ
name_append = 8

abbrev pub name_dot : ℕ
name_dot = 9

abbrev pub big : ℕ
big = 10

-- the names of three typed contexts
abbrev pub typed_x : ℕ
typed_x = 11

abbrev pub typed_y : ℕ
typed_y = 12

abbrev pub typed_z : ℕ
typed_z = 13

-- the names of the examples, each at its number
abbrev pub worked_names : List (List ℕ)
worked_names =
    codes "=" ∷ (codes "int" ∷ (codes "unary" ∷ (codes "ground" ∷ (
    codes "a" ∷ (codes "b" ∷ (codes "p" ∷ (codes "q" ∷ (codes "append" ∷ (codes "." ∷ (codes "B" ∷ (codes "x" ∷ (codes "y" ∷ (codes "z" ∷ [])))))))))))))

-- an atom with a name
abbrev pub worked_atom : ℕ → List ℕ → ℕ → HeadItem
worked_atom name links inside = Atom (record { label = Name name; arity = length links }) links inside

abbrev pub use_somewhere : ℕ → CtxUse
use_somewhere name = record { name = name; closed = false; pos = somewhere }

abbrev pub of : ℕ → Expr
of name = expr.Ctx (use_somewhere name)

-- where an operand of an operation lies, which no code shows
abbrev pub Boxed : Type 0
Boxed = Box (Unit {0}) Global

abbrev pub boxed_operation : Boxed → Arith → Expr → Expr → Expr
boxed_operation box op left right = expr.Op' op box left box right

abbrev pub asks_type : ℕ → ℕ → Cond
asks_type type name = Kind type (use_somewhere name ∷ []) somewhere

abbrev pub compares : Cmp → Expr → Expr → Cond
compares op left right = Compare op left right somewhere

abbrev pub binds : ℕ → Expr → Cond
binds name right = Equal (use_somewhere name) right somewhere

abbrev pub differ : ℕ → ℕ → Cond
differ left right = Differ (use_somewhere left) (use_somewhere right) somewhere

-- the lines of the code of a head
abbrev pub head_lines : List HeadItem → List Cond → List ℕ
head_lines items guard = flat_map (line worked_names) (head_code items guard)

-- The code of each of these heads has these lines, and the last two codes have these listings.
pub record WorkedListings : Type 0 where
  -- `a, a :- ..`
  pub two_atoms : head_lines (worked_atom name_a [] 0 ∷ (worked_atom name_a [] 0 ∷ [])) [] ≡
      codes "  FINDATOM A0 M0 a/0\n  FINDATOM A1 M0 a/0\n  NEQATOM A1 A0\n  COMMIT\n"
  -- `{a(X), b(Y)} :- ..`
  pub in_membrane : head_lines (Membrane 0 false false false ∷ (worked_atom name_a (0 ∷ []) 1 ∷ (worked_atom name_b (1 ∷ []) 1 ∷ []))) [] ≡
      codes "  ANYMEM M1 M0\n  FINDATOM A0 M1 a/1\n  NOTIN A0.0 M1\n  FINDATOM A1 M1 b/1\n  NOTIN A1.0 M1\n  NATOMS M1 2\n  NMEMS M1 0\n  NORULES M1\n  COMMIT\n"
  -- `p($x), p($y) :- $z = $x + $y | ..`
  pub sum_of_two : (box : Boxed) → head_lines (worked_atom name_p (0 ∷ []) 0 ∷ (Typed typed_x kind.Int 0 0 ∷ (worked_atom name_p (1 ∷ []) 0 ∷ (Typed typed_y kind.Int 1 0 ∷ [])))) (binds typed_z (boxed_operation box arith.Add (of typed_x) (of typed_y)) ∷ []) ≡
      codes "  FINDATOM A0 M0 p/1\n  FINDATOM A1 M0 p/1\n  NEQATOM A1 A0\n  ISINT G0 A0.0 M0\n  ISINT G1 A1.0 M0\n  GETINT V0 G0\n  GETINT V1 G1\n  ADD V2 V0 V1\n  COMMIT\n"
  -- `append(X, Y, Z), '.'(A, W, X) :- ..`
  pub by_link : head_lines (worked_atom name_append (0 ∷ (1 ∷ (2 ∷ []))) 0 ∷ (worked_atom name_dot (3 ∷ (4 ∷ (0 ∷ []))) 0 ∷ [])) [] ≡
      codes "  FINDATOM A0 M0 append/3\n  DEREF A1 A0.0 2\n  FUNC A1 '.'/3\n  INMEM A1 M0\n  COMMIT\n"
  -- `a(X, Y), b(Y, X) :- ..`
  pub lowest_argument : head_lines (worked_atom name_a (0 ∷ (1 ∷ [])) 0 ∷ (worked_atom name_b (1 ∷ (0 ∷ [])) 0 ∷ [])) [] ≡
      codes "  FINDATOM A0 M0 a/2\n  DEREF A1 A0.1 0\n  FUNC A1 b/2\n  INMEM A1 M0\n  JOINED A1.1 A0.0\n  COMMIT\n"
  -- `a(X), b(Y, X) :- ..`
  pub later_argument : head_lines (worked_atom name_a (0 ∷ []) 0 ∷ (worked_atom name_b (1 ∷ (0 ∷ [])) 0 ∷ [])) [] ≡
      codes "  FINDATOM A0 M0 a/1\n  DEREF A1 A0.0 1\n  FUNC A1 b/2\n  INMEM A1 M0\n  COMMIT\n"
  -- `a(X, X) :- ..`
  pub own_link : head_lines (worked_atom name_a (0 ∷ (0 ∷ [])) 0 ∷ []) [] ≡
      codes "  FINDATOM A0 M0 a/2\n  JOINED A0.1 A0.0\n  COMMIT\n"
  -- `a(X), a(X) :- ..`
  pub linked_alike : head_lines (worked_atom name_a (0 ∷ []) 0 ∷ (worked_atom name_a (0 ∷ []) 0 ∷ [])) [] ≡
      codes "  FINDATOM A0 M0 a/1\n  DEREF A1 A0.0 0\n  FUNC A1 a/1\n  INMEM A1 M0\n  NEQATOM A1 A0\n  COMMIT\n"
  -- `a(X, Y), b(Y, Z), a(Z, X) :- ..`
  pub ring : head_lines (worked_atom name_a (0 ∷ (1 ∷ [])) 0 ∷ (worked_atom name_b (1 ∷ (2 ∷ [])) 0 ∷ (worked_atom name_a (2 ∷ (0 ∷ [])) 0 ∷ []))) [] ≡
      codes "  FINDATOM A0 M0 a/2\n  DEREF A1 A0.1 0\n  FUNC A1 b/2\n  INMEM A1 M0\n  DEREF A2 A1.1 0\n  FUNC A2 a/2\n  INMEM A2 M0\n  NEQATOM A2 A0\n  JOINED A2.1 A0.0\n  COMMIT\n"
  -- `a, b, a(X), a :- ..`
  pub other_functors : head_lines (worked_atom name_a [] 0 ∷ (worked_atom name_b [] 0 ∷ (worked_atom name_a (0 ∷ []) 0 ∷ (worked_atom name_a [] 0 ∷ [])))) [] ≡
      codes "  FINDATOM A0 M0 a/0\n  FINDATOM A1 M0 b/0\n  FINDATOM A2 M0 a/1\n  FINDATOM A3 M0 a/0\n  NEQATOM A3 A0\n  COMMIT\n"
  -- `a, {a} :- ..`
  pub other_level : head_lines (worked_atom name_a [] 0 ∷ (Membrane 0 false false false ∷ (worked_atom name_a [] 1 ∷ []))) [] ≡
      codes "  FINDATOM A0 M0 a/0\n  ANYMEM M1 M0\n  FINDATOM A1 M1 a/0\n  NATOMS M1 1\n  NMEMS M1 0\n  NORULES M1\n  COMMIT\n"
  -- `{a, a, $p, @r} :- ..`
  pub with_contexts : head_lines (Membrane 0 true false true ∷ (worked_atom name_a [] 1 ∷ (worked_atom name_a [] 1 ∷ []))) [] ≡
      codes "  ANYMEM M1 M0\n  FINDATOM A0 M1 a/0\n  FINDATOM A1 M1 a/0\n  NEQATOM A1 A0\n  COMMIT\n"
  -- `{a, @r} :- ..`
  pub rules_alone : head_lines (Membrane 0 false false true ∷ (worked_atom name_a [] 1 ∷ [])) [] ≡
      codes "  ANYMEM M1 M0\n  FINDATOM A0 M1 a/0\n  NATOMS M1 1\n  NMEMS M1 0\n  COMMIT\n"
  -- `{{a(X), $p}, $q} :- ..`
  pub outermost : head_lines (Membrane 0 true false false ∷ (Membrane 1 true false false ∷ (worked_atom name_a (0 ∷ []) 2 ∷ []))) [] ≡
      codes "  ANYMEM M1 M0\n  ANYMEM M2 M1\n  FINDATOM A0 M2 a/1\n  NOTIN A0.0 M1\n  NORULES M1\n  NORULES M2\n  COMMIT\n"
  -- `a(X), {b(X, Y), $p} :- ..`
  pub into_membrane : head_lines (worked_atom name_a (0 ∷ []) 0 ∷ (Membrane 0 true false false ∷ (worked_atom name_b (0 ∷ (1 ∷ [])) 1 ∷ []))) [] ≡
      codes "  FINDATOM A0 M0 a/1\n  ANYMEM M1 M0\n  DEREF A1 A0.0 0\n  FUNC A1 b/2\n  INMEM A1 M1\n  NOTIN A1.1 M1\n  NORULES M1\n  COMMIT\n"
  -- `{a(X), $p}, {b(X), $q} :- ..`
  pub between_membranes : head_lines (Membrane 0 true false false ∷ (worked_atom name_a (0 ∷ []) 1 ∷ (Membrane 0 true false false ∷ (worked_atom name_b (0 ∷ []) 2 ∷ [])))) [] ≡
      codes "  ANYMEM M1 M0\n  FINDATOM A0 M1 a/1\n  ANYMEM M2 M0\n  NEQMEM M2 M1\n  DEREF A1 A0.0 0\n  FUNC A1 b/1\n  INMEM A1 M2\n  NORULES M1\n  NORULES M2\n  COMMIT\n"
  -- `{$p}, {{$q}, $r}, {$s} :- ..`
  pub four_membranes : head_lines (Membrane 0 true false false ∷ (Membrane 0 true false false ∷ (Membrane 2 true false false ∷ (Membrane 0 true false false ∷ [])))) [] ≡
      codes "  ANYMEM M1 M0\n  ANYMEM M2 M0\n  NEQMEM M2 M1\n  ANYMEM M3 M2\n  ANYMEM M4 M0\n  NEQMEM M4 M1\n  NEQMEM M4 M2\n  NORULES M1\n  NORULES M2\n  NORULES M3\n  NORULES M4\n  COMMIT\n"
  -- `{a, {}} :- ..`
  pub empty_inside : head_lines (Membrane 0 false false false ∷ (worked_atom name_a [] 1 ∷ (Membrane 1 false false false ∷ []))) [] ≡
      codes "  ANYMEM M1 M0\n  FINDATOM A0 M1 a/0\n  ANYMEM M2 M1\n  NATOMS M1 1\n  NMEMS M1 1\n  NORULES M1\n  NATOMS M2 0\n  NMEMS M2 0\n  NORULES M2\n  COMMIT\n"
  -- `{a($x)} :- int($x) | ..`
  pub typed_inside : head_lines (Membrane 0 false false false ∷ (worked_atom name_a (0 ∷ []) 1 ∷ (Typed typed_x kind.Int 0 1 ∷ []))) (asks_type INT_NAME typed_x ∷ []) ≡
      codes "  ANYMEM M1 M0\n  FINDATOM A0 M1 a/1\n  ISINT G0 A0.0 M1\n  NATOMS M1 1 G0\n  NMEMS M1 0\n  NORULES M1\n  COMMIT\n"
  -- `{a($x, $y)}, {b($z)} :- ground($x), unary($y), int($z) | ..`
  pub typed_in_two : head_lines (Membrane 0 false false false ∷ (worked_atom name_a (0 ∷ (1 ∷ [])) 1 ∷ (Typed typed_x kind.Ground 0 1 ∷ (Typed typed_y kind.Unary 1 1 ∷ (Membrane 0 false false false ∷ (worked_atom name_b (2 ∷ []) 2 ∷ (Typed typed_z kind.Int 2 2 ∷ []))))))) (asks_type GROUND_NAME typed_x ∷ (asks_type UNARY_NAME typed_y ∷ (asks_type INT_NAME typed_z ∷ []))) ≡
      codes "  ANYMEM M1 M0\n  FINDATOM A0 M1 a/2\n  ANYMEM M2 M0\n  NEQMEM M2 M1\n  FINDATOM A1 M2 b/1\n  ISGROUND G0 A0.0 M1\n  ISUNARY G1 A0.1 M1\n  ISINT G2 A1.0 M2\n  NATOMS M1 1 G0 G1\n  NMEMS M1 0\n  NORULES M1\n  NATOMS M2 1 G2\n  NMEMS M2 0\n  NORULES M2\n  COMMIT\n"
  -- `{$p[]} :- ..`
  pub closed_rest : head_lines (Membrane 0 true true false ∷ []) [] ≡
      codes "  ANYMEM M1 M0\n  NORULES M1\n  ISCLOSED M1\n  COMMIT\n"
  -- `{a($x), $p[], @r} :- int($x) | ..`
  pub closed_beside_typed : head_lines (Membrane 0 true true true ∷ (worked_atom name_a (0 ∷ []) 1 ∷ (Typed typed_x kind.Int 0 1 ∷ []))) (asks_type INT_NAME typed_x ∷ []) ≡
      codes "  ANYMEM M1 M0\n  FINDATOM A0 M1 a/1\n  ISINT G0 A0.0 M1\n  ISCLOSED M1 G0\n  COMMIT\n"
  -- `p($x) :- $x < 3 | ..`
  pub constant : head_lines (worked_atom name_p (0 ∷ []) 0 ∷ (Typed typed_x kind.Int 0 0 ∷ [])) (compares cmp.Lt (of typed_x) (expr.Int (pos 3)) ∷ []) ≡
      codes "  FINDATOM A0 M0 p/1\n  ISINT G0 A0.0 M0\n  GETINT V0 G0\n  CONST V1 3\n  LT V0 V1\n  COMMIT\n"
  -- `p($x) :- $x * $x > $x - 1 | ..`
  pub each_occurrence : (box : Boxed) → head_lines (worked_atom name_p (0 ∷ []) 0 ∷ (Typed typed_x kind.Int 0 0 ∷ [])) (compares cmp.Gt (boxed_operation box arith.Mul (of typed_x) (of typed_x)) (boxed_operation box arith.Sub (of typed_x) (expr.Int (pos 1))) ∷ []) ≡
      codes "  FINDATOM A0 M0 p/1\n  ISINT G0 A0.0 M0\n  GETINT V0 G0\n  GETINT V1 G0\n  MUL V2 V0 V1\n  GETINT V3 G0\n  CONST V4 1\n  SUB V5 V3 V4\n  GT V2 V5\n  COMMIT\n"
  -- `p($x) :- $y = $x + 1, $z = $y, $y =:= $z | ..`
  pub bound_contexts : (box : Boxed) → head_lines (worked_atom name_p (0 ∷ []) 0 ∷ (Typed typed_x kind.Int 0 0 ∷ [])) (binds typed_y (boxed_operation box arith.Add (of typed_x) (expr.Int (pos 1))) ∷ (binds typed_z (of typed_y) ∷ (compares cmp.Eq (of typed_y) (of typed_z) ∷ []))) ≡
      codes "  FINDATOM A0 M0 p/1\n  ISINT G0 A0.0 M0\n  GETINT V0 G0\n  CONST V1 1\n  ADD V2 V0 V1\n  EQ V2 V2\n  COMMIT\n"
  -- `p($x) :- $x / 2 =< 7 mod $x, 1 >= $x | ..`
  pub two_comparisons : (box : Boxed) → head_lines (worked_atom name_p (0 ∷ []) 0 ∷ (Typed typed_x kind.Int 0 0 ∷ [])) (compares cmp.Le (boxed_operation box arith.Div (of typed_x) (expr.Int (pos 2))) (boxed_operation box arith.Mod (expr.Int (pos 7)) (of typed_x)) ∷ (compares cmp.Ge (expr.Int (pos 1)) (of typed_x) ∷ [])) ≡
      codes "  FINDATOM A0 M0 p/1\n  ISINT G0 A0.0 M0\n  GETINT V0 G0\n  CONST V1 2\n  DIV V2 V0 V1\n  CONST V3 7\n  GETINT V4 G0\n  MOD V5 V3 V4\n  LE V2 V5\n  CONST V6 1\n  GETINT V7 G0\n  GE V6 V7\n  COMMIT\n"
  -- `p($x) :- $x =\= -10 | ..`
  pub negative : head_lines (worked_atom name_p (0 ∷ []) 0 ∷ (Typed typed_x kind.Int 0 0 ∷ [])) (compares cmp.Ne (of typed_x) (expr.Int (negsuc 9)) ∷ []) ≡
      codes "  FINDATOM A0 M0 p/1\n  ISINT G0 A0.0 M0\n  GETINT V0 G0\n  CONST V1 -10\n  NE V0 V1\n  COMMIT\n"
  -- `p($x), q($y) :- $x = $y | ..`
  pub equal_parts : head_lines (worked_atom name_p (0 ∷ []) 0 ∷ (Typed typed_x kind.Ground 0 0 ∷ (worked_atom name_q (1 ∷ []) 0 ∷ (Typed typed_y kind.Ground 1 0 ∷ [])))) (binds typed_x (of typed_y) ∷ []) ≡
      codes "  FINDATOM A0 M0 p/1\n  FINDATOM A1 M0 q/1\n  ISGROUND G0 A0.0 M0\n  ISGROUND G1 A1.0 M0\n  EQGROUND G0 G1\n  COMMIT\n"
  -- `p($x), q($y) :- unary($x), $x \= $y | ..`
  pub different_parts : head_lines (worked_atom name_p (0 ∷ []) 0 ∷ (Typed typed_x kind.Unary 0 0 ∷ (worked_atom name_q (1 ∷ []) 0 ∷ (Typed typed_y kind.Ground 1 0 ∷ [])))) (asks_type UNARY_NAME typed_x ∷ (differ typed_x typed_y ∷ [])) ≡
      codes "  FINDATOM A0 M0 p/1\n  FINDATOM A1 M0 q/1\n  ISUNARY G0 A0.0 M0\n  ISGROUND G1 A1.0 M0\n  NEQGROUND G0 G1\n  COMMIT\n"
  -- `-3(X), 'B'(X) :- ..`
  pub integer_atom : head_lines (Atom (record { label = Integer (negsuc 2); arity = 1 }) (0 ∷ []) 0 ∷ (worked_atom big (0 ∷ []) 0 ∷ [])) [] ≡
      codes "  FINDATOM A0 M0 -3/1\n  DEREF A1 A0.0 0\n  FUNC A1 'B'/1\n  INMEM A1 M0\n  COMMIT\n"
  -- `a, a :- b.`, head and body, as rule 0
  pub whole_rule : code_listing worked_names (record {
    head = head_code (worked_atom name_a [] 0 ∷ (worked_atom name_a [] 0 ∷ [])) [];
    body = RemoveAtom 0 ∷ (RemoveAtom 1 ∷ (NewAtom 2 0 (record { label = Name name_b; arity = 0 }) ∷ (Proceed ∷ [])));
  }) 0 ≡
      codes "rule 0\n  FINDATOM A0 M0 a/0\n  FINDATOM A1 M0 a/0\n  NEQATOM A1 A0\n  COMMIT\n  REMOVEATOM A0\n  REMOVEATOM A1\n  NEWATOM A2 M0 b/0\n  PROCEED\n"
  -- the other instructions of bodies, as rule 12
  pub of_bodies : code_listing worked_names (record {
    head = [];
    body = RemovePart 0 ∷ (RemoveMem 1 ∷ (NewInt 3 0 2 ∷ (NewMem 2 0 ∷ (CopyGround 0 2 1 ∷ (MoveCells 1 0 ∷ (LoadRule 2 7 ∷ (CopyRules 1 2 ∷
        (NewLink (new.Atom (record { atom = 2; port = 0 })) (new.Copy 0) ∷ (Relink (new.Atom (record { atom = 2; port = 1 })) (record { atom = 0; port = 1 }) ∷
        (Unify (record { atom = 0; port = 0 }) (record { atom = 1; port = 2 }) ∷ []))))))))));
  }) 12 ≡
      codes "rule 12\n  REMOVEPART G0\n  REMOVEMEM M1\n  NEWINT A3 M0 V2\n  NEWMEM M2 M0\n  COPYGROUND C0 M2 G1\n  MOVECELLS M1 M0\n  LOADRULE M2 7\n  COPYRULES M1 M2\n  NEWLINK A2.0 C0\n  RELINK A2.1 A0.1\n  UNIFY A0.0 A1.2\n"
  -- those of closed contexts, as rule 3
  pub of_closed_rests : code_listing worked_names (record {
    head = [];
    body = RemoveMem 1 ∷ (NewMem 2 0 ∷ (CopyCells 1 2 ∷ (DropCells 1 ∷ (Proceed ∷ []))));
  }) 3 ≡
      codes "rule 3\n  REMOVEMEM M1\n  NEWMEM M2 M0\n  COPYCELLS M1 M2\n  DROPCELLS M1\n  PROCEED\n"

-- Codes that are verified, and for each clause one that breaks it alone or first.
use Rattle.std.specs.Prelude.{ℕ, List, [], ◌∷◌, ◌++◌, map}
use Rattle.lmn_base.specs.declared.functor.Functor.{Functor}
use Rattle.lmn_base.specs.declared.functor.Label.TheVariants.{Name}
use Rattle.lmn_base.specs.Solids.{connector}
use Rattle.lmn_base.specs.SmallTexts.{name_a, name_b, name_p, name_q}
use Rattle.lmn_congruence_splice.specs.Classes.{rising}
use Rattle.lmn_instr_code.specs.declared.instr.AtomPort.{AtomPort}
use Rattle.lmn_instr_code.specs.declared.instr.NewPort.TheVariants as new
use Rattle.lmn_instr_code.specs.declared.instr.Code.{Code}
use Rattle.lmn_instr_code.specs.declared.instr.Instr.{Instr}
use Rattle.lmn_instr_code.specs.declared.instr.Instr.TheVariants.{FindAtom, Deref, Func, InMem, NeqAtom, NotIn, AnyMem, IsInt, IsGround, NAtoms, NMems, NoRules, IsClosed, GetInt, Add, Commit, RemoveAtom, RemovePart, RemoveMem, NewAtom, NewInt, NewMem, MoveCells, CopyCells, DropCells, LoadRule, NewLink, Relink, Unify, Proceed}
use Rattle.lmn_verify_code.specs.Verified.{IsVerified}

abbrev pub functor : ℕ → ℕ → Functor
functor name arity = record { label = Name name; arity = arity }

abbrev pub code : List Instr → List Instr → Code
code head body = record { head = head; body = body }

abbrev pub at : ℕ → ℕ → AtomPort
at a i = record { atom = a; port = i }

-- `a, a :- b.`
abbrev pub two_atoms : List Instr → List Instr → Code
two_atoms apart body = code (FindAtom 0 0 (functor name_a 0) ∷ (FindAtom 1 0 (functor name_a 0) ∷ (apart ++ Commit ∷ []))) body

abbrev pub apart : List Instr
apart = NeqAtom 1 0 ∷ []

abbrev pub one_made : Functor → List Instr
one_made f = RemoveAtom 0 ∷ (RemoveAtom 1 ∷ (NewAtom 2 0 f ∷ (Proceed ∷ [])))

-- `{a(X), b(Y)} :- c(X, Y).`, with these tests, and this behind what is taken out
abbrev pub opened : List Instr → List Instr → Code
opened tests rest = code
    (AnyMem 1 0 ∷ (FindAtom 0 1 (functor name_a 1) ∷ (NotIn (at 0 0) 1 ∷ (FindAtom 1 1 (functor name_b 1) ∷ (NotIn (at 1 0) 1 ∷ (tests ++ Commit ∷ []))))))
    (RemoveAtom 0 ∷ (RemoveAtom 1 ∷ (RemoveMem 1 ∷ rest)))

abbrev pub counted : List Instr
counted = NAtoms 1 2 [] ∷ (NMems 1 0 ∷ (NoRules 1 ∷ []))

abbrev pub relinked : List Instr
relinked = NewAtom 2 0 (functor name_p 2) ∷ (Relink (new.Atom (at 2 0)) (at 0 0) ∷ (Relink (new.Atom (at 2 1)) (at 1 0) ∷ (Proceed ∷ [])))

-- `p($x), q($y) :- int($x), ground($y), $z = $x + $x | p($z).`
abbrev pub computed : Instr → List Instr → Code
computed got tied = code
    (FindAtom 0 0 (functor name_p 1) ∷ (FindAtom 1 0 (functor name_q 1) ∷ (IsInt 0 (at 0 0) 0 ∷ (IsGround 1 (at 1 0) 0 ∷ (GetInt 0 0 ∷ (got ∷ (Add 2 0 1 ∷ (Commit ∷ []))))))))
    (RemoveAtom 0 ∷ (RemoveAtom 1 ∷ (RemovePart 0 ∷ (RemovePart 1 ∷ (NewAtom 2 0 (functor name_p 1) ∷ (NewInt 3 0 2 ∷ tied))))))

abbrev pub both_made : List Instr
both_made = NewLink (new.Atom (at 2 0)) (new.Atom (at 3 0)) ∷ (Proceed ∷ [])

-- `a(X, Z), b(Y, X) :- .`, with Z and Y joined, where b is found by this
abbrev pub followed : List Instr → List Instr → Code
followed found tied = code (FindAtom 0 0 (functor name_a 2) ∷ (found ++ Commit ∷ [])) (RemoveAtom 0 ∷ (RemoveAtom 1 ∷ tied))

abbrev pub by_link : List Instr
by_link = Deref 1 (at 0 0) 1 ∷ (Func 1 (functor name_b 2) ∷ (InMem 1 0 ∷ []))

abbrev pub unified : List Instr
unified = Unify (at 0 1) (at 1 0) ∷ (Proceed ∷ [])

-- so many different atoms
abbrev pub many_atoms : ℕ → Code
many_atoms n = code (map (λ a. FindAtom a 0 (functor a 0)) (rising 0 n) ++ Commit ∷ []) (map RemoveAtom (rising 0 n) ++ Proceed ∷ [])

-- `{$p[], a} :- {$p[]}, {$p[]}.`, where this is asked and this done with what is left in M1
abbrev pub copied : List Instr → List Instr → Code
copied asked done = code
    (AnyMem 1 0 ∷ (FindAtom 0 1 (functor name_a 0) ∷ (asked ++ Commit ∷ [])))
    (RemoveAtom 0 ∷ (RemoveMem 1 ∷ (NewMem 2 0 ∷ (NewMem 3 0 ∷ (done ++ Proceed ∷ [])))))

abbrev pub asked : List Instr
asked = NoRules 1 ∷ (IsClosed 1 [] ∷ [])

abbrev pub both_copied : List Instr
both_copied = CopyCells 1 2 ∷ (CopyCells 1 3 ∷ (DropCells 1 ∷ []))

pub record VerifiedExamples : Type 0 where
  pub row_of_two_atoms : IsVerified (two_atoms apart (one_made (functor name_b 0))) 1
  pub row_of_membrane : IsVerified (opened counted relinked) 1
  pub moved : IsVerified (opened [] (MoveCells 1 0 ∷ relinked)) 1
  pub row_of_integers : IsVerified (computed (GetInt 1 0) both_made) 1
  pub row_of_link : IsVerified (followed by_link unified) 1
  pub rest_copied : IsVerified (copied asked both_copied) 1
  pub rest_dropped : IsVerified (copied asked (DropCells 1 ∷ [])) 1
  -- M1 isn't set
  pub unset : IsVerified (code (FindAtom 0 1 (functor name_a 0) ∷ (Commit ∷ [])) (RemoveAtom 0 ∷ (Proceed ∷ []))) 1 → ⊥
  -- INMEM is missing
  pub not_looked_at : IsVerified (followed (Deref 1 (at 0 0) 1 ∷ (Func 1 (functor name_b 2) ∷ [])) unified) 1 → ⊥
  -- an atom is found behind NMEMS
  pub found_late : IsVerified (code (NMems 0 0 ∷ (FindAtom 0 0 (functor name_a 0) ∷ (Commit ∷ []))) (RemoveAtom 0 ∷ (Proceed ∷ []))) 1 → ⊥
  -- the typed context is no integer
  pub no_integer : IsVerified (computed (GetInt 1 1) both_made) 1 → ⊥
  pub too_many : IsVerified (many_atoms 129) 1 → ⊥
  -- `b` has no port 2
  pub no_port : IsVerified (followed (Deref 1 (at 0 0) 2 ∷ (Func 1 (functor name_b 2) ∷ (InMem 1 0 ∷ []))) unified) 1 → ⊥
  pub connector_made : IsVerified (two_atoms apart (one_made connector)) 1 → ⊥
  pub no_commit : IsVerified (code (FindAtom 0 0 (functor name_a 0) ∷ []) (RemoveAtom 0 ∷ (Proceed ∷ []))) 1 → ⊥
  pub not_apart : IsVerified (two_atoms [] (one_made (functor name_b 0))) 1 → ⊥
  pub membranes_not_apart : IsVerified (code (AnyMem 1 0 ∷ (AnyMem 2 0 ∷ (Commit ∷ []))) (RemoveMem 1 ∷ (RemoveMem 2 ∷ (MoveCells 1 0 ∷ (MoveCells 2 0 ∷ (Proceed ∷ [])))))) 1 → ⊥
  -- A0.0 enters a typed context and is relinked
  pub entry_twice : IsVerified (computed (GetInt 1 0) (Relink (new.Atom (at 2 0)) (at 0 0) ∷ (Relink (new.Atom (at 3 0)) (at 1 0) ∷ (Proceed ∷ [])))) 1 → ⊥
  pub left_in_place : IsVerified (two_atoms apart (RemoveAtom 0 ∷ (NewAtom 2 0 (functor name_b 0) ∷ (Proceed ∷ [])))) 1 → ⊥
  -- what M1 holds besides is neither counted nor moved, and both
  pub not_emptied : IsVerified (opened [] relinked) 1 → ⊥
  pub counted_and_moved : IsVerified (opened counted (MoveCells 1 0 ∷ relinked)) 1 → ⊥
  -- what is left in M1 is copied and not dropped, dropped before it is copied, dropped twice, and moved too
  pub copied_alone : IsVerified (copied asked (CopyCells 1 2 ∷ [])) 1 → ⊥
  pub dropped_first : IsVerified (copied asked (DropCells 1 ∷ (CopyCells 1 2 ∷ []))) 1 → ⊥
  pub dropped_twice : IsVerified (copied asked (DropCells 1 ∷ (DropCells 1 ∷ []))) 1 → ⊥
  pub moved_and_dropped : IsVerified (copied asked (MoveCells 1 2 ∷ (DropCells 1 ∷ []))) 1 → ⊥
  -- no ISCLOSED tells that no link leaves it, and one that names a typed context of another membrane
  pub copied_unasked : IsVerified (copied [] both_copied) 1 → ⊥
  pub other_context : IsVerified (code
      (AnyMem 1 0 ∷ (FindAtom 0 0 (functor name_p 1) ∷ (IsInt 0 (at 0 0) 0 ∷ (IsClosed 1 (0 ∷ []) ∷ (Commit ∷ [])))))
      (RemoveAtom 0 ∷ (RemovePart 0 ∷ (RemoveMem 1 ∷ (DropCells 1 ∷ (Proceed ∷ [])))))) 1 → ⊥
  -- it is moved, copied too, or asked about
  pub copied_and_moved : IsVerified (copied [] (MoveCells 1 2 ∷ (CopyCells 1 3 ∷ []))) 1 → ⊥
  pub asked_and_moved : IsVerified (copied asked (MoveCells 1 2 ∷ [])) 1 → ⊥
  pub counted_and_dropped : IsVerified (opened counted (DropCells 1 ∷ relinked)) 1 → ⊥
  -- what M1 holds is counted in part, and what is left is moved
  pub counted_in_part : IsVerified (copied (NMems 1 0 ∷ []) (MoveCells 1 2 ∷ [])) 1 → ⊥
  -- an atom is found behind ISCLOSED
  pub found_behind_closed : IsVerified (code
      (AnyMem 1 0 ∷ (IsClosed 1 [] ∷ (FindAtom 0 1 (functor name_a 0) ∷ (Commit ∷ []))))
      (RemoveAtom 0 ∷ (RemoveMem 1 ∷ (DropCells 1 ∷ (Proceed ∷ []))))) 1 → ⊥
  -- there is no rule 1
  pub no_rule : IsVerified (two_atoms apart (RemoveAtom 0 ∷ (RemoveAtom 1 ∷ (LoadRule 0 1 ∷ (Proceed ∷ []))))) 1 → ⊥
  -- an atom goes into a membrane that is taken out
  pub into_removed : IsVerified (opened counted (NewAtom 2 1 (functor name_p 0) ∷ (Unify (at 0 0) (at 1 0) ∷ (Proceed ∷ [])))) 1 → ⊥
  -- A0.1 and A1.0 are in no place, and A0.1 twice
  pub left_open : IsVerified (followed by_link (Proceed ∷ [])) 1 → ⊥
  pub tied_to_itself : IsVerified (followed by_link (Unify (at 0 1) (at 0 1) ∷ (Unify (at 1 0) (at 1 0) ∷ (Proceed ∷ [])))) 1 → ⊥
  pub no_end : IsVerified (two_atoms apart (RemoveAtom 0 ∷ (RemoveAtom 1 ∷ []))) 1 → ⊥

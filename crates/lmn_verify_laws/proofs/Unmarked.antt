-- No mark of an atom comes where code is committed.
use Rattle.std.proofs.Common.{◌≡◌, ◌+◌, ◌∙◌, inl, inr, ℕ, List, [], ◌∷◌, Option, Some, None, sym, ap, subst}
use Rattle.std.proofs.lemmas.Bool.{cases_eq}
use Rattle.std.specs.Prelude.{slice_index_or}
use Rattle.lmn_base.specs.declared.functor.Functor.{Functor}
use Rattle.lmn_base.proofs.Numbers.{zeros_at}
use Rattle.lmn_store_heap.specs.Heap.{Heap, HeapAtom, Unmarked, functor_of, made_atom, marks_of, new_atom}
use Rattle.lmn_store_heap.proofs.Listing.{alter_at, alter_away}
use Rattle.lmn_ground_parts.specs.Copies.{answer, made_as, made_like, ports_of}
use Rattle.lmn_ground_parts.specs.Rests.{made_roomy, rest_copied}
use Rattle.lmn_ground.proofs.JoinLaws.{marks_linked}
use Rattle.lmn_instr_code.specs.declared.instr.Instr.{Instr}
use Rattle.lmn_instr_code.specs.declared.instr.Instr.TheVariants.{RemoveAtom, RemovePart, RemoveMem, NewAtom, NewInt, NewMem, CopyGround, MoveCells, CopyCells, LoadRule, CopyRules, DropCells, NewLink, Relink, Unify, Proceed}
use Rattle.lmn_solid_bodies.specs.Running.{Registers, DoesAll, Makes, Prepares, integer_functor}
use Rattle.lmn_solid_bodies.proofs.RestJoins.{all_view}
use Rattle.lmn_solid_bodies.proofs.RestsMade.{roomy_atoms}
use Rattle.lmn_machine_commit.proofs.Marks.{does_unmarked}
use Rattle.lmn_machine_commit.proofs.Waiting.{makes_copy}
use Rattle.lmn_machine_commit.proofs.Woken.{marks_unmarked}
use Rattle.lmn_verify_laws.specs.Laws.{CommitsStayUnmarked}

made_unmarked : (s : Heap) (a : ℕ) (f : Functor) → Unmarked s → Unmarked (made_atom s a f)
made_unmarked s a f u b i = elim (cases_eq b a) [
  | inl e ↦ ap (λ (o : Option HeapAtom). slice_index_or (marks_of o) i 0) (ap (made_atom s a f).atoms e ∙ alter_at s.atoms a (λ _. Some (new_atom f))) ∙ zeros_at (f.arity + 1) i
  | inr d ↦ ap (λ (o : Option HeapAtom). slice_index_or (marks_of o) i 0) (alter_away s.atoms a (λ _. Some (new_atom f)) b d) ∙ u b i
]

made_as_unmarked : (s : Heap) (a : ℕ) (o : Option Functor) → Unmarked s → Unmarked (made_as s a o)
made_as_unmarked s a None u = u
made_as_unmarked s a (Some f) u = made_unmarked s a f u

like_unmarked : (xs ys : List ℕ) (s : Heap) → Unmarked s → Unmarked (made_like s xs ys)
like_unmarked [] ys s u = u
like_unmarked (x ∷ xs) [] s u = u
like_unmarked (x ∷ xs) (y ∷ ys) s u = like_unmarked xs ys (made_as s y (functor_of s x)) (made_as_unmarked s y (functor_of s x) u)

roomy_unmarked : (s : Heap) (rooms : List (ℕ × ℕ)) → Unmarked s → Unmarked (made_roomy s rooms)
roomy_unmarked s rooms u a i = ap (λ (g : ℕ → Option HeapAtom). slice_index_or (marks_of (g a)) i 0) (roomy_atoms s rooms).0 ∙ u a i

rest_unmarked : (s : Heap) (xs : List ℕ) (rooms : List (ℕ × ℕ)) (ys : List ℕ) → Unmarked s → Unmarked (rest_copied s xs rooms ys)
rest_unmarked s xs rooms ys u a i =
    let made = made_like (made_roomy s rooms) xs ys in
    ap (λ (ms : List ℕ). slice_index_or ms i 0) (all_view marks_of marks_linked (answer xs ys) made (ports_of made xs) a) ∙ like_unmarked xs ys (made_roomy s rooms) (roomy_unmarked s rooms u) a i

same_unmarked : (s t : Heap) → t ≡ s → Unmarked s → Unmarked t
same_unmarked s t e u = subst Unmarked (sym e) u

makes_unmarked : (r : Registers) (i : Instr) (s t : Heap) → Makes r i s t → Unmarked s → Unmarked t
makes_unmarked r (RemoveAtom a) s t w u = same_unmarked s t w u
makes_unmarked r (RemovePart g) s t w u = same_unmarked s t w u
makes_unmarked r (RemoveMem m) s t w u = same_unmarked s t w u
makes_unmarked r (NewAtom a m f) s t w u = subst Unmarked (sym w.1) (made_unmarked s (r.head.images.atom a) f u)
makes_unmarked r (NewInt a m v) s t w u = subst Unmarked (sym w.1) (made_unmarked s (r.head.images.atom a) (integer_functor (r.head.integer v)) u)
makes_unmarked r (NewMem m n) s t w u = subst Unmarked (sym w.1) u
makes_unmarked r (CopyGround c m g) s t w u = (makes_copy s t (r.head.images.part g) (r.copy c) w.0).unmarked u
makes_unmarked r (MoveCells m n) s t w u = same_unmarked s t w u
makes_unmarked r (CopyCells m n) s t w u = subst Unmarked (sym w.2.is) (rest_unmarked s (r.left_atoms m) w.1 w.0 u)
makes_unmarked r (LoadRule m k) s t w u = subst Unmarked (sym w.1) u
makes_unmarked r (CopyRules m n) s t w u = subst Unmarked (sym w.1) u
makes_unmarked r (DropCells m) s t w u = same_unmarked s t w u
makes_unmarked r (NewLink p q) s t w u = same_unmarked s t w u
makes_unmarked r (Relink p h) s t w u = same_unmarked s t w u
makes_unmarked r (Unify g h) s t w u = same_unmarked s t w u
makes_unmarked r Proceed s t w u = same_unmarked s t w u
makes_unmarked r _ s t w u = absurd w

prepares_unmarked : (r : Registers) (is : List Instr) (s t : Heap) → Prepares r is s t → Unmarked s → Unmarked t
prepares_unmarked r [] s t w u = same_unmarked s t w u
prepares_unmarked r (i ∷ is) s t w u = prepares_unmarked r is w.0 t w.2 (makes_unmarked r i s w.0 w.1 u)

does_all_unmarked : (r : Registers) (is : List Instr) (s t : Heap) → DoesAll r is s t → Unmarked s → Unmarked t
does_all_unmarked r [] s t w u = same_unmarked s t w u
does_all_unmarked r (i ∷ is) s t w u = does_all_unmarked r is w.0 t w.2 (does_unmarked r i s w.0 w.1 u)

-- What is made is without marks, and what is done leaves none.
pub commits_stay_unmarked : CommitsStayUnmarked
commits_stay_unmarked h r code z done u =
    marks_unmarked done.after z done.alike (does_all_unmarked r code done.prepared done.after done.does (prepares_unmarked r code h done.prepared done.prepares u))

-- A rest that no link leaves has a copy.
use Rattle.std.proofs.Common.{ℕ, ◌≡◌, ◌≤◌, ◌+◌, List, [], ◌∷◌, map, length, None, refl, sym, ap, subst, arith}
use Rattle.lmn_store_heap.specs.Heap.{Heap, rules_in}
use Rattle.lmn_ground_parts.specs.Rests.{AreNewMembranes, AreRoomsFor, RestCopied, rest_copied}
use Rattle.lmn_adequacy_heaps.proofs.Runs.{in_run, run_distinct}
use Rattle.lmn_adequacy_heaps.proofs.Walking.{run}
use Rattle.lmn_adequacy_choices.proofs.Copying.{length_run}

-- for each of some membranes one with a new number, from q on, and room for its rules
abbrev pub rooms_for : Heap → (ℕ → ℕ) → ℕ → List ℕ → List (ℕ × ℕ)
rooms_for s number q [] = []
rooms_for s number q (m ∷ ms) = (number q, length (rules_in s m)) ∷ rooms_for s number (q + 1) ms

-- their numbers
pub room_numbers : (s : Heap) (number : ℕ → ℕ) (q : ℕ) (ms : List ℕ) → map (λ (e : ℕ × ℕ). e.0) (rooms_for s number q ms) ≡ run number q (length ms)
room_numbers s number q [] = refl
room_numbers s number q (m ∷ ms) = ap (λ zs. number q ∷ zs) (room_numbers s number (q + 1) ms)

enough_room : (s : Heap) (number : ℕ → ℕ) (q : ℕ) (ms : List ℕ) → AreRoomsFor s ms (rooms_for s number q ms)
enough_room s number q [] = refl
enough_room s number q (m ∷ ms) = (omega arith, enough_room s number (q + 1) ms)

module _ (s : Heap) (atoms membranes : List ℕ) (number : ℕ → ℕ) (q : ℕ) (apart : (i j : ℕ) → number i ≡ number j → i ≡ j)
    (fresh : (j : ℕ) → q ≤ j → s.atoms (number j) ≡ None) (fresh_mems : (j : ℕ) → q ≤ j → s.mems (number j) ≡ None) where
  -- the copies of the atoms have the new numbers from q on
  abbrev pub copies : List ℕ
  copies = run number q (length atoms)

  -- and so have those of the membranes
  abbrev pub rooms : List (ℕ × ℕ)
  rooms = rooms_for s number q membranes

  -- the heap in which they wait
  abbrev pub copied_rest : Heap
  copied_rest = rest_copied s atoms rooms copies

  -- the rest is copied there
  pub rest_has_copy : RestCopied s copied_rest atoms membranes copies rooms
  rest_has_copy = record {
    new_atoms = (
      run_distinct number q (length atoms) (λ i j l k e. let d = apart (q + i) (q + j) e in omega (arith, d)),
      λ y i. let u = in_run number q (length atoms) y i in subst (λ z. s.atoms z ≡ None) u.2 (fresh (q + u.0) (omega arith)),
    );
    new_membranes = subst (AreNewMembranes s) (sym (room_numbers s number q membranes)) (
      run_distinct number q (length membranes) (λ i j l k e. let d = apart (q + i) (q + j) e in omega (arith, d)),
      λ y i. let u = in_run number q (length membranes) y i in subst (λ z. s.mems z ≡ None) u.2 (fresh_mems (q + u.0) (omega arith)),
    );
    long = length_run number q (length atoms);
    roomy = enough_room s number q membranes;
    is = refl;
  }

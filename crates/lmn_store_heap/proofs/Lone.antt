-- A store that holds nothing but the root is valid.
use Rattle.std.proofs.Common.{◌≡◌, ◌≢◌, ◌⊎◌, ℕ, ◌<◌, [], Option, Some, None, IsSome, refl, sym, ap, subst, ◌∙◌, inl, inr, arith}
use Rattle.std.proofs.lemmas.Bool.{cases_eq}
use Rattle.std.specs.Option.{option_map}
use Rattle.lmn_store_heap.specs.Heap.{HeapAtom, HeapMem, Place, top, within, waiting, new_mem, mem_with_place, mem_place_of, atoms_in, mems_in, atoms_by, mems_by, IsMem, lone_root}
use Rattle.lmn_store_heap.specs.Sound.{Listed, Sound, bare, mem, Valid}
use Rattle.lmn_store_heap.proofs.Listing.{alter_at, alter_away}
use Rattle.lmn_store_heap.proofs.Shapes.{shaped_of}

abbrev nothing : ℕ → Option HeapMem
nothing m = None

-- the root with nothing in it
abbrev pub the_root : HeapMem
the_root = mem_with_place top new_mem

cases : (m : ℕ) → ((m ≡ 0) × (lone_root.mems m ≡ Some the_root)) ⊎ ((m ≢ 0) × (lone_root.mems m ≡ None))
cases m = elim (cases_eq m 0) [
  | inl e ↦ inl (e, subst (λ z. lone_root.mems z ≡ Some the_root) (sym e) (alter_at nothing 0 (λ _. Some the_root)))
  | inr d ↦ inr (d, alter_away nothing 0 (λ _. Some the_root) m d)
]

no_atoms : (m : ℕ) → atoms_in lone_root m ≡ []
no_atoms m = elim (cases m) [ inl w ↦ ap atoms_by w.1 | inr w ↦ ap atoms_by w.1 ]

no_mems : (m : ℕ) → mems_in lone_root m ≡ []
no_mems m = elim (cases m) [ inl w ↦ ap mems_by w.1 | inr w ↦ ap mems_by w.1 ]

only_top : (m : ℕ) (P : Place) → mem_place_of lone_root m ≡ Some P → (P ≡ top) × (m ≡ 0)
only_top m P e = elim (cases m) [
  | inl w ↦ ((let u : Some top ≡ Some P = sym (ap (λ (o : Option HeapMem). option_map (λ x. x.place) o) w.1) ∙ e in sym (let v : top ≡ P = (cc) in v)), w.0)
  | inr w ↦ absurd (let u : None ≡ Some P = sym (ap (λ (o : Option HeapMem). option_map (λ x. x.place) o) w.1) ∙ e in cc)
]

none_at : (P : Place) → ◌≡◌ {A = Option Place} None (Some P) → ⊥
none_at P e = absurd (cc)

lone_listed : Listed lone_root
lone_listed = record {
  atoms = λ m a. rw (no_atoms m) (λ i. absurd i, λ e. absurd (none_at (within m) e));
  atoms_once = λ m. rw (no_atoms m) tt;
  mems = λ m n. rw (no_mems m) (λ i. absurd i, λ e. let w = (only_top n (within m) e).0 in absurd (cc));
  mems_once = λ m. rw (no_mems m) tt;
  new_atoms = λ a. (λ i. absurd i, λ e. absurd (none_at waiting e));
  new_atoms_once = tt;
  new_mems = λ m. (λ i. absurd i, λ e. let w = (only_top m waiting e).0 in absurd (cc));
  new_mems_once = tt;
  root = λ m. (λ e. (only_top m top e).1, λ z. subst (λ k. mem_place_of lone_root k ≡ Some top) (sym z) (ap (λ (o : Option HeapMem). option_map (λ x. x.place) o) (alter_at nothing 0 (λ _. Some the_root))));
  no_top = λ a e. none_at top e;
  new_empty = λ m e. (no_atoms m, no_mems m);
}

lone_sound : Sound lone_root
lone_sound = record {
  paired = record {
    back = λ a i b j e. absurd (let u : ◌≡◌ {A = Option (ℕ × ℕ)} None (Some (b, j)) = e in cc);
    apart = λ a i e. let u : ◌≡◌ {A = Option (ℕ × ℕ)} None (Some (a, i)) = e in absurd (cc);
  };
  listed = lone_listed;
  shaped = shaped_of lone_root (λ a. tt);
}

-- the membrane 0 is the only one of a lone root
pub is_root : (m : ℕ) → IsMem lone_root m → m ≡ 0
is_root m i = elim (cases m) [
  | inl w ↦ w.0
  | inr w ↦ absurd (let u : IsSome {T = HeapMem} None = subst (λ (o : Option HeapMem). IsSome o) w.1 i in cc)
]

-- nothing but the root
pub lone_valid : Valid lone_root
lone_valid = record {
  sound = lone_sound;
  settled = record {
    atoms = λ a i. absurd (let u : IsSome {T = HeapAtom} None = i in cc);
    mems = λ m i. inl ((lone_listed.root m).1 (is_root m i));
  };
  full = λ a i h. absurd (let u : i < 0 = h in omega arith);
  no_connector = λ a i e. let u : IsSome {T = ℕ} None = i in absurd (cc);
  tree = (
    mem 0 bare bare,
    record {
      forms = ([], refl, sym (sym (no_mems 0)), refl);
      once = (tt, tt);
      all = λ m i. inl (sym (is_root m i));
    },
  );
}

-- Each call keeps what holds at every moment.
use Rattle.std.proofs.Common.{◌≡◌, ℕ, [], ◌∷◌, Option, Some, None, IsSome, refl, sym, ap}
use Rattle.std.specs.Option.{option_map, option_and_then}
use Rattle.std.specs.Prelude.{slice_index_or}
use Rattle.lmn_store_heap.specs.Heap.{Heap, HeapAtom, HeapMem, Place, top, within, waiting, gone, alter, partners_of, atoms_by, mems_by, home_of, parent_of, mem_place_of, with_mark, mem_with_mark, mem_with_spare, mem_with_rules, with_place, atom_sent, unless_waiting, IsTopOrWithin, IsMemInPlace, made_atom, made_mem, discarded, placed, placed_mem, taken, taken_mem, moved_all, rules_in, joined}
use Rattle.lmn_store_heap.specs.Sound.{Sound}
use Rattle.lmn_store_heap.specs.Conditions.{IsOutside}
use Rattle.lmn_store_heap.specs.Laws.{KeepsSound, CallsKeepSound, FinishedIsValid, OneTree}
use Rattle.lmn_store_heap.proofs.Ports.{joined_paired}
use Rattle.lmn_store_heap.proofs.Listing.{alter_keeps, same_listed, same_paired, made_listed, placed_listed, placed_paired, taken_listed, taken_paired, joined_listed}
use Rattle.lmn_store_heap.proofs.MemListing.{made_mem_listed, placed_mem_listed, taken_mem_listed}
use Rattle.lmn_store_heap.proofs.MoveListing.{moved_all_listed}
use Rattle.lmn_store_heap.proofs.Discard.{discarded_listed, discarded_paired}
use Rattle.lmn_store_heap.proofs.Finish.{finished_sound, finish_valid}
use Rattle.lmn_store_heap.proofs.Shapes.{WellShaped, KeepsShape, shaped_of, shaped_at, shape_alter, place_shape, mark_shape, made_shape, joined_shape, made_paired}
use Rattle.lmn_store_heap.proofs.Groves.{forms_one}
use Rattle.lmn_store_heap.proofs.Depths.{tree_once}
use Rattle.lmn_base.proofs.Lists.{some_is}

-- the membrane in which something is placed is there, and doesn't wait
pub stands_some : (o : Option HeapMem) → IsTopOrWithin (option_map (λ x. x.place) o) → IsSome o
stands_some None s = absurd s
stands_some (Some x) s = refl

stands_still : (o : Option Place) → IsTopOrWithin o → o ≡ Some waiting → ⊥
stands_still None s e = absurd s
stands_still (Some top) s e = absurd (cc)
stands_still (Some (within m)) s e = absurd (cc)
stands_still (Some waiting) s e = absurd s
stands_still (Some gone) s e = absurd s

module _ (s : Heap) (sound : Sound s) where
  atoms_shaped : (a : ℕ) → WellShaped (s.atoms a)
  atoms_shaped = shaped_at s sound.shaped

  -- a change of one atom that keeps its place, its links and its shape
  atom_kept : (a : ℕ) (g : HeapAtom → HeapAtom) → ((x : HeapAtom) → (g x).place ≡ x.place) → ((x : HeapAtom) → (g x).links ≡ x.links) → KeepsShape g
      → Sound (record s { atoms = alter s.atoms a (option_map g) })
  atom_kept a g place links shape =
      let t : Heap = record s { atoms = alter s.atoms a (option_map g) } in
      record {
        paired = same_paired s t (λ x i. ap (λ ls. slice_index_or ls i None) (alter_keeps s.atoms a (option_map g) partners_of by_links x)) sound.paired;
        listed = same_listed s t sound.listed (alter_keeps s.atoms a (option_map g) (λ (o : Option HeapAtom). option_map (λ x. x.place) o) by_place) (λ m. refl) (λ m. refl) (λ m. refl) refl refl refl;
        shaped = shaped_of t (shape_alter s.atoms a g shape atoms_shaped);
      }
    where
      by_place : (o : Option HeapAtom) → option_map (λ x. x.place) (option_map g o) ≡ option_map (λ x. x.place) o
      by_place None = refl
      by_place (Some x) = ap (λ z. Some z) (place x)

      by_links : (o : Option HeapAtom) → partners_of (option_map g o) ≡ partners_of o
      by_links None = refl
      by_links (Some x) = links x

  -- a change of one membrane that keeps its place and what stands in it
  mem_kept : (m : ℕ) (g : HeapMem → HeapMem) → ((x : HeapMem) → (g x).place ≡ x.place) → ((x : HeapMem) → (g x).atoms ≡ x.atoms) → ((x : HeapMem) → (g x).mems ≡ x.mems)
      → Sound (record s { mems = alter s.mems m (option_map g) })
  mem_kept m g place atoms mems =
      let t : Heap = record s { mems = alter s.mems m (option_map g) } in
      record {
        paired = same_paired s t (λ x i. refl) sound.paired;
        listed = same_listed s t sound.listed (λ a. refl)
            (alter_keeps s.mems m (option_map g) (λ (o : Option HeapMem). option_map (λ x. x.place) o) by_place)
            (alter_keeps s.mems m (option_map g) atoms_by by_atoms) (alter_keeps s.mems m (option_map g) mems_by by_mems) refl refl refl;
        shaped = shaped_of t atoms_shaped;
      }
    where
      by_place : (o : Option HeapMem) → option_map (λ x. x.place) (option_map g o) ≡ option_map (λ x. x.place) o
      by_place None = refl
      by_place (Some x) = ap (λ z. Some z) (place x)

      by_atoms : (o : Option HeapMem) → atoms_by (option_map g o) ≡ atoms_by o
      by_atoms None = refl
      by_atoms (Some x) = atoms x

      by_mems : (o : Option HeapMem) → mems_by (option_map g o) ≡ mems_by o
      by_mems None = refl
      by_mems (Some x) = mems x

  left_shaped : (o : Option HeapAtom) → WellShaped o → WellShaped (option_and_then unless_waiting o)
  left_shaped None w = tt
  left_shaped (Some x) w = by x.place refl
    where
      by : (p : Place) → x.place ≡ p → WellShaped (unless_waiting x)
      by top e = rw e w
      by (within m) e = rw e w
      by waiting e = rw e tt
      by gone e = rw e w

  moved_sound : (m n : ℕ) → IsMemInPlace s n → IsOutside s n m → Sound (moved_all s m n)
  moved_sound m n stands outside = record {
    paired = same_paired s (moved_all s m n) (λ x i. ap (λ ls. slice_index_or ls i None) (by_links (s.atoms x))) sound.paired;
    listed = moved_all_listed s m n (λ e. outside 0 (sym e)) (stands_some (s.mems n) stands) (stands_still (mem_place_of s n) stands) sound.listed;
    shaped = shaped_of (moved_all s m n) (λ a. by_shape (s.atoms a) (atoms_shaped a));
  }
    where
      by_links : (o : Option HeapAtom) → partners_of (option_map (atom_sent m n) o) ≡ partners_of o
      by_links None = refl
      by_links (Some x) = refl

      by_shape : (o : Option HeapAtom) → WellShaped o → WellShaped (option_map (atom_sent m n) o)
      by_shape None w = tt
      by_shape (Some x) w = w

  taken_sound : (a : ℕ) (home : (m : ℕ) × (home_of s a ≡ Some m)) → Sound (taken s a)
  taken_sound a home = record {
    paired = taken_paired s a sound.paired;
    listed = taken_listed s home.0 a sound.listed home.1;
    shaped = shaped_of (taken s a) (shape_alter s.atoms a (with_place gone) (place_shape gone) atoms_shaped);
  }

  taken_mem_sound : (n : ℕ) (parent : (m : ℕ) × (parent_of s n ≡ Some m)) → Sound (taken_mem s n)
  taken_mem_sound n parent = record {
    paired = same_paired s (taken_mem s n) (λ x i. refl) sound.paired;
    listed = taken_mem_listed s parent.0 n sound.listed parent.1;
    shaped = shaped_of (taken_mem s n) atoms_shaped;
  }

  pub keeps_sound : KeepsSound s
  keeps_sound = record {
    set_mark = λ a slot v. atom_kept a (with_mark slot v) (λ x. refl) (λ x. refl) (mark_shape slot v);
    set_mem_mark = λ m v. mem_kept m (mem_with_mark v) (λ x. refl) (λ x. refl) (λ x. refl);
    make_atom = λ a f fresh. record {
      paired = made_paired s a f fresh sound.paired;
      listed = made_listed s a f sound.listed fresh;
      shaped = shaped_of (made_atom s a f) (made_shape s.atoms a f atoms_shaped);
    };
    make_mem = λ m fresh. record {
      paired = same_paired s (made_mem s m) (λ x i. refl) sound.paired;
      listed = made_mem_listed s m sound.listed fresh;
      shaped = shaped_of (made_mem s m) atoms_shaped;
    };
    reserve_rules = λ m n. mem_kept m (mem_with_spare n) (λ x. refl) (λ x. refl) (λ x. refl);
    discard = λ alone. record {
      paired = discarded_paired s sound.paired alone;
      listed = discarded_listed s sound.listed;
      shaped = shaped_of (discarded s) (λ a. left_shaped (s.atoms a) (atoms_shaped a));
    };
    place_atom = λ m a stands first. record {
      paired = placed_paired s m a sound.paired;
      listed = placed_listed s m a sound.listed (stands_some (s.mems m) stands) (stands_still (mem_place_of s m) stands) first;
      shaped = shaped_of (placed s m a) (shape_alter s.atoms a (with_place (within m)) (place_shape (within m)) atoms_shaped);
    };
    place_mem = λ m n stands first. record {
      paired = same_paired s (placed_mem s m n) (λ x i. refl) sound.paired;
      listed = placed_mem_listed s m n sound.listed (stands_some (s.mems m) stands) (stands_still (mem_place_of s m) stands) first;
      shaped = shaped_of (placed_mem s m n) atoms_shaped;
    };
    take_atom = λ a home. taken_sound a (some_is (home_of s a) home);
    take_mem = λ n parent. taken_mem_sound n (some_is (parent_of s n) parent);
    move_all = moved_sound;
    add_rule = λ m k. mem_kept m (mem_with_rules (k ∷ [])) (λ x. refl) (λ x. refl) (λ x. refl);
    copy_rules = λ m n. mem_kept n (mem_with_rules (rules_in s m)) (λ x. refl) (λ x. refl) (λ x. refl);
    join = λ a i b j ra rb differ. record {
      paired = joined_paired s a i b j ra rb (λ w. differ (λ t. (w.0 t, w.1 t))) sound.paired;
      listed = joined_listed s a i b j sound.listed;
      shaped = shaped_of (joined s a i b j) (joined_shape s a i b j atoms_shaped);
    };
    finish = λ ready. finished_sound s sound ready;
  }

-- each call keeps what holds at every moment
pub calls_keep_sound : CallsKeepSound
calls_keep_sound s sound = keeps_sound s sound

-- after `finish` a heap is valid, where all its membranes are in the tree and none of its atoms is a connector
pub finished_is_valid : FinishedIsValid
finished_is_valid s f sound ready forms all plain = finish_valid s sound ready f forms (tree_once s sound.listed f forms) all plain

-- a heap has one tree
pub one_tree : OneTree
one_tree s f g F G = forms_one s f g (s.root ∷ []) F.forms G.forms

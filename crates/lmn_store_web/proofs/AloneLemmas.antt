-- A heap with the root alone is valid.
use Rattle.std.proofs.Common.{◌≡◌, ◌<◌, ℕ, [], Option, Some, None, IsSome, refl, sym, ap, subst, ◌∙◌, inl, inr, arith}
use Rattle.std.proofs.lemmas.Bool.{cases_eq}
use Rattle.std.specs.Option.{option_map}
use Rattle.lmn_store_heap.specs.Heap.{HeapAtom, HeapMem, mem_place_of, mems_by, IsMem}
use Rattle.lmn_store_heap.specs.Sound.{Sound, Valid, bare, mem}
use Rattle.lmn_store_heap.proofs.Listing.{alter_at, alter_away}
use Rattle.lmn_store_heap.proofs.Lone.{the_root}
use Rattle.lmn_store_web.specs.WebHeaps.{alone}

module _ (r : ℕ) where
  abbrev none : ℕ → Option HeapMem
  none m = None

  root_is : (alone r).mems r ≡ Some the_root
  root_is = alter_at none r (λ _. Some the_root)

  only_root : (m : ℕ) → IsMem (alone r) m → m ≡ r
  only_root m i = elim (cases_eq m r) [
    | inl e ↦ e
    | inr d ↦ absurd (let u : IsSome {T = HeapMem} None = subst (λ (o : Option HeapMem). IsSome o) (alter_away none r (λ _. Some the_root) m d) i in cc)
  ]

  pub alone_valid : Sound (alone r) → Valid (alone r)
  alone_valid sound = record {
    sound = sound;
    settled = record {
      atoms = λ a i. absurd (let u : IsSome {T = HeapAtom} None = i in cc);
      mems = λ m i. inl (ap (mem_place_of (alone r)) (only_root m i) ∙ ap (λ (o : Option HeapMem). option_map (λ x. x.place) o) root_is);
    };
    full = λ a i h. absurd (let u : i < 0 = h in omega arith);
    no_connector = λ a i e. let u : IsSome {T = ℕ} None = i in absurd (cc);
    tree = (
      mem r bare bare,
      record {
        forms = ([], refl, ap mems_by root_is, refl);
        once = (tt, tt);
        all = λ m i. inl (sym (only_root m i));
      },
    );
  }

-- What codes choose on a heap with other numbers, and that it costs one number of items.
use Rattle.std.proofs.Common.{◌≡◌, ◌∙◌, ℕ, List, [], ◌∷◌, ◌++◌, Option, Some, None, map, refl, sym, ap, subst}
use Rattle.std.specs.Prelude.{slice_get, take}
use Rattle.std.specs.Option.{option_map}
use Rattle.std.proofs.lemmas.List.{map-append}
use Rattle.std.proofs.lemmas.Option.{same_Some}
use Rattle.lmn_base.specs.Lists.{In}
use Rattle.lmn_store_heap.specs.Heap.{Heap, HeapMem, mem_with_spare, rules_in}
use Rattle.lmn_store_heap.specs.Sound.{Forest, IsTree, flat}
use Rattle.lmn_solid_bodies.specs.Stopping.{SameButSpares}
use Rattle.lmn_instr_code.specs.declared.instr.Code.{Code}
use Rattle.lmn_instr_code.specs.declared.instr.Instr.{Instr}
use Rattle.lmn_instr_code.specs.Running.{HeadRegisters, IsFirstSuccess}
use Rattle.lmn_machine.specs.Costs.{Leaves}
use Rattle.lmn_schedule_strategy.specs.Choosing.{CodeSucceeds, IsFirstIn, IsFirstRule, NoneIn, asked}
use Rattle.lmn_schedule_strategy.specs.Turns.{AreRunnable, Chooses, HoldsRestsOf}
use Rattle.lmn_schedule_strategy.specs.declared.turning.Turn.{Turn}
use Rattle.lmn_schedule_strategy.specs.declared.turning.Turn.TheVariants.{NoMemory}
use Rattle.lmn_verify_renaming.specs.Registers.{renamed_head}
use Rattle.lmn_verify_renaming.specs.Renamed.{Renaming, SameButRoom, inverse, renamed}
use Rattle.lmn_verify_renaming.proofs.Heads.{first_there, succeeds_back, succeeds_there}
use Rattle.lmn_verify_renaming.proofs.Numbers.{in_back}
use Rattle.lmn_verify_renaming.proofs.Room.{heads_read_no_room}
use Rattle.lmn_verify_renaming.proofs.Solids.{flat_there, renamed_forest}
use Rattle.lmn_verify_turns.proofs.Carried.{leaves_there, renamed_registers, rests_there}
use Rattle.lmn_verify_turns.proofs.Costs.{leaves_one}
use Rattle.lmn_verify_turns.proofs.Matches.{one_first, one_match}
use Rattle.lmn_verify_turns.proofs.SameBut.{Reads, reads, same_back}

-- The heap in which nothing waits
abbrev pub cleared : Heap → Heap
cleared s = record s { new_atoms = []; new_mems = [] }

-- is what a turn leaves that stops for want of memory, and makes no room.
pub kept : (s : Heap) → SameButSpares s (cleared s)
kept s = record { root = refl; atoms = λ b. refl; mems = λ b. by (s.mems b); new_atoms = refl; new_mems = refl }
  where
    by : (o : Option HeapMem) → (k : ℕ) × (o ≡ option_map (mem_with_spare k) o)
    by None = (0, refl)
    by (Some x) = (x.spare, refl)

module _ (q : Renaming) (h k : Heap) (same : SameButRoom (renamed q h) k) where
  abbrev M : ℕ → ℕ
  M = q.mems.to

  abbrev read : Reads q h k
  read = reads q h k same

  -- The first success of head code has the other numbers.
  pub first_success : (code : List Instr) (m : ℕ) (g : HeadRegisters) → IsFirstSuccess h code m g → IsFirstSuccess k code (M m) (renamed_head q g)
  first_success code m g w = (heads_read_no_room (renamed q h) k same code (M m) (renamed_head q g)).1 (first_there q h code m g w)

  module _ (codes : List Code) where
    success_there : (m n : ℕ) → CodeSucceeds h codes m n → CodeSucceeds k codes (M m) n
    success_there m n c = record {
      code = c.code;
      is = c.is;
      registers = renamed_head q c.registers;
      succeeds = (heads_read_no_room (renamed q h) k same c.code.head (M m) (renamed_head q c.registers)).0 (succeeds_there q h c.registers c.code.head m c.succeeds);
    }

    success_back : (m n : ℕ) → CodeSucceeds k codes (M m) n → CodeSucceeds h codes m n
    success_back m n c = record {
      code = c.code;
      is = c.is;
      registers = renamed_head (inverse q) c.registers;
      succeeds = succeeds_back q h c.code.head m c.registers ((heads_read_no_room k (renamed q h) (same_back (renamed q h) k same) c.code.head (M m) c.registers).0 c.succeeds);
    }

    none_there : (ms : List ℕ) → NoneIn h codes ms → NoneIn k codes (map M ms)
    none_there ms w = λ b i n j c.
        (let a = q.mems.back b in
        let again = q.mems.again b in
        w a (in_back q.mems b ms i) n (subst (In n) (ap (rules_in k) (sym again) ∙ (read).rules a) j) (success_back a n (subst (λ z. CodeSucceeds k codes z n) (sym again) c)))

    rule_there : (m place n : ℕ) → IsFirstRule h codes m place n → IsFirstRule k codes (M m) place n
    rule_there m place n f = record {
      stands = ap (λ (ls : List ℕ). slice_get ls place) ((read).rules m) ∙ f.stands;
      succeeds = success_there m n f.succeeds;
      earlier = λ j i c. f.earlier j (subst (λ ls. In j (take place ls)) ((read).rules m) i) (success_back m j c);
    }

    first_in : (ms : List ℕ) (m place n : ℕ) → IsFirstIn h codes ms m place n → IsFirstIn k codes (map M ms) (M m) place n
    first_in ms m place n f = record {
      earlier = map M f.earlier;
      later = map M f.later;
      order = ap (map M) f.order ∙ map-append M f.earlier (m ∷ f.later);
      none = none_there f.earlier f.none;
      rule = rule_there m place n f.rule;
    }

    -- Where membranes are asked from the root on, the first rule that succeeds is one;
    pub first_asked : (f : Forest) (m place n : ℕ) → IsFirstIn h codes (asked 0 f) m place n → IsFirstIn k codes (asked 0 (renamed_forest M f)) (M m) place n
    first_asked f m place n w =
        let order : map M (asked 0 f) ≡ asked 0 (renamed_forest M f) = map-append M (flat f) [] ∙ ap (λ ls. ls ++ []) (sym (flat_there M f)) in
        subst (λ ms. IsFirstIn k codes ms (M m) place n) order (first_in (asked 0 f) m place n w)

    -- and where none succeeds, none does with the other numbers.
    pub nothing_there : (f : Forest) → NoneIn h codes (flat f) → NoneIn k codes (flat (renamed_forest M f))
    nothing_there f w = subst (NoneIn k codes) (sym (flat_there M f)) (none_there (flat f) w)

    -- What is chosen has the other numbers.
    abbrev pub chosen_there : (size : ℕ) (f : Forest) → IsTree h f → (h' : Heap) → Chooses h codes (asked 0 f) size NoMemory h' → Chooses k codes (asked 0 (renamed_forest M f)) size NoMemory (cleared k)
    chosen_there size f tree h' c = record {
      membrane = M c.membrane;
      place = c.place;
      rule = c.rule;
      chosen = first_asked f c.membrane c.place c.rule c.chosen;
      code = c.code;
      is = c.is;
      registers = renamed_registers q c.registers;
      first = first_success c.code.head c.membrane c.registers.head c.first;
      rests = rests_there q h k read c.code.head c.registers c.rests;
      left = c.left;
      leaves = leaves_there q h k read c.registers c.code.body c.left f tree c.leaves;
      answered = (c.answered.0, kept k);
    }

-- What is chosen on one heap would leave one number of items.
pub one_left : (codes : List Code) → AreRunnable codes → (h : Heap) (f : Forest) → IsTree h f → (size : ℕ) (a b : Turn) (h' h'' : Heap)
    (c : Chooses h codes (asked 0 f) size a h') (d : Chooses h codes (asked 0 f) size b h'') → c.left ≡ d.left
one_left codes run h f tree size a b h' h'' c d =
    let first = one_first h codes (asked 0 f) c.membrane d.membrane c.place d.place c.rule d.rule c.chosen d.chosen in
    let code : c.code ≡ d.code = same_Some c.code d.code (sym (subst (λ k. slice_get codes k ≡ Some c.code) first.1 c.is) ∙ d.is) in
    let able = run d.rule d.code d.is in
    let found : IsFirstSuccess h d.code.head d.membrane c.registers.head =
    subst (λ (x : Code). IsFirstSuccess h x.head d.membrane c.registers.head) code (subst (λ m. IsFirstSuccess h c.code.head m c.registers.head) first.0 c.first) in
    let alike = one_match h d.code.head d.membrane c.registers.head d.registers.head able.head found d.first in
    leaves_one h d.code.head c.registers d.registers alike (subst (λ (x : Code). HoldsRestsOf h x.head c.registers) code c.rests) d.rests d.code.body c.left d.left able.ready.told f tree
    (subst (λ (x : Code). Leaves h c.registers x.body c.left) code c.leaves) d.leaves

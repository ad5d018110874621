-- A turn leaves no membrane asleep in which the code of a rule succeeds.
use Rattle.std.proofs.Common.{ℕ, ◌≡◌, Bool, true, false, List, Option, Some, None, IsFalse, IsSome, inl, inr, refl, sym, ap, subst, ◌∙◌, arith}
use Rattle.std.specs.Prelude.{slice_get}
use Rattle.std.specs.Option.{option_map, option_and_then}
use Rattle.std.proofs.lemmas.Bool.{cases_eq}
use Rattle.lmn_base.specs.Lists.{In}
use Rattle.lmn_store_heap.specs.Heap.{Heap, HeapMem, IsMem, atoms_by, mems_by, rules_by, home_by, mem_mark_by, rules_in, mem_mark_of, mem_with_spare}
use Rattle.lmn_store_heap.specs.Sound.{Forest, Valid}
use Rattle.lmn_store_heap.proofs.Common.{mem_stands}
use Rattle.lmn_instr_code.specs.declared.instr.Code.{Code}
use Rattle.lmn_instr_code.specs.declared.instr.Instr.{Instr}
use Rattle.lmn_solid_bodies.specs.Running.{Registers}
use Rattle.lmn_solid_bodies.specs.Stopping.{SameButSpares}
use Rattle.lmn_machine_registers.specs.declared.registers.SetRegisters.{SetRegisters}
use Rattle.lmn_machine_commit.specs.Waking.{Commits}
use Rattle.lmn_machine_commit.proofs.Frames.{made_awake}
use Rattle.lmn_schedule_sleep.specs.Quiet.{IsQuiet, Wakes}
use Rattle.lmn_schedule_sleep.proofs.Marks.{ReadAlike, alike_back, read_alike}
use Rattle.lmn_schedule_strategy.specs.declared.turning.Turn.{Turn}
use Rattle.lmn_schedule_strategy.specs.declared.turning.Turn.TheVariants.{Committed, Irreducible, Full, NoMemory}
use Rattle.lmn_schedule_strategy.specs.Choosing.{CodeSucceeds, HasFound, IsFirstIn, Lulls, asked}
use Rattle.lmn_schedule_strategy.specs.Quieting.{AllAwake, AreQuiet, CommitsSleepRightly, SleepsRightly}
use Rattle.lmn_schedule_strategy.specs.Turns.{AnswersMatch, Chooses, IsAnswer, IsAwakeTurn}
use Rattle.lmn_schedule_strategy.proofs.Firing.{chooses, ruled_mem}
use Rattle.lmn_schedule_strategy.proofs.Lulling.{first_in_alike, lulls_alike, none_here_back}

module _ (codes : List Code) (quiet : AreQuiet codes) (h k : Heap) (vh : Valid h) (vk : Valid k) where
  -- a rule that had no match in a quiet membrane has none there
  stays_none : (m : ℕ) → IsQuiet h k m → (n : ℕ) → (CodeSucceeds h codes m n → ⊥) → CodeSucceeds k codes m n → ⊥
  stays_none m q n none c = (quiet n c.code c.is).stays h k vh vk m q (λ s w. none (record { code = c.code; is = c.is; registers = s; succeeds = w })) c.registers c.succeeds

  has_mark : (m : ℕ) → (mem_mark_of k m ≡ 0 → ⊥) → IsMem k m
  has_mark m d = by (k.mems m) d
    where
      by : (o : Option HeapMem) → (mem_mark_by o ≡ 0 → ⊥) → IsSome o
      by None d = absurd (d refl)
      by (Some x) d = refl

  commits_rightly : (x : ℕ) → Wakes h k x → SleepsRightly h codes → SleepsRightly k codes
  commits_rightly x w s = record {
    low = λ m. elim (cases_eq (mem_mark_of k m) 0) [
      | inl e ↦ omega (arith, e)
      | inr d ↦ elim (cases_eq (mem_mark_of k m) (mem_mark_of h m)) [
        | inl e ↦ (let l = s.low m in omega (arith, e, l))
        | inr n ↦ absurd (d (w.touched m (has_mark m d) (λ q. n (w.others m (has_mark m d) q (λ j a. d (w.round m j a))))))
      ]
    ];
    none = λ m e n i c.
        (let d : mem_mark_of k m ≡ 0 → ⊥ = λ z. absurd (omega (arith, e, z)) in
        d (w.touched m (has_mark m d) (λ q.
        (let before : mem_mark_of h m ≡ 1 = sym (w.others m (has_mark m d) q (λ j a. d (w.round m j a))) ∙ e in
        let stood : In n (rules_in h m) = subst (In n) ((q.untouched m 0 refl).rules) i in
        absurd (stays_none m q n (s.none m before n stood) c)))));
  }

-- so it is after a commit
pub commits_sleep_rightly : CommitsSleepRightly
commits_sleep_rightly codes quiet h k vh vk x w s = commits_rightly codes quiet h k vh vk x w s

-- ---- whatever a turn answers

-- room for rules is no part of what is read
pub spares_alike : (h k : Heap) → SameButSpares h k → ReadAlike h k
spares_alike h k e = record {
  root = e.root;
  atoms = e.atoms;
  lists = λ m. (let u = e.mems m in ap atoms_by u.1 ∙ of_atoms u.0 (h.mems m));
  inner = λ m. (let u = e.mems m in ap mems_by u.1 ∙ of_mems u.0 (h.mems m));
  rules = λ m. (let u = e.mems m in ap rules_by u.1 ∙ of_rules u.0 (h.mems m));
  parents = λ m. (let u = e.mems m in ap (λ (o : Option HeapMem). option_and_then (λ x. home_by x.place) o) u.1 ∙ of_place u.0 (h.mems m));
  there = λ m i. (let u = e.mems m in was u.0 (h.mems m) (subst (λ (o : Option HeapMem). IsSome o) u.1 i));
  stays = λ m i. (let u = e.mems m in subst (λ (o : Option HeapMem). IsSome o) (sym u.1) (is u.0 (h.mems m) i));
}
  where
    of_atoms : (v : ℕ) (o : Option HeapMem) → atoms_by (option_map (mem_with_spare v) o) ≡ atoms_by o
    of_atoms v None = refl
    of_atoms v (Some x) = refl

    of_mems : (v : ℕ) (o : Option HeapMem) → mems_by (option_map (mem_with_spare v) o) ≡ mems_by o
    of_mems v None = refl
    of_mems v (Some x) = refl

    of_rules : (v : ℕ) (o : Option HeapMem) → rules_by (option_map (mem_with_spare v) o) ≡ rules_by o
    of_rules v None = refl
    of_rules v (Some x) = refl

    of_place : (v : ℕ) (o : Option HeapMem) → option_and_then (λ x. home_by x.place) (option_map (mem_with_spare v) o) ≡ option_and_then (λ x. home_by x.place) o
    of_place v None = refl
    of_place v (Some x) = refl

    was : (v : ℕ) (o : Option HeapMem) → IsSome (option_map (mem_with_spare v) o) → IsSome o
    was v None i = i
    was v (Some x) i = refl

    is : (v : ℕ) (o : Option HeapMem) → IsSome o → IsSome (option_map (mem_with_spare v) o)
    is v None i = i
    is v (Some x) i = refl

-- nor is it of marks
spares_marks : (h k : Heap) → SameButSpares h k → (m : ℕ) → mem_mark_of k m ≡ mem_mark_of h m
spares_marks h k e m = let u = e.mems m in ap mem_mark_by u.1 ∙ by u.0 (h.mems m)
  where
    by : (v : ℕ) (o : Option HeapMem) → mem_mark_by (option_map (mem_with_spare v) o) ≡ mem_mark_by o
    by v None = refl
    by v (Some x) = refl

-- what is chosen leaves no membrane asleep in which the code of a rule succeeds
pub chosen_rightly : (codes : List Code) → AreQuiet codes → (h k : Heap) → Valid h → Valid k → (ms : List ℕ) (size : ℕ) (answer : Turn) → Chooses h codes ms size answer k → SleepsRightly h codes → SleepsRightly k codes
chosen_rightly codes quiet h k vh vk ms size Committed c s =
    let placed = mem_stands h vh c.membrane (ruled_mem h c.membrane c.place c.rule c.chosen.rule.stands) in
    commits_rightly codes quiet h k vh vk c.membrane ((quiet c.rule c.code c.is).wakes h c.membrane c.registers vh placed c.first c.rests k c.answered.1) s
chosen_rightly codes quiet h k vh vk ms size Irreducible c s = absurd c.answered
chosen_rightly codes quiet h k vh vk ms size Full c s = subst (λ z. SleepsRightly z codes) (sym c.answered.1) s
chosen_rightly codes quiet h k vh vk ms size NoMemory c s =
    let e = c.answered.1 in
    record {
      low = λ m. (let z = spares_marks h k e m in let l = s.low m in omega (arith, z, l));
      none = λ m q. none_here_back k h codes (alike_back h k (spares_alike h k e)) m (s.none m (sym (spares_marks h k e m) ∙ q));
    }

-- a commit leaves all awake that was
commits_awake : (h k : Heap) (r : Registers) (code : List Instr) → Commits h r code k → AllAwake h → AllAwake k
commits_awake h k r code c all m = by (k.mems m) refl
  where
    by : (o : Option HeapMem) → k.mems m ≡ o → mem_mark_of k m ≡ 0
    by None e = ap mem_mark_by e
    by (Some x) e =
        let i : IsMem k m = subst (λ (o : Option HeapMem). IsSome o) (sym e) refl in
        elim (c.wakes.others m i) [
          | inl kept ↦ kept ∙ elim (made_awake r code h c.prepared c.prepares m (c.wakes.stood m i)) [ inl w ↦ w.1 ∙ all m | inr z ↦ z ]
          | inr w ↦ w.0
        ]

-- and so does whatever a turn answers
pub answers_awake : (h k : Heap) (r : Registers) (code : List Instr) (n size : ℕ) (answer : Turn) → IsAnswer h r code n size answer k → AllAwake h → AllAwake k
answers_awake h k r code n size Committed a all = commits_awake h k r code a.1 all
answers_awake h k r code n size Irreducible a all = absurd a
answers_awake h k r code n size Full a all = subst AllAwake (sym a.1) all
answers_awake h k r code n size NoMemory a all = λ m. spares_marks h k a.1 m ∙ all m

-- where membranes may not sleep none falls asleep
pub lulls_awake : (b : Bool) (h k : Heap) (ms : List ℕ) → IsFalse b → Lulls b h k ms → AllAwake h → AllAwake k
lulls_awake true h k ms never w all = absurd (cc)
lulls_awake false h k ms never w all = subst AllAwake (sym w) all

-- what fires is a turn with the membranes that are awake
module _ {A M : Type 0} (atom : A → ℕ) (membrane : M → ℕ) (h k : Heap) (codes : List Code) (m place n size : ℕ) (g : SetRegisters A M) (found : HasFound atom membrane k codes m n g) (code : Code) (is : slice_get codes n ≡ Some code)
    (b : Bool) (f : Forest) (from : ℕ) (first : IsFirstIn h codes (asked from f) m place n) (lulls : Lulls b h k first.earlier) where
  -- the rule that is chosen
  abbrev pub chooses_awake : (answer : Turn) (h' : Heap) → AnswersMatch atom membrane k g code size answer h' → Chooses k codes (asked from f) size answer h'
  chooses_awake answer h' fires =
      chooses atom membrane k codes m place n size g found code is f from (first_in_alike h k codes (read_alike h k (lulls_alike b h k first.earlier lulls)) (asked from f) m place n first) answer h' fires

  -- and the turn
  pub awake_turn : (answer : Turn) (h' : Heap) → AnswersMatch atom membrane k g code size answer h' → IsAwakeTurn b h codes f from size answer h'
  awake_turn Committed h' fires = (k, chooses_awake Committed h' fires, lulls)
  awake_turn Irreducible h' fires = absurd fires.answered
  awake_turn Full h' fires = (k, chooses_awake Full h' fires, lulls)
  awake_turn NoMemory h' fires = (k, chooses_awake NoMemory h' fires, lulls)

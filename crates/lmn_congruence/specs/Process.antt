-- Processes, and the places of their links.
use Rattle.std.specs.Prelude.{ℕ, ◌≡◌, ◌≢◌, ◌+◌, ◌≤◌, ◌==◌, ◌⊎◌, cond, List, [], ◌∷◌, map}
use Rattle.lmn_congruence.specs.Links.{one_if_same, places}
use Rattle.lmn_congruence.specs.Rules.{Label, Rule}

-- A process: `0`, a connector `X=Y`, an atom `p(X1,..,Xm)`, a parallel pair `P, Q`, a membrane `{P}` or a rule.
-- An atom has a label, which is a name or an integer, and its links in order.
--
-- A connector is a form of its own. So an atom that is named `=` and has two links is no connector here. It
-- does no harm: the process of a text or of a solid has none, since `X=Y` is always written as a connector,
-- and no rule of congruence or reduction makes an atom that is not in the process or in a rule of it.
pub data Process : Type 0 where
  nothing : Process
  connector : ℕ → ℕ → Process
  atom : Label → List ℕ → Process
  pair : Process → Process → Process
  membrane : Process → Process
  rule : Rule → Process

-- how often a link occurs in a process, inside membranes and not inside rules
abbrev pub occurrences : ℕ → Process → ℕ
occurrences x nothing = 0
occurrences x (connector y z) = one_if_same x y + one_if_same x z
occurrences x (atom a ys) = places x ys
occurrences x (pair P Q) = occurrences x P + occurrences x Q
occurrences x (membrane P) = occurrences x P
occurrences x (rule r) = 0

-- a link that occurs once is free, one that occurs twice is local, one that doesn't occur is fresh
abbrev pub Free : ℕ → Process → Type 0
Free x P = occurrences x P ≡ 1

abbrev pub Local : ℕ → Process → Type 0
Local x P = occurrences x P ≡ 2

abbrev pub Fresh : ℕ → Process → Type 0
Fresh x P = occurrences x P ≡ 0

-- no link occurs more than twice
pub record Linked (P : Process) : Type 0 where
  pub at_most_twice : (x : ℕ) → occurrences x P ≤ 2

-- each link that occurs at all occurs exactly twice
abbrev pub Closed : Process → Type 0
Closed P = (x : ℕ) → Fresh x P ⊎ Local x P

-- all links renamed at once
abbrev pub renamed : (ℕ → ℕ) → Process → Process
renamed f nothing = nothing
renamed f (connector y z) = connector (f y) (f z)
renamed f (atom a ys) = atom a (map f ys)
renamed f (pair P Q) = pair (renamed f P) (renamed f Q)
renamed f (membrane P) = membrane (renamed f P)
renamed f (rule r) = rule r

-- one link in the place of another: P[new/old] is `renamed (replace new old) P`
abbrev pub replace : ℕ → ℕ → ℕ → ℕ
replace new old x = cond (x == old) new x

-- a renaming takes different links of a process to different links
abbrev pub OneToOneOn : (ℕ → ℕ) → Process → Type 0
OneToOneOn f P = (x y : ℕ) → occurrences x P ≢ 0 → occurrences y P ≢ 0 → f x ≡ f y → x ≡ y

-- P is a copy of Q: its links renamed, different ones to different ones. Nothing more is asked of its links: in a linked
-- process those that occur twice in it are no links of anything beside it.
pub record IsCopy (Q P : Process) : Type 0 where
  pub to : ℕ → ℕ
  pub one_to_one : OneToOneOn to Q
  pub is : P ≡ renamed to Q

-- the parallel pair of a list, in its order
abbrev pub together : List Process → Process
together [] = nothing
together (P ∷ Ps) = pair P (together Ps)

-- P[new/old], as lemmas tell it
abbrev pub substitute : ℕ → ℕ → Process → Process
substitute new old P = renamed (replace new old) P

-- Which tokens pass a limit, by counts. In each definition `before` are the tokens before the token.
use Rattle.std.specs.Prelude.{◌≡◌, ℕ, suc, ◌-◌, ◌<◌, ◌⊎◌, Bool, true, false, ◌||◌, List, [], ◌∷◌, ◌++◌}
use Rattle.lmn_base.specs.Limits.{most_links}
use Rattle.lmn_lexer.specs.declared.token.Kind.{Kind}
use Rattle.lmn_lexer.specs.declared.token.Kind.TheVariants.{Name, Quoted, Mod, Int, Context, LParen, RParen, LBracket, RBracket, LBrace, RBrace, Comma, Equal, Plus, Minus, Star, Slash}

-- the most brackets that may be open round another one, and the most operators of a side
abbrev pub most_brackets : ℕ
most_brackets = 200

abbrev pub most_operators : ℕ
most_operators = 255

-- The most arguments of a term. An atom has as many arguments as it has links, `most_links`, and so many contexts has a condition; a
-- term has one argument fewer, since its own link is one more.
abbrev pub most_term_arguments : ℕ
most_term_arguments = most_links - 1

-- tokens that open a bracket, and that close one
abbrev pub is_opener : Kind → Bool
is_opener LParen = true
is_opener LBracket = true
is_opener LBrace = true
is_opener _ = false

abbrev pub is_closer : Kind → Bool
is_closer RParen = true
is_closer RBracket = true
is_closer RBrace = true
is_closer _ = false

abbrev pub is_comma : Kind → Bool
is_comma Comma = true
is_comma _ = false

abbrev pub may_be_operator : Kind → Bool
may_be_operator Plus = true
may_be_operator Minus = true
may_be_operator Star = true
may_be_operator Slash = true
may_be_operator Mod = true
may_be_operator _ = false

abbrev pub may_be_atom_name : Kind → Bool
may_be_atom_name Name = true
may_be_atom_name Quoted = true
may_be_atom_name Mod = true
may_be_atom_name Int = true
may_be_atom_name _ = false

-- a token with which an operand ends
abbrev pub ends_operand : Kind → Bool
ends_operand Int = true
ends_operand Context = true
ends_operand RParen = true
ends_operand _ = false

-- a token of a side, and no operator
abbrev pub continues_side : Kind → Bool
continues_side LParen = true
continues_side kind = ends_operand kind

-- The last of the tokens is one of these.
pub record EndsWith (test : Kind → Bool) (tokens : List Kind) : Type 0 where
  pub front : List Kind
  pub last : Kind
  pub split : tokens ≡ front ++ last ∷ []
  pub is_one : test last ≡ true

-- '+', '-', '*', '/' or the unquoted 'mod', directly behind an operand
abbrev pub IsOperator : List Kind → Kind → Type 0
IsOperator before token = (may_be_operator token ≡ true) × EndsWith ends_operand before

-- a name or an INT, with which an atom or a condition begins
abbrev pub IsAtomName : List Kind → Kind → Type 0
IsAtomName before token = (may_be_atom_name token ≡ true) × ¬ (IsOperator before token)

-- Each bracket that is opened in the tokens is closed there, and this number of commas stands outside brackets. Brackets of two
-- kinds may close each other here: where tokens begin a program they never do.
pub data Balanced : ℕ → List Kind → Type 0 where
  empty : Balanced 0 []
  comma : {n : ℕ} {tokens : List Kind} → Balanced n tokens → Balanced (suc n) (Comma ∷ tokens)
  other : (token : Kind) {n : ℕ} {tokens : List Kind} → (is_opener token || is_closer token || is_comma token) ≡ false
      → Balanced n tokens → Balanced n (token ∷ tokens)
  closed : (first last : Kind) {m n : ℕ} {inside behind : List Kind} → is_opener first ≡ true → is_closer last ≡ true
      → Balanced m inside → Balanced n behind → Balanced n (first ∷ (inside ++ last ∷ behind))

-- At least this number of brackets is open behind the tokens.
pub data Open : ℕ → List Kind → Type 0 where
  none : {tokens : List Kind} → Open 0 tokens
  one_more : (first : Kind) {m n : ℕ} {before inside : List Kind} → Open n before → is_opener first ≡ true
      → Balanced m inside → Open (suc n) (before ++ first ∷ inside)

-- The tokens end with a stretch of one side, a sum, in which this number of operators stands.
pub data Side : ℕ → List Kind → Type 0 where
  begins : {tokens : List Kind} → Side 0 tokens
  operand : (token : Kind) {n : ℕ} {before : List Kind} → Side n before → continues_side token ≡ true → Side n (before ++ token ∷ [])
  operator : (token : Kind) {n : ℕ} {before : List Kind} → Side n before → IsOperator before token → Side (suc n) (before ++ token ∷ [])

-- The token opens a bracket inside the most that may be open, or is one operator more than a side may have.
abbrev pub TooDeep : List Kind → Kind → Type 0
TooDeep before token = ((is_opener token ≡ true) × Open most_brackets before) ⊎ (IsOperator before token × Side most_operators before)

-- The tokens end in the argument list of an atom or of a condition whose name stands directly behind `front`, and this number of
-- arguments is begun. An empty list counts as one.
pub data InArguments (front : List Kind) : ℕ → List Kind → Type 0 where
  begun : (name : Kind) {commas : ℕ} {inside : List Kind} → IsAtomName front name → Balanced commas inside
      → InArguments front (suc commas) (front ++ name ∷ LParen ∷ inside)

-- An atom that begins behind the tokens is a term: it stands directly behind '=', in an argument list or in a '[' list.
pub data TermNext : List Kind → Type 0 where
  behind_equal : (before : List Kind) → TermNext (before ++ Equal ∷ [])
  in_arguments : {n : ℕ} {front before : List Kind} → InArguments front n before → TermNext before
  in_list : (before : List Kind) {n : ℕ} {inside : List Kind} → Balanced n inside → TermNext (before ++ LBracket ∷ inside)

-- Arguments are begun of which there are too many, of an atom or of a term; or the token is the '=' behind an atom that has the
-- most, since '=' takes one more.
pub data TooManyArguments : List Kind → Kind → Type 0 where
  of_any : {n : ℕ} {front before : List Kind} {token : Kind} → InArguments front n before → most_links < n → TooManyArguments before token
  of_term : {n : ℕ} {front before : List Kind} {token : Kind} → InArguments front n before → TermNext front → most_term_arguments < n
      → TooManyArguments before token
  left_of_equal : {n : ℕ} {front before : List Kind} → InArguments front n before → most_term_arguments < n → TooManyArguments (before ++ RParen ∷ []) Equal

-- ---- the same by other words, as laws and contracts of private functions tell it

-- the most arguments of an atom, and the most contexts of a condition
abbrev pub most_arguments : ℕ
most_arguments = most_links

-- The code by which the token is refused, if with it the tokens begin a program.
abbrev pub Passes : ℕ → List Kind → Kind → Type 0
Passes code before token = ((code ≡ 11) × TooDeep before token) ⊎ ((code ≡ 12) × ¬ (TooDeep before token) × TooManyArguments before token)

-- The token passes no limit.
abbrev pub PassesNone : List Kind → Kind → Type 0
PassesNone before token = ¬ (TooDeep before token) × ¬ (TooManyArguments before token)

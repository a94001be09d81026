-- The words in which the format of a component is written: a grammar reads like the structure tables
-- of the standard (JCVM 2.2, chapter 6), item after item in the order of the file.
use Rattle.std.specs.Prelude.{ℕ, zero, suc, Bool, true, false, List, [], ◌∷◌, Option, Some, None, ◌==◌, nat_lt, nat_le}
use Rattle.std.specs.Prelude.{if◌then◌else◌}
use Rattle.cap_bytes.specs.declared.fault.FormKind.{FormKind}
use Rattle.cap_bytes.specs.declared.fault.FormKind.TheVariants.{BadValue}

infixl 10 ◌>>=◌
-- a grammar: the items of which a value of the type is made
pub data Grammar : Type 0 → Type 1 where
  -- no item: the value is known
  give : {X : Type 0} → X → Grammar X
  -- a big-endian number of that many bytes, and what is wrong with a number, if anything is
  number : ℕ → (ℕ → Option FormKind) → Grammar ℕ
  -- that many bytes
  piece : ℕ → Grammar (List ℕ)
  -- no item: how many bytes are left
  remaining : Grammar ℕ
  -- no item: the offset of the next byte
  place : Grammar ℕ
  -- the end of the bytes
  finish : Grammar (Unit {0})
  -- one after the other, where the second depends on the value of the first
  ◌>>=◌ : {X Y : Type 0} → Grammar X → (X → Grammar Y) → Grammar Y

-- ---- what is wrong with a number

abbrev pub any : ℕ → Option FormKind
any n = None

-- a number that fails the test is none that the format allows
abbrev pub that : (ℕ → Bool) → ℕ → Option FormKind
that test n = if test n then None else Some BadValue

-- any other number than this one is wrong in this way
abbrev pub only : ℕ → FormKind → ℕ → Option FormKind
only m kind n = if n == m then None else Some kind

-- ---- items

abbrev pub u1 : Grammar ℕ
u1 = number 1 any

abbrev pub u2 : Grammar ℕ
u2 = number 2 any

abbrev pub u4 : Grammar ℕ
u4 = number 4 any

-- the number of bytes of an application identifier (ISO 7816-5; JCVM 2.2, section 4.2)
abbrev pub is_aid_length : ℕ → Bool
is_aid_length n = if nat_le 5 n then nat_le n 16 else false

-- an application identifier after the byte that counts its bytes
abbrev pub aid : Grammar (List ℕ)
aid = number 1 (that is_aid_length) >>= piece

-- ---- several items

-- all that is left
abbrev pub rest : Grammar (List ℕ)
rest = remaining >>= piece

-- the items where the test is true, and else the value alone
abbrev pub when : {X : Type 0} → Bool → X → Grammar X → Grammar X
when true otherwise g = g
when false otherwise g = give otherwise

-- so many items, each of which may depend on a state that each of them changes
abbrev pub each : {X S : Type 0} → ℕ → (S → Grammar X) → (S → X → S) → S → Grammar (List X)
each zero g step s = give []
each (suc n) g step s = g s >>= λ x. each n g step (step s x) >>= λ xs. give (x ∷ xs)

-- so many items of one kind
abbrev pub repeat : {X : Type 0} → ℕ → Grammar X → Grammar (List X)
repeat zero g = give []
repeat (suc n) g = g >>= λ x. repeat n g >>= λ xs. give (x ∷ xs)

-- so many numbers of two bytes
unfoldable pub table : ℕ → Grammar (List ℕ)
table n = repeat n u2

-- a byte that counts items of one kind, and the items
abbrev pub counted : {X : Type 0} → Grammar X → Grammar (List X)
counted g = u1 >>= λ n. repeat n g

-- items up to the end of the bytes, at most so many, each with a state as for `each`
abbrev pub at_most : {X S : Type 0} → ℕ → (S → Grammar X) → (S → X → S) → S → Grammar (List X)
at_most zero g step s = give []
at_most (suc n) g step s = remaining >>= λ bytes. when (nat_lt 0 bytes) []
    (g s >>= λ x. at_most n g step (step s x) >>= λ xs. give (x ∷ xs))

-- items up to the end of the bytes: never more than bytes, where each has one or more
abbrev pub until_end : {X S : Type 0} → (S → Grammar X) → (S → X → S) → S → Grammar (List X)
until_end g step s = remaining >>= λ bytes. at_most bytes g step s

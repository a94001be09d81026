-- Laid code stands for symbols: it has their instructions one after the other, each label replaced by the place
-- for which it stands, their handlers and their numbers.
use Rattle.std.specs.Prelude.{◌≡◌, ◌+◌, ℕ, suc, pos, List, [], ◌∷◌, map, length}
use Rattle.jc_decode.specs.declared.insn.Placed.{Placed}
use Rattle.jc_decode.specs.declared.symbols.Symbols.{Symbols}
use Rattle.jc_decode.specs.declared.symbols.Laid.{Laid}
use Rattle.jc_decode.specs.Cases.{cases}
use Rattle.jc_decode.specs.Listing.{listing, targets}
use Rattle.jc_decode.specs.Forms.{essence}
use Rattle.jc_decode.specs.Symbols.{Step, steps, handler, place_of}

-- the instruction p of the code is the instruction s of symbols whose place n is `place n` in the code: the same in
-- one of its forms, with its targets, and of a switch with its keys
pub record StandsForStep (code : List ℕ) (place : ℕ → ℕ) (s : Step) (p : Placed) : Type 0 where
  pub same : essence p.insn ≡ essence s.insn
  pub leads : targets code p ≡ map (λ t. pos (place t)) s.targets
  pub keyed : map (λ c. c.key) (cases code p.place p.insn) ≡ s.keys

-- these instructions of the code are those of symbols from place n on: each begins at its place, and ends where the
-- next begins
abbrev pub AreSteps : List ℕ → (ℕ → ℕ) → ℕ → List Step → List Placed → Type 0
AreSteps code place n [] [] = Unit {0}
AreSteps code place n [] (p ∷ ps) = ⊥
AreSteps code place n (s ∷ ss) [] = ⊥
AreSteps code place n (s ∷ ss) (p ∷ ps) =
    (p.place ≡ place n) × (p.place + p.insn.len ≡ place (suc n)) × StandsForStep code place s p
    × AreSteps code place (suc n) ss ps

-- the laid code stands for the symbols, whose place n is `place n` in the code, the end too
pub record StandsAt (place : ℕ → ℕ) (source : List ℕ) (symbols : Symbols) (laid : Laid) : Type 0 where
  pub begins : place 0 ≡ 0
  pub instructions : AreSteps laid.code place 0 (steps source symbols.items) (listing laid.code)
  pub ends : place (length (steps source symbols.items)) ≡ length laid.code
  pub handlers : laid.handlers ≡ map (handler (λ l. place (place_of l symbols.items))) symbols.ranges
  pub max_stack : laid.max_stack ≡ symbols.max_stack
  pub nargs : laid.nargs ≡ symbols.nargs
  pub max_locals : laid.max_locals ≡ symbols.max_locals

abbrev pub CodeStandsFor : List ℕ → Symbols → Laid → Type 0
CodeStandsFor source symbols laid = (place : ℕ → ℕ) × StandsAt place source symbols laid

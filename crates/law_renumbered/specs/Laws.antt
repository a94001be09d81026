-- Laws of methods whose registers have other numbers.
use Rattle.std.specs.Prelude.{◌≡◌, ℕ, ◌+◌}
use Rattle.jc_base.specs.World.{Linked}
use Rattle.jc_control.specs.Method.{Method, IsMethodOf}
use Rattle.jc_control.specs.WellFormed.{IsWellFormed}
use Rattle.jc_decode.specs.declared.symbols.Laid.{Laid}
use Rattle.jc_decode.specs.Standing.{StandsAt}
use Rattle.law_laid.specs.Apart.{IsSameBut}
use Rattle.law_laid.specs.Laid.{HasLaid}
use Rattle.law_share.specs.Renamed.{IsRenamed}
use Rattle.law_renumbered.specs.Numbers.{AreNumbersOf, NumbersServe}
use Rattle.law_renumbered.specs.Symbols.{renumbered_method}

-- the numbers that a method's variables share serve it, and so do those that it keeps
abbrev pub SharedNumbersServe : Linked → Type 0
SharedNumbersServe v =
    (m : Method) (reg : ℕ → ℕ) (locals : ℕ)
    → IsMethodOf v m
    → AreNumbersOf v m reg locals
    → NumbersServe v m reg (m.rec.nargs + locals)

-- the method is renamed in the other world, where its places come to some places there
pub record HasPlaces (v w : Linked) (m : Method) (reg : ℕ → ℕ) : Type 0 where
  pub place : ℕ → ℕ
  pub renamed : IsRenamed v w m place reg

-- where a method with such numbers is laid in another world, it is there the method with its registers renamed
abbrev pub RenumberedIsRenamed : Linked → Type 0
RenumberedIsRenamed v =
    (w : Linked) (m target : Method) (reg : ℕ → ℕ) (locals : ℕ) (place : ℕ → ℕ) (laid : Laid)
    → IsSameBut v w
    → IsMethodOf v m
    → IsWellFormed m
    → NumbersServe v m reg (m.rec.nargs + locals)
    → StandsAt place m.code (renumbered_method m reg locals) laid
    → IsMethodOf w target
    → target.number ≡ m.number
    → HasLaid m.rec laid target
    → HasPlaces v w m reg

-- The limits of a method that is rewritten: the registers and the stack that a method may declare, and the bytes of its code (JCVM 2.2,
-- sections 6.9.2 and 7.5; Leroy 2002, section 4).
use Rattle.std.specs.Prelude.{◌≡◌, ◌≤◌, ◌<◌, ℕ, List, Option}
use Rattle.jc_base.specs.World.{Linked}
use Rattle.jc_decode.specs.declared.symbols.Symbols.{Symbols}
use Rattle.jc_decode.specs.Symbols.{plain_size}
use Rattle.jc_control.specs.Method.{Method}
use Rattle.jc_rules.specs.Demand.{Frame}
use Rattle.jc_rules.specs.Typing.{state_at}
use Rattle.xf_homes.specs.declared.home.Home.{Home}
use Rattle.xf_homes.specs.Answer.{TakeTooManyRegisters, IsTypingOf}
use Rattle.xf_homes.specs.Order.{AreHomes, register_sum}
use Rattle.xf_emission.specs.Emission.{AreSymbolsOf}
use Rattle.xf_layout.specs.Shortest.{ReachesTooFar}
use Rattle.xf_pack.specs.declared.transforming.MethodLimit.{MethodLimit}
use Rattle.xf_pack.specs.declared.transforming.MethodLimit.TheVariants.{Registers, StackLimit, MethodLong}

-- the homes by the method's least typing take this many registers, more than a method may have
pub record HasTooManyHomes (w : Linked) (m : Method) (n : ℕ) : Type 0 where
  pub typing : List (Option Frame)
  pub typed : IsTypingOf w m typing
  pub many : TakeTooManyRegisters w m (state_at typing) n

-- the homes by the method's least typing, which are no more than a method may have
pub record HasHomes (w : Linked) (m : Method) : Type 0 where
  pub typing : List (Option Frame)
  pub typed : IsTypingOf w m typing
  pub homes : List Home
  pub are : AreHomes w m (state_at typing) homes
  pub few : register_sum homes ≤ 255

-- the stack has all the cells that a method may declare, and there is no room for one more
pub record HasFullStack (w : Linked) (m : Method) : Type 0 where
  pub homes : HasHomes w m
  pub full : m.rec.max_stack ≡ 255

-- the rewritten code is longer than code of a method may be, in its shortest bytes; the number told is its plain size
pub record HasLongCode (w : Linked) (m : Method) (n : ℕ) : Type 0 where
  pub homes : HasHomes w m
  pub room : m.rec.max_stack < 255
  pub symbols : Symbols
  pub rewritten : AreSymbolsOf w m (state_at homes.typing) homes.homes symbols
  pub long : ReachesTooFar symbols.items
  pub size : n ≡ plain_size symbols.items

-- the method passes the limit
abbrev pub PassesLimit : Linked → Method → MethodLimit → Type 0
PassesLimit w m (Registers n) = HasTooManyHomes w m n
PassesLimit w m StackLimit = HasFullStack w m
PassesLimit w m (MethodLong n) = HasLongCode w m n

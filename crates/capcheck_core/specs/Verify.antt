-- What `verify` may answer, by the packages and the roles in its folders (Leroy 2002, section 3).
use Rattle.std.specs.Prelude.{◌≡◌, ℕ, List, codes, count_by, string_bytes}
use Rattle.cap_index.specs.Indexes.{has_code}
use Rattle.jc_base.specs.World.{Linked}
use Rattle.jc_control.specs.Method.{Method, IsMethodOf}
use Rattle.jc_rules.specs.Demand.{Frame}
use Rattle.card_typing.specs.declared.fault.CardFault.{CardFault}
use Rattle.card_typing.specs.Typing.{HasCardTyping}
use Rattle.card_typing.specs.Refusal.{IsRefused}
use Rattle.law_sound.specs.Soundness.{IsFaultFree}
use Rattle.xf_share.specs.Ends.{HaveCardTypings}
use Rattle.cap_text.specs.Line.{methods_line, refused_card_line}
use Rattle.capcheck_core.specs.declared.verdict.Verdict.{Verdict}
use Rattle.capcheck_core.specs.declared.verdict.Verdict.TheVariants.{Done, Refused, Memory}
use Rattle.jc_control.specs.Asked.{IsFirstWithout}
use Rattle.capcheck_core.specs.Outside.{Outside, Untouched}
use Rattle.capcheck_core.specs.OverFolders.{OverFolders}
use Rattle.capcheck_core.specs.Typed.{numbers_of_method}
use Rattle.capcheck_core.specs.World.{of_world, OverWorld}

-- each of them has one, no run of any entry meets a fault, and the text says how many they are
pub record TellsAccepted (w : Linked) (text : List ℕ) : Type 0 where
  pub carded : HaveCardTypings w
  pub fault_free : IsFaultFree w
  pub prints : text ≡ methods_line (codes "accepted ") (count_by has_code w.methods)

-- one of them is the first without a card typing, and the text names it, with a place and a reason that hold
pub record TellsRefused (w : Linked) (text : List ℕ) : Type 0 where
  pub method : Method
  pub first : IsFirstWithout (IsMethodOf w) (HasCardTyping w) method
  pub fault : CardFault
  pub kept : Frame
  pub tells : IsRefused w method fault kept
  pub prints : text ≡ refused_card_line (numbers_of_method method.rec) fault

-- the answers where a method is refused
abbrev pub StopsAtRefused : Linked → Verdict → Type 0
StopsAtRefused w (Refused text) = TellsRefused w (string_bytes text)
StopsAtRefused w Memory = Unit {0}
StopsAtRefused w _ = ⊥

-- the answers of a world
abbrev pub AcceptsWorld : Linked → Verdict → Type 0
AcceptsWorld w (Done text) = TellsAccepted w (string_bytes text)
AcceptsWorld w (Refused text) = TellsRefused w (string_bytes text)
AcceptsWorld w Memory = Unit {0}
AcceptsWorld w _ = ⊥

-- its last step: it verifies the world, and changes nothing
abbrev pub VerifiesWorld : Linked → Outside → Outside → Verdict → Type 0
VerifiesWorld w before after verdict = Untouched before after × AcceptsWorld w verdict

-- the outside is as it was when the verifying began, and as it is afterwards
abbrev pub Verifies : List (List ℕ) → Outside → Outside → Verdict → Type 0
Verifies dirs before after verdict = OverFolders (OverWorld (of_world VerifiesWorld)) dirs before after verdict

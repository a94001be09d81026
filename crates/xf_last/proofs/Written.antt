-- The last of packages that link, and what is written in its place.
use Rattle.std.proofs.Common.{◌≡◌, ℕ, ◌-◌, ◌<◌, ◌≤◌, List, [], length, take, drop, Option, Some, subst, arith}
use Rattle.std.specs.Prelude.{slice_get}
use Rattle.std.proofs.lemmas.Bool.{eqb-false}
use Rattle.cap_package.specs.PackageRecord.{PackageRecord}
use Rattle.cap_package.specs.Parts.{Lent}
use Rattle.cap_package.specs.StandsFor.{StandsFor}
use Rattle.cap_write.specs.Condition.{MayBeLaid}
use Rattle.cap_write.specs.WrittenPackage.{HaveRewritten, IsWritten}
use Rattle.card_typing.specs.Typing.{HasCardTyping}
use Rattle.card_verify.specs.Counting.{IsByIndex}
use Rattle.jc_base.specs.World.{Linked}
use Rattle.jc_base.proofs.Lists.{slice_get-some}
use Rattle.jc_control.specs.Asked.{AllHave, IsOfLast}
use Rattle.jc_control.specs.Method.{IsMethodOf}
use Rattle.jc_decode.specs.declared.symbols.Laid.{Laid}
use Rattle.jc_link.specs.World.{IsLinked}
use Rattle.law_index.specs.WrittenIndex.{HasRoomForIndex, WrittenIndexIsExact}
use Rattle.law_relink.specs.Last.{and_last}
use Rattle.xf_last.specs.Fits.{AreFit}
use Rattle.xf_last.specs.Last.{BeginsLast, HasLast}
use Rattle.xf_last.proofs.OwnMethods.{has-last, methods-of, own-is, with-last}
use Rattle.xf_last.proofs.Served.{all-served, new-codes}
use Rattle.xf_last.proofs.Suited.{may-be-laid}

-- ---- packages that link

-- where packages link there is at least one
linked-some : (ps : List PackageRecord) (roles : List ℕ) (w : Linked) → IsLinked ps roles w → 0 < length ps
linked-some ps roles w l = grind (arith, length, eqb-false)

-- the last of them
pub record IsLastOf (ps : List PackageRecord) (roles : List ℕ) (w : Linked) (p : PackageRecord) : Type 0 where
  pub libraries : List PackageRecord
  pub are : ps ≡ and_last libraries p
  pub linked : IsLinked (and_last libraries p) roles w

module _ (ps : List PackageRecord) (roles : List ℕ) (w : Linked) (linked : IsLinked ps roles w) where
  pub last-of : (p : PackageRecord) → slice_get ps (length ps - 1) ≡ Some p → IsLastOf ps roles w p
  last-of p at = grind (arith, linked-some, with-last, length)

  -- so the methods of the last package follow those of the libraries
  pub linked-has-last : HasLast w
  linked-has-last =
      let some = linked-some ps roles w linked in
      let p = slice_get-some ps (length ps - 1) (omega (arith, some)) in
      let l = last-of p.0 p.1 in
      has-last l.libraries p.0 roles w l.linked

-- ---- code that fits its methods

module _ (ps : List PackageRecord) (roles : List ℕ) (w : Linked) (p : PackageRecord) (l : IsLastOf ps roles w p) (first : ℕ) (is : BeginsLast w first)
    (laid : List (Option Laid)) (fit : AreFit (drop first w.methods) laid) (agreed : StandsFor p.parts p) where
  -- may be laid for them
  pub last-may-be-laid : length p.methods.handlers ≤ 255 → MayBeLaid p laid
  last-may-be-laid few =
      may-be-laid l.libraries p roles w l.linked agreed laid
      (subst (λ (rs : List _). AreFit rs laid) (own-is w first is l.libraries p roles l.linked) fit) few

  -- over the target index that is written with it each has a card typing
  pub last-served : WrittenIndexIsExact → (parts : List Lent) → IsWritten p laid parts → (again : HaveRewritten p laid parts) → (new : Linked)
      → IsLinked (and_last l.libraries again.made) roles new → AllHave (IsMethodOf new) (HasCardTyping new)
      → HasRoomForIndex p laid → AllHave (IsOfLast new) (λ m. IsByIndex new m.number)
  last-served exact parts written again new new-linked carded room =
      all-served new carded
      (exact p.parts parts l.libraries p again.made laid roles w new (take first w.methods) (drop first w.methods) agreed again.stands again.rewritten
      written l.linked new-linked (methods-of w first is) (new-codes (drop first w.methods) laid fit) room)

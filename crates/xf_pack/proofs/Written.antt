-- The last package is written with what is laid for its methods, and what is told where it is not.
use Rattle.std.proofs.Common.{arith}
use Rattle.std.proofs.Common.{◌≡◌, ℕ, ◌+◌, ◌≤◌, List, length, Option}
use Rattle.cap_package.specs.PackageRecord.{PackageRecord}
use Rattle.cap_package.specs.Parts.{Lent}
use Rattle.cap_package.specs.StandsFor.{StandsFor}
use Rattle.cap_write.specs.Condition.{MayBeLaid}
use Rattle.cap_write.specs.WrittenPackage.{HaveRewritten, IsPartTooLong, IsWritten}
use Rattle.jc_base.specs.World.{Linked}
use Rattle.jc_decode.specs.declared.symbols.Laid.{Laid}
use Rattle.law_index.specs.WrittenIndex.{WrittenIndexIsExact}
use Rattle.law_transform.specs.LikeEndings.{LaidEndAlike}
use Rattle.law_transform.specs.AcceptedWorld.{LaidIsAccepted}
use Rattle.xf_last.specs.Last.{BeginsLast, EachFrom}
use Rattle.xf_last.proofs.Written.{IsLastOf, last-may-be-laid, last-served}
use Rattle.xf_pack.specs.Ends.{AreAcceptedLibraries, IsPartLong, IsTypedLast}
use Rattle.xf_pack.specs.Passes.{IsLaidAt}
use Rattle.xf_pack.specs.Transformed.{IsTransformed}
use Rattle.xf_pack.proofs.Elements.{are-fit, are-laid}

module _ (ps : List PackageRecord) (roles : List ℕ) (w : Linked) (p : PackageRecord) (l : IsLastOf ps roles w p) (first : ℕ) (is : BeginsLast w first)
    (laid : List (Option Laid)) (each : EachFrom (IsLaidAt w) first laid) (all : first + length laid ≡ length w.methods)
    (agreed : StandsFor p.parts p) where
  pub may-be-laid : length p.methods.handlers ≤ 255 → MayBeLaid p laid
  may-be-laid = last-may-be-laid ps roles w p l first is laid (are-fit w first is laid each all) agreed

  module _ (accepted : AreAcceptedLibraries w) (typed : IsTypedLast w) where
    pub transformed : LaidIsAccepted w → LaidEndAlike w → WrittenIndexIsExact → (parts : List Lent)
        → IsWritten p laid parts
        → HaveRewritten p laid parts
        → IsTransformed ps roles w parts
    transformed law alike exact parts written again =
        let code = are-laid w first is laid each all in
        let new = law l.libraries p again.made p.parts parts roles laid agreed again.stands again.rewritten l.linked accepted code in
        record {
          keeps = record {
            accepted = accepted;
            typed = typed;
            libraries = l.libraries;
            source = p;
            are = l.are;
            made = again.made;
            stands = again.stands;
            world = new.0;
            linked = new.1.linked;
            carded = new.1.carded;
            alike = alike l.libraries p again.made p.parts parts roles laid new.0 agreed again.stands again.rewritten l.linked accepted code new.1;
          };
          anew = record {
            laid = laid;
            code = code;
            written = written;
            rewritten = again.rewritten;
            same = new.1.same;
            served =
                last-served ps roles w p l first is laid (are-fit w first is laid each all) agreed exact parts written again new.0 new.1.linked
                new.1.carded;
          };
        }

    pub part-long : (size : ℕ) → IsPartTooLong p laid size → IsPartLong ps w size
    part-long size long = grind (arith, are-laid)

-- What is laid for the methods of the last package, as the world and as the writer ask for it.
use Rattle.std.proofs.Common.{◌≡◌, ℕ, ◌+◌, List, length, take, drop, Option, sym, subst}
use Rattle.std.proofs.lemmas.List.{length-take-le}
use Rattle.jc_base.specs.World.{Linked}
use Rattle.jc_decode.specs.declared.symbols.Laid.{Laid}
use Rattle.law_shared_world.specs.SharedCode.{AreSharedElements, AreSharedOf, IsSharedElement}
use Rattle.xf_last.specs.Fits.{AreFit, IsFitting}
use Rattle.xf_last.specs.Last.{BeginsLast, EachFrom}
use Rattle.xf_last.proofs.Elements.{all-from}
use Rattle.xf_last.proofs.OwnMethods.{methods-of}
use Rattle.xf_share.specs.Passes.{IsSharedAt}

module _ (w : Linked) (first : ℕ) (is : BeginsLast w first) (laid : List (Option Laid)) (each : EachFrom (IsSharedAt w) first laid)
    (all : first + length laid ≡ length w.methods) where
  pub are-fit : AreFit (drop first w.methods) laid
  are-fit =
      all-from (IsFitting (IsSharedElement w)) (λ n. AreFit) (λ n. tt {0}) (λ n r rs x xs h others. (h.fits, others)) w.methods first laid each all

  pub are-shared : AreSharedOf w laid
  are-shared =
      let parted = methods-of w first is in
      record {
        libraries = take first w.methods;
        own = drop first w.methods;
        parts = parted.parts;
        before = parted.earlier;
        last = parted.last;
        each =
            subst (λ n. AreSharedElements w n (drop first w.methods) laid) (sym (length-take-le first w.methods is.within))
            (all-from (IsFitting (IsSharedElement w)) (AreSharedElements w) (λ n. tt {0}) (λ n r rs x xs h others. (h.is, others)) w.methods first laid each
            all);
      }

-- The method of a plan, and its instructions.
use Rattle.std.proofs.Common.{ℕ, ◌≤◌, List, length, arith}
use Rattle.std.specs.Prelude.{ℤ, pos, negsuc, get_or}
use Rattle.jc_base.specs.Linked.{IsMethod}
use Rattle.jc_decode.specs.Listing.{targets}
use Rattle.jc_control.specs.Method.{IsMethodOf}
use Rattle.jc_control.specs.WellFormed.{IsWellFormed, IsTargetPlace}
use Rattle.jc_decode.specs.Laws.{AreListed}
use Rattle.xf_homes.specs.Subject.{walked}
use Rattle.xf_homes.specs.declared.plan.Plan.{Plan}
use Rattle.xf_homes.proofs.Answered.{code-short}
use Rattle.xf_emission.specs.Jump.{IsNearBy}
use Rattle.xf_code.specs.Known.{IsSubject}
use Rattle.xf_code.proofs.Targets.{few-targets}

near : (code : List ℕ) → length code ≤ 32767 → AreListed code → (t : ℤ) → IsTargetPlace code t → IsNearBy t
near code short listed (pos q) (i, st, e) = omega (arith, listed.inside i st, e)
near code short listed (negsuc n) h = absurd h

-- the method of a plan is well formed, and so is each of its instructions
pub is-subject : (p : Plan) → IsMethodOf p.walk.world.now (walked p.walk) → IsMethod p.walk.world.now.infos p.walk.world.now.pools
    p.walk.world.now.classes p.walk.rec.now
    → IsWellFormed (walked p.walk) → AreListed p.walk.code.bytes.now → IsSubject p
is-subject p mo method formed listed =
    let code = p.walk.code.bytes.now in
    let short : length code ≤ 32767 = code-short p.walk.world.now (walked p.walk) mo method in
    record {
      method = mo;
      short = short;
      instructions = λ i st. record {
        method = mo;
        led = record {
          decodes = listed.decodes i st;
          short = short;
          places = λ k d lt. near code short listed (get_or (targets code i) k d) (formed.targets i st k d lt);
          few = few-targets code i short (listed.inside i st) (listed.decodes i st);
        };
        inside = omega (arith, listed.within i st, short);
      };
    }

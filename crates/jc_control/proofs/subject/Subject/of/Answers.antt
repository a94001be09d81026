use Rattle.std.proofs.Common.{◌≡◌, Some, option_map, slice_get, length}
use Rattle.jc_base.specs.World.{code_of}
use Rattle.jc_control.proofs.OwnMethod.{is-method, own-length}
use Rattle.jc_control.proofs.subject.Subject.of.Goals as goal

pub invariant_of-result-clause-there : goal.invariant_of-result-clause-there
invariant_of-result-clause-there c =
    let w = c.args.world.now in
    let rec = c.method-rec.result.now in
    let code = c.of-code.result.bytes.now in
    let here = c.method-rec.ensures.is in
    let bytes : option_map (code_of w.infos) (slice_get w.methods c.args.number) ≡ Some code = cc in
    let len : length code ≡ rec.code_len = own-length w c.args.number rec code c.code.result.now here c.of-code.ensures c.code.ensures.len in
    is-method w c.args.number rec code here bytes len c.requires

pub invariant_of-result-clause-listed : goal.invariant_of-result-clause-listed
invariant_of-result-clause-listed c = c.instructions_are_listed.ensures c.of-code.result.bytes.now

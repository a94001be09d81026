-- what is known of the method, and of its symbols
use Rattle.std.proofs.Common.{◌≡◌, ◌<◌, Some, option_map, slice_get, length, arith}
use Rattle.jc_base.specs.World.{code_of}
use Rattle.jc_control.specs.Method.{Method, IsMethodOf}
use Rattle.xf_allot.specs.Sharing.{AnswersSharing}
use Rattle.jc_control.proofs.OwnMethod.{is-own, of-method, own-length, record-fact, to-method}
use Rattle.jc_base.proofs.CodeLengths.{length-short}
use Rattle.jc_base.specs.Linked.{lacks_code}
use Rattle.xf_share.specs.Numbering.{IsRenumbered}
use Rattle.xf_share.proofs.Coded.{readable-of}
use Rattle.xf_share.proofs.laying.lay_shared.Goals as goal

pub symbols_of-requires : goal.symbols_of-requires
symbols_of-requires c =
    let w = c.args.world.now in
    let n = c.args.number in
    let rec = c.method-rec.result.now in
    let code = c.of-code.result.bytes.now in
    let here = c.method-rec.ensures.is in
    let bytes : option_map (code_of w.infos) (slice_get w.methods n) ≡ Some code = cc in
    let long : length code ≡ rec.code_len = own-length w n rec code c.code.result.now here c.of-code.ensures c.code.ensures.len in
    let filled = record-fact w n rec code here bytes (λ r. 0 < r.code_len) c.requires.code in
    let m : Method = record { number = n; rec = rec; code = code } in
    let is : IsMethodOf w m = is-own w n rec code here bytes (omega (arith, long, filled)) in
    let short = length-short (lacks_code w.classes rec) rec.code_len c.method-rec.ensures.links.code in
    readable-of c.instructions_are_listed.ensures m (omega (arith, long, short)) (c.requires.accepted m is).typing.formed

pub lay_symbols-requires-clause-symbols : goal.lay_symbols-requires-clause-symbols
lay_symbols-requires-clause-symbols c =
    let w = c.args.world.now in
    let n = c.args.number in
    let rec = c.method-rec.result.now in
    let code = c.of-code.result.bytes.now in
    let here = c.method-rec.ensures.is in
    let bytes : option_map (code_of w.infos) (slice_get w.methods n) ≡ Some code = cc in
    let long : length code ≡ rec.code_len = own-length w n rec code c.code.result.now here c.of-code.ensures c.code.ensures.len in
    let filled = record-fact w n rec code here bytes (λ r. 0 < r.code_len) c.requires.code in
    let m : Method = record { number = n; rec = rec; code = code } in
    let is : IsMethodOf w m = is-own w n rec code here bytes (omega (arith, long, filled)) in
    let short = length-short (lacks_code w.classes rec) rec.code_len c.method-rec.ensures.links.code in
    to-method w n rec code here bytes (λ (x : Method). IsRenumbered w x c.args.sharing.now c.in-Ok.symbols) (record {
      method = is;
      formed = (c.requires.accepted m is).typing.formed;
      short = omega (arith, long, short);
      bytes = c.are_bytes.ensures;
      small = c.are_small.ensures;
      answers = of-method w n rec code here bytes (λ (x : Method). AnswersSharing w x c.args.sharing.now) c.requires.sharing;
      are = c.in-Ok.ensures;
    })

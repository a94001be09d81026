use Rattle.std.proofs.Common.{◌≡◌, ◌∷◌, ◌++◌, [], rules}
use Rattle.std.specs.Prelude.{OnOk}
use Rattle.std.proofs.lemmas.Result.{on_ok_weaker}
use Rattle.jc_decode.specs.Encoding.{operand_bytes}
use Rattle.jc_decode.proofs.Appending.{four_pieces}
use Rattle.jc_decode.proofs.encoding.append_head.Goals as goal

pub returns-clause-appended : goal.returns-clause-appended
returns-clause-appended c =
    let op : c.push.new.self.items ≡ c.args.to.now.items ++ c.args.insn.op ∷ [] = search rules in
    let x : c.write.new.to.items ≡ c.push.new.self.items ++ operand_bytes c.args.layout.x c.args.insn.x = search rules in
    let y : c.write-2.new.to.items ≡ c.write.new.to.items ++ operand_bytes c.args.layout.y c.args.insn.y = search rules in
    let z : OnOk c.write-3.result (c.write-3.new.to.items ≡ c.write-2.new.to.items ++ operand_bytes c.args.layout.z c.args.insn.z) = search rules in
    on_ok_weaker c.write-3.result
    (λ last. four_pieces c.args.to.now.items c.push.new.self.items c.write.new.to.items c.write-2.new.to.items c.write-3.new.to.items (c.args.insn.op ∷ [])
    (operand_bytes c.args.layout.x c.args.insn.x) (operand_bytes c.args.layout.y c.args.insn.y) (operand_bytes c.args.layout.z c.args.insn.z) op x y last) z

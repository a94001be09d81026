use Rattle.std.proofs.Common.{◌∙◌, sym, ap, ◌∷◌, ◌&&◌, eq-eqb}
use Rattle.std.specs.Str.{bytes_eq}
use Rattle.cap_files.proofs.Keys.{key_is}
use Rattle.cap_files.proofs.records.Record.is_of.Goals as goal

pub returns-then-self-part : goal.returns-then-self-part
returns-then-self-part c =
    let word = c.args.self.now.word.now in
    let dir = c.args.dir.now in
    rw (c.eq.ensures, c.as_bytes.ensures.value)
    (sym (ap (λ b. b && bytes_eq word dir) (eq-eqb c.args.self.now.part.0 c.args.part.0 c.if-self-part.true))
    ∙ key_is (c.args.part.0 ∷ dir) (c.args.self.now.part.0 ∷ word))

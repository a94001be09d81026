use Rattle.std.proofs.Common.{◌+◌, ◌++◌, ◌∷◌, [], List, take, get_or, sym, subst}
use Rattle.std.specs.Prelude.{Contains}
use Rattle.std.proofs.lemmas.List.{take_more}
use Rattle.vm_bound.specs.declared.graph.Vertex.{Vertex}
use Rattle.vm_bound.specs.declared.graph.Vertex.TheVariants.{Method}
use Rattle.vm_bound.specs.Rows.{AreNumbers}
use Rattle.vm_bound.proofs.Numbering.{extends-on, numbers-more}
use Rattle.vm_bound.proofs.meanings.Meanings.row.Goals as goal

pub vertices-preserved : goal.vertices-preserved
vertices-preserved c =
    let methods = c.args.methods in
    let vertices = c.args.vertices.now in
    let i = c.vertices.vertex-index in
    let v = get_or vertices i (Method 0) in
    let new = c.number.new.self in
    record {
      numbers = subst (AreNumbers methods new (Contains (take (i + 1) vertices))) (sym c.in_ok-push.ensures)
          (subst (λ (seen : List Vertex). AreNumbers methods new (Contains seen) (c.vertices.row ++ c.in_ok-number.number ∷ []))
          (sym (take_more vertices i (Method 0) c.vertices-test.true))
          (numbers-more methods c.vertices.self new (take i vertices) c.vertices.row v c.in_ok-number.number c.in_ok-number.ensures.extends
          c.in_ok-number.ensures.stands c.vertices.invariant.numbers));
      extends = extends-on c.args.self.now c.vertices.self new c.vertices.invariant.extends c.in_ok-number.ensures.extends;
    }

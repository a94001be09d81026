use Rattle.std.proofs.Common.{◌≡◌, ◌-◌, ◌++◌, take, drop}
use Rattle.vm_store.specs.State.{top, with_stack}
use Rattle.vm_act.proofs.register.copy.Given as goal

-- the last of the cells are copied so far
abbrev pub invariant-copies : goal.invariant-copies
invariant-copies g l =
    let before = g.S.Store.state l.initial.store in record {
      state : g.S.Store.state l.store ≡ with_stack before (drop (l.count - l._n) (take l.count (top before).stack) ++ (top before).stack);
      well : g.S.Store.well l.store;
      fixed : g.S.Store.fixed l.store ≡ g.S.Store.fixed l.initial.store;
    }

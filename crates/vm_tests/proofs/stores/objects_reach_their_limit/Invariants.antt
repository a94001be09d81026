use Rattle.vm_tests.proofs.stores.objects_reach_their_limit.Given as goal

abbrev pub invariant-objects : goal.invariant-objects
invariant-objects g l = g.S.Store.well l.store

use Rattle.link_tests.proofs.count_tests.is_loop_counted.Given as goal

abbrev pub ghosts-is_counted_thrice : goal.ghosts-is_counted_thrice
ghosts-is_counted_thrice a = record { name = a.blank.name; parts = a.blank.parts }

use Rattle.ksm_ffi.proofs.home.Home.retire.Given as goal

abbrev pub decreases-passes : goal.decreases-passes
decreases-passes l = goal.left-passes l

abbrev pub decreases-returned : goal.decreases-returned
decreases-returned l = goal.left-returned l

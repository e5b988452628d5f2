use Rattle.script_trials.proofs.script.play_twice.Given as goal

-- the parts that were just opened
abbrev pub ghosts-runs : goal.ghosts-runs
ghosts-runs g a = record { parts = a.parts }

use Rattle.callers.proofs.main.Given as goal

-- the parts that were just opened
abbrev pub ghosts-run : goal.ghosts-run
ghosts-run g a = record { parts = a.parts }

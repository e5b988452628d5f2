use Rattle.ksm_host.proofs.running.played.Given as goal

-- the parts that were just opened
abbrev pub ghosts-in_session : goal.ghosts-in_session
ghosts-in_session g a = record { parts = a.parts }

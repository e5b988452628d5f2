use Rattle.shared_trials.proofs.books.in_book.Given as goal

-- the parts that are handed in
abbrev pub ghosts-tried : goal.ghosts-tried
ghosts-tried g a = record { parts = a.parts }

use Rattle.ksm_pages.proofs.Names.{digest, drop, ◌≡◌}
use Rattle.ksm_pages.proofs.unstable.place_of.Given as goal

-- the number so far becomes, by the words that are left, that of all words
abbrev pub invariant-loop-word : goal.invariant-loop-word
invariant-loop-word l = digest l.digest (drop l.word-index l.bytes) ≡ digest 0 l.fn.bytes

use Rattle.ksm_tree.proofs.Names.{has_number, holds}
use Rattle.ksm_tree.proofs.OneSlot.{NoneBefore}
use Rattle.ksm_tree.proofs.shelf.Shelf.numbered.Given as goal

-- the dups of the places so far have other numbers
abbrev pub invariant-loop-place : goal.invariant-loop-place
invariant-loop-place l = NoneBefore (holds (has_number l.number)) l.self.slots l.place

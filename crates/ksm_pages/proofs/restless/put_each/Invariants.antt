use Rattle.ksm_pages.proofs.Names.{IsPutAmong, take}
use Rattle.ksm_pages.proofs.restless.put_each.Given as goal

abbrev pub invariant-loop-one : goal.invariant-loop-one
invariant-loop-one l = IsPutAmong l.fn.listed.items (take l.one-index l.added) l.listed.items

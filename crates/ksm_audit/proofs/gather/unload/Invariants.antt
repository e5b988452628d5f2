use Rattle.std.proofs.Common.{◌≡◌, ◌+◌, ◌<◌, ◌≤◌, vec_len, vec_capacity}
use Rattle.std.specs.Prelude.{All}
use Rattle.ksm_audit.specs.declared.job.Job.{Job}
use Rattle.ksm_audit.specs.Gathering.{IsThrough}
use Rattle.ksm_audit.proofs.Gathering.{Gathered}
use Rattle.ksm_audit.proofs.gather.unload.Given as goal

abbrev pub invariant-jobs : goal.invariant-jobs
invariant-jobs l = record {
  own : l.own.table_id ≡ l.claims.table_id;
  parts : l.own.me.0.parts + vec_len l.jobs ≡ l.own.me.0.deal.workers + 1;
  vain : l.own.me.0.past < l.own.me.0.parts;
  through : All (λ (j : Job). IsThrough l.claims.table_id j) l.jobs.items;
  capacity : vec_capacity l.passes ≡ vec_capacity l.fn.passes;
  room : vec_len l.passes + vec_len l.jobs ≤ vec_capacity l.passes;
  gathered : Gathered l.fn.jobs.items l.jobs.items l.fn.passes.items l.passes.items l.own.me;
}

abbrev pub decreases-jobs : goal.decreases-jobs
decreases-jobs l = goal.left-jobs l

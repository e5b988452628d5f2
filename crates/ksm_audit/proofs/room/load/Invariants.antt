use Rattle.std.proofs.Common.{◌≡◌, ◌+◌, ◌≤◌, ◌++◌, vec_len, vec_capacity}
use Rattle.std.specs.Prelude.{All}
use Rattle.ksm_base.specs.Values.{frames_of}
use Rattle.frame_table.specs.Named.{PassView}
use Rattle.ksm_audit.specs.declared.job.Job.{Job}
use Rattle.ksm_audit.specs.Claims.{remaining}
use Rattle.ksm_audit.specs.Working.{IsReady, IsEmpty}
use Rattle.ksm_audit.specs.Gathering.{loaded}
use Rattle.ksm_audit.proofs.room.load.Given as goal

abbrev pub invariant-passes : goal.invariant-passes
invariant-passes l = record {
  own : l.own.table_id ≡ l.claims.table_id;
  rest : l.own.me ≡ remaining l.claims.key (vec_len l.jobs);
  count : vec_len l.jobs + vec_len l.passes ≡ vec_len l.fn.passes;
  passes : All (λ (p : PassView). p.table ≡ l.table) l.passes.items;
  lists : vec_len l.lists ≡ vec_len l.passes;
  empty : All (IsEmpty (frames_of l.table.shape)) l.lists.items;
  room : vec_len l.fn.passes ≤ vec_capacity l.jobs;
  ready : All (λ (j : Job). IsReady l.claims.table_id l.claims.key l.table j) l.jobs.items;
  loaded : l.fn.passes.items ≡ l.passes.items ++ loaded l.jobs.items;
  back : vec_capacity l.passes ≡ vec_capacity l.fn.passes;
}

abbrev pub decreases-passes : goal.decreases-passes
decreases-passes l = vec_len l.passes

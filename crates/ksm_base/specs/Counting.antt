-- The counters, counted from the rows and dup rows as they are: names of admin-guide/mm/ksm; what each counts is own.
use Rattle.std.specs.Prelude.{ℕ, ◌+◌, ◌-◌, Bool, ◌&&◌, ◌||◌, not, nat_lt, nat_le, List, count_by}
use Rattle.std.specs.List.{list_all}
use Rattle.ksm_base.specs.declared.row.Row.{Row}
use Rattle.ksm_base.specs.declared.row.DupRow.{DupRow}
use Rattle.ksm_base.specs.declared.counters.Counters.{Counters}
use Rattle.ksm_base.specs.Rows.{private_state, waiting_state, merged_state, zero_state, has_items, same_group}
use Rattle.ksm_base.specs.State.{BookState}

-- how many dups have an item
abbrev pub shared_count : List Row → List DupRow → ℕ
shared_count rows dups = count_by (has_items rows) dups

-- how many rows are merged
abbrev pub merged_count : List Row → ℕ
merged_count rows = count_by (λ r. merged_state r.state) rows

-- how many dups a dup's group has, itself and stale ones included
abbrev pub group_size : List DupRow → DupRow → ℕ
group_size dups d = count_by (same_group d) dups

-- a group of two or more is a chain
abbrev pub in_chain : List DupRow → DupRow → Bool
in_chain dups d = nat_lt 1 (group_size dups d)

-- the dup of its group that stands at the least place, by which the group is counted
abbrev pub leads_group : List DupRow → DupRow → Bool
leads_group dups d = list_all (λ e. not (same_group d e) || nat_le d.place e.place) dups

-- the counters of rows and dup rows, and of the passes that have ended
abbrev pub counters_from : List Row → List DupRow → ℕ → Counters
counters_from rows dups passes =
    record {
      shared = shared_count rows dups;
      sharing = merged_count rows - shared_count rows dups;
      unshared = count_by (λ r. waiting_state r.state) rows;
      volatile = count_by (λ r. r.mergeable && private_state r.state) rows;
      zero = count_by (λ r. zero_state r.state) rows;
      chains = count_by (λ d. in_chain dups d && leads_group dups d) dups;
      dups = count_by (in_chain dups) dups;
      full_scans = passes;
    }

-- the counters of a state
abbrev pub counters_of : BookState → Counters
counters_of b = counters_from b.rows b.dups b.passes

-- how many rows the scan visits (own)
abbrev pub mergeable_count : List Row → ℕ
mergeable_count rows = count_by (λ r. r.mergeable) rows

-- how many pages the counters of pages tell of (own)
abbrev pub pages_told : Counters → ℕ
pages_told c = c.shared + c.sharing + c.unshared + c.volatile + c.zero

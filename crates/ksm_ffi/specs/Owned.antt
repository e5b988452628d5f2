-- What is true of every table's keeper, and of its passes that are not out (own).
use Rattle.std.specs.Prelude.{◌≡◌, ◌+◌, ◌≤◌, length, All, vec_len, vec_capacity}
use Rattle.ksm_base.specs.Values.{frames_of}
use Rattle.ksm_ffi.specs.Passes.{IsIdle}
use Rattle.ksm_ffi.specs.declared.owner.Owner.TheInside as owner
use Rattle.ksm_ffi.specs.declared.home.Home.TheInside as home

pub record IsOwner (o : owner.Inside) : Type 0 where
  pub own : o.keeper.table ≡ o.table.value
  pub named : o.named.items ≡ o.keeper.ledger.places
  pub places : length o.named.items ≡ frames_of o.keeper.table.shape
  pub frames : length o.keeper.ledger.frames ≡ frames_of o.keeper.table.shape

pub record IsHome (o : home.Inside) : Type 0 where
  pub passes : All (λ p. p.table ≡ o.table.value) o.passes.items
  pub idle : All IsIdle o.returned.items
  pub few : vec_len o.passes + vec_len o.returned ≤ o.count
  pub room : o.count ≤ vec_capacity o.returned

-- The one fault of calls that take memory. (own)
use Rattle.std.specs.Prelude.{IfErr, Result, ◌≡◌}
use Rattle.ksm_base.specs.declared.fault.Fault.{Fault}
use Rattle.ksm_base.specs.declared.fault.Fault.TheVariants.{Memory}

-- where a call fails, it is for memory
abbrev pub FailsForMemory : {T : Type 0} → Result T Fault → Type 0
FailsForMemory result = IfErr result (λ fault. fault ≡ Memory)

-- The numbers of the answers (own).
use Rattle.std.specs.Prelude.{ℕ}
use Rattle.ksm_ffi.specs.declared.answer.Answer.{Answer}
use Rattle.ksm_ffi.specs.declared.answer.Answer.TheVariants as answer

-- the number that a caller in C sees
abbrev pub number_of : Answer → ℕ
number_of answer.Done = 0
number_of answer.Vacant = 1
number_of answer.Zero = 2
number_of answer.Life = 3
number_of answer.Busy = 4
number_of answer.Differs = 5
number_of answer.Used = 6
number_of answer.Nothing = 7
number_of answer.Closed = 10
number_of answer.Kind = 11
number_of answer.Open = 12
number_of answer.Shape = 13
number_of answer.Memory = 14
number_of answer.Range = 15
number_of answer.State = 16
number_of answer.Holding = 17
number_of answer.Idle = 18
number_of answer.NoPass = 19
number_of answer.PassesOut = 20
number_of answer.Other = 21
number_of answer.Command = 22
number_of answer.UnknownPage = 32
number_of answer.AlreadyRegistered = 33
number_of answer.NoFrame = 34
number_of answer.NotRunning = 35
number_of answer.SharedPages = 36
number_of answer.BadValue = 37
number_of answer.InUse = 38
number_of answer.CrossesNodes = 39
number_of answer.UnknownPlace = 40
number_of answer.BadNode = 41

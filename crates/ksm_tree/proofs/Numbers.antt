-- What is promised of a result that is an error.
use Rattle.ksm_tree.proofs.Names.{Err, Ok, OnErr, Result}

-- what holds anyway may be promised where a result is an error
pub on_err : {T E : Type 0} {P : Type 0} (r : Result T E) → P → OnErr r P
on_err (Ok x) holds = tt
on_err (Err e) holds = holds

-- Options that are mapped.
use Rattle.ksm_pages.proofs.Names.{arith, is_some, None, Option, option_map, Some, ◌≡◌}

-- an option is full once it is mapped exactly where it was full
pub some_mapped : {X Y : Type 0} (f : X → Y) (o : Option X) → is_some (option_map f o) ≡ is_some o
some_mapped f o = grind arith

-- an option that is empty once it is mapped was empty
pub none_mapped : {X Y : Type 0} (f : X → Y) (o : Option X) → option_map f o ≡ None → o ≡ None
none_mapped f o none = grind arith

-- an option that is full once it is mapped was full, with something that is mapped to what it has
pub mapped_some : {X Y : Type 0} (f : X → Y) (o : Option X) {y : Y} → option_map f o ≡ Some y → (x : X) × (o ≡ Some x) × (f x ≡ y)
mapped_some f o none = grind arith

-- The numbers of the faults and the ranges of a shape. Own.
use Rattle.std.specs.Prelude.{ℕ, ◌≤◌, ◌*◌}
use Rattle.ksm_base.specs.declared.fault.Fault.{Fault}
use Rattle.ksm_base.specs.declared.fault.Fault.TheVariants.{Memory, UnknownPage, AlreadyRegistered, NoFrame, NotRunning, SharedPages, BadValue, InUse, CrossesNodes, UnknownPlace, BadNode}
use Rattle.ksm_base.specs.declared.limits.TheConstants.{MOST_NODES, MOST_FRAMES_PER_NODE, MOST_PASSES, MOST_LIVES, MOST_TRIES}
use Rattle.ksm_base.specs.declared.shape.Shape.{Shape}

-- the number by which a reply tells a fault
abbrev pub fault_number : Fault → ℕ
fault_number Memory = 1
fault_number UnknownPage = 2
fault_number AlreadyRegistered = 3
fault_number (NoFrame node) = 4
fault_number NotRunning = 5
fault_number SharedPages = 6
fault_number BadValue = 7
fault_number InUse = 8
fault_number CrossesNodes = 9
fault_number UnknownPlace = 10
fault_number BadNode = 11

-- each size is in its range
pub record IsShape (s : Shape) : Type 0 where
  pub nodes_low : 1 ≤ s.nodes
  pub nodes_high : s.nodes ≤ MOST_NODES
  pub frames_low : 1 ≤ s.frames_per_node
  pub frames_high : s.frames_per_node ≤ MOST_FRAMES_PER_NODE
  pub passes_low : 1 ≤ s.passes
  pub passes_high : s.passes ≤ MOST_PASSES
  pub generation_low : 1 ≤ s.last_generation
  pub generation_high : s.last_generation ≤ MOST_LIVES
  pub tries_low : 1 ≤ s.tries
  pub tries_high : s.tries ≤ MOST_TRIES

-- how many frames there are on all nodes together
abbrev pub frames_of : Shape → ℕ
frames_of s = s.nodes * s.frames_per_node

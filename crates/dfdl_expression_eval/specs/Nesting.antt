-- Mirror for the prover: the open nodes of an evaluation, each of which is an operand of the one around it or stands before it.
use Rattle.std.specs.Prelude.{◌≡◌, ◌<◌, ◌≤◌, ℕ, Bool, true, List, [], ◌∷◌, length, Option, Some, None}
use Rattle.std.specs.List.{slice_get}
use Rattle.dfdl_expressions.specs.Nodes.{operands_of}
use Rattle.dfdl_expressions.specs.declared.node.Node.{Node}
use Rattle.dfdl_expression_eval.specs.Rooms.{HasRoom, IsLean, operands_in}
use Rattle.dfdl_expression_eval.specs.declared.scratch.Focus.{Focus}
use Rattle.dfdl_expression_eval.specs.declared.scratch.Focus.TheVariants.{Begin, Came}
use Rattle.dfdl_expression_eval.specs.declared.scratch.Frame.{Frame}
use Rattle.dfdl_expression_eval.specs.declared.scratch.Scratch.{Scratch}
use Rattle.dfdl_expression_eval.specs.declared.scratch.Step.{Step}
use Rattle.dfdl_expression_eval.specs.declared.scratch.Step.TheVariants.{Next, Ends}

-- how many operands the node of a number has
abbrev pub operand_count : Option Node → ℕ
operand_count None = 0
operand_count (Some n) = length (operands_of n)

-- each open node is before the one around it, and waits for an operand
abbrev pub AreNested : List Node → ℕ → List Frame → Type 0
AreNested nodes bound [] = Unit {0}
AreNested nodes bound (f ∷ fs) = (f.node < bound) × (f.done < operand_count (slice_get nodes f.node)) × AreNested nodes f.node fs

-- the number of the innermost open node
abbrev pub lowest : ℕ → List Frame → ℕ
lowest bound [] = bound
lowest bound (f ∷ fs) = lowest f.node fs

-- a node that begins is before all open ones
abbrev pub BeginsBelow : ℕ → Focus → Type 0
BeginsBelow bound (Begin number) = number < bound
BeginsBelow bound (Came evaluated) = Unit {0}

pub record IsNested (nodes : List Node) (frames : List Frame) (focus : Focus) : Type 0 where
  pub nested : AreNested nodes (length nodes) frames
  pub begins : BeginsBelow (lowest (length nodes) frames) focus

abbrev pub StaysNested : List Node → List Frame → Step → Type 0
StaysNested nodes frames (Next focus) = IsNested nodes frames focus
StaysNested nodes frames (Ends ended) = Unit {0}

-- nothing of an evaluation takes memory
pub record IsServed (nodes : List Node) (room : ℕ) (scratch : Scratch) (is_lean : Bool) : Type 0 where
  pub lean : is_lean ≡ true
  pub light : IsLean nodes
  pub few : length nodes ≤ room
  pub operands : operands_in nodes ≤ room
  pub has : HasRoom room scratch

use Rattle.std.proofs.Common.{◌≡◌, drop, Some, string_bytes}
use Rattle.dfdl_operators.specs.TextFunctions.{joined, joined_to}
use Rattle.dfdl_operators.proofs.texts.concat.Given as goal

-- the text so far and what is left give the whole
abbrev pub invariant-loop-part : goal.invariant-loop-part
invariant-loop-part l = joined_to (Some (string_bytes l.text)) (joined (drop l.part-index l.parts)) ≡ joined l.parts

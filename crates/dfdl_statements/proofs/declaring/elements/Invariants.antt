use Rattle.std.proofs.Common.{◌≡◌, map}
use Rattle.dfdl_statements.specs.Elements.{declaration_shown, declarations_of}
use Rattle.dfdl_statements.proofs.declaring.elements.Given as goal

abbrev pub invariant-loop-element : goal.invariant-loop-element
invariant-loop-element l = map declaration_shown l.all.items ≡ declarations_of l.rows l.element

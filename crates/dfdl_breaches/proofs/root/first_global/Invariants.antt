use Rattle.std.proofs.Common.{◌≡◌, None}
use Rattle.dfdl_components.specs.Searching.{first_below}
use Rattle.dfdl_components.specs.Sites.{nodes_of}
use Rattle.dfdl_breaches.specs.Roots.{if_global_element}
use Rattle.dfdl_breaches.proofs.root.first_global.Given as goal

abbrev pub invariant-loop-element : goal.invariant-loop-element
invariant-loop-element l = first_below (if_global_element (nodes_of l.schema 0)) l.element ≡ None

use Rattle.std.proofs.Common.{◌≡◌, None}
use Rattle.dfdl_components.specs.Searching.{first_below}
use Rattle.dfdl_components.specs.Globals.{global_in}
use Rattle.dfdl_components.proofs.schema.Schema.global.Given as goal

abbrev pub invariant-loop-document : goal.invariant-loop-document
invariant-loop-document l = first_below (global_in l.self l.kind l.namespace l.local) l.document ≡ None

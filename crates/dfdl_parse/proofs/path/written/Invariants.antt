use Rattle.std.proofs.Common.{◌≡◌, ◌++◌, string_bytes, vec_len}
use Rattle.dfdl_parse.specs.Named.{named}
use Rattle.dfdl_parse.proofs.path.written.Given as goal

abbrev pub invariant-names : goal.invariant-names
invariant-names l = string_bytes l.text ++ named l.terms l.nodes l.numbers.items ≡ named l.terms l.nodes l.initial.numbers.items

abbrev pub decreases-names : goal.decreases-names
decreases-names l = vec_len l.numbers

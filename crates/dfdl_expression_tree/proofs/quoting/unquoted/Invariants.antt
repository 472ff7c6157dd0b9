use Rattle.std.proofs.Common.{◌≡◌, ◌++◌, length, drop, chars}
use Rattle.std.specs.String.{string_bytes}
use Rattle.dfdl_expression_tree.specs.TokenLists.{coded}
use Rattle.dfdl_expression_tree.specs.Quotes.{unquoted}
use Rattle.dfdl_expression_tree.specs.Quoting.{quoted_rest}
use Rattle.dfdl_expression_tree.proofs.quoting.unquoted.Given as goal

-- the text so far and what the characters that are left tell
abbrev pub invariant-loop-c : goal.invariant-loop-c
invariant-loop-c l =
    string_bytes l.text ++ coded (quoted_rest l.quoting (drop (length l.yielded) (chars l.written))) ≡ coded (unquoted (chars l.written))

use Rattle.std.proofs.Common.{◌≡◌, drop}
use Rattle.dfdl_grammar.specs.Questions.{row_by}
use Rattle.dfdl_parse.proofs.asking.row_by.Given as goal

-- the keys that are left lead to the same as all
abbrev pub invariant-loop-key : goal.invariant-loop-key
invariant-loop-key l = row_by (drop l.key-index l.keys) l.text ≡ row_by l.keys l.text

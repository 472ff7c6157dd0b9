use Rattle.std.proofs.Common.{◌≡◌, ◌++◌, drop, map, encode_utf8_all}
use Rattle.dfdl_checks.proofs.keys.texts_of.Given as goal

-- those so far, with the others behind them, are all
abbrev pub invariant-loop-at : goal.invariant-loop-at
invariant-loop-at l = l.keys.items ++ map encode_utf8_all (drop l.at l.texts) ≡ map encode_utf8_all l.texts

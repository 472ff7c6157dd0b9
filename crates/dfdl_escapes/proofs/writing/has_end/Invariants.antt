use Rattle.std.proofs.Common.{◌≡◌, drop}
use Rattle.std.specs.List.{list_any}
use Rattle.dfdl_escapes.specs.Steps.{is_mark}
use Rattle.dfdl_escapes.proofs.writing.has_end.Given as goal

-- one of the characters that are left is the block end, if one of all is
abbrev pub invariant-loop-place : goal.invariant-loop-place
invariant-loop-place l = list_any (λ place. is_mark l.scheme.end place.c) (drop l.place-index l.places) ≡ list_any (λ place. is_mark l.scheme.end place.c) l.places

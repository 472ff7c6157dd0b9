use Rattle.std.proofs.Common.{◌≡◌, ◌||◌, drop}
use Rattle.std.specs.List.{list_any}
use Rattle.dfdl_escapes.specs.Written.{is_extra}
use Rattle.dfdl_escapes.proofs.writing.some_ask_block.Given as goal

-- one of the characters that are left asks for a block, if one of all does
abbrev pub invariant-loop-place : goal.invariant-loop-place
invariant-loop-place l =
    list_any (λ place. place.is_markup || is_extra l.scheme place.c) (drop l.place-index l.places)
    ≡ list_any (λ place. place.is_markup || is_extra l.scheme place.c) l.places

-- Instances of variables that are entered and left: each way back to before goes on behind them.
use Rattle.std.proofs.Common.{◌≡◌, ◌<◌, ◌+◌, refl, ℕ, Bool, true, false, cond, nat_lt, Option, [], ◌∷◌, length, arith, length-append}
use Rattle.std.proofs.lemmas.Bool.Decides.{nat_tests}
use Rattle.dfdl_value.specs.declared.value.Value.{Value}
use Rattle.dfdl_vars.specs.Kept.{Kept, entered, fresh, left, without_innermost}
use Rattle.dfdl_vars.specs.Marks.{LeadsBack}
use Rattle.dfdl_vars.proofs.Ways.{back_entered, back_left, sound_entered, sound_left}
use Rattle.dfdl_grammar.proofs.Ways.{GoesOn, IsWay}

pub entered_goes : (now : Kept) (var : ℕ) (start : Option Value) → GoesOn now (entered now var start)
entered_goes now var start base way = (back_entered base now var start way.0, sound_entered now var start way.1)

-- behind an instance that was entered, and what was done there, each way back to before it goes on where it is left
pub through_goes : (from now : Kept) (var : ℕ) (start : Option Value) → GoesOn (entered from var start) now → GoesOn from (without_innermost now)
through_goes from now var start goes base way = by (nat_lt now.globals (length now.instances)) refl
  where
    sound : LeadsBack (entered from var start) (entered from var start)
    sound = sound_entered from var start way.1

    ways : IsWay base now
    ways = goes base (entered_goes from var start base way)

    deeper : length base.instances < length now.instances
    deeper =
        let many = length-append from.instances (fresh var start ∷ []) in
        let more = (goes (entered from var start) (sound, sound)).0.within in
        let few = way.0.within in
        omega (arith, many, more, few)

    by : (b : Bool) → nat_lt now.globals (length now.instances) ≡ b → IsWay base (cond b (left now) now)
    by true e =
        let outer : now.globals < length now.instances = grind (arith, nat_tests) in
        (back_left base now ways.0 deeper, sound_left now ways.1 outer)
    by false e = ways

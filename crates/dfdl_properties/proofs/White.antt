-- White space is ASCII.
use Rattle.std.proofs.Common.{◌≡◌, ℕ, ◌<◌, List, take, true, arith}
use Rattle.std.specs.List.{slice_range}
use Rattle.std.proofs.lemmas.Grind.{common_steps}
use Rattle.std.proofs.lemmas.Bool.Decides.{nat_tests}
use Rattle.dfdl_markup.specs.Grammar.{is_white}

pub white-is-ascii : (c : ℕ) → is_white c ≡ true → c < 128
unfolding is_white
white-is-ascii c white = grind (arith, nat_tests, white)

-- the range from the begin
pub front : (text : List ℕ) (end : ℕ) → slice_range text 0 end ≡ take end text
front text end = grind (arith, common_steps)

-- Mirror for the prover: how the text of a fill byte is read.
use Rattle.std.specs.Prelude.{Option, Some, None, Bool, if◌then◌else◌}
use Rattle.dfdl_literals.specs.Fills.{fill_piece}
use Rattle.dfdl_literals.specs.declared.single.Found.{Found}
use Rattle.dfdl_literals.specs.declared.single.Found.TheVariants.{Blank, One, More}
use Rattle.dfdl_literals.specs.declared.fill.FillByte.{FillByte}
use Rattle.dfdl_literals.specs.declared.fill.FillByte.TheVariants.{Malformed, Other}

-- what a text stands for by what its literals come to and whether it has white space
abbrev pub fill_found : Bool → Option Found → FillByte
fill_found spaced None = Malformed
fill_found spaced (Some Blank) = Other
fill_found spaced (Some (One piece)) = if spaced then Other else fill_piece piece
fill_found spaced (Some More) = Other

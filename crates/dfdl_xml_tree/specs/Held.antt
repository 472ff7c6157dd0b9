-- How many `]` are held.
use Rattle.std.specs.Prelude.{ℕ}
use Rattle.dfdl_xml_tree.specs.declared.growing.Held.{Held}
use Rattle.dfdl_xml_tree.specs.declared.growing.Held.TheVariants.{None, One, Two}

-- the number of them
abbrev pub held_of : Held → ℕ
held_of None = 0
held_of One = 1
held_of Two = 2

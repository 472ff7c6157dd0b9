-- What the reading of nil is, by the reading of its bytes.
use Rattle.std.specs.Prelude.{List}
use Rattle.dfdl_looks.specs.Asks.{Reached, Told, TooFar, Missing}
use Rattle.dfdl_value.specs.declared.value.Value.{Value}
use Rattle.dfdl_terms.specs.declared.text.NilForm.{NilForm}
use Rattle.dfdl_grammar.specs.Leaves.{Find, nil_octets_find, nil_value_find}

-- what bytes come to that have to be nil, by what they come to as a hexBinary
abbrev pub nil_reached : NilForm → Reached Find → Reached Find
nil_reached form (Told find) = Told (nil_octets_find form find)
nil_reached form TooFar = TooFar
nil_reached form Missing = Missing

-- what a leaf comes to that has to be one of some values that are nil, by what it comes to else
abbrev pub nil_value_reached : List Value → Reached Find → Reached Find
nil_value_reached values (Told find) = Told (nil_value_find values find)
nil_value_reached values TooFar = TooFar
nil_value_reached values Missing = Missing

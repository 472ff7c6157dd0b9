-- Mirror for the prover: the machine as its steps see it.
use Rattle.std.specs.Prelude.{◌≡◌}
use Rattle.dfdl_bits.specs.Window.{Held}
use Rattle.dfdl_grammar.specs.declared.limits.Limits.{Limits}
use Rattle.dfdl_grammar.specs.States.{State}
use Rattle.dfdl_grammar.specs.Outcomes.{Outcome}
use Rattle.dfdl_parse.specs.declared.frame.Focus.TheVariants.{Leave}
use Rattle.dfdl_parse.specs.declared.parser.Parser.{Parser}
use Rattle.dfdl_parse.specs.Moves.{Machine}

-- the state
abbrev pub state_of : Parser → State
state_of p = record {
  at = p.at;
  stop = p.stop;
  nodes = p.region.nodes;
  text = p.text.bytes;
  inside = p.inside;
  instead = p.instead;
  lists = p.lists;
  hidden = p.hidden;
  marks = p.marks;
  variables = p.variables;
}

-- the machine
abbrev pub shown : Parser → Machine
shown p = record { focus = p.focus; stack = p.stack; state = state_of p }

-- the limits of the regions and of the window
abbrev pub limits_of : Parser → Held → Limits
limits_of p held = record { window = held.size; nodes = p.region.most; text = p.text.most }

-- these are the limits of the regions
abbrev pub KeepsTo : Parser → Limits → Type 0
KeepsTo p limits = (limits.nodes ≡ p.region.most) × (limits.text ≡ p.text.most)

-- the regions have the limits as before, the register of lists holds what it held, and the same rows are marked as those of items
abbrev pub HasSameLimits : Parser → Parser → Type 0
HasSameLimits old new = (new.region.most ≡ old.region.most) × ((new.text.most ≡ old.text.most) × ((new.markup ≡ old.markup) × (new.items ≡ old.items)))

-- the parser has come to this outcome, and nothing besides has changed of it
pub record Comes (old : Parser) (o : Outcome) (new : Parser) : Type 0 where
  pub focus : new.focus ≡ Leave o.end
  pub stack : new.stack ≡ old.stack
  pub state : state_of new ≡ o.state
  pub far : new.far ≡ old.far
  pub limits : HasSameLimits old new

-- the parser is this machine, and nothing besides has changed of it
pub record Becomes (old : Parser) (m : Machine) (new : Parser) : Type 0 where
  pub machine : shown new ≡ m
  pub far : new.far ≡ old.far
  pub limits : HasSameLimits old new

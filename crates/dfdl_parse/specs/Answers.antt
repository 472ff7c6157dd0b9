-- What a machine has come to.
use Rattle.std.specs.Prelude.{List, if◌then◌else◌}
use Rattle.dfdl_grammar.specs.declared.end.End.{End}
use Rattle.dfdl_grammar.specs.declared.end.End.TheVariants.{Done, Failed, Stopped}
use Rattle.dfdl_grammar.specs.declared.end.Halt.TheVariants.{Limit, Variable}
use Rattle.dfdl_parse.specs.declared.frame.Frame.{Frame}
use Rattle.dfdl_parse.specs.declared.frame.Focus.{Focus}
use Rattle.dfdl_parse.specs.declared.frame.Focus.TheVariants.{Enter, Pass, PassRest, Sized, Seek, LookIn, LookBehind, Count, Leave}
use Rattle.dfdl_parse.specs.declared.outcome.Outcome.{Outcome as Answer}
use Rattle.dfdl_parse.specs.declared.outcome.Outcome.TheVariants.{Open, Done as AllDone, Failed as HasFailed, Limit as AtLimit, Variable as AtVariable}
use Rattle.dfdl_parse.specs.Machines.{is_none}

-- the answer of an end
abbrev pub answer_of : End → Answer
answer_of Done = AllDone
answer_of (Failed cause bit) = HasFailed cause bit
answer_of (Stopped (Limit cause) quantity) = AtLimit cause quantity
answer_of (Stopped (Variable cause) bit) = AtVariable cause bit

-- the answer of a machine, by what is done next and what is left behind it
abbrev pub answer_at : Focus → List Frame → Answer
answer_at (Enter id) k = Open
answer_at (Pass to) k = Open
answer_at (PassRest bit outer) k = Open
answer_at (Sized prim size) k = Open
answer_at (Seek what) k = Open
answer_at (LookIn slot) k = Open
answer_at (LookBehind slot bit) k = Open
answer_at (Count slot question) k = Open
answer_at (Leave end) k = if is_none k then answer_of end else Open

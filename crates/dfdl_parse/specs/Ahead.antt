-- What is still ahead of the machine over whole data.
use Rattle.std.specs.Prelude.{ℕ, ◌/◌, true, List, [], ◌∷◌, drop, replicate, Option, Some, None, slice_get}
use Rattle.dfdl_terms.specs.Rows.{Table}
use Rattle.dfdl_grammar.specs.declared.instead.Instead.{Instead}
use Rattle.dfdl_grammar.specs.States.{Input, State}
use Rattle.dfdl_grammar.specs.Outcomes.{Outcome, ended, then_do}
use Rattle.dfdl_grammar.specs.Framing.{fill_to}
use Rattle.dfdl_grammar.specs.Boxes.{bytes_up_to, pass_bytes, rest_from, unboxed}
use Rattle.dfdl_grammar.specs.Spans.{span_ends}
use Rattle.dfdl_grammar.specs.Delimiters.{unscoped}
use Rattle.dfdl_grammar.specs.Elements.{attempted, close}
use Rattle.dfdl_grammar.specs.Representations.{after_empty, or_else, the_last, then_empty, then_normal}
use Rattle.dfdl_grammar.specs.Leaves.{nil_values}
use Rattle.dfdl_grammar.specs.Prefixes.{sized_leaf}
use Rattle.dfdl_grammar.specs.Choices.{branches, or_branch}
use Rattle.dfdl_grammar.specs.Occurrences.{after_occurrence, occurrences, occurring, untried}
use Rattle.dfdl_grammar.specs.Rows.{below, group, meaning}
use Rattle.dfdl_grammar.specs.Statements.{concluded_at}
use Rattle.dfdl_grammar.specs.Instances.{closed_behind}
use Rattle.dfdl_parse.specs.declared.frame.Frame.{Frame}
use Rattle.dfdl_parse.specs.declared.frame.Frame.TheVariants.{Rest, Element, Box, Spanning, Scope as ScopeFrame, Trial, Branch, Occurrence, Times, Before, Content, Closing, Aside, Concluding, Instance as InstanceFrame}
use Rattle.dfdl_parse.specs.declared.frame.Next.{Next}
use Rattle.dfdl_parse.specs.declared.frame.Next.TheVariants as next
use Rattle.dfdl_parse.specs.declared.frame.Parts.{Parts}
use Rattle.dfdl_parse.specs.declared.frame.Focus.{Focus}
use Rattle.dfdl_parse.specs.declared.frame.Focus.TheVariants.{Enter, Pass, PassRest, Sized, Seek, LookIn, LookBehind, Count, Leave}
use Rattle.dfdl_parse.specs.Moves.{Machine}
use Rattle.dfdl_parse.specs.Machines.{children_of}
use Rattle.dfdl_parse.specs.Searches.{sought_text}
use Rattle.dfdl_parse.specs.Slots.{slots_from}
use Rattle.dfdl_parse.specs.SlotsAhead.{asked_behind, asked_in, asked_slots, before_slot, beside_slots, closing_slot, content_slot, sequence_of}
use Rattle.dfdl_parse.specs.Trials.{parts_of}

-- one representation of an element by its row
abbrev pub trial_of : Input → Table → ℕ → Parts → Instead → State → Outcome
trial_of input table id parts = attempted input id parts.complex (below input table id parts.body)

-- what follows a representation of an element
abbrev pub retried : Input → Table → ℕ → Option Parts → Next → Outcome → Outcome
retried input table id None follows o = the_last o.end o
retried input table id (Some parts) next.Empty o = or_else o.end o (then_empty parts.tried.refuses_empty parts.tried.empty (trial_of input table id parts))
retried input table id (Some parts) next.Normal o = after_empty parts.tried.refuses_empty o (then_normal (trial_of input table id parts))
retried input table id (Some parts) next.Nothing o = the_last o.end o

-- what a frame makes of the outcome of the row before it
abbrev pub resume : Input → Table → Frame → Outcome → Outcome
resume input table (Rest id next) o = then_do o (group (below input table id) (drop next (children_of (slice_get table.rows id))))
resume input table (Element outer complex) o = close o.end outer complex o
resume input table (Box outer from) o =
    let whole : Outcome = then_do o (rest_from input from) in unboxed whole.end outer.stop outer.hidden whole
resume input table (Spanning from) o = then_do o (span_ends from)
resume input table (ScopeFrame count) o = unscoped o.end count o
resume input table (Trial id occurrence next) o = retried input table id (parts_of occurrence (slice_get table.rows id)) next o
resume input table (Branch id next) o =
    or_branch o.end o (branches (below input table id) (drop next (children_of (slice_get table.rows id))))
resume input table (Occurrence body initiated left) o =
    let p : Outcome = untried o.end o in after_occurrence p.end p (occurrences (occurring true (meaning input table body)) initiated left)
resume input table (Times body left) o = then_do o (group (meaning input table) (replicate left body))
resume input table (Before slot) o = before_slot (sequence_of input table slot.sequence) slot (slots_from table slot) o
resume input table (Content slot bit empty) o = content_slot (sequence_of input table slot.sequence) slot bit empty (slots_from table slot) (untried o.end o)
resume input table (Closing slot bit) o = closing_slot (sequence_of input table slot.sequence) slot bit (slots_from table slot) o
resume input table (Aside slot) o = beside_slots input table slot o
resume input table (Concluding statements start) o = concluded_at o.end input.limits table start statements o
resume input table InstanceFrame o = closed_behind o.end o

-- what a stack makes of the outcome of the row before it
unfoldable pub finish : Input → Table → List Frame → Outcome → Outcome
finish input table [] o = o
finish input table (frame ∷ k) o = finish input table k (resume input table frame o)

-- the outcome of what is done next
abbrev pub focused : Input → Table → Focus → State → Outcome
focused input table (Enter id) s = meaning input table id s
focused input table (Pass to) s = fill_to input to s
focused input table (PassRest bit outer) s =
    let passed : Outcome = pass_bytes input (bytes_up_to s.stop (bit / 8)) (bit / 8) s in unboxed passed.end outer.stop outer.hidden passed
focused input table (Sized prim size) s = sized_leaf input table.delimiters (nil_values table.primitives s.instead) (slice_get table.primitives prim) size s
focused input table (Seek what) s = sought_text input table.delimiters what s
focused input table (LookIn slot) s = asked_in (sequence_of input table slot.sequence) slot (slots_from table slot) s
focused input table (LookBehind slot bit) s = asked_behind (sequence_of input table slot.sequence) slot bit (slots_from table slot) s
focused input table (Count slot question) s = asked_slots (sequence_of input table slot.sequence) slot question (slots_from table slot) s
focused input table (Leave end) s = ended end s

-- the outcome of the whole
abbrev pub ahead : Input → Table → Machine → Outcome
ahead input table m = finish input table m.stack (focused input table m.focus m.state)

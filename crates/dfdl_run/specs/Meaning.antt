-- What the bytes of the source come to: data that is parsed, or an infoset that is unparsed.
use Rattle.std.specs.Prelude.{ℕ, ◌+◌, ◌*◌, if◌then◌else◌, nat_le, List, length}
use Rattle.std.specs.Prelude.{Option, None, Some, Result, Ok, Err}
use Rattle.dfdl_report.specs.declared.cause.UnparseCause.TheVariants.{WrongOccurrences}
use Rattle.dfdl_terms.specs.Rows.{Table}
use Rattle.dfdl_terms.specs.declared.event.Event.{Event}
use Rattle.dfdl_grammar.specs.declared.end.End.{End as DocumentEnd}
use Rattle.dfdl_grammar.specs.declared.end.End.TheVariants.{Done as IsDone, Failed as Fails, Stopped}
use Rattle.dfdl_grammar.specs.declared.end.Halt.TheVariants as halt
use Rattle.dfdl_grammar.specs.declared.limits.Limits.{Limits}
use Rattle.dfdl_grammar.specs.Outcomes.{Outcome}
use Rattle.dfdl_grammar.specs.States.{State}
use Rattle.dfdl_grammar.specs.Paths.{path_of}
use Rattle.dfdl_grammar.specs.Documents.{document}
use Rattle.dfdl_json.specs.Infosets.{Refusal}
use Rattle.dfdl_json.specs.Texts.{events_of_text}
use Rattle.dfdl_json.specs.Lines.{line_of}
use Rattle.dfdl_pieces.specs.Laying.{unparsed_of}
use Rattle.dfdl_pieces.specs.declared.unparsing.Unparsed.{Unparsed as Laid}
use Rattle.dfdl_run.specs.declared.answer.Answer.{Answer}
use Rattle.dfdl_run.specs.declared.answer.Answer.TheVariants.{Done, LeftOver, Failed, Variable, Unparsed}
use Rattle.dfdl_run.specs.declared.answer.Answer.TheVariants.{NotUnparsed, NoInfoset}
use Rattle.dfdl_run.specs.declared.stop.Stop.TheVariants.{Limit}
use Rattle.dfdl_run.specs.declared.command.Verb.{Verb}
use Rattle.dfdl_run.specs.declared.command.Verb.TheVariants.{Parse, Unparse}
use Rattle.dfdl_run.specs.Answer.{End}
use Rattle.dfdl_run.specs.Said.{said_of}

-- the most bytes that are held of the data, the most elements of a document, and the most bytes of its strings and hexBinary values
abbrev pub limits : Limits
limits = record { window = 33554432; nodes = 1000000; text = 33554432 }

-- the answer of a document that is read up to a bit, of so many bits of data: what is left is told from a whole byte on
abbrev pub answer_at : Table → ℕ → State → Answer
answer_at t bits s =
    if nat_le (s.at + 8) bits then LeftOver (line_of t s.nodes s.text) s.at else Done (line_of t s.nodes s.text)

-- what the end of a document comes to, of so many bits of data
abbrev pub document_end : Table → ℕ → DocumentEnd → State → End
document_end t bits IsDone s = Ok (answer_at t bits s)
document_end t bits (Fails cause at) s = Ok (Failed cause at (path_of t s.nodes s.inside) (said_of t cause))
document_end t bits (Stopped (halt.Limit cause) quantity) s = Err (Limit cause quantity)
document_end t bits (Stopped (halt.Variable cause) at) s = Ok (Variable cause at (path_of t s.nodes s.inside))

-- what an outcome comes to, of so many bits of data
abbrev pub outcome_end : Table → ℕ → Outcome → End
outcome_end t bits o = document_end t bits o.end o.state

-- what parsing data comes to
abbrev pub parse_end : Table → List ℕ → End
parse_end t bytes = outcome_end t (8 * length bytes) (document limits t bytes)

-- the answer of pieces, and of the element of this path that is missing behind them, if one is
abbrev pub pieces_answer : List (List ℕ) → Option (List ℕ) → Answer
pieces_answer pieces None = Unparsed pieces
pieces_answer pieces (Some path) = NotUnparsed pieces WrongOccurrences path

-- the answer of what was laid
abbrev pub laid_answer : Laid → Answer
laid_answer laid = pieces_answer laid.pieces laid.missing

-- the answer of the events of an infoset, or of the refusal in their place
abbrev pub events_answer : Table → Result (List Event) Refusal → Answer
events_answer t (Err refusal) = NoInfoset refusal.cause refusal.path
events_answer t (Ok events) = laid_answer (unparsed_of t events)

-- what unparsing the text of an infoset comes to
abbrev pub unparse_end : Table → List ℕ → End
unparse_end t text = Ok (events_answer t (events_of_text t text))

-- what the bytes of the source come to
abbrev pub end_of : Verb → Table → List ℕ → End
end_of Parse t bytes = parse_end t bytes
end_of Unparse t bytes = unparse_end t bytes

-- A search for a text leaves all as it is, but for the bit that comes next, and for points that are resolved.
use Rattle.std.proofs.Common.{◌≡◌, refl, sym, subst, ◌∙◌, ℕ, ◌+◌, ◌-◌, Bool, true, false, cond, ◌&&◌, List, ◌∷◌, [], ◌++◌, length, nat_eq, nat_lt, Option}
use Rattle.dfdl_bits.specs.declared.window.Seen.{Seen}
use Rattle.dfdl_delims.specs.Lists.{Opened}
use Rattle.dfdl_delims.specs.Longest.{Longest, Text, NoText}
use Rattle.dfdl_report.specs.declared.cause.LimitCause.TheVariants.{Window}
use Rattle.dfdl_report.specs.declared.cause.ParseCause.{ParseCause}
use Rattle.dfdl_report.specs.declared.cause.ParseCause.TheVariants.{InitiatorMissing, SeparatorMissing, TerminatorMissing}
use Rattle.dfdl_terms.specs.declared.delimiters.Delimiter.{Delimiter}
use Rattle.dfdl_terms.specs.declared.delimiters.Delimiters.{Delimiters}
use Rattle.dfdl_looks.specs.Asks.{Reached, Told, TooFar, Missing, ask}
use Rattle.dfdl_looks.specs.Looks.{seen_in}
use Rattle.dfdl_looks.specs.Tallies.{nothing}
use Rattle.dfdl_grammar.specs.declared.end.End.{End}
use Rattle.dfdl_grammar.specs.declared.end.End.TheVariants.{Done, Failed, Stopped}
use Rattle.dfdl_grammar.specs.declared.end.Halt.{Halt}
use Rattle.dfdl_grammar.specs.declared.end.Halt.TheVariants.{Limit}
use Rattle.dfdl_grammar.specs.declared.mark.Mark.{Mark}
use Rattle.dfdl_grammar.specs.Delimiters.{found_initiator, initiator, lists_of, markup, numbers_of, passed_text, seek, separator, sought_among, stands_in, terminator}
use Rattle.dfdl_grammar.specs.Framing.{aligned}
use Rattle.dfdl_grammar.specs.Marks.{AreSame, initiated}
use Rattle.dfdl_grammar.specs.Outcomes.{Outcome, ended}
use Rattle.dfdl_grammar.specs.States.{Input, State, anchor_at}
use Rattle.dfdl_grammar.proofs.Resolved.{initiated-comes}

-- What holds of the state at any bit, where more of its points may be resolved, and of each failure and limit where it stood.
module _ (P : End → State → Type 0) (s : State)
    (moves : (at : ℕ) (marks : List Mark) → AreSame marks s.marks → P Done (record s { at = at; marks = marks }))
    (fails : (cause : ParseCause) → P (Failed cause s.at) s) (stops : (cause : Halt) (quantity : ℕ) → P (Stopped cause quantity) s) where
  text-comes : (cause : ParseCause) (bits : ℕ) (is : Bool)
      → (let o : Outcome = cond is (ended Done (record s { at = aligned 8 s.at + bits })) (ended (Failed cause s.at) s) in P o.end o.state)
  text-comes cause bits true = moves (aligned 8 s.at + bits) s.marks refl
  text-comes cause bits false = fails cause

  passed-comes : (cause : ParseCause) (place window : ℕ) (reached : Reached Longest)
      → P (passed_text cause place window reached s).end (passed_text cause place window reached s).state
  passed-comes cause place window (Told (Text which bits)) = text-comes cause bits (nat_eq which place && nat_lt 0 bits)
  passed-comes cause place window (Told NoText) = fails cause
  passed-comes cause place window TooFar = stops (Limit Window) window
  passed-comes cause place window Missing = moves s.at s.marks refl

  module _ (input : Input) where
    seek-comes : (cause : ParseCause) (lists : List Opened) (place : ℕ) → P (seek input cause lists place s).end (seek input cause lists place s).state
    seek-comes cause lists place =
        let look : ℕ → Seen = seen_in input.bytes input.limits.window (anchor_at s (aligned 8 s.at)) in
        passed-comes cause place input.limits.window (ask look (sought_among lists s.at s.stop) nothing).reached

    stands-comes : (cause : ParseCause) (lists : List Opened) (place : ℕ) (stands : Bool)
        → (let o : Outcome = cond stands (seek input cause lists place s) (ended Done s) in P o.end o.state)
    stands-comes cause lists place true = seek-comes cause lists place
    stands-comes cause lists place false = moves s.at s.marks refl

    pub terminator-comes : (delimiters : List Delimiters) (delimiter : Delimiter) (separators : Option ℕ)
        → P (terminator input delimiters delimiter separators s).end (terminator input delimiters delimiter separators s).state
    terminator-comes delimiters delimiter separators =
        stands-comes TerminatorMissing (lists_of delimiters (markup s ++ delimiter.list ∷ numbers_of separators)) (length (markup s))
        (stands_in s.instead delimiter)

    pub separator-comes : (delimiters : List Delimiters) → P (separator input delimiters s).end (separator input delimiters s).state
    separator-comes delimiters = seek-comes SeparatorMissing (lists_of delimiters (markup s)) (length (markup s) - 1)

-- the same of an initiator, which may resolve a point where it is found
module _ (P : End → State → Type 0) (s : State)
    (moves : (at : ℕ) (marks : List Mark) → AreSame marks s.marks → P Done (record s { at = at; marks = marks }))
    (fails : (cause : ParseCause) → P (Failed cause s.at) s) (stops : (cause : Halt) (quantity : ℕ) → P (Stopped cause quantity) s)
    (input : Input) (resolves : Bool) where
  -- where a text was found that may be an initiator
  abbrev Resolves : End → State → Type 0
  Resolves e t = P e t × (e ≡ Done → P Done (initiated resolves t))

  found-comes : (e : End) (o : Outcome) → e ≡ o.end → Resolves o.end o.state → P (found_initiator resolves e o).end (found_initiator resolves e o).state
  found-comes Done o same holds = subst (λ (e : End). P e (initiated resolves o.state)) same (holds.1 (sym same))
  found-comes (Failed cause bit) o same holds = holds.0
  found-comes (Stopped cause quantity) o same holds = holds.0

  resolves-at : (at : ℕ) (marks : List Mark) → AreSame marks s.marks → Resolves Done (record s { at = at; marks = marks })
  resolves-at at marks same = (
    moves at marks same,
    λ done. initiated-comes (λ (t : State). P Done t) (record s { at = at; marks = marks })
        (λ others other_same. moves at others (other_same ∙ same)) resolves,
  )

  stands-initiated : (lists : List Opened) (stands : Bool)
      → (let out : Outcome = cond stands (let o : Outcome = seek input InitiatorMissing lists 0 s in found_initiator resolves o.end o) (ended Done s) in
      P out.end out.state)
  stands-initiated lists true =
      let o : Outcome = seek input InitiatorMissing lists 0 s in
      found-comes o.end o refl
      (seek-comes (λ (e : End) (t : State). Resolves e t) s resolves-at (λ cause. (fails cause, λ done. absurd (cc)))
      (λ cause quantity. (stops cause quantity, λ done. absurd (cc))) input InitiatorMissing lists 0)
  stands-initiated lists false = moves s.at s.marks refl

-- and so of each initiator
module _ (P : End → State → Type 0) (s : State)
    (moves : (at : ℕ) (marks : List Mark) → AreSame marks s.marks → P Done (record s { at = at; marks = marks }))
    (fails : (cause : ParseCause) → P (Failed cause s.at) s) (stops : (cause : Halt) (quantity : ℕ) → P (Stopped cause quantity) s)
    (input : Input) where
  pub initiator-comes : (delimiters : List Delimiters) (delimiter : Delimiter)
      → P (initiator input delimiters delimiter s).end (initiator input delimiters delimiter s).state
  initiator-comes delimiters delimiter =
      stands-initiated P s moves fails stops input delimiter.resolves (lists_of delimiters (delimiter.list ∷ [])) (stands_in s.instead delimiter)

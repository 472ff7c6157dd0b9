-- A session takes a piece, or the end of the data.
use Rattle.std.proofs.Common.{◌≡◌, ℕ, zero, suc, ◌+◌, ◌-◌, ◌<◌, ◌≤◌, max, ◌⊎◌, inl, inr, refl, List, [], ◌++◌, length, get_or, true, false, ap, sym, subst, ◌∙◌, arith, append_assoc, length-append}
use Rattle.std.proofs.lemmas.List.{append-nil, get_or_append_left, get_or-append_right}
use Rattle.dfdl_bits.specs.Window.{Held, end_of, with_more}
use Rattle.dfdl_terms.specs.Rows.{Table}
use Rattle.dfdl_looks.specs.Looks.{Agrees}
use Rattle.dfdl_looks.specs.Tallies.{Tally, nothing}
use Rattle.dfdl_grammar.specs.declared.limits.Limits.{Limits}
use Rattle.dfdl_grammar.specs.States.{Input, State}
use Rattle.dfdl_grammar.specs.Outcomes.{Outcome, ended, spend}
use Rattle.dfdl_grammar.specs.Documents.{document_from, front_at}
use Rattle.dfdl_grammar.proofs.Spending.{spend-nothing}
use Rattle.dfdl_parse.specs.declared.frame.Frame.{Frame}
use Rattle.dfdl_parse.specs.declared.frame.Focus.{Focus}
use Rattle.dfdl_parse.specs.declared.frame.Focus.TheVariants.{Enter, Pass, PassRest, Sized, Seek, LookIn, LookBehind, Count, Leave}
use Rattle.dfdl_parse.specs.declared.parser.Parser.{Parser}
use Rattle.dfdl_parse.specs.Moves.{Machine}
use Rattle.dfdl_parse.specs.Machines.{HasEnded}
use Rattle.dfdl_parse.specs.Ahead.{ahead, finish}
use Rattle.dfdl_parse.specs.Shown.{shown, state_of}
use Rattle.dfdl_parse.specs.Runs.{Runs}

-- a window with a piece more agrees with data in which the piece stands there
agrees_more : (held : Held) (stream piece more : List ℕ) → held.ended ≡ false → length stream ≡ end_of held
    → Agrees held (stream ++ (piece ++ more)) → Agrees (with_more held piece) (stream ++ (piece ++ more))
agrees_more held stream piece more on all agrees =
    let size = length-append held.bytes piece in
    let stream_size = length-append stream (piece ++ more) in
    let piece_size = length-append piece more in
    record {
      bytes = λ i less. at i less (lt_or i (length held.bytes));
      within = omega arith;
      all = λ ended. absurd (cc);
    }
  where
    lt_or : (i n : ℕ) → (i < n) ⊎ (n ≤ i)
    lt_or zero zero = inr (omega arith)
    lt_or zero (suc n) = inl (omega arith)
    lt_or (suc i) zero = inr (omega arith)
    lt_or (suc i) (suc n) = elim (lt_or i n) [ inl less ↦ inl (omega arith) | inr most ↦ inr (omega arith) ]

    at : (i : ℕ) → i < length (held.bytes ++ piece) → (i < length held.bytes) ⊎ (length held.bytes ≤ i)
        → get_or (held.bytes ++ piece) i 0 ≡ get_or (stream ++ (piece ++ more)) (held.base + i) 0
    at i less (inl before) = get_or_append_left held.bytes piece 0 i before ∙ agrees.bytes i before
    at i less (inr behind) =
        let size = length-append held.bytes piece in
        let left : i - length held.bytes < length piece = omega arith in
        let place : held.base + i - length stream ≡ i - length held.bytes = omega arith in
        let past : length stream ≤ held.base + i = omega arith in
        get_or-append_right held.bytes piece (length held.bytes) i 0 refl behind
        ∙ sym (get_or_append_left piece more 0 (i - length held.bytes) left)
        ∙ ap (λ (j : ℕ). get_or (piece ++ more) j 0) (sym place)
        ∙ sym (get_or-append_right stream (piece ++ more) (length stream) (held.base + i) 0 refl past)

module _ (limits : Limits) (table : Table) (p : Parser) (held : Held) (start : ℕ) (stream : List ℕ)
    (all : length stream ≡ end_of held) (looks : ℕ) where
  abbrev input : List ℕ → Input
  input bytes = record { bytes = bytes; limits = limits }

  abbrev RunsOver : Held → List ℕ → Type 0
  RunsOver sight bytes = Runs (input bytes) table (document_from limits table start bytes) (shown p) sight looks p.far

  -- the machine stands in the work as before, with a piece more in the window
  pub fed : held.ended ≡ false → (piece more : List ℕ) → RunsOver held (stream ++ (piece ++ more)) → RunsOver (with_more held piece) ((stream ++ piece) ++ more)
  fed on piece more runs =
      let size = length-append held.bytes piece in
      let there : RunsOver (with_more held piece) (stream ++ (piece ++ more)) = record {
        spent = runs.spent;
        same = runs.same;
        looks = runs.looks;
        far = runs.far;
        found = λ still. let found = runs.found on in let far : p.far ≤ end_of held = found.1 in (found.0, omega arith);
        agrees = agrees_more held stream piece more on all runs.agrees;
        size = runs.size;
      } in
      subst (λ (bytes : List ℕ). RunsOver (with_more held piece) bytes) (sym (append_assoc stream piece more)) there

  -- and with the end told
  pub told : RunsOver held (stream ++ []) → RunsOver (record held { ended = true }) stream
  told runs =
      let here : RunsOver held stream = subst (λ (bytes : List ℕ). RunsOver held bytes) (append-nil stream) runs in
      record {
        spent = here.spent;
        same = here.same;
        looks = here.looks;
        far = here.far;
        found = λ still. absurd (cc);
        agrees = record { bytes = here.agrees.bytes; within = here.agrees.within; all = λ ended. all };
        size = here.size;
      }

-- what a machine that has ended says of the whole
pub record Over (p : Parser) (o : Outcome) (looks_made : ℕ) : Type 0 where
  pub focus : p.focus ≡ Leave o.end
  pub stack : p.stack ≡ []
  pub state : state_of p ≡ o.state
  pub far : p.far ≡ o.tally.far
  pub looks : looks_made ≡ o.tally.looks

far-stays : (far : ℕ) → max far 0 ≡ far
far-stays far = omega arith

looks-stay : (looks : ℕ) → looks + 0 ≡ looks
looks-stay looks = omega arith

over_at : (input : Input) (table : Table) (root : Outcome) (focus : Focus) (k : List Frame) (s : State) (spent : Tally) → HasEnded focus k
    → root ≡ spend spent (ahead input table (record { focus = focus; stack = k; state = s }))
    → (focus ≡ Leave root.end) × (k ≡ []) × (s ≡ root.state) × (root.tally.far ≡ spent.far) × (root.tally.looks ≡ spent.looks)
unfolding finish
over_at input table root (Enter id) k s spent ended_here same = absurd ended_here
over_at input table root (Pass to) k s spent ended_here same = absurd ended_here
over_at input table root (PassRest bit outer) k s spent ended_here same = absurd ended_here
over_at input table root (Sized prim size) k s spent ended_here same = absurd ended_here
over_at input table root (Seek what) k s spent ended_here same = absurd ended_here
over_at input table root (LookIn slot) k s spent ended_here same = absurd ended_here
over_at input table root (LookBehind slot bit) k s spent ended_here same = absurd ended_here
over_at input table root (Count slot question) k s spent ended_here same = absurd ended_here
over_at input table root (Leave end) k s spent ended_here same =
    let is : root ≡ spend spent (ended end s) =
    same ∙ ap (λ (k : List Frame). spend spent (ahead input table (record { focus = Leave end; stack = k; state = s }))) ended_here in (
      ap (λ (o : Outcome). Leave o.end) (sym is),
      ended_here,
      ap (λ (o : Outcome). o.state) (sym is),
      ap (λ (o : Outcome). o.tally.far) is ∙ far-stays spent.far,
      ap (λ (o : Outcome). o.tally.looks) is ∙ looks-stay spent.looks,
    )

pub over : (input : Input) (table : Table) (root : Outcome) (p : Parser) (held : Held) (looks_made : ℕ) → HasEnded p.focus p.stack
    → Runs input table root (shown p) held looks_made p.far → Over p root looks_made
over input table root p held looks_made ended_here runs =
    let parts = over_at input table root p.focus p.stack (state_of p) runs.spent ended_here runs.same in
    record {
      focus = parts.0;
      stack = parts.1;
      state = parts.2;
      far = sym runs.far ∙ sym parts.3;
      looks = sym runs.looks ∙ sym parts.4;
    }

-- a machine that begins at a byte stands in the work on the document from there on
pub stands_first : (limits : Limits) (table : Table) (p : Parser) (held : Held) (start : ℕ) (bytes : List ℕ) → p.focus ≡ Enter (length table.rows - 1)
    → p.stack ≡ [] → state_of p ≡ front_at table start → p.far ≡ 0 → Agrees held bytes → held.size ≡ limits.window
    → Runs (record { bytes = bytes; limits = limits }) table (document_from limits table start bytes) (shown p) held 0 p.far
unfolding finish
stands_first limits table p held start bytes focus stack front_is far agrees size =
    let input : Input = record { bytes = bytes; limits = limits } in
    let machine : shown p ≡ record { focus = Enter (length table.rows - 1); stack = []; state = front_at table start } =
    ap (λ (f : Focus). record { focus = f; stack = p.stack; state = state_of p }) focus
    ∙ ap (λ (k : List Frame). record { focus = Enter (length table.rows - 1); stack = k; state = state_of p }) stack
    ∙ ap (λ (s : State). record { focus = Enter (length table.rows - 1); stack = []; state = s }) front_is in
    record {
      spent = nothing;
      same = sym (spend-nothing (document_from limits table start bytes)) ∙ ap (λ (m : Machine). spend nothing (ahead input table m)) (sym machine);
      looks = refl;
      far = sym far;
      found = λ still. (refl, omega arith);
      agrees = agrees;
      size = size;
    }

-- a window over no data
pub agrees_none : (held : Held) (bytes : List ℕ) → held.bytes ≡ [] → held.base ≡ 0 → held.ended ≡ false → Agrees held bytes
agrees_none held bytes none base on =
    let length_none : length held.bytes ≡ 0 = ap length none in
    record { bytes = λ i less. absurd (omega arith); within = omega arith; all = λ ended. absurd (cc) }

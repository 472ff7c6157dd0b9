-- The step of a test does a part of what is ahead.
use Rattle.std.proofs.Common.{◌≡◌, ℕ, ◌+◌, ◌/◌, ◌≤◌, min, refl, List, true, false, ap, sym, ◌∙◌, arith}
use Rattle.dfdl_bits.specs.Window.{Held, from_byte, seen_at}
use Rattle.dfdl_terms.specs.declared.statement.PatternTest.{PatternTest}
use Rattle.dfdl_terms.specs.declared.text.PatternForm.{PatternForm}
use Rattle.dfdl_terms.specs.Rows.{Table}
use Rattle.dfdl_texts.specs.Texts.{Text}
use Rattle.dfdl_texts.specs.declared.extent.Extent.TheVariants as extent
use Rattle.dfdl_texts.proofs.Whole.{text-from}
use Rattle.dfdl_looks.specs.Looks.{seen_in}
use Rattle.dfdl_looks.specs.Asks.{Ask, AsksFrom, Reached, Told, TooFar, Missing, Reading, ask}
use Rattle.dfdl_looks.specs.Tallies.{Tally, needs_from, nothing, one_row, plus}
use Rattle.dfdl_looks.proofs.Resumed.{asked}
use Rattle.dfdl_grammar.specs.Framing.{aligned}
use Rattle.dfdl_grammar.specs.Leaves.{text_sought}
use Rattle.dfdl_grammar.specs.Outcomes.{Outcome, spend}
use Rattle.dfdl_grammar.specs.Patterns.{most_sought}
use Rattle.dfdl_grammar.specs.States.{Input, State, anchor}
use Rattle.dfdl_grammar.specs.Tests.{characters_in, land_test, matches, test}
use Rattle.dfdl_grammar.proofs.Spending.{spend-spend}
use Rattle.dfdl_parse.specs.declared.frame.Frame.{Frame}
use Rattle.dfdl_parse.specs.declared.frame.Focus.{Focus}
use Rattle.dfdl_parse.specs.Testing.{is_unknown, landed_test, read_test, verdict_in}
use Rattle.dfdl_parse.specs.Ahead.{ahead, finish}
use Rattle.dfdl_parse.proofs.Windows.{agrees_from}
use Rattle.dfdl_leaves.proofs.Programs.{lower}
use Rattle.dfdl_parse.proofs.Finishes.{Does, finish-spend}
use Rattle.dfdl_parse.proofs.LeafSteps.{Sees}
use Rattle.dfdl_parse.proofs.Resolved.{tested-nothing}

-- each look of a test is at the byte of its bit or behind it
pub test-from : (low : ℕ) (form : PatternForm) (bit stop : ℕ) → low ≤ bit / 8 → AsksFrom low (text_sought form (aligned 8 bit) stop)
test-from low form bit stop base =
    lower low (aligned 8 bit / 8) (omega arith) (text_sought form (aligned 8 bit) stop)
    (text-from form.encoding false extent.Front (min stop (aligned 8 bit + most_sought)) (aligned 8 bit / 8))

-- whether a byte of its text hasn't come
pub known : (form : PatternForm) (reached : Reached Text) → is_unknown (verdict_in form reached) ≡ false → reached ≡ Missing → ⊥
known form (Told text) is missing = absurd (cc)
known form TooFar is missing = absurd (cc)
known form Missing is missing = absurd (cc)

pub unknown : (form : PatternForm) (reached : Reached Text) → is_unknown (verdict_in form reached) ≡ true → reached ≡ Missing
unknown form (Told text) is = absurd (cc)
unknown form TooFar is = absurd (cc)
unknown form Missing is = refl

module _ (input : Input) (table : Table) where
  tested-ahead : (focus : Focus) (pattern : PatternTest) (number : ℕ) (reached : Reached Text) (k : List Frame) (s : State) → is_unknown (verdict_in pattern.form reached) ≡ false
      → finish input table k (land_test input.limits pattern number reached s)
      ≡ ahead input table (landed_test input.limits focus pattern number (verdict_in pattern.form reached) k s)
  tested-ahead focus pattern number (Told text) k s is =
      let o : Outcome = land_test input.limits pattern number (Told text) s in
      ap (λ (t : Tally). finish input table k (record { end = o.end; state = o.state; tally = t }))
      (tested-nothing pattern.discriminates number (matches pattern.form (characters_in text)) s)
  tested-ahead focus pattern number TooFar k s is = refl
  tested-ahead focus pattern number Missing k s is = absurd (cc)

  pub test-ahead : (focus : Focus) (held : Held) (number : ℕ) (pattern : PatternTest) (k : List Frame) (s : State) → Sees held input s
      → (read_test one_row input.limits focus held number pattern k s).waits ≡ false
      → Does input table (finish input table k (spend one_row (test input number pattern s))) (read_test one_row input.limits focus held number pattern k s)
  test-ahead focus held number pattern k s sees going =
      let low : ℕ = anchor s in
      let asks : Ask Text = text_sought pattern.form (aligned 8 s.at) s.stop in
      let here : Reading Text = ask (seen_at (from_byte held low)) asks nothing in
      let same : here ≡ ask (seen_in input.bytes input.limits.window low) asks nothing =
      asked (from_byte held low) input.bytes (agrees_from held input.bytes low sees.stands.base sees.stands.end sees.agrees)
      asks (test-from low pattern.form s.at s.stop sees.stands.low) nothing (known pattern.form here.reached going)
      ∙ ap (λ (size : ℕ). ask (seen_in input.bytes size low) asks nothing) sees.size in
      let spent : Tally = needs_from low here.tally in
      ap (λ (r : Reading Text). finish input table k (spend one_row (spend (needs_from low r.tally) (land_test input.limits pattern number r.reached s)))) (sym same)
      ∙ ap (finish input table k) (spend-spend one_row spent (land_test input.limits pattern number here.reached s))
      ∙ finish-spend input table k (plus one_row spent) (land_test input.limits pattern number here.reached s)
      ∙ ap (spend (plus one_row spent)) (tested-ahead focus pattern number here.reached k s going)

-- The reading of a pattern, by that of its text; how many bytes the characters of a match have.
use Rattle.std.proofs.Common.{◌≡◌, ℕ, ◌+◌, ◌/◌, min, false, List, refl, ap, sym, subst, ◌∙◌}
use Rattle.dfdl_bits.specs.declared.window.Seen.{Seen}
use Rattle.dfdl_looks.specs.Asks.{Ask, Answer, Reached, Told, TooFar, Missing, Reading, and_then, ask, go_on}
use Rattle.dfdl_looks.specs.Tallies.{Tally, nothing}
use Rattle.dfdl_looks.proofs.Sequels.{ask-then}
use Rattle.dfdl_terms.specs.declared.text.PatternForm.{PatternForm}
use Rattle.dfdl_texts.specs.Texts.{Text, text_at}
use Rattle.dfdl_texts.specs.declared.extent.Extent.TheVariants as extent
use Rattle.dfdl_grammar.specs.Framing.{aligned}
use Rattle.dfdl_grammar.specs.Patterns.{most_sought}
use Rattle.dfdl_texts.specs.Readings.{Answers as TextAnswers, found_shown as text_shown}
use Rattle.dfdl_texts.specs.declared.found.Glance.{Glance as TextGlance}
use Rattle.dfdl_grammar.specs.Leaves.{Find, pattern_find, text_sought}
use Rattle.dfdl_leaves.specs.declared.leaf.Found.{Found}
use Rattle.dfdl_leaves.specs.declared.leaf.Scratch.{Scratch}
use Rattle.dfdl_leaves.specs.Patterned.{pattern_reached}
use Rattle.dfdl_leaves.specs.Readings.{Answers, found_shown}

module _ (look : ℕ → Seen) (form : PatternForm) (bit : ℕ) where
  behind-pattern : (r : Reached Text) (t : Tally)
      → go_on look (λ text. Answer (pattern_find form bit text)) r t ≡ record { reached = pattern_reached form bit r; tally = t }
  behind-pattern (Told text) t = refl
  behind-pattern TooFar t = refl
  behind-pattern Missing t = refl

  -- the answer of a pattern, by that of its text
  pub pattern-read : (text : Ask Text) (chars : List ℕ) (glance : TextGlance) (looks : ℕ) (scratch : Scratch) (found : Found)
      → TextAnswers (ask look text nothing) chars glance looks
      → found_shown scratch found ≡ pattern_reached form bit (text_shown chars glance.found)
      → Answers (ask look (and_then text (λ text. Answer (pattern_find form bit text))) nothing) scratch (record { found = found; far = glance.far }) looks
  pattern-read text chars glance looks scratch found answers shown =
      let here : Reading Text = ask look text nothing in
      let whole : ask look (and_then text (λ text. Answer (pattern_find form bit text))) nothing
      ≡ record { reached = pattern_reached form bit here.reached; tally = here.tally } =
      ask-then look (λ text. Answer (pattern_find form bit text)) text nothing ∙ behind-pattern here.reached here.tally in
      record {
        reached = ap (λ (r : Reading Find). r.reached) whole ∙ ap (pattern_reached form bit) answers.reached ∙ sym shown;
        looks = ap (λ (r : Reading Find). r.tally.looks) whole ∙ answers.looks;
        far = ap (λ (r : Reading Find). r.tally.far) whole ∙ answers.far;
      }

-- the text in which a pattern is sought from the next whole byte on, up to the end of its box or of so many bits
pub text-read : (look : ℕ → Seen) (form : PatternForm) (stop first last : ℕ) → (bit : ℕ) → first ≡ aligned 8 bit → last ≡ min stop (first + most_sought)
    → (chars : List ℕ) (glance : TextGlance) (looks : ℕ)
    → TextAnswers (ask look (text_at form.encoding false extent.Front last (first / 8)) nothing) chars glance looks
    → TextAnswers (ask look (text_sought form (aligned 8 bit) stop) nothing) chars glance looks
text-read look form stop first last bit at ends chars glance looks answers =
    subst (λ (f : ℕ). TextAnswers (ask look (text_sought form f stop) nothing) chars glance looks) at
    (subst (λ (l : ℕ). TextAnswers (ask look (text_at form.encoding false extent.Front l (first / 8)) nothing) chars glance looks) ends answers)

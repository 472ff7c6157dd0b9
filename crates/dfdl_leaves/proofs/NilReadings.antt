-- The reading of nil in a box of bytes, by that of the bytes.
use Rattle.std.proofs.Common.{◌≡◌, ℕ, List, refl, ap, sym, ◌∙◌}
use Rattle.dfdl_bits.specs.declared.window.Seen.{Seen}
use Rattle.dfdl_value.specs.declared.value.Value.{Value}
use Rattle.dfdl_looks.specs.Asks.{Ask, Answer, and_then, Reached, Told, TooFar, Missing, Reading, ask, go_on}
use Rattle.dfdl_looks.specs.Tallies.{Tally, nothing}
use Rattle.dfdl_looks.proofs.Sequels.{ask-then}
use Rattle.dfdl_terms.specs.declared.text.NilForm.{NilForm}
use Rattle.dfdl_terms.specs.declared.text.NilOctets.{NilOctets}
use Rattle.dfdl_grammar.specs.Leaves.{Find, nil_octets, nil_octets_find, nil_value_find, octets}
use Rattle.dfdl_leaves.specs.declared.leaf.Found.{Found}
use Rattle.dfdl_leaves.specs.declared.leaf.Glance.{Glance}
use Rattle.dfdl_leaves.specs.declared.leaf.Scratch.{Scratch}
use Rattle.dfdl_leaves.specs.Nils.{nil_reached, nil_value_reached}
use Rattle.dfdl_leaves.specs.Readings.{Answers, found_shown}

module _ (look : ℕ → Seen) where
  behind-octets : (form : NilForm) (r : Reached Find) (t : Tally)
      → go_on look (λ find. Answer (nil_octets_find form find)) r t ≡ record { reached = nil_reached form r; tally = t }
  behind-octets form (Told find) t = refl
  behind-octets form TooFar t = refl
  behind-octets form Missing t = refl

  -- the answer of nil, by that of its bytes
  pub nil_read : (form : NilOctets) (bit : ℕ) (before after : Scratch) (glance : Glance) (looks : ℕ) (found : Found)
      → Answers (ask look (octets form.octets bit) nothing) before glance looks
      → found_shown after found ≡ nil_reached form.nil (found_shown before glance.found)
      → Answers (ask look (nil_octets form bit) nothing) after (record { found = found; far = glance.far }) looks
  nil_read form bit before after glance looks found answers shown =
      let bytes : Reading Find = ask look (octets form.octets bit) nothing in
      let whole : ask look (nil_octets form bit) nothing ≡ record { reached = nil_reached form.nil bytes.reached; tally = bytes.tally } =
      ask-then look (λ find. Answer (nil_octets_find form.nil find)) (octets form.octets bit) nothing ∙ behind-octets form.nil bytes.reached bytes.tally in
      record {
        reached = ap (λ (r : Reading Find). r.reached) whole ∙ ap (nil_reached form.nil) answers.reached ∙ sym shown;
        looks = ap (λ (r : Reading Find). r.tally.looks) whole ∙ answers.looks;
        far = ap (λ (r : Reading Find). r.tally.far) whole ∙ answers.far;
      }

  behind-value : (values : List Value) (r : Reached Find) (t : Tally)
      → go_on look (λ find. Answer (nil_value_find values find)) r t ≡ record { reached = nil_value_reached values r; tally = t }
  behind-value values (Told find) t = refl
  behind-value values TooFar t = refl
  behind-value values Missing t = refl

  -- the answer of a value that has to be one of some, by that of the value
  pub nil_value_read : (values : List Value) (a : Ask Find) (before after : Scratch) (glance : Glance) (looks : ℕ) (found : Found)
      → Answers (ask look a nothing) before glance looks
      → found_shown after found ≡ nil_value_reached values (found_shown before glance.found)
      → Answers (ask look (and_then a (λ find. Answer (nil_value_find values find))) nothing) after (record { found = found; far = glance.far }) looks
  nil_value_read values a before after glance looks found answers shown =
      let value : Reading Find = ask look a nothing in
      let whole : ask look (and_then a (λ find. Answer (nil_value_find values find))) nothing ≡ record { reached = nil_value_reached values value.reached; tally = value.tally } =
      ask-then look (λ find. Answer (nil_value_find values find)) a nothing ∙ behind-value values value.reached value.tally in
      record {
        reached = ap (λ (r : Reading Find). r.reached) whole ∙ ap (nil_value_reached values) answers.reached ∙ sym shown;
        looks = ap (λ (r : Reading Find). r.tally.looks) whole ∙ answers.looks;
        far = ap (λ (r : Reading Find). r.tally.far) whole ∙ answers.far;
      }

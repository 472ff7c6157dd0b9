-- The reading of a content that markup ends, by that of its characters.
use Rattle.std.proofs.Common.{◌≡◌, ℕ, ◌*◌, ◌≤◌, List, [], sym, subst, arith}
use Rattle.dfdl_bits.specs.declared.window.Seen.{Seen}
use Rattle.dfdl_value.specs.declared.value.Value.{Value}
use Rattle.dfdl_looks.specs.Asks.{Answer, Reached, Told, and_then, ask}
use Rattle.dfdl_looks.specs.Tallies.{nothing}
use Rattle.dfdl_terms.specs.declared.text.ScanForm.{ScanForm}
use Rattle.dfdl_terms.specs.declared.text.TextForm.{TextForm}
use Rattle.dfdl_delims.specs.Deciding.{goes_on}
use Rattle.dfdl_delims.specs.Lists.{Opened}
use Rattle.dfdl_escapes.specs.declared.character.Character.{Character}
use Rattle.dfdl_escapes.specs.declared.ending.Read.{Read}
use Rattle.dfdl_escapes.specs.declared.form.Form.{Form}
use Rattle.dfdl_escapes.specs.declared.form.Stand.{Stand}
use Rattle.dfdl_escapes.specs.declared.scanned.Glance.{Glance as StepGlance}
use Rattle.dfdl_escapes.specs.Contents.{rest_of}
use Rattle.dfdl_escapes.specs.Readings.{Answers as StepAnswers, step_shown}
use Rattle.dfdl_escapes.specs.Reads.{IsRead, ending_shown}
use Rattle.dfdl_escapes.specs.Steps.{step_at}
use Rattle.dfdl_grammar.specs.Delimited.{first_step, scanned, scanned_as, scanned_from}
use Rattle.dfdl_grammar.specs.Framing.{aligned}
use Rattle.dfdl_grammar.specs.Leaves.{Find, kept_find, default_by_step, delimited_find}
use Rattle.dfdl_leaves.specs.declared.leaf.Found.{Found}
use Rattle.dfdl_leaves.specs.declared.leaf.Scratch.{Scratch}
use Rattle.dfdl_leaves.specs.Readings.{Answers, IsWithin, found_shown}
use Rattle.dfdl_leaves.specs.Strings.{made_of}
use Rattle.dfdl_leaves.proofs.Ends.{AtEnd, kept-at, ends-found}
use Rattle.dfdl_leaves.proofs.Made.{made_read}

module _ (look : ℕ → Seen) (lists : List Opened) (scan : ScanForm) (bit stop : ℕ) (form : Form) (begin : Stand)
    (scans : form ≡ scanned_as scan stop) (begins : begin ≡ scanned_from scan bit) (scratch : Scratch) (found : Found) (looks : ℕ) where
  -- the answer of a content, by that of its characters
  pub delimited_read : (text : TextForm) (before read : List Character) (last : Stand) (answer : Read) → before ≡ []
      → IsRead (ask look (rest_of (goes_on lists) lists form before begin) nothing) read last answer looks
      → found_shown scratch found ≡ made_of (delimited_find text) (ending_shown read last answer.ending)
      → Answers (ask look (and_then (scanned lists scan bit stop) (λ content. Answer (delimited_find text content))) nothing) scratch
      (record { found = found; far = answer.far }) looks
  delimited_read text before read last answer none is shown =
      let one : IsRead (ask look (rest_of (goes_on lists) lists form [] begin) nothing) read last answer looks =
      subst (λ (xs : List Character). IsRead (ask look (rest_of (goes_on lists) lists form xs begin) nothing) read last answer looks) none is in
      let two : IsRead (ask look (rest_of (goes_on lists) lists (scanned_as scan stop) [] begin) nothing) read last answer looks =
      subst (λ (f : Form). IsRead (ask look (rest_of (goes_on lists) lists f [] begin) nothing) read last answer looks) scans one in
      let three : IsRead (ask look (scanned lists scan bit stop) nothing) read last answer looks =
      subst (λ (at : Stand). IsRead (ask look (rest_of (goes_on lists) lists (scanned_as scan stop) [] at) nothing) read last answer looks) begins two in
      made_read look (delimited_find text) (scanned lists scan bit stop) (ending_shown read last answer.ending) looks answer.far scratch found
      three.reached three.looks three.far shown

  -- the answer of an empty representation, by that of a content's first step
  pub absent_read : (value : Value) (at : Stand) (glance : StepGlance) (first : ℕ) → first ≡ aligned 8 bit
      → StepAnswers (ask look (step_at (goes_on lists) lists form begin) nothing) at glance looks
      → found_shown scratch found ≡ made_of (default_by_step value first) (step_shown at glance.scanned)
      → Answers (ask look (and_then (first_step lists scan bit stop) (λ step. Answer (default_by_step value (aligned 8 bit) step))) nothing) scratch
      (record { found = found; far = glance.far }) looks
  absent_read value at glance first is answers shown =
      let one : StepAnswers (ask look (step_at (goes_on lists) lists (scanned_as scan stop) begin) nothing) at glance looks =
      subst (λ (f : Form). StepAnswers (ask look (step_at (goes_on lists) lists f begin) nothing) at glance looks) scans answers in
      let two : StepAnswers (ask look (first_step lists scan bit stop) nothing) at glance looks =
      subst (λ (b : Stand). StepAnswers (ask look (step_at (goes_on lists) lists (scanned_as scan stop) b) nothing) at glance looks) begins one in
      let there : found_shown scratch found ≡ made_of (default_by_step value (aligned 8 bit)) (step_shown at glance.scanned) =
      subst (λ (n : ℕ). found_shown scratch found ≡ made_of (default_by_step value n) (step_shown at glance.scanned)) is shown in
      made_read look (default_by_step value (aligned 8 bit)) (first_step lists scan bit stop) (step_shown at glance.scanned) looks glance.far scratch found
      two.reached two.looks two.far there

-- what characters before a byte are found as lies in the bytes before it
pub found-before : (form : TextForm) (characters : List ℕ) (byte last : ℕ) (scratch : Scratch) (found : Found) → byte ≤ last
    → found_shown scratch found ≡ Told (kept_find form (8 * byte) characters) → IsWithin found last
found-before form characters byte last scratch found few shown =
    ends-found last scratch found
    (subst (λ (r : Reached Find). AtEnd (λ e. e ≤ 8 * last) r) (sym shown)
    (kept-at (λ e. e ≤ 8 * last) form (8 * byte) characters (omega arith)))

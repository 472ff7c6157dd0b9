-- The reading of a string, by that of its text.
use Rattle.std.proofs.Common.{◌≡◌, ℕ, zero, suc, ◌+◌, ◌-◌, ◌*◌, ◌/◌, ◌%◌, ◌≤◌, Bool, true, false, cond, nat_eq, nat_le, refl, List, ap, sym, subst, ◌∙◌, arith}
use Rattle.std.proofs.lemmas.Bool.Decides.{nat_tests}
use Rattle.dfdl_bits.specs.Window.{Held, end_of, seen_at}
use Rattle.dfdl_bits.specs.declared.window.Seen.{Seen}
use Rattle.dfdl_bits.specs.declared.window.Seen.TheVariants.{Byte}
use Rattle.dfdl_report.specs.declared.cause.ParseCause.TheVariants.{NotFilled}
use Rattle.dfdl_looks.specs.Asks.{Ask, Answer, Reached, Told, TooFar, Missing, Reading, and_then, ask, go_on}
use Rattle.dfdl_looks.specs.Tallies.{Tally, nothing}
use Rattle.dfdl_looks.proofs.Seeing.{seen_within}
use Rattle.dfdl_looks.proofs.Sequels.{ask-then}
use Rattle.dfdl_delims.specs.Lists.{Opened}
use Rattle.dfdl_grammar.specs.Delimited.{scanned, scanned_as}
use Rattle.dfdl_delims.specs.Deciding.{goes_on}
use Rattle.dfdl_terms.specs.declared.text.TextForm.{TextForm}
use Rattle.dfdl_terms.specs.declared.text.TextSize.{TextSize}
use Rattle.dfdl_terms.specs.declared.text.TextSize.TheVariants.{Bits, Characters, Delimited}
use Rattle.dfdl_terms.specs.declared.row.Primitive.TheVariants.{Text as PlacedText}
use Rattle.dfdl_texts.specs.declared.extent.Extent.{Extent}
use Rattle.dfdl_texts.specs.declared.extent.Extent.TheVariants as extent
use Rattle.dfdl_texts.specs.Texts.{Text, Reads, HasBad, IsCut, IsBoxed, IsRead as TextEnds, text_at}
use Rattle.dfdl_texts.proofs.Whole.{text-lies}
use Rattle.dfdl_grammar.specs.Framing.{aligned}
use Rattle.dfdl_leaves.proofs.Programs.{text_begins-behind}
use Rattle.dfdl_grammar.specs.Leaves.{Find, Fails, boxed_text, delimited_find, has_room, text_begins, text_behind, text_ends, text_find, text_of_size}
use Rattle.dfdl_leaves.specs.declared.leaf.Found.{Found}
use Rattle.dfdl_leaves.specs.declared.leaf.Glance.{Glance}
use Rattle.dfdl_leaves.specs.declared.leaf.Scratch.{Scratch}
use Rattle.dfdl_leaves.specs.Readings.{Answers, IsWithin, found_shown}
use Rattle.dfdl_texts.specs.Readings.{Answers as TextAnswers, found_shown as text_shown}
use Rattle.dfdl_texts.specs.declared.found.Glance.{Glance as TextGlance}
use Rattle.dfdl_text_string.specs.Padding.{trimmed}
use Rattle.dfdl_leaves.specs.Strings.{text_reached}
use Rattle.dfdl_leaves.specs.Views.{text_of as sized}
use Rattle.dfdl_leaves.proofs.Ends.{AtEnd, delimited-at, ends-found, kept-at}
use Rattle.dfdl_leaves.proofs.Made.{made-ends}
use Rattle.dfdl_leaves.proofs.Scans.{ContentEnds, scanned-ends}

-- a string is what its text is found as
abbrev pub string_of : TextForm → ℕ → Ask Text → Ask Find
string_of form bit text = and_then text (λ read. Answer (text_find form bit read))

module _ (look : ℕ → Seen) (form : TextForm) (bit : ℕ) where
  behind-text : (r : Reached Text) (t : Tally)
      → go_on look (λ read. Answer (text_find form bit read)) r t ≡ record { reached = text_reached form bit r; tally = t }
  behind-text (Told read) t = refl
  behind-text TooFar t = refl
  behind-text Missing t = refl

  pub string-read : (text : Ask Text)
      → ask look (string_of form bit text) nothing ≡ record { reached = text_reached form bit (ask look text nothing).reached; tally = (ask look text nothing).tally }
  string-read text = ask-then look (λ read. Answer (text_find form bit read)) text nothing ∙ behind-text _ _

  -- the answer of a string, by that of its text
  pub characters_read : (text : Ask Text) (chars : List ℕ) (glance : TextGlance) (looks : ℕ) (scratch : Scratch) (found : Found)
      → TextAnswers (ask look text nothing) chars glance looks
      → found_shown scratch found ≡ text_reached form bit (text_shown chars glance.found)
      → Answers (ask look (string_of form bit text) nothing) scratch (record { found = found; far = glance.far }) looks
  characters_read text chars glance looks scratch found answers shown =
      let whole = string-read text in
      record {
        reached = ap (λ (r : Reading Find). r.reached) whole ∙ ap (text_reached form bit) answers.reached ∙ sym shown;
        looks = ap (λ (r : Reading Find). r.tally.looks) whole ∙ answers.looks;
        far = ap (λ (r : Reading Find). r.tally.far) whole ∙ answers.far;
      }

module _ (look : ℕ → Seen) (form : TextForm) (lists : List Opened) (bit stop : ℕ) where
  abbrev pub Is : Ask Find → Scratch → Glance → ℕ → Type 0
  Is program scratch glance looks = Answers (ask look program nothing) scratch glance looks

  abbrev pub text_of : Extent → ℕ → ℕ → Ask Find
  text_of of end first = string_of form bit (text_at form.encoding form.replaces of end (first / 8))

  -- a string in a box of so many bits, which are whole bytes behind its first bit
  pub boxed_read : (size : TextSize) (bits first : ℕ) → size ≡ Bits bits → first ≡ text_begins form.content size bit → (bit + bits - first) % 8 ≡ 0
      → (looks : ℕ) (scratch : Scratch) (glance : Glance) → Is (text_of extent.Box (bit + bits) first) scratch glance looks
      → Is (text_of_size form size lists bit stop) scratch glance looks
  boxed_read size bits first is begins whole looks scratch glance answers =
      let test : nat_eq ((bit + bits - first) % 8) 0 ≡ true = grind (arith, nat_tests) in
      let boxed : Is (boxed_text form bit first (bit + bits)) scratch glance looks =
      subst (λ (b : Bool). Is (cond b (text_of extent.Box (bit + bits) first) (Answer (Fails NotFilled))) scratch glance looks) (sym test) answers in
      let there : first ≡ text_begins form.content (Bits bits) bit = begins ∙ ap (λ s. text_begins form.content s bit) is in
      subst (λ s. Is (text_of_size form s lists bit stop) scratch glance looks) (sym is)
      (subst (λ (f : ℕ). Is (boxed_text form bit f (bit + bits)) scratch glance looks) there boxed)

  -- a string whose characters are counted
  pub counted_read : (size : TextSize) (count first : ℕ) → size ≡ Characters count → first ≡ text_begins form.content size bit
      → (looks : ℕ) (scratch : Scratch) (glance : Glance) → Is (text_of (extent.Characters count) stop first) scratch glance looks
      → Is (text_of_size form size lists bit stop) scratch glance looks
  counted_read size count first is begins looks scratch glance answers =
      let there : first ≡ text_begins form.content (Characters count) bit = begins ∙ ap (λ s. text_begins form.content s bit) is in
      subst (λ s. Is (text_of_size form s lists bit stop) scratch glance looks) (sym is)
      (subst (λ (f : ℕ). Is (text_of (extent.Characters count) stop f) scratch glance looks) there answers)

-- the same of the text of a form with another size
module _ (look : ℕ → Seen) (form : TextForm) (lists : List Opened) (bit stop : ℕ) where
  pub boxed_sized : (size : TextSize) (bits first : ℕ) → size ≡ Bits bits → first ≡ text_begins form.content size bit → (bit + bits - first) % 8 ≡ 0
      → (looks : ℕ) (scratch : Scratch) (glance : Glance)
      → Answers (ask look (string_of (sized form (Bits bits)) bit (text_at form.encoding form.replaces extent.Box (bit + bits) (first / 8))) nothing) scratch glance looks
      → Answers (ask look (text_of_size (sized form size) size lists bit stop) nothing) scratch glance looks
  boxed_sized size bits first is begins whole looks scratch glance answers =
      boxed_read look (sized form size) lists bit stop size bits first is begins whole looks scratch glance
      (subst (λ s. Answers (ask look (string_of (sized form s) bit (text_at form.encoding form.replaces extent.Box (bit + bits) (first / 8))) nothing) scratch glance looks)
      (sym is) answers)

  pub counted_sized : (size : TextSize) (count first : ℕ) → size ≡ Characters count → first ≡ text_begins form.content size bit
      → (looks : ℕ) (scratch : Scratch) (glance : Glance)
      → Answers (ask look (string_of (sized form (Characters count)) bit (text_at form.encoding form.replaces (extent.Characters count) stop (first / 8))) nothing) scratch glance looks
      → Answers (ask look (text_of_size (sized form size) size lists bit stop) nothing) scratch glance looks
  counted_sized size count first is begins looks scratch glance answers =
      counted_read look (sized form size) lists bit stop size count first is begins looks scratch glance
      (subst (λ s. Answers (ask look (string_of (sized form s) bit (text_at form.encoding form.replaces (extent.Characters count) stop (first / 8))) nothing) scratch glance looks)
      (sym is) answers)

module _ (look : ℕ → Seen) (last : ℕ) (form : TextForm) (lists : List Opened) (bit : ℕ) (come : bit ≤ 8 * last)
    (lies : (j byte : ℕ) → bit / 8 ≤ j → look j ≡ Byte byte → j + 1 ≤ last) where
  -- the text's own end, and that of the string's box
  ends-text : (of : Extent) (stop k : ℕ) → bit / 8 ≤ k → ((chars : List ℕ) (end : ℕ) → TextEnds of stop last k chars end → text_behind form.size bit end ≤ 8 * last)
      → (r : Reached Text) → (ask look (text_at form.encoding form.replaces of stop k) nothing).reached ≡ r → AtEnd (λ e. e ≤ 8 * last) (text_reached form bit r)
  ends-text of stop k from near (Told (Reads chars end)) is =
      kept-at (λ e. e ≤ 8 * last) form (text_behind form.size bit end) (trimmed form.pad chars)
      (near chars end (text-lies form.encoding form.replaces of stop look last k nothing chars end
      (λ j byte after seen. lies j byte (omega arith) seen) is))
  ends-text of stop k from near (Told HasBad) is = tt
  ends-text of stop k from near (Told IsCut) is = tt
  ends-text of stop k from near (Told IsBoxed) is = tt
  ends-text of stop k from near TooFar is = tt
  ends-text of stop k from near Missing is = tt

  ends-string : (of : Extent) (stop k : ℕ) → bit / 8 ≤ k → ((chars : List ℕ) (end : ℕ) → TextEnds of stop last k chars end → text_behind form.size bit end ≤ 8 * last)
      → AtEnd (λ e. e ≤ 8 * last) (ask look (string_of form bit (text_at form.encoding form.replaces of stop k)) nothing).reached
  ends-string of stop k from near =
      let text : Ask Text = text_at form.encoding form.replaces of stop k in
      subst (λ (r : Reading Find). AtEnd (λ e. e ≤ 8 * last) r.reached) (sym (string-read look form bit text)) (ends-text of stop k from near _ refl)

  ends-boxed : (first end : ℕ) → ((end - first) % 8 ≡ 0 → AtEnd (λ e. e ≤ 8 * last) (ask look (string_of form bit (text_at form.encoding form.replaces extent.Box end (first / 8))) nothing).reached)
      → (test : Bool) → nat_eq ((end - first) % 8) 0 ≡ test
      → AtEnd (λ e. e ≤ 8 * last) (ask look (cond test (string_of form bit (text_at form.encoding form.replaces extent.Box end (first / 8))) (Answer (Fails NotFilled))) nothing).reached
  ends-boxed first end whole true is = whole (grind (arith, nat_tests))
  ends-boxed first end whole false is = tt

  ends-size : (stop : ℕ) (size : TextSize) → form.size ≡ size → nat_le (text_begins form.content size bit) (text_ends size bit stop) ≡ true
      → AtEnd (λ e. e ≤ 8 * last) (ask look (text_of_size form size lists bit stop) nothing).reached
  ends-size stop (Bits zero) is room =
      let first : ℕ = text_begins form.content (Bits zero) bit in
      let behind : bit ≤ first = text_begins-behind form.content (Bits zero) bit in
      ends-boxed first (bit + 0)
      (λ whole. ends-string extent.Box (bit + 0) (first / 8) (omega arith)
      (λ chars end ends. subst (λ s. text_behind s bit end ≤ 8 * last) (sym is) (omega arith))) _ refl
  ends-size stop (Bits (suc bits)) is room =
      let first : ℕ = aligned 8 bit in
      let inside : first ≤ bit + suc bits = grind (arith, nat_tests) in
      ends-boxed first (bit + suc bits)
      (λ whole. ends-string extent.Box (bit + suc bits) (first / 8) (omega arith)
      (λ chars end ends. let reaches = ends.whole refl in let there = ends.come in
      subst (λ s. text_behind s bit end ≤ 8 * last) (sym is) (omega arith))) _ refl
  ends-size stop (Characters count) is room =
      ends-string (extent.Characters count) stop (aligned 8 bit / 8) (omega arith)
      (λ chars end ends. let there = ends.come in
      subst (λ s. text_behind s bit end ≤ 8 * last) (sym is) (omega arith))
  ends-size stop (Delimited scan) is room =
      let first : ℕ = aligned 8 bit / 8 in
      made-ends look (delimited_find form) (λ e. e ≤ 8 * last) (ContentEnds look (Unit {0}) last (goes_on lists) lists (scanned_as scan stop) first)
      (λ content ends. let there = ends.1 tt in delimited-at (λ e. e ≤ 8 * last) form content (omega arith))
      (scanned lists scan bit stop) nothing
      (scanned-ends lists scan bit stop look (Unit {0}) last (λ j byte after seen always. lies j byte (omega arith) seen) nothing)

  -- a text that is read has its box before the byte before which all looks see their bytes
  pub string-lies : (stop : ℕ) → has_room (PlacedText form) bit stop ≡ true
      → AtEnd (λ e. e ≤ 8 * last) (ask look (text_of_size form form.size lists bit stop) nothing).reached
  string-lies stop room =
      let begins : nat_le (text_begins form.content form.size bit) (text_ends form.size bit stop) ≡ true = grind (arith, nat_tests) in
      ends-size stop form.size refl begins

-- a text that is read has its box in the bytes that have come
pub string-within : (held : Held) (form : TextForm) (lists : List Opened) (bit : ℕ) → bit ≤ 8 * end_of held → held.base ≤ bit / 8 → (stop : ℕ) → has_room (PlacedText form) bit stop ≡ true
    → (looks : ℕ) (scratch : Scratch) (glance : Glance)
    → Answers (ask (seen_at held) (text_of_size form form.size lists bit stop) nothing) scratch glance looks → IsWithin glance.found (end_of held)
string-within held form lists bit come base stop room looks scratch glance answers =
    ends-found (end_of held) scratch glance.found
    (subst (λ (r : Reached Find). AtEnd (λ e. e ≤ 8 * end_of held) r) answers.reached
    (string-lies (seen_at held) (end_of held) form lists bit come (λ j byte after seen. seen_within held j byte (omega arith) seen) stop room))

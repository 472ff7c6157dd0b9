-- What a leaf finds ends where it begins, or among the bytes that were looked at.
use Rattle.std.proofs.Common.{◌≡◌, ℕ, zero, suc, ◌+◌, ◌*◌, ◌/◌, ◌%◌, ◌≤◌, ◌⊎◌, inl, inr, Bool, true, false, cond, ltb, nat_eq, refl, List, [], ◌∷◌, Option, Some, None, ap, subst, sym, ◌∙◌, arith}
use Rattle.std.proofs.lemmas.Bool.Decides.{nat_tests}
use Rattle.dfdl_bits.specs.declared.window.Seen.{Seen}
use Rattle.dfdl_bits.specs.declared.window.Seen.TheVariants.{Byte, End, NotYet, Over}
use Rattle.dfdl_report.specs.declared.cause.ParseCause.TheVariants.{DataEnds, NotFilled, RequiredEmpty}
use Rattle.dfdl_int_binary.specs.Integers.{field_of, integer_reading}
use Rattle.dfdl_int_binary.specs.Truths.{truth_field_of, truth_reading}
use Rattle.dfdl_packed.specs.Packed.{nibbles_in, packed_reading}
use Rattle.dfdl_value.specs.declared.value.Value.{Value}
use Rattle.dfdl_terms.specs.declared.row.Primitive.{Primitive}
use Rattle.dfdl_terms.specs.declared.row.Primitive.TheVariants.{Integer, Packed, Truth, Octets, Text, NilOctets, Default, NilValues, Pattern}
use Rattle.dfdl_delims.specs.Lists.{Opened}
use Rattle.dfdl_grammar.specs.Delimited.{first_step}
use Rattle.dfdl_escapes.specs.Steps.{Step}
use Rattle.dfdl_terms.specs.declared.text.TextSize.{TextSize}
use Rattle.dfdl_terms.specs.declared.text.TextSize.TheVariants.{Bits, Characters, Delimited}
use Rattle.dfdl_terms.specs.declared.text.NilForm.{NilForm}
use Rattle.dfdl_terms.specs.declared.text.OctetForm.{OctetForm}
use Rattle.dfdl_terms.specs.declared.text.PatternForm.{PatternForm}
use Rattle.dfdl_texts.specs.Texts.{Text as TextRead}
use Rattle.dfdl_looks.specs.Asks.{Ask, Answer, Look, Reached, Told, TooFar, Missing, Reading, ask, go_on, look_at}
use Rattle.dfdl_looks.specs.Tallies.{Tally, nothing, saw_byte, saw_end}
use Rattle.dfdl_looks.proofs.Resumed.{on_seen}
use Rattle.dfdl_looks.proofs.Sequels.{ask-then}
use Rattle.dfdl_looks.proofs.Waiting.{far-grows}
use Rattle.dfdl_grammar.specs.Leaves.{Find, Fails, FindsOctets, bytes_spanned, default_by_step, default_find, default_of_size, field, find_in, has_room, is_no_size, nil_octets_find, nil_value_find, octets, pattern_find, program, program_for, text_sought}
use Rattle.dfdl_grammar.specs.Spans.{filled, vacant}
use Rattle.dfdl_grammar.specs.Framing.{aligned}
use Rattle.dfdl_leaves.proofs.Made.{made-ends}
use Rattle.dfdl_leaves.proofs.Scans.{any}
use Rattle.dfdl_leaves.proofs.Ends.{AtEnd, absent-at, default-at, nil_octets-at, nil_value-at, number-at, packed-at, pattern-at, truth-at}
use Rattle.dfdl_leaves.proofs.StringReadings.{string-lies}

module _ (look : ℕ → Seen) (last : ℕ) where
  -- the looks at the bytes before this one; each other is too far
  abbrev pub before : ℕ → Seen
  before k = cond (ltb k last) (look k) Over

  before-is : (k : ℕ) → k + 1 ≤ last → before k ≡ look k
  before-is k less = let test : ltb k last ≡ true = grind (arith, nat_tests) in ap (λ (b : Bool). cond b (look k) Over) test

  before-by : (j byte : ℕ) (b : Bool) → ltb j last ≡ b → cond b (look j) Over ≡ Byte byte → j + 1 ≤ last
  before-by j byte true is seen = grind (arith, nat_tests)
  before-by j byte false is seen = absurd (cc)

  pub before-lies : (j byte : ℕ) → before j ≡ Byte byte → j + 1 ≤ last
  before-lies j byte seen = before-by j byte (ltb j last) refl seen

module _ {F : Type 0} (look : ℕ → Seen) (last : ℕ) where
  told-before : (go : Option ℕ → Ask F) (k : ℕ) (t : Tally) (found : F) (s : Seen) → look k ≡ s → (on_seen look go k t s).reached ≡ Told found
      → (on_seen look go k t s).tally.far ≤ last
      → ((o : Option ℕ) (u : Tally) → (ask look (go o) u).reached ≡ Told found → (ask look (go o) u).tally.far ≤ last → (ask (before look last) (go o) u).reached ≡ Told found)
      → (on_seen (before look last) go k t (before look last k)).reached ≡ Told found
  told-before go k t found (Byte b) is told few more =
      let far : k + 1 ≤ (ask look (go (Some b)) (saw_byte k t)).tally.far = far-grows look (go (Some b)) (k + 1) (saw_byte k t) (omega arith) in
      subst (λ (s : Seen). (on_seen (before look last) go k t s).reached ≡ Told found) (sym (before-is look last k (omega arith) ∙ is)) (more (Some b) (saw_byte k t) told few)
  told-before go k t found End is told few more =
      let far : k + 1 ≤ (ask look (go None) (saw_end k t)).tally.far = far-grows look (go None) (k + 1) (saw_end k t) (omega arith) in
      subst (λ (s : Seen). (on_seen (before look last) go k t s).reached ≡ Told found) (sym (before-is look last k (omega arith) ∙ is)) (more None (saw_end k t) told few)
  told-before go k t found NotYet is told few more = absurd (cc)
  told-before go k t found Over is told few more = absurd (cc)

  -- a program that has its answer has the same by these looks
  pub ask-before : (a : Ask F) (t : Tally) (found : F) → (ask look a t).reached ≡ Told found → (ask look a t).tally.far ≤ last → (ask (before look last) a t).reached ≡ Told found
  ask-before (Answer f) t found told few = told
  ask-before (Look k go) t found told few = told-before go k t found (look k) refl told few (λ o u is less. ask-before (go o) u found is less)

module _ (look : ℕ → Seen) (last bit : ℕ) (come : bit ≤ 8 * last) (lies : (j byte : ℕ) → bit / 8 ≤ j → look j ≡ Byte byte → j + 1 ≤ last) where
  -- what is found ends before this byte
  abbrev Lies : Reached Find → Type 0
  Lies r = AtEnd (λ (end : ℕ). end ≤ 8 * last) r

  run-seen : (count k : ℕ) (go : List ℕ → Find) (t : Tally) → bit / 8 ≤ k → (s : Seen) → look k ≡ s
      → ((more : List ℕ → Find) (v : Tally) → ((bytes : List ℕ) → (count ≡ 0) ⊎ (k + 1 + count ≤ last) → Lies (Told (more bytes)))
      → Lies (ask look (look_at count (k + 1) (Fails DataEnds) more) v).reached)
      → ((bytes : List ℕ) → k + suc count ≤ last → Lies (Told (go bytes)))
      → Lies (on_seen look (λ o. elim o [ None ↦ Answer (Fails DataEnds) | Some byte ↦ look_at count (k + 1) (Fails DataEnds) (λ bytes. go (byte ∷ bytes)) ]) k t s).reached
  run-seen count k go t from (Byte b) is rest all =
      let here : k + 1 ≤ last = lies k b from is in
      rest (λ bytes. go (b ∷ bytes)) (saw_byte k t) (λ bytes far. all (b ∷ bytes) (elim far [ inl none ↦ omega arith | inr there ↦ omega arith ]))
  run-seen count k go t from End is rest all = tt
  run-seen count k go t from NotYet is rest all = tt
  run-seen count k go t from Over is rest all = tt

  run-lies : (count k : ℕ) (go : List ℕ → Find) (t : Tally) → bit / 8 ≤ k
      → ((bytes : List ℕ) → (count ≡ 0) ⊎ (k + count ≤ last) → Lies (Told (go bytes)))
      → Lies (ask look (look_at count k (Fails DataEnds) go) t).reached
  run-lies zero k go t from all = all [] (inl refl)
  run-lies (suc count) k go t from all =
      run-seen count k go t from (look k) refl (λ more v each. run-lies count (k + 1) more v (omega arith) each) (λ bytes far. all bytes (inr far))

  -- the bits of a field lie in its bytes
  spans : (bits : ℕ) → (bytes_spanned bit bits ≡ 0) ⊎ (bit / 8 + bytes_spanned bit bits ≤ last) → bit + bits ≤ 8 * last
  spans bits (inl none) = omega arith
  spans bits (inr there) = omega arith

  either-lies : (b : Bool) (p q : Ask Find) (t : Tally) → Lies (ask look p t).reached → Lies (ask look q t).reached → Lies (ask look (cond b p q) t).reached
  either-lies true p q t first second = first
  either-lies false p q t first second = second

  octets-lie : (form : OctetForm) (t : Tally) → Lies (ask look (octets form bit) t).reached
  octets-lie form t =
      either-lies (nat_eq form.bits 0) (Answer (FindsOctets [] (vacant bit))) _ t come
      (either-lies (nat_eq (form.bits % 8) 0) (field (Octets form) bit) (Answer (Fails NotFilled)) t
      (run-lies (bytes_spanned bit form.bits) (bit / 8) (find_in (Octets form) bit) t (omega arith) (λ bytes far. spans form.bits far)) tt)

  nil-lies : (form : NilForm) (r : Reached Find) (u : Tally) → Lies r → Lies (go_on look (λ find. Answer (nil_octets_find form find)) r u).reached
  nil-lies form (Told find) u there = nil_octets-at (λ e. e ≤ 8 * last) form find there
  nil-lies form TooFar u there = tt
  nil-lies form Missing u there = tt

  found-pattern-lies : (form : PatternForm) (r : Reached TextRead) (u : Tally) → Lies (go_on look (λ text. Answer (pattern_find form bit text)) r u).reached
  found-pattern-lies form (Told text) u = pattern-at (λ e. e ≤ 8 * last) form bit text come (omega arith)
  found-pattern-lies form TooFar u = tt
  found-pattern-lies form Missing u = tt

  default-lies : (none : Bool) (value : Value) → Lies (Told (cond none (default_find bit value) (Fails RequiredEmpty)))
  default-lies true value = default-at (λ e. e ≤ 8 * last) bit value come
  default-lies false value = tt

  absent-lies : (lists : List Opened) (stop : ℕ) (value : Value) (size : TextSize) → Lies (ask look (default_of_size value lists size bit stop) nothing).reached
  absent-lies lists stop value (Bits bits) = default-lies (is_no_size (Bits bits)) value
  absent-lies lists stop value (Characters count) = default-lies (is_no_size (Characters count)) value
  absent-lies lists stop value (Delimited scan) =
      made-ends look (default_by_step value (aligned 8 bit)) (λ e. e ≤ 8 * last) (λ (step : Step). Unit {0})
      (λ step always. absent-at (λ e. e ≤ 8 * last) value (aligned 8 bit) step (omega arith))
      (first_step lists scan bit stop) nothing (any look (ask look (first_step lists scan bit stop) nothing).reached)

  program-lies : (lists : List Opened) (primitive : Primitive) (stop : ℕ) → has_room primitive bit stop ≡ true → Lies (ask look (program lists primitive bit stop) nothing).reached
  program-lies lists (Integer form) stop room =
      run-lies (bytes_spanned bit form.bits) (bit / 8) (find_in (Integer form) bit) nothing (omega arith)
      (λ bytes far. number-at (λ e. e ≤ 8 * last) (filled bit form.bits) (integer_reading form (field_of form bytes (bit % 8))) (spans form.bits far))
  program-lies lists (Packed form) stop room =
      run-lies (bytes_spanned bit (4 * form.nibbles)) (bit / 8) (find_in (Packed form) bit) nothing (omega arith)
      (λ bytes far. packed-at (λ e. e ≤ 8 * last) (filled bit (4 * form.nibbles)) (packed_reading form (nibbles_in form bytes (bit % 8))) (spans (4 * form.nibbles) far))
  program-lies lists (Truth form) stop room =
      run-lies (bytes_spanned bit form.bits) (bit / 8) (find_in (Truth form) bit) nothing (omega arith)
      (λ bytes far. truth-at (λ e. e ≤ 8 * last) (filled bit form.bits) (truth_reading form (truth_field_of form bytes (bit % 8))) (spans form.bits far))
  program-lies lists (Octets form) stop room = octets-lie form nothing
  program-lies lists (Text form) stop room = string-lies look last form lists bit come lies stop room
  program-lies lists (NilOctets form) stop room =
      let bytes : Ask Find = octets form.octets bit in
      subst (λ (r : Reading Find). Lies r.reached) (sym (ask-then look (λ find. Answer (nil_octets_find form.nil find)) bytes nothing))
      (nil-lies form.nil (ask look bytes nothing).reached (ask look bytes nothing).tally (octets-lie form.octets nothing))
  program-lies lists (NilValues form) stop room = tt
  program-lies lists (Pattern form) stop room =
      let text : Ask TextRead = text_sought form (aligned 8 bit) stop in
      subst (λ (r : Reading Find). Lies r.reached) (sym (ask-then look (λ text. Answer (pattern_find form bit text)) text nothing))
      (found-pattern-lies form (ask look text nothing).reached (ask look text nothing).tally)
  program-lies lists (Default form) stop room = absent-lies lists stop form.value form.size

  nil-value-lies : (values : List Value) (r : Reached Find) (u : Tally) → Lies r → Lies (go_on look (λ find. Answer (nil_value_find values find)) r u).reached
  nil-value-lies values (Told find) u there = nil_value-at (λ e. e ≤ 8 * last) values find there
  nil-value-lies values TooFar u there = tt
  nil-value-lies values Missing u there = tt

  pub program_for-lies : (nil : Option (List Value)) (lists : List Opened) (primitive : Primitive) (stop : ℕ) → has_room primitive bit stop ≡ true
      → Lies (ask look (program_for nil lists primitive bit stop) nothing).reached
  program_for-lies None lists primitive stop room = program-lies lists primitive stop room
  program_for-lies (Some values) lists primitive stop room =
      let a : Ask Find = program lists primitive bit stop in
      subst (λ (r : Reading Find). Lies r.reached) (sym (ask-then look (λ find. Answer (nil_value_find values find)) a nothing))
      (nil-value-lies values (ask look a nothing).reached (ask look a nothing).tally (program-lies lists primitive stop room))

-- a leaf that begins before a byte before which all looks are, too, finds a content that ends before it
found-by : (look : ℕ → Seen) (last bit stop : ℕ) → bit ≤ 8 * last → (nil : Option (List Value)) (lists : List Opened) (primitive : Primitive) → has_room primitive bit stop ≡ true
    → (r : Reached Find) → (ask look (program_for nil lists primitive bit stop) nothing).reached ≡ r → (ask look (program_for nil lists primitive bit stop) nothing).tally.far ≤ last
    → AtEnd (λ end. end ≤ 8 * last) r
found-by look last bit stop come nil lists primitive room (Told found) is few =
    subst (λ (r : Reached Find). AtEnd (λ end. end ≤ 8 * last) r)
    (ask-before look last (program_for nil lists primitive bit stop) nothing found is few)
    (program_for-lies (before look last) last bit come (λ j byte from seen. before-lies look last j byte seen) nil lists primitive stop room)
found-by look last bit stop come nil lists primitive room TooFar is few = tt
found-by look last bit stop come nil lists primitive room Missing is few = tt

pub found-lies : (look : ℕ → Seen) (last bit stop : ℕ) → bit ≤ 8 * last → (nil : Option (List Value)) (lists : List Opened) (primitive : Primitive) → has_room primitive bit stop ≡ true
    → (ask look (program_for nil lists primitive bit stop) nothing).tally.far ≤ last
    → AtEnd (λ end. end ≤ 8 * last) (ask look (program_for nil lists primitive bit stop) nothing).reached
found-lies look last bit stop come nil lists primitive room few = found-by look last bit stop come nil lists primitive room _ refl few

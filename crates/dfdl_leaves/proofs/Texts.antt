-- What a leaf finds ends at its first bit or behind it.
use Rattle.std.proofs.Common.{◌≡◌, ℕ, zero, suc, ◌+◌, ◌-◌, ◌*◌, ◌/◌, ◌%◌, ◌≤◌, Bool, true, false, cond, nat_eq, refl, List, [], ◌∷◌, Option, Some, None, subst, sym, arith}
use Rattle.dfdl_bits.specs.declared.window.Seen.{Seen}
use Rattle.dfdl_bits.specs.declared.window.Seen.TheVariants.{Byte, End, NotYet, Over}
use Rattle.dfdl_report.specs.declared.cause.ParseCause.TheVariants.{DataEnds, NotFilled, RequiredEmpty}
use Rattle.dfdl_int_binary.specs.Integers.{field_of, integer_reading}
use Rattle.dfdl_int_binary.specs.Truths.{truth_field_of, truth_reading}
use Rattle.dfdl_packed.specs.Packed.{nibbles_in, packed_reading}
use Rattle.dfdl_value.specs.declared.value.Value.{Value}
use Rattle.dfdl_terms.specs.declared.row.Primitive.{Primitive}
use Rattle.dfdl_terms.specs.declared.row.Primitive.TheVariants.{Integer, Packed, Truth, Octets, Text, NilOctets, Default, NilValues, Pattern}
use Rattle.dfdl_delims.specs.Lists.{Opened}
use Rattle.dfdl_delims.specs.Deciding.{goes_on}
use Rattle.dfdl_escapes.specs.Steps.{Step}
use Rattle.dfdl_grammar.specs.Delimited.{first_step, scanned, scanned_as}
use Rattle.dfdl_terms.specs.declared.text.NilForm.{NilForm}
use Rattle.dfdl_terms.specs.declared.text.OctetForm.{OctetForm}
use Rattle.dfdl_terms.specs.declared.text.TextForm.{TextForm}
use Rattle.dfdl_terms.specs.declared.text.TextSize.{TextSize}
use Rattle.dfdl_terms.specs.declared.text.TextSize.TheVariants.{Bits, Characters, Delimited}
use Rattle.dfdl_texts.specs.Texts.{Text as TextRead, Reads, HasBad, IsCut, IsBoxed, text_at}
use Rattle.dfdl_texts.specs.declared.extent.Extent.{Extent}
use Rattle.dfdl_texts.specs.declared.extent.Extent.TheVariants as extent
use Rattle.dfdl_texts.proofs.Whole.{text-ends}
use Rattle.dfdl_looks.specs.Asks.{Ask, Answer, Reached, Told, TooFar, Missing, Reading, ask, and_then, go_on, look_at}
use Rattle.dfdl_looks.specs.Tallies.{Tally, saw_byte, saw_end}
use Rattle.dfdl_looks.proofs.Resumed.{on_seen}
use Rattle.dfdl_looks.proofs.Sequels.{ask-then}
use Rattle.dfdl_grammar.specs.Leaves.{Find, Fails, FindsOctets, bytes_spanned, default_by_step, default_find, default_of_size, delimited_find, field, find_in, is_no_size, nil_octets_find, nil_value_find, octets, pattern_find, program, program_for, text_behind, text_begins, text_find, text_of_size, text_sought}
use Rattle.dfdl_grammar.specs.Framing.{aligned}
use Rattle.dfdl_grammar.specs.Spans.{filled, vacant}
use Rattle.dfdl_terms.specs.declared.text.PatternForm.{PatternForm}
use Rattle.dfdl_text_string.specs.Padding.{trimmed}
use Rattle.dfdl_leaves.proofs.Made.{made-ends}
use Rattle.dfdl_leaves.proofs.Scans.{ContentEnds, any, scanned-ends}
use Rattle.dfdl_leaves.proofs.Ends.{AtEnd, absent-at, default-at, delimited-at, kept-at, nil_octets-at, nil_value-at, number-at, packed-at, pattern-at, truth-at}

-- what is found ends at this bit or behind it
abbrev pub EndsBehind : ℕ → Reached Find → Type 0
EndsBehind bit r = AtEnd (λ end. bit ≤ end) r

-- the box of a text isn't so many bits
abbrev HasNoBits : TextSize → Type 0
HasNoBits (Bits bits) = ⊥
HasNoBits (Characters count) = Unit {0}
HasNoBits (Delimited scan) = Unit {0}

module _ (look : ℕ → Seen) where
  -- what is found in a run of bytes
  run-seen : (bit : ℕ) (next : Option ℕ → Ask Find) (k : ℕ) (t : Tally) → ((o : Option ℕ) (u : Tally) → EndsBehind bit (ask look (next o) u).reached)
      → (s : Seen) → EndsBehind bit (on_seen look next k t s).reached
  run-seen bit next k t more (Byte b) = more (Some b) (saw_byte k t)
  run-seen bit next k t more End = more None (saw_end k t)
  run-seen bit next k t more NotYet = tt
  run-seen bit next k t more Over = tt

  run-next : (bit count k : ℕ) (go : List ℕ → Find)
      → ((more : List ℕ → Find) (v : Tally) → ((bytes : List ℕ) → EndsBehind bit (Told (more bytes)))
      → EndsBehind bit (ask look (look_at count (k + 1) (Fails DataEnds) more) v).reached)
      → ((bytes : List ℕ) → EndsBehind bit (Told (go bytes))) → (o : Option ℕ) (u : Tally)
      → EndsBehind bit (ask look (elim o as (λ _. Ask Find)
      [ None ↦ Answer (Fails DataEnds) | Some byte ↦ look_at count (k + 1) (Fails DataEnds) (λ bytes. go (byte ∷ bytes)) ]) u).reached
  run-next bit count k go rest all None u = tt
  run-next bit count k go rest all (Some byte) u = rest (λ bytes. go (byte ∷ bytes)) u (λ bytes. all (byte ∷ bytes))

  run-ends : (bit count k : ℕ) (go : List ℕ → Find) (t : Tally) → ((bytes : List ℕ) → EndsBehind bit (Told (go bytes)))
      → EndsBehind bit (ask look (look_at count k (Fails DataEnds) go) t).reached
  run-ends bit zero k go t all = all []
  run-ends bit (suc count) k go t all =
      run-seen bit (λ o. elim o [ None ↦ Answer (Fails DataEnds) | Some byte ↦ look_at count (k + 1) (Fails DataEnds) (λ bytes. go (byte ∷ bytes)) ]) k t
      (λ o u. run-next bit count k go (λ more v each. run-ends bit count (k + 1) more v each) all o u) (look k)

  either-ends : (bit : ℕ) (b : Bool) (p q : Ask Find) (t : Tally) → EndsBehind bit (ask look p t).reached → EndsBehind bit (ask look q t).reached
      → EndsBehind bit (ask look (cond b p q) t).reached
  either-ends bit true p q t first second = first
  either-ends bit false p q t first second = second

  -- the bit behind the box of a text whose characters end at this byte or behind it, which is where they begin if they are counted
  reads-behind : (size : TextSize) (bit k end : ℕ) → (HasNoBits size → bit ≤ 8 * k) → k ≤ end → bit ≤ text_behind size bit end
  reads-behind (Bits bits) bit k end at behind = omega arith
  reads-behind (Characters count) bit k end at behind = let first = at tt in omega arith
  reads-behind (Delimited scan) bit k end at behind = let first = at tt in omega arith

  found-ends : (form : TextForm) (bit k : ℕ) → (HasNoBits form.size → bit ≤ 8 * k) → (r : Reached TextRead) (u : Tally)
      → ((chars : List ℕ) (end : ℕ) → r ≡ Told (Reads chars end) → k ≤ end)
      → EndsBehind bit (go_on look (λ text. Answer (text_find form bit text)) r u).reached
  found-ends form bit k at (Told (Reads chars end)) u behind =
      kept-at (λ e. bit ≤ e) form (text_behind form.size bit end) (trimmed form.pad chars) (reads-behind form.size bit k end at (behind chars end refl))
  found-ends form bit k at (Told HasBad) u behind = tt
  found-ends form bit k at (Told IsCut) u behind = tt
  found-ends form bit k at (Told IsBoxed) u behind = tt
  found-ends form bit k at TooFar u behind = tt
  found-ends form bit k at Missing u behind = tt

  read-ends : (form : TextForm) (e : Extent) (bit stop k : ℕ) (t : Tally) → (HasNoBits form.size → bit ≤ 8 * k)
      → EndsBehind bit (ask look (and_then (text_at form.encoding form.replaces e stop k) (λ text. Answer (text_find form bit text))) t).reached
  read-ends form e bit stop k t at =
      let text : Ask TextRead = text_at form.encoding form.replaces e stop k in
      subst (λ (r : Reading Find). EndsBehind bit r.reached) (sym (ask-then look (λ text. Answer (text_find form bit text)) text t))
      (found-ends form bit k at (ask look text t).reached (ask look text t).tally
      (λ chars end is. (text-ends form.encoding form.replaces e stop look ⊥ ⊥ 0 k
      (λ j b behind seen. ((λ never. absurd never), (λ never. absurd never))) t chars end is).behind))

  size-ends : (form : TextForm) (size : TextSize) → form.size ≡ size → (lists : List Opened) (bit stop : ℕ) (t : Tally) → EndsBehind bit (ask look (text_of_size form size lists bit stop) t).reached
  size-ends form (Bits bits) is lists bit stop t =
      let first : ℕ = text_begins form.content (Bits bits) bit in
      either-ends bit (nat_eq ((bit + bits - first) % 8) 0) _ (Answer (Fails NotFilled)) t
      (read-ends form extent.Box bit (bit + bits) (first / 8) t (λ none. absurd (subst HasNoBits is none))) tt
  size-ends form (Characters count) is lists bit stop t =
      read-ends form (extent.Characters count) bit stop (aligned 8 bit / 8) t (λ none. omega arith)
  size-ends form (Delimited scan) is lists bit stop t =
      let first : ℕ = aligned 8 bit / 8 in
      made-ends look (delimited_find form) (λ e. bit ≤ e) (ContentEnds look ⊥ 0 (goes_on lists) lists (scanned_as scan stop) first)
      (λ content ends. let behind = ends.0 in delimited-at (λ e. bit ≤ e) form content (omega arith))
      (scanned lists scan bit stop) t (scanned-ends lists scan bit stop look ⊥ 0 (λ j byte after seen never. absurd never) t)

  -- an empty representation stands at its bit or at the next whole byte
  none-ends : (none : Bool) (value : Value) (bit : ℕ) → EndsBehind bit (Told (cond none (default_find bit value) (Fails RequiredEmpty)))
  none-ends true value bit = default-at (λ e. bit ≤ e) bit value (omega arith)
  none-ends false value bit = tt

  absent-ends : (value : Value) (lists : List Opened) (size : TextSize) (bit stop : ℕ) (t : Tally)
      → EndsBehind bit (ask look (default_of_size value lists size bit stop) t).reached
  absent-ends value lists (Bits bits) bit stop t = none-ends (is_no_size (Bits bits)) value bit
  absent-ends value lists (Characters count) bit stop t = none-ends (is_no_size (Characters count)) value bit
  absent-ends value lists (Delimited scan) bit stop t =
      made-ends look (default_by_step value (aligned 8 bit)) (λ e. bit ≤ e) (λ (step : Step). Unit {0})
      (λ step always. absent-at (λ e. bit ≤ e) value (aligned 8 bit) step (omega arith))
      (first_step lists scan bit stop) t (any look (ask look (first_step lists scan bit stop) t).reached)

  octets-end : (form : OctetForm) (bit : ℕ) (t : Tally) → EndsBehind bit (ask look (octets form bit) t).reached
  octets-end form bit t =
      either-ends bit (nat_eq form.bits 0) (Answer (FindsOctets [] (vacant bit))) _ t (omega arith)
      (either-ends bit (nat_eq (form.bits % 8) 0) (field (Octets form) bit) (Answer (Fails NotFilled)) t
      (run-ends bit (bytes_spanned bit form.bits) (bit / 8) (find_in (Octets form) bit) t (λ bytes. omega arith)) tt)

  -- bytes that have to be nil end where a hexBinary does
  nil-ends : (form : NilForm) (bit : ℕ) (r : Reached Find) (u : Tally) → EndsBehind bit r
      → EndsBehind bit (go_on look (λ find. Answer (nil_octets_find form find)) r u).reached
  nil-ends form bit (Told find) u ends = nil_octets-at (λ e. bit ≤ e) form find ends
  nil-ends form bit TooFar u ends = tt
  nil-ends form bit Missing u ends = tt

  -- the number of bytes that a pattern matches stands at its bit or behind it
  found-pattern-ends : (form : PatternForm) (bit : ℕ) (r : Reached TextRead) (u : Tally)
      → EndsBehind bit (go_on look (λ text. Answer (pattern_find form bit text)) r u).reached
  found-pattern-ends form bit (Told text) u = pattern-at (λ e. bit ≤ e) form bit text (omega arith) (omega arith)
  found-pattern-ends form bit TooFar u = tt
  found-pattern-ends form bit Missing u = tt

  pattern-ends : (form : PatternForm) (bit : ℕ) (text : Ask TextRead) (t : Tally)
      → EndsBehind bit (ask look (and_then text (λ text. Answer (pattern_find form bit text))) t).reached
  pattern-ends form bit text t =
      subst (λ (r : Reading Find). EndsBehind bit r.reached) (sym (ask-then look (λ text. Answer (pattern_find form bit text)) text t))
      (found-pattern-ends form bit (ask look text t).reached (ask look text t).tally)

  program-ends : (lists : List Opened) (primitive : Primitive) (bit stop : ℕ) (t : Tally) → EndsBehind bit (ask look (program lists primitive bit stop) t).reached
  program-ends lists (Integer form) bit stop t =
      run-ends bit (bytes_spanned bit form.bits) (bit / 8) (find_in (Integer form) bit) t
      (λ bytes. number-at (λ e. bit ≤ e) (filled bit form.bits) (integer_reading form (field_of form bytes (bit % 8))) (omega arith))
  program-ends lists (Packed form) bit stop t =
      run-ends bit (bytes_spanned bit (4 * form.nibbles)) (bit / 8) (find_in (Packed form) bit) t
      (λ bytes. packed-at (λ e. bit ≤ e) (filled bit (4 * form.nibbles)) (packed_reading form (nibbles_in form bytes (bit % 8))) (omega arith))
  program-ends lists (Truth form) bit stop t =
      run-ends bit (bytes_spanned bit form.bits) (bit / 8) (find_in (Truth form) bit) t
      (λ bytes. truth-at (λ e. bit ≤ e) (filled bit form.bits) (truth_reading form (truth_field_of form bytes (bit % 8))) (omega arith))
  program-ends lists (Octets form) bit stop t = octets-end form bit t
  program-ends lists (Text form) bit stop t = size-ends form form.size refl lists bit stop t
  program-ends lists (NilOctets form) bit stop t =
      let bytes : Ask Find = octets form.octets bit in
      subst (λ (r : Reading Find). EndsBehind bit r.reached) (sym (ask-then look (λ find. Answer (nil_octets_find form.nil find)) bytes t))
      (nil-ends form.nil bit (ask look bytes t).reached (ask look bytes t).tally (octets-end form.octets bit t))
  program-ends lists (NilValues form) bit stop t = tt
  program-ends lists (Pattern form) bit stop t = pattern-ends form bit (text_sought form (aligned 8 bit) stop) t
  program-ends lists (Default form) bit stop t = absent-ends form.value lists form.size bit stop t

  -- a value that has to be one of some ends where it does
  nil-value-ends : (values : List Value) (bit : ℕ) (r : Reached Find) (u : Tally) → EndsBehind bit r
      → EndsBehind bit (go_on look (λ find. Answer (nil_value_find values find)) r u).reached
  nil-value-ends values bit (Told find) u ends = nil_value-at (λ e. bit ≤ e) values find ends
  nil-value-ends values bit TooFar u ends = tt
  nil-value-ends values bit Missing u ends = tt

  pub program_for-ends : (nil : Option (List Value)) (lists : List Opened) (primitive : Primitive) (bit stop : ℕ) (t : Tally)
      → EndsBehind bit (ask look (program_for nil lists primitive bit stop) t).reached
  program_for-ends None lists primitive bit stop t = program-ends lists primitive bit stop t
  program_for-ends (Some values) lists primitive bit stop t =
      let a : Ask Find = program lists primitive bit stop in
      subst (λ (r : Reading Find). EndsBehind bit r.reached) (sym (ask-then look (λ find. Answer (nil_value_find values find)) a t))
      (nil-value-ends values bit (ask look a t).reached (ask look a t).tally (program-ends lists primitive bit stop t))

-- The reading of a leaf, by a run of bytes that are seen.
use Rattle.std.proofs.Common.{◌≡◌, ℕ, zero, suc, ◌+◌, ◌-◌, ◌*◌, ◌/◌, ◌<◌, ◌≤◌, refl, List, [], ◌∷◌, ◌++◌, length, get_or, max, Option, None, Some, ap, sym, ◌∙◌, arith, zero-add}
use Rattle.std.proofs.lemmas.List.{append-nil}
use Rattle.dfdl_bits.specs.Window.{Held, end_of, seen_at}
use Rattle.dfdl_bits.specs.declared.window.Seen.{Seen}
use Rattle.dfdl_bits.specs.declared.window.Seen.TheVariants.{Byte, End, NotYet, Over}
use Rattle.dfdl_delims.specs.Lists.{Opened}
use Rattle.dfdl_terms.specs.declared.row.Primitive.{Primitive}
use Rattle.dfdl_report.specs.declared.cause.ParseCause.TheVariants.{DataEnds}
use Rattle.dfdl_looks.specs.Asks.{Ask, Answer, ask, look_at, Reading, Told}
use Rattle.dfdl_looks.specs.Tallies.{nothing, Tally, saw_end}
use Rattle.dfdl_looks.proofs.Resumed.{on_seen}
use Rattle.dfdl_looks.proofs.Seeing.{seen_within}
use Rattle.dfdl_looks.proofs.Stretches.{after, after-looks, after-far, ask-stretch}
use Rattle.dfdl_terms.specs.declared.row.Primitive.TheVariants.{Integer, Packed, Truth, Octets, Text, NilOctets, Default, NilValues, Pattern}
use Rattle.dfdl_grammar.specs.Leaves.{Find, Fails, bits_of, bytes_spanned, field, find_in, program}
use Rattle.dfdl_leaves.specs.declared.leaf.Found.{Found}
use Rattle.dfdl_leaves.specs.declared.leaf.Found.TheVariants.{Reads, Octets as HasOctets, Utf8, Text as HasText, Fails as HasFailed, Past, NotYet as NotCome}
use Rattle.dfdl_leaves.specs.declared.leaf.Glance.{Glance}
use Rattle.dfdl_leaves.specs.declared.leaf.Scratch.{Scratch}
use Rattle.dfdl_leaves.specs.Readings.{Answers, CutShort, HasNone, HasPiece, IsNumber, IsPlain, IsWithin, far_of_run, found_shown}

-- a stretch from the first byte on has seen as far as its last byte
stretch-far : (k : ℕ) (bytes : List ℕ) → (after k bytes nothing).far ≡ far_of_run k (length bytes)
stretch-far k [] = refl
stretch-far k (byte ∷ bytes) = let far = after-far k byte bytes nothing in omega arith

-- it has seen no further than its end
far-most : (k n : ℕ) → far_of_run k n ≤ k + n
far-most k zero = omega arith
far-most k (suc n) = omega arith

-- the readings of a leaf, and what they are told by
told : (reading : Reading Find) (k n looks : ℕ) (scratch : Scratch) (t : Tally) (glance : Glance) (s : Seen) (go : Option ℕ → Ask Find) (look : ℕ → Seen)
    → go None ≡ Answer (Fails DataEnds) → t.looks ≡ n → t.far ≡ far_of_run k n → looks ≡ n + 1 → CutShort s k n glance
    → reading ≡ on_seen look go (k + n) t s → Answers reading scratch glance looks
told reading k n looks scratch t glance (Byte byte) go look none count far cost short is = absurd short
told reading k n looks scratch t glance End go look none count far cost short is =
    let whole : reading ≡ record { reached = Told (Fails DataEnds); tally = saw_end (k + n) t } = is ∙ ap (λ (a : Ask Find). ask look a (saw_end (k + n) t)) none in
    let most = far-most k n in
    let looks_are : reading.tally.looks ≡ t.looks + 1 = ap (λ (r : Reading Find). r.tally.looks) whole in
    let far_is : reading.tally.far ≡ max t.far (k + n + 1) = ap (λ (r : Reading Find). r.tally.far) whole in
    let glance_far : glance.far ≡ k + n + 1 = short.1 in
    record {
      reached = ap (λ (r : Reading Find). r.reached) whole ∙ sym (ap (found_shown scratch) short.0);
      looks = omega arith;
      far = omega arith;
    }
told reading k n looks scratch t glance NotYet go look none count far cost short is =
    let looks_are : reading.tally.looks ≡ t.looks + 1 = ap (λ (r : Reading Find). r.tally.looks) is in
    record {
      reached = ap (λ (r : Reading Find). r.reached) is ∙ sym (ap (found_shown scratch) short.0);
      looks = omega arith;
      far = ap (λ (r : Reading Find). r.tally.far) is ∙ far ∙ sym short.1;
    }
told reading k n looks scratch t glance Over go look none count far cost short is =
    let looks_are : reading.tally.looks ≡ t.looks + 1 = ap (λ (r : Reading Find). r.tally.looks) is in
    record {
      reached = ap (λ (r : Reading Find). r.reached) is ∙ sym (ap (found_shown scratch) short.0);
      looks = omega arith;
      far = ap (λ (r : Reading Find). r.tally.far) is ∙ far ∙ sym short.1;
    }

-- a run of bytes that are seen has come
pub run-within : (held : Held) (k : ℕ) (bytes : List ℕ) → held.base ≤ k → 0 < length bytes
    → ((i : ℕ) → i < length bytes → seen_at held (k + i) ≡ Byte (get_or bytes i 0)) → k + length bytes ≤ end_of held
run-within held k bytes base some seen =
    let last : ℕ = length bytes - 1 in
    let there : k + last + 1 ≤ end_of held = seen_within held (k + last) (get_or bytes last 0) (omega arith) (seen last (omega arith)) in
    omega arith

-- what is no string or hexBinary lies where its box does, and has no piece
pub plain-within : (found : Found) (behind last : ℕ) → IsPlain found behind → behind ≤ 8 * last → IsWithin found last
plain-within (Reads content span) behind last is within = omega arith
plain-within (HasOctets span) behind last is within = absurd is
plain-within (Utf8 span) behind last is within = absurd is
plain-within (HasText from to end value) behind last is within = absurd is
plain-within (HasFailed cause) behind last is within = tt
plain-within Past behind last is within = tt
plain-within NotCome behind last is within = tt

pub plain-piece : (found : Found) (behind : ℕ) (scratch : Scratch) → IsPlain found behind → HasPiece found scratch
plain-piece (Reads content span) behind scratch is = tt
plain-piece (HasOctets span) behind scratch is = absurd is
plain-piece (Utf8 span) behind scratch is = absurd is
plain-piece (HasText from to end value) behind scratch is = absurd is
plain-piece (HasFailed cause) behind scratch is = tt
plain-piece Past behind scratch is = tt
plain-piece NotCome behind scratch is = tt

-- where nothing is read, nothing is owed
pub none-within : (found : Found) (last : ℕ) → HasNone found → IsWithin found last
none-within (Reads content span) last is = absurd is
none-within (HasOctets span) last is = absurd is
none-within (Utf8 span) last is = absurd is
none-within (HasText from to end value) last is = absurd is
none-within (HasFailed cause) last is = tt
none-within Past last is = tt
none-within NotCome last is = tt

pub none-piece : (found : Found) (scratch : Scratch) → HasNone found → HasPiece found scratch
none-piece (Reads content span) scratch is = absurd is
none-piece (HasOctets span) scratch is = absurd is
none-piece (Utf8 span) scratch is = absurd is
none-piece (HasText from to end value) scratch is = absurd is
none-piece (HasFailed cause) scratch is = tt
none-piece Past scratch is = tt
none-piece NotCome scratch is = tt

-- the program of a number or boolean is its field
pub number-field : (lists : List Opened) (primitive : Primitive) (bit stop : ℕ) → IsNumber primitive → program lists primitive bit stop ≡ field primitive bit
number-field lists (Integer form) bit stop is = refl
number-field lists (Packed form) bit stop is = refl
number-field lists (Truth form) bit stop is = refl
number-field lists (Octets form) bit stop is = absurd is
number-field lists (Text form) bit stop is = absurd is
number-field lists (NilOctets form) bit stop is = absurd is
number-field lists (Default form) bit stop is = absurd is
number-field lists (NilValues form) bit stop is = absurd is
number-field lists (Pattern form) bit stop is = absurd is

module _ (look : ℕ → Seen) (primitive : Primitive) (bit : ℕ) (bytes : List ℕ)
    (seen : (i : ℕ) → i < length bytes → look (bit / 8 + i) ≡ Byte (get_or bytes i 0)) where
  -- the looks of the leaf behind the stretch
  pub cut_read : length bytes < bytes_spanned bit (bits_of primitive) → (glance : Glance) → CutShort (look (bit / 8 + length bytes)) (bit / 8) (length bytes) glance
      → (looks : ℕ) → looks ≡ length bytes + 1 → (scratch : Scratch)
      → Answers (ask look (field primitive bit) nothing) scratch glance looks
  cut_read fewer glance short looks cost scratch =
      let go : List ℕ → Find = find_in primitive bit in
      let rest : ℕ = bytes_spanned bit (bits_of primitive) - length bytes - 1 in
      let all : bytes_spanned bit (bits_of primitive) ≡ length bytes + suc rest = omega arith in
      let next : ℕ = bit / 8 + length bytes in
      told (ask look (field primitive bit) nothing) (bit / 8) (length bytes) looks scratch (after (bit / 8) bytes nothing) glance (look next)
      (λ o. elim o [ None ↦ Answer (Fails DataEnds) | Some b ↦ look_at rest (next + 1) (Fails DataEnds) (λ more. go (bytes ++ (b ∷ more))) ]) look
      refl (after-looks (bit / 8) bytes nothing ∙ zero-add (length bytes)) (stretch-far (bit / 8) bytes) cost short
      (ask-stretch look bytes (bytes_spanned bit (bits_of primitive)) (suc rest) (bit / 8) next (Fails DataEnds) go nothing seen all refl)

  -- the leaf whose bytes are the stretch
  pub whole_read : 1 ≤ bits_of primitive → bytes_spanned bit (bits_of primitive) ≡ length bytes
      → (scratch : Scratch) (found : Found) → found_shown scratch found ≡ Told (find_in primitive bit bytes)
      → (far : ℕ) → far ≡ bit / 8 + length bytes → (looks : ℕ) → looks ≡ length bytes
      → Answers (ask look (field primitive bit) nothing) scratch (record { found = found; far = far }) looks
  whole_read some all scratch found found_is far far_is looks cost =
      let go : List ℕ → Find = find_in primitive bit in
      let none : bytes_spanned bit (bits_of primitive) ≡ length bytes + 0 = omega arith in
      let ends : ask look (field primitive bit) nothing ≡ record { reached = Told (go (bytes ++ [])); tally = after (bit / 8) bytes nothing } =
      ask-stretch look bytes (bytes_spanned bit (bits_of primitive)) 0 (bit / 8) (bit / 8 + length bytes) (Fails DataEnds) go nothing seen none refl in
      let longer : 0 < length bytes = omega arith in
      record {
        reached = ap (λ (r : Reading Find). r.reached) ends ∙ ap (λ (bs : List ℕ). Told (go bs)) (append-nil bytes) ∙ sym found_is;
        looks = ap (λ (r : Reading Find). r.tally.looks) ends ∙ after-looks (bit / 8) bytes nothing ∙ zero-add (length bytes) ∙ sym cost;
        far = ap (λ (r : Reading Find). r.tally.far) ends ∙ stretch-far (bit / 8) bytes ∙ far-some (bit / 8) (length bytes) longer ∙ sym far_is;
      }
    where
      far-some : (k n : ℕ) → 0 < n → far_of_run k n ≡ k + n
      far-some k zero some = absurd (omega arith)
      far-some k (suc n) some = refl

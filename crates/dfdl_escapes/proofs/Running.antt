-- Bytes of a content that are passed at once: each takes the case of content.
use Rattle.std.proofs.Common.{◌≡◌, ℕ, zero, suc, ◌+◌, ◌-◌, ◌*◌, ◌/◌, ◌<◌, ◌≤◌, Bool, true, false, ◌&&◌, ◌||◌, not, if◌then◌else◌, nat_le, nat_lt, List, [], ◌∷◌, ◌++◌, length, slice_index, Option, Some, None, All, max, refl, ap, sym, subst, ◌∙◌, arith, append_assoc}
use Rattle.std.proofs.lemmas.Bool.Decides.{nat_tests}
use Rattle.std.proofs.lemmas.List.{append-nil}
use Rattle.dfdl_bits.specs.ByteSets.{has_byte}
use Rattle.dfdl_bits.specs.Window.{Held, end_of, seen_at}
use Rattle.dfdl_bits.specs.declared.byte_set.ByteSet.{ByteSet}
use Rattle.dfdl_bits.specs.declared.window.Seen.{Seen}
use Rattle.dfdl_bits.specs.declared.window.Seen.TheVariants.{Byte}
use Rattle.dfdl_forms.specs.declared.encoding.Encoding.{Encoding}
use Rattle.dfdl_forms.specs.declared.encoding.Encoding.TheVariants.{Utf8, UsAscii, Iso88591, Utf16Be, Utf16Le}
use Rattle.dfdl_looks.specs.Asks.{Ask, Answer, Look, Told, Reading, and_then, ask, go_on}
use Rattle.dfdl_looks.specs.Tallies.{Tally, nothing, saw_byte}
use Rattle.dfdl_looks.proofs.Resumed.{on_seen}
use Rattle.dfdl_looks.proofs.Seeing.{seen_within}
use Rattle.dfdl_looks.proofs.Sequels.{ask-then}
use Rattle.dfdl_chars.specs.Sequences.{code_of, is_begun, is_sequence}
use Rattle.dfdl_texts.specs.Units.{Piece, Holds, Broken, NoMore, at_byte, lies_in, on_byte, unit_at, utf8_unit}
use Rattle.dfdl_delims.specs.Firsts.{BeginsNone}
use Rattle.dfdl_delims.specs.Lists.{Decides, Opened, innermost}
use Rattle.dfdl_delims.specs.Longest.{NoText, better, longest_at}
use Rattle.dfdl_delims.specs.declared.firsts.FirstBytes.{FirstBytes}
use Rattle.dfdl_escapes.specs.declared.character.Character.{Character}
use Rattle.dfdl_escapes.specs.declared.form.Form.{Form}
use Rattle.dfdl_escapes.specs.declared.form.Mode.{Mode}
use Rattle.dfdl_escapes.specs.declared.form.Mode.TheVariants.{Plain, Escaping, Before, Inside}
use Rattle.dfdl_escapes.specs.declared.form.Stand.{Stand}
use Rattle.dfdl_escapes.specs.Contents.{ArePassed, Gave, after_step, content_from}
use Rattle.dfdl_escapes.specs.Reads.{left_of, spent, sum_of}
use Rattle.dfdl_escapes.specs.Runs.{FirstsAre, IsPassed, far_behind, given_by, is_given_in, is_single, looks_of, seeks}
use Rattle.dfdl_escapes.specs.Steps.{Step, Takes, Passes, by_piece, case_in, ended_by, in_block, in_block_escaped, is_mark, markup_at, pair_case, piece_at, replaced, stand, step_at, unless_closed, unless_markup}

-- a program that goes on by an answer that is told
then_told : {F G : Type 0} (look : ℕ → Seen) (p : Ask F) (go : F → Ask G) (t u : Tally) (f : F) → ask look p t ≡ record { reached = Told f; tally = u }
    → ask look (and_then p go) t ≡ ask look (go f) u
then_told {F} {G} look p go t u f is = ask-then look go p t ∙ ap (λ (r : Reading F). go_on look go r.reached r.tally) is

no_both : (t : Bool) → t ≡ true → t ≡ false → ⊥
no_both true is isnt = cc
no_both false is isnt = cc

-- a byte that alone is a character

abbrev saw : (ℕ → Seen) → Piece → (ℕ → Ask Piece) → ℕ → Tally → Seen → Reading Piece
saw look ends go k t s = on_seen look (λ o. on_byte ends go o) k t s

byte_there : (look : ℕ → Seen) (stop k byte : ℕ) (ends : Piece) (go : ℕ → Ask Piece) (t : Tally) → lies_in stop k ≡ true → look k ≡ Byte byte
    → ask look (at_byte stop k ends go) t ≡ ask look (go byte) (saw_byte k t)
byte_there look stop k byte ends go t lies seen_is =
    ap (λ (b : Bool). ask look (if b then Look k (λ o. on_byte ends go o) else Answer ends) t) lies ∙ ap (saw look ends go k t) seen_is

narrow_there : (look : ℕ → Seen) (limit byte : ℕ) (t : Tally) → nat_lt byte limit ≡ true
    → ask look (if nat_lt byte limit then Answer (Holds byte 1) else Answer (Broken 1)) t ≡ record { reached = Told (Holds byte 1); tally = t }
narrow_there look limit byte t less = ap (λ (b : Bool). ask look (if b then Answer (Holds byte 1) else Answer (Broken 1)) t) less

sequence_of_one : (byte : ℕ) → nat_lt byte 128 ≡ true → is_sequence (byte ∷ []) ≡ true
unfolding is_sequence
sequence_of_one byte less =
    let low : nat_le byte 0x7F ≡ true = grind (arith, nat_tests) in
    let least : nat_le 0 byte ≡ true = grind (arith, nat_tests) in
    grind (arith, nat_tests)

utf8_first : (look : ℕ → Seen) (stop k : ℕ) (t : Tally)
    → ask look (unit_at Utf8 stop k) t ≡ ask look (at_byte stop (k + 0) NoMore (λ b. utf8_unit 3 stop k (b ∷ []))) t
unfolding is_sequence is_begun
utf8_first look stop k t = refl

utf8_there : (look : ℕ → Seen) (stop k byte : ℕ) (t : Tally) → nat_lt byte 128 ≡ true → lies_in stop k ≡ true → look k ≡ Byte byte
    → ask look (unit_at Utf8 stop k) t ≡ record { reached = Told (Holds byte 1); tally = saw_byte k t }
unfolding code_of
utf8_there look stop k byte t less lies seen_is =
    utf8_first look stop k t
    ∙ ap (λ j. ask look (at_byte stop j NoMore (λ b. utf8_unit 3 stop k (b ∷ []))) t) (from_none k)
    ∙ byte_there look stop k byte NoMore (λ b. utf8_unit 3 stop k (b ∷ [])) t lies seen_is
    ∙ ap (λ (s : Bool). ask look (if s then Answer (Holds byte 1)
    else if is_begun (byte ∷ []) then at_byte stop (k + 1) (Broken 1) (λ b. utf8_unit 2 stop k (byte ∷ b ∷ [])) else Answer (Broken 1)) (saw_byte k t))
    (sequence_of_one byte less)
  where
    from_none : (n : ℕ) → n + 0 ≡ n
    from_none n = omega arith

unit_there : (look : ℕ → Seen) (enc : Encoding) (stop k byte : ℕ) (t : Tally) → is_single enc byte ≡ true → lies_in stop k ≡ true → look k ≡ Byte byte
    → ask look (unit_at enc stop k) t ≡ record { reached = Told (Holds byte 1); tally = saw_byte k t }
unit_there look Utf8 stop k byte t single lies seen_is = utf8_there look stop k byte t single lies seen_is
unit_there look UsAscii stop k byte t single lies seen_is =
    byte_there look stop k byte NoMore (λ b. if nat_lt b 128 then Answer (Holds b 1) else Answer (Broken 1)) t lies seen_is
    ∙ narrow_there look 128 byte (saw_byte k t) single
unit_there look Iso88591 stop k byte t single lies seen_is =
    byte_there look stop k byte NoMore (λ b. if nat_lt b 256 then Answer (Holds b 1) else Answer (Broken 1)) t lies seen_is
    ∙ narrow_there look 256 byte (saw_byte k t) single
unit_there look Utf16Be stop k byte t single lies seen_is = let no_it : ⊥ = cc in absurd no_it
unit_there look Utf16Le stop k byte t single lies seen_is = let no_it : ⊥ = cc in absurd no_it

-- a step over such a byte

not_marks : (a b : Bool) → not (a || b) ≡ true → (a ≡ false) × (b ≡ false)
not_marks true b is = let no_it : ⊥ = cc in absurd no_it
not_marks false true is = let no_it : ⊥ = cc in absurd no_it
not_marks false false is = (refl, refl)

no_ending : (o : Option ℕ) → ended_by (better o 0 NoText) ≡ None
no_ending None = refl
no_ending (Some place) = refl

-- the cost of a byte at which markup is sought, or not
abbrev cost_of : Bool → ℕ → Tally → Tally
cost_of true k t = saw_byte k (saw_byte k t)
cost_of false k t = saw_byte k t

-- What is known of passing a byte: where it lies and what is seen, and what a search for markup comes to.
pub record Stands (look : ℕ → Seen) (test : List ℕ → Bool) (lists : List Opened) (form : Form) (mode : Mode) (k byte : ℕ) : Type 0 where
  pub lies : lies_in form.stop k ≡ true
  pub seen : look k ≡ Byte byte
  pub single : is_single form.enc byte ≡ true
  pub given : is_given_in form mode byte ≡ true
  pub passed_over : seeks mode ≡ true → (t : Tally) → ask look (longest_at test lists form.stop k) t
      ≡ record { reached = Told (better (innermost lists []) 0 NoText); tally = if test [] then saw_byte k t else t }

module _ (look : ℕ → Seen) (test : List ℕ → Bool) (lists : List Opened) (form : Form) (k byte : ℕ) where
  piece_there : (mode : Mode) → Stands look test lists form mode k byte → (t : Tally)
      → ask look (piece_at form k) t ≡ record { reached = Told (Holds byte 1); tally = saw_byte k t }
  piece_there mode stands t =
      then_told look (unit_at form.enc form.stop k) (λ piece. Answer (replaced form.replaces piece)) t (saw_byte k t) (Holds byte 1)
      (unit_there look form.enc form.stop k byte t stands.single stands.lies stands.seen)

  abbrev sought : Tally → Tally
  sought t = if test [] then saw_byte k t else t

  markup_none : (mode : Mode) → Stands look test lists form mode k byte → seeks mode ≡ true → (t : Tally)
      → ask look (markup_at test lists form.stop k) t ≡ record { reached = Told None; tally = sought t }
  markup_none mode stands seeks_it t =
      then_told look (longest_at test lists form.stop k) (λ found. Answer (ended_by found)) t (sought t) (better (innermost lists []) 0 NoText)
      (stands.passed_over seeks_it t)
      ∙ ap (λ (o : Option ℕ). record { reached = Told o; tally = sought t }) (no_ending (innermost lists []))

  unless_none : (mode : Mode) → Stands look test lists form mode k byte → seeks mode ≡ true → (go : Ask Step) (t : Tally)
      → ask look (unless_markup test lists form k go) t ≡ ask look go (sought t)
  unless_none mode stands seeks_it go t =
      then_told look (markup_at test lists form.stop k) (λ found. unless_closed go found) t (sought t) None (markup_none mode stands seeks_it t)

  abbrev takes : Mode → Step
  takes mode = Takes byte (not (seeks mode)) (stand mode (k + 1))

  by_piece_there : (mode : Mode) → Stands look test lists form mode k byte → (t : Tally)
      → ask look (by_piece test lists form (stand mode k)) t ≡ ask look (case_in test lists form mode k (Holds byte 1)) (saw_byte k t)
  by_piece_there mode stands t =
      then_told look (piece_at form k) (λ piece. case_in test lists form mode k piece) t (saw_byte k t) (Holds byte 1) (piece_there mode stands t)

  both_looks : (s : Bool) (t : Tally) → saw_byte k (if s then saw_byte k t else t) ≡ cost_of s k t
  both_looks true t = refl
  both_looks false t = refl

  looks_too : (s : Bool) (t : Tally) → (if s then saw_byte k (saw_byte k t) else saw_byte k t) ≡ cost_of s k t
  looks_too true t = refl
  looks_too false t = refl

  pub step_there : (mode : Mode) → Stands look test lists form mode k byte → (t : Tally)
      → ask look (step_at test lists form (stand mode k)) t ≡ record { reached = Told (takes mode); tally = cost_of (seeks mode && test []) k t }
  step_there Plain stands t =
      unless_none Plain stands refl (by_piece test lists form (stand Plain k)) t
      ∙ by_piece_there Plain stands (sought t)
      ∙ ap (λ (u : Tally). record { reached = Told (takes Plain); tally = u }) (both_looks (test []) t)
  step_there Escaping stands t =
      by_piece_there Escaping stands t
      ∙ ap (λ (b : Bool). ask look (if b then and_then (piece_at form (k + 1)) (λ next. pair_case test lists form k byte (k + 1) next)
      else unless_markup test lists form k (Answer (takes Escaping))) (saw_byte k t)) (no_mark (is_mark form.escape_escape byte) (is_mark form.escape byte) stands.given)
      ∙ unless_none Escaping stands refl (Answer (takes Escaping)) (saw_byte k t)
      ∙ ap (λ (u : Tally). record { reached = Told (takes Escaping); tally = u }) (looks_too (test []) t)
    where
      no_mark : (a b : Bool) → not (a || b) ≡ true → (a || b) ≡ false
      no_mark true b is = let no_it : ⊥ = cc in absurd no_it
      no_mark false true is = let no_it : ⊥ = cc in absurd no_it
      no_mark false false is = refl
  step_there Before stands t = let no_it : ⊥ = cc (stands.given) in absurd no_it
  step_there Inside stands t =
      let parts = not_marks (is_mark form.escape_escape byte) (is_mark form.end byte) stands.given in
      by_piece_there Inside stands t
      ∙ ap (λ (b : Bool). ask look (if b then and_then (piece_at form (k + 1)) (λ next. Answer (in_block_escaped form byte (k + 1) next))
      else Answer (in_block form byte (k + 1))) (saw_byte k t)) parts.0
      ∙ ap (λ (b : Bool). record { reached = Told (if b then Passes (stand Plain (k + 1)) else Takes byte true (stand Inside (k + 1))); tally = saw_byte k t }) parts.1

-- run after run

abbrev given_one : Mode → ℕ → Character
given_one mode byte = record { c = byte; is_escaped = not (seeks mode) }

module _ (look : ℕ → Seen) (test : List ℕ → Bool) (lists : List Opened) (form : Form) (mode : Mode) where
  -- each of the bytes is passed from where it stands
  abbrev AllStand : ℕ → List ℕ → Type 0
  AllStand k [] = Unit {0}
  AllStand k (byte ∷ bytes) = Stands look test lists form mode k byte × AllStand (k + 1) bytes

  abbrev twice : Bool
  twice = seeks mode && test []

  spent_one : (s : Bool) (k looks far : ℕ) → cost_of s k (spent looks far) ≡ spent (looks + looks_of s 1) (max far (k + 1))
  spent_one true k looks far =
      ap (λ l. spent l (max (max far (k + 1)) (k + 1))) (two looks) ∙ ap (λ f. spent (looks + 2) f) (once far (k + 1))
    where
      two : (n : ℕ) → n + 1 + 1 ≡ n + 2
      two n = omega arith

      once : (m n : ℕ) → max (max m n) n ≡ max m n
      once m n = omega arith
  spent_one false k looks far = refl

  looks_more : (s : Bool) (looks n : ℕ) → looks + looks_of s 1 + looks_of s n ≡ looks + looks_of s (suc n)
  looks_more true looks n = omega arith
  looks_more false looks n = omega arith

  far_more : (far k n : ℕ) → far_behind (max far (k + 1)) (k + 1 + n) n ≡ far_behind far (k + suc n) (suc n)
  far_more far k zero = same
    where
      same : max far (k + 1) ≡ max far (k + 1)
      same = refl
  far_more far k (suc n) = same
    where
      same : max (max far (k + 1)) (k + 1 + suc n) ≡ max far (k + suc (suc n))
      same = omega arith

  one_step : (k byte more looks far : ℕ) (read : List Character) → Stands look test lists form mode k byte
      → left_of look test lists form (suc more) read (stand mode k) looks far
      ≡ left_of look test lists form more (read ++ given_one mode byte ∷ []) (stand mode (k + 1)) (looks + looks_of twice 1) (max far (k + 1))
  one_step k byte more looks far read stands =
      ap sum_of
      (then_told look (step_at test lists form (stand mode k))
      (λ step. after_step (λ next_read next. content_from test lists form more next_read next) read (stand mode k) step) (spent looks far)
      (cost_of twice k (spent looks far)) (Takes byte (not (seeks mode)) (stand mode (k + 1)))
      (step_there look test lists form k byte mode stands (spent looks far))
      ∙ ap (λ (t : Tally). ask look (content_from test lists form more (read ++ given_one mode byte ∷ []) (stand mode (k + 1))) t)
      (spent_one twice k looks far))

  moved : (a b : ℕ) → a ≡ b → stand mode a ≡ stand mode b
  moved a b is = ap (stand mode) is

  all_steps : (bytes : List ℕ) (k more looks far : ℕ) (read : List Character) → AllStand k bytes
      → left_of look test lists form (length bytes + more) read (stand mode k) looks far
      ≡ left_of look test lists form more (read ++ given_by mode bytes) (stand mode (k + length bytes)) (looks + looks_of twice (length bytes))
      (far_behind far (k + length bytes) (length bytes))
  all_steps [] k more looks far read stands =
      ap (λ n. left_of look test lists form n read (stand mode k) looks far) (from_none more)
      ∙ ap (λ r. left_of look test lists form more r (stand mode k) looks far) (sym (append-nil read))
      ∙ ap (λ n. left_of look test lists form more (read ++ []) (stand mode n) looks far) (none_more k)
      ∙ ap (λ n. left_of look test lists form more (read ++ []) (stand mode (k + 0)) n far) (no_looks twice looks)
    where
      from_none : (n : ℕ) → 0 + n ≡ n
      from_none n = omega arith

      none_more : (n : ℕ) → n ≡ n + 0
      none_more n = omega arith

      no_looks : (s : Bool) (n : ℕ) → n ≡ n + looks_of s 0
      no_looks true n = omega arith
      no_looks false n = omega arith
  all_steps (byte ∷ bytes) k more looks far read stands =
      let n : ℕ = length bytes in
      ap (λ m. left_of look test lists form m read (stand mode k) looks far) (count n more)
      ∙ one_step k byte (n + more) looks far read stands.0
      ∙ all_steps bytes (k + 1) more (looks + looks_of twice 1) (max far (k + 1)) (read ++ given_one mode byte ∷ []) stands.1
      ∙ ap (λ r. left_of look test lists form more r (stand mode (k + 1 + n)) (looks + looks_of twice 1 + looks_of twice n)
      (far_behind (max far (k + 1)) (k + 1 + n) n)) (append_assoc read (given_one mode byte ∷ []) (given_by mode bytes))
      ∙ ap (λ m. left_of look test lists form more (read ++ given_by mode (byte ∷ bytes)) (stand mode m) (looks + looks_of twice 1 + looks_of twice n)
      (far_behind (max far (k + 1)) (k + 1 + n) n)) (places k n)
      ∙ ap (λ m. left_of look test lists form more (read ++ given_by mode (byte ∷ bytes)) (stand mode (k + suc n)) m
      (far_behind (max far (k + 1)) (k + 1 + n) n)) (looks_more twice looks n)
      ∙ ap (λ m. left_of look test lists form more (read ++ given_by mode (byte ∷ bytes)) (stand mode (k + suc n)) (looks + looks_of twice (suc n)) m)
      (far_more far k n)
    where
      count : (n more : ℕ) → suc n + more ≡ suc (n + more)
      count n more = omega arith

      places : (k n : ℕ) → k + 1 + n ≡ k + suc n
      places k n = omega arith

  all_passed : (bytes : List ℕ) (k : ℕ) (begin : Stand) (before read : List Character) → AllStand k bytes
      → ArePassed look test lists form begin before (stand mode k) read
      → ArePassed look test lists form begin before (stand mode (k + length bytes)) (read ++ given_by mode bytes)
  all_passed [] k begin before read stands passed =
      subst (λ n. ArePassed look test lists form begin before (stand mode n) (read ++ [])) (none_more k)
      (subst (λ r. ArePassed look test lists form begin before (stand mode k) r) (sym (append-nil read)) passed)
    where
      none_more : (n : ℕ) → n ≡ n + 0
      none_more n = omega arith
  all_passed (byte ∷ bytes) k begin before read stands passed =
      let n : ℕ = length bytes in
      subst (λ m. ArePassed look test lists form begin before (stand mode m) (read ++ given_by mode (byte ∷ bytes))) (places k n)
      (subst (λ r. ArePassed look test lists form begin before (stand mode (k + 1 + n)) r) (append_assoc read (given_one mode byte ∷ []) (given_by mode bytes))
      (all_passed bytes (k + 1) begin before (read ++ given_one mode byte ∷ []) stands.1
      (Gave (stand mode k) (stand mode (k + 1)) read byte (not (seeks mode)) passed
      (ap (λ (r : Reading Step). r.reached) (step_there look test lists form k byte mode stands.0 nothing)))))
    where
      places : (k n : ℕ) → k + 1 + n ≡ k + suc n
      places k n = omega arith

  at_zero : (byte k : ℕ) → Stands look test lists form mode (k + 0) byte → Stands look test lists form mode k byte
  at_zero byte k stands = subst (λ n. Stands look test lists form mode n byte) (from_none k) stands
    where
      from_none : (n : ℕ) → n + 0 ≡ n
      from_none n = omega arith

  all_stand : (bytes : List ℕ) (k : ℕ) → ((i : ℕ) → i < length bytes → Stands look test lists form mode (k + i) (slice_index bytes i)) → AllStand k bytes
  all_stand [] k each = tt
  all_stand (byte ∷ bytes) k each = (
    at_zero byte k (each 0 (omega arith)),
    all_stand bytes (k + 1) (λ i within. subst (λ n. Stands look test lists form mode n (slice_index bytes i)) (places i) (each (suc i) (omega (arith, within)))),
  )
    where
      places : (i : ℕ) → k + suc i ≡ k + 1 + i
      places i = omega arith

-- what a search for markup comes to at a byte with which no text begins
abbrev pub OverBytes : Type 0
OverBytes = (look : ℕ → Seen) (test : List ℕ → Bool) (lists : List Opened) (stop k byte : ℕ) (t : Tally) → Decides lists test → k < stop / 8
    → look k ≡ Byte byte → BeginsNone lists byte
    → ask look (longest_at test lists stop k) t
    ≡ record { reached = Told (better (innermost lists []) 0 NoText); tally = if test [] then saw_byte k t else t }

module _ (over : OverBytes) (look : ℕ → Seen) (test : List ℕ → Bool) (lists : List Opened) (decides : Decides lists test) (form : Form) (mode : Mode)
    (first : FirstBytes) (firsts : FirstsAre first lists) (set : ByteSet)
    (passed : (byte : ℕ) → byte < 256 → has_byte set byte ≡ false → IsPassed form first.set mode byte) (bytes : List ℕ) (k most : ℕ)
    (seen : (i : ℕ) → i < length bytes → look (k + i) ≡ Byte (slice_index bytes i)) (are : All (λ byte. byte < 256) bytes)
    (outside : All (λ byte. has_byte set byte ≡ false) bytes) (few : length bytes ≤ most) (within : most ≤ form.stop / 8 - k) where
  one_stands : (i : ℕ) → i < length bytes → Stands look test lists form mode (k + i) (slice_index bytes i)
  one_stands i less =
      let byte : ℕ = slice_index bytes i in
      let inside : k + i < form.stop / 8 = omega (arith, less, few, within) in
      let is = passed byte (are i 0 less) (outside i 0 less) in
      record {
        lies = lies_there (k + i) inside;
        seen = seen i less;
        single = is.single;
        given = is.given;
        passed_over = λ sought t. over look test lists form.stop (k + i) byte t decides inside (seen i less) (firsts.none byte (are i 0 less) (is.outside sought));
      }
    where
      lies_there : (n : ℕ) → n < form.stop / 8 → lies_in form.stop n ≡ true
      lies_there n inside =
          let least : 8 * n + 8 ≤ form.stop = omega (arith, inside) in
          grind (arith, nat_tests)

  stand_all : AllStand look test lists form mode k bytes
  stand_all = all_stand look test lists form mode bytes k one_stands

  pub run_turns : (more looks looks_now far far_now : ℕ) (read new : List Character) → new ≡ read ++ given_by mode bytes
      → looks_now ≡ looks + looks_of (seeks mode && first.looks) (length bytes) → far_now ≡ far_behind far (k + length bytes) (length bytes)
      → left_of look test lists form (length bytes + more) read (stand mode k) looks far
      ≡ left_of look test lists form more new (stand mode (k + length bytes)) looks_now far_now
  run_turns more looks looks_now far far_now read new new_is looks_are far_is =
      all_steps look test lists form mode bytes k more looks far read stand_all
      ∙ ap (λ r. left_of look test lists form more r (stand mode (k + length bytes)) (looks + looks_of (seeks mode && test []) (length bytes))
      (far_behind far (k + length bytes) (length bytes))) (sym new_is)
      ∙ ap (λ n. left_of look test lists form more new (stand mode (k + length bytes)) n (far_behind far (k + length bytes) (length bytes)))
      (ap (λ b. looks + looks_of (seeks mode && b) (length bytes)) (sym (firsts.looks_are test decides)) ∙ sym looks_are)
      ∙ ap (λ n. left_of look test lists form more new (stand mode (k + length bytes)) looks_now n) (sym far_is)

  pub run_passed : (begin : Stand) (before read new : List Character) → new ≡ read ++ given_by mode bytes
      → ArePassed look test lists form begin before (stand mode k) read
      → ArePassed look test lists form begin before (stand mode (k + length bytes)) new
  run_passed begin before read new new_is steps =
      subst (λ r. ArePassed look test lists form begin before (stand mode (k + length bytes)) r) (sym new_is)
      (all_passed look test lists form mode bytes k begin before read stand_all steps)

-- what is seen has come
pub run_comes : (held : Held) (bytes : List ℕ) (k : ℕ) → held.base ≤ k
    → ((i : ℕ) → i < length bytes → seen_at held (k + i) ≡ Byte (slice_index bytes i)) → k + length bytes ≤ max k (end_of held)
run_comes held [] k base seen = omega arith
run_comes held (byte ∷ bytes) k base seen =
    let n : ℕ = length bytes in
    let last = seen_within held (k + n) (slice_index (byte ∷ bytes) n) (omega (arith, base)) (seen n (omega arith)) in
    omega (arith, last)

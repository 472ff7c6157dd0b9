-- What the program reads at a place is what is decoded there.
use Rattle.std.proofs.Common.{◌≡◌, ℕ, zero, suc, ◌+◌, ◌-◌, ◌*◌, ◌/◌, ◌≤◌, Bool, true, false, cond, List, [], ◌∷◌, ◌++◌, length, max, nat_lt, refl, ap, sym, subst, ◌∙◌, arith, length-append, add-zero}
use Rattle.dfdl_forms.specs.declared.encoding.Encoding.{Encoding}
use Rattle.dfdl_forms.specs.declared.encoding.Encoding.TheVariants.{Utf8, UsAscii, Iso88591, Utf16Be, Utf16Le}
use Rattle.dfdl_bits.specs.declared.window.Seen.{Seen}
use Rattle.dfdl_bits.specs.declared.window.Seen.TheVariants.{Byte, End as NoByte, NotYet as NotSeen, Over as PastWindow}
use Rattle.dfdl_looks.specs.Tallies.{Tally, saw_byte, saw_end}
use Rattle.dfdl_looks.specs.Asks.{Ask, Answer, Told, Reading, ask}
use Rattle.dfdl_looks.proofs.Resumed.{on_seen}
use Rattle.dfdl_chars.specs.declared.decode.Chars.{Chars}
use Rattle.dfdl_chars.specs.declared.decode.Chars.TheVariants.{Char, Bad, End, NotYet, Over}
use Rattle.dfdl_chars.specs.Sequences.{is_sequence, is_begun, code_of}
use Rattle.dfdl_chars.specs.Decoding.{Boxed, Walk, Decoded, found, looked, after_look, char_of, bad_of, end_after, is_high, is_low, pair_code, big_unit, little_unit, decoded_at, no_look}
use Rattle.dfdl_chars.specs.Decoding.{at_byte as byte_of, at_unit as unit_of, narrow_at, utf8_after, utf16_second as second_of, utf16_first as first_of, utf16_at}
use Rattle.dfdl_texts.specs.Units.{Piece, Holds, Broken, NoMore, lies_in, on_byte, at_byte, narrow_unit, cut_after, utf8_unit, at_unit, utf16_second, utf16_first, utf16_unit, unit_at, reached_of, far_of_run, far_seen, IsUnit}

-- a run has seen no further than its end
pub far-most : (k n : ℕ) → far_of_run k n ≤ k + n
far-most k zero = omega arith
far-most k (suc n) = omega arith

-- the walk of the one and the tally of the other, where so many bytes were seen
record Beside (k looks : ℕ) (t : Tally) (n : ℕ) (walk : Walk) (u : Tally) : Type 0 where
  pub far : walk.far ≡ far_of_run k n
  pub seen : u.far ≡ max t.far walk.far
  pub count : u.looks + looks ≡ t.looks + walk.looks

module _ (look : ℕ → Seen) (stop k looks : ℕ) (t : Tally) where
  abbrev box : Boxed
  box = record { look = look; stop = stop }

  abbrev Is : Decoded → Reading Piece → Type 0
  Is d r = IsUnit d.chars (far_seen d.chars k d.walk.far) looks d.walk.looks t r

  abbrev Goes : ℕ → Walk → Tally → Type 0
  Goes = Beside k looks t

  -- an answer, and what is decoded then
  told : (chars : Chars) (piece : Piece) (n : ℕ) (walk : Walk) (u : Tally) → reached_of chars ≡ Told piece → Goes n walk u
      → Is (found chars walk) (ask look (Answer piece) u)
  told (Char c bits) piece n walk u is beside = record { reached = sym is; looks = beside.count; far = beside.seen }
  told (Bad bits) piece n walk u is beside = record { reached = sym is; looks = beside.count; far = beside.seen }
  told End piece n walk u is beside = record { reached = sym is; looks = beside.count; far = beside.seen }
  told NotYet piece n walk u is beside = absurd (cc)
  told Over piece n walk u is beside = absurd (cc)

  one : (c bytes n : ℕ) (walk : Walk) (u : Tally) → Goes n walk u → Is (char_of c bytes walk) (ask look (Answer (Holds c bytes)) u)
  one c bytes n walk u beside =
      let whole : 8 * bytes / 8 ≡ bytes = omega arith in
      told (Char c (8 * bytes)) (Holds c bytes) n walk u (ap (λ (b : ℕ). Told (Holds c b)) whole) beside

  bad : (bytes n : ℕ) (walk : Walk) (u : Tally) → Goes n walk u → Is (bad_of bytes walk) (ask look (Answer (Broken bytes)) u)
  bad bytes n walk u beside =
      let whole : 8 * bytes / 8 ≡ bytes = omega arith in
      told (Bad (8 * bytes)) (Broken bytes) n walk u (ap (λ (b : ℕ). Told (Broken b)) whole) beside

  either : (b : Bool) (d e : Decoded) (p q : Ask Piece) (u : Tally) → Is d (ask look p u) → Is e (ask look q u)
      → Is (cond b d e) (ask look (cond b p q) u)
  either true d e p q u first second = first
  either false d e p q u first second = second

  by_look : (p n : ℕ) → p ≡ k + n → (chars : Chars) (piece : Piece) → reached_of chars ≡ Told piece
      → (on : ℕ → Walk → Decoded) (go : ℕ → Ask Piece) (walk : Walk) (u : Tally) → Goes n walk u
      → ((b : ℕ) (w : Walk) (v : Tally) → Goes (suc n) w v → Is (on b w) (ask look (go b) v))
      → (s : Seen) → Is (after_look s p walk chars on) (on_seen look (λ o. on_byte piece go o) p u s)
  by_look p n at chars piece is on go walk u beside more (Byte b) =
      let most = far-most k n in
      let far = beside.far in
      let seen = beside.seen in
      let count = beside.count in
      more b (looked p walk) (saw_byte p u) (record { far = omega arith; seen = omega arith; count = omega arith })
  by_look p n at chars piece is on go walk u beside more NoByte =
      let most = far-most k n in
      let far = beside.far in
      let seen = beside.seen in
      let count = beside.count in
      told chars piece (suc n) (looked p walk) (saw_end p u) is (record { far = omega arith; seen = omega arith; count = omega arith })
  by_look p n at chars piece is on go walk u beside more NotSeen =
      let count = beside.count in
      let left : p + 1 - (k + 1) ≡ n = omega arith in
      record {
        reached = refl;
        looks = omega arith;
        far = beside.seen ∙ ap (max t.far) (beside.far ∙ ap (far_of_run k) (sym left));
      }
  by_look p n at chars piece is on go walk u beside more PastWindow =
      let count = beside.count in
      record { reached = refl; looks = omega arith; far = beside.seen }

  by_byte : (p n : ℕ) → p ≡ k + n → (chars : Chars) (piece : Piece) → reached_of chars ≡ Told piece
      → (on : ℕ → Walk → Decoded) (go : ℕ → Ask Piece) (walk : Walk) (u : Tally) → Goes n walk u
      → ((b : ℕ) (w : Walk) (v : Tally) → Goes (suc n) w v → Is (on b w) (ask look (go b) v))
      → Is (byte_of box p walk chars on) (ask look (at_byte stop p piece go) u)
  by_byte p n at chars piece is on go walk u beside more =
      either (lies_in stop p) _ _ _ _ u (by_look p n at chars piece is on go walk u beside more (look p)) (told chars piece n walk u is beside)

  narrow : (limit : ℕ) (walk : Walk) (u : Tally) → Goes 0 walk u → Is (narrow_at limit box k walk) (ask look (narrow_unit limit stop k) u)
  narrow limit walk u beside =
      by_byte k 0 (sym (add-zero k)) End NoMore refl (λ b w. cond (nat_lt b limit) (char_of b 1 w) (bad_of 1 w))
      (λ b. cond (nat_lt b limit) (Answer (Holds b 1)) (Answer (Broken 1))) walk u beside
      (λ b w v more. either (nat_lt b limit) _ _ _ _ v (one b 1 1 w v more) (bad 1 1 w v more))

  ends_alike : (bytes : List ℕ) → reached_of (end_after bytes) ≡ Told (cut_after bytes)
  ends_alike [] = refl
  ends_alike (b ∷ bs) = refl

  utf8 : (more : ℕ) (bytes : List ℕ) (walk : Walk) (u : Tally) → Goes (length bytes) walk u
      → Is (utf8_after more box k bytes walk) (ask look (utf8_unit more stop k bytes) u)
  utf8 zero bytes walk u beside =
      either (is_sequence bytes) _ _ _ _ u (one (code_of bytes) (length bytes) (length bytes) walk u beside) (bad 1 (length bytes) walk u beside)
  utf8 (suc more) bytes walk u beside =
      either (is_sequence bytes) _ _ _ _ u (one (code_of bytes) (length bytes) (length bytes) walk u beside)
      (either (is_begun bytes) _ _ _ _ u
      (by_byte (k + length bytes) (length bytes) refl (end_after bytes) (cut_after bytes) (ends_alike bytes)
      (λ b w. utf8_after more box k (bytes ++ b ∷ []) w) (λ b. utf8_unit more stop k (bytes ++ b ∷ [])) walk u beside
      (λ b w v beyond. utf8 more (bytes ++ b ∷ []) w v
      (let longer : suc (length bytes) ≡ length (bytes ++ b ∷ []) = omega (arith, length-append bytes (b ∷ [])) in
      subst (λ (n : ℕ). Goes n w v) longer beyond)))
      (bad 1 (length bytes) walk u beside))

  module _ (join : ℕ → ℕ → ℕ) where
    by_unit : (p n : ℕ) → p ≡ k + n → (ends : Chars × Chars) (pieces : Piece × Piece)
        → reached_of ends.0 ≡ Told pieces.0 → reached_of ends.1 ≡ Told pieces.1
        → (on : ℕ → Walk → Decoded) (go : ℕ → Ask Piece) (walk : Walk) (u : Tally) → Goes n walk u
        → ((b : ℕ) (w : Walk) (v : Tally) → Goes (suc (suc n)) w v → Is (on b w) (ask look (go b) v))
        → Is (unit_of join box p walk ends on) (ask look (at_unit join stop p pieces go) u)
    by_unit p n at ends pieces first second on go walk u beside more =
        by_byte p n at ends.0 pieces.0 first (λ a w. byte_of box (p + 1) w ends.1 (λ b v. on (join a b) v))
        (λ a. at_byte stop (p + 1) pieces.1 (λ b. go (join a b))) walk u beside
        (λ a w v beyond. by_byte (p + 1) (suc n) (omega arith) ends.1 pieces.1 second (λ b x. on (join a b) x) (λ b. go (join a b)) w v beyond
        (λ b x y further. more (join a b) x y further))

    second : (high unit n : ℕ) (walk : Walk) (u : Tally) → Goes n walk u → Is (second_of high unit walk) (ask look (utf16_second high unit) u)
    second high unit n walk u beside =
        either (is_low unit) _ _ _ _ u (one (pair_code high unit) 4 n walk u beside) (bad 2 n walk u beside)

    first : (unit : ℕ) (walk : Walk) (u : Tally) → Goes 2 walk u → Is (first_of join box k unit walk) (ask look (utf16_first join stop k unit) u)
    first unit walk u beside =
        either (is_high unit) _ _ _ _ u
        (by_unit (k + 2) 2 refl (Bad 16, Bad 16) (Broken 2, Broken 2) refl refl (λ other w. second_of unit other w) (λ other. utf16_second unit other) walk u
        beside (λ other w v beyond. second unit other 4 w v beyond))
        (either (is_low unit) _ _ _ _ u (bad 2 2 walk u beside) (one unit 2 2 walk u beside))

    utf16 : (walk : Walk) (u : Tally) → Goes 0 walk u → Is (utf16_at join box k walk) (ask look (utf16_unit join stop k) u)
    utf16 walk u beside =
        by_unit k 0 (sym (add-zero k)) (End, Bad 8) (NoMore, Broken 1) refl refl (λ unit w. first_of join box k unit w) (λ unit. utf16_first join stop k unit)
        walk u beside (λ unit w v beyond. first unit w v beyond)

  pub decoded : (enc : Encoding) → Is (decoded_at enc box k (no_look looks)) (ask look (unit_at enc stop k) t)
  decoded enc = by_encoding enc (record { far = refl; seen = omega arith; count = omega arith })
    where
      by_encoding : (enc : Encoding) → Goes 0 (no_look looks) t → Is (decoded_at enc box k (no_look looks)) (ask look (unit_at enc stop k) t)
      by_encoding Utf8 beside = utf8 4 [] (no_look looks) t beside
      by_encoding UsAscii beside = narrow 128 (no_look looks) t beside
      by_encoding Iso88591 beside = narrow 256 (no_look looks) t beside
      by_encoding Utf16Be beside = utf16 big_unit (no_look looks) t beside
      by_encoding Utf16Le beside = utf16 little_unit (no_look looks) t beside

-- What stands at a place where a byte is, and where none of a run stands.
use Rattle.std.proofs.Common.{◌≡◌, ℕ, zero, suc, ◌+◌, ◌*◌, ◌<◌, ◌≤◌, true, false, cond, leb, ltb, List, [], ◌∷◌, ◌++◌, length, refl, ap, ◌∙◌, arith, add-zero, length-append}
use Rattle.std.proofs.lemmas.Bool.{lt-ltb, le-leb, leb-true, cond-true, cond_both, both_ways}
use Rattle.std.proofs.lemmas.Bool.Decides.{nat_tests}
use Rattle.dfdl_bits.specs.declared.window.Seen.{Seen}
use Rattle.dfdl_bits.specs.declared.window.Seen.TheVariants.{Byte, End as NoByte, NotYet as NotSeen, Over as PastWindow}
use Rattle.dfdl_chars.specs.declared.decode.Chars.{Chars}
use Rattle.dfdl_chars.specs.declared.decode.Chars.TheVariants.{Bad, End}
use Rattle.dfdl_forms.specs.declared.encoding.Encoding.TheVariants.{Utf8, UsAscii}
use Rattle.dfdl_chars.specs.Decoding.{Boxed, Walk, Decoded, after_look, at_byte, looked, char_of, bad_of, end_after, utf8_after, narrow_at, decoded_at, no_look, found}
use Rattle.dfdl_chars.specs.Runs.{is_single, single_at}
use Rattle.dfdl_chars.specs.Sequences.{is_sequence, is_begun, code_of}

-- a byte in the box
pub at_byte_is : (box : Boxed) (k b : ℕ) (walk : Walk) (at_end : Chars) (go : ℕ → Walk → Decoded) → 8 * k + 8 ≤ box.stop → box.look k ≡ Byte b
    → at_byte box k walk at_end go ≡ go b (looked k walk)
at_byte_is box k b walk at_end go inside seen =
    ap (λ t. cond t (after_look (box.look k) k walk at_end go) (found at_end walk)) (le-leb _ _ inside)
    ∙ ap (λ s. after_look s k walk at_end go) seen

pub one_byte : (b : ℕ) → b < 128 → is_sequence (b ∷ []) ≡ true
unfolding is_sequence
one_byte b small = grind (arith, nat_tests)

pub no_one_byte : (b : ℕ) → 128 ≤ b → is_sequence (b ∷ []) ≡ false
unfolding is_sequence
no_one_byte b high = grind (arith, nat_tests)

-- UTF-8 looks at a first byte, whatever it is
pub first_byte : (box : Boxed) (k : ℕ) (walk : Walk)
    → utf8_after 4 box k [] walk ≡ at_byte box k walk End (λ b w. utf8_after 3 box k (b ∷ []) w)
unfolding is_sequence is_begun
first_byte box k walk = ap (λ at. at_byte box at walk End (λ b w. utf8_after 3 box k (b ∷ []) w)) (add-zero k)

one_byte-char : (box : Boxed) (k b : ℕ) (walk : Walk) → b < 128 → utf8_after 3 box k (b ∷ []) walk ≡ char_of b 1 walk
unfolding code_of
one_byte-char box k b walk small = cond-true (is_sequence (b ∷ [])) _ _ (one_byte b small)

module _ (box : Boxed) (k b looks : ℕ) (inside : 8 * k + 8 ≤ box.stop) (seen : box.look k ≡ Byte b) where
  pub utf8_single : b < 128 → decoded_at Utf8 box k (no_look looks) ≡ single_at b k looks
  utf8_single small =
      first_byte box k (no_look looks)
      ∙ at_byte_is box k b (no_look looks) End (λ c w. utf8_after 3 box k (c ∷ []) w) inside seen
      ∙ one_byte-char box k b (looked k (no_look looks)) small

  pub narrow_single : (limit : ℕ) → b < limit → narrow_at limit box k (no_look looks) ≡ single_at b k looks
  narrow_single limit small =
      at_byte_is box k b (no_look looks) End _ inside seen
      ∙ ap (λ t. cond t (char_of b 1 (looked k (no_look looks))) (bad_of 1 (looked k (no_look looks)))) (lt-ltb b limit small)

-- no character of one byte stands where neither the end nor what follows from a byte is one
after_look-single : (s : Seen) (k : ℕ) (walk : Walk) (at_end : Chars) (go : ℕ → Walk → Decoded) → is_single at_end ≡ false
    → ((b : ℕ) (w : Walk) → s ≡ Byte b → is_single (go b w).chars ≡ false) → is_single (after_look s k walk at_end go).chars ≡ false
after_look-single (Byte b) k walk at_end go none then = then b (looked k walk) refl
after_look-single NoByte k walk at_end go none then = none
after_look-single NotSeen k walk at_end go none then = refl
after_look-single PastWindow k walk at_end go none then = refl

at_byte-single : (box : Boxed) (k : ℕ) (walk : Walk) (at_end : Chars) (go : ℕ → Walk → Decoded) → is_single at_end ≡ false
    → ((b : ℕ) (w : Walk) → 8 * k + 8 ≤ box.stop → box.look k ≡ Byte b → is_single (go b w).chars ≡ false)
    → is_single (at_byte box k walk at_end go).chars ≡ false
at_byte-single box k walk at_end go none then =
    cond_both (leb (8 * k + 8) box.stop) (after_look (box.look k) k walk at_end go) (found at_end walk) (λ (d : Decoded). is_single d.chars ≡ false)
    (λ e. after_look-single (box.look k) k walk at_end go none (λ b w. then b w (leb-true _ _ e)))
    (λ e. none)

end_single : (bytes : List ℕ) → is_single (end_after bytes) ≡ false
end_single [] = refl
end_single (b ∷ bs) = refl

more_bytes : (c n : ℕ) (walk : Walk) → 1 < n → is_single (char_of c n walk).chars ≡ false
more_bytes c n walk more = grind (arith, nat_tests)

-- a sequence of two bytes or more is no character of one byte
long_sequence : (more : ℕ) (box : Boxed) (k : ℕ) (bytes : List ℕ) (walk : Walk) → 1 < length bytes
    → is_single (utf8_after more box k bytes walk).chars ≡ false
long_sequence zero box k bytes walk long =
    cond_both (is_sequence bytes) _ _ (λ (d : Decoded). is_single d.chars ≡ false) (λ e. more_bytes (code_of bytes) (length bytes) walk long) (λ e. refl)
long_sequence (suc more) box k bytes walk long =
    cond_both (is_sequence bytes) _ _ (λ (d : Decoded). is_single d.chars ≡ false) (λ e. more_bytes (code_of bytes) (length bytes) walk long)
    (λ e. cond_both (is_begun bytes) _ _ (λ (d : Decoded). is_single d.chars ≡ false)
    (λ f. at_byte-single box (k + length bytes) walk (end_after bytes) _ (end_single bytes)
    (λ b w inside seen. long_sequence more box k (bytes ++ b ∷ []) w (rw (length-append bytes (b ∷ [])) (omega arith))))
    (λ f. refl))

high_byte : (box : Boxed) (k b : ℕ) (walk : Walk) → 128 ≤ b → is_single (utf8_after 3 box k (b ∷ []) walk).chars ≡ false
high_byte box k b walk high =
    cond_both (is_sequence (b ∷ [])) _ _ (λ (d : Decoded). is_single d.chars ≡ false) (λ e. absurd (both_ways _ (no_one_byte b high) e))
    (λ e. cond_both (is_begun (b ∷ [])) _ _ (λ (d : Decoded). is_single d.chars ≡ false)
    (λ f. at_byte-single box (k + 1) walk (Bad 8) _ refl (λ c w inside seen. long_sequence 2 box k (b ∷ c ∷ []) w (omega arith)))
    (λ f. refl))

module _ (box : Boxed) (k : ℕ) (walk : Walk) (high : (b : ℕ) → 8 * k + 8 ≤ box.stop → box.look k ≡ Byte b → 128 ≤ b) where
  pub utf8_stops : is_single (decoded_at Utf8 box k walk).chars ≡ false
  utf8_stops =
      rw (first_byte box k walk)
      (at_byte-single box k walk End _ refl (λ b w inside seen. high_byte box k b w (high b inside seen)))

  pub ascii_stops : is_single (decoded_at UsAscii box k walk).chars ≡ false
  ascii_stops =
      at_byte-single box k walk End _ refl (λ b w inside seen.
      let test : ltb b 128 ≡ false = grind (arith, nat_tests, high b inside seen) in
      rw test refl)

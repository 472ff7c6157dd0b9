-- The reading of a hexBinary, and its bytes.
use Rattle.std.proofs.Common.{◌≡◌, ◌≢◌, ℕ, zero, suc, ◌+◌, ◌-◌, ◌*◌, ◌%◌, ◌<◌, ◌≤◌, Bool, true, false, cond, nat_eq, refl, List, [], ◌∷◌, ◌++◌, length, take, drop, get_or, ap, sym, subst, ◌∙◌, arith, append_assoc}
use Rattle.std.proofs.lemmas.List.{drop_more}
use Rattle.std.proofs.lemmas.Bool.Decides.{nat_tests}
use Rattle.dfdl_bits.specs.declared.window.Seen.{Seen}
use Rattle.dfdl_bits.proofs.Numbers.{big-byte, least-byte, least_any}
use Rattle.dfdl_forms.specs.declared.order.BitOrder.{BitOrder}
use Rattle.dfdl_forms.specs.declared.order.BitOrder.TheVariants.{MostFirst, LeastFirst}
use Rattle.dfdl_forms.specs.declared.order.ByteOrder.TheVariants.{Big}
use Rattle.dfdl_report.specs.declared.cause.ParseCause.TheVariants.{NotFilled}
use Rattle.dfdl_terms.specs.declared.text.OctetForm.{OctetForm}
use Rattle.dfdl_terms.specs.declared.row.Primitive.TheVariants.{Octets}
use Rattle.dfdl_looks.specs.Asks.{Ask, Answer, Told, ask}
use Rattle.dfdl_looks.specs.Tallies.{nothing}
use Rattle.dfdl_grammar.specs.Leaves.{Find, Fails, FindsOctets, field, octets}
use Rattle.dfdl_grammar.specs.Spans.{vacant}
use Rattle.dfdl_grammar.specs.Octets.{octet_at, octets_from}
use Rattle.dfdl_leaves.specs.declared.leaf.Found.TheVariants.{Octets as HasOctets, Fails as HasFailed}
use Rattle.dfdl_leaves.specs.declared.leaf.Glance.{Glance}
use Rattle.dfdl_leaves.specs.declared.leaf.Scratch.{Scratch}
use Rattle.dfdl_leaves.specs.Readings.{Answers}

-- a byte that begins at a whole byte is that byte, in either bit order
whole-byte : (order : BitOrder) (bytes : List ℕ) (at : ℕ) → get_or bytes at 0 < 256 → octet_at order bytes (8 * at) ≡ get_or bytes at 0
whole-byte MostFirst bytes at small = big-byte bytes at ∙ omega arith
whole-byte LeastFirst bytes at small = least_any bytes (8 * at) 8 Big ∙ (least-byte bytes at ∙ omega arith)

-- those of a byte on, one after the other
from-byte : (order : BitOrder) (bytes : List ℕ) → ((i : ℕ) → get_or bytes i 0 < 256) → (count at : ℕ) → at + count ≤ length bytes
    → octets_from order bytes (8 * at) count ≡ take count (drop at bytes)
from-byte order bytes small zero at inside = refl
from-byte order bytes small (suc count) at inside =
    let next : 8 * at + 8 ≡ 8 * (at + 1) = omega arith in
    let here : at < length bytes = omega arith in
    rw (whole-byte order bytes at (small at), next, from-byte order bytes small count (at + 1) (omega arith), drop_more bytes at 0 here) refl

pub whole-bytes : (order : BitOrder) (bytes : List ℕ) → ((i : ℕ) → get_or bytes i 0 < 256) → (count : ℕ) → count ≤ length bytes
    → octets_from order bytes 0 count ≡ take count bytes
whole-bytes order bytes small count inside = from-byte order bytes small count 0 (omega arith)

-- one byte more is put behind those before it
pub one-more : (order : BitOrder) (bytes : List ℕ) (before at count : ℕ) (items : List ℕ) (octet : ℕ) → at < count
    → octet ≡ octet_at order bytes (before + 8 * at)
    → items ++ octets_from order bytes (before + 8 * at) (count - at) ≡ octets_from order bytes before count
    → (items ++ octet ∷ []) ++ octets_from order bytes (before + 8 * (at + 1)) (count - (at + 1)) ≡ octets_from order bytes before count
one-more order bytes before at count items octet few is all =
    let left : count - at ≡ suc (count - (at + 1)) = omega arith in
    let next : before + 8 * (at + 1) ≡ before + 8 * at + 8 = omega arith in
    let more : octets_from order bytes (before + 8 * at) (count - at) ≡ octet ∷ octets_from order bytes (before + 8 * (at + 1)) (count - (at + 1)) =
    rw (left, next, is) refl in
    append_assoc items (octet ∷ []) _ ∙ ap (λ (xs : List ℕ). items ++ xs) (sym more) ∙ all

module _ (look : ℕ → Seen) (form : OctetForm) (bit : ℕ) (scratch : Scratch) where
  -- the program, by its two tests
  abbrev by_tests : Bool → Bool → Ask Find
  by_tests none whole = cond none (Answer (FindsOctets [] (vacant bit))) (cond whole (field (Octets form) bit) (Answer (Fails NotFilled)))

  abbrev Is : Ask Find → Glance → ℕ → Type 0
  Is program glance looks = Answers (ask look program nothing) scratch glance looks

  at-tests : (none whole : Bool) → nat_eq form.bits 0 ≡ none → nat_eq (form.bits % 8) 0 ≡ whole
      → (glance : Glance) (looks : ℕ) → Is (by_tests none whole) glance looks → Is (octets form bit) glance looks
  at-tests none whole is_none is_whole glance looks answers =
      subst (λ (n : Bool). Is (by_tests n (nat_eq (form.bits % 8) 0)) glance looks) (sym is_none)
      (subst (λ (w : Bool). Is (by_tests none w) glance looks) (sym is_whole) answers)

  -- a box without bits has no bytes
  pub empty_read : form.bits ≡ 0 → scratch.octets.items ≡ [] → (looks : ℕ) → looks ≡ 0
      → Is (octets form bit) (record { found = HasOctets (vacant bit); far = 0 }) looks
  empty_read none empty looks cost =
      at-tests true (nat_eq (form.bits % 8) 0) (grind (arith, nat_tests)) refl (record { found = HasOctets (vacant bit); far = 0 }) looks
      (record { reached = ap (λ (bytes : List ℕ). Told (FindsOctets bytes (vacant bit))) (sym empty); looks = sym cost; far = refl })

  -- one that is no whole number of bytes is refused
  pub unfilled_read : form.bits ≢ 0 → form.bits % 8 ≢ 0 → (looks : ℕ) → looks ≡ 0
      → Is (octets form bit) (record { found = HasFailed NotFilled; far = 0 }) looks
  unfilled_read some odd looks cost =
      at-tests false false (grind (arith, nat_tests)) (grind (arith, nat_tests)) (record { found = HasFailed NotFilled; far = 0 }) looks
      (record { reached = refl; looks = sym cost; far = refl })

  -- any other one is a field
  pub field_read : form.bits ≢ 0 → form.bits % 8 ≡ 0 → (glance : Glance) (looks : ℕ) → Is (field (Octets form) bit) glance looks
      → Is (octets form bit) glance looks
  field_read some even glance looks answers = at-tests false true (grind (arith, nat_tests)) (grind (arith, nat_tests)) glance looks answers

-- What a character past ASCII does in an end tag, which must have the name of its start tag.
use Rattle.std.proofs.Common.{◌≡◌, ℕ, ◌≤◌, ◌⊎◌, ◌==◌, ◌||◌, Bool, true, false, List, [], ◌∷◌, ◌++◌}
use Rattle.std.proofs.Common.{Option, Some, None, Result, Err, if◌then◌else◌, refl, sym, ap, subst}
use Rattle.std.proofs.Common.{◌∙◌, arith, eq-eqb, ne_eqb, nat_lt, append_assoc, inl, inr, ltb-true}
use Rattle.std.proofs.Common.{ltb-false}
use Rattle.std.proofs.lemmas.Bool.{cond_both, cond-true, cond-false, both_ways, or_from}
use Rattle.dfdl_layers.specs.Tellers.{Each}
use Rattle.dfdl_layers.proofs.Runs.{each-append, each-map}
use Rattle.dfdl_xml_chars.specs.Characters.{Row, is_in, is_allowed, is_name_start, is_name_char}
use Rattle.dfdl_xml_chars.specs.Characters.{high_start_rows, high_name_rows, low_name_rows}
use Rattle.dfdl_xml_chars.specs.Characters.{low_start_rows}
use Rattle.dfdl_xml_chars.specs.Beyond.{Beyond, Never, One, Does, AreAllowed, FitsBehind}
use Rattle.dfdl_xml_chars.proofs.Tables.{high_start, high_char, low_char, start_rows_allowed}
use Rattle.dfdl_xml_chars.proofs.Tables.{name_rows_allowed}
use Rattle.dfdl_markup.specs.Grammar.{is_white, Name, Plain, Prefixed, name_characters}
use Rattle.dfdl_markup.specs.Rules.{IsPart, IsName}
use Rattle.dfdl_markup.specs.Machine.{State, Frame, Reading, First, Colon, Second, name_next}
use Rattle.dfdl_markup.specs.Machine.{whole_name, AtEndName, stand, end_next, wanted, end_tag_step}
use Rattle.dfdl_markup.specs.Machine.{end_space_step, end_ended, end_name_or, end_name_step}
use Rattle.dfdl_markup.specs.Machine.{beyond_end, beyond_end_tag, tail}
use Rattle.dfdl_markup.proofs.Rest.{reading_characters, IsReading}
use Rattle.dfdl_markup.proofs.Sound.{SoundFrames, SoundEnd}
use Rattle.dfdl_markup.proofs.Closing.{good_name, start_is_char}
use Rattle.dfdl_markup.proofs.ForesightForms.{apart, not_white, does_never, does_one}

-- the rows that a name goes on by, and the test
abbrev rows_of : Reading → List Row
rows_of (First part) = high_name_rows
rows_of (Colon prefix) = high_start_rows
rows_of (Second prefix part) = high_name_rows

abbrev test_of : Reading → ℕ → Bool
test_of (First part) c = is_name_char c
test_of (Colon prefix) c = is_name_start c
test_of (Second prefix part) c = is_name_char c

abbrev next_of : Reading → ℕ → Reading
next_of (First part) c = First (part ++ c ∷ [])
next_of (Colon prefix) c = Second prefix (c ∷ [])
next_of (Second prefix part) c = Second prefix (part ++ c ∷ [])

test_rows : (reading : Reading) (c : ℕ) → 128 ≤ c → test_of reading c ≡ is_in (rows_of reading) c
test_rows (First part) c high = high_char c high
test_rows (Colon prefix) c high = high_start c high
test_rows (Second prefix part) c high = high_char c high

next_is : (reading : Reading) (c : ℕ) → test_of reading c ≡ true
    → name_next reading c ≡ Some (next_of reading c)
unfolding name_next
next_is (First part) c is = cond-true (is_name_char c) _ _ is
next_is (Colon prefix) c is = cond-true (is_name_start c) _ _ is
next_is (Second prefix part) c is = cond-true (is_name_char c) _ _ is

next_none : (reading : Reading) (c : ℕ) → 128 ≤ c → test_of reading c ≡ false
    → name_next reading c ≡ None
unfolding name_next
next_none (First part) c high is =
    cond-false (is_name_char c) _ _ is
    ∙ cond-false (c == 58) _ _ (apart c 58 high (omega arith))
next_none (Colon prefix) c high is = cond-false (is_name_start c) _ _ is
next_none (Second prefix part) c high is = cond-false (is_name_char c) _ _ is

-- what a place does where this is left of the name that is wanted
abbrev by_left : List Row → List ℕ → Beyond
by_left rows [] = Never rows 4 3
by_left rows (w ∷ left) = if nat_lt w 128 then Never rows 4 3 else One w rows 4 3

left_is : (reading : Reading) (left : List ℕ)
    → beyond_end reading left ≡ by_left (rows_of reading) left
left_is (First part) [] = refl
left_is (Colon prefix) [] = refl
left_is (Second prefix part) [] = refl
left_is (First part) (w ∷ left) = refl
left_is (Colon prefix) (w ∷ left) = refl
left_is (Second prefix part) (w ∷ left) = refl

-- the first character that is left, if it is none of ASCII, passes the test
abbrev Passes : (ℕ → Bool) → List ℕ → Type 0
Passes test [] = Unit {0}
Passes test (w ∷ left) = 128 ≤ w → test w ≡ true

-- the characters of names
abbrev IsChar : ℕ → Type 0
IsChar c = (c ≡ 58) ⊎ (is_name_char c ≡ true)

part_characters : (part : List ℕ) → IsPart part → Each (λ c. is_name_char c ≡ true) part
part_characters [] is = absurd is
part_characters (c ∷ part) is = (start_is_char c is.0, is.1)

of_part : (part : List ℕ) → IsPart part → Each IsChar part
of_part part is =
    each-map (λ c. is_name_char c ≡ true) IsChar (λ c char. inr char) part (part_characters part is)

of_name : (name : Name) → IsName name → Each IsChar (name_characters name)
of_name (Plain part) is = of_part part is
of_name (Prefixed prefix part) is =
    each-append IsChar prefix (58 ∷ part) (of_part prefix is.0) (inl refl, of_part part is.1)

no_colon : is_name_char 58 ≡ false
unfolding low_name_rows low_start_rows
no_colon = low_char 58 (omega arith)

each_at : (P : ℕ → Type 0) (front : List ℕ) (w : ℕ) (left : List ℕ) → Each P (front ++ w ∷ left)
    → P w
each_at P [] w left each = each.0
each_at P (c ∷ front) w left each = each_at P front w left each.1

char_at : (front : List ℕ) (w : ℕ) (left : List ℕ) (name : Name) → IsName name
    → front ++ w ∷ left ≡ name_characters name → 128 ≤ w → is_name_char w ≡ true
char_at front w left name named is high =
    elim (each_at IsChar front w left (subst (λ l. Each IsChar l) (sym is) (of_name name named))) [
      | inl colon ↦ absurd (omega arith)
      | inr char ↦ char
    ]

-- two names are cut at their colon alike
behind_colon : (prefix p a b : List ℕ) → Each (λ c. is_name_char c ≡ true) prefix
    → Each (λ c. is_name_char c ≡ true) p → prefix ++ 58 ∷ a ≡ p ++ 58 ∷ b → a ≡ b
behind_colon [] [] a b first second is = ap tail is
behind_colon [] (d ∷ p) a b first second is =
    let same : 58 ≡ d = cc in
    absurd (both_ways (is_name_char 58) no_colon
    (subst (λ x. is_name_char x ≡ true) (sym same) second.0))
behind_colon (c ∷ prefix) [] a b first second is =
    let same : c ≡ 58 = cc in
    absurd (both_ways (is_name_char 58) no_colon
    (subst (λ x. is_name_char x ≡ true) same first.0))
behind_colon (c ∷ prefix) (d ∷ p) a b first second is =
    behind_colon prefix p a b first.1 second.1 (ap tail is)

start_at : (prefix : List ℕ) (w : ℕ) (left : List ℕ) (name : Name) → IsName name → IsPart prefix
    → prefix ++ 58 ∷ (w ∷ left) ≡ name_characters name → is_name_start w ≡ true
start_at prefix w left (Plain part) named before is =
    absurd (both_ways (is_name_char 58) no_colon
    (each_at (λ c. is_name_char c ≡ true) prefix 58 (w ∷ left)
    (subst (λ l. Each (λ c. is_name_char c ≡ true) l) (sym is) (part_characters part named))))
start_at prefix w left (Prefixed p part) named before is =
    let same =
    behind_colon prefix p (w ∷ left) part (part_characters prefix before)
    (part_characters p named.0) is in
    (subst IsPart (sym same) named.1).0

passes : (reading : Reading) (left : List ℕ) (name : Name) → IsName name → IsReading reading
    → reading_characters reading ++ left ≡ name_characters name → Passes (test_of reading) left
passes (First part) [] name named read is = tt
passes (Colon prefix) [] name named read is = tt
passes (Second prefix part) [] name named read is = tt
passes (First part) (w ∷ left) name named read is = char_at part w left name named is
passes (Colon prefix) (w ∷ left) name named read is = λ _.
    start_at prefix w left name named read (sym (append_assoc prefix (58 ∷ []) (w ∷ left)) ∙ is)
passes (Second prefix part) (w ∷ left) name named read is =
    char_at (prefix ++ 58 ∷ part) w left name named is

passes_first : (name : Name) → IsName name → Passes is_name_start (name_characters name)
passes_first (Plain []) named = absurd named
passes_first (Plain (c ∷ part)) named = λ _. named.0
passes_first (Prefixed [] part) named = absurd named.0
passes_first (Prefixed (c ∷ prefix) part) named = λ _. named.0.0

passes_tag : (frames : List Frame) → SoundFrames frames → Passes is_name_start (wanted frames)
passes_tag [] sound = tt
passes_tag (frame ∷ frames) sound = passes_first frame.name sound.0.0

passes_end : (frames : List Frame) (reading : Reading) (left : List ℕ) → SoundFrames frames
    → SoundEnd reading left frames → Passes (test_of reading) left
passes_end [] reading left sound end = absurd end.0
passes_end (frame ∷ frames) reading left sound end =
    passes reading left frame.name sound.0.0 end.1 end.2

test_good : (reading : Reading) (c : ℕ) → test_of reading c ≡ true → is_allowed c ≡ true
test_good (First part) c is = (good_name c is).1
test_good (Colon prefix) c is = (good_name c (start_is_char c is)).1
test_good (Second prefix part) c is = (good_name c is).1

rows_allowed : (reading : Reading) → AreAllowed (rows_of reading)
rows_allowed (First part) = name_rows_allowed
rows_allowed (Colon prefix) = start_rows_allowed
rows_allowed (Second prefix part) = name_rows_allowed

fits_left : (reading : Reading) (left : List ℕ) → Passes (test_of reading) left
    → FitsBehind 2 (by_left (rows_of reading) left)
fits_left reading [] pass = (rows_allowed reading, omega arith, omega arith)
fits_left reading (w ∷ left) pass =
    cond_both (nat_lt w 128) (Never (rows_of reading) 4 3) (One w (rows_of reading) 4 3)
    (λ (b : Beyond). FitsBehind 2 b) (λ _. (rows_allowed reading, omega arith, omega arith))
    (λ other. (
      rows_allowed reading,
      test_good reading w (pass (ltb-false w 128 other)),
      omega arith,
      omega arith,
    ))

pub end_name_fits : (frames : List Frame) (reading : Reading) (left : List ℕ) → SoundFrames frames
    → SoundEnd reading left frames → FitsBehind 2 (beyond_end reading left)
end_name_fits frames reading left sound end =
    subst (λ (b : Beyond). FitsBehind 2 b) (sym (left_is reading left))
    (fits_left reading left (passes_end frames reading left sound end))

pub end_tag_fits : (frames : List Frame) → SoundFrames frames
    → FitsBehind 2 (beyond_end_tag (wanted frames))
end_tag_fits frames sound =
    subst (λ (b : Beyond). FitsBehind 2 b) (sym (left_is (Colon []) (wanted frames)))
    (fits_left (Colon []) (wanted frames) (passes_tag frames sound))

module _ (s : State) (c : ℕ) (high : 128 ≤ c) where
  -- the name goes on as it must, or it is another, or none
  left_does : (rows : List Row) (test : ℕ → Bool) (left : List ℕ) (next : Reading)
      (r : Result State ℕ) → test c ≡ is_in rows c → Passes test left
      → (test c ≡ true → r ≡ end_next s next left c) → (test c ≡ false → r ≡ Err 3)
      → Does (by_left rows left) c r
  left_does rows test [] next r same pass on off = does_never rows 4 3 c r (test c) same on off
  left_does rows test (w ∷ left) next r same pass on off =
      cond_both (nat_lt w 128) (Never rows 4 3) (One w rows 4 3) (λ (b : Beyond). Does b c r)
      (λ low. does_never rows 4 3 c r (test c) same
      (λ is. on is ∙ cond-false (c == w) _ _ (apart c w high (ltb-true w 128 low))) off)
      (λ past. does_one w rows 4 3 c r (test c) same
      (λ is. (
        stand s (AtEndName next left),
        on (subst (λ d. test d ≡ true) (sym is) (pass (ltb-false w 128 past)))
            ∙ cond-true (c == w) _ _ (eq-eqb c w is),
      ))
      (λ other is. on is ∙ cond-false (c == w) _ _ (ne_eqb c w other)) (λ other is. off is))

  pub end_tag_does : SoundFrames s.frames
      → Does (beyond_end_tag (wanted s.frames)) c (end_tag_step s c)
  unfolding end_tag_step
  end_tag_does sound =
      subst (λ (b : Beyond). Does b c (end_tag_step s c))
      (sym (left_is (Colon []) (wanted s.frames)))
      (left_does high_start_rows is_name_start (wanted s.frames) (First (c ∷ []))
      (if is_name_start c then end_next s (First (c ∷ [])) (wanted s.frames) c else Err 3)
      (high_start c high) (passes_tag s.frames sound)
      (λ is. cond-true (is_name_start c) _ _ is) (λ is. cond-false (is_name_start c) _ _ is))

  pub end_space_does : end_space_step s c ≡ Err 3
  unfolding end_space_step
  end_space_does =
      cond-false (is_white c) _ _ (not_white c high)
      ∙ cond-false (c == 62) _ _ (apart c 62 high (omega arith))

  not_ended : (left : List ℕ) → end_ended left s c ≡ Err 3
  not_ended [] = end_space_does
  not_ended (w ∷ left) =
      cond-false (is_white c || c == 62) _ _
      (or_from (is_white c) (c == 62) (not_white c high) (apart c 62 high (omega arith)))

  no_end_name : (whole : Option Name) (left : List ℕ) → end_name_or None whole s left c ≡ Err 3
  no_end_name None left = refl
  no_end_name (Some name) left = not_ended left

  pub end_name_does : (reading : Reading) (left : List ℕ) → SoundFrames s.frames
      → SoundEnd reading left s.frames
      → Does (beyond_end reading left) c (end_name_step s reading left c)
  unfolding end_name_step
  end_name_does reading left sound end =
      subst (λ (b : Beyond). Does b c (end_name_step s reading left c)) (sym (left_is reading left))
      (left_does (rows_of reading) (test_of reading) left (next_of reading c)
      (end_name_or (name_next reading c) (whole_name reading) s left c) (test_rows reading c high)
      (passes_end s.frames reading left sound end)
      (λ is. ap (λ o. end_name_or o (whole_name reading) s left c) (next_is reading c is))
      (λ is. ap (λ o. end_name_or o (whole_name reading) s left c) (next_none reading c high is)
      ∙ no_end_name (whole_name reading) left))

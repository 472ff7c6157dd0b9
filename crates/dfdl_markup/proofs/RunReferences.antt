-- The machine runs over references, in a content and in a value.
use Rattle.std.proofs.Common.{◌≡◌, ℕ, ◌+◌, ◌*◌, ◌==◌, ◌<◌, ◌≤◌, ◌&&◌, Bool, true, false}
use Rattle.std.proofs.Common.{◌⊎◌, List, [], ◌∷◌, ◌++◌, length, Option, Some, None}
use Rattle.std.proofs.Common.{Ok, refl, sym, subst, inl, inr, arith, append_assoc, IsSome}
use Rattle.std.proofs.Common.{nat_le}
use Rattle.std.specs.List.{list_any}
use Rattle.std.specs.Str.{bytes_eq}
use Rattle.std.proofs.lemmas.List.{append-nil}
use Rattle.std.proofs.lemmas.Slice.Eq.{bytes_eq-Decides}
use Rattle.std.proofs.lemmas.Bool.{cases_Bool, and_from}
use Rattle.std.proofs.lemmas.Bool.{both_ways, false≢true, or_left, or_right, or_cases, and_parts}
use Rattle.std.proofs.lemmas.Bool.{leb-true, leb-false}
use Rattle.dfdl_layers.specs.Tellers.{Each, run}
use Rattle.dfdl_xml_chars.specs.Characters.{is_name_start, is_name_char, is_allowed, char_rows}
use Rattle.dfdl_xml_chars.specs.Characters.{is_in}
use Rattle.dfdl_xml_chars.specs.Characters.{Row, low_start_rows, high_start_rows}
use Rattle.dfdl_markup.specs.Grammar.{Reference, Named, Numbered, reference_inside}
use Rattle.dfdl_markup.specs.Values.{is_digit, digit_value, base_of, number_on, entities}
use Rattle.dfdl_markup.specs.Values.{entity_among, entity, or_zero, referred}
use Rattle.dfdl_markup.specs.Rules.{ReferenceKeeps}
use Rattle.dfdl_markup.specs.Machine.{Within, InContent, InValue, Place, AtContent, AtValue}
use Rattle.dfdl_markup.specs.Machine.{AtReference, AtEntity, AtHash, AtHexadecimal, AtNumber}
use Rattle.dfdl_markup.specs.Machine.{NothingAhead, Frame, State, stand, step, with_text}
use Rattle.dfdl_markup.specs.Machine.{referred_to}
use Rattle.dfdl_markup.specs.Machine.{begins, begins_entity, entity_next, reference_step}
use Rattle.dfdl_markup.specs.Machine.{entity_ended, entity_step, number_next, hash_step}
use Rattle.dfdl_markup.specs.Machine.{hexadecimal_step, number_step}
use Rattle.dfdl_markup.proofs.RunNames.{end_marks}
use Rattle.dfdl_markup.proofs.RunSteps.{Ends, After, state, RunsFrom, goes, not_under, if_true}
use Rattle.dfdl_markup.proofs.RunSteps.{if_false, at_test, same_is}

-- the place behind a reference to this character
abbrev pub behind : Within → ℕ → Place
behind InContent d = AtContent 0
behind (InValue v) d = AtValue (with_text v (d ∷ []) false)

behind_is : (s : State) (within : Within) (d : ℕ) → referred_to s within d
    ≡ stand s (behind within d)
behind_is s InContent d = refl
behind_is s (InValue v) d = refl

-- a text begins with its fronts
pub begins_front : (front more : List ℕ) → begins front (front ++ more) ≡ true
begins_front [] more = refl
begins_front (c ∷ front) more = and_from (c == c) _ (same_is c) (begins_front front more)

-- the fronts of an entity's name begin it
front_among : (among : List (List ℕ × ℕ)) (front more : List ℕ)
    → IsSome (entity_among among (front ++ more))
    → list_any (λ e. begins front e.0) among ≡ true
front_among [] front more is = absurd (cc)
front_among (e ∷ among) front more is =
    first_or (cases_Bool (bytes_eq e.0 (front ++ more))) (front_among among front more)
  where
    first_or : ((bytes_eq e.0 (front ++ more) ≡ true) ⊎ (bytes_eq e.0 (front ++ more) ≡ false))
        → (IsSome (entity_among among (front ++ more)) → list_any (λ o. begins front o.0) among
        ≡ true)
        → list_any (λ o. begins front o.0) (e ∷ among) ≡ true
    first_or (inl t) others =
        or_left _ _ (subst (λ w. begins front w ≡ true)
        (sym ((bytes_eq-Decides e.0 (front ++ more)).0 t)) (begins_front front more))
    first_or (inr f) others =
        or_right _ _ (others (subst (λ o. IsSome o) (if_false _ _ _ f) is))

-- what is in rows up to a number is at most that
in_rows : (most c : ℕ) (rows : List Row) → Each (λ row. row.1 ≤ most) rows → is_in rows c ≡ true
    → c ≤ most
in_rows most c [] are is = absurd (cc)
in_rows most c (row ∷ rows) are is =
    one (or_cases _ _ is) (in_rows most c rows are.1)
  where
    one : ((nat_le row.0 c && nat_le c row.1) ≡ true) ⊎ (is_in rows c ≡ true)
        → (is_in rows c ≡ true → c ≤ most) → c ≤ most
    one (inl e) rest = omega (arith, leb-true c row.1 (and_parts _ _ e).1, are.0)
    one (inr e) rest = rest e

allowed_most : (c : ℕ) → is_allowed c ≡ true → c ≤ 0x10FFFF
unfolding is_allowed char_rows
allowed_most c is =
    in_rows 0x10FFFF c char_rows
    (omega arith, (omega arith, (omega arith, (omega arith, (omega arith, tt))))) is

-- a number doesn't get smaller by digits behind it
number_grows : (hexadecimal : Bool) (digits : List ℕ) (value : ℕ)
    → value ≤ number_on hexadecimal value digits
number_grows hexadecimal [] value = omega arith
number_grows true (c ∷ digits) value =
    omega (arith, number_grows true digits (value * 16 + digit_value c))
number_grows false (c ∷ digits) value =
    omega (arith, number_grows false digits (value * 10 + digit_value c))

hash_no_start : is_name_start 35 ≡ false
unfolding is_name_start low_start_rows high_start_rows
hash_no_start = refl

semicolon_no_digit : (hexadecimal : Bool) → is_digit hexadecimal 59 ≡ false
unfolding is_digit
semicolon_no_digit true = refl
semicolon_no_digit false = refl

x_no_digit : is_digit false 120 ≡ false
unfolding is_digit
x_no_digit = refl

module _ (n begun : ℕ) (frames : List Frame) where
  abbrev here : Place → State
  here place = state NothingAhead place begun frames

  behind_reference : (s : State) (within : Within) (d : ℕ) (tail : List ℕ)
      → Ends n (run step (stand s (behind within d)) tail)
      → After n (Ok (referred_to s within d)) tail
  behind_reference s within d tail ends =
      subst (λ t. Ends n (run step t tail)) (sym (behind_is s within d)) ends

  -- a front of an entity's name
  entity_front : (within : Within) (front more text : List ℕ)
      → (6 < n → IsSome (entity (front ++ more)))
      → RunsFrom n begun frames (AtEntity within front) text
      → (s : State) → stand s (AtEntity within front) ≡ here (AtEntity within front)
      → After n (entity_next s within front) text
  entity_front within front more text known ends s is =
      at_test n text (begins_entity front) _ _
      (λ e. subst (λ t. Ends n (run step t text)) (sym is) ends)
      (λ e. not_under n 6 (λ less. both_ways _ e (front_among entities front more (known less))))

  entity_end : (within : Within) (o : Option ℕ) (tail : List ℕ) → (6 < n → IsSome o)
      → RunsFrom n begun frames (behind within (or_zero o)) tail
      → (s : State) → stand s (behind within (or_zero o)) ≡ here (behind within (or_zero o))
      → After n (entity_ended s within o) tail
  entity_end within None tail known ends s is = not_under n 6 (λ less. false≢true (known less))
  entity_end within (Some d) tail known ends s is =
      behind_reference s within d tail (subst (λ t. Ends n (run step t tail)) (sym is) ends)

  entity_name : (within : Within) (front more tail : List ℕ)
      → Each (λ c. is_name_char c ≡ true) more
      → (6 < n → IsSome (entity (front ++ more)))
      → RunsFrom n begun frames (behind within (or_zero (entity (front ++ more)))) tail
      → RunsFrom n begun frames (AtEntity within front) (more ++ 59 ∷ tail)
  unfolding step entity_step
  entity_name within front [] tail are known ends =
      subst (λ a. After n a tail) (sym (if_false (is_name_char 59) _ _ end_marks.semicolon.no_char))
      (entity_end within (entity front) tail
      (subst (λ w. 6 < n → IsSome (entity w)) (append-nil front) known)
      (subst (λ w. RunsFrom n begun frames (behind within (or_zero (entity w))) tail)
      (append-nil front) ends)
      (here (AtEntity within front)) refl)
  entity_name within front (c ∷ more) tail are known ends =
      subst (λ a. After n a (more ++ 59 ∷ tail)) (sym (if_true (is_name_char c) _ _ are.0))
      (entity_front within (front ++ c ∷ []) more (more ++ 59 ∷ tail)
      (subst (λ w. 6 < n → IsSome (entity w)) (sym (append_assoc front (c ∷ []) more)) known)
      (entity_name within (front ++ c ∷ []) more tail are.1
      (subst (λ w. 6 < n → IsSome (entity w)) (sym (append_assoc front (c ∷ []) more)) known)
      (subst (λ w. RunsFrom n begun frames (behind within (or_zero (entity w))) tail)
      (sym (append_assoc front (c ∷ []) more)) ends))
      (here (AtEntity within front)) refl)

  -- a number with one digit more
  number_front : (within : Within) (hexadecimal : Bool) (value : ℕ) (digits text : List ℕ)
      → (12 < n → is_allowed (number_on hexadecimal value digits) ≡ true)
      → RunsFrom n begun frames (AtNumber within hexadecimal value) text
      → (s : State) → stand s (AtNumber within hexadecimal value)
      ≡ here (AtNumber within hexadecimal value)
      → After n (number_next s within hexadecimal value) text
  number_front within hexadecimal value digits text allowed ends s is =
      at_test n text (nat_le value 0x10FFFF) _ _
      (λ e. subst (λ t. Ends n (run step t text)) (sym is) ends)
      (λ e. not_under n 12 (λ less.
      omega (
        arith,
        leb-false value 0x10FFFF e,
        number_grows hexadecimal digits value,
        allowed_most (number_on hexadecimal value digits) (allowed less),
      )))

  number_digits : (within : Within) (hexadecimal : Bool) (value : ℕ) (digits tail : List ℕ)
      → Each (λ c. is_digit hexadecimal c ≡ true) digits
      → (12 < n → is_allowed (number_on hexadecimal value digits) ≡ true)
      → RunsFrom n begun frames (behind within (number_on hexadecimal value digits)) tail
      → RunsFrom n begun frames (AtNumber within hexadecimal value) (digits ++ 59 ∷ tail)
  unfolding step number_step
  number_digits within hexadecimal value [] tail are allowed ends =
      subst (λ a. After n a tail)
      (sym (if_false (is_digit hexadecimal 59) _ _ (semicolon_no_digit hexadecimal)))
      (at_test n tail (is_allowed value) _ _
      (λ e. behind_reference (here (AtNumber within hexadecimal value)) within value tail ends)
      (λ e. not_under n 12 (λ less. both_ways _ e (allowed less))))
  number_digits within hexadecimal value (c ∷ digits) tail are allowed ends =
      subst (λ a. After n a (digits ++ 59 ∷ tail))
      (sym (if_true (is_digit hexadecimal c) _ _ are.0))
      (number_front within hexadecimal (value * base_of hexadecimal + digit_value c) digits
      (digits ++ 59 ∷ tail) allowed
      (number_digits within hexadecimal
      (value * base_of hexadecimal + digit_value c) digits tail are.1 allowed ends)
      (here (AtNumber within hexadecimal value)) refl)

  -- the first digit
  first_digit : (hexadecimal : Bool) (c : ℕ) → 0 * base_of hexadecimal + digit_value c
      ≡ digit_value c
  first_digit true c = omega arith
  first_digit false c = omega arith

  decimal_runs : (within : Within) (digits tail : List ℕ) → 0 < length digits
      → Each (λ c. is_digit false c ≡ true) digits
      → (12 < n → is_allowed (number_on false 0 digits) ≡ true)
      → RunsFrom n begun frames (behind within (number_on false 0 digits)) tail
      → RunsFrom n begun frames (AtHash within) (digits ++ 59 ∷ tail)
  unfolding step hash_step
  decimal_runs within [] tail some are allowed ends = absurd (omega arith)
  decimal_runs within (c ∷ digits) tail some are allowed ends =
      let first = first_digit false c in
      let good = subst (λ v. 12 < n → is_allowed (number_on false v digits) ≡ true) first allowed in
      let after = subst (λ v. RunsFrom n begun frames
      (behind within (number_on false v digits)) tail) first ends in
      subst (λ a. After n a (digits ++ 59 ∷ tail)) (sym (if_true (is_digit false c) _ _ are.0))
      (number_front within false (digit_value c) digits (digits ++ 59 ∷ tail) good
      (number_digits within false (digit_value c) digits tail are.1 good after)
      (here (AtHash within)) refl)

  hexadecimal_runs : (within : Within) (digits tail : List ℕ) → 0 < length digits
      → Each (λ c. is_digit true c ≡ true) digits
      → (12 < n → is_allowed (number_on true 0 digits) ≡ true)
      → RunsFrom n begun frames (behind within (number_on true 0 digits)) tail
      → RunsFrom n begun frames (AtHexadecimal within) (digits ++ 59 ∷ tail)
  unfolding step hexadecimal_step
  hexadecimal_runs within [] tail some are allowed ends = absurd (omega arith)
  hexadecimal_runs within (c ∷ digits) tail some are allowed ends =
      let first = first_digit true c in
      let good = subst (λ v. 12 < n → is_allowed (number_on true v digits) ≡ true) first allowed in
      let after = subst (λ v. RunsFrom n begun frames
      (behind within (number_on true v digits)) tail) first ends in
      subst (λ a. After n a (digits ++ 59 ∷ tail)) (sym (if_true (is_digit true c) _ _ are.0))
      (number_front within true (digit_value c) digits (digits ++ 59 ∷ tail) good
      (number_digits within true (digit_value c) digits tail are.1 good after)
      (here (AtHexadecimal within)) refl)

  pub reference_runs : (within : Within) (reference : Reference) (tail : List ℕ)
      → ReferenceKeeps n reference
      → RunsFrom n begun frames (behind within (referred reference)) tail
      → RunsFrom n begun frames (AtReference within) (reference_inside reference ++ 59 ∷ tail)
  unfolding step reference_step hash_step
  reference_runs within (Named []) tail keeps ends = absurd keeps.0
  reference_runs within (Named (c ∷ more)) tail keeps ends =
      subst (λ a. After n a (more ++ 59 ∷ tail)) (sym (if_true (is_name_start c) _ _ keeps.0.0))
      (entity_front within (c ∷ []) more (more ++ 59 ∷ tail) keeps.1
      (entity_name within (c ∷ []) more tail keeps.0.1 keeps.1 ends)
      (here (AtReference within)) refl)
  reference_runs within (Numbered true digits) tail keeps ends =
      goes n (here (AtReference within)) (here (AtHash within)) 35 (120 ∷ digits ++ 59 ∷ tail)
      (if_false (is_name_start 35) _ _ hash_no_start)
      (goes n (here (AtHash within)) (here (AtHexadecimal within)) 120 (digits ++ 59 ∷ tail)
      (if_false (is_digit false 120) _ _ x_no_digit)
      (hexadecimal_runs within digits tail keeps.0 keeps.1 keeps.2 ends))
  reference_runs within (Numbered false digits) tail keeps ends =
      goes n (here (AtReference within)) (here (AtHash within)) 35 (digits ++ 59 ∷ tail)
      (if_false (is_name_start 35) _ _ hash_no_start)
      (decimal_runs within digits tail keeps.0 keeps.1 keeps.2 ends)

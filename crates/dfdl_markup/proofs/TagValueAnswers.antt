-- Answers of the steps in an attribute's value.
use Rattle.std.proofs.Common.{◌≡◌, ℕ, ◌==◌, ◌&&◌, true, false, not, List, [], ◌∷◌, ◌++◌}
use Rattle.std.proofs.Common.{length, drop, Option, Some, None, Ok, Err, refl, ap, sym, subst, ◌∙◌}
use Rattle.std.proofs.Common.{arith}
use Rattle.std.proofs.Common.{if◌then◌else◌, option_and_then}
use Rattle.std.proofs.lemmas.Bool.{and_from}
use Rattle.std.proofs.lemmas.List.{append-nil, map-append}
use Rattle.dfdl_layers.specs.Tellers.{Each}
use Rattle.dfdl_markup.specs.Grammar.{is_quote, Name, Item, Letter}
use Rattle.dfdl_markup.specs.Values.{letter_read, items_read, ends_in_cr, declares, fixed_namespace}
use Rattle.dfdl_markup.specs.Rules.{is_value_character}
use Rattle.dfdl_markup.specs.Machine.{OpenValue, InValue, AtTag, AtValue, AtReference, Ahead}
use Rattle.dfdl_markup.specs.Machine.{NothingAhead}
use Rattle.dfdl_markup.specs.Machine.{Frame, wanted, with_text, begins, fixed_value}
use Rattle.dfdl_markup.specs.Machine.{with_value, may_close, has_sure_clash, value_ended}
use Rattle.dfdl_markup.specs.Machine.{value_goes_on}
use Rattle.dfdl_markup.specs.Machine.{value_step}
use Rattle.dfdl_markup.proofs.Rest.{ReadAs}
use Rattle.dfdl_markup.proofs.Sound.{KeepsFixed, Sound}
use Rattle.dfdl_markup.proofs.Answers.{Told, Answer}
use Rattle.dfdl_markup.proofs.Closing.{good_low}
use Rattle.dfdl_markup.proofs.Moves.{at, malformed, reads_on, answer_if}
use Rattle.dfdl_markup.proofs.ReferenceForms.{standing}
use Rattle.dfdl_markup.proofs.ReferenceSteps.{only_standing}
use Rattle.dfdl_markup.proofs.TagNamespaces.{some_is}
use Rattle.dfdl_markup.proofs.TagFixed.{ArePlain, is_plain, plain_fixed, plain_value, begun_rest}
use Rattle.dfdl_markup.proofs.TagFixed.{plain_part}
use Rattle.dfdl_markup.proofs.TagValues.{read_on, ends_on, value_grows}
use Rattle.dfdl_markup.proofs.TagSound.{sound_quoted}
use Rattle.dfdl_markup.proofs.TagSteps.{Reaches, value_closed}
use Rattle.dfdl_markup.proofs.TagLive.{behind_tag, slash_from}
use Rattle.dfdl_markup.proofs.TagAnswers.{answer_at}
use Rattle.dfdl_markup.proofs.TagAttributes.{told_over}

-- a character of a value that is fixed

front_each : (P : ℕ → Type 0) (a b : List ℕ) → Each P (a ++ b) → Each P a
front_each P [] b each = tt
front_each P (c ∷ a) b each = (each.0, front_each P a b each.1)

fixed_plain : (name : Name) (o : Option (List ℕ)) (fixed : List ℕ) → declares name ≡ o
    → option_and_then fixed_namespace o ≡ Some fixed → ArePlain fixed
fixed_plain name None fixed declared is = absurd (cc)
fixed_plain name (Some prefix) fixed declared is = plain_fixed prefix fixed is

fixed_character : (text fixed : List ℕ) (c : ℕ) → ArePlain fixed → begins (text ++ c ∷ []) fixed
    ≡ true
    → is_plain c ≡ true
fixed_character text fixed c plain begun =
    let is = begun_rest (text ++ c ∷ []) fixed begun in
    let all : ArePlain (text ++ c ∷ []) =
    front_each (λ d. is_plain d ≡ true) (text ++ c ∷ []) (drop (length (text ++ c ∷ [])) fixed)
    (subst ArePlain (sym is) plain) in
    (plain_part (λ d. is_plain d ≡ true) text (c ∷ []) all).0

read_fixed : (o : Option (List ℕ)) (fixed : List ℕ) (v : OpenValue) (items : List Item) (c : ℕ)
    → o ≡ Some fixed → begins (v.text ++ c ∷ []) fixed ≡ true → ReadAs o v items
    → ReadAs o (with_text v (c ∷ []) false) (items ++ Letter c ∷ [])
read_fixed None fixed v items c is begun read = absurd (cc)
read_fixed (Some other) fixed v items c is begun read = (
  ap (λ l. l ++ Letter c ∷ []) read.0 ∙ sym (map-append Letter v.text (c ∷ [])),
  ap (begins (v.text ++ c ∷ [])) (some_is other fixed is) ∙ begun,
)

pub fixed_reaches : (v : OpenValue) (fixed : List ℕ) (c : ℕ) → fixed_value v.name ≡ Some fixed
    → is_quote v.quote ≡ true → begins (v.text ++ c ∷ []) fixed ≡ true
    → Reaches (AtValue v) (AtValue (with_text v (c ∷ []) false)) (c ∷ [])
fixed_reaches v fixed c is quotes begun n want raw wrote =
    value_grows n v raw wrote (Letter c ∷ []) (c ∷ []) false (
      plain_value v.quote c quotes (fixed_character v.text fixed c
          (fixed_plain v.name (declares v.name) fixed refl is) begun),
      tt,
    )
    (read_fixed (fixed_value v.name) fixed v wrote.items c is begun wrote.read)

-- and of any other

read_free : (o : Option (List ℕ)) (v : OpenValue) (items : List Item) (c : ℕ) → o ≡ None
    → ReadAs o v items
    → ReadAs o (with_text v (letter_read v.behind_cr c) (c == 13)) (items ++ Letter c ∷ [])
read_free (Some fixed) v items c is read = absurd (cc)
read_free None v items c is read = (
  read_on false items (Letter c ∷ [])
      ∙ ap (λ l. items_read false items ++ l) (append-nil (letter_read (ends_in_cr false items) c))
      ∙ ap (λ l. l ++ letter_read (ends_in_cr false items) c) read.0
      ∙ ap (λ b. v.text ++ letter_read b c) read.1,
  ends_on false items (Letter c ∷ []),
)

value_character : (quote c : ℕ) → (c == 60) ≡ false → (c == 38) ≡ false → (c == quote) ≡ false
    → is_value_character quote c ≡ true
unfolding is_value_character
value_character quote c first second third =
    and_from (not (c == 60)) (not (c == 38) && not (c == quote)) (ap not first)
    (and_from (not (c == 38)) (not (c == quote)) (ap not second) (ap not third))

pub free_reaches : (v : OpenValue) (c : ℕ) → fixed_value v.name ≡ None
    → is_value_character v.quote c ≡ true
    → Reaches (AtValue v) (AtValue (with_text v (letter_read v.behind_cr c) (c == 13))) (c ∷ [])
free_reaches v c is keeps n want raw wrote =
    value_grows n v raw wrote (Letter c ∷ []) (letter_read v.behind_cr c) (c == 13) (keeps, tt)
    (read_free (fixed_value v.name) v wrote.items c is wrote.read)

pub reference_begun : (v : OpenValue) → fixed_value v.name ≡ None
    → Reaches (AtValue v) (AtReference (InValue v)) (38 ∷ [])
reference_begun v is n want raw wrote = (raw, (wrote, is), refl)

-- a value that is not fixed may be any text
keeps_free : (name : Name) (text : List ℕ) → fixed_value name ≡ None → KeepsFixed (fixed_value name)
    text
keeps_free name text is = subst (λ o. KeepsFixed o text) (sym is) tt

module _ (begun : ℕ) (frames : List Frame) (v : OpenValue)
    (sound : Sound (standing (AtValue v) begun frames)) where
  -- behind the closing quote

  clash_told : may_close (declares v.name) (fixed_value v.name) v.text ≡ true
      → Told 5 (standing (AtValue v) begun frames) v.quote
  clash_told may =
      let closing = behind_tag begun frames sound.frames sound.roots sound.place.1 in
      told_over 5 begun frames (AtValue v) (AtTag (with_value v) false) v.quote []
      (47 ∷ 62 ∷ closing.0)
      refl tt (
        good_low 47 (omega arith) (omega arith),
        (good_low 62 (omega arith) (omega arith), closing.1),
      )
      (value_closed v may)
      (slash_from begun frames 5 (with_value v) false closing.0 sound.place.1
      (λ less. absurd (omega arith)) (λ less. absurd (omega arith)) (closing.2 5))

  ended_answers : Answer (standing (AtValue v) begun frames) v.quote
      (value_ended (standing (AtValue v) begun frames) v)
  ended_answers =
      answer_if (standing (AtValue v) begun frames) v.quote
      (may_close (declares v.name) (fixed_value v.name) v.text)
      (if has_sure_clash (declares v.name) (with_value v).attributes then Err 5
      else Ok (standing (AtTag (with_value v) false) begun frames)) (Err 3)
      (λ may. answer_if (standing (AtValue v) begun frames) v.quote
      (has_sure_clash (declares v.name) (with_value v).attributes) (Err 5)
      (Ok (standing (AtTag (with_value v) false) begun frames))
      (λ clash. (omega arith, omega arith, λ less. clash_told may))
      (λ apart. reads_on NothingAhead (AtValue v) (AtTag (with_value v) false) begun frames v.quote
      sound
      refl refl (sound_quoted v sound.place.0.0 may apart, sound.place.1)
      (λ n raw wrote. value_closed v may n (wanted frames) raw wrote)))
      (λ may_not. malformed (standing (AtValue v) begun frames) v.quote)

  -- and within it

  goes_on_fixed : (fixed : List ℕ) (c : ℕ) → fixed_value v.name ≡ Some fixed
      → Answer (standing (AtValue v) begun frames) c
      (value_goes_on (Some fixed) (standing (AtValue v) begun frames) v c)
  goes_on_fixed fixed c is =
      answer_if (standing (AtValue v) begun frames) c (begins (v.text ++ c ∷ []) fixed)
      (Ok (standing (AtValue (with_text v (c ∷ []) false)) begun frames)) (Err 3)
      (λ begun_so. reads_on NothingAhead (AtValue v) (AtValue (with_text v (c ∷ []) false)) begun
      frames c
      sound refl refl (
        (
          sound.place.0.0,
          sound.place.0.1,
          subst (λ o. KeepsFixed o (v.text ++ c ∷ [])) (sym is)
              begun_so,
        ),
        sound.place.1,
      )
      (λ n raw wrote. fixed_reaches v fixed c is sound.place.0.1 begun_so n (wanted frames) raw
      wrote))
      (λ begun_not. malformed (standing (AtValue v) begun frames) c)

  goes_on_free : (c : ℕ) → fixed_value v.name ≡ None → (c == v.quote) ≡ false
      → Answer (standing (AtValue v) begun frames) c
      (value_goes_on None (standing (AtValue v) begun frames) v c)
  goes_on_free c is other =
      answer_if (standing (AtValue v) begun frames) c (c == 60) (Err 3)
      (if c == 38 then Ok (standing (AtReference (InValue v)) begun frames)
      else Ok (standing (AtValue (with_text v (letter_read v.behind_cr c) (c == 13))) begun frames))
      (λ less. malformed (standing (AtValue v) begun frames) c)
      (λ not_less. answer_if (standing (AtValue v) begun frames) c (c == 38)
      (Ok (standing (AtReference (InValue v)) begun frames))
      (Ok (standing (AtValue (with_text v (letter_read v.behind_cr c) (c == 13))) begun frames))
      (λ ampersand. answer_at (standing (AtValue v) begun frames) c 38
      (Ok (standing (AtReference (InValue v)) begun frames)) ampersand
      (reads_on NothingAhead (AtValue v) (AtReference (InValue v)) begun frames 38 sound refl refl
      (sound.place.0, is, sound.place.1)
      (λ n raw wrote. reference_begun v is n (wanted frames) raw wrote)))
      (λ not_ampersand. reads_on NothingAhead (AtValue v)
      (AtValue (with_text v (letter_read v.behind_cr c) (c == 13))) begun frames c sound refl refl (
        (
          sound.place.0.0,
          sound.place.0.1,
          keeps_free v.name (v.text ++ letter_read v.behind_cr c) is,
        ),
        sound.place.1,
      )
      (λ n raw wrote. free_reaches v c is (value_character v.quote c not_less not_ampersand other) n
      (wanted frames) raw wrote)))

  goes_on_by : (o : Option (List ℕ)) (c : ℕ) → fixed_value v.name ≡ o → (c == v.quote) ≡ false
      → Answer (standing (AtValue v) begun frames) c
      (value_goes_on o (standing (AtValue v) begun frames) v c)
  goes_on_by None c is other = goes_on_free c is other
  goes_on_by (Some fixed) c is other = goes_on_fixed fixed c is

  value_answers_at : (c : ℕ) → Answer (standing (AtValue v) begun frames) c
      (value_step (standing (AtValue v) begun frames) v c)
  unfolding value_step
  value_answers_at c =
      answer_if (standing (AtValue v) begun frames) c (c == v.quote)
      (value_ended (standing (AtValue v) begun frames) v)
      (value_goes_on (fixed_value v.name) (standing (AtValue v) begun frames) v c)
      (λ is. answer_at (standing (AtValue v) begun frames) c v.quote
      (value_ended (standing (AtValue v) begun frames) v) is ended_answers)
      (λ other. goes_on_by (fixed_value v.name) c refl other)

-- from any of the states there
module _ (ahead : Ahead) (begun : ℕ) (frames : List Frame) where
  pub value_answers : (v : OpenValue) (c : ℕ) → Sound (at ahead (AtValue v) begun frames)
      → Answer (at ahead (AtValue v) begun frames) c
      (value_step (at ahead (AtValue v) begun frames) v c)
  value_answers v c sound =
      only_standing (λ s. Answer s c (value_step s v c)) ahead (AtValue v) begun frames refl sound
      (λ s. value_answers_at begun frames v s c)

-- Components without a breach tell the delimiters that they have.
use Rattle.std.proofs.Common.{◌≡◌, ◌⊎◌, inl, inr, refl, sym, ap, subst, ◌∙◌, ℕ, ◌<◌, List, [], ◌∷◌, length, Option, Some, None, Bool, true, false, not, if◌then◌else◌, ◌&&◌, ◌||◌, is_some, codes, IsTrue, IsSome, arith}
use Rattle.dfdl_forms.specs.declared.encoding.Encoding.{Encoding}
use Rattle.dfdl_forms.specs.declared.literals.Piece.{Piece}
use Rattle.std.specs.Str.{chars}
use Rattle.dfdl_literals.specs.Lists.{matches_nothing}
use Rattle.dfdl_literals.specs.Readings.{literals_reading}
use Rattle.dfdl_scope.specs.Expressions.{is_expression, literal}
use Rattle.dfdl_scope.specs.Scoping.{Told, Value, Absent, Twice}
use Rattle.dfdl_scope.specs.Table.{row, Formed, Else, property_table}
use Rattle.dfdl_scope.specs.declared.row.Form.TheVariants as values
use Rattle.dfdl_checks.proofs.BoxBounds.{none-some, some-is}
use Rattle.dfdl_checks.proofs.Built.{built-at, flawless-by}
use Rattle.dfdl_checks.proofs.Flawless.{HasNoFlaw}
use Rattle.dfdl_checks.proofs.Kept.{IsKept, keeps-all}
use Rattle.dfdl_checks.proofs.SoundBoxes.{encoding-told}
use Rattle.dfdl_checks.specs.Keys.{is_key_malformed}
use Rattle.dfdl_checks.specs.Delimiters.{IsDelimiterOf, IsSeparatorOf, delimiter_at, delimiter_by, delimiter_of, delimiter_told, delimiters_for, delimiters_of, delimiting_by, has_delimiter, is_delimited, is_delimiter, is_delimiter_malformed, is_delimiter_not_encoded, is_empty_text, is_malformed_text, is_none, is_separated, lacks_text, no_delimiters, separating_by, separator_at, separator_of}
use Rattle.dfdl_checks.specs.Encodings.{encoding_told}
use Rattle.dfdl_checks.specs.FillBytes.{is_fill_malformed}
use Rattle.dfdl_checks.specs.Judged.{Judged}
use Rattle.dfdl_checks.specs.Nils.{is_nil_malformed, is_nil_not_encoded, lacks_literals}
use Rattle.dfdl_checks.specs.Rules.{are_truth_texts_malformed, are_truth_texts_not_encoded, first_breach, is_bytes_encoding_other, is_pad_malformed, is_pad_not_encoded, is_separator_malformed, is_separator_not_encoded, rules}
use Rattle.dfdl_checks.specs.Subjects.{is_unframed, is_sequence, told_at}
use Rattle.dfdl_checks.specs.Table.{Built, EveryValue, applicability_table, applies_by, built_for, word}
use Rattle.dfdl_checks.specs.Values.{is_empty}
use Rattle.dfdl_checks.specs.declared.applicability.Bearers.TheVariants as bearers
use Rattle.dfdl_checks.specs.declared.delimiters.DelimiterText.{DelimiterText}
use Rattle.dfdl_checks.specs.declared.delimiters.DelimiterText.TheVariants.{Nothing, Literals, Malformed, Empty}
use Rattle.dfdl_checks.specs.declared.delimiters.Delimiting.{Delimiting}
use Rattle.dfdl_checks.specs.declared.delimiters.Separating.{Separating}
use Rattle.dfdl_checks.specs.declared.purpose.Purpose.{Purpose}
use Rattle.dfdl_checks.specs.declared.purpose.Purpose.TheVariants.{Parsing, Unparsing}

-- the text is one of literals
abbrev has_literals : DelimiterText → Bool
has_literals Nothing = false
has_literals (Literals literals) = true
has_literals Malformed = false
has_literals Empty = false

-- what literals that are read come to is these, where it is neither malformed nor empty
read-literals : (o : Option (List (List Piece))) → is_malformed_text (delimiter_by o) ≡ false → is_empty_text (delimiter_by o) ≡ false
    → has_literals (delimiter_by o) ≡ true
read-literals None sound matching = grind (arith, sound)
read-literals (Some []) sound matching = grind (arith, sound)
read-literals (Some (first ∷ others)) sound matching = by (matches_nothing (first ∷ others)) matching
  where
    by : (b : Bool) → is_empty_text (if b then Empty else Literals (first ∷ others)) ≡ false → has_literals (if b then Empty else Literals (first ∷ others)) ≡ true
    by true h = grind (arith, h)
    by false h = refl

-- so is a delimiter that is told without a flaw
told-literals : (name : List ℕ) (built : Built) (t : Told) → HasNoFlaw (row name (Formed values.LiteralsOrEmpty) (Else (codes ""))) built t → is_delimiter t ≡ true
    → is_malformed_text (delimiter_told t) ≡ false → is_empty_text (delimiter_told t) ≡ false → has_literals (delimiter_told t) ≡ true
told-literals name built (Value w) flawless told sound matching =
    by (is_expression w) (is_empty (literal w)) (literals_reading false (chars (literal w))) flawless.expression told sound matching
  where
    by : (e m : Bool) (o : Option (List (List Piece))) → (e && true) ≡ false → not m ≡ true
        → is_malformed_text (if e || m then Nothing else delimiter_by o) ≡ false → is_empty_text (if e || m then Nothing else delimiter_by o) ≡ false
        → has_literals (if e || m then Nothing else delimiter_by o) ≡ true
    by true m o x y sound matching = grind (arith, x)
    by false true o x y sound matching = grind (arith, y)
    by false false o x y sound matching = read-literals o sound matching
told-literals name built Absent flawless told sound matching = grind (arith, told)
told-literals name built (Twice place) flawless told sound matching = grind (arith, told)

-- literals and an encoding make a delimiter
some-delimiting : (s : Judged) (name : List ℕ) (text : DelimiterText) (e : Option Encoding) → has_literals text ≡ true → is_some e ≡ true
    → is_some (delimiting_by s name text e) ≡ true
some-delimiting s name Nothing e x y = grind (arith, x)
some-delimiting s name (Literals literals) (Some encoding) x y = refl
some-delimiting s name (Literals literals) None x y = grind (arith, y)
some-delimiting s name Malformed e x y = grind (arith, x)
some-delimiting s name Empty e x y = grind (arith, x)

some-separating : (s : Judged) (text : DelimiterText) (e : Option Encoding) → has_literals text ≡ true → is_some e ≡ true
    → is_some (separating_by s text e) ≡ true
some-separating s Nothing e x y = grind (arith, x)
some-separating s (Literals literals) (Some encoding) x y = refl
some-separating s (Literals literals) None x y = grind (arith, y)
some-separating s Malformed e x y = grind (arith, x)
some-separating s Empty e x y = grind (arith, x)

-- none of three holds
none-of : (a b c : Bool) → (a || b || c) ≡ false → (a ≡ false) × (b ≡ false) × (c ≡ false)
none-of a b c none = (grind (arith, none), grind (arith, none), grind (arith, none))

module _ (s : Judged) (kept : IsKept s) where
  -- no delimiter is malformed
  well-formed : is_delimiter_malformed s ≡ false
  well-formed =
      last (is_pad_malformed s) (is_separator_malformed s) (is_fill_malformed s) (are_truth_texts_malformed s) (is_nil_malformed s) _ (is_key_malformed s) kept.literals
    where
      last : (a b c d e f g : Bool) → (a || b || c || d || e || (f || g)) ≡ false → f ≡ false
      last a b c d e f g none = grind (arith, none)

  -- the encoding has its characters
  well-encoded : is_delimiter_not_encoded s ≡ false
  well-encoded =
      fifth (is_pad_not_encoded s) (is_separator_not_encoded s) (are_truth_texts_not_encoded s) (is_nil_not_encoded s) _ (is_bytes_encoding_other s) kept.encoded
    where
      fifth : (a b c d e f : Bool) → (a || b || c || d || e || f) ≡ false → e ≡ false
      fifth a b c d e f none = grind (arith, none)

  -- the encoding of a component with a delimiter is told
  some-encoding : is_delimited s ≡ true → is_some (encoding_told (told_at s (codes "encoding"))) ≡ true
  unfolding applicability_table property_table
  some-encoding delimited =
      encoding-told (codes "encoding") _ (built-at s kept 5 (codes "encoding") bearers.DelimitedComponents EveryValue refl delimited _ refl refl)

  -- so a delimiter of it is told
  some-delimiter : (name : List ℕ) (built : Built) → HasNoFlaw (row name (Formed values.LiteralsOrEmpty) (Else (codes ""))) built (told_at s name)
      → is_malformed_text (delimiter_at s name) ≡ false → is_empty_text (delimiter_at s name) ≡ false → is_delimited s ≡ true
      → has_delimiter s name ≡ true → is_some (delimiter_of s name) ≡ true
  some-delimiter name built flawless sound matching delimited has =
      some-delimiting s name (delimiter_at s name) _ (by (is_unframed s.kind) has sound matching) (some-encoding delimited)
    where
      by : (b : Bool) → (not b && is_delimiter (told_at s name)) ≡ true
          → is_malformed_text (if b then Nothing else delimiter_told (told_at s name)) ≡ false
          → is_empty_text (if b then Nothing else delimiter_told (told_at s name)) ≡ false
          → has_literals (if b then Nothing else delimiter_told (told_at s name)) ≡ true
      by true has sound matching = grind (arith, has)
      by false has sound matching = told-literals name built (told_at s name) flawless (alone (is_delimiter (told_at s name)) has) sound matching
        where
          alone : (b : Bool) → (true && b) ≡ true → b ≡ true
          alone b h = grind (arith, h)

  -- a component with fill is no type of a prefix
  framed : (name : List ℕ) → has_delimiter s name ≡ true → not (is_unframed s.kind) ≡ true
  framed name has = first (not (is_unframed s.kind)) (is_delimiter (told_at s name)) has
    where
      first : (a b : Bool) → (a && b) ≡ true → a ≡ true
      first a b h = grind (arith, h)

  initiator-told : has_delimiter s (codes "initiator") ≡ true → is_some (delimiter_of s (codes "initiator")) ≡ true
  unfolding applicability_table property_table
  initiator-told has =
      some-delimiter (codes "initiator") _
      (flawless-by s kept 27 (applies_by (codes "initiator") bearers.FramedComponents EveryValue (word (codes ""))) refl (framed (codes "initiator") has) _ refl)
      (none-of _ _ _ well-formed).0 (none-of _ _ _ kept.delimiters).0 (first (has_delimiter s (codes "initiator")) _ _ has) has
    where
      first : (a b c : Bool) → a ≡ true → (a || b || c) ≡ true
      first a b c h = grind (arith, h)

  terminator-told : has_delimiter s (codes "terminator") ≡ true → is_some (delimiter_of s (codes "terminator")) ≡ true
  unfolding applicability_table property_table
  terminator-told has =
      some-delimiter (codes "terminator") _
      (flawless-by s kept 28 (applies_by (codes "terminator") bearers.FramedComponents EveryValue (word (codes ""))) refl (framed (codes "terminator") has) _ refl)
      (none-of _ _ _ well-formed).1 (none-of _ _ _ kept.delimiters).1 (second (has_delimiter s (codes "initiator")) _ (is_separated s) has) has
    where
      second : (a b c : Bool) → b ≡ true → (a || b || c) ≡ true
      second a b c h = grind (arith, h)

  -- the separator of a sequence is told
  separator-told : is_separated s ≡ true → is_some (separator_of s) ≡ true
  unfolding applicability_table property_table
  separator-told has =
      let parts = both (is_sequence s.kind) (is_delimiter (told_at s (codes "separator"))) has in
      some-separating s (separator_at s) _
      (by (is_sequence s.kind) parts.0 parts.1
      (flawless-by s kept 29 (applies_by (codes "separator") bearers.Sequences EveryValue (word (codes ""))) refl parts.0 _ refl)
      (none-of (is_malformed_text (delimiter_at s (codes "initiator"))) (is_malformed_text (delimiter_at s (codes "terminator"))) (is_malformed_text (separator_at s))
      well-formed).2
      (none-of (is_empty_text (delimiter_at s (codes "initiator"))) (is_empty_text (delimiter_at s (codes "terminator"))) (is_empty_text (separator_at s))
      kept.delimiters).2)
      (some-encoding (third (has_delimiter s (codes "initiator")) (has_delimiter s (codes "terminator")) _ has))
    where
      both : (a b : Bool) → (a && b) ≡ true → (a ≡ true) × (b ≡ true)
      both a b h = (grind (arith, h), grind (arith, h))

      third : (a b c : Bool) → c ≡ true → (a || b || c) ≡ true
      third a b c h = grind (arith, h)

      by : (b : Bool) → b ≡ true → is_delimiter (told_at s (codes "separator")) ≡ true
          → HasNoFlaw (row (codes "separator") (Formed values.LiteralsOrEmpty) (Else (codes ""))) (built_for s.purpose (applies_by (codes "separator") bearers.Sequences EveryValue (word (codes ""))))
          (told_at s (codes "separator"))
          → is_malformed_text (if b then delimiter_told (told_at s (codes "separator")) else Nothing) ≡ false
          → is_empty_text (if b then delimiter_told (told_at s (codes "separator")) else Nothing) ≡ false
          → has_literals (if b then delimiter_told (told_at s (codes "separator")) else Nothing) ≡ true
      by true is told flawless sound matching = told-literals (codes "separator") _ (told_at s (codes "separator")) flawless told sound matching
      by false is told flawless sound matching = grind (arith, is)

-- the initiator of a component without a breach is told for parsing
pub has-initiator : (s : Judged) → first_breach rules s ≡ None → s.purpose ≡ Parsing → IsTrue (has_delimiter s (codes "initiator"))
    → IsSome (delimiters_of s).initiator
has-initiator s none purpose has =
    subst (λ p. is_some (delimiters_for p s).initiator ≡ true) (sym purpose) (initiator-told s (keeps-all s none) has)

-- and so is its terminator
pub has-terminator : (s : Judged) → first_breach rules s ≡ None → s.purpose ≡ Parsing → IsTrue (has_delimiter s (codes "terminator"))
    → IsSome (delimiters_of s).terminator
has-terminator s none purpose has =
    subst (λ p. is_some (delimiters_for p s).terminator ≡ true) (sym purpose) (terminator-told s (keeps-all s none) has)

-- and so is the separator of a sequence
pub has-separator : (s : Judged) → first_breach rules s ≡ None → s.purpose ≡ Parsing → IsTrue (is_separated s) → IsSome (delimiters_of s).separator
has-separator s none purpose has =
    subst (λ p. is_some (delimiters_for p s).separator ≡ true) (sym purpose) (separator-told s (keeps-all s none) has)

-- what is known of the literals of a delimiter that is told
record HasTexts (literals : List (List Piece)) : Type 0 where
  some : 0 < length literals
  matching : matches_nothing literals ≡ false

-- what is known of a text
abbrev IsTexts : DelimiterText → Type 0
IsTexts Nothing = Unit {0}
IsTexts (Literals literals) = HasTexts literals
IsTexts Malformed = Unit {0}
IsTexts Empty = Unit {0}

by-texts : (o : Option (List (List Piece))) → IsTexts (delimiter_by o)
by-texts None = tt
by-texts (Some []) = tt
by-texts (Some (first ∷ others)) = by (matches_nothing (first ∷ others)) refl
  where
    by : (b : Bool) → matches_nothing (first ∷ others) ≡ b → IsTexts (if b then Empty else Literals (first ∷ others))
    by true h = tt
    by false h = record { some = omega arith; matching = h }

told-texts : (t : Told) → IsTexts (delimiter_told t)
told-texts (Value w) = by (is_none w)
  where
    by : (b : Bool) → IsTexts (if b then Nothing else delimiter_by (literals_reading false (chars (literal w))))
    by true = tt
    by false = by-texts (literals_reading false (chars (literal w)))
told-texts Absent = tt
told-texts (Twice place) = tt

at-texts : (s : Judged) (name : List ℕ) → IsTexts (delimiter_at s name)
at-texts s name = by (is_unframed s.kind)
  where
    by : (b : Bool) → IsTexts (if b then Nothing else delimiter_told (told_at s name))
    by true = tt
    by false = told-texts (told_at s name)

separator-texts : (s : Judged) → IsTexts (separator_at s)
separator-texts s = by (is_sequence s.kind)
  where
    by : (b : Bool) → IsTexts (if b then delimiter_told (told_at s (codes "separator")) else Nothing)
    by true = told-texts (told_at s (codes "separator"))
    by false = tt

-- a delimiter has the literals of its text and the encoding of its component
record IsOfText (text : DelimiterText) (e : Option Encoding) (d : Delimiting) : Type 0 where
  text_is : text ≡ Literals d.list.literals
  encoding_is : e ≡ Some d.list.encoding

of-text : (s : Judged) (name : List ℕ) (text : DelimiterText) (e : Option Encoding) (d : Delimiting) → delimiting_by s name text e ≡ Some d → IsOfText text e d
of-text s name Nothing e d is = absurd (none-some _ is)
of-text s name (Literals literals) (Some encoding) d is = record {
  text_is = ap (λ (d : Delimiting). Literals d.list.literals) (some-is _ _ is);
  encoding_is = ap (λ (d : Delimiting). Some d.list.encoding) (some-is _ _ is);
}
of-text s name (Literals literals) None d is = absurd (none-some _ is)
of-text s name Malformed e d is = absurd (none-some _ is)
of-text s name Empty e d is = absurd (none-some _ is)

-- what is known of the literals of each delimiter of a name
of-name : (s : Judged) (name : List ℕ) (d : Delimiting) → delimiter_of s name ≡ Some d → HasTexts d.list.literals
of-name s name d is = subst (λ text. IsTexts text) (of-text s name _ _ d is).text_is (at-texts s name)

-- a separator has the literals of its text and the encoding of its component
record IsSeparatorOfText (text : DelimiterText) (e : Option Encoding) (d : Separating) : Type 0 where
  text_is : text ≡ Literals d.list.literals
  encoding_is : e ≡ Some d.list.encoding

of-separator-text : (s : Judged) (text : DelimiterText) (e : Option Encoding) (d : Separating) → separating_by s text e ≡ Some d → IsSeparatorOfText text e d
of-separator-text s Nothing e d is = absurd (none-some _ is)
of-separator-text s (Literals literals) (Some encoding) d is = record {
  text_is = ap (λ (d : Separating). Literals d.list.literals) (some-is _ _ is);
  encoding_is = ap (λ (d : Separating). Some d.list.encoding) (some-is _ _ is);
}
of-separator-text s (Literals literals) None d is = absurd (none-some _ is)
of-separator-text s Malformed e d is = absurd (none-some _ is)
of-separator-text s Empty e d is = absurd (none-some _ is)

-- a separator is one for parsing
parsed-separator : (s : Judged) (d : Separating) (purpose : Purpose) → (delimiters_for purpose s).separator ≡ Some d → separator_of s ≡ Some d
parsed-separator s d Parsing is = is
parsed-separator s d Unparsing is = absurd (none-some _ is)

-- a separator has literals
separator-of-texts : (s : Judged) (d : Separating) → IsSeparatorOf s d → HasTexts d.list.literals
separator-of-texts s d is =
    subst (λ text. IsTexts text) (of-separator-text s _ _ d (parsed-separator s d s.purpose is)).text_is (separator-texts s)

pub some-separator-texts : (s : Judged) (d : Separating) → IsSeparatorOf s d → 0 < length d.list.literals
some-separator-texts s d is = (separator-of-texts s d is).some

-- none of which can match nothing
pub matching-separator-texts : (s : Judged) (d : Separating) → IsSeparatorOf s d → matches_nothing d.list.literals ≡ false
matching-separator-texts s d is = (separator-of-texts s d is).matching

-- a sequence alone has one
pub of-sequence : (s : Judged) (d : Separating) → IsSeparatorOf s d → IsTrue (is_sequence s.kind)
of-sequence s d is = by (is_sequence s.kind) (parsed-separator s d s.purpose is)
  where
    by : (b : Bool) → separating_by s (if b then delimiter_told (told_at s (codes "separator")) else Nothing) (encoding_told (told_at s (codes "encoding"))) ≡ Some d
        → IsTrue b
    by true is = refl
    by false is = absurd (none-some _ is)

-- whether it is an initiator or a terminator, it is one for parsing
by-purpose : (s : Judged) (d : Delimiting) (P : Type 0) → ((name : List ℕ) → delimiter_of s name ≡ Some d → P) → (purpose : Purpose)
    → ((delimiters_for purpose s).initiator ≡ Some d) ⊎ ((delimiters_for purpose s).terminator ≡ Some d) → P
by-purpose s d P go Parsing (inl is) = go (codes "initiator") is
by-purpose s d P go Parsing (inr is) = go (codes "terminator") is
by-purpose s d P go Unparsing (inl is) = absurd (none-some _ is)
by-purpose s d P go Unparsing (inr is) = absurd (none-some _ is)

-- a delimiter has literals
pub some-texts : (s : Judged) (d : Delimiting) → IsDelimiterOf s d → 0 < length d.list.literals
some-texts s d is = (by-purpose s d (HasTexts d.list.literals) (λ name is. of-name s name d is) s.purpose is).some

-- none of which can match nothing
pub matching-texts : (s : Judged) (d : Delimiting) → IsDelimiterOf s d → matches_nothing d.list.literals ≡ false
matching-texts s d is = (by-purpose s d (HasTexts d.list.literals) (λ name is. of-name s name d is) s.purpose is).matching

-- for unparsing there is none
pub no-delimiter : (s : Judged) → s.purpose ≡ Unparsing → delimiters_of s ≡ no_delimiters
no-delimiter s purpose = ap (λ p. delimiters_for p s) purpose

-- the encoding of a component without a breach has the characters of its delimiters
pub in-encoding : (s : Judged) (d : Delimiting) → first_breach rules s ≡ None → IsDelimiterOf s d → lacks_literals (Some d.list.encoding) d.list.literals ≡ false
in-encoding s d none is = by s.purpose is
  where
    encoded : is_delimiter_not_encoded s ≡ false
    encoded = well-encoded s (keeps-all s none)

    here : (name : List ℕ) → delimiter_of s name ≡ Some d → lacks_text (encoding_told (told_at s (codes "encoding"))) (delimiter_at s name) ≡ false
        → lacks_literals (Some d.list.encoding) d.list.literals ≡ false
    here name is has =
        let of = of-text s name _ _ d is in
        sym (ap (λ e. lacks_text e (Literals d.list.literals)) of.encoding_is)
        ∙ (sym (ap (lacks_text (encoding_told (told_at s (codes "encoding")))) of.text_is) ∙ has)

    by : (purpose : Purpose) → ((delimiters_for purpose s).initiator ≡ Some d) ⊎ ((delimiters_for purpose s).terminator ≡ Some d)
        → lacks_literals (Some d.list.encoding) d.list.literals ≡ false
    by Parsing (inl is) = here (codes "initiator") is (none-of _ _ _ encoded).0
    by Parsing (inr is) = here (codes "terminator") is (none-of _ _ _ encoded).1
    by Unparsing (inl is) = absurd (none-some _ is)
    by Unparsing (inr is) = absurd (none-some _ is)

-- and those of its separator
pub separator-in-encoding : (s : Judged) (d : Separating) → first_breach rules s ≡ None → IsSeparatorOf s d
    → lacks_literals (Some d.list.encoding) d.list.literals ≡ false
separator-in-encoding s d none is =
    let of = of-separator-text s _ _ d (parsed-separator s d s.purpose is) in
    let encoding : Option Encoding = encoding_told (told_at s (codes "encoding")) in
    let has : lacks_text encoding (separator_at s) ≡ false
    = (none-of (lacks_text encoding (delimiter_at s (codes "initiator"))) (lacks_text encoding (delimiter_at s (codes "terminator"))) (lacks_text encoding (separator_at s))
    (well-encoded s (keeps-all s none))).2 in
    sym (ap (λ e. lacks_text e (Literals d.list.literals)) of.encoding_is)
    ∙ (sym (ap (lacks_text (encoding_told (told_at s (codes "encoding")))) of.text_is) ∙ has)
